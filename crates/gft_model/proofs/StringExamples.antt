-- Worked examples of strings: `Dup A` is `a a` or `b b`.
use Rattle.std.specs.Prelude.{◌≡◌, ◌⊎◌, ℕ, zero, suc, Bool, true, false, List, [], ◌∷◌, codes, Contains, Option, Some, None, slice_get, slice_index_or}
use Rattle.std.specs.Str.{bytes_eq}
use Rattle.std.proofs.Common.{refl, sym, ap, ◌∙◌, subst, arith, inl, inr, ⊎_elim}
use Rattle.gft_core.specs.declared.symbol.Sym.{Sym}
use Rattle.gft_core.specs.declared.symbol.Sym.TheVariants.{Tok, Arg}
use Rattle.gft_core.specs.declared.tree.Tree.{Tree, App}
use Rattle.gft_core.specs.declared.tree.Tree.TheVariants.{outs-App}
use Rattle.gft_pmcfg.specs.declared.signature.Fun.{Fun}
use Rattle.gft_pmcfg.specs.declared.concrete.Prod.{Prod}
use Rattle.gft_pmcfg.specs.declared.concrete.Ref.{Ref}
use Rattle.gft_model.specs.Trees.{IsHole}
use Rattle.gft_model.specs.Brackets.{Piece, erased}
use Rattle.gft_model.specs.Runs.{Strings, IsRef, listed, of_literals, applied, filled}
use Rattle.gft_model.specs.RunStrings.{HasValue, HaveValues, application, none, more, IsBracketedString, IsStringOf}
use Rattle.gft_model.proofs.RunLemmas.{Gives, gives, only_value, no_values}
use Rattle.gft_model.proofs.Grammars.{twice, twice_eng, whole}

abbrev pub a : Tree
a = App (codes "A") []

abbrev pub dup_a : Tree
dup_a = App (codes "Dup") (a ∷ [])

-- a value of `A` at a position: one of its two words
abbrev pub word_at : List ℕ → List ℕ → Strings
word_at p w = applied p [] ((Tok w ∷ []) ∷ [])

pub a_is_a : (p : List ℕ) → HasValue twice twice_eng p a 3 (word_at p (codes "a"))
a_is_a p = application (outs-App _ _) (0, omega arith, refl) refl none

pub a_is_b : (p : List ℕ) → HasValue twice twice_eng p a 3 (word_at p (codes "b"))
a_is_b p = application (outs-App _ _) (1, omega arith, refl) refl none

-- the components of `Dup A` where `A` has these
abbrev pub doubled : Strings → Strings
doubled v = applied [] (v ∷ []) ((Arg 0 0 ∷ Arg 0 0 ∷ []) ∷ [])

-- an application is no hole
pub not_a_hole : (k : ℕ) → ¬ IsHole dup_a k
not_a_hole k h = let e = outs-App (codes "Dup") (a ∷ []) in cc

pub string_with : (v : Strings) → HasValue twice twice_eng (1 ∷ []) a 3 v
    → IsBracketedString twice twice_eng 2 dup_a (filled (doubled v ∷ []) whole)
string_with v d = record {
  nonterminal = 2;
  components = doubled v;
  value = application (outs-App _ _) (2, omega arith, refl) refl (more d none);
  category = λ k h. absurd (not_a_hole k h);
  seq = whole;
  ref = listed (0, omega arith, refl);
  string = refl;
}

pub a_a_is_string : IsStringOf twice twice_eng 2 dup_a (codes "a" ∷ codes "a" ∷ [])
a_a_is_string = (_, string_with _ (a_is_a (1 ∷ [])), refl)

pub b_b_is_string : IsStringOf twice twice_eng 2 dup_a (codes "b" ∷ codes "b" ∷ [])
b_b_is_string = (_, string_with _ (a_is_b (1 ∷ [])), refl)

-- all refs of the grammar take the one component
only_ref : {n : ℕ} {seq : List Sym} → IsRef twice_eng n seq → seq ≡ whole
only_ref (listed (zero, b, e)) = sym (ap (λ (r : Ref). r.seq) e)
only_ref (listed (suc zero, b, e)) = sym (ap (λ (r : Ref). r.seq) e)
only_ref (listed (suc (suc k), b, e)) = absurd (omega (arith, b))
only_ref (of_literals b) = refl

-- the words of two
abbrev first_is_a : List (List ℕ) → Bool
first_is_a ws = bytes_eq (slice_index_or ws 0 []) (codes "a")

abbrev second_is_a : List (List ℕ) → Bool
second_is_a ws = bytes_eq (slice_index_or ws 1 []) (codes "a")

-- the production of `Dup`, and one of `A` with its word
abbrev dup_prod : Prod
dup_prod = record { fun = 1; args = 3 ∷ []; result = 2; seqs = (Arg 0 0 ∷ Arg 0 0 ∷ []) ∷ [] }

abbrev a_prod : List ℕ → Prod
a_prod w = record { fun = 0; args = []; result = 3; seqs = (Tok w ∷ []) ∷ [] }

-- whether there is a function and it has the name
abbrev is_named : List ℕ → Option Fun → Bool
is_named name None = false
is_named name (Some f) = bytes_eq f.name name

-- the production's function has the name that is asked for
named : (name : List ℕ) (prod : Prod) (f : Fun) → bytes_eq name name ≡ true
    → slice_get twice.funs prod.fun ≡ Some f → f.name ≡ name
    → is_named name (slice_get twice.funs prod.fun) ≡ true
named name prod f r o n = ap (is_named name) o ∙ ap (λ (m : List ℕ). bytes_eq m name) n ∙ r

of_dup : (prod : Prod) → Contains twice_eng.prods prod
    → is_named (codes "Dup") (slice_get twice.funs prod.fun) ≡ true → prod ≡ dup_prod
of_dup prod (zero, b, e) n = let wrong : false ≡ true =
    subst (λ (q : Prod). is_named (codes "Dup") (slice_get twice.funs q.fun) ≡ true) (sym e) n in cc
of_dup prod (suc zero, b, e) n = let wrong : false ≡ true =
    subst (λ (q : Prod). is_named (codes "Dup") (slice_get twice.funs q.fun) ≡ true) (sym e) n in cc
of_dup prod (suc (suc zero), b, e) n = sym e
of_dup prod (suc (suc (suc k)), b, e) n = absurd (omega (arith, b))

of_a : (prod : Prod) → Contains twice_eng.prods prod
    → is_named (codes "A") (slice_get twice.funs prod.fun) ≡ true
    → (prod ≡ a_prod (codes "a")) ⊎ (prod ≡ a_prod (codes "b"))
of_a prod (zero, b, e) n = inl (sym e)
of_a prod (suc zero, b, e) n = inr (sym e)
of_a prod (suc (suc zero), b, e) n = let wrong : false ≡ true =
    subst (λ (q : Prod). is_named (codes "A") (slice_get twice.funs q.fun) ≡ true) (sym e) n in cc
of_a prod (suc (suc (suc k)), b, e) n = absurd (omega (arith, b))

-- a constant's components are those of its production
constant_gives : {p : List ℕ} {n : ℕ} {v : Strings} (w : List ℕ) (g : Gives twice twice_eng p
    (codes "A") [] n v) → g.prod ≡ a_prod w → v ≡ word_at p w
constant_gives {p} w g e =
    let none_given : g.args ≡ [] = no_values g.arguments in
    g.components ∙ ap (λ (args : List Strings). applied p args g.prod.seqs) none_given
    ∙ ap (λ (q : Prod). applied p [] q.seqs) e

pub a_gives : {p : List ℕ} {n : ℕ} {v : Strings} → HasValue twice twice_eng p a n v
    → (v ≡ word_at p (codes "a")) ⊎ (v ≡ word_at p (codes "b"))
a_gives {p} {n} {v} d =
    let g = gives (codes "A") [] (outs-App _ _) d in
    ⊎_elim {C = (v ≡ word_at p (codes "a")) ⊎ (v ≡ word_at p (codes "b"))} (λ e. inl (constant_gives
    (codes "a") g e)) (λ e. inr (constant_gives (codes "b") g e))
    (of_a g.prod g.listed (named (codes "A") g.prod g.function refl g.of_function g.name))

-- each string of `Dup A` doubles one value of `A`
pub dup_gives : {b : List Piece} → IsBracketedString twice twice_eng 2 dup_a b
    → (v : Strings) × HasValue twice twice_eng (1 ∷ []) a 3 v × (b ≡ filled (doubled v ∷ []) whole)
dup_gives s =
    let g = gives (codes "Dup") (a ∷ []) (outs-App _ _) s.value in
    let prod = of_dup g.prod g.listed (named (codes "Dup") g.prod g.function refl g.of_function g.name) in
    let args : HaveValues twice twice_eng [] 0 (a ∷ []) (3 ∷ []) g.args =
    subst (λ (q : Prod). HaveValues twice twice_eng [] 0 (a ∷ []) q.args g.args) prod g.arguments in
    let one = only_value args in
    let components : s.components ≡ doubled one.0
    = g.components ∙ ap (λ (vs : List Strings). applied [] vs g.prod.seqs) one.2
    ∙ ap (λ (q : Prod). applied [] (one.0 ∷ []) q.seqs) prod in (
      one.0,
      one.1,
      s.string ∙ ap (λ (vs : Strings). filled (vs ∷ []) s.seq) components
          ∙ ap (λ (seq : List Sym). filled (doubled one.0 ∷ []) seq) (only_ref s.ref),
    )

-- so a copied argument is not read twice independently
a_b_is_no_string : ¬ IsStringOf twice twice_eng 2 dup_a (codes "a" ∷ codes "b" ∷ [])
a_b_is_no_string s =
    let d = dup_gives s.1 in
    let words : erased (filled (doubled d.0 ∷ []) whole) ≡ codes "a" ∷ codes "b" ∷ [] =
    ap erased (sym d.2) ∙ s.2 in
    let same : (v : Strings) → d.0 ≡ v → erased (filled (doubled v ∷ []) whole) ≡ codes "a" ∷ codes "b" ∷ []
    = λ v e. subst (λ (u : Strings). erased (filled
    (doubled u ∷ []) whole) ≡ codes "a" ∷ codes "b" ∷ []) e words in
    ⊎_elim {C = ⊥}
    (λ e. let wrong : false ≡ true = sym (ap second_is_a (same _ e)) in cc)
    (λ e. let wrong : false ≡ true = ap first_is_a (same _ e) in cc)
    (a_gives d.1)
