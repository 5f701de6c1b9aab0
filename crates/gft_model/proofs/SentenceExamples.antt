-- Worked examples of sentences: in Dead only `yes` may begin a sentence.
use Rattle.std.specs.Prelude.{◌≡◌, ℕ, zero, suc, Bool, true, false, List, [], ◌∷◌, ◌++◌, map, codes, Contains, Option, Some, None, slice_get, slice_index_or}
use Rattle.std.specs.Str.{bytes_eq}
use Rattle.std.proofs.Common.{inl, inr, refl, sym, ap, ◌∙◌, subst, arith}
use Rattle.gft_core.specs.declared.symbol.Sym.{Sym}
use Rattle.gft_core.specs.declared.symbol.Sym.TheVariants.{Tok}
use Rattle.gft_core.specs.declared.tree.Tree.{Tree, App}
use Rattle.gft_core.specs.declared.tree.Tree.TheVariants.{outs-App}
use Rattle.gft_pmcfg.specs.declared.signature.Fun.{Fun}
use Rattle.gft_pmcfg.specs.declared.concrete.Prod.{Prod}
use Rattle.gft_pmcfg.specs.declared.concrete.Ref.{Ref}
use Rattle.gft_model.specs.Trees.{IsHole, IsApplication}
use Rattle.gft_model.specs.Skeleton.{HasSkeletonType, HaveSkeletonTypes, hole, integer, text, application, none, more, categories_of}
use Rattle.gft_model.specs.Brackets.{Mark, grammar, Piece, marked, erased}
use Rattle.gft_model.specs.Runs.{Strings, IsRef, listed, of_literals, applied, filled}
use Rattle.gft_model.specs.RunStrings as strings
use Rattle.gft_model.specs.RunStrings.{HasValue, IsBracketedString}
use Rattle.gft_model.specs.Listing.{Language}
use Rattle.gft_model.specs.Sentences.{IsSentence, Begins, IsNext}
use Rattle.gft_model.proofs.RunLemmas.{gives, no_values}
use Rattle.gft_model.proofs.Grammars.{dead, dead_eng, whole}

-- the language of S
abbrev pub language : Language
language t b = IsBracketedString dead dead_eng 3 t b

abbrev pub h : Tree
h = App (codes "h") []

abbrev pub h_gives : Strings
h_gives = applied [] [] ((Tok (codes "yes") ∷ []) ∷ [])

h_is_s : HasSkeletonType dead [] h 3
h_is_s = application (2, omega arith, refl) (outs-App _ _) none

h_is_no_hole : (k : ℕ) → ¬ IsHole h k
h_is_no_hole k e = let layers = outs-App (codes "h") [] in cc

pub h_string : language h (filled (h_gives ∷ []) whole)
h_string = record {
  nonterminal = 3;
  components = h_gives;
  value = strings.HasValue.application (outs-App _ _) (2, omega arith, refl) refl strings.none;
  category = λ k e. absurd (h_is_no_hole k e);
  seq = whole;
  ref = listed (1, omega arith, refl);
  string = refl;
}

pub yes_is_sentence : IsSentence dead language 3 (codes "yes" ∷ [])
yes_is_sentence = record { tree = h; of_category = h_is_s; string = _; of_tree = h_string; words_are = refl }

pub yes_is_next : IsNext dead language 3 [] grammar (codes "yes")
unfolding yes_is_sentence
yes_is_next = record {
  whole = codes "yes" ∷ [];
  sentence = yes_is_sentence;
  before = [];
  after = [];
  parts = refl;
  begins = refl;
}

mutual
  -- D has no closed trees
  no_d : {t : Tree} {c : ℕ} → HasSkeletonType dead [] t c → c ≡ 2 → ⊥
  no_d (hole h b (k, l, m)) e = absurd (omega (arith, l))
  no_d (integer h b) e = absurd (omega (arith, e))
  no_d (text h b) e = absurd (omega (arith, e))
  no_d (application (zero, b, m) h ds) e = absurd (omega (arith, ap (λ (f : Fun). f.result.cat) m, e))
  no_d (application (suc zero, b, m) h ds) e = no_ds ds (sym (ap categories_of m))
  no_d (application (suc (suc zero), b, m) h ds) e = absurd (omega (arith, ap (λ (f : Fun). f.result.cat) m, e))
  no_d (application (suc (suc (suc k)), b, m) h ds) e = absurd (omega (arith, b))

  no_ds : {ts : List Tree} {cs : List ℕ} → HaveSkeletonTypes dead [] ts cs → cs ≡ 2 ∷ [] → ⊥
  no_ds none e = cc
  no_ds (more d ds) e = no_d d cc

no_arguments : {ts : List Tree} {cs : List ℕ} → HaveSkeletonTypes dead [] ts cs → cs ≡ [] → ts ≡ []
no_arguments none e = refl
no_arguments (more d ds) e = cc

-- the only closed tree of S is `h`
pub only_h : {t : Tree} {c : ℕ} → HasSkeletonType dead [] t c → c ≡ 3 → IsApplication t (codes "h") []
only_h (hole h b (k, l, m)) e = absurd (omega (arith, l))
only_h (integer h b) e = absurd (omega (arith, e))
only_h (text h b) e = absurd (omega (arith, e))
only_h (application (zero, b, m) h ds) e = absurd (no_ds ds (sym (ap categories_of m)))
only_h (application (suc zero, b, m) h ds) e = absurd (omega (arith, ap (λ (f : Fun). f.result.cat) m, e))
only_h (application (suc (suc zero), b, m) h ds) e =
    let name = ap (λ (f : Fun). f.name) m in
    let nothing = no_arguments ds (sym (ap categories_of m)) in cc
only_h (application (suc (suc (suc k)), b, m) h ds) e = absurd (omega (arith, b))

-- whether there is a function and it is `h`
abbrev is_h : Option Fun → Bool
is_h None = false
is_h (Some f) = bytes_eq f.name (codes "h")

of_h : (prod : Prod) → Contains dead_eng.prods prod → is_h (slice_get dead.funs prod.fun) ≡ true
    → prod.seqs ≡ (Tok (codes "yes") ∷ []) ∷ []
of_h prod (zero, b, e) n = let wrong : false ≡ true =
    subst (λ (q : Prod). is_h (slice_get dead.funs q.fun) ≡ true) (sym e) n in cc
of_h prod (suc zero, b, e) n = let wrong : false ≡ true =
    subst (λ (q : Prod). is_h (slice_get dead.funs q.fun) ≡ true) (sym e) n in cc
of_h prod (suc (suc zero), b, e) n = ap (λ (q : Prod). q.seqs) (sym e)
of_h prod (suc (suc (suc k)), b, e) n = absurd (omega (arith, b))

only_ref : {n : ℕ} {seq : List Sym} → IsRef dead_eng n seq → seq ≡ whole
only_ref (listed (zero, b, e)) = sym (ap (λ (r : Ref). r.seq) e)
only_ref (listed (suc zero, b, e)) = sym (ap (λ (r : Ref). r.seq) e)
only_ref (listed (suc (suc k), b, e)) = absurd (omega (arith, b))
only_ref (of_literals b) = refl

-- a string of a closed tree of S is that of `h`
pub only_yes : {t : Tree} {b : List Piece} → HasSkeletonType dead [] t 3 → language t b
    → b ≡ filled (h_gives ∷ []) whole
only_yes d s =
    let g = gives (codes "h") [] (only_h d refl) s.value in
    let is : is_h (slice_get dead.funs g.prod.fun) ≡ true = ap is_h g.of_function
    ∙ ap (λ (n : List ℕ). bytes_eq n (codes "h")) g.name in
    let components : s.components ≡ h_gives
    = g.components ∙ ap (λ (vs : List Strings). applied [] vs g.prod.seqs) (no_values g.arguments)
    ∙ ap (λ (qs : List (List Sym)). applied [] [] qs) (of_h g.prod g.listed is) in
    s.string ∙ ap (λ (vs : Strings). filled (vs ∷ []) s.seq) components
    ∙ ap (λ (seq : List Sym). filled (h_gives ∷ []) seq) (only_ref s.ref)

-- the first of the marked words, or one that is none
abbrev pub first_of : List (Mark × List ℕ) → Mark × List ℕ
first_of ws = slice_index_or ws 0 (grammar, [])

-- no words have no marks
pub no_words : (ws : List (Mark × List ℕ)) → map (λ (w : Mark × List ℕ). w.1) ws ≡ [] → ws ≡ []
no_words [] e = refl
no_words (w ∷ ws) e = cc

-- what may stand first is `yes`
pub only_first : {mark : Mark} {w : List ℕ} → IsNext dead language 3 [] mark w
    → ◌≡◌ {A = Mark × List ℕ} (grammar, codes "yes") (mark, w)
only_first {mark} {w} s =
    let words : marked (filled (h_gives ∷ []) whole) ≡ s.before ++ (mark, w) ∷ s.after =
    ap marked (sym (only_yes s.sentence.of_category s.sentence.of_tree)) ∙ s.parts in
    ap first_of words
    ∙ ap (λ (ws : List (Mark × List ℕ)). first_of (ws ++ (mark, w) ∷ s.after)) (no_words s.before s.begins)

-- a word that leads only to a category without trees may not stand next
no_is_not_next : ¬ IsNext dead language 3 [] grammar (codes "no")
no_is_not_next s =
    let wrong : true ≡ false = ap (λ (w : Mark × List ℕ). bytes_eq w.1 (codes "yes")) (only_first s) in cc

-- no words that begin with it are a sentence
no_begins_nothing : ¬ Begins dead language 3 (codes "no" ∷ [])
no_begins_nothing (inl e) = cc
no_begins_nothing (inr (rest, s)) =
    let words : codes "yes" ∷ [] ≡ codes "no" ∷ rest = ap erased (sym (only_yes s.of_category s.of_tree)) ∙ s.words_are in
    let wrong : true ≡ false = ap (λ (ws : List (List ℕ)). bytes_eq (slice_index_or ws 0 []) (codes "yes")) words in cc
