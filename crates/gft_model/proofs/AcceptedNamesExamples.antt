-- A worked example of names that are accepted: abstract E = {cat S ;}, concrete EEng of E = {lincat S = {s : Str} ;}.
use Rattle.std.proofs.Common.{◌≡◌, ap, sym, ◌∙◌, refl, ℕ, zero, suc, Bool, List, [], ◌∷◌, Option, subst, arith, ◌⊎◌, inl, inr}
use Rattle.std.specs.Prelude.{codes, flat_map, option_to_list, Contains}
use Rattle.gft_core.specs.declared.place.Place.{Place}
use Rattle.gft_rules.specs.declared.rule.Rule.{Rule}
use Rattle.gft_syntax.specs.declared.judgement.Judgement.{Judgement}
use Rattle.gft_syntax.specs.declared.judgement.Judgement.TheVariants as J
use Rattle.gft_syntax.specs.declared.judgement.Keyword.TheVariants as K
use Rattle.gft_syntax.specs.declared.module.Header.TheVariants.{Abstract, Concrete}
use Rattle.gft_syntax.specs.declared.module.Module.{Module}
use Rattle.gft_syntax.specs.declared.module.Rest.TheVariants.{Own}
use Rattle.gft_syntax.specs.declared.pattern.Pattern.{Pattern}
use Rattle.gft_syntax.specs.declared.reference.PlacedName.{PlacedName}
use Rattle.gft_syntax.specs.declared.term.Local.TheVariants.{Label}
use Rattle.gft_syntax.specs.declared.term.Sort.{Sort}
use Rattle.gft_syntax.specs.declared.term.Sort.TheVariants as Sort-V
use Rattle.gft_syntax.specs.declared.term.Term.{Term, roll-Term, out-Term}
use Rattle.gft_syntax.specs.declared.term.Term.TheOpen as T
use Rattle.gft_syntax.specs.declared.term.Term.TheViews.{out-roll-Term}
use Rattle.gft_syntax.specs.Parts.{Part, parts, patterns_in, judgement_parts}
use Rattle.gft_syntax.specs.Terms.{Layer}
use Rattle.gft_model.specs.Flats.{IsOf}
use Rattle.gft_model.specs.Modules.{declares, own, own_text, header_mentions, judgements_of, placed_names}
use Rattle.gft_model.specs.NameFaults
use Rattle.gft_model.specs.NameFaults.{scoped_parts}
use Rattle.gft_model.specs.Resolution.{Locals}

-- the only element of a list of one, and that an empty list has none
pub one_of : {A : Type 0} {x y : A} → Contains (x ∷ []) y → x ≡ y
one_of (zero, b, h) = h
one_of (suc k, b, h) = absurd (omega (arith, b))

pub none_of : {A : Type 0} {y : A} → Contains {X = A} [] y → ⊥
none_of (k, b, h) = omega (arith, b)

abbrev pub named : ℕ → ℕ → List ℕ → PlacedName
named file col x = record { name = x; place = record { file = file; line = 1; col = col } }

-- abstract E = {cat S ;}, in the file of that number
abbrev pub abstract_e : ℕ → Module
abstract_e file = record {
  header = Abstract (named file 10 (codes "E"));
  rest = Own [] (record { opened = []; judgements = J.Cat (named file 19 (codes "S")) [] ∷ [] });
}

-- {s : Str}
abbrev pub str_layer : Layer
str_layer = T.Sort Sort-V.Str (record { file = 0; line = 1; col = 39 })

abbrev pub type_layer : Layer
type_layer = T.Fields (Label (codes "s" ∷ []) (roll-Term str_layer) ∷ []) (record { file = 0; line = 1; col = 34 })

-- concrete EEng of E = {lincat S = {s : Str} ;}, and in the same way with another category
abbrev pub lincat_of : List ℕ → Judgement
lincat_of C = J.Lincat (named 0 30 C ∷ []) (roll-Term type_layer)

abbrev pub concrete_of : List ℕ → Module
concrete_of C = record {
  header = Concrete (named 0 10 (codes "EEng")) (named 0 18 (codes "E"));
  rest = Own [] (record { opened = []; judgements = lincat_of C ∷ [] });
}

abbrev pub e_eng : Module
e_eng = concrete_of (codes "S")

abbrev pub mods : List Module
mods = abstract_e 1 ∷ e_eng ∷ []

-- E has the category
pub is_of_e : IsOf mods (codes "E") (codes "S") (lincat_of (codes "S"))
is_of_e = (
  K.Lincat,
  own (codes "E") 0,
  J.Cat (named 1 19 (codes "S")) [],
  refl,
  declares 0 refl refl (0, omega arith, refl),
  own_text 0 refl refl,
  refl,
)

-- Str is neither Ints nor Predef
not_a_word : {s : Sort} {w : List ℕ} {p : Place} → str_layer ≡ T.Sort s p →
    Contains {X = Sort × List ℕ} ((Sort-V.Ints, codes "Ints") ∷ (Sort-V.Predef, codes "Predef") ∷ []) (s, w) → ⊥
not_a_word h (zero, b, e) = let same = ap (λ (q : Sort × List ℕ). q.0) e in cc
not_a_word h (suc zero, b, e) = let same = ap (λ (q : Sort × List ℕ). q.0) e in cc
not_a_word h (suc (suc k), b, e) = omega (arith, b)

module _ (is_constructor : List ℕ → Bool) where
  -- the terms of its judgement are {s : Str} and Str
  term_is : {xs : Locals} {b : Bool} {e : Term} → NameFaults.Within mods e_eng is_constructor xs b e →
      (out-Term e ≡ type_layer) ⊎ (out-Term e ≡ str_layer)
  term_is (NameFaults.in_judgement {j} {p} c d) =
      let there = subst (λ i. Contains (scoped_parts i) p) (sym (one_of c)) d in
      inl (ap (λ (q : Part Term). out-Term q.part) (sym (one_of there)) ∙ out-roll-Term type_layer)
  term_is (NameFaults.in_term {e} {p} w n c) = below (term_is w) where
    below : (out-Term e ≡ type_layer) ⊎ (out-Term e ≡ str_layer) → (out-Term p.part ≡ type_layer) ⊎ (out-Term p.part ≡ str_layer)
    below (inl h) =
        let there = subst (λ d. Contains (parts d) p) h c in
        inr (ap (λ (q : Part Term). out-Term q.part) (sym (one_of there)) ∙ out-roll-Term str_layer)
    below (inr h) = absurd (none_of (subst (λ d. Contains (parts d) p) h c))

  -- neither is a name, nor of the forms that name something
  no_form : {xs : Locals} {b : Bool} {e : Term} {d : Layer} → NameFaults.Within mods e_eng is_constructor xs b e →
      out-Term e ≡ d →
      (type_layer ≡ d → ⊥) → (str_layer ≡ d → ⊥) → ⊥
  no_form {e = e} {d = d} w h f g = of (term_is w) where
    of : (out-Term e ≡ type_layer) ⊎ (out-Term e ≡ str_layer) → ⊥
    of (inl i) = f (sym i ∙ h)
    of (inr i) = g (sym i ∙ h)

  no_list_category : {n : PlacedName} {r : _} {k : ℕ} {p : Place} → Contains (judgements_of e_eng) (J.ListCat n r k p) → ⊥
  no_list_category c = let same = one_of c in cc

  not_dotted : {Q x : PlacedName} → NameFaults.IsDotted mods e_eng is_constructor Q x → ⊥
  not_dotted (xs, b, e, q, w, h, i, l) = no_form w h (λ j. cc) (λ j. cc)

  uses_none : {q : Option (List ℕ)} {n : PlacedName} → NameFaults.Uses mods e_eng is_constructor q n → ⊥
  uses_none (NameFaults.alone w h l) = no_form w h (λ j. cc) (λ j. cc)
  uses_none (NameFaults.in_brackets w h) = no_form w h (λ j. cc) (λ j. cc)
  uses_none (NameFaults.of_elements c) = no_list_category c
  uses_none (NameFaults.before_dot d o) = not_dotted d
  uses_none (NameFaults.after_dot d o) = not_dotted d

  -- no branch has a pattern
  no_pattern : {xs : Locals} {p : Pattern} → NameFaults.HasPattern mods e_eng is_constructor xs p → ⊥
  no_pattern {p = p} (b, e, c, w, d, i) = of (term_is w) where
    of : (out-Term e ≡ type_layer) ⊎ (out-Term e ≡ str_layer) → ⊥
    of (inl h) =
        let same = one_of (subst (λ l. Contains (parts l) c) h d) in
        none_of (subst (λ (q : Part Term). Contains (flat_map patterns_in (option_to_list q.pattern)) p) (sym same) i)
    of (inr h) = none_of (subst (λ l. Contains (parts l) c) h d)

  in_pattern_none : {xs : Locals} {b : Bool} {q : Option (List ℕ)} {x : List ℕ} {p : Place} →
      NameFaults.InPattern mods e_eng is_constructor xs b q x p → ⊥
  in_pattern_none (NameFaults.bare h e) = no_pattern h
  in_pattern_none (NameFaults.head h e) = no_pattern h

  -- its one name is that of a category of E
  abstract_has : {j : Judgement} {A n : PlacedName} → Contains (judgements_of e_eng) j → Contains (placed_names j) n →
      Contains (header_mentions e_eng.header) A → IsOf mods A.name n.name j
  abstract_has {j} {A} {n} c d a =
      let judgement = one_of c in
      let name = one_of (subst (λ i. Contains (placed_names i) n) (sym judgement) d) in
      let abstract = one_of a in
      subst (λ (B : PlacedName). IsOf mods B.name n.name j) abstract
      (subst (λ (x : PlacedName). IsOf mods (codes "E") x.name j) name (subst (IsOf mods (codes "E")
      (codes "S")) judgement is_of_e))

  -- so nothing is broken in its names
  pub no_name_broken : (rule : Rule) (n : PlacedName) (ms : List PlacedName) →
      ¬ (NameFaults.BreaksNames mods e_eng is_constructor rule n ms)
  no_name_broken rule n ms (NameFaults.means_nothing u s b) = uses_none u
  no_name_broken rule n ms (NameFaults.no_constructor i m) = in_pattern_none i
  no_name_broken rule n ms (NameFaults.variable_as_type a w h l) = no_form w h (λ j. cc) (λ j. cc)
  no_name_broken rule n ms (NameFaults.word_alone w h c) = no_form w h (λ j. cc) (λ j. not_a_word j c)
  no_name_broken rule n ms (NameFaults.abstract_lacks c d s a i) = i (abstract_has c d a)
  no_name_broken rule n ms (NameFaults.ambiguous_use u c) = uses_none u
  no_name_broken rule n ms (NameFaults.ambiguous_constructor i m c) = in_pattern_none i
  no_name_broken rule n ms (NameFaults.bound_twice b a h e c) = no_pattern h
  no_name_broken rule n ms (NameFaults.bound_on_one_side h e c d f g) = no_pattern h
  no_name_broken rule n ms (NameFaults.bound_in_star h e c) = no_pattern h
