-- Faults of names: what means nothing, what means two things, and variables of patterns.
use Rattle.std.specs.Prelude.{◌≡◌, ◌↔◌, ℕ, List, [], ◌∷◌, ◌++◌, map, flat_map, Bool, true, false, not, ◌||◌, codes, Contains, Option, Some, None, ◌≢◌, option_to_list, unwrap_or, if◌then◌else◌}
use Rattle.gft_core.specs.declared.place.Place.{Place}
use Rattle.gft_rules.specs.declared.rule.Rule.{Rule}
use Rattle.gft_rules.specs.declared.rule.Rule.TheVariants as R
use Rattle.gft_syntax.specs.declared.judgement.Judgement.{Judgement}
use Rattle.gft_syntax.specs.declared.judgement.Judgement.TheVariants as J
use Rattle.gft_syntax.specs.declared.module.Module.{Module}
use Rattle.gft_syntax.specs.declared.pattern.Pattern.{Pattern, out-Pattern}
use Rattle.gft_syntax.specs.declared.pattern.Pattern.TheOpen as P
use Rattle.gft_syntax.specs.declared.pattern.Pattern.TheFolds.{fold-Pattern}
use Rattle.gft_syntax.specs.declared.reference.PlacedName.{PlacedName}
use Rattle.gft_syntax.specs.declared.reference.Reference.TheVariants.{Written}
use Rattle.gft_syntax.specs.declared.term.Sort.{Sort}
use Rattle.gft_syntax.specs.declared.term.Sort.TheVariants as Sort-V
use Rattle.gft_syntax.specs.declared.term.Term.{Term, out-Term}
use Rattle.gft_syntax.specs.declared.term.Term.TheOpen as T
use Rattle.gft_syntax.specs.Parts.{list_name, bound_names, Part as TermPart, parts, pattern_parts, patterns_in, judgement_parts}
use Rattle.gft_model.specs.Flats.{IsConstructor, IsOf}
use Rattle.gft_model.specs.HeaderFaults.{IsBuiltIn, Clash}
use Rattle.gft_model.specs.Modules.{is_abstract, placed_names, sort_of, opened_names, Writes, Offers, Sees, Declared, header_name, header_mentions, judgements_of, opened_of, names_of}
use Rattle.gft_model.specs.Refusals.{name_at}
use Rattle.gft_model.specs.Resolution.{Locals, is_local}
use Rattle.gft_model.specs.TypeForms.{predef_named}

-- the variables that a pattern binds, where the test says which bare names are variables; both sides of | bind the
-- same, of a, b = p both bind those of p, and p* binds none
abbrev pub bound_step : (List ℕ → Bool) → P.Pattern-F (List PlacedName) → List PlacedName
bound_step is_variable (P.Or p q place) = p
bound_step is_variable (P.Star p place) = []
bound_step is_variable (P.As x p place) = name_at x place ∷ p
bound_step is_variable (P.Name (Written x) place) = if is_variable x then name_at x place ∷ [] else []
bound_step is_variable (P.Fields fs place) = flat_map (λ f. flat_map (λ l. f.pattern) f.labels) fs
bound_step is_variable d = flat_map (λ p. p) (pattern_parts d)

-- under local variables, which hide constructors
abbrev pub bound_in : (List ℕ → Bool) → Locals → Pattern → List PlacedName
bound_in is_constructor xs = fold-Pattern (List PlacedName) (bound_step (λ x. is_local x xs || not (is_constructor x)))

-- forms that are one name, with parts that are none: Q.x, a function of Predef, and Ints before a number
pub data IsName (e : Term) : Type 0 where
  qualified : {q x a Q p : _} → out-Term e ≡ T.Proj q x a → out-Term q ≡ T.Var (Written Q) p → IsName e
  of_predef : {q x a p f : _} → out-Term e ≡ T.Proj q x a → out-Term q ≡ T.Sort Sort-V.Predef p → predef_named x ≡ Some f →
      IsName e
  of_ints : {f a place p n q : _} → out-Term e ≡ T.App f a place → out-Term f ≡ T.Sort Sort-V.Ints p → out-Term a ≡ T.Num n q →
      IsName e

-- the terms of a judgement, each with the variables around it: those of an oper, and the alternatives of one, see its arguments
abbrev pub scoped_parts : Judgement → List (TermPart Term)
scoped_parts (J.Oper ns bs d) = map (λ (p : TermPart Term). record p { names = bound_names bs }) (judgement_parts (J.Oper ns bs d))
scoped_parts j = judgement_parts j

module _ (mods : List Module) (m : Module) where
  -- the name of the module
  abbrev own_name : List ℕ
  own_name = (header_name m.header).name

  -- it means a constructor, which no variable hides
  abbrev pub MeansConstructor : Locals → Option (List ℕ) → List ℕ → Type 0
  MeansConstructor xs q x = (is_local (unwrap_or q x) xs ≡ false) × (d : Declared) × (j : Judgement) × Sees mods own_name q x d
      × Writes mods d j × IsConstructor j x

  -- the module opens another under that name
  abbrev pub Opens : List ℕ → Type 0
  Opens Q = Contains (flat_map opened_names (opened_of m)) Q

  -- the test says of each bare name whether it means a constructor
  abbrev pub AreConstructors : (List ℕ → Bool) → Type 0
  AreConstructors is_constructor = (x : List ℕ) → (is_constructor x ≡ true) ↔ MeansConstructor [] None x

  module _ (is_constructor : List ℕ → Bool) where
    -- a term of an own judgement, with the variables around it, and whether a type must stand there
    pub data Within : Locals → Bool → Term → Type 0 where
      in_judgement : {j p : _} → Contains (judgements_of m) j → Contains (scoped_parts j) p →
          Within p.names p.is_type p.part
      in_term : {xs b e p : _} → Within xs b e → ¬ (IsName e) → Contains (parts (out-Term e)) p →
          Within (names_of (flat_map (bound_in is_constructor xs) (option_to_list p.pattern)) ++ p.names ++ xs) p.is_type p.part

    -- Q.x, where no variable is called Q
    abbrev pub IsDotted : PlacedName → PlacedName → Type 0
    IsDotted Q x = (xs : Locals) × (b : Bool) × (e : Term) × (q : Term) × Within xs b e
        × (out-Term e ≡ T.Proj q x.name x.place) × (out-Term q ≡ T.Var (Written Q.name) Q.place) × (is_local Q.name xs ≡ false)

    -- a name that is used at a place: x, or Q.x, where no variable has the name
    pub data Uses : Option (List ℕ) → PlacedName → Type 0 where
      alone : {xs b e x p : _} → Within xs b e → out-Term e ≡ T.Var (Written x) p → is_local x xs ≡ false →
          Uses None (name_at x p)
      in_brackets : {xs b e C p : _} → Within xs b e → out-Term e ≡ T.ListCat (Written C) p → Uses None (name_at (list_name C) p)
      of_elements : {n r k p : _} → Contains (judgements_of m) (J.ListCat n r k p) → Uses None n
      before_dot : {Q x : PlacedName} → IsDotted Q x → ¬ (Opens Q.name) → Uses None Q
      after_dot : {Q x : PlacedName} → IsDotted Q x → Opens Q.name → Uses (Some Q.name) x

    -- a pattern at or within that of a branch, with the variables around the branch
    abbrev pub HasPattern : Locals → Pattern → Type 0
    HasPattern xs p = (b : Bool) × (e : Term) × (c : TermPart Term) × Within xs b e × Contains (parts (out-Term e)) c
        × Contains (flat_map patterns_in (option_to_list c.pattern)) p

    -- a name in a pattern: bare, or where only a constructor may stand
    pub data InPattern (xs : Locals) : Bool → Option (List ℕ) → List ℕ → Place → Type 0 where
      bare : {p x a : _} → HasPattern xs p → out-Pattern p ≡ P.Name (Written x) a → InPattern xs false None x a
      head : {p q x ps a : _} → HasPattern xs p → out-Pattern p ≡ P.Con q (Written x) ps a → InPattern xs true q x a

    -- which rules are broken in the names of own judgements, at which name, and with which opened modules beside
    pub data BreaksNames : Rule → PlacedName → List PlacedName → Type 0 where
      means_nothing : {q : _} {n : PlacedName} → Uses q n → ((d : Declared) → ¬ (Sees mods own_name q n.name d)) →
          ¬ ((is_abstract m.header ≡ true) × (q ≡ None) × IsBuiltIn n.name) → BreaksNames R.Unknown n []
      no_constructor : {xs q x p : _} → InPattern xs true q x p → ¬ (MeansConstructor xs q x) →
          BreaksNames R.Unknown (name_at x p) []
      variable_as_type : {xs e x p : _} → is_abstract m.header ≡ false → Within xs true e → out-Term e ≡ T.Var (Written x) p →
          is_local x xs ≡ true → BreaksNames R.Unknown (name_at x p) []
      word_alone : {xs b e s w p : _} → Within xs b e → out-Term e ≡ T.Sort s p →
          Contains {X = Sort × List ℕ} ((Sort-V.Ints, codes "Ints") ∷ (Sort-V.Predef, codes "Predef") ∷ []) (s, w) →
          BreaksNames R.Unknown (name_at w p) []
      abstract_lacks : {j A : _} {n : PlacedName} → Contains (judgements_of m) j → Contains (placed_names j) n →
          sort_of j ≢ None → Contains (header_mentions m.header) A → ¬ (IsOf mods A.name n.name j) → BreaksNames R.Unknown n []
      ambiguous_use : {q one other : _} {n : PlacedName} → Uses q n → Clash (Offers mods m n.name q) one other →
          BreaksNames R.Ambiguous n (one ∷ other ∷ [])
      ambiguous_constructor : {xs b q x p one other : _} → InPattern xs b q x p → MeansConstructor xs q x →
          Clash (Offers mods m x q) one other → BreaksNames R.Ambiguous (name_at x p) (one ∷ other ∷ [])
      bound_twice : {xs p : _} (before after : List PlacedName) {n : PlacedName} → HasPattern xs p →
          bound_in is_constructor xs p ≡ before ++ n ∷ after → Contains (names_of before) n.name →
          BreaksNames R.PatternVars n []
      bound_on_one_side : {xs r p q a one other : _} {n : PlacedName} → HasPattern xs r → out-Pattern r ≡ P.Or p q a →
          Contains (p ∷ q ∷ []) one → Contains (p ∷ q ∷ []) other → Contains (bound_in is_constructor xs one) n →
          ¬ (Contains (names_of (bound_in is_constructor xs other)) n.name) → BreaksNames R.PatternVars n []
      bound_in_star : {xs r p a n : _} → HasPattern xs r → out-Pattern r ≡ P.Star p a →
          Contains (bound_in is_constructor xs p) n → BreaksNames R.PatternVars n []
