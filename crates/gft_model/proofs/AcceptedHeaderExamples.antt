-- Worked examples of headers that are accepted, those of E and of EEng, and of a linearization of a category that E lacks.
use Rattle.std.proofs.Common.{◌≡◌, ap, sym, ◌∙◌, refl, ℕ, zero, suc, true, false, Bool, List, [], ◌∷◌, ◌++◌, Option, Some, subst, arith, ◌⊎◌, inl, inr}
use Rattle.std.specs.Prelude.{codes, bytes_eq, Contains, slice_get, map}
use Rattle.gft_core.specs.declared.place.Place.{Place}
use Rattle.gft_rules.specs.declared.refusal.Refusal.{Refusal}
use Rattle.gft_rules.specs.declared.rule.Rule.{Rule}
use Rattle.gft_syntax.specs.declared.judgement.Judgement.{Judgement}
use Rattle.gft_syntax.specs.declared.judgement.Judgement.TheVariants as J
use Rattle.gft_syntax.specs.declared.judgement.Keyword.{Keyword}
use Rattle.gft_syntax.specs.declared.module.Header.{Header}
use Rattle.gft_syntax.specs.declared.module.Header.TheVariants.{Instance}
use Rattle.gft_syntax.specs.declared.module.Module.{Module}
use Rattle.gft_syntax.specs.declared.module.Rest.{Rest}
use Rattle.gft_syntax.specs.declared.module.Rest.TheVariants.{Own}
use Rattle.gft_syntax.specs.declared.reference.PlacedName.{PlacedName}
use Rattle.gft_model.specs.HeaderFaults
use Rattle.gft_model.specs.Modules.{Is, Has, declares, is_given, Gives, inherits, keeps, instantiates, own, own_text, Declared, Writes, is_abstract, declared_names, functor_of, inherited_of, judgements_of}
use Rattle.gft_model.specs.Refusals.{Moment}
use Rattle.gft_model.proofs.AcceptedNamesExamples.{one_of, none_of, named, abstract_e, lincat_of, e_eng, mods}

-- a module that is no instance and has one judgement, inherits nothing and opens nothing
abbrev pub only : Judgement → Rest
only j = Own [] (record { opened = []; judgements = j ∷ [] })

module _ (mods : List Module) (M : List ℕ) (m : Module) (j : Judgement) (rest : m.rest ≡ only j)
    (no_instance : (n i : PlacedName) → m.header ≡ Instance n i → ⊥) where
  -- no other module gives it anything
  pub given_none : {x : List ℕ} {n : PlacedName} {d : Declared} → Gives mods m x n d → ⊥
  given_none (inherits {h = h} c l a) = none_of (subst (λ r. Contains (inherited_of r) h) rest c)
  given_none (keeps e h w u o) = no_instance _ _ e
  given_none (instantiates e l h) = let same = ap functor_of rest in cc

  module _ (is : Is mods M m) where
    is_it : {k : Module} → Is mods M k → k ≡ m
    is_it e = cc

    judgement_is : {i : Judgement} {k : ℕ} → slice_get (judgements_of m) k ≡ Some i → (k ≡ 0) × (i ≡ j)
    judgement_is {i} {k} g =
        of k (subst (λ r. slice_get (judgements_of (record { header = m.header; rest = r })) k ≡ Some i) rest g) where
          of : (k : ℕ) → slice_get (j ∷ []) k ≡ Some i → (k ≡ 0) × (i ≡ j)
          of zero h = (refl, cc)
          of (suc l) h = cc

    -- what it has under its names
    pub had : {x : List ℕ} {d : Declared} → Has mods M x d → Contains (declared_names j) x × (d ≡ own M 0)
    had (declares {x = x} k {j = i} e g c) =
        let there = judgement_is (subst (λ l. slice_get (judgements_of l) k ≡ Some i) (is_it e) g) in
        (subst (λ i. Contains (declared_names i) x) there.1 c, ap (own M) there.0)
    had (is_given {x = x} {n = n} {d = d} e g) = absurd (given_none (subst (λ l. Gives mods l x n d) (is_it e) g))

    pub written : {i : Judgement} → Writes mods (own M 0) i → i ≡ j
    written (own_text k {j = i} e g) = (judgement_is (subst (λ l. slice_get (judgements_of l) k ≡ Some i) (is_it e) g)).1

-- nothing is broken in the header of EEng
module _ (named_source : Bool) where
  of_e_eng : {k : Option Keyword} {x : List ℕ} {n : PlacedName} {d : Declared} → HeaderFaults.GivesOf mods k e_eng x n d → ⊥
  of_e_eng g = given_none mods (codes "EEng") e_eng (lincat_of (codes "S")) refl (λ n i e. cc) g.0

  wanted_kind : {n : PlacedName} {allowed : Header → Bool} {o : Module} → HeaderFaults.Wants e_eng n allowed → Is mods n.name o →
      allowed o.header ≡ false → ⊥
  wanted_kind {n} {o = o} (HeaderFaults.after_of c) e f =
      let there : Some (abstract_e 1) ≡ Some o = subst (λ (x : PlacedName). Is mods x.name o) (sym (one_of c)) e in
      let same : abstract_e 1 ≡ o = cc in
      let wrong : true ≡ false = ap (λ (l : Module). is_abstract l.header) same ∙ f in cc
  wanted_kind (HeaderFaults.inherited c) e f = none_of c
  wanted_kind (HeaderFaults.opened c) e f = none_of c

  may_stand_there : {j : Judgement} → Contains (judgements_of e_eng) j → HeaderFaults.may_stand j e_eng.header ≡ false → ⊥
  may_stand_there {j} c f =
      let wrong : true ≡ false = ap (λ i. HeaderFaults.may_stand i e_eng.header) (one_of c) ∙ f in cc

  pub e_eng_header : (rule : Rule) (n : PlacedName) (ms : List PlacedName) →
      ¬ (HeaderFaults.BreaksHeader mods named_source e_eng rule n ms)
  e_eng_header rule n ms (HeaderFaults.module_of_wrong_kind w e f) = wanted_kind w e f
  e_eng_header rule n ms (HeaderFaults.functor_of_no_concrete w c e i) = cc
  e_eng_header rule n ms (HeaderFaults.judgement_of_wrong_kind c f p) = may_stand_there c f
  e_eng_header rule n ms (HeaderFaults.source_of_wrong_kind e f) = cc
  e_eng_header rule n ms (HeaderFaults.restricts_unknown c l h) = none_of c
  e_eng_header rule n ms (HeaderFaults.inherited_clash (d, e, g, h, r, b)) = of_e_eng g
  e_eng_header rule n ms (HeaderFaults.own_clash c p g) = of_e_eng g
  e_eng_header rule n ms (HeaderFaults.not_incomplete w e f) = cc
  e_eng_header rule n ms (HeaderFaults.without_substitution w p h) = cc
  e_eng_header rule n ms (HeaderFaults.no_parameter w c p) = cc
  e_eng_header rule n ms (HeaderFaults.no_instance w c i) = cc
  e_eng_header rule n ms (HeaderFaults.instance_lacks e h w u o) = cc

-- nor in that of E, whatever the other modules are
module _ (mods : List Module) (named_source : Bool) (file : ℕ) where
  given_to_e : {x : List ℕ} {n : PlacedName} {d : Declared} → Gives mods (abstract_e file) x n d → ⊥
  given_to_e = given_none mods (codes "E") (abstract_e file) (J.Cat (named file 19 (codes "S")) []) refl (λ n i e. cc)

  wants_none : {n : PlacedName} {allowed : Header → Bool} → HeaderFaults.Wants (abstract_e file) n allowed → ⊥
  wants_none (HeaderFaults.after_of c) = none_of c
  wants_none (HeaderFaults.inherited c) = none_of c
  wants_none (HeaderFaults.opened c) = none_of c

  may_stand_in_e : {j : Judgement} → Contains (judgements_of (abstract_e file)) j →
      HeaderFaults.may_stand j (abstract_e file).header ≡ false → ⊥
  may_stand_in_e {j} c f =
      let wrong : true ≡ false = ap (λ i. HeaderFaults.may_stand i (abstract_e file).header) (one_of c) ∙ f in cc

  pub e_header : (rule : Rule) (n : PlacedName) (ms : List PlacedName) →
      ¬ (HeaderFaults.BreaksHeader mods named_source (abstract_e file) rule n ms)
  e_header rule n ms (HeaderFaults.module_of_wrong_kind w e f) = wants_none w
  e_header rule n ms (HeaderFaults.functor_of_no_concrete w c e i) = cc
  e_header rule n ms (HeaderFaults.judgement_of_wrong_kind c f p) = may_stand_in_e c f
  e_header rule n ms (HeaderFaults.source_of_wrong_kind e f) = cc
  e_header rule n ms (HeaderFaults.restricts_unknown c l h) = none_of c
  e_header rule n ms (HeaderFaults.inherited_clash (d, e, g, h, r, b)) = given_to_e g.0
  e_header rule n ms (HeaderFaults.own_clash c p g) = given_to_e g.0
  e_header rule n ms (HeaderFaults.not_incomplete w e f) = cc
  e_header rule n ms (HeaderFaults.without_substitution w p h) = cc
  e_header rule n ms (HeaderFaults.no_parameter w c p) = cc
  e_header rule n ms (HeaderFaults.no_instance w c i) = cc
  e_header rule n ms (HeaderFaults.instance_lacks e h w u o) = cc

-- S is not built in
not_built_in : HeaderFaults.IsBuiltIn (codes "S") → ⊥
not_built_in (zero, b, e) = let wrong : true ≡ false = ap (λ x. bytes_eq x (codes "Int")) e in cc
not_built_in (suc zero, b, e) = let wrong : true ≡ false = ap (λ x. bytes_eq x (codes "String")) e in cc
not_built_in (suc (suc k), b, e) = omega (arith, b)

-- and a module that declares it and nothing else declares nothing twice
declared_once : (before after : List (Option Keyword × PlacedName)) (k l : Option Keyword) (n : PlacedName) (p : Place) →
    (l, record { name = codes "S"; place = p }) ∷ [] ≡ before ++ (k, n) ∷ after →
    Contains {X = Option Keyword × List ℕ} (map (λ o. (o.0, o.1.name)) before) (k, n.name) ⊎ HeaderFaults.IsBuiltIn n.name → ⊥
declared_once [] after k l n p e (inl c) = none_of c
declared_once [] after k l n p e (inr b) =
    let first : (l, record { name = codes "S"; place = p }) ≡ (k, n) = cc in
    not_built_in (subst HeaderFaults.IsBuiltIn (sym (ap (λ (o : Option Keyword × PlacedName). o.1.name) first)) b)
declared_once (o ∷ []) after k l n p e h = cc
declared_once (o ∷ q ∷ os) after k l n p e h = cc

pub e_redefines_none : (file : ℕ) (at : Moment) (r : Refusal) → ¬ (HeaderFaults.Redefines (abstract_e file) at r)
e_redefines_none file at r (HeaderFaults.redefined before after e h) = declared_once before after _ _ _ _ e h

pub e_eng_redefines_none : (at : Moment) (r : Refusal) → ¬ (HeaderFaults.Redefines e_eng at r)
e_eng_redefines_none at r (HeaderFaults.redefined before after e h) = declared_once before after _ _ _ _ e h
