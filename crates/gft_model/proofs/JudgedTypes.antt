-- Types whose fields fit the portable file are well formed, or they have a flaw.
use Rattle.std.specs.Prelude.{◌≡◌, ◌<◌, ◌≤◌, ◌^◌, ℕ, zero, suc, ◌+◌, true, false, List, [], ◌∷◌, ◌++◌, length, map, Contains, slice_index_or, ◌⊎◌, ⊤}
use Rattle.std.proofs.Common.{refl, sym, ap, ◌∙◌, subst, inl, inr, ⊎_elim, arith}
use Rattle.std.proofs.lemmas.Bool.{ltb-true, and_parts}
use Rattle.std.proofs.lemmas.List.{length-map, length-append}
use Rattle.std.proofs.lemmas.Option.{slice_get-get_or}
use Rattle.gft_core.specs.declared.tree.Tree.{Tree, App, Int, Str, Hole, out-Tree, fold-Tree}
use Rattle.gft_core.specs.declared.tree.Tree.TheVariants.{outs-App, outs-Int, outs-Str, outs-Hole}
use Rattle.gft_pmcfg.specs.declared.signature.AType.{AType}
use Rattle.gft_pmcfg.specs.declared.signature.Cat.{Cat}
use Rattle.gft_pmcfg.specs.declared.signature.Fun.{Fun}
use Rattle.gft_pmcfg.specs.declared.signature.Abstract.{Abstract}
use Rattle.gft_model.specs.Fields.{Form, Fits}
use Rattle.gft_model.specs.FileForms.{times, parts, untagged, term, most_levels, type_form, types}
use Rattle.gft_model.specs.Flaws.{Flaw, arity, index_type, HasFlaw, HaveFlaw, HasTypeFlaw, HaveTypesFlaw, application, inside, other_type, past, too_many, too_few, here}
use Rattle.gft_model.specs.Flaws as flaws
use Rattle.gft_model.specs.Numbering.{named_step, changed_type, names_of}
use Rattle.gft_model.specs.Typing.{HoleTypes, HasType, HaveTypes, hole, integer, text, none, more, IsType, AreTypes, type_at, numbered_from}
use Rattle.gft_model.specs.Typing as typing
use Rattle.gft_model.proofs.Layers.{by_layers-App, by_layers-Int, by_layers-Str, by_layers-Hole}
use Rattle.gft_model.proofs.LineReadings.{Decided}
use Rattle.gft_model.proofs.TreeEquality.{same_type}

-- a function by its number
function_at : (fs : List Fun) (k : ℕ) → k < length fs
    → (f : Fun) × Contains fs f × (slice_index_or (names_of fs) k [] ≡ f.name)
function_at [] k b = absurd (omega (arith, b))
function_at (f ∷ fs) zero b = (f, (zero, omega arith, refl), refl)
function_at (f ∷ fs) (suc k) b =
    let rest = function_at fs k (omega (arith, b)) in
    (rest.0, (suc rest.1.0, omega (arith, rest.1.1), rest.1.2), rest.2)

-- the type of an earlier argument by its number
variable_at : (j : ℕ) (before : List AType) (k i : ℕ) → i ≡ j + k → k < length before
    → (type : AType) × Contains (numbered_from j before) (i, type)
variable_at j [] k i e b = absurd (omega (arith, b))
variable_at j (t ∷ before) zero i e b = (t, (zero, omega arith, ap (λ (n : ℕ). (n, t)) (omega (arith, e))))
variable_at j (t ∷ before) (suc k) i e b =
    let rest = variable_at (suc j) before k i (omega (arith, e)) (omega (arith, b)) in
    (rest.0, (suc rest.1.0, omega (arith, rest.1.1), rest.1.2))

module _ (a : Abstract) (names : List (List ℕ)) (are : names_of a.funs ≡ names) where
  abbrev term_named : Tree → Tree
  term_named t = fold-Tree Tree (named_step names) t

  module _ (T : HoleTypes) (n : ℕ) (few : n < 2 ^ 32) (variables : (k : ℕ) → k < n → (type : AType) × Contains T
      (suc k, type)) where
    -- a term has a type or a flaw
    abbrev Judged : Tree → Type 0
    Judged t = ((type : AType) × HasType a T t type) ⊎ ((flaw : Flaw) × HasFlaw a T t flaw)

    -- so have terms for types, each over those before it
    abbrev JudgedFor : List Tree → List AType → List Tree → Type 0
    JudgedFor before ts us = HaveTypes a T before ts us ⊎ ((flaw : Flaw) × HaveFlaw a T before ts us flaw)

    module _ (inner : Form Tree) (one : (u : Tree) → Fits inner u → Judged (term_named u)) where
      -- terms past the last type
      extra : (before : List Tree) (count : ℕ) (u : Tree) (us : List Tree) → Fits inner u → Fits (times inner count) us
          → (flaw : Flaw) × HaveFlaw a T before [] (term_named u ∷ map term_named us) flaw
      extra before zero u us h k = by_first (one u h) where
        alone : {found : AType} → HasType a T (term_named u) found
            → HaveFlaw a T before [] (term_named u ∷ map term_named us) arity
        alone d = subst (λ (vs : List Tree). HaveFlaw a T before [] (term_named u ∷ map term_named vs) arity) k (too_many d)

        by_first : Judged (term_named u) → (flaw : Flaw) × HaveFlaw a T before [] (term_named u ∷ map term_named us) flaw
        by_first (inl (found, d)) = (arity, alone d)
        by_first (inr (flaw, d)) = (flaw, inside d)
      extra before (suc count) u [] h k = absurd k
      extra before (suc count) u (v ∷ vs) h k = by_first (one u h) (extra before count v vs k.0 k.1) where
        by_first : Judged (term_named u) → (flaw : Flaw) × HaveFlaw a T before [] (map term_named (v ∷ vs)) flaw
            → (flaw : Flaw) × HaveFlaw a T before [] (term_named u ∷ map term_named (v ∷ vs)) flaw
        by_first (inl (found, d)) (flaw, ds) = (flaw, past d ds)
        by_first (inr (flaw, d)) rest = (flaw, inside d)

      judged_for : (before : List Tree) (ts : List AType) (count : ℕ) (us : List Tree) → Fits (times inner count) us
          → JudgedFor before ts (map term_named us)
      judged_for before [] zero us h = inl (subst (λ (vs : List Tree). HaveTypes a T before [] (map term_named vs)) h none)
      judged_for before (t ∷ ts) zero us h =
          inr (arity, subst (λ (vs : List Tree). HaveFlaw a T before (t ∷ ts) (map term_named vs) arity) h too_few)
      judged_for before ts (suc count) [] h = absurd h
      judged_for before [] (suc count) (u ∷ us) h = inr (extra before count u us h.0 h.1)
      judged_for before (t ∷ ts) (suc count) (u ∷ us) h =
          by_first (one u h.0) (judged_for (before ++ term_named u ∷ []) ts count us h.1) where
            by_type : {found : AType} → HasType a T (term_named u) found → Decided (found ≡ type_at before t)
                → JudgedFor (before ++ term_named u ∷ []) ts (map term_named us)
                → JudgedFor before (t ∷ ts) (term_named u ∷ map term_named us)
            by_type d (inr n) rest = inr (index_type, other_type d n)
            by_type d (inl e) (inl ds) = inl (more (subst (HasType a T (term_named u)) e d) ds)
            by_type d (inl e) (inr (flaw, ds)) = inr (flaw, flaws.HaveFlaw.later (subst (HasType a T (term_named u)) e d) ds)

            by_first : Judged (term_named u) → JudgedFor (before ++ term_named u ∷ []) ts (map term_named us)
                → JudgedFor before (t ∷ ts) (term_named u ∷ map term_named us)
            by_first (inl (found, d)) rest = by_type d (same_type found (type_at before t)) rest
            by_first (inr (flaw, d)) rest = inr (flaw, inside d)

    judged_untagged : (tag : ℕ) (inner : Form Tree) → ((u : Tree) → Fits inner u → Judged (term_named u)) → (u : Tree)
        → Fits (untagged (length names) n inner tag) u → Judged (term_named u)
    judged_untagged zero inner one u h =
        let k = (parts (out-Tree u)).number in
        let us = (parts (out-Tree u)).terms in
        let bound : k < length a.funs
        = omega (arith, ltb-true k (length names) h.0.1, ap length are, length-map a.funs (λ (f : Fun). f.name)) in
        let found = function_at a.funs k bound in
        let name : slice_index_or names k [] ≡ found.0.name
        = ap (λ (ns : List (List ℕ)). slice_index_or ns k []) (sym are) ∙ found.2 in
        let is : term_named u ≡ App found.0.name (map term_named us)
        = ap term_named (sym h.1.1) ∙ by_layers-App (named_step names) (k ∷ []) us
        ∙ ap (λ (f : List ℕ). App f (map term_named us)) name in
        let layer = ap out-Tree is ∙ outs-App found.0.name (map term_named us) in
        ⊎_elim {C = Judged (term_named u)} (λ ds. inl (_, typing.HasType.application found.1 layer ds))
        (λ d. inr (d.0, application found.1 layer d.1))
        (judged_for inner one [] found.0.args _ us h.1.0.1)
    judged_untagged (suc zero) inner one u h =
        let k = (parts (out-Tree u)).number in
        let bound : k < n = ltb-true k n h.0.1 in
        let is : term_named u ≡ Hole (suc k) = ap term_named (sym h.1) ∙ by_layers-Hole (named_step names) k in
        let type = variables k bound in
        inl (type.0, hole (ap out-Tree is ∙ outs-Hole (suc k)) (omega (arith, bound, few)) type.1)
    judged_untagged (suc (suc zero)) inner one u h =
        let k = (parts (out-Tree u)).number in
        let is : term_named u ≡ Int k = ap term_named (sym h.1) ∙ by_layers-Int (named_step names) k in
        inl (_, integer (ap out-Tree is ∙ outs-Int k) h.0)
    judged_untagged (suc (suc (suc m))) inner one u h =
        let w = (parts (out-Tree u)).word in
        let is : term_named u ≡ Str w = ap term_named (sym h.1) ∙ by_layers-Str (named_step names) w in
        inl (_, text (ap out-Tree is ∙ outs-Str w) (and_parts _ _ h.0.1.1).1)

    judged : (levels : ℕ) (u : Tree) → Fits (term (length names) n levels) u → Judged (term_named u)
    judged zero u h = absurd (never h.0.1) where
      never : false ≡ true → ⊥
      never e = cc
    judged (suc levels) u h =
        judged_untagged (parts (out-Tree u)).tag (term (length names) n levels) (judged levels) u h.1

    -- a type
    judged_type : (u : AType) → Fits (type_form (length a.cats) (length names) n) u
        → IsType a T (changed_type (named_step names) u) ⊎ ((flaw : Flaw) × HasTypeFlaw a T
        (changed_type (named_step names) u) flaw)
    judged_type u h =
        let nothing : Cat = record { name = []; context = [] } in
        let numbered = slice_get-get_or a.cats u.cat nothing (ltb-true _ _ h.0.1) in
        let category = slice_index_or a.cats u.cat nothing in
        ⊎_elim {C = IsType a T (changed_type (named_step names) u)
        ⊎ ((flaw : Flaw) × HasTypeFlaw a T (changed_type (named_step names) u) flaw)}
        (λ ds. inl (record { category = category; numbered = numbered; indices = ds }))
        (λ d. inr (d.0, record { category = category; numbered = numbered; indices = d.1 }))
        (judged_for (term (length names) n most_levels) (judged most_levels) [] category.context _ u.args h.1.0.1)

  -- types of which each is over the ones before it
  abbrev pub EachFits : ℕ → List AType → Type 0
  EachFits n [] = ⊤
  EachFits n (u ∷ us) = Fits (type_form (length a.cats) (length names) n) u × EachFits (suc n) us

  pub each_fits : (n count : ℕ) (us : List AType) → Fits (types (length a.cats) (length names) n count) us → EachFits n us
  each_fits n zero us h = subst (EachFits n) h tt
  each_fits n (suc count) [] h = absurd h
  each_fits n (suc count) (u ∷ us) h = (h.0, each_fits (suc n) count us h.1)

  pub one_more : (n : ℕ) (us : List AType) (u : AType) → EachFits n us
      → Fits (type_form (length a.cats) (length names) (n + length us)) u → EachFits n (us ++ u ∷ [])
  one_more n [] u each h = (subst (λ m. Fits (type_form (length a.cats) (length names) m) u) (omega arith) h, tt)
  one_more n (v ∷ us) u each h = (
    each.0,
    one_more (suc n) us u each.1
        (subst (λ m. Fits (type_form (length a.cats) (length names) m) u) (omega arith) h),
  )

  abbrev JudgedTypes : List AType → List AType → Type 0
  JudgedTypes before ts = AreTypes a before ts ⊎ ((flaw : Flaw) × HaveTypesFlaw a before ts flaw)

  pub judged_types : (before us : List AType) → length before + length us ≤ 2 ^ 32 → EachFits (length before) us
      → JudgedTypes before (map (changed_type (named_step names)) us)
  judged_types before [] few each = inl tt
  judged_types before (u ∷ us) few each = by_first
      (judged_type (numbered_from 1 before) (length before) (omega (arith, few))
      (λ k b. variable_at 1 before k (suc k) (omega arith) b) u each.0)
      (judged_types (before ++ type ∷ []) us count (subst (λ n. EachFits n us) longer each.1)) where
        type : AType
        type = changed_type (named_step names) u

        longer : suc (length before) ≡ length (before ++ type ∷ [])
        longer = omega (arith, length-append before (type ∷ []))

        count : length (before ++ type ∷ []) + length us ≤ 2 ^ 32
        count = omega (arith, few, longer)

        by_first : IsType a (numbered_from 1 before) type ⊎ ((flaw : Flaw) × HasTypeFlaw a (numbered_from 1 before) type flaw)
            → JudgedTypes (before ++ type ∷ []) (map (changed_type (named_step names)) us)
            → JudgedTypes before (type ∷ map (changed_type (named_step names)) us)
        by_first (inr (flaw, d)) rest = inr (flaw, here d)
        by_first (inl d) (inl ds) = inl (d, ds)
        by_first (inl d) (inr (flaw, ds)) = inr (flaw, flaws.HaveTypesFlaw.later d ds)
