-- A grammar has at most one first flaw.
use Rattle.std.specs.Prelude.{◌≡◌, ◌<◌, ℕ, zero, suc, All, List, [], ◌∷◌, take, Some, slice_get}
use Rattle.std.proofs.Common.{refl, sym, ap, ◌∙◌, subst, arith}
use Rattle.gft_core.specs.declared.tree.Tree.{Tree}
use Rattle.gft_pmcfg.specs.declared.signature.AType.{AType}
use Rattle.gft_pmcfg.specs.declared.signature.Cat.{Cat}
use Rattle.gft_pmcfg.specs.declared.signature.Fun.{Fun}
use Rattle.gft_pmcfg.specs.declared.signature.Abstract.{Abstract}
use Rattle.gft_pmcfg.specs.declared.concrete.Prod.{Prod}
use Rattle.gft_pmcfg.specs.declared.concrete.Concrete.{Concrete}
use Rattle.gft_rules.specs.declared.rule.Rule.{Rule}
use Rattle.gft_model.specs.Typing.{HoleTypes, IsCategoryTyped, IsFunctionTyped, signature_of}
use Rattle.gft_model.specs.Flaws.{Flaw, HasFlaw, HaveFlaw, HasTypeFlaw, HaveTypesFlaw, application, inside, other_type, past, too_many, too_few, here}
use Rattle.gft_model.specs.Flaws as flaws
use Rattle.gft_model.specs.Runs.{IsKept}
use Rattle.gft_model.specs.Fields.{outcome, offset_of}
use Rattle.gft_model.specs.FileForms.{listed, file}
use Rattle.gft_model.specs.PortableFile.{IsReduced, HasFault, of_field, after_grammar, IsFlawed, of_category, of_function, of_production, IsInvalid}
use Rattle.gft_model.specs.Laws.{AreNamedApart, HaveOneType}
use Rattle.gft_model.proofs.FlawLaws.{no_type, flaw_has_no_type}
use Rattle.gft_model.proofs.SkeletonLaws.{one_type}
use Rattle.gft_model.proofs.ReadingLaws.{fields_again}
use Rattle.gft_model.proofs.NoFlaw.{types_flaw, one_type_each, at_place, all_listed, functions_apart, reads_once}

-- two trees with one layer are applications of one function
mutual
  one_flaw : {a : Abstract} {T : HoleTypes} {t : Tree} {f g : Flaw} → AreNamedApart a.funs → HaveOneType T
      → HasFlaw a T t f → HasFlaw a T t g → f ≡ g
  one_flaw {a} {T} {g = second} fs hs (application {f} {ts} m h d) (application {f = g} {ts = us} n i e) =
      let names : f.name ≡ g.name = cc in
      let args : ts ≡ us = cc in
      let same : f ≡ g = fs f g m n names in
      one_flaw_of fs hs d (subst (λ (x : Fun). HaveFlaw a T [] x.args ts second) (sym same)
      (subst (λ (xs : List Tree). HaveFlaw a T [] g.args xs second) (sym args) e))

  one_flaw_of : {a : Abstract} {T : HoleTypes} {before ts : List Tree} {types : List AType} {f g : Flaw}
      → AreNamedApart a.funs → HaveOneType T → HaveFlaw a T before types ts f → HaveFlaw a T before types ts g → f ≡ g
  one_flaw_of fs hs (inside d) (inside e) = one_flaw fs hs d e
  one_flaw_of fs hs (inside d) (other_type e n) = absurd (no_type fs hs d e)
  one_flaw_of fs hs (inside d) (flaws.HaveFlaw.later e es) = absurd (no_type fs hs d e)
  one_flaw_of fs hs (inside d) (past e es) = absurd (no_type fs hs d e)
  one_flaw_of fs hs (inside d) (too_many e) = absurd (no_type fs hs d e)
  one_flaw_of fs hs (other_type d n) (inside e) = absurd (no_type fs hs e d)
  one_flaw_of fs hs (other_type d n) (other_type e m) = refl
  one_flaw_of fs hs (other_type d n) (flaws.HaveFlaw.later e es) = absurd (n (one_type fs hs d e))
  one_flaw_of fs hs (flaws.HaveFlaw.later d ds) (inside e) = absurd (no_type fs hs e d)
  one_flaw_of fs hs (flaws.HaveFlaw.later d ds) (other_type e n) = absurd (n (one_type fs hs e d))
  one_flaw_of fs hs (flaws.HaveFlaw.later d ds) (flaws.HaveFlaw.later e es) = one_flaw_of fs hs ds es
  one_flaw_of fs hs (past d ds) (inside e) = absurd (no_type fs hs e d)
  one_flaw_of fs hs (past d ds) (past e es) = one_flaw_of fs hs ds es
  one_flaw_of fs hs (past d ds) (too_many e) = elim ds [ ]
  one_flaw_of fs hs (too_many d) (inside e) = absurd (no_type fs hs e d)
  one_flaw_of fs hs (too_many d) (past e es) = elim es [ ]
  one_flaw_of fs hs (too_many d) (too_many e) = refl
  one_flaw_of fs hs too_few too_few = refl

one_type_flaw : {a : Abstract} {T : HoleTypes} {type : AType} {f g : Flaw} → AreNamedApart a.funs → HaveOneType T
    → HasTypeFlaw a T type f → HasTypeFlaw a T type g → f ≡ g
one_type_flaw {a} {T} {type} {g} fs hs d e =
    let found : Some d.category ≡ Some e.category = sym d.numbered ∙ e.numbered in
    let same : d.category ≡ e.category = cc in
    one_flaw_of fs hs d.indices (subst (λ (c : Cat). HaveFlaw a T [] c.context type.args g) (sym same) e.indices)

one_types_flaw : {a : Abstract} {before types : List AType} {f g : Flaw} → AreNamedApart a.funs
    → HaveTypesFlaw a before types f → HaveTypesFlaw a before types g → f ≡ g
one_types_flaw {before} fs (here d) (here e) = one_type_flaw fs (one_type_each 1 before) d e
one_types_flaw {before} fs (here d) (flaws.HaveTypesFlaw.later h es) = absurd (flaw_has_no_type fs (one_type_each 1 before) d h)
one_types_flaw {before} fs (flaws.HaveTypesFlaw.later h ds) (here e) = absurd (flaw_has_no_type fs (one_type_each 1 before) e h)
one_types_flaw fs (flaws.HaveTypesFlaw.later h ds) (flaws.HaveTypesFlaw.later k es) = one_types_flaw fs ds es

-- what all before a place pass
before_place : {A : Type 0} (P : A → Type 0) (xs : List A) (j i : ℕ) (x : A) → All P (take j xs) → i < j
    → slice_get xs i ≡ Some x → P x
before_place P [] j i x all b e = cc
before_place P (y ∷ ys) zero i x all b e = absurd (omega (arith, b))
before_place P (y ∷ ys) (suc j) zero x all b e = let same : y ≡ x = cc in subst P same (all 0 y (omega arith))
before_place P (y ∷ ys) (suc j) (suc i) x all b e =
    before_place P ys j i x (λ k d c. all (suc k) d (omega (arith, c))) (omega (arith, b)) e

-- of two places one comes first, or they are one
by_order : {A : Type 0} (i j : ℕ) → (i < j → A) → (i ≡ j → A) → (j < i → A) → A
by_order zero zero less same more = same refl
by_order zero (suc j) less same more = less (omega arith)
by_order (suc i) zero less same more = more (omega arith)
by_order (suc i) (suc j) less same more =
    by_order i j (λ b. less (omega (arith, b))) (λ e. same (omega (arith, e))) (λ b. more (omega (arith, b)))

-- the first production that is not kept is at one place
one_production : (c : Concrete) (prod other : Prod) (p r : ℕ) → slice_get c.prods p ≡ Some prod
    → slice_get c.prods r ≡ Some other → All (IsKept c) (take p c.prods) → All (IsKept c) (take r c.prods)
    → ¬ IsKept c prod → ¬ IsKept c other → p ≡ r
one_production c prod other p r e d kept rest n o = by_order p r
    (λ b. absurd (n (before_place (IsKept c) c.prods r p prod rest b e))) (λ same. same)
    (λ b. absurd (o (before_place (IsKept c) c.prods p r other kept b d)))

-- a first flaw is one, at one place
pub first_flaw : {a : Abstract} {cs : List Concrete} {f g : Flaw} {at there : ℕ} → AreNamedApart a.funs
    → IsFlawed a cs f at → IsFlawed a cs g there → (f ≡ g) × (at ≡ there)
first_flaw {a} {cs} {g} fs (of_category i {c} e all d) (of_category j {c = x} k others h) = by_order i j
    (λ b. absurd (types_flaw fs d (before_place (IsCategoryTyped a) (listed a.cats) j i c others b e)))
    (λ same.
    let found : Some c ≡ Some x = sym e ∙ ap (slice_get (listed a.cats)) same ∙ k in
    let category : c ≡ x = cc in (
      one_types_flaw fs d (subst (λ (y : Cat). HaveTypesFlaw a [] y.context g) (sym category) h),
      ap
          (λ k. offset_of file (a, cs) (2 ∷ 0 ∷ 4 ∷ k ∷ [])) same,
    ))
    (λ b. absurd (types_flaw fs h (before_place (IsCategoryTyped a) (listed a.cats) i j x all b k)))
first_flaw {a} fs (of_category i {c} e all d) (of_function k cats q others h) =
    absurd (types_flaw fs d (at_place (IsCategoryTyped a) (listed a.cats) i c (all_listed (IsCategoryTyped a) a.cats cats) e))
first_flaw {a} fs (of_category i {c} e all d) (of_production l p types q others k kept n) =
    absurd (types_flaw fs d (at_place (IsCategoryTyped a) (listed a.cats) i c (all_listed (IsCategoryTyped a) a.cats types.0) e))
first_flaw {a} fs (of_function k cats q others h) (of_category i {c} e all d) =
    absurd (types_flaw fs d (at_place (IsCategoryTyped a) (listed a.cats) i c (all_listed (IsCategoryTyped a) a.cats cats) e))
first_flaw {a} {cs} {g} fs (of_function i {f} cats e all d) (of_function j {f = x} others_cats k others h) = by_order i j
    (λ b. absurd (types_flaw fs d (before_place (IsFunctionTyped a) a.funs j i f others b e)))
    (λ same.
    let found : Some f ≡ Some x = sym e ∙ ap (slice_get a.funs) same ∙ k in
    let function : f ≡ x = cc in (
      one_types_flaw fs d (subst (λ (y : Fun). HaveTypesFlaw a [] (signature_of y) g) (sym function) h),
      ap
          (λ k. offset_of file (a, cs) (2 ∷ 0 ∷ 5 ∷ k ∷ [])) same,
    ))
    (λ b. absurd (types_flaw fs h (before_place (IsFunctionTyped a) a.funs i j x all b k)))
first_flaw {a} fs (of_function k {f} cats q others h) (of_production l p types r before i kept n) =
    absurd (types_flaw fs h (at_place (IsFunctionTyped a) a.funs k f types.1 q))
first_flaw {a} fs (of_production l p types q others k kept n) (of_category i {c} e all d) =
    absurd (types_flaw fs d (at_place (IsCategoryTyped a) (listed a.cats) i c (all_listed (IsCategoryTyped a) a.cats types.0) e))
first_flaw {a} fs (of_production l p types r before i kept n) (of_function k {f} cats q others h) =
    absurd (types_flaw fs h (at_place (IsFunctionTyped a) a.funs k f types.1 q))
first_flaw {a} {cs} fs (of_production l p {c} {prod} types e all q kept n)
    (of_production m r {c = d} {prod = other} more k others s rest o) = by_order l m
    (λ b. absurd (n (at_place (IsKept c) c.prods p prod (before_place IsReduced cs m l c others b e) q)))
    (λ same.
    let found : Some c ≡ Some d = sym e ∙ ap (slice_get cs) same ∙ k in
    let concrete : c ≡ d = cc in
    let places = one_production c prod other p r q
    (subst (λ (x : Concrete). slice_get x.prods r ≡ Some other) (sym concrete) s) kept
    (subst (λ (x : Concrete). All (IsKept x) (take r x.prods)) (sym concrete) rest) n
    (subst (λ (x : Concrete). ¬ IsKept x other) (sym concrete) o) in (
      refl,
      ap (λ k. offset_of file (a, cs) (3 ∷ suc k ∷ 2 ∷ suc p ∷ [])) same
          ∙ ap (λ k. offset_of file (a, cs) (3 ∷ suc m ∷ 2 ∷ suc k ∷ [])) places,
    ))
    (λ b. absurd (o (at_place (IsKept d) d.prods r other (before_place IsReduced cs l m d all b k) s)))

-- of bytes too, and then they are at no fault
pub one_invalid : {bytes : List ℕ} {f g : Flaw} {i j : ℕ} → IsInvalid bytes f i → IsInvalid bytes g j → (f ≡ g) × (i ≡ j)
one_invalid {g} {j} x y =
    let same = reads_once x.abs y.abs x.concretes y.concretes x.fits y.fits (x.bytes_are ∙ sym y.bytes_are) in
    let moved : IsFlawed x.abs y.concretes g j
    = subst (λ (a : Abstract). IsFlawed a y.concretes g j) (sym same.0) y.flawed in
    first_flaw (functions_apart x.abs x.concretes x.fits) x.flawed
    (subst (λ (cs : List Concrete). IsFlawed x.abs cs g j) (sym same.1) moved)

pub invalid_has_no_fault : {bytes : List ℕ} {flaw : Flaw} {rule : Rule} {i j : ℕ} → IsInvalid bytes flaw i
    → HasFault bytes rule j → ⊥
invalid_has_no_fault x (of_field e) =
    let again = fields_again x.abs x.concretes x.fits in
    let whole = ap (outcome file 0) x.bytes_are in cc
invalid_has_no_fault x (after_grammar e) =
    let again = fields_again x.abs x.concretes x.fits in
    let whole = ap (outcome file 0) x.bytes_are in cc
