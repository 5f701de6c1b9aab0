-- A grammar has no flaw, and its bytes are those of no other.
use Rattle.std.specs.Prelude.{◌≡◌, ◌≤◌, ℕ, zero, suc, true, All, List, [], ◌∷◌, map, Contains, Option, Some, None, slice_get}
use Rattle.std.specs.Cmp.Lexicographic.{nat_list_cmp_total}
use Rattle.std.specs.Ordering.{is_lt}
use Rattle.std.proofs.Common.{sym, ap, ◌∙◌, subst, arith}
use Rattle.gft_pmcfg.specs.declared.signature.AType.{AType}
use Rattle.gft_pmcfg.specs.declared.signature.Fun.{Fun}
use Rattle.gft_pmcfg.specs.declared.signature.Abstract.{Abstract}
use Rattle.gft_pmcfg.specs.declared.concrete.Concrete.{Concrete}
use Rattle.gft_pmcfg.specs.declared.grammar.Grammar.{Grammar}
use Rattle.gft_model.specs.Typing.{IsCategoryTyped, IsFunctionTyped, AreTypes, numbered_from}
use Rattle.gft_model.specs.Flaws.{Flaw, HaveTypesFlaw, here, later}
use Rattle.gft_model.specs.Runs.{IsKept}
use Rattle.gft_model.specs.Fields.{Fits, Outcome, got, outcome}
use Rattle.gft_model.specs.FileForms.{listed, file, comes_after}
use Rattle.gft_model.specs.PortableFile.{file_bytes, IsGrammar, IsReduced, IsFlawed, of_category, of_function, of_production, IsInvalid, Reads}
use Rattle.gft_model.specs.Laws.{AreNamedApart, HaveOneType}
use Rattle.gft_model.proofs.FlawLaws.{flaw_has_no_type}
use Rattle.gft_model.proofs.ReadingLaws.{fields_again}
use Rattle.gft_model.proofs.NumberedTerms.{functions_rise}
use Rattle.gft_model.proofs.Rising.{less, Rise, irreflexive}

-- a name behind others is none of them
names_behind : (before : List ℕ) (fs : List Fun) (g : Fun) → Rise (Some before) (map (λ (f : Fun). f.name) fs)
    → Contains fs g → comes_after (Some before) g.name ≡ true
names_behind before [] g h (k, b, e) = absurd (omega (arith, b))
names_behind before (f ∷ fs) g h (zero, b, e) = ap (λ (x : Fun). comes_after (Some before) x.name) (sym e) ∙ h.0
names_behind before (f ∷ fs) g h (suc k, b, e) =
    let rest = names_behind f.name fs g h.1 (k, omega (arith, b), e) in
    let through = nat_list_cmp_total.trans before f.name g.name (less _ h.0) (less _ rest) in ap is_lt through

pub named_apart : (before : Option (List ℕ)) (fs : List Fun) → Rise before (map (λ (f : Fun). f.name) fs) → AreNamedApart fs
named_apart before [] h f g (k, b, e) n same = absurd (omega (arith, b))
named_apart before (x ∷ fs) h f g (zero, b, e) (zero, c, d) same = sym e ∙ d
named_apart before (x ∷ fs) h f g (zero, b, e) (suc k, c, d) same =
    let behind = names_behind x.name fs g h.1 (k, omega (arith, c), d) in
    let name : g.name ≡ x.name = sym same ∙ ap (λ (y : Fun). y.name) (sym e) in
    absurd (irreflexive x.name (ap (comes_after (Some x.name)) (sym name) ∙ behind))
named_apart before (x ∷ fs) h f g (suc k, b, e) (zero, c, d) same =
    let behind = names_behind x.name fs f h.1 (k, omega (arith, b), e) in
    let name : f.name ≡ x.name = same ∙ ap (λ (y : Fun). y.name) (sym d) in
    absurd (irreflexive x.name (ap (comes_after (Some x.name)) (sym name) ∙ behind))
named_apart before (x ∷ fs) h f g (suc k, b, e) (suc l, c, d) same =
    named_apart (Some x.name) fs h.1 f g (k, omega (arith, b), e) (l, omega (arith, c), d) same

-- holes that are numbered on have one type each
numbers_from : (k : ℕ) (ts : List AType) (i : ℕ) (t : AType) → Contains (numbered_from k ts) (i, t) → k ≤ i
numbers_from k [] i t (j, b, e) = absurd (omega (arith, b))
numbers_from k (s ∷ ts) i t (zero, b, e) = omega (arith, ap (λ (h : ℕ × AType). h.0) e)
numbers_from k (s ∷ ts) i t (suc j, b, e) =
    let rest = numbers_from (suc k) ts i t (j, omega (arith, b), e) in omega (arith, rest)

pub one_type_each : (k : ℕ) (ts : List AType) → HaveOneType (numbered_from k ts)
one_type_each k [] i s t (j, b, e) n = absurd (omega (arith, b))
one_type_each k (x ∷ ts) i s t (zero, b, e) (zero, c, d) = sym (ap (λ (h : ℕ × AType). h.1) e) ∙ ap (λ (h : ℕ × AType). h.1) d
one_type_each k (x ∷ ts) i s t (zero, b, e) (suc l, c, d) =
    let high = numbers_from (suc k) ts i t (l, omega (arith, c), d) in
    absurd (omega (arith, high, ap (λ (h : ℕ × AType). h.0) e))
one_type_each k (x ∷ ts) i s t (suc j, b, e) (zero, c, d) =
    let high = numbers_from (suc k) ts i s (j, omega (arith, b), e) in
    absurd (omega (arith, high, ap (λ (h : ℕ × AType). h.0) d))
one_type_each k (x ∷ ts) i s t (suc j, b, e) (suc l, c, d) =
    one_type_each (suc k) ts i s t (j, omega (arith, b), e) (l, omega (arith, c), d)

-- types with a flaw are not well formed
pub types_flaw : {a : Abstract} {before types : List AType} {flaw : Flaw} → AreNamedApart a.funs
    → HaveTypesFlaw a before types flaw → AreTypes a before types → ⊥
types_flaw {before} fs (here d) h = flaw_has_no_type fs (one_type_each 1 before) d h.0
types_flaw fs (later d ds) h = types_flaw fs ds h.1

-- what all items pass, the one at a place does
pub at_place : {A : Type 0} (P : A → Type 0) (xs : List A) (k : ℕ) (x : A) → All P xs → slice_get xs k ≡ Some x → P x
at_place P [] k x all e = cc
at_place P (y ∷ ys) zero x all e = let same : y ≡ x = cc in subst P same (all 0 y (omega arith))
at_place P (y ∷ ys) (suc k) x all e = at_place P ys k x (λ j d b. all (suc j) d (omega (arith, b))) e

pub all_listed : {A : Type 0} (P : A → Type 0) (xs : List A) → All P xs → All P (listed xs)
all_listed P [] all k d b = absurd (omega (arith, b))
all_listed P (x ∷ []) all k d b = absurd (omega (arith, b))
all_listed P (x ∷ (y ∷ xs)) all k d b = all (suc (suc k)) d (omega (arith, b))

pub functions_apart : (a : Abstract) (cs : List Concrete) → Fits file (a, cs) → AreNamedApart a.funs
functions_apart a cs h = named_apart None a.funs (functions_rise a cs h)

-- a grammar has no flaw
pub no_flaw : {a : Abstract} {cs : List Concrete} {flaw : Flaw} {at : ℕ} → IsGrammar a cs → IsFlawed a cs flaw at → ⊥
no_flaw {a} {cs} g (of_category i {c} e before d) =
    types_flaw (functions_apart a cs g.fits) d (at_place (IsCategoryTyped a) (listed a.cats) i c
    (all_listed (IsCategoryTyped a) a.cats g.types.0) e)
no_flaw {a} {cs} g (of_function k {f} cats e before d) =
    types_flaw (functions_apart a cs g.fits) d (at_place (IsFunctionTyped a) a.funs k f g.types.1 e)
no_flaw {a} {cs} g (of_production l p {c} {prod} types e before i earlier n) =
    n (at_place (IsKept c) c.prods p prod (at_place IsReduced cs l c g.reduced e) i)

-- bytes are those of one grammar whose fields fit
one_value : {A : Type 0} {x y : A} {i j : ℕ} {bs cs : List ℕ} → ◌≡◌ {A = Outcome A} (got x i bs) (got y j cs) → x ≡ y
one_value e = cc

pub reads_once : (a b : Abstract) (cs ds : List Concrete) → Fits file (a, cs) → Fits file (b, ds)
    → file_bytes a cs ≡ file_bytes b ds → (a ≡ b) × (cs ≡ ds)
reads_once a b cs ds h k e =
    let same = one_value (sym (fields_again a cs h) ∙ ap (outcome file 0) e ∙ fields_again b ds k) in
    (ap (λ g. g.0) same, ap (λ g. g.1) same)

-- so bytes of a grammar are not those of one with a flaw
pub not_invalid : {bytes : List ℕ} {g : Grammar} {flaw : Flaw} {at : ℕ} → Reads bytes g → IsInvalid bytes flaw at → ⊥
not_invalid {g} {flaw} {at} r x =
    let same = reads_once g.abs x.abs g.concretes x.concretes r.grammar.fits x.fits (r.bytes_are ∙ sym x.bytes_are) in
    let moved : IsFlawed g.abs x.concretes flaw at
    = subst (λ (a : Abstract). IsFlawed a x.concretes flaw at) (sym same.0) x.flawed in
    no_flaw r.grammar (subst (λ (cs : List Concrete). IsFlawed g.abs cs flaw at) (sym same.1) moved)
