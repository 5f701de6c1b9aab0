-- The map of a list of files, where one of them is looked up or changed.
use Rattle.std.proofs.Common.{◌≡◌, ◌≢◌, ℕ, zero, suc, Bool, true, false, cond, List, [], ◌∷◌, ◌++◌, get_or, set, refl, sym, ap, ◌∙◌, subst, arith, Option, None, Some, Ordering}
use Rattle.std.specs.declared.cmp.Ordering.TheVariants.{Less, Equal, Greater}
use Rattle.std.specs.declared.vec.Vec.{Vec}
use Rattle.std.specs.declared.alloc.Global.{Global}
use Rattle.std.specs.Ordering.{nat_cmp, is_eq, eq_by_cmp}
use Rattle.std.specs.Cmp.{tied_itself}
use Rattle.std.specs.Cmp.Lexicographic.{slice_cmp, nat_list_cmp_total}
use Rattle.std.specs.FinMap.{get, insert, find, from_entries, same_map, get-insert, get-from_entries, nat_cmp-IsAntisymmetric, slice_cmp-IsAntisymmetric, from_entries_push}
use Rattle.std.proofs.lemmas.List.Elements.{All-head, All-tail}
use Rattle.gft_io.specs.Memory.{contents, files_of, IsUnnamed, IsFirstNamed}

-- a file: its name and its content
abbrev pub File : Type 0
File = List ℕ × Vec ℕ Global

abbrev R : List ℕ → List ℕ → Ordering
R = slice_cmp nat_cmp

is_equal : (o : Ordering) → is_eq o ≡ true → o ≡ Equal
is_equal Less e = cc
is_equal Equal e = refl
is_equal Greater e = cc

same_key : (a b : List ℕ) → eq_by_cmp R a b ≡ true → a ≡ b
same_key a b e = slice_cmp-IsAntisymmetric nat_cmp-IsAntisymmetric a b (is_equal (R a b) e)

same_test : (a b : List ℕ) → a ≡ b → eq_by_cmp R a b ≡ true
same_test a b e = let P : List ℕ → Type 0 = λ k. eq_by_cmp R a k ≡ true in subst P e (ap is_eq (tied_itself nat_list_cmp_total a))

other_test : (a b : List ℕ) → a ≢ b → eq_by_cmp R a b ≡ false
other_test a b ne = elim (eq_by_cmp R a b) as (λ t. eq_by_cmp R a b ≡ t → t ≡ false) [ true ↦ λ e. absurd (ne (same_key a b e)) | false ↦ λ e. refl ] refl

-- no file is found by a name that none has
pub find-unnamed : (files : List File) (name : List ℕ) → IsUnnamed name files → find R name (contents files) ≡ None
find-unnamed [] name h = refl
find-unnamed (f ∷ files) name h =
    let no : f.0 ≢ name = All-head (λ (file : File). file.0 ≢ name) f files h in
    ap (λ t. cond t (Some f.1.items) (find R name (contents files))) (other_test name f.0 (λ e. no (sym e))) ∙ find-unnamed files name (All-tail (λ (file : File). file.0 ≢ name) f files h)

later : (name : List ℕ) (f : File) (files : List File) (i : ℕ) → IsFirstNamed name (f ∷ files) (suc i) → IsFirstNamed name files i
later name f files i h = record {
  bound = omega (arith, h.bound);
  named = λ d. h.named d;
  before = λ k d below. h.before (suc k) d (omega arith);
}

-- the first file of a name is found by it
pub find-first : (files : List File) (name : List ℕ) (i : ℕ) (d : File) → IsFirstNamed name files i → find R name (contents files) ≡ Some (get_or files i d).1.items
find-first [] name i d h = absurd (omega (arith, h.bound))
find-first (f ∷ files) name zero d h =
    ap (λ t. cond t (Some f.1.items) (find R name (contents files))) (same_test name f.0 (sym (h.named d)))
find-first (f ∷ files) name (suc i) d h =
    ap (λ t. cond t (Some f.1.items) (find R name (contents files))) (other_test name f.0 (λ e. h.before 0 d (omega arith) (sym e))) ∙ find-first files name i d (later name f files i h)

shadowed : (b : Bool) (x y z : Option (List ℕ)) → cond b x z ≡ cond b x (cond b y z)
shadowed true x y z = refl
shadowed false x y z = refl

swapped : (a b : Bool) (x y z : Option (List ℕ)) → (a ≡ true → b ≡ true → ⊥) → cond a x (cond b y z) ≡ cond b y (cond a x z)
swapped true true x y z apart = absurd (apart refl refl)
swapped true false x y z apart = refl
swapped false b x y z apart = refl

-- what is found after the first file of a name got another content
find-set : (files : List File) (name : List ℕ) (i : ℕ) (v : Vec ℕ Global) (q : List ℕ) → IsFirstNamed name files i → find R q (contents (set files i (name, v))) ≡ cond (eq_by_cmp R q name) (Some v.items) (find R q (contents files))
find-set [] name i v q h = absurd (omega (arith, h.bound))
find-set (f ∷ files) name zero v q h =
    shadowed (eq_by_cmp R q name) (Some v.items) (Some f.1.items) (find R q (contents files)) ∙ ap (λ k. cond (eq_by_cmp R q name) (Some v.items) (cond (eq_by_cmp R q k) (Some f.1.items) (find R q (contents files)))) (sym (h.named f))
find-set (f ∷ files) name (suc i) v q h =
    ap (λ r. cond (eq_by_cmp R q f.0) (Some f.1.items) r) (find-set files name i v q (later name f files i h))
    ∙ swapped (eq_by_cmp R q f.0) (eq_by_cmp R q name) _ _ _ (λ a b. h.before 0 f (omega arith) (sym (same_key q f.0 a) ∙ same_key q name b))

-- to give the first file of a name another content is to insert it
pub files_of-set : (files : List File) (key name : List ℕ) (i : ℕ) (v : Vec ℕ Global) → key ≡ name → IsFirstNamed name files i → files_of (set files i (key, v)) ≡ insert (files_of files) name v.items
files_of-set files key name i v e h =
    ap (λ k. files_of (set files i (k, v))) e ∙ same_map nat_list_cmp_total (slice_cmp-IsAntisymmetric nat_cmp-IsAntisymmetric) _ _ (λ q.
    get-from_entries nat_list_cmp_total (contents (set files i (name, v))) q ∙ find-set files name i v q h
    ∙ sym (get-insert nat_list_cmp_total (files_of files) name v.items q ∙ ap (cond (eq_by_cmp R q name) (Some v.items)) (get-from_entries nat_list_cmp_total (contents files) q)))

contents-push : (files : List File) (f : File) → contents (files ++ f ∷ []) ≡ contents files ++ (f.0, f.1.items) ∷ []
contents-push [] f = refl
contents-push (g ∷ files) f = ap (λ es. (g.0, g.1.items) ∷ es) (contents-push files f)

-- to add a file of a new name is to insert it
pub files_of-push : (files : List File) (name : List ℕ) (v : Vec ℕ Global) → IsUnnamed name files → files_of (files ++ (name, v) ∷ []) ≡ insert (files_of files) name v.items
files_of-push files name v h =
    ap from_entries (contents-push files (name, v)) ∙ from_entries_push nat_list_cmp_total (slice_cmp-IsAntisymmetric nat_cmp-IsAntisymmetric) (contents files) name v.items (find-unnamed files name h)

-- what is looked up is what is found
pub get-files_of : (files : List File) (name : List ℕ) → get (files_of files) name ≡ find R name (contents files)
get-files_of files name = get-from_entries nat_list_cmp_total (contents files) name
