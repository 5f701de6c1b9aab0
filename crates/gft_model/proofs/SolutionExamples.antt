-- Worked examples of solutions.
use Rattle.std.specs.Prelude.{◌≡◌, zero, suc, true, false, List, [], ◌∷◌, codes, Contains, slice_index_or}
use Rattle.std.specs.Str.{bytes_eq}
use Rattle.std.proofs.Common.{refl, sym, ap, ◌∙◌, subst, arith, rules}
use Rattle.gft_core.specs.declared.tree.Tree.{Tree, App, Hole}
use Rattle.gft_core.specs.declared.tree.Tree.TheVariants.{outs-App, outs-Hole}
use Rattle.gft_pmcfg.specs.declared.signature.AType.{AType}
use Rattle.gft_pmcfg.specs.declared.signature.Fun.{Fun}
use Rattle.gft_model.specs.Trees.{filled}
use Rattle.gft_model.specs.Typing.{HoleTypes, HasType, HaveTypes, hole, application, none, more, empty, later, IsAdmitted, type_at, value_of}
use Rattle.gft_model.specs.Solutions.{HasSolvedTypes, IsSolution}
use Rattle.gft_model.proofs.Home.{home, same, wait, mk, cmd, kind, tag}
use Rattle.gft_model.proofs.TreeLemmas.{filled-App, filled-Hole, holes_of-App, holes_of-Hole, same_parts, same_number, no_hole}
use Rattle.gft_model.proofs.TypingLemmas.{applies, first_type, other_types}

-- `Same x (mk y)`
abbrev pub same_of : Tree → Tree → Tree
same_of x y = App (codes "Same") (x ∷ App (codes "mk") (y ∷ []) ∷ [])

abbrev wait_for : Tree → Tree
wait_for x = App (codes "Wait") (x ∷ [])

-- the functions are told apart by their names
pub is_same : (f : Fun) → Contains home.funs f → f.name ≡ codes "Same" → f ≡ same
is_same f (zero, b, g) n = sym g
is_same f (suc zero, b, g) n = let e : false ≡ true = ap (λ (h : Fun). bytes_eq h.name (codes "Same")) g
    ∙ ap (λ m. bytes_eq m (codes "Same")) n in cc
is_same f (suc (suc zero), b, g) n = let e : false ≡ true =
    ap (λ (h : Fun). bytes_eq h.name (codes "Same")) g ∙ ap (λ m. bytes_eq m (codes "Same")) n in cc
is_same f (suc (suc (suc zero)), b, g) n = let e : false ≡ true =
    ap (λ (h : Fun). bytes_eq h.name (codes "Same")) g ∙ ap (λ m. bytes_eq m (codes "Same")) n in cc
is_same f (suc (suc (suc (suc k))), b, g) n = absurd (omega (arith, b))

pub is_mk : (f : Fun) → Contains home.funs f → f.name ≡ codes "mk" → f ≡ mk
is_mk f (zero, b, g) n = let e : false ≡ true = ap (λ (h : Fun). bytes_eq h.name (codes "mk")) g
    ∙ ap (λ m. bytes_eq m (codes "mk")) n in cc
is_mk f (suc zero, b, g) n = let e : false ≡ true = ap (λ (h : Fun). bytes_eq h.name (codes "mk")) g
    ∙ ap (λ m. bytes_eq m (codes "mk")) n in cc
is_mk f (suc (suc zero), b, g) n = let e : false ≡ true =
    ap (λ (h : Fun). bytes_eq h.name (codes "mk")) g ∙ ap (λ m. bytes_eq m (codes "mk")) n in cc
is_mk f (suc (suc (suc zero)), b, g) n = sym g
is_mk f (suc (suc (suc (suc k))), b, g) n = absurd (omega (arith, b))

-- one hole of type Kind
abbrev pub kinds : HoleTypes
kinds = (1, kind) ∷ []

admitted : IsAdmitted home kinds
admitted = (
  kinds,
  record { moves = []; below = search rules; is = refl },
  later empty (λ h. absurd (omega (arith, h.1))) (record {
    category = record {
      name =
          codes "Kind";
      context = [];
    };
    numbered = refl;
    indices = none;
  }),
)

pub hole_typed : HasType home kinds (Hole 1) kind
hole_typed = hole (outs-Hole 1) (omega arith) (0, omega arith, refl)

pub solution_typed : HasType home kinds (same_of (Hole 1) (Hole 1)) cmd
solution_typed = application {f =
    same} (0, omega arith, refl) (outs-App _ _) (more hole_typed (more (application {f = mk}
    (3, omega arith, refl) (outs-App _ _) (more hole_typed none)) none))

-- where `Same x (mk y)` has a type, x is y
pub equal_kinds : (T : HoleTypes) (type : AType) (x y : Tree) → HasType home T (same_of x y) type → x ≡ y
equal_kinds T type x y d =
    let whole = applies (codes "Same") (x ∷ App (codes "mk") (y ∷ []) ∷ []) (outs-App _ _) d in
    let arguments : HaveTypes home T [] (kind ∷ tag ∷ []) (x ∷ App (codes "mk") (y ∷ []) ∷ [])
    = subst (λ (f : Fun). HaveTypes home T [] f.args (x ∷ App (codes "mk") (y ∷ []) ∷ []))
    (is_same whole.function whole.listed whole.name) whole.arguments in
    let part = applies (codes "mk") (y ∷ []) (outs-App _ _) (first_type (other_types arguments)) in
    let types : type_at (x ∷ []) tag ≡ type_at (y ∷ []) tag
    = part.result ∙ ap (λ (f : Fun). type_at (y ∷ []) f.result) (is_mk part.function part.listed part.name) in
    let indices = ap (λ (t : AType). slice_index_or t.args 0 (Hole 0)) types in
    sym (filled-Hole (value_of (x ∷ [])) 1) ∙ indices ∙ filled-Hole (value_of (y ∷ [])) 1

-- the solution of `Same ?1 (mk ?2)` is `Same ?1 (mk ?1)`
same_is_solved : IsSolution home (same_of (Hole 1) (Hole 2)) (same_of (Hole 1) (Hole 1))
same_is_solved = record {
  instance = ((λ _. Hole 1), simp (filled-App, filled-Hole));
  typed = (kinds, admitted, cmd, solution_typed);
  general = λ t i h.
      let shape : filled i.0 (same_of (Hole 1) (Hole 2)) ≡ same_of (i.0 1) (i.0 2) =
      simp (filled-App, filled-Hole) in
      let is : t ≡ same_of (i.0 1) (i.0 2) = i.1 ∙ shape in
      let equal = equal_kinds h.0 h.2 (i.0 1) (i.0 2) (subst (λ (s : Tree). HasType home h.0 s h.2) is h.3) in
      let made : filled i.0 (same_of (Hole 1) (Hole 1)) ≡ same_of (i.0 1) (i.0 1) =
      simp (filled-App, filled-Hole) in
      (i.0, is ∙ ap (λ (y : Tree). same_of (i.0 1) y) (sym equal) ∙ sym made);
  numbered = simp (holes_of-App, holes_of-Hole);
}

-- it is no solution of itself, since it has no type
two_holes_are_no_solution : ¬ IsSolution home (same_of (Hole 1) (Hole 2)) (same_of (Hole 1) (Hole 2))
two_holes_are_no_solution s =
    let one_is_two =
    same_number 1 2 (equal_kinds s.typed.0 s.typed.2 (Hole 1) (Hole 2) s.typed.3) in
    absurd (omega (arith, one_is_two))

-- a hole that may be any kind is not filled: `Wait fan` is no solution of `Wait ?1`
wait_typed : HasType home kinds (wait_for (Hole 1)) cmd
wait_typed = application {f = wait} (1, omega arith, refl) (outs-App _ _) (more hole_typed none)

first_inhabitant_is_no_solution : ¬ IsSolution home (wait_for (Hole 1)) (wait_for (App (codes "fan") []))
first_inhabitant_is_no_solution s =
    let itself : filled Hole (wait_for (Hole 1)) ≡ wait_for (Hole 1) = simp (filled-App, filled-Hole) in
    let there = s.general (wait_for (Hole 1)) (Hole, sym itself) (kinds, admitted, cmd, wait_typed) in
    let shape : filled there.0 (wait_for (App (codes "fan") [])) ≡ wait_for (App (codes "fan") [])
    = filled-App there.0 (codes "Wait") _ ∙ ap wait_for (filled-App there.0 (codes "fan") []) in
    let parts = same_parts _ _ _ _ (sym (there.1 ∙ shape)) in
    no_hole (codes "fan") [] 1 (ap (λ (ts : List Tree). slice_index_or ts 0 (Hole 0)) parts.1)

wait_is_solved : IsSolution home (wait_for (Hole 1)) (wait_for (Hole 1))
wait_is_solved = record {
  instance = (Hole, simp (filled-App, filled-Hole));
  typed = (kinds, admitted, cmd, wait_typed);
  general = λ t i h. i;
  numbered = simp (holes_of-App, holes_of-Hole);
}

-- a hole of `Tag` has the type `Tag ?2`, where `?2` is a kind
tag_hole : HasSolvedTypes home 4 (Hole 1) (record { cat = 4; args = Hole 2 ∷ [] }) (record {
  cat =
      4;
  args = Hole 2 ∷ [];
} ∷ kind ∷ [])
tag_hole = HasSolvedTypes.hole (outs-Hole 1) refl
