-- Worked example of a tree without a solution: `Do fan fan nope` of Home.
use Rattle.std.proofs.Common.{◌≡◌, refl, sym, ap, ◌∙◌, subst, ℕ, zero, suc, List, [], ◌∷◌, true, false, arith, inl, inr}
use Rattle.std.specs.Prelude.{codes, bytes_eq, length, Contains, Some, None, option_map}
use Rattle.std.specs.Cmp.Lexicographic.{slice_cmp}
use Rattle.std.specs.Ordering.{nat_cmp, ordering_then}
use Rattle.gft_tree.proofs.OrderLemmas.{lt_less}
use Rattle.gft_core.specs.declared.tree.Tree.{out-Tree, Tree, App}
use Rattle.gft_core.specs.declared.tree.Tree.TheOpen.{Tree-F}
use Rattle.gft_core.specs.declared.tree.Tree.TheVariants.{outs-App}
use Rattle.gft_pmcfg.specs.declared.signature.AType.{AType}
use Rattle.gft_pmcfg.specs.declared.signature.Fun.{Fun}
use Rattle.gft_rules.specs.declared.refusal.Refusal.{Refusal}
use Rattle.gft_rules.specs.declared.rule.Rule.TheVariants.{WrongCategory}
use Rattle.gft_model.specs.Refusals.{placeless}
use Rattle.gft_model.specs.Trees.{subtree_at, subtree_of, child_at, filled}
use Rattle.gft_model.specs.Typing.{HoleTypes, HasType, HaveTypes, type_at}
use Rattle.gft_model.specs.Unsolved.{layer_at, MustHave, argument, HasCategory, application, integer, text, hole, IsWrongAt, unknown_fun, wrong_arity, wrong_category, ComesFirst, function_named, wrong, IsSolvable, IsUnsolved}
use Rattle.gft_model.proofs.InfoExamples.{home, indexed, do_fun, fan_fun}
use Rattle.gft_model.proofs.TreeLemmas.{filled-App}
use Rattle.gft_model.proofs.TypingLemmas.{applies, first_type, other_types}
use Rattle.gft_model.proofs.UnsolvedLaws.{not_nil, applies_once, must_once, has_once}

abbrev fan : Tree
fan = App (codes "fan") []

abbrev arguments : List Tree
arguments = fan ∷ fan ∷ App (codes "nope") [] ∷ []

abbrev tree : Tree
tree = App (codes "Do") arguments

-- what stands where
part : (i : ℕ) (q : List ℕ) → subtree_at tree (i ∷ q) ≡ subtree_of (child_at (Tree-F.App (codes "Do") arguments) i) q
part i q = ap (λ (l : Tree-F Tree). subtree_of (child_at l i) q) (outs-App (codes "Do") arguments)

no_part : (j : ℕ) (r : List ℕ) → subtree_of (Some fan) (j ∷ r) ≡ None
no_part j r = ap (λ (l : Tree-F Tree). subtree_of (child_at l j) r) (outs-App (codes "fan") [])

at_root : layer_at tree [] ≡ Some (Tree-F.App (codes "Do") arguments)
at_root = ap Some (outs-App _ _)

at_one : layer_at tree (1 ∷ []) ≡ Some (Tree-F.App (codes "fan") [])
at_one = ap (option_map out-Tree) (part 1 []) ∙ ap Some (outs-App _ _)

at_two : layer_at tree (2 ∷ []) ≡ Some (Tree-F.App (codes "fan") [])
at_two = ap (option_map out-Tree) (part 2 []) ∙ ap Some (outs-App _ _)

-- nothing is wrong where nothing stands
nothing_wrong : {p : List ℕ} {k : ℕ} {r : Refusal} → subtree_at tree p ≡ None → ¬ IsWrongAt home tree p k r
nothing_wrong e (unknown_fun x f) = let s = sym (ap (option_map out-Tree) e) ∙ x in cc
nothing_wrong e (wrong_arity x f n) = let s = sym (ap (option_map out-Tree) e) ∙ x in cc
nothing_wrong e (wrong_category m (application x f) n) = let s = sym (ap (option_map out-Tree) e) ∙ x in cc
nothing_wrong e (wrong_category m (integer x) n) = let s = sym (ap (option_map out-Tree) e) ∙ x in cc
nothing_wrong e (wrong_category m (text x) n) = let s = sym (ap (option_map out-Tree) e) ∙ x in cc
nothing_wrong e (wrong_category m (hole x y f h) n) = let s = sym (ap (option_map out-Tree) e) ∙ x in cc

-- a function that is there, with its arguments
known : (p : List ℕ) {name : List ℕ} {ts : List Tree} {f : Fun} {k : ℕ} {r : Refusal} → layer_at tree p ≡ Some (Tree-F.App name ts)
    → function_named home.funs name ≡ Some f → length ts ≡ length f.args → IsWrongAt home tree p k r → k ≡ 2
known p x e l (unknown_fun y f) = let h = ap (function_named home.funs) (applies_once home tree p x y).0 in cc
known p {f = f} x e l (wrong_arity {f = g} y d n) =
    let h = applies_once home tree p x y in
    let functions : f ≡ g = let names = ap (function_named home.funs) h.0 in cc in
    absurd (n (sym (ap length h.1) ∙ l ∙ ap (λ (m : Fun). length m.args) functions))
known p x e l (wrong_category m h n) = refl

must_one : MustHave home tree (1 ∷ []) 5
must_one = argument [] 0 refl at_root refl refl

must_two : MustHave home tree (2 ∷ []) 2
must_two = argument [] 1 refl at_root refl refl

has_one : HasCategory home tree (1 ∷ []) 5
has_one = application at_one refl

has_two : HasCategory home tree (2 ∷ []) 5
has_two = application at_two refl

-- the root and the first argument are right
root_right : {k : ℕ} {r : Refusal} → ¬ IsWrongAt home tree [] k r
root_right (wrong_category (argument q i e x f g) h n) = not_nil q (suc i) e
root_right (unknown_fun x e) = absurd (omega (arith, known [] at_root refl refl (unknown_fun x e)))
root_right (wrong_arity x e n) = absurd (omega (arith, known [] at_root refl refl (wrong_arity x e n)))

one_right : {k : ℕ} {r : Refusal} → ¬ IsWrongAt home tree (1 ∷ []) k r
one_right (wrong_category m h n) = n (must_once home tree m must_one ∙ has_once home tree has_one h)
one_right (unknown_fun x e) = absurd (omega (arith, known (1 ∷ []) at_one refl refl (unknown_fun x e)))
one_right (wrong_arity x e n) = absurd (omega (arith, known (1 ∷ []) at_one refl refl (wrong_arity x e n)))

-- so the second argument comes first
first : (q : List ℕ) (k : ℕ) (r : Refusal) → IsWrongAt home tree q k r → ComesFirst (2 ∷ []) 2 q k
first [] k r w = absurd (root_right w)
first (zero ∷ q) k r w = absurd (nothing_wrong (part 0 q) w)
first (suc zero ∷ []) k r w = absurd (one_right w)
first (suc zero ∷ j ∷ q) k r w = absurd (nothing_wrong (part 1 (j ∷ q) ∙ no_part j q) w)
first (suc (suc zero) ∷ []) k r w = inr (refl, omega (arith, known (2 ∷ []) at_two refl refl w))
first (suc (suc zero) ∷ j ∷ q) k r w = inl refl
first (suc (suc (suc i)) ∷ q) k r w =
    inl (ap (λ o. ordering_then o (slice_cmp nat_cmp [] q)) (lt_less 2 (suc (suc (suc i))) (omega arith)))

-- it has no solution: the second argument is no action
is_do : (f : Fun) → Contains home.funs f → f.name ≡ codes "Do" → do_fun ≡ f
is_do f (zero, b, e) n = e
is_do f (suc zero, b, e) n = let wrong : false ≡ true =
    ap (λ (g : Fun). bytes_eq g.name (codes "Do")) e ∙ ap (λ m. bytes_eq m (codes "Do")) n in cc
is_do f (suc (suc k), b, e) n = absurd (omega (arith, b))

is_fan : (f : Fun) → Contains home.funs f → f.name ≡ codes "fan" → fan_fun ≡ f
is_fan f (zero, b, e) n = let wrong : false ≡ true =
    ap (λ (g : Fun). bytes_eq g.name (codes "fan")) e ∙ ap (λ m. bytes_eq m (codes "fan")) n in cc
is_fan f (suc zero, b, e) n = e
is_fan f (suc (suc k), b, e) n = absurd (omega (arith, b))

no_type : (T : HoleTypes) (type : AType) → ¬ HasType home T tree type
no_type T type d =
    let whole = applies (codes "Do") arguments (outs-App _ _) d in
    let is = is_do whole.function whole.listed whole.name in
    let given = subst (λ (f : Fun). HaveTypes home T [] f.args arguments) (sym is) whole.arguments in
    let second = applies (codes "fan") [] (outs-App _ _) (first_type (other_types given)) in
    let types : type_at (fan ∷ []) (indexed 2) ≡ type_at [] fan_fun.result = second.result
    ∙ ap (λ (f : Fun). type_at [] f.result) (sym (is_fan second.function second.listed second.name)) in
    absurd (omega (arith, ap (λ (t : AType). t.cat) types))

unsolvable : ¬ IsSolvable home tree
unsolvable s =
    let itself : filled s.1.instance.0 tree ≡ tree = simp filled-App in
    let same : s.0 ≡ tree = s.1.instance.1 ∙ itself in
    let typed = s.1.typed in
    no_type typed.0 typed.2 (subst (λ (t : Tree). HasType home typed.0 t typed.2) same typed.3)

-- `l Do fan fan nope` is refused for its second argument, not for the unknown function after it
refused : IsUnsolved home tree (placeless WrongCategory (codes "Action" ∷ codes "Kind" ∷ []))
refused = (
  unsolvable,
  wrong {p = 2 ∷ []} {kind = 2} (wrong_category must_two has_two (λ e. absurd (omega (arith, e)))) first,
)
