-- Why a tree of a command has no solution: the first rule that it breaks.
use Rattle.std.specs.Prelude.{◌≡◌, ◌≢◌, ◌⊎◌, ◌<◌, ◌≤◌, ℕ, suc, List, [], ◌∷◌, ◌++◌, length, bytes_eq, Option, Some, None, slice_get}
use Rattle.std.specs.List.{find}
use Rattle.std.specs.Option.{option_map}
use Rattle.std.specs.Cmp.Lexicographic.{slice_cmp}
use Rattle.std.specs.Ordering.{nat_cmp}
use Rattle.std.specs.declared.cmp.Ordering.TheVariants.{Less}
use Rattle.gft_core.specs.declared.tree.Tree.{Tree, out-Tree}
use Rattle.gft_core.specs.declared.tree.Tree.TheOpen.{Tree-F, App, Int, Str, Hole}
use Rattle.gft_pmcfg.specs.declared.signature.AType.{AType}
use Rattle.gft_pmcfg.specs.declared.signature.Abstract.{Abstract}
use Rattle.gft_pmcfg.specs.declared.signature.Fun.{Fun}
use Rattle.gft_rules.specs.declared.refusal.Refusal.{Refusal}
use Rattle.gft_rules.specs.declared.rule.Rule.TheVariants.{UnknownFun, WrongArity, WrongCategory, IllTyped}
use Rattle.gft_model.specs.Refusals.{placeless}
use Rattle.gft_model.specs.Solutions.{IsSolution}
use Rattle.gft_model.specs.States.{category_name}
use Rattle.gft_model.specs.Trees.{subtree_at, text_of}

-- Positions, as lists of argument numbers, are in pre-order by their numbers: a tree before its arguments.

-- the layer of the subtree at a position
abbrev pub layer_at : Tree → List ℕ → Option (Tree-F Tree)
layer_at t p = option_map out-Tree (subtree_at t p)

-- the function of a name
abbrev pub function_named : List Fun → List ℕ → Option Fun
function_named fs name = find (λ f. bytes_eq f.name name) fs

-- the category that an argument must have, by its function
pub data MustHave (a : Abstract) (t : Tree) (p : List ℕ) : ℕ → Type 0 where
  argument : (q : List ℕ) (i : ℕ) {name : _} {f : Fun} {ts : _} {type : AType} → p ≡ q ++ suc i ∷ [] →
      layer_at t q ≡ Some (App name ts) → function_named a.funs name ≡ Some f → slice_get f.args i ≡ Some type →
      MustHave a t p type.cat

-- the category that the subtree at a position has; a hole has the one that it must have where it first occurs
pub data HasCategory (a : Abstract) (t : Tree) (p : List ℕ) : ℕ → Type 0 where
  application : {name ts : _} {f : Fun} → layer_at t p ≡ Some (App name ts) → function_named a.funs name ≡ Some f →
      HasCategory a t p f.result.cat
  integer : {n : _} → layer_at t p ≡ Some (Int n) → HasCategory a t p 0
  text : {w : _} → layer_at t p ≡ Some (Str w) → HasCategory a t p 1
  hole : {q k cat : _} → layer_at t p ≡ Some (Hole k) → layer_at t q ≡ Some (Hole k) →
      ((r : List ℕ) → layer_at t r ≡ Some (Hole k) → slice_cmp nat_cmp r q ≢ Less) → MustHave a t q cat → HasCategory a t p cat

-- what is wrong at a position, in the order of kinds: a function that is not there, one with another number of
-- arguments, an argument of another category
pub data IsWrongAt (a : Abstract) (t : Tree) (p : List ℕ) : ℕ → Refusal → Type 0 where
  unknown_fun : {name ts : _} → layer_at t p ≡ Some (App name ts) → function_named a.funs name ≡ None →
      IsWrongAt a t p 0 (placeless UnknownFun (name ∷ []))
  wrong_arity : {name : _} {f : Fun} {ts : _} → layer_at t p ≡ Some (App name ts) → function_named a.funs name ≡ Some f →
      length ts ≢ length f.args → IsWrongAt a t p 1 (placeless WrongArity (name ∷ []))
  wrong_category : {wanted found : _} → MustHave a t p wanted → HasCategory a t p found → wanted ≢ found →
      IsWrongAt a t p 2 (placeless WrongCategory (category_name a wanted ∷ category_name a found ∷ []))

-- by position in pre-order, and at one position by kind
abbrev pub ComesFirst : List ℕ → ℕ → List ℕ → ℕ → Type 0
ComesFirst p kind q other = (slice_cmp nat_cmp p q ≡ Less) ⊎ ((p ≡ q) × (kind ≤ other))

-- one position is before another in post-order: in one of its arguments, or further to the left
pub data IsSooner : List ℕ → List ℕ → Type 0 where
  within : (p : List ℕ) (i : ℕ) (r : List ℕ) → IsSooner (p ++ i ∷ r) p
  left : (p r s : List ℕ) (i j : ℕ) → i < j → IsSooner (p ++ i ∷ r) (p ++ j ∷ s)

abbrev pub IsSolvable : Abstract → Tree → Type 0
IsSolvable a t = (solution : Tree) × IsSolution a t solution

-- why a tree has no solution: what is wrong first, else its first subtree that has none by itself
pub data IsReason (a : Abstract) (t : Tree) : Refusal → Type 0 where
  wrong : {p kind r : _} → IsWrongAt a t p kind r →
      ((q : List ℕ) (other : ℕ) (s : Refusal) → IsWrongAt a t q other s → ComesFirst p kind q other) → IsReason a t r
  ill_typed : {p u : _} → ((q : List ℕ) (kind : ℕ) (s : Refusal) → ¬ IsWrongAt a t q kind s) → subtree_at t p ≡ Some u →
      ¬ IsSolvable a u → ((q : List ℕ) (v : Tree) → IsSooner q p → subtree_at t q ≡ Some v → IsSolvable a v) →
      IsReason a t (placeless IllTyped (text_of u ∷ []))

-- the refusal of a tree without a solution
abbrev pub IsUnsolved : Abstract → Tree → Refusal → Type 0
IsUnsolved a t r = (¬ IsSolvable a t) × IsReason a t r
