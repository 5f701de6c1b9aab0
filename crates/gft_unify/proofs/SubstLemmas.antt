-- What a settled substitution gives to the holes of its own trees.
use Rattle.std.proofs.Common.{◌≡◌, ℕ, nat_eq, List, Option, None, Some, unwrap_or, refl, sym, ap, subst, ◌∙◌, arith}
use Rattle.std.specs.Option.{is_some}
use Rattle.std.specs.Map.{lookup}
use Rattle.gft_core.specs.declared.tree.Tree.{Tree}
use Rattle.gft_core.specs.declared.tree.Tree.TheVariants.{Hole}
use Rattle.gft_unify.specs.Instances.{inst, hole_count, StandsIn}
use Rattle.gft_unify.specs.Substitutions.{tree_at, IsSettled}
use Rattle.gft_unify.proofs.Equations.{inst-Hole, StandsIn-Hole}
use Rattle.gft_unify.proofs.TreeLemmas.{inst-same}

module _ (sub : List (ℕ × Tree)) (settled : IsSettled sub) (k : ℕ) (t : Tree) (bound : Some t ≡ lookup (nat_eq k) sub) where
  given : tree_at sub k ≡ t
  given = ap (λ o. unwrap_or o (Hole k)) (sym bound)

  -- a hole that stands in a bound tree is left
  loose_inside : (j : ℕ) → StandsIn j t → tree_at sub j ≡ Hole j
  loose_inside j stands = by (lookup (nat_eq j) sub) refl
    where
      by : (o : Option Tree) → lookup (nat_eq j) sub ≡ o → tree_at sub j ≡ Hole j
      by None e = ap (λ o. unwrap_or o (Hole j)) e
      by (Some x) e =
          let none = settled k j (ap is_some e) in let same = ap (hole_count (nat_eq j)) given in absurd (omega arith)

  pub bound-same : (tree : Tree) → tree ≡ Hole k → inst (tree_at sub) t ≡ inst (tree_at sub) tree
  bound-same tree e = inst-same (tree_at sub) t loose_inside ∙ sym given ∙ sym (inst-Hole (tree_at sub) k) ∙ ap (inst (tree_at sub)) (sym e)

  pub bound-fixed : (j : ℕ) → t ≡ Hole j → tree_at sub j ≡ Hole j
  bound-fixed j e = loose_inside j (subst (StandsIn j) (sym e) (StandsIn-Hole j))
