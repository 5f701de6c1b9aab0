-- Worked examples of generated trees: in Home `Wait fan` within depth 2, and not within depth 1.
use Rattle.std.proofs.Common.{◌≡◌, refl, sym, subst, ℕ, List, [], ◌∷◌, arith}
use Rattle.std.specs.Prelude.{codes, All, Contains}
use Rattle.gft_core.specs.declared.tree.Tree.{Tree, App}
use Rattle.gft_core.specs.declared.tree.Tree.TheVariants.{outs-App}
use Rattle.gft_model.specs.Generated.{literals_of, literals_in, IsGenerated}
use Rattle.gft_model.specs.Trees.{depth_of}
use Rattle.gft_model.specs.Typing.{application, none, more}
use Rattle.gft_model.proofs.Home.{home, wait, fan}
use Rattle.gft_model.proofs.Layers.{by_layers-App}

abbrev wait_fan : Tree
wait_fan = App (codes "Wait") (App (codes "fan") [] ∷ [])

no_literals : literals_of wait_fan ≡ []
no_literals = simp by_layers-App

two_deep : depth_of wait_fan ≡ 2
two_deep = simp by_layers-App

none_of : (P : Tree → Type 0) → All P []
none_of P k d b = absurd (omega (arith, b))

pub wait_is_generated : IsGenerated home 2 2 wait_fan
wait_is_generated = record {
  indices = [];
  typed = application {f = wait} (1, omega arith, refl) (outs-App _ _)
      (more (application {f = fan} (2, omega arith, refl) (outs-App _ _) none) none);
  within = omega (arith, two_deep);
  literals = subst (All (Contains (literals_in home))) (sym no_literals) (none_of (Contains (literals_in home)));
}

pub too_deep : ¬ (IsGenerated home 2 1 wait_fan)
too_deep g = omega (arith, g.within, two_deep)
