-- The definitions at small trees, worked out by hand.
use Rattle.std.proofs.Common.{◌≡◌, ℕ, nat_eq, List, [], ◌∷◌, refl, ap, ap₂, ◌∙◌, arith}
use Rattle.gft_core.specs.declared.tree.Tree.{Tree}
use Rattle.gft_core.specs.declared.tree.Tree.TheVariants.{App, Int, Hole}
use Rattle.gft_unify.specs.Instances.{inst, StandsIn}
use Rattle.gft_unify.specs.Substitutions.{tree_at}
use Rattle.gft_unify.specs.Heads.{function, head_of}
use Rattle.gft_unify.specs.Bindings.{solved}
use Rattle.gft_unify.proofs.Equations.{inst-App, inst-Int, inst-Hole, hole_count-App, StandsIn-Hole, head_of-App}

-- the substitution of 7 for hole 1
abbrev seven : List (ℕ × Tree)
seven = (1, Int 7) ∷ []

tree_at_bound : tree_at seven 1 ≡ Int 7
tree_at_bound = refl

tree_at_loose : tree_at seven 2 ≡ Hole 2
tree_at_loose = refl

-- 102 is the letter f
abbrev f_of : List Tree → Tree
f_of xs = App (102 ∷ []) xs

instance : inst (tree_at seven) (f_of (Hole 1 ∷ Hole 2 ∷ [])) ≡ f_of (Int 7 ∷ Hole 2 ∷ [])
instance = inst-App (tree_at seven) (102 ∷ []) (Hole 1 ∷ Hole 2 ∷ []) ∙ ap₂ (λ x y. f_of (x ∷ y ∷ [])) (inst-Hole (tree_at seven) 1) (inst-Hole (tree_at seven) 2)

stands : StandsIn 1 (f_of (Hole 2 ∷ Hole 1 ∷ []))
stands = omega (arith, hole_count-App (nat_eq 1) (102 ∷ []) (Hole 2 ∷ Hole 1 ∷ []), StandsIn-Hole 1)

head : head_of (f_of (Hole 1 ∷ [])) ≡ function (102 ∷ []) 1
head = head_of-App (102 ∷ []) (Hole 1 ∷ [])

-- hole 1 is bound to hole 2, and then hole 2 to 7
chain : solved ((1, Hole 2) ∷ (2, Int 7) ∷ []) 1 ≡ Int 7
chain =
    ap (inst _) (inst-Hole _ 1 ∙ inst-Hole Hole 2) ∙ inst-Hole _ 2 ∙ inst-Int _ 7
