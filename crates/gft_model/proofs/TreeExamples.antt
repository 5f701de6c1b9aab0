-- Worked examples of trees.
use Rattle.std.specs.Prelude.{◌≡◌, [], ◌∷◌, codes, Some, None}
use Rattle.std.proofs.Common.{ap, ◌∙◌, true}
use Rattle.std.specs.Fmt.{digits}
use Rattle.gft_core.specs.declared.tree.Tree.{Tree, App, Int, Str, Hole}
use Rattle.gft_core.specs.declared.tree.Tree.TheOpen.{Tree-F}
use Rattle.gft_core.specs.declared.tree.Tree.TheVariants.{outs-App}
use Rattle.gft_model.proofs.Layers.{by_layers-App, by_layers-Int, by_layers-Str, by_layers-Hole}
use Rattle.gft_model.specs.Trees.{text_of, depth_of, holes_of, subtree_at, subtree_of, child_at, printed, Printed}

-- `Same ?1 (mk ?2)`
abbrev same : Tree
same = App (codes "Same") (Hole 1 ∷ App (codes "mk") (Hole 2 ∷ []) ∷ [])

written : printed same ≡ (codes "Same ?1 (mk ?2)", true)
unfolding digits
written = simp (by_layers-App, by_layers-Hole)

text : text_of same ≡ codes "Same ?1 (mk ?2)"
text = ap (λ (w : Printed). w.0) written

depth : depth_of same ≡ 3
depth = simp (by_layers-App, by_layers-Hole)

holes : holes_of same ≡ 1 ∷ 2 ∷ []
holes = simp (by_layers-App, by_layers-Hole)

-- its second argument's first
inner : subtree_at same (2 ∷ 1 ∷ []) ≡ Some (Hole 2)
inner =
    ap (λ (l : Tree-F Tree). subtree_of (child_at l 2) (1 ∷ [])) (outs-App (codes "Same") _)
    ∙ ap (λ (l : Tree-F Tree). subtree_of (child_at l 1) []) (outs-App (codes "mk") _)

-- there is no argument 3
no_third : subtree_at same (3 ∷ []) ≡ None
no_third = ap (λ (l : Tree-F Tree). subtree_of (child_at l 3) []) (outs-App (codes "Same") _)

-- a string literal with a quote in it
abbrev say : Tree
say = App (codes "say") (Str (codes "a\"b") ∷ Int 7 ∷ [])

quoted : printed say ≡ (codes "say \"a\\\"b\" 7", true)
unfolding digits
quoted = simp (by_layers-App, by_layers-Str, by_layers-Int)
