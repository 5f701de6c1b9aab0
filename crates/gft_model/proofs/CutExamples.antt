-- Worked examples of what a string shows of a tree.
use Rattle.std.specs.Prelude.{◌≡◌, List, [], ◌∷◌, codes}
use Rattle.std.proofs.Common.{refl, ap}
use Rattle.gft_core.specs.declared.tree.Tree.{Tree, App, Hole}
use Rattle.gft_core.specs.declared.tree.Tree.TheOpen as layer
use Rattle.gft_model.proofs.Layers.{by_layers, by_layers-App}
use Rattle.gft_model.specs.Brackets.{Piece, word, grammar, bracketed, erased}
use Rattle.gft_model.specs.Cut.{Cutting, cut_of, cut_step}

-- `Same light (mk light)`
abbrev same : Tree
same = App (codes "Same") (App (codes "light") [] ∷ App (codes "mk") (App (codes "light") [] ∷ []) ∷ [])

-- its string `tag`: the second argument gives it, and the root hands it on
abbrev tag : List Piece
tag = bracketed [] (bracketed (2 ∷ []) (word grammar (codes "tag") ∷ []))

words : erased tag ≡ codes "tag" ∷ []
words = refl

cuts : by_layers Cutting (cut_step tag) same
    ≡ cut_step tag (layer.App (codes "Same") (cut_step tag (layer.App (codes "light") []) ∷ cut_step tag
    (layer.App (codes "mk") (cut_step tag (layer.App (codes "light") []) ∷ [])) ∷ []))
cuts = simp by_layers-App

-- neither kind is shown
cut : cut_of same tag ≡ App (codes "Same") (Hole 1 ∷ App (codes "mk") (Hole 2 ∷ []) ∷ [])
cut = ap (λ (g : Cutting). (g [] 1).0) cuts

-- an empty bracket shows its position too
empty_is_shown : cut_of (App (codes "Blank") []) (bracketed [] []) ≡ App (codes "Blank") []
empty_is_shown =
    ap (λ (g : Cutting). (g [] 1).0) (by_layers-App (cut_step (bracketed [] [])) (codes "Blank") [])

-- where nothing is shown the whole tree is one hole
nothing_is_shown : cut_of same [] ≡ Hole 1
nothing_is_shown = ap (λ (g : Cutting). (g [] 1).0) (by_layers-App (cut_step []) (codes "Same") _)
