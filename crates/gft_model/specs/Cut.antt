-- What a string shows of a tree.
use Rattle.std.specs.Prelude.{ℕ, suc, ◌+◌, List, [], ◌∷◌, ◌++◌, if◌then◌else◌}
use Rattle.gft_core.specs.declared.tree.Tree.{Tree, App, Int, Str, Hole, fold-Tree}
use Rattle.gft_core.specs.declared.tree.Tree.TheOpen.{Tree-F}
use Rattle.gft_core.specs.declared.tree.Tree.TheOpen as layer
use Rattle.gft_model.specs.Brackets.{Piece, is_shown}

-- a tree whose outermost hidden parts become holes: it takes its position and the next number of a hole,
-- and gives the number after its own holes too
abbrev pub Cutting : Type 0
Cutting = List ℕ → ℕ → Tree × ℕ

-- the arguments from number i + 1 on, one after the other
abbrev pub cut_arguments : List ℕ → ℕ → List Cutting → ℕ → List Tree × ℕ
cut_arguments p i [] next = ([], next)
cut_arguments p i (cut ∷ cuts) next =
    let first = cut (p ++ suc i ∷ []) next in
    let rest = cut_arguments p (suc i) cuts first.1 in
    (first.0 ∷ rest.0, rest.1)

-- a tree that is shown keeps its head
abbrev pub kept : Tree-F Cutting → Cutting
kept (layer.App f cuts) p next = let args = cut_arguments p 0 cuts next in (App f args.0, args.1)
kept (layer.Int n) p next = (Int n, next)
kept (layer.Str w) p next = (Str w, next)
kept (layer.Hole k) p next = (Hole k, next)

-- another one becomes a hole of its own
abbrev pub cut_step : List Piece → Tree-F Cutting → Cutting
cut_step b tree p next = if is_shown p b then kept tree p next else (Hole next, next + 1)

-- the closed tree with each outermost position that is not shown in the string replaced by a hole of its
-- own, numbered
-- from 1 in the order of the text
abbrev pub cut_of : Tree → List Piece → Tree
cut_of t b = (fold-Tree Cutting (cut_step b) t [] 1).0
