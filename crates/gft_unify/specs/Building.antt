-- Trees put together from their nodes, the arguments before what they are arguments of.
use Rattle.std.specs.Prelude.{◌≡◌, ℕ, ◌-◌, List, map, [], ◌∷◌, ◌++◌, length, take, drop}
use Rattle.gft_core.specs.declared.tree.Tree.{Tree, out-Tree}
use Rattle.gft_core.specs.declared.tree.Tree.TheVariants.{App, Int, Str, Hole}
use Rattle.gft_core.specs.declared.tree.Tree.TheOpen.{Tree-F, App as App-F, Int as Int-F, Str as Str-F, Hole as Hole-F}

-- the arguments of a layer
abbrev pub layer_arguments : Tree-F Tree → List Tree
layer_arguments (App-F f xs) = xs
layer_arguments (Int-F n) = []
layer_arguments (Str-F w) = []
layer_arguments (Hole-F k) = []

-- the arguments of a tree: none, where it is no application
abbrev pub arguments_of : Tree → List Tree
arguments_of t = layer_arguments (out-Tree t)

-- the function applied to the last `count` of the trees, or to all where there are fewer
abbrev pub applied : List ℕ → ℕ → List Tree → List Tree
applied f count built =
    let front = length built - count in take front built ++ App f (drop front built) ∷ []

-- a layer put on what is built
abbrev pub placed : Tree-F Tree → List Tree → List Tree
placed (App-F f xs) built = applied f (length xs) built
placed (Int-F n) built = built ++ Int n ∷ []
placed (Str-F w) built = built ++ Str w ∷ []
placed (Hole-F k) built = built ++ Hole k ∷ []

-- a node put on what is built: an application takes as many trees from the end as it has arguments
abbrev pub place : Tree → List Tree → List Tree
place node built = placed (out-Tree node) built

-- what is built once the nodes are put on it, the last node first
abbrev pub built_on : List Tree → List Tree → List Tree
built_on [] built = built
built_on (node ∷ nodes) built = place node (built_on nodes built)

-- the nodes build this one tree
abbrev pub Builds : Tree → List Tree → Type 0
Builds tree nodes = built_on nodes [] ≡ tree ∷ []

-- nodes that build the pending trees, behind the nodes found so far, build the whole
abbrev pub Completes : (Tree → Tree) → List Tree → List Tree → List Tree → Type 0
Completes resolved found pending whole =
    (rest : List Tree) → built_on rest [] ≡ map resolved pending
    → built_on (found ++ rest) [] ≡ whole
