-- Which runs a packed forest holds, and when it is shared.
use Rattle.std.specs.Prelude.{◌≡◌, ◌≢◌, ◌<◌, ℕ, List, [], ◌∷◌, length, AllPairs, Contains, Option, Some, None, slice_get, slice_index_or}
use Rattle.gft_pmcfg.specs.declared.concrete.Prod.{Prod}
use Rattle.gft_pmcfg.specs.declared.concrete.Concrete.{Concrete}
use Rattle.gft_pmcfg.specs.declared.forest.Forest.{Forest}
use Rattle.gft_pmcfg.specs.declared.forest.Node.{Node}
use Rattle.gft_pmcfg.specs.declared.forest.Alt.TheVariants as alt
use Rattle.gft_pmcfg.specs.declared.run.Run.{Run}
use Rattle.gft_model.specs.Brackets.{Mark, marked}
use Rattle.gft_model.specs.Runs.{IsApplied, IsNumber, IsText, IsOpen, components_of}

-- the node of a number, with pins
abbrev pub IsPinned : Forest → ℕ → Node → Type 0
IsPinned f n node = (slice_get f.nodes n ≡ Some node) × (node.pins ≢ [])

mutual
  -- the node of the number holds the run
  pub data HoldsAt (f : Forest) (c : Concrete) : ℕ → Run → Type 0 where
    unpinned : {n : _} {node : Node} {r : _} → slice_get f.nodes n ≡ Some node → node.pins ≡ [] → IsOpen r node.nonterminal →
        HoldsAt f c n r
    number : {n i : _} {node : Node} {r : _} → IsPinned f n node → Contains node.alts (alt.Int i) → IsNumber r i → HoldsAt f c n r
    string : {n w : _} {node : Node} {r : _} → IsPinned f n node → Contains node.alts (alt.Str w) → IsText r w → HoldsAt f c n r
    application : {n p parts : _} {node : Node} {prod : Prod} {r rs : _} → IsPinned f n node →
        Contains node.alts (alt.App p parts) → slice_get c.prods p ≡ Some prod → IsApplied r p rs →
        HoldAll f c parts prod.args rs → HoldsAt f c n r

  -- each part holds its run: a node one that it holds, and no node the hole of the argument's nonterminal
  pub data HoldAll (f : Forest) (c : Concrete) : List (Option ℕ) → List ℕ → List Run → Type 0 where
    none : HoldAll f c [] [] []
    node : {n a parts args r rs : _} → HoldsAt f c n r → HoldAll f c parts args rs →
        HoldAll f c (Some n ∷ parts) (a ∷ args) (r ∷ rs)
    hole : {a parts args r rs : _} → IsOpen r a → HoldAll f c parts args rs → HoldAll f c (None ∷ parts) (a ∷ args) (r ∷ rs)

-- the forest holds the run: one of its roots does
abbrev pub Holds : Forest → Concrete → Run → Type 0
Holds f c r = (n : ℕ) × Contains f.roots n × HoldsAt f c n r

-- a node that is a root, or that an alternative of such a node names
pub data IsReached (f : Forest) : ℕ → Type 0 where
  root : {n : _} → Contains f.roots n → IsReached f n
  below : {m n p parts : _} {node : Node} → IsReached f m → slice_get f.nodes m ≡ Some node →
      Contains node.alts (alt.App p parts) → Contains parts (Some n) → IsReached f n

-- a shared forest: each pinned category enters once, with each alternative once, and nothing stands idle
pub record IsShared (f : Forest) : Type 0 where
  pub nodes : (m n : ℕ) (v w : Node) → slice_get f.nodes m ≡ Some v → slice_get f.nodes n ≡ Some w →
      v.nonterminal ≡ w.nonterminal → v.pins ≡ w.pins → m ≡ n
  pub alternatives : (v : Node) → Contains f.nodes v → AllPairs (λ a b. a ≢ b) v.alts
  pub reached : (n : ℕ) → n < length f.nodes → IsReached f n
  pub pinned : (v : Node) → Contains f.nodes v → v.pins ≢ [] → v.alts ≢ []

-- what stands for an item of a component that is used again: that word of each run that the node holds
abbrev pub IsAgain : Forest → Concrete → ℕ → ℕ → ℕ → Mark × List ℕ → Type 0
IsAgain f c n l k w =
    (r : Run) → HoldsAt f c n r → slice_get (marked (slice_index_or (components_of c r []) l [])) k ≡ Some w
