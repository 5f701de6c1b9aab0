-- Runs of a concrete syntax, their strings, and which of them stand for words.
use Rattle.std.specs.Prelude.{◌≡◌, ◌==◌, ◌<◌, ◌^◌, ℕ, suc, List, [], ◌∷◌, ◌++◌, map, All, Contains, Some, slice_get, slice_index_or, if◌then◌else◌, ◌⊎◌}
use Rattle.std.specs.List.{flat_map}
use Rattle.std.specs.Option.{option_map_or}
use Rattle.std.specs.Fmt.{decimal}
use Rattle.gft_core.specs.Words.{IsWord}
use Rattle.gft_core.specs.declared.symbol.Sym.{Sym}
use Rattle.gft_core.specs.declared.symbol.Sym.TheVariants.{Tok, Arg}
use Rattle.gft_core.specs.declared.tree.Tree.{Tree}
use Rattle.gft_core.specs.declared.tree.Tree.TheVariants as tree
use Rattle.gft_pmcfg.specs.declared.signature.Fun.{Fun}
use Rattle.gft_pmcfg.specs.declared.signature.Abstract.{Abstract}
use Rattle.gft_pmcfg.specs.declared.concrete.Info.{Info}
use Rattle.gft_pmcfg.specs.declared.concrete.Prod.{Prod}
use Rattle.gft_pmcfg.specs.declared.concrete.Concrete.{Concrete}
use Rattle.gft_pmcfg.specs.declared.run.Run.{Run, out-Run}
use Rattle.gft_pmcfg.specs.declared.run.Run.TheOpen.{Run-F}
use Rattle.gft_pmcfg.specs.declared.run.Run.TheOpen as layer
use Rattle.gft_pmcfg.specs.Layers.{by_layers}
use Rattle.gft_pmcfg.specs.Nonterminals.{nonterminals_of, category_of}
use Rattle.gft_model.specs.Trees.{all_of}
use Rattle.gft_model.specs.Brackets.{Mark, grammar, integer, text, Piece, word, bracketed, erased}

-- the run applies the production of number p to the runs rs
abbrev pub IsApplied : Run → ℕ → List Run → Type 0
IsApplied r p rs = out-Run r ≡ layer.App p rs

-- the run is a literal, or the hole of a nonterminal
abbrev pub IsNumber : Run → ℕ → Type 0
IsNumber r n = out-Run r ≡ layer.Int n

abbrev pub IsText : Run → List ℕ → Type 0
IsText r w = out-Run r ≡ layer.Str w

abbrev pub IsOpen : Run → ℕ → Type 0
IsOpen r n = out-Run r ≡ layer.Hole n

mutual
  -- the run is one to the nonterminal
  pub data IsRun (c : Concrete) : Run → ℕ → Type 0 where
    hole : {r n : _} → IsOpen r n → n < nonterminals_of c.infos → IsRun c r n
    number : {r n : _} → IsNumber r n → n < 2 ^ 128 → IsRun c r 0
    string : {r w : _} → IsText r w → IsWord w → IsRun c r 1
    application : {r p : _} {prod : Prod} {rs : _} → slice_get c.prods p ≡ Some prod → IsApplied r p rs → AreRuns c rs prod.args →
        IsRun c r prod.result

  -- so are the runs, one nonterminal each
  pub data AreRuns (c : Concrete) : List Run → List ℕ → Type 0 where
    none : AreRuns c [] []
    more : {r rs n ns : _} → IsRun c r n → AreRuns c rs ns → AreRuns c (r ∷ rs) (n ∷ ns)

-- a string for each component
abbrev pub Strings : Type 0
Strings = List (List Piece)

-- a component of an argument
abbrev pub component : List Strings → ℕ → ℕ → List Piece
component args i l = slice_index_or (slice_index_or args i []) l []

-- the sequence with its components filled in
abbrev pub filled : List Strings → List Sym → List Piece
filled args [] = []
filled args (Tok w ∷ seq) = word grammar w ∷ filled args seq
filled args (Arg i l ∷ seq) = component args i l ++ filled args seq

-- what sequences give at a position: each of them filled in, in the bracket of the position
abbrev pub applied : List ℕ → List Strings → List (List Sym) → Strings
applied p args seqs = map (λ seq. bracketed p (filled args seq)) seqs

-- what one word gives, as that of a literal
abbrev pub word_at : List ℕ → Mark → List ℕ → Strings
word_at p mark w = bracketed p (word mark w ∷ []) ∷ []

-- what the arguments from number i + 1 on give, each at its own position
abbrev pub arguments_at : List ℕ → ℕ → List (List ℕ → Strings) → List Strings
arguments_at p i [] = []
arguments_at p i (gives ∷ rest) = gives (p ++ suc i ∷ []) ∷ arguments_at p (suc i) rest

-- the sequences of a production
abbrev pub sequences_at : List Prod → ℕ → List (List Sym)
sequences_at prods p = option_map_or (λ (q : Prod). q.seqs) (slice_get prods p) []

-- the components of a run whose root stands at a position; a hole has none
abbrev pub components_step : Concrete → Run-F (List ℕ → Strings) → List ℕ → Strings
components_step c (layer.App k args) p = applied p (arguments_at p 0 args) (sequences_at c.prods k)
components_step c (layer.Int n) p = word_at p integer (decimal n)
components_step c (layer.Str w) p = word_at p text w
components_step c (layer.Hole n) p = []

abbrev pub components_of : Concrete → Run → List ℕ → Strings
components_of c = by_layers (List ℕ → Strings) (components_step c)

-- a ref of the nonterminal: how its components make one string; literals have one that no concrete syntax
-- lists
pub data IsRef (c : Concrete) : ℕ → List Sym → Type 0 where
  listed : {n seq : _} → Contains c.refs (record { arg = n; seq = seq }) → IsRef c n seq
  of_literals : {n : _} → n < 2 → IsRef c n (Arg 0 0 ∷ [])

-- the string of a run under a ref, and its words
abbrev pub string_of : Concrete → List Sym → Run → List Piece
string_of c seq r = filled (components_of c r [] ∷ []) seq

abbrev pub yield_of : Concrete → List Sym → Run → List (List ℕ)
yield_of c seq r = erased (string_of c seq r)

-- the components of argument i that the sequence uses
abbrev pub used : ℕ → List Sym → List ℕ
used i [] = []
used i (Tok w ∷ seq) = used i seq
used i (Arg j l ∷ seq) = if (i == j) then l ∷ used i seq else used i seq

-- those that are needed of argument i where the components ls of the result are needed
abbrev pub needed : List (List Sym) → List ℕ → ℕ → List ℕ
needed seqs ls i = flat_map (λ l. used i (slice_index_or seqs l [])) ls

mutual
  -- where the components ls of the run are needed, its holes are exactly the outermost parts of which none
  -- is needed
  pub data HasUnreadHoles (c : Concrete) : List ℕ → Run → Type 0 where
    unread : {r n : _} → IsOpen r n → HasUnreadHoles c [] r
    number : {l ls r n : _} → IsNumber r n → HasUnreadHoles c (l ∷ ls) r
    string : {l ls r w : _} → IsText r w → HasUnreadHoles c (l ∷ ls) r
    application : {l ls r p : _} {prod : Prod} {rs : _} → slice_get c.prods p ≡ Some prod → IsApplied r p rs →
        HaveUnreadHoles c prod.seqs (l ∷ ls) 0 rs → HasUnreadHoles c (l ∷ ls) r

  -- so have the arguments from argument i on, where the result has the sequences seqs
  pub data HaveUnreadHoles (c : Concrete) : List (List Sym) → List ℕ → ℕ → List Run → Type 0 where
    none : {seqs ls i : _} → HaveUnreadHoles c seqs ls i []
    more : {seqs ls i r rs : _} → HasUnreadHoles c (needed seqs ls i) r → HaveUnreadHoles c seqs ls (suc i) rs →
        HaveUnreadHoles c seqs ls i (r ∷ rs)

-- the nonterminals of the holes of a run
abbrev pub holes_step : Run-F (List ℕ) → List ℕ
holes_step (layer.App p holes) = all_of holes
holes_step (layer.Int n) = []
holes_step (layer.Str w) = []
holes_step (layer.Hole n) = n ∷ []

abbrev pub holes_of : Run → List ℕ
holes_of = by_layers (List ℕ) holes_step

-- the name of the function that a production is of
abbrev pub name_at : Abstract → Concrete → ℕ → List ℕ
name_at a c p =
    option_map_or (λ (q : Prod). option_map_or (λ (f : Fun). f.name) (slice_get a.funs q.fun) [])
    (slice_get c.prods p) []

-- the tree of a run: its functions in place of its productions; the number of a hole is that of its
-- nonterminal
abbrev pub tree_step : Abstract → Concrete → Run-F Tree → Tree
tree_step a c (layer.App p ts) = tree.App (name_at a c p) ts
tree_step a c (layer.Int n) = tree.Int n
tree_step a c (layer.Str w) = tree.Str w
tree_step a c (layer.Hole n) = tree.Hole n

abbrev pub tree_of : Abstract → Concrete → Run → Tree
tree_of a c = by_layers Tree (tree_step a c)

-- the nonterminal has a run without holes
abbrev pub IsInhabited : Concrete → ℕ → Type 0
IsInhabited c n = (r : Run) × IsRun c r n × (holes_of r ≡ [])

-- the nonterminal is one of the category
abbrev pub IsOf : List Info → ℕ → ℕ → Type 0
IsOf infos cat n = (n < nonterminals_of infos) × (category_of infos n ≡ cat)

-- the run is for the words in the category
pub record IsRunFor (c : Concrete) (cat : ℕ) (words : List (List ℕ)) (r : Run) : Type 0 where
  pub nonterminal : ℕ
  pub run : IsRun c r nonterminal
  pub category : IsOf c.infos cat nonterminal
  pub seq : List Sym
  pub ref : IsRef c nonterminal seq
  pub yields : yield_of c seq r ≡ words
  pub unread : HasUnreadHoles c (used 0 seq) r
  pub inhabited : All (IsInhabited c) (holes_of r)

-- a hole of a tree may stand at the nonterminal: it is one of literals, or has a def
abbrev pub MayBeHole : Concrete → ℕ → Type 0
MayBeHole c n = (n < 2) ⊎ ((seqs : List (List Sym)) × Contains c.defs (record { result = n; seqs = seqs }))

-- the production stands at the root of a run of some tree, holes allowed
abbrev pub IsKept : Concrete → Prod → Type 0
IsKept c prod = (rs : List Run) × AreRuns c rs prod.args × All (MayBeHole c) (flat_map holes_of rs)
