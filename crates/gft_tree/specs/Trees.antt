-- Trees: their text, depth, holes, instances and positions.
use Rattle.std.specs.Prelude.{nat_eq, ◌≡◌, ℕ, ◌+◌, ◌-◌, ◌^◌, ◌≤◌, Bool, true, false, ◌&&◌, ◌==◌, nat_lt, max, List, [], ◌∷◌, ◌++◌, flat_map, Option, None, Some, if◌then◌else◌}
use Rattle.std.specs.Fmt.{decimal}
use Rattle.std.specs.List.{list_all, list_any, position_or_len}
use Rattle.std.specs.Str.{is_utf8}
use Rattle.gft_core.specs.Names.{is_name}
use Rattle.gft_core.specs.Words.{is_word}
use Rattle.gft_core.specs.declared.tree.Tree.{Tree, roll-Tree, out-Tree, fold-Tree}
use Rattle.gft_core.specs.declared.tree.Tree.TheOpen.{Tree-F, App, Int, Str, Hole}
use Rattle.gft_tree.specs.Lexemes.{escaped}

-- in quotes, with a backslash before each quote and each backslash
abbrev pub quoted : List ℕ → List ℕ
quoted w = 34 ∷ (flat_map escaped w ++ 34 ∷ [])

-- the text of a tree, and whether it is an application with arguments
abbrev pub Printed : Type 0
Printed = List ℕ × Bool

-- an argument: an application with arguments stands in parentheses
abbrev pub as_argument : Printed → List ℕ
as_argument p = if p.1 then 40 ∷ (p.0 ++ 41 ∷ []) else p.0

-- a space and an argument, one after another
abbrev pub as_arguments : List Printed → List ℕ
as_arguments [] = []
as_arguments (p ∷ ps) = 32 ∷ (as_argument p ++ as_arguments ps)

abbrev pub has_arguments : List Printed → Bool
has_arguments [] = false
has_arguments (p ∷ ps) = true

abbrev pub printed_step : Tree-F Printed → Printed
printed_step (App f ps) = (f ++ as_arguments ps, has_arguments ps)
printed_step (Int n) = (decimal n, false)
printed_step (Str w) = (quoted w, false)
printed_step (Hole k) = (63 ∷ decimal k, false)

abbrev pub printed : Tree → Printed
printed = fold-Tree Printed printed_step

-- the text of a tree, in bytes
abbrev pub text_of : Tree → List ℕ
text_of t = (printed t).0

-- the greatest of some numbers, or 0
abbrev pub greatest : List ℕ → ℕ
greatest [] = 0
greatest (n ∷ ns) = max n (greatest ns)

-- a constant, a literal and a hole have depth 1, an application one more than its deepest argument
abbrev pub depth_step : Tree-F ℕ → ℕ
depth_step (App f ns) = greatest ns + 1
depth_step (Int n) = 1
depth_step (Str w) = 1
depth_step (Hole k) = 1

abbrev pub depth_of : Tree → ℕ
depth_of = fold-Tree ℕ depth_step

-- the lists one after another
abbrev pub all_of : List (List ℕ) → List ℕ
all_of [] = []
all_of (xs ∷ xss) = xs ++ all_of xss

-- the numbers of the holes, from left to right
abbrev pub holes_step : Tree-F (List ℕ) → List ℕ
holes_step (App f kss) = all_of kss
holes_step (Int n) = []
holes_step (Str w) = []
holes_step (Hole k) = k ∷ []

abbrev pub holes_of : Tree → List ℕ
holes_of = fold-Tree (List ℕ) holes_step

-- each hole replaced by the tree for its number
abbrev pub filled_step : (ℕ → Tree) → Tree-F Tree → Tree
filled_step fill (App f ts) = roll-Tree (App f ts)
filled_step fill (Int n) = roll-Tree (Int n)
filled_step fill (Str w) = roll-Tree (Str w)
filled_step fill (Hole k) = fill k

abbrev pub filled : (ℕ → Tree) → Tree → Tree
filled fill = fold-Tree Tree (filled_step fill)

-- an instance of a pattern replaces its holes by trees, equal holes by equal trees
abbrev pub IsInstance : Tree → Tree → Type 0
IsInstance pattern t = (fill : ℕ → Tree) × (t ≡ filled fill pattern)

-- the child with that number, from 1
abbrev pub child_in : List Tree → ℕ → Option Tree
child_in [] n = None
child_in (t ∷ ts) n = if n == 1 then Some t else child_in ts (n - 1)

abbrev pub child_at : Tree-F Tree → ℕ → Option Tree
child_at (App f ts) n = child_in ts n
child_at (Int m) n = None
child_at (Str w) n = None
child_at (Hole k) n = None

-- a position is a list of argument numbers from 1; the root is the empty list
abbrev pub subtree_of : Option Tree → List ℕ → Option Tree
subtree_of None ns = None
subtree_of (Some t) [] = Some t
subtree_of (Some t) (n ∷ ns) = subtree_of (child_at (out-Tree t) n) ns

abbrev pub subtree_at : Tree → List ℕ → Option Tree
subtree_at t position = subtree_of (Some t) position

-- all of them hold
abbrev pub all_true : List Bool → Bool
all_true [] = true
all_true (b ∷ bs) = b && all_true bs

-- names are identifiers, integers below 2 ^ 128, strings one word, both in UTF-8, and hole numbers below 2 ^ 32
abbrev pub proper_step : Tree-F Bool → Bool
proper_step (App f bs) = (is_utf8 f && is_name f) && all_true bs
proper_step (Int n) = nat_lt n (2 ^ 128)
proper_step (Str w) = is_utf8 w && is_word w
proper_step (Hole k) = nat_lt k (2 ^ 32)

abbrev pub IsProper : Tree → Type 0
IsProper t = fold-Tree Bool proper_step t ≡ true

-- how many parentheses are open at once in the text of a tree, and whether it has arguments
abbrev pub Nesting : Type 0
Nesting = ℕ × Bool

-- an argument that has arguments is in parentheses
abbrev pub nested : List Nesting → ℕ
nested [] = 0
nested (p ∷ ps) = max (if p.1 then p.0 + 1 else p.0) (nested ps)

abbrev pub some_nesting : List Nesting → Bool
some_nesting [] = false
some_nesting (p ∷ ps) = true

abbrev pub nesting_step : Tree-F Nesting → Nesting
nesting_step (App f ps) = (nested ps, some_nesting ps)
nesting_step (Int n) = (0, false)
nesting_step (Str w) = (0, false)
nesting_step (Hole k) = (0, false)

abbrev pub nesting_of : Tree → ℕ
nesting_of t = (fold-Tree Nesting nesting_step t).0

-- the holes are numbered from 1 or above
abbrev pub HasNumberedHoles : Tree → Type 0
HasNumberedHoles t = list_all (λ k. nat_lt 0 k) (holes_of t) ≡ true

-- a tree whose text is read again: its holes are 1 or more, and at most 200 parentheses are open at once
pub record IsReadable (t : Tree) : Type 0 where
  pub proper : IsProper t
  pub holes : HasNumberedHoles t
  pub shallow : nesting_of t ≤ 200

-- the numbers with one more, at the end, unless it is there
abbrev pub with_number : List ℕ → ℕ → List ℕ
with_number js k = if list_any (nat_eq k) js then js else js ++ k ∷ []

-- the different numbers, in the order of their first occurrence, behind those that are there
abbrev pub firsts_after : List ℕ → List ℕ → List ℕ
firsts_after js [] = js
firsts_after js (k ∷ ks) = firsts_after (with_number js k) ks

-- the place of a number, from 1
abbrev pub place_in : List ℕ → ℕ → ℕ
place_in js k = position_or_len (nat_eq k) js + 1

-- each hole has the place of its number
abbrev pub placed : List ℕ → Tree → Tree
placed js t = filled (λ k. roll-Tree (Hole (place_in js k))) t

-- the holes renamed by first occurrence, from 1
abbrev pub numbered : Tree → Tree
numbered t = placed (firsts_after [] (holes_of t)) t
