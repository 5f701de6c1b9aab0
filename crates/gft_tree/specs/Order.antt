-- The order of texts by their bytes. It serves the proof alone.
use Rattle.std.specs.Prelude.{◌≡◌, ℕ, ◌≤◌, Bool, true, false, ◌||◌, ◌==◌, nat_lt, if◌then◌else◌, List, [], ◌∷◌, ◌++◌}
use Rattle.std.specs.declared.cmp.Ordering.{Ordering}
use Rattle.std.specs.declared.cmp.Ordering.TheVariants.{Less, Equal, Greater}
use Rattle.std.specs.Ordering.{nat_cmp, ordering_then, ordering_reverse}
use Rattle.std.specs.Cmp.Lexicographic.{slice_cmp}
use Rattle.gft_core.specs.declared.tree.Tree.{Tree, out-Tree}
use Rattle.gft_core.specs.declared.tree.Tree.TheOpen.{Tree-F, App, Int, Str, Hole}
use Rattle.gft_tree.specs.declared.order.After.{After}
use Rattle.gft_tree.specs.declared.order.After.TheVariants.{End, Space, Close, Quote}
use Rattle.gft_tree.specs.declared.sort.Sort.{Sort}
use Rattle.gft_tree.specs.declared.sort.Sort.TheVariants.{Word, Parenthesis, Digit, Mark, Letter}
use Rattle.gft_tree.specs.Trees.{printed, as_argument, text_of}

-- the order of texts, byte by byte
abbrev pub text_cmp : List ℕ → List ℕ → Ordering
text_cmp a b = slice_cmp nat_cmp a b

-- what follows a part of a text
abbrev pub Follows : After → List ℕ → Type 0
Follows End x = x ≡ []
Follows Space x = (rest : List ℕ) × (x ≡ 32 ∷ rest)
Follows Close x = (rest : List ℕ) × (x ≡ 41 ∷ rest)
Follows Quote x = (rest : List ℕ) × (x ≡ 34 ∷ rest)

-- two parts of texts are in that order, and where they are equal what follows decides
abbrev pub Orders : Ordering → List ℕ → List ℕ → After → After → Type 0
Orders o a b f g = (x y : List ℕ) → Follows f x → Follows g y → text_cmp (a ++ x) (b ++ y) ≡ ordering_then o (text_cmp x y)

-- the first byte that is written for a byte
abbrev pub lead_byte : ℕ → ℕ
lead_byte b = if (b == 34 || b == 92) then 92 else b

abbrev pub byte_cmp : ℕ → ℕ → Ordering
byte_cmp c d = ordering_then (nat_cmp (lead_byte c) (lead_byte d)) (nat_cmp c d)

-- what follows against a byte that goes on
abbrev pub after_cmp : After → ℕ → Ordering
after_cmp End d = Less
after_cmp Space d = nat_cmp 32 (lead_byte d)
after_cmp Close d = nat_cmp 41 (lead_byte d)
after_cmp Quote d = nat_cmp 34 (lead_byte d)

-- bytes as they are written, each before what follows it
abbrev pub bytes_cmp : After → After → List ℕ → List ℕ → Ordering
bytes_cmp f g [] [] = Equal
bytes_cmp f g [] (d ∷ q) = after_cmp f d
bytes_cmp f g (c ∷ p) [] = ordering_reverse (after_cmp g c)
bytes_cmp f g (c ∷ p) (d ∷ q) = ordering_then (byte_cmp c d) (bytes_cmp f g p q)

-- a tree as it is written, where it stands as an argument or not
abbrev pub shown : Bool → Tree → List ℕ
shown false t = text_of t
shown true t = as_argument (printed t)

-- the sort of a tree's first byte
abbrev pub sort_at : Bool → Tree-F Tree → Sort
sort_at inner (App f []) = Letter
sort_at false (App f (t ∷ ts)) = Letter
sort_at true (App f (t ∷ ts)) = Parenthesis
sort_at inner (Int n) = Digit
sort_at inner (Str w) = Word
sort_at inner (Hole k) = Mark

abbrev pub sort_of : Bool → Tree → Sort
sort_of inner t = sort_at inner (out-Tree t)

-- the sorts in the order of their bytes
abbrev pub rank_of : Sort → ℕ
rank_of Word = 0
rank_of Parenthesis = 1
rank_of Digit = 2
rank_of Mark = 3
rank_of Letter = 4

-- a byte of that sort
abbrev pub IsOfSort : Sort → ℕ → Type 0
IsOfSort Word b = b ≡ 34
IsOfSort Parenthesis b = b ≡ 40
IsOfSort Digit b = (48 ≤ b) × (b ≤ 57)
IsOfSort Mark b = b ≡ 63
IsOfSort Letter b = 65 ≤ b

-- a text that begins with a byte of that sort
abbrev pub Leads : Sort → List ℕ → Type 0
Leads sort text = (b : ℕ) × (rest : List ℕ) × (text ≡ b ∷ rest) × IsOfSort sort b

-- what follows an application: nothing, or a closing parenthesis
abbrev pub after_of : Bool → After
after_of false = End
after_of true = Close

-- what follows before these arguments
abbrev pub behind : List Tree → Bool → After
behind [] closed = after_of closed
behind (t ∷ ts) closed = Space

-- where one list of arguments is as long as the other, or ends before it
abbrev pub ended : ℕ → ℕ → Bool → Ordering
ended m n closed =
    if m == n then Equal
    else (let shorter = if closed then Greater else Less in if nat_lt m n then shorter else ordering_reverse shorter)
