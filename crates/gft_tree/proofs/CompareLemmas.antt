-- The order of trees by their texts.
use Rattle.std.proofs.Common.{◌≡◌, ℕ, zero, suc, ◌+◌, ◌-◌, ◌^◌, ◌≤◌, ◌<◌, ◌⊎◌, inl, inr, Bool, true, false, ◌==◌, if◌then◌else◌, List, [], ◌∷◌, ◌++◌, length, map, take, drop, get_or, ap, sym, ◌∙◌, subst, refl, arith, append_assoc, append-nil, ⊎_elim, length-drop}
use Rattle.std.specs.Fmt.{decimal}
use Rattle.std.specs.Str.{IsUtf8}
use Rattle.std.specs.declared.cmp.Ordering.{Ordering}
use Rattle.std.specs.declared.cmp.Ordering.TheVariants.{Less, Equal, Greater}
use Rattle.std.specs.Ordering.{nat_cmp, ordering_then, ordering_reverse, is_ne}
use Rattle.std.proofs.lemmas.Bool.{eqb-true, false≢true, ne_eqb, eq-eqb, lt-ltb, le-ltb, cases_order}
use Rattle.gft_core.specs.Names.{IsName}
use Rattle.gft_core.specs.declared.tree.Tree.{Tree}
use Rattle.gft_core.specs.declared.tree.Tree.TheVariants.{outs-App, outs-Int, outs-Str, outs-Hole}
use Rattle.gft_core.specs.declared.tree.Tree.TheVariants as tree
use Rattle.gft_tree.specs.declared.order.After.{After}
use Rattle.gft_tree.specs.declared.order.After.TheVariants.{End, Close, Quote}
use Rattle.gft_tree.specs.declared.sort.Sort.{Sort}
use Rattle.gft_tree.specs.declared.sort.Sort.TheVariants.{Word, Parenthesis, Digit, Mark, Letter}
use Rattle.gft_tree.specs.Order.{text_cmp, Follows, Orders, bytes_cmp, shown, sort_at, sort_of, rank_of, IsOfSort, Leads, after_of, behind, ended}
use Rattle.gft_tree.specs.Trees.{Printed, printed, printed_step, as_argument, as_arguments, quoted}
use Rattle.gft_tree.proofs.DigitLemmas.{writes}
use Rattle.gft_tree.proofs.LayerLemmas.{fold-App, fold-Int, fold-Str, fold-Hole}
use Rattle.gft_tree.proofs.OrderLemmas.{AllPlain, plain_orders, quoted_orders, lt_less, gt_greater}
use Rattle.gft_tree.proofs.PlainLemmas.{in_range, LeadsPlain, name_plain}

-- TREES AS THEY ARE SHOWN

pub shown-Int : (inner : Bool) (n : ℕ) → shown inner (tree.Int n) ≡ decimal n
shown-Int false n = ap (λ p. p.0) (fold-Int Printed printed_step n)
shown-Int true n = ap as_argument (fold-Int Printed printed_step n)

pub shown-Str : (inner : Bool) (w : List ℕ) → shown inner (tree.Str w) ≡ quoted w
shown-Str false w = ap (λ p. p.0) (fold-Str Printed printed_step w)
shown-Str true w = ap as_argument (fold-Str Printed printed_step w)

pub shown-Hole : (inner : Bool) (k : ℕ) → shown inner (tree.Hole k) ≡ 63 ∷ decimal k
shown-Hole false k = ap (λ p. p.0) (fold-Hole Printed printed_step k)
shown-Hole true k = ap as_argument (fold-Hole Printed printed_step k)

pub sort-Int : (inner : Bool) (n : ℕ) → sort_of inner (tree.Int n) ≡ Digit
sort-Int false n = ap (sort_at false) (outs-Int n)
sort-Int true n = ap (sort_at true) (outs-Int n)

pub sort-Str : (inner : Bool) (w : List ℕ) → sort_of inner (tree.Str w) ≡ Word
sort-Str false w = ap (sort_at false) (outs-Str w)
sort-Str true w = ap (sort_at true) (outs-Str w)

pub sort-Hole : (inner : Bool) (k : ℕ) → sort_of inner (tree.Hole k) ≡ Mark
sort-Hole false k = ap (sort_at false) (outs-Hole k)
sort-Hole true k = ap (sort_at true) (outs-Hole k)

pub sort_constant : (inner : Bool) (f : List ℕ) → sort_of inner (tree.App f []) ≡ Letter
sort_constant false f = ap (sort_at false) (outs-App f [])
sort_constant true f = ap (sort_at true) (outs-App f [])

pub sort_application : (f : List ℕ) (t : Tree) (ts : List Tree) → (sort_of false (tree.App f (t ∷ ts)) ≡ Letter) × (sort_of true (tree.App f (t ∷ ts)) ≡ Parenthesis)
sort_application f t ts = (ap (sort_at false) (outs-App f (t ∷ ts)), ap (sort_at true) (outs-App f (t ∷ ts)))

-- an application is no word, no number and no hole
pub sort_app : (inner : Bool) (f : List ℕ) (ts : List Tree) → (sort_of inner (tree.App f ts) ≡ Letter) ⊎ (sort_of inner (tree.App f ts) ≡ Parenthesis)
sort_app inner f [] = inl (sort_constant inner f)
sort_app false f (t ∷ ts) = inl (sort_application f t ts).0
sort_app true f (t ∷ ts) = inr (sort_application f t ts).1

-- SORTS

pub rank_same : (a b : Sort) → is_ne (nat_cmp (rank_of a) (rank_of b)) ≡ false → a ≡ b
rank_same Word Word h = refl
rank_same Word Parenthesis h = absurd (false≢true (sym h))
rank_same Word Digit h = absurd (false≢true (sym h))
rank_same Word Mark h = absurd (false≢true (sym h))
rank_same Word Letter h = absurd (false≢true (sym h))
rank_same Parenthesis Word h = absurd (false≢true (sym h))
rank_same Parenthesis Parenthesis h = refl
rank_same Parenthesis Digit h = absurd (false≢true (sym h))
rank_same Parenthesis Mark h = absurd (false≢true (sym h))
rank_same Parenthesis Letter h = absurd (false≢true (sym h))
rank_same Digit Word h = absurd (false≢true (sym h))
rank_same Digit Parenthesis h = absurd (false≢true (sym h))
rank_same Digit Digit h = refl
rank_same Digit Mark h = absurd (false≢true (sym h))
rank_same Digit Letter h = absurd (false≢true (sym h))
rank_same Mark Word h = absurd (false≢true (sym h))
rank_same Mark Parenthesis h = absurd (false≢true (sym h))
rank_same Mark Digit h = absurd (false≢true (sym h))
rank_same Mark Mark h = refl
rank_same Mark Letter h = absurd (false≢true (sym h))
rank_same Letter Word h = absurd (false≢true (sym h))
rank_same Letter Parenthesis h = absurd (false≢true (sym h))
rank_same Letter Digit h = absurd (false≢true (sym h))
rank_same Letter Mark h = absurd (false≢true (sym h))
rank_same Letter Letter h = refl

less : (b d : ℕ) (x y : List ℕ) (o : Ordering) → b < d → text_cmp (b ∷ x) (d ∷ y) ≡ ordering_then Less o
less b d x y o h = ap (λ a. ordering_then a (text_cmp x y)) (lt_less b d h)

greater : (b d : ℕ) (x y : List ℕ) (o : Ordering) → d < b → text_cmp (b ∷ x) (d ∷ y) ≡ ordering_then Greater o
greater b d x y o h = ap (λ a. ordering_then a (text_cmp x y)) (gt_greater b d h)

-- bytes of different sorts
sorts : (a c : Sort) (b d : ℕ) (x y : List ℕ) (o : Ordering) → IsOfSort a b → IsOfSort c d → is_ne (nat_cmp (rank_of a) (rank_of c)) ≡ true
    → text_cmp (b ∷ x) (d ∷ y) ≡ ordering_then (nat_cmp (rank_of a) (rank_of c)) o
sorts Word Word b d x y o h k n = absurd (false≢true n)
sorts Word Parenthesis b d x y o h k n = let h0 = h in let k0 = k in less b d x y o (omega (arith, h0, k0))
sorts Word Digit b d x y o h k n = let h0 = h in let k0 = k.0 in let k1 = k.1 in less b d x y o (omega (arith, h0, k0, k1))
sorts Word Mark b d x y o h k n = let h0 = h in let k0 = k in less b d x y o (omega (arith, h0, k0))
sorts Word Letter b d x y o h k n = let h0 = h in let k0 = k in less b d x y o (omega (arith, h0, k0))
sorts Parenthesis Word b d x y o h k n = let h0 = h in let k0 = k in greater b d x y o (omega (arith, h0, k0))
sorts Parenthesis Parenthesis b d x y o h k n = absurd (false≢true n)
sorts Parenthesis Digit b d x y o h k n = let h0 = h in let k0 = k.0 in let k1 = k.1 in less b d x y o (omega (arith, h0, k0, k1))
sorts Parenthesis Mark b d x y o h k n = let h0 = h in let k0 = k in less b d x y o (omega (arith, h0, k0))
sorts Parenthesis Letter b d x y o h k n = let h0 = h in let k0 = k in less b d x y o (omega (arith, h0, k0))
sorts Digit Word b d x y o h k n = let h0 = h.0 in let h1 = h.1 in let k0 = k in greater b d x y o (omega (arith, h0, h1, k0))
sorts Digit Parenthesis b d x y o h k n = let h0 = h.0 in let h1 = h.1 in let k0 = k in greater b d x y o (omega (arith, h0, h1, k0))
sorts Digit Digit b d x y o h k n = absurd (false≢true n)
sorts Digit Mark b d x y o h k n = let h0 = h.0 in let h1 = h.1 in let k0 = k in less b d x y o (omega (arith, h0, h1, k0))
sorts Digit Letter b d x y o h k n = let h0 = h.0 in let h1 = h.1 in let k0 = k in less b d x y o (omega (arith, h0, h1, k0))
sorts Mark Word b d x y o h k n = let h0 = h in let k0 = k in greater b d x y o (omega (arith, h0, k0))
sorts Mark Parenthesis b d x y o h k n = let h0 = h in let k0 = k in greater b d x y o (omega (arith, h0, k0))
sorts Mark Digit b d x y o h k n = let h0 = h in let k0 = k.0 in let k1 = k.1 in greater b d x y o (omega (arith, h0, k0, k1))
sorts Mark Mark b d x y o h k n = absurd (false≢true n)
sorts Mark Letter b d x y o h k n = let h0 = h in let k0 = k in less b d x y o (omega (arith, h0, k0))
sorts Letter Word b d x y o h k n = let h0 = h in let k0 = k in greater b d x y o (omega (arith, h0, k0))
sorts Letter Parenthesis b d x y o h k n = let h0 = h in let k0 = k in greater b d x y o (omega (arith, h0, k0))
sorts Letter Digit b d x y o h k n = let h0 = h in let k0 = k.0 in let k1 = k.1 in greater b d x y o (omega (arith, h0, k0, k1))
sorts Letter Mark b d x y o h k n = let h0 = h in let k0 = k in greater b d x y o (omega (arith, h0, k0))
sorts Letter Letter b d x y o h k n = absurd (false≢true n)

-- texts that begin with bytes of different sorts
pub leads_order : (a c : Sort) (p q : List ℕ) (f g : After) → Leads a p → Leads c q → is_ne (nat_cmp (rank_of a) (rank_of c)) ≡ true → Orders (nat_cmp (rank_of a) (rank_of c)) p q f g
leads_order a c p q f g l m n x y h k =
    ap (λ z. text_cmp (z ++ x) (q ++ y)) l.2 ∙ ap (λ z. text_cmp ((l.0 ∷ l.1) ++ x) (z ++ y)) m.2
    ∙ sorts a c l.0 m.0 (l.1 ++ x) (m.1 ++ y) (text_cmp x y) l.3 m.3 n

pub leads_int : (inner : Bool) (n : ℕ) → n < 10 ^ 64 → Leads Digit (shown inner (tree.Int n))
leads_int inner n h = let w = writes n h in (w.first, w.others, shown-Int inner n ∙ w.parts, in_range 48 57 w.first w.digit)

pub leads_hole : (inner : Bool) (k : ℕ) → Leads Mark (shown inner (tree.Hole k))
leads_hole inner k = (63, decimal k, shown-Hole inner k, refl)

pub leads_word : (inner : Bool) (w : List ℕ) → Leads Word (shown inner (tree.Str w))
leads_word inner w = (34, _, shown-Str inner w, refl)

pub leads_constant : (inner : Bool) (f : List ℕ) → LeadsPlain f → Leads Letter (shown inner (tree.App f []))
leads_constant false f l = (l.0, l.1 ++ [], ap (λ p. p.0) (fold-App Printed printed_step f []) ∙ ap (λ z. z ++ []) l.2, l.3)
leads_constant true f l = (l.0, l.1 ++ [], ap as_argument (fold-App Printed printed_step f []) ∙ ap (λ z. z ++ []) l.2, l.3)

pub leads_application : (f : List ℕ) (t : Tree) (ts : List Tree) → LeadsPlain f → Leads Letter (shown false (tree.App f (t ∷ ts))) × Leads Parenthesis (shown true (tree.App f (t ∷ ts)))
leads_application f t ts l = (
  (l.0, l.1 ++ as_arguments (map printed (t ∷ ts)), ap (λ p. p.0) (fold-App Printed printed_step f (t ∷ ts)) ∙ ap (λ z. z ++ as_arguments (map printed (t ∷ ts))) l.2, l.3),
  (40, _, ap as_argument (fold-App Printed printed_step f (t ∷ ts)), refl),
)

-- the sort of an application, whether it has arguments or not
pub leads_app : (inner : Bool) (f : List ℕ) (ts : List Tree) → LeadsPlain f → Leads (sort_of inner (tree.App f ts)) (shown inner (tree.App f ts))
leads_app inner f [] l = let P : Sort → Type 0 = λ s. Leads s (shown inner (tree.App f [])) in subst P (sym (sort_constant inner f)) (leads_constant inner f l)
leads_app false f (t ∷ ts) l = let P : Sort → Type 0 = λ s. Leads s (shown false (tree.App f (t ∷ ts))) in subst P (sym (sort_application f t ts).0) (leads_application f t ts l).0
leads_app true f (t ∷ ts) l = let P : Sort → Type 0 = λ s. Leads s (shown true (tree.App f (t ∷ ts))) in subst P (sym (sort_application f t ts).1) (leads_application f t ts l).1

-- the same order, of equal bytes
pub ordered : (r : Ordering) (f g : After) (p q a b : List ℕ) → r ≡ bytes_cmp f g p q → p ≡ a → q ≡ b → AllPlain a → AllPlain b → Orders r a b f g
ordered r f g p q a b e i j h k =
    let P : Ordering → Type 0 = λ o. Orders o a b f g in
    subst P (sym (e ∙ ap (λ z. bytes_cmp f g z q) i ∙ ap (bytes_cmp f g a) j)) (plain_orders a b f g h k)

pub words_ordered : (r : Ordering) (f g : After) (p q a b : List ℕ) → r ≡ bytes_cmp Quote Quote p q → p ≡ a → q ≡ b → Orders r (quoted a) (quoted b) f g
words_ordered r f g p q a b e i j =
    let P : Ordering → Type 0 = λ o. Orders o (quoted a) (quoted b) f g in
    subst P (sym (e ∙ ap (λ z. bytes_cmp Quote Quote z q) i ∙ ap (bytes_cmp Quote Quote a) j)) (quoted_orders a b f g)

-- the bytes of a name that was read
pub name_bytes : (f bs : List ℕ) → bs ≡ f → IsUtf8 bs → IsName f → AllPlain f
name_bytes f bs e u h = let P : List ℕ → Type 0 = IsUtf8 in (name_plain f (subst P e u) h).4

pub name_leads : (f bs : List ℕ) → bs ≡ f → IsUtf8 bs → IsName f → LeadsPlain f
name_leads f bs e u h = let P : List ℕ → Type 0 = IsUtf8 in name_plain f (subst P e u) h

pub leads_by : (s : Sort) (inner : Bool) (f bs : List ℕ) (ts : List Tree) → s ≡ sort_of inner (tree.App f ts) → bs ≡ f → IsUtf8 bs → IsName f → Leads s (shown inner (tree.App f ts))
leads_by s inner f bs ts i e u h = let P : Sort → Type 0 = λ z. Leads z (shown inner (tree.App f ts)) in subst P (sym i) (leads_app inner f ts (name_leads f bs e u h))

-- a tree of a known form
pub leads_at : (s : Sort) (inner : Bool) (t u : Tree) → t ≡ u → Leads s (shown inner u) → Leads s (shown inner t)
leads_at s inner t u e l = let P : Tree → Type 0 = λ z. Leads s (shown inner z) in subst P (sym e) l

-- FOLLOWING PARTS

absorbs : (o a b : Ordering) → is_ne o ≡ true → ordering_then o a ≡ ordering_then o b
absorbs Less a b h = refl
absorbs Equal a b h = absurd (false≢true h)
absorbs Greater a b h = refl

is_equal : (o : Ordering) → is_ne o ≡ false → o ≡ Equal
is_equal Less h = absurd (false≢true (sym h))
is_equal Equal h = refl
is_equal Greater h = absurd (false≢true (sym h))

follow_all : (ts : List Tree) (closed : Bool) (x : List ℕ) → Follows (after_of closed) x → Follows (behind ts closed) (as_arguments (map printed ts) ++ x)
follow_all [] closed x h = h
follow_all (t ∷ ts) closed x h = (_, refl)

-- one argument, and those behind it
one_argument : (o : Ordering) (t u : Tree) (ts us : List Tree) (closed : Bool) (x y : List ℕ)
    → Orders o (shown true t) (shown true u) (behind ts closed) (behind us closed) → Follows (after_of closed) x → Follows (after_of closed) y
    → text_cmp (as_arguments (map printed (t ∷ ts)) ++ x) (as_arguments (map printed (u ∷ us)) ++ y)
    ≡ ordering_then o (text_cmp (as_arguments (map printed ts) ++ x) (as_arguments (map printed us) ++ y))
one_argument o t u ts us closed x y h f g =
    ap (λ z. text_cmp z ((as_argument (printed u) ++ as_arguments (map printed us)) ++ y)) (append_assoc (as_argument (printed t)) (as_arguments (map printed ts)) x)
    ∙ ap (text_cmp (as_argument (printed t) ++ (as_arguments (map printed ts) ++ x))) (append_assoc (as_argument (printed u)) (as_arguments (map printed us)) y)
    ∙ h _ _ (follow_all ts closed x f) (follow_all us closed y g)

-- how the arguments from a place on compare
abbrev pub Left : List Tree → List Tree → ℕ → Bool → Type 0
Left xs ys i closed = (x y : List ℕ) → Follows (after_of closed) x → Follows (after_of closed) y
    → text_cmp (as_arguments (map printed xs) ++ x) (as_arguments (map printed ys) ++ y)
    ≡ text_cmp (as_arguments (map printed (drop i xs)) ++ x) (as_arguments (map printed (drop i ys)) ++ y)

drop_at : (ts : List Tree) (i : ℕ) (t : Tree) → i < length ts → t ≡ get_or ts i t → drop i ts ≡ t ∷ drop (i + 1) ts
drop_at [] i t h e = absurd (omega (arith, h))
drop_at (u ∷ ts) zero t h e = ap (λ z. z ∷ ts) (sym e)
drop_at (u ∷ ts) (suc i) t h e = let n : suc i + 1 ≡ suc (i + 1) = omega arith in drop_at ts i t (omega (arith, h)) e ∙ ap (λ m. t ∷ drop m (u ∷ ts)) (sym n)

left_step : (xs ys : List Tree) (i : ℕ) (closed : Bool) (o : Ordering) (t u : Tree) (a b : After) → Left xs ys i closed
    → i < length xs → i < length ys → t ≡ get_or xs i t → u ≡ get_or ys i u → a ≡ behind (drop (i + 1) xs) closed → b ≡ behind (drop (i + 1) ys) closed
    → Orders o (shown true t) (shown true u) a b
    → (x y : List ℕ) → Follows (after_of closed) x → Follows (after_of closed) y
    → text_cmp (as_arguments (map printed xs) ++ x) (as_arguments (map printed ys) ++ y)
    ≡ ordering_then o (text_cmp (as_arguments (map printed (drop (i + 1) xs)) ++ x) (as_arguments (map printed (drop (i + 1) ys)) ++ y))
left_step xs ys i closed o t u a b l m n e f r s h x y p q =
    let R : After → Type 0 = λ z. Orders o (shown true t) (shown true u) z b in
    let S : After → Type 0 = λ z. Orders o (shown true t) (shown true u) (behind (drop (i + 1) xs) closed) z in
    l x y p q
    ∙ ap (λ z. text_cmp (as_arguments (map printed z) ++ x) (as_arguments (map printed (drop i ys)) ++ y)) (drop_at xs i t m e)
    ∙ ap (λ z. text_cmp (as_arguments (map printed (t ∷ drop (i + 1) xs)) ++ x) (as_arguments (map printed z) ++ y)) (drop_at ys i u n f)
    ∙ one_argument o t u (drop (i + 1) xs) (drop (i + 1) ys) closed x y (subst S s (subst R r h)) p q

pub left_differs : (xs ys : List Tree) (i : ℕ) (closed : Bool) (o : Ordering) (t u : Tree) (a b : After) → Left xs ys i closed
    → i < length xs → i < length ys → t ≡ get_or xs i t → u ≡ get_or ys i u → a ≡ behind (drop (i + 1) xs) closed → b ≡ behind (drop (i + 1) ys) closed
    → Orders o (shown true t) (shown true u) a b → is_ne o ≡ true
    → Orders o (as_arguments (map printed xs)) (as_arguments (map printed ys)) (after_of closed) (after_of closed)
left_differs xs ys i closed o t u a b l m n e f r s h k x y p q =
    left_step xs ys i closed o t u a b l m n e f r s h x y p q ∙ absorbs o _ (text_cmp x y) k

pub left_same : (xs ys : List Tree) (i : ℕ) (closed : Bool) (o : Ordering) (t u : Tree) (a b : After) → Left xs ys i closed
    → i < length xs → i < length ys → t ≡ get_or xs i t → u ≡ get_or ys i u → a ≡ behind (drop (i + 1) xs) closed → b ≡ behind (drop (i + 1) ys) closed
    → Orders o (shown true t) (shown true u) a b → is_ne o ≡ false → Left xs ys (i + 1) closed
left_same xs ys i closed o t u a b l m n e f r s h k x y p q =
    left_step xs ys i closed o t u a b l m n e f r s h x y p q
    ∙ ap (λ z. ordering_then z (text_cmp (as_arguments (map printed (drop (i + 1) xs)) ++ x) (as_arguments (map printed (drop (i + 1) ys)) ++ y))) (is_equal o k)

abbrev shorter_of : Bool → Ordering
shorter_of closed = if closed then Greater else Less

ended_short : (m n : ℕ) (closed : Bool) → m < n → ended m n closed ≡ shorter_of closed
ended_short m n closed h = rw (ne_eqb m n (omega (arith, h)), lt-ltb m n h) refl

ended_long : (m n : ℕ) (closed : Bool) → n < m → ended m n closed ≡ ordering_reverse (shorter_of closed)
ended_long m n closed h = rw (ne_eqb m n (omega (arith, h)), le-ltb m n (omega (arith, h))) refl

-- one list of arguments has ended
ended_orders : (ts us : List Tree) (closed : Bool) → (ts ≡ []) ⊎ (us ≡ []) → (x y : List ℕ) → Follows (after_of closed) x → Follows (after_of closed) y
    → text_cmp (as_arguments (map printed ts) ++ x) (as_arguments (map printed us) ++ y) ≡ ordering_then (ended (length ts) (length us) closed) (text_cmp x y)
ended_orders [] [] closed c x y p q = refl
ended_orders [] (u ∷ us) false c x y p q =
    ap (λ z. text_cmp z (as_arguments (map printed (u ∷ us)) ++ y)) p ∙ sym (ap (λ o. ordering_then o (text_cmp x y)) (ended_short 0 (suc (length us)) false (omega arith)))
ended_orders [] (u ∷ us) true c x y p q =
    ap (λ z. text_cmp z (as_arguments (map printed (u ∷ us)) ++ y)) p.1 ∙ sym (ap (λ o. ordering_then o (text_cmp x y)) (ended_short 0 (suc (length us)) true (omega arith)))
ended_orders (t ∷ ts) [] false c x y p q =
    ap (text_cmp (as_arguments (map printed (t ∷ ts)) ++ x)) q ∙ sym (ap (λ o. ordering_then o (text_cmp x y)) (ended_long (suc (length ts)) 0 false (omega arith)))
ended_orders (t ∷ ts) [] true c x y p q =
    ap (text_cmp (as_arguments (map printed (t ∷ ts)) ++ x)) q.1 ∙ sym (ap (λ o. ordering_then o (text_cmp x y)) (ended_long (suc (length ts)) 0 true (omega arith)))
ended_orders (t ∷ ts) (u ∷ us) closed c x y p q = ⊎_elim (λ e. absurd (cc e)) (λ e. absurd (cc e)) c

drop_all : (ts : List Tree) (n : ℕ) → length ts ≤ n → drop n ts ≡ []
drop_all [] zero h = refl
drop_all [] (suc n) h = refl
drop_all (t ∷ ts) zero h = absurd (omega (arith, h))
drop_all (t ∷ ts) (suc n) h = drop_all ts n (omega (arith, h))

ended_equal : (m : ℕ) (closed : Bool) → ended m m closed ≡ Equal
ended_equal m closed = rw (eq-eqb m m refl) refl

ended_same : (m n k : ℕ) (closed : Bool) → k ≤ m → k ≤ n → ended (m - k) (n - k) closed ≡ ended m n closed
ended_same m n k closed h i = ⊎_elim
    (λ e. let P : ℕ → Type 0 = λ z. ended (m - k) (z - k) closed ≡ ended m z closed in subst P e (ended_equal (m - k) closed ∙ sym (ended_equal m closed)))
    (λ o. ⊎_elim
    (λ l. ended_short (m - k) (n - k) closed (omega (arith, l, h, i)) ∙ sym (ended_short m n closed l))
    (λ l. ended_long (m - k) (n - k) closed (omega (arith, l, h, i)) ∙ sym (ended_long m n closed l)) o)
    (cases_order m n)

-- all the arguments, where those that both have are equal
pub left_ends : (xs ys : List Tree) (n : ℕ) (closed : Bool) (o : Ordering) → n ≤ length xs → n ≤ length ys → (length xs ≤ n) ⊎ (length ys ≤ n)
    → Left xs ys n closed → o ≡ ended (length xs) (length ys) closed
    → Orders o (as_arguments (map printed xs)) (as_arguments (map printed ys)) (after_of closed) (after_of closed)
left_ends xs ys n closed o a b c l e x y p q =
    l x y p q
    ∙ ended_orders (drop n xs) (drop n ys) closed (⊎_elim (λ h. inl (drop_all xs n h)) (λ h. inr (drop_all ys n h)) c) x y p q
    ∙ ap (λ z. ordering_then z (text_cmp x y)) (ap (λ m. ended m (length (drop n ys)) closed) (length-drop n xs) ∙ ap (λ m. ended (length xs - n) m closed) (length-drop n ys) ∙ ended_same (length xs) (length ys) n closed a b ∙ sym e)

names_then : (o : Ordering) (f g : List ℕ) (xs ys : List Tree) (closed : Bool) (a b : After) → a ≡ behind xs closed → b ≡ behind ys closed → Orders o f g a b
    → (x y : List ℕ) → Follows (after_of closed) x → Follows (after_of closed) y
    → text_cmp ((f ++ as_arguments (map printed xs)) ++ x) ((g ++ as_arguments (map printed ys)) ++ y)
    ≡ ordering_then o (text_cmp (as_arguments (map printed xs) ++ x) (as_arguments (map printed ys) ++ y))
names_then o f g xs ys closed a b i j h x y p q =
    let A : After → Type 0 = λ z. Orders o f g z b in
    let B : After → Type 0 = λ z. Orders o f g (behind xs closed) z in
    ap (λ z. text_cmp z ((g ++ as_arguments (map printed ys)) ++ y)) (append_assoc f (as_arguments (map printed xs)) x)
    ∙ ap (text_cmp (f ++ (as_arguments (map printed xs) ++ x))) (append_assoc g (as_arguments (map printed ys)) y)
    ∙ subst B j (subst A i h) _ _ (follow_all xs closed x p) (follow_all ys closed y q)

-- two names, and then their arguments
pub names_differ : (o : Ordering) (f g : List ℕ) (xs ys : List Tree) (closed : Bool) (a b : After) → a ≡ behind xs closed → b ≡ behind ys closed → Orders o f g a b → is_ne o ≡ true
    → Orders o (f ++ as_arguments (map printed xs)) (g ++ as_arguments (map printed ys)) (after_of closed) (after_of closed)
names_differ o f g xs ys closed a b i j h n x y p q =
    names_then o f g xs ys closed a b i j h x y p q ∙ absorbs o _ (text_cmp x y) n

pub names_same : (o r : Ordering) (f g : List ℕ) (xs ys : List Tree) (closed : Bool) (a b : After) → a ≡ behind xs closed → b ≡ behind ys closed → Orders o f g a b → is_ne o ≡ false
    → Orders r (as_arguments (map printed xs)) (as_arguments (map printed ys)) (after_of closed) (after_of closed)
    → Orders r (f ++ as_arguments (map printed xs)) (g ++ as_arguments (map printed ys)) (after_of closed) (after_of closed)
names_same o r f g xs ys closed a b i j h n k x y p q =
    names_then o f g xs ys closed a b i j h x y p q
    ∙ ap (λ z. ordering_then z (text_cmp (as_arguments (map printed xs) ++ x) (as_arguments (map printed ys) ++ y))) (is_equal o n)
    ∙ k x y p q

-- applications as they are shown
shown_constant : (f : List ℕ) → shown true (tree.App f []) ≡ f
shown_constant f = ap as_argument (fold-App Printed printed_step f []) ∙ append-nil f

shown_inner : (f : List ℕ) (t : Tree) (ts : List Tree) → shown true (tree.App f (t ∷ ts)) ≡ 40 ∷ ((f ++ as_arguments (map printed (t ∷ ts))) ++ 41 ∷ [])
shown_inner f t ts = ap as_argument (fold-App Printed printed_step f (t ∷ ts))

pub shown_alone : (f : List ℕ) (ts : List Tree) → shown false (tree.App f ts) ≡ f ++ as_arguments (map printed ts)
shown_alone f ts = ap (λ p. p.0) (fold-App Printed printed_step f ts)

-- in parentheses
in_parentheses : (o : Ordering) (a b : List ℕ) (f g : After) → Orders o a b Close Close → Orders o (40 ∷ (a ++ 41 ∷ [])) (40 ∷ (b ++ 41 ∷ [])) f g
in_parentheses o a b f g h x y p q =
    ap (λ z. text_cmp z ((b ++ 41 ∷ []) ++ y)) (append_assoc a (41 ∷ []) x)
    ∙ ap (text_cmp (a ++ (41 ∷ x))) (append_assoc b (41 ∷ []) y)
    ∙ h (41 ∷ x) (41 ∷ y) (x, refl) (y, refl)

moved : (o : Ordering) (a b c d : List ℕ) (f g : After) → a ≡ c → b ≡ d → Orders o c d f g → Orders o a b f g
moved o a b c d f g e i h =
    let P : List ℕ → Type 0 = λ z. Orders o z b f g in
    let Q : List ℕ → Type 0 = λ z. Orders o c z f g in
    subst P (sym e) (subst Q (sym i) h)

constant_too : (f g : List ℕ) (ts us : List Tree) → ts ≡ [] → sort_of true (tree.App f ts) ≡ sort_of true (tree.App g us) → us ≡ []
constant_too f g ts [] n s = refl
constant_too f g ts (u ∷ us) n s =
    let e : Letter ≡ Parenthesis = sym (sort_constant true f) ∙ ap (λ z. sort_of true (tree.App f z)) (sym n) ∙ s ∙ (sort_application g u us).1 in absurd (cc e)

-- two constants as arguments
pub constants : (o : Ordering) (f g : List ℕ) (ts us : List Tree) (u : Tree) (a b : After) → u ≡ tree.App g us → ts ≡ [] → sort_of true (tree.App f ts) ≡ sort_of true u
    → Orders o f g a b → Orders o (shown true (tree.App f ts)) (shown true u) a b
constants o f g ts us u a b e n s h =
    let none = constant_too f g ts us n (s ∙ ap (sort_of true) e) in
    moved o _ _ f g a b (ap (λ z. shown true (tree.App f z)) n ∙ shown_constant f) (ap (shown true) e ∙ ap (λ z. shown true (tree.App g z)) none ∙ shown_constant g) h

both_case : (o : Ordering) (f g : List ℕ) (t : Tree) (ts us : List Tree) (u : Tree) (a b : After) → u ≡ tree.App g us → sort_of true (tree.App f (t ∷ ts)) ≡ sort_of true (tree.App g us)
    → Orders o (f ++ as_arguments (map printed (t ∷ ts))) (g ++ as_arguments (map printed us)) Close Close → Orders o (shown true (tree.App f (t ∷ ts))) (shown true u) a b
both_case o f g t ts [] u a b e s h = let x : Parenthesis ≡ Letter = sym (sort_application f t ts).1 ∙ s ∙ sort_constant true g in absurd (cc x)
both_case o f g t ts (v ∷ us) u a b e s h =
    moved o _ _ _ _ a b (shown_inner f t ts) (ap (shown true) e ∙ shown_inner g v us) (in_parentheses o (f ++ as_arguments (map printed (t ∷ ts))) (g ++ as_arguments (map printed (v ∷ us))) a b h)

-- two applications as arguments
pub both_inner : (o : Ordering) (f g : List ℕ) (ts us : List Tree) (u : Tree) (a b : After) → u ≡ tree.App g us → ((ts ≡ []) → ⊥) → sort_of true (tree.App f ts) ≡ sort_of true u
    → Orders o (f ++ as_arguments (map printed ts)) (g ++ as_arguments (map printed us)) Close Close → Orders o (shown true (tree.App f ts)) (shown true u) a b
both_inner o f g [] us u a b e n s h = absurd (n refl)
both_inner o f g (t ∷ ts) us u a b e n s h = both_case o f g t ts us u a b e (s ∙ ap (sort_of true) e) h

-- two applications that are no arguments
pub both_alone : (o : Ordering) (f g : List ℕ) (ts us : List Tree) (u : Tree) (a b : After) → u ≡ tree.App g us
    → Orders o (f ++ as_arguments (map printed ts)) (g ++ as_arguments (map printed us)) a b → Orders o (shown false (tree.App f ts)) (shown false u) a b
both_alone o f g ts us u a b e h = moved o _ _ _ _ a b (shown_alone f ts) (ap (shown false) e ∙ shown_alone g us) h

equal_end : (o : Ordering) → ordering_then o Equal ≡ o
equal_end Less = refl
equal_end Equal = refl
equal_end Greater = refl

-- whole texts
pub whole_texts : (o : Ordering) (a b : List ℕ) → Orders o a b End End → o ≡ text_cmp a b
whole_texts o a b h =
    sym (ap (λ z. text_cmp z b) (sym (append-nil a)) ∙ ap (text_cmp (a ++ [])) (sym (append-nil b)) ∙ h [] [] refl refl ∙ equal_end o)

-- the sort of an application
pub app_letter : (inner : Bool) (f : List ℕ) (ts : List Tree) → length ts ≡ 0 → Letter ≡ sort_of inner (tree.App f ts)
app_letter inner f [] e = sym (sort_constant inner f)
app_letter inner f (t ∷ ts) e = absurd (omega (arith, e))

pub app_inner : (inner : Bool) (f : List ℕ) (ts : List Tree) → inner ≡ true → ((length ts ≡ 0) → ⊥) → Parenthesis ≡ sort_of inner (tree.App f ts)
app_inner inner f [] e n = absurd (n refl)
app_inner true f (t ∷ ts) e n = sym (sort_application f t ts).1
app_inner false f (t ∷ ts) e n = absurd (false≢true e)

pub app_outer : (inner : Bool) (f : List ℕ) (ts : List Tree) → inner ≡ false → Letter ≡ sort_of inner (tree.App f ts)
app_outer inner f [] e = sym (sort_constant inner f)
app_outer true f (t ∷ ts) e = absurd (false≢true (sym e))
app_outer false f (t ∷ ts) e = sym (sort_application f t ts).0

take_whole : (ts : List Tree) (n : ℕ) → length ts ≤ n → take n ts ≡ ts
take_whole [] zero h = refl
take_whole [] (suc n) h = refl
take_whole (t ∷ ts) zero h = absurd (omega (arith, h))
take_whole (t ∷ ts) (suc n) h = ap (λ z. t ∷ z) (take_whole ts n (omega (arith, h)))

-- what follows an argument, as a slice gives it
pub behind_rest : (a : After) (ts : List Tree) (k : ℕ) (closed : Bool) → a ≡ behind (take (length ts - k) (drop k ts)) closed → a ≡ behind (drop k ts) closed
behind_rest a ts k closed e = let n = length-drop k ts in e ∙ ap (λ z. behind z closed) (take_whole (drop k ts) (length ts - k) (omega (arith, n)))

pub is_nil : (ts : List Tree) → true ≡ (length ts == 0) → ts ≡ []
is_nil [] e = refl
is_nil (t ∷ ts) e = let n = eqb-true (length (t ∷ ts)) 0 (sym e) in absurd (omega (arith, n))

pub not_nil : (ts : List Tree) → false ≡ (length ts == 0) → ts ≡ [] → ⊥
not_nil ts e n = let P : List Tree → Type 0 = λ z. false ≡ (length z == 0) in let h : false ≡ true = subst P n e in false≢true h
