-- The order of parts of texts.
use Rattle.std.proofs.Common.{◌≡◌, ◌≢◌, ℕ, zero, suc, ◌+◌, ◌≤◌, ◌<◌, ◌⊎◌, Bool, true, false, ◌||◌, ◌==◌, if◌then◌else◌, List, [], ◌∷◌, ◌++◌, length, drop, get_or, ap, sym, ◌∙◌, subst, refl, arith, append_assoc, ⊎_elim}
use Rattle.std.specs.Prelude.{flat_map}
use Rattle.std.specs.declared.cmp.Ordering.{Ordering}
use Rattle.std.specs.declared.cmp.Ordering.TheVariants.{Less, Equal, Greater}
use Rattle.std.specs.Ordering.{nat_cmp, ordering_then, ordering_reverse}
use Rattle.std.proofs.lemmas.Bool.{lt-ltb, le-ltb, ne_eqb, eq-eqb, cases_Bool, cases_order, or_from}
use Rattle.gft_tree.specs.Lexemes.{escaped}
use Rattle.gft_tree.specs.Trees.{quoted}
use Rattle.gft_tree.specs.declared.order.After.{After}
use Rattle.gft_tree.specs.declared.order.After.TheVariants.{End, Space, Close, Quote}
use Rattle.gft_tree.specs.Order.{text_cmp, Follows, Orders, lead_byte, byte_cmp, after_cmp, bytes_cmp}

-- NUMBERS

pub lt_less : (x y : ℕ) → x < y → nat_cmp x y ≡ Less
lt_less x y h = rw (lt-ltb x y h) refl

pub gt_greater : (x y : ℕ) → y < x → nat_cmp x y ≡ Greater
gt_greater x y h = rw (le-ltb x y (omega (arith, h)), ne_eqb x y (omega (arith, h))) refl

pub eq_equal : (x : ℕ) → nat_cmp x x ≡ Equal
eq_equal x = rw (le-ltb x x (omega arith), eq-eqb x x refl) refl

reversed : (x y : ℕ) → nat_cmp y x ≡ ordering_reverse (nat_cmp x y)
reversed x y = ⊎_elim
    (λ e. let P : ℕ → Type 0 = λ z. nat_cmp z x ≡ ordering_reverse (nat_cmp x z) in subst P e (eq_equal x ∙ ap ordering_reverse (sym (eq_equal x))))
    (λ o. ⊎_elim (λ h. gt_greater y x h ∙ ap ordering_reverse (sym (lt_less x y h))) (λ h. lt_less y x h ∙ ap ordering_reverse (sym (gt_greater x y h))) o)
    (cases_order x y)

-- where two numbers differ, nothing else counts
decided : (x y : ℕ) (o p : Ordering) → x ≢ y → ordering_then (nat_cmp x y) o ≡ ordering_then (nat_cmp x y) p
decided x y o p n = ⊎_elim
    (λ e. absurd (n e))
    (λ c. ⊎_elim (λ h. rw (lt_less x y h) refl) (λ h. rw (gt_greater x y h) refl) c)
    (cases_order x y)

then_assoc : (a b c : Ordering) → ordering_then (ordering_then a b) c ≡ ordering_then a (ordering_then b c)
then_assoc Less b c = refl
then_assoc Equal b c = refl
then_assoc Greater b c = refl

then_same : (a b : Ordering) → ordering_then a b ≡ ordering_then (ordering_then a a) b
then_same Less b = refl
then_same Equal b = refl
then_same Greater b = refl

-- BYTES AS THEY ARE WRITTEN

abbrev marked : ℕ → Bool
marked c = c == 34 || c == 92

unmarked : (c k : ℕ) → marked c ≡ false → marked k ≡ true → c ≢ k
unmarked c k h g e = let P : ℕ → Type 0 = λ x. marked x ≡ false in let a = subst P e h in let b : true ≡ false = sym g ∙ a in cc b

escaped_case : (c d : ℕ) (x y : List ℕ) (m n : Bool) → marked c ≡ m → marked d ≡ n → text_cmp (escaped c ++ x) (escaped d ++ y) ≡ ordering_then (byte_cmp c d) (text_cmp x y)
escaped_case c d x y true true m n = rw (m, n) refl
escaped_case c d x y true false m n = rw (m, n) (decided 92 d _ _ (λ e. unmarked d 92 n refl (sym e)) ∙ sym (then_assoc (nat_cmp 92 d) (nat_cmp c d) (text_cmp x y)))
escaped_case c d x y false true m n = rw (m, n) (decided c 92 _ _ (unmarked c 92 m refl) ∙ sym (then_assoc (nat_cmp c 92) (nat_cmp c d) (text_cmp x y)))
escaped_case c d x y false false m n = rw (m, n) (then_same (nat_cmp c d) (text_cmp x y))

escaped_step : (c d : ℕ) (x y : List ℕ) → text_cmp (escaped c ++ x) (escaped d ++ y) ≡ ordering_then (byte_cmp c d) (text_cmp x y)
escaped_step c d x y = escaped_case c d x y (marked c) (marked d) refl refl

lead_first : (d : ℕ) (y : List ℕ) → (rest : List ℕ) × (escaped d ++ y ≡ lead_byte d ∷ rest)
lead_first d y = ⊎_elim (λ m. (d ∷ y, rw m refl)) (λ m. (y, rw m refl)) (cases_Bool (marked d))

lead_no_quote : (d : ℕ) → 34 ≢ lead_byte d
lead_no_quote d e = ⊎_elim
    (λ m. let P : Bool → Type 0 = λ b. 34 ≡ (if b then 92 else d) in let x = subst P m e in omega (arith, x))
    (λ m. let P : Bool → Type 0 = λ b. 34 ≡ (if b then 92 else d) in unmarked d 34 m refl (sym (subst P m e)))
    (cases_Bool (marked d))

-- bytes that are no space and no parenthesis
abbrev pub Clean : List ℕ → Type 0
Clean [] = Unit {0}
Clean (b ∷ bs) = (32 ≢ lead_byte b) × ((41 ≢ lead_byte b) × Clean bs)

-- bytes that what follows differs from
abbrev pub Passes : After → List ℕ → Type 0
Passes End q = Unit {0}
Passes Space q = Clean q
Passes Close q = Clean q
Passes Quote q = Unit {0}

passes_on : (f : After) (d : ℕ) (q : List ℕ) → Passes f (d ∷ q) → Passes f q
passes_on End d q p = tt
passes_on Space d q p = p.1.1
passes_on Close d q p = p.1.1
passes_on Quote d q p = tt

-- what follows against a byte that goes on
after_step : (f : After) (d : ℕ) (q x y : List ℕ) (o : Ordering) → Follows f x → Passes f (d ∷ q) → text_cmp x (escaped d ++ y) ≡ ordering_then (after_cmp f d) o
after_step End d q x y o h p = let l = lead_first d y in let P : List ℕ → Type 0 = λ z. text_cmp z (escaped d ++ y) ≡ Less in subst P (sym h) (ap (text_cmp []) l.1)
after_step Space d q x y o h p =
    let l = lead_first d y in
    ap (λ z. text_cmp z (escaped d ++ y)) h.1 ∙ ap (text_cmp (32 ∷ h.0)) l.1 ∙ decided 32 (lead_byte d) (text_cmp h.0 l.0) o p.0
after_step Close d q x y o h p =
    let l = lead_first d y in
    ap (λ z. text_cmp z (escaped d ++ y)) h.1 ∙ ap (text_cmp (41 ∷ h.0)) l.1 ∙ decided 41 (lead_byte d) (text_cmp h.0 l.0) o p.1.0
after_step Quote d q x y o h p =
    let l = lead_first d y in
    ap (λ z. text_cmp z (escaped d ++ y)) h.1 ∙ ap (text_cmp (34 ∷ h.0)) l.1 ∙ decided 34 (lead_byte d) (text_cmp h.0 l.0) o (lead_no_quote d)

reverse_then : (a b : Ordering) → ordering_reverse (ordering_then a b) ≡ ordering_then (ordering_reverse a) (ordering_reverse b)
reverse_then Less b = refl
reverse_then Equal b = refl
reverse_then Greater b = refl

flipped : (x y : List ℕ) → text_cmp y x ≡ ordering_reverse (text_cmp x y)
flipped [] [] = refl
flipped [] (y ∷ ys) = refl
flipped (x ∷ xs) [] = refl
flipped (x ∷ xs) (y ∷ ys) = ap (λ o. ordering_then o (text_cmp ys xs)) (reversed x y) ∙ ap (ordering_then (ordering_reverse (nat_cmp x y))) (flipped xs ys) ∙ sym (reverse_then (nat_cmp x y) (text_cmp xs ys))

twice : (a : Ordering) → ordering_reverse (ordering_reverse a) ≡ a
twice Less = refl
twice Equal = refl
twice Greater = refl

-- the bytes of two parts, and what follows
pub bytes_orders : (p q : List ℕ) (f g : After) → Passes f q → Passes g p → Orders (bytes_cmp f g p q) (flat_map escaped p) (flat_map escaped q) f g
bytes_orders [] [] f g a b x y h k = refl
bytes_orders [] (d ∷ q) f g a b x y h k =
    ap (text_cmp x) (append_assoc (escaped d) (flat_map escaped q) y) ∙ after_step f d q x (flat_map escaped q ++ y) (text_cmp x y) h a
bytes_orders (c ∷ p) [] f g a b x y h k =
    ap (λ z. text_cmp z y) (append_assoc (escaped c) (flat_map escaped p) x)
    ∙ flipped y (escaped c ++ (flat_map escaped p ++ x))
    ∙ ap ordering_reverse (after_step g c p y (flat_map escaped p ++ x) (ordering_reverse (text_cmp x y)) k b)
    ∙ reverse_then (after_cmp g c) (ordering_reverse (text_cmp x y))
    ∙ ap (ordering_then (ordering_reverse (after_cmp g c))) (twice (text_cmp x y))
bytes_orders (c ∷ p) (d ∷ q) f g a b x y h k =
    ap (λ z. text_cmp z ((escaped d ++ flat_map escaped q) ++ y)) (append_assoc (escaped c) (flat_map escaped p) x)
    ∙ ap (text_cmp (escaped c ++ (flat_map escaped p ++ x))) (append_assoc (escaped d) (flat_map escaped q) y)
    ∙ escaped_step c d (flat_map escaped p ++ x) (flat_map escaped q ++ y)
    ∙ ap (ordering_then (byte_cmp c d)) (bytes_orders p q f g (passes_on f d q a) (passes_on g c p b) x y h k)
    ∙ sym (then_assoc (byte_cmp c d) (bytes_cmp f g p q) (text_cmp x y))

-- two words in quotes
pub quoted_orders : (w v : List ℕ) (f g : After) → Orders (bytes_cmp Quote Quote w v) (quoted w) (quoted v) f g
quoted_orders w v f g x y h k =
    ap (λ z. text_cmp z ((flat_map escaped v ++ 34 ∷ []) ++ y)) (append_assoc (flat_map escaped w) (34 ∷ []) x)
    ∙ ap (text_cmp (flat_map escaped w ++ (34 ∷ x))) (append_assoc (flat_map escaped v) (34 ∷ []) y)
    ∙ bytes_orders w v Quote Quote tt tt (34 ∷ x) (34 ∷ y) (x, refl) (y, refl)

-- PLAIN TEXTS

-- an apostrophe, a digit or what comes after the digits, and no backslash
abbrev pub IsPlainByte : ℕ → Type 0
IsPlainByte b = (b ≡ 39) ⊎ ((48 ≤ b) × (b ≢ 92))

abbrev pub AllPlain : List ℕ → Type 0
AllPlain [] = Unit {0}
AllPlain (b ∷ bs) = IsPlainByte b × AllPlain bs

plain_unmarked : (b : ℕ) → IsPlainByte b → marked b ≡ false
plain_unmarked b h = ⊎_elim
    (λ e. let P : ℕ → Type 0 = λ x. marked x ≡ false in subst P (sym e) refl)
    (λ k. let lo = k.0 in or_from _ _ (ne_eqb b 34 (omega (arith, lo))) (ne_eqb b 92 k.1)) h

plain_lead : (b : ℕ) → IsPlainByte b → lead_byte b ≡ b
plain_lead b h = rw (plain_unmarked b h) refl

plain_clean : (bs : List ℕ) → AllPlain bs → Clean bs
plain_clean [] h = tt
plain_clean (b ∷ bs) h =
    let apart : (n : ℕ) → n ≢ 39 → n < 48 → n ≢ lead_byte b = λ n a c e. ⊎_elim (λ i. let l = plain_lead b h.0 in a (e ∙ l ∙ i)) (λ k. let l = plain_lead b h.0 in let lo = k.0 in omega (arith, e, l, lo, c)) h.0 in
    (apart 32 (omega arith) (omega arith), (apart 41 (omega arith) (omega arith), plain_clean bs h.1))

plain_escaped : (bs : List ℕ) → AllPlain bs → flat_map escaped bs ≡ bs
plain_escaped [] h = refl
plain_escaped (b ∷ bs) h = rw (plain_unmarked b h.0) (ap (λ x. b ∷ x) (plain_escaped bs h.1))

plain_passes : (f : After) (bs : List ℕ) → AllPlain bs → Passes f bs
plain_passes End bs h = tt
plain_passes Space bs h = plain_clean bs h
plain_passes Close bs h = plain_clean bs h
plain_passes Quote bs h = tt

pub plain_orders : (p q : List ℕ) (f g : After) → AllPlain p → AllPlain q → Orders (bytes_cmp f g p q) p q f g
plain_orders p q f g a b =
    let P : List ℕ → Type 0 = λ x. Orders (bytes_cmp f g p q) x q f g in
    let Q : List ℕ → Type 0 = λ x. Orders (bytes_cmp f g p q) (flat_map escaped p) x f g in
    subst P (plain_escaped p a) (subst Q (plain_escaped q b) (bytes_orders p q f g (plain_passes f q b) (plain_passes g p a)))

-- the loop over the bytes
pub bytes_at : (f g : After) (p q : List ℕ) (k : ℕ) → k < length p → k < length q
    → bytes_cmp f g (drop k p) (drop k q) ≡ ordering_then (byte_cmp (get_or p k 0) (get_or q k 0)) (bytes_cmp f g (drop (k + 1) p) (drop (k + 1) q))
bytes_at f g [] q k h i = absurd (omega (arith, h))
bytes_at f g (c ∷ p) [] k h i = absurd (omega (arith, i))
bytes_at f g (c ∷ p) (d ∷ q) zero h i = refl
bytes_at f g (c ∷ p) (d ∷ q) (suc k) h i =
    let n : suc k + 1 ≡ suc (k + 1) = omega arith in
    bytes_at f g p q k (omega (arith, h)) (omega (arith, i)) ∙ ap (λ m. ordering_then (byte_cmp (get_or p k 0) (get_or q k 0)) (bytes_cmp f g (drop m (c ∷ p)) (drop m (d ∷ q)))) (sym n)
