-- The bytes of names and numbers.
use Rattle.std.proofs.Common.{◌≡◌, ◌≢◌, ℕ, suc, ◌-◌, ◌^◌, ◌≤◌, ◌<◌, inl, inr, true, ◌||◌, ◌==◌, List, [], ◌∷◌, ◌++◌, length, ap, sym, ◌∙◌, subst, refl, arith, ⊎_elim}
use Rattle.std.specs.Prelude.{encode_utf8, encode_utf8_all}
use Rattle.std.specs.Char.{is_ascii_digit, is_ascii_alphabetic, is_ascii_alphanumeric}
use Rattle.std.specs.Int.{is_in_range}
use Rattle.std.specs.Fmt.{decimal}
use Rattle.std.specs.List.{list_all}
use Rattle.std.specs.Str.{chars, IsUtf8}
use Rattle.std.proofs.lemmas.Bool.{and_parts, leb-true, cases_lt, or_cases, or_left, or_right, eqb-true, false≢true}
use Rattle.std.proofs.lemmas.Str.{encode_ascii, encodes-chars, length-encode, len_utf8_bounds}
use Rattle.unicode_ident.proofs.IdentLemmas.{is_xid_start-ascii, is_xid_continue-ascii}
use Rattle.gft_core.specs.Names.{begins_name, continues_name, spells_name, IsName}
use Rattle.gft_tree.proofs.DigitLemmas.{writes}
use Rattle.gft_tree.proofs.EscapeLemmas.{AllHigh, encode_high}
use Rattle.gft_tree.proofs.OrderLemmas.{IsPlainByte, AllPlain}

plain_app : (xs ys : List ℕ) → AllPlain xs → AllPlain ys → AllPlain (xs ++ ys)
plain_app [] ys h k = k
plain_app (x ∷ xs) ys h k = (h.0, plain_app xs ys h.1 k)

high_plain : (bs : List ℕ) → AllHigh bs → AllPlain bs
high_plain [] h = tt
high_plain (b ∷ bs) h = let lo = h.0 in (inr (omega (arith, lo), λ e. omega (arith, e, lo)), high_plain bs h.1)

pub in_range : (lo hi c : ℕ) → is_in_range lo hi c ≡ true → (lo ≤ c) × (c ≤ hi)
in_range lo hi c h = let p = and_parts _ _ h in (leb-true lo c p.0, leb-true c hi p.1)

-- a letter, a digit or an underscore
ascii_plain : (c : ℕ) → (is_ascii_alphanumeric c || c == 95) ≡ true → IsPlainByte c
ascii_plain c h = ⊎_elim
    (λ a. ⊎_elim
    (λ b. ⊎_elim (λ d. let r = in_range 48 57 c d in let lo = r.0 in let hi = r.1 in inr (lo, λ e. omega (arith, e, hi)))
    (λ d. let r = in_range 65 90 c d in let lo = r.0 in let hi = r.1 in inr (omega (arith, lo), λ e. omega (arith, e, hi))) (or_cases (is_in_range 48 57 c) (is_in_range 65 90 c) b))
    (λ d. let r = in_range 97 122 c d in let lo = r.0 in inr (omega (arith, lo), λ e. omega (arith, e, lo)))
    (or_cases (is_in_range 48 57 c || is_in_range 65 90 c) (is_in_range 97 122 c) a))
    (λ e. let k = eqb-true c 95 e in inr (omega (arith, k), λ f. omega (arith, f, k)))
    (or_cases (is_ascii_alphanumeric c) (c == 95) h)

continue_plain : (c : ℕ) → continues_name c ≡ true → AllPlain (encode_utf8 c)
continue_plain c h = ⊎_elim
    (λ low.
    let P : List ℕ → Type 0 = AllPlain in
    let byte : IsPlainByte c = ⊎_elim (λ x. ascii_plain c (sym (is_xid_continue-ascii c low) ∙ x)) (λ q. inl (eqb-true c 39 q)) (or_cases _ (c == 39) h) in
    subst P (sym (encode_ascii c low)) (byte, tt))
    (λ high. high_plain (encode_utf8 c) (encode_high c high))
    (cases_lt c 128)

-- a letter or an underscore
ascii_letter : (c : ℕ) → (is_ascii_alphabetic c || c == 95) ≡ true → (65 ≤ c) × (c ≢ 92)
ascii_letter c h = ⊎_elim
    (λ a. ⊎_elim (λ d. let r = in_range 65 90 c d in let lo = r.0 in let hi = r.1 in (lo, λ e. omega (arith, e, hi)))
    (λ d. let r = in_range 97 122 c d in let lo = r.0 in (omega (arith, lo), λ e. omega (arith, e, lo))) (or_cases (is_in_range 65 90 c) (is_in_range 97 122 c) a))
    (λ e. let k = eqb-true c 95 e in (omega (arith, k), λ f. omega (arith, f, k)))
    (or_cases (is_ascii_alphabetic c) (c == 95) h)

-- bytes, the first from 65 on
abbrev pub LeadsPlain : List ℕ → Type 0
LeadsPlain bs = (b : ℕ) × (rest : List ℕ) × (bs ≡ b ∷ rest) × (65 ≤ b) × AllPlain bs

high_leads : (bs : List ℕ) → (n : ℕ) × (length bs ≡ suc n) → AllHigh bs → LeadsPlain bs
high_leads [] n h = absurd (let e = n.1 in omega (arith, e))
high_leads (b ∷ bs) n h = let lo = h.0 in (b, bs, refl, omega (arith, lo), high_plain (b ∷ bs) h)

begin_plain : (c : ℕ) → begins_name c ≡ true → LeadsPlain (encode_utf8 c)
begin_plain c h = ⊎_elim
    (λ low.
    let P : List ℕ → Type 0 = LeadsPlain in
    let letter : (65 ≤ c) × (c ≢ 92) = ascii_letter c (⊎_elim (λ x. or_left _ _ (sym (is_xid_start-ascii c low) ∙ x)) (λ q. or_right _ _ q) (or_cases _ (c == 95) h)) in
    let lo = letter.0 in
    subst P (sym (encode_ascii c low)) (c, [], refl, lo, (inr (omega (arith, lo), letter.1), tt)))
    (λ high. let e = length-encode c in let b = (len_utf8_bounds c).0 in
    high_leads (encode_utf8 c) (length (encode_utf8 c) - 1, omega (arith, e, b)) (encode_high c high))
    (cases_lt c 128)

names_plain : (cs : List ℕ) → list_all continues_name cs ≡ true → AllPlain (encode_utf8_all cs)
names_plain [] h = tt
names_plain (c ∷ cs) h = let p = and_parts (continues_name c) (list_all continues_name cs) h in plain_app (encode_utf8 c) (encode_utf8_all cs) (continue_plain c p.0) (names_plain cs p.1)

name_case : (cs : List ℕ) → spells_name cs ≡ true → LeadsPlain (encode_utf8_all cs)
name_case [] h = absurd (false≢true h)
name_case (c ∷ cs) h =
    let p = and_parts (begins_name c) (list_all continues_name cs) (and_parts _ _ h).0 in
    let l = begin_plain c p.0 in
    (l.0, l.1 ++ encode_utf8_all cs, ap (λ x. x ++ encode_utf8_all cs) l.2, l.3, plain_app (encode_utf8 c) (encode_utf8_all cs) l.4 (names_plain cs p.1))

-- the bytes of a name
pub name_plain : (f : List ℕ) → IsUtf8 f → IsName f → LeadsPlain f
name_plain f u h = let P : List ℕ → Type 0 = LeadsPlain in subst P (encodes-chars f u) (name_case (chars f) h)

digits_plain : (ds : List ℕ) → list_all is_ascii_digit ds ≡ true → AllPlain ds
digits_plain [] h = tt
digits_plain (d ∷ ds) h =
    let p = and_parts (is_ascii_digit d) (list_all is_ascii_digit ds) h in
    let r = in_range 48 57 d p.0 in
    let hi = r.1 in
    (inr (r.0, λ e. omega (arith, e, hi)), digits_plain ds p.1)

pub decimal_plain : (n : ℕ) → n < 10 ^ 64 → AllPlain (decimal n)
decimal_plain n h =
    let w = writes n h in
    let P : List ℕ → Type 0 = AllPlain in
    let r = in_range 48 57 w.first w.digit in
    let hi = r.1 in
    subst P (sym w.parts) (inr (r.0, λ e. omega (arith, e, hi)), digits_plain w.others w.digits)
