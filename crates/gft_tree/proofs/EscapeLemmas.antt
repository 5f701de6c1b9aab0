-- Characters of strings, written with backslashes.
use Rattle.std.proofs.Common.{◌≡◌, ℕ, ◌≤◌, ◌<◌, true, false, ◌||◌, ◌==◌, List, [], ◌∷◌, ◌++◌, ap, sym, ◌∙◌, refl, arith, append-nil, ⊎_elim, nat_lt}
use Rattle.std.specs.Prelude.{encode_utf8, encode_utf8_all, flat_map}
use Rattle.std.proofs.lemmas.Grind.{flat_map-append}
use Rattle.std.proofs.lemmas.Str.{encode_ascii, encodes-append}
use Rattle.std.proofs.lemmas.Bool.{ne_eqb, or_from, cases_lt, eqb-true, or_cases, cases_Bool, le-ltb}
use lib.Utf8.{encode}
use Rattle.gft_tree.specs.Lexemes.{escaped}

-- a byte from 128 on is no quote and no backslash
high_plain : (b : ℕ) → 128 ≤ b → escaped b ≡ b ∷ []
high_plain b h = let n : (b == 34 || b == 92) ≡ false = or_from _ _ (ne_eqb b 34 (omega (arith, h))) (ne_eqb b 92 (omega (arith, h))) in rw n refl

-- the bytes of a character, each from 128 on, are written as they are
abbrev pub AllHigh : List ℕ → Type 0
AllHigh [] = Unit {0}
AllHigh (b ∷ bs) = (128 ≤ b) × AllHigh bs

high_same : (bs : List ℕ) → AllHigh bs → flat_map escaped bs ≡ bs
high_same [] h = refl
high_same (b ∷ bs) h = ap (λ x. x ++ flat_map escaped bs) (high_plain b h.0) ∙ ap (λ x. b ∷ x) (high_same bs h.1)

pub encode_high : (c : ℕ) → 128 ≤ c → AllHigh (encode_utf8 c)
unfolding encode
encode_high c h = rw (le-ltb c 128 h) (⊎_elim
    (λ a. rw a (omega arith, (omega arith, tt)))
    (λ a. rw a (⊎_elim
    (λ b. rw b (omega arith, (omega arith, (omega arith, tt))))
    (λ b. rw b (omega arith, (omega arith, (omega arith, (omega arith, tt)))))
    (cases_Bool (nat_lt c 65536))))
    (cases_Bool (nat_lt c 2048)))

low_bytes : (c : ℕ) → c < 128 → flat_map escaped (encode_utf8 c) ≡ encode_utf8_all (escaped c)
low_bytes c h =
    ap (flat_map escaped) (encode_ascii c h) ∙ append-nil (escaped c)
    ∙ ⊎_elim
    (λ m. rw m (sym (ap (λ x. encode_utf8 92 ++ (x ++ [])) (encode_ascii c h) ∙ ap (λ x. x ++ c ∷ []) (encode_ascii 92 (omega arith)))))
    (λ p. rw p (sym (ap (λ x. x ++ []) (encode_ascii c h))))
    (cases_Bool (c == 34 || c == 92))

high_bytes : (c : ℕ) → 128 ≤ c → flat_map escaped (encode_utf8 c) ≡ encode_utf8_all (escaped c)
high_bytes c h = high_same (encode_utf8 c) (encode_high c h) ∙ sym (ap encode_utf8_all (high_plain c h) ∙ append-nil (encode_utf8 c))

-- the bytes of a character are written as the character is
pub escaped_bytes : (c : ℕ) → flat_map escaped (encode_utf8 c) ≡ encode_utf8_all (escaped c)
escaped_bytes c = ⊎_elim (low_bytes c) (high_bytes c) (cases_lt c 128)

-- the bytes of characters are written as the characters are
pub escaped_all : (cs : List ℕ) → flat_map escaped (encode_utf8_all cs) ≡ encode_utf8_all (flat_map escaped cs)
escaped_all [] = refl
escaped_all (c ∷ cs) =
    flat_map-append escaped (encode_utf8 c) (encode_utf8_all cs)
    ∙ ap (λ x. x ++ flat_map escaped (encode_utf8_all cs)) (escaped_bytes c)
    ∙ ap (λ x. encode_utf8_all (escaped c) ++ x) (escaped_all cs)
    ∙ sym (encodes-append (escaped c) (flat_map escaped cs))

-- a quote or a backslash, with a backslash before it, and any other character
pub escaped_marked : (c : ℕ) → (c == 34 || c == 92) ≡ true → flat_map escaped (encode_utf8 c) ≡ 92 ∷ encode_utf8 c
escaped_marked c h =
    let low : c < 128 = ⊎_elim (λ e. let k = eqb-true c 34 e in omega (arith, k)) (λ e. let k = eqb-true c 92 e in omega (arith, k)) (or_cases _ _ h) in
    rw (encode_ascii c low) (rw h refl)

pub escaped_plain : (c : ℕ) → (c == 34 || c == 92) ≡ false → flat_map escaped (encode_utf8 c) ≡ encode_utf8 c
escaped_plain c h = ⊎_elim (λ low. rw (encode_ascii c low) (rw h refl)) (λ high. high_same (encode_utf8 c) (encode_high c high)) (cases_lt c 128)
