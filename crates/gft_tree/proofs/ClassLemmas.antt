-- Classes of characters: what begins one token begins no other.
use Rattle.std.proofs.Common.{◌≡◌, ◌≢◌, ℕ, true, false, ◌==◌, ◌&&◌, nat_lt, refl, sym, ◌∙◌, ap, arith}
use Rattle.std.specs.Char.{is_whitespace, is_ascii_digit}
use Rattle.std.proofs.lemmas.Bool.{false≢true, ne_eqb, or_from, and_parts, ltb-true, leb-true, false_from_ne_true}
use Rattle.unicode_ident.proofs.Computing.{unicode_ident}
use Rattle.gft_core.specs.Names.{begins_name, continues_name}

-- a character that is neither white space nor a symbol of trees
pub record IsPlain (c : ℕ) : Type 0 where
  pub space : is_whitespace c ≡ false
  pub opening : (c == 40) ≡ false
  pub closing : (c == 41) ≡ false
  pub quote : (c == 34) ≡ false
  pub query : (c == 63) ≡ false

-- what no identifier begins with differs from what one begins with
differs : (c k : ℕ) → begins_name c ≡ true → begins_name k ≡ false → c ≢ k
differs c k h g e = false≢true (sym g ∙ ap begins_name (sym e) ∙ h)

-- a number that differs from each of five, or eleven, is not among them
not_in_5 : (c : ℕ) → c ≢ 9 → c ≢ 10 → c ≢ 11 → c ≢ 12 → c ≢ 13 → (nat_lt 8 c && nat_lt c 14) ≡ false
not_in_5 c a b d e f = false_from_ne_true _ (λ h. let p = and_parts _ _ h in let lo = ltb-true 8 c p.0 in let hi = ltb-true c 14 p.1 in omega (arith, a, b, d, e, f, lo, hi))

not_in_11 : (c : ℕ) → c ≢ 8192 → c ≢ 8193 → c ≢ 8194 → c ≢ 8195 → c ≢ 8196 → c ≢ 8197 → c ≢ 8198 → c ≢ 8199 → c ≢ 8200 → c ≢ 8201 → c ≢ 8202
    → (nat_lt 8191 c && nat_lt c 8203) ≡ false
not_in_11 c a b d e f g i j k l m = false_from_ne_true _ (λ h. let p = and_parts _ _ h in let lo = ltb-true 8191 c p.0 in let hi = ltb-true c 8203 p.1 in omega (arith, a, b, d, e, f, g, i, j, k, l, m, lo, hi))

not_in_10 : (c : ℕ) → c ≢ 48 → c ≢ 49 → c ≢ 50 → c ≢ 51 → c ≢ 52 → c ≢ 53 → c ≢ 54 → c ≢ 55 → c ≢ 56 → c ≢ 57 → is_ascii_digit c ≡ false
not_in_10 c a b d e f g i j k l = false_from_ne_true _ (λ h. let p = and_parts _ _ h in let lo = leb-true 48 c p.0 in let hi = leb-true c 57 p.1 in omega (arith, a, b, d, e, f, g, i, j, k, l, lo, hi))

-- what begins an identifier
pub begins_plain : (c : ℕ) → begins_name c ≡ true → IsPlain c
unfolding unicode_ident
begins_plain c h = record {
  space =
      or_from _ _ (or_from _ _ (or_from _ _ (or_from _ _ (or_from _ _ (or_from _ _ (or_from _ _ (or_from _ _ (or_from _ _ (or_from _ _
      (not_in_5 c (differs c 9 h refl) (differs c 10 h refl) (differs c 11 h refl) (differs c 12 h refl) (differs c 13 h refl))
      (ne_eqb c 32 (differs c 32 h refl))) (ne_eqb c 133 (differs c 133 h refl))) (ne_eqb c 160 (differs c 160 h refl)))
      (ne_eqb c 5760 (differs c 5760 h refl)))
      (not_in_11 c (differs c 8192 h refl) (differs c 8193 h refl) (differs c 8194 h refl) (differs c 8195 h refl) (differs c 8196 h refl)
      (differs c 8197 h refl) (differs c 8198 h refl) (differs c 8199 h refl) (differs c 8200 h refl) (differs c 8201 h refl) (differs c 8202 h refl)))
      (ne_eqb c 8232 (differs c 8232 h refl))) (ne_eqb c 8233 (differs c 8233 h refl))) (ne_eqb c 8239 (differs c 8239 h refl)))
      (ne_eqb c 8287 (differs c 8287 h refl))) (ne_eqb c 12288 (differs c 12288 h refl));
  opening = ne_eqb c 40 (differs c 40 h refl);
  closing = ne_eqb c 41 (differs c 41 h refl);
  quote = ne_eqb c 34 (differs c 34 h refl);
  query = ne_eqb c 63 (differs c 63 h refl);
}

pub begins_no_digit : (c : ℕ) → begins_name c ≡ true → is_ascii_digit c ≡ false
unfolding unicode_ident
begins_no_digit c h = not_in_10 c (differs c 48 h refl) (differs c 49 h refl) (differs c 50 h refl) (differs c 51 h refl) (differs c 52 h refl)
    (differs c 53 h refl) (differs c 54 h refl) (differs c 55 h refl) (differs c 56 h refl) (differs c 57 h refl)

-- a digit
pub digit_plain : (c : ℕ) → is_ascii_digit c ≡ true → IsPlain c
digit_plain c h =
    let p = and_parts _ _ h in
    let lo = leb-true 48 c p.0 in
    let hi = leb-true c 57 p.1 in
    record {
      space = or_from _ _ (or_from _ _ (or_from _ _ (or_from _ _ (or_from _ _ (or_from _ _ (or_from _ _ (or_from _ _ (or_from _ _ (or_from _ _
          (not_in_5 c (omega arith) (omega arith) (omega arith) (omega arith) (omega arith))
          (ne_eqb c 32 (omega arith))) (ne_eqb c 133 (omega arith))) (ne_eqb c 160 (omega arith))) (ne_eqb c 5760 (omega arith)))
          (not_in_11 c (omega arith) (omega arith) (omega arith) (omega arith) (omega arith) (omega arith) (omega arith) (omega arith) (omega arith) (omega arith) (omega arith)))
          (ne_eqb c 8232 (omega arith))) (ne_eqb c 8233 (omega arith))) (ne_eqb c 8239 (omega arith))) (ne_eqb c 8287 (omega arith))) (ne_eqb c 12288 (omega arith));
      opening = ne_eqb c 40 (omega arith);
      closing = ne_eqb c 41 (omega arith);
      quote = ne_eqb c 34 (omega arith);
      query = ne_eqb c 63 (omega arith);
    }

-- white space, quotes, parentheses and `?` go on with no identifier
pub no_name_goes_on : (continues_name 32 ≡ false) × (continues_name 41 ≡ false) × (begins_name 95 ≡ true)
unfolding unicode_ident
no_name_goes_on = (refl, refl, refl)

pub letter_a : (begins_name 97 ≡ true)
unfolding unicode_ident
letter_a = refl
