-- Lemmas on the words of a call.
use Rattle.std.proofs.lemmas.List.{take-map, drop-map, drop_more, length-map}
use Rattle.std.proofs.Math.ListN.{drop_of_length-le, get_or-map}
use Rattle.std.proofs.Common.{◌≡◌, ◌<◌, ◌+◌, ℕ, Bool, true, false, not, cond, List, ◌∷◌, length, map, take, drop, get_or, string_bytes, refl, sym, ap, ◌∙◌, arith}
use Rattle.std.specs.Prelude.{String}
use Rattle.std.specs.declared.alloc.Global.{Global}
use Rattle.std.specs.List.{position_or_len}
use Rattle.gft_top.specs.Words.{is_marker, is_option, before, from, behind, call_between}

position_cons : (passes : List ℕ → Bool) (word : List ℕ) (words : List (List ℕ))
    → position_or_len passes (word ∷ words) ≡ cond (passes word) 0 (1 + position_or_len passes words)
position_cons passes word words =
    elim (passes word) as (λ b. cond (not b) (1 + position_or_len passes words) 0 ≡ cond b 0 (1 + position_or_len passes words)) [ true ↦ refl | false ↦ refl ]

-- the words so far do not pass
abbrev pub Goes : (List ℕ → Bool) → List (List ℕ) → ℕ → Type 0
Goes passes words i = position_or_len passes words ≡ i + position_or_len passes (drop i words)

module _ (passes : List ℕ → Bool) (words : List (List ℕ)) (i : ℕ) (d : List ℕ) (h : i < length words) (g : Goes passes words i) where
  here : (b : Bool) → passes (get_or words i d) ≡ b → position_or_len passes (drop i words) ≡ cond b 0 (1 + position_or_len passes (drop (i + 1) words))
  here b e =
      ap (position_or_len passes) (drop_more words i d h) ∙ position_cons passes (get_or words i d) (drop (i + 1) words)
      ∙ ap (λ t. cond t 0 (1 + position_or_len passes (drop (i + 1) words))) e

  pub goes_found : passes (get_or words i d) ≡ true → i ≡ position_or_len passes words
  goes_found e = let s = here true e in omega (arith, g, s)

  pub goes_on : passes (get_or words i d) ≡ false → Goes passes words (i + 1)
  goes_on e = let s = here false e in omega (arith, g, s)

pub goes_end : (passes : List ℕ → Bool) (words : List (List ℕ)) (n : ℕ) → n ≡ length words → Goes passes words n → n ≡ position_or_len passes words
goes_end passes words n e g =
    let s : position_or_len passes (drop n words) ≡ 0 = ap (position_or_len passes) (drop_of_length-le words (omega (arith, e))) in
    omega (arith, g, s)

-- the word at a place, as it is among the strings
pub word_at : (words : List (String Global)) (i : ℕ) (word : String Global) (bytes : List ℕ) → word ≡ get_or words i word → bytes ≡ string_bytes word
    → get_or (map string_bytes words) i (string_bytes word) ≡ bytes
word_at words i word bytes e b = get_or-map string_bytes words i word ∙ ap string_bytes (sym e) ∙ sym b

pub within : (words : List (String Global)) (i : ℕ) → i < length words → i < length (map string_bytes words)
within words i h = omega (arith, h, length-map words string_bytes)

-- the parts of the words
pub parts : (strings plain first others last : List (String Global)) (words : List (List ℕ)) (marker option : ℕ)
    → map string_bytes strings ≡ words → marker ≡ position_or_len is_marker (map string_bytes strings) → plain ≡ take marker strings
    → option ≡ position_or_len is_option (map string_bytes plain) → first ≡ take option plain → others ≡ drop option plain → last ≡ drop (marker + 1) strings
    → call_between (map string_bytes first) (map string_bytes others) (map string_bytes last)
    ≡ call_between (before is_option (before is_marker words)) (from is_option (before is_marker words)) (behind is_marker words)
parts strings plain first others last words marker option w m p o f r l =
    let between : map string_bytes plain ≡ before is_marker words =
    ap (map string_bytes) p ∙ sym (take-map string_bytes marker strings) ∙ ap (λ n. take n (map string_bytes strings)) m ∙ ap (before is_marker) w in
    let at : option ≡ position_or_len is_option (before is_marker words) = o ∙ ap (position_or_len is_option) between in
    let front : map string_bytes first ≡ before is_option (before is_marker words) =
    ap (map string_bytes) f ∙ sym (take-map string_bytes option plain) ∙ ap (take option) between ∙ ap (λ n. take n (before is_marker words)) at in
    let back : map string_bytes others ≡ from is_option (before is_marker words) =
    ap (map string_bytes) r ∙ sym (drop-map string_bytes option plain) ∙ ap (drop option) between ∙ ap (λ n. drop n (before is_marker words)) at in
    let end : map string_bytes last ≡ behind is_marker words =
    ap (map string_bytes) l ∙ sym (drop-map string_bytes (marker + 1) strings) ∙ ap (λ n. drop (n + 1) (map string_bytes strings)) m ∙ ap (behind is_marker) w in
    ap (λ x. call_between x (map string_bytes others) (map string_bytes last)) front
    ∙ ap (λ x. call_between (before is_option (before is_marker words)) x (map string_bytes last)) back
    ∙ ap (λ x. call_between (before is_option (before is_marker words)) (from is_option (before is_marker words)) x) end
