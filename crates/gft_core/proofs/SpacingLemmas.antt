-- Words that are joined, and words of a text joined again.
use Rattle.std.proofs.Common.{◌≡◌, ℕ, suc, ◌<◌, Bool, true, false, not, cond, ◌&&◌, List, [], ◌∷◌, ◌++◌, length, map, refl, sym, ap, ap₂, subst, ◌∙◌, eqb, arith}
use Rattle.std.specs.Str.{chars, IsUtf8, NonePass, skip_leading_whitespace, drop_trailing_whitespace}
use Rattle.std.specs.Prelude.{encode_utf8, encode_utf8_all}
use Rattle.std.specs.Char.{is_whitespace, is_not_whitespace}
use Rattle.std.specs.List.{All, list_all, flat_map}
use Rattle.std.proofs.lemmas.List.Elements.{All-head, All-tail}
use Rattle.std.proofs.lemmas.Str.{chars_past_char, chars-append, chars-nil, encodes-chars, encodes-append, IsUtf8-append, IsUtf8-nil, IsUtf8-encode}
use Rattle.std.proofs.lemmas.Bool.{not-true, false≢true}
use Rattle.std.proofs.lemmas.Bool.Decides.{nat_tests}
use lib.Utf8
use Rattle.gft_core.specs.Words.{runs, later_runs, first_run, words_of, joined, IsWordInUtf8, singled, single_spaced}
use Rattle.gft_core.proofs.WordLemmas.{StartsPassing, runs-front, true_of_and, nonempty_source}

-- each part with a space before it
abbrev pub spaced : List (List ℕ) → List ℕ
spaced = flat_map (λ v. 32 ∷ v)

-- THE WORDS OF JOINED WORDS

solid : (cs : List ℕ) → list_all is_not_whitespace cs ≡ true → NonePass is_whitespace cs
solid [] h = tt
solid (c ∷ cs) h =
    let both = true_of_and (is_not_whitespace c) (list_all is_not_whitespace cs) h in
    (not-true (is_whitespace c) both.0, solid cs both.1)

-- a space
utf8-space : IsUtf8 (32 ∷ [])
unfolding lib.Utf8.encode
utf8-space = IsUtf8-encode 32 refl

space-first : (bs : List ℕ) → IsUtf8 (32 ∷ bs) → chars (32 ∷ bs) ≡ 32 ∷ chars bs
unfolding lib.Utf8.encode
space-first bs u = chars_past_char (32 ∷ bs) bs 32 u refl

utf8-spaced : (ws : List (List ℕ)) → All IsWordInUtf8 ws → IsUtf8 (spaced ws)
utf8-spaced [] h = IsUtf8-nil
utf8-spaced (w ∷ ws) h =
    let first = All-head IsWordInUtf8 w ws h in
    IsUtf8-append (32 ∷ w) (spaced ws) (IsUtf8-append (32 ∷ []) w utf8-space first.0) (utf8-spaced ws (All-tail IsWordInUtf8 w ws h))

starts_spaced : (ws : List (List ℕ)) → All IsWordInUtf8 ws → StartsPassing is_whitespace (chars (spaced ws))
starts_spaced [] h = subst (StartsPassing is_whitespace) (sym chars-nil) tt
starts_spaced (w ∷ ws) h = subst (StartsPassing is_whitespace) (sym (space-first _ (utf8-spaced (w ∷ ws) h))) refl

-- a word has a character
some_chars : (w : List ℕ) → IsWordInUtf8 w → 0 < length (chars w)
some_chars [] h = absurd (false≢true h.1)
some_chars (b ∷ bs) h = nonempty_source (chars (b ∷ bs)) (b ∷ bs) (encodes-chars (b ∷ bs) h.0) (omega arith)

-- a word before words behind spaces is the first run
runs-word : (w : List ℕ) (ws : List (List ℕ)) → IsWordInUtf8 w → All IsWordInUtf8 ws
    → runs is_whitespace (chars (w ++ spaced ws)) ≡ chars w ∷ runs is_whitespace (chars (spaced ws))
runs-word w ws one h =
    let parts = true_of_and (not (eqb (length w) 0)) (list_all is_not_whitespace (chars w)) one.1 in
    ap (runs is_whitespace) (chars-append w (spaced ws) one.0)
    ∙ runs-front is_whitespace (chars w) (chars (spaced ws)) (some_chars w one) (solid (chars w) parts.1) (starts_spaced ws h)

-- the characters of words behind spaces, cut again
runs-spaced : (ws : List (List ℕ)) → All IsWordInUtf8 ws → runs is_whitespace (chars (spaced ws)) ≡ map chars ws
runs-spaced [] h = ap (runs is_whitespace) chars-nil
runs-spaced (w ∷ ws) h =
    let first = All-head IsWordInUtf8 w ws h in
    let others = All-tail IsWordInUtf8 w ws h in
    ap (runs is_whitespace) (space-first (w ++ spaced ws) (utf8-spaced (w ∷ ws) h))
    ∙ runs-word w ws first others ∙ ap (λ rs. chars w ∷ rs) (runs-spaced ws others)

encodes-words : (ws : List (List ℕ)) → All IsWordInUtf8 ws → map encode_utf8_all (map chars ws) ≡ ws
encodes-words [] h = refl
encodes-words (w ∷ ws) h =
    ap₂ (λ v vs. v ∷ vs) (encodes-chars w (All-head IsWordInUtf8 w ws h).0) (encodes-words ws (All-tail IsWordInUtf8 w ws h))

runs-joined : (ws : List (List ℕ)) → All IsWordInUtf8 ws → runs is_whitespace (chars (joined ws)) ≡ map chars ws
runs-joined [] h = ap (runs is_whitespace) chars-nil
runs-joined (w ∷ ws) h =
    let others = All-tail IsWordInUtf8 w ws h in
    runs-word w ws (All-head IsWordInUtf8 w ws h) others ∙ ap (λ rs. chars w ∷ rs) (runs-spaced ws others)

pub words_of-joined : (ws : List (List ℕ)) → All IsWordInUtf8 ws → words_of (joined ws) ≡ ws
words_of-joined ws h = ap (map encode_utf8_all) (runs-joined ws h) ∙ encodes-words ws h

-- THE WORDS OF A TEXT JOINED AGAIN

kept_starts : (b : Bool) (d : ℕ) (ds : List ℕ) → is_whitespace d ≡ true → StartsPassing is_whitespace (cond b [] (d ∷ ds))
kept_starts true d ds e = tt
kept_starts false d ds e = e

some_length : (n : ℕ) → eqb (suc n) 0 ≡ false
some_length n = grind (arith, nat_tests)

-- white space before white space, or before nothing, adds nothing
singled-white : (c : ℕ) (ds : List ℕ) → is_whitespace c ≡ true → StartsPassing is_whitespace ds
    → singled (cond (is_whitespace c && eqb (length ds) 0) [] (c ∷ ds)) ≡ singled ds
singled-white c [] e s = rw e refl
singled-white c (d ∷ ds) e s = rw (e, some_length (length ds), e, s) refl

-- a part of a run, and what is inside the rest of it
inside-step : (b : Bool) (c : ℕ) (cs : List ℕ) → is_whitespace c ≡ b
    → first_run is_whitespace cs ++ spaced (later_runs is_whitespace cs) ≡ singled (drop_trailing_whitespace cs)
    → (is_whitespace c ≡ true → spaced (runs is_whitespace cs) ≡ singled (drop_trailing_whitespace (c ∷ cs)))
    → first_run is_whitespace (c ∷ cs) ++ spaced (later_runs is_whitespace (c ∷ cs)) ≡ singled (drop_trailing_whitespace (c ∷ cs))
inside-step true c cs e within after =
    ap (λ b. cond b [] (c ∷ first_run is_whitespace cs) ++ spaced (cond b (runs is_whitespace cs) (later_runs is_whitespace cs))) e ∙ after e
inside-step false c cs e within after = rw (e, e) (ap (λ x. c ∷ x) within)

between-step : (b : Bool) (c d : ℕ) (cs : List ℕ) → is_whitespace c ≡ true → is_whitespace d ≡ b
    → first_run is_whitespace cs ++ spaced (later_runs is_whitespace cs) ≡ singled (drop_trailing_whitespace cs)
    → (is_whitespace d ≡ true → spaced (runs is_whitespace cs) ≡ singled (drop_trailing_whitespace (d ∷ cs)))
    → spaced (runs is_whitespace (d ∷ cs)) ≡ singled (drop_trailing_whitespace (c ∷ d ∷ cs))
between-step true c d cs e f within after =
    ap (λ b. spaced (cond b (runs is_whitespace cs) ((d ∷ first_run is_whitespace cs) ∷ later_runs is_whitespace cs))) f ∙ after f
    ∙ sym (singled-white c (drop_trailing_whitespace (d ∷ cs)) e (kept_starts _ d (drop_trailing_whitespace cs) f))
between-step false c d cs e f within after = rw (f, e, some_length _, e, f) (ap (λ x. 32 ∷ d ∷ x) within)

mutual
  -- inside a run: the rest of it, and the runs after it
  inside : (cs : List ℕ) → first_run is_whitespace cs ++ spaced (later_runs is_whitespace cs) ≡ singled (drop_trailing_whitespace cs)
  inside [] = refl
  inside (c ∷ cs) = inside-step (is_whitespace c) c cs refl (inside cs) (between c cs)

  -- after white space: the runs that follow
  between : (c : ℕ) (cs : List ℕ) → is_whitespace c ≡ true
      → spaced (runs is_whitespace cs) ≡ singled (drop_trailing_whitespace (c ∷ cs))
  between c [] e = rw e refl
  between c (d ∷ cs) e = between-step (is_whitespace d) c d cs e refl (inside cs) (between d cs)

joined-step : (b : Bool) (c : ℕ) (cs : List ℕ) → is_whitespace c ≡ b
    → joined (runs is_whitespace cs) ≡ singled (drop_trailing_whitespace (skip_leading_whitespace cs))
    → joined (runs is_whitespace (c ∷ cs)) ≡ singled (drop_trailing_whitespace (skip_leading_whitespace (c ∷ cs)))
joined-step true c cs e later = rw e later
joined-step false c cs e later = rw (e, e, e) (ap (λ x. c ∷ x) (inside cs))

-- the runs joined
joined-runs : (cs : List ℕ) → joined (runs is_whitespace cs) ≡ singled (drop_trailing_whitespace (skip_leading_whitespace cs))
joined-runs [] = refl
joined-runs (c ∷ cs) = joined-step (is_whitespace c) c cs refl (joined-runs cs)

spaced-encodes : (rs : List (List ℕ)) → spaced (map encode_utf8_all rs) ≡ encode_utf8_all (spaced rs)
unfolding lib.Utf8.encode
spaced-encodes [] = refl
spaced-encodes (r ∷ rs) =
    ap (λ x. 32 ∷ (encode_utf8_all r ++ x)) (spaced-encodes rs) ∙ ap (λ x. 32 ∷ x) (sym (encodes-append r (spaced rs)))

joined-encodes : (rs : List (List ℕ)) → joined (map encode_utf8_all rs) ≡ encode_utf8_all (joined rs)
joined-encodes [] = refl
joined-encodes (r ∷ rs) = ap (λ x. encode_utf8_all r ++ x) (spaced-encodes rs) ∙ sym (encodes-append r (spaced rs))

pub joined-words_of : (text : List ℕ) → joined (words_of text) ≡ single_spaced text
joined-words_of text = joined-encodes (runs is_whitespace (chars text)) ∙ ap encode_utf8_all (joined-runs (chars text))
