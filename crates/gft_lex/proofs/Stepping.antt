-- One step over any characters.
use Rattle.std.proofs.Common.{◌≡◌, ◌≢◌, ℕ, ◌+◌, ◌<◌, ◌≤◌, true, false, List, [], ◌∷◌, length, take, Some, None, sym, ap, ◌∙◌, arith, subst, add-one}
use Rattle.std.specs.Char.{is_whitespace}
use Rattle.std.specs.List.{list_all, prefix_len}
use Rattle.std.proofs.lemmas.Bool.{and_from, false≢true}
use Rattle.gft_core.specs.declared.place.Place.{Place}
use Rattle.gft_core.specs.Names.{continues_name, spells_name}
use Rattle.gft_syntax.specs.declared.token.Symbol.{Symbol as Sign}
use Rattle.gft_syntax.specs.declared.token.TokenForm.TheVariants as T
use Rattle.gft_model.specs.Source.{token_lexeme, longest, is_digit}
use Rattle.gft_lex.specs.Lexemes.{line_length}
use Rattle.gft_lex.specs.Spellings.{word_form}
use Rattle.gft_lex.specs.declared.sight.Sight.{Sight}
use Rattle.gft_lex.specs.declared.sight.Sight.TheVariants.{Blank, Symbol, Word}
use Rattle.gft_lex.specs.Later.{is_letter}
use Rattle.gft_lex.specs.Sights.{sight_of, comment_of, IsWithin}
use Rattle.gft_lex.specs.Steps.{sight_step, step_of}
use Rattle.gft_lex.proofs.Forms.{symbol_characters}
use Rattle.gft_lex.proofs.Lengths.{prefix_passes}
use Rattle.gft_lex.proofs.Outcomes.{IsOutcome, blank_outcome, word_outcome, word_range, symbol_outcome, number_outcome, comment_outcome, nothing_outcome}
use Rattle.gft_lex.proofs.Quotes.{text_outcome}
use Rattle.gft_lex.proofs.Seen.{IsSeen, none, white, comment, token as seen_token, IsComment, line, block, open_block, IsToken, IsOther, digits, quote, pair, name, single, nothing as no_token, seen, comment_within, token_within, token_word}
use Rattle.gft_lex.proofs.Sound.{IsInRange, white_sound, white_lexeme, line_sound, line_lexeme, block_sound, block_at, token_sound, token_at}
use Rattle.gft_lex.proofs.Tokens.{IsLongest, number_form, digits_longest, name_longest, pair_longest, single_longest, nothing_longest}
use lib.Utf8.{scalars}

-- white space
white_step : (p : Place) (c : ℕ) (ds : List ℕ) → list_all is_letter (c ∷ ds) ≡ true → is_whitespace c ≡ true
    → IsOutcome p (c ∷ ds) (sight_step p (c ∷ ds) (Blank 1))
white_step p c ds ls w =
    blank_outcome p (c ∷ ds) 1 (record { letters = ls; some = omega arith; most = omega arith; sound = white_sound c ds w })
    (white_lexeme c ds w)

-- comments
comment_step : (p : Place) (c : ℕ) (ds : List ℕ) (s : Sight) → list_all is_letter (c ∷ ds) ≡ true → IsComment c ds s
    → IsWithin (c ∷ ds) s
    → IsOutcome p (c ∷ ds) (sight_step p (c ∷ ds) s)
comment_step p c ds _ ls (line {es = es} e f) w =
    blank_outcome p (c ∷ ds) (line_length es + 2)
    (record { letters = ls; some = w.0; most = w.1; sound = line_sound c ds es e f }) (line_lexeme c ds es e f)
comment_step p c ds _ ls (block {es = es} {n = n} e f h) w =
    blank_outcome p (c ∷ ds) (n + 2) (record { letters = ls; some = w.0; most = w.1; sound = block_sound c n ds es e f h })
    (block_at c n ds es e f h)
comment_step p c ds _ ls (open_block {es = es} e f h) w = comment_outcome p c ds es e f h

-- tokens
symbol_range : (s : Sign) → IsInRange (T.Symbol s)
symbol_range s n t e = absurd (cc)

symbol_step : (p : Place) (c n : ℕ) (ds : List ℕ) (s : Sign) → list_all is_letter (c ∷ ds) ≡ true → is_whitespace c ≡ false
    → comment_of c ds ≡ None → IsOther c
    → IsLongest (c ∷ ds) (T.Symbol s) n → 1 ≤ n → n ≤ length (c ∷ ds) → scalars (take n (c ∷ ds)) ≡ true
    → IsOutcome p (c ∷ ds) (sight_step p (c ∷ ds) (Symbol s n))
symbol_step p c n ds s ls w k o l some most h =
    symbol_outcome p (c ∷ ds) n s
    (record {
      letters = ls;
      some = some;
      most = most;
      sound = token_sound c n ds (T.Symbol s) o.quote w k l
          (symbol_range s);
    })
    (token_at c ds w k ∙ ap token_lexeme l) h

digit_no_quote : (c : ℕ) → is_digit c ≡ true → c ≢ 34
digit_no_quote c d e = false≢true (sym (ap is_digit e) ∙ d)

front : (c n : ℕ) (ds : List ℕ) → c ∷ take n ds ≡ take (n + 1) (c ∷ ds)
front c n ds = ap (λ m. take m (c ∷ ds)) (sym (add-one n))

token_step : (p : Place) (c : ℕ) (ds : List ℕ) (s : Sight) → list_all is_letter (c ∷ ds) ≡ true → is_whitespace c ≡ false
    → comment_of c ds ≡ None
    → IsToken c ds s → IsWithin (c ∷ ds) s → IsOutcome p (c ∷ ds) (sight_step p (c ∷ ds) s)
token_step p c ds _ ls w k (digits d) i =
    let n = prefix_len is_digit ds in
    number_outcome p c (n + 1) ds ls i.0 i.1 (digit_no_quote c d) w k d
    (ap (list_all is_digit) (sym (front c n ds)) ∙ and_from _ _ d (prefix_passes is_digit ds))
    (digits_longest c ds d ∙ ap (λ x. Some (number_form x, n + 1)) (front c n ds))
token_step p c ds _ ls w k (quote d q) i = text_outcome p c ds (record { letters = ls; quote = q; space = w; comment = k })
token_step p c ds _ ls w k (pair {d = d} {es = es} {s = s} o e h) i =
    symbol_step p c 2 ds s ls w k o (ap (λ ds. longest (c ∷ ds)) e ∙ pair_longest c d es s o h) i.0 i.1
    (ap (λ ds. scalars (take 2 (c ∷ ds))) e ∙ symbol_characters (c ∷ d ∷ []) s h)
token_step p c ds _ ls w k (name o l b e) i =
    let n = prefix_len continues_name ds in
    let whole : IsToken c ds (Word (n + 1)) = name o l b e in
    let t = word_form (take (n + 1) (c ∷ ds)) in
    let found : longest (c ∷ ds) ≡ Some (t, n + 1)
    = name_longest c ds o b e (ap spells_name (front c n ds) ∙ token_word c ds (n + 1) whole)
    ∙ ap (λ x. Some (word_form x, n + 1)) (front c n ds) in
    word_outcome p (c ∷ ds) (n + 1)
    (record {
      letters = ls;
      some = i.0;
      most = i.1;
      sound = token_sound c (n + 1) ds t o.quote w k found
          (word_range (take (n + 1) (c ∷ ds)));
    })
    (token_at c ds w k ∙ ap token_lexeme found)
token_step p c ds _ ls w k (single {s = s} o l n h) i =
    symbol_step p c 1 ds s ls w k o (single_longest c ds s o l n h) i.0 i.1 (symbol_characters (c ∷ []) s h)
token_step p c ds _ ls w k (no_token o l n h) i = nothing_outcome p c ds ls o.quote w k (nothing_longest c ds o l n h)

-- any
seen_step : (p : Place) (cs : List ℕ) (s : Sight) → list_all is_letter cs ≡ true → 0 < length cs → IsSeen cs s
    → IsOutcome p cs (sight_step p cs s)
seen_step p cs _ ls l (none e) = let n = ap length e in absurd (omega (arith, n, l))
seen_step p cs _ ls l (white {c = c} {ds = ds} e w) =
    subst (λ cs. IsOutcome p cs (sight_step p cs (Blank 1))) (sym e) (white_step p c ds (ap (list_all is_letter) (sym e) ∙ ls) w)
seen_step p cs _ ls l (comment {c = c} {ds = ds} {s = s} e w k) =
    subst (λ cs. IsOutcome p cs (sight_step p cs s)) (sym e)
    (comment_step p c ds s (ap (list_all is_letter) (sym e) ∙ ls) k (comment_within c ds s k))
seen_step p cs _ ls l (seen_token {c = c} {ds = ds} {s = s} e w n k) =
    subst (λ cs. IsOutcome p cs (sight_step p cs s)) (sym e)
    (token_step p c ds s (ap (list_all is_letter) (sym e) ∙ ls) w n k (token_within c ds s k))

pub step_outcome : (p : Place) (cs : List ℕ) → list_all is_letter cs ≡ true → 0 < length cs → IsOutcome p cs (step_of p cs)
step_outcome p cs ls l = seen_step p cs (sight_of cs) ls l (seen cs)
