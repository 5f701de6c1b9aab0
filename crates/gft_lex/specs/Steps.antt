-- One step over the characters, as a plain function. It serves the proof alone.
use Rattle.std.specs.Prelude.{◌≡◌, ℕ, ◌+◌, ◌≤◌, ◌^◌, List, [], ◌∷◌, take, drop, position, length, false, not, if◌then◌else◌, encode_utf8_all, Option, Some, None, Result, Ok, Err}
use Rattle.gft_core.specs.declared.place.Place.{Place}
use Rattle.gft_rules.specs.declared.refusal.Refusal.{Refusal}
use Rattle.gft_rules.specs.declared.refusal.Stop.{Stop}
use Rattle.gft_rules.specs.declared.refusal.Stop.TheVariants.{Refused, NoMemory}
use Rattle.gft_rules.specs.declared.rule.Rule.TheVariants as R
use Rattle.gft_syntax.specs.declared.token.SourceToken.{SourceToken}
use Rattle.gft_syntax.specs.declared.token.TokenForm.{TokenForm}
use Rattle.gft_syntax.specs.declared.token.TokenForm.TheVariants as T
use Rattle.gft_model.specs.Refusals.{refusal}
use Rattle.gft_model.specs.Source.{after}
use Rattle.gft_lex.specs.Spellings.{word_form}
use Rattle.gft_lex.specs.declared.quoted.Reading.{Reading}
use Rattle.gft_lex.specs.declared.quoted.Reading.TheVariants.{Closed, BadEscape, Broken, Open}
use Rattle.gft_lex.specs.declared.sight.Sight.{Sight}
use Rattle.gft_lex.specs.declared.sight.Sight.TheVariants.{Blank, OpenComment, Number, Quote, Symbol, Word, Nothing}
use Rattle.gft_lex.specs.declared.step.Met.{Met}
use Rattle.gft_lex.specs.Lexemes.{is_character, value_from, closing_on}
use Rattle.gft_lex.specs.Sights.{sight_of}
use Rattle.gft_lex.specs.Texts.{reading}

-- what a function returned is what the plain function gives, unless memory ran out
abbrev pub Gives : {X : Type 0} → Result X Stop → Result X Refusal → Type 0
Gives (Ok x) given = given ≡ Ok x
Gives (Err NoMemory) given = Unit {0}
Gives (Err (Refused r)) given = given ≡ Err r

-- what holds of a refusal
abbrev pub OnRefused : {X : Type 0} → Result X Stop → (Refusal → Type 0) → Type 0
OnRefused (Ok x) P = Unit {0}
OnRefused (Err NoMemory) P = Unit {0}
OnRefused (Err (Refused r)) P = P r

-- on with a value that is given
abbrev pub on_given : {X Y : Type 0} → Result X Refusal → (X → Result Y Refusal) → Result Y Refusal
on_given (Ok x) next = next x
on_given (Err r) next = Err r

-- so many characters after the place all have places
pub record HasRoom (n : ℕ) (p : Place) : Type 0 where
  pub lines : p.line + n ≤ 2 ^ 32
  pub columns : p.col + n ≤ 2 ^ 32

-- the place after the characters
abbrev pub place_past : Place → List ℕ → Place
place_past p [] = p
place_past p (c ∷ cs) = place_past (after c p) cs

-- refuses the first that is no character
abbrev pub whole_at : Place → List ℕ → Option ℕ → Result (Unit {0}) Refusal
whole_at p cs None = Ok tt
whole_at p cs (Some k) = Err (refusal R.NotUtf8 (place_past p (take k cs)) [])

-- the characters, where each is one
abbrev pub whole : Place → List ℕ → Result (Unit {0}) Refusal
whole p cs = whole_at p cs (position (λ c. not (is_character c)) cs)

-- the characters as text
abbrev pub spelled : Place → List ℕ → Result (List ℕ) Refusal
spelled p cs = on_given (whole p cs) (λ _. Ok (encode_utf8_all cs))

-- what was met, of so many characters
abbrev pub met : Option TokenForm → ℕ → Met
met form n = record { form = form; length = n }

-- white space or a comment
abbrev pub blank_step : Place → List ℕ → Result Met Refusal
blank_step p cs = on_given (whole p cs) (λ _. Ok (met None (length cs)))

-- a number that has a value in range or not
abbrev pub number_at : Place → List ℕ → Option ℕ → List ℕ → Result Met Refusal
number_at p cs None s = Err (refusal R.NumberTooLarge p [])
number_at p cs (Some n) s = Ok (met (Some (T.Number n s)) (length cs))

-- a number
abbrev pub number_step : Place → List ℕ → Result Met Refusal
number_step p cs = on_given (spelled p cs) (number_at p cs (value_from 0 cs))

-- a reserved word or an identifier
abbrev pub word_step : Place → List ℕ → Result Met Refusal
word_step p cs = on_given (spelled p cs) (λ _. Ok (met (Some (word_form cs)) (length cs)))

-- a text that was read
abbrev pub read_step : Place → List ℕ → Reading → Result Met Refusal
read_step p cs Open = Err (refusal R.OpenString p [])
read_step p cs (Broken i) = Err (refusal R.NotUtf8 (place_past p (take (i + 1) cs)) [])
read_step p cs (BadEscape i c) = Err (refusal R.BadEscape (place_past p (take i cs)) (encode_utf8_all (c ∷ []) ∷ []))
read_step p cs (Closed t n) = on_given (spelled p (take (n + 1) cs)) (λ s. Ok (met (Some (T.Quoted t s)) (n + 1)))

-- a text that is closed or not
abbrev pub text_at : Place → List ℕ → Option ℕ → Result Met Refusal
text_at p cs None = Err (refusal R.OpenString p [])
text_at p cs (Some n) = read_step p cs (reading false 0 [] (drop 1 cs))

-- a text
abbrev pub text_step : Place → List ℕ → Result Met Refusal
text_step p cs = text_at p cs (closing_on 0 false (drop 1 cs))

-- what begins no token
abbrev pub unknown_step : Place → ℕ → Result Met Refusal
unknown_step p c =
    if is_character c then Err (refusal R.BadCharacter p (encode_utf8_all (c ∷ []) ∷ []))
    else Err (refusal R.NotUtf8 p [])

-- the first of them begins no token
abbrev pub unknown_first : Place → List ℕ → Result Met Refusal
unknown_first p [] = Err (refusal R.NotUtf8 p [])
unknown_first p (c ∷ cs) = unknown_step p c

-- by what begins there
abbrev pub sight_step : Place → List ℕ → Sight → Result Met Refusal
sight_step p cs (Blank n) = blank_step p (take n cs)
sight_step p cs OpenComment = Err (refusal R.OpenComment p [])
sight_step p cs (Number n) = number_step p (take n cs)
sight_step p cs Quote = text_step p cs
sight_step p cs (Symbol s n) = Ok (met (Some (T.Symbol s)) n)
sight_step p cs (Word n) = word_step p (take n cs)
sight_step p cs Nothing = unknown_first p cs

-- one step over the characters
abbrev pub step_of : Place → List ℕ → Result Met Refusal
step_of p cs = sight_step p cs (sight_of cs)

-- what was met at a place, as tokens
abbrev pub token_of : Place → Option TokenForm → List SourceToken
token_of p None = []
token_of p (Some t) = record { form = t; place = p } ∷ []
