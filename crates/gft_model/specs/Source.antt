-- The tokens of a source file.
use Rattle.std.specs.Prelude.{◌≡◌, ℕ, zero, suc, ◌+◌, ◌*◌, ◌-◌, ◌^◌, List, [], ◌∷◌, ◌++◌, length, Bool, true, false, ◌&&◌, ◌||◌, ◌==◌, nat_le, nat_lt, bytes_eq, chars, codes, encode_utf8_all, IsUtf8, Option, Some, None, option_map, option_and_then, if◌then◌else◌}
use Rattle.std.specs.List.{list_all, position_or_len}
use Rattle.std.specs.Option.{option_map_or}
use Rattle.std.specs.Char.{is_whitespace}
use Rattle.gft_core.specs.Names.{spells_name}
use Rattle.gft_core.specs.declared.place.Place.{Place}
use Rattle.gft_syntax.specs.declared.token.SourceToken.{SourceToken}
use Rattle.gft_syntax.specs.declared.token.TokenForm.{TokenForm}
use Rattle.gft_syntax.specs.declared.token.TokenForm.TheVariants.{Identifier, Reserved, Number, Quoted, Symbol}
use Rattle.gft_syntax.specs.declared.token.Reserved.{Reserved as Word}
use Rattle.gft_syntax.specs.declared.token.Reserved.TheVariants as W
use Rattle.gft_syntax.specs.declared.token.Symbol.{Symbol as Sign}
use Rattle.gft_syntax.specs.declared.token.Symbol.TheVariants as S

-- the reserved words with their spelling
abbrev pub reserved_words : List (List ℕ × Word)
reserved_words =
    (codes "abstract", W.Abstract) ∷ (codes "case", W.Case) ∷ (codes "cat", W.Cat) ∷ (codes "concrete", W.Concrete)
    ∷ (codes "flags", W.Flags) ∷ (codes "fun", W.Fun) ∷ (codes "in", W.InWord) ∷ (codes "incomplete", W.Incomplete)
    ∷ (codes "instance", W.Instance) ∷ (codes "interface", W.Interface) ∷ (codes "let", W.Let) ∷ (codes "lin", W.Lin)
    ∷ (codes "lincat", W.Lincat) ∷ (codes "lindef", W.Lindef) ∷ (codes "linref", W.Linref) ∷ (codes "of", W.Of)
    ∷ (codes "open", W.OpenWord) ∷ (codes "oper", W.Oper) ∷ (codes "overload", W.Overload) ∷ (codes "param", W.Param)
    ∷ (codes "resource", W.Resource) ∷ (codes "table", W.Table) ∷ (codes "variants", W.Variants)
    ∷ (codes "where", W.Where) ∷ (codes "with", W.With) ∷ (codes "Str", W.Str) ∷ (codes "Type", W.TypeWord)
    ∷ (codes "PType", W.ParamTypeWord) ∷ (codes "Ints", W.Ints) ∷ (codes "Predef", W.Predef)
    ∷ (codes "data", W.DataWord) ∷ (codes "def", W.Def) ∷ (codes "pre", W.Pre) ∷ (codes "strs", W.Strs)
    ∷ (codes "printname", W.Printname) ∷ (codes "transfer", W.Transfer) ∷ (codes "union", W.Union)
    ∷ (codes "reuse", W.Reuse) ∷ (codes "Float", W.Float) ∷ []

-- the symbols with their spelling; 92 is the backslash
abbrev pub symbols : List (List ℕ × Sign)
symbols =
    (codes "{", S.LeftBrace) ∷ (codes "}", S.RightBrace) ∷ (codes "(", S.LeftParenthesis)
    ∷ (codes ")", S.RightParenthesis) ∷ (codes "[", S.LeftBracket) ∷ (codes "]", S.RightBracket)
    ∷ (codes "<", S.Less) ∷ (codes ">", S.Greater) ∷ (codes ";", S.Semicolon) ∷ (codes ":", S.Colon)
    ∷ (codes ",", S.Comma) ∷ (codes ".", S.Dot) ∷ (codes "=", S.Equals) ∷ (codes "|", S.Bar)
    ∷ (codes "_", S.Underscore) ∷ (codes "@", S.At) ∷ (codes "*", S.Star) ∷ (codes "**", S.DoubleStar)
    ∷ (codes "+", S.Plus) ∷ (codes "++", S.DoublePlus) ∷ (codes "!", S.Exclamation) ∷ (codes "?", S.Question)
    ∷ (codes "-", S.Minus) ∷ (codes "->", S.Arrow) ∷ (codes "=>", S.DoubleArrow) ∷ (92 ∷ [], S.Backslash)
    ∷ (92 ∷ 92 ∷ [], S.DoubleBackslash) ∷ []

-- what stands beside a spelling
abbrev pub spelled_in : {A : Type 0} → List (List ℕ × A) → List ℕ → Option A
spelled_in [] s = None
spelled_in (e ∷ es) s = if bytes_eq s e.0 then Some e.1 else spelled_in es s

-- an ASCII digit
abbrev pub is_digit : ℕ → Bool
is_digit c = nat_le 48 c && nat_le c 57

-- the number that digits write, after those read
abbrev pub number_after : ℕ → List ℕ → ℕ
number_after n [] = n
number_after n (c ∷ cs) = number_after (10 * n + (c - 48)) cs

-- what a backslash and a character stand for: a quote, a backslash, a newline, a tab
abbrev pub escaped : ℕ → Option ℕ
escaped c = if c == 34 || c == 92 then Some c else if c == 110 then Some 10 else if c == 116 then Some 9 else None

-- the text that stands before the closing quote at the end, its escapes read; it has no newline and
-- no other quote. After a backslash the next character counts by its escape alone
abbrev mutual
  pub quoted_text : List ℕ → Option (List ℕ)
  quoted_text [] = None
  quoted_text (c ∷ cs) =
      elim (c == 92) [
        | true ↦ escape_text cs
        | false ↦ elim (c == 34 || c == 10) [
          | true ↦ (if c == 34 && length cs == 0 then Some [] else None)
          | false ↦ option_map (λ rest. c ∷ rest) (quoted_text cs)
        ]
      ]

  pub escape_text : List ℕ → Option (List ℕ)
  escape_text [] = None
  escape_text (c ∷ cs) = option_and_then (λ d. option_map (λ rest. d ∷ rest) (quoted_text cs)) (escaped c)

-- a name is an identifier, where it is not reserved
abbrev pub name_form : List ℕ → Option TokenForm
name_form s = if spells_name s then Some (option_map_or Reserved (spelled_in reserved_words s) (Identifier (encode_utf8_all s)))
    else None

-- the token that the characters are: digits, a text in quotes, a symbol, or a name
abbrev pub form_of : List ℕ → Option TokenForm
form_of [] = None
form_of (c ∷ cs) =
    if is_digit c then
    (if list_all is_digit cs then Some (Number (number_after 0 (c ∷ cs)) (encode_utf8_all (c ∷ cs))) else None)
    else if c == 34 then option_map (λ t. Quoted (encode_utf8_all t) (encode_utf8_all (c ∷ cs))) (quoted_text cs)
    else elim (spelled_in symbols (c ∷ cs)) [ Some s ↦ Some (Symbol s) | None ↦ name_form (c ∷ cs) ]

-- the longest beginning of the characters that is a token, and how many characters it has more than
-- those before; held are these, and best is the longest so far
abbrev pub longest_from : List ℕ → List ℕ → Option (TokenForm × ℕ) → Option (TokenForm × ℕ)
longest_from held [] best = best
longest_from held (c ∷ cs) best =
    let here = held ++ c ∷ [] in
    longest_from here cs (elim (form_of here) [ Some t ↦ Some (t, length here) | None ↦ best ])

-- the longest beginning that is a token, and its length
abbrev pub longest : List ℕ → Option (TokenForm × ℕ)
longest cs = longest_from [] cs None

-- the number of characters of a comment up to its -}, where there is one
abbrev pub block_length : List ℕ → Option ℕ
block_length [] = None
block_length (c ∷ []) = None
block_length (c ∷ d ∷ cs) = if c == 45 && d == 125 then Some 2 else option_map suc (block_length (d ∷ cs))

-- what begins at a place: white space or a comment of so many characters, a token of so many, or
-- nothing that a file may have. Comments come before tokens
pub data Lexeme : Type 0 where
  blank : ℕ → Lexeme
  token : TokenForm → ℕ → Lexeme
  nothing : Lexeme

-- a token, where one begins
abbrev pub token_lexeme : Option (TokenForm × ℕ) → Lexeme
token_lexeme o = option_map_or (λ t. token t.0 t.1) o nothing

-- what begins at the first of the characters; a comment goes to the end of the line, or is closed in its braces
abbrev pub lexeme_at : List ℕ → Lexeme
lexeme_at [] = nothing
lexeme_at (c ∷ []) = if is_whitespace c then blank 1 else token_lexeme (longest (c ∷ []))
lexeme_at (c ∷ d ∷ cs) =
    if is_whitespace c then blank 1
    else if c == 45 && d == 45 then blank (position_or_len (λ e. e == 10) cs + 2)
    else if c == 123 && d == 45 then option_map_or (λ n. blank (n + 2)) (block_length cs) nothing
    else token_lexeme (longest (c ∷ d ∷ cs))

-- the place after a character: a newline begins a line
abbrev pub after : ℕ → Place → Place
after c p =
    if c == 10 then record { file = p.file; line = p.line + 1; col = 1 }
    else record { file = p.file; line = p.line; col = p.col + 1 }

-- the tokens from a place on, where so many characters belong to what came before; None where
-- something is none
abbrev pub tokens_from : ℕ → Place → List ℕ → Option (List SourceToken)
tokens_from n p [] = Some []
tokens_from (suc n) p (c ∷ cs) = tokens_from n (after c p) cs
tokens_from zero p (c ∷ cs) =
    elim (lexeme_at (c ∷ cs)) [
      | nothing ↦ None
      | blank n ↦ tokens_from (n - 1) (after c p) cs
      | token t n ↦ option_map (λ ts. record { form = t; place = p } ∷ ts) (tokens_from (n - 1) (after c p) cs)
    ]

-- the place of the first character of a file
abbrev pub first_place : ℕ → Place
first_place file = record { file = file; line = 1; col = 1 }

-- the tokens of a file's characters: they are white space, comments and tokens, each token the longest that begins there
abbrev pub tokens_of : ℕ → List ℕ → Option (List SourceToken)
tokens_of file cs = tokens_from 0 (first_place file) cs

-- a number is below 2 ^ 128
abbrev pub in_range : SourceToken → Bool
in_range t =
    elim t.form
    [ Identifier x ↦ true | Reserved w ↦ true | Number n s ↦ nat_lt n (2 ^ 128) | Quoted s w ↦ true | Symbol s ↦ true ]

-- the bytes are UTF-8 and spell the tokens
pub record Tokens (file : ℕ) (bytes : List ℕ) (ts : List SourceToken) : Type 0 where
  pub is_text : IsUtf8 bytes
  pub spelled : tokens_of file (chars bytes) ≡ Some ts
  pub ranged : list_all in_range ts ≡ true
