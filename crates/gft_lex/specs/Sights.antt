-- What begins at a place, by its first characters, as plain functions. They serve the proof alone.
use Rattle.std.specs.Prelude.{ℕ, ◌+◌, ◌≤◌, List, [], ◌∷◌, false, ◌&&◌, ◌==◌, length, Option, Some, None, option_map, if◌then◌else◌}
use Rattle.std.specs.Char.{is_whitespace}
use Rattle.std.specs.List.{prefix_len}
use Rattle.std.specs.Option.{option_map_or}
use Rattle.gft_model.specs.Source.{Lexeme, blank, nothing}
use Rattle.gft_core.specs.Names.{begins_name, continues_name}
use Rattle.gft_syntax.specs.declared.token.Symbol.{Symbol as Sign}
use Rattle.gft_model.specs.Source.{is_digit}
use Rattle.gft_lex.specs.declared.sight.Sight.{Sight}
use Rattle.gft_lex.specs.declared.sight.Sight.TheVariants.{Blank, OpenComment, Number, Quote, Symbol, Word, Nothing}
use Rattle.gft_lex.specs.Lexemes.{block_on, line_length}
use Rattle.gft_lex.specs.Spellings.{symbol_in}

-- a comment in braces, with its beginning
abbrev pub block_of : Option ℕ → Sight
block_of None = OpenComment
block_of (Some n) = Blank (n + 2)

-- a comment
abbrev pub comment_of : ℕ → List ℕ → Option Sight
comment_of c [] = None
comment_of c (d ∷ cs) =
    if c == 45 && d == 45 then Some (Blank (line_length cs + 2))
    else if c == 123 && d == 45 then Some (block_of (block_on 0 false cs))
    else None

-- a symbol of two characters
abbrev pub long_symbol_of : ℕ → List ℕ → Option Sight
long_symbol_of c [] = None
long_symbol_of c (d ∷ cs) = option_map (λ s. Symbol s 2) (symbol_in (c ∷ d ∷ []))

-- a name
abbrev pub name_of : ℕ → List ℕ → Option Sight
name_of c cs =
    if begins_name c
    then (if c == 95 && prefix_len continues_name cs == 0 then None else Some (Word (prefix_len continues_name cs + 1)))
    else None

-- a symbol of one character
abbrev pub short_symbol_in : Option Sign → Sight
short_symbol_in None = Nothing
short_symbol_in (Some s) = Symbol s 1

-- by its spelling
abbrev pub short_symbol_of : ℕ → Sight
short_symbol_of c = short_symbol_in (symbol_in (c ∷ []))

-- the first that there is
abbrev pub or_else : Option Sight → Sight → Sight
or_else None other = other
or_else (Some found) other = found

-- a token
abbrev pub token_of : ℕ → List ℕ → Sight
token_of c cs =
    if is_digit c then Number (prefix_len is_digit cs + 1)
    else if c == 34 then Quote
    else or_else (long_symbol_of c cs) (or_else (name_of c cs) (short_symbol_of c))

-- white space, a comment or a token
abbrev pub sight_of : List ℕ → Sight
sight_of [] = Nothing
sight_of (c ∷ cs) = if is_whitespace c then Blank 1 else or_else (comment_of c cs) (token_of c cs)

-- it has characters, and no more than there are
abbrev pub IsWithin : List ℕ → Sight → Type 0
IsWithin cs (Blank n) = (1 ≤ n) × (n ≤ length cs)
IsWithin cs OpenComment = Unit {0}
IsWithin cs (Number n) = (1 ≤ n) × (n ≤ length cs)
IsWithin cs Quote = Unit {0}
IsWithin cs (Symbol s n) = (1 ≤ n) × (n ≤ length cs)
IsWithin cs (Word n) = (1 ≤ n) × (n ≤ length cs)
IsWithin cs Nothing = Unit {0}

-- a comment in braces with its beginning, where it is closed
abbrev pub block_lexeme : Option ℕ → Lexeme
block_lexeme o = option_map_or (λ n. blank (n + 2)) o nothing
