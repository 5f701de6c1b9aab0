-- The tokens with which the parts of the grammar begin and go on, and what the first two tokens tell.
use Rattle.std.specs.Prelude.{◌≡◌, ℕ, [], ◌∷◌, Bool, true, false, not, ◌&&◌, ◌||◌, ◌==◌}
use Rattle.gft_syntax.specs.declared.token.Reserved.{Reserved as Word}
use Rattle.gft_syntax.specs.declared.token.Reserved.TheVariants as W
use Rattle.gft_syntax.specs.declared.token.Symbol.{Symbol as Sign}
use Rattle.gft_syntax.specs.declared.token.Symbol.TheVariants as S
use Rattle.gft_syntax.specs.declared.token.TokenForm.{TokenForm}
use Rattle.gft_syntax.specs.declared.token.TokenForm.TheVariants.{Identifier, Reserved, Number, Quoted, Symbol}
use Rattle.gft_model.proofs.GrammarRules.{Tokens, Level, PatternLevel, exp, exp1, exp2, exp3, exp4, exp5, exp6, patt, patt1, patt2, patt3, patt4, Part, term, pattern, local, branch, field, alternative, context, constructor, name, bind, placed_name, category_name, inherited, opened, substitution, listed, semicolons, many}
use Rattle.gft_model.proofs.ReadingTokens.{quiet, first}

-- the symbols, told apart by numbers
abbrev pub sign_number : Sign → ℕ
sign_number S.LeftBrace = 0
sign_number S.RightBrace = 1
sign_number S.LeftParenthesis = 2
sign_number S.RightParenthesis = 3
sign_number S.LeftBracket = 4
sign_number S.RightBracket = 5
sign_number S.Less = 6
sign_number S.Greater = 7
sign_number S.Semicolon = 8
sign_number S.Colon = 9
sign_number S.Comma = 10
sign_number S.Dot = 11
sign_number S.Equals = 12
sign_number S.Bar = 13
sign_number S.Underscore = 14
sign_number S.At = 15
sign_number S.Star = 16
sign_number S.DoubleStar = 17
sign_number S.Plus = 18
sign_number S.DoublePlus = 19
sign_number S.Exclamation = 20
sign_number S.Question = 21
sign_number S.Minus = 22
sign_number S.Arrow = 23
sign_number S.DoubleArrow = 24
sign_number S.Backslash = 25
sign_number S.DoubleBackslash = 26

-- tests of a token
abbrev pub is_sign : Sign → TokenForm → Bool
is_sign s (Symbol r) = sign_number s == sign_number r
is_sign s f = false

abbrev pub is_name : TokenForm → Bool
is_name (Identifier x) = true
is_name f = false

-- the words that terms are built with
pub data Key : Type 0 where
  let_key in_key where_key table_key case_key of_key variants_key sort_key other_key : Key

abbrev pub key_of : Word → Key
key_of W.Let = let_key
key_of W.InWord = in_key
key_of W.Where = where_key
key_of W.Table = table_key
key_of W.Case = case_key
key_of W.Of = of_key
key_of W.Variants = variants_key
key_of W.Str = sort_key
key_of W.TypeWord = sort_key
key_of W.ParamTypeWord = sort_key
key_of W.Ints = sort_key
key_of W.Predef = sort_key
key_of w = other_key

abbrev pub key_number : Key → ℕ
key_number let_key = 0
key_number in_key = 1
key_number where_key = 2
key_number table_key = 3
key_number case_key = 4
key_number of_key = 5
key_number variants_key = 6
key_number sort_key = 7
key_number other_key = 8

abbrev pub is_key : Key → TokenForm → Bool
is_key k (Reserved w) = key_number k == key_number (key_of w)
is_key k f = false

-- what closes a list with semicolons
abbrev pub is_closer : TokenForm → Bool
is_closer f = is_sign S.RightBrace f || is_sign S.RightBracket f || is_key in_key f

-- the first tokens of a part
abbrev pub begins_atom : TokenForm → Bool
begins_atom (Identifier x) = true
begins_atom (Reserved w) = is_key sort_key (Reserved w)
begins_atom (Number n s) = true
begins_atom (Quoted x s) = true
begins_atom (Symbol s) =
    is_sign S.LeftBracket (Symbol s) || is_sign S.LeftBrace (Symbol s) || is_sign S.Less (Symbol s)
    || is_sign S.LeftParenthesis (Symbol s)

abbrev pub begins_pattern : TokenForm → Bool
begins_pattern (Identifier x) = true
begins_pattern (Reserved w) = false
begins_pattern (Number n s) = true
begins_pattern (Quoted x s) = true
begins_pattern (Symbol s) =
    is_sign S.Underscore (Symbol s) || is_sign S.Question (Symbol s) || is_sign S.LeftBrace (Symbol s)
    || is_sign S.Less (Symbol s) || is_sign S.LeftParenthesis (Symbol s)

abbrev pub begins_application : TokenForm → Bool
begins_application f = begins_atom f || is_key case_key f || is_key variants_key f

abbrev pub begins_operand : TokenForm → Bool
begins_operand f = begins_application f || is_key table_key f

abbrev pub begins_term : Level → TokenForm → Bool
begins_term exp f =
    begins_operand f || is_sign S.Backslash f || is_sign S.DoubleBackslash f || is_key let_key f
begins_term exp1 f = begins_operand f
begins_term exp2 f = begins_operand f
begins_term exp3 f = begins_operand f
begins_term exp4 f = begins_application f
begins_term exp5 f = begins_atom f
begins_term exp6 f = begins_atom f

abbrev pub begins : Part → TokenForm → Bool
begins (term l) f = begins_term l f
begins (pattern l) f = begins_pattern f
begins local f = is_name f
begins branch f = begins_pattern f
begins field f = is_name f
begins alternative f = is_name f
begins context f = begins_atom f
begins constructor f = is_name f
begins name f = is_name f
begins bind f = is_name f || is_sign S.Underscore f
begins placed_name f = is_name f
begins category_name f = is_name f || is_sign S.LeftBracket f
begins inherited f = is_name f
begins opened f = is_name f || is_sign S.LeftParenthesis f
begins substitution f = is_sign S.LeftParenthesis f
begins (listed s g) f = begins g f
begins (semicolons g) f = true
begins (many g) f = true

-- a part of no tokens
abbrev pub may_be_empty : Part → Bool
may_be_empty (semicolons g) = true
may_be_empty (many g) = true
may_be_empty (listed s g) = may_be_empty g
may_be_empty g = false

abbrev pub begins_at : Part → Tokens → Bool
begins_at g [] = may_be_empty g
begins_at g (t ∷ ts) = begins g t.form

-- the tokens with which a part goes on after it might have ended
abbrev pub projection_goes_on : TokenForm → Bool
projection_goes_on f = is_sign S.Dot f

abbrev pub application_goes_on : TokenForm → Bool
application_goes_on f = projection_goes_on f || begins_atom f

abbrev pub selection_goes_on : TokenForm → Bool
selection_goes_on f =
    application_goes_on f || (is_sign S.Exclamation f || is_sign S.DoubleStar f || is_sign S.Star f)

abbrev pub glue_goes_on : TokenForm → Bool
glue_goes_on f = selection_goes_on f || is_sign S.Plus f

abbrev pub append_goes_on : TokenForm → Bool
append_goes_on f = glue_goes_on f || is_sign S.DoublePlus f

abbrev pub term_goes_on : Level → TokenForm → Bool
term_goes_on exp f =
    append_goes_on f || (is_sign S.Bar f || is_sign S.Arrow f || is_sign S.DoubleArrow f || is_key where_key f)
term_goes_on exp1 f = append_goes_on f
term_goes_on exp2 f = glue_goes_on f
term_goes_on exp3 f = selection_goes_on f
term_goes_on exp4 f = application_goes_on f
term_goes_on exp5 f = projection_goes_on f
term_goes_on exp6 f = false

abbrev pub star_goes_on : TokenForm → Bool
star_goes_on f = is_sign S.Star f || is_sign S.At f

abbrev pub constructor_goes_on : TokenForm → Bool
constructor_goes_on f = star_goes_on f || (is_sign S.Dot f || begins_pattern f)

abbrev pub sequence_goes_on : TokenForm → Bool
sequence_goes_on f = constructor_goes_on f || is_sign S.Plus f

abbrev pub pattern_goes_on : PatternLevel → TokenForm → Bool
pattern_goes_on patt f = sequence_goes_on f || is_sign S.Bar f
pattern_goes_on patt1 f = sequence_goes_on f
pattern_goes_on patt2 f = constructor_goes_on f
pattern_goes_on patt3 f = star_goes_on f
pattern_goes_on patt4 f = false

abbrev pub goes_on : Part → TokenForm → Bool
goes_on (term l) f = term_goes_on l f
goes_on (pattern l) f = pattern_goes_on l f
goes_on local f = term_goes_on exp f || is_sign S.Equals f
goes_on branch f = term_goes_on exp f
goes_on field f = pattern_goes_on patt f
goes_on alternative f = term_goes_on exp f
goes_on context f = false
goes_on constructor f = begins_atom f
goes_on name f = false
goes_on bind f = false
goes_on placed_name f = false
goes_on category_name f = false
goes_on inherited f = is_sign S.LeftBracket f || is_sign S.Minus f
goes_on opened f = false
goes_on substitution f = false
goes_on (listed s g) f = goes_on g f || is_sign s f
goes_on (semicolons g) f = not (is_closer f)
goes_on (many g) f = begins g f

-- the rest does not go on with the part
abbrev pub Stops : Part → Tokens → Type 0
Stops g rest = quiet (goes_on g) rest ≡ true

-- a name with what follows it only where it is bound: =, : or a comma
abbrev pub binds_on : TokenForm → Bool
binds_on f = is_sign S.Equals f || is_sign S.Colon f || is_sign S.Comma f

abbrev pub names_ahead : Tokens → Bool
names_ahead [] = false
names_ahead (t ∷ ts) = is_name t.form && first binds_on ts

-- what stands in a parenthesis binds variables
abbrev pub is_binding : Tokens → Bool
is_binding ts = first (is_sign S.Underscore) ts || names_ahead ts

abbrev pub binding_at : Tokens → Bool
binding_at [] = false
binding_at (t ∷ ts) = is_sign S.LeftParenthesis t.form && is_binding ts

-- after table come branches, and not first the type that it is over
abbrev pub opens_list : TokenForm → Bool
opens_list f = is_sign S.LeftBrace f || is_sign S.LeftBracket f

abbrev pub no_fields_ahead : Tokens → Bool
no_fields_ahead [] = false
no_fields_ahead (t ∷ ts) = is_sign S.RightBrace t.form && first opens_list ts

abbrev pub branches_at : Tokens → Bool
branches_at [] = false
branches_at (t ∷ ts) = is_sign S.LeftBrace t.form && not (names_ahead ts || no_fields_ahead ts)
