-- The grammar of terms, of patterns and of what judgements and headers are made of: the forms of the language in a
-- table, and which tokens spell which, up to which rest.
use Rattle.std.specs.Prelude.{◌≡◌, ℕ, List, [], ◌∷◌, ◌++◌, flat_map, Bool, true, not, ◌&&◌, ◌||◌, bytes_eq, Option, Some, None}
use Rattle.std.specs.List.{list_any, list_all}
use Rattle.gft_core.specs.declared.place.Place.{Place}
use Rattle.gft_syntax.specs.declared.bind.Bind.{Bind}
use Rattle.gft_syntax.specs.declared.bind.Bind.TheVariants.{Variable, Nothing}
use Rattle.gft_syntax.specs.declared.judgement.Alternative.{Alternative}
use Rattle.gft_syntax.specs.declared.judgement.Constructor.{Constructor}
use Rattle.gft_syntax.specs.declared.judgement.Context.{Context}
use Rattle.gft_syntax.specs.declared.module.Inherited.{Inherited}
use Rattle.gft_syntax.specs.declared.module.Inherited.TheVariants.{Whole, Only, Except}
use Rattle.gft_syntax.specs.declared.module.Opened.{Opened}
use Rattle.gft_syntax.specs.declared.module.Opened.TheVariants.{Plain, Qualified}
use Rattle.gft_syntax.specs.declared.module.Substitution.{Substitution}
use Rattle.gft_syntax.specs.declared.pattern.Pattern.{Pattern, out-Pattern}
use Rattle.gft_syntax.specs.declared.pattern.PatternField.{PatternField}
use Rattle.gft_syntax.specs.declared.pattern.Pattern.TheOpen as P
use Rattle.gft_syntax.specs.declared.reference.PlacedName.{PlacedName}
use Rattle.gft_syntax.specs.declared.reference.Reference.TheVariants.{Written}
use Rattle.gft_syntax.specs.declared.term.Case.{Case}
use Rattle.gft_syntax.specs.declared.term.Local.{Local}
use Rattle.gft_syntax.specs.declared.term.Local.TheVariants.{Value, Label, TypedValue}
use Rattle.gft_syntax.specs.declared.term.Sort.TheVariants as Sort-V
use Rattle.gft_syntax.specs.declared.term.Term.{Term, out-Term}
use Rattle.gft_syntax.specs.declared.term.Term.TheOpen as T
use Rattle.gft_syntax.specs.declared.token.Reserved.{Reserved as Word}
use Rattle.gft_syntax.specs.declared.token.Reserved.TheVariants as W
use Rattle.gft_syntax.specs.declared.token.SourceToken.{SourceToken}
use Rattle.gft_syntax.specs.declared.token.Symbol.{Symbol as Sign}
use Rattle.gft_syntax.specs.declared.token.Symbol.TheVariants as S
use Rattle.gft_syntax.specs.declared.token.TokenForm.TheVariants.{Identifier, Reserved, Number, Quoted, Symbol}
use Rattle.gft_syntax.specs.Parts.{list_name, local_names, is_value}

-- tokens of a file
abbrev pub Tokens : Type 0
Tokens = List SourceToken

-- the token is the symbol
abbrev pub Is : Sign → SourceToken → Type 0
Is s t = t.form ≡ Symbol s

-- the token is the reserved word
abbrev pub IsReserved : Word → SourceToken → Type 0
IsReserved w t = t.form ≡ Reserved w

-- the token is the name
abbrev pub IsNamed : List ℕ → SourceToken → Type 0
IsNamed x t = t.form ≡ Identifier x

-- the token is the number, however it is written
abbrev pub IsNumber : ℕ → SourceToken → Type 0
IsNumber n t = (s : List ℕ) × (t.form ≡ Number n s)

-- the token is the text in quotes
abbrev pub IsQuoted : List ℕ → SourceToken → Type 0
IsQuoted text t = (s : List ℕ) × (t.form ≡ Quoted text s)

-- the place of the first token
abbrev pub first_place : Tokens → Option Place
first_place [] = None
first_place (t ∷ ts) = Some t.place

-- the first token stands at the place
abbrev pub FirstAt : Tokens → Place → Type 0
FirstAt ts p = first_place ts ≡ Some p

-- a name at its place
abbrev pub placed : List ℕ → SourceToken → PlacedName
placed x t = record { name = x; place = t.place }

-- no name stands twice
abbrev pub distinct : List (List ℕ) → Bool
distinct [] = true
distinct (x ∷ xs) = not (list_any (bytes_eq x) xs) && distinct xs

-- fields are all with = or all with : alone, and no label stands twice
abbrev pub are_fields : {A : Type 0} → List (Local A) → Bool
are_fields ls =
    (list_all is_value ls || list_all (λ l. not (is_value l)) ls) && distinct (flat_map local_names ls)

-- the levels of terms, from the loosest
pub data Level : Type 0 where
  exp exp1 exp2 exp3 exp4 exp5 exp6 : Level

-- the levels of patterns, from the loosest
pub data PatternLevel : Type 0 where
  patt patt1 patt2 patt3 patt4 : PatternLevel

-- the parts of the grammar; of a part there may be one or more with a symbol between, any number with
-- semicolons between and one allowed last, and any number one after the other
pub data Part : Type 0 where
  term : Level → Part
  pattern : PatternLevel → Part
  local branch field alternative context constructor : Part
  name bind placed_name category_name inherited opened substitution : Part
  listed : Sign → Part → Part
  semicolons many : Part → Part

-- what a part is read as
abbrev pub Meaning : Part → Type 0
Meaning (term l) = Term
Meaning (pattern l) = Pattern
Meaning local = Local Term
Meaning branch = Case Term
Meaning field = PatternField Pattern
Meaning alternative = Alternative
Meaning context = Context
Meaning constructor = Constructor
Meaning name = List ℕ
Meaning bind = Bind
Meaning placed_name = PlacedName
Meaning category_name = PlacedName
Meaning inherited = Inherited
Meaning opened = Opened
Meaning substitution = Substitution
Meaning (listed s g) = List (Meaning g)
Meaning (semicolons g) = List (Meaning g)
Meaning (many g) = List (Meaning g)

-- the layer of a part: that of a term or of a pattern, or all of it
abbrev pub Layer : Part → Type 0
Layer (term l) = T.Term-F Term
Layer (pattern l) = P.Pattern-F Pattern
Layer g = Meaning g

abbrev pub layer : (g : Part) → Meaning g → Layer g
layer (term l) e = out-Term e
layer (pattern l) p = out-Pattern p
layer g a = a

-- a piece of a form: a symbol, a reserved word, a name, a number, a text in quotes, a part, or one that passes a test
pub data Piece : Type 0 where
  symbol : Sign → Piece
  word : Word → Piece
  identifier number text : Piece
  part : Part → Piece
  part_where : (g : Part) → (Meaning g → Bool) → Piece

-- locals with = alone
abbrev pub definitions : Piece
definitions = part_where (semicolons local) (list_all is_value)

-- a piece in braces, and in brackets
abbrev pub in_braces : Piece → List Piece
in_braces p = symbol S.LeftBrace ∷ p ∷ symbol S.RightBrace ∷ []

abbrev pub in_brackets : Piece → List Piece
in_brackets p = symbol S.LeftBracket ∷ p ∷ symbol S.RightBracket ∷ []

-- a form is made of its parts in their order and of the place of its first token
abbrev pub Maker : Part → List Piece → Type 0
Maker g [] = Place → Layer g
Maker g (symbol s ∷ ps) = Maker g ps
Maker g (word w ∷ ps) = Maker g ps
Maker g (part h ∷ ps) = Meaning h → Maker g ps
Maker g (identifier ∷ ps) = List ℕ → Maker g ps
Maker g (number ∷ ps) = ℕ → Maker g ps
Maker g (text ∷ ps) = List ℕ → Maker g ps
Maker g (part_where h test ∷ ps) = Meaning h → Maker g ps

-- the forms of each part: their pieces, and what they are; those of a tighter level are forms of the looser one too
pub data Form : (g : Part) (ps : List Piece) → Maker g ps → Type 0 where
  below_exp : Form (term exp) (part (term exp1) ∷ []) (λ e p. out-Term e)
  below_exp1 : Form (term exp1) (part (term exp2) ∷ []) (λ e p. out-Term e)
  below_exp2 : Form (term exp2) (part (term exp3) ∷ []) (λ e p. out-Term e)
  below_exp3 : Form (term exp3) (part (term exp4) ∷ []) (λ e p. out-Term e)
  below_exp4 : Form (term exp4) (part (term exp5) ∷ []) (λ e p. out-Term e)
  below_exp5 : Form (term exp5) (part (term exp6) ∷ []) (λ e p. out-Term e)
  alternatives : Form (term exp) (part (term exp1) ∷ symbol S.Bar ∷ part (term exp) ∷ []) T.Alt
  table_type : Form (term exp) (part (term exp3) ∷ symbol S.DoubleArrow ∷ part (term exp) ∷ []) T.TabType
  function_type : Form (term exp) (part (term exp4) ∷ symbol S.Arrow ∷ part (term exp) ∷ []) (T.Arrow [])
  function_type_of : Form (term exp) (symbol S.LeftParenthesis ∷ part (listed S.Comma bind) ∷ symbol S.Colon ∷ part (term exp)
      ∷ symbol S.RightParenthesis ∷ symbol S.Arrow ∷ part (term exp) ∷ []) T.Arrow
  function : Form (term exp) (symbol S.Backslash ∷ part (listed S.Comma bind) ∷ symbol S.Arrow ∷ part (term exp) ∷ []) T.Fun
  table_function : Form (term exp) (symbol S.DoubleBackslash ∷ part (listed S.Comma bind) ∷ symbol S.DoubleArrow
      ∷ part (term exp) ∷ []) T.TabFun
  let_in : Form (term exp) (word W.Let ∷ definitions ∷ word W.InWord ∷ part (term exp) ∷ []) T.Let
  let_braces : Form (term exp) (word W.Let ∷ in_braces definitions ++ word W.InWord ∷ part (term exp) ∷ []) T.Let
  where_locals : Form (term exp) (part (term exp3) ∷ word W.Where ∷ in_braces definitions) (λ e ls. T.Let ls e)
  append : Form (term exp1) (part (term exp2) ∷ symbol S.DoublePlus ∷ part (term exp1) ∷ []) T.Concat
  glue : Form (term exp2) (part (term exp3) ∷ symbol S.Plus ∷ part (term exp2) ∷ []) T.Glue
  selection : Form (term exp3) (part (term exp3) ∷ symbol S.Exclamation ∷ part (term exp4) ∷ []) T.Select
  extension : Form (term exp3) (part (term exp3) ∷ symbol S.DoubleStar ∷ part (term exp4) ∷ []) T.Extend
  pair : Form (term exp3) (part (term exp3) ∷ symbol S.Star ∷ part (term exp4) ∷ []) T.Pair
  table : Form (term exp3) (word W.Table ∷ in_braces (part (semicolons branch))) (T.TableOf None)
  table_over : Form (term exp3) (word W.Table ∷ part (term exp6) ∷ in_braces (part (semicolons branch))) (λ t. T.TableOf (Some t))
  table_list : Form (term exp3) (word W.Table ∷ part (term exp6) ∷ in_brackets (part (semicolons (term exp)))) T.TableList
  application : Form (term exp4) (part (term exp4) ∷ part (term exp5) ∷ []) T.App
  case_of : Form (term exp4) (word W.Case ∷ part (term exp) ∷ word W.Of ∷ in_braces (part (semicolons branch))) T.CaseOf
  variants : Form (term exp4) (word W.Variants ∷ in_braces (part (semicolons (term exp)))) T.Variants
  projection : Form (term exp5) (part (term exp5) ∷ symbol S.Dot ∷ identifier ∷ []) T.Proj
  variable : Form (term exp6) (identifier ∷ []) (λ x. T.Var (Written x))
  literal : Form (term exp6) (text ∷ []) T.Lit
  literal_in_brackets : Form (term exp6) (in_brackets text) T.Lit
  a_number : Form (term exp6) (number ∷ []) T.Num
  no_words : Form (term exp6) (symbol S.LeftBracket ∷ symbol S.RightBracket ∷ []) T.Empty
  list_category : Form (term exp6) (in_brackets identifier) (λ x. T.ListCat (Written x))
  strings : Form (term exp6) (word W.Str ∷ []) (T.Sort Sort-V.Str)
  types : Form (term exp6) (word W.TypeWord ∷ []) (T.Sort Sort-V.TypeSort)
  parameter_types : Form (term exp6) (word W.ParamTypeWord ∷ []) (T.Sort Sort-V.ParamSort)
  numbers : Form (term exp6) (word W.Ints ∷ []) (T.Sort Sort-V.Ints)
  predefined : Form (term exp6) (word W.Predef ∷ []) (T.Sort Sort-V.Predef)
  a_record : Form (term exp6) (in_braces (part_where (semicolons local) are_fields)) T.Fields
  tuple : Form (term exp6) (symbol S.Less ∷ part (listed S.Comma (term exp)) ∷ symbol S.Greater ∷ []) T.Tuple
  typed : Form (term exp6) (symbol S.Less ∷ part (term exp) ∷ symbol S.Colon ∷ part (term exp) ∷ symbol S.Greater ∷ []) T.Typed
  in_parentheses : Form (term exp6) (symbol S.LeftParenthesis ∷ part (term exp) ∷ symbol S.RightParenthesis ∷ [])
      (λ e p. out-Term e)
  below_patt : Form (pattern patt) (part (pattern patt1) ∷ []) (λ q p. out-Pattern q)
  below_patt1 : Form (pattern patt1) (part (pattern patt2) ∷ []) (λ q p. out-Pattern q)
  below_patt2 : Form (pattern patt2) (part (pattern patt3) ∷ []) (λ q p. out-Pattern q)
  below_patt3 : Form (pattern patt3) (part (pattern patt4) ∷ []) (λ q p. out-Pattern q)
  either : Form (pattern patt) (part (pattern patt) ∷ symbol S.Bar ∷ part (pattern patt1) ∷ []) P.Or
  in_sequence : Form (pattern patt1) (part (pattern patt1) ∷ symbol S.Plus ∷ part (pattern patt2) ∷ []) P.Seq
  constructor_with : Form (pattern patt2) (identifier ∷ part (pattern patt4) ∷ part (many (pattern patt4)) ∷ [])
      (λ x p ps. P.Con None (Written x) (p ∷ ps))
  constructor_of : Form (pattern patt2) (identifier ∷ symbol S.Dot ∷ identifier ∷ part (many (pattern patt4)) ∷ [])
      (λ Q x. P.Con (Some Q) (Written x))
  star : Form (pattern patt3) (part (pattern patt4) ∷ symbol S.Star ∷ []) P.Star
  as_pattern : Form (pattern patt3) (identifier ∷ symbol S.At ∷ part (pattern patt4) ∷ []) P.As
  anything : Form (pattern patt4) (symbol S.Underscore ∷ []) P.Any
  character : Form (pattern patt4) (symbol S.Question ∷ []) P.One
  named_pattern : Form (pattern patt4) (identifier ∷ []) (λ x. P.Name (Written x))
  text_pattern : Form (pattern patt4) (text ∷ []) P.Text
  number_pattern : Form (pattern patt4) (number ∷ []) P.Num
  record_pattern : Form (pattern patt4)
      (in_braces (part_where (semicolons field) (λ fs. distinct (flat_map (λ f. f.labels) fs)))) P.Fields
  tuple_pattern : Form (pattern patt4) (symbol S.Less ∷ part (listed S.Comma (pattern patt)) ∷ symbol S.Greater ∷ []) P.Tuple
  pattern_in_parentheses : Form (pattern patt4) (symbol S.LeftParenthesis ∷ part (pattern patt) ∷ symbol S.RightParenthesis ∷ [])
      (λ q p. out-Pattern q)
  local_value : Form local (part (listed S.Comma name) ∷ symbol S.Equals ∷ part (term exp) ∷ []) (λ xs e p. Value xs e)
  local_type : Form local (part (listed S.Comma name) ∷ symbol S.Colon ∷ part (term exp) ∷ []) (λ xs t p. Label xs t)
  typed_local : Form local (part (listed S.Comma name) ∷ symbol S.Colon ∷ part (term exp) ∷ symbol S.Equals
      ∷ part (term exp) ∷ []) (λ xs t e p. TypedValue xs t e)
  a_branch : Form branch (part (pattern patt) ∷ symbol S.DoubleArrow ∷ part (term exp) ∷ [])
      (λ q e p. record { pattern = q; body = e })
  a_field : Form field (part (listed S.Comma name) ∷ symbol S.Equals ∷ part (pattern patt) ∷ [])
      (λ xs q p. record { labels = xs; pattern = q })
  an_alternative : Form alternative (part (listed S.Comma name) ∷ symbol S.Colon ∷ part (term exp) ∷ symbol S.Equals
      ∷ part (term exp) ∷ []) (λ xs t e p. record { names = xs; of_type = t; value = e })
  with_variables : Form context (symbol S.LeftParenthesis ∷ part (listed S.Comma bind) ∷ symbol S.Colon ∷ part (term exp)
      ∷ symbol S.RightParenthesis ∷ []) (λ xs t p. record { binds = xs; of_type = t })
  without_variables : Form context (part (term exp6) ∷ []) (λ t p. record { binds = []; of_type = t })
  a_constructor : Form constructor (part placed_name ∷ part (many context) ∷ []) (λ n cs p. record { name = n; arguments = cs })
  a_name : Form name (identifier ∷ []) (λ x p. x)
  a_variable : Form bind (identifier ∷ []) Variable
  no_variable : Form bind (symbol S.Underscore ∷ []) Nothing
  a_placed_name : Form placed_name (identifier ∷ []) (λ x p. record { name = x; place = p })
  category_alone : Form category_name (identifier ∷ []) (λ x p. record { name = x; place = p })
  category_of_lists : Form category_name (in_brackets identifier) (λ x p. record { name = list_name x; place = p })
  whole : Form inherited (part placed_name ∷ []) (λ n p. Whole n)
  only : Form inherited (part placed_name ∷ in_brackets (part (listed S.Comma placed_name))) (λ n ns p. Only n ns)
  except : Form inherited (part placed_name ∷ symbol S.Minus ∷ in_brackets (part (listed S.Comma placed_name)))
      (λ n ns p. Except n ns)
  plainly : Form opened (part placed_name ∷ []) (λ n p. Plain n)
  by_alias : Form opened (symbol S.LeftParenthesis ∷ part placed_name ∷ symbol S.Equals ∷ part placed_name
      ∷ symbol S.RightParenthesis ∷ []) (λ q n p. Qualified q n)
  instance_of : Form substitution (symbol S.LeftParenthesis ∷ part placed_name ∷ symbol S.Equals ∷ part placed_name
      ∷ symbol S.RightParenthesis ∷ []) (λ i j p. record { interface = i; instance = j })

mutual
  -- the tokens up to the rest spell the part
  pub data Spells : (g : Part) → Tokens → Meaning g → Tokens → Type 0 where
    by_form : {g ps make p ts a rest : _} → Form g ps make → FirstAt ts p → SpellsPieces g ps make p ts (layer g a) rest →
        Spells g ts a rest
    one : {g s ts a rest : _} → Spells g ts a rest → Spells (listed s g) ts (a ∷ []) rest
    more : {g s t ts us a bs rest : _} → Spells g ts a (t ∷ us) → Is s t → Spells (listed s g) us bs rest →
        Spells (listed s g) ts (a ∷ bs) rest
    empty : {g ts : _} → Spells (semicolons g) ts [] ts
    last : {g ts a rest : _} → Spells g ts a rest → Spells (semicolons g) ts (a ∷ []) rest
    next : {g t ts us a bs rest : _} → Spells g ts a (t ∷ us) → Is S.Semicolon t → Spells (semicolons g) us bs rest →
        Spells (semicolons g) ts (a ∷ bs) rest
    none : {g ts : _} → Spells (many g) ts [] ts
    some : {g ts us a bs rest : _} → Spells g ts a us → Spells (many g) us bs rest → Spells (many g) ts (a ∷ bs) rest

  -- the tokens up to the rest spell the pieces, of which and of the place the layer is made
  pub data SpellsPieces : (g : Part) (ps : List Piece) → Maker g ps → Place → Tokens → Layer g → Tokens → Type 0 where
    no_piece : {g p ts l : _} {make : Maker g []} → l ≡ make p → SpellsPieces g [] make p ts l ts
    next_symbol : {g s ps make p t ts l rest : _} → Is s t → SpellsPieces g ps make p ts l rest →
        SpellsPieces g (symbol s ∷ ps) make p (t ∷ ts) l rest
    next_word : {g w ps make p t ts l rest : _} → IsReserved w t → SpellsPieces g ps make p ts l rest →
        SpellsPieces g (word w ∷ ps) make p (t ∷ ts) l rest
    next_part : {g h ps p ts us a l rest : _} {make : Maker g (part h ∷ ps)} → Spells h ts a us →
        SpellsPieces g ps (make a) p us l rest → SpellsPieces g (part h ∷ ps) make p ts l rest
    next_identifier : {g ps p t ts x l rest : _} {make : Maker g (identifier ∷ ps)} → IsNamed x t →
        SpellsPieces g ps (make x) p ts l rest → SpellsPieces g (identifier ∷ ps) make p (t ∷ ts) l rest
    next_number : {g ps p t ts n l rest : _} {make : Maker g (number ∷ ps)} → IsNumber n t →
        SpellsPieces g ps (make n) p ts l rest → SpellsPieces g (number ∷ ps) make p (t ∷ ts) l rest
    next_text : {g ps p t ts x l rest : _} {make : Maker g (text ∷ ps)} → IsQuoted x t →
        SpellsPieces g ps (make x) p ts l rest → SpellsPieces g (text ∷ ps) make p (t ∷ ts) l rest
    next_part_where : {g h test ps p ts us a l rest : _} {make : Maker g (part_where h test ∷ ps)} → Spells h ts a us →
        test a ≡ true → SpellsPieces g ps (make a) p us l rest → SpellsPieces g (part_where h test ∷ ps) make p ts l rest

-- the tokens up to the rest spell a term of the level
abbrev pub SpellsTerm : Level → Tokens → Term → Tokens → Type 0
SpellsTerm l = Spells (term l)

-- the tokens up to the rest spell a pattern of the level
abbrev pub SpellsPattern : PatternLevel → Tokens → Pattern → Tokens → Type 0
SpellsPattern l = Spells (pattern l)
