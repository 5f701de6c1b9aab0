-- The forms of the grammar as rules one by one, which is how they are taken apart; they spell the same as the table of forms.
use Rattle.std.proofs.Common.{sym, ap, ◌∙◌, subst}
use Rattle.std.specs.Prelude.{◌≡◌, ℕ, List, [], ◌∷◌, flat_map, Bool, true, Some, None}
use Rattle.std.specs.List.{list_all}
use Rattle.gft_core.specs.declared.place.Place.{Place}
use Rattle.gft_syntax.specs.declared.bind.Bind.{Bind}
use Rattle.gft_syntax.specs.declared.bind.Bind.TheVariants.{Variable, Nothing}
use Rattle.gft_syntax.specs.declared.module.Inherited.TheVariants.{Whole, Only, Except}
use Rattle.gft_syntax.specs.declared.module.Opened.TheVariants.{Plain, Qualified}
use Rattle.gft_syntax.specs.declared.pattern.Pattern.{Pattern, out-Pattern, roll-Pattern}
use Rattle.gft_syntax.specs.declared.pattern.Pattern.TheViews.{roll-out-Pattern}
use Rattle.gft_syntax.specs.declared.pattern.Pattern.TheOpen as P
use Rattle.gft_syntax.specs.declared.reference.PlacedName.{PlacedName}
use Rattle.gft_syntax.specs.declared.reference.Reference.TheVariants.{Written}
use Rattle.gft_syntax.specs.declared.term.Local.TheVariants.{Value, Label, TypedValue}
use Rattle.gft_syntax.specs.declared.term.Sort.{Sort}
use Rattle.gft_syntax.specs.declared.term.Sort.TheVariants as Sort-V
use Rattle.gft_syntax.specs.declared.term.Term.{Term, out-Term, roll-Term}
use Rattle.gft_syntax.specs.declared.term.Term.TheViews.{roll-out-Term}
use Rattle.gft_syntax.specs.declared.term.Term.TheOpen as T
use Rattle.gft_syntax.specs.declared.token.Reserved.{Reserved as Word}
use Rattle.gft_syntax.specs.declared.token.Reserved.TheVariants as W
use Rattle.gft_syntax.specs.declared.token.SourceToken.{SourceToken}
use Rattle.gft_syntax.specs.declared.token.Symbol.{Symbol as Sign}
use Rattle.gft_syntax.specs.declared.token.Symbol.TheVariants as S
use Rattle.gft_syntax.specs.Parts.{list_name, is_value}
use Rattle.gft_model.specs.Grammar as F
use Rattle.gft_model.specs.Grammar.{Form, Piece, symbol, word, identifier, number as numeral, text, part, part_where, Maker, Layer, layer}
pub use Rattle.gft_model.specs.Grammar.{
  Tokens,
  Is,
  IsReserved,
  IsNamed,
  IsNumber,
  IsQuoted,
  first_place,
  FirstAt,
  placed,
  distinct,
  are_fields,
  Level,
  exp,
  exp1,
  exp2,
  exp3,
  exp4,
  exp5,
  exp6,
  PatternLevel,
  patt,
  patt1,
  patt2,
  patt3,
  patt4,
  Part,
  term,
  pattern,
  local,
  branch,
  field,
  alternative,
  context,
  constructor,
  name,
  bind,
  placed_name,
  category_name,
  inherited,
  opened,
  substitution,
  listed,
  semicolons,
  many,
  Meaning,
}

-- the next tighter level, whose forms are forms of the looser one too
pub data Tighter : Level → Level → Type 0 where
  below_exp : Tighter exp exp1
  below_exp1 : Tighter exp1 exp2
  below_exp2 : Tighter exp2 exp3
  below_exp3 : Tighter exp3 exp4
  below_exp4 : Tighter exp4 exp5
  below_exp5 : Tighter exp5 exp6

-- the same of patterns
pub data TighterPattern : PatternLevel → PatternLevel → Type 0 where
  below_patt : TighterPattern patt patt1
  below_patt1 : TighterPattern patt1 patt2
  below_patt2 : TighterPattern patt2 patt3
  below_patt3 : TighterPattern patt3 patt4

-- a form of two terms at a place
abbrev pub TermForm : Type 0
TermForm = Term → Term → Place → T.Term-F Term

-- a form of two patterns at a place
abbrev pub PatternForm : Type 0
PatternForm = Pattern → Pattern → Place → P.Pattern-F Pattern

-- the forms with a symbol between two terms: the level of the form, of its left part, the symbol, and the
-- level of its right part
pub data Infix : Level → Level → Sign → Level → TermForm → Type 0 where
  alternatives : Infix exp exp1 S.Bar exp T.Alt
  table_type : Infix exp exp3 S.DoubleArrow exp T.TabType
  function_type : Infix exp exp4 S.Arrow exp (T.Arrow [])
  append : Infix exp1 exp2 S.DoublePlus exp1 T.Concat
  glue : Infix exp2 exp3 S.Plus exp2 T.Glue
  selection : Infix exp3 exp3 S.Exclamation exp4 T.Select
  extension : Infix exp3 exp3 S.DoubleStar exp4 T.Extend
  pair : Infix exp3 exp3 S.Star exp4 T.Pair

-- the same of patterns
pub data InfixPattern : PatternLevel → PatternLevel → Sign → PatternLevel → PatternForm → Type 0 where
  either : InfixPattern patt patt S.Bar patt1 P.Or
  in_sequence : InfixPattern patt1 patt1 S.Plus patt2 P.Seq

-- lambdas: how they begin, and what stands before the body
pub data Lambda : Sign → Sign → (List Bind → Term → Place → T.Term-F Term) → Type 0 where
  of_function : Lambda S.Backslash S.Arrow T.Fun
  of_table : Lambda S.DoubleBackslash S.DoubleArrow T.TabFun

-- the words that are sorts
pub data SortWord : Word → Sort → Type 0 where
  strings : SortWord W.Str Sort-V.Str
  types : SortWord W.TypeWord Sort-V.TypeSort
  parameter_types : SortWord W.ParamTypeWord Sort-V.ParamSort
  numbers : SortWord W.Ints Sort-V.Ints
  predefined : SortWord W.Predef Sort-V.Predef

-- the tokens up to the rest spell the part
pub data Spells : (g : Part) → Tokens → Meaning g → Tokens → Type 0 where
  one : {g s ts rest a : _} → Spells g ts a rest → Spells (listed s g) ts (a ∷ []) rest
  more : {g s ts us rest t a bs : _} → Spells g ts a (t ∷ us) → Is s t → Spells (listed s g) us bs rest →
      Spells (listed s g) ts (a ∷ bs) rest
  empty : {g ts : _} → Spells (semicolons g) ts [] ts
  last : {g ts rest a : _} → Spells g ts a rest → Spells (semicolons g) ts (a ∷ []) rest
  next : {g ts us rest t a bs : _} → Spells g ts a (t ∷ us) → Is S.Semicolon t → Spells (semicolons g) us bs rest →
      Spells (semicolons g) ts (a ∷ bs) rest
  none : {g ts : _} → Spells (many g) ts [] ts
  some : {g ts us rest a bs : _} → Spells g ts a us → Spells (many g) us bs rest → Spells (many g) ts (a ∷ bs) rest
  a_name : {x t ts : _} → IsNamed x t → Spells name (t ∷ ts) x ts
  a_variable : {x : _} {t : SourceToken} {ts : _} → IsNamed x t → Spells bind (t ∷ ts) (Variable x t.place) ts
  no_variable : {t : SourceToken} {ts : _} → Is S.Underscore t → Spells bind (t ∷ ts) (Nothing t.place) ts
  a_placed_name : {x t ts : _} → IsNamed x t → Spells placed_name (t ∷ ts) (placed x t) ts
  category_alone : {x t ts : _} → IsNamed x t → Spells category_name (t ∷ ts) (placed x t) ts
  category_of_lists : {x l t r ts : _} → Is S.LeftBracket l → IsNamed x t → Is S.RightBracket r →
      Spells category_name (l ∷ t ∷ r ∷ ts) (placed (list_name x) l) ts
  infix_term : {ts us rest t e a b p i j k s form : _} → Infix i j s k form → Spells (term j) ts a (t ∷ us) → Is s t →
      Spells (term k) us b rest → FirstAt ts p → out-Term e ≡ form a b p → Spells (term i) ts e rest
  tighter_term : {ts rest e i j : _} → Tighter i j → Spells (term j) ts e rest → Spells (term i) ts e rest
  lambda : {ts us rest : _} {t : SourceToken} {u e b xs s a form : _} → Lambda s a form → Is s t →
      Spells (listed S.Comma bind) ts xs (u ∷ us) → Is a u → Spells (term exp) us b rest → out-Term e ≡ form xs b t.place →
      Spells (term exp) (t ∷ ts) e rest
  arrow_from : {ts us vs rest : _} {t : SourceToken} {c d u e a b xs : _} → Is S.LeftParenthesis t →
      Spells (listed S.Comma bind) ts xs (c ∷ us) → Is S.Colon c → Spells (term exp) us a (d ∷ u ∷ vs) → Is S.RightParenthesis d →
      Is S.Arrow u → Spells (term exp) vs b rest → out-Term e ≡ T.Arrow xs a b t.place → Spells (term exp) (t ∷ ts) e rest
  let_in : {ts us rest : _} {t : SourceToken} {u e b ls : _} → IsReserved W.Let t → Spells (semicolons local) ts ls (u ∷ us) →
      IsReserved W.InWord u → list_all is_value ls ≡ true → Spells (term exp) us b rest → out-Term e ≡ T.Let ls b t.place →
      Spells (term exp) (t ∷ ts) e rest
  let_braces : {ts us rest : _} {t : SourceToken} {l r u e b ls : _} → IsReserved W.Let t → Is S.LeftBrace l →
      Spells (semicolons local) ts ls (r ∷ u ∷ us) → Is S.RightBrace r → IsReserved W.InWord u → list_all is_value ls ≡ true →
      Spells (term exp) us b rest → out-Term e ≡ T.Let ls b t.place → Spells (term exp) (t ∷ l ∷ ts) e rest
  where_locals : {ts us rest t l r e b ls p : _} → Spells (term exp3) ts b (t ∷ l ∷ us) → IsReserved W.Where t →
      Is S.LeftBrace l → Spells (semicolons local) us ls (r ∷ rest) → Is S.RightBrace r → list_all is_value ls ≡ true →
      FirstAt ts p → out-Term e ≡ T.Let ls b p → Spells (term exp) ts e rest
  table : {ts rest : _} {t : SourceToken} {l r e cs : _} → IsReserved W.Table t → Is S.LeftBrace l →
      Spells (semicolons branch) ts cs (r ∷ rest) → Is S.RightBrace r → out-Term e ≡ T.TableOf None cs t.place →
      Spells (term exp3) (t ∷ l ∷ ts) e rest
  table_over : {ts us rest : _} {t : SourceToken} {l r e a cs : _} → IsReserved W.Table t → Spells (term exp6) ts a (l ∷ us) →
      Is S.LeftBrace l → Spells (semicolons branch) us cs (r ∷ rest) → Is S.RightBrace r →
      out-Term e ≡ T.TableOf (Some a) cs t.place → Spells (term exp3) (t ∷ ts) e rest
  table_list : {ts us rest : _} {t : SourceToken} {l r e a es : _} → IsReserved W.Table t → Spells (term exp6) ts a (l ∷ us) →
      Is S.LeftBracket l → Spells (semicolons (term exp)) us es (r ∷ rest) → Is S.RightBracket r →
      out-Term e ≡ T.TableList a es t.place → Spells (term exp3) (t ∷ ts) e rest
  application : {ts us rest e f a p : _} → Spells (term exp4) ts f us → Spells (term exp5) us a rest → FirstAt ts p →
      out-Term e ≡ T.App f a p → Spells (term exp4) ts e rest
  case_of : {ts us rest : _} {t : SourceToken} {o l r e a cs : _} → IsReserved W.Case t → Spells (term exp) ts a (o ∷ l ∷ us) →
      IsReserved W.Of o → Is S.LeftBrace l → Spells (semicolons branch) us cs (r ∷ rest) → Is S.RightBrace r →
      out-Term e ≡ T.CaseOf a cs t.place → Spells (term exp4) (t ∷ ts) e rest
  variants : {ts rest : _} {t : SourceToken} {l r e es : _} → IsReserved W.Variants t → Is S.LeftBrace l →
      Spells (semicolons (term exp)) ts es (r ∷ rest) → Is S.RightBrace r → out-Term e ≡ T.Variants es t.place →
      Spells (term exp4) (t ∷ l ∷ ts) e rest
  projection : {ts rest d t e a x p : _} → Spells (term exp5) ts a (d ∷ t ∷ rest) → Is S.Dot d → IsNamed x t → FirstAt ts p →
      out-Term e ≡ T.Proj a x p → Spells (term exp5) ts e rest
  variable : {ts : _} {t : SourceToken} {e x : _} → IsNamed x t → out-Term e ≡ T.Var (Written x) t.place →
      Spells (term exp6) (t ∷ ts) e ts
  literal : {ts : _} {t : SourceToken} {e x : _} → IsQuoted x t → out-Term e ≡ T.Lit x t.place →
      Spells (term exp6) (t ∷ ts) e ts
  literal_in_brackets : {ts : _} {l : SourceToken} {t r e x : _} → Is S.LeftBracket l → IsQuoted x t → Is S.RightBracket r →
      out-Term e ≡ T.Lit x l.place → Spells (term exp6) (l ∷ t ∷ r ∷ ts) e ts
  number : {ts : _} {t : SourceToken} {e n : _} → IsNumber n t → out-Term e ≡ T.Num n t.place → Spells (term exp6) (t ∷ ts) e ts
  no_words : {ts : _} {l : SourceToken} {r e : _} → Is S.LeftBracket l → Is S.RightBracket r → out-Term e ≡ T.Empty l.place →
      Spells (term exp6) (l ∷ r ∷ ts) e ts
  list_category : {ts : _} {l : SourceToken} {t r e x : _} → Is S.LeftBracket l → IsNamed x t → Is S.RightBracket r →
      out-Term e ≡ T.ListCat (Written x) l.place → Spells (term exp6) (l ∷ t ∷ r ∷ ts) e ts
  sort : {ts : _} {t : SourceToken} {e w s : _} → SortWord w s → IsReserved w t → out-Term e ≡ T.Sort s t.place →
      Spells (term exp6) (t ∷ ts) e ts
  fields : {ts rest : _} {t : SourceToken} {u e ls : _} → Is S.LeftBrace t → Spells (semicolons local) ts ls (u ∷ rest) →
      Is S.RightBrace u → are_fields ls ≡ true → out-Term e ≡ T.Fields ls t.place → Spells (term exp6) (t ∷ ts) e rest
  tuple : {ts rest : _} {t : SourceToken} {u e es : _} → Is S.Less t → Spells (listed S.Comma (term exp)) ts es (u ∷ rest) →
      Is S.Greater u → out-Term e ≡ T.Tuple es t.place → Spells (term exp6) (t ∷ ts) e rest
  typed : {ts us rest : _} {t : SourceToken} {c u e a b : _} → Is S.Less t → Spells (term exp) ts a (c ∷ us) → Is S.Colon c →
      Spells (term exp) us b (u ∷ rest) → Is S.Greater u → out-Term e ≡ T.Typed a b t.place → Spells (term exp6) (t ∷ ts) e rest
  in_parentheses : {ts rest t u e : _} → Is S.LeftParenthesis t → Spells (term exp) ts e (u ∷ rest) → Is S.RightParenthesis u →
      Spells (term exp6) (t ∷ ts) e rest
  local_value : {ts us rest t xs e : _} → Spells (listed S.Comma name) ts xs (t ∷ us) → Is S.Equals t →
      Spells (term exp) us e rest → Spells local ts (Value xs e) rest
  local_type : {ts us rest t xs a : _} → Spells (listed S.Comma name) ts xs (t ∷ us) → Is S.Colon t →
      Spells (term exp) us a rest → Spells local ts (Label xs a) rest
  typed_local : {ts us vs rest t u xs a e : _} → Spells (listed S.Comma name) ts xs (t ∷ us) → Is S.Colon t →
      Spells (term exp) us a (u ∷ vs) → Is S.Equals u → Spells (term exp) vs e rest → Spells local ts (TypedValue xs a e) rest
  a_branch : {ts us rest t p e : _} → Spells (pattern patt) ts p (t ∷ us) → Is S.DoubleArrow t → Spells (term exp) us e rest →
      Spells branch ts (record { pattern = p; body = e }) rest
  an_alternative : {ts us vs rest t u xs a e : _} → Spells (listed S.Comma name) ts xs (t ∷ us) → Is S.Colon t →
      Spells (term exp) us a (u ∷ vs) → Is S.Equals u → Spells (term exp) vs e rest →
      Spells alternative ts (record { names = xs; of_type = a; value = e }) rest
  with_variables : {ts us rest t c d xs a : _} → Is S.LeftParenthesis t → Spells (listed S.Comma bind) ts xs (c ∷ us) →
      Is S.Colon c → Spells (term exp) us a (d ∷ rest) → Is S.RightParenthesis d →
      Spells context (t ∷ ts) (record { binds = xs; of_type = a }) rest
  without_variables : {ts rest a : _} → Spells (term exp6) ts a rest →
      Spells context ts (record { binds = []; of_type = a }) rest
  a_constructor : {ts rest t x cs : _} → IsNamed x t → Spells (many context) ts cs rest →
      Spells constructor (t ∷ ts) (record { name = placed x t; arguments = cs }) rest
  infix_pattern : {ts us rest t r p q a i j k s form : _} → InfixPattern i j s k form → Spells (pattern j) ts p (t ∷ us) →
      Is s t → Spells (pattern k) us q rest → FirstAt ts a → out-Pattern r ≡ form p q a → Spells (pattern i) ts r rest
  tighter_pattern : {ts rest r i j : _} → TighterPattern i j → Spells (pattern j) ts r rest → Spells (pattern i) ts r rest
  constructor_with : {ts rest : _} {t : SourceToken} {x r p ps : _} → IsNamed x t →
      Spells (many (pattern patt4)) ts (p ∷ ps) rest → out-Pattern r ≡ P.Con None (Written x) (p ∷ ps) t.place →
      Spells (pattern patt2) (t ∷ ts) r rest
  constructor_of : {ts rest : _} {t : SourceToken} {d u Q x r ps : _} → IsNamed Q t → Is S.Dot d → IsNamed x u →
      Spells (many (pattern patt4)) ts ps rest → out-Pattern r ≡ P.Con (Some Q) (Written x) ps t.place →
      Spells (pattern patt2) (t ∷ d ∷ u ∷ ts) r rest
  star : {ts rest t r p a : _} → Spells (pattern patt4) ts p (t ∷ rest) → Is S.Star t → FirstAt ts a →
      out-Pattern r ≡ P.Star p a → Spells (pattern patt3) ts r rest
  as_pattern : {ts rest : _} {t : SourceToken} {u x r p : _} → IsNamed x t → Is S.At u → Spells (pattern patt4) ts p rest →
      out-Pattern r ≡ P.As x p t.place → Spells (pattern patt3) (t ∷ u ∷ ts) r rest
  anything : {ts : _} {t : SourceToken} {r : _} → Is S.Underscore t → out-Pattern r ≡ P.Any t.place →
      Spells (pattern patt4) (t ∷ ts) r ts
  character : {ts : _} {t : SourceToken} {r : _} → Is S.Question t → out-Pattern r ≡ P.One t.place →
      Spells (pattern patt4) (t ∷ ts) r ts
  named_pattern : {ts : _} {t : SourceToken} {x r : _} → IsNamed x t → out-Pattern r ≡ P.Name (Written x) t.place →
      Spells (pattern patt4) (t ∷ ts) r ts
  text_pattern : {ts : _} {t : SourceToken} {x r : _} → IsQuoted x t → out-Pattern r ≡ P.Text x t.place →
      Spells (pattern patt4) (t ∷ ts) r ts
  number_pattern : {ts : _} {t : SourceToken} {n r : _} → IsNumber n t → out-Pattern r ≡ P.Num n t.place →
      Spells (pattern patt4) (t ∷ ts) r ts
  record_pattern : {ts rest : _} {t : SourceToken} {u r fs : _} → Is S.LeftBrace t → Spells (semicolons field) ts fs (u ∷ rest) →
      Is S.RightBrace u → distinct (flat_map (λ f. f.labels) fs) ≡ true → out-Pattern r ≡ P.Fields fs t.place →
      Spells (pattern patt4) (t ∷ ts) r rest
  tuple_pattern : {ts rest : _} {t : SourceToken} {u r ps : _} → Is S.Less t →
      Spells (listed S.Comma (pattern patt)) ts ps (u ∷ rest) → Is S.Greater u → out-Pattern r ≡ P.Tuple ps t.place →
      Spells (pattern patt4) (t ∷ ts) r rest
  pattern_in_parentheses : {ts rest t u r : _} → Is S.LeftParenthesis t → Spells (pattern patt) ts r (u ∷ rest) →
      Is S.RightParenthesis u → Spells (pattern patt4) (t ∷ ts) r rest
  a_field : {ts us rest t xs p : _} → Spells (listed S.Comma name) ts xs (t ∷ us) → Is S.Equals t →
      Spells (pattern patt) us p rest → Spells field ts (record { labels = xs; pattern = p }) rest
  whole : {ts t x : _} → IsNamed x t → Spells inherited (t ∷ ts) (Whole (placed x t)) ts
  only : {ts rest t l r x ns : _} → IsNamed x t → Is S.LeftBracket l → Spells (listed S.Comma placed_name) ts ns (r ∷ rest) →
      Is S.RightBracket r → Spells inherited (t ∷ l ∷ ts) (Only (placed x t) ns) rest
  except : {ts rest t m l r x ns : _} → IsNamed x t → Is S.Minus m → Is S.LeftBracket l →
      Spells (listed S.Comma placed_name) ts ns (r ∷ rest) → Is S.RightBracket r →
      Spells inherited (t ∷ m ∷ l ∷ ts) (Except (placed x t) ns) rest
  plainly : {ts t x : _} → IsNamed x t → Spells opened (t ∷ ts) (Plain (placed x t)) ts
  by_alias : {ts l s e t r q x : _} → Is S.LeftParenthesis l → IsNamed q s → Is S.Equals e → IsNamed x t →
      Is S.RightParenthesis r → Spells opened (l ∷ s ∷ e ∷ t ∷ r ∷ ts) (Qualified (placed q s) (placed x t)) ts
  instance_of : {ts l s e t r i j : _} → Is S.LeftParenthesis l → IsNamed i s → Is S.Equals e → IsNamed j t →
      Is S.RightParenthesis r →
      Spells substitution (l ∷ s ∷ e ∷ t ∷ r ∷ ts) (record { interface = placed i s; instance = placed j t }) ts

-- a form that is at the place of the first token
at_first : {A : Type 0} (make : Place → A) {x : A} {q p : Place} → Some q ≡ Some p → x ≡ make p → x ≡ make q
at_first make {q = q} {p = p} first is = let same : q ≡ p = cc in is ∙ ap make (sym same)

abbrev named : List ℕ → Place → PlacedName
named x p = record { name = x; place = p }

abbrev named_list : List ℕ → Place → PlacedName
named_list x p = record { name = list_name x; place = p }

-- terms and patterns of one layer
same_term : {e f : Term} → out-Term e ≡ out-Term f → e ≡ f
same_term {e} {f} h = sym (roll-out-Term e) ∙ ap roll-Term h ∙ roll-out-Term f

same_pattern : {p q : Pattern} → out-Pattern p ≡ out-Pattern q → p ≡ q
same_pattern {p} {q} h = sym (roll-out-Pattern p) ∙ ap roll-Pattern h ∙ roll-out-Pattern q

-- the tokens spell what is equal
same_meaning : {g : Part} {ts rest : Tokens} {a b : Meaning g} → a ≡ b → Spells g ts b rest → Spells g ts a rest
same_meaning {g} {ts} {rest} e d = subst (λ x. Spells g ts x rest) (sym e) d

-- pieces whose parts the rules spell
data SpelledPieces : (g : Part) (ps : List Piece) → Maker g ps → Place → Tokens → Layer g → Tokens → Type 0 where
  no_piece : {g : Part} {p : Place} {ts : Tokens} {l : Layer g} {make : Maker g []} → l ≡ make p
      → SpelledPieces g [] make p ts l ts
  next_symbol : {g : Part} {s : Sign} {ps : List Piece} {make : Maker g ps} {p : Place} {t : SourceToken} {ts rest : Tokens}
      {l : Layer g} →
      Is s t → SpelledPieces g ps make p ts l rest → SpelledPieces g (symbol s ∷ ps) make p (t ∷ ts) l rest
  next_word : {g : Part} {w : Word} {ps : List Piece} {make : Maker g ps} {p : Place} {t : SourceToken} {ts rest : Tokens} {l
      : Layer g} →
      IsReserved w t → SpelledPieces g ps make p ts l rest → SpelledPieces g (word w ∷ ps) make p (t ∷ ts) l rest
  next_part : {g h : Part} {ps : List Piece} {p : Place} {ts us rest : Tokens} {a : Meaning h} {l : Layer g} {make : Maker g
      (part h ∷ ps)} →
      Spells h ts a us → SpelledPieces g ps (make a) p us l rest → SpelledPieces g (part h ∷ ps) make p ts l rest
  next_identifier : {g : Part} {ps : List Piece} {p : Place} {t : SourceToken} {ts rest : Tokens} {x : List ℕ} {l : Layer g}
      {make : Maker g (identifier ∷ ps)} → IsNamed x t → SpelledPieces g ps (make x) p ts l rest →
      SpelledPieces g (identifier ∷ ps) make p (t ∷ ts) l rest
  next_number : {g : Part} {ps : List Piece} {p : Place} {t : SourceToken} {ts rest : Tokens} {n : ℕ} {l : Layer g}
      {make : Maker g (numeral ∷ ps)} → IsNumber n t → SpelledPieces g ps (make n) p ts l rest →
      SpelledPieces g (numeral ∷ ps) make p (t ∷ ts) l rest
  next_text : {g : Part} {ps : List Piece} {p : Place} {t : SourceToken} {ts rest : Tokens} {x : List ℕ} {l : Layer g}
      {make : Maker g (text ∷ ps)} → IsQuoted x t → SpelledPieces g ps (make x) p ts l rest →
      SpelledPieces g (text ∷ ps) make p (t ∷ ts) l rest
  next_part_where : {g h : Part} {test : Meaning h → Bool} {ps : List Piece} {p : Place} {ts us rest : Tokens} {a : Meaning h}
      {l : Layer g}
      {make : Maker g (part_where h test ∷ ps)} → Spells h ts a us → test a ≡ true → SpelledPieces g ps (make a) p us l rest →
      SpelledPieces g (part_where h test ∷ ps) make p ts l rest

by_exp : {ps : List Piece} {make : Maker (term exp) ps} {p : Place} {ts rest : Tokens} {a : Meaning (term exp)}
    → Form (term exp) ps make → FirstAt ts p
    → SpelledPieces (term exp) ps make p ts (out-Term a) rest → Spells (term exp) ts a rest
by_exp F.below_exp first (next_part d (no_piece is)) = same_meaning (same_term is) (tighter_term below_exp d)
by_exp F.alternatives first (next_part {a = v0} d0 (next_symbol h1 (next_part {a = v2} d2 (no_piece is)))) =
    infix_term alternatives d0 h1 d2 first is
by_exp F.table_type first (next_part {a = v0} d0 (next_symbol h1 (next_part {a = v2} d2 (no_piece is)))) =
    infix_term table_type d0 h1 d2 first is
by_exp F.function_type first (next_part {a = v0} d0 (next_symbol h1 (next_part {a = v2} d2 (no_piece is)))) =
    infix_term function_type d0 h1 d2 first is
by_exp F.function_type_of first (next_symbol h0
    (next_part {a = v1} d1 (next_symbol h2 (next_part {a = v3} d3 (next_symbol h4 (next_symbol h5 (next_part {a = v6} d6 (no_piece is)))))))) =
    arrow_from h0 d1 h2 d3 h4 h5 d6 (at_first (T.Arrow v1 v3 v6) first is)
by_exp F.function first (next_symbol h0 (next_part {a = v1} d1 (next_symbol h2 (next_part {a = v3} d3 (no_piece is))))) =
    lambda of_function h0 d1 h2 d3 (at_first (T.Fun v1 v3) first is)
by_exp F.table_function first (next_symbol h0 (next_part {a = v1} d1 (next_symbol h2 (next_part {a = v3} d3 (no_piece is))))) =
    lambda of_table h0 d1 h2 d3 (at_first (T.TabFun v1 v3) first is)
by_exp F.let_in first (next_word h0 (next_part_where {a = v1} d1 c1 (next_word h2 (next_part {a = v3} d3 (no_piece is))))) =
    let_in h0 d1 h2 c1 d3 (at_first (T.Let v1 v3) first is)
by_exp F.let_braces first (next_word h0 (next_symbol h1
    (next_part_where {a = v2} d2 c2 (next_symbol h3 (next_word h4 (next_part {a = v5} d5 (no_piece is))))))) =
    let_braces h0 h1 d2 h3 h4 c2 d5 (at_first (T.Let v2 v5) first is)
by_exp F.where_locals first
    (next_part {a = v0} d0 (next_word h1 (next_symbol h2 (next_part_where {a = v3} d3 c3 (next_symbol h4 (no_piece is)))))) =
    where_locals d0 h1 h2 d3 h4 c3 first is

by_exp1 : {ps : List Piece} {make : Maker (term exp1) ps} {p : Place} {ts rest : Tokens} {a : Meaning (term exp1)}
    → Form (term exp1) ps make → FirstAt ts p
    → SpelledPieces (term exp1) ps make p ts (out-Term a) rest → Spells (term exp1) ts a rest
by_exp1 F.below_exp1 first (next_part d (no_piece is)) = same_meaning (same_term is) (tighter_term below_exp1 d)
by_exp1 F.append first (next_part {a = v0} d0 (next_symbol h1 (next_part {a = v2} d2 (no_piece is)))) =
    infix_term append d0 h1 d2 first is

by_exp2 : {ps : List Piece} {make : Maker (term exp2) ps} {p : Place} {ts rest : Tokens} {a : Meaning (term exp2)}
    → Form (term exp2) ps make → FirstAt ts p
    → SpelledPieces (term exp2) ps make p ts (out-Term a) rest → Spells (term exp2) ts a rest
by_exp2 F.below_exp2 first (next_part d (no_piece is)) = same_meaning (same_term is) (tighter_term below_exp2 d)
by_exp2 F.glue first (next_part {a = v0} d0 (next_symbol h1 (next_part {a = v2} d2 (no_piece is)))) =
    infix_term glue d0 h1 d2 first is

by_exp3 : {ps : List Piece} {make : Maker (term exp3) ps} {p : Place} {ts rest : Tokens} {a : Meaning (term exp3)}
    → Form (term exp3) ps make → FirstAt ts p
    → SpelledPieces (term exp3) ps make p ts (out-Term a) rest → Spells (term exp3) ts a rest
by_exp3 F.below_exp3 first (next_part d (no_piece is)) = same_meaning (same_term is) (tighter_term below_exp3 d)
by_exp3 F.selection first (next_part {a = v0} d0 (next_symbol h1 (next_part {a = v2} d2 (no_piece is)))) =
    infix_term selection d0 h1 d2 first is
by_exp3 F.extension first (next_part {a = v0} d0 (next_symbol h1 (next_part {a = v2} d2 (no_piece is)))) =
    infix_term extension d0 h1 d2 first is
by_exp3 F.pair first (next_part {a = v0} d0 (next_symbol h1 (next_part {a = v2} d2 (no_piece is)))) =
    infix_term pair d0 h1 d2 first is
by_exp3 F.table first (next_word h0 (next_symbol h1 (next_part {a = v2} d2 (next_symbol h3 (no_piece is))))) =
    table h0 h1 d2 h3 (at_first (T.TableOf None v2) first is)
by_exp3 F.table_over first (next_word h0
    (next_part {a = v1} d1 (next_symbol h2 (next_part {a = v3} d3 (next_symbol h4 (no_piece is)))))) =
    table_over h0 d1 h2 d3 h4 (at_first (T.TableOf (Some v1) v3) first is)
by_exp3 F.table_list first (next_word h0
    (next_part {a = v1} d1 (next_symbol h2 (next_part {a = v3} d3 (next_symbol h4 (no_piece is)))))) =
    table_list h0 d1 h2 d3 h4 (at_first (T.TableList v1 v3) first is)

by_exp4 : {ps : List Piece} {make : Maker (term exp4) ps} {p : Place} {ts rest : Tokens} {a : Meaning (term exp4)}
    → Form (term exp4) ps make → FirstAt ts p
    → SpelledPieces (term exp4) ps make p ts (out-Term a) rest → Spells (term exp4) ts a rest
by_exp4 F.below_exp4 first (next_part d (no_piece is)) = same_meaning (same_term is) (tighter_term below_exp4 d)
by_exp4 F.application first (next_part {a = v0} d0 (next_part {a = v1} d1 (no_piece is))) =
    application d0 d1 first is
by_exp4 F.case_of first (next_word h0
    (next_part {a = v1} d1 (next_word h2 (next_symbol h3 (next_part {a = v4} d4 (next_symbol h5 (no_piece is))))))) =
    case_of h0 d1 h2 h3 d4 h5 (at_first (T.CaseOf v1 v4) first is)
by_exp4 F.variants first (next_word h0 (next_symbol h1 (next_part {a = v2} d2 (next_symbol h3 (no_piece is))))) =
    variants h0 h1 d2 h3 (at_first (T.Variants v2) first is)

by_exp5 : {ps : List Piece} {make : Maker (term exp5) ps} {p : Place} {ts rest : Tokens} {a : Meaning (term exp5)}
    → Form (term exp5) ps make → FirstAt ts p
    → SpelledPieces (term exp5) ps make p ts (out-Term a) rest → Spells (term exp5) ts a rest
by_exp5 F.below_exp5 first (next_part d (no_piece is)) = same_meaning (same_term is) (tighter_term below_exp5 d)
by_exp5 F.projection first (next_part {a = v0} d0 (next_symbol h1 (next_identifier {x = v2} h2 (no_piece is)))) =
    projection d0 h1 h2 first is

by_exp6 : {ps : List Piece} {make : Maker (term exp6) ps} {p : Place} {ts rest : Tokens} {a : Meaning (term exp6)}
    → Form (term exp6) ps make → FirstAt ts p
    → SpelledPieces (term exp6) ps make p ts (out-Term a) rest → Spells (term exp6) ts a rest
by_exp6 F.in_parentheses first (next_symbol h (next_part d (next_symbol i (no_piece is)))) =
    same_meaning (same_term is) (in_parentheses h d i)
by_exp6 F.variable first (next_identifier {x = v0} h0 (no_piece is)) =
    variable h0 (at_first (T.Var (Written v0)) first is)
by_exp6 F.literal first (next_text {x = v0} h0 (no_piece is)) =
    literal h0 (at_first (T.Lit v0) first is)
by_exp6 F.literal_in_brackets first (next_symbol h0 (next_text {x = v1} h1 (next_symbol h2 (no_piece is)))) =
    literal_in_brackets h0 h1 h2 (at_first (T.Lit v1) first is)
by_exp6 F.a_number first (next_number {n = v0} h0 (no_piece is)) =
    number h0 (at_first (T.Num v0) first is)
by_exp6 F.no_words first (next_symbol h0 (next_symbol h1 (no_piece is))) =
    no_words h0 h1 (at_first T.Empty first is)
by_exp6 F.list_category first (next_symbol h0 (next_identifier {x = v1} h1 (next_symbol h2 (no_piece is)))) =
    list_category h0 h1 h2 (at_first (T.ListCat (Written v1)) first is)
by_exp6 F.strings first (next_word h0 (no_piece is)) =
    sort strings h0 (at_first (T.Sort Sort-V.Str) first is)
by_exp6 F.types first (next_word h0 (no_piece is)) =
    sort types h0 (at_first (T.Sort Sort-V.TypeSort) first is)
by_exp6 F.parameter_types first (next_word h0 (no_piece is)) =
    sort parameter_types h0 (at_first (T.Sort Sort-V.ParamSort) first is)
by_exp6 F.numbers first (next_word h0 (no_piece is)) =
    sort numbers h0 (at_first (T.Sort Sort-V.Ints) first is)
by_exp6 F.predefined first (next_word h0 (no_piece is)) =
    sort predefined h0 (at_first (T.Sort Sort-V.Predef) first is)
by_exp6 F.a_record first (next_symbol h0 (next_part_where {a = v1} d1 c1 (next_symbol h2 (no_piece is)))) =
    fields h0 d1 h2 c1 (at_first (T.Fields v1) first is)
by_exp6 F.tuple first (next_symbol h0 (next_part {a = v1} d1 (next_symbol h2 (no_piece is)))) =
    tuple h0 d1 h2 (at_first (T.Tuple v1) first is)
by_exp6 F.typed first (next_symbol h0
    (next_part {a = v1} d1 (next_symbol h2 (next_part {a = v3} d3 (next_symbol h4 (no_piece is)))))) =
    typed h0 d1 h2 d3 h4 (at_first (T.Typed v1 v3) first is)

by_patt : {ps : List Piece} {make : Maker (pattern patt) ps} {p : Place} {ts rest : Tokens} {a : Meaning (pattern patt)}
    → Form (pattern patt) ps make → FirstAt ts p
    → SpelledPieces (pattern patt) ps make p ts (out-Pattern a) rest → Spells (pattern patt) ts a rest
by_patt F.below_patt first (next_part d (no_piece is)) = same_meaning (same_pattern is) (tighter_pattern below_patt d)
by_patt F.either first (next_part {a = v0} d0 (next_symbol h1 (next_part {a = v2} d2 (no_piece is)))) =
    infix_pattern either d0 h1 d2 first is

by_patt1 : {ps : List Piece} {make : Maker (pattern patt1) ps} {p : Place} {ts rest : Tokens} {a : Meaning (pattern patt1)} →
    Form (pattern patt1) ps make → FirstAt ts p
    → SpelledPieces (pattern patt1) ps make p ts (out-Pattern a) rest → Spells (pattern patt1) ts a rest
by_patt1 F.below_patt1 first (next_part d (no_piece is)) = same_meaning (same_pattern is) (tighter_pattern below_patt1 d)
by_patt1 F.in_sequence first (next_part {a = v0} d0 (next_symbol h1 (next_part {a = v2} d2 (no_piece is)))) =
    infix_pattern in_sequence d0 h1 d2 first is

by_patt2 : {ps : List Piece} {make : Maker (pattern patt2) ps} {p : Place} {ts rest : Tokens} {a : Meaning (pattern patt2)} →
    Form (pattern patt2) ps make → FirstAt ts p
    → SpelledPieces (pattern patt2) ps make p ts (out-Pattern a) rest → Spells (pattern patt2) ts a rest
by_patt2 F.below_patt2 first (next_part d (no_piece is)) = same_meaning (same_pattern is) (tighter_pattern below_patt2 d)
by_patt2 F.constructor_with first (next_identifier {x = v0} h0 (next_part {a = v1} d1 (next_part {a = v2} d2 (no_piece is)))) =
    constructor_with h0 (some d1 d2) (at_first (P.Con None (Written v0) (v1 ∷ v2)) first is)
by_patt2 F.constructor_of first (next_identifier {x =
    v0} h0 (next_symbol h1 (next_identifier {x = v2} h2 (next_part {a = v3} d3 (no_piece is))))) =
    constructor_of h0 h1 h2 d3 (at_first (P.Con (Some v0) (Written v2) v3) first is)

by_patt3 : {ps : List Piece} {make : Maker (pattern patt3) ps} {p : Place} {ts rest : Tokens} {a : Meaning (pattern patt3)} →
    Form (pattern patt3) ps make → FirstAt ts p
    → SpelledPieces (pattern patt3) ps make p ts (out-Pattern a) rest → Spells (pattern patt3) ts a rest
by_patt3 F.below_patt3 first (next_part d (no_piece is)) = same_meaning (same_pattern is) (tighter_pattern below_patt3 d)
by_patt3 F.star first (next_part {a = v0} d0 (next_symbol h1 (no_piece is))) =
    star d0 h1 first is
by_patt3 F.as_pattern first (next_identifier {x = v0} h0 (next_symbol h1 (next_part {a = v2} d2 (no_piece is)))) =
    as_pattern h0 h1 d2 (at_first (P.As v0 v2) first is)

by_patt4 : {ps : List Piece} {make : Maker (pattern patt4) ps} {p : Place} {ts rest : Tokens} {a : Meaning (pattern patt4)} →
    Form (pattern patt4) ps make → FirstAt ts p
    → SpelledPieces (pattern patt4) ps make p ts (out-Pattern a) rest → Spells (pattern patt4) ts a rest
by_patt4 F.pattern_in_parentheses first (next_symbol h (next_part d (next_symbol i (no_piece is)))) =
    same_meaning (same_pattern is) (pattern_in_parentheses h d i)
by_patt4 F.anything first (next_symbol h0 (no_piece is)) =
    anything h0 (at_first P.Any first is)
by_patt4 F.character first (next_symbol h0 (no_piece is)) =
    character h0 (at_first P.One first is)
by_patt4 F.named_pattern first (next_identifier {x = v0} h0 (no_piece is)) =
    named_pattern h0 (at_first (P.Name (Written v0)) first is)
by_patt4 F.text_pattern first (next_text {x = v0} h0 (no_piece is)) =
    text_pattern h0 (at_first (P.Text v0) first is)
by_patt4 F.number_pattern first (next_number {n = v0} h0 (no_piece is)) =
    number_pattern h0 (at_first (P.Num v0) first is)
by_patt4 F.record_pattern first (next_symbol h0 (next_part_where {a = v1} d1 c1 (next_symbol h2 (no_piece is)))) =
    record_pattern h0 d1 h2 c1 (at_first (P.Fields v1) first is)
by_patt4 F.tuple_pattern first (next_symbol h0 (next_part {a = v1} d1 (next_symbol h2 (no_piece is)))) =
    tuple_pattern h0 d1 h2 (at_first (P.Tuple v1) first is)

by_local : {ps : List Piece} {make : Maker local ps} {p : Place} {ts rest : Tokens} {a : Meaning local}
    → Form local ps make → FirstAt ts p
    → SpelledPieces local ps make p ts (a) rest → Spells local ts a rest
by_local F.local_value first (next_part {a = v0} d0 (next_symbol h1 (next_part {a = v2} d2 (no_piece is)))) =
    same_meaning is (local_value d0 h1 d2)
by_local F.local_type first (next_part {a = v0} d0 (next_symbol h1 (next_part {a = v2} d2 (no_piece is)))) =
    same_meaning is (local_type d0 h1 d2)
by_local F.typed_local first
    (next_part {a = v0} d0 (next_symbol h1 (next_part {a = v2} d2 (next_symbol h3 (next_part {a = v4} d4 (no_piece is)))))) =
    same_meaning is (typed_local d0 h1 d2 h3 d4)

by_branch : {ps : List Piece} {make : Maker branch ps} {p : Place} {ts rest : Tokens} {a : Meaning branch}
    → Form branch ps make → FirstAt ts p
    → SpelledPieces branch ps make p ts (a) rest → Spells branch ts a rest
by_branch F.a_branch first (next_part {a = v0} d0 (next_symbol h1 (next_part {a = v2} d2 (no_piece is)))) =
    same_meaning is (a_branch d0 h1 d2)

by_field : {ps : List Piece} {make : Maker field ps} {p : Place} {ts rest : Tokens} {a : Meaning field}
    → Form field ps make → FirstAt ts p
    → SpelledPieces field ps make p ts (a) rest → Spells field ts a rest
by_field F.a_field first (next_part {a = v0} d0 (next_symbol h1 (next_part {a = v2} d2 (no_piece is)))) =
    same_meaning is (a_field d0 h1 d2)

by_alternative : {ps : List Piece} {make : Maker alternative ps} {p : Place} {ts rest : Tokens} {a : Meaning alternative}
    → Form alternative ps make → FirstAt ts p
    → SpelledPieces alternative ps make p ts (a) rest → Spells alternative ts a rest
by_alternative F.an_alternative first
    (next_part {a = v0} d0 (next_symbol h1 (next_part {a = v2} d2 (next_symbol h3 (next_part {a = v4} d4 (no_piece is)))))) =
    same_meaning is (an_alternative d0 h1 d2 h3 d4)

by_context : {ps : List Piece} {make : Maker context ps} {p : Place} {ts rest : Tokens} {a : Meaning context}
    → Form context ps make → FirstAt ts p
    → SpelledPieces context ps make p ts (a) rest → Spells context ts a rest
by_context F.with_variables first (next_symbol h0
    (next_part {a = v1} d1 (next_symbol h2 (next_part {a = v3} d3 (next_symbol h4 (no_piece is)))))) =
    same_meaning is (with_variables h0 d1 h2 d3 h4)
by_context F.without_variables first (next_part {a = v0} d0 (no_piece is)) =
    same_meaning is (without_variables d0)

by_constructor : {ps : List Piece} {make : Maker constructor ps} {p : Place} {ts rest : Tokens} {a : Meaning constructor}
    → Form constructor ps make → FirstAt ts p
    → SpelledPieces constructor ps make p ts (a) rest → Spells constructor ts a rest
by_constructor F.a_constructor first (next_part (a_placed_name h0) (next_part {a = v1} d1 (no_piece is))) =
    same_meaning is (a_constructor h0 d1)

by_name : {ps : List Piece} {make : Maker name ps} {p : Place} {ts rest : Tokens} {a : Meaning name} → Form name ps make
    → FirstAt ts p
    → SpelledPieces name ps make p ts (a) rest → Spells name ts a rest
by_name F.a_name first (next_identifier {x = v0} h0 (no_piece is)) =
    same_meaning is (a_name h0)

by_bind : {ps : List Piece} {make : Maker bind ps} {p : Place} {ts rest : Tokens} {a : Meaning bind} → Form bind ps make
    → FirstAt ts p
    → SpelledPieces bind ps make p ts (a) rest → Spells bind ts a rest
by_bind F.a_variable first (next_identifier {x = v0} h0 (no_piece is)) =
    same_meaning (at_first (Variable v0) first is) (a_variable h0)
by_bind F.no_variable first (next_symbol h0 (no_piece is)) =
    same_meaning (at_first Nothing first is) (no_variable h0)

by_placed_name : {ps : List Piece} {make : Maker placed_name ps} {p : Place} {ts rest : Tokens} {a : Meaning placed_name}
    → Form placed_name ps make → FirstAt ts p
    → SpelledPieces placed_name ps make p ts (a) rest → Spells placed_name ts a rest
by_placed_name F.a_placed_name first (next_identifier {x = v0} h0 (no_piece is)) =
    same_meaning (at_first (named v0) first is) (a_placed_name h0)

by_category_name : {ps : List Piece} {make : Maker category_name ps} {p : Place} {ts rest : Tokens} {a : Meaning
    category_name} → Form category_name ps make → FirstAt ts p
    → SpelledPieces category_name ps make p ts (a) rest → Spells category_name ts a rest
by_category_name F.category_alone first (next_identifier {x = v0} h0 (no_piece is)) =
    same_meaning (at_first (named v0) first is) (category_alone h0)
by_category_name F.category_of_lists first (next_symbol h0 (next_identifier {x = v1} h1 (next_symbol h2 (no_piece is)))) =
    same_meaning (at_first (named_list v1) first is) (category_of_lists h0 h1 h2)

by_inherited : {ps : List Piece} {make : Maker inherited ps} {p : Place} {ts rest : Tokens} {a : Meaning inherited}
    → Form inherited ps make → FirstAt ts p
    → SpelledPieces inherited ps make p ts (a) rest → Spells inherited ts a rest
by_inherited F.whole first (next_part (a_placed_name h0) (no_piece is)) =
    same_meaning is (whole h0)
by_inherited F.only first (next_part (a_placed_name h0) (next_symbol h1 (next_part {a = v2} d2 (next_symbol h3 (no_piece is))))) =
    same_meaning is (only h0 h1 d2 h3)
by_inherited F.except first (next_part (a_placed_name h0) (next_symbol h1 (next_symbol h2
    (next_part {a = v3} d3 (next_symbol h4 (no_piece is)))))) =
    same_meaning is (except h0 h1 h2 d3 h4)

by_opened : {ps : List Piece} {make : Maker opened ps} {p : Place} {ts rest : Tokens} {a : Meaning opened}
    → Form opened ps make → FirstAt ts p
    → SpelledPieces opened ps make p ts (a) rest → Spells opened ts a rest
by_opened F.plainly first (next_part (a_placed_name h0) (no_piece is)) =
    same_meaning is (plainly h0)
by_opened F.by_alias first (next_symbol h0 (next_part (a_placed_name h1) (next_symbol h2 (next_part (a_placed_name h3)
    (next_symbol h4 (no_piece is)))))) =
    same_meaning is (by_alias h0 h1 h2 h3 h4)

by_substitution : {ps : List Piece} {make : Maker substitution ps} {p : Place} {ts rest : Tokens} {a : Meaning substitution} →
    Form substitution ps make → FirstAt ts p
    → SpelledPieces substitution ps make p ts (a) rest → Spells substitution ts a rest
by_substitution F.instance_of first (next_symbol h0 (next_part (a_placed_name h1) (next_symbol h2 (next_part (a_placed_name
    h3) (next_symbol h4 (no_piece is)))))) =
    same_meaning is (instance_of h0 h1 h2 h3 h4)

by_any : (g : Part) {ps : List Piece} {make : Maker g ps} {p : Place} {ts rest : Tokens} {a : Meaning g} → Form g ps make
    → FirstAt ts p
    → SpelledPieces g ps make p ts (layer g a) rest → Spells g ts a rest
by_any (term exp) f first d = by_exp f first d
by_any (term exp1) f first d = by_exp1 f first d
by_any (term exp2) f first d = by_exp2 f first d
by_any (term exp3) f first d = by_exp3 f first d
by_any (term exp4) f first d = by_exp4 f first d
by_any (term exp5) f first d = by_exp5 f first d
by_any (term exp6) f first d = by_exp6 f first d
by_any (pattern patt) f first d = by_patt f first d
by_any (pattern patt1) f first d = by_patt1 f first d
by_any (pattern patt2) f first d = by_patt2 f first d
by_any (pattern patt3) f first d = by_patt3 f first d
by_any (pattern patt4) f first d = by_patt4 f first d
by_any local f first d = by_local f first d
by_any branch f first d = by_branch f first d
by_any field f first d = by_field f first d
by_any alternative f first d = by_alternative f first d
by_any context f first d = by_context f first d
by_any constructor f first d = by_constructor f first d
by_any name f first d = by_name f first d
by_any bind f first d = by_bind f first d
by_any placed_name f first d = by_placed_name f first d
by_any category_name f first d = by_category_name f first d
by_any inherited f first d = by_inherited f first d
by_any opened f first d = by_opened f first d
by_any substitution f first d = by_substitution f first d
by_any (listed s g) f first d = elim f [ ]
by_any (semicolons g) f first d = elim f [ ]
by_any (many g) f first d = elim f [ ]

mutual
  -- what the table spells, the rules spell
  pub ruled : {g : Part} {ts rest : Tokens} {a : Meaning g} → F.Spells g ts a rest → Spells g ts a rest
  ruled {g} (F.by_form f first ps) = by_any g f first (ruled_pieces ps)
  ruled (F.one d) = one (ruled d)
  ruled (F.more d h e) = more (ruled d) h (ruled e)
  ruled F.empty = empty
  ruled (F.last d) = last (ruled d)
  ruled (F.next d h e) = next (ruled d) h (ruled e)
  ruled F.none = none
  ruled (F.some d e) = some (ruled d) (ruled e)

  ruled_pieces : {g : Part} {ps : List Piece} {make : Maker g ps} {p : Place} {ts rest : Tokens} {l : Layer g}
      → F.SpellsPieces g ps make p ts l rest
      → SpelledPieces g ps make p ts l rest
  ruled_pieces (F.no_piece e) = no_piece e
  ruled_pieces (F.next_symbol h ps) = next_symbol h (ruled_pieces ps)
  ruled_pieces (F.next_word h ps) = next_word h (ruled_pieces ps)
  ruled_pieces (F.next_part d ps) = next_part (ruled d) (ruled_pieces ps)
  ruled_pieces (F.next_identifier h ps) = next_identifier h (ruled_pieces ps)
  ruled_pieces (F.next_number h ps) = next_number h (ruled_pieces ps)
  ruled_pieces (F.next_text h ps) = next_text h (ruled_pieces ps)
  ruled_pieces (F.next_part_where d e ps) = next_part_where (ruled d) e (ruled_pieces ps)
