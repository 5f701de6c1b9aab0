-- Slices of a body, and which tokens spell a judgement, a header and a module.
use Rattle.std.specs.Prelude.{◌≡◌, ℕ, ◌≤◌, List, [], ◌∷◌, ◌++◌, Option, Some, None}
use Rattle.gft_syntax.specs.declared.bind.Bind.{Bind}
use Rattle.gft_syntax.specs.declared.judgement.Definition.{Definition}
use Rattle.gft_syntax.specs.declared.judgement.Definition.TheVariants as D
use Rattle.gft_syntax.specs.declared.judgement.Judgement.{Judgement}
use Rattle.gft_syntax.specs.declared.judgement.Judgement.TheVariants as J
use Rattle.gft_syntax.specs.declared.judgement.Keyword.{Keyword}
use Rattle.gft_syntax.specs.declared.judgement.Keyword.TheVariants as K
use Rattle.gft_syntax.specs.declared.judgement.Setting.{Setting}
use Rattle.gft_syntax.specs.declared.judgement.Setting.TheVariants as V
use Rattle.gft_syntax.specs.declared.module.Body.{Body}
use Rattle.gft_syntax.specs.declared.module.Header.{Header}
use Rattle.gft_syntax.specs.declared.module.Header.TheVariants as H
use Rattle.gft_syntax.specs.declared.module.Inherited.{Inherited}
use Rattle.gft_syntax.specs.declared.module.Module.{Module}
use Rattle.gft_syntax.specs.declared.module.Rest.{Rest}
use Rattle.gft_syntax.specs.declared.module.Rest.TheVariants.{Own, Inherits, With}
use Rattle.gft_syntax.specs.declared.reference.PlacedName.{PlacedName}
use Rattle.gft_syntax.specs.declared.reference.Reference.TheVariants.{Written}
use Rattle.gft_syntax.specs.declared.term.Term.{Term}
use Rattle.gft_syntax.specs.declared.token.Reserved.TheVariants as W
use Rattle.gft_syntax.specs.declared.token.Reserved.{Reserved as Word}
use Rattle.gft_syntax.specs.declared.token.SourceToken.{SourceToken}
use Rattle.gft_syntax.specs.declared.token.Symbol.TheVariants as S
use Rattle.gft_syntax.specs.declared.token.TokenForm.{TokenForm}
use Rattle.gft_syntax.specs.declared.token.TokenForm.TheVariants.{Reserved, Symbol}
use Rattle.gft_model.specs.Grammar.{Tokens, Is, IsReserved, IsNamed, IsNumber, IsQuoted, placed, Spells, term, exp, alternative, context, constructor, bind, placed_name, category_name, inherited, opened, substitution, listed, semicolons, many}

-- what is open in a body besides its own brace: a bracket of any kind, or a let
pub data Opening : Type 0 where
  bracket local : Opening

-- a closing bracket closes the innermost bracket, and the lets within it; None where no bracket is open
abbrev pub closed : List Opening → Option (List Opening)
closed [] = None
closed (bracket ∷ os) = Some os
closed (local ∷ os) = closed os

-- an in ends the innermost let, also from within brackets that were opened after it
abbrev pub let_ended : List Opening → List Opening
let_ended [] = []
let_ended (local ∷ os) = os
let_ended (bracket ∷ os) = bracket ∷ let_ended os

-- what a token is to the cutting of a body
pub data Mark : Type 0 where
  opening closing_brace closing let_word in_word semicolon other : Mark

-- what a form of a token is to it
abbrev pub mark_of : TokenForm → Mark
mark_of (Symbol S.LeftBrace) = opening
mark_of (Symbol S.LeftParenthesis) = opening
mark_of (Symbol S.LeftBracket) = opening
mark_of (Symbol S.RightBrace) = closing_brace
mark_of (Symbol S.RightParenthesis) = closing
mark_of (Symbol S.RightBracket) = closing
mark_of (Symbol S.Semicolon) = semicolon
mark_of (Reserved W.Let) = let_word
mark_of (Reserved W.InWord) = in_word
mark_of t = other

-- the slice that is held becomes the next one
abbrev pub next_slice : Tokens → List Tokens × Option Tokens → List Tokens × Option Tokens
next_slice held others = (held ∷ others.0, others.1)

-- a body's slices, cut at each semicolon outside all brackets and lets, and the tokens after the
-- body's brace; None where that does not come
abbrev pub slices_from : List Opening → Tokens → Tokens → List Tokens × Option Tokens
slices_from os held [] = (held ∷ [], None)
slices_from os held (t ∷ ts) =
    elim (mark_of t.form) [
      | opening ↦ slices_from (bracket ∷ os) (held ++ t ∷ []) ts
      | closing_brace ↦ elim (closed os)
          [ None ↦ (held ∷ [], Some ts) | Some rest ↦ slices_from rest (held ++ t ∷ []) ts ]
      | closing ↦ elim (closed os)
          [ None ↦ slices_from os (held ++ t ∷ []) ts | Some rest ↦ slices_from rest (held ++ t ∷ []) ts ]
      | let_word ↦ slices_from (local ∷ os) (held ++ t ∷ []) ts
      | in_word ↦ slices_from (let_ended os) (held ++ t ∷ []) ts
      | semicolon ↦ elim os
          [ [] ↦ next_slice held (slices_from [] [] ts) | o ∷ rest ↦ slices_from (o ∷ rest) (held ++ t ∷ []) ts ]
      | other ↦ slices_from os (held ++ t ∷ []) ts
    ]

-- the slices of a body from behind its brace, and the tokens after it
abbrev pub slices_of : Tokens → List Tokens × Option Tokens
slices_of ts = slices_from [] [] ts

-- a definition, to the end of the slice
pub data SpellsDefinition : Tokens → Definition → Type 0 where
  by_term : {ts e : _} → Spells (term exp) ts e [] → SpellsDefinition ts (D.Term e)
  by_overload : {ts o l r ds : _} → IsReserved W.Overload o → Is S.LeftBrace l → Spells (semicolons alternative) ts ds (r ∷ []) →
      Is S.RightBrace r → SpellsDefinition (o ∷ l ∷ ts) (D.Overload ds)

-- the value of a flag, to the end of the slice
pub data SpellsSetting : SourceToken → Setting → Type 0 where
  to_name : {x t : _} → IsNamed x t → SpellsSetting t (V.Name x)
  to_number : {n t : _} → IsNumber n t → SpellsSetting t (V.Number n)
  to_text : {x t : _} → IsQuoted x t → SpellsSetting t (V.Text x)

-- the greatest number of elements that a list category may ask for
abbrev pub most_elements : ℕ
most_elements = 16

-- the keywords of terms of linearization
pub data Linearization : Keyword → (List PlacedName → List Bind → Term → Judgement) → Type 0 where
  of_function : Linearization K.Lin J.Lin
  of_hole : Linearization K.Lindef J.Lindef
  of_string : Linearization K.Linref J.Linref

-- the tokens after a keyword are the judgement
pub data SpellsJudgement : Keyword → Tokens → Judgement → Type 0 where
  category : {x t ts cs : _} → IsNamed x t → Spells (many context) ts cs [] →
      SpellsJudgement K.Cat (t ∷ ts) (J.Cat (placed x t) cs)
  list_category : {x : _} {l : SourceToken} {t r : _} → Is S.LeftBracket l → IsNamed x t → Is S.RightBracket r →
      SpellsJudgement K.Cat (l ∷ t ∷ r ∷ []) (J.ListCat (placed x t) (Written x) 0 l.place)
  list_category_of : {x k : _} {l : SourceToken} {t r b n c : _} → Is S.LeftBracket l → IsNamed x t → Is S.RightBracket r →
      Is S.LeftBrace b → IsNumber k n → k ≤ most_elements → Is S.RightBrace c →
      SpellsJudgement K.Cat (l ∷ t ∷ r ∷ b ∷ n ∷ c ∷ []) (J.ListCat (placed x t) (Written x) k l.place)
  function : {ts us c ns a : _} → Spells (listed S.Comma placed_name) ts ns (c ∷ us) → Is S.Colon c → Spells (term exp) us a [] →
      SpellsJudgement K.Fun ts (J.Fun ns a)
  flag : {x t e u v : _} → IsNamed x t → Is S.Equals e → SpellsSetting u v →
      SpellsJudgement K.Flags (t ∷ e ∷ u ∷ []) (J.Flag (placed x t) v)
  lincat : {ts us e ns a : _} → Spells (listed S.Comma category_name) ts ns (e ∷ us) → Is S.Equals e → Spells (term exp) us a [] →
      SpellsJudgement K.Lincat ts (J.Lincat ns a)
  linearization : {ts us vs e ns bs a k form : _} → Linearization k form → Spells (listed S.Comma category_name) ts ns us →
      Spells (many bind) us bs (e ∷ vs) → Is S.Equals e → Spells (term exp) vs a [] → SpellsJudgement k ts (form ns bs a)
  bare_parameter : {x t : _} → IsNamed x t → SpellsJudgement K.Param (t ∷ []) (J.ParamName (placed x t))
  parameter_type : {x t e ts cs : _} → IsNamed x t → Is S.Equals e → Spells (listed S.Bar constructor) ts cs [] →
      SpellsJudgement K.Param (t ∷ e ∷ ts) (J.Param (placed x t) cs)
  declared_oper : {ts us c ns a : _} → Spells (listed S.Comma placed_name) ts ns (c ∷ us) → Is S.Colon c →
      Spells (term exp) us a [] → SpellsJudgement K.Oper ts (J.OperType ns a)
  typed_oper : {ts us vs c e ns a d : _} → Spells (listed S.Comma placed_name) ts ns (c ∷ us) → Is S.Colon c →
      Spells (term exp) us a (e ∷ vs) → Is S.Equals e → SpellsDefinition vs d → SpellsJudgement K.Oper ts (J.OperTyped ns a d)
  oper : {ts us vs e ns bs d : _} → Spells (listed S.Comma placed_name) ts ns us → Spells (many bind) us bs (e ∷ vs) →
      Is S.Equals e → SpellsDefinition vs d → SpellsJudgement K.Oper ts (J.Oper ns bs d)

-- the keyword of a reserved word
abbrev pub keyword_word : Keyword → Word
keyword_word K.Cat = W.Cat
keyword_word K.Fun = W.Fun
keyword_word K.Flags = W.Flags
keyword_word K.Lincat = W.Lincat
keyword_word K.Lin = W.Lin
keyword_word K.Lindef = W.Lindef
keyword_word K.Linref = W.Linref
keyword_word K.Param = W.Param
keyword_word K.Oper = W.Oper

-- a slice that is not empty: it begins with a keyword or goes on with that of the slice before
pub data SpellsSlice : Option Keyword → Tokens → Keyword → Judgement → Type 0 where
  with_keyword : {before k t ts j : _} → IsReserved (keyword_word k) t → SpellsJudgement k ts j →
      SpellsSlice before (t ∷ ts) k j
  goes_on : {k t ts j : _} → SpellsJudgement k (t ∷ ts) j → SpellsSlice (Some k) (t ∷ ts) k j

-- the slices of a body, with the keywords before and after them; an empty one says nothing
pub data SpellsSlices : Option Keyword → List Tokens → Option Keyword → List Judgement → Type 0 where
  no_slice : {before : _} → SpellsSlices before [] before []
  empty_slice : {before ss after js : _} → SpellsSlices before ss after js → SpellsSlices before ([] ∷ ss) after js
  slice : {before k t ts ss after j js : _} → SpellsSlice before (t ∷ ts) k j → SpellsSlices (Some k) ss after js →
      SpellsSlices before ((t ∷ ts) ∷ ss) after (j ∷ js)

-- a body: what it opens, and its slices in braces
pub data SpellsBody : Tokens → Body → Tokens → Type 0 where
  closed_body : {ts rest l ss k js : _} → Is S.LeftBrace l → slices_of ts ≡ (ss, Some rest) → SpellsSlices None ss k js →
      SpellsBody (l ∷ ts) (record { opened = []; judgements = js }) rest
  opening_body : {ts us rest o i l os ss k js : _} → IsReserved W.OpenWord o → Spells (listed S.Comma opened) ts os (i ∷ l ∷ us) →
      IsReserved W.InWord i → Is S.LeftBrace l → slices_of us ≡ (ss, Some rest) → SpellsSlices None ss k js →
      SpellsBody (o ∷ ts) (record { opened = os; judgements = js }) rest

-- the kinds of modules that name no other
pub data PlainKind : Word → (PlacedName → Header) → Type 0 where
  an_abstract : PlainKind W.Abstract H.Abstract
  a_resource : PlainKind W.Resource H.Resource
  an_interface : PlainKind W.Interface H.Interface

-- the kinds of modules that name one after of
pub data KindOf : Word → (PlacedName → PlacedName → Header) → Type 0 where
  an_instance : KindOf W.Instance H.Instance
  a_concrete : KindOf W.Concrete H.Concrete

-- the kind and the name of a module
pub data SpellsHeader : Tokens → Header → Tokens → Type 0 where
  plain_module : {x k t ts w form : _} → PlainKind w form → IsReserved w k → IsNamed x t →
      SpellsHeader (k ∷ t ∷ ts) (form (placed x t)) ts
  module_of : {x y k t o u ts w form : _} → KindOf w form → IsReserved w k → IsNamed x t → IsReserved W.Of o → IsNamed y u →
      SpellsHeader (k ∷ t ∷ o ∷ u ∷ ts) (form (placed x t) (placed y u)) ts
  incomplete_module : {x y i k t o u ts : _} → IsReserved W.Incomplete i → IsReserved W.Concrete k → IsNamed x t →
      IsReserved W.Of o → IsNamed y u → SpellsHeader (i ∷ k ∷ t ∷ o ∷ u ∷ ts) (H.Incomplete (placed x t) (placed y u)) ts

-- what is inherited, with ** after it, or nothing
pub data SpellsBefore : Tokens → List Inherited → Tokens → Type 0 where
  nothing_before : {ts : _} → SpellsBefore ts [] ts
  inherited_before : {ts rest s hs : _} → Spells (listed S.Comma inherited) ts hs (s ∷ rest) → Is S.DoubleStar s →
      SpellsBefore ts hs rest

-- what follows the = of a module
pub data SpellsRest : Tokens → Rest → Tokens → Type 0 where
  own_body : {ts us rest hs b : _} → SpellsBefore ts hs us → SpellsBody us b rest → SpellsRest ts (Own hs b) rest
  inherited_alone : {ts rest hs : _} → Spells (listed S.Comma inherited) ts hs rest → SpellsRest ts (Inherits hs) rest
  functor : {ts us vs rest w hs f ss : _} → SpellsBefore ts hs us → Spells inherited us f (w ∷ vs) → IsReserved W.With w →
      Spells (listed S.Comma substitution) vs ss rest → SpellsRest ts (With hs f ss None) rest
  functor_with_body : {ts us vs ws rest w s hs f ss b : _} → SpellsBefore ts hs us → Spells inherited us f (w ∷ vs) →
      IsReserved W.With w → Spells (listed S.Comma substitution) vs ss (s ∷ ws) → Is S.DoubleStar s → SpellsBody ws b rest →
      SpellsRest ts (With hs f ss (Some b)) rest

-- nothing is left but a semicolon
pub data AtEnd : Tokens → Type 0 where
  at_once : AtEnd []
  after_semicolon : {t : _} → Is S.Semicolon t → AtEnd (t ∷ [])

-- the tokens of a file are the module
pub data SpellsModule : Tokens → Module → Type 0 where
  a_module : {ts us end e h r : _} → SpellsHeader ts h (e ∷ us) → Is S.Equals e → SpellsRest us r end → AtEnd end →
      SpellsModule ts (record { header = h; rest = r })
