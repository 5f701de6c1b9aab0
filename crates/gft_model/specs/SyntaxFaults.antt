-- Faults of slices: the first slice of a file that is out of the profile, too deep or not in the grammar.
use Rattle.std.specs.Prelude.{◌≡◌, ℕ, suc, ◌-◌, ◌<◌, List, [], ◌∷◌, ◌++◌, map, fold, length, nat_lt, Bool, true, false, ◌||◌, is_some, codes, encode_utf8_all, Contains, Option, Some, None}
use Rattle.gft_core.specs.declared.place.Place.{Place}
use Rattle.gft_rules.specs.declared.refusal.Refusal.{Refusal}
use Rattle.gft_rules.specs.declared.rule.Rule.{Rule}
use Rattle.gft_rules.specs.declared.rule.Rule.TheVariants as R
use Rattle.gft_syntax.specs.declared.judgement.Keyword.{Keyword}
use Rattle.gft_syntax.specs.declared.token.SourceToken.{SourceToken}
use Rattle.gft_syntax.specs.declared.token.Symbol.TheVariants as S
use Rattle.gft_syntax.specs.declared.token.TokenForm.{TokenForm}
use Rattle.gft_syntax.specs.Parts.{judgement_parts, height}
use Rattle.gft_syntax.specs.Terms.{place_of}
use Rattle.gft_model.specs.Grammar.{Tokens, Is}
use Rattle.gft_model.specs.ModuleGrammar.{Mark, mark_of, opening, closing_brace, closing, slices_of, SpellsSlice, SpellsSlices, SpellsModule, AtEnd}
use Rattle.gft_model.specs.Refusals.{Moment, refusal, place_moment}
use Rattle.gft_model.specs.Source.{form_of, first_place}

-- the text that is the token
abbrev pub IsSpelled : TokenForm → List ℕ → Type 0
IsSpelled t s = (cs : List ℕ) × (form_of cs ≡ Some t) × (encode_utf8_all cs ≡ s)

-- the words that are reserved and out of the profile
abbrev pub outside_words : List (List ℕ)
outside_words =
    map codes ("data" ∷ "def" ∷ "pre" ∷ "strs" ∷ "printname" ∷ "transfer" ∷ "union" ∷ "reuse" ∷ "Float" ∷ [])

-- what a slice is: a whole file without a body; the header before the body's brace; a part of the body, ended or cut
-- off by the end of the file, with the keyword before it; or what follows the body
pub data SliceKind : Type 0 where
  whole_file : SliceKind
  header : SourceToken → SliceKind
  in_body : Bool → Option Keyword → SliceKind
  following : SliceKind

-- no token begins a body
abbrev pub NoBody : Tokens → Type 0
NoBody ts = (t : SourceToken) → Contains ts t → ¬ (Is S.LeftBrace t)

-- the body's brace is the first one
pub data OpensBody (ts held : Tokens) (brace : SourceToken) (body : Tokens) : Type 0 where
  opens_body : ts ≡ held ++ brace ∷ body → Is S.LeftBrace brace → NoBody held → OpensBody ts held brace body

-- the slice of that number, from 0, of a file's tokens; one of the body where those before it are in the grammar
pub data HasSlice (ts : Tokens) : ℕ → SliceKind → Tokens → Type 0 where
  no_body : NoBody ts → HasSlice ts 0 whole_file ts
  before_body : {held body l : _} → OpensBody ts held l body → HasSlice ts 0 (header l) held
  of_body : {held body l s rest k js : _} (before after : List Tokens) → OpensBody ts held l body →
      slices_of body ≡ (before ++ s ∷ after, rest) → SpellsSlices None before k js →
      HasSlice ts (suc (length before)) (in_body (is_some rest || nat_lt 0 (length after)) k) s
  after_body : {held body l ss rest : _} → OpensBody ts held l body → slices_of body ≡ (ss, Some rest) →
      HasSlice ts (suc (length ss)) following rest

-- the slice is in the grammar; a header is where an empty body makes a module of it
pub data IsDerivable : SliceKind → Tokens → Type 0 where
  a_file : {ts m : _} → SpellsModule ts m → IsDerivable whole_file ts
  a_header : {l : _} (r : SourceToken) {ts m : _} → Is S.RightBrace r → SpellsModule (ts ++ l ∷ r ∷ []) m →
      IsDerivable (header l) ts
  nothing : {before : _} → IsDerivable (in_body true before) []
  a_judgement : {before ts k j : _} → SpellsSlice before ts k j → IsDerivable (in_body true before) ts
  an_end : {ts : _} → AtEnd ts → IsDerivable following ts

-- the tokens of a slice of which a refusal names the first
abbrev pub shown : SliceKind → Tokens → Tokens
shown (header l) s = s ++ l ∷ []
shown (in_body false before) s = []
shown kind s = s

-- how many brackets are open after a token, where so many were open before
abbrev pub open_with : ℕ → Mark → ℕ
open_with n opening = suc n
open_with n closing_brace = n - 1
open_with n closing = n - 1
open_with n m = n

-- what is broken in a slice, in which turn, where and with which names. A question mark is a pattern of the tightest
-- level and nothing else, so where it may stand after the tokens before a minus, that minus is in a pattern
pub data BreaksSlice (kind : SliceKind) (s : Tokens) : ℕ → Rule → Place → List (List ℕ) → Type 0 where
  out_of_profile : {t : SourceToken} {x : _} → Contains s t → IsSpelled t.form x → Contains outside_words x →
      BreaksSlice kind s 0 R.OutOfProfile t.place (x ∷ [])
  negated_pattern : {ended before k j : _} (held rest more : Tokens) (t q : SourceToken) → kind ≡ in_body ended before →
      s ≡ held ++ t ∷ rest → Is S.Minus t → Is S.Question q → SpellsSlice before (held ++ q ∷ more) k j →
      BreaksSlice kind s 0 R.OutOfProfile t.place (codes "negated pattern" ∷ [])
  too_many_brackets : (held rest : Tokens) (t : SourceToken) → s ≡ held ++ t ∷ rest → mark_of t.form ≡ opening →
      fold open_with 0 (map (λ u. mark_of u.form) held) ≡ 200 → BreaksSlice kind s 1 R.TooDeep t.place []
  too_high : {ended before k j e : _} → kind ≡ in_body ended before → SpellsSlice before s k j →
      Contains (map (λ p. p.part) (judgement_parts j)) e → 1000 < height e → BreaksSlice kind s 2 R.TooDeep (place_of e) []
  not_in_grammar : {us x : _} {t : SourceToken} → ¬ (IsDerivable kind s) → shown kind s ≡ t ∷ us → IsSpelled t.form x →
      BreaksSlice kind s 3 R.Syntax t.place (x ∷ [])

-- what is broken in a file's tokens, slice by slice; the last turn of one that the file ends in is at the last token
pub data BreaksSyntax (file : ℕ) (ts : Tokens) : Moment → Refusal → Type 0 where
  in_slice : {n kind s turn rule p names : _} → HasSlice ts n kind s → BreaksSlice kind s turn rule p names →
      BreaksSyntax file ts (n ∷ turn ∷ place_moment p) (refusal rule p names)
  ends_early : {n before s : _} (held : Tokens) (t : SourceToken) → HasSlice ts n (in_body false before) s →
      ts ≡ held ++ t ∷ [] → BreaksSyntax file ts (n ∷ 3 ∷ []) (refusal R.Syntax t.place (codes "end" ∷ []))
  no_tokens : ts ≡ [] → BreaksSyntax file ts (0 ∷ 3 ∷ []) (refusal R.Syntax (first_place file) (codes "end" ∷ []))
