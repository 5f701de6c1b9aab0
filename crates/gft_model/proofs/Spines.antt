-- Terms and patterns that go on to the right of themselves, taken apart into a base and a list of steps: an
-- application and its arguments, a name and its labels, operands with ! ** * between, alternatives and
-- sequences of patterns. A reader that goes from left to right reads them so.
use Rattle.std.proofs.Common.{◌≡◌, ap, ◌∙◌, refl, ℕ, List, ◌∷◌, Bool, true, false}
use Rattle.gft_core.specs.declared.place.Place.{Place}
use Rattle.gft_syntax.specs.declared.pattern.Pattern.{Pattern, out-Pattern}
use Rattle.gft_syntax.specs.declared.pattern.Pattern.TheOpen as P
use Rattle.gft_syntax.specs.declared.term.Term.{Term, out-Term}
use Rattle.gft_syntax.specs.declared.term.Term.TheOpen as T
use Rattle.gft_syntax.specs.declared.token.SourceToken.{SourceToken}
use Rattle.gft_syntax.specs.declared.token.Symbol.{Symbol as Sign}
use Rattle.gft_syntax.specs.declared.token.Symbol.TheVariants as S
use Rattle.gft_model.proofs.GrammarRules as G
use Rattle.gft_model.proofs.GrammarRules.{Tokens, Is, IsNamed, FirstAt, Spells, Part, Meaning, Level, PatternLevel, term, pattern, patt, patt1, exp3, exp4, exp5, Infix, InfixPattern, TermForm, PatternForm}
use Rattle.gft_model.proofs.Claims.{one_place}

-- a term with one step more, from the place of its first token on
pub data Adds (p : Place) : Level → Term → Tokens → Term → Tokens → Type 0 where
  a_label : {rest : Tokens} {d t : SourceToken} {e a : Term} {x : List ℕ} → Is S.Dot d → IsNamed x t →
      out-Term e ≡ T.Proj a x p → Adds p exp5 a (d ∷ t ∷ rest) e rest
  an_argument : {us rest : Tokens} {e f a : Term} → Spells (term exp5) us a rest → out-Term e ≡ T.App f a p →
      Adds p exp4 f us e rest
  an_operand : {us rest : Tokens} {t : SourceToken} {e a b : Term} {s : Sign} {form : TermForm} → Infix exp3 exp3 s exp4 form →
      Is s t → Spells (term exp4) us b rest → out-Term e ≡ form a b p → Adds p exp3 a (t ∷ us) e rest

-- and with any number of them
pub data AddsAll (p : Place) (l : Level) : Term → Tokens → Term → Tokens → Type 0 where
  added : {e : Term} {ts : Tokens} → AddsAll p l e ts e ts
  adds : {a b e : Term} {ts us rest : Tokens} → Adds p l a ts b us → AddsAll p l b us e rest → AddsAll p l a ts e rest

one_more : {p : Place} {l : Level} {a b e : Term} {ts us rest : Tokens} → AddsAll p l a ts b us → Adds p l b us e rest → AddsAll p l a ts e rest
one_more added s = adds s added
one_more (adds s ss) t = adds s (one_more ss t)

-- the same of patterns
pub data AddsPattern (a : Place) (i : PatternLevel) : Pattern → Tokens → Pattern → Tokens → Type 0 where
  a_pattern : {us rest : Tokens} {t : SourceToken} {r p q : Pattern} {k : PatternLevel} {s : Sign} {form : PatternForm} →
      InfixPattern i i s k form → Is s t → Spells (pattern k) us q rest → out-Pattern r ≡ form p q a →
      AddsPattern a i p (t ∷ us) r rest

pub data AddsPatterns (a : Place) (i : PatternLevel) : Pattern → Tokens → Pattern → Tokens → Type 0 where
  added : {q : Pattern} {ts : Tokens} → AddsPatterns a i q ts q ts
  adds : {p q r : Pattern} {ts us rest : Tokens} → AddsPattern a i p ts q us → AddsPatterns a i q us r rest → AddsPatterns a i p ts r rest

one_pattern_more : {a : Place} {i : PatternLevel} {p q r : Pattern} {ts us rest : Tokens} → AddsPatterns a i p ts q us → AddsPattern a i q us r rest → AddsPatterns a i p ts r rest
one_pattern_more added s = adds s added
one_pattern_more (adds s ss) t = adds s (one_pattern_more ss t)

-- a derivation that does not go on to the right of itself
abbrev pub is_base : {g : Part} {ts rest : Tokens} {a : Meaning g} → Spells g ts a rest → Bool
is_base (G.infix_term G.selection d h f i k) = false
is_base (G.infix_term G.extension d h f i k) = false
is_base (G.infix_term G.pair d h f i k) = false
is_base (G.application d i j k) = false
is_base (G.projection d h i f k) = false
is_base (G.infix_pattern w d h f i k) = false
is_base d = true

-- a base of the level, from the same first token, and the steps after it
pub record TermSpine (l : Level) (ts : Tokens) (e : Term) (rest : Tokens) (p : Place) : Type 0 where
  pub base : Term
  pub left : Tokens
  pub spelled : Spells (term l) ts base left
  pub is_first : is_base spelled ≡ true
  pub steps : AddsAll p l base left e rest

pub record PatternSpine (i : PatternLevel) (ts : Tokens) (r : Pattern) (rest : Tokens) (p : Place) : Type 0 where
  pub base : Pattern
  pub left : Tokens
  pub spelled : Spells (pattern i) ts base left
  pub is_first : is_base spelled ≡ true
  pub steps : AddsPatterns p i base left r rest

on_its_own : (l : Level) {ts rest : Tokens} {e : Term} {p : Place} (d : Spells (term l) ts e rest) → is_base d ≡ true → TermSpine l ts e rest p
on_its_own l d b = record { base = _; left = _; spelled = d; is_first = b; steps = added }

pattern_on_its_own : (i : PatternLevel) {ts rest : Tokens} {q : Pattern} {p : Place} (d : Spells (pattern i) ts q rest) → is_base d ≡ true → PatternSpine i ts q rest p
pattern_on_its_own i d b = record { base = _; left = _; spelled = d; is_first = b; steps = added }

with_step : {l : Level} {ts us rest : Tokens} {a e : Term} {p : Place} → TermSpine l ts a us p → Adds p l a us e rest → TermSpine l ts e rest p
with_step s t = record { base = s.base; left = s.left; spelled = s.spelled; is_first = s.is_first; steps = one_more s.steps t }

with_pattern : {i : PatternLevel} {ts us rest : Tokens} {q r : Pattern} {p : Place} → PatternSpine i ts q us p → AddsPattern p i q us r rest → PatternSpine i ts r rest p
with_pattern s t = record { base = s.base; left = s.left; spelled = s.spelled; is_first = s.is_first; steps = one_pattern_more s.steps t }

pub labels_spine : {ts rest : Tokens} {e : Term} {p : Place} → Spells (term exp5) ts e rest → FirstAt ts p → TermSpine exp5 ts e rest p
labels_spine (G.projection {ts = ts} {a = a} {x = x} d h i f k) j =
    with_step (labels_spine d j) (a_label h i (k ∙ ap (T.Proj a x) (one_place ts f j)))
labels_spine (G.tighter_term w d) j = on_its_own exp5 (G.tighter_term w d) refl
labels_spine (G.infix_term w d h f i k) j = elim w [ ]

pub application_spine : {ts rest : Tokens} {e : Term} {p : Place} → Spells (term exp4) ts e rest → FirstAt ts p → TermSpine exp4 ts e rest p
application_spine (G.application {ts = ts} {f = f} {a = a} d i h k) j =
    with_step (application_spine d j) (an_argument i (k ∙ ap (T.App f a) (one_place ts h j)))
application_spine (G.case_of h d i k f m n) j = on_its_own exp4 (G.case_of h d i k f m n) refl
application_spine (G.variants h i d k m) j = on_its_own exp4 (G.variants h i d k m) refl
application_spine (G.tighter_term w d) j = on_its_own exp4 (G.tighter_term w d) refl
application_spine (G.infix_term w d h f i k) j = elim w [ ]

pub selection_spine : {ts rest : Tokens} {e : Term} {p : Place} → Spells (term exp3) ts e rest → FirstAt ts p → TermSpine exp3 ts e rest p
selection_spine (G.infix_term {ts = ts} {a = a} {b = b} G.selection d h f i k) j =
    with_step (selection_spine d j) (an_operand G.selection h f (k ∙ ap (T.Select a b) (one_place ts i j)))
selection_spine (G.infix_term {ts = ts} {a = a} {b = b} G.extension d h f i k) j =
    with_step (selection_spine d j) (an_operand G.extension h f (k ∙ ap (T.Extend a b) (one_place ts i j)))
selection_spine (G.infix_term {ts = ts} {a = a} {b = b} G.pair d h f i k) j =
    with_step (selection_spine d j) (an_operand G.pair h f (k ∙ ap (T.Pair a b) (one_place ts i j)))
selection_spine (G.table h i d k m) j = on_its_own exp3 (G.table h i d k m) refl
selection_spine (G.table_over h d i f k m) j = on_its_own exp3 (G.table_over h d i f k m) refl
selection_spine (G.table_list h d i f k m) j = on_its_own exp3 (G.table_list h d i f k m) refl
selection_spine (G.tighter_term w d) j = on_its_own exp3 (G.tighter_term w d) refl

pub sequence_spine : {ts rest : Tokens} {q : Pattern} {p : Place} → Spells (pattern patt1) ts q rest → FirstAt ts p → PatternSpine patt1 ts q rest p
sequence_spine (G.infix_pattern {ts = ts} {p = a} {q = b} G.in_sequence d h f i k) j =
    with_pattern (sequence_spine d j) (a_pattern G.in_sequence h f (k ∙ ap (P.Seq a b) (one_place ts i j)))
sequence_spine (G.tighter_pattern w d) j = pattern_on_its_own patt1 (G.tighter_pattern w d) refl

pub alternative_spine : {ts rest : Tokens} {q : Pattern} {p : Place} → Spells (pattern patt) ts q rest → FirstAt ts p → PatternSpine patt ts q rest p
alternative_spine (G.infix_pattern {ts = ts} {p = a} {q = b} G.either d h f i k) j =
    with_pattern (alternative_spine d j) (a_pattern G.either h f (k ∙ ap (P.Or a b) (one_place ts i j)))
alternative_spine (G.tighter_pattern w d) j = pattern_on_its_own patt (G.tighter_pattern w d) refl
