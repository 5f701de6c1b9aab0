-- What the first two tokens tell of what is spelled.
use Rattle.std.proofs.Common.{◌≡◌, ap, ◌∙◌, refl, ℕ, List, [], ◌∷◌, true, false, not, ◌&&◌, ◌||◌, ◌⊎◌, inl, inr}
use Rattle.gft_syntax.specs.declared.term.Term.{Term}
use Rattle.gft_syntax.specs.declared.token.Reserved.TheVariants as W
use Rattle.gft_syntax.specs.declared.token.SourceToken.{SourceToken}
use Rattle.gft_syntax.specs.declared.token.Symbol.{Symbol as Sign}
use Rattle.gft_syntax.specs.declared.token.Symbol.TheVariants as S
use Rattle.gft_syntax.specs.declared.token.TokenForm.{TokenForm}
use Rattle.gft_syntax.specs.declared.token.TokenForm.TheVariants.{Symbol}
use Rattle.gft_model.proofs.GrammarRules as G
use Rattle.gft_model.proofs.GrammarRules.{Tokens, Is, IsReserved, IsNamed, FirstAt, Spells, Part, Meaning, Level, PatternLevel, term, pattern, exp, exp1, exp2, exp3, exp4, exp5, exp6, patt, patt1, patt2, patt3, patt4, local, branch, field, alternative, context, constructor, name, bind, placed_name, category_name, inherited, opened, substitution, listed, semicolons, many, Infix, Tighter}
use Rattle.gft_model.proofs.ReadingTokens.{first}
use Rattle.gft_model.proofs.FirstTokens.{is_sign, is_name, begins_atom, begins_pattern, begins_term, begins_at, binds_on, names_ahead, is_binding, binding_at, opens_list, no_fields_ahead, branches_at}
use Rattle.gft_model.proofs.Beginnings.{and-false, begun, excludes, impossible}

-- no first token of a term or a pattern goes on after a name that is bound
pub atom-binds : (f : TokenForm) → begins_atom f ≡ true → binds_on f ≡ false
atom-binds (Symbol S.Equals) e = impossible e
atom-binds (Symbol S.Colon) e = impossible e
atom-binds (Symbol S.Comma) e = impossible e
atom-binds f e = refl

pub pattern-binds : (f : TokenForm) → begins_pattern f ≡ true → binds_on f ≡ false
pattern-binds (Symbol S.Equals) e = impossible e
pattern-binds (Symbol S.Colon) e = impossible e
pattern-binds (Symbol S.Comma) e = impossible e
pattern-binds f e = refl

-- the first two tokens are no name that is bound, or the part is a single token
abbrev pub Lone : Tokens → Tokens → Type 0
Lone ts rest = (names_ahead ts ≡ false) ⊎ ((t : SourceToken) × (ts ≡ t ∷ rest))

-- and then what follows tells
pub alone : (ts us : Tokens) → first binds_on us ≡ false → Lone ts us → names_ahead ts ≡ false
alone ts us e (inl h) = h
alone ts us e (inr (t, h)) =
    ap names_ahead h ∙ ap (λ b. is_name t.form && b) e ∙ and-false (is_name t.form)

pub not_name : (t : SourceToken) (ts : Tokens) {f : TokenForm} → t.form ≡ f → is_name f ≡ false → names_ahead (t ∷ ts) ≡ false
not_name t ts h e = ap (λ f. is_name f && first binds_on ts) h ∙ ap (λ b. b && first binds_on ts) e

abbrev pub Ahead : Part → Tokens → Tokens → Type 0
Ahead (term l) ts rest = Lone ts rest
Ahead (pattern l) ts rest = Lone ts rest
Ahead g ts rest = Unit {0}

pub sign-ahead : (ts us : Tokens) (t : SourceToken) {s : Sign} → Is s t → binds_on (Symbol s) ≡ false → Lone ts (t ∷ us) → names_ahead ts ≡ false
sign-ahead ts us t h e = alone ts (t ∷ us) (ap binds_on h ∙ e)

pub ahead : {g : Part} {ts rest : Tokens} {v : Meaning g} → Spells g ts v rest → Ahead g ts rest
ahead (G.infix_term {ts = ts} {us = us} {t = t} G.alternatives d h e f k) = inl (sign-ahead ts us t h refl (ahead d))
ahead (G.infix_term {ts = ts} {us = us} {t = t} G.table_type d h e f k) = inl (sign-ahead ts us t h refl (ahead d))
ahead (G.infix_term {ts = ts} {us = us} {t = t} G.function_type d h e f k) = inl (sign-ahead ts us t h refl (ahead d))
ahead (G.infix_term {ts = ts} {us = us} {t = t} G.append d h e f k) = inl (sign-ahead ts us t h refl (ahead d))
ahead (G.infix_term {ts = ts} {us = us} {t = t} G.glue d h e f k) = inl (sign-ahead ts us t h refl (ahead d))
ahead (G.infix_term {ts = ts} {us = us} {t = t} G.selection d h e f k) = inl (sign-ahead ts us t h refl (ahead d))
ahead (G.infix_term {ts = ts} {us = us} {t = t} G.extension d h e f k) = inl (sign-ahead ts us t h refl (ahead d))
ahead (G.infix_term {ts = ts} {us = us} {t = t} G.pair d h e f k) = inl (sign-ahead ts us t h refl (ahead d))
ahead (G.tighter_term w d) = ahead d
ahead (G.lambda {ts = ts} {t = t} G.of_function h d i e k) = inl (not_name t ts h refl)
ahead (G.lambda {ts = ts} {t = t} G.of_table h d i e k) = inl (not_name t ts h refl)
ahead (G.arrow_from {ts = ts} {t = t} h d i e j l f k) = inl (not_name t ts h refl)
ahead (G.let_in {ts = ts} {t = t} h d i j e k) = inl (not_name t ts h refl)
ahead (G.let_braces {ts = ts} {t = t} {l = l} h i d j n m e k) = inl (not_name t (l ∷ ts) h refl)
ahead (G.where_locals {ts = ts} {us = us} {t = t} {l = l} d h i e j m f k) = inl (alone ts (t ∷ l ∷ us) (ap binds_on h) (ahead d))
ahead (G.table {ts = ts} {t = t} {l = l} h i d j k) = inl (not_name t (l ∷ ts) h refl)
ahead (G.table_over {ts = ts} {t = t} h d i e j k) = inl (not_name t ts h refl)
ahead (G.table_list {ts = ts} {t = t} h d i e j k) = inl (not_name t ts h refl)
ahead (G.application {ts = ts} {us = us} d e f k) =
    inl (alone ts us (excludes (term exp5) binds_on atom-binds us (begun e)) (ahead d))
ahead (G.case_of {ts = ts} {t = t} h d i j e l k) = inl (not_name t ts h refl)
ahead (G.variants {ts = ts} {t = t} {l = l} h i d j k) = inl (not_name t (l ∷ ts) h refl)
ahead (G.projection {ts = ts} {rest = rest} {d = d} {t = t} a h i f k) = inl (sign-ahead ts (t ∷ rest) d h refl (ahead a))
ahead (G.variable {t = t} h k) = inr (t, refl)
ahead (G.literal {ts = ts} {t = t} h k) = inl (not_name t ts h.1 refl)
ahead (G.literal_in_brackets {ts = ts} {l = l} {t = t} {r = r} h i j k) = inl (not_name l (t ∷ r ∷ ts) h refl)
ahead (G.number {ts = ts} {t = t} h k) = inl (not_name t ts h.1 refl)
ahead (G.no_words {ts = ts} {l = l} {r = r} h i k) = inl (not_name l (r ∷ ts) h refl)
ahead (G.list_category {ts = ts} {l = l} {t = t} {r = r} h i j k) = inl (not_name l (t ∷ r ∷ ts) h refl)
ahead (G.sort {ts = ts} {t = t} w h k) = inl (not_name t ts h refl)
ahead (G.fields {ts = ts} {t = t} h d i j k) = inl (not_name t ts h refl)
ahead (G.tuple {ts = ts} {t = t} h d i k) = inl (not_name t ts h refl)
ahead (G.typed {ts = ts} {t = t} h d i e j k) = inl (not_name t ts h refl)
ahead (G.in_parentheses {ts = ts} {t = t} h d i) = inl (not_name t ts h refl)
ahead (G.infix_pattern {ts = ts} {us = us} {t = t} G.either d h e f k) = inl (sign-ahead ts us t h refl (ahead d))
ahead (G.infix_pattern {ts = ts} {us = us} {t = t} G.in_sequence d h e f k) = inl (sign-ahead ts us t h refl (ahead d))
ahead (G.tighter_pattern w d) = ahead d
ahead (G.constructor_with {ts = ts} {t = t} h (G.some d e) k) =
    inl (alone (t ∷ ts) ts (excludes (pattern patt4) binds_on pattern-binds ts (begun d)) (inr (t, refl)))
ahead (G.constructor_of {ts = ts} {t = t} {d = d} {u = u} h i j e k) = inl (sign-ahead (t ∷ d ∷ u ∷ ts) (u ∷ ts) d i refl (inr (t, refl)))
ahead (G.star {ts = ts} {rest = rest} {t = t} d h f k) = inl (sign-ahead ts rest t h refl (ahead d))
ahead (G.as_pattern {ts = ts} {t = t} {u = u} h i d k) = inl (sign-ahead (t ∷ u ∷ ts) ts u i refl (inr (t, refl)))
ahead (G.anything {ts = ts} {t = t} h k) = inl (not_name t ts h refl)
ahead (G.character {ts = ts} {t = t} h k) = inl (not_name t ts h refl)
ahead (G.named_pattern {t = t} h k) = inr (t, refl)
ahead (G.text_pattern {ts = ts} {t = t} h k) = inl (not_name t ts h.1 refl)
ahead (G.number_pattern {ts = ts} {t = t} h k) = inl (not_name t ts h.1 refl)
ahead (G.record_pattern {ts = ts} {t = t} h d i j k) = inl (not_name t ts h refl)
ahead (G.tuple_pattern {ts = ts} {t = t} h d i k) = inl (not_name t ts h refl)
ahead (G.pattern_in_parentheses {ts = ts} {t = t} h d i) = inl (not_name t ts h refl)
ahead d = tt

-- a term that is no arrow with variables does not begin with variables in a parenthesis
abbrev pub Unbound : Part → Tokens → Type 0
Unbound (term exp) ts = Unit {0}
Unbound (term l) ts = binding_at ts ≡ false
Unbound g ts = Unit {0}

pub not_open : (t : SourceToken) (ts : Tokens) {f : TokenForm} → t.form ≡ f → is_sign S.LeftParenthesis f ≡ false → binding_at (t ∷ ts) ≡ false
not_open t ts h e = ap (λ f. is_sign S.LeftParenthesis f && is_binding ts) h ∙ ap (λ b. b && is_binding ts) e

pub no-underscore : (f : TokenForm) → begins_term exp f ≡ true → is_sign S.Underscore f ≡ false
no-underscore (Symbol S.Underscore) e = impossible e
no-underscore f e = refl

pub closed-parenthesis : (t : SourceToken) (ts : Tokens) {u : SourceToken} {rest : Tokens} {e : Term} →
    Spells (term exp) ts e (u ∷ rest) → Is S.RightParenthesis u → is_binding ts ≡ false
closed-parenthesis t ts {u = u} {rest = rest} d h =
    ap (λ b. b || names_ahead ts) (excludes (term exp) (is_sign S.Underscore) no-underscore ts (begun d))
    ∙ sign-ahead ts rest u h refl (ahead d)

pub unbound : {g : Part} {ts rest : Tokens} {v : Meaning g} → Spells g ts v rest → Unbound g ts
unbound (G.infix_term G.alternatives d h e f k) = tt
unbound (G.infix_term G.table_type d h e f k) = tt
unbound (G.infix_term G.function_type d h e f k) = tt
unbound (G.infix_term G.append d h e f k) = unbound d
unbound (G.infix_term G.glue d h e f k) = unbound d
unbound (G.infix_term G.selection d h e f k) = unbound d
unbound (G.infix_term G.extension d h e f k) = unbound d
unbound (G.infix_term G.pair d h e f k) = unbound d
unbound (G.tighter_term G.below_exp d) = tt
unbound (G.tighter_term G.below_exp1 d) = unbound d
unbound (G.tighter_term G.below_exp2 d) = unbound d
unbound (G.tighter_term G.below_exp3 d) = unbound d
unbound (G.tighter_term G.below_exp4 d) = unbound d
unbound (G.tighter_term G.below_exp5 d) = unbound d
unbound (G.table {ts = ts} {t = t} {l = l} h i d j k) = not_open t (l ∷ ts) h refl
unbound (G.table_over {ts = ts} {t = t} h d i e j k) = not_open t ts h refl
unbound (G.table_list {ts = ts} {t = t} h d i e j k) = not_open t ts h refl
unbound (G.application d e f k) = unbound d
unbound (G.case_of {ts = ts} {t = t} h d i j e l k) = not_open t ts h refl
unbound (G.variants {ts = ts} {t = t} {l = l} h i d j k) = not_open t (l ∷ ts) h refl
unbound (G.projection d h i f k) = unbound d
unbound (G.variable {ts = ts} {t = t} h k) = not_open t ts h refl
unbound (G.literal {ts = ts} {t = t} h k) = not_open t ts h.1 refl
unbound (G.literal_in_brackets {ts = ts} {l = l} {t = t} {r = r} h i j k) = not_open l (t ∷ r ∷ ts) h refl
unbound (G.number {ts = ts} {t = t} h k) = not_open t ts h.1 refl
unbound (G.no_words {ts = ts} {l = l} {r = r} h i k) = not_open l (r ∷ ts) h refl
unbound (G.list_category {ts = ts} {l = l} {t = t} {r = r} h i j k) = not_open l (t ∷ r ∷ ts) h refl
unbound (G.sort {ts = ts} {t = t} w h k) = not_open t ts h refl
unbound (G.fields {ts = ts} {t = t} h d i j k) = not_open t ts h refl
unbound (G.tuple {ts = ts} {t = t} h d i k) = not_open t ts h refl
unbound (G.typed {ts = ts} {t = t} h d i e j k) = not_open t ts h refl
unbound (G.in_parentheses {ts = ts} {t = t} h d i) =
    ap (λ f. is_sign S.LeftParenthesis f && is_binding ts) h ∙ closed-parenthesis t ts d i
unbound (G.lambda w h d i e k) = tt
unbound (G.arrow_from h d i e j l f k) = tt
unbound (G.let_in h d i j e k) = tt
unbound (G.let_braces h i d j l m e k) = tt
unbound (G.where_locals d h i e j m f k) = tt
unbound d = tt

-- where variables are bound, the first two tokens say so
pub bound-next : (t : SourceToken) (ts : Tokens) {x : List ℕ} → IsNamed x t → first binds_on ts ≡ true → names_ahead (t ∷ ts) ≡ true
bound-next t ts h e = ap (λ f. is_name f && first binds_on ts) h ∙ e

pub names-ahead : {ts us : Tokens} {c : SourceToken} {xs : List (List ℕ)} →
    Spells (listed S.Comma name) ts xs (c ∷ us) → binds_on c.form ≡ true → names_ahead ts ≡ true
names-ahead (G.one (G.a_name {t = t} {ts = ts} h)) e = bound-next t ts h e
names-ahead (G.more (G.a_name {t = t} {ts = ts} h) i d) e = bound-next t ts h (ap binds_on i)

pub bound-first : (t : SourceToken) (ts : Tokens) {x : List ℕ} → IsNamed x t → names_ahead (t ∷ ts) ≡ true → is_binding (t ∷ ts) ≡ true
bound-first t ts h e = ap (λ f. is_sign S.Underscore f || names_ahead (t ∷ ts)) h ∙ e

pub blank-first : (t : SourceToken) (ts : Tokens) → Is S.Underscore t → is_binding (t ∷ ts) ≡ true
blank-first t ts h = ap (λ f. is_sign S.Underscore f || names_ahead (t ∷ ts)) h

pub binds-ahead : {ts us : Tokens} {c : SourceToken} {xs : List (Meaning bind)} →
    Spells (listed S.Comma bind) ts xs (c ∷ us) → binds_on c.form ≡ true → is_binding ts ≡ true
binds-ahead (G.one (G.a_variable {t = t} {ts = ts} h)) e = bound-first t ts h (bound-next t ts h e)
binds-ahead (G.one (G.no_variable {t = t} {ts = ts} h)) e = blank-first t ts h
binds-ahead (G.more (G.a_variable {t = t} {ts = ts} h) i d) e = bound-first t ts h (bound-next t ts h (ap binds_on i))
binds-ahead (G.more (G.no_variable {t = t} {ts = ts} h) i d) e = blank-first t ts h

pub local-ahead : {ts rest : Tokens} {v : Meaning local} → Spells local ts v rest → names_ahead ts ≡ true
local-ahead (G.local_value d h e) = names-ahead d (ap binds_on h)
local-ahead (G.local_type d h e) = names-ahead d (ap binds_on h)
local-ahead (G.typed_local d h e i f) = names-ahead d (ap binds_on h)

-- table { begins a table of branches, but where what is in the braces is a record or a record type
pub no-brace : (ts : Tokens) → begins_at (pattern patt) ts ≡ true → no_fields_ahead ts ≡ false
no-brace [] e = refl
no-brace (t ∷ ts) e = ap (λ b. b && first opens_list ts) (not-closing t.form e)
  where
    not-closing : (f : TokenForm) → begins_pattern f ≡ true → is_sign S.RightBrace f ≡ false
    not-closing (Symbol S.RightBrace) e = impossible e
    not-closing f e = refl

pub branch-ahead : {ts rest : Tokens} {v : Meaning branch} → Spells branch ts v rest → (names_ahead ts || no_fields_ahead ts) ≡ false
branch-ahead (G.a_branch {ts = ts} {us = us} {t = t} d h e) =
    ap (λ b. b || no_fields_ahead ts) (sign-ahead ts us t h refl (ahead d)) ∙ no-brace ts (begun d)

pub branches-ahead : {ts rest : Tokens} {r : SourceToken} {cs : List (Meaning branch)} →
    Spells (semicolons branch) ts cs (r ∷ rest) → Is S.RightBrace r → first opens_list rest ≡ false →
    (names_ahead ts || no_fields_ahead ts) ≡ false
branches-ahead {rest = rest} G.empty h e =
    ap (λ f. is_name f && first binds_on rest || is_sign S.RightBrace f && first opens_list rest) h ∙ e
branches-ahead (G.last d) h e = branch-ahead d
branches-ahead (G.next d i f) h e = branch-ahead d

pub fields-ahead : {ts us : Tokens} {u l : SourceToken} {ls : List (Meaning local)} →
    Spells (semicolons local) ts ls (u ∷ l ∷ us) → Is S.RightBrace u → opens_list l.form ≡ true →
    (names_ahead ts || no_fields_ahead ts) ≡ true
fields-ahead {l = l} G.empty h e =
    ap (λ f. is_name f && binds_on l.form || is_sign S.RightBrace f && opens_list l.form) h ∙ e
fields-ahead {ts = ts} (G.last d) h e = ap (λ b. b || no_fields_ahead ts) (local-ahead d)
fields-ahead {ts = ts} (G.next d i f) h e = ap (λ b. b || no_fields_ahead ts) (local-ahead d)

pub other-first : (t : SourceToken) (ts : Tokens) {f : TokenForm} → t.form ≡ f → is_sign S.LeftBrace f ≡ false → branches_at (t ∷ ts) ≡ false
other-first t ts h e =
    ap (λ f. is_sign S.LeftBrace f && not (names_ahead ts || no_fields_ahead ts)) h
    ∙ ap (λ b. b && not (names_ahead ts || no_fields_ahead ts)) e

pub over-ahead : {ts us : Tokens} {l : SourceToken} {a : Term} → Spells (term exp6) ts a (l ∷ us) → opens_list l.form ≡ true → branches_at ts ≡ false
over-ahead (G.infix_term w d h e f k) i = elim w [ ]
over-ahead (G.tighter_term w d) i = elim w [ ]
over-ahead (G.fields {ts = ts} h d i j k) e =
    ap (λ f. is_sign S.LeftBrace f && not (names_ahead ts || no_fields_ahead ts)) h ∙ ap not (fields-ahead d i e)
over-ahead (G.variable {ts = ts} {t = t} h k) e = other-first t ts h refl
over-ahead (G.literal {ts = ts} {t = t} h k) e = other-first t ts h.1 refl
over-ahead (G.literal_in_brackets {ts = ts} {l = l} {t = t} {r = r} h i j k) e = other-first l (t ∷ r ∷ ts) h refl
over-ahead (G.number {ts = ts} {t = t} h k) e = other-first t ts h.1 refl
over-ahead (G.no_words {ts = ts} {l = l} {r = r} h i k) e = other-first l (r ∷ ts) h refl
over-ahead (G.list_category {ts = ts} {l = l} {t = t} {r = r} h i j k) e = other-first l (t ∷ r ∷ ts) h refl
over-ahead (G.sort {ts = ts} {t = t} w h k) e = other-first t ts h refl
over-ahead (G.tuple {ts = ts} {t = t} h d i k) e = other-first t ts h refl
over-ahead (G.typed {ts = ts} {t = t} h d i f j k) e = other-first t ts h refl
over-ahead (G.in_parentheses {ts = ts} {t = t} h d i) e = other-first t ts h refl

-- let { begins locals in braces
pub local-brace : (f : TokenForm) → is_name f ≡ true → is_sign S.LeftBrace f ≡ false
local-brace (Symbol S.LeftBrace) e = impossible e
local-brace f e = refl

pub locals-ahead : {ts us : Tokens} {u : SourceToken} {ls : List (Meaning local)} →
    Spells (semicolons local) ts ls (u ∷ us) → IsReserved W.InWord u → first (is_sign S.LeftBrace) ts ≡ false
locals-ahead G.empty h = ap (is_sign S.LeftBrace) h
locals-ahead {ts = ts} (G.last d) h = excludes local (is_sign S.LeftBrace) local-brace ts (begun d)
locals-ahead {ts = ts} (G.next d i e) h = excludes local (is_sign S.LeftBrace) local-brace ts (begun d)
