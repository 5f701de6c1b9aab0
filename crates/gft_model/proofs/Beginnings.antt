-- How what is spelled begins.
use Rattle.std.proofs.Common.{◌≡◌, ap, sym, ◌∙◌, refl, [], ◌∷◌, Bool, true, false, not, ◌&&◌, ◌||◌}
use Rattle.gft_core.specs.declared.place.Place.{Place}
use Rattle.gft_syntax.specs.declared.token.Symbol.{Symbol as Sign}
use Rattle.gft_syntax.specs.declared.token.Symbol.TheVariants as S
use Rattle.gft_syntax.specs.declared.token.TokenForm.{TokenForm}
use Rattle.gft_model.proofs.GrammarRules as G
use Rattle.gft_model.proofs.GrammarRules.{Tokens, Is, IsReserved, IsNamed, FirstAt, Spells, Part, Meaning, Level, PatternLevel, term, pattern, exp, exp1, exp2, exp3, exp4, exp5, exp6, patt, patt1, patt2, patt3, patt4, local, branch, field, alternative, context, constructor, name, bind, placed_name, category_name, inherited, opened, substitution, listed, semicolons, many, Infix, Tighter}
use Rattle.gft_model.proofs.ReadingTokens.{first, quiet, denied}
use Rattle.gft_model.proofs.FirstTokens.{is_sign, is_key, table_key, case_key, variants_key, let_key, begins_atom, begins_application, begins_operand, begins_term, begins, may_be_empty, begins_at}

pub impossible : {A : Type 0} → false ≡ true → A
impossible e = cc

pub or-left : (a b : Bool) → (a || b) ≡ false → a ≡ false
or-left true b e = e
or-left false b e = refl

pub or-right : (a b : Bool) → (a || b) ≡ false → b ≡ false
or-right true b e = impossible (sym e)
or-right false b e = e

pub and-false : (b : Bool) → (b && false) ≡ false
and-false true = refl
and-false false = refl

-- a first token of a part is one of a wider part
pub wider : (g h : Part) → may_be_empty g ≡ false → ((f : TokenForm) → begins g f ≡ true → begins h f ≡ true) →
    (ts : Tokens) → begins_at g ts ≡ true → begins_at h ts ≡ true
wider g h m w [] e = impossible (sym m ∙ e)
wider g h m w (t ∷ ts) e = w t.form e

-- and passes no test that no first token passes
pub excludes : (g : Part) (q : TokenForm → Bool) → ((f : TokenForm) → begins g f ≡ true → q f ≡ false) →
    (ts : Tokens) → begins_at g ts ≡ true → first q ts ≡ false
excludes g q w [] e = refl
excludes g q w (t ∷ ts) e = w t.form e

pub begun-first : (g : Part) (ts : Tokens) → may_be_empty g ≡ false → begins_at g ts ≡ true → first (begins g) ts ≡ true
begun-first g [] m e = impossible (sym m ∙ e)
begun-first g (t ∷ ts) m e = e

pub first_at : (g : Part) (ts : Tokens) → may_be_empty g ≡ false → begins_at g ts ≡ true → (p : Place) × FirstAt ts p
first_at g [] m e = impossible (sym m ∙ e)
first_at g (t ∷ ts) m e = (t.place, refl)

pub quiet-first : (q : TokenForm → Bool) (ts : Tokens) → first q ts ≡ false → quiet q ts ≡ true
quiet-first q [] e = refl
quiet-first q (t ∷ ts) e = ap not e

pub first-quiet : (q : TokenForm → Bool) (ts : Tokens) → quiet q ts ≡ true → first q ts ≡ false
first-quiet q [] e = refl
first-quiet q (t ∷ ts) e = denied (q t.form) e

pub quieter : (p q : TokenForm → Bool) → ((f : TokenForm) → p f ≡ false → q f ≡ false) → (ts : Tokens) → quiet p ts ≡ true → quiet q ts ≡ true
quieter p q w [] e = refl
quieter p q w (t ∷ ts) e = ap not (w t.form (denied (p t.form) e))

pub listed-begins : (s : Sign) (g : Part) (ts : Tokens) → begins_at g ts ≡ true → begins_at (listed s g) ts ≡ true
listed-begins s g [] e = e
listed-begins s g (t ∷ ts) e = e

pub semicolons-begin : (g : Part) (ts : Tokens) → begins_at (semicolons g) ts ≡ true
semicolons-begin g [] = refl
semicolons-begin g (t ∷ ts) = refl

pub many-begin : (g : Part) (ts : Tokens) → begins_at (many g) ts ≡ true
many-begin g [] = refl
many-begin g (t ∷ ts) = refl

pub atom-application : (f : TokenForm) → begins_atom f ≡ true → begins_application f ≡ true
atom-application f e = ap (λ b. b || is_key case_key f || is_key variants_key f) e

pub application-operand : (f : TokenForm) → begins_application f ≡ true → begins_operand f ≡ true
application-operand f e = ap (λ b. b || is_key table_key f) e

pub operand-term : (f : TokenForm) → begins_operand f ≡ true → begins_term exp f ≡ true
operand-term f e = ap (λ b. b || is_sign S.Backslash f || is_sign S.DoubleBackslash f || is_key let_key f) e

pub wider-term : {i j : Level} → Tighter i j → (ts : Tokens) → begins_at (term j) ts ≡ true → begins_at (term i) ts ≡ true
wider-term G.below_exp = wider (term exp1) (term exp) refl operand-term
wider-term G.below_exp1 = wider (term exp2) (term exp1) refl (λ f e. e)
wider-term G.below_exp2 = wider (term exp3) (term exp2) refl (λ f e. e)
wider-term G.below_exp3 = wider (term exp4) (term exp3) refl application-operand
wider-term G.below_exp4 = wider (term exp5) (term exp4) refl atom-application
wider-term G.below_exp5 = wider (term exp6) (term exp5) refl (λ f e. e)

-- what is spelled begins as its part does
pub begun : {g : Part} {ts rest : Tokens} {v : Meaning g} → Spells g ts v rest → begins_at g ts ≡ true
begun (G.one {g = g} {s = s} {ts = ts} d) = listed-begins s g ts (begun d)
begun (G.more {g = g} {s = s} {ts = ts} d h e) = listed-begins s g ts (begun d)
begun (G.empty {g = g} {ts = ts}) = semicolons-begin g ts
begun (G.last {g = g} {ts = ts} d) = semicolons-begin g ts
begun (G.next {g = g} {ts = ts} d h e) = semicolons-begin g ts
begun (G.none {g = g} {ts = ts}) = many-begin g ts
begun (G.some {g = g} {ts = ts} d e) = many-begin g ts
begun (G.a_name h) = ap (begins name) h
begun (G.a_variable h) = ap (begins bind) h
begun (G.no_variable h) = ap (begins bind) h
begun (G.a_placed_name h) = ap (begins placed_name) h
begun (G.category_alone h) = ap (begins category_name) h
begun (G.category_of_lists h i j) = ap (begins category_name) h
begun (G.infix_term {ts = ts} G.alternatives d h e f k) = wider-term G.below_exp ts (begun d)
begun (G.infix_term {ts = ts} G.table_type d h e f k) = wider (term exp3) (term exp) refl operand-term ts (begun d)
begun (G.infix_term {ts = ts} G.function_type d h e f k) =
    wider (term exp3) (term exp) refl operand-term ts (wider-term G.below_exp3 ts (begun d))
begun (G.infix_term {ts = ts} G.append d h e f k) = wider-term G.below_exp1 ts (begun d)
begun (G.infix_term {ts = ts} G.glue d h e f k) = wider-term G.below_exp2 ts (begun d)
begun (G.infix_term G.selection d h e f k) = begun d
begun (G.infix_term G.extension d h e f k) = begun d
begun (G.infix_term G.pair d h e f k) = begun d
begun (G.tighter_term {ts = ts} w d) = wider-term w ts (begun d)
begun (G.lambda G.of_function h d i e k) = ap (begins (term exp)) h
begun (G.lambda G.of_table h d i e k) = ap (begins (term exp)) h
begun (G.arrow_from h d i e j l f k) = ap (begins (term exp)) h
begun (G.let_in h d i j e k) = ap (begins (term exp)) h
begun (G.let_braces h i d j l m e k) = ap (begins (term exp)) h
begun (G.where_locals {ts = ts} d h i e j l f k) = wider (term exp3) (term exp) refl operand-term ts (begun d)
begun (G.table h i d j k) = ap (begins (term exp3)) h
begun (G.table_over h d i e j k) = ap (begins (term exp3)) h
begun (G.table_list h d i e j k) = ap (begins (term exp3)) h
begun (G.application d e f k) = begun d
begun (G.case_of h d i j e l k) = ap (begins (term exp4)) h
begun (G.variants h i d j k) = ap (begins (term exp4)) h
begun (G.projection d h i f k) = begun d
begun (G.variable h k) = ap (begins (term exp6)) h
begun (G.literal h k) = ap (begins (term exp6)) h.1
begun (G.literal_in_brackets h i j k) = ap (begins (term exp6)) h
begun (G.number h k) = ap (begins (term exp6)) h.1
begun (G.no_words h i k) = ap (begins (term exp6)) h
begun (G.list_category h i j k) = ap (begins (term exp6)) h
begun (G.sort G.strings h k) = ap (begins (term exp6)) h
begun (G.sort G.types h k) = ap (begins (term exp6)) h
begun (G.sort G.parameter_types h k) = ap (begins (term exp6)) h
begun (G.sort G.numbers h k) = ap (begins (term exp6)) h
begun (G.sort G.predefined h k) = ap (begins (term exp6)) h
begun (G.fields h d i j k) = ap (begins (term exp6)) h
begun (G.tuple h d i k) = ap (begins (term exp6)) h
begun (G.typed h d i e j k) = ap (begins (term exp6)) h
begun (G.in_parentheses h d i) = ap (begins (term exp6)) h
begun (G.local_value {ts = ts} d h e) = wider (listed S.Comma name) local refl (λ f k. k) ts (begun d)
begun (G.local_type {ts = ts} d h e) = wider (listed S.Comma name) local refl (λ f k. k) ts (begun d)
begun (G.typed_local {ts = ts} d h e i f) = wider (listed S.Comma name) local refl (λ f k. k) ts (begun d)
begun (G.a_branch {ts = ts} d h e) = wider (pattern patt) branch refl (λ f k. k) ts (begun d)
begun (G.an_alternative {ts = ts} d h e i f) = wider (listed S.Comma name) alternative refl (λ f k. k) ts (begun d)
begun (G.with_variables h d i e j) = ap (begins context) h
begun (G.without_variables {ts = ts} d) = wider (term exp6) context refl (λ f k. k) ts (begun d)
begun (G.a_constructor h d) = ap (begins constructor) h
begun (G.infix_pattern {ts = ts} G.either d h e f k) = begun d
begun (G.infix_pattern {ts = ts} G.in_sequence d h e f k) = begun d
begun (G.tighter_pattern {ts = ts} {i = i} {j = j} w d) = wider (pattern j) (pattern i) refl (λ f k. k) ts (begun d)
begun (G.constructor_with h d k) = ap (begins (pattern patt2)) h
begun (G.constructor_of h i j d k) = ap (begins (pattern patt2)) h
begun (G.star {ts = ts} d h f k) = wider (pattern patt4) (pattern patt3) refl (λ f k. k) ts (begun d)
begun (G.as_pattern h i d k) = ap (begins (pattern patt3)) h
begun (G.anything h k) = ap (begins (pattern patt4)) h
begun (G.character h k) = ap (begins (pattern patt4)) h
begun (G.named_pattern h k) = ap (begins (pattern patt4)) h
begun (G.text_pattern h k) = ap (begins (pattern patt4)) h.1
begun (G.number_pattern h k) = ap (begins (pattern patt4)) h.1
begun (G.record_pattern h d i j k) = ap (begins (pattern patt4)) h
begun (G.tuple_pattern h d i k) = ap (begins (pattern patt4)) h
begun (G.pattern_in_parentheses h d i) = ap (begins (pattern patt4)) h
begun (G.a_field {ts = ts} d h e) = wider (listed S.Comma name) field refl (λ f k. k) ts (begun d)
begun (G.whole h) = ap (begins inherited) h
begun (G.only h i d j) = ap (begins inherited) h
begun (G.except h i j d k) = ap (begins inherited) h
begun (G.plainly h) = ap (begins opened) h
begun (G.by_alias h i j k l) = ap (begins opened) h
begun (G.instance_of h i j k l) = ap (begins substitution) h
