-- What is to be shown of each part that is spelled, and how a tighter term or pattern is a looser one.
use Rattle.std.proofs.Math.Dec.{eqb_refl}
use Rattle.std.specs.Prelude.{T}
use Rattle.std.proofs.Common.{◌≡◌, ap, sym, ◌∙◌, refl, ℕ, List, [], ◌∷◌, Bool, true, false, not, ◌||◌, Some}
use Rattle.gft_core.specs.declared.place.Place.{Place}
use Rattle.gft_syntax.specs.declared.module.Inherited.TheVariants.{Whole}
use Rattle.gft_syntax.specs.declared.pattern.Pattern.{Pattern, roll-Pattern, out-Pattern}
use Rattle.gft_syntax.specs.declared.pattern.Pattern.TheOpen as P
use Rattle.gft_syntax.specs.declared.pattern.Pattern.TheViews.{roll-out-Pattern}
use Rattle.gft_syntax.specs.declared.reference.Reference.TheVariants.{Written}
use Rattle.gft_syntax.specs.declared.term.Term.{Term, roll-Term, out-Term}
use Rattle.gft_syntax.specs.declared.term.Term.TheOpen as T
use Rattle.gft_syntax.specs.declared.term.Term.TheViews.{roll-out-Term}
use Rattle.gft_syntax.specs.declared.token.Reserved.TheVariants as W
use Rattle.gft_syntax.specs.declared.token.SourceToken.{SourceToken}
use Rattle.gft_syntax.specs.declared.token.Symbol.{Symbol as Sign}
use Rattle.gft_syntax.specs.declared.token.Symbol.TheVariants as S
use Rattle.gft_syntax.specs.declared.token.TokenForm.{TokenForm}
use Rattle.gft_syntax.specs.declared.token.TokenForm.TheVariants.{Reserved, Symbol}
use Rattle.gft_model.proofs.GrammarRules as G
use Rattle.gft_model.proofs.GrammarRules.{Tokens, IsNamed, FirstAt, Spells, Part, Meaning, Level, term, pattern, exp, exp1, exp2, exp3, exp4, exp5, patt, patt1, patt2, patt3, patt4, local, branch, field, placed_name, inherited, listed, semicolons, many}
use Rattle.gft_model.proofs.ReadingTokens.{first, quiet, denied, Gives, now, down, goes, sees, starts, stays, decided, alike}
use Rattle.gft_model.proofs.FirstTokens.{is_sign, sign_number, is_key, is_closer, table_key, case_key, variants_key, begins_atom, begins_pattern, begins_application, begins_operand, begins, may_be_empty, begins_at, projection_goes_on, application_goes_on, selection_goes_on, glue_goes_on, append_goes_on, term_goes_on, star_goes_on, constructor_goes_on, sequence_goes_on, pattern_goes_on, goes_on, Stops, binding_at, opens_list}
use Rattle.gft_model.proofs.Descent.{Reader, read, project, apply, select, sequence, alternate, descend, read_more, read_restriction, read_head, read_argument, project_by, read_operand, select_by, read_right, read_tail, operand_first, read_by, read_term, star_or_as, read_constructor, pattern_by}
use Rattle.gft_model.proofs.Beginnings.{impossible, or-left, or-right, excludes, first_at, first-quiet, quieter, begun}
use Rattle.gft_model.proofs.Lookahead.{unbound}

-- a part is read, up to the rest
abbrev pub IsRead : (g : Part) → Tokens → Meaning g → Tokens → Type 0
IsRead g ts a rest = Gives (λ n. descend n (read g) ts) (a, rest)

-- what a list asks of its parts: that they stop at what stands between and after them
abbrev pub Closes : (TokenForm → Bool) → Type 0
Closes p =
    (p (Symbol S.RightBrace) ≡ false) × (p (Symbol S.RightBracket) ≡ false) × (p (Reserved W.InWord) ≡ false)

abbrev pub Fits : Part → Type 0
Fits (listed s g) = Fits g × (goes_on g (Symbol s) ≡ false)
Fits (semicolons g) =
    Fits g × (may_be_empty g ≡ false) × (goes_on g (Symbol S.Semicolon) ≡ false) × Closes (goes_on g) × Closes (begins g)
Fits (many g) = Fits g × (may_be_empty g ≡ false) × ((f : TokenForm) → goes_on g f ≡ false)
Fits g = Unit {0}

pub closed-by : (p : TokenForm → Bool) → Closes p → (f : TokenForm) → is_closer f ≡ true → p f ≡ false
closed-by p c (Symbol S.RightBrace) e = c.0
closed-by p c (Symbol S.RightBracket) e = c.1
closed-by p c (Reserved W.InWord) e = c.2
closed-by p c f e = impossible e

pub no-closer : (p : TokenForm → Bool) → Closes p → (f : TokenForm) → p f ≡ true → is_closer f ≡ false
no-closer p c (Symbol S.RightBrace) e = impossible (sym c.0 ∙ e)
no-closer p c (Symbol S.RightBracket) e = impossible (sym c.1 ∙ e)
no-closer p c (Reserved W.InWord) e = impossible (sym c.2 ∙ e)
no-closer p c f e = refl

pub not-not : (b : Bool) → not b ≡ false → b ≡ true
not-not true e = refl
not-not false e = impossible (sym e)

-- the next token stops a part
pub halts : (g : Part) {c f : TokenForm} → c ≡ f → goes_on g f ≡ false → not (goes_on g c) ≡ true
halts g h e = ap (λ f. not (goes_on g f)) h ∙ ap not e

pub quiet-all : (p : TokenForm → Bool) (ts : Tokens) → ((f : TokenForm) → p f ≡ false) → quiet p ts ≡ true
quiet-all p [] e = refl
quiet-all p (t ∷ ts) e = ap not (e t.form)

-- what is to be shown of a part: it is read; of a part that goes on to the right of itself, it is as if it had been
-- read and were gone on with
abbrev pub Claim : (g : Part) → Tokens → Meaning g → Tokens → Type 0
Claim (term exp5) ts e rest =
    (p : Place) → FirstAt ts p → (out : Term × Tokens) →
    Gives (λ n. descend n (project e p) rest) out → Gives (λ n. descend n (read (term exp5)) ts) out
Claim (term exp4) ts e rest =
    (p : Place) → FirstAt ts p → Stops (term exp5) rest → (out : Term × Tokens) →
    Gives (λ n. descend n (apply e p) rest) out → Gives (λ n. descend n (read (term exp4)) ts) out
Claim (term exp3) ts e rest =
    (p : Place) → FirstAt ts p → Stops (term exp4) rest → (out : Term × Tokens) →
    Gives (λ n. descend n (select e p) rest) out → Gives (λ n. descend n (read (term exp3)) ts) out
Claim (pattern patt1) ts q rest =
    (p : Place) → FirstAt ts p → Stops (pattern patt2) rest → (out : Pattern × Tokens) →
    Gives (λ n. descend n (sequence q p) rest) out → Gives (λ n. descend n (read (pattern patt1)) ts) out
Claim (pattern patt) ts q rest =
    (p : Place) → FirstAt ts p → Stops (pattern patt1) rest → (out : Pattern × Tokens) →
    Gives (λ n. descend n (alternate q p) rest) out → Gives (λ n. descend n (read (pattern patt)) ts) out
Claim g ts a rest = Fits g → Stops g rest → IsRead g ts a rest

-- tests that fail leave what was read
pub selected : (r : Reader) (e : Term) (p : Place) (t : SourceToken) (us : Tokens) (f : TokenForm) →
    selection_goes_on f ≡ false → select_by r e p t us f ≡ Some (e, t ∷ us)
selected r e p t us (Symbol S.Exclamation) h = impossible (sym h)
selected r e p t us (Symbol S.DoubleStar) h = impossible (sym h)
selected r e p t us (Symbol S.Star) h = impossible (sym h)
selected r e p t us f h = refl

pub tailless : (r : Reader) (p : Place) (ts : Tokens) (e : Term) (t : SourceToken) (us : Tokens) (f : TokenForm) →
    term_goes_on exp f ≡ false → read_tail r p ts e t us f ≡ Some (e, t ∷ us)
tailless r p ts e t us (Symbol S.Bar) h = impossible (sym h)
tailless r p ts e t us (Symbol S.Arrow) h = impossible (sym h)
tailless r p ts e t us (Symbol S.DoubleArrow) h = impossible (sym h)
tailless r p ts e t us (Reserved W.Where) h = impossible (sym h)
tailless r p ts e t us f h = refl

pub plain_pattern : (r : Reader) (p : Place) (ts : Tokens) (q : Pattern) (t : SourceToken) (us : Tokens) (f : TokenForm) →
    star_goes_on f ≡ false → star_or_as r p ts q t us f ≡ Some (q, t ∷ us)
plain_pattern r p ts q t us (Symbol S.Star) h = impossible (sym h)
plain_pattern r p ts q t us (Symbol S.At) h = impossible (sym h)
plain_pattern r p ts q t us f h = refl

-- looser levels stop at less
pub level-stops : (i j : Level) → ((f : TokenForm) → term_goes_on i f ≡ false → term_goes_on j f ≡ false) →
    (ts : Tokens) → Stops (term i) ts → Stops (term j) ts
level-stops i j w ts e = quieter (term_goes_on i) (term_goes_on j) w ts e

pub stops-exp : (ts : Tokens) → Stops (term exp) ts → Stops (term exp1) ts
stops-exp = level-stops exp exp1 (λ f e. or-left (append_goes_on f) _ e)

pub stops-exp1 : (ts : Tokens) → Stops (term exp1) ts → Stops (term exp2) ts
stops-exp1 = level-stops exp1 exp2 (λ f e. or-left (glue_goes_on f) _ e)

pub stops-exp2 : (ts : Tokens) → Stops (term exp2) ts → Stops (term exp3) ts
stops-exp2 = level-stops exp2 exp3 (λ f e. or-left (selection_goes_on f) _ e)

pub stops-exp3 : (ts : Tokens) → Stops (term exp3) ts → Stops (term exp4) ts
stops-exp3 = level-stops exp3 exp4 (λ f e. or-left (application_goes_on f) _ e)

pub stops-exp4 : (ts : Tokens) → Stops (term exp4) ts → Stops (term exp5) ts
stops-exp4 = level-stops exp4 exp5 (λ f e. or-left (projection_goes_on f) _ e)

-- a part that is claimed is read, where the rest stops it
pub reads : (g : Part) {ts rest : Tokens} {a : Meaning g} → Spells g ts a rest → Claim g ts a rest → Fits g → Stops g rest → IsRead g ts a rest
reads (term exp5) {ts} {rest} {a} d c fits stop =
    let place = first_at (term exp5) ts refl (begun d) in
    c place.0 place.1 (a, rest) (down _ (stays _ _ projection_goes_on stop (λ n t us f h. ap (project_by (descend n) a place.0 t us) h)))
reads (term exp4) {ts} {rest} {a} d c fits stop =
    let place = first_at (term exp4) ts refl (begun d) in
    let quiet_atom = quieter application_goes_on begins_atom (λ f e. or-right (projection_goes_on f) _ e) rest stop in
    c place.0 place.1 (stops-exp4 rest stop) (a, rest)
    (down _ (decided (λ n b. read_argument (descend n) a place.0 rest b) (first-quiet begins_atom rest quiet_atom) (now refl)))
reads (term exp3) {ts} {rest} {a} d c fits stop =
    let place = first_at (term exp3) ts refl (begun d) in
    c place.0 place.1 (stops-exp3 rest stop) (a, rest) (down _ (stays _ _ selection_goes_on stop (λ n t us f h. selected (descend n) a place.0 t us f h)))
reads (pattern patt1) {ts} {rest} {a} d c fits stop =
    let place = first_at (pattern patt1) ts refl (begun d) in
    c place.0 place.1 (quieter sequence_goes_on constructor_goes_on (λ f e. or-left (constructor_goes_on f) _ e) rest stop) (a, rest)
    (down _ (stays _ _ (is_sign S.Plus) (quieter sequence_goes_on (is_sign S.Plus) (λ f e. or-right (constructor_goes_on f) _ e) rest stop)
    (λ n t us f h. ap (pattern_by _ a t us) h)))
reads (pattern patt) {ts} {rest} {a} d c fits stop =
    let place = first_at (pattern patt) ts refl (begun d) in
    c place.0 place.1 (quieter (pattern_goes_on patt) sequence_goes_on (λ f e. or-left (sequence_goes_on f) _ e) rest stop) (a, rest)
    (down _ (stays _ _ (is_sign S.Bar) (quieter (pattern_goes_on patt) (is_sign S.Bar) (λ f e. or-right (sequence_goes_on f) _ e) rest stop)
    (λ n t us f h. ap (pattern_by _ a t us) h)))
reads g d c fits stop = c fits stop

-- the test of a symbol is passed by it
pub holds : (b : Bool) → T b → b ≡ true
holds true h = refl
holds false h = absurd h

pub same-sign : (s : Sign) → is_sign s (Symbol s) ≡ true
same-sign s = holds (is_sign s (Symbol s)) (eqb_refl (sign_number s))

-- the same term, the same pattern
pub term_is : {e : Term} {d : T.Term-F Term} → out-Term e ≡ d → roll-Term d ≡ e
term_is {e} {d} h = ap roll-Term (sym h) ∙ roll-out-Term e

pub pattern_is : {q : Pattern} {d : P.Pattern-F Pattern} → out-Pattern q ≡ d → roll-Pattern d ≡ q
pattern_is {q} {d} h = ap roll-Pattern (sym h) ∙ roll-out-Pattern q

pub up_to : {A : Type 0} (rest : Tokens) {a b : A} → a ≡ b → ◌≡◌ {A = A × Tokens} (a, rest) (b, rest)
up_to {A} rest e = ap {B = A × Tokens} (λ x. (x, rest)) e

-- a place is that of the first token
pub place_is : (t : SourceToken) (ts : Tokens) {p : Place} → FirstAt (t ∷ ts) p → t.place ≡ p
place_is t ts e = cc

pub one_place : (ts : Tokens) {p q : Place} → FirstAt ts p → FirstAt ts q → p ≡ q
one_place ts {p} {q} e h = let same : Some p ≡ Some q = sym e ∙ h in cc

-- tests of the first token of an operand
pub not-key : (f : TokenForm) → begins_atom f ≡ true → is_key case_key f ≡ false
not-key (Reserved W.Case) e = impossible e
not-key f e = refl

pub not-variants : (f : TokenForm) → begins_atom f ≡ true → is_key variants_key f ≡ false
not-variants (Reserved W.Variants) e = impossible e
not-variants f e = refl

pub not-table : (f : TokenForm) → begins_application f ≡ true → is_key table_key f ≡ false
not-table (Reserved W.Table) e = impossible e
not-table f e = refl

-- an operand is read first where a term begins with none of the words and signs of terms
pub operand-by : (r : Reader) (p : Place) (t : SourceToken) (us : Tokens) (f : TokenForm) → begins_operand f ≡ true →
    read_by r p t us f ≡ operand_first r p (t ∷ us)
operand-by r p t us (Symbol S.Backslash) e = impossible e
operand-by r p t us (Symbol S.DoubleBackslash) e = impossible e
operand-by r p t us (Reserved W.Let) e = impossible e
operand-by r p t us f e = refl

pub operand-read : (ts : Tokens) (p : Place) (out : Term × Tokens) → FirstAt ts p → begins_at (term exp1) ts ≡ true → binding_at ts ≡ false →
    Gives (λ n. operand_first (descend n) p ts) out → Gives (λ n. descend n (read (term exp)) ts) out
operand-read [] p out f b u g = impossible b
operand-read (t ∷ us) p out f b u g =
    down _ (starts (t ∷ us) _ f (decided (λ n c. read_term (descend n) p (t ∷ us) c) u
    (sees _ refl (alike (λ n. operand-by (descend n) p t us t.form b) g))))

-- a tighter term is a looser one
pub up-to-exp4 : {ts rest : Tokens} {e : Term} → Spells (term exp5) ts e rest → Claim (term exp5) ts e rest → Claim (term exp4) ts e rest
up-to-exp4 {ts} {rest} {e} d c p f stop out g =
    down _ (starts ts _ f (goes _ (decided (λ n b. read_head (descend n) p ts b (first (is_key variants_key) ts)) (excludes (term exp5) (is_key case_key) not-key ts (begun d))
    (decided (λ n b. read_head (descend n) p ts false b) (excludes (term exp5) (is_key variants_key) not-variants ts (begun d)) (reads (term exp5) d c tt stop))) g))

pub up-to-exp3 : {ts rest : Tokens} {e : Term} → Spells (term exp4) ts e rest → Claim (term exp4) ts e rest → Claim (term exp3) ts e rest
up-to-exp3 {ts} {rest} {e} d c p f stop out g =
    down _ (starts ts _ f (goes _ (decided (λ n b. read_operand (descend n) p ts b) (excludes (term exp4) (is_key table_key) not-table ts (begun d))
    (reads (term exp4) d c tt stop)) g))

pub up-to-exp2 : {ts rest : Tokens} {e : Term} → Spells (term exp3) ts e rest → Claim (term exp3) ts e rest → Claim (term exp2) ts e rest
up-to-exp2 {ts} {rest} {e} d c fits stop =
    let place = first_at (term exp3) ts refl (begun d) in
    down _ (starts ts _ place.1 (goes _ (reads (term exp3) d c tt (stops-exp2 rest stop))
    (stays _ _ (is_sign S.Plus) (quieter glue_goes_on (is_sign S.Plus) (λ f h. or-right (selection_goes_on f) _ h) rest stop)
    (λ n t us f h. ap (read_right (descend n) exp2 T.Glue e place.0 t us) h))))

pub up-to-exp1 : {ts rest : Tokens} {e : Term} → Spells (term exp2) ts e rest → Claim (term exp2) ts e rest → Claim (term exp1) ts e rest
up-to-exp1 {ts} {rest} {e} d c fits stop =
    let place = first_at (term exp2) ts refl (begun d) in
    down _ (starts ts _ place.1 (goes _ (reads (term exp2) d c tt (stops-exp1 rest stop))
    (stays _ _ (is_sign S.DoublePlus) (quieter append_goes_on (is_sign S.DoublePlus) (λ f h. or-right (glue_goes_on f) _ h) rest stop)
    (λ n t us f h. ap (read_right (descend n) exp1 T.Concat e place.0 t us) h))))

pub up-to-exp : {ts rest : Tokens} {e : Term} → Spells (term exp1) ts e rest → Claim (term exp1) ts e rest → Claim (term exp) ts e rest
up-to-exp {ts} {rest} {e} d c fits stop =
    let place = first_at (term exp1) ts refl (begun d) in
    operand-read ts place.0 (e, rest) place.1 (begun d) (unbound d) (goes _ (reads (term exp1) d c tt (stops-exp rest stop))
    (stays _ _ (term_goes_on exp) stop (λ n t us f h. tailless (descend n) place.0 ts e t us f h)))

pub up-to-patt3 : {ts rest : Tokens} {q : Pattern} → Spells (pattern patt4) ts q rest → Claim (pattern patt4) ts q rest → Claim (pattern patt3) ts q rest
up-to-patt3 {ts} {rest} {q} d c fits stop =
    let place = first_at (pattern patt4) ts refl (begun d) in
    down _ (starts ts _ place.1 (goes _ (reads (pattern patt4) d c tt (quiet-all _ rest (λ f. refl)))
    (stays _ _ star_goes_on stop (λ n t us f h. plain_pattern (descend n) place.0 ts q t us f h))))

pub up-to-patt2 : {ts rest : Tokens} {q : Pattern} → Spells (pattern patt3) ts q rest → Claim (pattern patt3) ts q rest → Claim (pattern patt2) ts q rest
up-to-patt2 {ts} {rest} {q} d c fits stop =
    let place = first_at (pattern patt3) ts refl (begun d) in
    let tight = λ (f : TokenForm) (h : constructor_goes_on f ≡ false). or-right (star_goes_on f) (is_sign S.Dot f || begins_pattern f) h in
    down _ (starts ts _ place.1 (goes _
    (reads (pattern patt3) d c tt (quieter constructor_goes_on star_goes_on (λ f h. or-left (star_goes_on f) _ h) rest stop))
    (decided (λ n b. read_constructor (descend n) place.0 ts q rest b (first begins_pattern rest))
    (first-quiet (is_sign S.Dot) rest (quieter constructor_goes_on (is_sign S.Dot) (λ f h. or-left (is_sign S.Dot f) _ (tight f h)) rest stop))
    (decided (λ n b. read_constructor (descend n) place.0 ts q rest false b)
    (first-quiet begins_pattern rest (quieter constructor_goes_on begins_pattern (λ f h. or-right (is_sign S.Dot f) _ (tight f h)) rest stop))
    (now refl)))))

pub up-to-patt1 : {ts rest : Tokens} {q : Pattern} → Spells (pattern patt2) ts q rest → Claim (pattern patt2) ts q rest → Claim (pattern patt1) ts q rest
up-to-patt1 {ts} {rest} {q} d c p f stop out g = down _ (starts ts _ f (goes _ (reads (pattern patt2) d c tt stop) g))

pub up-to-patt : {ts rest : Tokens} {q : Pattern} → Spells (pattern patt1) ts q rest → Claim (pattern patt1) ts q rest → Claim (pattern patt) ts q rest
up-to-patt {ts} {rest} {q} d c p f stop out g = down _ (starts ts _ f (goes _ (reads (pattern patt1) d c tt stop) g))

-- a list closes where the next token does
pub closes-list : (g : Part) {c f : TokenForm} → c ≡ f → is_closer f ≡ true → not (goes_on (semicolons g) c) ≡ true
closes-list g h e = ap (λ f. not (not (is_closer f))) h ∙ ap (λ b. not (not b)) e

-- an item of a list begins with no closing token
pub not-closing : (g : Part) (ts : Tokens) → Fits (semicolons g) → begins_at g ts ≡ true → quiet (λ f. not (is_closer f)) ts ≡ false
not-closing g [] fits b = impossible (sym fits.1 ∙ b)
not-closing g (t ∷ ts) fits b = ap (λ c. not (not c)) (no-closer (begins g) fits.4 t.form b)

-- and stops at one
pub item-stops : (g : Part) (ts : Tokens) → Fits (semicolons g) → Stops (semicolons g) ts → Stops g ts
item-stops g ts fits stop =
    quieter (goes_on (semicolons g)) (goes_on g) (λ f e. closed-by (goes_on g) fits.3 f (not-not (is_closer f) e)) ts stop

pub not-semicolon : (ts : Tokens) (g : Part) → Stops (semicolons g) ts → quiet (is_sign S.Semicolon) ts ≡ true
not-semicolon ts g stop =
    quieter (goes_on (semicolons g)) (is_sign S.Semicolon)
    (λ f e. closed-by (is_sign S.Semicolon) (refl, refl, refl) f (not-not (is_closer f) e)) ts stop

-- the lists of the grammar
abbrev pub of_items : (g : Part) → Type 0
of_items g = Fits (semicolons g)

pub locals-fit : Fits (semicolons local)
locals-fit = (tt, refl, refl, (refl, refl, refl), (refl, refl, refl))

pub branches-fit : Fits (semicolons branch)
branches-fit = (tt, refl, refl, (refl, refl, refl), (refl, refl, refl))

pub terms-fit : Fits (semicolons (term exp))
terms-fit = (tt, refl, refl, (refl, refl, refl), (refl, refl, refl))

pub fields-fit : Fits (semicolons field)
fields-fit = (tt, refl, refl, (refl, refl, refl), (refl, refl, refl))

-- a record type opens with a bracket of its own
pub opens-not : (f : TokenForm) → application_goes_on f ≡ false → opens_list f ≡ false
opens-not (Symbol S.LeftBrace) e = impossible (sym e)
opens-not (Symbol S.LeftBracket) e = impossible (sym e)
opens-not f e = refl

pub no-dot : (f : TokenForm) → begins_atom f ≡ true → projection_goes_on f ≡ false
no-dot (Symbol S.Dot) e = impossible e
no-dot f e = refl

pub no-star : (f : TokenForm) → begins_pattern f ≡ true → star_goes_on f ≡ false
no-star (Symbol S.Star) e = impossible e
no-star (Symbol S.At) e = impossible e
no-star f e = refl

pub no-dot-pattern : (f : TokenForm) → begins_pattern f ≡ true → is_sign S.Dot f ≡ false
no-dot-pattern (Symbol S.Dot) e = impossible e
no-dot-pattern f e = refl

pub unrestricted : (r : Reader) (n : Meaning placed_name) (t : SourceToken) (us : Tokens) (f : TokenForm) →
    goes_on inherited f ≡ false → read_restriction r n t us f ≡ Some (Whole n, t ∷ us)
unrestricted r n t us (Symbol S.LeftBracket) e = impossible (sym e)
unrestricted r n t us (Symbol S.Minus) e = impossible (sym e)
unrestricted r n t us f e = refl

pub stops-local : (ts : Tokens) → Stops local ts → Stops (term exp) ts
stops-local ts e = quieter (goes_on local) (term_goes_on exp) (λ f h. or-left (term_goes_on exp f) _ h) ts e

pub arguments-stop : (ts : Tokens) → Stops (pattern patt2) ts → quiet begins_pattern ts ≡ true
arguments-stop ts e =
    quieter constructor_goes_on begins_pattern (λ f h. or-right (is_sign S.Dot f) _ (or-right (star_goes_on f) (is_sign S.Dot f || begins_pattern f) h)) ts e

-- one item of a list
pub read-one : (g : Part) (s : Sign) {ts rest : Tokens} {a : Meaning g} → Spells g ts a rest → Claim g ts a rest →
    Fits (listed s g) → Stops (listed s g) rest → IsRead (listed s g) ts (a ∷ []) rest
read-one g s {rest = rest} {a = a} d c fits stop =
    let tight = λ (f : TokenForm) (h : (goes_on g f || is_sign s f) ≡ false). or-left (goes_on g f) (is_sign s f) h in
    down _ (goes _ (reads g d c fits.0 (quieter (goes_on (listed s g)) (goes_on g) tight rest stop))
    (stays _ _ (is_sign s) (quieter (goes_on (listed s g)) (is_sign s) (λ f h. or-right (goes_on g f) (is_sign s f) h) rest stop)
    (λ n t us f h. ap (read_more (descend n (read (listed s g)) us) a t us) h)))

-- a name as a pattern, before what is no star and no at
pub read-name : (t : SourceToken) (ts : Tokens) {x : List ℕ} → IsNamed x t → quiet star_goes_on ts ≡ true →
    IsRead (pattern patt3) (t ∷ ts) (roll-Pattern (P.Name (Written x) t.place)) ts
read-name t ts {x} h q =
    down _ (starts (t ∷ ts) _ refl (goes _ (down _ (sees _ h (now refl)))
    (stays _ _ star_goes_on q (λ n u us f e. plain_pattern (descend n) t.place (t ∷ ts) (roll-Pattern (P.Name (Written x) t.place)) u us f e))))

pub first-of-many : {g : Part} {ts rest : Tokens} {a : Meaning g} {bs : List (Meaning g)} → Spells (many g) ts (a ∷ bs) rest → begins_at g ts ≡ true
first-of-many (G.some d e) = begun d

pub not-begun : (g : Part) (ts : Tokens) → may_be_empty g ≡ false → quiet (begins g) ts ≡ true → begins_at g ts ≡ false
not-begun g [] m e = m
not-begun g (t ∷ ts) m e = denied (begins g t.form) e

-- the form that a place gives
pub placed_term : {e : Term} {p q : Place} (d : Place → T.Term-F Term) → out-Term e ≡ d p → p ≡ q → roll-Term (d q) ≡ e
placed_term d h s = term_is (h ∙ ap d s)

pub placed_pattern : {r : Pattern} {p q : Place} (d : Place → P.Pattern-F Pattern) → out-Pattern r ≡ d p → p ≡ q → roll-Pattern (d q) ≡ r
placed_pattern d h s = pattern_is (h ∙ ap d s)
