-- A slice spells at most one judgement.
use Rattle.std.proofs.Common.{◌≡◌, ap, sym, ◌∙◌, subst, refl, ℕ, List, [], ◌∷◌, Bool, true, false, not, ◌||◌, Option, Some, None}
use Rattle.gft_syntax.specs.declared.bind.Bind.{Bind}
use Rattle.gft_syntax.specs.declared.judgement.Definition.{Definition}
use Rattle.gft_syntax.specs.declared.judgement.Definition.TheVariants as D
use Rattle.gft_syntax.specs.declared.judgement.Judgement.{Judgement}
use Rattle.gft_syntax.specs.declared.judgement.Judgement.TheVariants as J
use Rattle.gft_syntax.specs.declared.judgement.Keyword.{Keyword}
use Rattle.gft_syntax.specs.declared.judgement.Keyword.TheVariants as K
use Rattle.gft_syntax.specs.declared.judgement.Setting.{Setting}
use Rattle.gft_syntax.specs.declared.reference.PlacedName.{PlacedName}
use Rattle.gft_syntax.specs.declared.reference.Reference.TheVariants.{Written}
use Rattle.gft_syntax.specs.declared.term.Term.{Term}
use Rattle.gft_syntax.specs.declared.token.Reserved.{Reserved as Word}
use Rattle.gft_syntax.specs.declared.token.Reserved.TheVariants as W
use Rattle.gft_syntax.specs.declared.token.SourceToken.{SourceToken}
use Rattle.gft_syntax.specs.declared.token.Symbol.TheVariants as S
use Rattle.gft_syntax.specs.declared.token.TokenForm.{TokenForm}
use Rattle.gft_syntax.specs.declared.token.TokenForm.TheVariants.{Symbol}
use Rattle.gft_model.specs.Grammar as G
use Rattle.gft_model.specs.Grammar.{Tokens, Is, IsReserved, IsNamed, placed, Spells, Part, Meaning, term, exp, alternative, context, constructor, bind, placed_name, category_name, listed, semicolons, many}
use Rattle.gft_model.specs.ModuleGrammar as M
use Rattle.gft_model.specs.ModuleGrammar.{SpellsDefinition, SpellsSetting, SpellsJudgement, keyword_word, SpellsSlice}
use Rattle.gft_model.proofs.ReadingTokens.{first, quiet}
use Rattle.gft_model.proofs.FirstTokens.{is_sign, is_name, begins, begins_at, may_be_empty, goes_on, Stops}
use Rattle.gft_model.proofs.Beginnings.{impossible, or-left, or-right, excludes, begun}
use Rattle.gft_model.proofs.Claims.{Fits}
use Rattle.gft_model.proofs.DescentLaws.{one_reading}
use Rattle.gft_model.proofs.GrammarRules as Rules
use Rattle.gft_model.proofs.GrammarRules.{ruled}

-- the same tokens spell the same, up to the same rest
pub same-part : (g : Part) {ts us rest others : Tokens} {a b : Meaning g} → ts ≡ us → Fits g →
    Spells g ts a rest → Stops g rest → Spells g us b others → Stops g others → a ≡ b
same-part g {ts = ts} {others = others} {b = b} same fits d stop e halt =
    ap (λ (p : Meaning g × Tokens). p.0) (one_reading g ts fits (ruled d) stop (ruled (subst (λ vs. Spells g vs b others) (sym same) e)) halt)

pub same-rest : (g : Part) {ts us rest others : Tokens} {a b : Meaning g} → ts ≡ us → Fits g →
    Spells g ts a rest → Stops g rest → Spells g us b others → Stops g others → rest ≡ others
same-rest g {ts = ts} {others = others} {b = b} same fits d stop e halt =
    ap (λ (p : Meaning g × Tokens). p.1) (one_reading g ts fits (ruled d) stop (ruled (subst (λ vs. Spells g vs b others) (sym same) e)) halt)

-- the next token stops a part
pub at : (g : Part) {c f : TokenForm} → c ≡ f → not (goes_on g f) ≡ true → not (goes_on g c) ≡ true
at g h e = ap (λ f. not (goes_on g f)) h ∙ e

pub same-name : {x y : List ℕ} {t u : SourceToken} → IsNamed x t → IsNamed y u → t ≡ u → placed x t ≡ placed y u
same-name {x} {y} {t} {u} h k e = let i : x ≡ y = let j = ap (λ s. s.form) e in cc in ap (λ z. placed z t) i ∙ ap (placed y) e

-- parameters end at the = and begin with no comma and no colon
parameter-first : (f : TokenForm) → begins bind f ≡ true → (is_sign S.Comma f || is_sign S.Colon f) ≡ false
parameter-first (Symbol S.Comma) e = impossible e
parameter-first (Symbol S.Colon) e = impossible e
parameter-first f e = refl

parameters-by-rules : {us vs : Tokens} {t : SourceToken} {bs : List Bind} → Rules.Spells (many bind) us bs (t ∷ vs) → Is S.Equals t →
    first (λ f. is_sign S.Comma f || is_sign S.Colon f) us ≡ false
parameters-by-rules Rules.none h = ap (λ f. is_sign S.Comma f || is_sign S.Colon f) h
parameters-by-rules {us = us} (Rules.some d e) h =
    excludes bind (λ f. is_sign S.Comma f || is_sign S.Colon f) parameter-first us (begun d)

parameters-first : {us vs : Tokens} {t : SourceToken} {bs : List Bind} → Spells (many bind) us bs (t ∷ vs) → Is S.Equals t →
    first (λ f. is_sign S.Comma f || is_sign S.Colon f) us ≡ false
parameters-first d h = parameters-by-rules (ruled d) h

-- tokens that begin with a token that begins no such part do not spell it
pub not-begun : {A : Type 0} (g : Part) {ts us rest : Tokens} {t : SourceToken} {a : Meaning g} {f : TokenForm} →
    Spells g ts a rest → ts ≡ t ∷ us → t.form ≡ f → begins g f ≡ false → A
not-begun g {t = t} d e h b =
    let i : begins g t.form ≡ true = subst (λ vs. begins_at g vs ≡ true) e (begun (ruled d)) in impossible (sym (ap (begins g) h ∙ b) ∙ i)

same-number : {k l : ℕ} (t : SourceToken) → G.IsNumber k t → G.IsNumber l t → k ≡ l
same-number t h i = let j = h.1 in let k = i.1 in cc

definition-once : {ts us : Tokens} {d e : Definition} → SpellsDefinition ts d → SpellsDefinition us e → ts ≡ us → d ≡ e
definition-once (M.by_term a) (M.by_term b) e = ap D.Term (same-part (term exp) e tt a refl b refl)
definition-once (M.by_term a) (M.by_overload h i b j) e = not-begun (term exp) a e h refl
definition-once (M.by_overload h i a j) (M.by_term b) e = not-begun (term exp) b (sym e) h refl
definition-once (M.by_overload h i a j) (M.by_overload k l b m) e =
    ap D.Overload (same-part (semicolons alternative) (cc) (tt, refl, refl, (refl, refl, refl), (refl, refl, refl)) a (at (semicolons alternative) j refl) b (at (semicolons alternative) m refl))

setting-once : {t : SourceToken} {v w : Setting} → SpellsSetting t v → SpellsSetting t w → v ≡ w
setting-once (M.to_name h) (M.to_name k) = cc
setting-once (M.to_name h) (M.to_number k) = let i = k.1 in cc
setting-once (M.to_name h) (M.to_text k) = let i = k.1 in cc
setting-once (M.to_number h) (M.to_name k) = let i = h.1 in cc
setting-once (M.to_number h) (M.to_number k) = let i = h.1 in let j = k.1 in cc
setting-once (M.to_number h) (M.to_text k) = let i = h.1 in let j = k.1 in cc
setting-once (M.to_text h) (M.to_name k) = let i = h.1 in cc
setting-once (M.to_text h) (M.to_number k) = let i = h.1 in let j = k.1 in cc
setting-once (M.to_text h) (M.to_text k) = let i = h.1 in let j = k.1 in cc

-- lists of names, and what follows them
names-fit : Fits (listed S.Comma placed_name)
names-fit = (tt, refl)

categories-fit : Fits (listed S.Comma category_name)
categories-fit = (tt, refl)

no-comma : (us : Tokens) → first (λ f. is_sign S.Comma f || is_sign S.Colon f) us ≡ false → quiet (is_sign S.Comma) us ≡ true
no-comma [] e = refl
no-comma (t ∷ us) e = ap not (or-left (is_sign S.Comma t.form) (is_sign S.Colon t.form) e)

names-stop : {us vs : Tokens} {t : SourceToken} {bs : List Bind} → Spells (many bind) us bs (t ∷ vs) → Is S.Equals t → quiet (is_sign S.Comma) us ≡ true
names-stop {us = us} d h = no-comma us (parameters-first d h)

-- parameters do not begin with a colon
no-colon : {A : Type 0} {us vs ws : Tokens} {c t : SourceToken} {bs : List Bind} → c ∷ us ≡ vs → Is S.Colon c →
    Spells (many bind) vs bs (t ∷ ws) → Is S.Equals t → A
no-colon {us = us} {vs = vs} {c = c} e h d i =
    let j : (is_sign S.Comma c.form || is_sign S.Colon c.form) ≡ false = subst (λ xs. first (λ f. is_sign S.Comma f || is_sign S.Colon f) xs ≡ false) (sym e) (parameters-first d i) in
    impossible (sym (or-right (is_sign S.Comma c.form) (is_sign S.Colon c.form) j) ∙ ap (is_sign S.Colon) h)

-- the parameters, and what follows the =
same-parameters : {ts us vs ws : Tokens} {t u : SourceToken} {bs cs : List Bind} → ts ≡ us →
    Spells (many bind) ts bs (t ∷ vs) → Is S.Equals t → Spells (many bind) us cs (u ∷ ws) → Is S.Equals u → (bs ≡ cs) × (vs ≡ ws)
same-parameters {vs = vs} {ws = ws} {t = t} {u = u} e a h b i =
    let rest : t ∷ vs ≡ u ∷ ws = same-rest (many bind) e (tt, refl, λ f. refl) a (at (many bind) h refl) b (at (many bind) i refl) in
    (same-part (many bind) e (tt, refl, λ f. refl) a (at (many bind) h refl) b (at (many bind) i refl), cc)

pub tail-is : {t u : SourceToken} {ts us : Tokens} → t ∷ ts ≡ u ∷ us → ts ≡ us
tail-is e = cc

-- a list of names with a type
same-typed : (g : Part) {ts us vs : Tokens} {c d : SourceToken} {ns ms : Meaning g} → Fits g →
    Spells g ts ns (c ∷ us) → not (goes_on g c.form) ≡ true → Spells g ts ms (d ∷ vs) → not (goes_on g d.form) ≡ true → (ns ≡ ms) × (us ≡ vs)
same-typed g fits a h b i = (same-part g refl fits a h b i, tail-is (same-rest g refl fits a h b i))

linearization-once : (form : List PlacedName → List Bind → Term → Judgement) {ts us vs ws xs : Tokens} {t u : SourceToken} {ns ms : List PlacedName} {bs cs : List Bind} {a b : Term} →
    Spells (listed S.Comma category_name) ts ns us → Spells (many bind) us bs (t ∷ vs) → Is S.Equals t → Spells (term exp) vs a [] →
    Spells (listed S.Comma category_name) ts ms ws → Spells (many bind) ws cs (u ∷ xs) → Is S.Equals u → Spells (term exp) xs b [] →
    form ns bs a ≡ form ms cs b
linearization-once form {ns = ns} {ms = ms} {bs = bs} {cs = cs} {a = a} {b = b} d p h e f q i g =
    let n : ns ≡ ms = same-part (listed S.Comma category_name) refl categories-fit d (names-stop p h) f (names-stop q i) in
    let r = same-parameters (same-rest (listed S.Comma category_name) refl categories-fit d (names-stop p h) f (names-stop q i)) p h q i in
    let x : a ≡ b = same-part (term exp) r.1 tt e refl g refl in
    ap (λ ls. form ls bs a) n ∙ ap (λ ys. form ms ys a) r.0 ∙ ap (form ms cs) x

-- an oper with a type has a definition or none, and an oper without a type has no colon
undefined-or : {A : Type 0} {ts us vs ws : Tokens} {c d e : SourceToken} {ns ms : List PlacedName} {a b : Term} →
    Spells (listed S.Comma placed_name) ts ns (c ∷ us) → Is S.Colon c → Spells (term exp) us a [] →
    Spells (listed S.Comma placed_name) ts ms (d ∷ vs) → Is S.Colon d → Spells (term exp) vs b (e ∷ ws) → Is S.Equals e → A
undefined-or {ws = ws} {e = e} d h a f i b j =
    let r = same-typed (listed S.Comma placed_name) names-fit d (at (listed S.Comma placed_name) h refl) f (at (listed S.Comma placed_name) i refl) in
    let wrong : ◌≡◌ {A = Tokens} [] (e ∷ ws) = same-rest (term exp) r.1 tt a refl b (at (term exp) j refl) in cc

typed-or : {A : Type 0} {ts us vs ws : Tokens} {c e : SourceToken} {ns ms : List PlacedName} {bs : List Bind} →
    Spells (listed S.Comma placed_name) ts ns (c ∷ us) → Is S.Colon c →
    Spells (listed S.Comma placed_name) ts ms vs → Spells (many bind) vs bs (e ∷ ws) → Is S.Equals e → A
typed-or d h f p j =
    no-colon (same-rest (listed S.Comma placed_name) refl names-fit d (at (listed S.Comma placed_name) h refl) f (names-stop p j)) h p j

pub judgement-once : {k : Keyword} {ts : Tokens} {i j : Judgement} → SpellsJudgement k ts i → SpellsJudgement k ts j → i ≡ j
judgement-once (M.category {t = t} {cs = cs} h a) (M.category {x = y} k b) =
    ap (λ n. J.Cat n cs) (same-name h k refl) ∙ ap (J.Cat (placed y t)) (same-part (many context) refl (tt, refl, λ f. refl) a refl b refl)
judgement-once (M.category h a) (M.list_category k l m) = cc
judgement-once (M.category h a) (M.list_category_of k l m n o p q) = cc
judgement-once (M.list_category h i j) (M.category k b) = cc
judgement-once (M.list_category {x = x} {l = l} {t = t} h i j) (M.list_category {x = y} k e m) =
    let n : x ≡ y = cc in ap (λ z. J.ListCat (placed z t) (Written z) 0 l.place) n
judgement-once (M.list_category_of h i j n o p q) (M.category k b) = cc
judgement-once (M.list_category_of {x = x} {k = c} {l = l} {t = t} {n = u} h i j n o p q) (M.list_category_of {x = y} {k = d} k e m r s v w) =
    let same : x ≡ y = cc in
    ap (λ z. J.ListCat (placed z t) (Written z) c l.place) same ∙ ap (λ z. J.ListCat (placed y t) (Written y) z l.place) (same-number u o s)
judgement-once (M.function {ns = ns} {a = a} d h e) (M.function {ns = ms} {a = b} f i g) =
    let r = same-typed (listed S.Comma placed_name) names-fit d (at (listed S.Comma placed_name) h refl) f (at (listed S.Comma placed_name) i refl) in
    ap (λ ls. J.Fun ls a) r.0 ∙ ap (J.Fun ms) (same-part (term exp) r.1 tt e refl g refl)
judgement-once (M.flag {t = t} {v = v} h i a) (M.flag {x = y} k l b) =
    ap (λ n. J.Flag n v) (same-name h k refl) ∙ ap (J.Flag (placed y t)) (setting-once a b)
judgement-once (M.lincat {ns = ns} {a = a} d h e) (M.lincat {ns = ms} {a = b} f i g) =
    let r = same-typed (listed S.Comma category_name) categories-fit d (at (listed S.Comma category_name) h refl) f (at (listed S.Comma category_name) i refl) in
    ap (λ ls. J.Lincat ls a) r.0 ∙ ap (J.Lincat ms) (same-part (term exp) r.1 tt e refl g refl)
judgement-once (M.linearization M.of_function d p h e) (M.linearization M.of_function f q i g) = linearization-once J.Lin d p h e f q i g
judgement-once (M.linearization M.of_hole d p h e) (M.linearization M.of_hole f q i g) = linearization-once J.Lindef d p h e f q i g
judgement-once (M.linearization M.of_string d p h e) (M.linearization M.of_string f q i g) = linearization-once J.Linref d p h e f q i g
judgement-once (M.bare_parameter h) (M.bare_parameter k) = ap J.ParamName (same-name h k refl)
judgement-once (M.parameter_type {t = t} {cs = cs} h i d) (M.parameter_type {x = y} k l e) =
    ap (λ n. J.Param n cs) (same-name h k refl) ∙ ap (J.Param (placed y t)) (same-part (listed S.Bar constructor) refl (tt, refl) d refl e refl)
judgement-once (M.declared_oper {ns = ns} {a = a} d h e) (M.declared_oper {ns = ms} {a = b} f i g) =
    let r = same-typed (listed S.Comma placed_name) names-fit d (at (listed S.Comma placed_name) h refl) f (at (listed S.Comma placed_name) i refl) in
    ap (λ ls. J.OperType ls a) r.0 ∙ ap (J.OperType ms) (same-part (term exp) r.1 tt e refl g refl)
judgement-once (M.declared_oper d h e) (M.typed_oper f i g j k) = undefined-or d h e f i g j
judgement-once (M.declared_oper d h e) (M.oper f p j k) = typed-or d h f p j
judgement-once (M.typed_oper f i g j k) (M.declared_oper d h e) = undefined-or d h e f i g j
judgement-once (M.typed_oper {ns = ns} {a = a} {d = u} d h e j k) (M.typed_oper {ns = ms} {a = b} {d = v} f i g l m) =
    let r = same-typed (listed S.Comma placed_name) names-fit d (at (listed S.Comma placed_name) h refl) f (at (listed S.Comma placed_name) i refl) in
    let x = same-part (term exp) r.1 tt e (at (term exp) j refl) g (at (term exp) l refl) in
    let y = definition-once k m (tail-is (same-rest (term exp) r.1 tt e (at (term exp) j refl) g (at (term exp) l refl))) in
    ap (λ ls. J.OperTyped ls a u) r.0 ∙ ap (λ t. J.OperTyped ms t u) x ∙ ap (J.OperTyped ms b) y
judgement-once (M.typed_oper d h e l m) (M.oper f p j k) = typed-or d h f p j
judgement-once (M.oper f p j k) (M.declared_oper d h e) = typed-or d h f p j
judgement-once (M.oper f p j k) (M.typed_oper d h e l m) = typed-or d h f p j
judgement-once (M.oper {ns = ns} {bs = bs} {d = u} d p h k) (M.oper {ns = ms} {bs = cs} {d = v} f q i l) =
    let n = same-part (listed S.Comma placed_name) refl names-fit d (names-stop p h) f (names-stop q i) in
    let r = same-parameters (same-rest (listed S.Comma placed_name) refl names-fit d (names-stop p h) f (names-stop q i)) p h q i in
    ap (λ ls. J.Oper ls bs u) n ∙ ap (λ ys. J.Oper ms ys u) r.0 ∙ ap (J.Oper ms cs) (definition-once k l r.1)
judgement-once (M.linearization w d p h e) (M.category k b) = elim w [ ]
judgement-once (M.linearization w d p h e) (M.list_category k l m) = elim w [ ]
judgement-once (M.linearization w d p h e) (M.list_category_of k l m n o q r) = elim w [ ]
judgement-once (M.linearization w d p h e) (M.function f i g) = elim w [ ]
judgement-once (M.linearization w d p h e) (M.flag k l b) = elim w [ ]
judgement-once (M.linearization w d p h e) (M.lincat f i g) = elim w [ ]
judgement-once (M.linearization w d p h e) (M.bare_parameter k) = elim w [ ]
judgement-once (M.linearization w d p h e) (M.parameter_type k l f) = elim w [ ]
judgement-once (M.linearization w d p h e) (M.declared_oper f i g) = elim w [ ]
judgement-once (M.linearization w d p h e) (M.typed_oper f i g j k) = elim w [ ]
judgement-once (M.linearization w d p h e) (M.oper f q j k) = elim w [ ]
judgement-once d (M.linearization w f q i g) = elim w [ ]

-- how a judgement begins: with a name or a bracket, and so with no keyword
abbrev begins_judgement : TokenForm → Bool
begins_judgement f = is_name f || is_sign S.LeftBracket f

name-begins : (g : Part) (ts : Tokens) → ((f : TokenForm) → begins g f ≡ true → begins_judgement f ≡ true) → may_be_empty g ≡ false →
    begins_at g ts ≡ true → first begins_judgement ts ≡ true
name-begins g [] w m e = impossible (sym m ∙ e)
name-begins g (t ∷ ts) w m e = w t.form e

a-name : (f : TokenForm) → is_name f ≡ true → begins_judgement f ≡ true
a-name f e = ap (λ b. b || is_sign S.LeftBracket f) e

judgement-begun : {k : Keyword} {ts : Tokens} {j : Judgement} → SpellsJudgement k ts j → first begins_judgement ts ≡ true
judgement-begun (M.category h a) = ap begins_judgement h
judgement-begun (M.list_category h i j) = ap begins_judgement h
judgement-begun (M.list_category_of h i j n o p q) = ap begins_judgement h
judgement-begun (M.function {ts = ts} d h e) = name-begins (listed S.Comma placed_name) ts a-name refl (begun (ruled d))
judgement-begun (M.flag h i a) = ap begins_judgement h
judgement-begun (M.lincat {ts = ts} d h e) = name-begins (listed S.Comma category_name) ts (λ f e. e) refl (begun (ruled d))
judgement-begun (M.linearization {ts = ts} w d p h e) = name-begins (listed S.Comma category_name) ts (λ f e. e) refl (begun (ruled d))
judgement-begun (M.bare_parameter h) = ap begins_judgement h
judgement-begun (M.parameter_type h i d) = ap begins_judgement h
judgement-begun (M.declared_oper {ts = ts} d h e) = name-begins (listed S.Comma placed_name) ts a-name refl (begun (ruled d))
judgement-begun (M.typed_oper {ts = ts} d h e i j) = name-begins (listed S.Comma placed_name) ts a-name refl (begun (ruled d))
judgement-begun (M.oper {ts = ts} d p h e) = name-begins (listed S.Comma placed_name) ts a-name refl (begun (ruled d))

-- the keyword that a reserved word is
abbrev keyword_of : Word → Option Keyword
keyword_of W.Cat = Some K.Cat
keyword_of W.Fun = Some K.Fun
keyword_of W.Flags = Some K.Flags
keyword_of W.Lincat = Some K.Lincat
keyword_of W.Lin = Some K.Lin
keyword_of W.Lindef = Some K.Lindef
keyword_of W.Linref = Some K.Linref
keyword_of W.Param = Some K.Param
keyword_of W.Oper = Some K.Oper
keyword_of w = None

keyword-back : (k : Keyword) → keyword_of (keyword_word k) ≡ Some k
keyword-back K.Cat = refl
keyword-back K.Fun = refl
keyword-back K.Flags = refl
keyword-back K.Lincat = refl
keyword-back K.Lin = refl
keyword-back K.Lindef = refl
keyword-back K.Linref = refl
keyword-back K.Param = refl
keyword-back K.Oper = refl

same-keyword : {k l : Keyword} (t : SourceToken) → IsReserved (keyword_word k) t → IsReserved (keyword_word l) t → k ≡ l
same-keyword {k} {l} t h i =
    let w : keyword_word k ≡ keyword_word l = cc in
    let same : Some k ≡ Some l = sym (keyword-back k) ∙ ap keyword_of w ∙ keyword-back l in cc

no-keyword : {A : Type 0} (w : Word) {l : Keyword} {t : SourceToken} {ts : Tokens} {j : Judgement} →
    IsReserved w t → SpellsJudgement l (t ∷ ts) j → A
no-keyword w h d = impossible (sym (ap begins_judgement h) ∙ judgement-begun d)

-- a slice spells at most one judgement, by one keyword
pub slice-once : {before : Option Keyword} {ts : Tokens} {k l : Keyword} {i j : Judgement} →
    SpellsSlice before ts k i → SpellsSlice before ts l j → (k ≡ l) × (i ≡ j)
slice-once (M.with_keyword {k = k} {t = t} {ts = ts} h d) (M.with_keyword {j = j} i e) =
    let same = same-keyword t h i in
    (same, judgement-once d (subst (λ l. SpellsJudgement l ts j) (sym same) e))
slice-once (M.with_keyword h d) (M.goes_on e) = no-keyword _ h e
slice-once (M.goes_on d) (M.with_keyword h e) = no-keyword _ h d
slice-once (M.goes_on d) (M.goes_on e) = (refl, judgement-once d e)
