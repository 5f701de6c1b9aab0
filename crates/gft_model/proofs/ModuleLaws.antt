-- The tokens of a file spell at most one module.
use Rattle.std.proofs.Common.{◌≡◌, ap, sym, ◌∙◌, subst, refl, List, [], ◌∷◌, Bool, true, false, not, Option, Some, None}
use Rattle.gft_syntax.specs.declared.judgement.Judgement.{Judgement}
use Rattle.gft_syntax.specs.declared.judgement.Keyword.{Keyword}
use Rattle.gft_syntax.specs.declared.module.Body.{Body}
use Rattle.gft_syntax.specs.declared.module.Header.{Header}
use Rattle.gft_syntax.specs.declared.module.Header.TheVariants as H
use Rattle.gft_syntax.specs.declared.module.Inherited.{Inherited}
use Rattle.gft_syntax.specs.declared.module.Module.{Module}
use Rattle.gft_syntax.specs.declared.module.Rest.{Rest}
use Rattle.gft_syntax.specs.declared.module.Rest.TheVariants.{Own, Inherits, With}
use Rattle.gft_syntax.specs.declared.module.Substitution.{Substitution}
use Rattle.gft_syntax.specs.declared.reference.PlacedName.{PlacedName}
use Rattle.gft_syntax.specs.declared.token.Reserved.{Reserved as Word}
use Rattle.gft_syntax.specs.declared.token.Reserved.TheVariants as W
use Rattle.gft_syntax.specs.declared.token.SourceToken.{SourceToken}
use Rattle.gft_syntax.specs.declared.token.Symbol.TheVariants as S
use Rattle.gft_syntax.specs.declared.token.TokenForm.{TokenForm}
use Rattle.gft_syntax.specs.declared.token.TokenForm.TheVariants.{Reserved, Symbol}
use Rattle.gft_model.specs.Grammar as G
use Rattle.gft_model.specs.Grammar.{Tokens, Is, IsReserved, IsNamed, placed, Spells, Part, Meaning, inherited, opened, substitution, listed}
use Rattle.gft_model.specs.ModuleGrammar as M
use Rattle.gft_model.specs.ModuleGrammar.{slices_of, SpellsSlice, SpellsSlices, SpellsBody, PlainKind, KindOf, SpellsHeader, SpellsBefore, SpellsRest, AtEnd, SpellsModule}
use Rattle.gft_model.proofs.FirstTokens.{is_sign, goes_on, Stops}
use Rattle.gft_model.proofs.Beginnings.{impossible}
use Rattle.gft_model.proofs.SliceLaws.{same-part, same-rest, at, same-name, not-begun, tail-is, slice-once}

-- the slices of a body are at most one list of judgements
slices-once : {before k l : Option Keyword} {ss : List Tokens} {is js : List Judgement} →
    SpellsSlices before ss k is → SpellsSlices before ss l js → is ≡ js
slices-once M.no_slice M.no_slice = refl
slices-once (M.empty_slice d) (M.empty_slice e) = slices-once d e
slices-once (M.slice {ss = ss} {j = i} {js = is} a d) (M.slice {after = l} {j = j} {js = js} b e) =
    let same = slice-once a b in
    ap (λ x. x ∷ is) same.1 ∙ ap (λ xs. j ∷ xs) (slices-once d (subst (λ k. SpellsSlices (Some k) ss l js) (sym same.0) e))

same-slices : {ts us vs ws : Tokens} {ss rs : List Tokens} {k l : Option Keyword} {is js : List Judgement} → ts ≡ us →
    slices_of ts ≡ (ss, Some vs) → SpellsSlices None ss k is → slices_of us ≡ (rs, Some ws) → SpellsSlices None rs l js →
    (is ≡ js) × (vs ≡ ws)
same-slices {vs = vs} {ws = ws} {ss = ss} {rs = rs} {l = l} {js = js} e h d i f =
    let both : ◌≡◌ {A = List Tokens × Option Tokens} (ss, Some vs) (rs, Some ws) = sym h ∙ ap slices_of e ∙ i in
    let rest : Some vs ≡ Some ws = ap (λ (x : List Tokens × Option Tokens). x.1) both in
    (slices-once d (subst (λ xs. SpellsSlices None xs l js) (sym (ap (λ (x : List Tokens × Option Tokens). x.0) both)) f), cc)

pub forms-agree : {t u : SourceToken} {ts us : Tokens} → t ∷ ts ≡ u ∷ us → t.form ≡ u.form
forms-agree {t} {u} e = let same : t ≡ u = cc in ap (λ x. x.form) same

-- the bodies that the same tokens spell
pub body-once : {ts us rest others : Tokens} {b c : Body} → ts ≡ us → SpellsBody ts b rest → SpellsBody us c others → (b ≡ c) × (rest ≡ others)
body-once e (M.closed_body h i d) (M.closed_body j k f) =
    let r = same-slices (tail-is e) i d k f in (ap (λ js. record { opened = []; judgements = js }) r.0, r.1)
body-once e (M.closed_body h i d) (M.opening_body o f p j k g) = let same = forms-agree e in cc
body-once e (M.opening_body o f p j k g) (M.closed_body h i d) = let same = forms-agree e in cc
body-once e (M.opening_body {js = is} o f p j k g) (M.opening_body {os = os} q d r l m h) =
    let n = same-part (listed S.Comma opened) (tail-is e) (tt, refl) f (at (listed S.Comma opened) p refl) d (at (listed S.Comma opened) r refl) in
    let x = same-rest (listed S.Comma opened) (tail-is e) (tt, refl) f (at (listed S.Comma opened) p refl) d (at (listed S.Comma opened) r refl) in
    let y = same-slices (tail-is (tail-is x)) k g m h in
    (ap (λ ns. record { opened = ns; judgements = is }) n ∙ ap (λ js. record { opened = os; judgements = js }) y.0, y.1)

-- the words of headers, told apart by how they go on
abbrev how : Word → List Bool
how W.Instance = true ∷ []
how W.Concrete = true ∷ []
how W.Incomplete = false ∷ []
how w = []

plain-how : {w : Word} {form : PlacedName → Header} → PlainKind w form → how w ≡ []
plain-how M.an_abstract = refl
plain-how M.a_resource = refl
plain-how M.an_interface = refl

of-how : {w : Word} {form : PlacedName → PlacedName → Header} → KindOf w form → how w ≡ true ∷ []
of-how M.an_instance = refl
of-how M.a_concrete = refl

same-word : (v w : Word) {f : TokenForm} → f ≡ Reserved v → f ≡ Reserved w → v ≡ w
same-word v w h i = cc

plain-once : {w : Word} {f g : PlacedName → Header} → PlainKind w f → PlainKind w g → f ≡ g
plain-once M.an_abstract M.an_abstract = refl
plain-once M.a_resource M.a_resource = refl
plain-once M.an_interface M.an_interface = refl

of-once : {w : Word} {f g : PlacedName → PlacedName → Header} → KindOf w f → KindOf w g → f ≡ g
of-once M.an_instance M.an_instance = refl
of-once M.a_concrete M.a_concrete = refl

header-once : {ts rest others : Tokens} {h i : Header} → SpellsHeader ts h rest → SpellsHeader ts i others → (h ≡ i) × (rest ≡ others)
header-once (M.plain_module {x = x} {t = t} {w = w} a h i) (M.plain_module {w = v} {form = g} b j k) =
    let same = plain-once a (subst (λ u. PlainKind u g) (sym (same-word w v h j)) b) in
    (ap (λ f. f (placed x t)) same ∙ ap g (same-name i k refl), refl)
header-once (M.plain_module {w = w} a h i) (M.module_of {w = v} b j k l m) =
    let p = plain-how a in let q = of-how b in let same = ap how (same-word w v h j) in cc
header-once (M.plain_module {w = w} a h i) (M.incomplete_module j k l m n) =
    let p = plain-how a in let same = ap how (same-word w W.Incomplete h j) in cc
header-once (M.module_of {w = v} b j k l m) (M.plain_module {w = w} a h i) =
    let p = plain-how a in let q = of-how b in let same = ap how (same-word w v h j) in cc
header-once (M.module_of {x = x} {y = y} {t = t} {u = u} {w = w} a h i j k) (M.module_of {x = z} {w = v} {form = g} b l m n o) =
    let same = of-once a (subst (λ s. KindOf s g) (sym (same-word w v h l)) b) in
    (ap (λ f. f (placed x t) (placed y u)) same ∙ ap (λ s. g s (placed y u)) (same-name i m refl) ∙ ap (g (placed z t)) (same-name k o refl), refl)
header-once (M.module_of {w = w} a h i j k) (M.incomplete_module l m n o p) =
    let q = of-how a in let same = ap how (same-word w W.Incomplete h l) in cc
header-once (M.incomplete_module j k l m n) (M.plain_module {w = w} a h i) =
    let p = plain-how a in let same = ap how (same-word w W.Incomplete h j) in cc
header-once (M.incomplete_module l m n o p) (M.module_of {w = w} a h i j k) =
    let q = of-how a in let same = ap how (same-word w W.Incomplete h l) in cc
header-once (M.incomplete_module {y = y} {t = t} {u = u} h i j k l) (M.incomplete_module {x = z} m n o p q) =
    (ap (λ s. H.Incomplete s (placed y u)) (same-name j o refl) ∙ ap (H.Incomplete (placed z t)) (same-name l q refl), refl)

-- a list of what is inherited
abbrev Inheritance : Tokens → List Inherited → Tokens → Type 0
Inheritance = Spells (listed S.Comma inherited)

abbrev NoList : Tokens → Type 0
NoList us = (hs : List Inherited) (s : SourceToken) (vs : Tokens) → Inheritance us hs (s ∷ vs) → Is S.DoubleStar s → ⊥

body-no-names : {A : Type 0} {ts us vs rest : Tokens} {b : Body} {hs : List Inherited} → ts ≡ us → SpellsBody ts b rest → Inheritance us hs vs → A
body-no-names e (M.closed_body h i d) f = not-begun (listed S.Comma inherited) f (sym e) h refl
body-no-names e (M.opening_body o f p j k g) d = not-begun (listed S.Comma inherited) d (sym e) o refl

-- one that is inherited, or a functor, and not with ** after it
other-end : {A : Type 0} {ts us vs rest : Tokens} {w s : SourceToken} {hs : List Inherited} {f : Inherited} → ts ≡ us →
    Spells inherited ts f (w ∷ rest) → IsReserved W.With w → Inheritance us hs (s ∷ vs) → Is S.DoubleStar s → A
other-end e d h a i =
    let same = forms-agree (same-rest (listed S.Comma inherited) e (tt, refl) (G.one d) (at (listed S.Comma inherited) h refl) a (at (listed S.Comma inherited) i refl)) in cc

before-once : {ts us vs : Tokens} {hs is : List Inherited} → SpellsBefore ts hs us → NoList us → SpellsBefore ts is vs → NoList vs → (hs ≡ is) × (us ≡ vs)
before-once M.nothing_before n M.nothing_before m = (refl, refl)
before-once M.nothing_before n (M.inherited_before d h) m = absurd (n _ _ _ d h)
before-once (M.inherited_before d h) n M.nothing_before m = absurd (m _ _ _ d h)
before-once (M.inherited_before d h) n (M.inherited_before e i) m = (
  same-part (listed S.Comma inherited) refl (tt, refl) d (at (listed S.Comma inherited) h refl) e (at (listed S.Comma inherited) i refl),
  tail-is (same-rest (listed S.Comma inherited) refl (tt, refl) d (at (listed S.Comma inherited) h refl) e (at (listed S.Comma inherited) i refl)),
)

-- the end of a file is no other token than a semicolon
pub not-end : {A : Type 0} {rest ts : Tokens} {t : SourceToken} {f : TokenForm} → AtEnd rest → rest ≡ t ∷ ts → t.form ≡ f → is_sign S.Semicolon f ≡ false → A
not-end M.at_once e h b = cc
not-end {t = t} (M.after_semicolon i) e h b =
    impossible (sym (ap (is_sign S.Semicolon) (sym i ∙ forms-agree e ∙ h) ∙ b))

pub ends : (g : Part) {rest : Tokens} → AtEnd rest → goes_on g (Symbol S.Semicolon) ≡ false → Stops g rest
ends g M.at_once e = refl
ends g (M.after_semicolon h) e = at g h (ap not e)

own-or-inherits : {A : Type 0} {ts us rest others : Tokens} {hs is : List Inherited} {b : Body} →
    SpellsBefore ts hs us → SpellsBody us b rest → Inheritance ts is others → AtEnd others → A
own-or-inherits M.nothing_before b d e = body-no-names refl b d
own-or-inherits (M.inherited_before a i) b d e =
    not-end e (sym (same-rest (listed S.Comma inherited) refl (tt, refl) a (at (listed S.Comma inherited) i refl) d (ends (listed S.Comma inherited) e refl))) i refl

body-no-list : {us rest : Tokens} {b : Body} → SpellsBody us b rest → NoList us
body-no-list b hs s vs d i = body-no-names refl b d

functor-no-list : {us vs : Tokens} {w : SourceToken} {f : Inherited} → Spells inherited us f (w ∷ vs) → IsReserved W.With w → NoList us
functor-no-list d h hs s vs a i = other-end refl d h a i

own-or-functor : {A : Type 0} {ts us vs ws rest : Tokens} {w : SourceToken} {hs is : List Inherited} {f : Inherited} {b : Body} →
    SpellsBefore ts hs us → SpellsBody us b rest → SpellsBefore ts is vs → Spells inherited vs f (w ∷ ws) → IsReserved W.With w → A
own-or-functor a b c d h =
    let r = before-once a (body-no-list b) c (functor-no-list d h) in body-no-names r.1 b (G.one d)

inherits-or-functor : {A : Type 0} {ts us vs rest : Tokens} {w : SourceToken} {hs is : List Inherited} {f : Inherited} →
    Inheritance ts hs rest → AtEnd rest → SpellsBefore ts is us → Spells inherited us f (w ∷ vs) → IsReserved W.With w → A
inherits-or-functor a e M.nothing_before d h =
    not-end e (same-rest (listed S.Comma inherited) refl (tt, refl) a (ends (listed S.Comma inherited) e refl) (G.one d) (at (listed S.Comma inherited) h refl)) h refl
inherits-or-functor a e (M.inherited_before c i) d h =
    not-end e (same-rest (listed S.Comma inherited) refl (tt, refl) a (ends (listed S.Comma inherited) e refl) c (at (listed S.Comma inherited) i refl)) i refl

-- a functor up to its with
functor-once : {ts us vs xs ys : Tokens} {w v : SourceToken} {hs is : List Inherited} {f g : Inherited} →
    SpellsBefore ts hs us → Spells inherited us f (w ∷ xs) → IsReserved W.With w →
    SpellsBefore ts is vs → Spells inherited vs g (v ∷ ys) → IsReserved W.With v → (hs ≡ is) × (f ≡ g) × (xs ≡ ys)
functor-once a d h b e i =
    let r = before-once a (functor-no-list d h) b (functor-no-list e i) in (
      r.0,
      same-part inherited r.1 tt d (at inherited h refl) e (at inherited i refl),
      tail-is (same-rest inherited r.1 tt d (at inherited h refl) e (at inherited i refl)),
    )

-- with a body or without
body-or-end : {A : Type 0} {ts us vs rest : Tokens} {s : SourceToken} {ss rs : List Substitution} → ts ≡ us →
    Spells (listed S.Comma substitution) ts ss rest → AtEnd rest → Spells (listed S.Comma substitution) us rs (s ∷ vs) → Is S.DoubleStar s → A
body-or-end e d end f h =
    not-end end (same-rest (listed S.Comma substitution) e (tt, refl) d (ends (listed S.Comma substitution) end refl) f (at (listed S.Comma substitution) h refl)) h refl

same-with : {hs is : List Inherited} {f g : Inherited} {ss rs : List Substitution} {b c : Option Body} → hs ≡ is → f ≡ g → ss ≡ rs → b ≡ c →
    With hs f ss b ≡ With is g rs c
same-with h i j k = cc

pub rest-once : {ts end last : Tokens} {r q : Rest} → SpellsRest ts r end → AtEnd end → SpellsRest ts q last → AtEnd last → r ≡ q
rest-once (M.own_body {b = b} a d) x (M.own_body {hs = is} c e) y =
    let r = before-once a (body-no-list d) c (body-no-list e) in
    ap (λ hs. Own hs b) r.0 ∙ ap (Own is) (body-once r.1 d e).0
rest-once (M.own_body a d) x (M.inherited_alone e) y = own-or-inherits a d e y
rest-once (M.own_body a d) x (M.functor c e h f) y = own-or-functor a d c e h
rest-once (M.own_body a d) x (M.functor_with_body c e h f i b) y = own-or-functor a d c e h
rest-once (M.inherited_alone e) y (M.own_body a d) x = own-or-inherits a d e y
rest-once (M.inherited_alone d) x (M.inherited_alone e) y =
    ap Inherits (same-part (listed S.Comma inherited) refl (tt, refl) d (ends (listed S.Comma inherited) x refl) e (ends (listed S.Comma inherited) y refl))
rest-once (M.inherited_alone d) x (M.functor c e h f) y = inherits-or-functor d x c e h
rest-once (M.inherited_alone d) x (M.functor_with_body c e h f i b) y = inherits-or-functor d x c e h
rest-once (M.functor c e h f) y (M.own_body a d) x = own-or-functor a d c e h
rest-once (M.functor c e h f) y (M.inherited_alone d) x = inherits-or-functor d x c e h
rest-once (M.functor a d h e) x (M.functor b f i g) y =
    let r = functor-once a d h b f i in
    same-with r.0 r.1 (same-part (listed S.Comma substitution) r.2 (tt, refl) e (ends (listed S.Comma substitution) x refl) g (ends (listed S.Comma substitution) y refl)) refl
rest-once (M.functor a d h e) x (M.functor_with_body b f i g j c) y = body-or-end (functor-once a d h b f i).2 e x g j
rest-once (M.functor_with_body c e h f i b) y (M.own_body a d) x = own-or-functor a d c e h
rest-once (M.functor_with_body c e h f i b) y (M.inherited_alone d) x = inherits-or-functor d x c e h
rest-once (M.functor_with_body b f i g j c) y (M.functor a d h e) x = body-or-end (functor-once a d h b f i).2 e x g j
rest-once (M.functor_with_body a d h e k m) x (M.functor_with_body b f i g j c) y =
    let r = functor-once a d h b f i in
    let n = same-part (listed S.Comma substitution) r.2 (tt, refl) e (at (listed S.Comma substitution) k refl) g (at (listed S.Comma substitution) j refl) in
    let o = tail-is (same-rest (listed S.Comma substitution) r.2 (tt, refl) e (at (listed S.Comma substitution) k refl) g (at (listed S.Comma substitution) j refl)) in
    same-with r.0 r.1 n (ap Some (body-once o m c).0)

-- the tokens of a file spell at most one module
pub module-once : {ts : Tokens} {m n : Module} → SpellsModule ts m → SpellsModule ts n → m ≡ n
module-once (M.a_module {us = us} {h = h} {r = r} a i d x) (M.a_module {end = end} {h = g} {r = q} b j e y) =
    let hs = header-once a b in
    let same = rest-once d x (subst (λ vs. SpellsRest vs q end) (sym (tail-is hs.1)) e) y in
    ap (λ k. record { header = k; rest = r }) hs.0 ∙ ap (λ k. record { header = g; rest = k }) same
