-- A worked example of tokens of a concrete module in which nothing is broken: concrete EEng of E = {lincat S = {s : Str} ;}.
use Rattle.std.proofs.Common.{◌≡◌, ap, sym, ◌∙◌, refl, ℕ, zero, suc, ◌+◌, true, false, Bool, List, [], ◌∷◌, ◌++◌, length, Option, Some, None, subst, arith, length-append}
use Rattle.std.proofs.lemmas.List.{length-map}
use Rattle.std.specs.Prelude.{codes, map, fold, nat_lt, ◌||◌, ◌<◌, ◌≤◌, Contains}
use Rattle.std.specs.Option.{is_some}
use Rattle.gft_core.specs.declared.place.Place.{Place}
use Rattle.gft_rules.specs.declared.refusal.Refusal.{Refusal}
use Rattle.gft_rules.specs.declared.rule.Rule.{Rule}
use Rattle.gft_syntax.specs.declared.judgement.Judgement.{Judgement}
use Rattle.gft_syntax.specs.declared.judgement.Keyword.{Keyword}
use Rattle.gft_syntax.specs.declared.judgement.Keyword.TheVariants as K
use Rattle.gft_syntax.specs.declared.term.Local.TheVariants.{Label}
use Rattle.gft_syntax.specs.declared.term.Term.{Term, roll-Term}
use Rattle.gft_syntax.specs.declared.term.Term.TheFolds.{fold-roll-Term}
use Rattle.gft_syntax.specs.declared.term.Term.TheViews.{out-roll-Term}
use Rattle.gft_syntax.specs.declared.token.Reserved.TheVariants as W
use Rattle.gft_syntax.specs.declared.token.SourceToken.{SourceToken}
use Rattle.gft_syntax.specs.declared.token.Symbol.TheVariants as S
use Rattle.gft_syntax.specs.declared.token.TokenForm.{TokenForm}
use Rattle.gft_syntax.specs.declared.token.TokenForm.TheVariants.{Identifier, Reserved, Symbol}
use Rattle.gft_syntax.specs.Parts.{Part, judgement_parts, height}
use Rattle.gft_model.specs.Grammar.{Tokens, term, exp, local}
use Rattle.gft_model.specs.ModuleGrammar.{Mark, opening, closing_brace, closing, let_word, in_word, semicolon, other, mark_of, slices_of, SpellsSlice, SpellsSlices, with_keyword, lincat, SpellsModule, a_module, module_of, a_concrete, own_body, nothing_before, closed_body, no_slice, empty_slice, slice, at_once}
use Rattle.gft_model.specs.Refusals.{Moment}
use Rattle.gft_model.specs.SyntaxFaults
use Rattle.gft_model.proofs.AcceptedNamesExamples.{one_of, none_of, lincat_of, e_eng, str_layer, type_layer}
use Rattle.gft_model.proofs.AcceptedSlicesExamples.{is_outside, spelled_outside, opens_once, standing, spells_some, first_has_none, keyword_of, token}
use Rattle.gft_model.proofs.GrammarRules as Rules
use Rattle.gft_model.proofs.GrammarTable.{tabled}
use Rattle.gft_model.proofs.SliceLaws.{slice-once}

abbrev pub header_tokens : Tokens
header_tokens =
    token 0 1 (Reserved W.Concrete) ∷ token 0 10 (Identifier (codes "EEng")) ∷ token 0 15 (Reserved W.Of)
    ∷ token 0 18 (Identifier (codes "E")) ∷ token 0 20 (Symbol S.Equals) ∷ []

abbrev pub brace : SourceToken
brace = token 0 22 (Symbol S.LeftBrace)

abbrev type_tokens : Tokens
type_tokens =
    token 0 34 (Symbol S.LeftBrace) ∷ token 0 35 (Identifier (codes "s")) ∷ token 0 37 (Symbol S.Colon)
    ∷ token 0 39 (Reserved W.Str)
    ∷ token 0 42 (Symbol S.RightBrace) ∷ []

abbrev pub lincat_tokens : Tokens
lincat_tokens =
    token 0 23 (Reserved W.Lincat) ∷ token 0 30 (Identifier (codes "S")) ∷ token 0 32 (Symbol S.Equals) ∷ type_tokens

abbrev pub body_tokens : Tokens
body_tokens = lincat_tokens ++ token 0 44 (Symbol S.Semicolon) ∷ token 0 45 (Symbol S.RightBrace) ∷ []

abbrev pub tokens : Tokens
tokens = header_tokens ++ brace ∷ body_tokens

-- EEng is the module of these
at_exp : {ts rest : Tokens} {e : Term} → Rules.Spells (term Rules.exp6) ts e rest → Rules.Spells (term exp) ts e rest
at_exp d =
    Rules.tighter_term Rules.below_exp (Rules.tighter_term Rules.below_exp1 (Rules.tighter_term Rules.below_exp2
    (Rules.tighter_term Rules.below_exp3 (Rules.tighter_term Rules.below_exp4 (Rules.tighter_term Rules.below_exp5 d)))))

spells_label : Rules.Spells local (token 0 35 (Identifier (codes "s")) ∷ token 0 37 (Symbol S.Colon) ∷ token 0 39 (Reserved W.Str)
    ∷ token 0 42 (Symbol S.RightBrace) ∷ []) (Label (codes "s" ∷ []) (roll-Term str_layer))
    (token 0 42 (Symbol S.RightBrace) ∷ [])
spells_label =
    Rules.local_type (Rules.one (Rules.a_name refl)) refl (at_exp (Rules.sort Rules.strings refl (out-roll-Term str_layer)))

spells_type : Rules.Spells (term exp) type_tokens (roll-Term type_layer) []
spells_type = at_exp (Rules.fields refl (Rules.last spells_label) refl refl (out-roll-Term type_layer))

spells_lincat : SpellsSlice None lincat_tokens K.Lincat (lincat_of (codes "S"))
spells_lincat =
    with_keyword {k = K.Lincat} refl
    (lincat (tabled (Rules.one {s = S.Comma} (Rules.category_alone refl))) refl (tabled spells_type))

pub spells_e_eng : SpellsModule tokens e_eng
spells_e_eng =
    a_module (module_of a_concrete refl refl refl refl) refl
    (own_body nothing_before (closed_body {ss = lincat_tokens ∷ [] ∷ []} refl refl (slice spells_lincat (empty_slice no_slice))))
    at_once

header_alone : SyntaxFaults.IsDerivable (SyntaxFaults.header brace) header_tokens
header_alone =
    SyntaxFaults.a_header (token 0 23 (Symbol S.RightBrace)) refl
    (a_module (module_of a_concrete refl refl refl refl) refl
    (own_body nothing_before (closed_body {ss = [] ∷ []} refl refl (empty_slice no_slice))) at_once)

-- a token that is no minus and no word out of the profile
record IsPlain (t : TokenForm) : Type 0 where
  inside : is_outside t ≡ false
  no_minus : t ≡ Symbol S.Minus → ⊥

plain_in_header : (t : SourceToken) → Contains header_tokens t → IsPlain t.form × (t.form ≡ Symbol S.LeftBrace → ⊥)
plain_in_header t (zero, b, e) =
    subst (λ (u : SourceToken). IsPlain u.form × (u.form ≡ Symbol S.LeftBrace → ⊥)) e
    (record { inside = refl; no_minus = λ h. cc }, λ h. cc)
plain_in_header t (suc zero, b, e) =
    subst (λ (u : SourceToken). IsPlain u.form × (u.form ≡ Symbol S.LeftBrace → ⊥)) e
    (record { inside = refl; no_minus = λ h. cc }, λ h. cc)
plain_in_header t (suc (suc zero), b, e) =
    subst (λ (u : SourceToken). IsPlain u.form × (u.form ≡ Symbol S.LeftBrace → ⊥)) e
    (record { inside = refl; no_minus = λ h. cc }, λ h. cc)
plain_in_header t (suc (suc (suc zero)), b, e) =
    subst (λ (u : SourceToken). IsPlain u.form × (u.form ≡ Symbol S.LeftBrace → ⊥)) e
    (record { inside = refl; no_minus = λ h. cc }, λ h. cc)
plain_in_header t (suc (suc (suc (suc zero))), b, e) =
    subst (λ (u : SourceToken). IsPlain u.form × (u.form ≡ Symbol S.LeftBrace → ⊥)) e
    (record { inside = refl; no_minus = λ h. cc }, λ h. cc)
plain_in_header t (suc (suc (suc (suc (suc k)))), b, e) = absurd (omega (arith, b))

plain_in_lincat : (t : SourceToken) → Contains lincat_tokens t → IsPlain t.form
plain_in_lincat t (zero, b, e) = subst (λ (u : SourceToken). IsPlain u.form) e (record { inside = refl; no_minus = λ h. cc })
plain_in_lincat t (suc zero, b, e) = subst (λ (u : SourceToken). IsPlain u.form) e (record { inside = refl; no_minus = λ h. cc })
plain_in_lincat t (suc (suc zero), b, e) =
    subst (λ (u : SourceToken). IsPlain u.form) e (record { inside = refl; no_minus = λ h. cc })
plain_in_lincat t (suc (suc (suc zero)), b, e) =
    subst (λ (u : SourceToken). IsPlain u.form) e (record { inside = refl; no_minus = λ h. cc })
plain_in_lincat t (suc (suc (suc (suc zero))), b, e) =
    subst (λ (u : SourceToken). IsPlain u.form) e (record { inside = refl; no_minus = λ h. cc })
plain_in_lincat t (suc (suc (suc (suc (suc zero)))), b, e) =
    subst (λ (u : SourceToken). IsPlain u.form) e (record { inside = refl; no_minus = λ h. cc })
plain_in_lincat t (suc (suc (suc (suc (suc (suc zero))))), b, e) =
    subst (λ (u : SourceToken). IsPlain u.form) e (record { inside = refl; no_minus = λ h. cc })
plain_in_lincat t (suc (suc (suc (suc (suc (suc (suc zero)))))), b, e) =
    subst (λ (u : SourceToken). IsPlain u.form) e (record { inside = refl; no_minus = λ h. cc })
plain_in_lincat t (suc (suc (suc (suc (suc (suc (suc (suc k))))))), b, e) = absurd (omega (arith, b))

-- no more brackets are open than there are tokens
one_more : (n : ℕ) (m : Mark) → SyntaxFaults.open_with n m ≤ suc n
one_more n opening = omega arith
one_more n closing_brace = omega arith
one_more n closing = omega arith
one_more n let_word = omega arith
one_more n in_word = omega arith
one_more n semicolon = omega arith
one_more n other = omega arith

few_open : (n : ℕ) (ms : List Mark) → fold SyntaxFaults.open_with n ms ≤ n + length ms
few_open n [] = omega arith
few_open n (m ∷ ms) =
    let rest = few_open (SyntaxFaults.open_with n m) ms in let first = one_more n m in omega (arith, rest, first)

-- the slices: the header, the lincat, nothing after its semicolon, and nothing after the body
data IsSlice (kind : SyntaxFaults.SliceKind) (s : Tokens) : Type 0 where
  of_header : kind ≡ SyntaxFaults.header brace → s ≡ header_tokens → IsSlice kind s
  of_lincat : kind ≡ SyntaxFaults.in_body true None → s ≡ lincat_tokens → IsSlice kind s
  of_nothing : (k : Option Keyword) → kind ≡ SyntaxFaults.in_body true k → s ≡ [] → IsSlice kind s
  of_end : kind ≡ SyntaxFaults.following → s ≡ [] → IsSlice kind s

no_brace : SyntaxFaults.NoBody header_tokens
no_brace t c l = (plain_in_header t c).1 l

opens_there : {held body : Tokens} {l : SourceToken} → SyntaxFaults.OpensBody tokens held l body →
    (header_tokens ≡ held) × (brace ≡ l) × (body_tokens ≡ body)
opens_there {held} (SyntaxFaults.opens_body e b f) = opens_once header_tokens held no_brace f refl b e

ended : (rest : Option Tokens) (after : List Tokens) (k : Option Keyword) → Some [] ≡ rest →
    SyntaxFaults.in_body (is_some rest || nat_lt 0 (length after)) k ≡ SyntaxFaults.in_body true k
ended rest after k f = ap (λ r. SyntaxFaults.in_body (is_some r || nat_lt 0 (length after)) k) (sym f)

of_slices : (before after : List Tokens) (s : Tokens) (rest : Option Tokens) (k : Option Keyword) {js : List Judgement} →
    lincat_tokens ∷ [] ∷ [] ≡ before ++ s ∷ after → Some [] ≡ rest → SpellsSlices None before k js →
    IsSlice (SyntaxFaults.in_body (is_some rest || nat_lt 0 (length after)) k) s
of_slices [] after s rest k e f d =
    of_lincat (ended rest after k f ∙ ap (SyntaxFaults.in_body true) (first_has_none d)) (cc)
of_slices (x ∷ []) after s rest k e f d = of_nothing k (ended rest after k f) (cc)
of_slices (x ∷ y ∷ []) after s rest k e f d = cc
of_slices (x ∷ y ∷ z ∷ zs) after s rest k e f d = cc

slice_is : {n : ℕ} {kind : SyntaxFaults.SliceKind} {s : Tokens} → SyntaxFaults.HasSlice tokens n kind s → IsSlice kind s
slice_is (SyntaxFaults.no_body n) = absurd (n brace (5, omega arith, refl) refl)
slice_is (SyntaxFaults.before_body o) =
    let there = opens_there o in of_header (ap SyntaxFaults.header (sym there.1)) (sym there.0)
slice_is (SyntaxFaults.of_body {s = s} {rest = rest} {k = k} before after o e d) =
    let there = ap slices_of (opens_there o).2 ∙ e in
    of_slices before after s rest k (ap (λ (p : List Tokens × Option Tokens). p.0) there)
    (ap (λ (p : List Tokens × Option Tokens). p.1) there) d
slice_is (SyntaxFaults.after_body {rest = rest} o e) =
    let there = ap slices_of (opens_there o).2 ∙ e in
    let ends : Some [] ≡ Some rest = ap (λ (p : List Tokens × Option Tokens). p.1) there in
    of_end refl (cc)

plain_there : {kind : SyntaxFaults.SliceKind} {s : Tokens} → IsSlice kind s → (t : SourceToken) → Contains s t → IsPlain t.form
plain_there (of_header k e) t c = (plain_in_header t (subst (λ ts. Contains ts t) e c)).0
plain_there (of_lincat k e) t c = plain_in_lincat t (subst (λ ts. Contains ts t) e c)
plain_there (of_nothing k e f) t c = absurd (none_of (subst (λ ts. Contains ts t) f c))
plain_there (of_end k e) t c = absurd (none_of (subst (λ ts. Contains ts t) e c))

few_tokens : {kind : SyntaxFaults.SliceKind} {s : Tokens} → IsSlice kind s → length s ≤ 8
few_tokens (of_header k e) = let n = ap (λ (ts : Tokens). length ts) e in omega (arith, n)
few_tokens (of_lincat k e) = let n = ap (λ (ts : Tokens). length ts) e in omega (arith, n)
few_tokens (of_nothing k e f) = let n = ap (λ (ts : Tokens). length ts) f in omega (arith, n)
few_tokens (of_end k e) = let n = ap (λ (ts : Tokens). length ts) e in omega (arith, n)

derivable : {kind : SyntaxFaults.SliceKind} {s : Tokens} → IsSlice kind s → SyntaxFaults.IsDerivable kind s
derivable {kind} {s} i = of i where
  from : {k : SyntaxFaults.SliceKind} {ts : Tokens} → kind ≡ k → s ≡ ts → SyntaxFaults.IsDerivable k ts →
      SyntaxFaults.IsDerivable kind s
  from {k} e f d = subst (λ l. SyntaxFaults.IsDerivable l s) (sym e) (subst (SyntaxFaults.IsDerivable k) (sym f) d)

  of : IsSlice kind s → SyntaxFaults.IsDerivable kind s
  of (of_header e f) = from e f header_alone
  of (of_lincat e f) = from e f (SyntaxFaults.a_judgement spells_lincat)
  of (of_nothing k e f) = from e f SyntaxFaults.nothing
  of (of_end e f) = from e f (SyntaxFaults.an_end at_once)

-- the type is low
type_height : height (roll-Term type_layer) ≡ 2
type_height = simp fold-roll-Term

low : {s : Tokens} {before : Option Keyword} {b : Bool} {k : Keyword} {j : Judgement} {e : Term} →
    IsSlice (SyntaxFaults.in_body b before) s → SpellsSlice before s k j →
    Contains (map (λ (p : Part Term). p.part) (judgement_parts j)) e → 1000 < height e → ⊥
low (of_header h f) d c l = cc
low {before = before} {k = k} {j = j} {e = e} (of_lincat h f) d c l =
    let there =
    subst (λ b. SpellsSlice b lincat_tokens k j) (keyword_of h) (subst (λ ts. SpellsSlice before ts k j) f d) in
    let judgement = (slice-once there spells_lincat).1 in
    let type = one_of (subst (λ i. Contains (map (λ (p : Part Term). p.part) (judgement_parts i)) e) judgement c) in
    let two = sym (ap height type) ∙ type_height in omega (arith, l, two)
low (of_nothing q h f) d c l = spells_some d f
low (of_end h f) d c l = cc

no_slice_broken : {kind : SyntaxFaults.SliceKind} {s : Tokens} {turn : ℕ} {rule : Rule} {p : Place} {names : List (List ℕ)} →
    IsSlice kind s → SyntaxFaults.BreaksSlice kind s turn rule p names → ⊥
no_slice_broken i (SyntaxFaults.out_of_profile {t} {x} c h o) =
    let plain = plain_there i t c in
    let wrong : false ≡ true = sym plain.inside ∙ spelled_outside t.form x o h in cc
no_slice_broken i (SyntaxFaults.negated_pattern held rest more t q k e m h d) =
    (plain_there i t (subst (λ ts. Contains ts t) (sym e) (standing held rest t))).no_minus m
no_slice_broken i (SyntaxFaults.too_many_brackets held rest t e m f) =
    let bound = few_open 0 (map (λ (u : SourceToken). mark_of u.form) held) in
    let tokens = ap (λ (ts : Tokens). length ts) e in
    let few = few_tokens i in
    omega (arith, bound, tokens, few, f, length-map held (λ (u : SourceToken). mark_of u.form), length-append held (t ∷ rest))
no_slice_broken {s = s} i (SyntaxFaults.too_high k d c h) = low (subst (λ l. IsSlice l s) k i) d c h
no_slice_broken i (SyntaxFaults.not_in_grammar n e h) = n (derivable i)

all_ended : {before : Option Keyword} {s : Tokens} → IsSlice (SyntaxFaults.in_body false before) s → ⊥
all_ended (of_header h f) = cc
all_ended (of_lincat h f) = cc
all_ended (of_nothing k h f) = cc
all_ended (of_end h f) = cc

pub no_slice_fault : (at : Moment) (r : Refusal) → ¬ (SyntaxFaults.BreaksSyntax 0 tokens at r)
no_slice_fault at r (SyntaxFaults.in_slice h b) = no_slice_broken (slice_is h) b
no_slice_fault at r (SyntaxFaults.ends_early held t h e) = all_ended (slice_is h)
no_slice_fault at r (SyntaxFaults.no_tokens e) = cc
