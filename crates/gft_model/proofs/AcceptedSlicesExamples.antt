-- A worked example of tokens in which nothing is broken: those of abstract E = {cat S ;}.
use Rattle.std.proofs.Common.{◌≡◌, ap, sym, ◌∙◌, refl, ℕ, zero, suc, true, false, Bool, List, [], ◌∷◌, ◌++◌, length, Option, Some, None, subst, arith}
use Rattle.std.proofs.lemmas.List.{append-nil}
use Rattle.std.specs.Prelude.{codes, map, nat_lt, ◌||◌, Contains, IsUtf8, encode_utf8_all}
use Rattle.std.specs.Option.{is_some}
use Rattle.std.specs.Str.{chars, is_utf8}
use lib.Utf8
use Rattle.ucd_derived.specs.Binary.{is_xid_start, is_xid_continue}
use Rattle.ucd_derived.specs.XidStartRanges.{xid_start_ranges}
use Rattle.ucd_derived.specs.XidContinueRanges.{xid_continue_ranges}
use Rattle.ucd_table.specs.Rows.{in_ranges}
use Rattle.gft_core.proofs.WordLemmas.{past_all}
use Rattle.gft_core.specs.declared.place.Place.{Place}
use Rattle.gft_rules.specs.declared.refusal.Refusal.{Refusal}
use Rattle.gft_rules.specs.declared.rule.Rule.{Rule}
use Rattle.gft_syntax.specs.declared.judgement.Judgement.{Judgement}
use Rattle.gft_syntax.specs.declared.judgement.Judgement.TheVariants as J
use Rattle.gft_syntax.specs.declared.judgement.Keyword.{Keyword}
use Rattle.gft_syntax.specs.declared.judgement.Keyword.TheVariants as K
use Rattle.gft_syntax.specs.declared.token.Reserved.{Reserved as Word}
use Rattle.gft_syntax.specs.declared.token.Reserved.TheVariants as W
use Rattle.gft_syntax.specs.declared.token.SourceToken.{SourceToken}
use Rattle.gft_syntax.specs.declared.token.Symbol.TheVariants as S
use Rattle.gft_syntax.specs.declared.token.TokenForm.{TokenForm}
use Rattle.gft_syntax.specs.declared.token.TokenForm.TheVariants.{Identifier, Reserved, Symbol}
use Rattle.gft_syntax.specs.declared.term.Term.{Term}
use Rattle.gft_syntax.specs.Parts.{Part, judgement_parts}
use Rattle.gft_model.specs.Grammar.{Tokens, Is, none}
use Rattle.gft_model.specs.ModuleGrammar.{mark_of, other, slices_of, SpellsSlice, with_keyword, goes_on, category, SpellsSlices, SpellsModule, a_module, plain_module, an_abstract, own_body, nothing_before, closed_body, no_slice, empty_slice, slice, at_once}
use Rattle.gft_model.specs.Refusals.{Moment}
use Rattle.gft_model.specs.Source.{form_of}
use Rattle.gft_model.specs.SyntaxFaults
use Rattle.gft_model.proofs.AcceptedNamesExamples.{none_of, abstract_e}
use Rattle.gft_model.proofs.SliceLaws.{slice-once}

-- WORDS OUT OF THE PROFILE

-- characters with the bytes of a text are its characters
no_characters : chars [] ≡ []
unfolding chars
no_characters = refl

same_text : (w cs : List ℕ) → IsUtf8 w → chars w ≡ w → encode_utf8_all cs ≡ w → cs ≡ w
same_text w cs u e f =
    let bytes : encode_utf8_all cs ++ [] ≡ w = append-nil (encode_utf8_all cs) ∙ f in
    let there = (past_all cs [] (subst IsUtf8 (sym bytes) u)).0 in
    sym (append-nil cs) ∙ ap (λ ds. cs ++ ds) (sym no_characters) ∙ sym there ∙ ap chars bytes ∙ e

abbrev pub is_outside : TokenForm → Bool
is_outside (Reserved W.DataWord) = true
is_outside (Reserved W.Def) = true
is_outside (Reserved W.Pre) = true
is_outside (Reserved W.Strs) = true
is_outside (Reserved W.Printname) = true
is_outside (Reserved W.Transfer) = true
is_outside (Reserved W.Union) = true
is_outside (Reserved W.Reuse) = true
is_outside (Reserved W.Float) = true
is_outside t = false

-- a text is the reserved word
record Reads (w : List ℕ) (r : Word) : Type 0 where
  is_text : IsUtf8 w
  characters : chars w ≡ w
  form : form_of w ≡ Some (Reserved r)

outside : (t : TokenForm) {w : List ℕ} {r : Word} → Reads w r → is_outside (Reserved r) ≡ true → SyntaxFaults.IsSpelled t w →
    is_outside t ≡ true
outside t {w} {r} x o (cs, g, h) =
    let form : Some (Reserved r) ≡ Some t = sym x.form ∙ ap form_of (sym (same_text w cs x.is_text x.characters h)) ∙ g in
    let token : Reserved r ≡ t = cc in ap is_outside (sym token) ∙ o

reads_data : Reads (codes "data") W.DataWord
unfolding chars is_utf8 lib.Utf8.encode is_xid_start is_xid_continue xid_start_ranges xid_continue_ranges in_ranges
reads_data = record { is_text = (codes "data", (refl, refl)); characters = refl; form = refl }

reads_def : Reads (codes "def") W.Def
unfolding chars is_utf8 lib.Utf8.encode is_xid_start is_xid_continue xid_start_ranges xid_continue_ranges in_ranges
reads_def = record { is_text = (codes "def", (refl, refl)); characters = refl; form = refl }

reads_pre : Reads (codes "pre") W.Pre
unfolding chars is_utf8 lib.Utf8.encode is_xid_start is_xid_continue xid_start_ranges xid_continue_ranges in_ranges
reads_pre = record { is_text = (codes "pre", (refl, refl)); characters = refl; form = refl }

reads_strs : Reads (codes "strs") W.Strs
unfolding chars is_utf8 lib.Utf8.encode is_xid_start is_xid_continue xid_start_ranges xid_continue_ranges in_ranges
reads_strs = record { is_text = (codes "strs", (refl, refl)); characters = refl; form = refl }

reads_printname : Reads (codes "printname") W.Printname
unfolding chars is_utf8 lib.Utf8.encode is_xid_start is_xid_continue xid_start_ranges xid_continue_ranges in_ranges
reads_printname = record { is_text = (codes "printname", (refl, refl)); characters = refl; form = refl }

reads_transfer : Reads (codes "transfer") W.Transfer
unfolding chars is_utf8 lib.Utf8.encode is_xid_start is_xid_continue xid_start_ranges xid_continue_ranges in_ranges
reads_transfer = record { is_text = (codes "transfer", (refl, refl)); characters = refl; form = refl }

reads_union : Reads (codes "union") W.Union
unfolding chars is_utf8 lib.Utf8.encode is_xid_start is_xid_continue xid_start_ranges xid_continue_ranges in_ranges
reads_union = record { is_text = (codes "union", (refl, refl)); characters = refl; form = refl }

reads_reuse : Reads (codes "reuse") W.Reuse
unfolding chars is_utf8 lib.Utf8.encode is_xid_start is_xid_continue xid_start_ranges xid_continue_ranges in_ranges
reads_reuse = record { is_text = (codes "reuse", (refl, refl)); characters = refl; form = refl }

reads_float : Reads (codes "Float") W.Float
unfolding chars is_utf8 lib.Utf8.encode is_xid_start is_xid_continue xid_start_ranges xid_continue_ranges in_ranges
reads_float = record { is_text = (codes "Float", (refl, refl)); characters = refl; form = refl }

-- what is spelled as such a word is one
pub spelled_outside : (t : TokenForm) (x : List ℕ) → Contains SyntaxFaults.outside_words x → SyntaxFaults.IsSpelled t x →
    is_outside t ≡ true
spelled_outside t x (zero, b, e) h = outside t reads_data refl (subst (SyntaxFaults.IsSpelled t) (sym e) h)
spelled_outside t x (suc zero, b, e) h = outside t reads_def refl (subst (SyntaxFaults.IsSpelled t) (sym e) h)
spelled_outside t x (suc (suc zero), b, e) h = outside t reads_pre refl (subst (SyntaxFaults.IsSpelled t) (sym e) h)
spelled_outside t x (suc (suc (suc zero)), b, e) h = outside t reads_strs refl (subst (SyntaxFaults.IsSpelled t) (sym e) h)
spelled_outside t x (suc (suc (suc (suc zero))), b, e) h =
    outside t reads_printname refl (subst (SyntaxFaults.IsSpelled t) (sym e) h)
spelled_outside t x (suc (suc (suc (suc (suc zero)))), b, e) h =
    outside t reads_transfer refl (subst (SyntaxFaults.IsSpelled t) (sym e) h)
spelled_outside t x (suc (suc (suc (suc (suc (suc zero))))), b, e) h =
    outside t reads_union refl (subst (SyntaxFaults.IsSpelled t) (sym e) h)
spelled_outside t x (suc (suc (suc (suc (suc (suc (suc zero)))))), b, e) h =
    outside t reads_reuse refl (subst (SyntaxFaults.IsSpelled t) (sym e) h)
spelled_outside t x (suc (suc (suc (suc (suc (suc (suc (suc zero))))))), b, e) h =
    outside t reads_float refl (subst (SyntaxFaults.IsSpelled t) (sym e) h)
spelled_outside t x (suc (suc (suc (suc (suc (suc (suc (suc (suc k)))))))), b, e) h = absurd (omega (arith, b))

-- THE SLICES

-- the brace that is the first is one
pub opens_once : (h k : Tokens) {l m : SourceToken} {b c : Tokens} → SyntaxFaults.NoBody h → SyntaxFaults.NoBody k →
    Is S.LeftBrace l →
    Is S.LeftBrace m → h ++ l ∷ b ≡ k ++ m ∷ c → (h ≡ k) × (l ≡ m) × (b ≡ c)
opens_once [] [] n o p q e = (refl, cc, cc)
opens_once [] (t ∷ k) {l} {m} n o p q e =
    let same : l ≡ t = cc in absurd (o t (0, omega arith, refl) (subst (Is S.LeftBrace) same p))
opens_once (t ∷ h) [] {l} {m} n o p q e =
    let same : m ≡ t = cc in absurd (n t (0, omega arith, refl) (subst (Is S.LeftBrace) same q))
opens_once (t ∷ h) (u ∷ k) {l} {m} {b} {c} n o p q e =
    let tails : h ++ l ∷ b ≡ k ++ m ∷ c = cc in
    let heads : t ≡ u = cc in
    let rest =
    opens_once h k (λ v d. n v (suc d.0, omega (arith, d.1), d.2))
    (λ v d. o v (suc d.0, omega (arith, d.1), d.2)) p q tails in
    ((λ i. heads i ∷ rest.0 i), rest.1, rest.2)

pub standing : (held rest : Tokens) (t : SourceToken) → Contains (held ++ t ∷ rest) t
standing [] rest t = (0, omega arith, refl)
standing (u ∷ held) rest t = let c = standing held rest t in (suc c.0, omega (arith, c.1), c.2)

pub spells_some : {before : Option Keyword} {s : Tokens} {k : Keyword} {j : Judgement} → SpellsSlice before s k j → s ≡ [] → ⊥
spells_some (with_keyword w d) e = cc
spells_some (goes_on d) e = cc

pub first_has_none : {k : Option Keyword} {js : List Judgement} → SpellsSlices None [] k js → k ≡ None
first_has_none no_slice = refl

pub keyword_of : {b c : Bool} {k l : Option Keyword} → SyntaxFaults.in_body b k ≡ SyntaxFaults.in_body c l → k ≡ l
keyword_of e = cc

module _ (file : ℕ) where
  abbrev pub token : ℕ → TokenForm → SourceToken
  token col form = record { form = form; place = record { file = file; line = 1; col = col } }

  abbrev pub header_tokens : Tokens
  header_tokens = token 1 (Reserved W.Abstract) ∷ token 10 (Identifier (codes "E")) ∷ token 12 (Symbol S.Equals) ∷ []

  abbrev pub brace : SourceToken
  brace = token 14 (Symbol S.LeftBrace)

  abbrev pub category_tokens : Tokens
  category_tokens = token 15 (Reserved W.Cat) ∷ token 19 (Identifier (codes "S")) ∷ []

  abbrev pub body_tokens : Tokens
  body_tokens = category_tokens ++ token 21 (Symbol S.Semicolon) ∷ token 22 (Symbol S.RightBrace) ∷ []

  abbrev pub tokens : Tokens
  tokens = header_tokens ++ brace ∷ body_tokens

  -- E is the module of these
  abbrev category_s : Judgement
  category_s = J.Cat (record { name = codes "S"; place = (token 19 (Symbol S.Semicolon)).place }) []

  spells_category : SpellsSlice None category_tokens K.Cat category_s
  spells_category = with_keyword {k = K.Cat} refl (category {cs = []} refl none)

  pub spells_e : SpellsModule tokens (abstract_e file)
  spells_e =
      a_module (plain_module an_abstract refl refl) refl
      (own_body nothing_before (closed_body {ss = category_tokens ∷ [] ∷ []} refl refl (slice spells_category
      (empty_slice no_slice))))
      at_once

  -- a header by itself is in the grammar
  header_alone : SyntaxFaults.IsDerivable (SyntaxFaults.header brace) header_tokens
  header_alone =
      SyntaxFaults.a_header (token 15 (Symbol S.RightBrace)) refl
      (a_module (plain_module an_abstract refl refl) refl
      (own_body nothing_before (closed_body {ss = [] ∷ []} refl refl (empty_slice no_slice))) at_once)

  -- a token that is no bracket, no minus and no word out of the profile
  record IsPlain (t : TokenForm) : Type 0 where
    inside : is_outside t ≡ false
    no_minus : t ≡ Symbol S.Minus → ⊥
    no_bracket : mark_of t ≡ other

  plain_in_header : (t : SourceToken) → Contains header_tokens t → IsPlain t.form
  plain_in_header t (zero, b, e) =
      subst (λ (u : SourceToken). IsPlain u.form) e (record { inside = refl; no_minus = λ h. cc; no_bracket = refl })
  plain_in_header t (suc zero, b, e) =
      subst (λ (u : SourceToken). IsPlain u.form) e (record { inside = refl; no_minus = λ h. cc; no_bracket = refl })
  plain_in_header t (suc (suc zero), b, e) =
      subst (λ (u : SourceToken). IsPlain u.form) e (record { inside = refl; no_minus = λ h. cc; no_bracket = refl })
  plain_in_header t (suc (suc (suc k)), b, e) = absurd (omega (arith, b))

  plain_in_category : (t : SourceToken) → Contains category_tokens t → IsPlain t.form
  plain_in_category t (zero, b, e) =
      subst (λ (u : SourceToken). IsPlain u.form) e (record { inside = refl; no_minus = λ h. cc; no_bracket = refl })
  plain_in_category t (suc zero, b, e) =
      subst (λ (u : SourceToken). IsPlain u.form) e (record { inside = refl; no_minus = λ h. cc; no_bracket = refl })
  plain_in_category t (suc (suc k), b, e) = absurd (omega (arith, b))

  -- the slices of the file: the header, the category, nothing after its semicolon, and nothing after the body
  data IsSlice (kind : SyntaxFaults.SliceKind) (s : Tokens) : Type 0 where
    of_header : kind ≡ SyntaxFaults.header brace → s ≡ header_tokens → IsSlice kind s
    of_category : kind ≡ SyntaxFaults.in_body true None → s ≡ category_tokens → IsSlice kind s
    of_nothing : (k : Option Keyword) → kind ≡ SyntaxFaults.in_body true k → s ≡ [] → IsSlice kind s
    of_end : kind ≡ SyntaxFaults.following → s ≡ [] → IsSlice kind s

  no_brace : SyntaxFaults.NoBody header_tokens
  no_brace t c l = let plain = plain_in_header t c in let wrong = sym plain.no_bracket ∙ ap mark_of l in cc

  opens_there : {held body : Tokens} {l : SourceToken} → SyntaxFaults.OpensBody tokens held l body →
      (header_tokens ≡ held) × (brace ≡ l) × (body_tokens ≡ body)
  opens_there {held} (SyntaxFaults.opens_body e l n) = opens_once header_tokens held no_brace n refl l e

  ended : (rest : Option Tokens) (after : List Tokens) (k : Option Keyword) → Some [] ≡ rest →
      SyntaxFaults.in_body (is_some rest || nat_lt 0 (length after)) k ≡ SyntaxFaults.in_body true k
  ended rest after k f = ap (λ r. SyntaxFaults.in_body (is_some r || nat_lt 0 (length after)) k) (sym f)

  of_slices : (before after : List Tokens) (s : Tokens) (rest : Option Tokens) (k : Option Keyword) {js : List Judgement} →
      category_tokens ∷ [] ∷ [] ≡ before ++ s ∷ after → Some [] ≡ rest → SpellsSlices None before k js →
      IsSlice (SyntaxFaults.in_body (is_some rest || nat_lt 0 (length after)) k) s
  of_slices [] after s rest k e f d =
      of_category (ended rest after k f ∙ ap (SyntaxFaults.in_body true) (first_has_none d)) (cc)
  of_slices (x ∷ []) after s rest k e f d = of_nothing k (ended rest after k f) (cc)
  of_slices (x ∷ y ∷ []) after s rest k e f d = cc
  of_slices (x ∷ y ∷ z ∷ zs) after s rest k e f d = cc

  slice_is : {n : ℕ} {kind : SyntaxFaults.SliceKind} {s : Tokens} → SyntaxFaults.HasSlice tokens n kind s → IsSlice kind s
  slice_is (SyntaxFaults.no_body n) = absurd (n brace (3, omega arith, refl) refl)
  slice_is (SyntaxFaults.before_body o) =
      let there = opens_there o in of_header (ap SyntaxFaults.header (sym there.1)) (sym there.0)
  slice_is (SyntaxFaults.of_body {s = s} {rest = rest} {k = k} before after o e d) =
      let there = ap slices_of (opens_there o).2 ∙ e in
      of_slices before after s rest k (ap (λ (p : List Tokens × Option Tokens). p.0) there)
      (ap (λ (p : List Tokens × Option Tokens). p.1) there) d
  slice_is (SyntaxFaults.after_body {rest = rest} o e) =
      let there = ap slices_of (opens_there o).2 ∙ e in
      let ends : Some [] ≡ Some rest = ap (λ (p : List Tokens × Option Tokens). p.1) there in
      of_end refl (cc)

  plain_there : {kind : SyntaxFaults.SliceKind} {s : Tokens} → IsSlice kind s → (t : SourceToken) → Contains s t → IsPlain t.form
  plain_there (of_header k e) t c = plain_in_header t (subst (λ ts. Contains ts t) e c)
  plain_there (of_category k e) t c = plain_in_category t (subst (λ ts. Contains ts t) e c)
  plain_there (of_nothing k e f) t c = absurd (none_of (subst (λ ts. Contains ts t) f c))
  plain_there (of_end k e) t c = absurd (none_of (subst (λ ts. Contains ts t) e c))

  derivable : {kind : SyntaxFaults.SliceKind} {s : Tokens} → IsSlice kind s → SyntaxFaults.IsDerivable kind s
  derivable {kind} {s} i = of i where
    from : {k : SyntaxFaults.SliceKind} {ts : Tokens} → kind ≡ k → s ≡ ts → SyntaxFaults.IsDerivable k ts →
        SyntaxFaults.IsDerivable kind s
    from {k} e f d = subst (λ l. SyntaxFaults.IsDerivable l s) (sym e) (subst (SyntaxFaults.IsDerivable k) (sym f) d)

    of : IsSlice kind s → SyntaxFaults.IsDerivable kind s
    of (of_header e f) = from e f header_alone
    of (of_category e f) = from e f (SyntaxFaults.a_judgement spells_category)
    of (of_nothing k e f) = from e f SyntaxFaults.nothing
    of (of_end e f) = from e f (SyntaxFaults.an_end at_once)

  -- the judgement of the category has no terms
  no_terms : {s : Tokens} {before : Option Keyword} {b : Bool} {k : Keyword} {j : Judgement} {e : Term} →
      IsSlice (SyntaxFaults.in_body b before) s → SpellsSlice before s k j →
      Contains (map (λ (p : Part Term). p.part) (judgement_parts j)) e → ⊥
  no_terms (of_header h f) d c = cc
  no_terms {before = before} {k = k} {j = j} {e = e} (of_category h f) d c =
      let first = keyword_of h in
      let there = subst (λ b. SpellsSlice b category_tokens k j) first (subst (λ ts. SpellsSlice before ts k j) f d) in
      none_of (subst (λ i. Contains (map (λ (p : Part Term). p.part) (judgement_parts i)) e)
      (slice-once there spells_category).1 c)
  no_terms (of_nothing l h f) d c = spells_some d f
  no_terms (of_end h f) d c = cc

  no_slice_broken : {kind : SyntaxFaults.SliceKind} {s : Tokens} {turn : ℕ} {rule : Rule} {p : Place} {names : List (List ℕ)} →
      IsSlice kind s → SyntaxFaults.BreaksSlice kind s turn rule p names → ⊥
  no_slice_broken i (SyntaxFaults.out_of_profile {t} {x} c h o) =
      let plain = plain_there i t c in
      let wrong : false ≡ true = sym plain.inside ∙ spelled_outside t.form x o h in cc
  no_slice_broken i (SyntaxFaults.negated_pattern held rest more t q k e m h d) =
      (plain_there i t (subst (λ ts. Contains ts t) (sym e) (standing held rest t))).no_minus m
  no_slice_broken i (SyntaxFaults.too_many_brackets held rest t e m f) =
      let plain = plain_there i t (subst (λ ts. Contains ts t) (sym e) (standing held rest t)) in
      let wrong = sym plain.no_bracket ∙ m in cc
  no_slice_broken {s = s} i (SyntaxFaults.too_high k d c h) = no_terms (subst (λ l. IsSlice l s) k i) d c
  no_slice_broken i (SyntaxFaults.not_in_grammar n e h) = n (derivable i)

  all_ended : {before : Option Keyword} {s : Tokens} → IsSlice (SyntaxFaults.in_body false before) s → ⊥
  all_ended (of_header h f) = cc
  all_ended (of_category h f) = cc
  all_ended (of_nothing k h f) = cc
  all_ended (of_end h f) = cc

  pub no_slice_fault : (at : Moment) (r : Refusal) → ¬ (SyntaxFaults.BreaksSyntax file tokens at r)
  no_slice_fault at r (SyntaxFaults.in_slice h b) = no_slice_broken (slice_is h) b
  no_slice_fault at r (SyntaxFaults.ends_early held t h e) = all_ended (slice_is h)
  no_slice_fault at r (SyntaxFaults.no_tokens e) = cc
