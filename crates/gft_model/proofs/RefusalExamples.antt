-- Worked examples of refusals of characters and slices.
use Rattle.std.proofs.Common.{◌≡◌, ℕ, zero, suc, true, List, [], ◌∷◌, ◌++◌, refl, ◌⊎◌, inl, inr, ap, sym, ◌∙◌, subst, arith}
use Rattle.std.specs.Prelude.{Contains, codes, ◌≤◌, drop, Some, None}
use Rattle.std.specs.Str.{chars, is_utf8}
use Rattle.std.specs.Str.Lossy.{utf8_valid_len}
use lib.Utf8
use Rattle.ucd_derived.specs.Binary.{is_xid_start, is_xid_continue}
use Rattle.ucd_derived.specs.XidStartRanges.{xid_start_ranges}
use Rattle.ucd_derived.specs.XidContinueRanges.{xid_continue_ranges}
use Rattle.ucd_table.specs.Rows.{in_ranges}
use Rattle.gft_core.specs.declared.place.Place.{Place}
use Rattle.gft_rules.specs.declared.refusal.Refusal.{Refusal}
use Rattle.gft_rules.specs.declared.rule.Rule.TheVariants as R
use Rattle.gft_syntax.specs.declared.judgement.Judgement.{Judgement}
use Rattle.gft_syntax.specs.declared.judgement.Judgement.TheVariants as J
use Rattle.gft_syntax.specs.declared.judgement.Keyword.{Keyword}
use Rattle.gft_syntax.specs.declared.judgement.Keyword.TheVariants as K
use Rattle.gft_syntax.specs.declared.token.Reserved.TheVariants as W
use Rattle.gft_syntax.specs.declared.token.SourceToken.{SourceToken}
use Rattle.gft_syntax.specs.declared.token.Symbol.TheVariants as S
use Rattle.gft_syntax.specs.declared.token.TokenForm.{TokenForm}
use Rattle.gft_syntax.specs.declared.token.TokenForm.TheVariants.{Identifier, Reserved, Number, Symbol}
use Rattle.gft_syntax.specs.declared.reference.PlacedName.{PlacedName}
use Rattle.gft_model.specs.Grammar.{IsReserved, placed, listed, placed_name}
use Rattle.gft_model.proofs.GrammarRules as Rules
use Rattle.gft_model.proofs.GrammarRules.{ruled}
use Rattle.gft_model.proofs.GrammarTable.{tabled}
use Rattle.gft_model.specs.ModuleGrammar.{SpellsJudgement, SpellsSlice, with_keyword, goes_on, slice, no_slice, keyword_word, category, function, linearization}
use Rattle.gft_model.specs.Refusals.{refusal}
use Rattle.gft_model.specs.Source.{lexeme_at, longest, blank, token, nothing}
use Rattle.gft_model.specs.SyntaxFaults
use Rattle.gft_model.specs.TokenFaults

abbrev here : ℕ → ℕ → Place
here line col = record { file = 0; line = line; col = col }

abbrev at : ℕ → TokenForm → SourceToken
at col form = record { form = form; place = here 1 col }

-- "a without a closing quote
further : (xs : List ℕ) (y x : ℕ) → Contains xs x → Contains (y ∷ xs) x
further xs y x (k, h, e) = (suc k, omega (arith, h), e)

within : {p q : Place} {cs ds : List ℕ} → TokenFaults.Inside p cs q ds → (x : ℕ) → Contains ds x → Contains cs x
within TokenFaults.here x c = c
within (TokenFaults.plain {cs} {c} i j k r) x d = further cs c x (within r x d)
within (TokenFaults.escape {cs} {c} i r) x d = further (c ∷ cs) 92 x (further cs c x (within r x d))

no_quote : Contains (codes "a") 34 → ⊥
no_quote (zero, h, e) = omega (arith, e)
no_quote (suc k, h, e) = omega (arith, h)

pub not_closed : TokenFaults.BreaksTokens 0 (34 ∷ codes "a") (refusal R.OpenString (here 1 1) [])
unfolding chars lib.Utf8.encode utf8_valid_len is_utf8
not_closed = TokenFaults.open_string TokenFaults.at_start (λ closed. no_quote (within closed.2 34 (0, omega arith, refl)))

-- in a file that is one semicolon nothing is broken
abbrev semicolon : List ℕ
semicolon = codes ";"

token_there : lexeme_at semicolon ≡ token (Symbol S.Semicolon) 1
token_there = refl

after_it : {cs : List ℕ} {t : TokenForm} {n : ℕ} → (cs ≡ semicolon) ⊎ (cs ≡ []) → lexeme_at cs ≡ token t n → drop n cs ≡ []
after_it {cs} {t} {n} (inl q) e =
    let f : token (Symbol S.Semicolon) 1 ≡ token t n = subst (λ ds. lexeme_at ds ≡ token t n) q e in
    let m : 1 ≡ n = cc in subst (λ k. drop k cs ≡ []) m (ap (drop 1) q)
after_it {cs} {t} {n} (inr q) e = let f : nothing ≡ token t n = subst (λ ds. lexeme_at ds ≡ token t n) q e in cc

no_blank : {cs : List ℕ} {n : ℕ} → (cs ≡ semicolon) ⊎ (cs ≡ []) → lexeme_at cs ≡ blank n → ⊥
no_blank {n = n} (inl q) e =
    let f : token (Symbol S.Semicolon) 1 ≡ blank n = subst (λ ds. lexeme_at ds ≡ blank n) q e in cc
no_blank {n = n} (inr q) e = let f : nothing ≡ blank n = subst (λ ds. lexeme_at ds ≡ blank n) q e in cc

begins_at : {p : Place} {cs : List ℕ} → TokenFaults.Begins 0 semicolon p cs → (cs ≡ semicolon) ⊎ (cs ≡ [])
begins_at TokenFaults.at_start = inl refl
begins_at (TokenFaults.after_blank b e) = absurd (no_blank (begins_at b) e)
begins_at (TokenFaults.after_token b e) = inr (after_it (begins_at b) e)

head_is : {c : ℕ} {cs : List ℕ} → (c ∷ cs ≡ semicolon) ⊎ (c ∷ cs ≡ []) → (c ≡ 59) × (cs ≡ [])
head_is (inl q) = (cc, cc)
head_is (inr q) = absurd (cc)

no_number : {cs : List ℕ} {n k : ℕ} {s : List ℕ} → (cs ≡ semicolon) ⊎ (cs ≡ []) → lexeme_at cs ≡ token (Number n s) k → ⊥
no_number {n = n} {k = k} {s = s} (inl q) e =
    let f : token (Symbol S.Semicolon) 1 ≡ token (Number n s) k = subst (λ ds. lexeme_at ds ≡ token (Number n s) k) q e in cc
no_number {n = n} {k = k} {s = s} (inr q) e = let f : nothing ≡ token (Number n s) k = subst (λ ds. lexeme_at ds ≡ token (Number n s) k) q e in cc

no_other : (before rest : List ℕ) (c : ℕ) → semicolon ≡ before ++ c ∷ rest → TokenFaults.no_character ≤ c → ⊥
no_other [] rest c e h = let f : 59 ≡ c = cc in omega (arith, f, h)
no_other (x ∷ []) rest c e h = cc
no_other (x ∷ y ∷ ys) rest c e h = cc

text_is : TokenFaults.text_of semicolon ≡ semicolon
unfolding chars lib.Utf8.encode utf8_valid_len is_utf8
text_is = refl

there : {p : Place} {cs : List ℕ} → TokenFaults.Begins 0 (TokenFaults.text_of semicolon) p cs → (cs ≡ semicolon) ⊎ (cs ≡ [])
there {p} {cs} b = begins_at (subst (λ text. TokenFaults.Begins 0 text p cs) text_is b)

pub no_fault : (r : Refusal) → ¬ (TokenFaults.BreaksTokens 0 semicolon r)
no_fault r (TokenFaults.not_utf8 before rest c e h) = no_other before rest c (sym text_is ∙ e) h
no_fault r (TokenFaults.bad_character {c = c} {cs = cs} b e w q g) =
    let h = head_is (there b) in
    let f : longest semicolon ≡ None = subst (λ ds. longest (59 ∷ ds) ≡ None) h.1 (subst (λ d. longest (d ∷ cs) ≡ None) h.0 e) in cc
no_fault r (TokenFaults.open_string b e) = let h = head_is (there b) in omega (arith, h.0)
no_fault r (TokenFaults.bad_escape b c e f g) = let h = head_is (there b) in omega (arith, h.0)
no_fault r (TokenFaults.open_comment b e) = let h = head_is (there b) in omega (arith, h.0)
no_fault r (TokenFaults.number_too_large b e h) = no_number (there b) e

-- abstract A = {cat S ; fun a ; }
abbrev brace : SourceToken
brace = at 14 (Symbol S.LeftBrace)

abbrev header : List SourceToken
header = at 1 (Reserved W.Abstract) ∷ at 10 (Identifier (codes "A")) ∷ at 12 (Symbol S.Equals) ∷ []

abbrev category_slice : List SourceToken
category_slice = at 15 (Reserved W.Cat) ∷ at 19 (Identifier (codes "S")) ∷ []

abbrev function_slice : List SourceToken
function_slice = at 23 (Reserved W.Fun) ∷ at 27 (Identifier (codes "a")) ∷ []

abbrev body : List SourceToken
body = category_slice ++ at 21 (Symbol S.Semicolon) ∷ function_slice ++ at 29 (Symbol S.Semicolon) ∷ at 31 (Symbol S.RightBrace) ∷ []

no_brace : SyntaxFaults.NoBody header
no_brace t (zero, h, e) l = let same = ap (λ (u : SourceToken). u.form) e in cc
no_brace t (suc zero, h, e) l = let same = ap (λ (u : SourceToken). u.form) e in cc
no_brace t (suc (suc zero), h, e) l = let same = ap (λ (u : SourceToken). u.form) e in cc
no_brace t (suc (suc (suc k)), h, e) l = absurd (omega (arith, h))

opens : SyntaxFaults.OpensBody (header ++ brace ∷ body) header brace body
opens = SyntaxFaults.opens_body refl refl no_brace

-- the slice before the function is in the grammar, so it is not the first that is not
abbrev spelled_category : SpellsSlice None category_slice K.Cat (J.Cat (placed (codes "S") (at 19 (Identifier (codes "S")))) [])
spelled_category = with_keyword {k = K.Cat} refl (category {cs = []} refl (tabled Rules.none))

pub category_is_derivable : SyntaxFaults.IsDerivable (SyntaxFaults.in_body true None) category_slice
category_is_derivable = SyntaxFaults.a_judgement spelled_category

has_slice : SyntaxFaults.HasSlice (header ++ brace ∷ body) 2 (SyntaxFaults.in_body true (Some K.Cat)) function_slice
has_slice =
    SyntaxFaults.of_body (category_slice ∷ []) ([] ∷ []) opens refl (slice spelled_category no_slice)

-- the token a is no function
no_names : {ns : List PlacedName} {c : SourceToken} {us : List SourceToken} →
    Rules.Spells (listed S.Comma placed_name) (at 27 (Identifier (codes "a")) ∷ []) ns (c ∷ us) → ⊥
no_names (Rules.one n) = elim n [ ]
no_names (Rules.more n c s) = elim n [ ]

no_function : {j : Judgement} → SpellsJudgement K.Fun (at 27 (Identifier (codes "a")) ∷ []) j → ⊥
no_function (function d e t) = no_names (ruled d)
no_function (linearization k a b c d) = elim k [ ]

-- a category is no word
no_category : {j : Judgement} → SpellsJudgement K.Cat function_slice j → ⊥
no_category (category n c) = cc
no_category (linearization k a b c d) = elim k [ ]

-- the keyword is fun
with_its_keyword : {j : Judgement} (k : Keyword) → IsReserved (keyword_word k) (at 23 (Reserved W.Fun)) →
    SpellsJudgement k (at 27 (Identifier (codes "a")) ∷ []) j → ⊥
with_its_keyword K.Cat w s = cc
with_its_keyword K.Fun w s = no_function s
with_its_keyword K.Flags w s = cc
with_its_keyword K.Lincat w s = cc
with_its_keyword K.Lin w s = cc
with_its_keyword K.Lindef w s = cc
with_its_keyword K.Linref w s = cc
with_its_keyword K.Param w s = cc
with_its_keyword K.Oper w s = cc

no_judgement : {j : Judgement} {k : Keyword} → SpellsSlice (Some K.Cat) function_slice k j → ⊥
no_judgement {k = k} (with_keyword w s) = with_its_keyword k w s
no_judgement (goes_on s) = no_category s

not_derivable : SyntaxFaults.IsDerivable (SyntaxFaults.in_body true (Some K.Cat)) function_slice → ⊥
not_derivable (SyntaxFaults.a_judgement s) = no_judgement s

the_word_fun : SyntaxFaults.IsSpelled (Reserved W.Fun) (codes "fun")
unfolding is_xid_start is_xid_continue xid_start_ranges xid_continue_ranges in_ranges lib.Utf8.encode
the_word_fun = (codes "fun", refl, refl)

pub no_type : SyntaxFaults.BreaksSyntax 0 (header ++ brace ∷ body) (2 ∷ 3 ∷ 1 ∷ 23 ∷ []) (refusal R.Syntax (here 1 23) (codes "fun" ∷ []))
no_type = SyntaxFaults.in_slice has_slice (SyntaxFaults.not_in_grammar not_derivable refl the_word_fun)
