use Rattle.std.proofs.Common.{◌≡◌, ◌∙◌, ℕ, List, ap, subst, arith, length, Vec, Global}
use Rattle.std.specs.List.{list_all}
use Rattle.std.proofs.lemmas.Result.{IfOk-weaker}
use Rattle.gft_syntax.specs.declared.token.SourceToken.{SourceToken}
use Rattle.gft_model.specs.Refusals.{ByPlace, IsAccepted, IsFirst}
use Rattle.gft_model.specs.Source.{Tokens, first_place}
use Rattle.gft_model.specs.TokenFaults.{BreaksTokens, text_of}
use Rattle.gft_lex.specs.Later.{is_letter, IsLater, IsWalked}
use Rattle.gft_lex.proofs.Files.{text_letters, text_short, file_tokens, file_accepted, to_later, from_later}
use Rattle.gft_lex.proofs.Walks.{on_refused, first_of_all}
use Rattle.gft_lex.proofs.walking.lex.Goals as goal
use Rattle.gft_lex.proofs.walking.lex.Goals.{After-as_slice-2}

letters : (c : After-as_slice-2) → c.as_slice-2.result.now ≡ text_of c.args.bytes.now.items
letters c = c.as_slice-2.ensures.value ∙ c.in_ok-letters.ensures ∙ ap text_of c.as_slice.ensures.value

-- what the walk ensures of its tokens
abbrev walked : List ℕ → ℕ → Vec SourceToken Global → Type 0
walked text file ts = IsWalked file text ts.items

pub walk-requires-clause-short : goal.walk-requires-clause-short
walk-requires-clause-short c =
    let e = ap length (letters c) in
    let l = text_short c.args.bytes.now.items in
    let h = c.requires in
    let n = c.args.bytes.now.ok.0 in
    omega (arith, e, l, h, n)

pub walk-requires-clause-letters : goal.walk-requires-clause-letters
walk-requires-clause-letters c = ap (list_all is_letter) (letters c) ∙ text_letters c.args.bytes.now.items

pub returns-clause-tokens : goal.returns-clause-tokens
returns-clause-tokens c =
    let bs = c.args.bytes.now.items in
    let file = c.args.file in
    let e = letters (goal.at.returns-clause-tokens c).After-as_slice-2 in
    IfOk-weaker c.walk.result (walked c.as_slice-2.result.now file) (λ ts. Tokens file bs ts.items)
    (λ ts w. file_tokens file bs ts.items (subst (λ text. IsWalked file text ts.items) e w)) c.walk.ensures.ok

pub returns-clause-accepted : goal.returns-clause-accepted
returns-clause-accepted c =
    let bs = c.args.bytes.now.items in
    let file = c.args.file in
    let e = letters (goal.at.returns-clause-accepted c).After-as_slice-2 in
    IfOk-weaker c.walk.result (walked c.as_slice-2.result.now file) (λ _. IsAccepted (ByPlace (BreaksTokens file bs)))
    (λ ts w. file_accepted file bs ts.items (subst (λ text. IsWalked file text ts.items) e w)) c.walk.ensures.ok

pub returns-clause-refused : goal.returns-clause-refused
returns-clause-refused c =
    let bs = c.args.bytes.now.items in
    let file = c.args.file in
    let e = letters (goal.at.returns-clause-refused c).After-as_slice-2 in
    let P = λ (text : List ℕ). IsFirst (ByPlace (IsLater (first_place file) text)) in
    on_refused c.walk.result (P c.as_slice-2.result.now) (IsFirst (ByPlace (BreaksTokens file bs))) c.walk.ensures.err
    (λ r x. first_of_all (IsLater (first_place file) (text_of bs)) (BreaksTokens file bs) (from_later file bs)
    (to_later file bs) r (subst (λ text. P text r) e x))
