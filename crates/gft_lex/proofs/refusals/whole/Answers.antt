use Rattle.std.proofs.Common.{◌≡◌, ◌∙◌, ap, sym, not, position, rules, tests, Err, []}
use Rattle.std.proofs.lemmas.Iterator.{YieldsList-from_slice}
use Rattle.std.proofs.lemmas.Iterator.Search.{position_from_yields_List}
use Rattle.gft_rules.specs.declared.rule.Rule.TheVariants.{NotUtf8}
use Rattle.gft_model.specs.Refusals.{refusal}
use Rattle.gft_lex.specs.Lexemes.{is_character}
use Rattle.gft_lex.specs.Steps.{whole_at, place_past}
use Rattle.gft_lex.proofs.refusals.whole.Goals as goal
use Rattle.gft_lex.proofs.refusals.whole.Goals.{After-position}

first : (c : After-position) → c.position.result ≡ position (λ c. not (is_character c)) c.args.letters.now
first c = position_from_yields_List (λ c. not (is_character c)) _ _ c.position.result c.position.ensures.ran
    (YieldsList-from_slice _ c.iter.ensures.rest) (λ x b q k. search (rules, tests))

pub returns-in-None : goal.returns-in-None
returns-in-None c =
    ap (whole_at c.args.place c.args.letters.now) (sym (first (goal.at.returns-in-None c).After-position) ∙ c.in-None.is)

pub returns-in-Some : goal.returns-in-Some
returns-in-Some c =
    ap (whole_at c.args.place c.args.letters.now) (sym (first (goal.at.returns-in-Some c).After-position) ∙ c.in-Some.is)
    ∙ ap Err (ap (λ p. refusal NotUtf8 p [])
    (ap (place_past c.args.place) (sym c.split_at.ensures.front) ∙ sym c.place_past-broken.ensures) ∙ sym c.refused.ensures)
