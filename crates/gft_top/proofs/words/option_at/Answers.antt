use Rattle.std.proofs.Common.{map, string_bytes, sym, ap, ◌∙◌}
use Rattle.gft_top.specs.Words.{is_option}
use Rattle.gft_top.proofs.WordLemmas.{goes_found, goes_on, word_at, within}
use Rattle.gft_top.proofs.words.option_at.Goals as goal

pub returns-then-is_option-clause-place : goal.returns-then-is_option-clause-place
returns-then-is_option-clause-place c =
    let words = c.args.words.now in
    let word = c.index-words-at.result in
    let at = word_at words c.loop-at.at word c.as_str.result.now c.index-words-at.is c.as_str.ensures.value in
    goes_found is_option (map string_bytes words) c.loop-at.at (string_bytes word) (within words c.loop-at.at c.loop-at-test.true) c.loop-at.invariant
    (ap is_option at ∙ sym c.is_option.ensures ∙ c.if-is_option.true)

pub loop-at-preserved : goal.loop-at-preserved
loop-at-preserved c =
    let words = c.args.words.now in
    let word = c.index-words-at.result in
    let at = word_at words c.loop-at.at word c.as_str.result.now c.index-words-at.is c.as_str.ensures.value in
    goes_on is_option (map string_bytes words) c.loop-at.at (string_bytes word) (within words c.loop-at.at c.loop-at-test.true) c.loop-at.invariant
    (ap is_option at ∙ sym c.is_option.ensures ∙ c.if-is_option.false)
