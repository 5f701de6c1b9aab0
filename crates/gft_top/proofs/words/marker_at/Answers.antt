use Rattle.std.proofs.Common.{map, string_bytes, sym, ap, ◌∙◌}
use Rattle.gft_top.specs.Words.{is_marker}
use Rattle.gft_top.proofs.WordLemmas.{goes_found, goes_on, word_at, within}
use Rattle.gft_top.proofs.words.marker_at.Goals as goal

pub returns-then-is_marker-clause-place : goal.returns-then-is_marker-clause-place
returns-then-is_marker-clause-place c =
    let words = c.args.words.now in
    let word = c.index-words-at.result in
    let at = word_at words c.loop-at.at word c.as_str.result.now c.index-words-at.is c.as_str.ensures.value in
    goes_found is_marker (map string_bytes words) c.loop-at.at (string_bytes word) (within words c.loop-at.at c.loop-at-test.true) c.loop-at.invariant
    (ap is_marker at ∙ sym c.is_marker.ensures ∙ c.if-is_marker.true)

pub loop-at-preserved : goal.loop-at-preserved
loop-at-preserved c =
    let words = c.args.words.now in
    let word = c.index-words-at.result in
    let at = word_at words c.loop-at.at word c.as_str.result.now c.index-words-at.is c.as_str.ensures.value in
    goes_on is_marker (map string_bytes words) c.loop-at.at (string_bytes word) (within words c.loop-at.at c.loop-at-test.true) c.loop-at.invariant
    (ap is_marker at ∙ sym c.is_marker.ensures ∙ c.if-is_marker.false)
