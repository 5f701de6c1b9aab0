use Rattle.std.proofs.Common.{map, string_bytes, ◌∙◌}
use Rattle.gft_top.specs.Words.{arguments}
use Rattle.gft_top.proofs.WordLemmas.{parts}
use Rattle.gft_top.proofs.words.read_words.Goals as goal

pub returns : goal.returns
returns c =
    c.asked_between.ensures
    ∙ parts c.arguments-words.result.now c.split_at.result.0.now c.split_at-2.result.0.now c.split_at-2.result.1.now c.words_behind.result.now
    (arguments (map string_bytes c.args.words.now)) c.marker_at-marker.result c.option_at-option.result
    c.arguments-words.ensures c.marker_at-marker.ensures.place c.split_at.ensures.front c.option_at-option.ensures.place
    c.split_at-2.ensures.front c.split_at-2.ensures.back c.words_behind.ensures
