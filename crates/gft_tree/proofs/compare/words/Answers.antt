use Rattle.std.proofs.Common.{◌∙◌}
use Rattle.gft_tree.proofs.CompareLemmas.{words_ordered}
use Rattle.gft_tree.proofs.compare.words.Goals as goal

pub returns : goal.returns
returns c =
    words_ordered c.bytes_cmp.result c.args.after_one c.args.after_other _ _ c.args.one.now c.args.other.now c.bytes_cmp.ensures
    (c.as_bytes.ensures.value ∙ c.as_str-one.ensures.text) (c.as_bytes-2.ensures.value ∙ c.as_str-other.ensures.text)
