use Rattle.std.proofs.Common.{◌∙◌}
use Rattle.gft_tree.proofs.CompareLemmas.{ordered, name_bytes}
use Rattle.gft_tree.proofs.compare.names.Goals as goal

pub returns : goal.returns
returns c =
    ordered c.bytes_cmp.result c.args.after_one c.args.after_other _ _ c.args.one.now c.args.other.now c.bytes_cmp.ensures
    (c.as_bytes.ensures.value ∙ c.as_str-one.ensures.text) (c.as_bytes-2.ensures.value ∙ c.as_str-other.ensures.text)
    (name_bytes c.args.one.now _ c.as_str-one.ensures.text c.as_str-one.utf8 c.as_str-one.ensures.name)
    (name_bytes c.args.other.now _ c.as_str-other.ensures.text c.as_str-other.utf8 c.as_str-other.ensures.name)
