use Rattle.std.proofs.Common.{◌∙◌, arith}
use Rattle.std.specs.Fmt.{decimal}
use Rattle.gft_tree.proofs.CompareLemmas.{ordered}
use Rattle.gft_tree.proofs.PlainLemmas.{decimal_plain}
use Rattle.gft_tree.proofs.compare.numbers.Goals as goal

pub returns : goal.returns
returns c =
    ordered c.bytes_cmp.result c.args.after_one c.args.after_other _ _ (decimal c.args.one) (decimal c.args.other) c.bytes_cmp.ensures
    (c.as_bytes-first.ensures.value ∙ c.format.ensures.text) (c.as_bytes-second.ensures.value ∙ c.format-2.ensures.text)
    (decimal_plain c.args.one (let r = c.ranges.one.fits in omega (arith, r))) (decimal_plain c.args.other (let r = c.ranges.other.fits in omega (arith, r)))
