use Rattle.std.proofs.Common.{arith, rules, sym, ap, ◌∙◌, refl, length}
use Rattle.std.proofs.lemmas.Option.{slice_get_read}
use Rattle.std.proofs.lemmas.Bool.{ltb-true}
use Rattle.gft_pmcfg.proofs.Fitting.{of_category}
use Rattle.gft_pmcfg.proofs.ranges.is_of.Goals as goal

pub returns-then-info-n : goal.returns-then-info-n
returns-then-info-n c h =
    let below = ltb-true _ _ h in
    let is = c.args.infos.now in
    let x = c.in-Some.info.now in
    let at = c.in-Some.ensures.lookup in
    let found = slice_get_read is (length is) c.args.cat x refl (ltb-true _ _ (sym at.0)) at.1 in
    of_category is c.args.cat c.args.n x c.requires found (omega (arith, c.if-info-n.true)) (omega (arith, below, c.if-info-n.true))
