use Rattle.std.proofs.Common.{rules, sym, ap, ◌∙◌, arith, refl, length, ◌-◌}
use Rattle.std.proofs.lemmas.Option.{IfSome_then, slice_get_read}
use Rattle.std.proofs.lemmas.Bool.{ltb-true}
use Rattle.gft_pmcfg.proofs.Fitting.{of_listed}
use Rattle.gft_pmcfg.proofs.ranges.listed_dimension.Goals as goal

pub returns-in-Some : goal.returns-in-Some
returns-in-Some c = IfSome_then c.within.result c.within.ensures (λ dim w.
    let is = c.args.infos.now in
    let x = c.in-Some.info.now in
    let cat = c.partition_point-after.result - 1 in
    let at = c.in-Some.ensures.lookup in
    let found = slice_get_read is (length is) cat x refl (ltb-true _ _ (sym at.0)) at.1 in
    let listed = of_listed is cat c.args.n x c.requires found w.0 w.1 (omega (arith, c.if-n-lt2.false)) in
    (listed.0, w.2 ∙ listed.1))
