use Rattle.std.proofs.Common.{◌≡◌, true, rules, sym, ap, ◌∙◌}
use Rattle.gft_pmcfg.specs.Dimensions.{dim_of, dims_of}
use Rattle.gft_pmcfg.specs.Ranges.{is_of, are_of, are_sequences}
use Rattle.gft_pmcfg.proofs.Fitting.{dims_same, dim_of_category}
use Rattle.gft_pmcfg.proofs.ranges.fits.Goals as goal

pub returns : goal.returns
returns c h =
    let is = c.args.infos.now in
    let f = c.args.f.now in
    let p = c.args.p.now in
    let a : are_of is f.args p.args ≡ true = search rules in
    let r : is_of is f.result.cat p.result ≡ true = search rules in
    let s : are_sequences (dims_of is f.args) (dim_of is f.result.cat) p.seqs ≡ true = search rules in
    rw (a, r, dims_same is f.args p.args a, dim_of_category is f.result.cat p.result r) s
