use Rattle.std.proofs.Common.{◌+◌, ◌∙◌, ap, length, arith}
use Rattle.gft_io.specs.Outside.{raised}
use Rattle.gft_io.proofs.PlaceLemmas.{raised-twice}
use Rattle.gft_io.proofs.host.files.read_whole.Goals as goal

pub returns-then-given-room-clause-takes : goal.returns-then-given-room-clause-takes
returns-then-given-room-clause-takes g c =
    let had = length c.reads.bytes.items in
    let got = length c.fill.new.self in
    (had + got, omega (arith, c.fill.ensures.most), c.fill.ensures.takes ∙ ap (λ t. raised t got) c.reads.invariant.takes ∙ raised-twice (g.S.Source.taken c.args.source.now) had got)

pub returns-in_err-extend_from_slice-clause-takes : goal.returns-in_err-extend_from_slice-clause-takes
returns-in_err-extend_from_slice-clause-takes g c =
    let had = length c.reads.bytes.items in
    let got = length c.fill.new.self in
    (had + got, omega (arith, c.fill.ensures.most), c.fill.ensures.takes ∙ ap (λ t. raised t got) c.reads.invariant.takes ∙ raised-twice (g.S.Source.taken c.args.source.now) had got)
