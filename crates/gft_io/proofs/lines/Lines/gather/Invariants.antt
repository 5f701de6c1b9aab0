use Rattle.std.proofs.Common.{◌≡◌, ◌+◌, ◌-◌, ◌<◌}
use Rattle.gft_io.specs.Lines.{input_limit}
use Rattle.gft_io.specs.Place.{count}
use Rattle.gft_io.specs.Steps.{GoesOn}
use Rattle.gft_io.proofs.lines.Lines.gather.Given as goal

abbrev pub invariant-reads : goal.invariant-reads
invariant-reads g l = record {
  goes : GoesOn l.fn.self l.self (g.S.Source.left l.fn.source) (g.S.Source.left l.source) (g.S.Source.taken l.fn.source) (g.S.Source.taken l.source) (g.S.Source.faults l.fn.source) (g.S.Source.faults l.source);
  first : input_limit < count l.fn.self → (l.self ≡ l.fn.self) × (l.source ≡ l.fn.source);
}

abbrev pub decreases-reads : goal.decreases-reads
decreases-reads g l = input_limit + 1 - count l.self
