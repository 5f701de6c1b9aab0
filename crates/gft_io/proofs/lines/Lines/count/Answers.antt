use Rattle.std.proofs.Common.{arith, ap, length}
use Rattle.gft_io.proofs.PlaceLemmas.{late}
use Rattle.gft_io.proofs.lines.Lines.count.Goals as goal

pub returns-clause-late : goal.returns-clause-late
returns-clause-late c =
    rw (← c.self.view_is) (λ over. late _ c.self.invariant (omega (arith, c.len.ensures, ap length c.bytes.ensures.value, over)))
