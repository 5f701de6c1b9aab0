use Rattle.std.proofs.Common.{◌≡◌, ◌-◌, ◌≤◌, length}
use Rattle.gft_io.specs.Outside.{raised, Told}
use Rattle.gft_io.proofs.PlaceLemmas.{Loses}
use Rattle.gft_io.proofs.host.files.read_whole.Given as goal

abbrev pub invariant-reads : goal.invariant-reads
invariant-reads g l = record {
  bound : length l.bytes.items ≤ l.limit;
  loses : Told (Loses l.bytes.items) (g.S.Source.left l.fn.source) (g.S.Source.left l.source);
  takes : g.S.Source.taken l.source ≡ raised (g.S.Source.taken l.fn.source) (length l.bytes.items);
  faults : g.S.Source.faults l.fn.source ≤ g.S.Source.faults l.source;
}

abbrev pub decreases-reads : goal.decreases-reads
decreases-reads g l = l.limit - length l.bytes.items
