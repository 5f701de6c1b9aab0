use Rattle.std.proofs.Common.{arith}
use Rattle.gft_io.proofs.ChunkLemmas.{consumed}
use Rattle.gft_io.proofs.chunk.Chunk.consume.Goals as goal

pub returns : goal.returns
returns c =
    let i = c.self.inside in
    rw (← c.self.view_is) (consumed i.buffer.items i.start i.end c.args.count (omega arith) (omega arith) (rw c.self.view_is c.requires))
