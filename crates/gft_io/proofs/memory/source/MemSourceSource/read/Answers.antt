use Rattle.std.proofs.Common.{rules}
use Rattle.gft_io.proofs.ChunkLemmas.{copied_front}
use Rattle.gft_io.proofs.memory.source.MemSourceSource.read.Goals as goal

pub returns-clause-gives : goal.returns-clause-gives
returns-clause-gives c =
    let i = c.self.inside in
    rw (← c.self.view_is) (copied_front i.bytes.items c.deref.result.now c.args.buffer.now c.copy_from_slice.new.self i.at c.min-count.result c.deref.ensures.value (search rules) (search rules) c.requires)
