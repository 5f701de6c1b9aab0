use Rattle.std.proofs.Common.{◌∙◌, ap, sym, Some}
use Rattle.gft_io.proofs.StoreLemmas.{File, find-first, find-unnamed, get-files_of}
use Rattle.gft_io.proofs.memory.store.MemStore.content.Goals as goal

pub returns-in-Some : goal.returns-in-Some
returns-in-Some c =
    let i = c.self.inside in
    let first = rw c.deref.ensures.value at c.in-Some.ensures in
    rw (← c.self.view_is) (get-files_of i.files.items c.args.name.now ∙ find-first i.files.items c.args.name.now c.in-Some.at c.index.result.now first ∙ ap (λ (f : File). Some f.1.items) (sym c.index.ensures))

pub returns-in-None : goal.returns-in-None
returns-in-None c =
    let i = c.self.inside in
    rw (← c.self.view_is) (get-files_of i.files.items c.args.name.now ∙ find-unnamed i.files.items c.args.name.now (rw c.deref.ensures.value at c.in-None.ensures))
