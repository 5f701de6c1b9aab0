use Rattle.std.proofs.Common.{◌∙◌, ap}
use Rattle.gft_io.specs.Memory.{files_of}
use Rattle.gft_io.proofs.StoreLemmas.{File, files_of-set, files_of-push}
use Rattle.gft_io.proofs.memory.store.MemStore.put.Goals as goal

pub returns-in-Some-clause-ok : goal.returns-in-Some-clause-ok
returns-in-Some-clause-ok c =
    let i = c.self.inside in
    let first = rw (c.as_str.ensures, c.deref.ensures.value) at c.in-Some.ensures in
    rw (← c.self.view_is) (files_of-set i.files.items _ c.args.name c.in-Some.at c.args.content (ap (λ (f : File). f.0) c.index_mut.ensures.value ∙ first.named c.index_mut.result.now) first)

pub returns-in_ok-push-in-None-clause-ok : goal.returns-in_ok-push-in-None-clause-ok
returns-in_ok-push-in-None-clause-ok c =
    let i = c.self.inside in
    let none = rw (c.as_str.ensures, c.deref.ensures.value) at c.in-None.ensures in
    rw (← c.self.view_is) (ap files_of c.in_ok-push-in-None.ensures.items ∙ files_of-push i.files.items c.args.name c.args.content none)
