use Rattle.gft_unify.proofs.UnifierLemmas.{solved_more}
use Rattle.gft_unify.proofs.subst.Subst.settle.Goals as goal

pub each-preserved : goal.each-preserved
each-preserved c =
    solved_more c.args.store.now c.requires _ _ c.each.index _ _ _ c.each.invariant c.at-hole.ensures c.in_ok-resolve.ensures c.in_ok-insert.ensures.updates.0
