use Rattle.std.proofs.Common.{ap, ◌∙◌, arith}
use Rattle.gft_unify.specs.Work.{pairs_of}
use Rattle.gft_unify.proofs.WorkLemmas.{pairs_of-push, zip_more}
use Rattle.gft_unify.proofs.work.push_zipped.Goals as goal

pub each-preserved : goal.each-preserved
each-preserved c =
    let there = c.args.work.now.items in
    zip_more (pairs_of there) (pairs_of c.each.work.items) _ c.args.left.now c.args.right.now c.each.index _ _ (omega arith) (omega arith) c.index-left-index.is c.index-right-index.is c.each.invariant
    (ap pairs_of c.in_ok-push.ensures.items ∙ pairs_of-push c.each.work.items _ _)
