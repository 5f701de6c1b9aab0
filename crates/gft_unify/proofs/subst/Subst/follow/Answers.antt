use Rattle.gft_unify.proofs.SubstLemmas.{bound-same, bound-fixed}
use Rattle.gft_unify.proofs.subst.Subst.follow.Goals as goal

pub returns-in-Some-clause-same : goal.returns-in-Some-clause-same
returns-in-Some-clause-same c =
    bound-same c.args.self.now c.in-Some.ensures.settled c.in-Hole.hole c.in-Some.bound.now c.in-Some.ensures.value _ c.in-Hole.is

pub returns-in-Some-clause-end : goal.returns-in-Some-clause-end
returns-in-Some-clause-end c =
    bound-fixed c.args.self.now c.in-Some.ensures.settled c.in-Hole.hole c.in-Some.bound.now c.in-Some.ensures.value
