use Rattle.std.proofs.Common.{ap, sym, subst, ◌∙◌, ◌<◌}
use Rattle.gft_unify.specs.Instances.{inst}
use Rattle.gft_unify.specs.Bindings.{links_left}
use Rattle.gft_unify.proofs.Equations.{inst-Hole}
use Rattle.gft_unify.proofs.BindingLemmas.{Respects-lookup}
use Rattle.gft_unify.proofs.StoreLemmas.{links_left-lt}
use Rattle.gft_unify.proofs.WorkLemmas.{bound-part}
use Rattle.gft_unify.proofs.store.Store.walk.Goals as goal

pub chain-smaller : goal.chain-smaller
chain-smaller c =
    let bs = c.args.self.now in
    subst (λ t. links_left bs c.in-Some.bound.now < links_left bs t) (sym c.in-Hole.is) (links_left-lt bs c.in-Hole.hole c.in-Some.bound.now c.in-Some.ensures.later)

pub chain-preserved : goal.chain-preserved
chain-preserved c = record {
  same = λ θ r. sym (Respects-lookup θ _ c.in-Hole.hole c.in-Some.bound.now r (sym c.in-Some.ensures.value)) ∙ sym (inst-Hole θ c.in-Hole.hole) ∙ ap (inst θ) (sym c.in-Hole.is) ∙ c.chain.invariant.same θ r;
  part = λ pairs bound start. bound-part pairs _ c.in-Hole.hole c.in-Some.bound.now bound (sym c.in-Some.ensures.value);
}
