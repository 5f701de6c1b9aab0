use Rattle.std.proofs.Common.{ap, sym, ◌∙◌}
use Rattle.gft_unify.specs.Bindings.{trees_of}
use Rattle.gft_unify.specs.Building.{built_on}
use Rattle.gft_unify.proofs.SearchLemmas.{trees_of-push}
use Rattle.gft_unify.proofs.BuildLemmas.{built_on-push}
use Rattle.gft_unify.proofs.build.build.Goals as goal

pub nodes-preserved : goal.nodes-preserved
nodes-preserved c =
    ap (built_on (trees_of c.pop.new.self.items)) c.in_ok-put.ensures ∙ sym (built_on-push (trees_of c.pop.new.self.items) c.in-Some.node.now c.nodes.built.items)
    ∙ ap (λ ns. built_on ns c.nodes.built.items) (sym (ap trees_of c.in-Some.ensures.items ∙ trees_of-push c.pop.new.self.items _)) ∙ c.nodes.invariant
