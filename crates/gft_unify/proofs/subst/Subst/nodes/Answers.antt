use Rattle.std.proofs.Common.{◌≡◌, [], ◌∷◌, ◌++◌, ap, ◌∙◌, arith}
use Rattle.gft_unify.specs.Instances.{inst}
use Rattle.gft_unify.specs.Substitutions.{tree_at}
use Rattle.gft_unify.specs.Bindings.{trees_of}
use Rattle.gft_unify.specs.Building.{arguments_of}
use Rattle.gft_unify.proofs.WorkLemmas.{empty}
use Rattle.gft_unify.proofs.SearchLemmas.{trees_of-push}
use Rattle.gft_unify.proofs.BuildLemmas.{nodes_smaller, nodes_more, nodes_all}
use Rattle.gft_unify.proofs.subst.Subst.nodes.Goals as goal

popped : (c : goal.In_ok-push_all) → trees_of c.nodes.pending.items ≡ trees_of c.pop.new.self.items ++ c.in-Some.next.now ∷ []
popped c = ap trees_of c.in-Some.ensures.items ∙ trees_of-push c.pop.new.self.items _

pushed : (c : goal.In_ok-push_all) → trees_of c.push_all.new.pending.items ≡ trees_of c.pop.new.self.items ++ arguments_of c.follow-node.result.now
pushed c = c.in_ok-push_all.ensures ∙ ap (λ xs. trees_of c.pop.new.self.items ++ xs) c.arguments_of.ensures

pub nodes-smaller : goal.nodes-smaller
nodes-smaller c = nodes_smaller (tree_at c.args.self.now) _ _ _ _ _ (popped c) c.follow-node.ensures.same (pushed c)

pub nodes-preserved : goal.nodes-preserved
nodes-preserved c =
    nodes_more (tree_at c.args.self.now) _ _ _ _ _ (popped c) c.follow-node.ensures.same (pushed c) _ _ _ c.follow-node.ensures.end
    (ap trees_of c.in_ok-push-2.ensures.items ∙ trees_of-push c.nodes.found.items _) c.nodes.invariant

pub returns : goal.returns
returns c =
    let none = c.in_default.ensures.cases in
    let left = empty c.nodes.pending.items (omega (arith, none.0, c.nodes.pending.ok.0)) in
    nodes_all (inst (tree_at c.args.self.now)) _ _ _ (ap trees_of left) c.nodes.invariant
