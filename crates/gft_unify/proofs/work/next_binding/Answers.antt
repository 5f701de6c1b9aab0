use Rattle.std.proofs.Common.{◌≡◌, ℕ, List, [], ◌∷◌, ◌++◌, Some, Ok, Bor, ap, sym, subst, ◌∙◌, ◌<◌, arith}
use Rattle.gft_core.specs.declared.tree.Tree.{Tree}
use Rattle.gft_unify.specs.Parts.{IsPart, ArePairedParts, AreBoundParts}
use Rattle.gft_unify.specs.Bindings.{solved}
use Rattle.gft_unify.specs.Instances.{total}
use Rattle.gft_unify.specs.Comparison.{MayBind}
use Rattle.gft_unify.specs.Work.{pairs_of, pair_size, AmountsTo, FindsBinding, IsMadeOfParts}
use Rattle.gft_unify.proofs.WorkLemmas.{empty, refusal_found, refusal_parts, pairs_of-push, amounts-same, amounts-bind, amounts-descend, amounts-clash, split-loose, split-end, smaller-same, smaller-descend, paired-append, paired-push, parts-descend, parts-bind}
use Rattle.gft_unify.proofs.work.next_binding.Goals as goal
use Rattle.gft_unify.proofs.work.next_binding.Goals.{After-compare}

popped : (c : After-compare) → pairs_of c.pairs.work.items ≡ pairs_of c.pop.new.self.items ++ (c.in-Some.left.now, c.in-Some.right.now) ∷ []
popped c = ap pairs_of c.in-Some.ensures.items ∙ pairs_of-push c.pop.new.self.items _ _

kept : (c : After-compare) (pairs : List (Tree × Tree)) → AreBoundParts pairs c.args.store.now → ArePairedParts pairs (pairs_of c.args.work.now.items)
    → ArePairedParts pairs (pairs_of c.pop.new.self.items) × IsPart pairs c.walk-left.result.now × IsPart pairs c.walk-right.result.now
kept c pairs bound paired =
    let rest = paired-push pairs _ _ _ (subst (ArePairedParts pairs) (popped c) (c.pairs.invariant.parts pairs bound paired)) in
    (rest.0, c.walk-left.ensures.part pairs bound rest.1, c.walk-right.ensures.part pairs bound rest.2)

-- a hole that may be bound, and what it may be bound to
module _ (c : After-compare) (k : ℕ) (t : Bor Tree) (may : MayBind c.walk-left.result.now c.walk-right.result.now k t.now) where
  bind_found : FindsBinding c.args.store.now (pairs_of c.args.work.now.items) (pairs_of c.pop.new.self.items) (Ok (Some (k, t)))
  bind_found = (
    amounts-bind _ _ _ _ _ _ _ _ (popped c) c.walk-left.ensures.same c.walk-right.ensures.same c.pairs.invariant.amounts _ _ may.0,
    may.1,
    split-loose _ _ _ c.walk-left.ensures.end c.walk-right.ensures.end _ _ may.0,
    split-end _ _ _ c.walk-left.ensures.end c.walk-right.ensures.end _ _ may.0,
  )

  bind_parts : IsMadeOfParts c.args.store.now (pairs_of c.args.work.now.items) (pairs_of c.pop.new.self.items) (Ok (Some (k, t)))
  bind_parts pairs bound paired =
      let all = kept c pairs bound paired in
      let two = parts-bind pairs _ _ _ _ may.0 all.1 all.2 in
      (all.0, two.0, two.1)

pub pairs-smaller-in-Same : goal.pairs-smaller-in-Same
pairs-smaller-in-Same c =
    let s = solved c.args.store.now in
    smaller-same s _ _ _ _ _ _ (popped (goal.at.pairs-smaller-in-Same c).After-compare)
    (c.walk-left.ensures.same s c.requires.respected) (c.walk-right.ensures.same s c.requires.respected)

pub pairs-preserved-in-Same : goal.pairs-preserved-in-Same
pairs-preserved-in-Same c =
    let d = (goal.at.pairs-preserved-in-Same c).After-compare in
    record {
      amounts = amounts-same _ _ _ _ _ _ _ _ (popped d) c.walk-left.ensures.same c.walk-right.ensures.same c.pairs.invariant.amounts c.in-Same.ensures;
      parts = λ pairs bound paired. (kept d pairs bound paired).0;
    }

pub returns-in-Bind-clause-found : goal.returns-in-Bind-clause-found
returns-in-Bind-clause-found c = bind_found (goal.at.returns-in-Bind-clause-found c).After-compare c.in-Bind.hole c.in-Bind.tree c.in-Bind.ensures

pub returns-in-Bind-clause-parts : goal.returns-in-Bind-clause-parts
returns-in-Bind-clause-parts c = bind_parts (goal.at.returns-in-Bind-clause-parts c).After-compare c.in-Bind.hole c.in-Bind.tree c.in-Bind.ensures

pub returns-in-Join-clause-found : goal.returns-in-Join-clause-found
returns-in-Join-clause-found c = bind_found (goal.at.returns-in-Join-clause-found c).After-compare c.direct.result.0 c.direct.result.1 c.direct.ensures

pub returns-in-Join-clause-parts : goal.returns-in-Join-clause-parts
returns-in-Join-clause-parts c = bind_parts (goal.at.returns-in-Join-clause-parts c).After-compare c.direct.result.0 c.direct.result.1 c.direct.ensures

pub pairs-smaller : goal.pairs-smaller
pairs-smaller c =
    let s = solved c.args.store.now in
    let less = smaller-descend s _ _ _ _ _ _ (popped (goal.at.pairs-smaller c).After-compare)
    (c.walk-left.ensures.same s c.requires.respected) (c.walk-right.ensures.same s c.requires.respected) _ _ c.in-Descend.ensures.0 in
    subst (λ ps. total (pair_size s) ps < total (pair_size s) (pairs_of c.pairs.work.items)) (sym c.in_ok-push_zipped-in-Descend.ensures) less

pub pairs-preserved : goal.pairs-preserved
pairs-preserved c =
    let d = (goal.at.pairs-preserved c).After-compare in let e = sym c.in_ok-push_zipped-in-Descend.ensures in
    record {
      amounts = subst (AmountsTo c.args.store.now (pairs_of c.args.work.now.items)) e (amounts-descend _ _ _ _ _ _ _ _ (popped d) c.walk-left.ensures.same c.walk-right.ensures.same c.pairs.invariant.amounts _ _ c.in-Descend.ensures.0 c.in-Descend.ensures.1);
      parts = λ pairs bound paired.
          let all = kept d pairs bound paired in
          subst (ArePairedParts pairs) e (paired-append pairs _ _ all.0 (parts-descend pairs _ _ _ _ c.in-Descend.ensures.0 all.1 all.2));
    }

pub returns-in-Clash-clause-found : goal.returns-in-Clash-clause-found
returns-in-Clash-clause-found c =
    refusal_found _ _ (pairs_of c.pop.new.self.items) _ _ c.clash.result c.clash.ensures c.in-Clash.ensures
    (amounts-clash _ _ _ _ _ _ _ _ (popped (goal.at.returns-in-Clash-clause-found c).After-compare) c.walk-left.ensures.same c.walk-right.ensures.same c.pairs.invariant.amounts c.in-Clash.ensures)

pub returns-in-Clash-clause-parts : goal.returns-in-Clash-clause-parts
returns-in-Clash-clause-parts c pairs bound paired =
    let all = kept (goal.at.returns-in-Clash-clause-parts c).After-compare pairs bound paired in
    refusal_parts pairs (pairs_of c.pop.new.self.items) _ _ c.clash.result c.clash.ensures all.1 all.2

pub returns-clause-found : goal.returns-clause-found
returns-clause-found c =
    let none = c.in_default.ensures.cases in
    let before : c.pairs.work.items ≡ [] = empty _ (omega (arith, none.0, c.pairs.work.ok.0)) in
    let after : c.pop.new.self.items ≡ [] = empty _ (omega (arith, none.1, c.pop.new.self.ok.0)) in
    (subst (AmountsTo c.args.store.now (pairs_of c.args.work.now.items)) (ap pairs_of before) c.pairs.invariant.amounts, ap pairs_of after)
