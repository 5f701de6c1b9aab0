use Rattle.std.proofs.Common.{◌≡◌, [], ◌++◌, Some, Ok, ap, sym, subst, ◌∙◌}
use Rattle.std.specs.Result.{IfErr}
use Rattle.std.proofs.lemmas.Result.{err_from_is_err_and}
use Rattle.gft_unify.specs.Parts.{ArePairedParts, AreBoundParts}
use Rattle.gft_unify.specs.Bindings.{IsAcyclic, solved}
use Rattle.gft_unify.specs.Instances.{inst}
use Rattle.gft_unify.specs.Work.{pairs_of, FindsBinding, StaysInside, IsWhatIsLeft}
use Rattle.gft_unify.specs.Refusals.{IsRefused}
use Rattle.gft_unify.proofs.BindingLemmas.{IsAcyclic-none, IsAcyclic-push}
use Rattle.gft_unify.proofs.WorkLemmas.{bound-push}
use Rattle.gft_unify.proofs.UnifierLemmas.{paired-self, amounts-none, refused-clash, refused-cycle, amounts-more, loose_less, absent-from_search, unified-equal, unified-general, unified-keeps}
use Rattle.gft_unify.proofs.unifier.unify.Goals as goal
use Rattle.gft_unify.proofs.unifier.unify.Goals.{In-Some}

pub bindings-init : goal.bindings-init
bindings-init c =
    let pairs = c.args.pairs.now.items in
    let work : pairs ≡ pairs_of c.push_pairs.new.work.items = sym (c.in_ok-push_pairs.ensures ∙ ap (λ ps. pairs_of ps ++ c.as_slice.result.now) c.new-work.ensures.items ∙ c.as_slice.ensures.value) in
    let store : [] ≡ c.new-store.result = sym c.new-store.ensures in
    record {
      acyclic = subst IsAcyclic store IsAcyclic-none;
      amounts = subst (IsWhatIsLeft pairs (pairs_of c.push_pairs.new.work.items)) store (subst (λ ps. IsWhatIsLeft pairs ps []) work (amounts-none pairs));
      paired = subst (ArePairedParts pairs) work (paired-self pairs);
      bound = subst (AreBoundParts pairs) store tt;
    }

pub returns-in_err-hole-clause-refused : goal.returns-in_err-hole-clause-refused
returns-in_err-hole-clause-refused c =
    let pairs = c.args.pairs.now.items in
    let p = err_from_is_err_and c.from_residual-in_err-hole.result c.from_residual-in_err-hole.ensures.1 in
    let parts = c.in_err-hole.ensures.parts pairs c.bindings.invariant.bound c.bindings.invariant.paired in
    let why : IsRefused pairs c.in_err-hole.field-0.0 = refused-clash pairs _ (pairs_of c.next_binding.new.work.items) _ c.in_err-hole.field-0.0 c.bindings.invariant.amounts c.in_err-hole.ensures.found parts in
    subst (λ r. IfErr r (IsRefused pairs)) (sym p.1) (subst (IsRefused pairs) (sym p.2) why)

next_found : (c : In-Some) → FindsBinding c.bindings.store (pairs_of c.bindings.work.items) (pairs_of c.next_binding.new.work.items) (Ok (Some (c.in-Some.hole, c.in-Some.tree)))
next_found c = subst (λ o. FindsBinding c.bindings.store (pairs_of c.bindings.work.items) (pairs_of c.next_binding.new.work.items) (Ok o)) c.in-Some.is c.in_ok-hole.ensures.found

next_parts : (c : In-Some) → StaysInside c.args.pairs.now.items (pairs_of c.next_binding.new.work.items) (Ok (Some (c.in-Some.hole, c.in-Some.tree)))
next_parts c =
    let pairs = c.args.pairs.now.items in
    subst (λ o. StaysInside pairs (pairs_of c.next_binding.new.work.items) (Ok o)) c.in-Some.is (c.in_ok-hole.ensures.parts pairs c.bindings.invariant.bound c.bindings.invariant.paired)

pub returns-then-branch-clause-refused : goal.returns-then-branch-clause-refused
returns-then-branch-clause-refused c =
    let d = (goal.at.returns-then-branch-clause-refused c).In-Some in
    refused-cycle c.args.pairs.now.items _ _ _ c.in-Some.hole c.in-Some.tree (next_found d) (next_parts d) c.bindings.invariant.amounts c.bindings.invariant.acyclic _ c.in_ok-resolve.ensures (c.in_ok-reaches.ensures.0 c.if-branch.true)

pub bindings-smaller : goal.bindings-smaller
bindings-smaller c =
    let d = (goal.at.bindings-smaller c).In-Some in
    loose_less c.args.pairs.now.items _ _ _ c.in-Some.hole c.in-Some.tree (next_found d) (next_parts d) c.bindings.invariant.amounts c.bindings.invariant.acyclic _ c.in_ok-bind.ensures.ok

pub bindings-preserved : goal.bindings-preserved
bindings-preserved c =
    let pairs = c.args.pairs.now.items in let bs = c.bindings.store in
    let d = (goal.at.bindings-preserved c).In-Some in let after = sym c.in_ok-bind.ensures.ok in
    let absent = absent-from_search c.in_ok-reaches.field-0 c.in-Some.hole (inst (solved bs) c.in-Some.tree.now) c.if-branch.false c.in_ok-reaches.ensures.1 in
    record {
      acyclic = subst IsAcyclic after (IsAcyclic-push bs c.in-Some.hole c.in-Some.tree.now c.bindings.invariant.acyclic (next_found d).2 absent);
      amounts = subst (IsWhatIsLeft pairs (pairs_of c.next_binding.new.work.items)) after (amounts-more pairs _ _ _ c.in-Some.hole c.in-Some.tree (next_found d) (next_parts d) c.bindings.invariant.amounts c.bindings.invariant.acyclic);
      paired = (next_parts d).0;
      bound = subst (AreBoundParts pairs) after (bound-push pairs bs c.in-Some.hole c.in-Some.tree.now c.bindings.invariant.bound (next_parts d).1 (next_parts d).2);
    }

pub returns-clause-equal : goal.returns-clause-equal
returns-clause-equal c =
    unified-equal c.args.pairs.now.items _ (pairs_of c.next_binding.new.work.items) _ _ _ c.in_default.is c.in_ok-hole.ensures.found c.bindings.invariant.amounts c.bindings.invariant.acyclic c.in_ok-settle.ensures

pub returns-clause-general : goal.returns-clause-general
returns-clause-general c =
    unified-general c.args.pairs.now.items _ (pairs_of c.next_binding.new.work.items) _ _ _ c.in_default.is c.in_ok-hole.ensures.found c.bindings.invariant.amounts c.bindings.invariant.acyclic c.in_ok-settle.ensures

pub returns-clause-kept : goal.returns-clause-kept
returns-clause-kept c =
    unified-keeps c.args.pairs.now.items _ _ c.bindings.invariant.acyclic c.in_ok-settle.ensures c.bindings.invariant.bound
