use Rattle.std.proofs.Common.{nat_eq}
use Rattle.std.specs.Option.{is_none}
use Rattle.std.specs.Map.{lookup}
use Rattle.gft_unify.specs.Bindings.{IsAcyclic}
use Rattle.gft_unify.specs.Parts.{ArePairedParts, AreBoundParts}
use Rattle.gft_unify.specs.Substitutions.{hole_count_of_pairs}
use Rattle.gft_unify.specs.Work.{pairs_of, IsWhatIsLeft}
use Rattle.gft_unify.proofs.unifier.unify.Given as goal

-- what is left and what is bound amount to the pairs
abbrev pub invariant-bindings : goal.invariant-bindings
invariant-bindings l = record {
  acyclic : IsAcyclic l.store;
  amounts : IsWhatIsLeft l.pairs.items (pairs_of l.work.items) l.store;
  paired : ArePairedParts l.pairs.items (pairs_of l.work.items);
  bound : AreBoundParts l.pairs.items l.store;
}

-- the holes of the pairs that are not bound
abbrev pub decreases-bindings : goal.decreases-bindings
decreases-bindings l = hole_count_of_pairs (λ k. is_none (lookup (nat_eq k) l.store)) l.pairs.items
