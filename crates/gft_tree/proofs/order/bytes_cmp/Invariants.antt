use Rattle.std.proofs.Common.{◌≡◌, ◌≤◌, ◌-◌, length, drop}
use Rattle.gft_tree.specs.Order.{bytes_cmp}
use Rattle.gft_tree.proofs.order.bytes_cmp.Given as goal

-- what is left decides
abbrev pub invariant-bytes : goal.invariant-bytes
invariant-bytes l = record {
  within_one : l.at ≤ length l.one;
  within_other : l.at ≤ length l.other;
  same : bytes_cmp l.after_one l.after_other (drop l.at l.one) (drop l.at l.other) ≡ bytes_cmp l.after_one l.after_other l.one l.other;
}

abbrev pub decreases-bytes : goal.decreases-bytes
decreases-bytes l = length l.one - l.at
