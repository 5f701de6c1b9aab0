use Rattle.std.proofs.Common.{◌≡◌, ◌≤◌, ◌+◌, ◌-◌, ℕ, List, Some}
use Rattle.gft_io.specs.Outside.{raised}
use Rattle.gft_io.specs.Lines.{input_limit}
use Rattle.gft_io.specs.Place.{count}
use Rattle.gft_top.proofs.RunLemmas.{IsGoing}
use Rattle.gft_top.proofs.running.replies.Given as goal

-- the lines so far were replied to, and what was taken and how often devices failed only rose
abbrev pub invariant-lines : goal.invariant-lines
invariant-lines g l =
    let source = g.S.Source in
    let sink = g.K.Sink in
    ((input : List ℕ) → source.left l.initial.source ≡ Some input
    → IsGoing input l.initial.refused l.refused l.lines (source.left l.source) (sink.holds l.initial.sink) (sink.holds l.sink))
    × (l.lines.passed ≤ input_limit)
    × (source.taken l.source ≡ raised (source.taken l.initial.source) (count l.lines))
    × (source.faults l.initial.source ≤ source.faults l.source)
    × (sink.faults l.initial.sink ≤ sink.faults l.sink)

abbrev pub decreases-lines : goal.decreases-lines
decreases-lines g l = input_limit + 1 - l.lines.passed
