-- What a run promises: the two clauses of `run`, over a source that tells what it has left, and over any.
use Rattle.std.specs.Prelude.{◌≡◌, ℕ, List, Option, Some}
use Rattle.gft_top.specs.declared.running.Status.{Status}
use Rattle.gft_top.specs.Words.{Call, of_session, of_make, of_workload, of_nothing}
use Rattle.gft_top.specs.Ends.{SessionTold, LinesAny, MakeTold, ReplyTold, ReplyAny, UsageTold, UsageAny}

-- how a run ends: a session over its files and this input, the making of a file, the workload, or a wrong call
abbrev pub RunTold : Call → List ℕ → Option (List ℕ) → Option (List ℕ) → Option (List ℕ) → Status → Type 0
RunTold (of_session files) input held holds left status = SessionTold files input held holds left status
RunTold (of_make out files) input held holds left status = MakeTold files held holds status × (left ≡ Some input)
RunTold (of_workload count) input held holds left status = ReplyTold held holds status × (left ≡ Some input)
RunTold of_nothing input held holds left status = UsageTold held holds status × (left ≡ Some input)

-- the causes of the end of a run: a read fault only where the source's faults rose, a write fault only where the sink's did,
-- the limit of input only where over 67,108,864 bytes were taken
abbrev pub RunAny : Call → ℕ → ℕ → ℕ → ℕ → ℕ → ℕ → Status → Type 0
RunAny (of_session files) before after sink_before sink_after taken_before taken_after status =
    LinesAny before after sink_before sink_after taken_before taken_after status
RunAny (of_make out files) before after sink_before sink_after taken_before taken_after status = ReplyAny sink_before sink_after status
RunAny (of_workload count) before after sink_before sink_after taken_before taken_after status = ReplyAny sink_before sink_after status
RunAny of_nothing before after sink_before sink_after taken_before taken_after status = UsageAny sink_before sink_after status
