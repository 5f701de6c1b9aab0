use Rattle.std.proofs.Common.{◌≡◌, ◌≤◌, ◌||◌, sym, ap, ◌∙◌, subst, arith}
use Rattle.gft_io.specs.Lines.{input_limit}
use Rattle.gft_io.specs.Outside.{raised}
use Rattle.gft_io.specs.Place.{Place, start, count}
use Rattle.gft_top.specs.Ends.{LinesTold, LinesAny}
use Rattle.gft_top.proofs.ToldLemmas.{same_told}
use Rattle.gft_top.proofs.RunLemmas.{IsGoing, going_start, going_stop}
use Rattle.gft_top.proofs.TurnLemmas.{turn_ends, turn_quits, turn_any, taken_on, turn_going}
use Rattle.gft_top.proofs.running.replies.Goals.{then-refused, else-refused, then-refused-2, else-refused-2}
use Rattle.gft_top.proofs.running.replies.Goals as goal

pub returns-in_default-clause-told : goal.returns-in_default-clause-told
returns-in_default-clause-told g c = λ input e.
    let left = g.S.Source.left c.args.source.now in
    let held = g.K.Sink.holds c.args.sink.now in
    going_stop input c.args.refused c.args.refused start left held held (going_start input c.args.refused left held e) held (same_told held)

pub lines-init : goal.lines-init
lines-init g c =
    let left = g.S.Source.left c.args.source.now in
    let held = g.K.Sink.holds c.args.sink.now in
    let passed = ap (λ (p : Place). p.passed) c.in-Ok.ensures in
    let counted = ap count c.in-Ok.ensures in (
      (λ input e. subst (λ (p : Place). IsGoing input c.args.refused c.args.refused p left held held) (sym c.in-Ok.ensures)
          (going_start input c.args.refused left held e)),
      subst (λ (p : Place). p.passed ≤ input_limit) (sym c.in-Ok.ensures) (omega arith),
      subst (λ (p : Place). g.S.Source.taken c.args.source.now ≡ raised (g.S.Source.taken c.args.source.now) (count p)) (sym c.in-Ok.ensures) (omega arith),
      omega arith,
      omega arith,
    )

pub lines-preserved : goal.lines-preserved
lines-preserved g c =
    let now = c.in-Replied.now in
    let flag : c.if-refused.refused ≡ (c.lines.refused || now) =
    elim c.if-refused.branch [
      | then-refused w ↦ w.refused-is ∙ w.if-refused.true ∙ ap (λ b. b || now) (sym w.if-refused.true)
      | else-refused w ↦ w.refused-is ∙ ap (λ b. b || now) (sym w.if-refused.false)
    ] in
    let i = c.lines.invariant in
    let t = c.in-Replied.ensures in (
      (λ input e. turn_going input c.args.refused c.lines.refused c.if-refused.refused now c.lines.lines c.take_turn.new.lines
          (g.S.Source.left c.lines.source) (g.S.Source.left c.take_turn.new.source) (g.K.Sink.holds c.args.sink.now) (g.K.Sink.holds c.lines.sink) (g.K.Sink.holds c.take_turn.new.sink)
          (i.0 input e) (t.told (i.0 input e).bytes (i.0 input e).pends) flag),
      t.bound,
      taken_on _ _ _ (count c.lines.lines) (count c.take_turn.new.lines) i.2 t.takes t.counts,
      omega (arith, i.3, t.faults),
      omega (arith, i.4, t.sink_faults),
    )

pub returns-in-Ended-clause-told : goal.returns-in-Ended-clause-told
returns-in-Ended-clause-told g c = λ input e.
    let held = g.K.Sink.holds c.args.sink.now in
    let left = g.S.Source.left c.take_turn.new.source in
    let holds = g.K.Sink.holds c.take_turn.new.sink in
    let i = c.lines.invariant in
    let t = c.in-Ended.ensures in
    subst (λ s. LinesTold input c.args.refused held holds left s) (sym c.flagged-in-Ended.ensures)
    (turn_ends input c.args.refused c.lines.refused c.lines.lines c.take_turn.new.lines (g.S.Source.left c.lines.source) left held (g.K.Sink.holds c.lines.sink) holds
    (i.0 input e) i.1 c.in-Ended.status (t.told (i.0 input e).bytes (i.0 input e).pends))

pub returns-in-Ended-clause-any : goal.returns-in-Ended-clause-any
returns-in-Ended-clause-any g c =
    let i = c.lines.invariant in
    let t = c.in-Ended.ensures in
    subst (λ s. LinesAny (g.S.Source.faults c.args.source.now) (g.S.Source.faults c.take_turn.new.source) (g.K.Sink.faults c.args.sink.now) (g.K.Sink.faults c.take_turn.new.sink)
    (g.S.Source.taken c.args.source.now) (g.S.Source.taken c.take_turn.new.source) s) (sym c.flagged-in-Ended.ensures)
    (turn_any c.lines.refused c.take_turn.new.lines _ (g.S.Source.faults c.lines.source) _ _ (g.K.Sink.faults c.lines.sink) _ _ _ c.in-Ended.status i.3 i.4 t.cause
    (taken_on _ _ _ (count c.lines.lines) (count c.take_turn.new.lines) i.2 t.takes t.counts))

pub returns-in-Quit-clause-told : goal.returns-in-Quit-clause-told
returns-in-Quit-clause-told g c = λ input e.
    let held = g.K.Sink.holds c.args.sink.now in
    let left = g.S.Source.left c.take_turn.new.source in
    let holds = g.K.Sink.holds c.take_turn.new.sink in
    let i = c.lines.invariant in
    let t = c.in-Quit.ensures in
    let said = c.in-Quit.now in
    let flag : (c.lines.refused || said) ≡ c.if-refused-2.flagged =
    elim c.if-refused-2.branch [
      | then-refused-2 w ↦ sym (w.flagged-is ∙ w.if-refused-2.true ∙ ap (λ b. b || said) (sym w.if-refused-2.true))
      | else-refused-2 w ↦ sym (w.flagged-is ∙ ap (λ b. b || said) (sym w.if-refused-2.false))
    ] in
    subst (λ s. LinesTold input c.args.refused held holds left s) (sym c.flagged.ensures)
    (turn_quits input c.args.refused c.lines.refused c.lines.lines c.take_turn.new.lines (g.S.Source.left c.lines.source) left held (g.K.Sink.holds c.lines.sink) holds
    (i.0 input e) i.1 said c.if-refused-2.flagged flag (t.told (i.0 input e).bytes (i.0 input e).pends))
