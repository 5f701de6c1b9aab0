use Rattle.std.proofs.Common.{rules, arith, length, ◌+◌, ◌≤◌, ap, refl}
use Rattle.gft_io.specs.Lines.{input_limit, HasNoNewline}
use Rattle.gft_io.proofs.PlaceLemmas.{sound_without, sound_with}
use Rattle.gft_io.proofs.lines.Lines.keep.Goals as goal

pub invariant_of-self : goal.invariant_of-self
invariant_of-self c =
    let i = c.self.inside in
    let room : i.passed + i.skipped + length i.begun.items + length i.ahead ≤ input_limit = rw (← c.self.view_is) at c.requires.room in
    sound_without i.passed i.skipped (length i.ahead) _ i.begun.items _ _ c.self.invariant (omega (arith, c.len.ensures, ap length c.bytes-added.ensures.value)) (omega arith) room (search rules) (search rules)

pub invariant_of-self-2 : goal.invariant_of-self-2
invariant_of-self-2 c =
    let i = c.self.inside in
    let line : HasNoNewline i.ahead = rw (← c.self.view_is) at c.requires.line in
    let room : i.passed + i.skipped + length i.begun.items + length i.ahead ≤ input_limit = rw (← c.self.view_is) at c.requires.room in
    sound_with i.passed i.skipped (length i.ahead) i.begun.items i.ahead _ _ c.self.invariant line refl (omega (arith, c.len.ensures, ap length c.bytes-added.ensures.value)) room (search rules) (search rules)
