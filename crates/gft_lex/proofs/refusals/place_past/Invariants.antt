use Rattle.std.proofs.Common.{◌≡◌, ◌+◌, drop, length}
use Rattle.gft_lex.specs.Steps.{HasRoom, place_past}
use Rattle.gft_lex.proofs.refusals.place_past.Given as goal

-- what is left leads where all does
abbrev pub invariant-passed : goal.invariant-passed
invariant-passed l = record {
  same : place_past l.place (drop l.c-index l.passed) ≡ place_past l.initial.place l.passed;
  room : HasRoom (length (drop l.c-index l.passed) + 1) l.place;
}
