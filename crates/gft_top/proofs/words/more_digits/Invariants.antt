use Rattle.std.proofs.Common.{◌≡◌, ◌≤◌, drop}
use Rattle.gft_top.specs.Words.{more_digits}
use Rattle.gft_top.proofs.words.more_digits.Given as goal

-- the digits so far are read, and those from here on decide
abbrev pub invariant-loop-digit : goal.invariant-loop-digit
invariant-loop-digit l = (l.count ≤ 10000) × (more_digits l.first l.digits ≡ more_digits l.count (drop l.digit-index l.digits))
