use Rattle.std.proofs.Common.{map, string_bytes}
use Rattle.gft_top.specs.Words.{is_marker}
use Rattle.gft_top.proofs.WordLemmas.{Goes}
use Rattle.gft_top.proofs.words.marker_at.Given as goal

-- none of the words so far is one
abbrev pub invariant-loop-at : goal.invariant-loop-at
invariant-loop-at l = Goes is_marker (map string_bytes l.words) l.at
