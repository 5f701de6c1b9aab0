use Rattle.std.proofs.Common.{◌≡◌, ◌++◌, take, map, string_bytes}
use Rattle.gft_top.proofs.words.push_files.Given as goal

-- the words so far are added
abbrev pub invariant-loop-word : goal.invariant-loop-word
invariant-loop-word l = l.files.items ≡ l.initial.files.items ++ map string_bytes (take l.word-index l.words)
