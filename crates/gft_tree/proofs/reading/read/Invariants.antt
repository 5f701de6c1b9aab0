use Rattle.std.proofs.Common.{◌≡◌, ◌≤◌, length}
use Rattle.std.specs.Str.{chars}
use Rattle.std.specs.Str.Iter.{chars_rest}
use Rattle.gft_tree.specs.Reading.{read_on, start}
use Rattle.gft_tree.proofs.reading.read.Given as goal

-- reading on from here gives what reading the text gives
abbrev pub invariant-characters : goal.invariant-characters
invariant-characters l = record {
  within : length (chars_rest l.rest) ≤ length l.text;
  same : read_on (length l.text) l.reader (chars (chars_rest l.rest)) ≡ read_on (length l.text) start (chars l.text);
}

abbrev pub decreases-characters : goal.decreases-characters
decreases-characters l = length (chars_rest l.rest)
