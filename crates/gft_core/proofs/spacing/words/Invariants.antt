use Rattle.std.proofs.Common.{◌≡◌, ◌++◌}
use Rattle.std.specs.Str.{IsUtf8}
use Rattle.std.specs.Str.Iter.{split_whitespace_rest}
use Rattle.gft_core.specs.Words.{words_of}
use Rattle.gft_core.proofs.spacing.words.Given as goal

-- the words so far and those of what is left are those of all
abbrev pub invariant-loop-word : goal.invariant-loop-word
invariant-loop-word l =
    (goal.iterator-loop-word).can_next l.word-iterator × (goal.iterator-loop-word).is_finite l.word-iterator
    × (IsUtf8 (split_whitespace_rest l.word-iterator))
    × (l.found.items ++ words_of (split_whitespace_rest l.word-iterator) ≡ words_of l.text)
