-- What holds of a reader of lines at every moment.
use Rattle.std.specs.Prelude.{◌≡◌, ℕ, ◌+◌, ◌<◌, ◌≤◌, List, length}
use Rattle.gft_io.specs.Lines.{line_limit, input_limit, HasNoNewline}

-- the begun line has no newline and is not too long; what is dropped is too long; and only one byte past the
-- limit is ever taken, alone
pub record IsSound (passed skipped : ℕ) (begun : List ℕ) (ahead : ℕ) : Type 0 where
  pub unended : HasNoNewline begun
  pub short : length begun ≤ line_limit
  pub dropped : 0 < skipped → line_limit < skipped
  pub alone : 0 < skipped → length begun ≡ 0
  pub room : passed + skipped + length begun ≤ input_limit
  pub bound : passed + skipped + length begun + ahead ≤ input_limit + 1
  pub last : input_limit < passed + skipped + length begun + ahead → passed + skipped + length begun ≡ input_limit
