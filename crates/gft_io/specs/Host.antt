-- What contracts see of the adapters over the system.
use Rattle.std.specs.Prelude.{ℕ, Bool, if◌then◌else◌}
use Rattle.gft_io.specs.Outside.{raised}

-- a source over a reader: how many bytes were taken, and how often it failed
pub record ReaderState : Type 0 where
  pub taken : ℕ
  pub faults : ℕ

-- a number of faults after a call that failed or did not
abbrev pub faults_after : ℕ → Bool → ℕ
faults_after faults failed = if failed then raised faults 1 else faults
