-- The exit codes of the program.
use Rattle.std.specs.Prelude.{ℕ}
use Rattle.gft_top.specs.declared.running.Status.{Status}
use Rattle.gft_top.specs.declared.running.Status.TheVariants.{Done, SomeRefused, Usage, ReadFault, WriteFault, NoMemory, InputLimit}

-- the exit code of a run that ended so
abbrev pub code_of : Status → ℕ
code_of Done = 0
code_of SomeRefused = 1
code_of Usage = 2
code_of ReadFault = 3
code_of WriteFault = 4
code_of NoMemory = 5
code_of InputLimit = 6
