-- What the words ask for, as the definitions see it. These serve the proofs.
use Rattle.std.specs.Prelude.{ℕ, List, ◌++◌, Option, Some, None, map, string_bytes}
use Rattle.gft_top.specs.declared.words.Asked.{Asked}
use Rattle.gft_top.specs.declared.words.Asked.TheVariants.{Session, Make, Workload}
use Rattle.gft_top.specs.declared.words.Files.{Files}
use Rattle.gft_top.specs.declared.words.Given.{Given}
use Rattle.gft_top.specs.Words.{Call, of_session, of_make, of_workload, of_nothing}

abbrev pub given_of : Given → List ℕ × List (List ℕ)
given_of given = (given.value.now, map string_bytes given.words.now)

-- the files of three lists, one after the other
abbrev pub files_of : Files → List (List ℕ)
files_of files =
    map string_bytes files.first.now ++ (map string_bytes files.second.now ++ map string_bytes files.last.now)

abbrev pub call_by : Option Asked → Call
call_by None = of_nothing
call_by (Some (Session files)) = of_session (files_of files)
call_by (Some (Make out files)) = of_make out.now (files_of files)
call_by (Some (Workload count)) = of_workload count
