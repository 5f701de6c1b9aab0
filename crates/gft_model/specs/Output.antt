-- What a whole run of the program writes.
use Rattle.std.specs.Prelude.{◌≡◌, ◌==◌, ◌||◌, ◌*◌, ℕ, Bool, true, false, not, List, [], ◌∷◌, ◌++◌, length, drop, codes, None, Ok}
use Rattle.std.specs.Fmt.{decimal}
use Rattle.std.specs.Str.Parse.{digits_value}
use Rattle.gft_io.specs.Lines.{lines_of}
use Rattle.gft_io.specs.Outside.{Files}
use Rattle.gft_rules.specs.declared.rule.Rule.TheVariants.{BadArgument}
use Rattle.gft_model.specs.Commands.{command_of, Verb, Import, WritePortable, AreFileNames, is_decimal_to, begins_with_hyphen, FileNames}
use Rattle.gft_model.specs.Refusals.{placeless}
use Rattle.gft_model.specs.Shell.{Held, Answer, replying, refusing, InOrder, PipeSteps, Steps}

-- a file, or an option's value that is the next word, does not begin with a hyphen, or is the hyphen alone
abbrev pub is_plain : List ℕ → Bool
is_plain word = not (begins_with_hyphen word) || length word == 1

-- the words give these values of `--make`, these of `--workload` and these files; after `--` every word is a file
pub data AreWords : List (List ℕ) → List (List ℕ) → List (List ℕ) → List (List ℕ) → Type 0 where
  none : AreWords [] [] [] []
  a_file : {w ws outs counts files : _} → is_plain w ≡ true → AreWords ws outs counts files →
      AreWords (w ∷ ws) outs counts (w ∷ files)
  only_files : {files : _} → AreWords (codes "--" ∷ files) [] [] files
  an_out : {v ws outs counts files : _} → is_plain v ≡ true → AreWords ws outs counts files →
      AreWords (codes "--make" ∷ v ∷ ws) (v ∷ outs) counts files
  an_out_is : {v ws outs counts files : _} → AreWords ws outs counts files →
      AreWords ((codes "--make=" ++ v) ∷ ws) (v ∷ outs) counts files
  a_count : {v ws outs counts files : _} → is_plain v ≡ true → AreWords ws outs counts files →
      AreWords (codes "--workload" ∷ v ∷ ws) outs (v ∷ counts) files
  a_count_is : {v ws outs counts files : _} → AreWords ws outs counts files →
      AreWords ((codes "--workload=" ++ v) ∷ ws) outs (v ∷ counts) files

-- a session with some files, a portable file to be made of files, or the workload of so many sentences
pub data Mode : Type 0 where
  session : List (List ℕ) → Mode
  make : List ℕ → List (List ℕ) → Mode
  workload : ℕ → Mode

-- the mode that the words of the program ask for, its name left out; a workload has from 1 to 10,000 sentences
pub data Asks (words : List (List ℕ)) : Mode → Type 0 where
  for_session : {files : _} → AreWords (drop 1 words) [] [] files → Asks words (session files)
  to_make : {out file files : _} → AreWords (drop 1 words) (out ∷ []) [] (file ∷ files) → Asks words (make out (file ∷ files))
  for_workload : {count : _} → AreWords (drop 1 words) [] (count ∷ []) [] → is_decimal_to 10000 count ≡ true →
      Asks words (workload (digits_value 10 count))

-- the line of a wrong call
abbrev pub usage_line : List ℕ
usage_line = codes "usage: gfs [FILE ..] | gfs --make OUT FILE .. | gfs --workload N"

-- the lines of a workload: each sentence has 40 words and 16 trees, and is the one string of each of them
abbrev pub workload_lines : ℕ → List (List ℕ)
workload_lines n =
    (codes "sentences " ++ decimal n) ∷ (codes "words " ++ decimal (40 * n)) ∷ (codes "trees " ++ decimal (16 * n))
    ∷ (codes "same " ++ decimal (16 * n)) ∷ []

-- before the first line
abbrev pub unbegun : Files → Held
unbegun files = record { state = None; files = files }

-- what a command with file names of the program's words answers; a name of another ending is refused
pub data FilesStep (held : Held) (verb : Verb) (names : List (List ℕ)) : Answer → Type 0 where
  good_names : {a : _} → AreFileNames verb names →
      PipeSteps held (Ok (command_of verb [] (FileNames names) ∷ [])) a →
      FilesStep held verb names a
  bad_names : ¬ AreFileNames verb names → FilesStep held verb names (refusing held (placeless BadArgument []) [])

-- what a run answers over the words, the input and the files: its replies are the output, in their order
pub data Output (words : List (List ℕ)) (input : List ℕ) (files : Files) : List Answer → Type 0 where
  lines : {answers : _} → Asks words (session []) → InOrder Steps (unbegun files) (lines_of input) answers →
      Output words input files answers
  file_lines : {file names : _} {a : Answer} {answers : _} → Asks words (session (file ∷ names)) →
      FilesStep (unbegun files) Import (file ∷ names) a → InOrder Steps a.after (lines_of input) answers →
      Output words input files (a ∷ answers)
  made : {out names : _} {a : Answer} {b : _} → Asks words (make out names) → FilesStep (unbegun files) Import names a →
      a.refused ≡ false → FilesStep a.after WritePortable (out ∷ []) b → Output words input files (a ∷ b ∷ [])
  not_made : {out names : _} {a : Answer} → Asks words (make out names) → FilesStep (unbegun files) Import names a →
      a.refused ≡ true → Output words input files (a ∷ [])
  counted : {n : _} → Asks words (workload n) → Output words input files (replying (unbegun files) (workload_lines n) ∷ [])
  wrong_call : ((mode : Mode) → ¬ Asks words mode) → Output words input files (replying (unbegun files) (usage_line ∷ []) ∷ [])
