-- Worked examples of whole runs.
use Rattle.std.proofs.Common.{refl, ap, ◌∙◌, ℕ, List, [], ◌∷◌, ◌++◌, true, false, arith, ⊎_elim, length-append}
use Rattle.std.specs.Prelude.{codes, length}
use Rattle.std.specs.Fmt.{digits}
use Rattle.std.specs.Str.{chars}
use lib.Utf8
use Rattle.gft_io.specs.Outside.{Files}
use Rattle.gft_model.specs.Commands as commands
use Rattle.gft_model.specs.Commands.{Import, Quit, AreFileNames, of_import, source_ending, portable_ending}
use Rattle.gft_model.specs.Output.{none, a_file, only_files, an_out, an_out_is, a_count, Mode, make, Asks, for_session, to_make, for_workload, usage_line, unbegun, bad_names, Output, wrong_call, counted, lines, file_lines}
use Rattle.gft_model.specs.Shell as shell
use Rattle.gft_model.specs.Shell.{replying}
use Rattle.gft_model.proofs.ShellExamples.{quits_first}

abbrev gfs : List ℕ
gfs = codes "gfs"

-- options may stand after files, and behind `--` every word is a file
makes : Asks (gfs ∷ codes "A.gf" ∷ codes "--make=T.gft" ∷ codes "--" ∷ codes "-b.gf" ∷ [])
    (make (codes "T.gft") (codes "A.gf" ∷ codes "-b.gf" ∷ []))
makes = to_make (a_file refl (an_out_is only_files))

-- a hyphen alone may be an option's value, and two hyphens may not
hyphen : Asks (gfs ∷ codes "--make" ∷ codes "-" ∷ codes "A.gf" ∷ []) (make (codes "-") (codes "A.gf" ∷ []))
hyphen = to_make (an_out refl (a_file refl none))

hyphens : {mode : Mode} → ¬ Asks (gfs ∷ codes "--make" ∷ codes "--" ∷ codes "A.gf" ∷ []) mode
hyphens (for_session (a_file is d)) = cc
hyphens (to_make (a_file is d)) = cc
hyphens (to_make (an_out is d)) = cc
hyphens (for_workload d count) = elim d [ ]

-- `--make` without files is a wrong call
no_files : {mode : Mode} → ¬ Asks (gfs ∷ codes "--make" ∷ codes "T.gft" ∷ []) mode
no_files (for_session (a_file is d)) = cc
no_files (to_make (a_file is d)) = cc
no_files (to_make (an_out is d)) = elim d [ ]
no_files (for_workload d count) = elim d [ ]

usage : (input : List ℕ) (files : Files)
    → Output (gfs ∷ codes "--make" ∷ codes "T.gft" ∷ []) input files (replying (unbegun files) (usage_line ∷ []) ∷ [])
usage input files = wrong_call (λ mode asks. no_files asks)

-- so is a workload of no sentence
no_sentence : {mode : Mode} → ¬ Asks (gfs ∷ codes "--workload" ∷ codes "0" ∷ []) mode
no_sentence (for_session (a_file is d)) = cc
no_sentence (to_make (a_file is d)) = cc
no_sentence (for_workload (a_count is none) count) = cc

-- a workload of 200 sentences
sentences : (input : List ℕ) (files : Files) → Output (gfs ∷ codes "--workload" ∷ codes "200" ∷ []) input files
    (replying (unbegun files) (codes "sentences 200" ∷ codes "words 8000" ∷ codes "trees 3200" ∷ codes "same 3200" ∷ []) ∷ [])
unfolding digits
sentences input files = counted (for_workload (a_count refl none) refl)

-- a file name of another ending is refused, and the session goes on to its lines
other_ending : ¬ AreFileNames Import (codes "a" ∷ [])
other_ending (of_import ends) = ⊎_elim {C = ⊥} (λ e. absurd (omega (arith, ap length e.1 ∙ length-append e.0 source_ending)))
    (λ e. absurd (omega (arith, ap length e.1 ∙ length-append e.0 portable_ending))) (ends 0 [] (omega arith))

refused_file : (files : Files) → Output (gfs ∷ codes "a" ∷ []) [] files (record {
  reply = codes "refused BadArgument" ++ 10 ∷ [];
  refused = true;
  failures = 0;
  ends = false;
  after = unbegun files;
} ∷ [])
refused_file files = file_lines (for_session (a_file refl none)) (bad_names other_ending) shell.none

-- a session without files: the line behind `quit` is not answered
short : (files : Files) → Output (gfs ∷ []) (codes "frob" ++ 10 ∷ codes "q" ++ 10 ∷ codes "e") files
    (record {
      reply = codes "refused UnknownCommand: frob" ++ 10 ∷ [];
      refused = true;
      failures = 0;
      ends = false;
      after = unbegun files;
    } ∷ record { reply = []; refused = false; failures = 0; ends = true; after = unbegun files } ∷ [])
unfolding chars lib.Utf8.encode
short files =
    let frob = commands.pipe_refused (commands.refused (commands.not_called refl)) in
    let ends = commands.pipe (commands.more (commands.read refl commands.of_quit) commands.none) commands.last in
    lines (for_session none)
    (shell.more (shell.read (omega arith) (codes "frob", (refl, refl)) (frob, tt) (shell.more shell.refused refl shell.none)) refl
    (shell.last (shell.read (omega arith) (codes "q", (refl, refl)) (ends, tt) (quits_first _ [])) refl))
