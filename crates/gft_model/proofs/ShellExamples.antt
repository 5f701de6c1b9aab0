-- Worked examples of answers to lines.
use Rattle.std.proofs.Common.{◌≡◌, ◌≢◌, refl, ap, ℕ, List, [], ◌∷◌, ◌++◌, true, false, arith}
use Rattle.std.specs.Prelude.{codes, Some, None, length, map, Result, Ok}
use Rattle.std.specs.FinMap.{insert}
use Rattle.std.specs.Fmt.{digits}
use Rattle.std.specs.Str.{chars}
use lib.Utf8
use Rattle.gft_io.specs.Outside.{Files}
use Rattle.gft_rules.specs.declared.refusal.Refusal.{Refusal}
use Rattle.gft_rules.specs.declared.rule.Rule.TheVariants.{NoGrammar, NoSuchLanguage}
use Rattle.gft_model.specs.Commands as commands
use Rattle.gft_model.specs.Commands.{Verb, Import, Empty, Quit, Parse, WritePortable, Argument, Nothing, Given, a_text, keys_of, Command}
use Rattle.gft_model.specs.Refusals.{placeless}
use Rattle.gft_model.specs.PortableFile.{file_of}
use Rattle.gft_model.specs.Shell.{Held, grammar_line, refusing, replying, no_grammar, no_language, no_such_language, no_such_category, LacksFirst, here, later, Does, empties, quits, writes, save_failed, PipeSteps, done, lacking, InOrder, none, last, more, read, IsAnswer}
use Rattle.gft_model.specs.Shell as shell
use Rattle.gft_model.specs.Sessions.{StandsFor, loaded, file}
use Rattle.gft_model.specs.States.{State, Kept, added, of_file}
use Rattle.gft_model.proofs.CommandExamples as lines
use Rattle.gft_model.proofs.CommandExamples.{command, empty}
use Rattle.gft_model.proofs.GrammarExamples.{tiny, tiny_is_read}
use Rattle.gft_model.proofs.Tiny.{abs, eng}

-- a command without options, other than those that need a grammar, lacks nothing
lacks_nothing : {state : State} {verb : Verb} {argument : Argument} → (verb ≢ Import → verb ≢ Empty → verb ≢ Quit → ⊥)
    → keys_of verb ≡ [] → (r : Refusal) → ¬ LacksFirst state (command verb [] argument ∷ []) r
lacks_nothing needs keys r (here (no_grammar e i m q)) = needs i m q
lacks_nothing needs keys r (here (no_language e i (k, b, f))) = absurd (omega (arith, b, ap length keys))
lacks_nothing needs keys r (here (no_such_language e i k l f)) = cc
lacks_nothing needs keys r (here (no_such_category e i l f)) = cc
lacks_nothing needs keys r (later n d) = elim d [ ]

empties_alone : (held : Held) → PipeSteps held empty (replying (record held { state = None }) [])
empties_alone held = done (lacks_nothing (λ i m q. m refl) refl) empties

-- a refused pipe stands between two others, and its line is the reply
one_refusal : (held : Held) → IsAnswer held (codes "e ; frob ; e") (record {
  reply = codes "refused UnknownCommand: frob" ++ 10 ∷ [];
  refused = true;
  failures = 0;
  ends = false;
  after = record held { state = None };
})
unfolding chars lib.Utf8.encode
one_refusal held = (
  read (omega arith) (codes "e ; frob ; e", (refl, refl)) lines.line
      (more (empties_alone held) refl (more shell.refused refl (more (empties_alone _) refl none))),
  refl,
)

-- an empty session has no grammar
nothing_to_parse : (files : Files) → PipeSteps (record { state = None; files = files })
    (Ok (command Parse [] (Given (a_text [])) ∷ []))
    (refusing (record { state = None; files = files }) (placeless NoGrammar []) [])
nothing_to_parse files = lacking (here (no_grammar refl (λ e. cc) (λ e. cc) (λ e. cc)))

-- nothing runs after `quit`
pub quits_first : (held : Held) (reads : List (Result (List Command) Refusal))
    → InOrder PipeSteps held (Ok (command Quit [] Nothing ∷ []) ∷ reads) (record (replying held []) { ends = true } ∷ [])
quits_first held reads = last (done (lacks_nothing (λ i m q. q refl) refl) quits) refl

-- a session with the grammar of one sentence
abbrev tiny_state : State
tiny_state = Some (record { abs = abs; languages = (codes "TE", of_file eng) ∷ [] })

-- the language is looked for before the category, which is not there either
language_first : LacksFirst tiny_state
    (command Parse (codes "-cat=B" ∷ codes "-lang=A" ∷ []) (Given (a_text [])) ∷ [])
    (placeless NoSuchLanguage (codes "A" ∷ []))
unfolding lib.Utf8.encode
language_first = here (no_such_language refl (λ e. cc) (0, omega arith, refl) refl refl)

-- the line of its import, and of one without languages
imported : grammar_line (record { abs = abs; languages = (codes "TE", of_file eng) ∷ [] }) ≡ codes "grammar T languages TE"
imported = refl

without_languages : grammar_line (record { abs = abs; languages = [] }) ≡ codes "grammar T languages"
without_languages = refl

-- a later language stands in place of one of its name, and languages are in order
replaced : map (λ (l : List ℕ × Kept). l.0) (added [] ((codes "B", of_file eng) ∷ (codes "A", of_file eng)
    ∷ (codes "B", of_file eng) ∷ [])) ≡ codes "A" ∷ codes "B" ∷ []
replaced = refl

-- its file is written
tiny_written : (files : Files) → Does (record { state = tiny_state; files = files }) WritePortable
    (commands.FileNames (codes "T.gft" ∷ []))
    (replying (record { state = tiny_state; files = insert files (codes "T.gft") (file_of tiny) })
    (codes "wrote T.gft 133 bytes" ∷ []))
unfolding digits
tiny_written files = writes (tiny, loaded refl (file refl, tt), tiny_is_read.grammar, tiny_is_read.bytes_are) (omega arith)

-- where the save fails, the state stays and the reply names the file; here its content is as before
tiny_not_saved : (files : Files) → Does (record { state = tiny_state; files = files }) WritePortable
    (commands.FileNames (codes "T.gft" ∷ [])) (record {
      reply = codes "refused CannotWrite: T.gft" ++ 10 ∷ [];
      refused = true;
      failures = 1;
      ends = false;
      after = record { state = tiny_state; files = files };
    })
tiny_not_saved files = save_failed (tiny, loaded refl (file refl, tt), tiny_is_read.grammar, tiny_is_read.bytes_are) (omega arith) (λ name other. refl)

-- a compiled grammar does not stand for the empty state
tiny_is_not_empty : ¬ StandsFor (Some tiny) None
tiny_is_not_empty d = elim d [ ]
