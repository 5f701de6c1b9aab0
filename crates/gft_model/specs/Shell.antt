-- What a session answers to a line.
use Rattle.std.specs.Prelude.{◌≡◌, ◌≢◌, ◌<◌, ◌≤◌, ◌+◌, ◌||◌, ℕ, Bool, true, false, List, [], ◌∷◌, ◌++◌, length, map, flat_map, codes, bytes_eq, Contains, Some, None, Result, Ok, Err}
use Rattle.std.specs.FinMap.{insert}
use Rattle.std.specs.Fmt.{decimal}
use Rattle.std.specs.List.{fold}
use Rattle.std.specs.Str.{chars, IsUtf8}
use Rattle.gft_io.specs.Lines.{line_limit}
use Rattle.gft_io.specs.Outside.{Files}
use Rattle.gft_io.specs.Stores.{KeepsOthers}
use Rattle.gft_pmcfg.specs.declared.grammar.Grammar.{Grammar}
use Rattle.gft_rules.specs.Lines as refusals
use Rattle.gft_rules.specs.declared.refusal.Refusal.{Refusal}
use Rattle.gft_rules.specs.declared.rule.Rule.{Rule}
use Rattle.gft_rules.specs.declared.rule.Rule.TheVariants.{NoGrammar, NoLanguage, NoSuchLanguage, NoSuchCategory, UnknownName, CannotRead, CannotWrite, PortableTooLong, LineTooLong, LineNotUtf8}
use Rattle.gft_model.specs.AbstractInfo.{judgement_lines}
use Rattle.gft_model.specs.Commands.{Verb, Import, Empty, Quit, AbstractInfo, WritePortable, Argument, Nothing, Item, Given, Name, Command, keys_of, ReadsLine, FileNames}
use Rattle.gft_model.specs.Refusals.{placeless, IsFirst}
use Rattle.gft_model.specs.Import.{BreaksImport, ComesTo}
use Rattle.gft_model.specs.Loading.{HasFiles, most_portable_bytes}
use Rattle.gft_model.specs.PortableFile.{IsGrammar, file_of}
use Rattle.gft_model.specs.Replies.{line_of, category_for, languages_for, Lists, RunsAll}
use Rattle.gft_model.specs.Sessions.{IsImported, Joins, StandsFor}
use Rattle.gft_model.specs.States.{Kept, Loaded, State}

-- the state of a session, and the files
pub record Held : Type 0 where
  pub state : State
  pub files : Files

-- what is replied, whether a refusal is in it, how many loads and saves failed, whether the session ends, and what is held
-- after it
pub record Answer : Type 0 where
  pub reply : List ℕ
  pub refused : Bool
  pub failures : ℕ
  pub ends : Bool
  pub after : Held

-- lines
abbrev pub replying : Held → List (List ℕ) → Answer
replying after lines =
    record { reply = flat_map (λ line. line ++ 10 ∷ []) lines; refused = false; failures = 0; ends = false; after = after }

-- the line of a refusal; its place is shown by the names of the loaded files
abbrev pub refusing : Held → Refusal → List (List ℕ) → Answer
refusing after r loaded = record (replying after (refusals.line_of r loaded ∷ [])) { refused = true }

-- the refusal of a file that could not be loaded or saved
abbrev pub failing : Held → Rule → List ℕ → Answer
failing after rule file = record (refusing after (placeless rule (file ∷ [])) []) { failures = 1 }

-- what the commands of a pipe give in the end
abbrev pub ran : Held → Result (List Item) Refusal → Answer
ran held (Ok items) = replying held (map line_of items)
ran held (Err r) = refusing held r []

-- what the state lacks for a command: a grammar, any language, or the language or category that it names
pub data Lacks (state : State) (c : Command) : Refusal → Type 0 where
  no_grammar : state ≡ None → c.verb ≢ Import → c.verb ≢ Empty → c.verb ≢ Quit → Lacks state c (placeless NoGrammar [])
  no_language : {g : Loaded} → state ≡ Some g → g.languages ≡ [] → Contains (keys_of c.verb) (codes "-lang=") →
      Lacks state c (placeless NoLanguage [])
  no_such_language : {g : Loaded} {name : _} → state ≡ Some g → g.languages ≢ [] → Contains (keys_of c.verb) (codes "-lang=") →
      c.lang ≡ Some name → languages_for g c ≡ [] → Lacks state c (placeless NoSuchLanguage (name ∷ []))
  no_such_category : {g : Loaded} {name : _} → state ≡ Some g →
      (Contains (keys_of c.verb) (codes "-lang=") → languages_for g c ≢ []) →
      c.cat ≡ Some name → category_for g c ≡ None → Lacks state c (placeless NoSuchCategory (name ∷ []))

-- the first that the commands lack, from left to right
pub data LacksFirst (state : State) : List Command → Refusal → Type 0 where
  here : {c cs r : _} → Lacks state c r → LacksFirst state (c ∷ cs) r
  later : {c cs r : _} → ((s : Refusal) → ¬ Lacks state c s) → LacksFirst state cs r → LacksFirst state (c ∷ cs) r

-- the line of an import: the grammar with all its languages
abbrev pub grammar_line : Loaded → List ℕ
grammar_line g =
    codes "grammar " ++ g.abs.name ++ codes " languages" ++ flat_map (λ (l : List ℕ × Kept). 32 ∷ l.0) g.languages

-- one answer after another, and the answers to several things as one
abbrev pub followed : Answer → Answer → Answer
followed a b =
    record b { reply = a.reply ++ b.reply; refused = a.refused || b.refused; failures = a.failures + b.failures }

abbrev pub whole : Held → List Answer → Answer
whole held answers = fold followed (replying held []) answers

-- the answers to things in their order, none after one that ends the session
pub data InOrder {A : Type 0} (R : Held → A → Answer → Type 0) : Held → List A → List Answer → Type 0 where
  none : {held : _} → InOrder R held [] []
  last : {held x xs : _} {a : Answer} → R held x a → a.ends ≡ true → InOrder R held (x ∷ xs) (a ∷ [])
  more : {held x xs others : _} {a : Answer} → R held x a → a.ends ≡ false → InOrder R a.after xs others →
      InOrder R held (x ∷ xs) (a ∷ others)

-- the bytes of the portable file of a state: that of the grammar that stands for it
abbrev pub IsFileOf : State → List ℕ → Type 0
IsFileOf state bytes = (g : Grammar) × StandsFor (Some g) state × IsGrammar g.abs g.concretes × (file_of g ≡ bytes)

-- what a command does that stands alone in its pipe; after a save that failed the content of its file is open
pub data Does (held : Held) : Verb → Argument → Answer → Type 0 where
  imports : {names new joined : _} → IsImported held.files names new → Joins held.state new joined →
      Does held Import (FileNames names) (replying (record held { state = Some joined }) (grammar_line joined ∷ []))
  import_refused : {names loaded r : _} → IsFirst (BreaksImport held.files names) r → HasFiles held.files names loaded →
      Does held Import (FileNames names) (refusing held r loaded)
  load_failed : {names file : _} → ComesTo held.files names file →
      Does held Import (FileNames names) (failing held CannotRead file)
  empties : Does held Empty Nothing (replying (record held { state = None }) [])
  quits : Does held Quit Nothing (record (replying held []) { ends = true })
  informs : {g : Loaded} → held.state ≡ Some g →
      Does held AbstractInfo Nothing (replying held (judgement_lines g.abs (λ name. true)))
  informs_of : {g : Loaded} {name : _} → held.state ≡ Some g → judgement_lines g.abs (bytes_eq name) ≢ [] →
      Does held AbstractInfo (Name name) (replying held (judgement_lines g.abs (bytes_eq name)))
  unknown_name : {g : Loaded} {name : _} → held.state ≡ Some g → judgement_lines g.abs (bytes_eq name) ≡ [] →
      Does held AbstractInfo (Name name) (refusing held (placeless UnknownName (name ∷ [])) [])
  writes : {file bytes : _} → IsFileOf held.state bytes → length bytes ≤ most_portable_bytes →
      Does held WritePortable (FileNames (file ∷ [])) (replying (record held { files = insert held.files file bytes })
      ((codes "wrote " ++ file ++ codes " " ++ decimal (length bytes) ++ codes " bytes") ∷ []))
  save_failed : {file bytes left : _} → IsFileOf held.state bytes → length bytes ≤ most_portable_bytes →
      KeepsOthers file held.files left →
      Does held WritePortable (FileNames (file ∷ [])) (failing (record held { files = left }) CannotWrite file)
  portable_too_long : {file bytes : _} → IsFileOf held.state bytes → most_portable_bytes < length bytes →
      Does held WritePortable (FileNames (file ∷ [])) (refusing held (placeless PortableTooLong (file ∷ [])) [])

-- what a pipe answers
pub data PipeSteps (held : Held) : Result (List Command) Refusal → Answer → Type 0 where
  refused : {r : _} → PipeSteps held (Err r) (refusing held r [])
  lacking : {cs r : _} → LacksFirst held.state cs r → PipeSteps held (Ok cs) (refusing held r [])
  done : {c : Command} {a : _} → ((r : Refusal) → ¬ LacksFirst held.state (c ∷ []) r) → Does held c.verb c.argument a →
      PipeSteps held (Ok (c ∷ [])) a
  lists : {c : Command} {cs g items result : _} → ((r : Refusal) → ¬ LacksFirst held.state (c ∷ cs) r) →
      held.state ≡ Some g → c.argument ≡ Nothing → Lists g c (Ok items) → RunsAll g cs items result →
      PipeSteps held (Ok (c ∷ cs)) (ran held result)
  lists_none : {c : Command} {cs g s : _} → ((r : Refusal) → ¬ LacksFirst held.state (c ∷ cs) r) →
      held.state ≡ Some g → c.argument ≡ Nothing → Lists g c (Err s) → PipeSteps held (Ok (c ∷ cs)) (refusing held s [])
  runs : {c : Command} {cs g item result : _} → ((r : Refusal) → ¬ LacksFirst held.state (c ∷ cs) r) →
      held.state ≡ Some g → c.argument ≡ Given item → RunsAll g (c ∷ cs) (item ∷ []) result →
      PipeSteps held (Ok (c ∷ cs)) (ran held result)

-- what a session answers to a line of bytes
pub data Steps (held : Held) (line : List ℕ) : Answer → Type 0 where
  too_long : line_limit < length line → Steps held line (refusing held (placeless LineTooLong []) [])
  not_utf8 : length line ≤ line_limit → ¬ IsUtf8 line → Steps held line (refusing held (placeless LineNotUtf8 []) [])
  read : {reads answers : _} → length line ≤ line_limit → IsUtf8 line → ReadsLine (chars line) reads →
      InOrder PipeSteps held reads answers → Steps held line (whole held answers)

-- what it answers where no load or save failed
abbrev pub IsAnswer : Held → List ℕ → Answer → Type 0
IsAnswer held line a = Steps held line a × (a.failures ≡ 0)
