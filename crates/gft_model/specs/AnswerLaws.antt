-- Laws of command lines and answers.
use Rattle.std.specs.FinMap.{insert}
use Rattle.std.specs.Prelude.{◌≡◌, ℕ, List, Some, Result}
use Rattle.gft_core.specs.declared.tree.Tree.{Tree}
use Rattle.gft_pmcfg.specs.declared.signature.Abstract.{Abstract}
use Rattle.gft_pmcfg.specs.declared.concrete.Concrete.{Concrete}
use Rattle.gft_pmcfg.specs.declared.grammar.Grammar.{Grammar}
use Rattle.gft_rules.specs.declared.refusal.Refusal.{Refusal}
use Rattle.gft_syntax.specs.declared.flat.Flat.{Flat}
use Rattle.gft_io.specs.Outside.{Files}
use Rattle.gft_model.specs.Commands.{Item, Command, ReadsLine, EndsIn, portable_ending}
use Rattle.gft_model.specs.Compiled.{Compiles}
use Rattle.gft_model.specs.Loading.{HasFiles}
use Rattle.gft_model.specs.Laws.{AreNamedApart}
use Rattle.gft_model.specs.Output.{unbegun, Output}
use Rattle.gft_model.specs.Replies.{Parses, Completes, AreTexts}
use Rattle.gft_model.specs.Shell.{Held, Answer, whole, IsAnswer, IsFileOf}
use Rattle.gft_model.specs.Skeleton.{IsSkeleton}
use Rattle.gft_model.specs.Sessions.{Gives, StandsFor}
use Rattle.gft_model.specs.States.{Kept, State, language_of, kept_grammar}
use Rattle.gft_model.specs.Unsolved.{IsWrongAt}

-- the characters of a line are read in at most one way
abbrev pub LineIsReadOnce : Type 0
LineIsReadOnce =
    (line : List ℕ) (reads others : List (Result (List Command) Refusal)) → ReadsLine line reads → ReadsLine line others
    → reads ≡ others

-- and they are read in some way
abbrev pub LineIsRead : Type 0
LineIsRead = (line : List ℕ) → (reads : List (Result (List Command) Refusal)) × ReadsLine line reads

-- `parse` has at most one answer: patterns or one of the notices
abbrev pub ParseAnswersOnce : Type 0
ParseAnswersOnce =
    (a : Abstract) (l : List ℕ × Kept) (cat : ℕ) (words : List (List ℕ)) (depth : ℕ) (items others : List Item)
    → Parses a (language_of a cat l) cat words depth items → Parses a (language_of a cat l) cat words depth others
    → items ≡ others

-- so has `complete`
abbrev pub CompleteAnswersOnce : Type 0
CompleteAnswersOnce =
    (a : Abstract) (l : List ℕ × Kept) (cat : ℕ) (words : List (List ℕ)) (items others : List Item)
    → Completes a (language_of a cat l) cat words items → Completes a (language_of a cat l) cat words others
    → items ≡ others

-- a tree has at most one list of texts in a language
abbrev pub TextsAreDetermined : Type 0
TextsAreDetermined =
    (a : Abstract) (l : List ℕ × Kept) (cat : ℕ) (t : Tree) (texts others : List (List (List ℕ)))
    → AreTexts (language_of a cat l) t texts → AreTexts (language_of a cat l) t others → texts ≡ others

-- nothing is wrong in a tree that has a skeleton type, where functions are told apart by their names
abbrev pub SkeletonIsRight : Type 0
SkeletonIsRight =
    (a : Abstract) (t : Tree) (cat : ℕ) → AreNamedApart a.funs → IsSkeleton a t cat → (p : List ℕ) (kind : ℕ) (r : Refusal)
    → ¬ IsWrongAt a t p kind r

-- the portable file of a state gives, in an import, the grammar that stands for the state
abbrev pub WrittenIsGiven : Type 0
WrittenIsGiven =
    (state : State) (files : Files) (names : List (List ℕ)) (name bytes : List ℕ) → EndsIn portable_ending name
    → IsFileOf state bytes → (g : Grammar) × StandsFor (Some g) state
    × Gives (insert files name bytes) names name (kept_grammar g)

-- the files that an import loads are determined, in their order
abbrev pub LoadedFilesAreDetermined : Type 0
LoadedFilesAreDetermined =
    (files : Files) (names loaded others : List (List ℕ)) → HasFiles files names loaded → HasFiles files names others
    → loaded ≡ others

-- what a language compiles to is determined
abbrev pub CompiledIsDetermined : Type 0
CompiledIsDetermined =
    (a : Abstract) (flat : Flat) (lang : List ℕ) (c d : Concrete) → Compiles a flat lang c → Compiles a flat lang d
    → c ≡ d

-- a session has at most one answer to a line in which no load or save fails
abbrev pub SessionAnswersOnce : Type 0
SessionAnswersOnce =
    (held : Held) (line : List ℕ) (x y : Answer) → IsAnswer held line x → IsAnswer held line y → x ≡ y

-- and a run in which none fails at most one output
abbrev pub OutputIsDetermined : Type 0
OutputIsDetermined =
    (words : List (List ℕ)) (input : List ℕ) (files : Files) (xs ys : List Answer) → Output words input files xs
    → (whole (unbegun files) xs).failures ≡ 0 → Output words input files ys
    → (whole (unbegun files) ys).failures ≡ 0 → xs ≡ ys
