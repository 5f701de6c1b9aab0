-- What an import gives to a session, and the compiled grammar that stands for what a session holds.
use Rattle.std.specs.Prelude.{◌≡◌, ◌≢◌, ℕ, List, [], map, flat_map, Option, Some, None, slice_get}
use Rattle.std.specs.FinMap.{get}
use Rattle.std.specs.List.{AllZip}
use Rattle.gft_io.specs.Outside.{Files}
use Rattle.gft_pmcfg.specs.declared.concrete.Concrete.{Concrete}
use Rattle.gft_pmcfg.specs.declared.grammar.Grammar.{Grammar}
use Rattle.gft_pmcfg.specs.declared.signature.Abstract.{Abstract}
use Rattle.gft_model.specs.Commands.{EndsIn, source_ending, portable_ending}
use Rattle.gft_model.specs.Compiled.{Compiles}
use Rattle.gft_model.specs.Import.{BreaksImport, GivesPart}
use Rattle.gft_model.specs.PortableFile.{Reads}
use Rattle.gft_model.specs.Refusals.{IsAccepted}
use Rattle.gft_model.specs.States.{Kept, of_source, of_file, Loaded, State, added, kept_grammar}

-- what a named file gives in an import
pub data Gives (files : Files) (names : List (List ℕ)) (name : List ℕ) : Loaded → Type 0 where
  source : {part : _} → EndsIn source_ending name → GivesPart files names name part → Gives files names name part
  portable : {bytes : _} (g : Grammar) → EndsIn portable_ending name → get files name ≡ Some bytes → Reads bytes g →
      Gives files names name (kept_grammar g)

-- what an accepted import gives: the one abstract part of its files, and the languages of all, of which a later one
-- stands in place of an earlier one of its name
pub record IsImported (files : Files) (names : List (List ℕ)) (new : Loaded) : Type 0 where
  pub accepted : IsAccepted (BreaksImport files names)
  pub parts : List Loaded
  pub given : AllZip (Gives files names) names parts
  pub abs : slice_get (map (λ (part : Loaded). part.abs) parts) 0 ≡ Some new.abs
  pub languages : new.languages ≡ added [] (flat_map (λ (part : Loaded). part.languages) parts)

-- what is held after an import: equal abstract parts keep the languages that were held
pub data Joins : State → Loaded → Loaded → Type 0 where
  first : {new : _} → Joins None new new
  equal : {held new : Loaded} → held.abs ≡ new.abs →
      Joins (Some held) new (record { abs = new.abs; languages = added held.languages new.languages })
  other : {held new : Loaded} → held.abs ≢ new.abs → Joins (Some held) new new

-- the compiled form of a language, of the same name
pub data IsCompiled (a : Abstract) : List ℕ × Kept → Concrete → Type 0 where
  source : {name flat c : _} → Compiles a flat name c → IsCompiled a (name, of_source flat) c
  file : {name : _} {c : Concrete} → c.name ≡ name → IsCompiled a (name, of_file c) c

-- a session's compiled grammar, or none, stands for a state
pub data StandsFor : Option Grammar → State → Type 0 where
  empty : StandsFor None None
  loaded : {g : Grammar} {held : Loaded} → g.abs ≡ held.abs → AllZip (IsCompiled held.abs) held.languages g.concretes →
      StandsFor (Some g) (Some held)
