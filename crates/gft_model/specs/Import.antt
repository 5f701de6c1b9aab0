-- An import: what is broken in it, in its order, and what its files give.
use Rattle.std.specs.FinMap.{get, remove}
use Rattle.std.specs.List.{list_any}
use Rattle.std.specs.Prelude.{◌≡◌, ◌↔◌, ℕ, ◌<◌, List, [], ◌∷◌, ◌++◌, flat_map, length, bytes_eq, Contains, Some, ◌≢◌, slice_get, Bool, false, true, ◌||◌, Option}
use Rattle.gft_io.specs.Outside.{Files}
use Rattle.gft_model.specs.AbstractFaults.{IsAmong, BreaksAbstract}
use Rattle.gft_model.specs.AbstractParts.{IsAbstractPart}
use Rattle.gft_model.specs.Commands.{EndsIn, portable_ending}
use Rattle.gft_model.specs.CompileFaults.{BreaksCompiling}
use Rattle.gft_model.specs.Flats.{AreListed, HasOfPart, IsFlat, functions}
use Rattle.gft_model.specs.HeaderFaults.{BreaksHeader, Redefines}
use Rattle.gft_model.specs.InstanceFaults.{IsDeclared, BreaksInstance}
use Rattle.gft_model.specs.Items.{items_of}
use Rattle.gft_model.specs.JudgementOrder.{RestsOn, Turns, HasTyped, HasNew, IsMet, typed_again}
use Rattle.gft_model.specs.JudgementTyping.{IsTyped}
use Rattle.gft_model.specs.Loading.{base_of, Loading, loaded, refused, LoadsNamed, nothing_loaded}
use Rattle.gft_model.specs.Modules.{is_abstract, is_interface, is_incomplete, header_name, header_mentions, module_named, names_of}
use Rattle.gft_model.specs.NameFaults.{AreConstructors, BreaksNames}
use Rattle.gft_model.specs.PortableFile
use Rattle.gft_model.specs.Refusals.{Moment, placeless, place_moment, name_moment, at_name, modules_moment}
use Rattle.gft_model.specs.States.{Loaded, of_source}
use Rattle.gft_model.specs.TypeFaults.{BreaksTypes}
use Rattle.gft_pmcfg.specs.declared.grammar.Grammar.{Grammar}
use Rattle.gft_pmcfg.specs.declared.signature.Abstract.{Abstract as AbstractSyntax}
use Rattle.gft_rules.specs.Rules.{code_of}
use Rattle.gft_rules.specs.declared.refusal.Refusal.{Refusal}
use Rattle.gft_rules.specs.declared.rule.Rule.TheVariants as R
use Rattle.gft_syntax.specs.declared.flat.Flat.{Flat}
use Rattle.gft_syntax.specs.declared.flat.FlatJudgement.{FlatJudgement}
use Rattle.gft_syntax.specs.declared.linear.Typed.{Typed}
use Rattle.gft_syntax.specs.declared.module.Header.TheVariants.{Concrete}
use Rattle.gft_syntax.specs.declared.module.Module.{Module}
use Rattle.gft_syntax.specs.declared.reference.PlacedName.{PlacedName}
use Rattle.gft_syntax.specs.declared.reference.Whole.{Whole}

module _ (mods : List Module) where
  -- what judgements of a module may name: the resolved grammar of it and of its abstract module or interface
  abbrev pub IsView : Module → Flat → Type 0
  IsView m = IsFlat mods (names_of (header_mentions m.header) ++ (header_name m.header).name ∷ [])

  -- all judgements of a resolved grammar
  abbrev pub entries_of : Flat → List FlatJudgement
  entries_of flat = flat.cats ++ flat.funs ++ flat.params ++ flat.opers ++ flat_map (λ c. c.judgements) flat.concretes

  -- the judgements of a module in the order in which they are typed: copies and own ones by their turns, with
  -- what they rest on of interfaces and incomplete modules, then those that are inherited, where they are typed again
  pub data HasOrder (m : Module) (flat : Flat) : List FlatJudgement → List FlatJudgement → Type 0 where
    in_order : {new met order again : _} → AreListed new (HasNew mods (header_mentions m.header) (header_name m.header).name) →
        AreListed met (IsMet mods) →
        Turns (RestsOn (IsDeclared mods m) (entries_of flat) flat.funs) (new ++ met) [] new order →
        AreListed again (λ at. HasTyped mods (header_mentions m.header) (header_name m.header).name (0 ∷ at)) →
        HasOrder m flat order again

  -- a function that a module leaves out of what it inherits
  abbrev pub LeftOut : List FlatJudgement → Whole → Type 0
  LeftOut funs w = ¬ (IsAmong funs w)
      × ((at : Moment) × (e : FlatJudgement) × HasOfPart mods functions w.«module» at e × (e.whole ≡ w))

  -- what is broken in a module: its header, by number and then by place, names declared twice, names, by place, then
  -- types; interfaces and incomplete modules are typed in instances alone
  pub data BreaksModule (named : Bool) (m : Module) : Moment → Refusal → Type 0 where
    in_header : {rule : _} {n : PlacedName} {ms : _} → BreaksHeader mods named m rule n ms → BreaksModule named m
        (0 ∷ code_of rule ∷ place_moment n.place ++ name_moment n.name ++ modules_moment ms) (at_name rule n ms)
    twice : {at r : _} → Redefines m at r → BreaksModule named m (1 ∷ at) r
    in_names : {rule : _} {n : PlacedName} {ms : _} (is_constructor : List ℕ → Bool) → AreConstructors mods m is_constructor →
        BreaksNames mods m is_constructor rule n ms →
        BreaksModule named m (2 ∷ place_moment n.place ++ code_of rule ∷ modules_moment ms) (at_name rule n ms)
    in_abstract : {flat : Flat} {order again k : _} {e : FlatJudgement} {at r : _} → is_abstract m.header ≡ true →
        IsView m flat → HasOrder m flat order again → slice_get (order ++ again) k ≡ Some e →
        BreaksAbstract flat.cats flat.funs (LeftOut flat.funs) e.judgement at r → BreaksModule named m (3 ∷ k ∷ at) r
    in_types : {flat : Flat} {order again k : _} {e : FlatJudgement} {at r : _} →
        (is_abstract m.header || is_interface m.header || is_incomplete m.header) ≡ false →
        IsView m flat → HasOrder m flat order again → slice_get (order ++ typed_again again) k ≡ Some e →
        BreaksTypes flat (header_name m.header).name e.whole e.judgement at r → BreaksModule named m (3 ∷ k ∷ at) r
    in_instance : {flat : Flat} {order again at r : _} → IsView m flat → HasOrder m flat order again →
        BreaksInstance mods m flat order at r → BreaksModule named m (3 ∷ at) r

-- what typing gives, for each judgement of the grammar that has a type
pub record AreTypings (flat : Flat) (typings : List (Option Typed)) : Type 0 where
  pub numbers : length typings ≡ length (items_of flat)
  pub each : (k : ℕ) (t : Typed) → slice_get typings k ≡ Some (Some t) ↔ IsTyped flat k t.term t.ctype

-- the module is a named source
abbrev pub is_named : List (List ℕ) → Module → Bool
is_named names m = list_any (λ file. bytes_eq (base_of file) (header_name m.header).name) names

-- the abstract syntax that a named file gives
pub data HasPart (files : Files) (mods : List Module) (file : List ℕ) : AbstractSyntax → Type 0 where
  of_its_source : {m flat a : _} → module_named mods (base_of file) ≡ Some m → IsView mods m flat → IsAbstractPart flat a →
      HasPart files mods file a
  of_portable : {bytes : _} {g : Grammar} → EndsIn portable_ending file → get files file ≡ Some bytes →
      PortableFile.Reads bytes g → HasPart files mods file g.abs

-- the language of a named source that is a concrete module: its grammar, with what typing gives
pub data HasLanguage (mods : List Module) (file : List ℕ) : List ℕ → Flat → Type 0 where
  of_module : {m : Module} {n : PlacedName} {a flat typings : _} → module_named mods (base_of file) ≡ Some m →
      m.header ≡ Concrete n a → IsView mods m flat → AreTypings flat typings →
      HasLanguage mods file n.name (record flat { typed = typings })

-- what is broken where all files are loaded, in order: each module in turn, the number of categories, each language, and
-- abstract modules that are not one
pub data BreaksLoaded (files : Files) (names : List (List ℕ)) (mods : List Module) : Moment → Refusal → Type 0 where
  in_module : {i m at r : _} → slice_get mods i ≡ Some m → BreaksModule mods (is_named names m) m at r →
      BreaksLoaded files names mods (1 ∷ i ∷ at) r
  too_many_categories : {file m : _} {flat : Flat} → Contains names file → module_named mods (base_of file) ≡ Some m →
      IsView mods m flat → 16384 < length flat.cats → BreaksLoaded files names mods (2 ∷ []) (placeless R.TooManyCategories [])
  in_language : {i file lang flat at r : _} → slice_get names i ≡ Some file → HasLanguage mods file lang flat →
      BreaksCompiling flat lang at r → BreaksLoaded files names mods (3 ∷ i ∷ at) r
  abstracts_differ : {file rest a b : _} (i : ℕ) {other : _} → names ≡ file ∷ rest → slice_get rest i ≡ Some other →
      HasPart files mods file a → HasPart files mods other b → a ≢ b →
      BreaksLoaded files names mods (4 ∷ i ∷ []) (placeless R.AbstractsDiffer (file ∷ other ∷ []))

-- what is broken in an import of the named files: first what stops its loading
pub data BreaksImport (files : Files) (names : List (List ℕ)) : Moment → Refusal → Type 0 where
  in_loading : {s r : _} → LoadsNamed files nothing_loaded names (refused r s) → BreaksImport files names (0 ∷ []) r
  once_loaded : {s : Loading} {at r : _} → LoadsNamed files nothing_loaded names (loaded s) →
      BreaksLoaded files names s.modules at r → BreaksImport files names at r

-- an import comes to the load of a file where, without that file, this file is what is missing
abbrev pub ComesTo : Files → List (List ℕ) → List ℕ → Type 0
ComesTo files names file =
    (s : Loading) × LoadsNamed (remove files file) nothing_loaded names (refused (placeless R.MissingFile (file ∷ [])) s)

-- what a named source gives: its abstract syntax, and its language where it is a concrete module
pub data GivesPart (files : Files) (names : List (List ℕ)) (file : List ℕ) : Loaded → Type 0 where
  abstract_part : {s : Loading} {m : Module} {a : _} → LoadsNamed files nothing_loaded names (loaded s) →
      module_named s.modules (base_of file) ≡ Some m → is_abstract m.header ≡ true → HasPart files s.modules file a →
      GivesPart files names file (record { abs = a; languages = [] })
  with_language : {s : Loading} {lang flat a : _} → LoadsNamed files nothing_loaded names (loaded s) →
      HasLanguage s.modules file lang flat → HasPart files s.modules file a →
      GivesPart files names file (record { abs = a; languages = (lang, of_source flat) ∷ [] })
