-- The files of an import: which are loaded, in which order, and why loading is refused.
use Rattle.std.specs.Prelude.{◌≡◌, ◌⊎◌, ℕ, ◌-◌, ◌<◌, ◌≤◌, List, [], ◌∷◌, ◌++◌, take, drop, length, ◌==◌, codes, decimal, Contains, Some, None, ◌≢◌, if◌then◌else◌}
use Rattle.std.specs.FinMap.{get}
use Rattle.std.specs.List.{list_any}
use Rattle.gft_io.specs.Outside.{Files}
use Rattle.gft_rules.specs.declared.refusal.Refusal.{Refusal}
use Rattle.gft_rules.specs.declared.rule.Rule.TheVariants as R
use Rattle.gft_syntax.specs.declared.module.Module.{Module}
use Rattle.gft_syntax.specs.declared.reference.PlacedName.{PlacedName}
use Rattle.gft_syntax.specs.declared.token.SourceToken.{SourceToken}
use Rattle.gft_model.specs.Commands.{EndsIn, source_ending, portable_ending}
use Rattle.gft_model.specs.Flaws.{Flaw, arity, index_type, unproductive}
use Rattle.gft_model.specs.PortableFile
use Rattle.gft_model.specs.PortableFile.{HasFault, IsInvalid}
use Rattle.gft_model.specs.ModuleGrammar.{SpellsModule}
use Rattle.gft_model.specs.Modules.{header_name, mentions, module_named}
use Rattle.gft_model.specs.Refusals.{ByPlace, IsFirst, IsAccepted, placeless, at_name}
use Rattle.gft_model.specs.Source.{Tokens}
use Rattle.gft_model.specs.SyntaxFaults.{BreaksSyntax}
use Rattle.gft_model.specs.TokenFaults.{BreaksTokens}

-- limits: bytes of a source and of a portable file
abbrev pub most_bytes : ℕ
most_bytes = 4194304

abbrev pub most_portable_bytes : ℕ
most_portable_bytes = 67108864

-- the folder of a file name is its part up to and with the last slash
abbrev pub folder_of : List ℕ → List ℕ
folder_of [] = []
folder_of (c ∷ cs) = if list_any (λ d. d == 47) (c ∷ cs) then c ∷ folder_of cs else []

-- the base name is the rest without its ending .gf; and the file of a module in a folder
abbrev pub base_of : List ℕ → List ℕ
base_of file = let rest = drop (length (folder_of file)) file in take (length rest - 3) rest

abbrev pub file_in : List ℕ → List ℕ → List ℕ
file_in folder M = folder ++ M ++ codes ".gf"

-- the files that are loaded, in the order of their numbers, and the modules whose loading is complete, in
-- that order
pub record Loading : Type 0 where
  pub files : List (List ℕ)
  pub modules : List Module

-- before the first file
abbrev pub nothing_loaded : Loading
nothing_loaded = record { files = []; modules = [] }

-- one more file that was read, with a number of its own
abbrev pub with_file : Loading → List ℕ → Loading
with_file s file = record s { files = s.files ++ file ∷ [] }

-- loading goes on, or is refused when these are loaded
pub data LoadingEnd : Type 0 where
  loaded : Loading → LoadingEnd
  refused : Refusal → Loading → LoadingEnd

-- the module is loaded
abbrev pub IsLoaded : Loading → List ℕ → Type 0
IsLoaded s M = (m : Module) × (module_named s.modules M ≡ Some m)

-- the bytes of the file of that number are the module, where nothing is broken in its slices
abbrev pub IsSource : ℕ → List ℕ → Module → Type 0
IsSource n bytes m = (ts : List SourceToken) × Tokens n bytes ts × IsAccepted (BreaksSyntax n ts) × SpellsModule ts m

-- why they are no module of that name
pub data BreaksSource (n : ℕ) (M bytes : List ℕ) : Refusal → Type 0 where
  bad_characters : {r : _} → IsFirst (ByPlace (BreaksTokens n bytes)) r → BreaksSource n M bytes r
  bad_slices : {ts r : _} → Tokens n bytes ts → IsFirst (BreaksSyntax n ts) r → BreaksSource n M bytes r
  misnamed : {m : Module} → IsSource n bytes m → (header_name m.header).name ≢ M →
      BreaksSource n M bytes (at_name R.NameMismatch (header_name m.header) [])

-- what a flaw is called
abbrev pub flaw_text : Flaw → List ℕ
flaw_text arity = codes "Arity"
flaw_text index_type = codes "IndexType"
flaw_text unproductive = codes "Unproductive"

-- why the bytes of a portable file are no grammar
pub data BreaksPortable (file bytes : List ℕ) : Refusal → Type 0 where
  at_field : {rule offset : _} → HasFault bytes rule offset →
      BreaksPortable file bytes (placeless rule (file ∷ decimal offset ∷ []))
  is_invalid : {flaw offset : _} → IsInvalid bytes flaw offset →
      BreaksPortable file bytes (placeless R.Invalid (file ∷ decimal offset ∷ flaw_text flaw ∷ []))

module _ (files : Files) where
  -- the file's bytes, at most so many
  abbrev pub HasBytes : ℕ → List ℕ → List ℕ → Type 0
  HasBytes most file bytes = (get files file ≡ Some bytes) × (length bytes ≤ most)

  -- why a file of at most so many bytes is not read
  pub data IsUnread (most : ℕ) (file : List ℕ) : Refusal → Type 0 where
    missing : get files file ≡ None → IsUnread most file (placeless R.MissingFile (file ∷ []))
    too_long : {bytes : _} → get files file ≡ Some bytes → most < length bytes →
        IsUnread most file (placeless R.FileTooLong (file ∷ []))

  -- the file is read, and that is broken in its bytes
  pub data IsBroken (most : ℕ) (Broken : List ℕ → Refusal → Type 0) (file : List ℕ) (r : Refusal) : Type 0 where
    broken : {bytes : _} → HasBytes most file bytes → Broken bytes r → IsBroken most Broken file r

  mutual
    -- a module that is wanted: it is loaded already, there is no room for it, or it is loaded now
    pub data Gets (folder : List ℕ) : List (List ℕ) → Loading → List ℕ → LoadingEnd → Type 0 where
      loaded_before : {waiting s M : _} → IsLoaded s M → Gets folder waiting s M (loaded s)
      too_many : {waiting M : _} {s : Loading} → ¬ (IsLoaded s M) → 256 ≤ length s.files →
          Gets folder waiting s M (refused (placeless R.TooManyModules []) s)
      loaded_now : {waiting M o : _} {s : Loading} → ¬ (IsLoaded s M) → length s.files < 256 → Loads folder waiting s M o →
          Gets folder waiting s M o

    -- a module is loaded from a folder, where others wait for it
    pub data Loads (folder : List ℕ) : List (List ℕ) → Loading → List ℕ → LoadingEnd → Type 0 where
      unread : {waiting s M r : _} → IsUnread most_bytes (file_in folder M) r → Loads folder waiting s M (refused r s)
      is_broken : {waiting M r : _} {s : Loading} → IsBroken most_bytes (BreaksSource (length s.files) M) (file_in folder M) r →
          Loads folder waiting s M (refused r (with_file s (file_in folder M)))
      needs_refused : {waiting bytes M r t : _} {s : Loading} {m : Module} → HasBytes most_bytes (file_in folder M) bytes →
          IsSource (length s.files) bytes m → (header_name m.header).name ≡ M →
          LoadsAll folder (M ∷ waiting) (with_file s (file_in folder M)) (mentions m) (refused r t) →
          Loads folder waiting s M (refused r t)
      complete : {waiting bytes M : _} {s t : Loading} {m : Module} → HasBytes most_bytes (file_in folder M) bytes →
          IsSource (length s.files) bytes m → (header_name m.header).name ≡ M →
          LoadsAll folder (M ∷ waiting) (with_file s (file_in folder M)) (mentions m) (loaded t) →
          Loads folder waiting s M (loaded (record t { modules = t.modules ++ m ∷ [] }))

    -- the modules that a header names, in their order
    pub data LoadsAll (folder : List ℕ) : List (List ℕ) → Loading → List PlacedName → LoadingEnd → Type 0 where
      no_more : {waiting s : _} → LoadsAll folder waiting s [] (loaded s)
      waits_for_it : {waiting s ns : _} {n : PlacedName} → Contains waiting n.name →
          LoadsAll folder waiting s (n ∷ ns) (refused (at_name R.ModuleCycle n []) s)
      next_refused : {waiting s t ns r : _} {n : PlacedName} → ¬ (Contains waiting n.name) →
          Gets folder waiting s n.name (refused r t) → LoadsAll folder waiting s (n ∷ ns) (refused r t)
      next_loaded : {waiting s t ns o : _} {n : PlacedName} → ¬ (Contains waiting n.name) →
          Gets folder waiting s n.name (loaded t) → LoadsAll folder waiting t ns o → LoadsAll folder waiting s (n ∷ ns) o

  -- the named files, in order: the module of each source, and each portable file
  pub data LoadsNamed : Loading → List (List ℕ) → LoadingEnd → Type 0 where
    none_named : {s : _} → LoadsNamed s [] (loaded s)
    source_refused : {s t file rest r : _} → EndsIn source_ending file →
        Gets (folder_of file) [] s (base_of file) (refused r t) → LoadsNamed s (file ∷ rest) (refused r t)
    source_loaded : {s t file rest o : _} → EndsIn source_ending file → Gets (folder_of file) [] s (base_of file) (loaded t) →
        LoadsNamed t rest o → LoadsNamed s (file ∷ rest) o
    portable_refused : {s file rest r : _} → EndsIn portable_ending file →
        IsUnread most_portable_bytes file r ⊎ IsBroken most_portable_bytes (BreaksPortable file) file r →
        LoadsNamed s (file ∷ rest) (refused r s)
    portable_read : {s file bytes g rest o : _} → EndsIn portable_ending file → HasBytes most_portable_bytes file bytes →
        PortableFile.Reads bytes g → LoadsNamed s rest o → LoadsNamed s (file ∷ rest) o

  -- the names of the loaded files by their numbers, as a refusal's place counts them
  pub data HasFiles (names : List (List ℕ)) : List (List ℕ) → Type 0 where
    after_all : {s : Loading} → LoadsNamed nothing_loaded names (loaded s) → HasFiles names s.files
    after_refusal : {s : Loading} {r : _} → LoadsNamed nothing_loaded names (refused r s) → HasFiles names s.files
