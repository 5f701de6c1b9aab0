-- What contracts see of the objects that are in memory.
use Rattle.std.specs.Prelude.{◌≡◌, ◌≢◌, refl, ℕ, ◌<◌, Bool, List, length, map, All, slice_index_or, if◌then◌else◌}
use Rattle.std.specs.declared.vec.Vec.{Vec}
use Rattle.std.specs.declared.alloc.Global.{Global}
use Rattle.std.specs.FinMap.{from_entries, code}
use Rattle.std.specs.Coded.{Coded, code_by, coded×, coded_list, coded_ℕ}
use Rattle.gft_io.specs.Outside.{raised, Files}

-- the numbers of the calls that fail, how many calls were made, and how many failed
pub record CallState : Type 0 where
  pub failing : List ℕ
  pub made : ℕ
  pub faults : ℕ

-- before the first call
abbrev pub uncalled : List ℕ → CallState
uncalled failing = record { failing = failing; made = 0; faults = 0 }

-- after one more call, and whether it failed
abbrev pub after_call : CallState → Bool → CallState
after_call calls failed = record {
  failing = calls.failing;
  made = raised calls.made 1;
  faults = if failed then raised calls.faults 1 else calls.faults;
}

-- a source: what is left, and how many bytes were taken
pub record SourceState : Type 0 where
  pub left : List ℕ
  pub taken : ℕ
  pub calls : CallState

-- a sink: what it holds, and how many bytes it has room for in all
pub record SinkState : Type 0 where
  pub bytes : List ℕ
  pub room : ℕ
  pub calls : CallState

-- a store: its files
pub record StoreState : Type 0 where
  pub files : Files
  pub calls : CallState

-- files with the bytes of their contents
abbrev pub contents : List (List ℕ × Vec ℕ Global) → List (List ℕ × List ℕ)
contents = map (λ file. (file.0, file.1.items))

-- a store of these files
abbrev pub files_of : List (List ℕ × Vec ℕ Global) → Files
files_of files = from_entries (contents files)

-- no file has this name
abbrev pub IsUnnamed : List ℕ → List (List ℕ × Vec ℕ Global) → Type 0
IsUnnamed name files = All (λ file. file.0 ≢ name) files

-- the first file of this name stands here
pub record IsFirstNamed (name : List ℕ) (files : List (List ℕ × Vec ℕ Global)) (at : ℕ) : Type 0 where
  pub bound : at < length files
  pub named : (d : List ℕ × Vec ℕ Global) → (slice_index_or files at d).0 ≡ name
  pub before : (k : ℕ) (d : List ℕ × Vec ℕ Global) → k < at → (slice_index_or files k d).0 ≢ name

-- calls are stored as their three parts
abbrev pub calls_code : Coded CallState
calls_code =
    code_by (List ℕ × (ℕ × ℕ)) (coded× (coded_list coded_ℕ) (coded× coded_ℕ coded_ℕ)) (λ c. (c.failing, (c.made, c.faults)))
    (λ p. record { failing = p.0; made = p.1.0; faults = p.1.1 }) (λ _. refl)

-- a store is stored as its files and its calls
abbrev pub store_code : Coded StoreState
store_code =
    code_by (Files × CallState) (coded× (code (coded_list coded_ℕ) (coded_list coded_ℕ)) calls_code) (λ s. (s.files, s.calls))
    (λ p. record { files = p.0; calls = p.1 }) (λ _. refl)
