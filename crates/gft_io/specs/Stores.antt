-- What a load and a save do to the files that a store tells.
use Rattle.std.specs.Prelude.{◌≡◌, ◌≢◌, ℕ, ◌<◌, List, length, None, Some, Result, Ok, Err, ⊤}
use Rattle.std.specs.FinMap.{get, insert}
use Rattle.std.specs.declared.vec.Vec.{Vec}
use Rattle.std.specs.declared.alloc.Global.{Global}
use Rattle.gft_io.specs.declared.store.LoadErr.{LoadErr}
use Rattle.gft_io.specs.declared.store.LoadErr.TheVariants.{Missing, TooLong, Failed, NoMemory}
use Rattle.gft_io.specs.Outside.{Files}

-- a load gives the bytes of the name; each other answer but two shows in the files
abbrev pub Loads : Files → List ℕ → ℕ → Result (Vec ℕ Global) LoadErr → Type 0
Loads files name limit (Ok bytes) = get files name ≡ Some bytes.items
Loads files name limit (Err Missing) = get files name ≡ None
Loads files name limit (Err TooLong) = (content : List ℕ) × (get files name ≡ Some content) × (limit < length content)
Loads files name limit (Err Failed) = ⊤
Loads files name limit (Err NoMemory) = ⊤

-- the name has these bytes, and every other name what it had
abbrev pub Saves : List ℕ → List ℕ → Files → Files → Type 0
Saves name bytes old new = new ≡ insert old name bytes

-- every other name has what it had
abbrev pub KeepsOthers : List ℕ → Files → Files → Type 0
KeepsOthers name old new = (other : List ℕ) → other ≢ name → get new other ≡ get old other
