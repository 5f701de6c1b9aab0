-- Abstract typing: dependent types of first order, without definitions.
use Rattle.std.specs.Prelude.{◌≡◌, ◌<◌, ◌^◌, ℕ, zero, suc, List, [], ◌∷◌, ◌++◌, map, slice_get, slice_index_or, Some, Contains, All, ⊤}
use Rattle.std.specs.List.Sorted.{IsPermutation}
use Rattle.gft_core.specs.Words.{IsWord}
use Rattle.gft_core.specs.declared.tree.Tree.{Tree, Hole}
use Rattle.gft_pmcfg.specs.declared.signature.AType.{AType}
use Rattle.gft_pmcfg.specs.declared.signature.Cat.{Cat}
use Rattle.gft_pmcfg.specs.declared.signature.Fun.{Fun}
use Rattle.gft_pmcfg.specs.declared.signature.Abstract.{Abstract}
use Rattle.gft_model.specs.Trees.{IsApplication, IsInteger, IsString, IsHole, filled}

-- a variable of a type stands for the argument of its number, from 1
abbrev pub value_of : List Tree → ℕ → Tree
value_of ts zero = Hole zero
value_of ts (suc k) = slice_index_or ts k (Hole (suc k))

-- the type with each variable replaced by its argument
abbrev pub type_at : List Tree → AType → AType
type_at ts a = record { cat = a.cat; args = map (filled (value_of ts)) a.args }

-- the types of literals
abbrev pub int_type : AType
int_type = record { cat = 0; args = [] }

abbrev pub string_type : AType
string_type = record { cat = 1; args = [] }

-- the types of holes, by their numbers
abbrev pub HoleTypes : Type 0
HoleTypes = List (ℕ × AType)

mutual
  -- the tree has the type, its holes having the types T
  pub data HasType (a : Abstract) (T : HoleTypes) : Tree → AType → Type 0 where
    hole : {t k type : _} → IsHole t k → k < 2 ^ 32 → Contains T (k, type) → HasType a T t type
    integer : {t n : _} → IsInteger t n → n < 2 ^ 128 → HasType a T t int_type
    text : {t w : _} → IsString t w → IsWord w → HasType a T t string_type
    application : {t : _} {f : Fun} {ts : _} → Contains a.funs f → IsApplication t f.name ts → HaveTypes a T [] f.args ts →
        HasType a T t (type_at ts f.result)

  -- the trees have the types, of which each is over the trees before it; other trees may stand before all
  pub data HaveTypes (a : Abstract) (T : HoleTypes) : List Tree → List AType → List Tree → Type 0 where
    none : {before : _} → HaveTypes a T before [] []
    more : {before type types t ts : _} → HasType a T t (type_at before type) → HaveTypes a T (before ++ t ∷ []) types ts →
        HaveTypes a T before (type ∷ types) (t ∷ ts)

-- the type is well formed: a category with an index for each type of its context
pub record IsType (a : Abstract) (T : HoleTypes) (type : AType) : Type 0 where
  pub category : Cat
  pub numbered : slice_get a.cats type.cat ≡ Some category
  pub indices : HaveTypes a T [] category.context type.args

-- the holes stand in a list, the last one first, so that each type is well formed over the earlier ones
pub data AreInOrder (a : Abstract) : HoleTypes → Type 0 where
  empty : AreInOrder a []
  later : {T k type : _} → AreInOrder a T → ¬ Contains (map (λ (h : ℕ × AType). h.0) T) k → IsType a T type →
      AreInOrder a ((k, type) ∷ T)

-- the types of holes are admitted where their holes can be put in such an order
abbrev pub IsAdmitted : Abstract → HoleTypes → Type 0
IsAdmitted a T = (ordered : HoleTypes) × IsPermutation ordered T × AreInOrder a ordered

-- the tree has some type under some admitted types of its holes
abbrev pub IsTyped : Abstract → Tree → Type 0
IsTyped a t = (T : HoleTypes) × IsAdmitted a T × (type : AType) × HasType a T t type

-- the types of holes, numbered on from a number
abbrev pub numbered_from : ℕ → List AType → HoleTypes
numbered_from k [] = []
numbered_from k (type ∷ types) = (k, type) ∷ numbered_from (suc k) types

-- types of arguments are well formed, each over those before it, which its variables name; others may stand before
-- all
abbrev pub AreTypes : Abstract → List AType → List AType → Type 0
AreTypes a before [] = ⊤
AreTypes a before (type ∷ types) = IsType a (numbered_from 1 before) type × AreTypes a (before ++ type ∷ []) types

-- the types of a category's indices are
abbrev pub IsCategoryTyped : Abstract → Cat → Type 0
IsCategoryTyped a c = AreTypes a [] c.context

-- those of a function's arguments and of its result
abbrev pub signature_of : Fun → List AType
signature_of f = f.args ++ f.result ∷ []

abbrev pub IsFunctionTyped : Abstract → Fun → Type 0
IsFunctionTyped a f = AreTypes a [] (signature_of f)

-- all types of an abstract syntax are well formed
abbrev pub HasTypes : Abstract → Type 0
HasTypes a = All (IsCategoryTyped a) a.cats × All (IsFunctionTyped a) a.funs
