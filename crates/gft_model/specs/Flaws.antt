-- Flaws: what is wrong with a type whose names and variables there are, or with a production.
use Rattle.std.specs.Prelude.{◌≡◌, ◌≢◌, List, [], ◌∷◌, ◌++◌, slice_get, Some, Contains}
use Rattle.gft_core.specs.declared.tree.Tree.{Tree}
use Rattle.gft_pmcfg.specs.declared.signature.AType.{AType}
use Rattle.gft_pmcfg.specs.declared.signature.Cat.{Cat}
use Rattle.gft_pmcfg.specs.declared.signature.Fun.{Fun}
use Rattle.gft_pmcfg.specs.declared.signature.Abstract.{Abstract}
use Rattle.gft_model.specs.Trees.{IsApplication}
use Rattle.gft_model.specs.Typing.{HoleTypes, HasType, IsType, type_at, numbered_from}

-- a wrong number of indices or arguments, an index of another type, a production at the root of no run of a tree
pub data Flaw : Type 0 where
  arity index_type unproductive : Flaw

mutual
  -- the first flaw in a tree, its parts looked at first and from left to right
  pub data HasFlaw (a : Abstract) (T : HoleTypes) : Tree → Flaw → Type 0 where
    application : {t : _} {f : Fun} {ts flaw : _} → Contains a.funs f → IsApplication t f.name ts →
        HaveFlaw a T [] f.args ts flaw → HasFlaw a T t flaw

  -- the first flaw in trees for types, of which each is over the trees before it: each tree is compared once its own
  -- parts are looked at, trees past the last type are typed by themselves, and their number is looked at last
  pub data HaveFlaw (a : Abstract) (T : HoleTypes) : List Tree → List AType → List Tree → Flaw → Type 0 where
    inside : {before types t ts flaw : _} → HasFlaw a T t flaw → HaveFlaw a T before types (t ∷ ts) flaw
    other_type : {before type found types t ts : _} → HasType a T t found → found ≢ type_at before type →
        HaveFlaw a T before (type ∷ types) (t ∷ ts) index_type
    later : {before type types t ts flaw : _} → HasType a T t (type_at before type) →
        HaveFlaw a T (before ++ t ∷ []) types ts flaw → HaveFlaw a T before (type ∷ types) (t ∷ ts) flaw
    past : {before found t ts flaw : _} → HasType a T t found → HaveFlaw a T before [] ts flaw →
        HaveFlaw a T before [] (t ∷ ts) flaw
    too_many : {before found t : _} → HasType a T t found → HaveFlaw a T before [] (t ∷ []) arity
    too_few : {before type types : _} → HaveFlaw a T before (type ∷ types) [] arity

-- the first flaw of a type: of its indices for the types of its category's context
pub record HasTypeFlaw (a : Abstract) (T : HoleTypes) (type : AType) (flaw : Flaw) : Type 0 where
  pub category : Cat
  pub numbered : slice_get a.cats type.cat ≡ Some category
  pub indices : HaveFlaw a T [] category.context type.args flaw

-- the first flaw of types of arguments, each over those before it
pub data HaveTypesFlaw (a : Abstract) : List AType → List AType → Flaw → Type 0 where
  here : {before type types flaw : _} → HasTypeFlaw a (numbered_from 1 before) type flaw →
      HaveTypesFlaw a before (type ∷ types) flaw
  later : {before type types flaw : _} → IsType a (numbered_from 1 before) type →
      HaveTypesFlaw a (before ++ type ∷ []) types flaw → HaveTypesFlaw a before (type ∷ types) flaw
