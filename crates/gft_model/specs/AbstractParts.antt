-- The abstract syntax of a resolved grammar.
use Rattle.std.specs.Prelude.{◌≡◌, ◌↔◌, List, [], ◌∷◌, codes, Contains, AllPairs, Some, option_and_then}
use Rattle.std.specs.List.{AllZip}
use Rattle.gft_pmcfg.specs.declared.signature.AType.{AType}
use Rattle.gft_pmcfg.specs.declared.signature.Abstract.{Abstract}
use Rattle.gft_pmcfg.specs.declared.signature.Cat.{Cat}
use Rattle.gft_pmcfg.specs.declared.signature.Fun.{Fun}
use Rattle.gft_syntax.specs.declared.flat.Flat.{Flat}
use Rattle.gft_syntax.specs.declared.flat.FlatJudgement.{FlatJudgement}
use Rattle.gft_model.specs.AbstractFaults.{Indexed, HasContext, HasSignature}
use Rattle.gft_model.specs.Refusals.{Before, name_moment}
use Rattle.gft_model.specs.States.{category_number}

-- the type with its category's number
pub record IsNumbered (a : Abstract) (A : Indexed) (t : AType) : Type 0 where
  pub category : category_number a A.category ≡ Some t.cat
  pub indices : t.args ≡ A.indices

-- the entries in strictly ascending byte order of their names
pub record IsSorted (es sorted : List FlatJudgement) : Type 0 where
  pub same : (e : FlatJudgement) → Contains sorted e ↔ Contains es e
  pub in_order : AllPairs (λ e f. Before (name_moment e.whole.name) (name_moment f.whole.name)) sorted

module _ (flat : Flat) (a : Abstract) where
  -- the category with the types of its indices
  pub record IsCategory (e : FlatJudgement) (c : Cat) : Type 0 where
    pub name : e.whole.name ≡ c.name
    pub context : List Indexed
    pub has_context : HasContext flat.cats flat.funs e.whole context
    pub numbered : AllZip (IsNumbered a) context c.context

  -- the function with the types of its arguments and of its result
  pub record IsFunction (e : FlatJudgement) (f : Fun) : Type 0 where
    pub name : e.whole.name ≡ f.name
    pub arguments : List Indexed
    pub result : Indexed
    pub has_signature : HasSignature flat.cats flat.funs e.whole arguments result
    pub numbered : AllZip (IsNumbered a) arguments f.args
    pub result_numbered : IsNumbered a result f.result

  -- the abstract syntax of the grammar: its categories and functions by name, with their types
  pub record IsAbstractPart : Type 0 where
    pub is_named : flat.name ≡ Some a.name
    pub sorted_cats : List FlatJudgement
    pub sorted_funs : List FlatJudgement
    pub cats_by_name : IsSorted flat.cats sorted_cats
    pub funs_by_name : IsSorted flat.funs sorted_funs
    pub listed : List Cat
    pub built_in : a.cats ≡ record { name = codes "Int"; context = [] } ∷ record { name = codes "String"; context = [] } ∷ listed
    pub categories : AllZip IsCategory sorted_cats listed
    pub functions : AllZip IsFunction sorted_funs a.funs
    pub starts : option_and_then (category_number a) flat.start ≡ Some a.start
