-- What a derivation of a type says.
use Rattle.std.specs.Prelude.{◌≡◌, ℕ, List, [], ◌∷◌, ◌++◌, Contains}
use Rattle.std.proofs.Common.{ap, subst}
use Rattle.gft_core.specs.declared.tree.Tree.{Tree}
use Rattle.gft_pmcfg.specs.declared.signature.AType.{AType}
use Rattle.gft_pmcfg.specs.declared.signature.Fun.{Fun}
use Rattle.gft_pmcfg.specs.declared.signature.Abstract.{Abstract}
use Rattle.gft_model.specs.Trees.{IsApplication}
use Rattle.gft_model.specs.Typing.{HoleTypes, HasType, HaveTypes, hole, integer, text, application, more, type_at}

-- what types an application
pub record Applies (a : Abstract) (T : HoleTypes) (g : List ℕ) (us : List Tree) (type : AType) : Type 0 where
  pub function : Fun
  pub listed : Contains a.funs function
  pub name : function.name ≡ g
  pub arguments : HaveTypes a T [] function.args us
  pub result : type ≡ type_at us function.result

pub applies : {a : Abstract} {T : HoleTypes} {t : Tree} {type : AType} (g : List ℕ) (us : List Tree)
    → IsApplication t g us → HasType a T t type → Applies a T g us type
applies g us e (hole h b m) = cc
applies g us e (integer h b) = cc
applies g us e (text h b) = cc
applies {a} {T} g us e (application {f} {ts} m h d) =
    let name : f.name ≡ g = cc in
    let args : ts ≡ us = cc in
    record {
      function = f;
      listed = m;
      name = name;
      arguments =
          subst (HaveTypes a T [] f.args) args d;
      result = ap (λ (xs : List Tree). type_at xs f.result) args;
    }

-- the first of the types
pub first_type : {a : Abstract} {T : HoleTypes} {before : List Tree} {type : AType} {types : List AType} {t : Tree} {ts : List Tree} → HaveTypes a T before (type ∷ types) (t ∷ ts) → HasType a T t (type_at before type)
first_type (more d ds) = d

-- the others
pub other_types : {a : Abstract} {T : HoleTypes} {before : List Tree} {type : AType} {types : List AType} {t : Tree} {ts : List Tree} → HaveTypes a T before (type ∷ types) (t ∷ ts) → HaveTypes a T (before ++ t ∷ []) types ts
other_types (more d ds) = ds
