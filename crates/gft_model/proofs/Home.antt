-- A part of the grammar Home: tags of kinds.
use Rattle.std.specs.Prelude.{[], ◌∷◌, codes}
use Rattle.gft_core.specs.declared.tree.Tree.{Hole}
use Rattle.gft_pmcfg.specs.declared.signature.AType.{AType}
use Rattle.gft_pmcfg.specs.declared.signature.Fun.{Fun}
use Rattle.gft_pmcfg.specs.declared.signature.Abstract.{Abstract}

abbrev pub cmd : AType
cmd = record { cat = 2; args = [] }

abbrev pub kind : AType
kind = record { cat = 3; args = [] }

-- `Tag k`, of the first argument
abbrev pub tag : AType
tag = record { cat = 4; args = Hole 1 ∷ [] }

-- `Same : (k : Kind) -> Tag k -> Cmd`
abbrev pub same : Fun
same = record { name = codes "Same"; args = kind ∷ tag ∷ []; result = cmd }

-- `Wait : Kind -> Cmd`
abbrev pub wait : Fun
wait = record { name = codes "Wait"; args = kind ∷ []; result = cmd }

-- `fan : Kind`
abbrev pub fan : Fun
fan = record { name = codes "fan"; args = []; result = kind }

-- `mk : (k : Kind) -> Tag k`
abbrev pub mk : Fun
mk = record { name = codes "mk"; args = kind ∷ []; result = tag }

abbrev pub home : Abstract
home = record {
  name = codes "Home";
  start = 2;
  cats = record { name = codes "Int"; context = [] } ∷ record {
    name = codes "String";
    context =
        [];
  } ∷ record { name = codes "Cmd"; context = [] } ∷ record {
    name = codes "Kind";
    context =
        [];
  } ∷ record { name = codes "Tag"; context = kind ∷ [] } ∷ [];
  funs = same ∷ wait ∷ fan ∷ mk ∷ [];
}
