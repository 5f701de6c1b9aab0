-- Worked examples of abstract judgements as text, of the grammar Home.
use Rattle.std.proofs.Common.{◌≡◌, refl, ℕ, [], ◌∷◌}
use Rattle.std.specs.Prelude.{codes, bytes_eq}
use Rattle.std.specs.Fmt.{digits}
use Rattle.gft_core.specs.declared.tree.Tree.{App, Hole}
use Rattle.gft_pmcfg.specs.declared.signature.AType.{AType}
use Rattle.gft_pmcfg.specs.declared.signature.Abstract.{Abstract}
use Rattle.gft_pmcfg.specs.declared.signature.Fun.{Fun}
use Rattle.gft_model.specs.AbstractInfo.{judgement_lines, type_text}
use Rattle.gft_model.proofs.Layers.{by_layers-App, by_layers-Hole}

abbrev pub kind : AType
kind = record { cat = 5; args = [] }

-- a category that is indexed by the first argument
abbrev pub indexed : ℕ → AType
indexed cat = record { cat = cat; args = Hole 1 ∷ [] }

-- `Do : (k : Kind) -> Action k -> Device k -> Cmd`
abbrev pub do_fun : Fun
do_fun = record {
  name = codes "Do";
  args = kind ∷ indexed 2 ∷ indexed 4 ∷ [];
  result = record { cat = 3; args = [] };
}

-- `fan : Kind`
abbrev pub fan_fun : Fun
fan_fun = record { name = codes "fan"; args = []; result = kind }

abbrev pub home : Abstract
home = record {
  name = codes "Home";
  start = 3;
  cats = record { name = codes "Int"; context = [] } ∷ record { name = codes "String"; context = [] }
      ∷ record { name = codes "Action"; context = kind ∷ [] } ∷ record { name = codes "Cmd"; context = [] }
      ∷ record { name = codes "Device"; context = kind ∷ [] } ∷ record { name = codes "Kind"; context = [] } ∷ [];
  funs = do_fun ∷ fan_fun ∷ [];
}

-- an argument is named where a later type uses it
about_do : judgement_lines home (bytes_eq (codes "Do")) ≡ codes "fun Do : (x1 : Kind) -> Action x1 -> Device x1 -> Cmd" ∷ []
unfolding digits
about_do = simp by_layers-Hole

about_device : judgement_lines home (bytes_eq (codes "Device")) ≡ codes "cat Device (x1 : Kind)" ∷ []
unfolding digits
about_device = refl

-- indices are written as arguments of a tree are
indices : type_text home (record { cat = 2; args = App (codes "f") (Hole 2 ∷ []) ∷ Hole 1 ∷ [] }) ≡ codes "Action (f x2) x1"
unfolding digits
indices = simp (by_layers-App, by_layers-Hole)

-- those of literals are not listed
about_int : judgement_lines home (bytes_eq (codes "Int")) ≡ []
about_int = refl
