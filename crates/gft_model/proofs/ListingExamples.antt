-- Worked example of listing: in Gend the words `x` list `f ?1`.
use Rattle.std.specs.Prelude.{◌≡◌, ℕ, List, [], ◌∷◌, codes}
use Rattle.std.proofs.Common.{refl, ap, ◌∙◌, arith, rules}
use Rattle.gft_core.specs.declared.symbol.Sym.TheVariants.{Tok}
use Rattle.gft_core.specs.declared.tree.Tree.{Tree, App, Hole}
use Rattle.gft_core.specs.declared.tree.Tree.TheOpen as layer
use Rattle.gft_core.specs.declared.tree.Tree.TheVariants.{outs-App, outs-Hole}
use Rattle.gft_model.proofs.Layers.{by_layers-App}
use Rattle.gft_model.specs.Trees.{IsHole, depth_of}
use Rattle.gft_model.specs.Typing as typing
use Rattle.gft_model.specs.Typing.{HasType, HoleTypes, IsAdmitted, empty, later}
use Rattle.gft_model.specs.Brackets.{Piece}
use Rattle.gft_model.specs.Runs.{Strings, listed, applied, filled}
use Rattle.gft_model.specs.RunStrings as strings
use Rattle.gft_model.specs.RunStrings.{IsBracketedString}
use Rattle.gft_model.specs.Cut.{Cutting, cut_of, cut_step}
use Rattle.gft_model.specs.Solutions.{IsSolution}
use Rattle.gft_model.specs.Listing.{Language, IsListed}
use Rattle.gft_model.proofs.Grammars.{gend, gend_eng, whole}
use Rattle.gft_model.proofs.TreeLemmas.{filled-App, filled-Hole, holes_of-App, holes_of-Hole}

-- the language of S
abbrev language : Language
language t b = IsBracketedString gend gend_eng 3 t b

abbrev f_of : Tree → Tree
f_of x = App (codes "f") (x ∷ [])

abbrev f_m : Tree
f_m = f_of (App (codes "m") [])

-- `m` gives the word `m`, which `f` does not use
abbrev m_gives : Strings
m_gives = applied (1 ∷ []) [] ((Tok (codes "m") ∷ []) ∷ [])

abbrev f_gives : Strings
f_gives = applied [] (m_gives ∷ []) ((Tok (codes "x") ∷ []) ∷ [])

abbrev x : List Piece
x = filled (f_gives ∷ []) whole

f_m_is_no_hole : (k : ℕ) → ¬ IsHole f_m k
f_m_is_no_hole k e = let layers = outs-App (codes "f") (App (codes "m") [] ∷ []) in cc

x_is_string : language f_m x
x_is_string = record {
  nonterminal = 4;
  components = f_gives;
  value = strings.HasValue.application (outs-App _ _) (0, omega arith, refl) refl
      (strings.more (strings.HasValue.application (outs-App _ _)
      (2, omega arith, refl) refl strings.none) strings.none);
  category = λ k e. absurd (f_m_is_no_hole k e);
  seq = whole;
  ref = listed (2, omega arith, refl);
  string = refl;
}

f_m_typed : HasType gend [] f_m (record { cat = 3; args = [] })
f_m_typed = typing.HasType.application (0, omega arith, refl) (outs-App _ _)
    (typing.more (typing.HasType.application (1, omega arith, refl) (outs-App _ _) typing.none) typing.none)

cut : cut_of f_m x ≡ f_of (Hole 1)
cut = ap (λ (g : Cutting). (g [] 1).0) (by_layers-App (cut_step x) (codes "f") _
    ∙ ap (λ (g : Cutting). cut_step x (layer.App (codes "f") (g ∷ []))) (by_layers-App (cut_step x)
    (codes "m") []))

-- one hole of K
abbrev ks : HoleTypes
ks = (1, record { cat = 2; args = [] }) ∷ []

admitted : IsAdmitted gend ks
admitted = (
  ks,
  record { moves = []; below = search rules; is = refl },
  later empty (λ h. absurd (omega (arith, h.1))) (record {
    category = record {
      name = codes "K";
      context =
          [];
    };
    numbered = refl;
    indices = typing.none;
  }),
)

hole_typed : HasType gend ks (f_of (Hole 1)) (record { cat = 3; args = [] })
hole_typed =
    typing.HasType.application (0, omega arith, refl) (outs-App _ _) (typing.more (typing.hole
    (outs-Hole 1) (omega arith) (0, omega arith, refl)) typing.none)

solved : IsSolution gend (f_of (Hole 1)) (f_of (Hole 1))
solved = record {
  instance = (Hole, simp (filled-App, filled-Hole));
  typed = (ks, admitted, record { cat = 3; args = [] }, hole_typed);
  general = λ t i h. i;
  numbered = simp (holes_of-App, holes_of-Hole);
}

depth : depth_of f_m ≡ 2
depth = simp by_layers-App

f_hole_is_listed : IsListed gend language 3 (codes "x" ∷ []) 12 (f_of (Hole 1))
f_hole_is_listed = record {
  tree = f_m;
  indices = [];
  typed = f_m_typed;
  within = rw depth (omega arith);
  string = x;
  of_tree = x_is_string;
  words_are = refl;
  solved = rw cut solved;
}
