-- Skeleton typing: abstract typing with all indices dropped.
use Rattle.std.specs.Prelude.{◌≡◌, ◌<◌, ◌^◌, ℕ, List, [], ◌∷◌, map, Contains}
use Rattle.gft_core.specs.Words.{IsWord}
use Rattle.gft_core.specs.declared.tree.Tree.{Tree}
use Rattle.gft_pmcfg.specs.declared.signature.AType.{AType}
use Rattle.gft_pmcfg.specs.declared.signature.Fun.{Fun}
use Rattle.gft_pmcfg.specs.declared.signature.Abstract.{Abstract}
use Rattle.gft_model.specs.Trees.{IsApplication, IsInteger, IsString, IsHole}

-- the categories of holes, by their numbers
abbrev pub HoleCategories : Type 0
HoleCategories = List (ℕ × ℕ)

-- the categories of a function's arguments
abbrev pub categories_of : Fun → List ℕ
categories_of f = map (λ (t : AType). t.cat) f.args

mutual
  -- the tree has the category, its holes having the categories K
  pub data HasSkeletonType (a : Abstract) (K : HoleCategories) : Tree → ℕ → Type 0 where
    hole : {t k c : _} → IsHole t k → k < 2 ^ 32 → Contains K (k, c) → HasSkeletonType a K t c
    integer : {t n : _} → IsInteger t n → n < 2 ^ 128 → HasSkeletonType a K t 0
    text : {t w : _} → IsString t w → IsWord w → HasSkeletonType a K t 1
    application : {t : _} {f : Fun} {ts : _} → Contains a.funs f → IsApplication t f.name ts →
        HaveSkeletonTypes a K ts (categories_of f) → HasSkeletonType a K t f.result.cat

  -- so do the trees, one category each
  pub data HaveSkeletonTypes (a : Abstract) (K : HoleCategories) : List Tree → List ℕ → Type 0 where
    none : HaveSkeletonTypes a K [] []
    more : {t ts c cs : _} → HasSkeletonType a K t c → HaveSkeletonTypes a K ts cs → HaveSkeletonTypes a K (t ∷ ts) (c ∷ cs)

-- each hole has one category
abbrev pub AreSingle : HoleCategories → Type 0
AreSingle K = (k c d : ℕ) → Contains K (k, c) → Contains K (k, d) → c ≡ d

-- the tree has the category under some categories of its holes
abbrev pub IsSkeleton : Abstract → Tree → ℕ → Type 0
IsSkeleton a t c = (K : HoleCategories) × AreSingle K × HasSkeletonType a K t c

-- a closed tree of the category
abbrev pub IsSkeletonTree : Abstract → Tree → ℕ → Type 0
IsSkeletonTree a t c = HasSkeletonType a [] t c
