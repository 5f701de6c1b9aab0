-- Trees, layer by layer.
use Rattle.std.specs.Prelude.{◌≡◌, ℕ, List, [], ◌∷◌, map, Option, Some, None}
use Rattle.std.specs.Option.{option_map}
use Rattle.std.proofs.Common.{refl, sym, ap, ◌∙◌}
use Rattle.gft_core.specs.declared.tree.Tree.{Tree, App, Int, Str, Hole, out-Tree}
use Rattle.gft_core.specs.declared.tree.Tree.TheOpen.{Tree-F}
use Rattle.gft_core.specs.declared.tree.Tree.TheOpen as layer
use Rattle.gft_core.specs.declared.tree.Tree.TheVariants.{rolls-App, rolls-Int, rolls-Str, outs-App, outs-Hole}
use Rattle.gft_model.proofs.Layers.{by_layers-App, by_layers-Int, by_layers-Str, by_layers-Hole}
use Rattle.gft_model.specs.Trees.{filled, filled_step, holes_of, holes_step, all_of}

-- replacing, by the tree's form
pub filled-App : (θ : ℕ → Tree) (f : List ℕ) (ts : List Tree)
    → filled θ (App f ts) ≡ App f (map (filled θ) ts)
filled-App θ f ts = by_layers-App (filled_step θ) f ts ∙ rolls-App f _

pub filled-Int : (θ : ℕ → Tree) (n : ℕ) → filled θ (Int n) ≡ Int n
filled-Int θ n = by_layers-Int (filled_step θ) n ∙ rolls-Int n

pub filled-Str : (θ : ℕ → Tree) (w : List ℕ) → filled θ (Str w) ≡ Str w
filled-Str θ w = by_layers-Str (filled_step θ) w ∙ rolls-Str w

pub filled-Hole : (θ : ℕ → Tree) (k : ℕ) → filled θ (Hole k) ≡ θ k
filled-Hole θ k = by_layers-Hole (filled_step θ) k

-- the holes of a tree, by its form
pub holes_of-App : (f : List ℕ) (ts : List Tree) → holes_of (App f ts) ≡ all_of (map holes_of ts)
holes_of-App f ts = by_layers-App holes_step f ts

pub holes_of-Int : (n : ℕ) → holes_of (Int n) ≡ []
holes_of-Int n = by_layers-Int holes_step n

pub holes_of-Str : (w : List ℕ) → holes_of (Str w) ≡ []
holes_of-Str w = by_layers-Str holes_step w

pub holes_of-Hole : (k : ℕ) → holes_of (Hole k) ≡ k ∷ []
holes_of-Hole k = by_layers-Hole holes_step k

-- equal applications have equal heads and equal arguments
pub same_parts : (f g : List ℕ) (ts us : List Tree) → App f ts ≡ App g us → (f ≡ g) × (ts ≡ us)
same_parts f g ts us e =
    let layers : ◌≡◌ {A = Tree-F Tree} (layer.App f ts) (layer.App g us) = sym (outs-App f ts)
    ∙ ap out-Tree e ∙ outs-App g us in
    (cc, cc)

-- equal holes have equal numbers
pub same_number : (j k : ℕ) → Hole j ≡ Hole k → j ≡ k
same_number j k e =
    let layers : ◌≡◌ {A = Tree-F Tree} (layer.Hole j) (layer.Hole k) = sym (outs-Hole j) ∙ ap out-Tree e
    ∙ outs-Hole k in cc

-- an application is no hole
pub no_hole : (f : List ℕ) (ts : List Tree) (k : ℕ) → App f ts ≡ Hole k → ⊥
no_hole f ts k e =
    let layers : ◌≡◌ {A = Tree-F Tree} (layer.App f ts) (layer.Hole k) = sym (outs-App f ts)
    ∙ ap out-Tree e ∙ outs-Hole k in cc

-- what has a layer is there
pub standing : (o : Option Tree) (l : Tree-F Tree) → option_map out-Tree o ≡ Some l
    → (s : Tree) × (o ≡ Some s) × (out-Tree s ≡ l)
standing None l e = cc
standing (Some s) l e = (s, refl, cc)
