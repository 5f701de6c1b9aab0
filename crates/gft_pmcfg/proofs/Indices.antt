-- Applications as indices.
use Rattle.std.proofs.Common.{◌≡◌, ◌&&◌, ℕ, true, List, map, sym, ap, ◌∙◌}
use Rattle.std.specs.List.{list_all}
use Rattle.std.proofs.lemmas.List.Folds.{list_all-map}
use Rattle.gft_core.specs.declared.tree.Tree.{Tree, App, fold-Tree, fold-roll-Tree, roll-Tree, map-Tree}
use Rattle.gft_core.specs.declared.tree.Tree.TheOpen as layer
use Rattle.gft_core.specs.declared.tree.Tree.TheVariants.{rolls-App}
use Rattle.gft_pmcfg.specs.declared.signature.Fun.{Fun}
use Rattle.gft_pmcfg.specs.Ranges.{has_function, is_index, index_step}

-- an application is an index where its function is one and its parts are
pub index-App : (fs : List Fun) (n : ℕ) (f : List ℕ) (ts : List Tree)
    → is_index fs n (App f ts) ≡ (has_function fs f && list_all (is_index fs n) ts)
index-App fs n f ts = ap (is_index fs n) (sym (rolls-App f ts)) ∙ fold-roll-Tree _ (index_step fs n) (layer.App f ts)
    ∙ ap (λ b. has_function fs f && b) (list_all-map (λ b. b) (is_index fs n) ts)
