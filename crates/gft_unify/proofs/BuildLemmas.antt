-- Trees put together from the nodes of their instances.
use Rattle.std.proofs.Common.{◌≡◌, ℕ, ◌-◌, ◌<◌, List, [], ◌∷◌, ◌++◌, map, length, take, drop, refl, sym, ap, ap₂, ◌∙◌, append_assoc, append-nil, length-append, arith}
use Rattle.std.proofs.Math.Seq.{take-append_seam, drop-append_seam}
use Rattle.std.proofs.lemmas.List.{map-append}
use Rattle.gft_core.specs.declared.tree.Tree.{Tree}
use Rattle.gft_core.specs.declared.tree.Tree.TheVariants.{App, Int, Str, Hole, outs-App, outs-Int, outs-Str, outs-Hole}
use Rattle.gft_unify.specs.Layers.{induction}
use Rattle.gft_unify.specs.Instances.{inst, total, node_count, IsFixed}
use Rattle.gft_unify.specs.Building.{layer_arguments, arguments_of, placed, place, built_on, Completes}
use Rattle.gft_unify.proofs.Equations.{inst-App, inst-Int, inst-Str, inst-Hole, node_count-App}
use Rattle.gft_unify.proofs.WorkLemmas.{total-append, node_count-positive}
use Rattle.gft_unify.proofs.SearchLemmas.{total-insts}

-- the last node is put first
pub built_on-push : (nodes : List Tree) (node : Tree) (built : List Tree) → built_on (nodes ++ node ∷ []) built ≡ built_on nodes (place node built)
built_on-push [] node built = refl
built_on-push (n ∷ ns) node built = ap (place n) (built_on-push ns node built)

cut : (xs ys : List Tree) → length (xs ++ ys) - length ys ≡ length xs
cut xs ys = omega (arith, length-append xs ys)

module _ (s : ℕ → Tree) where
  length-insts : (xs : List Tree) → length (map (inst s) xs) ≡ length xs
  length-insts [] = refl
  length-insts (x ∷ xs) = let rest = length-insts xs in cc

  Placed : Tree → Type 0
  Placed t = IsFixed s t → (front : List Tree) → place t (map (inst s) (front ++ arguments_of t)) ≡ map (inst s) front ++ inst s t ∷ []

  placed_leaf : (t : Tree) → inst s t ≡ t → (front : List Tree) → map (inst s) (front ++ []) ++ t ∷ [] ≡ map (inst s) front ++ inst s t ∷ []
  placed_leaf t e front = ap₂ (λ xs u. map (inst s) xs ++ u ∷ []) (append-nil front) (sym e)

  placed_application : (f : List ℕ) (xs front : List Tree) → place (App f xs) (map (inst s) (front ++ arguments_of (App f xs))) ≡ map (inst s) front ++ inst s (App f xs) ∷ []
  placed_application f xs front =
      let built = map (inst s) front ++ map (inst s) xs in
      let there : map (inst s) (front ++ arguments_of (App f xs)) ≡ built = ap (λ l. map (inst s) (front ++ layer_arguments l)) (outs-App f xs) ∙ map-append (inst s) front xs in
      let at : length built - length xs ≡ length (map (inst s) front) = ap (λ n. length built - n) (sym (length-insts xs)) ∙ cut (map (inst s) front) (map (inst s) xs) in
      ap₂ (λ l b. placed l b) (outs-App f xs) there
      ∙ ap (λ n. take n built ++ App f (drop n built) ∷ []) at
      ∙ ap₂ (λ a b. a ++ App f b ∷ []) (take-append_seam (map (inst s) front) (map (inst s) xs)) (drop-append_seam (map (inst s) front) (map (inst s) xs))
      ∙ ap (λ u. map (inst s) front ++ u ∷ []) (sym (inst-App s f xs))

  -- a node, put on the instances of its arguments, gives its instance
  placed-node : (t : Tree) → IsFixed s t → (front : List Tree) → place t (map (inst s) (front ++ arguments_of t)) ≡ map (inst s) front ++ inst s t ∷ []
  unfolding Placed
  placed-node = induction Placed (λ f xs p fixed front. placed_application f xs front)
      (λ n fixed front. ap (λ l. placed l (map (inst s) (front ++ layer_arguments l))) (outs-Int n) ∙ placed_leaf (Int n) (inst-Int s n) front)
      (λ w fixed front. ap (λ l. placed l (map (inst s) (front ++ layer_arguments l))) (outs-Str w) ∙ placed_leaf (Str w) (inst-Str s w) front)
      (λ k fixed front. ap (λ l. placed l (map (inst s) (front ++ layer_arguments l))) (outs-Hole k) ∙ placed_leaf (Hole k) (inst-Hole s k ∙ fixed k refl) front)

  Larger : Tree → Type 0
  Larger t = total (λ x. node_count (inst s x)) (arguments_of t) < node_count (inst s t)

  -- the instances of the arguments are smaller than that of the whole
  arguments_less : (t : Tree) → total (λ x. node_count (inst s x)) (arguments_of t) < node_count (inst s t)
  unfolding Larger
  arguments_less = induction Larger
      (λ f xs p. omega (arith, ap (λ l. total (λ x. node_count (inst s x)) (layer_arguments l)) (outs-App f xs), ap node_count (inst-App s f xs), node_count-App f (map (inst s) xs), total-insts s 0 node_count xs))
      (λ n. omega (arith, ap (λ l. total (λ x. node_count (inst s x)) (layer_arguments l)) (outs-Int n), node_count-positive s (inst s (Int n))))
      (λ w. omega (arith, ap (λ l. total (λ x. node_count (inst s x)) (layer_arguments l)) (outs-Str w), node_count-positive s (inst s (Str w))))
      (λ k. omega (arith, ap (λ l. total (λ x. node_count (inst s x)) (layer_arguments l)) (outs-Hole k), node_count-positive s (inst s (Hole k))))

  -- the next tree was taken from the pending ones, the node stands for it, and its arguments are pending in its place
  module _ (cur front after : List Tree) (next node : Tree) (popped : cur ≡ front ++ next ∷ []) (same : inst s node ≡ inst s next) (pushed : after ≡ front ++ arguments_of node) where
    pub nodes_smaller : total (λ x. node_count (inst s x)) after < total (λ x. node_count (inst s x)) cur
    nodes_smaller =
        let before = ap (total (λ x. node_count (inst s x))) popped ∙ total-append s (λ x. node_count (inst s x)) front (next ∷ []) in
        let now = ap (total (λ x. node_count (inst s x))) pushed ∙ total-append s (λ x. node_count (inst s x)) front (arguments_of node) in
        let e = ap node_count same in
        omega (arith, arguments_less node)

    pub nodes_more : (found found_after whole : List Tree) → IsFixed s node → found_after ≡ found ++ node ∷ [] → Completes (inst s) found cur whole → Completes (inst s) found_after after whole
    nodes_more found found_after whole fixed more completes rest e =
        let one : place node (built_on rest []) ≡ map (inst s) cur =
        ap (place node) (e ∙ ap (map (inst s)) pushed) ∙ placed-node node fixed front ∙ ap (λ u. map (inst s) front ++ u ∷ []) same ∙ sym (map-append (inst s) front (next ∷ [])) ∙ ap (map (inst s)) (sym popped) in
        ap (λ ns. built_on (ns ++ rest) []) more ∙ ap (λ ns. built_on ns []) (append_assoc found (node ∷ []) rest) ∙ completes (node ∷ rest) one

-- in the end nothing is pending
pub nodes_all : (resolved : Tree → Tree) (found pending whole : List Tree) → pending ≡ [] → Completes resolved found pending whole → built_on found [] ≡ whole
nodes_all resolved found pending whole none completes =
    ap (λ ns. built_on ns []) (sym (append-nil found)) ∙ completes [] (ap (map resolved) (sym none))
