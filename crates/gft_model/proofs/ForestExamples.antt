-- Worked examples of forests: all runs of Cyc for the word `q` in one node.
use Rattle.std.specs.Prelude.{◌≡◌, ℕ, zero, suc, List, [], ◌∷◌, Option, Some, None, slice_get}
use Rattle.std.proofs.Common.{refl, sym, ap, ◌∙◌, arith}
use Rattle.gft_pmcfg.specs.declared.forest.Forest.{Forest}
use Rattle.gft_pmcfg.specs.declared.forest.Node.{Node}
use Rattle.gft_pmcfg.specs.declared.forest.Alt.TheVariants as alt
use Rattle.gft_pmcfg.specs.declared.run.Run.{Run, App, Hole}
use Rattle.gft_pmcfg.specs.declared.run.Run.TheVariants.{outs-App, outs-Hole}
use Rattle.gft_model.specs.Runs.{IsOpen}
use Rattle.gft_model.specs.Forests.{IsPinned, HoldsAt, unpinned, number, string, application, none, node, Holds}
use Rattle.gft_model.proofs.Grammars.{cyc_eng}

-- the nonterminal of Q over the first word: `Base`, or `Very` of itself
abbrev q : Node
q = record { nonterminal = 2; pins = (0, 0, 1) ∷ []; alts = alt.App 0 [] ∷ alt.App 1 (Some 0 ∷ []) ∷ [] }

abbrev cyclic : Forest
cyclic = record { nodes = q ∷ []; roots = 0 ∷ [] }

pinned : IsPinned cyclic 0 q
pinned = (refl, λ e. cc)

base : HoldsAt cyclic cyc_eng 0 (App 0 [])
base = application pinned (0, omega arith, refl) refl (outs-App _ _) none

very : (r : Run) → HoldsAt cyclic cyc_eng 0 r → HoldsAt cyclic cyc_eng 0 (App 1 (r ∷ []))
very r h = application pinned (1, omega arith, refl) refl (outs-App _ _) (node h none)

-- runs of any depth are held
very_very_base : Holds cyclic cyc_eng (App 1 (App 1 (App 0 [] ∷ []) ∷ []))
very_very_base = (0, (0, omega arith, refl), very _ (very _ base))

-- the pins of a node, if there is one
abbrev pins_in : Option Node → List (ℕ × ℕ × ℕ)
pins_in None = []
pins_in (Some x) = x.pins

-- a node with pins does not hold a hole
no_hole : {n m : ℕ} {r : Run} → HoldsAt cyclic cyc_eng n r → n ≡ 0 → IsOpen r m → ⊥
no_hole (unpinned {n} {node = x} e p h) z o =
    let same : Some q ≡ Some x = ap (slice_get (q ∷ [])) (sym z) ∙ e in
    let pins : q.pins ≡ x.pins = ap (λ (y : Option Node). pins_in y) same in
    let wrong : q.pins ≡ [] = pins ∙ p in cc
no_hole (number s a h) z o = cc
no_hole (string s a h) z o = cc
no_hole (application s a g h d) z o = cc

hole_is_not_held : ¬ Holds cyclic cyc_eng (Hole 2)
hole_is_not_held (n, (zero, b, e), h) = no_hole h (sym e) (outs-Hole 2)
hole_is_not_held (n, (suc k, b, e), h) = absurd (omega (arith, b))
