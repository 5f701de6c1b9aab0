-- Worked examples of runs.
use Rattle.std.specs.Prelude.{◌≡◌, ℕ, zero, suc, All, List, [], ◌∷◌, codes}
use Rattle.std.proofs.Common.{refl, sym, ap, ◌∙◌, subst, arith, true}
use Rattle.gft_core.specs.declared.symbol.Sym.{Sym}
use Rattle.gft_pmcfg.specs.declared.concrete.Ref.{Ref}
use Rattle.gft_pmcfg.specs.declared.run.Run.{Run, App, Hole}
use Rattle.gft_pmcfg.specs.declared.run.Run.TheOpen as layer
use Rattle.gft_pmcfg.specs.declared.run.Run.TheVariants.{outs-App, outs-Hole}
use Rattle.gft_pmcfg.specs.Layers.{by_layers-App, by_layers-Hole}
use Rattle.gft_pmcfg.specs.Ranges.{is_concrete}
use Rattle.gft_model.specs.Runs.{hole, unread, IsRun, IsRunFor, IsRef, listed, of_literals, yield_of, holes_of, IsInhabited, application, more, none, Strings, components_of, components_step, filled}
use Rattle.gft_model.specs.Brackets.{erased}
use Rattle.gft_model.proofs.RunLemmas.{components_of-App, all_none, all_one}
use Rattle.gft_model.proofs.Grammars.{cyc, cyc_eng, gend, gend_eng, twice, twice_eng, dead, dead_eng, whole}

-- the grammars are in range
cyc_in_range : is_concrete cyc cyc_eng ≡ true
cyc_in_range = refl

twice_in_range : is_concrete twice twice_eng ≡ true
twice_in_range = refl

gend_in_range : is_concrete gend gend_eng ≡ true
gend_in_range = refl

dead_in_range : is_concrete dead dead_eng ≡ true
dead_in_range = refl

-- `Very Base`
abbrev pub very_base : Run
very_base = App 1 (App 0 [] ∷ [])

abbrev base_gives : List ℕ → Strings
base_gives = components_step cyc_eng (layer.App 0 [])

very_base_gives : components_of cyc_eng very_base ≡ components_step cyc_eng (layer.App 1 (base_gives ∷ []))
very_base_gives = simp components_of-App

very_base_yields : yield_of cyc_eng whole very_base ≡ codes "q" ∷ []
very_base_yields = ap (λ (g : List ℕ → Strings). erased (filled (g [] ∷ []) whole)) very_base_gives

pub very_base_is_closed : holes_of very_base ≡ []
very_base_is_closed = simp by_layers-App

pub very_base_is_run : IsRun cyc_eng very_base 2
very_base_is_run = application refl (outs-App _ _) (more (application refl (outs-App _ _) none) none)

-- it is a run for the word q
very_base_is_for_q : IsRunFor cyc_eng 2 (codes "q" ∷ []) very_base
very_base_is_for_q = record {
  nonterminal = 2;
  run = very_base_is_run;
  category = (omega arith, refl);
  seq = whole;
  ref = listed (0, omega arith, refl);
  yields = very_base_yields;
  unread = application refl (outs-App _ _) (more (application refl (outs-App _ _) none) none);
  inhabited = subst (All (IsInhabited cyc_eng)) (sym very_base_is_closed) (all_none (IsInhabited cyc_eng));
}

-- all refs of the grammar take the one component
cyc_ref : {n : ℕ} {seq : List Sym} → IsRef cyc_eng n seq → seq ≡ whole
cyc_ref (listed (zero, b, e)) = sym (ap (λ (r : Ref). r.seq) e)
cyc_ref (listed (suc k, b, e)) = absurd (omega (arith, b))
cyc_ref (of_literals b) = refl

-- `Very` of a hole is a run, but none for q: the component of its argument is needed
very_hole_is_not_for_q : ¬ IsRunFor cyc_eng 2 (codes "q" ∷ []) (App 1 (Hole 2 ∷ []))
very_hole_is_not_for_q r =
    let gives : components_of cyc_eng (App 1 (Hole 2 ∷ [])) ≡ components_step cyc_eng (layer.App 1
    (components_step cyc_eng (layer.Hole 2) ∷ []))
    = components_of-App cyc_eng 1 _
    ∙ ap (λ (g : List ℕ → Strings). components_step cyc_eng (layer.App 1 (g ∷ []))) (by_layers-Hole
    (components_step cyc_eng) 2) in
    let nothing : yield_of cyc_eng whole (App 1 (Hole 2 ∷ [])) ≡ []
    = ap (λ (g : List ℕ → Strings). erased (filled (g [] ∷ []) whole)) gives in
    let word : yield_of cyc_eng whole (App 1 (Hole 2 ∷ [])) ≡ codes "q" ∷ []
    = subst (λ (seq : List Sym). yield_of cyc_eng seq (App 1 (Hole 2 ∷ [])) ≡ codes "q" ∷ [])
    (cyc_ref r.ref) r.yields in
    cc

-- the hole of the nonterminal 2 under `f`, whose argument is not read
abbrev f_hole : Run
f_hole = App 0 (Hole 2 ∷ [])

f_hole_gives : components_of gend_eng f_hole ≡ components_step gend_eng (layer.App 0
    (components_of gend_eng (Hole 2) ∷ []))
f_hole_gives = components_of-App gend_eng 0 _

f_hole_holes : holes_of f_hole ≡ 2 ∷ []
f_hole_holes = simp (by_layers-App, by_layers-Hole)

pub m_is_closed : holes_of (App 2 []) ≡ []
m_is_closed = simp by_layers-App

f_hole_is_for_x : IsRunFor gend_eng 3 (codes "x" ∷ []) f_hole
f_hole_is_for_x = record {
  nonterminal = 4;
  run = application refl (outs-App _ _) (more (hole (outs-Hole 2) (omega arith)) none);
  category = (omega arith, refl);
  seq = whole;
  ref = listed (2, omega arith, refl);
  yields = ap (λ (g : List ℕ → Strings). erased (filled (g [] ∷ []) whole)) f_hole_gives;
  unread = application refl (outs-App _ _) (more (unread (outs-Hole 2)) none);
  inhabited = subst (All (IsInhabited gend_eng)) (sym f_hole_holes) (all_one (IsInhabited gend_eng) 2
      (App 2 [], application refl (outs-App _ _) none, m_is_closed));
}
