-- Worked examples of productions that are kept, and of nonterminals with a run.
use Rattle.std.specs.Prelude.{◌≡◌, ℕ, zero, suc, All, List, [], ◌∷◌, ◌++◌, map, codes, Option}
use Rattle.std.specs.List.{flat_map}
use Rattle.std.specs.Option.{option_map_or}
use Rattle.std.proofs.Common.{inl, inr, refl, sym, ap, ◌∙◌, subst, arith}
use Rattle.gft_core.specs.declared.symbol.Sym.TheVariants.{Tok, Arg}
use Rattle.gft_pmcfg.specs.declared.concrete.Def.{Def}
use Rattle.gft_pmcfg.specs.declared.concrete.Prod.{Prod}
use Rattle.gft_pmcfg.specs.declared.run.Run.{Run, App, Int, Hole, roll-Run, roll-out-Run}
use Rattle.gft_pmcfg.specs.declared.run.Run.TheVariants.{outs-App, outs-Int, outs-Hole, rolls-App, rolls-Hole}
use Rattle.gft_pmcfg.specs.Layers.{by_layers-App, by_layers-Hole, by_layers-Int}
use Rattle.gft_model.specs.Trees.{all_of}
use Rattle.gft_model.specs.Runs.{IsRun, AreRuns, hole, number, string, application, none, more, holes_of, holes_step, IsInhabited, MayBeHole, IsKept}
use Rattle.gft_model.proofs.RunLemmas.{all_none, all_one}
use Rattle.gft_model.proofs.RunExamples.{very_base, very_base_is_run, very_base_is_closed, m_is_closed}
use Rattle.gft_model.proofs.Grammars.{cyc_eng, gend_eng, dead_eng, barren_eng, whole}

-- Q of Cyc has the run `Very Base`, and integers have their literals
q_inhabited : IsInhabited cyc_eng 2
q_inhabited = (very_base, very_base_is_run, very_base_is_closed)

integers_inhabited : IsInhabited cyc_eng 0
integers_inhabited = (Int 7, number (outs-Int 7) (omega arith), simp by_layers-Int)

-- `Base` of Cyc, and `f` of Gend over a run of `m`
base_kept : IsKept cyc_eng (record { fun = 0; args = []; result = 2; seqs = (Tok (codes "q") ∷ []) ∷ [] })
base_kept = ([], none, all_none (MayBeHole cyc_eng))

f_kept : IsKept gend_eng (record { fun = 0; args = 2 ∷ []; result = 4; seqs = (Tok (codes "x") ∷ []) ∷ [] })
f_kept =
    let closed : holes_of (App 2 []) ++ [] ≡ [] = ap (λ (hs : List ℕ). hs ++ []) m_is_closed in (
      App 2 [] ∷ [],
      more (application refl (outs-App _ _) none) none,
      subst (All (MayBeHole gend_eng)) (sym closed) (all_none (MayBeHole gend_eng)),
    )

-- `g` of Dead is kept over a hole of D, and not where such a hole gives nothing
abbrev g : Prod
g = record { fun = 1; args = 2 ∷ []; result = 2; seqs = (Tok (codes "ever") ∷ Arg 0 0 ∷ []) ∷ [] }

g_kept : IsKept dead_eng g
g_kept =
    let one : holes_of (Hole 2) ++ [] ≡ 2 ∷ [] = ap (λ (hs : List ℕ). hs ++ []) (by_layers-Hole holes_step 2) in (
      Hole 2 ∷ [],
      more (hole (outs-Hole 2) (omega arith)) none,
      subst (All (MayBeHole dead_eng)) (sym one) (all_one (MayBeHole dead_eng) 2 (inr (whole ∷ [], (0, omega arith, refl)))),
    )

-- D has no def there
no_hole : {n : ℕ} → MayBeHole barren_eng n → n ≡ 2 → ⊥
no_hole (inl b) e = absurd (omega (arith, b, e))
no_hole (inr (seqs, (zero, b, m))) e = absurd (omega (arith, ap (λ (d : Def). d.result) m, e))
no_hole (inr (seqs, (suc k, b, m))) e = absurd (omega (arith, b))

-- the first part of what all pass
first_part : (P : ℕ → Type 0) (xs ys : List ℕ) → All P (xs ++ ys) → All P xs
first_part P [] ys all k d b = absurd (omega (arith, b))
first_part P (x ∷ xs) ys all zero d b = all zero d (omega arith)
first_part P (x ∷ xs) ys all (suc k) d b =
    first_part P xs ys (λ j c less. all (suc j) c (omega (arith, less))) k d (omega (arith, b))

-- the result and the arguments of a production, where there is one
abbrev result_in : Option Prod → ℕ
result_in p = option_map_or (λ (q : Prod). q.result) p 0

abbrev args_in : Option Prod → List ℕ
args_in p = option_map_or (λ (q : Prod). q.args) p []

mutual
  no_run : {r : Run} {n : ℕ} → IsRun barren_eng r n → n ≡ 2 → All (MayBeHole barren_eng) (holes_of r) → ⊥
  no_run {r} {n} (hole h b) e all =
      let is : r ≡ Hole n = sym (roll-out-Run r) ∙ ap roll-Run h ∙ rolls-Hole n in
      let one : holes_of r ≡ n ∷ [] = ap holes_of is ∙ by_layers-Hole holes_step n in
      no_hole (subst (All (MayBeHole barren_eng)) one all 0 n (omega arith)) e
  no_run (number h b) e all = absurd (omega (arith, e))
  no_run (string h b) e all = absurd (omega (arith, e))
  no_run (application {p = zero} s h ds) e all = absurd (omega (arith, ap result_in s, e))
  no_run {r} (application {p = suc zero} {rs} s h ds) e all =
      let is : r ≡ App 1 rs = sym (roll-out-Run r) ∙ ap roll-Run h ∙ rolls-App 1 rs in
      let below : holes_of r ≡ all_of (map holes_of rs) = ap holes_of is ∙ by_layers-App holes_step 1 rs in
      no_runs ds (sym (ap args_in s)) (subst (All (MayBeHole barren_eng)) below all)
  no_run (application {p = suc (suc zero)} s h ds) e all = absurd (omega (arith, ap result_in s, e))
  no_run (application {p = suc (suc (suc p))} s h ds) e all = absurd (omega (arith, ap result_in s, e))

  no_runs : {rs : List Run} {ns : List ℕ} → AreRuns barren_eng rs ns → ns ≡ 2 ∷ []
      → All (MayBeHole barren_eng) (all_of (map holes_of rs)) → ⊥
  no_runs none e all = cc
  no_runs (more {r} {rs} {n} d ds) e all =
      let first : n ≡ 2 = cc in
      no_run d first (first_part (MayBeHole barren_eng) (holes_of r) (all_of (map holes_of rs)) all)

-- so D has no run without holes, and `g` is not kept
d_not_inhabited : ¬ IsInhabited barren_eng 2
d_not_inhabited (r, d, e) =
    no_run d refl (subst (All (MayBeHole barren_eng)) (sym e) (all_none (MayBeHole barren_eng)))

joined : (rs : List Run) → flat_map holes_of rs ≡ all_of (map holes_of rs)
joined [] = refl
joined (r ∷ rs) = ap (λ (hs : List ℕ). holes_of r ++ hs) (joined rs)

g_not_kept : ¬ IsKept barren_eng g
g_not_kept (rs, ds, all) = no_runs ds refl (subst (All (MayBeHole barren_eng)) (joined rs) all)

-- nor is `f`, which needs a run of D
pub f_not_kept : ¬ IsKept barren_eng (record { fun = 0; args = 2 ∷ []; result = 3; seqs = (Tok (codes "no") ∷ Arg 0 0 ∷ []) ∷ [] })
f_not_kept (rs, ds, all) = no_runs ds refl (subst (All (MayBeHole barren_eng)) (joined rs) all)
