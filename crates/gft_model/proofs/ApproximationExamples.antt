-- Worked examples of the context-free approximation and of analyses: in T, whose one sentence is `a`.
use Rattle.std.proofs.Common.{◌≡◌, refl, ℕ, List, [], ◌∷◌, arith}
use Rattle.std.specs.Prelude.{codes, All, Contains}
use Rattle.std.specs.Fmt.{digits}
use Rattle.gft_core.specs.declared.tree.Tree.TheVariants.{outs-App}
use Rattle.gft_pmcfg.specs.declared.run.Run.{App as AppRun}
use Rattle.gft_pmcfg.specs.declared.run.Run.TheVariants.{outs-App as run_outs-App}
use Rattle.gft_model.specs.Analysis.{IsAnalysis, of_productions}
use Rattle.gft_model.specs.Approximation.{CfRule, start, part, word, part_of, IsRule, of_production, of_ref, itself, by_rule, none, more, IsDerived, from_start, rule_line}
use Rattle.gft_model.specs.Runs.{IsInhabited, listed, application as applied_run, none as no_runs, holes_step}
use Rattle.gft_model.specs.RunStrings.{application, none as no_values}
use Rattle.gft_model.specs.States.{of_file}
use Rattle.gft_pmcfg.specs.Layers.{by_layers-App}
use Rattle.gft_model.proofs.Tiny.{abs, eng}

-- S.0.0 -> "a"
abbrev a_rule : CfRule
a_rule = record { left = part 2 0; right = word (codes "a") ∷ [] }

none_of : (P : ℕ → Type 0) → All P []
none_of P k d b = absurd (omega (arith, b))

a_is_rule : IsRule eng 2 a_rule
a_is_rule = of_production {l = 0} (0, omega arith, refl) (none_of (IsInhabited eng)) refl

-- S -> S.0.0
abbrev start_rule : CfRule
start_rule = record { left = start; right = part_of 2 0 ∷ [] }

inhabited : IsInhabited eng 2
inhabited = (AppRun 0 [], applied_run refl (run_outs-App 0 []) no_runs, by_layers-App holes_step 0 [])

start_is_rule : IsRule eng 2 start_rule
start_is_rule = of_ref (omega arith, refl) inhabited (listed (0, omega arith, refl))

-- `a` is derived
pub a_is_derived : IsDerived eng 2 (codes "a" ∷ [])
a_is_derived = from_start start_is_rule (more (by_rule a_is_rule (more itself none)) none)

-- the lines of both
pub line_of_a : rule_line abs eng 2 a_rule ≡ codes "S.0.0 -> \"a\""
unfolding digits
line_of_a = refl

pub line_of_start : rule_line abs eng 2 start_rule ≡ codes "S -> S.0.0"
unfolding digits
line_of_start = refl

-- the word `a` is the constant a, in its only case and cell
pub a_is_analysed : IsAnalysis abs (codes "TE", of_file eng) (codes "a") (record { fun = 0; case = 0; cell = 0 })
a_is_analysed = record {
  function = record { name = codes "a"; args = []; result = record { cat = 2; args = [] } };
  numbered = refl;
  constant = refl;
  strings = _;
  forms = of_productions {k = 0} refl (application (outs-App _ _) (0, omega arith, refl) refl no_values);
  there = refl;
}
