-- Worked examples of refusals of languages: a + on an argument is stuck at its place; a language that is whole.
use Rattle.std.proofs.Common.{◌≡◌, [], ◌∷◌, ◌++◌, Some, None, refl, sym, ◌∙◌, arith}
use Rattle.std.specs.Prelude.{codes, map, flat_map}
use Rattle.gft_core.specs.declared.place.Place.{Place}
use Rattle.gft_rules.specs.declared.rule.Rule.TheVariants as R
use Rattle.gft_syntax.specs.declared.flat.Flat.{Flat}
use Rattle.gft_syntax.specs.declared.flat.FlatJudgement.{FlatJudgement}
use Rattle.gft_syntax.specs.declared.judgement.Judgement.TheVariants as J
use Rattle.gft_syntax.specs.declared.judgement.Keyword.TheVariants as K
use Rattle.gft_syntax.specs.declared.linear.LinTerm.TheOpen as L
use Rattle.gft_syntax.specs.declared.term.Term.{roll-Term}
use Rattle.gft_syntax.specs.declared.term.Term.TheOpen as T
use Rattle.gft_syntax.specs.declared.term.Term.TheFolds.{fold-roll-Term}
use Rattle.gft_syntax.specs.declared.value.Value.TheViews.{out-roll-Value}
use Rattle.gft_model.specs.CompileFaults.{BreaksCompiling, is_stuck, of_function, first_stuck, turn_of}
use Rattle.gft_model.specs.Outcomes.{Stuck}
use Rattle.gft_model.specs.Productions.{outcomes_by_case}
use Rattle.gft_model.specs.Refusals.{refusal}
use Rattle.gft_model.proofs.Computing.{results-roll, numbered_value-roll, case_values-roll}
use Rattle.gft_model.proofs.TermTreeExamples.{nowhere, named, nothing, entry, category, made, word, s_of_x, field_s, a_lincat, a_lin}

-- line 3, column 19 of GlueEng.gf: x.s + "s"
abbrev here : Place
here = record { file = 0; line = 3; col = 19 }

abbrev plural : FlatJudgement
plural = entry (codes "Pl") (J.Fun (named (codes "Pl") ∷ []) (roll-Term (T.Arrow [] (category (codes "X")) (category (codes "S")) nowhere)))

-- fun Pl : X -> S ; A : X, with lin Pl x = {s = x.s + "s"} ; A = {s = "a"}
abbrev glue : Flat
glue = record {
  name = Some (codes "Glue");
  start = Some (codes "S");
  cats = entry (codes "S") (J.Cat (named (codes "S")) []) ∷ entry (codes "X") (J.Cat (named (codes "X")) []) ∷ [];
  funs = plural ∷ entry (codes "A") (J.Fun (named (codes "A") ∷ []) (category (codes "X"))) ∷ [];
  params = [];
  opers = [];
  concretes = record {
    name = codes "GlueEng";
    judgements =
        entry (codes "S") (J.Lincat (named (codes "S") ∷ []) nothing) ∷ entry (codes "X") (J.Lincat (named (codes "X") ∷ []) nothing)
        ∷ entry (codes "Pl") (J.Lin (named (codes "Pl") ∷ []) [] nothing) ∷ entry (codes "A") (J.Lin (named (codes "A") ∷ []) [] nothing) ∷ [];
  } ∷ [];
  typed = a_lincat ∷ a_lincat ∷ a_lin (made (L.Lambda (Some (codes "x")) (field_s (made (L.Glue s_of_x (word (codes "s")) here)))))
      ∷ a_lin (field_s (word (codes "a"))) ∷ [];
}

first_of_plural : first_stuck (flat_map (λ os. os) (map (λ c. c.1) (outcomes_by_case glue (codes "GlueEng") (codes "Pl"))))
    ≡ Some (record { rule = R.GlueOnArgument; place = here })
first_of_plural = simp (fold-roll-Term, case_values-roll, results-roll, out-roll-Value, numbered_value-roll)

pub glue_on_an_argument : BreaksCompiling glue (codes "GlueEng") (turn_of K.Lin (codes "Pl") ++ 1 ∷ [])
    (refusal R.GlueOnArgument here (codes "GlueEng" ∷ codes "Pl" ∷ []))
glue_on_an_argument = is_stuck (of_function {e = plural} (0, omega arith, refl) refl) first_of_plural

nothing_stuck : first_stuck (flat_map (λ os. os) (map (λ c. c.1) (outcomes_by_case glue (codes "GlueEng") (codes "A")))) ≡ None
nothing_stuck = simp (fold-roll-Term, results-roll)

-- A is the word a: no step of it is stuck
pub constant_is_not_stuck : {k : Stuck} →
    ¬ (first_stuck (flat_map (λ os. os) (map (λ c. c.1) (outcomes_by_case glue (codes "GlueEng") (codes "A")))) ≡ Some k)
constant_is_not_stuck {k = k} e = let wrong : None ≡ Some k = sym nothing_stuck ∙ e in cc
