-- Worked examples of what judgements rest on: an oper beside a lin of its name, and an oper that needs itself.
use Rattle.std.proofs.Common.{◌≡◌, refl, ap, sym, ◌∙◌, subst, zero, suc, List, [], ◌∷◌, Some, None, arith}
use Rattle.std.specs.Prelude.{codes, Contains}
use Rattle.gft_core.specs.declared.place.Place.{Place}
use Rattle.gft_syntax.specs.declared.reference.Reference.TheVariants.{Whole as WholeName}
use Rattle.gft_syntax.specs.declared.reference.Whole.{Whole}
use Rattle.gft_syntax.specs.declared.term.Term.{Term, roll-Term}
use Rattle.gft_syntax.specs.declared.term.Term.TheOpen as F
use Rattle.gft_syntax.specs.declared.term.Term.TheFolds.{fold-roll-Term}
use Rattle.gft_syntax.specs.declared.judgement.Keyword.TheVariants as K
use Rattle.gft_model.specs.Items.{Item, oper, linear}
use Rattle.gft_model.specs.Resting.{item_names, answers_to, Rests, names_it, and_so_on, NoCycle}

abbrev nowhere : Place
nowhere = record { file = 0; line = 1; col = 1 }

abbrev f : Whole
f = record { «module» = codes "M"; name = codes "f" }

abbrev word : Term
word = roll-Term (F.Lit (codes "a") nowhere)

abbrev name : Term
name = roll-Term (F.Var (WholeName f) nowhere)

-- oper f = "a" ; lin f = f
abbrev an_oper : Item
an_oper = oper f None (Some word)

abbrev a_lin : Item
a_lin = linear K.Lin (codes "L") f name

abbrev both : List Item
both = an_oper ∷ a_lin ∷ []

names-word : item_names an_oper ≡ []
names-word = simp fold-roll-Term

names-name : item_names a_lin ≡ f ∷ []
names-name = simp fold-roll-Term

none_there : {ws : List Whole} {v : Whole} → Contains ws v → ws ≡ [] → ⊥
none_there {v = v} c e = let n = subst (λ (us : List Whole). Contains us v) e c in omega (arith, n.1)

-- the lin rests on the oper
pub lin_rests : Rests both a_lin an_oper
lin_rests = names_it {v = f} (0, omega arith, refl) (subst (λ (ws : List Whole). Contains ws f) (sym names-name) (0, omega arith, refl)) (0, omega arith, refl)

-- an item without names in it rests on nothing
rests_on_nothing : {items : List Item} {i k : Item} → Rests items i k → item_names i ≡ [] → ⊥
rests_on_nothing (names_it a b c) e = none_there b e
rests_on_nothing (and_so_on a b) e = rests_on_nothing a e

-- the oper does not need itself, though a lin of its name needs it
pub no_cycle : NoCycle both f
no_cycle i k (zero, b, e) x y r = rests_on_nothing r (ap item_names (sym e) ∙ names-word)
no_cycle i k (suc zero, b, e) x y r = none_there x (ap answers_to (sym e))
no_cycle i k (suc (suc n), b, e) x y r = omega (arith, b)

-- oper f = f does
abbrev cyclic : Item
cyclic = oper f None (Some name)

names-cyclic : item_names cyclic ≡ f ∷ []
names-cyclic = simp fold-roll-Term

pub cycle : ¬ NoCycle (cyclic ∷ []) f
cycle h =
    h cyclic cyclic (0, omega arith, refl) (0, omega arith, refl) (0, omega arith, refl)
    (names_it {v = f} (0, omega arith, refl) (subst (λ (ws : List Whole). Contains ws f) (sym names-cyclic) (0, omega arith, refl)) (0, omega arith, refl))
