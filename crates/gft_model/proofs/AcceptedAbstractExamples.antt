-- A worked example of an abstract module that is accepted, abstract E = {cat S ;}, whatever the other modules are.
use Rattle.std.proofs.Common.{◌≡◌, ap, sym, ◌∙◌, refl, ℕ, zero, suc, true, false, Bool, List, [], ◌∷◌, ◌++◌, Option, Some, subst, arith}
use Rattle.std.specs.Prelude.{codes, Contains, slice_get, ◌||◌}
use Rattle.gft_core.specs.declared.place.Place.{Place}
use Rattle.gft_rules.specs.declared.refusal.Refusal.{Refusal}
use Rattle.gft_rules.specs.declared.rule.Rule.{Rule}
use Rattle.gft_syntax.specs.declared.flat.Flat.{Flat}
use Rattle.gft_syntax.specs.declared.flat.FlatJudgement.{FlatJudgement}
use Rattle.gft_syntax.specs.declared.judgement.Context.{Context}
use Rattle.gft_syntax.specs.declared.judgement.Judgement.{Judgement}
use Rattle.gft_syntax.specs.declared.judgement.Judgement.TheVariants as J
use Rattle.gft_syntax.specs.declared.module.Header.TheVariants.{Instance}
use Rattle.gft_syntax.specs.declared.module.Module.{Module}
use Rattle.gft_syntax.specs.declared.pattern.Pattern.{Pattern}
use Rattle.gft_syntax.specs.declared.reference.PlacedName.{PlacedName}
use Rattle.gft_syntax.specs.declared.reference.Whole.{Whole}
use Rattle.gft_syntax.specs.declared.term.Term.{Term}
use Rattle.gft_syntax.specs.Parts.{judgement_parts}
use Rattle.gft_model.specs.AbstractFaults
use Rattle.gft_model.specs.Flats.{HasEntry, alone, whole_of}
use Rattle.gft_model.specs.Import.{LeftOut, HasOrder, in_order, BreaksModule, in_header, twice, in_names, in_abstract, in_types, in_instance}
use Rattle.gft_model.specs.InstanceFaults.{replaced, BreaksInstance, in_declared_type, of_another_type}
use Rattle.gft_model.specs.JudgementOrder.{Before, none, needed, not_needed, Turns, no_turn, typed_already, its_turn, IsMet}
use Rattle.gft_model.specs.Modules.{Is, Has, own, Declared, Writes, is_interface, is_incomplete}
use Rattle.gft_model.specs.NameFaults
use Rattle.gft_model.specs.NameFaults.{scoped_parts}
use Rattle.gft_model.specs.Refusals.{Moment, IsAccepted}
use Rattle.gft_model.specs.Resolution.{Locals, resolved_judgement}
use Rattle.gft_model.proofs.AcceptedHeaderExamples.{had, written, e_header, e_redefines_none}
use Rattle.gft_model.proofs.AcceptedNamesExamples.{one_of, none_of, named, abstract_e}

-- WHAT IS TYPED

-- what holds of all that is to have a turn and of all that may be needed holds of all that has one
before_are : {Rests : FlatJudgement → FlatJudgement → Type 0} {e : FlatJudgement} {fs ns : List FlatJudgement} (P : FlatJudgement → Type 0) →
    Before Rests e fs ns →
    ((f : FlatJudgement) → Contains fs f → P f) → (f : FlatJudgement) → Contains ns f → P f
before_are P none h f c = absurd (none_of c)
before_are P (needed d n b) h g (zero, c, e) = h g (0, omega arith, e)
before_are P (needed d n b) h g (suc k, c, e) =
    before_are P b (λ f i. h f (suc i.0, omega (arith, i.1), i.2)) g (k, omega (arith, c), e)
before_are P (not_needed n b) h g c = before_are P b (λ f i. h f (suc i.0, omega (arith, i.1), i.2)) g c

pub in_either : {A : Type 0} (xs ys : List A) (P : A → Type 0) → ((x : A) → Contains xs x → P x) →
    ((x : A) → Contains ys x → P x) →
    (x : A) → Contains (xs ++ ys) x → P x
in_either [] ys P h k x c = k x c
in_either (y ∷ xs) ys P h k x (zero, b, e) = h x (0, omega arith, e)
in_either (y ∷ xs) ys P h k x (suc n, b, e) =
    in_either xs ys P (λ z i. h z (suc i.0, omega (arith, i.1), i.2)) k x (n, omega (arith, b), e)

pub turns_are : {Rests : FlatJudgement → FlatJudgement → Type 0} {list typed todo order : List FlatJudgement} (P : FlatJudgement → Type 0) →
    Turns Rests list typed todo order → ((f : FlatJudgement) → Contains list f → P f) →
    ((f : FlatJudgement) → Contains todo f → P f) → (f : FlatJudgement) → Contains order f → P f
turns_are P no_turn h k f c = absurd (none_of c)
turns_are P (typed_already t d) h k f c = turns_are P d h (λ g i. k g (suc i.0, omega (arith, i.1), i.2)) f c
turns_are P (its_turn {first = first} {later = later} {e = e} n b d r) h k f c =
    in_either first (e ∷ later) P (turns_are P d h (before_are P b h))
    (tail (turns_are P r h (λ g i. k g (suc i.0, omega (arith, i.1), i.2)))) f c
  where
    tail : ((g : FlatJudgement) → Contains later g → P g) → (g : FlatJudgement) → Contains (e ∷ later) g → P g
    tail after g (zero, i, j) = k g (0, omega arith, j)
    tail after g (suc l, i, j) = after g (l, omega (arith, i), j)

-- E AMONG OTHERS

abbrev pub category_s : ℕ → Judgement
category_s file = J.Cat (named file 19 (codes "S")) []

-- the category under its whole name
abbrev pub entry_of_s : ℕ → FlatJudgement
entry_of_s file = record { whole = record { «module» = codes "E"; name = codes "S" }; judgement = category_s file }

module _ (mods : List Module) (file : ℕ) (is : Is mods (codes "E") (abstract_e file)) where
  pub had_in_e : {x : List ℕ} {d : Declared} → Has mods (codes "E") x d → (codes "S" ≡ x) × (d ≡ own (codes "E") 0)
  had_in_e h =
      let there = had mods (codes "E") (abstract_e file) (category_s file) refl (λ n i e. cc) is h in (one_of there.0, there.1)

  pub written_in_e : {j : Judgement} → Writes mods (own (codes "E") 0) j → j ≡ category_s file
  written_in_e w = written mods (codes "E") (abstract_e file) (category_s file) refl (λ n i e. cc) is w

  -- what E has is the category
  pub entry_is : {Takes : List ℕ → Judgement → Type 0} {entry_name : Judgement → List ℕ → List ℕ} {at : Moment}
      {f : FlatJudgement}
      → entry_name (category_s file) (codes "S") ≡ codes "S" → HasEntry mods Takes entry_name (codes "E") at f
      → (f ≡ entry_of_s file) × Takes (codes "S") (category_s file)
  entry_is {Takes} {entry_name} {f = f} main h =
      let there = had_in_e h.has in
      let text = written_in_e (subst (λ d. Writes mods d h.judgement) there.1 h.writes) in
      let name : entry_name h.judgement h.name ≡ codes "S" = (λ i. entry_name (text i) (sym there.0 i)) ∙ main in
      let whole : f.whole ≡ (entry_of_s file).whole =
      h.entry.whole ∙ ap (λ x. whole_of x h.declared) name ∙ ap (whole_of (codes "S")) there.1 in
      let judgement : f.judgement ≡ category_s file =
      h.entry.judgement ∙ ap (λ j. resolved_judgement h.entry.names (alone (entry_name h.judgement h.name) j)) text in (
        (λ i. record { whole = whole i; judgement = judgement i }),
        subst (λ x. Takes x (category_s file)) (sym there.0) (subst (Takes h.name) text h.taken),
      )

  -- the types of a category without indices
  nothing_before : {A : Type 0} (before : List A) (c : A) (after : List A) → [] ≡ before ++ c ∷ after → ⊥
  nothing_before [] c after e = cc
  nothing_before (b ∷ before) c after e = cc

  module _ (cats funs : List FlatJudgement) (LeftOut : Whole → Type 0) where
    stands_none : {at : Moment} {Γ : List Context} {e : Term} {r : AbstractFaults.Role} {b : Bool} →
        AbstractFaults.StandsIn cats funs (category_s file) at Γ e r b → ⊥
    stands_none (AbstractFaults.function_type e) = cc
    stands_none (AbstractFaults.in_context before c after e) = nothing_before before c after (contexts e) where
      contexts : {n : PlacedName} {cs : List Context} → category_s file ≡ J.Cat n cs → [] ≡ cs
      contexts f = cc
    stands_none (AbstractFaults.part k d g) = stands_none d

    pub no_abstract_fault : {at : Moment} {r : Refusal} →
        AbstractFaults.BreaksAbstract cats funs LeftOut (category_s file) at r → ⊥
    no_abstract_fault (AbstractFaults.at_term d b) = stands_none d
    no_abstract_fault (AbstractFaults.list_of_no_category e n) = cc
    no_abstract_fault (AbstractFaults.list_of_indexed e t) = cc
    no_abstract_fault (AbstractFaults.list_left_out e n) = cc

  -- no module has judgements that are typed where others rest on them
  module _ (none_met : (i : ℕ) (m : Module) → slice_get mods i ≡ Some m →
      (is_interface m.header || is_incomplete m.header) ≡ false) where
    met_none : {at : Moment} {e : FlatJudgement} → IsMet mods at e → ⊥
    met_none (i, m, within, a, g, b, h) = let wrong : true ≡ false = sym b ∙ none_met i m g in cc

    order_is : {flat : Flat} {order again : List FlatJudgement} → HasOrder mods (abstract_e file) flat order again →
        (e : FlatJudgement) → Contains (order ++ again) e → e ≡ entry_of_s file
    order_is (in_order {new} {met} {order} {again} n m t a) =
        in_either order again (λ e. e ≡ entry_of_s file)
        (turns_are (λ e. e ≡ entry_of_s file) t (in_either new met (λ e. e ≡ entry_of_s file) each_new each_met) each_new)
        (λ e c. let h = (a.all e).0 c in (entry_is refl h.1).0)
      where
        each_new : (e : FlatJudgement) → Contains new e → e ≡ entry_of_s file
        each_new e c = let h = (n.all e).0 c in (entry_is refl h.1.3).0

        each_met : (e : FlatJudgement) → Contains met e → e ≡ entry_of_s file
        each_met e c = let h = (m.all e).0 c in absurd (met_none h.1)

-- NOTHING IS BROKEN IN IT

pub got : {A : Type 0} (xs : List A) (k : ℕ) {x : A} → slice_get xs k ≡ Some x → Contains xs x
got [] k e = cc
got (y ∷ xs) zero e = (0, omega arith, cc)
got (y ∷ xs) (suc k) e = let c = got xs k e in (suc c.0, omega (arith, c.1), c.2)

module _ (mods : List Module) (file : ℕ) (is_constructor : List ℕ → Bool) where
  within_none : {xs : Locals} {b : Bool} {e : Term} → NameFaults.Within mods (abstract_e file) is_constructor xs b e → ⊥
  within_none (NameFaults.in_judgement {p = p} c d) = none_of (subst (λ j. Contains (scoped_parts j) p) (sym (one_of c)) d)
  within_none (NameFaults.in_term w n c) = within_none w

  uses_none : {q : Option (List ℕ)} {n : PlacedName} → NameFaults.Uses mods (abstract_e file) is_constructor q n → ⊥
  uses_none (NameFaults.alone w h l) = within_none w
  uses_none (NameFaults.in_brackets w h) = within_none w
  uses_none (NameFaults.of_elements c) = let same = one_of c in cc
  uses_none (NameFaults.before_dot (xs, b, e, q, w, h, i, l) o) = within_none w
  uses_none (NameFaults.after_dot (xs, b, e, q, w, h, i, l) o) = within_none w

  no_pattern : {xs : Locals} {p : Pattern} → NameFaults.HasPattern mods (abstract_e file) is_constructor xs p → ⊥
  no_pattern (b, e, c, w, d, i) = within_none w

  in_pattern_none : {xs : Locals} {b : Bool} {q : Option (List ℕ)} {x : List ℕ} {p : Place} →
      NameFaults.InPattern mods (abstract_e file) is_constructor xs b q x p → ⊥
  in_pattern_none (NameFaults.bare h e) = no_pattern h
  in_pattern_none (NameFaults.head h e) = no_pattern h

  e_names : (rule : Rule) (n : PlacedName) (ms : List PlacedName) →
      ¬ (NameFaults.BreaksNames mods (abstract_e file) is_constructor rule n ms)
  e_names rule n ms (NameFaults.means_nothing u s b) = uses_none u
  e_names rule n ms (NameFaults.no_constructor i m) = in_pattern_none i
  e_names rule n ms (NameFaults.variable_as_type a w h l) = within_none w
  e_names rule n ms (NameFaults.word_alone w h c) = within_none w
  e_names rule n ms (NameFaults.abstract_lacks c d s a i) = none_of a
  e_names rule n ms (NameFaults.ambiguous_use u c) = uses_none u
  e_names rule n ms (NameFaults.ambiguous_constructor i m c) = in_pattern_none i
  e_names rule n ms (NameFaults.bound_twice b a h e c) = no_pattern h
  e_names rule n ms (NameFaults.bound_on_one_side h e c d f g) = no_pattern h
  e_names rule n ms (NameFaults.bound_in_star h e c) = no_pattern h

pub no_instance_of : {mods : List Module} {m : Module} {flat : Flat} {order : List FlatJudgement} {at : Moment} {r : Refusal} →
    ((n i : PlacedName) → m.header ≡ Instance n i → ⊥) → BreaksInstance mods m flat order at r → ⊥
no_instance_of n (in_declared_type (replaced e h w s a d b) t f) = n _ _ e
no_instance_of n (of_another_type (replaced e h w s a d b) t f g c x) = n _ _ e

-- so the module is accepted, as a named source and otherwise
pub e_accepted : (mods : List Module) (file : ℕ) (named_source : Bool) → Is mods (codes "E") (abstract_e file) →
    ((i : ℕ) (m : Module) → slice_get mods i ≡ Some m → (is_interface m.header || is_incomplete m.header) ≡ false) →
    IsAccepted (BreaksModule mods named_source (abstract_e file))
e_accepted mods file named_source is none_met at r (in_header {rule = rule} {n = n} {ms = ms} b) =
    e_header mods named_source file rule n ms b
e_accepted mods file named_source is none_met at r (twice {at = within} b) = e_redefines_none file within r b
e_accepted mods file named_source is none_met at r (in_names {rule = rule} {n = n} {ms = ms} c a b) =
    e_names mods file c rule n ms b
e_accepted mods file named_source is none_met at r (in_abstract {flat} {order} {again} {k} {e = e} {at = within} a v o g b) =
    let entry = order_is mods file is none_met o e (got (order ++ again) k g) in
    let judgement : e.judgement ≡ category_s file = ap (λ (f : FlatJudgement). f.judgement) entry in
    no_abstract_fault mods file is flat.cats flat.funs (LeftOut mods flat.funs)
    (subst (λ j. AbstractFaults.BreaksAbstract flat.cats flat.funs (LeftOut mods flat.funs) j within r) judgement b)
e_accepted mods file named_source is none_met at r (in_types a v o g b) = cc
e_accepted mods file named_source is none_met at r (in_instance v o b) = no_instance_of (λ n i e. cc) b
