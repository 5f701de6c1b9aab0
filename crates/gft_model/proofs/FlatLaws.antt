-- Modules and chosen names have at most one resolved grammar, and its judgements at most one list of typings.
use Rattle.std.proofs.Common.{◌≡◌, refl, sym, ap, ◌∙◌, subst, ℕ, suc, List, [], ◌∷◌, length, map, Option, Some, None, arith}
use Rattle.std.specs.Prelude.{Contains, slice_get, option_map, ◌↔◌}
use Rattle.gft_syntax.specs.declared.flat.Flat.{Flat}
use Rattle.gft_syntax.specs.declared.flat.FlatConcrete.{FlatConcrete}
use Rattle.gft_syntax.specs.declared.flat.FlatJudgement.{FlatJudgement}
use Rattle.gft_syntax.specs.declared.linear.Typed.{Typed}
use Rattle.gft_syntax.specs.declared.module.Module.{Module}
use Rattle.gft_model.specs.Flats.{AreListed, Precedes, HasLinearization, IsFlat, abstract_in, start_of}
use Rattle.gft_model.specs.Import.{AreTypings}
use Rattle.gft_model.specs.Modules.{judgements_of}
use Rattle.gft_model.specs.Refusals.{Moment}
use Rattle.gft_model.proofs.RefusalOrder.{never_both}
use Rattle.gft_model.proofs.ReplyLaws.{order_once, same_members}

-- entries that are listed by their first turns
pub listed_once : {Has : Moment → FlatJudgement → Type 0} {es fs : List FlatJudgement} → AreListed es Has
    → AreListed fs Has → es ≡ fs
listed_once {Has} {es} {fs} x y =
    order_once (Precedes Has) (λ e f p q. never_both (p.2 q.0 q.1) (q.2 p.0 p.1) refl refl) es fs x.in_order y.in_order
    (same_members es fs x.all y.all)

-- languages of the same names
concretes_once : (mods : List Module) (cs ds : List FlatConcrete)
    → map (λ (c : FlatConcrete). c.name) cs ≡ map (λ (d : FlatConcrete). d.name) ds →
    ((c : FlatConcrete) → Contains cs c → AreListed c.judgements (HasLinearization mods c.name)) →
    ((d : FlatConcrete) → Contains ds d → AreListed d.judgements (HasLinearization mods d.name)) → cs ≡ ds
concretes_once mods [] [] e h k = refl
concretes_once mods [] (d ∷ ds) e h k = cc
concretes_once mods (c ∷ cs) [] e h k = cc
concretes_once mods (c ∷ cs) (d ∷ ds) e h k =
    let names : c.name ≡ d.name = cc in
    let judgements = listed_once (subst (λ x. AreListed c.judgements (HasLinearization mods x)) names (h c (
      0,
      omega arith,
      refl,
    ))) (k d (0, omega arith, refl)) in
    let names_after : map (λ (c : FlatConcrete). c.name) cs ≡ map (λ (d : FlatConcrete). d.name) ds = cc in
    let rest = concretes_once mods cs ds names_after (λ b i. h b (suc i.0, omega (arith, i.1), i.2)) (λ b i. k b (
      suc i.0,
      omega (arith, i.1),
      i.2,
    )) in
    λ i. record { name = names i; judgements = judgements i } ∷ rest i

pub flat_once : (mods : List Module) (chosen : List (List ℕ)) (f g : Flat) → IsFlat mods chosen f → IsFlat mods chosen g → f ≡ g
flat_once mods chosen f g x y =
    let name = x.name ∙ sym y.name in
    let cats = listed_once x.cats_of y.cats_of in
    let start = x.start ∙ ap (λ (es : List FlatJudgement). option_map (λ m. start_of (map (λ (e : FlatJudgement).
    e.whole.name) es) (judgements_of m)) (abstract_in mods chosen)) cats ∙ sym y.start in
    let funs = listed_once x.funs_of y.funs_of in
    let params = listed_once x.params_of y.params_of in
    let opers = listed_once x.opers_of y.opers_of in
    let concretes = concretes_once mods f.concretes g.concretes (x.languages ∙ sym y.languages) x.judgements y.judgements in
    let typed = x.typed ∙ sym y.typed in
    λ i. record {
      name = name i;
      start = start i;
      cats = cats i;
      funs = funs i;
      params = params i;
      opers = opers i;
      concretes
          = concretes i;
      typed = typed i;
    }

-- values that are there in the same cases, and lists of them
same_option : {A : Type 0} (o q : Option A) → ((a : A) → o ≡ Some a ↔ q ≡ Some a) → o ≡ q
same_option None None h = refl
same_option None (Some a) h = (h a).1 refl
same_option (Some a) q h = sym ((h a).0 refl)

options_once : {A : Type 0} (os qs : List (Option A)) → length os ≡ length qs →
    ((k : ℕ) (a : A) → slice_get os k ≡ Some (Some a) ↔ slice_get qs k ≡ Some (Some a)) → os ≡ qs
options_once [] [] e h = refl
options_once [] (q ∷ qs) e h = absurd (omega (arith, e))
options_once (o ∷ os) [] e h = absurd (omega (arith, e))
options_once {A} (o ∷ os) (q ∷ qs) e h =
    let first = same_option o q (λ a. (
      λ s. let there = (h 0 a).0 (ap Some s) in cc,
      λ s. let there = (h 0 a).1 (ap Some s) in cc,
    )) in
    let rest = options_once os qs (omega (arith, e)) (λ k. h (suc k)) in
    λ i. first i ∷ rest i

pub typings_once : (flat : Flat) (ts us : List (Option Typed)) → AreTypings flat ts → AreTypings flat us → ts ≡ us
typings_once flat ts us x y =
    options_once ts us (x.numbers ∙ sym y.numbers) (λ k t. (
      λ s. (y.each k t).1 ((x.each k t).0 s),
      λ s. (x.each k t).1
          ((y.each k t).0 s),
    ))
