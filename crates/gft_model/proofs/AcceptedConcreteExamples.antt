-- A worked example of a concrete module that is accepted, concrete EEng of E = {lincat S = {s : Str} ;}.
use Rattle.std.proofs.Common.{◌≡◌, ap, sym, ◌∙◌, refl, ℕ, zero, suc, true, false, Bool, List, [], ◌∷◌, ◌++◌, Some, subst, arith}
use Rattle.std.specs.Prelude.{codes, filter, Contains, slice_get, ◌||◌, if◌then◌else◌}
use Rattle.gft_syntax.specs.declared.flat.Flat.{Flat}
use Rattle.gft_syntax.specs.declared.flat.FlatJudgement.{FlatJudgement}
use Rattle.gft_syntax.specs.declared.judgement.Judgement.{Judgement}
use Rattle.gft_syntax.specs.declared.module.Module.{Module}
use Rattle.gft_model.specs.Flats.{HasEntry, alone, whole_of}
use Rattle.gft_model.specs.Import.{HasOrder, in_order, BreaksModule, in_header, twice, in_names, in_abstract, in_types, in_instance}
use Rattle.gft_model.specs.JudgementOrder.{IsMet, typed_again}
use Rattle.gft_model.specs.Modules.{Writes, is_interface, is_incomplete}
use Rattle.gft_model.specs.Refusals.{Moment, IsAccepted}
use Rattle.gft_model.specs.Resolution.{Names, resolved_judgement}
use Rattle.gft_model.specs.TypeFaults.{BreaksTypes}
use Rattle.gft_model.proofs.AcceptedAbstractExamples.{turns_are, in_either, got, no_instance_of}
use Rattle.gft_model.proofs.AcceptedEntriesExamples.{lincat_entry}
use Rattle.gft_model.proofs.AcceptedHeaderExamples.{had, written, e_eng_header, e_eng_redefines_none}
use Rattle.gft_model.proofs.AcceptedNamesExamples.{one_of, none_of, abstract_e, lincat_of, e_eng, mods, no_name_broken}
use Rattle.gft_model.proofs.AcceptedTypesExamples.{no_entry_broken}

-- the judgement of EEng, whatever its names mean
pub record IsLincat (e : FlatJudgement) : Type 0 where
  pub names : Names
  pub whole : e.whole ≡ lincat_entry.whole
  pub judgement : e.judgement ≡ resolved_judgement names (lincat_of (codes "S"))

-- EEng has nothing else, and it is its own
pub lincat_is : {Takes : List ℕ → Judgement → Type 0} {entry_name : Judgement → List ℕ → List ℕ} {at : Moment} {e : FlatJudgement}
    → entry_name (lincat_of (codes "S")) (codes "S") ≡ codes "S" → HasEntry mods Takes entry_name (codes "EEng") at e → IsLincat e
lincat_is {entry_name = entry_name} {e = e} main h =
    let there = had mods (codes "EEng") e_eng (lincat_of (codes "S")) refl (λ n i e. cc) refl h.has in
    let text =
    written mods (codes "EEng") e_eng (lincat_of (codes "S")) refl (λ n i e. cc) refl
    (subst (λ d. Writes mods d h.judgement) there.1 h.writes) in
    let name : entry_name h.judgement h.name ≡ codes "S" = (λ i. entry_name (text i) (sym (one_of there.0) i)) ∙ main in
    record {
      names = h.entry.names;
      whole = h.entry.whole ∙ ap (λ x. whole_of x h.declared) name ∙ ap (whole_of (codes "S")) there.1;
      judgement =
          h.entry.judgement ∙ ap (λ j. resolved_judgement h.entry.names (alone (entry_name h.judgement h.name) j)) text
          ∙ ap (λ x. resolved_judgement h.entry.names (alone x (lincat_of (codes "S")))) name;
    }

-- neither module is an interface or incomplete
pub module_is_complete : (i : ℕ) (m : Module) → slice_get mods i ≡ Some m →
    (is_interface m.header || is_incomplete m.header) ≡ false
module_is_complete zero m e =
    let same : m ≡ abstract_e 1 = cc in ap (λ (k : Module). is_interface k.header || is_incomplete k.header) same
module_is_complete (suc zero) m e =
    let same : m ≡ e_eng = cc in ap (λ (k : Module). is_interface k.header || is_incomplete k.header) same
module_is_complete (suc (suc i)) m e = cc

met_none : {at : Moment} {e : FlatJudgement} → IsMet mods at e → ⊥
met_none (i, m, within, a, g, b, h) = let wrong : true ≡ false = sym b ∙ module_is_complete i m g in cc

kept_is : (e d : FlatJudgement) (rest : List FlatJudgement) (P : FlatJudgement → Type 0) (b : Bool) → P d →
    (Contains rest e → P e) → Contains (if b then d ∷ rest else rest) e → P e
kept_is e d rest P true h k (zero, i, j) = subst P j h
kept_is e d rest P true h k (suc n, i, j) = k (n, omega (arith, i), j)
kept_is e d rest P false h k c = k c

kept_are : (P : FlatJudgement → Type 0) (f : FlatJudgement → Bool) (es : List FlatJudgement) →
    ((e : FlatJudgement) → Contains es e → P e) → (e : FlatJudgement) → Contains (filter f es) e → P e
kept_are P f [] h e c = absurd (none_of c)
kept_are P f (d ∷ es) h e c =
    kept_is e d (filter f es) P (f d) (h d (0, omega arith, refl))
    (kept_are P f es (λ g i. h g (suc i.0, omega (arith, i.1), i.2)) e) c

again_are : (P : FlatJudgement → Type 0) (es : List FlatJudgement) → ((e : FlatJudgement) → Contains es e → P e) →
    (e : FlatJudgement) → Contains (typed_again es) e → P e
again_are P es h =
    in_either _ _ P (kept_are P _ es h) (in_either _ _ P (kept_are P _ es h) (in_either _ _ P (kept_are P _ es h)
    (in_either _ [] P (kept_are P _ es h) (λ e c. absurd (none_of c)))))

order_is : {flat : Flat} {order again : List FlatJudgement} → HasOrder mods e_eng flat order again →
    (e : FlatJudgement) → Contains (order ++ typed_again again) e → IsLincat e
order_is (in_order {new} {met} {order} {again} n m t a) =
    in_either order (typed_again again) IsLincat
    (turns_are IsLincat t (in_either new met IsLincat each_new each_met) each_new)
    (again_are IsLincat again (λ e c. let h = (a.all e).0 c in lincat_is refl h.1))
  where
    each_new : (e : FlatJudgement) → Contains new e → IsLincat e
    each_new e c = let h = (n.all e).0 c in lincat_is refl h.1.3

    each_met : (e : FlatJudgement) → Contains met e → IsLincat e
    each_met e c = let h = (m.all e).0 c in absurd (met_none h.1)

-- so the module is accepted, as a named source and otherwise
pub e_eng_accepted : (named_source : Bool) → IsAccepted (BreaksModule mods named_source e_eng)
e_eng_accepted named_source at r (in_header {rule = rule} {n = n} {ms = ms} b) = e_eng_header named_source rule n ms b
e_eng_accepted named_source at r (twice {at = within} b) = e_eng_redefines_none within r b
e_eng_accepted named_source at r (in_names {rule = rule} {n = n} {ms = ms} c a b) = no_name_broken c rule n ms b
e_eng_accepted named_source at r (in_abstract a v o g b) = cc
e_eng_accepted named_source at r (in_types {flat} {order} {again} {k} {e = e} {at = within} a v o g b) =
    let entry = order_is o e (got (order ++ typed_again again) k g) in
    no_entry_broken flat entry.names within r
    (subst (λ j. BreaksTypes flat (codes "EEng") lincat_entry.whole j within r) entry.judgement
    (subst (λ w. BreaksTypes flat (codes "EEng") w e.judgement within r) entry.whole b))
e_eng_accepted named_source at r (in_instance v o b) = no_instance_of (λ n i e. cc) b
