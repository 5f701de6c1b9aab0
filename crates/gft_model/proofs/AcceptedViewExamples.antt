-- A worked example of the resolved grammar of a language, that of EEng: the category of E and the lincat of EEng.
use Rattle.std.proofs.Common.{◌≡◌, ap, sym, ◌∙◌, refl, ℕ, zero, suc, List, [], ◌∷◌, Some, None, subst, arith, ◌⊎◌, inl, inr}
use Rattle.std.specs.Prelude.{codes, Contains}
use Rattle.gft_syntax.specs.declared.flat.FlatConcrete.{FlatConcrete}
use Rattle.gft_syntax.specs.declared.flat.FlatJudgement.{FlatJudgement}
use Rattle.gft_syntax.specs.declared.judgement.Judgement.TheVariants as J
use Rattle.gft_syntax.specs.declared.module.Module.{Module}
use Rattle.gft_model.specs.Flats.{AreListed, HasOfPart, HasAbstract, HasSomewhere, HasLinearization, RestsOn, itself, through, Part, categories, functions, parameters, opers, part_of}
use Rattle.gft_model.specs.Import.{IsView, HasLanguage, of_module}
use Rattle.gft_model.specs.Modules.{Is, own, own_text, declares, Writes, header_name, mentions}
use Rattle.gft_model.specs.Refusals.{Moment}
use Rattle.gft_model.proofs.AcceptedAbstractExamples.{entry_of_s, entry_is}
use Rattle.gft_model.proofs.AcceptedConcreteExamples.{lincat_is}
use Rattle.gft_model.proofs.AcceptedEntriesExamples.{no_names, lincat_entry, is_entry}
use Rattle.gft_model.proofs.AcceptedGrammarExamples.{has_category}
use Rattle.gft_model.proofs.AcceptedHeaderExamples.{had, written}
use Rattle.gft_model.proofs.AcceptedLanguageExamples.{untyped, typings, are_typings}
use Rattle.gft_model.proofs.AcceptedNamesExamples.{one_of, none_of, named, abstract_e, lincat_of, e_eng, mods, is_of_e}
use Rattle.gft_model.proofs.AcceptedTypesExamples.{type_resolved}

abbrev chosen : List (List ℕ)
chosen = codes "E" ∷ codes "EEng" ∷ []

-- the parts of E, and of EEng
of_e : {p : Part} {at : Moment} {e : FlatJudgement} → HasOfPart mods p (codes "E") at e → (e ≡ entry_of_s 1) × (p ≡ categories)
of_e {p} h =
    let there = entry_is mods 1 refl refl h in
    let part : Some categories ≡ Some p = there.1 in (there.0, cc)

of_e_eng : {p : Part} {at : Moment} {e : FlatJudgement} → HasOfPart mods p (codes "EEng") at e → ⊥
of_e_eng {p} h =
    let there = had mods (codes "EEng") e_eng (lincat_of (codes "S")) refl (λ n i e. cc) refl h.has in
    let text =
    written mods (codes "EEng") e_eng (lincat_of (codes "S")) refl (λ n i e. cc) refl
    (subst (λ d. Writes mods d h.judgement) there.1 h.writes) in
    let wrong : None ≡ Some p = ap (part_of h.name) (sym text) ∙ h.taken in cc

of_abstract : {p : Part} {at : Moment} {e : FlatJudgement} → HasAbstract mods p chosen at e →
    (e ≡ entry_of_s 1) × (p ≡ categories)
of_abstract {p} {at} {e} (m, is, h) =
    let same : m ≡ abstract_e 1 = cc in
    of_e (subst (λ (k : Module). HasOfPart mods p (header_name k.header).name at e) same h)

-- they rest on no others
rests_of_e : {C M : List ℕ} → RestsOn mods C M → codes "E" ≡ C → codes "E" ≡ M
rests_of_e itself e = e
rests_of_e (through {m = m} {n = n} is c r) e =
    let there : Is mods (codes "E") m = subst (λ N. Is mods N m) (sym e) is in
    let same : m ≡ abstract_e 1 = cc in absurd (none_of (subst (λ (k : Module). Contains (mentions k) n) same c))

rests_of_e_eng : {C M : List ℕ} → RestsOn mods C M → codes "EEng" ≡ C → (codes "E" ≡ M) ⊎ (codes "EEng" ≡ M)
rests_of_e_eng itself e = inr e
rests_of_e_eng (through {m = m} {n = n} is c r) e =
    let there : Is mods (codes "EEng") m = subst (λ N. Is mods N m) (sym e) is in
    let same : m ≡ e_eng = cc in
    let name = one_of (subst (λ (k : Module). Contains (mentions k) n) same c) in
    inl (rests_of_e r (ap (λ k. k.name) name))

rests : {C M : List ℕ} → Contains chosen C → RestsOn mods C M → (codes "E" ≡ M) ⊎ (codes "EEng" ≡ M)
rests (zero, b, e) r = inl (rests_of_e r e)
rests (suc zero, b, e) r = rests_of_e_eng r e
rests (suc (suc k), b, e) r = absurd (omega (arith, b))

somewhere : {p : Part} {at : Moment} {e : FlatJudgement} → HasSomewhere mods p chosen at e → p ≡ categories
somewhere {p} {e = e} (C, M, c, r, there, is, h) = of (rests c r) where
  of : (codes "E" ≡ M) ⊎ (codes "EEng" ≡ M) → p ≡ categories
  of (inl same) = (of_e (subst (λ N. HasOfPart mods p N there e) (sym same) h)).1
  of (inr same) = absurd (of_e_eng (subst (λ N. HasOfPart mods p N there e) (sym same) h))

lists_none : {P : Moment → FlatJudgement → Type 0} → ((at : Moment) (e : FlatJudgement) → ¬ P at e) → AreListed [] P
lists_none lacks = record {
  all = λ e. (λ c. absurd (none_of c), λ h. absurd (lacks h.0 e h.1));
  in_order = λ i j d a b. absurd (omega (arith, b));
}

lists_one : {P : Moment → FlatJudgement → Type 0} (f : FlatJudgement) (first : Moment) → P first f →
    ((at : Moment) (e : FlatJudgement) → P at e → f ≡ e) → AreListed (f ∷ []) P
lists_one {P} f first has only = record {
  all = λ e. (λ c. subst (λ g. (at : Moment) × P at g) (one_of c) (first, has), λ h. (0, omega arith, only h.0 e h.1));
  in_order = λ i j d a b. absurd (omega (arith, a, b));
}

-- the lincat is of the category
has_lincat : HasLinearization mods (codes "EEng") (3 ∷ 0 ∷ 0 ∷ []) lincat_entry
has_lincat = record {
  name = codes "S";
  declared = own (codes "EEng") 0;
  judgement = lincat_of (codes "S");
  has = declares 0 refl refl (0, omega arith, refl);
  turn_is = refl;
  writes = own_text 0 refl refl;
  taken = (e_eng, named 0 18 (codes "E"), refl, (0, omega arith, refl), is_of_e);
  entry = is_entry;
}

only_lincat : (at : Moment) (e : FlatJudgement) → HasLinearization mods (codes "EEng") at e → lincat_entry ≡ e
only_lincat at e h =
    let there = lincat_is refl h in
    let judgement : e.judgement ≡ lincat_entry.judgement =
    there.judgement ∙ ap (J.Lincat (named 0 30 (codes "S") ∷ [])) (type_resolved there.names ∙ sym
    (type_resolved no_names)) in
    sym (λ i. record { whole = there.whole i; judgement = judgement i })

pub is_view : IsView mods e_eng untyped
is_view = record {
  name = refl;
  start = refl;
  cats_of = lists_one (entry_of_s 1) _ (abstract_e 1, refl, has_category mods 1 refl) (λ at e h. sym (of_abstract h).0);
  funs_of = lists_none (λ at e h. let wrong : functions ≡ categories = (of_abstract h).1 in cc);
  params_of = lists_none (λ at e h. let wrong : parameters ≡ categories = somewhere h in cc);
  opers_of = lists_none (λ at e h. let wrong : opers ≡ categories = somewhere h in cc);
  languages = refl;
  judgements = λ c k. subst (λ (d : FlatConcrete). AreListed d.judgements (HasLinearization mods d.name)) (one_of k)
      (lists_one lincat_entry _ has_lincat only_lincat);
  typed = refl;
}

-- so it is the language of a source of that name
pub has_language : HasLanguage mods (codes "EEng.gf") (codes "EEng") (record untyped { typed = typings })
has_language = of_module refl refl is_view are_typings
