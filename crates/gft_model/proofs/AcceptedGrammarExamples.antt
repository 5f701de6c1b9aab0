-- A worked example of a resolved grammar of one category, that of abstract E = {cat S ;}.
use Rattle.std.proofs.Common.{◌≡◌, ap, sym, ◌∙◌, refl, ℕ, true, false, Bool, List, [], ◌∷◌, Option, Some, None, subst, arith}
use Rattle.std.proofs.lemmas.Slice.Eq.{bytes_eq-Decides}
use Rattle.std.specs.Prelude.{codes, bytes_eq, Contains, if◌then◌else◌}
use Rattle.gft_syntax.specs.declared.flat.Flat.{Flat}
use Rattle.gft_syntax.specs.declared.flat.FlatJudgement.{FlatJudgement}
use Rattle.gft_syntax.specs.declared.judgement.Judgement.{Judgement}
use Rattle.gft_syntax.specs.declared.module.Module.{Module}
use Rattle.gft_syntax.specs.declared.reference.Whole.{Whole}
use Rattle.gft_model.specs.Flats.{IsConstructor, IsMeaning, AreMeanings, AreListed, HasOfPart, HasAbstract, HasSomewhere, RestsOn, itself, through, Part, categories, parameters, opers, whole_of}
use Rattle.gft_model.specs.Import.{IsView}
use Rattle.gft_model.specs.Modules.{Is, HasNameable, Means, own_name, at_home, own, own_text, declares, Declared, Writes, header_name, mentions}
use Rattle.gft_model.specs.Refusals.{Moment}
use Rattle.gft_model.specs.Resolution.{Names}
use Rattle.gft_model.proofs.AcceptedAbstractExamples.{category_s, entry_of_s, had_in_e, written_in_e, entry_is}
use Rattle.gft_model.proofs.AcceptedEntriesExamples.{means_own}
use Rattle.gft_model.proofs.AcceptedNamesExamples.{one_of, none_of, abstract_e}

-- WHAT NAMES MEAN IN E

module _ (mods : List Module) (file : ℕ) (is : Is mods (codes "E") (abstract_e file)) where
  abbrev here : Declared
  here = own (codes "E") 0

  abbrev whole_s : Whole
  whole_s = whole_of (codes "S") here

  has_s : HasNameable mods (codes "E") (codes "S") here
  has_s = record {
    has = declares 0 is refl (0, omega arith, refl);
    text = category_s file;
    writes = own_text 0 is refl;
    nameable = refl;
  }

  abbrev only_s : Option (List ℕ) → List ℕ → Option Whole
  only_s None x = if bytes_eq (codes "S") x then Some whole_s else None
  only_s (Some Q) x = None

  abbrev names : Names
  names = record { means = only_s; is_constructor = λ x. false }

  meant : {q : Option (List ℕ)} {x : List ℕ} {d : Declared} → Means mods here q x d →
      (q ≡ None) × (codes "S" ≡ x) × (d ≡ here)
  meant m =
      let there = means_own mods (codes "E") (abstract_e file) (category_s file) refl (λ n i e. cc) is m in
      let had = had_in_e mods file is there.1.has in (there.0, had.0, had.1)

  same_whole : {x : List ℕ} {d : Declared} → codes "S" ≡ x → d ≡ here → whole_s ≡ whole_of x d
  same_whole {x} h k = ap (λ y. whole_of y here) h ∙ ap (whole_of x) (sym k)

  bare_to : (x : List ℕ) (w : Whole) (b : Bool) → bytes_eq (codes "S") x ≡ b → (if b then Some whole_s else None) ≡ Some w →
      IsMeaning mods here None x w
  bare_to x w true h k =
      let same = (bytes_eq-Decides (codes "S") x).0 h in
      let value : whole_s ≡ w = cc in
      record {
        some_meaning = here;
        means = own_name 0 (at_home (subst (λ y. HasNameable mods (codes "E") y here) same has_s));
        only_one = λ d m. sym value ∙ same_whole (meant m).1 (meant m).2;
      }
  bare_to x w false h k = cc

  names_to : (q : Option (List ℕ)) (x : List ℕ) (w : Whole) → only_s q x ≡ Some w → IsMeaning mods here q x w
  names_to None x w h = bare_to x w (bytes_eq (codes "S") x) refl h
  names_to (Some Q) x w h = cc

  names_from : (q : Option (List ℕ)) (x : List ℕ) (w : Whole) → IsMeaning mods here q x w → only_s q x ≡ Some w
  names_from None x w h =
      let m = meant h.means in
      ap (λ b. if b then Some whole_s else None) (ap (bytes_eq (codes "S")) (sym m.1))
      ∙ ap Some (same_whole m.1 m.2 ∙ sym (h.only_one h.some_meaning h.means))
  names_from (Some Q) x w h = let wrong = (meant h.means).0 in cc

  no_constructor : (x : List ℕ) → ((d : Declared) × (j : Judgement) × Means mods here None x d × Writes mods d j
      × IsConstructor j x) → false ≡ true
  no_constructor x (d, j, m, w, (n, cs, c, k)) =
      let text = written_in_e mods file is (subst (λ f. Writes mods f j) (meant m).2 w) in cc

  meanings : AreMeanings mods here names
  meanings = record {
    of_names = λ q x w. (names_to q x w, names_from q x w);
    of_constructors = λ x. (λ h. cc, no_constructor x);
  }

  -- so it has the category
  pub has_category : HasOfPart mods categories (codes "E") (3 ∷ 0 ∷ 0 ∷ []) (entry_of_s file)
  unfolding has_s
  has_category = record {
    name = codes "S";
    declared = here;
    judgement = category_s file;
    has = has_s.has;
    turn_is = refl;
    writes = has_s.writes;
    taken = refl;
    entry = record { names = names; meanings = meanings; whole = refl; judgement = refl };
  }

-- THE RESOLVED GRAMMAR

abbrev pub mods : List Module
mods = abstract_e 0 ∷ []

abbrev pub flat : Flat
flat = record {
  name = Some (codes "E");
  start = Some (codes "S");
  cats = entry_of_s 0 ∷ [];
  funs = [];
  params = [];
  opers = [];
  concretes = [];
  typed = [];
}

abbrev chosen : List (List ℕ)
chosen = codes "E" ∷ []

of_part : {p : Part} {at : Moment} {e : FlatJudgement} → HasOfPart mods p (codes "E") at e →
    (e ≡ entry_of_s 0) × (p ≡ categories)
of_part {p} h =
    let there = entry_is mods 0 refl refl h in
    let part : Some categories ≡ Some p = there.1 in (there.0, cc)

of_abstract : {p : Part} {at : Moment} {e : FlatJudgement} → HasAbstract mods p chosen at e →
    (e ≡ entry_of_s 0) × (p ≡ categories)
of_abstract {p} {at} {e} (m, is, h) =
    let same : m ≡ abstract_e 0 = cc in
    of_part (subst (λ (k : Module). HasOfPart mods p (header_name k.header).name at e) same h)

rests : {M : List ℕ} → RestsOn mods (codes "E") M → codes "E" ≡ M
rests itself = refl
rests (through {m = m} {n = n} is c r) =
    let same : m ≡ abstract_e 0 = cc in absurd (none_of (subst (λ (k : Module). Contains (mentions k) n) same c))

somewhere : {p : Part} {at : Moment} {e : FlatJudgement} → HasSomewhere mods p chosen at e → (e ≡ entry_of_s 0) × (p ≡ categories)
somewhere {p} {e = e} (C, M, c, r, there, is, h) =
    let same = rests (subst (λ N. RestsOn mods N M) (sym (one_of c)) r) in
    of_part (subst (λ N. HasOfPart mods p N there e) (sym same) h)

lists_none : {P : Moment → FlatJudgement → Type 0} → ((at : Moment) (e : FlatJudgement) → ¬ P at e) → AreListed [] P
lists_none lacks = record {
  all = λ e. (λ c. absurd (none_of c), λ h. absurd (lacks h.0 e h.1));
  in_order = λ i j d a b. absurd (omega (arith, b));
}

no_part : {p : Part} → (p ≡ categories → ⊥) → (at : Moment) (e : FlatJudgement) → ¬ (HasAbstract mods p chosen at e)
no_part n at e h = n (of_abstract h).1

pub is_view : IsView mods (abstract_e 0) flat
is_view = record {
  name = refl;
  start = refl;
  cats_of = record {
    all = λ e. (
      λ c. subst (λ f. (at : Moment) × HasAbstract mods categories chosen at f) (one_of c)
          (_, (abstract_e 0, refl, has_category mods 0 refl)),
      λ h. (0, omega arith, sym (of_abstract h.1).0),
    );
    in_order = λ i j d a b. absurd (omega (arith, a, b));
  };
  funs_of = lists_none (no_part (λ e. cc));
  params_of = lists_none (λ at e h. let wrong : parameters ≡ categories = (somewhere h).1 in cc);
  opers_of = lists_none (λ at e h. let wrong : opers ≡ categories = (somewhere h).1 in cc);
  languages = refl;
  judgements = λ c k. absurd (none_of k);
  typed = refl;
}
