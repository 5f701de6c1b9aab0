-- Worked examples of resolved grammars: that of resource R2 = {oper mk : Str = "two" ;} alone, and the order of entries.
use Rattle.std.proofs.Common.{◌≡◌, ap, sym, ◌∙◌, refl, ℕ, zero, suc, Bool, true, false, List, [], ◌∷◌, length, Option, Some, None, subst, arith, inl, inr}
use Rattle.std.proofs.lemmas.Slice.Eq.{bytes_eq-Decides}
use Rattle.std.specs.Prelude.{codes, bytes_eq, AllPairs, Contains, ◌≢◌, ◌⊎◌, slice_get, if◌then◌else◌}
use Rattle.gft_core.specs.declared.place.Place.{Place}
use Rattle.gft_syntax.specs.declared.flat.Flat.{Flat}
use Rattle.gft_syntax.specs.declared.flat.FlatJudgement.{FlatJudgement}
use Rattle.gft_syntax.specs.declared.judgement.Definition.TheVariants as D
use Rattle.gft_syntax.specs.declared.judgement.Judgement.{Judgement}
use Rattle.gft_syntax.specs.declared.judgement.Judgement.TheVariants as J
use Rattle.gft_syntax.specs.declared.judgement.Setting.TheVariants as V
use Rattle.gft_syntax.specs.declared.module.Module.{Module}
use Rattle.gft_syntax.specs.declared.reference.Whole.{Whole}
use Rattle.gft_syntax.specs.declared.term.Term.{Term}
use Rattle.gft_model.specs.Modules.{Is, Has, declares, is_given, inherits, keeps, instantiates, HasNameable, at_home, for_bare, for_qualified, from_opened, functor_of, Means, own_name, Declared, own, Writes, own_text, inherited_of, opened_of, judgements_of, declared_names, mentions, main_name}
use Rattle.gft_model.specs.Resolution.{Names, resolved_judgement}
use Rattle.gft_model.specs.Flats.{whole_of, alone, part_of, IsConstructor, Part, parameters, opers, RestsOn, itself, through, IsMeaning, AreMeanings, IsEntry, HasOfPart, HasAbstract, HasSomewhere, Precedes, AreListed, start_of, IsFlat, categories, functions}
use Rattle.gft_model.specs.Refusals.{Moment, Before, sooner, later_on}
use Rattle.gft_model.proofs.FlatLaws.{listed_once}
use Rattle.gft_model.proofs.ModuleExamples.{resource_of_mk}

-- what stands in a list of one
one_of : {A : Type 0} {x y : A} → Contains (x ∷ []) y → x ≡ y
one_of (zero, b, h) = h
one_of (suc k, b, h) = absurd (omega (arith, b))

-- functions that agree, and options that are the same values
agree : {A B : Type 0} {f g : A → B} → ((x : A) → f x ≡ g x) → f ≡ g
agree h = λ i x. h x i

same_option : {A : Type 0} (o q : Option A) → ((a : A) → o ≡ Some a → q ≡ Some a) → ((a : A) → q ≡ Some a → o ≡ Some a) → o ≡ q
same_option None None h k = refl
same_option None (Some a) h k = k a refl
same_option (Some a) q h k = sym (h a refl)

same_test : (b c : Bool) → (b ≡ true → c ≡ true) → (c ≡ true → b ≡ true) → b ≡ c
same_test true c h k = sym (h refl)
same_test false true h k = k refl
same_test false false h k = refl

module _ (p : Place) (T e : Term) where
  abbrev r2 : Module
  r2 = resource_of_mk p T e (codes "R2")

  abbrev mods : List Module
  mods = r2 ∷ []

  abbrev mk : List ℕ
  mk = codes "mk"

  abbrev text : Judgement
  text = J.OperTyped (record { name = mk; place = p } ∷ []) T (D.Term e)

  is_r2 : {m : Module} → Is mods (codes "R2") m → m ≡ r2
  is_r2 {m} is = let same : Some r2 ≡ Some m = is in cc

  own_only : (k : ℕ) {j : Judgement} → slice_get (judgements_of r2) k ≡ Some j → (k ≡ 0) × (text ≡ j)
  own_only zero {j} g = let same : text ≡ j = cc in (refl, same)
  own_only (suc k) g = cc

  -- R2 has mk and nothing else
  had : {x : List ℕ} {d : Declared} → Has mods (codes "R2") x d → (mk ≡ x) × (d ≡ own (codes "R2") 0)
  had (declares {x = x} k {j = j} is g c) =
      let only = own_only k (subst (λ m. slice_get (judgements_of m) k ≡ Some j) (is_r2 is) g) in
      (one_of (subst (λ i. Contains (declared_names i) x) (sym only.1) c), ap (own (codes "R2")) only.0)
  had (is_given is (inherits (k, b, f) l h)) =
      absurd (let none = ap (λ m. length (inherited_of m.rest)) (is_r2 is) in omega (arith, b, none))
  had (is_given is (keeps f h w u o)) = let same = ap (λ m. m.header) (is_r2 is) in cc
  had (is_given is (instantiates f l h)) = let same = ap (λ m. functor_of m.rest) (is_r2 is) in cc

  has_mk : HasNameable mods (codes "R2") mk (own (codes "R2") 0)
  has_mk = record {
    has = declares 0 refl refl (0, omega arith, refl);
    text = text;
    writes = own_text 0 refl refl;
    nameable = refl;
  }

  -- what names mean there
  meant : {x : List ℕ} {d : Declared} → Means mods (own (codes "R2") 0) None x d → (mk ≡ x) × (d ≡ own (codes "R2") 0)
  meant (own_name k (at_home h)) = had h.has
  meant (own_name k (from_opened is (for_bare (i, b, f) n h))) =
      absurd (let none = ap (λ m. length (opened_of m)) (is_r2 is) in omega (arith, b, none))

  unqualified : {Q x : List ℕ} {d : Declared} → Means mods (own (codes "R2") 0) (Some Q) x d → ⊥
  unqualified (own_name k (from_opened is (for_qualified (i, b, f) q h))) =
      let none = ap (λ m. length (opened_of m)) (is_r2 is) in omega (arith, b, none)

  abbrev only_mk : Option (List ℕ) → List ℕ → Option Whole
  only_mk None x = if bytes_eq mk x then Some (whole_of mk (own (codes "R2") 0)) else None
  only_mk (Some Q) x = None

  abbrev names : Names
  names = record { means = only_mk; is_constructor = λ x. false }

  abbrev here : Declared
  here = own (codes "R2") 0

  written_only : {j : Judgement} → Writes mods here j → text ≡ j
  written_only {j} (own_text k is g) =
      (own_only 0 (subst (λ m. slice_get (judgements_of m) 0 ≡ Some j) (is_r2 is) g)).1

  same_whole : {x : List ℕ} {d : Declared} → mk ≡ x → d ≡ here → whole_of mk here ≡ whole_of x d
  same_whole {x} h k = ap (λ y. whole_of y here) h ∙ ap (whole_of x) (sym k)

  bare_to : (x : List ℕ) (w : Whole) (b : Bool) → bytes_eq mk x ≡ b → (if b then Some (whole_of mk here) else None) ≡ Some w →
      IsMeaning mods here None x w
  bare_to x w true h k =
      let same = (bytes_eq-Decides mk x).0 h in
      let value : whole_of mk here ≡ w = cc in
      record {
        some_meaning = here;
        means = own_name 0 (at_home (subst (λ y. HasNameable mods (codes "R2") y here) same has_mk));
        only_one = λ d m. sym value ∙ same_whole (meant m).0 (meant m).1;
      }
  bare_to x w false h k = cc

  bare_from : (x : List ℕ) (w : Whole) → IsMeaning mods here None x w
      → (if bytes_eq mk x then Some (whole_of mk here) else None) ≡ Some w
  bare_from x w h =
      let m = meant h.means in
      ap (λ b. if b then Some (whole_of mk here) else None) (ap (bytes_eq mk) (sym m.0))
      ∙ ap Some (same_whole m.0 m.1 ∙ sym (h.only_one h.some_meaning h.means))

  no_constructor : (x : List ℕ) → ((d : Declared) × (j : Judgement) × Means mods here None x d × Writes mods d j
      × IsConstructor j x) → false ≡ true
  no_constructor x (d, j, m, w, (n, cs, c, k)) =
      let same : text ≡ J.Param n cs = written_only (subst (λ f. Writes mods f j) (meant m).1 w) ∙ c in cc

  names_to : (q : Option (List ℕ)) (x : List ℕ) (w : Whole) → only_mk q x ≡ Some w → IsMeaning mods here q x w
  names_to None x w h = bare_to x w (bytes_eq mk x) refl h
  names_to (Some Q) x w h = cc

  names_from : (q : Option (List ℕ)) (x : List ℕ) (w : Whole) → IsMeaning mods here q x w → only_mk q x ≡ Some w
  names_from None x w h = bare_from x w h
  names_from (Some Q) x w h = absurd (unqualified h.means)

  meanings : AreMeanings mods here names
  meanings = record {
    of_names = λ q x w. (names_to q x w, names_from q x w);
    of_constructors = λ x. (λ h. cc, no_constructor x);
  }

  names_once : (n : Names) → AreMeanings mods here n → n ≡ names
  names_once n m =
      let b : n.means ≡ only_mk =
      agree (λ q. agree (λ x. same_option (n.means q x) (only_mk q x)
      (λ w h. names_from q x w ((m.of_names q x w).0 h)) (λ w h. (m.of_names q x w).1 (names_to q x w h)))) in
      let c : n.is_constructor ≡ names.is_constructor =
      agree (λ x. same_test (n.is_constructor x) false (λ h. no_constructor x ((m.of_constructors x).0 h)) (λ h. cc)) in
      λ i. record { means = b i; is_constructor = c i }

  abbrev entry : FlatJudgement
  entry = record { whole = whole_of mk here; judgement = resolved_judgement names (alone mk text) }

  entry_of_mk : IsEntry mods mk here text entry
  entry_of_mk = record { names = names; meanings = meanings; whole = refl; judgement = refl }

  rests : {M : List ℕ} → RestsOn mods (codes "R2") M → codes "R2" ≡ M
  rests itself = refl
  rests (through is (k, b, f) r) = absurd (let none = ap (λ m. length (mentions m)) (is_r2 is) in omega (arith, b, none))

  only_entry : {g : Part} {M : List ℕ} {at : Moment} {f : FlatJudgement} → codes "R2" ≡ M → HasOfPart mods g M at f
      → (g ≡ opers) × (f ≡ entry)
  only_entry {g} {f = f} same h =
      let i = h.entry in
      let hd = had (subst (λ N. Has mods N h.name h.declared) (sym same) h.has) in
      let is = written_only (subst (λ c. Writes mods c h.judgement) hd.1 h.writes) in
      let part : Some opers ≡ Some g = ap (part_of h.name) is ∙ h.taken in
      let main : mk ≡ main_name h.judgement h.name = hd.0 ∙ ap (λ k. main_name k h.name) is in
      let whole : f.whole ≡ entry.whole = i.whole ∙ sym (same_whole main hd.1) in
      let judgement : f.judgement ≡ entry.judgement =
      i.judgement ∙ ap (λ n. resolved_judgement n (alone (main_name h.judgement h.name) h.judgement))
      (names_once i.names (subst (λ c. AreMeanings mods c i.names) hd.1 i.meanings))
      ∙ ap (λ y. resolved_judgement names (alone y h.judgement)) (sym main)
      ∙ ap (λ t. resolved_judgement names (alone mk t)) (sym is) in
      (cc, λ k. record { whole = whole k; judgement = judgement k })

  abbrev chosen : List (List ℕ)
  chosen = codes "R2" ∷ []

  somewhere : {g : Part} {at : Moment} {f : FlatJudgement} → HasSomewhere mods g chosen at f → (g ≡ opers) × (f ≡ entry)
  somewhere (C, M, c, r, there, is, h) = only_entry (rests (subst (λ N. RestsOn mods N M) (sym (one_of c)) r)) h

  abbrev flat : Flat
  flat = record { name = None; start = None; cats = []; funs = []; params = []; opers = entry ∷ []; concretes = []; typed = [] }

  nothing : {es : List FlatJudgement} {P : Moment → FlatJudgement → Type 0} → es ≡ [] → ((at : Moment) (f : FlatJudgement)
      → ¬ P at f) → AreListed es P
  nothing {es} e lacks = record {
    all = λ f. (
      λ c. let none = ap (λ (fs : List FlatJudgement). length fs) e in
          absurd (omega (arith, c.1, none)),
      λ h. absurd (lacks h.0 f h.1),
    );
    in_order = λ i j d a b. let none = ap (λ (fs : List FlatJudgement). length fs) e in absurd (omega (arith, b, none));
  }

  no_parameter : (at : Moment) (f : FlatJudgement) → ¬ HasSomewhere mods parameters chosen at f
  no_parameter at f h = let wrong : parameters ≡ opers = (somewhere h).0 in cc

  no_abstract : (p : Part) (at : Moment) (f : FlatJudgement) → ¬ HasAbstract mods p chosen at f
  no_abstract p at f (m, is, h) = cc

  -- the oper is the first of the first judgement of the first chosen module
  has_entry : HasSomewhere mods opers chosen (0 ∷ 1 ∷ 3 ∷ 0 ∷ 0 ∷ []) entry
  has_entry = (
    codes "R2",
    codes "R2",
    (0, omega arith, refl),
    itself,
    (3 ∷ 0 ∷ 0 ∷ []),
    refl,
    record {
      name = mk;
      declared = here;
      judgement = text;
      has = declares 0 refl refl (0, omega arith, refl);
      turn_is = refl;
      writes = own_text 0 refl refl;
      taken = refl;
      entry = entry_of_mk;
    },
  )

  -- the grammar has the one oper and no abstract part
  pub is_flat : IsFlat mods chosen flat
  is_flat = record {
    name = refl;
    start = refl;
    cats_of = nothing refl (no_abstract categories);
    funs_of = nothing refl (no_abstract functions);
    params_of = nothing refl no_parameter;
    opers_of = record {
      all = λ f. (
        λ c. subst (λ g. (at : Moment) × HasSomewhere mods opers chosen at g) (one_of c) (_, has_entry),
        λ h. (
          0,
          omega arith,
          sym (somewhere h.1).1,
        ),
      );
      in_order = λ i j d a b. absurd (omega (arith, a, b));
    };
    languages = refl;
    judgements = λ c k. absurd (omega (arith, k.1));
    typed = refl;
  }

  -- and without it there is no such grammar
  pub no_oper_left_out : (f : Flat) → f.opers ≡ [] → ¬ (IsFlat mods chosen f)
  no_oper_left_out f e h =
      let c = (h.opers_of.all entry).1 (_, has_entry) in
      let none : length f.opers ≡ 0 = ap (λ (es : List FlatJudgement). length es) e in omega (arith, c.1, none)

-- entries stand in the order of their first turns: a, which is met again after b, once and before b
module _ (a b : FlatJudgement) (differ : a ≢ b) where
  abbrev met : List (Moment × FlatJudgement)
  met = (0 ∷ 0 ∷ [], a) ∷ (0 ∷ 1 ∷ [], b) ∷ (1 ∷ [], a) ∷ []

  abbrev IsMet : Moment → FlatJudgement → Type 0
  IsMet at e = Contains met (at, e)

  -- what is met, and the turns of b
  which : {at : Moment} {e : FlatJudgement} → IsMet at e → (e ≡ a) ⊎ (e ≡ b)
  which (zero, c, h) = inl (ap (λ (p : Moment × FlatJudgement). p.1) (sym h))
  which (suc zero, c, h) = inr (ap (λ (p : Moment × FlatJudgement). p.1) (sym h))
  which (suc (suc zero), c, h) = inl (ap (λ (p : Moment × FlatJudgement). p.1) (sym h))
  which (suc (suc (suc k)), c, h) = absurd (omega (arith, c))

  before_b : (at : Moment) → IsMet at b → Before (0 ∷ 0 ∷ []) at
  before_b at (zero, c, h) = absurd (differ (ap (λ (p : Moment × FlatJudgement). p.1) h))
  before_b at (suc zero, c, h) = subst (Before (0 ∷ 0 ∷ [])) (ap (λ (p : Moment × FlatJudgement). p.0) h) (later_on (sooner (omega arith)))
  before_b at (suc (suc zero), c, h) = absurd (differ (ap (λ (p : Moment × FlatJudgement). p.1) h))
  before_b at (suc (suc (suc k)), c, h) = absurd (omega (arith, c))

  in_order : AllPairs (Precedes IsMet) (a ∷ b ∷ [])
  in_order zero (suc zero) d l m = (0 ∷ 0 ∷ [], (0, omega arith, refl), before_b)
  in_order zero zero d l m = absurd (omega (arith, l))
  in_order zero (suc (suc j)) d l m = absurd (omega (arith, m))
  in_order (suc i) zero d l m = absurd (omega (arith, l))
  in_order (suc i) (suc zero) d l m = absurd (omega (arith, l))
  in_order (suc i) (suc (suc j)) d l m = absurd (omega (arith, m))

  is_met : {e : FlatJudgement} → Contains (a ∷ b ∷ []) e → (at : Moment) × IsMet at e
  is_met (zero, c, h) = (0 ∷ 0 ∷ [], (0, omega arith, ap (λ (e : FlatJudgement). (0 ∷ 0 ∷ [], e)) h))
  is_met (suc zero, c, h) = (0 ∷ 1 ∷ [], (1, omega arith, ap (λ (e : FlatJudgement). (0 ∷ 1 ∷ [], e)) h))
  is_met (suc (suc k), c, h) = absurd (omega (arith, c))

  is_listed : {e : FlatJudgement} → (e ≡ a) ⊎ (e ≡ b) → Contains (a ∷ b ∷ []) e
  is_listed (inl h) = (0, omega arith, sym h)
  is_listed (inr h) = (1, omega arith, sym h)

  pub listed : AreListed (a ∷ b ∷ []) IsMet
  listed = record { all = λ e. (is_met, λ h. is_listed (which h.1)); in_order = in_order }

  pub not_in_another_order : ¬ (AreListed (b ∷ a ∷ []) IsMet)
  not_in_another_order h = let same = listed_once listed h in let first : a ≡ b = cc in differ first

-- the start category: the last flag that names a category, else S, else the first in byte order, else Int
module _ (p : Place) where
  abbrev flag : List ℕ → Judgement
  flag C = J.Flag (record { name = codes "startcat"; place = p }) (V.Name C)

  last_flag : start_of (codes "A" ∷ codes "B" ∷ []) (flag (codes "A") ∷ flag (codes "B") ∷ flag (codes "None") ∷ []) ≡ codes "B"
  last_flag = refl

  flag_of_literals : start_of (codes "S" ∷ []) (flag (codes "String") ∷ []) ≡ codes "String"
  flag_of_literals = refl

  start_s : start_of (codes "A" ∷ codes "S" ∷ []) (flag (codes "None") ∷ []) ≡ codes "S"
  start_s = refl

  first_by_name : start_of (codes "C" ∷ codes "AB" ∷ codes "B" ∷ []) [] ≡ codes "AB"
  first_by_name = refl

  no_category : start_of [] [] ≡ codes "Int"
  no_category = refl
