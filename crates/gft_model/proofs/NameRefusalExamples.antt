-- Worked examples of names: the mk of AmbEng, which two opened modules give, is ambiguous, and means something; what is before a
-- dot; a variable that a pattern binds twice.
use Rattle.std.proofs.Common.{◌≡◌, ap, sym, ◌∙◌, refl, ℕ, zero, suc, true, false, Bool, List, [], ◌∷◌, ◌++◌, length, Some, None, subst, arith}
use Rattle.std.specs.Prelude.{codes, bytes_eq, Contains, slice_get, not, ◌||◌, if◌then◌else◌}
use Rattle.gft_core.specs.declared.place.Place.{Place}
use Rattle.gft_rules.specs.Rules.{code_of}
use Rattle.gft_rules.specs.declared.rule.Rule.TheVariants as R
use Rattle.gft_syntax.specs.declared.judgement.Definition.TheVariants as D
use Rattle.gft_syntax.specs.declared.judgement.Judgement.{Judgement}
use Rattle.gft_syntax.specs.declared.judgement.Judgement.TheVariants as J
use Rattle.gft_syntax.specs.declared.module.Header.TheVariants.{Resource, Concrete}
use Rattle.gft_syntax.specs.declared.module.Module.{Module}
use Rattle.gft_syntax.specs.declared.module.Opened.TheVariants.{Plain}
use Rattle.gft_syntax.specs.declared.module.Rest.TheVariants.{Own}
use Rattle.gft_syntax.specs.declared.reference.PlacedName.{PlacedName}
use Rattle.gft_syntax.specs.declared.reference.Reference.TheVariants.{Written}
use Rattle.gft_syntax.specs.declared.pattern.Pattern.{Pattern, roll-Pattern}
use Rattle.gft_syntax.specs.declared.pattern.Pattern.TheOpen as P
use Rattle.gft_syntax.specs.declared.pattern.Pattern.TheFolds.{fold-roll-Pattern}
use Rattle.gft_syntax.specs.declared.term.Case.{Case}
use Rattle.gft_syntax.specs.declared.term.Local.TheVariants.{Value}
use Rattle.gft_model.specs.Resolution.{is_local}
use Rattle.gft_syntax.specs.declared.term.Term.{Term, roll-Term, out-Term}
use Rattle.gft_syntax.specs.declared.term.Term.TheOpen as T
use Rattle.gft_syntax.specs.declared.term.Term.TheViews.{out-roll-Term}
use Rattle.gft_model.specs.Modules.{Is, Has, Sees, functor_of, declares, is_given, inherits, keeps, instantiates, HasNameable, Offers, for_bare, from_opened, Declared, own, own_text, module_of, inherited_of, judgements_of, opened_of, declared_names}
use Rattle.gft_model.specs.NameFaults
use Rattle.gft_model.specs.HeaderFaults.{Clash}
use Rattle.gft_model.specs.Refusals.{refusal, sooner, later_on, name_at}
use Rattle.gft_model.specs.Import.{BreaksModule, in_names}
use Rattle.gft_syntax.specs.Parts.{parts, term_under}

abbrev here : ℕ → ℕ → Place
here line col = record { file = 0; line = line; col = col }

abbrev named : ℕ → List ℕ → PlacedName
named col x = record { name = x; place = here 1 col }

abbrev mk : List ℕ
mk = codes "mk"

-- a judgement that declares another name does not declare mk
not_listed : (x : List ℕ) → bytes_eq x mk ≡ false → Contains (x ∷ []) mk → ⊥
not_listed x d (zero, b, e) = let wrong : false ≡ true = sym d ∙ ap (λ z. bytes_eq z mk) e in cc
not_listed x d (suc k, b, e) = absurd (omega (arith, b))

not_declared : {i j : Judgement} (x : List ℕ) → declared_names i ≡ x ∷ [] → bytes_eq x mk ≡ false → Some i ≡ Some j →
    Contains (declared_names j) mk → ⊥
not_declared {i} {j} x e d g c =
    let same : i ≡ j = cc in not_listed x d (subst (λ ns. Contains ns mk) (sym (ap declared_names same) ∙ e) c)

-- resource R1 = {oper mk : Str = "one" ;}, and R2 in the same way
module _ (t e : Term) where
  abbrev resource_of_mk : List ℕ → Module
  resource_of_mk R = record {
    header = Resource (named 10 R);
    rest = Own [] (record { opened = []; judgements = J.OperTyped (named 21 mk ∷ []) t (D.Term e) ∷ [] });
  }

  -- concrete AmbEng of Amb = open R1, R2 in {lincat S = .. ; lin a = {s = mk} ;}
  abbrev use_of_mk : Judgement
  use_of_mk =
      J.Lin (record { name = codes "a"; place = here 3 7 } ∷ []) []
      (roll-Term (T.Fields (Value (codes "s" ∷ []) (roll-Term (T.Var (Written mk) (here 3 16))) ∷ []) (here 3 11)))

  abbrev amb_eng : Module
  amb_eng = record {
    header = Concrete (named 10 (codes "AmbEng")) (named 20 (codes "Amb"));
    rest = Own [] (record {
      opened = Plain (named 31 (codes "R1")) ∷ Plain (named 35 (codes "R2")) ∷ [];
      judgements = J.Lincat (named 0 (codes "S") ∷ []) t ∷ use_of_mk ∷ [];
    });
  }

  abbrev mods : List Module
  mods = resource_of_mk (codes "R1") ∷ resource_of_mk (codes "R2") ∷ amb_eng ∷ []

  mk_of : (R : List ℕ) → Is mods R (resource_of_mk R) → HasNameable mods R mk (own R 0)
  mk_of R is = record {
    has = declares 0 is refl (0, omega arith, refl);
    text = J.OperTyped (named 21 mk ∷ []) t (D.Term e);
    writes = own_text 0 is refl;
    nameable = refl;
  }

  is_amb_eng : {m : Module} → Is mods (codes "AmbEng") m → m ≡ amb_eng
  is_amb_eng {m} is = let same : Some amb_eng ≡ Some m = is in cc

  -- the names of the two judgements are not mk
  not_own : {j : Judgement} (k : ℕ) → slice_get (judgements_of amb_eng) k ≡ Some j → Contains (declared_names j) mk → ⊥
  not_own zero g c = not_declared (codes "S") refl refl g c
  not_own (suc zero) g c = not_declared (codes "a") refl refl g c
  not_own (suc (suc k)) g c = cc

  not_had : (d : Declared) → ¬ (Has mods (codes "AmbEng") mk d)
  not_had d (declares k {j = j} is g c) = not_own k (subst (λ m. slice_get (judgements_of m) k ≡ Some j) (is_amb_eng is) g) c
  not_had d (is_given is (inherits (k, b, f) l h)) =
      absurd (let none = ap (λ m. length (inherited_of m.rest)) (is_amb_eng is) in omega (arith, b, none))
  not_had d (is_given is (keeps f h w u o)) = let same = ap (λ m. m.header) (is_amb_eng is) in cc
  not_had d (is_given is (instantiates f l h)) = let same = ap (λ m. functor_of m.rest) (is_amb_eng is) in cc

  no_name : {e : Term} {d : T.Term-F Term} → out-Term e ≡ d → ((q : Term) (x : List ℕ) (p : Place) → d ≡ T.Proj q x p → ⊥) →
      ((f a : Term) (p : Place) → d ≡ T.App f a p → ⊥) → NameFaults.IsName e → ⊥
  no_name h no_dot no_argument (NameFaults.qualified {q} {x} {a} e f) = no_dot q x a (sym h ∙ e)
  no_name h no_dot no_argument (NameFaults.of_predef {q} {x} {a} e f g) = no_dot q x a (sym h ∙ e)
  no_name h no_dot no_argument (NameFaults.of_ints {f} {a} {place} e g i) = no_argument f a place (sym h ∙ e)

  -- the mk of the record stands where no variable is bound
  mk_within : (is_constructor : List ℕ → Bool) → NameFaults.Within mods amb_eng is_constructor [] false (roll-Term (T.Var (Written mk) (here 3 16)))
  mk_within is_constructor =
      NameFaults.in_term (NameFaults.in_judgement {j = use_of_mk} (1, omega arith, refl) (0, omega arith, refl))
      (no_name (out-roll-Term _) (λ q x p f. cc) (λ f a p g. cc))
      (subst (λ d. Contains (parts d) (term_under [] (roll-Term (T.Var (Written mk) (here 3 16))))) (sym (out-roll-Term _)) (0, omega arith, refl))

  used : (is_constructor : List ℕ → Bool) → NameFaults.Uses mods amb_eng is_constructor None (name_at mk (here 3 16))
  used is_constructor = NameFaults.alone (mk_within is_constructor) (out-roll-Term _) refl

  mk_clash : Clash (Offers mods amb_eng mk None) (named 31 (codes "R1")) (named 35 (codes "R2"))
  mk_clash = (
    own (codes "R1") 0,
    own (codes "R2") 0,
    for_bare (0, omega arith, refl) (λ d h. not_had d h.has) (mk_of (codes "R1") refl),
    for_bare (1, omega arith, refl) (λ d h. not_had d h.has) (mk_of (codes "R2") refl),
    λ q. let wrong : true ≡ false = ap (λ d. bytes_eq (module_of d) (codes "R1")) q in cc,
    later_on (sooner (omega arith)),
  )

  -- 3:16, with mk, R1, R2
  pub mk_is_ambiguous : (named_source : Bool) (is_constructor : List ℕ → Bool) → NameFaults.AreConstructors mods amb_eng is_constructor →
      BreaksModule mods named_source amb_eng (2 ∷ 3 ∷ 16 ∷ code_of R.Ambiguous ∷ 1 ∷ 35 ∷ 1 ∷ 31 ∷ [])
      (refusal R.Ambiguous (here 3 16) (mk ∷ codes "R1" ∷ codes "R2" ∷ []))
  mk_is_ambiguous named_source is_constructor are =
      in_names is_constructor are (NameFaults.ambiguous_use (used is_constructor) mk_clash)

  -- it is not unknown: the rule that a name means nothing is not broken there
  pub mk_means_something : Sees mods (codes "AmbEng") None mk (own (codes "R1") 0)
  mk_means_something = from_opened refl (for_bare (0, omega arith, refl) (λ f h. not_had f h.has) (mk_of (codes "R1") refl))

  -- in a module of the same names with one more judgement, lin b = (Nope).x: what is before the dot is used at its own place,
  -- after the parenthesis
  abbrev use_of_nope : Judgement
  use_of_nope =
      J.Lin (record { name = codes "b"; place = here 4 7 } ∷ []) []
      (roll-Term (T.Proj (roll-Term (T.Var (Written (codes "Nope")) (here 4 12))) (codes "x") (here 4 11)))

  abbrev with_nope : Module
  with_nope = record {
    header = amb_eng.header;
    rest = Own [] (record { opened = opened_of amb_eng; judgements = judgements_of amb_eng ++ use_of_nope ∷ [] });
  }

  dotted : (is_constructor : List ℕ → Bool) →
      NameFaults.IsDotted mods with_nope is_constructor (name_at (codes "Nope") (here 4 12)) (name_at (codes "x") (here 4 11))
  dotted is_constructor = (
    [],
    false,
    _,
    _,
    NameFaults.in_judgement {j = use_of_nope} (2, omega arith, refl) (0, omega arith, refl),
    out-roll-Term _,
    out-roll-Term _,
    refl,
  )

  pub used_alone : (is_constructor : List ℕ → Bool) → ¬ (NameFaults.Opens mods with_nope (codes "Nope")) →
      NameFaults.Uses mods with_nope is_constructor None (name_at (codes "Nope") (here 4 12))
  used_alone is_constructor not_opened = NameFaults.before_dot (dotted is_constructor) not_opened

  -- where Nope is a module, it is the name x at the parenthesis
  pub used_qualified : (is_constructor : List ℕ → Bool) → NameFaults.Opens mods with_nope (codes "Nope") →
      NameFaults.Uses mods with_nope is_constructor (Some (codes "Nope")) (name_at (codes "x") (here 4 11))
  used_qualified is_constructor opened = NameFaults.after_dot (dotted is_constructor) opened

-- lin c = case "a" of {y + y => "b"}: y is bound twice, the second time at 5:20
abbrev y : List ℕ
y = codes "y"

abbrev y_at : ℕ → Pattern
y_at col = roll-Pattern (P.Name (Written y) (here 5 col))

abbrev y_and_y : Pattern
y_and_y = roll-Pattern (P.Seq (y_at 16) (y_at 20) (here 5 16))

abbrev y_branch : Case Term
y_branch = record { pattern = y_and_y; body = roll-Term (T.Lit (codes "b") (here 5 25)) }

abbrev case_of_a : Term
case_of_a = roll-Term (T.CaseOf (roll-Term (T.Lit (codes "a") (here 5 10))) (y_branch ∷ []) (here 5 5))

abbrev case_module : Module
case_module = record {
  header = Concrete (named 10 (codes "C")) (named 20 (codes "A"));
  rest = Own [] (record { opened = []; judgements = J.Lin (named 30 (codes "c") ∷ []) [] case_of_a ∷ [] });
}

module _ (mods : List Module) (is_constructor : List ℕ → Bool) (is_variable : is_constructor y ≡ false) where
  one_y : (col : ℕ) → NameFaults.bound_in is_constructor [] (y_at col) ≡ name_at y (here 5 col) ∷ []
  one_y col =
      fold-roll-Pattern (List PlacedName) (NameFaults.bound_step (λ x. is_local x [] || not (is_constructor x))) (P.Name (Written y) (here 5 col))
      ∙ ap (λ b. if not b then name_at y (here 5 col) ∷ [] else []) is_variable

  two_y : NameFaults.bound_in is_constructor [] y_and_y ≡ name_at y (here 5 16) ∷ name_at y (here 5 20) ∷ []
  two_y =
      let parts_bound : NameFaults.bound_in is_constructor [] y_and_y
      ≡ NameFaults.bound_in is_constructor [] (y_at 16) ++ (NameFaults.bound_in is_constructor [] (y_at 20) ++ []) =
      fold-roll-Pattern (List PlacedName) (NameFaults.bound_step (λ x. is_local x [] || not (is_constructor x)))
      (P.Seq (y_at 16) (y_at 20) (here 5 16)) in
      parts_bound ∙ (λ i. one_y 16 i ++ (one_y 20 i ++ []))

  in_branch : NameFaults.HasPattern mods case_module is_constructor [] y_and_y
  in_branch = (
    false,
    case_of_a,
    record { names = []; pattern = Some y_and_y; is_type = false; part = y_branch.body },
    NameFaults.in_judgement {j = J.Lin (named 30 (codes "c") ∷ []) [] case_of_a} (0, omega arith, refl) (0, omega arith, refl),
    subst (λ d. Contains (parts d) (record { names = []; pattern = Some y_and_y; is_type = false; part = y_branch.body }))
        (sym (out-roll-Term _)) (1, omega arith, refl),
    (0, omega arith, refl),
  )

  pub y_is_bound_twice : NameFaults.BreaksNames mods case_module is_constructor R.PatternVars (name_at y (here 5 20)) []
  y_is_bound_twice = NameFaults.bound_twice (name_at y (here 5 16) ∷ []) [] in_branch two_y (0, omega arith, refl)
