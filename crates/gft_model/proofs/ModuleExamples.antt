-- Worked examples of modules: what they have, what a name in them means, and how a body is cut.
use Rattle.std.proofs.Common.{◌≡◌, ap, sym, ◌∙◌, refl, ℕ, zero, suc, true, false, List, [], ◌∷◌, length, Some, None, subst, arith}
use Rattle.std.specs.Prelude.{codes, bytes_eq, Contains, slice_get}
use Rattle.gft_core.specs.declared.place.Place.{Place}
use Rattle.gft_syntax.specs.declared.bind.Bind.{Bind}
use Rattle.gft_syntax.specs.declared.judgement.Definition.TheVariants as D
use Rattle.gft_syntax.specs.declared.judgement.Judgement.{Judgement}
use Rattle.gft_syntax.specs.declared.judgement.Judgement.TheVariants as J
use Rattle.gft_syntax.specs.declared.judgement.Keyword.TheVariants as K
use Rattle.gft_syntax.specs.declared.module.Header.{Header}
use Rattle.gft_syntax.specs.declared.module.Header.TheVariants.{Abstract, Resource, Interface, Instance, Concrete, Incomplete}
use Rattle.gft_syntax.specs.declared.module.Inherited.TheVariants.{Whole}
use Rattle.gft_syntax.specs.declared.module.Module.{Module}
use Rattle.gft_syntax.specs.declared.module.Opened.{Opened}
use Rattle.gft_syntax.specs.declared.module.Opened.TheVariants.{Plain}
use Rattle.gft_syntax.specs.declared.module.Rest.TheVariants.{Own, With}
use Rattle.gft_syntax.specs.declared.reference.PlacedName.{PlacedName}
use Rattle.gft_syntax.specs.declared.term.Term.{Term}
use Rattle.gft_model.specs.Flats.{IsOf}
use Rattle.gft_model.specs.Modules.{Is, Has, declares, is_given, inherits, keeps, instantiates, HasNameable, Sees, for_bare, for_qualified, from_opened, functor_of, turn, here, by_argument, Means, own_name, replaced, Declared, own, copy, own_text, inherited_of, inherited_name, judgements_of, declared_names}

-- pairs of the same first parts
same_first : {A B : Type 0} {p q : A × B} → Some p ≡ Some q → p.0 ≡ q.0
same_first {p = p} {q = q} h = let pair : p ≡ q = cc in ap (λ r. r.0) pair

-- one name is no other
not_listed : (x y : List ℕ) → bytes_eq x y ≡ false → bytes_eq y y ≡ true → Contains (x ∷ []) y → ⊥
not_listed x y d r (zero, b, e) = let wrong : false ≡ true = sym d ∙ ap (λ z. bytes_eq z y) e ∙ r in cc
not_listed x y d r (suc k, b, e) = absurd (omega (arith, b))

not_declared : {i j : Judgement} (x y : List ℕ) → declared_names i ≡ x ∷ [] → bytes_eq x y ≡ false → bytes_eq y y ≡ true →
    Some i ≡ Some j → Contains (declared_names j) y → ⊥
not_declared {i} {j} x y e d r g c =
    let same : i ≡ j = cc in not_listed x y d r (subst (λ ns. Contains ns y) (sym (ap declared_names same) ∙ e) c)

-- places and terms do not matter here
module _ (p : Place) (T e : Term) where
  abbrev pub named : List ℕ → PlacedName
  named x = record { name = x; place = p }

  abbrev pub own_module : Header → List Opened → List Judgement → Module
  own_module h os js = record { header = h; rest = Own [] (record { opened = os; judgements = js }) }

  -- the judgements lincat C = T ; lin f = e, which declare two names and no other
  abbrev lins : List ℕ → List ℕ → List Judgement
  lins C f = J.Lincat (named C ∷ []) T ∷ J.Lin (named f ∷ []) [] e ∷ []

  no_other : (C f y : List ℕ) → bytes_eq C y ≡ false → bytes_eq f y ≡ false → bytes_eq y y ≡ true →
      (k : ℕ) {j : Judgement} → slice_get (lins C f) k ≡ Some j → Contains (declared_names j) y → ⊥
  no_other C f y d h r zero g c = not_declared C y refl d r g c
  no_other C f y d h r (suc zero) g c = not_declared f y refl h r g c
  no_other C f y d h r (suc (suc k)) g c = cc

  -- resource R1 = {oper mk : Str = "one" ;}, R2 likewise, and concrete AmbEng of Amb = open R1, R2 in {..}
  abbrev amb_eng : Module
  amb_eng =
      own_module (Concrete (named (codes "AmbEng")) (named (codes "Amb")))
      (Plain (named (codes "R1")) ∷ Plain (named (codes "R2")) ∷ []) (lins (codes "S") (codes "a"))

  abbrev pub resource_of_mk : List ℕ → Module
  resource_of_mk R = own_module (Resource (named R)) [] (J.OperTyped (named (codes "mk") ∷ []) T (D.Term e) ∷ [])

  abbrev amb : List Module
  amb =
      own_module (Abstract (named (codes "Amb"))) [] (J.Cat (named (codes "S")) [] ∷ J.Fun (named (codes "a") ∷ []) T ∷ [])
      ∷ resource_of_mk (codes "R1") ∷ resource_of_mk (codes "R2") ∷ amb_eng ∷ []

  mk_of : (R : List ℕ) → Is amb R (resource_of_mk R) → HasNameable amb R (codes "mk") (own R 0)
  mk_of R is = record {
    has = declares 0 is refl (0, omega arith, refl);
    text = J.OperTyped (named (codes "mk") ∷ []) T (D.Term e);
    writes = own_text 0 is refl;
    nameable = refl;
  }

  is_amb_eng : {m : Module} → Is amb (codes "AmbEng") m → m ≡ amb_eng
  is_amb_eng {m} is = let same : Some amb_eng ≡ Some m = is in cc

  -- what is opened is not passed on
  pub opened_is_not_had : (d : Declared) → ¬ (Has amb (codes "AmbEng") (codes "mk") d)
  opened_is_not_had d (declares k {j = j} is g c) =
      no_other (codes "S") (codes "a") (codes "mk") refl refl refl k (subst (λ m. slice_get (judgements_of m) k ≡ Some j) (is_amb_eng is) g) c
  opened_is_not_had d (is_given is (inherits (k, b, f) l h)) =
      absurd (let none = ap (λ m. length (inherited_of m.rest)) (is_amb_eng is) in omega (arith, b, none))
  opened_is_not_had d (is_given is (keeps f h w u o)) = let same = ap (λ m. m.header) (is_amb_eng is) in cc
  opened_is_not_had d (is_given is (instantiates f l h)) = let same = ap (λ m. functor_of m.rest) (is_amb_eng is) in cc

  -- mk means the oper of R1 and that of R2: it is ambiguous
  pub first_meaning : Sees amb (codes "AmbEng") None (codes "mk") (own (codes "R1") 0)
  first_meaning = from_opened refl (for_bare (0, omega arith, refl) (λ f h. opened_is_not_had f h.has) (mk_of (codes "R1") refl))

  pub second_meaning : Sees amb (codes "AmbEng") None (codes "mk") (own (codes "R2") 0)
  second_meaning = from_opened refl (for_bare (1, omega arith, refl) (λ f h. opened_is_not_had f h.has) (mk_of (codes "R2") refl))

  -- R2.mk means that of R2
  pub qualified_meaning : Sees amb (codes "AmbEng") (Some (codes "R2")) (codes "mk") (own (codes "R2") 0)
  qualified_meaning =
      from_opened refl (for_qualified {o = Plain (named (codes "R2"))} (1, omega arith, refl) (0, omega arith, refl) (mk_of (codes "R2") refl))

  -- interface Lex = {oper hello : Str ;} ; instance LexEng of Lex = {oper hello : Str = "hello" ;} ;
  -- incomplete concrete HiI of Hi = open Lex in {..} ; concrete HiEng of Hi = HiI with (Lex = LexEng)
  abbrev hi_i : Module
  hi_i =
      own_module (Incomplete (named (codes "HiI")) (named (codes "Hi"))) (Plain (named (codes "Lex")) ∷ [])
      (lins (codes "S") (codes "hi"))

  abbrev hi_eng : Module
  hi_eng =
      record {
        header = Concrete (named (codes "HiEng")) (named (codes "Hi"));
        rest =
            With [] (Whole (named (codes "HiI"))) (record { interface = named (codes "Lex"); instance = named (codes "LexEng") } ∷ []) None;
      }

  abbrev hi : List Module
  hi =
      own_module (Abstract (named (codes "Hi"))) [] (J.Cat (named (codes "S")) [] ∷ J.Fun (named (codes "hi") ∷ []) T ∷ [])
      ∷ own_module (Interface (named (codes "Lex"))) [] (J.OperType (named (codes "hello") ∷ []) T ∷ [])
      ∷ own_module (Instance (named (codes "LexEng")) (named (codes "Lex"))) [] (J.OperTyped (named (codes "hello") ∷ []) T (D.Term e) ∷ [])
      ∷ hi_i ∷ hi_eng ∷ []

  is_hi_i : {m : Module} → Is hi (codes "HiI") m → m ≡ hi_i
  is_hi_i {m} is = let same : Some hi_i ≡ Some m = is in cc

  is_hi_eng : {m : Module} → Is hi (codes "HiEng") m → m ≡ hi_eng
  is_hi_eng {m} is = let same : Some hi_eng ≡ Some m = is in cc

  no_hello_in_functor : (d : Declared) → ¬ (Has hi (codes "HiI") (codes "hello") d)
  no_hello_in_functor d (declares k {j = j} is g c) =
      no_other (codes "S") (codes "hi") (codes "hello") refl refl refl k (subst (λ m. slice_get (judgements_of m) k ≡ Some j) (is_hi_i is) g) c
  no_hello_in_functor d (is_given is (inherits (k, b, f) l h)) =
      absurd (let none = ap (λ m. length (inherited_of m.rest)) (is_hi_i is) in omega (arith, b, none))
  no_hello_in_functor d (is_given is (keeps f h w u o)) = let same = ap (λ m. m.header) (is_hi_i is) in cc
  no_hello_in_functor d (is_given is (instantiates f l h)) = let same = ap (λ m. functor_of m.rest) (is_hi_i is) in cc

  -- the with module has a copy of the functor's lin, and no oper that the functor opens
  pub has_copy : Has hi (codes "HiEng") (codes "hi") (copy (codes "HiEng") (own (codes "HiI") 1))
  has_copy = is_given refl (instantiates refl refl (declares 1 refl refl (0, omega arith, refl)))

  -- the copy stands among the copies, where the functor has the lin: own judgement 1 under its name 0
  pub copy_turn : turn hi has_copy ≡ 2 ∷ 3 ∷ 1 ∷ 0 ∷ []
  unfolding has_copy
  copy_turn = refl

  -- it is of the function of Hi
  pub lin_is_of : (bs : List Bind) (f : Term) → IsOf hi (codes "Hi") (codes "hi") (J.Lin (named (codes "hi") ∷ []) bs f)
  lin_is_of bs f = (
    K.Lin,
    own (codes "Hi") 1,
    J.Fun (named (codes "hi") ∷ []) T,
    refl,
    declares 1 refl refl (0, omega arith, refl),
    own_text 1 refl refl,
    refl,
  )

  pub has_no_hello : (d : Declared) → ¬ (Has hi (codes "HiEng") (codes "hello") d)
  has_no_hello d (declares k {j = j} is g c) =
      let none : None ≡ Some j = subst (λ m. slice_get (judgements_of m) k ≡ Some j) (is_hi_eng is) g in cc
  has_no_hello d (is_given is (inherits (k, b, f) l h)) =
      absurd (let none = ap (λ m. length (inherited_of m.rest)) (is_hi_eng is) in omega (arith, b, none))
  has_no_hello d (is_given is (keeps f h w u o)) = let same = ap (λ m. m.header) (is_hi_eng is) in cc
  has_no_hello d (is_given is (instantiates {f = f} {ss = ss} {d = c} g l h)) =
      let same = ap (λ m. functor_of m.rest) (is_hi_eng is) in
      let functor : f ≡ Whole (named (codes "HiI")) = same_first (sym g ∙ same) in
      no_hello_in_functor c (subst (λ i. Has hi (inherited_name i) (codes "hello") c) functor h)

  hello_of_lex : HasNameable hi (codes "Lex") (codes "hello") (own (codes "Lex") 0)
  hello_of_lex = record {
    has = declares 0 refl refl (0, omega arith, refl);
    text = J.OperType (named (codes "hello") ∷ []) T;
    writes = own_text 0 refl refl;
    nameable = refl;
  }

  hello_of_lex_eng : HasNameable hi (codes "LexEng") (codes "hello") (own (codes "LexEng") 0)
  hello_of_lex_eng = record {
    has = declares 0 refl refl (0, omega arith, refl);
    text = J.OperTyped (named (codes "hello") ∷ []) T (D.Term e);
    writes = own_text 0 refl refl;
    nameable = refl;
  }

  -- in the functor hello means the interface's, in the copy that of the instance
  pub means_in_functor : Means hi (own (codes "HiI") 1) None (codes "hello") (own (codes "Lex") 0)
  means_in_functor =
      own_name 1 (from_opened refl (for_bare (0, omega arith, refl) (λ f h. no_hello_in_functor f h.has) hello_of_lex))

  pub means_in_copy : Means hi (copy (codes "HiEng") (own (codes "HiI") 1)) None (codes "hello") (own (codes "LexEng") 0)
  means_in_copy = replaced means_in_functor (by_argument refl refl (here hello_of_lex hello_of_lex_eng))
