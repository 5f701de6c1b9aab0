-- What fits the table of the portable file is a grammar, or it has a flaw; and what bytes are.
use Rattle.std.specs.Prelude.{◌≡◌, ◌<◌, ℕ, zero, suc, ◌+◌, true, All, List, [], ◌∷◌, ◌++◌, length, map, take, codes, Contains, Option, Some, None, slice_get, ◌⊎◌}
use Rattle.std.specs.List.{list_all}
use Rattle.std.proofs.Common.{refl, sym, ap, ◌∙◌, subst, inl, inr, arith}
use Rattle.std.proofs.lemmas.Bool.{ltb-true, and_parts}
use Rattle.std.proofs.lemmas.List.{length-map, length-append, map-append}
use Rattle.gft_pmcfg.specs.declared.signature.AType.{AType}
use Rattle.gft_pmcfg.specs.declared.signature.Cat.{Cat}
use Rattle.gft_pmcfg.specs.declared.signature.Fun.{Fun}
use Rattle.gft_pmcfg.specs.declared.signature.Abstract.{Abstract}
use Rattle.gft_pmcfg.specs.declared.concrete.Def.{Def}
use Rattle.gft_pmcfg.specs.declared.concrete.Prod.{Prod}
use Rattle.gft_pmcfg.specs.declared.concrete.Concrete.{Concrete}
use Rattle.gft_pmcfg.specs.declared.grammar.Grammar.{Grammar}
use Rattle.gft_pmcfg.specs.Nonterminals.{nonterminals_of}
use Rattle.gft_pmcfg.specs.Ranges.{is_def, is_abstract, is_concrete}
use Rattle.gft_rules.specs.declared.rule.Rule.{Rule}
use Rattle.gft_model.specs.Fields.{Form, Fits}
use Rattle.gft_model.specs.FileForms.{ascending, type_form, types, category, function, literal_categories, listed, numbered_abstract, file}
use Rattle.gft_model.specs.Flaws.{Flaw, unproductive, HaveTypesFlaw}
use Rattle.gft_model.specs.Laws.{FaultOrFields, GrammarOrFlaw, BytesAreJudged}
use Rattle.gft_model.specs.Numbering.{named_step, changed_type, names_of, numbered, named}
use Rattle.gft_model.specs.PortableFile.{file_bytes, IsReduced, IsGrammar, Reads, HasFault, IsFlawed, of_category, of_function, of_production, IsInvalid}
use Rattle.gft_model.specs.Runs.{IsKept}
use Rattle.gft_model.specs.Typing.{AreTypes, IsCategoryTyped, IsFunctionTyped, HasTypes, signature_of}
use Rattle.gft_model.proofs.InRange.{fields_in_range}
use Rattle.gft_model.proofs.JudgedTypes.{each_fits, one_more, judged_types}
use Rattle.gft_model.proofs.KeptLaws.{kept_or_not}
use Rattle.gft_model.proofs.NumberedTerms.{category_changed, function_changed, names_stay}
use Rattle.gft_model.proofs.ReadingLaws.{fault_or_fields}

-- the first of a list that is at fault, behind those that are right; or all are right
record FirstFault {A : Type 0} (P Q : A → Type 0) (xs : List A) : Type 0 where
  place : ℕ
  item : A
  at_place : slice_get xs place ≡ Some item
  before : All P (take place xs)
  fault : Q item

put_before : {A : Type 0} (P : A → Type 0) (x : A) (xs : List A) → P x → All P xs → All P (x ∷ xs)
put_before P x xs h all zero d b = h
put_before P x xs h all (suc k) d b = all k d (omega (arith, b))

first_fault : {A : Type 0} (P Q : A → Type 0) (xs : List A) → ((x : A) → Contains xs x → P x ⊎ Q x) → All P xs ⊎ FirstFault P Q xs
first_fault P Q [] each = inl (λ k d b. absurd (omega (arith, b)))
first_fault {A} P Q (x ∷ xs) each = by_first (each x (zero, omega arith, refl))
    (first_fault P Q xs (λ y c. each y (suc c.0, omega (arith, c.1), c.2))) where
      by_first : P x ⊎ Q x → All P xs ⊎ FirstFault P Q xs → All P (x ∷ xs) ⊎ FirstFault P Q (x ∷ xs)
      by_first (inl h) (inl all) = inl (put_before P x xs h all)
      by_first (inl h) (inr f) = inr (record {
        place = suc f.place;
        item = f.item;
        at_place = f.at_place;
        before = put_before P x (take f.place xs) h f.before;
        fault = f.fault;
      })
      by_first (inr q) rest = inr (record {
        place = 0;
        item = x;
        at_place = refl;
        before = λ k d b. absurd
            (omega (arith, b));
        fault = q;
      })

-- what fits in ascending order fits one by one
each_ascending : {A : Type 0} (key : A → List ℕ) (f : Form A) (before : Option (List ℕ)) (n : ℕ) (xs : List A)
    → Fits (ascending key f before n) xs → (x : A) → Contains xs x → Fits f x
each_ascending key f before n [] h x (k, b, e) = absurd (omega (arith, b))
each_ascending key f before zero (y ∷ xs) h x c = cc
each_ascending key f before (suc n) (y ∷ xs) h x (zero, b, e) = subst (Fits f) e h.0.0
each_ascending key f before (suc n) (y ∷ xs) h x (suc k, b, e) =
    each_ascending key f (Some (key y)) n xs h.1 x (k, omega (arith, b), e)

-- what a mapped list has is of an item of the list
in_map : {A B : Type 0} (g : A → B) (xs : List A) (y : B) → Contains (map g xs) y → (x : A) × Contains xs x × (g x ≡ y)
in_map g [] y (k, b, e) = absurd (omega (arith, b))
in_map g (x ∷ xs) y (zero, b, e) = (x, (zero, omega arith, refl), e)
in_map g (x ∷ xs) y (suc k, b, e) =
    let rest = in_map g xs y (k, omega (arith, b), e) in (rest.0, (suc rest.1.0, omega (arith, rest.1.1), rest.1.2), rest.2)

listed_map : {A B : Type 0} (g : A → B) (xs : List A) → listed (map g xs) ≡ map g (listed xs)
listed_map g [] = refl
listed_map g (x ∷ []) = refl
listed_map g (x ∷ (y ∷ xs)) = refl

-- an abstract syntax by numbers
module _ (b : Abstract) (h : Fits numbered_abstract b) where
  abbrev a : Abstract
  a = named b

  abbrev names : List (List ℕ)
  names = names_of b.funs

  stay : names_of a.funs ≡ names
  stay = names_stay (named_step names) b.funs

  count : length b.funs ≡ length names
  count = sym (length-map b.funs (λ (f : Fun). f.name))

  size : length (listed b.cats) + 2 ≡ length a.cats
  size =
      let whole : literal_categories ++ listed b.cats ≡ b.cats = ap (λ (x : Abstract). x.cats) h.1.1.1.1.1.1 in
      sym (length-map b.cats (category_changed (named_step names)) ∙ ap length (sym whole) ∙ omega arith)

  category_fits : (c : Cat) → Contains (listed b.cats) c → Fits (category (length a.cats) (length names)) c
  category_fits c m = subst (λ n. Fits (category n (length names)) c) size
      (subst (λ n. Fits (category (length (listed b.cats) + 2) n) c) count
      (each_ascending (λ (x : Cat). x.name) (category (length (listed b.cats) + 2) (length b.funs)) None (length (listed b.cats))
      (listed b.cats) h.1.1.1.1.0 c m))

  function_fits : (f : Fun) → Contains b.funs f → Fits (function (length a.cats) (length names)) f
  function_fits f m = subst (λ n. Fits (function n (length names)) f) size
      (subst (λ n. Fits (function (length (listed b.cats) + 2) n) f) count
      (each_ascending (λ (x : Fun). x.name) (function (length (listed b.cats) + 2) (length b.funs)) None (length b.funs)
      b.funs h.1.1.1.1.1.0 f m))

  abbrev CategoryFlaw : Cat → Type 0
  CategoryFlaw c = (flaw : Flaw) × HaveTypesFlaw a [] c.context flaw

  abbrev FunctionFlaw : Fun → Type 0
  FunctionFlaw f = (flaw : Flaw) × HaveTypesFlaw a [] (signature_of f) flaw

  category_judged : (c : Cat) → Contains (listed a.cats) c → IsCategoryTyped a c ⊎ CategoryFlaw c
  category_judged c m =
      let found = in_map (category_changed (named_step names)) (listed b.cats) c
      (subst (λ (xs : List Cat). Contains xs c) (listed_map (category_changed (named_step names)) b.cats) m) in
      let fit = category_fits found.0 found.1 in
      subst (λ (x : Cat). IsCategoryTyped a x ⊎ CategoryFlaw x) found.2
      (judged_types a names stay [] found.0.context (omega (arith, fit.1.0.0))
      (each_fits a names stay 0 (length found.0.context) found.0.context fit.1.0.1))

  function_judged : (f : Fun) → Contains a.funs f → IsFunctionTyped a f ⊎ FunctionFlaw f
  function_judged f m =
      let found = in_map (function_changed (named_step names)) b.funs f m in
      let fit = function_fits found.0 found.1 in
      let args = each_fits a names stay 0 (length found.0.args) found.0.args fit.1.0.1 in
      let each = one_more a names stay 0 found.0.args found.0.result args
      (subst (λ n. Fits (type_form (length a.cats) (length names) n) found.0.result) (omega arith) fit.1.1.0) in
      let judged = judged_types a names stay [] (found.0.args ++ found.0.result ∷ [])
      (omega (arith, length-append found.0.args (found.0.result ∷ []), fit.1.0.0)) each in
      let same = map-append (changed_type (named_step names)) found.0.args (found.0.result ∷ []) in
      subst (λ (x : Fun). IsFunctionTyped a x ⊎ FunctionFlaw x) found.2
      (subst (λ (ts : List AType). AreTypes a [] ts ⊎ ((flaw : Flaw) × HaveTypesFlaw a [] ts flaw)) same judged)

  -- categories of literals have no types
  all_cats : All (IsCategoryTyped a) (listed a.cats) → All (IsCategoryTyped a) a.cats
  all_cats all =
      let whole : literal_categories ++ listed b.cats ≡ b.cats = ap (λ (x : Abstract). x.cats) h.1.1.1.1.1.1 in
      let inner = subst (All (IsCategoryTyped a)) (listed_map (category_changed (named_step names)) b.cats) all in
      subst (λ (xs : List Cat). All (IsCategoryTyped a) (map (category_changed (named_step names)) xs)) whole
      (put_before (IsCategoryTyped a) (record { name = codes "Int"; context = [] })
      (record { name = codes "String"; context = [] } ∷ map (category_changed (named_step names)) (listed b.cats)) tt
      (put_before (IsCategoryTyped a) (record { name = codes "String"; context = [] })
      (map (category_changed (named_step names)) (listed b.cats)) tt inner))

  -- the concrete syntaxes
  module _ (cs : List Concrete) (range : (c : Concrete) → Contains cs c → is_concrete a c ≡ true) where
    defs_below : (c : Concrete) → Contains cs c → (d : Def) → Contains c.defs d → d.result < nonterminals_of c.infos
    defs_below c m d (k, b, e) =
        let defs = (and_parts _ _ (and_parts _ _ (range c m)).0).1 in
        let one : is_def c.infos d ≡ true = at_index c.defs k d defs (k, b, e) in
        ltb-true _ _ (and_parts _ _ (and_parts _ _ one).0).1 where
          at_index : (ds : List Def) (k : ℕ) (d : Def) → list_all (is_def c.infos) ds ≡ true → Contains ds d → is_def c.infos d
              ≡ true
          at_index [] k d all (i, b, e) = absurd (omega (arith, b))
          at_index (x ∷ ds) k d all (zero, b, e) = ap (is_def c.infos) (sym e) ∙ (and_parts _ _ all).0
          at_index (x ∷ ds) k d all (suc i, b, e) = at_index ds k d (and_parts _ _ all).1 (i, omega (arith, b), e)

    abbrev IsNotKept : Concrete → Prod → Type 0
    IsNotKept c prod = ¬ IsKept c prod

    concrete_judged : (c : Concrete) → Contains cs c → IsReduced c ⊎ FirstFault (IsKept c) (IsNotKept c) c.prods
    concrete_judged c m = first_fault (IsKept c) (IsNotKept c) c.prods (λ prod p. kept_or_not c (defs_below c m) prod)

    judged : Fits file (a, cs) → IsGrammar a cs ⊎ ((flaw : Flaw) × (at : ℕ) × IsFlawed a cs flaw at)
    judged fit = by_categories (first_fault (IsCategoryTyped a) CategoryFlaw (listed a.cats) category_judged) where
      by_concretes : HasTypes a → All IsReduced cs ⊎ FirstFault IsReduced (λ c. FirstFault (IsKept c) (IsNotKept c) c.prods) cs
          → IsGrammar a cs ⊎ ((flaw : Flaw) × (at : ℕ) × IsFlawed a cs flaw at)
      by_concretes types (inl all) = inl (record { fits = fit; types = types; reduced = all })
      by_concretes types (inr f) = inr (
        unproductive,
        _,
        of_production f.place f.fault.place types f.at_place f.before
            f.fault.at_place f.fault.before f.fault.fault,
      )

      by_functions : All (IsCategoryTyped a) a.cats → All (IsFunctionTyped a) a.funs ⊎ FirstFault
          (IsFunctionTyped a) FunctionFlaw a.funs
          → IsGrammar a cs ⊎ ((flaw : Flaw) × (at : ℕ) × IsFlawed a cs flaw at)
      by_functions cats (inl all) = by_concretes (cats, all) (first_fault IsReduced _ cs concrete_judged)
      by_functions cats (inr f) = inr (f.fault.0, _, of_function f.place cats f.at_place f.before f.fault.1)

      by_categories : All (IsCategoryTyped a) (listed a.cats) ⊎ FirstFault (IsCategoryTyped a) CategoryFlaw (listed a.cats)
          → IsGrammar a cs ⊎ ((flaw : Flaw) × (at : ℕ) × IsFlawed a cs flaw at)
      by_categories (inl all) = by_functions (all_cats all) (first_fault (IsFunctionTyped a) FunctionFlaw a.funs function_judged)
      by_categories (inr f) = inr (f.fault.0, _, of_category f.place f.at_place f.before f.fault.1)

-- concrete syntaxes in range
concretes_in_range : (a : Abstract) (ds : List Concrete) → list_all (is_concrete a) ds ≡ true → (c : Concrete) → Contains ds c
    → is_concrete a c ≡ true
concretes_in_range a [] all c (k, b, e) = absurd (omega (arith, b))
concretes_in_range a (d ∷ ds) all c (zero, b, e) = ap (is_concrete a) (sym e) ∙ (and_parts _ _ all).0
concretes_in_range a (d ∷ ds) all c (suc k, b, e) = concretes_in_range a ds (and_parts _ _ all).1 c (k, omega (arith, b), e)

-- what fits
pub grammar_or_flaw : GrammarOrFlaw
grammar_or_flaw a cs h = of_named (numbered a) h.1.1.0.0 h.1.1.0.1 where
  of_named : (b : Abstract) → Fits numbered_abstract b → named b ≡ a
      → IsGrammar a cs ⊎ ((flaw : Flaw) × (at : ℕ) × IsFlawed a cs flaw at)
  of_named b k e =
      let range = concretes_in_range a cs (and_parts (is_abstract a) (list_all (is_concrete a) cs) (fields_in_range a cs h)).1 in
      subst (λ (x : Abstract). IsGrammar x cs ⊎ ((flaw : Flaw) × (at : ℕ) × IsFlawed x cs flaw at)) e
      (judged b k cs (λ c m. ap (λ (x : Abstract). is_concrete x c) e ∙ range c m)
      (subst (λ (x : Abstract). Fits file (x, cs)) (sym e) h))

-- and bytes
abbrev Judged : List ℕ → Type 0
Judged bytes = ((g : Grammar) × Reads bytes g)
    ⊎ (((rule : Rule) × (at : ℕ) × HasFault bytes rule at) ⊎ ((flaw : Flaw) × (at : ℕ) × IsInvalid bytes flaw at))

pub bytes_judged : BytesAreJudged
bytes_judged bytes small = by_fields (fault_or_fields bytes small) where
  by_grammar : (a : Abstract) (cs : List Concrete) → Fits file (a, cs) → file_bytes a cs ≡ bytes
      → IsGrammar a cs ⊎ ((flaw : Flaw) × (at : ℕ) × IsFlawed a cs flaw at) → Judged bytes
  by_grammar a cs h e (inl g) =
      inl (record { abs = a; concretes = cs; in_range = fields_in_range a cs h }, record { grammar = g; bytes_are = e })
  by_grammar a cs h e (inr (flaw, at, d)) =
      inr (inr (flaw, at, record { abs = a; concretes = cs; fits = h; bytes_are = e; flawed = d }))

  by_fields : FaultOrFields bytes → Judged bytes
  by_fields (inl f) = inr (inl f)
  by_fields (inr (a, cs, h, e)) = by_grammar a cs h e (grammar_or_flaw a cs h)
