-- Lemmas on the definitions over sources.
use Rattle.std.proofs.Common.{◌≡◌, ap, sym, ◌∙◌, subst, refl, ℕ, ◌+◌, ◌*◌, List, [], ◌∷◌, ◌++◌, map, length, Some, length-append, arith}
use Rattle.std.proofs.lemmas.List.{length-map}
use Rattle.std.proofs.lemmas.List.FromFn.{length-range_with_len}
use Rattle.std.specs.List.{flat_map}
use Rattle.gft_syntax.specs.declared.ctype.CType.{CType, roll-CType}
use Rattle.gft_syntax.specs.declared.ctype.CType.TheOpen as C
use Rattle.gft_syntax.specs.declared.ctype.CType.TheFolds.{ind-CType, map-CType, fold-roll-CType}
use Rattle.gft_syntax.specs.declared.linear.LinTerm.{LinTerm, roll-LinTerm}
use Rattle.gft_syntax.specs.declared.linear.LinTerm.TheOpen as Lin-F
use Rattle.gft_syntax.specs.declared.reference.Whole.{Whole}
use Rattle.gft_syntax.specs.declared.token.SourceToken.{SourceToken}
use Rattle.gft_syntax.specs.declared.value.Param.{Param}
use Rattle.gft_model.specs.ConcreteTypes.{upto, choices, values_of, count_of, product_of, sum_of}
use Rattle.gft_model.specs.Outcomes.{Results, TermResults, none, also, stuck, plain, function, Environment, gives, stuck_at, outcomes, outcomes_of, followed_by, results_of}
use Rattle.gft_model.specs.Source.{Tokens}
use Rattle.gft_model.specs.ValueForms.{con_param}
use Rattle.gft_model.proofs.Computing.{results-roll}

pub one_list_of_tokens : (file : ℕ) (bytes : List ℕ) (ts us : List SourceToken) → Tokens file bytes ts → Tokens file bytes us → ts ≡ us
one_list_of_tokens file bytes ts us h k = let e : Some ts ≡ Some us = sym h.spelled ∙ k.spelled in cc

-- outcomes one after the other
outcomes-followed : {A : Type 0} (r s : Results A) → outcomes (followed_by r s) ≡ outcomes r ++ outcomes s
outcomes-followed none s = refl
outcomes-followed (also (plain v) r) s = ap (λ os. gives v ∷ os) (outcomes-followed r s)
outcomes-followed (also (function f) r) s = outcomes-followed r s
outcomes-followed (stuck k r) s = ap (λ os. stuck_at k ∷ os) (outcomes-followed r s)

followed-none : {A : Type 0} (r : Results A) → followed_by r none ≡ r
followed-none none = refl
followed-none (also m r) = ap (also m) (followed-none r)
followed-none (stuck k r) = ap (stuck k) (followed-none r)

pub two_alternatives : (opers : ℕ → TermResults) (a b : LinTerm) (env : Environment) →
    outcomes_of opers (roll-LinTerm (Lin-F.Variants (a ∷ b ∷ []))) env ≡ outcomes_of opers a env ++ outcomes_of opers b env
two_alternatives opers a b env =
    ap outcomes (results-roll opers (Lin-F.Variants (a ∷ b ∷ [])) env)
    ∙ ap outcomes (ap (followed_by (results_of opers a env)) (followed-none (results_of opers b env)))
    ∙ outcomes-followed (results_of opers a env) (results_of opers b env)

pub no_alternative : (opers : ℕ → TermResults) (env : Environment) → outcomes_of opers (roll-LinTerm (Lin-F.Variants [])) env ≡ []
no_alternative opers env = ap outcomes (results-roll opers (Lin-F.Variants []) env)

-- how many there are of what a definition lists
length-upto : (n : ℕ) → length (upto n) ≡ n + 1
length-upto n = length-range_with_len 0 (n + 1)

length-each : {A B : Type 0} (f : A → List B) (n : ℕ) → ((a : A) → length (f a) ≡ n) → (xs : List A) → length (flat_map f xs) ≡ length xs * n
length-each f n h [] = omega arith
length-each f n h (x ∷ xs) = grind (arith, length-append, length-each f n h xs, h x)

length-choices : {A : Type 0} (xss : List (List A)) → length (choices xss) ≡ product_of (map length xss)
length-choices [] = refl
length-choices (xs ∷ xss) =
    length-each (λ x. map (λ rest. x ∷ rest) (choices xss)) (length (choices xss)) (λ x. simp length-map) xs
    ∙ ap (λ n. length xs * n) (length-choices xss)

-- a type whose values are counted
abbrev Counted : CType → Type 0
Counted T = length (values_of T) ≡ count_of T

abbrev Known : Type 0
Known = (T : CType) × Counted T

-- what is counted for the arguments of a constructor, for the constructors of a type, for fields
arguments-counted : (ys : List Known) →
    product_of (map length (map values_of (map (λ (y : Known). y.0) ys))) ≡ product_of (map count_of (map (λ (y : Known). y.0) ys))
arguments-counted [] = refl
arguments-counted (y ∷ ys) = ap (λ n. n * product_of (map length (map values_of (map (λ (y : Known). y.0) ys)))) y.1 ∙ ap (λ n. count_of y.0 * n) (arguments-counted ys)

fields-counted : (ys : List (List ℕ × Known)) →
    product_of (map length (map (λ (f : List ℕ × List Param). f.1) (map (λ (f : List ℕ × CType). (f.0, values_of f.1)) (map (λ (f : List ℕ × Known). (f.0, f.1.0)) ys))))
    ≡ product_of (map (λ (f : List ℕ × ℕ). f.1) (map (λ (f : List ℕ × CType). (f.0, count_of f.1)) (map (λ (f : List ℕ × Known). (f.0, f.1.0)) ys)))
fields-counted [] = refl
fields-counted (y ∷ ys) = let h = y.1.1 in let k = fields-counted ys in cc

constructors-counted : (ys : List (Whole × List Known)) →
    length (flat_map (λ (c : Whole × List (List Param)). map (con_param c.0) (choices c.1)) (map (λ (c : Whole × List CType). (c.0, map values_of c.1)) (map (λ (c : Whole × List Known). (c.0, map (λ (y : Known). y.0) c.1)) ys)))
    ≡ sum_of (map (λ (c : Whole × List ℕ). product_of c.1) (map (λ (c : Whole × List CType). (c.0, map count_of c.1)) (map (λ (c : Whole × List Known). (c.0, map (λ (y : Known). y.0) c.1)) ys)))
constructors-counted [] = refl
constructors-counted (y ∷ ys) =
    simp (length-append, length-map, length-choices) (let h = arguments-counted y.1 in let k = constructors-counted ys in cc)

by_layer : (x : C.CType-F CType) (y : C.CType-F Known) → map-CType Known CType (λ (y : Known). y.0) y ≡ x → Counted (roll-CType x)
by_layer x C.Str e = subst (λ (z : C.CType-F CType). Counted (roll-CType z)) e (simp fold-roll-CType)
by_layer x (C.Param w ys) e = subst (λ (z : C.CType-F CType). Counted (roll-CType z)) e (simp fold-roll-CType (constructors-counted ys))
by_layer x (C.Ints n) e = subst (λ (z : C.CType-F CType). Counted (roll-CType z)) e (simp (fold-roll-CType, length-map) (length-upto n))
by_layer x (C.Record ys) e = subst (λ (z : C.CType-F CType). Counted (roll-CType z)) e (simp (fold-roll-CType, length-map, length-choices) (fields-counted ys))
by_layer x (C.Table P V) e = subst (λ (z : C.CType-F CType). Counted (roll-CType z)) e (simp fold-roll-CType)
by_layer x (C.Fun A B) e = subst (λ (z : C.CType-F CType). Counted (roll-CType z)) e (simp fold-roll-CType)
by_layer x C.TypeSort e = subst (λ (z : C.CType-F CType). Counted (roll-CType z)) e (simp fold-roll-CType)
by_layer x C.ParamSort e = subst (λ (z : C.CType-F CType). Counted (roll-CType z)) e (simp fold-roll-CType)

pub values-counted : (T : CType) → length (values_of T) ≡ count_of T
values-counted = ind-CType Counted by_layer
