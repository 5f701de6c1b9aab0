-- The values of an argument go through the cases of its type in order.
use Rattle.std.proofs.Common.{◌≡◌, ap, sym, ◌∙◌, subst, refl, ℕ, List, [], ◌∷◌, ◌++◌, map}
use Rattle.std.proofs.lemmas.List.{append-nil, map-append}
use Rattle.std.proofs.lemmas.Simd.{map-map}
use Rattle.std.proofs.lemmas.Grind.{flat_map-append}
use Rattle.std.specs.List.{flat_map, zip}
use Rattle.std.specs.Map.{keys_of}
use Rattle.gft_syntax.specs.declared.ctype.CType.{CType, roll-CType}
use Rattle.gft_syntax.specs.declared.ctype.CType.TheOpen as C
use Rattle.gft_syntax.specs.declared.ctype.CType.TheFolds.{ind-CType, map-CType, para-CType}
use Rattle.gft_syntax.specs.declared.reference.Whole.{Whole}
use Rattle.gft_syntax.specs.declared.value.Param.{Param}
use Rattle.gft_syntax.specs.declared.value.PathStep.{PathStep}
use Rattle.gft_syntax.specs.declared.value.PathStep.TheVariants.{Label, Cell}
use Rattle.gft_syntax.specs.declared.value.Value.{Value, roll-Value}
use Rattle.gft_syntax.specs.declared.value.Value.TheOpen as V
use Rattle.gft_syntax.specs.declared.value.Value.TheFolds.{ind-Value, map-Value, fold-Value}
use Rattle.gft_model.specs.ConcreteTypes.{upto, choices, values_of, Leaf, below, leaf_values, cells_of_type, cases_of}
use Rattle.gft_model.specs.Productions.{case_values}
use Rattle.gft_model.specs.TreeValues.{case_values_step, Numbered, number_step, number_all, closed_parts}
use Rattle.gft_model.specs.ValueForms.{con_param, number_param, param_value, record_value, table_value}
use Rattle.gft_model.specs.Values.{case_of}
use Rattle.gft_model.proofs.Computing.{cells-roll, case_values-roll, case_of-roll, numbered_value-roll}

-- each of the first followed by each of the second, the first counting most
abbrev both : {A : Type 0} → List (List A) → List (List A) → List (List A)
both us vs = flat_map (λ a. map (λ b. a ++ b) vs) us

map-same : {A : Type 0} (xs : List (List A)) → map (λ x. [] ++ x) xs ≡ xs
map-same [] = refl
map-same (x ∷ xs) = ap (λ ys. x ∷ ys) (map-same xs)

one-before : {A : Type 0} (a : A) (us vs : List (List A)) → map (λ r. a ∷ r) (both us vs) ≡ both (map (λ r. a ∷ r) us) vs
one-before a [] vs = refl
one-before a (x ∷ us) vs =
    map-append (λ r. a ∷ r) (map (λ b. x ++ b) vs) (both us vs)
    ∙ ap (λ zs. zs ++ map (λ r. a ∷ r) (both us vs)) (map-map (λ r. a ∷ r) (λ b. x ++ b) vs)
    ∙ ap (λ zs. map (λ b. a ∷ (x ++ b)) vs ++ zs) (one-before a us vs)

all-before : {A : Type 0} (xs : List A) (us vs : List (List A)) →
    flat_map (λ a. map (λ r. a ∷ r) (both us vs)) xs ≡ both (flat_map (λ a. map (λ r. a ∷ r) us) xs) vs
all-before [] us vs = refl
all-before (x ∷ xs) us vs =
    ap (λ zs. zs ++ flat_map (λ a. map (λ r. a ∷ r) (both us vs)) xs) (one-before x us vs)
    ∙ ap (λ zs. both (map (λ r. x ∷ r) us) vs ++ zs) (all-before xs us vs)
    ∙ sym (flat_map-append (λ a. map (λ b. a ++ b) vs) (map (λ r. x ∷ r) us) (flat_map (λ a. map (λ r. a ∷ r) us) xs))

-- choices from two lists of lists
choices-append : {A : Type 0} (xs ys : List (List A)) → choices (xs ++ ys) ≡ both (choices xs) (choices ys)
choices-append [] ys = sym (append-nil (map (λ b. [] ++ b) (choices ys)) ∙ map-same (choices ys))
choices-append (x ∷ xs) ys =
    ap (λ (cs : List (List _)). flat_map (λ a. map (λ r. a ∷ r) cs) x) (choices-append xs ys) ∙ all-before x (choices xs) (choices ys)

-- a step on the way to leaves changes no value of theirs
leaves-below : (s : PathStep) (cs : List Leaf) → flat_map leaf_values (map (below s) cs) ≡ flat_map leaf_values cs
leaves-below s [] = refl
leaves-below s (c ∷ cs) = ap (λ vs. leaf_values c ++ vs) (leaves-below s cs)

-- the values of a type, one for each case, and the values of its parameter cells
abbrev values : CType → List Value
values = para-CType (List Value) case_values_step

abbrev parameters : CType → List (List Param)
parameters T = flat_map leaf_values (cells_of_type T)

abbrev InOrder : CType → Type 0
InOrder T = map case_of (values T) ≡ choices (parameters T)

abbrev Known : Type 0
Known = (T : CType) × InOrder T

-- the parameters of the parts of a record or of a table
abbrev joined : {A : Type 0} → List (A × Value) → List Param
joined {A} gs = flat_map (λ (f : A × List Param). f.1) (map (λ (f : A × Value). (f.0, case_of f.1)) gs)

records : (gss : List (List (List ℕ × Value))) → map case_of (map record_value gss) ≡ map joined gss
records [] = refl
records (gs ∷ gss) = let e = case_of-roll (V.Record gs) in let k = records gss in cc

tables : (ess : List (List (Param × Value))) → map case_of (map table_value ess) ≡ map joined ess
tables [] = refl
tables (es ∷ ess) = let e = case_of-roll (V.Table es) in let k = tables ess in cc

params : (vs : List Param) → map case_of (map param_value vs) ≡ choices (vs ∷ [])
params [] = refl
params (v ∷ vs) = let e = case_of-roll (V.Param v) in let k = params vs in cc

-- each of a list of values before each choice of the rest
one-entry : {A : Type 0} (v : A) (vs : List A) (x : Value) (uss : List (List Value)) →
    map joined (map (λ us. zip (v ∷ vs) us) (map (λ us. x ∷ us) uss)) ≡ map (λ ps. case_of x ++ ps) (map joined (map (λ us. zip vs us) uss))
one-entry v vs x [] = refl
one-entry v vs x (us ∷ uss) = ap (λ pss. (case_of x ++ joined (zip vs us)) ∷ pss) (one-entry v vs x uss)

all-entries : {A : Type 0} (v : A) (vs : List A) (xs : List Value) (uss : List (List Value)) →
    map joined (map (λ us. zip (v ∷ vs) us) (flat_map (λ x. map (λ us. x ∷ us) uss) xs)) ≡ both (map case_of xs) (map joined (map (λ us. zip vs us) uss))
all-entries v vs [] uss = refl
all-entries v vs (x ∷ xs) uss =
    ap (map joined) (map-append (λ us. zip (v ∷ vs) us) (map (λ us. x ∷ us) uss) (flat_map (λ x. map (λ us. x ∷ us) uss) xs))
    ∙ map-append joined (map (λ us. zip (v ∷ vs) us) (map (λ us. x ∷ us) uss)) (map (λ us. zip (v ∷ vs) us) (flat_map (λ x. map (λ us. x ∷ us) uss) xs))
    ∙ ap (λ pss. pss ++ map joined (map (λ us. zip (v ∷ vs) us) (flat_map (λ x. map (λ us. x ∷ us) uss) xs))) (one-entry v vs x uss)
    ∙ ap (λ pss. map (λ ps. case_of x ++ ps) (map joined (map (λ us. zip vs us) uss)) ++ pss) (all-entries v vs xs uss)

-- the parameters of a field, then those of the fields after it
leaves-first : (s : PathStep) (cs ds : List Leaf) →
    flat_map leaf_values cs ++ flat_map leaf_values ds ≡ flat_map leaf_values (map (below s) cs ++ ds)
leaves-first s cs ds =
    ap (λ vs. vs ++ flat_map leaf_values ds) (sym (leaves-below s cs)) ∙ sym (flat_map-append leaf_values (map (below s) cs) ds)

abbrev field_values : List (List ℕ × Known) → List (List ℕ × (CType × List Value))
field_values ys = map (λ (f : List ℕ × CType). (f.0, (f.1, values f.1))) (map (λ (f : List ℕ × Known). (f.0, f.1.0)) ys)

abbrev field_cells : List (List ℕ × Known) → List Leaf
field_cells ys =
    flat_map (λ (f : List ℕ × (CType × List Leaf)). map (below (Label f.0)) f.1.1) (map (λ (f : List ℕ × CType). (f.0, (f.1, cells_of_type f.1))) (map (λ (f : List ℕ × Known). (f.0, f.1.0)) ys))

fields-in-order : (ys : List (List ℕ × Known)) →
    map joined (map (λ us. zip (keys_of (field_values ys)) us) (choices (map (λ f. f.1.1) (field_values ys)))) ≡ choices (flat_map leaf_values (field_cells ys))
fields-in-order [] = refl
fields-in-order (y ∷ ys) =
    all-entries y.0 (keys_of (field_values ys)) (values y.1.0) (choices (map (λ f. f.1.1) (field_values ys)))
    ∙ ap (λ pss. both pss (map joined (map (λ us. zip (keys_of (field_values ys)) us) (choices (map (λ f. f.1.1) (field_values ys)))))) y.1.1
    ∙ ap (both (choices (parameters y.1.0))) (fields-in-order ys)
    ∙ sym (choices-append (parameters y.1.0) (flat_map leaf_values (field_cells ys)))
    ∙ ap choices (leaves-first (Label y.0) (cells_of_type y.1.0) (field_cells ys))

-- the same for the entries of a table
abbrev entry_cells : CType → List Param → List Leaf
entry_cells T vs = flat_map (λ (v : Param). map (below (Cell v)) (cells_of_type T)) vs

tables-in-order : (T : CType) → InOrder T → (vs : List Param) →
    map joined (map (λ us. zip vs us) (choices (map (λ (v : Param). values T) vs))) ≡ choices (flat_map leaf_values (entry_cells T vs))
tables-in-order T h [] = refl
tables-in-order T h (v ∷ vs) =
    all-entries v vs (values T) (choices (map (λ (v : Param). values T) vs))
    ∙ ap (λ pss. both pss (map joined (map (λ us. zip vs us) (choices (map (λ (v : Param). values T) vs))))) h
    ∙ ap (both (choices (parameters T))) (tables-in-order T h vs)
    ∙ sym (choices-append (parameters T) (flat_map leaf_values (entry_cells T vs)))
    ∙ ap choices (leaves-first (Cell v) (cells_of_type T) (entry_cells T vs))

-- the values of a parameter type, whatever stands beside the types of its arguments
constructor-values : {A : Type 0} (f : CType → A) (cs : List (Whole × List CType)) →
    flat_map (λ (c : Whole × List (List Param)). map (con_param c.0) (choices c.1)) (map (λ (c : Whole × List (CType × A)). (c.0, map (λ (p : CType × A). values_of p.0) c.1)) (map (λ (c : Whole × List CType). (c.0, map (λ (T : CType). (T, f T)) c.1)) cs))
    ≡ flat_map (λ (c : Whole × List CType). map (con_param c.0) (choices (map values_of c.1))) cs
constructor-values f [] = refl
constructor-values {A = A} f (c ∷ cs) =
    ap (λ vss. map (con_param c.0) (choices vss) ++ flat_map (λ (c : Whole × List (List Param)). map (con_param c.0) (choices c.1)) (map (λ (c : Whole × List (CType × A)). (c.0, map (λ (p : CType × A). values_of p.0) c.1)) (map (λ (c : Whole × List CType). (c.0, map (λ (T : CType). (T, f T)) c.1)) cs))) (map-map (λ (p : CType × A). values_of p.0) (λ (T : CType). (T, f T)) c.1)
    ∙ ap (λ vs. map (con_param c.0) (choices (map values_of c.1)) ++ vs) (constructor-values f cs)

abbrev types_of : List (Whole × List Known) → List (Whole × List CType)
types_of ys = map (λ (c : Whole × List Known). (c.0, map (λ (y : Known). y.0) c.1)) ys

by_layer : (x : C.CType-F CType) (y : C.CType-F Known) → map-CType Known CType (λ (y : Known). y.0) y ≡ x → InOrder (roll-CType x)
by_layer x C.Str e = subst (λ (z : C.CType-F CType). InOrder (roll-CType z)) e (simp (case_values-roll, cells-roll, case_of-roll))
by_layer x (C.Param w ys) e = subst (λ (z : C.CType-F CType). InOrder (roll-CType z)) e (simp (case_values-roll, cells-roll) (params _ ∙ ap (λ vs. choices (vs ∷ [])) (constructor-values values (types_of ys) ∙ sym (constructor-values cells_of_type (types_of ys)))))
by_layer x (C.Ints n) e = subst (λ (z : C.CType-F CType). InOrder (roll-CType z)) e (simp (case_values-roll, cells-roll) (ap (map case_of) (sym (map-map param_value number_param (upto n))) ∙ params (map number_param (upto n))))
by_layer x (C.Record ys) e = subst (λ (z : C.CType-F CType). InOrder (roll-CType z)) e (simp (case_values-roll, cells-roll) (ap (map case_of) (sym (map-map record_value (λ us. zip (keys_of (field_values ys)) us) (choices (map (λ f. f.1.1) (field_values ys))))) ∙ records _ ∙ fields-in-order ys))
by_layer x (C.Table P T) e = subst (λ (z : C.CType-F CType). InOrder (roll-CType z)) e (simp (case_values-roll, cells-roll) (ap (map case_of) (sym (map-map table_value (λ us. zip (values_of P.0) us) (choices (map (λ (v : Param). values T.0) (values_of P.0))))) ∙ tables _ ∙ tables-in-order T.0 T.1 (values_of P.0)))
by_layer x (C.Fun A B) e = subst (λ (z : C.CType-F CType). InOrder (roll-CType z)) e (simp (case_values-roll, cells-roll, case_of-roll))
by_layer x C.TypeSort e = subst (λ (z : C.CType-F CType). InOrder (roll-CType z)) e (simp (case_values-roll, cells-roll, case_of-roll))
by_layer x C.ParamSort e = subst (λ (z : C.CType-F CType). InOrder (roll-CType z)) e (simp (case_values-roll, cells-roll, case_of-roll))

-- numbering the string leaves changes no parameter
abbrev Keeps : Value → Type 0
Keeps v = (i l : ℕ) → case_of (fold-Value Numbered (number_step i) v l).0 ≡ case_of v

abbrev KnownValue : Type 0
KnownValue = (v : Value) × Keeps v

abbrev number_value : ℕ → Value → Numbered
number_value i = fold-Value Numbered (number_step i)

keeps-all : {A : Type 0} (i : ℕ) (ys : List (A × KnownValue)) (l : ℕ) →
    joined (number_all (map (λ (f : A × Value). (f.0, number_value i f.1)) (map (λ (f : A × KnownValue). (f.0, f.1.0)) ys)) l).0 ≡ joined (map (λ (f : A × KnownValue). (f.0, f.1.0)) ys)
keeps-all i [] l = refl
keeps-all {A = A} i (y ∷ ys) l =
    ap (λ ps. ps ++ joined (number_all (map (λ (f : A × Value). (f.0, number_value i f.1)) (map (λ (f : A × KnownValue). (f.0, f.1.0)) ys)) (number_value i y.1.0 l).1).0) (y.1.1 i l)
    ∙ ap (λ ps. case_of y.1.0 ++ ps) (keeps-all i ys (number_value i y.1.0 l).1)

numbered-keeps : (x : V.Value-F Value) (y : V.Value-F KnownValue) → map-Value KnownValue Value (λ (y : KnownValue). y.0) y ≡ x → Keeps (roll-Value x)
numbered-keeps x (V.Str ss) e i l = subst (λ (z : V.Value-F Value). case_of (number_value i (roll-Value z) l).0 ≡ case_of (roll-Value z)) e (simp (numbered_value-roll, case_of-roll))
numbered-keeps x (V.Param v) e i l = subst (λ (z : V.Value-F Value). case_of (number_value i (roll-Value z) l).0 ≡ case_of (roll-Value z)) e (simp (numbered_value-roll, case_of-roll))
numbered-keeps x (V.Record ys) e i l = subst (λ (z : V.Value-F Value). case_of (number_value i (roll-Value z) l).0 ≡ case_of (roll-Value z)) e (simp (numbered_value-roll, case_of-roll) (keeps-all i ys l))
numbered-keeps x (V.Table ys) e i l = subst (λ (z : V.Value-F Value). case_of (number_value i (roll-Value z) l).0 ≡ case_of (roll-Value z)) e (simp (numbered_value-roll, case_of-roll) (keeps-all i ys l))

closed-keeps : (i : ℕ) (vs : List Value) → map case_of (map (closed_parts i) vs) ≡ map case_of vs
closed-keeps i [] = refl
closed-keeps i (v ∷ vs) = let h = ind-Value Keeps numbered-keeps v i 0 in let k = closed-keeps i vs in cc

pub cases-in-order : (i : ℕ) (T : CType) → map case_of (case_values i T) ≡ cases_of T
cases-in-order i T = closed-keeps i (values T) ∙ ind-CType InOrder by_layer T
