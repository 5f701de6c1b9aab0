-- Worked examples of types, each computed: values, cells and cases in order.
use Rattle.std.proofs.Common.{◌≡◌, refl, ap, sym, ◌∙◌, ℕ, List, [], ◌∷◌, Some, None, false, arith}
use Rattle.std.specs.Prelude.{codes}
use Rattle.gft_syntax.specs.declared.reference.Whole.{Whole}
use Rattle.gft_syntax.specs.declared.ctype.CType.{CType, out-CType, roll-CType}
use Rattle.gft_syntax.specs.declared.ctype.CType.TheOpen as C
use Rattle.gft_syntax.specs.declared.ctype.CType.TheFolds.{fold-roll-CType}
use Rattle.gft_syntax.specs.declared.ctype.CType.TheViews.{out-roll-CType}
use Rattle.gft_syntax.specs.declared.value.Param.{Param}
use Rattle.gft_syntax.specs.declared.value.PathStep.TheVariants.{Label, Cell}
use Rattle.gft_model.specs.ConcreteTypes.{values_of, cases_of, string_cells, is_finite, field_of, IsSubtype, equal, fewer_labels, tables, numbers, functions, HasLabels, no_label, label}
use Rattle.gft_model.proofs.Computing.{cells-roll}
use Rattle.gft_model.specs.ValueForms.{con_param, number_param, record_param}

-- param Number = Sg | Pl, of a module M
abbrev whole : List ℕ → Whole
whole x = record { «module» = codes "M"; name = x }

abbrev sg : Param
sg = con_param (whole (codes "Sg")) []

abbrev pl : Param
pl = con_param (whole (codes "Pl")) []

abbrev number : CType
number = roll-CType (C.Param (whole (codes "Number")) ((whole (codes "Sg"), []) ∷ (whole (codes "Pl"), []) ∷ []))

abbrev digit : CType
digit = roll-CType (C.Ints 2)

abbrev str : CType
str = roll-CType C.Str

-- {n : Number ; p : Ints 2}: the label n counts most
abbrev pairs : CType
pairs = roll-CType (C.Record ((codes "n", number) ∷ (codes "p", digit) ∷ []))

abbrev pair : Param → ℕ → Param
pair v n = record_param ((codes "n", v) ∷ (codes "p", number_param n) ∷ [])

pub values_in_order : values_of pairs ≡ pair sg 0 ∷ pair sg 1 ∷ pair sg 2 ∷ pair pl 0 ∷ pair pl 1 ∷ pair pl 2 ∷ []
values_in_order = simp fold-roll-CType

-- its cases as a linearization type: one value for each of the two cells
pub cases_in_order : cases_of pairs
    ≡ (sg ∷ number_param 0 ∷ []) ∷ (sg ∷ number_param 1 ∷ []) ∷ (sg ∷ number_param 2 ∷ []) ∷ (pl ∷ number_param 0 ∷ []) ∷ (pl ∷ number_param 1 ∷ []) ∷ (pl ∷ number_param 2 ∷ []) ∷ []
cases_in_order = simp cells-roll

-- {s : Number => Str}: two string cells, Sg before Pl
pub cells_in_order : string_cells (roll-CType (C.Record ((codes "s", roll-CType (C.Table number str)) ∷ [])))
    ≡ (Label (codes "s") ∷ Cell sg ∷ []) ∷ (Label (codes "s") ∷ Cell pl ∷ []) ∷ []
cells_in_order = simp (cells-roll, fold-roll-CType)

-- Str is not finite, and has one case
pub strings_are_many : is_finite str ≡ false
strings_are_many = simp fold-roll-CType

pub strings_have_one_case : cases_of str ≡ [] ∷ []
strings_have_one_case = simp cells-roll

-- Number => Str has no value among parameters
pub tables_are_none : values_of (roll-CType (C.Table number str)) ≡ []
tables_are_none = simp fold-roll-CType

-- {s : Str} and {n : Number ; s : Str}
abbrev small : List (List ℕ × CType)
small = (codes "s", str) ∷ []

abbrev large : List (List ℕ × CType)
large = (codes "n", number) ∷ (codes "s", str) ∷ []

abbrev record_of : List (List ℕ × CType) → CType
record_of fs = roll-CType (C.Record fs)

-- a record type with more labels is a subtype
pub more_labels : IsSubtype (record_of large) (record_of small)
more_labels = fewer_labels (out-roll-CType _) (out-roll-CType _) (label refl equal no_label)

-- so is a table type of such a type over the same type
pub tables_of_more : IsSubtype (roll-CType (C.Table number (record_of large))) (roll-CType (C.Table number (record_of small)))
tables_of_more = tables (out-roll-CType _) (out-roll-CType _) more_labels

-- and Ints 2 of Ints 5
pub fewer_numbers : IsSubtype digit (roll-CType (C.Ints 5))
fewer_numbers = numbers (out-roll-CType _) (out-roll-CType _) (omega arith)

-- a record type with fewer labels is none
lacks_n : {fs gs : List (List ℕ × CType)} → HasLabels fs gs → fs ≡ small → gs ≡ large → ⊥
lacks_n no_label f g = cc
lacks_n (label {fs = fs} {l = l} {T = T} e s h) f g =
    let q : (l, T) ≡ (codes "n", number) = cc in
    let x : l ≡ codes "n" = ap (λ (p : List ℕ × CType). p.0) q in
    let k : None ≡ Some _ = sym (ap (λ (k : List ℕ). field_of k fs) x ∙ ap (field_of (codes "n")) f) ∙ e in cc

pub fewer_are_none : {S T : CType} → IsSubtype S T → out-CType S ≡ C.Record small → out-CType T ≡ C.Record large → ⊥
fewer_are_none equal f g = cc
fewer_are_none (fewer_labels a b h) f g = lacks_n h (cc) (cc)
fewer_are_none (tables a b c) f g = cc
fewer_are_none (numbers a b c) f g = cc
fewer_are_none (functions a b c d) f g = cc

-- nor is a table type over another type
pub other_domain : {S T V W : CType} → IsSubtype S T → out-CType S ≡ C.Table digit V → out-CType T ≡ C.Table number W → ⊥
other_domain equal f g = let e : digit ≡ number = cc in let h = out-roll-CType (C.Ints 2) in let k = out-roll-CType (C.Param (whole (codes "Number")) ((whole (codes "Sg"), []) ∷ (whole (codes "Pl"), []) ∷ [])) in cc
other_domain (fewer_labels a b h) f g = cc
other_domain (tables a b c) f g = let e : digit ≡ number = cc in let h = out-roll-CType (C.Ints 2) in let k = out-roll-CType (C.Param (whole (codes "Number")) ((whole (codes "Sg"), []) ∷ (whole (codes "Pl"), []) ∷ [])) in cc
other_domain (numbers a b c) f g = cc
other_domain (functions a b c d) f g = cc
