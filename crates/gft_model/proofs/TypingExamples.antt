-- Worked examples of typing: a word, a record that is cut, a table, an overload, a Predef function.
use Rattle.std.proofs.Common.{◌≡◌, refl, ap, sym, ◌∙◌, ℕ, zero, suc, List, [], ◌∷◌, Some, None, Bool, true, false, subst, arith}
use Rattle.std.specs.Prelude.{codes, bytes_eq}
use Rattle.std.specs.List.{list_all, list_any}
use Rattle.gft_core.specs.declared.place.Place.{Place}
use Rattle.gft_core.specs.Words.{words_of}
use Rattle.gft_syntax.specs.declared.ctype.CType.{CType, out-CType, roll-CType}
use Rattle.gft_syntax.specs.declared.ctype.CType.TheOpen as C
use Rattle.gft_syntax.specs.declared.ctype.CType.TheViews.{out-roll-CType}
use Rattle.gft_syntax.specs.declared.ctype.CType.TheFolds.{fold-roll-CType, para-roll-CType}
use Rattle.gft_syntax.specs.declared.linear.Branches.TheVariants.{Matched}
use Rattle.gft_syntax.specs.declared.linear.LinTerm.{LinTerm}
use Rattle.gft_syntax.specs.declared.linear.LinTerm.TheOpen as L
use Rattle.gft_syntax.specs.declared.linear.Predef.TheVariants.{Dp}
use Rattle.gft_syntax.specs.declared.pattern.Pattern.{Pattern, roll-Pattern}
use Rattle.gft_syntax.specs.declared.pattern.Pattern.TheOpen as P
use Rattle.gft_syntax.specs.declared.value.Param.TheViews.{out-roll-Param}
use Rattle.gft_syntax.specs.declared.reference.Reference.TheVariants.{Written, Whole as WholeName}
use Rattle.gft_syntax.specs.declared.reference.Whole.{Whole}
use Rattle.gft_syntax.specs.declared.term.Case.{Case}
use Rattle.gft_syntax.specs.declared.term.Local.{Local}
use Rattle.gft_syntax.specs.declared.term.Local.TheVariants.{Value}
use Rattle.gft_syntax.specs.declared.term.Sort.TheVariants as Sort
use Rattle.gft_syntax.specs.declared.term.Term.{Term, roll-Term}
use Rattle.gft_syntax.specs.declared.term.Term.TheOpen as F
use Rattle.gft_model.specs.ConcreteTypes.{HasLabels, field_of, fewer_labels, tables, numbers, functions, label, no_label, equal, values_of}
use Rattle.gft_syntax.specs.declared.bind.Bind.TheVariants.{Variable}
use Rattle.gft_model.specs.ConcreteTyping.{lambda, variable as local_variable, empty_type, sort, Fits, FieldsHave, typed_given, typed_alone, IsData, IsType, Finds, Checks, Covers, patterns, passes, Takes, takes, takes_none, Suits, suits_by, overloaded, text_type, function_from, next_found, none_found, found, append, literal, number, same, cut, predef, application, applied_to, at_head, record_given, value_given, value_found, no_field, branches, branch, no_branch}
use Rattle.gft_model.specs.Items.{Item, alternative}
use Rattle.gft_model.specs.Matching.{match_of, is_matched, parameter}
use Rattle.std.specs.Map.{lookup}
use Rattle.gft_model.specs.Matching.{same_whole}
use Rattle.gft_model.specs.PatternTyping.{pattern_form, no_more, Scope, PatternFits, Constructs, constructs, sequence, variable, literal as text_literal, constructor_with}
use Rattle.gft_model.specs.TypeForms.{record_type, form, str_type, number_type, table_type, function_type, predef_term, greatest, made}
use Rattle.gft_model.proofs.Computing.{form-roll, pattern_form-roll, match-roll}
use Rattle.gft_model.specs.WrittenTypes.{takes_data, takes_data_step}
use Rattle.gft_model.proofs.TypeLaws.{type-once}
use Rattle.gft_model.proofs.FoundTypes.{find-once, fields-empty, check_form_is, same-tag, apart-tags, record-passes}
use Rattle.gft_model.proofs.PatternLaws.{form_is}

abbrev nowhere : Place
nowhere = record { file = 0; line = 1; col = 1 }

abbrev word : List ℕ → Term
word w = roll-Term (F.Lit w nowhere)

abbrev words : List ℕ → LinTerm
words w = made (L.Words (words_of w))

-- param Number = Sg | Pl, of a module M
abbrev whole : List ℕ → Whole
whole x = record { «module» = codes "M"; name = x }

abbrev numbers_of : List (Whole × List CType)
numbers_of = (whole (codes "Sg"), []) ∷ (whole (codes "Pl"), []) ∷ []

abbrev number_of : CType
number_of = roll-CType (C.Param (whole (codes "Number")) numbers_of)

abbrev name : List ℕ → Pattern
name x = roll-Pattern (P.Name (WholeName (whole x)) nowhere)

abbrev text : List ℕ → Pattern
text t = roll-Pattern (P.Text t nowhere)

-- x + "y" fits Str and binds x
pub sequence_fits : PatternFits str_type (roll-Pattern (P.Seq (roll-Pattern (P.Name (Written (codes "x")) nowhere)) (text (codes "y")) nowhere)) ((codes "x", str_type) ∷ [])
sequence_fits = sequence (pattern_form-roll _) (variable (pattern_form-roll _)) (text_literal (pattern_form-roll _))

-- Pl fits Number and binds nothing
of_number : (x : List ℕ) → lookup (same_whole (whole x)) numbers_of ≡ Some [] → Constructs (whole x) [] number_of
of_number x k = constructs (out-roll-CType _) k

pub plural_fits : PatternFits number_of (name (codes "Pl")) []
plural_fits = constructor_with (pattern_form-roll _) (of_number (codes "Pl") refl) no_more

-- a text fits nothing but Str
pub texts_only : {T : CType} {r : Pattern} {Γ : Scope} (t : List ℕ) (p : Place) → PatternFits T r Γ → pattern_form r ≡ P.Text t p → T ≡ str_type
texts_only t p (text_literal a) h = refl
texts_only t p d h = let k = form_is d in cc

-- {s : Str} and {n : Ints 0 ; s : Str}
abbrev small_fields : List (List ℕ × CType)
small_fields = (codes "s", str_type) ∷ []

abbrev large_fields : List (List ℕ × CType)
large_fields = (codes "n", number_type 0) ∷ (codes "s", str_type) ∷ []

abbrev small : CType
small = roll-CType (C.Record small_fields)

abbrev large : CType
large = roll-CType (C.Record large_fields)

abbrev zero_term : Term
zero_term = roll-Term (F.Num 0 nowhere)

-- {n = 0}
abbrev n_alone : List (Local Term)
n_alone = Value (codes "n" ∷ []) zero_term ∷ []

no_s : (U : CType) {fs gs : List (List ℕ × CType)} → HasLabels fs gs → fs ≡ (codes "n", U) ∷ [] → gs ≡ small_fields → ⊥
no_s U no_label f g = cc
no_s U (label {fs = fs} {l = l} {S = S} {T = T} e s h) f g =
    let q : (l, T) ≡ (codes "s", str_type) = cc in
    let x : l ≡ codes "s" = ap (λ (p : List ℕ × CType). p.0) q in
    let k : None ≡ Some S = sym (ap (λ (k : List ℕ). field_of k fs) x ∙ ap (field_of (codes "s")) f) ∙ e in cc

abbrev starts_with_n : List (List ℕ × CType) → Bool
starts_with_n [] = false
starts_with_n (f ∷ fs) = bytes_eq f.0 (codes "n")

not_fitting : (U : CType) {S T : CType} {t u : LinTerm} → Fits S T t u → out-CType S ≡ C.Record ((codes "n", U) ∷ []) → out-CType T ≡ C.Record small_fields → ⊥
not_fitting U same k h =
    let i : (codes "n", U) ∷ [] ≡ small_fields = cc in
    let j : true ≡ false = ap starts_with_n i in cc
not_fitting U (cut n equal) k h = absurd (n refl)
not_fitting U (cut n (fewer_labels {fs = fs} {gs = gs} a b c)) k h =
    let f : fs ≡ (codes "n", U) ∷ [] = cc in let g : gs ≡ small_fields = cc in no_s U c f g
not_fitting U (cut n (tables a b c)) k h = cc
not_fitting U (cut n (numbers a b c)) k h = cc
not_fitting U (cut n (functions a b c d)) k h = cc
not_fitting U sort k h = let i = out-roll-CType C.ParamSort in cc

-- table {x => "w" ; ..}
abbrev branch_of : List ℕ → List ℕ → Case Term
branch_of x w = record { pattern = name x; body = word w }

abbrev table_of : List (Case Term) → Term
table_of cs = roll-Term (F.TableOf None cs nowhere)

abbrev apply : Term → Term → Term
apply g a = roll-Term (F.App g a nowhere)

abbrev is_application : F.Term-F Term → Bool
is_application (F.App g a p) = true
is_application d = false

abbrev is_function : C.CType-F CType → Bool
is_function (C.Fun A B) = true
is_function d = false

not_covered : ¬ Covers number_of (name (codes "Sg") ∷ [])
not_covered h =
    let k : list_all (λ v. list_any (λ p. is_matched (match_of p (parameter v))) (name (codes "Sg") ∷ [])) (values_of number_of) ≡ false
    = simp (fold-roll-CType, match-roll, out-roll-Param) in
    let e : false ≡ true = sym k ∙ h in cc

module _ (items : List Item) where
  -- a literal fits Str
  literal_fits : {Γ : Scope} (w : List ℕ) → Checks items Γ (word w) str_type (words w)
  literal_fits w = found (ap (λ d. passes d (out-CType str_type)) (form-roll (F.Lit w nowhere))) (literal (form-roll (F.Lit w nowhere))) same

  -- "a" ++ "b" is found to be Str
  pub append_is_str : Finds items [] (roll-Term (F.Concat (word (codes "a")) (word (codes "b")) nowhere)) str_type (made (L.Concat (words (codes "a")) (words (codes "b"))))
  append_is_str = append (form-roll _) (literal_fits (codes "a")) (literal_fits (codes "b"))

  -- a number is found to be nothing but Ints n
  pub numbers_only : {Γ : Scope} {e : Term} {T : CType} {t : LinTerm} (n : ℕ) (p : Place) → form e ≡ F.Num n p → Finds items Γ e T t → T ≡ number_type n
  numbers_only n p h d = (find-once items d (number h) refl refl).0

  -- types that are no function types
  data_of : (T : CType) (d : C.CType-F CType) → out-CType T ≡ d → is_function d ≡ false → IsData T
  data_of T d h k A B f = let e : false ≡ true = sym k ∙ ap is_function (sym h ∙ f) in cc

  str_data : IsData str_type
  str_data = data_of _ C.Str (out-roll-CType _) refl

  -- {s = "a" ; n = 0} given {s : Str} is cut to s
  pub record_is_cut : Checks items [] (roll-Term (F.Fields (Value (codes "s" ∷ []) (word (codes "a")) ∷ Value (codes "n" ∷ []) zero_term ∷ []) nowhere)) small (made (L.Cut (made (L.Record ((codes "s", words (codes "a")) ∷ (codes "n", made (L.Num 0)) ∷ []))) large small))
  record_is_cut = record_given (form-roll _) (out-roll-CType _)
      (value_given refl (literal_fits (codes "a")) (value_found refl (number (form-roll _)) (data_of _ (C.Ints 0) (out-roll-CType _) refl) no_field))
      (cut (λ e. let h = out-roll-CType (C.Record large_fields) in let k = out-roll-CType (C.Record small_fields) in let i = ap out-CType e in cc)
      (fewer_labels (out-roll-CType _) (out-roll-CType _) (label refl equal no_label)))

  -- {n = 0} does not fit it: s is lacking
  only_n : {Γ : Scope} {gs fs : List (List ℕ × CType)} {ls : List (Local Term)} {ts : List (List ℕ × LinTerm)} → FieldsHave items Γ gs ls fs ts → ls ≡ n_alone → (U : CType) × (fs ≡ (codes "n", U) ∷ [])
  only_n no_field h = absurd (cc)
  only_n (value_given {x = x} {T = T} a b c) h = let k : x ≡ codes "n" = cc in let j = fields-empty items c (cc) in (T, cc)
  only_n (value_found {x = x} {T = T} a b c d) h = let k : x ≡ codes "n" = cc in let j = fields-empty items d (cc) in (T, cc)
  only_n (typed_given a b c d x) h = absurd (cc)
  only_n (typed_alone a b c d x) h = absurd (cc)

  pub record_lacks_s : {T : CType} {t : LinTerm} → Checks items [] (roll-Term (F.Fields n_alone nowhere)) T t → out-CType T ≡ C.Record small_fields → ⊥
  record_lacks_s {T = T} {t = t} (record_given {ls = ls} {fs = fs} {ts = ts} a b c d) h =
      let k = form-roll (F.Fields n_alone nowhere) in let l : ls ≡ n_alone = cc in let u = only_n c l in
      not_fitting u.0 (subst (λ (gs : List (List ℕ × CType)). Fits (record_type gs) T (made (L.Record ts)) t) u.1 d) (out-roll-CType _) h
  record_lacks_s {T = T} (found a b c) h =
      let k : false ≡ true = sym a ∙ ap (λ d. passes d (out-CType T)) (form-roll _) ∙ record-passes n_alone nowhere T refl h in cc
  record_lacks_s (empty_type a) h = let k = out-roll-CType C.TypeSort in cc
  record_lacks_s d h = absurd (apart-tags _ _ refl (same-tag (form-roll _) refl (check_form_is items d)))

  -- \x, y -> x fits Str -> Str -> Str, and means one function in another
  pub two_variables_fit : Checks items [] (roll-Term (F.Fun (Variable (codes "x") nowhere ∷ Variable (codes "y") nowhere ∷ []) (roll-Term (F.Var (Written (codes "x")) nowhere)) nowhere))
      (function_type str_type (function_type str_type str_type)) (made (L.Lambda (Some (codes "x")) (made (L.Lambda (Some (codes "y")) (made (L.Var (codes "x")))))))
  two_variables_fit = lambda (form-roll _) (out-roll-CType _) (lambda (form-roll _) (out-roll-CType _)
      (found (ap (λ d. passes d (out-CType str_type)) (form-roll _)) (local_variable (form-roll _) refl) same))

  -- table {Sg => "a" ; Pl => "b"} fits Number => Str
  pub table_fits : Checks items [] (table_of (branch_of (codes "Sg") (codes "a") ∷ branch_of (codes "Pl") (codes "b") ∷ [])) (table_type number_of str_type)
      (made (L.Table number_of (Matched ((name (codes "Sg"), words (codes "a")) ∷ (name (codes "Pl"), words (codes "b")) ∷ []))))
  table_fits = branches (form-roll _) (out-roll-CType _) (λ d e. absurd (cc))
      (branch (constructor_with (pattern_form-roll _) (of_number (codes "Sg") refl) no_more) (literal_fits (codes "a")) str_data
      (branch (constructor_with (pattern_form-roll _) (of_number (codes "Pl") refl) no_more) (literal_fits (codes "b")) str_data no_branch))
      (simp (fold-roll-CType, match-roll, out-roll-Param))

  -- table {Sg => "a"} does not: Pl is left out
  pub table_leaves_out : {V T : CType} {t : LinTerm} → Checks items [] (table_of (branch_of (codes "Sg") (codes "a") ∷ [])) T t → out-CType T ≡ C.Table number_of V → ⊥
  table_leaves_out (branches {cs = cs} {P = P} a b z c d) h =
      let k = form-roll (F.TableOf None (branch_of (codes "Sg") (codes "a") ∷ []) nowhere) in
      let e : P ≡ number_of = cc in let f : cs ≡ branch_of (codes "Sg") (codes "a") ∷ [] = cc in
      not_covered (subst (λ (Q : CType). Covers Q (patterns (branch_of (codes "Sg") (codes "a") ∷ []))) e (subst (λ (ds : List (Case Term)). Covers P (patterns ds)) f d))
  table_leaves_out {T = T} (found a b c) h = let k : false ≡ true = sym a ∙ ap (λ d. passes d (out-CType T)) (form-roll _) in cc
  table_leaves_out d h = absurd (apart-tags _ _ refl (same-tag (form-roll _) refl (check_form_is items d)))

  -- Predef.dp 2 "flies" is found to be Str; the 2 is cut to the greatest Ints
  abbrev dp : Term
  dp = roll-Term (F.Proj (roll-Term (F.Sort Sort.Predef nowhere)) (codes "dp") nowhere)

  no_application : (g : Term) (d : F.Term-F Term) → form g ≡ d → is_application d ≡ false → (f a : Term) (p : Place) → ¬ (form g ≡ F.App f a p)
  no_application g d h k f a p e = let i : false ≡ true = sym k ∙ ap is_application (sym h ∙ e) in cc

  two_fits : Checks items [] (roll-Term (F.Num 2 nowhere)) (number_type greatest) (made (L.Cut (made (L.Num 2)) (number_type 2) (number_type greatest)))
  two_fits = found (ap (λ d. passes d (out-CType (number_type greatest))) (form-roll _)) (number (form-roll _))
      (cut (λ e. let h = out-roll-CType (C.Ints 2) in let k = out-roll-CType (C.Ints greatest) in let i = ap out-CType e in cc)
      (numbers (out-roll-CType _) (out-roll-CType _) (omega arith)))

  pub dp_is_str : Finds items [] (apply (apply dp (roll-Term (F.Num 2 nowhere))) (word (codes "flies"))) str_type
      (made (L.App (made (L.App (predef_term Dp nowhere) (made (L.Cut (made (L.Num 2)) (number_type 2) (number_type greatest))))) (words (codes "flies"))))
  dp_is_str = application (form-roll _)
      (application (form-roll _) (predef (form-roll _) (form-roll _) refl) (out-roll-CType _) two_fits) (out-roll-CType _)
      (literal_fits (codes "flies"))

-- f = overload {f : Str -> Str ; f : Str -> Str -> Str}
abbrev str_term : Term
str_term = roll-Term (F.Sort Sort.Str nowhere)

abbrev one_word : Term
one_word = roll-Term (F.Arrow [] str_term str_term nowhere)

abbrev two_words : Term
two_words = roll-Term (F.Arrow [] str_term one_word nowhere)

abbrev overload : List Item
overload = alternative (whole (codes "f")) None [] one_word zero_term ∷ alternative (whole (codes "f")) None [] two_words zero_term ∷ []

abbrev f : Term
f = roll-Term (F.Var (WholeName (whole (codes "f"))) nowhere)

abbrev from_str : CType → CType
from_str T = function_type str_type T

str_takes_data : takes_data str_type ≡ true
str_takes_data = para-roll-CType Bool takes_data_step C.Str

one_is : IsType overload one_word (from_str str_type)
one_is = function_from (form-roll _) (text_type (form-roll _)) str_takes_data (text_type (form-roll _))

two_is : IsType overload two_words (from_str (from_str str_type))
two_is = function_from (form-roll _) (text_type (form-roll _)) str_takes_data one_is

abbrev second_on : LinTerm → LinTerm → LinTerm
second_on t u = made (L.App (made (L.App (made (L.Oper 1)) t)) u)

suits_second : (t u : LinTerm) → Suits overload (whole (codes "f")) (str_type ∷ str_type ∷ []) (t ∷ u ∷ []) 1 str_type (second_on t u)
suits_second t u =
    suits_by refl two_is (takes (out-roll-CType _) equal same (takes (out-roll-CType _) equal same (takes_none (str_data overload))))

-- an alternative with one parameter does not take two arguments
no_function : {F R : CType} {Ss : List CType} {t u : LinTerm} {vs : List LinTerm} → Takes overload F t Ss vs R u → F ≡ str_type → Ss ≡ str_type ∷ [] → ⊥
no_function (takes_none a) e g = cc
no_function (takes a s b c) e g = let j = out-roll-CType C.Str in let l = ap out-CType e in cc

one_takes_one : {F R : CType} {Ss : List CType} {t u : LinTerm} {vs : List LinTerm} → Takes overload F t Ss vs R u → F ≡ from_str str_type → Ss ≡ str_type ∷ str_type ∷ [] → ⊥
one_takes_one (takes_none a) e g = cc
one_takes_one (takes a s b c) e g = let k = out-roll-CType (C.Fun str_type str_type) in let l = ap out-CType e in no_function c (cc) (cc)

only_second : (t u : LinTerm) (j : ℕ) (S : CType) (v : LinTerm) → Suits overload (whole (codes "f")) (str_type ∷ str_type ∷ []) (t ∷ u ∷ []) j S v → j ≡ 1
only_second t u zero S v (suits_by {D = D} a b c) =
    let i : one_word ≡ D = cc in absurd (one_takes_one c (type-once overload b one_is (sym i)) refl)
only_second t u (suc zero) S v s = refl
only_second t u (suc (suc j)) S v (suits_by a b c) = cc

-- f "a" "b" is found to be Str, and means the second alternative
pub overload_is_chosen : Finds overload [] (apply (apply f (word (codes "a"))) (word (codes "b"))) str_type (second_on (words (codes "a")) (words (codes "b")))
overload_is_chosen = overloaded 1
    (applied_to (form-roll _) (applied_to (form-roll _) (at_head (no_application overload _ _ (form-roll _) refl)))) (form-roll _) refl
    (next_found (literal (form-roll _)) (next_found (literal (form-roll _)) none_found))
    (record { suits = suits_second _ _; alone = only_second _ _ })

-- and nothing else
pub overload_is_chosen_once : {R : CType} {t : LinTerm} → Finds overload [] (apply (apply f (word (codes "a"))) (word (codes "b"))) R t → (R ≡ str_type) × (t ≡ second_on (words (codes "a")) (words (codes "b")))
overload_is_chosen_once d = find-once overload d overload_is_chosen refl refl
