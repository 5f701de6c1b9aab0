-- What the definitions compute at one layer, so that worked examples can be computed.
use Rattle.std.proofs.Common.{◌≡◌, ap, ℕ, List, [], ◌∷◌, Bool}
use Rattle.gft_core.specs.declared.tree.Tree.{Tree, roll-Tree}
use Rattle.gft_core.specs.declared.tree.Tree.TheOpen.{Tree-F}
use Rattle.gft_core.specs.declared.tree.Tree.TheFolds.{fold-roll-Tree, map-Tree}
use Rattle.gft_syntax.specs.declared.ctype.CType.{CType, roll-CType}
use Rattle.gft_syntax.specs.declared.ctype.CType.TheOpen.{CType-F}
use Rattle.gft_syntax.specs.declared.ctype.CType.TheFolds.{fold-roll-CType, map-CType, para-CType, para-roll-CType}
use Rattle.gft_syntax.specs.declared.flat.Flat.{Flat}
use Rattle.gft_syntax.specs.declared.linear.LinTerm.{LinTerm, roll-LinTerm}
use Rattle.gft_syntax.specs.declared.linear.LinTerm.TheOpen.{LinTerm-F}
use Rattle.gft_syntax.specs.declared.linear.LinTerm.TheFolds.{fold-roll-LinTerm, map-LinTerm}
use Rattle.gft_syntax.specs.declared.pattern.Pattern.{Pattern, roll-Pattern}
use Rattle.gft_syntax.specs.declared.pattern.Pattern.TheOpen.{Pattern-F}
use Rattle.gft_syntax.specs.declared.pattern.Pattern.TheFolds.{fold-roll-Pattern, map-Pattern}
use Rattle.gft_syntax.specs.declared.term.Term.{roll-Term}
use Rattle.gft_syntax.specs.declared.term.Term.TheViews.{out-roll-Term}
use Rattle.gft_syntax.specs.Terms.{Layer}
use Rattle.gft_syntax.specs.declared.value.Param.{Param, roll-Param, out-Param}
use Rattle.gft_syntax.specs.declared.value.Param.TheOpen.{Param-F}
use Rattle.gft_syntax.specs.declared.value.Param.TheFolds.{fold-roll-Param, map-Param}
use Rattle.gft_syntax.specs.declared.value.Value.{Value, roll-Value}
use Rattle.gft_syntax.specs.declared.value.Value.TheOpen.{Value-F}
use Rattle.gft_syntax.specs.declared.value.Value.TheFolds.{fold-Value, fold-roll-Value, map-Value}
use Rattle.gft_model.specs.ConcreteTypes.{Leaf, cells_of_type, leaves_step}
use Rattle.gft_model.specs.Matching.{Subject, Match, match_of, match_step}
use Rattle.gft_model.specs.Outcomes.{TermResults, Environment, results_of, step}
use Rattle.gft_core.specs.declared.symbol.Sym.{Sym}
use Rattle.gft_syntax.specs.declared.pattern.Pattern.TheViews.{out-roll-Pattern}
use Rattle.gft_model.specs.PatternTyping.{pattern_form, plain_pattern}
use Rattle.gft_model.specs.TreeStrings.{string_step}
use Rattle.gft_model.specs.TreeValues.{case_values_step, Numbered, number_step, AtPosition, value_of_layer, bracketed_values}
use Rattle.gft_model.specs.TypeForms.{form, plain_form}
use Rattle.gft_model.specs.Values.{leaves_step as value_leaves, string_leaves, case_of, same_param, same_step, cut_value, cut_step}

pub form-roll : (d : Layer) → form (roll-Term d) ≡ plain_form d
unfolding form
form-roll d = ap plain_form (out-roll-Term d)

pub pattern_form-roll : (d : Pattern-F Pattern) → pattern_form (roll-Pattern d) ≡ plain_pattern d
unfolding pattern_form
pattern_form-roll d = ap plain_pattern (out-roll-Pattern d)

pub results-roll : (opers : ℕ → TermResults) (d : LinTerm-F LinTerm) (env : Environment) →
    results_of opers (roll-LinTerm d) env ≡ step opers (map-LinTerm LinTerm (Environment → TermResults) (results_of opers) d) env
results-roll opers d env = ap (λ (f : Environment → TermResults). f env) (fold-roll-LinTerm (Environment → TermResults) (step opers) d)

pub match-roll : (d : Pattern-F Pattern) (s : Subject) →
    match_of (roll-Pattern d) s ≡ match_step (map-Pattern Pattern (Subject → Match) match_of d) s
match-roll d s = ap (λ (f : Subject → Match). f s) (fold-roll-Pattern (Subject → Match) match_step d)

pub same-roll : (d : Param-F Param) (v : Param) →
    same_param (roll-Param d) v ≡ same_step (map-Param Param (Param → Bool) same_param d) (out-Param v)
same-roll d v = ap (λ (f : Param → Bool). f v) (fold-roll-Param (Param → Bool) (λ d v. same_step d (out-Param v)) d)

pub cut-roll : (d : CType-F CType) (v : Value) →
    cut_value (roll-CType d) v ≡ cut_step (map-CType CType (Value → Value) cut_value d) v
cut-roll d v = ap (λ (f : Value → Value). f v) (fold-roll-CType (Value → Value) cut_step d)

pub cells-roll : (d : CType-F CType) →
    cells_of_type (roll-CType d) ≡ leaves_step (map-CType CType (CType × List Leaf) (λ T. (T, cells_of_type T)) d)
cells-roll d = para-roll-CType (List Leaf) leaves_step d

pub tree-roll : (flat : Flat) (lang : List ℕ) (d : Tree-F Tree) (p C : List ℕ) →
    bracketed_values flat lang (roll-Tree d) p C ≡ value_of_layer flat lang (map-Tree Tree AtPosition (bracketed_values flat lang) d) p C
tree-roll flat lang d p C = ap (λ (f : AtPosition). f p C) (fold-roll-Tree AtPosition (value_of_layer flat lang) d)

pub numbered-roll : (i : ℕ) (d : Value-F Value) (l : ℕ) →
    fold-Value Numbered (number_step i) (roll-Value d) l ≡ number_step i (map-Value Value Numbered (fold-Value Numbered (number_step i)) d) l
numbered-roll i d l = ap (λ (f : Numbered). f l) (fold-roll-Value Numbered (number_step i) d)

pub numbered_value-roll : (i : ℕ) (d : Value-F Value) (l : ℕ) →
    (fold-Value Numbered (number_step i) (roll-Value d) l).0 ≡ (number_step i (map-Value Value Numbered (fold-Value Numbered (number_step i)) d) l).0
numbered_value-roll i d l = ap (λ (r : Value × ℕ). r.0) (numbered-roll i d l)

pub numbered_next-roll : (i : ℕ) (d : Value-F Value) (l : ℕ) →
    (fold-Value Numbered (number_step i) (roll-Value d) l).1 ≡ (number_step i (map-Value Value Numbered (fold-Value Numbered (number_step i)) d) l).1
numbered_next-roll i d l = ap (λ (r : Value × ℕ). r.1) (numbered-roll i d l)

pub first_string-roll : (d : Value-F Value) →
    fold-Value (List (List Sym)) string_step (roll-Value d) ≡ string_step (map-Value Value (List (List Sym)) (fold-Value (List (List Sym)) string_step) d)
first_string-roll d = fold-roll-Value (List (List Sym)) string_step d

pub string_leaves-roll : (d : Value-F Value) →
    string_leaves (roll-Value d) ≡ value_leaves (λ ss. ss ∷ []) (λ v. []) (map-Value Value (List (List Sym)) string_leaves d)
string_leaves-roll d = fold-roll-Value (List (List Sym)) (value_leaves (λ ss. ss ∷ []) (λ v. [])) d

pub case_values-roll : (d : CType-F CType) →
    para-CType (List Value) case_values_step (roll-CType d) ≡ case_values_step (map-CType CType (CType × List Value) (λ T. (T, para-CType (List Value) case_values_step T)) d)
case_values-roll d = para-roll-CType (List Value) case_values_step d

pub case_of-roll : (d : Value-F Value) → case_of (roll-Value d) ≡ value_leaves (λ ss. []) (λ v. v ∷ []) (map-Value Value (List Param) case_of d)
case_of-roll d = fold-roll-Value (List Param) (value_leaves (λ ss. []) (λ v. v ∷ [])) d
