-- Worked examples of the strings of trees: Dup A, where Dup says its argument twice and A is a choice,
-- and Age with a literal and with a hole.
use Rattle.std.proofs.Common.{◌≡◌, ap, subst, ℕ, zero, suc, Bool, true, false, List, [], ◌∷◌, ◌++◌, Option, Some, arith}
use Rattle.std.specs.Prelude.{codes, decimal, bytes_eq, Contains, ◌&&◌}
use Rattle.std.proofs.lemmas.Fmt.{decimal_digit}
use Rattle.gft_core.specs.declared.place.Place.{Place}
use Rattle.gft_core.specs.declared.tree.Tree.{Tree, roll-Tree}
use Rattle.gft_core.specs.declared.tree.Tree.TheOpen as Tree-F
use Rattle.gft_core.specs.declared.tree.Tree.TheViews.{out-roll-Tree}
use Rattle.gft_syntax.specs.declared.flat.Flat.{Flat}
use Rattle.gft_syntax.specs.declared.flat.FlatJudgement.{FlatJudgement}
use Rattle.gft_syntax.specs.declared.judgement.Judgement.{Judgement}
use Rattle.gft_syntax.specs.declared.judgement.Judgement.TheVariants as J
use Rattle.gft_syntax.specs.declared.linear.LinTerm.{LinTerm, roll-LinTerm}
use Rattle.gft_syntax.specs.declared.linear.LinTerm.TheOpen as L
use Rattle.gft_syntax.specs.declared.linear.Typed.{Typed}
use Rattle.gft_syntax.specs.declared.reference.PlacedName.{PlacedName}
use Rattle.gft_syntax.specs.declared.reference.Reference.TheVariants.{Written, Whole as WholeName}
use Rattle.gft_syntax.specs.declared.reference.Whole.{Whole}
use Rattle.gft_syntax.specs.declared.term.Term.{Term, roll-Term}
use Rattle.gft_syntax.specs.declared.term.Term.TheOpen as T
use Rattle.gft_syntax.specs.declared.term.Term.TheFolds.{fold-roll-Term}
use Rattle.gft_syntax.specs.declared.value.Value.TheViews.{out-roll-Value}
use Rattle.gft_model.specs.JudgementTyping.{literal_type}
use Rattle.gft_core.specs.declared.symbol.Sym.TheVariants.{Tok}
use Rattle.gft_model.specs.Brackets.{Piece, word as word_piece, opens, closes, grammar, bracketed}
use Rattle.gft_model.specs.TreeStrings.{strings_of, bracketed_strings}
use Rattle.gft_model.specs.TreeValues.{BracketedValue, bracketed_values}
use Rattle.gft_model.specs.ValueForms.{string_value, record_value}
use Rattle.gft_model.specs.TypeForms.{no_value}
use Rattle.gft_model.proofs.Computing.{results-roll, tree-roll, case_values-roll, numbered_value-roll, string_leaves-roll, first_string-roll}

abbrev pub nowhere : Place
nowhere = record { file = 0; line = 1; col = 1 }

abbrev pub whole : List ℕ → Whole
whole x = record { «module» = codes "Twice"; name = x }

abbrev pub named : List ℕ → PlacedName
named x = record { name = x; place = nowhere }

abbrev pub category : List ℕ → Term
category x = roll-Term (T.Var (WholeName (whole x)) nowhere)

abbrev pub nothing : Term
nothing = roll-Term (T.Empty nowhere)

abbrev pub entry : List ℕ → Judgement → FlatJudgement
entry x j = record { whole = whole x; judgement = j }

abbrev pub made : L.LinTerm-F LinTerm → LinTerm
made = roll-LinTerm

abbrev pub word : List ℕ → LinTerm
word w = made (L.Words (w ∷ []))

-- the value {s = w} in the bracket of the root
abbrev pub a_value : List ℕ → BracketedValue
a_value w = record { value = record_value ((codes "s", string_value (Tok w ∷ [])) ∷ []); strings = bracketed [] (word_piece grammar w ∷ []) ∷ [] }

-- x.s of the argument
abbrev pub s_of_x : LinTerm
s_of_x = made (L.Proj (made (L.Var (codes "x"))) (codes "s"))

-- {s = t}
abbrev pub field_s : LinTerm → LinTerm
field_s t = made (L.Record ((codes "s", t) ∷ []))

-- a judgement that names the type {s : Str}
abbrev pub a_lincat : Option Typed
a_lincat = Some (record { term = no_value; ctype = literal_type })

-- what typing gave for a lin; its type is not asked for
abbrev pub a_lin : LinTerm → Option Typed
a_lin t = Some (record { term = t; ctype = literal_type })

-- fun Dup : X -> S ; A : X, with lin Dup x = {s = x.s ++ x.s} ; A = {s = "a" | "b"}
abbrev pub twice : Flat
twice = record {
  name = Some (codes "Twice");
  start = Some (codes "S");
  cats = entry (codes "S") (J.Cat (named (codes "S")) []) ∷ entry (codes "X") (J.Cat (named (codes "X")) []) ∷ [];
  funs = entry (codes "Dup") (J.Fun (named (codes "Dup") ∷ []) (roll-Term (T.Arrow [] (category (codes "X")) (category (codes "S")) nowhere)))
      ∷ entry (codes "A") (J.Fun (named (codes "A") ∷ []) (category (codes "X"))) ∷ [];
  params = [];
  opers = [];
  concretes = record {
    name = codes "TwiceEng";
    judgements =
        entry (codes "S") (J.Lincat (named (codes "S") ∷ []) nothing) ∷ entry (codes "X") (J.Lincat (named (codes "X") ∷ []) nothing)
        ∷ entry (codes "Dup") (J.Lin (named (codes "Dup") ∷ []) [] nothing) ∷ entry (codes "A") (J.Lin (named (codes "A") ∷ []) [] nothing) ∷ [];
  } ∷ [];
  typed = a_lincat ∷ a_lincat ∷ a_lin (made (L.Lambda (Some (codes "x")) (field_s (made (L.Concat s_of_x s_of_x)))))
      ∷ a_lin (field_s (made (L.Variants (word (codes "a") ∷ word (codes "b") ∷ [])))) ∷ [];
}

abbrev pub apply : List ℕ → List Tree → Tree
apply f ts = roll-Tree (Tree-F.App f ts)

-- each choice is made once for the whole argument
pub said_twice : strings_of twice (codes "TwiceEng") [] (apply (codes "Dup") (apply (codes "A") [] ∷ []))
    ≡ (codes "a" ∷ codes "a" ∷ []) ∷ (codes "b" ∷ codes "b" ∷ []) ∷ []
said_twice = simp (out-roll-Tree, fold-roll-Term, tree-roll, results-roll, out-roll-Value, numbered_value-roll, string_leaves-roll, first_string-roll)

-- so a b is not among them
abbrev ends_in_b : List (List ℕ) → Bool
ends_in_b (u ∷ v ∷ []) = bytes_eq u (codes "a") && bytes_eq v (codes "b")
ends_in_b ws = false

none_of_two : ¬ Contains ((codes "a" ∷ codes "a" ∷ []) ∷ (codes "b" ∷ codes "b" ∷ []) ∷ []) (codes "a" ∷ codes "b" ∷ [])
none_of_two (zero, b, e) = let k : false ≡ true = ap ends_in_b e in cc
none_of_two (suc zero, b, e) = let k : false ≡ true = ap ends_in_b e in cc
none_of_two (suc (suc n), b, e) = omega (arith, b)

pub not_mixed : ¬ Contains (strings_of twice (codes "TwiceEng") [] (apply (codes "Dup") (apply (codes "A") [] ∷ []))) (codes "a" ∷ codes "b" ∷ [])
not_mixed h =
    none_of_two (subst (λ (ws : List (List (List ℕ))). Contains ws (codes "a" ∷ codes "b" ∷ [])) said_twice h)

-- its one bracket at the root holds two of the argument, each with the word
abbrev pub around_a : List ℕ → List Piece
around_a w = opens (1 ∷ []) ∷ word_piece grammar w ∷ closes ∷ []

pub brackets_of_dup : bracketed_strings twice (codes "TwiceEng") [] (apply (codes "Dup") (apply (codes "A") [] ∷ []))
    ≡ bracketed [] (around_a (codes "a") ++ around_a (codes "a")) ∷ bracketed [] (around_a (codes "b") ++ around_a (codes "b")) ∷ []
brackets_of_dup = simp (out-roll-Tree, fold-roll-Term, tree-roll, results-roll, out-roll-Value, numbered_value-roll, string_leaves-roll, first_string-roll)

-- the two values of A, at the root
pub values_of_a : bracketed_values twice (codes "TwiceEng") (apply (codes "A") []) [] (codes "X")
    ≡ a_value (codes "a") ∷ a_value (codes "b") ∷ []
values_of_a = simp (tree-roll, results-roll, string_leaves-roll)

-- fun Age : Int -> S, with lin Age n = {s = "age" ++ n.s}
abbrev pub home : Flat
home = record {
  name = Some (codes "Home");
  start = Some (codes "S");
  cats = entry (codes "S") (J.Cat (named (codes "S")) []) ∷ [];
  funs = entry (codes "Age") (J.Fun (named (codes "Age") ∷ []) (roll-Term (T.Arrow [] (roll-Term (T.Var (Written (codes "Int")) nowhere)) (category (codes "S")) nowhere))) ∷ [];
  params = [];
  opers = [];
  concretes = record {
    name = codes "HomeEng";
    judgements = entry (codes "S") (J.Lincat (named (codes "S") ∷ []) nothing) ∷ entry (codes "Age") (J.Lin (named (codes "Age") ∷ []) [] nothing) ∷ [];
  } ∷ [];
  typed = a_lincat ∷ a_lin (made (L.Lambda (Some (codes "x")) (field_s (made (L.Concat (word (codes "age")) s_of_x))))) ∷ [];
}

seven : decimal 7 ≡ codes "7"
seven = decimal_digit 7 (omega arith)

one : decimal 1 ≡ codes "1"
one = decimal_digit 1 (omega arith)

-- Age 7
pub literal_is_said : strings_of home (codes "HomeEng") [] (apply (codes "Age") (roll-Tree (Tree-F.Int 7) ∷ []))
    ≡ (codes "age" ∷ codes "7" ∷ []) ∷ []
literal_is_said = simp (seven, out-roll-Tree, fold-roll-Term, tree-roll, results-roll, out-roll-Value, numbered_value-roll, string_leaves-roll, first_string-roll)

-- Age ?1
pub hole_is_said : strings_of home (codes "HomeEng") [] (apply (codes "Age") (roll-Tree (Tree-F.Hole 1) ∷ []))
    ≡ (codes "age" ∷ codes "?1" ∷ []) ∷ []
hole_is_said = simp (one, out-roll-Tree, fold-roll-Term, tree-roll, results-roll, out-roll-Value, numbered_value-roll, string_leaves-roll, first_string-roll, case_values-roll)

-- ?1 of category S
pub lone_hole_is_said : strings_of home (codes "HomeEng") (codes "S") (roll-Tree (Tree-F.Hole 1)) ≡ (codes "?1" ∷ []) ∷ []
lone_hole_is_said = simp (one, out-roll-Tree, tree-roll, numbered_value-roll, string_leaves-roll, first_string-roll, case_values-roll)
