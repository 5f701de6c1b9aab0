-- Worked examples of compilation: the productions, defs and refs of Twice and of Gend.
use Rattle.std.proofs.Common.{◌≡◌, ℕ, List, [], ◌∷◌, Option, Some}
use Rattle.std.specs.Prelude.{codes}
use Rattle.gft_core.specs.declared.symbol.Sym.{Sym}
use Rattle.gft_core.specs.declared.symbol.Sym.TheVariants.{Tok, Arg}
use Rattle.gft_syntax.specs.declared.ctype.CType.{CType, roll-CType}
use Rattle.gft_syntax.specs.declared.ctype.CType.TheOpen as C
use Rattle.gft_syntax.specs.declared.flat.Flat.{Flat}
use Rattle.gft_syntax.specs.declared.judgement.Judgement.TheVariants as J
use Rattle.gft_syntax.specs.declared.linear.Branches.TheVariants.{Matched}
use Rattle.gft_syntax.specs.declared.linear.LinTerm.{LinTerm}
use Rattle.gft_syntax.specs.declared.linear.LinTerm.TheOpen as L
use Rattle.gft_syntax.specs.declared.linear.Typed.{Typed}
use Rattle.gft_syntax.specs.declared.pattern.Pattern.{Pattern, roll-Pattern}
use Rattle.gft_syntax.specs.declared.pattern.Pattern.TheOpen as P
use Rattle.gft_syntax.specs.declared.reference.Reference.TheVariants.{Whole as WholeName}
use Rattle.gft_syntax.specs.declared.term.Term.{roll-Term}
use Rattle.gft_syntax.specs.declared.term.Term.TheOpen as T
use Rattle.gft_syntax.specs.declared.term.Term.TheFolds.{fold-roll-Term}
use Rattle.gft_syntax.specs.declared.value.Param.{Param}
use Rattle.gft_syntax.specs.declared.value.Param.TheViews.{out-roll-Param}
use Rattle.gft_syntax.specs.declared.value.Value.TheViews.{out-roll-Value}
use Rattle.gft_syntax.specs.declared.value.Value.TheFolds.{fold-roll-Value}
use Rattle.gft_model.specs.Productions.{CaseProduction, productions_of, defs_of, refs_of}
use Rattle.gft_model.specs.TypeForms.{no_value}
use Rattle.gft_model.specs.ValueForms.{con_param}
use Rattle.gft_model.proofs.Computing.{results-roll, match-roll, case_values-roll, numbered_value-roll, numbered_next-roll, string_leaves-roll, first_string-roll, case_of-roll}
use Rattle.gft_model.proofs.TermTreeExamples.{nowhere, whole, named, nothing, entry, category, made, word, field_s, a_lincat, a_lin, twice}

abbrev pub production : List (List Param) → List Param → List (List Sym) → CaseProduction
production arguments result sequences = record { arguments = arguments; result = result; sequences = sequences }

-- Dup has one production, which says the argument twice; A has two
pub of_dup : productions_of twice (codes "TwiceEng") (codes "Dup") ≡ production ([] ∷ []) [] ((Arg 0 0 ∷ Arg 0 0 ∷ []) ∷ []) ∷ []
of_dup = simp (fold-roll-Term, case_values-roll, case_of-roll, results-roll, out-roll-Value, numbered_value-roll, string_leaves-roll)

pub of_a : productions_of twice (codes "TwiceEng") (codes "A") ≡ production [] [] ((Tok (codes "a") ∷ []) ∷ []) ∷ production [] [] ((Tok (codes "b") ∷ []) ∷ []) ∷ []
of_a = simp (fold-roll-Term, case_of-roll, results-roll, string_leaves-roll)

-- param G = Ma | Fe; lincat K = {s : Str ; g : G}
abbrev pub gender : List ℕ → Param
gender x = con_param (whole x) []

abbrev pub gender_type : CType
gender_type = roll-CType (C.Param (whole (codes "G")) ((whole (codes "Ma"), []) ∷ (whole (codes "Fe"), []) ∷ []))

abbrev pub noun_type : CType
noun_type = roll-CType (C.Record ((codes "g", gender_type) ∷ (codes "s", roll-CType C.Str) ∷ []))

abbrev pub gender_pattern : List ℕ → Pattern
gender_pattern x = roll-Pattern (P.Name (WholeName (whole x)) nowhere)

-- {s = w ; g = x}
abbrev pub noun : List ℕ → List ℕ → Option Typed
noun w x = a_lin (made (L.Record ((codes "s", word w) ∷ (codes "g", made (L.Con (whole x) [])) ∷ [])))

-- case k.g of {Ma => "x" ; Fe => "x"}
abbrev pub by_gender : LinTerm
by_gender =
    made (L.Case (made (L.Proj (made (L.Var (codes "k"))) (codes "g"))) (Matched ((gender_pattern (codes "Ma"), word (codes "x")) ∷ (gender_pattern (codes "Fe"), word (codes "x")) ∷ [])) nowhere)

-- fun f : K -> S ; m, n : K, with lin f k = {s = case k.g of ..} ; m = {s = "m" ; g = Ma} ; n = {s = "n" ; g = Fe}
abbrev pub gend : Flat
gend = record {
  name = Some (codes "Gend");
  start = Some (codes "S");
  cats = entry (codes "S") (J.Cat (named (codes "S")) []) ∷ entry (codes "K") (J.Cat (named (codes "K")) []) ∷ [];
  funs = entry (codes "f") (J.Fun (named (codes "f") ∷ []) (roll-Term (T.Arrow [] (category (codes "K")) (category (codes "S")) nowhere)))
      ∷ entry (codes "m") (J.Fun (named (codes "m") ∷ []) (category (codes "K"))) ∷ entry (codes "n") (J.Fun (named (codes "n") ∷ []) (category (codes "K"))) ∷ [];
  params = [];
  opers = [];
  concretes = record {
    name = codes "GendEng";
    judgements =
        entry (codes "S") (J.Lincat (named (codes "S") ∷ []) nothing) ∷ entry (codes "K") (J.Lincat (named (codes "K") ∷ []) nothing)
        ∷ entry (codes "f") (J.Lin (named (codes "f") ∷ []) [] nothing) ∷ entry (codes "m") (J.Lin (named (codes "m") ∷ []) [] nothing)
        ∷ entry (codes "n") (J.Lin (named (codes "n") ∷ []) [] nothing) ∷ [];
  } ∷ [];
  typed = a_lincat ∷ Some (record { term = no_value; ctype = noun_type }) ∷ a_lin (made (L.Lambda (Some (codes "k")) (field_s by_gender)))
      ∷ noun (codes "m") (codes "Ma") ∷ noun (codes "n") (codes "Fe") ∷ [];
}

-- f has a production for each case of K, in the order of the genders
pub of_f : productions_of gend (codes "GendEng") (codes "f")
    ≡ production ((gender (codes "Ma") ∷ []) ∷ []) [] ((Tok (codes "x") ∷ []) ∷ []) ∷ production ((gender (codes "Fe") ∷ []) ∷ []) [] ((Tok (codes "x") ∷ []) ∷ []) ∷ []
of_f = simp (fold-roll-Term, case_values-roll, case_of-roll, results-roll, match-roll, out-roll-Value, out-roll-Param, numbered_value-roll, numbered_next-roll, string_leaves-roll)

-- n is of the case Fe
pub of_n : productions_of gend (codes "GendEng") (codes "n") ≡ production [] (gender (codes "Fe") ∷ []) ((Tok (codes "n") ∷ []) ∷ []) ∷ []
of_n = simp (fold-roll-Term, fold-roll-Value, results-roll)

-- the def of K is of its first case, and it has a ref for each case
pub def_of_k : defs_of gend (codes "GendEng") (codes "K") ≡ production [] (gender (codes "Ma") ∷ []) ((Arg 0 0 ∷ []) ∷ []) ∷ []
def_of_k = simp (case_values-roll, case_of-roll, string_leaves-roll)

pub refs_of_k : refs_of gend (codes "GendEng") (codes "K")
    ≡ production ((gender (codes "Ma") ∷ []) ∷ []) [] ((Arg 0 0 ∷ []) ∷ []) ∷ production ((gender (codes "Fe") ∷ []) ∷ []) [] ((Arg 0 0 ∷ []) ∷ []) ∷ []
refs_of_k = simp (case_values-roll, case_of-roll, numbered_value-roll, numbered_next-roll, first_string-roll, string_leaves-roll)
