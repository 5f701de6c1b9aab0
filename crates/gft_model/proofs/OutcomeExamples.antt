-- Worked examples of outcomes, each computed.
use Rattle.std.proofs.Common.{◌≡◌, ◌∙◌, ℕ, List, [], ◌∷◌, Some}
use Rattle.std.specs.Prelude.{codes}
use Rattle.std.specs.Str.{chars}
use lib.Utf8
use Rattle.gft_core.specs.declared.place.Place.{Place}
use Rattle.gft_core.specs.declared.symbol.Sym.{Sym}
use Rattle.gft_core.specs.declared.symbol.Sym.TheVariants.{Tok, Arg}
use Rattle.gft_syntax.specs.declared.linear.LinTerm.{LinTerm, roll-LinTerm}
use Rattle.gft_syntax.specs.declared.linear.LinTerm.TheOpen as L
use Rattle.gft_syntax.specs.declared.linear.Predef.TheVariants.{Dp}
use Rattle.gft_syntax.specs.declared.reference.Reference.TheVariants.{Written}
use Rattle.gft_syntax.specs.declared.value.Value.TheViews.{out-roll-Value}
use Rattle.gft_syntax.specs.declared.value.Param.TheViews.{out-roll-Param}
use Rattle.gft_syntax.specs.declared.value.Value.TheFolds.{fold-roll-Value}
use Rattle.gft_model.specs.ValueForms.{string_value, record_value}
use Rattle.gft_model.specs.Outcomes.{TermResults, Operand, Environment, opers_of, results_of, outcomes_of, no_environment, bind_all, none, also, one, plain, function, raised, followed_by, Outcome, gives, stuck_at}
use Rattle.gft_rules.specs.declared.rule.Rule.TheVariants as R
use Rattle.gft_syntax.specs.declared.ctype.CType.{roll-CType}
use Rattle.gft_syntax.specs.declared.ctype.CType.TheOpen as C
use Rattle.gft_syntax.specs.declared.linear.Branches.TheVariants.{Matched}
use Rattle.gft_syntax.specs.declared.pattern.Pattern.{Pattern, roll-Pattern}
use Rattle.gft_syntax.specs.declared.pattern.Pattern.TheOpen as P
use Rattle.std.specs.Option.{option_map_or}
use Rattle.gft_model.specs.ConcreteTypes.{field_of}
use Rattle.gft_model.specs.Matching.{words_value}
use Rattle.gft_model.specs.Values.{cut_value}
use Rattle.gft_model.proofs.Computing.{results-roll, match-roll, cut-roll}

abbrev made : L.LinTerm-F LinTerm → LinTerm
made = roll-LinTerm

-- a word, and a choice of two
abbrev word : List ℕ → LinTerm
word w = made (L.Words (w ∷ []))

abbrev either : LinTerm → LinTerm → LinTerm
either a b = made (L.Variants (a ∷ b ∷ []))

abbrev nowhere : Place
nowhere = record { file = 0; line = 1; col = 1 }

-- a string of known words
abbrev string : List Sym → Outcome
string ss = gives (string_value ss)

abbrev a : List ℕ
a = codes "a"

abbrev b : List ℕ
b = codes "b"

-- let x = "a" | "b" in x ++ x: a choice that is made once
pub bound_once : outcomes_of (λ k. none) (made (L.Let (codes "x" ∷ []) (either (word a) (word b)) (made (L.Concat (made (L.Var (codes "x"))) (made (L.Var (codes "x"))))))) no_environment
    ≡ string (Tok a ∷ Tok a ∷ []) ∷ string (Tok b ∷ Tok b ∷ []) ∷ []
bound_once = simp (results-roll, out-roll-Value)

-- ("a" | "b") ++ ("c" | "d"): from left to right
pub left_to_right : outcomes_of (λ k. none) (made (L.Concat (either (word a) (word b)) (either (word (codes "c")) (word (codes "d"))))) no_environment
    ≡ string (Tok a ∷ Tok (codes "c") ∷ []) ∷ string (Tok a ∷ Tok (codes "d") ∷ []) ∷ string (Tok b ∷ Tok (codes "c") ∷ []) ∷ string (Tok b ∷ Tok (codes "d") ∷ []) ∷ []
left_to_right = simp (results-roll, out-roll-Value)

-- "a" + x, where x is a closed part, is no value: it is stuck at its place
pub glue_is_stuck : outcomes_of (λ k. none) (made (L.Glue (word a) (made (L.Arg 0)) nowhere)) (record { arguments = string_value (Arg 0 0 ∷ []) ∷ []; variables = [] })
    ≡ stuck_at (record { rule = R.GlueOnArgument; place = nowhere }) ∷ []
glue_is_stuck = simp (results-roll, out-roll-Value)

-- "car" + "s"
pub glued_words : outcomes_of (λ k. none) (made (L.Glue (word (codes "car")) (word (codes "s")) nowhere)) no_environment
    ≡ string (Tok (codes "cars") ∷ []) ∷ []
glued_words = simp (results-roll, out-roll-Value)

-- variants {}: no outcome, and what stands to its right is not looked at
pub no_outcome : outcomes_of (λ k. none) (made (L.Concat (made (L.Variants [])) (made (L.Glue (word a) (made (L.Arg 0)) nowhere)))) no_environment
    ≡ []
no_outcome = simp results-roll

-- Predef.dp 2 "flies"
pub last_two : outcomes_of (λ k. none) (made (L.Predef Dp (made (L.Num 2)) (word (codes "flies")) nowhere)) no_environment
    ≡ string (Tok (codes "es") ∷ []) ∷ []
unfolding chars lib.Utf8.encode
last_two = simp (results-roll, out-roll-Value, out-roll-Param, fold-roll-Value)

-- patterns, and a case of a term
abbrev any : Pattern
any = roll-Pattern (P.Any nowhere)

abbrev number_pattern : ℕ → Pattern
number_pattern n = roll-Pattern (P.Num n nowhere)

abbrev text_pattern : List ℕ → Pattern
text_pattern w = roll-Pattern (P.Text w nowhere)

abbrev case : LinTerm → List (Pattern × LinTerm) → LinTerm
case e bs = made (L.Case e (Matched bs) nowhere)

-- an argument that is one closed part
abbrev closed_argument : Environment
closed_argument = record { arguments = string_value (Arg 0 0 ∷ []) ∷ []; variables = [] }

-- case 0 of {_ => "a" ; 0 => "b"}: the first branch that matches
pub first_branch : outcomes_of (λ k. none) (case (made (L.Num 0)) ((any, word a) ∷ (number_pattern 0, word b) ∷ [])) no_environment
    ≡ string (Tok a ∷ []) ∷ []
first_branch = simp (results-roll, match-roll, out-roll-Value)

-- case 0 of {1 => "a" ; 0 => "b"}: one that differs is passed over
pub second_branch : outcomes_of (λ k. none) (case (made (L.Num 0)) ((number_pattern 1, word a) ∷ (number_pattern 0, word b) ∷ [])) no_environment
    ≡ string (Tok b ∷ []) ∷ []
second_branch = simp (results-roll, match-roll, out-roll-Value, out-roll-Param)

-- case x of {_ => "a"} where x is a closed part: _ takes it
pub closed_under_any : outcomes_of (λ k. none) (case (made (L.Arg 0)) ((any, word a) ∷ [])) closed_argument
    ≡ string (Tok a ∷ []) ∷ []
closed_under_any = simp (results-roll, match-roll, out-roll-Value)

-- case x of {"b" => "a" ; _ => "b"} there is stuck, and the second branch is not looked at
pub closed_under_text : outcomes_of (λ k. none) (case (made (L.Arg 0)) ((text_pattern b, word a) ∷ (any, word b) ∷ [])) closed_argument
    ≡ stuck_at (record { rule = R.MatchOnArgument; place = nowhere }) ∷ []
closed_under_text = simp (results-roll, match-roll, out-roll-Value)

-- case "a" of {"b" => "a"}: a known text that no branch matches
pub no_branch_for_text : outcomes_of (λ k. none) (case (word a) ((text_pattern b, word a) ∷ [])) no_environment
    ≡ stuck_at (record { rule = R.NoStringBranch; place = nowhere }) ∷ []
unfolding chars lib.Utf8.encode
no_branch_for_text = simp (results-roll, match-roll, out-roll-Value)

-- ("a" + x) | "a" there: a stuck step is the outcome of its branch alone
pub stuck_in_one : outcomes_of (λ k. none) (either (made (L.Glue (word a) (made (L.Arg 0)) nowhere)) (word a)) closed_argument
    ≡ stuck_at (record { rule = R.GlueOnArgument; place = nowhere }) ∷ string (Tok a ∷ []) ∷ []
stuck_in_one = simp (results-roll, out-roll-Value)

-- {s = "a" ; t = "b"} where {s : Str} stands is cut to s
pub cut_to_s : cut_value (roll-CType (C.Record ((codes "s", roll-CType C.Str) ∷ []))) (record_value ((codes "s", string_value (Tok a ∷ [])) ∷ (codes "t", string_value (Tok b ∷ [])) ∷ []))
    ≡ record_value ((codes "s", string_value (Tok a ∷ [])) ∷ [])
cut_to_s = simp (cut-roll, out-roll-Value)

-- oper pl = \w -> case w of {x + "y" => x + "ies" ; _ => w + "s"}
abbrev plural : LinTerm
plural =
    made (L.Lambda (Some (codes "w")) (case (made (L.Var (codes "w"))) (
    (roll-Pattern (P.Seq (roll-Pattern (P.Name (Written (codes "x")) nowhere)) (text_pattern (codes "y")) nowhere), made (L.Glue (made (L.Var (codes "x"))) (word (codes "ies")) nowhere))
    ∷ (any, made (L.Glue (made (L.Var (codes "w"))) (word (codes "s")) nowhere)) ∷ [])))

abbrev opers : ℕ → TermResults
opers = opers_of (Some (record { term = plural; ctype = roll-CType C.Str }) ∷ [])

-- pl "fly" and pl "cat"
pub plural_of_fly : outcomes_of opers (made (L.App (made (L.Oper 0)) (word (codes "fly")))) no_environment ≡ string (Tok (codes "flies") ∷ []) ∷ []
unfolding chars lib.Utf8.encode
plural_of_fly = simp (results-roll, match-roll, out-roll-Value)

pub plural_of_cat : outcomes_of opers (made (L.App (made (L.Oper 0)) (word (codes "cat")))) no_environment ≡ string (Tok (codes "cats") ∷ []) ∷ []
unfolding chars lib.Utf8.encode
plural_of_cat = simp (results-roll, match-roll, out-roll-Value)

-- \f,x -> f (f x)
abbrev variable : List ℕ → LinTerm
variable x = made (L.Var x)

abbrev lambda : List ℕ → LinTerm → LinTerm
lambda x t = made (L.Lambda (Some x) t)

abbrev apply : LinTerm → LinTerm → LinTerm
apply f t = made (L.App f t)

abbrev twice : LinTerm
twice = lambda (codes "f") (lambda (codes "x") (apply (variable (codes "f")) (apply (variable (codes "f")) (variable (codes "x")))))

-- a lambda as one thing, and what it means: both of what it is given and !
pub choice : LinTerm
choice = lambda (codes "x") (either (variable (codes "x")) (word (codes "!")))

abbrev with_mark : Operand → TermResults
with_mark m = also (raised m) (also (plain (words_value (codes "!" ∷ []))) none)

choice_body : (opers : ℕ → TermResults) (env : Environment) → results_of opers (either (variable (codes "x")) (word (codes "!"))) env
    ≡ followed_by (option_map_or one (field_of (codes "x") env.variables) none) (also (plain (words_value (codes "!" ∷ []))) none)
choice_body opers env = simp results-roll

choice_means : (opers : ℕ → TermResults) (env : Environment) → results_of opers choice env ≡ one (function with_mark)
unfolding choice
choice_means opers env =
    results-roll opers (L.Lambda (Some (codes "x")) (either (variable (codes "x")) (word (codes "!")))) env
    ∙ (λ i. one (function (λ m. choice_body opers (bind_all ((codes "x", raised m) ∷ []) env) i)))

-- oper twice = \f,x -> f (f x) ; choice = \x -> x | "!": an oper is handed on
abbrev higher : ℕ → TermResults
higher = opers_of (Some (record { term = twice; ctype = roll-CType C.Str }) ∷ Some (record { term = choice; ctype = roll-CType C.Str }) ∷ [])

-- twice choice "a": for each outcome of the inner call, those of the outer one
pub handed_on : outcomes_of higher (apply (apply (made (L.Oper 0)) (made (L.Oper 1))) (word a)) no_environment
    ≡ string (Tok a ∷ []) ∷ string (Tok (codes "!") ∷ []) ∷ string (Tok (codes "!") ∷ []) ∷ string (Tok (codes "!") ∷ []) ∷ []
handed_on = simp (choice_means, results-roll)

-- let y = "a" | "b" in let f = \x -> x ++ y in f "c": a local may be a function, and keeps what its variables were
pub local_function : outcomes_of (λ k. none) (made (L.Let (codes "y" ∷ []) (either (word a) (word b)) (made (L.Let (codes "f" ∷ []) (lambda (codes "x") (made (L.Concat (variable (codes "x")) (variable (codes "y"))))) (apply (variable (codes "f")) (word (codes "c"))))))) no_environment
    ≡ string (Tok (codes "c") ∷ Tok a ∷ []) ∷ string (Tok (codes "c") ∷ Tok b ∷ []) ∷ []
local_function = simp (results-roll, out-roll-Value)
