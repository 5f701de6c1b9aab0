-- The outcomes of a typed term in an environment of values.
use Rattle.std.specs.Prelude.{ℕ, zero, suc, List, [], ◌∷◌, ◌++◌, map, length, reverse, zip, Option, chars, encode_utf8_all, option_and_then, option_map, slice_get}
use Rattle.std.specs.Map.{keys_of}
use Rattle.std.specs.Option.{option_map_or, option_to_list}
use Rattle.gft_core.specs.Words.{words_of, joined}
use Rattle.gft_core.specs.declared.place.Place.{Place}
use Rattle.gft_core.specs.declared.symbol.Sym.{Sym}
use Rattle.gft_rules.specs.declared.rule.Rule.{Rule}
use Rattle.gft_rules.specs.declared.rule.Rule.TheVariants as R
use Rattle.gft_syntax.specs.declared.ctype.CType.{CType, out-CType}
use Rattle.gft_syntax.specs.declared.ctype.CType.TheOpen.{CType-F}
use Rattle.gft_syntax.specs.declared.ctype.CType.TheFolds.{para-CType}
use Rattle.gft_syntax.specs.declared.linear.Branches.{Branches}
use Rattle.gft_syntax.specs.declared.linear.Branches.TheVariants.{Matched, Listed}
use Rattle.gft_syntax.specs.declared.linear.LinTerm.{LinTerm}
use Rattle.gft_syntax.specs.declared.linear.LinTerm.TheOpen.{LinTerm-F}
use Rattle.gft_syntax.specs.declared.linear.LinTerm.TheFolds.{fold-LinTerm}
use Rattle.gft_syntax.specs.declared.linear.Predef.{Predef}
use Rattle.gft_syntax.specs.declared.linear.Typed.{Typed}
use Rattle.gft_syntax.specs.declared.pattern.Pattern.{Pattern}
use Rattle.gft_syntax.specs.declared.value.Param.{Param, out-Param}
use Rattle.gft_syntax.specs.declared.value.Param.TheOpen.{Param-F}
use Rattle.gft_syntax.specs.declared.value.Value.{Value, out-Value}
use Rattle.gft_syntax.specs.declared.value.Value.TheOpen.{Value-F}
use Rattle.gft_model.specs.Values.{string_in, fields_in, entries_in, all_there, param_of, entry_at, extended, part, glued, cut_value}
use Rattle.gft_model.specs.ConcreteTypes.{field_of, values_of, function_in}
use Rattle.gft_model.specs.Matching.{Bindings, Match, matched, differs, hidden, Subject, parameter, closed, match_of, string_subject, known_words, words_value}
use Rattle.gft_model.specs.ValueForms.{con_param, number_param, string_value, param_value, record_value, table_value}

-- a stuck step: its rule, of + on a closed part, of a pattern or Predef on a closed part, or of no branch for a text,
-- and its place
pub record Stuck : Type 0 where
  pub rule : Rule
  pub place : Place

-- an outcome of a term of data
pub data Outcome : Type 0 where
  gives : Value → Outcome
  stuck_at : Stuck → Outcome

-- the values among outcomes
abbrev pub given : List Outcome → List Value
given [] = []
given (gives v ∷ os) = v ∷ given os
given (stuck_at k ∷ os) = given os

-- what a term may mean where functions take what is of the kind A, and its outcomes in order, stuck steps among them
mutual
  -- a value, or a function
  pub data Meaning (A : Type 0) : Type 0 where
    plain : Value → Meaning A
    function : (A → Results A) → Meaning A

  -- the outcomes in order
  pub data Results (A : Type 0) : Type 0 where
    none : Results A
    also : Meaning A → Results A → Results A
    stuck : Stuck → Results A → Results A

-- what a function may be given: a value, or a function of values; terms mean values, and functions of these
abbrev pub Operand : Type 0
Operand = Meaning Value

-- one outcome
abbrev pub one : {A : Type 0} → Meaning A → Results A
one m = also m none

-- one stuck step
abbrev pub stuck_by : {A : Type 0} → Rule → Place → Results A
stuck_by rule place = stuck (record { rule = rule; place = place }) none

-- the outcomes of the first, then those of the second
abbrev pub followed_by : {A : Type 0} → Results A → Results A → Results A
followed_by none s = s
followed_by (also m r) s = also m (followed_by r s)
followed_by (stuck k r) s = stuck k (followed_by r s)

-- for each outcome of the first, the outcomes of what comes next; a stuck step stays
abbrev pub and_then : {A B : Type 0} → Results A → (Meaning A → Results B) → Results B
and_then none next = none
and_then (also m r) next = followed_by (next m) (and_then r next)
and_then (stuck k r) next = stuck k (and_then r next)

-- what is given, as what a term means: a function of values, as one that takes no functions
abbrev mutual
  pub raised : Operand → Meaning Operand
  raised (plain v) = plain v
  raised (function f) = function (λ m. elim m [ plain v ↦ raised_all (f v) | function g ↦ none ])

  pub raised_all : Results Value → Results Operand
  raised_all none = none
  raised_all (also m r) = also (raised m) (raised_all r)
  raised_all (stuck k r) = stuck k (raised_all r)

-- and back: what a term means, as what is given; a function is given values alone
abbrev mutual
  pub lowered : Meaning Operand → Operand
  lowered (plain v) = plain v
  lowered (function f) = function (λ v. lowered_all (f (plain v)))

  pub lowered_all : Results Operand → Results Value
  lowered_all none = none
  lowered_all (also m r) = also (lowered m) (lowered_all r)
  lowered_all (stuck k r) = stuck k (lowered_all r)

-- the same as and_then where what comes next wants data
abbrev pub with_value : {A B : Type 0} → Results A → (Value → Results B) → Results B
with_value r next = and_then r (λ m. elim m [ plain v ↦ next v | function f ↦ none ])

-- one outcome of each, from left to right, and one value of each
abbrev pub with_all : {A B : Type 0} → List (Results A) → (List (Meaning A) → Results B) → Results B
with_all [] next = next []
with_all (r ∷ rs) next = and_then r (λ m. with_all rs (λ ms. next (m ∷ ms)))

abbrev pub with_values : {A B : Type 0} → List (Results A) → (List Value → Results B) → Results B
with_values [] next = next []
with_values (r ∷ rs) next = with_value r (λ v. with_values rs (λ vs. next (v ∷ vs)))

-- the outcomes of each, one after the other
abbrev pub all_of : {A : Type 0} → List (Results A) → Results A
all_of [] = none
all_of (r ∷ rs) = followed_by r (all_of rs)

-- the outcomes of data
abbrev pub outcomes : {A : Type 0} → Results A → List Outcome
outcomes none = []
outcomes (also (plain v) r) = gives v ∷ outcomes r
outcomes (also (function f) r) = outcomes r
outcomes (stuck k r) = stuck_at k ∷ outcomes r

-- what a term of a grammar means: its outcomes in an environment
abbrev pub TermResults : Type 0
TermResults = Results Operand

-- the values of the arguments of a judgement, and what the variables are, the nearest first
pub record Environment : Type 0 where
  pub arguments : List Value
  pub variables : List (List ℕ × Meaning Operand)

-- variables before the others, and those of a pattern with their values
abbrev pub bind_all : List (List ℕ × Meaning Operand) → Environment → Environment
bind_all bs env = record { arguments = env.arguments; variables = bs ++ env.variables }

abbrev pub bind_values : Bindings → Environment → Environment
bind_values bs env = bind_all (map (λ b. (b.0, plain b.1)) bs) env

-- a value that is there
abbrev pub just : Option Value → TermResults
just v = option_map_or (λ u. one (plain u)) v none

-- for each outcome what comes next of the part that is wanted; a value without it has no outcome
abbrev pub with_part : {A : Type 0} → (Value-F Value → Option A) → TermResults → (A → TermResults) → TermResults
with_part view r next = with_value r (λ v. option_map_or next (view (out-Value v)) none)

-- the same of the parameter that a value is
abbrev pub with_param : TermResults → (Param → TermResults) → TermResults
with_param r next = with_value r (λ v. option_map_or next (param_of v) none)

-- what is made of the words of a string that holds words only; else it is stuck
abbrev pub with_words : Rule → Place → List Sym → (List (List ℕ) → TermResults) → TermResults
with_words rule place ss next = option_map_or next (known_words ss) (stuck_by rule place)

-- a part of a known text, cut into words again
abbrev pub predef_string : Predef → ℕ → List (List ℕ) → TermResults
predef_string p n ws = one (plain (words_value (words_of (encode_utf8_all (part p n (chars (joined ws)))))))

-- where a number is wanted
abbrev pub on_number : (ℕ → TermResults) → Param-F Param → TermResults
on_number f (Param-F.Ints n) = f n
on_number f v = none

-- where no branch matches, a text is stuck
abbrev pub no_branch : Place → Subject → TermResults
no_branch place (parameter v) = none
no_branch place (Subject.text cs) = stuck_by R.NoStringBranch place
no_branch place (closed ss) = stuck_by R.MatchOnArgument place

-- the branch, the next one, or what there is where that cannot be told
abbrev pub taken : Match → (Bindings → TermResults) → TermResults → TermResults → TermResults
taken (matched bs) here after untold = here bs
taken differs here after untold = after
taken hidden here after untold = untold

-- the first branch that matches; else the one, where that cannot be told, or the other, where none matches
abbrev pub first_match : TermResults → TermResults → Subject → List (Pattern × (Environment → TermResults)) → Environment → TermResults
first_match untold unmatched s [] env = unmatched
first_match untold unmatched s (b ∷ bs) env =
    taken (match_of b.0 s) (λ vs. b.1 (bind_values vs env)) (first_match untold unmatched s bs env) untold

-- the item at the subject's number among the values of the type
abbrev pub item_at : Subject → List (Param × (Environment → TermResults)) → Environment → TermResults
item_at (parameter v) items env = option_map_or (λ t. t env) (entry_at v items) none
item_at s items env = none

-- the branch at the subject
abbrev pub branch_at : TermResults → TermResults → Subject → Branches (Environment → TermResults) → Environment → TermResults
branch_at untold unmatched s (Matched bs) env = first_match untold unmatched s bs env
branch_at untold unmatched s (Listed P ts) env = item_at s (zip (values_of P) ts) env

-- what a selector is to branches
abbrev pub subject_of : Value-F Value → Value → (Subject → TermResults) → TermResults
subject_of (Value-F.Str ss) v next = next (string_subject ss)
subject_of (Value-F.Param p) v next = next (parameter p)
subject_of d v next = option_map_or (λ p. next (parameter p)) (param_of v) none

-- how a function of the given type is made one of a supertype
abbrev pub Cutting : Type 0 → Type 0
Cutting A = CType → (A → Results A) → Meaning A

-- what is of type S, cut to a supertype
abbrev pub cut_meaning : {A : Type 0} → CType × Cutting A → CType → Meaning A → Meaning A
cut_meaning T S (plain v) = plain (cut_value T.0 v)
cut_meaning T S (function f) = T.1 S f

-- how functions of a layer are cut: the argument to what the function's own type takes, before the function takes it, and
-- the result to what the supertype gives; arguments are cut from one type to another in the given way
abbrev pub cutting_step : {A : Type 0} → (CType → CType → A → A) → CType-F (CType × Cutting A) → Cutting A
cutting_step cut (CType-F.Fun P R) S f = option_map_or
    (λ s. function (λ a. and_then (f (cut P.0 s.0 a)) (λ m. one (cut_meaning R s.1 m)))) (function_in (out-CType S)) (function f)
cutting_step cut d S f = function f

abbrev pub cut_by : {A : Type 0} → (CType → CType → A → A) → CType → CType → Meaning A → Meaning A
cut_by {A} cut S T = cut_meaning (T, para-CType (Cutting A) (cutting_step cut) T) S

-- what is given, of type S, cut to its supertype T; and so what a term means, whose functions take what is given
abbrev pub cut_operand : CType → CType → Operand → Operand
cut_operand = cut_by (λ S T v. cut_value T v)

abbrev pub cut_to : CType → CType → Meaning Operand → Meaning Operand
cut_to = cut_by cut_operand

-- what a layer means, from what its parts mean, where the opers mean what is given
abbrev pub step : (ℕ → TermResults) → LinTerm-F (Environment → TermResults) → Environment → TermResults
step opers (LinTerm-F.Var x) env = option_map_or one (field_of x env.variables) none
step opers (LinTerm-F.Arg i) env = just (slice_get env.arguments i)
step opers (LinTerm-F.Words ws) env = one (plain (words_value ws))
step opers (LinTerm-F.Num n) env = one (plain (param_value (number_param n)))
step opers (LinTerm-F.Con w ts) env =
    with_values (map (λ t. t env) ts)
    (λ vs. just (option_map (λ ps. param_value (con_param w ps)) (all_there (map param_of vs))))
step opers (LinTerm-F.Concat a b) env =
    with_part string_in (a env) (λ ss. with_part string_in (b env) (λ ts. one (plain (string_value (ss ++ ts)))))
step opers (LinTerm-F.Glue a b place) env =
    with_part string_in (a env) (λ ss. with_part string_in (b env) (λ ts. with_words R.GlueOnArgument place ss
    (λ us. with_words R.GlueOnArgument place ts (λ vs. one (plain (words_value (glued us vs)))))))
step opers (LinTerm-F.Predef p n s place) env =
    with_param (n env) (λ v. on_number (λ k. with_part string_in (s env)
    (λ ss. with_words R.MatchOnArgument place ss (predef_string p k))) (out-Param v))
step opers (LinTerm-F.Record fs) env =
    with_values (map (λ f. f.1 env) fs)
    (λ vs. one (plain (record_value (extended [] (zip (keys_of fs) vs)))))
step opers (LinTerm-F.Extend a b) env =
    with_part fields_in (a env) (λ fs. with_part fields_in (b env) (λ gs. one (plain (record_value (extended fs gs)))))
step opers (LinTerm-F.Proj t x) env = with_part fields_in (t env) (λ fs. just (field_of x fs))
step opers (LinTerm-F.Table P bs) env =
    with_values (map (λ v. branch_at none none (parameter v) bs env) (values_of P))
    (λ vs. one (plain (table_value (zip (values_of P) vs))))
step opers (LinTerm-F.Select t e) env =
    with_part entries_in (t env) (λ es. with_param (e env) (λ p. just (entry_at p es)))
step opers (LinTerm-F.Case e bs place) env =
    with_value (e env) (λ v. subject_of (out-Value v) v
    (λ s. branch_at (stuck_by R.MatchOnArgument place) (no_branch place s) s bs env))
step opers (LinTerm-F.Variants ts) env = all_of (map (λ t. t env) ts)
step opers (LinTerm-F.Let xs a b) env =
    with_all (map (λ x. a env) xs) (λ ms. b (bind_all (reverse (zip xs ms)) env))
step opers (LinTerm-F.Cut t S T) env = and_then (t env) (λ m. one (cut_to S T m))
step opers (LinTerm-F.Oper k) env = opers k
step opers (LinTerm-F.Lambda x b) env =
    one (function (λ m. b (bind_all (map (λ y. (y, raised m)) (option_to_list x)) env)))
step opers (LinTerm-F.App f a) env =
    and_then (f env) (λ m. elim m [ plain v ↦ none | function g ↦ and_then (a env) (λ n. g (lowered n)) ])

-- what a term means in an environment, where the opers mean what is given
abbrev pub results_of : (ℕ → TermResults) → LinTerm → Environment → TermResults
results_of opers = fold-LinTerm (Environment → TermResults) (step opers)

-- the outcomes of a term of data, in order
abbrev pub outcomes_of : (ℕ → TermResults) → LinTerm → Environment → List Outcome
outcomes_of opers t env = outcomes (results_of opers t env)

-- no arguments and no variables
abbrev pub no_environment : Environment
no_environment = record { arguments = []; variables = [] }

-- what the oper of a number means, where at most so many opers are within one another
abbrev pub opers_within : ℕ → List (Option Typed) → ℕ → TermResults
opers_within zero typed k = none
opers_within (suc n) typed k =
    option_map_or (λ t. results_of (opers_within n typed) t.term no_environment)
    (option_and_then (λ t. t) (slice_get typed k)) none

-- what the opers mean: the outcomes of their definitions; none needs itself
abbrev pub opers_of : List (Option Typed) → ℕ → TermResults
opers_of typed = opers_within (length typed) typed
