-- Judgements with each name replaced by what it means.
use Rattle.std.specs.Prelude.{ℕ, List, [], ◌∷◌, ◌++◌, map, flat_map, Bool, bytes_eq, Option, Some, None, if◌then◌else◌, option_map, unwrap_or}
use Rattle.std.specs.List.{list_any}
use Rattle.gft_syntax.specs.declared.judgement.Context.{Context}
use Rattle.gft_syntax.specs.declared.judgement.Definition.{Definition}
use Rattle.gft_syntax.specs.declared.judgement.Definition.TheVariants as D
use Rattle.gft_syntax.specs.declared.judgement.Judgement.{Judgement}
use Rattle.gft_syntax.specs.declared.judgement.Judgement.TheVariants as J
use Rattle.gft_syntax.specs.declared.pattern.Pattern.{Pattern, roll-Pattern}
use Rattle.gft_syntax.specs.declared.pattern.Pattern.TheOpen as P
use Rattle.gft_syntax.specs.declared.pattern.Pattern.TheFolds.{fold-Pattern}
use Rattle.gft_syntax.specs.declared.reference.Reference.{Reference}
use Rattle.gft_syntax.specs.declared.reference.Reference.TheVariants as R
use Rattle.gft_syntax.specs.declared.reference.Whole.{Whole}
use Rattle.gft_syntax.specs.declared.term.Case.{Case}
use Rattle.gft_syntax.specs.declared.term.Local.{Local}
use Rattle.gft_syntax.specs.declared.term.Term.{Term, roll-Term, out-Term}
use Rattle.gft_syntax.specs.declared.term.Term.TheOpen as T
use Rattle.gft_syntax.specs.declared.term.Term.TheFolds.{para-Term, map-Term}
use Rattle.gft_syntax.specs.Layers.{on_local}
use Rattle.gft_syntax.specs.Parts.{list_name, bound_names, local_names, pattern_parts}

-- what x, or Q.x, means, and which bare names are constructors
pub record Names : Type 0 where
  pub means : Option (List ℕ) → List ℕ → Option Whole
  pub is_constructor : List ℕ → Bool

-- the names of local variables
abbrev pub Locals : Type 0
Locals = List (List ℕ)

-- a local variable has the name
abbrev pub is_local : List ℕ → Locals → Bool
is_local x xs = list_any (bytes_eq x) xs

-- a name, which means something or is a variable
abbrev pub whole_or : Reference → Option Whole → Reference
whole_or r None = r
whole_or r (Some w) = R.Whole w

-- what x, or Q.x, means under local variables, of which none may be called x, or Q
abbrev pub meaning : Names → Locals → Option (List ℕ) → List ℕ → Option Whole
meaning n xs q x = if is_local (unwrap_or q x) xs then None else n.means q x

-- a name under local variables, without or with a module's name
abbrev pub resolved_name : Names → Locals → Option (List ℕ) → Reference → Reference
resolved_name n xs q (R.Written x) = whole_or (R.Written x) (meaning n xs q x)
resolved_name n xs q r = r

-- the names in one layer of a pattern; of those without arguments only constructors are no variables
abbrev pub pattern_step : Names → Locals → P.Pattern-F Pattern → Pattern
pattern_step n xs (P.Con m r ps place) = roll-Pattern (P.Con m (resolved_name n xs m r) ps place)
pattern_step n xs (P.Name (R.Written x) place) = roll-Pattern
    (P.Name (if n.is_constructor x then resolved_name n xs None (R.Written x) else R.Written x) place)
pattern_step n xs d = roll-Pattern d

-- a pattern with its names replaced
abbrev pub resolved_pattern : Names → Locals → Pattern → Pattern
resolved_pattern n xs = fold-Pattern Pattern (pattern_step n xs)

-- the variables of one layer of a resolved pattern; those of both sides of an alternative are the same
abbrev pub variables_step : P.Pattern-F Locals → Locals
variables_step (P.Or p q place) = p
variables_step (P.Star p place) = []
variables_step (P.As x p place) = x ∷ p
variables_step (P.Name (R.Written x) place) = x ∷ []
variables_step d = flat_map (λ p. p) (pattern_parts d)

-- the variables that a resolved pattern binds
abbrev pub variables_of : Pattern → Locals
variables_of = fold-Pattern Locals variables_step

-- a term under local variables
abbrev pub Open : Type 0
Open = Locals → Term

-- locals, each seeing those before it and not its own names, and the variables after them
abbrev pub resolved_locals : Locals → List (Local (Term × Open)) → List (Local Term) × Locals
resolved_locals xs [] = ([], xs)
resolved_locals xs (l ∷ ls) =
    let rest = resolved_locals (local_names l ++ xs) ls in (on_local (λ e. e.1 xs) l ∷ rest.0, rest.1)

-- a branch, whose body sees the variables of its pattern
abbrev pub resolved_case : Names → Locals → Case (Term × Open) → Case Term
resolved_case n xs c =
    let p = resolved_pattern n xs c.pattern in
    record { pattern = p; body = c.body.1 (variables_of p ++ xs) }

-- Q.x is a whole name where Q is no variable and is a module or alias; else a projection
abbrev pub qualified_name : Names → Locals → T.Term-F Term → List ℕ → Option Whole
qualified_name n xs (T.Var (R.Written Q) place) x = meaning n xs (Some Q) x
qualified_name n xs d x = None

-- names are replaced, of which [C] is ListC whatever the variables are; forms that bind variables hand them on, and in
-- every other form the parts stand under the same ones
abbrev pub resolve_step : Names → T.Term-F (Term × Open) → Open
resolve_step n (T.Fun bs e place) xs = roll-Term (T.Fun bs (e.1 (bound_names bs ++ xs)) place)
resolve_step n (T.TabFun bs e place) xs = roll-Term (T.TabFun bs (e.1 (bound_names bs ++ xs)) place)
resolve_step n (T.Arrow bs a b place) xs = roll-Term (T.Arrow bs (a.1 xs) (b.1 (bound_names bs ++ xs)) place)
resolve_step n (T.Let ls e place) xs = let r = resolved_locals xs ls in roll-Term (T.Let r.0 (e.1 r.1) place)
resolve_step n (T.TableOf p cs place) xs =
    roll-Term (T.TableOf (option_map (λ t. t.1 xs) p) (map (resolved_case n xs) cs) place)
resolve_step n (T.CaseOf e cs place) xs = roll-Term (T.CaseOf (e.1 xs) (map (resolved_case n xs) cs) place)
resolve_step n (T.Proj e x place) xs = elim (qualified_name n xs (out-Term e.0) x)
    [ None ↦ roll-Term (T.Proj (e.1 xs) x place) | Some w ↦ roll-Term (T.Var (R.Whole w) place) ]
resolve_step n (T.Var r place) xs = roll-Term (T.Var (resolved_name n xs None r) place)
resolve_step n (T.ListCat (R.Written C) place) xs =
    roll-Term (T.ListCat (whole_or (R.Written C) (n.means None (list_name C))) place)
resolve_step n d xs = roll-Term (map-Term (Term × Open) Term (λ t. t.1 xs) d)

-- a term with its names replaced, under local variables
abbrev pub resolved : Names → Term → Open
resolved n = para-Term Open (resolve_step n)

-- contexts, each seeing the variables of those before it
abbrev pub resolved_contexts : Names → Locals → List Context → List Context
resolved_contexts n xs [] = []
resolved_contexts n xs (c ∷ cs) =
    record { binds = c.binds; of_type = resolved n c.of_type xs } ∷ resolved_contexts n (bound_names c.binds ++ xs) cs

-- a definition with its names replaced, under the arguments before it
abbrev pub resolved_definition : Names → Locals → Definition → Definition
resolved_definition n xs (D.Term e) = D.Term (resolved n e xs)
resolved_definition n xs (D.Overload ds) =
    D.Overload (map (λ d. record { names = d.names; of_type = resolved n d.of_type xs; value = resolved n d.value xs }) ds)

-- a judgement with its names replaced
abbrev pub resolved_judgement : Names → Judgement → Judgement
resolved_judgement n (J.Cat c cs) = J.Cat c (resolved_contexts n [] cs)
resolved_judgement n (J.ListCat c r k place) = J.ListCat c (resolved_name n [] None r) k place
resolved_judgement n (J.Fun ns t) = J.Fun ns (resolved n t [])
resolved_judgement n (J.Lincat ns t) = J.Lincat ns (resolved n t [])
resolved_judgement n (J.Lin ns bs e) = J.Lin ns bs (resolved n e (bound_names bs))
resolved_judgement n (J.Lindef ns bs e) = J.Lindef ns bs (resolved n e (bound_names bs))
resolved_judgement n (J.Linref ns bs e) = J.Linref ns bs (resolved n e (bound_names bs))
resolved_judgement n (J.Param p cs) = J.Param p
    (map (λ c. record { name = c.name; arguments = resolved_contexts n [] c.arguments }) cs)
resolved_judgement n (J.OperType ns t) = J.OperType ns (resolved n t [])
resolved_judgement n (J.OperTyped ns t d) = J.OperTyped ns (resolved n t []) (resolved_definition n [] d)
resolved_judgement n (J.Oper ns bs d) = J.Oper ns bs (resolved_definition n (bound_names bs) d)
resolved_judgement n j = j
