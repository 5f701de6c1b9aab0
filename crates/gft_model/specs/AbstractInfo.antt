-- The text of abstract types and judgements.
use Rattle.std.specs.Prelude.{ℕ, suc, nat_eq, Bool, false, if◌then◌else◌, List, [], ◌∷◌, ◌++◌, map, flat_map, filter, drop, codes}
use Rattle.std.specs.Fmt.{decimal}
use Rattle.std.specs.List.{list_any}
use Rattle.gft_core.specs.declared.tree.Tree.{fold-Tree}
use Rattle.gft_core.specs.declared.tree.Tree.TheOpen.{Tree-F}
use Rattle.gft_core.specs.declared.tree.Tree.TheOpen as layer
use Rattle.gft_pmcfg.specs.declared.signature.AType.{AType}
use Rattle.gft_pmcfg.specs.declared.signature.Abstract.{Abstract}
use Rattle.gft_pmcfg.specs.declared.signature.Cat.{Cat}
use Rattle.gft_pmcfg.specs.declared.signature.Fun.{Fun}
use Rattle.gft_tree.specs.Trees.{Printed, printed_step, as_arguments, holes_of}
use Rattle.gft_model.specs.States.{category_name}
use Rattle.gft_model.specs.Typing.{numbered_from}

-- the variable of an argument
abbrev pub variable : ℕ → List ℕ
variable k = codes "x" ++ decimal k

-- an index is written as a tree, with variables in the place of holes
abbrev pub index_step : Tree-F Printed → Printed
index_step (layer.Hole k) = (variable k, false)
index_step other = printed_step other

-- a type: its category and its indices
abbrev pub type_text : Abstract → AType → List ℕ
type_text a t = category_name a t.cat ++ as_arguments (map (fold-Tree Printed index_step) t.args)

-- a named argument, `(x1 : A)`
abbrev pub named : Abstract → ℕ → AType → List ℕ
named a k t = codes "(" ++ variable k ++ codes " : " ++ type_text a t ++ codes ")"

-- some type uses the variable of the argument
abbrev pub uses : ℕ → List AType → Bool
uses k ts = list_any (λ (t : AType). list_any (λ i. list_any (nat_eq k) (holes_of i)) t.args) ts

-- the type of a function, from argument k on; an argument is named where a later type uses it
abbrev pub arrows : Abstract → ℕ → List AType → AType → List ℕ
arrows a k [] result = type_text a result
arrows a k (t ∷ ts) result =
    (if uses k (ts ++ result ∷ []) then named a k t else type_text a t) ++ codes " -> " ++ arrows a (suc k) ts result

-- a category with its context
abbrev pub category_line : Abstract → Cat → List ℕ
category_line a c =
    codes "cat " ++ c.name ++ flat_map (λ (h : ℕ × AType). codes " " ++ named a h.0 h.1) (numbered_from 1 c.context)

abbrev pub function_line : Abstract → Fun → List ℕ
function_line a f = codes "fun " ++ f.name ++ codes " : " ++ arrows a 1 f.args f.result

-- the judgements that pass: categories, then functions, each by name; those of literals are not listed
abbrev pub judgement_lines : Abstract → (List ℕ → Bool) → List (List ℕ)
judgement_lines a passes =
    map (category_line a) (filter (λ (c : Cat). passes c.name) (drop 2 a.cats))
    ++ map (function_line a) (filter (λ (f : Fun). passes f.name) a.funs)
