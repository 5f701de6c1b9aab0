-- The strings of a tree in a language that is given by its source terms.
use Rattle.std.specs.Prelude.{ℕ, List, [], ◌∷◌, ◌++◌, map, flat_map, codes, slice_get, Option}
use Rattle.std.specs.Option.{option_map_or, unwrap_or}
use Rattle.gft_core.specs.declared.symbol.Sym.{Sym}
use Rattle.gft_core.specs.declared.tree.Tree.{Tree, out-Tree}
use Rattle.gft_core.specs.declared.tree.Tree.TheOpen.{Tree-F}
use Rattle.gft_syntax.specs.declared.flat.Flat.{Flat}
use Rattle.gft_syntax.specs.declared.judgement.Keyword.TheVariants as K
use Rattle.gft_syntax.specs.declared.value.Value.{Value}
use Rattle.gft_syntax.specs.declared.value.Value.TheOpen.{Value-F}
use Rattle.gft_syntax.specs.declared.value.Value.TheFolds.{fold-Value}
use Rattle.gft_model.specs.Brackets.{Piece, erased}
use Rattle.gft_model.specs.ConcreteTypes.{field_of}
use Rattle.gft_model.specs.JudgementTyping.{signature_in}
use Rattle.gft_model.specs.Languages.{typed_at, outcomes_on}
use Rattle.gft_model.specs.Outcomes.{Outcome, gives, given}
use Rattle.gft_model.specs.TreeValues.{BracketedValue, bracketed_values, closed_parts, replaced}
use Rattle.gft_model.specs.Values.{leaves_step, string_leaves}
use Rattle.gft_model.specs.ValueForms.{string_value}

-- the strings of a layer: of a record label s first, then in order
abbrev pub string_step : Value-F (List (List Sym)) → List (List Sym)
string_step (Value-F.Record fs) = unwrap_or (field_of (codes "s") fs) [] ++ flat_map (λ f. f.1) fs
string_step d = leaves_step (λ ss. ss ∷ []) (λ v. []) d

-- the first string leaf, where there is one: at each record label s first, then labels in byte order, tables at their
-- first value
abbrev pub first_string : Value → Option (List Sym)
first_string v = slice_get (fold-Value (List (List Sym)) string_step v) 0

-- the outcomes of linref of category C on a value: without linref its first string, and no words where it has none
abbrev pub string_outcomes : Flat → List ℕ → List ℕ → Value → List Outcome
string_outcomes flat lang C v = option_map_or (λ t. outcomes_on flat t.term (v ∷ [])) (typed_at flat K.Linref lang C)
    (gives (string_value (unwrap_or (first_string v) [])) ∷ [])

-- the category of a tree: that of its head, or the one that is handed in for a hole
abbrev pub category_of : Flat → List ℕ → Tree-F Tree → List ℕ
category_of flat C (Tree-F.App f ts) = option_map_or (λ s. s.result) (signature_in flat.funs f) []
category_of flat C (Tree-F.Int n) = codes "Int"
category_of flat C (Tree-F.Str w) = codes "String"
category_of flat C (Tree-F.Hole n) = C

-- the bracketed strings of a tree: linref on each of its values, with their brackets
abbrev pub bracketed_strings : Flat → List ℕ → List ℕ → Tree → List (List Piece)
bracketed_strings flat lang C t =
    let D = category_of flat C (out-Tree t) in
    let strings_on = λ (v : BracketedValue). given (string_outcomes flat lang D (closed_parts 0 v.value)) in
    flat_map (λ v. flat_map (λ s. map (replaced (v ∷ [])) (string_leaves s)) (strings_on v)) (bracketed_values flat lang t [] D)

-- the strings of a tree, as lists of words
abbrev pub strings_of : Flat → List ℕ → List ℕ → Tree → List (List (List ℕ))
strings_of flat lang C t = map erased (bracketed_strings flat lang C t)
