-- Numbers that are in range, and dimensions that agree.
use Rattle.std.specs.Prelude.{◌==◌, ℕ, ◌+◌, Bool, true, false, ◌&&◌, List, [], ◌∷◌, length, nat_lt, nat_le, slice_get, codes, map}
use Rattle.std.specs.List.{list_all, list_any}
use Rattle.std.specs.Str.{bytes_eq}
use Rattle.std.specs.Option.{option_map_or}
use Rattle.gft_core.specs.declared.symbol.Sym.{Sym}
use Rattle.gft_core.specs.declared.symbol.Sym.TheVariants.{Tok, Arg}
use Rattle.gft_core.specs.declared.tree.Tree.{Tree, fold-Tree}
use Rattle.gft_core.specs.declared.tree.Tree.TheOpen.{Tree-F, App, Int, Str, Hole}
use Rattle.gft_pmcfg.specs.declared.signature.AType.{AType}
use Rattle.gft_pmcfg.specs.declared.signature.Cat.{Cat}
use Rattle.gft_pmcfg.specs.declared.signature.Fun.{Fun}
use Rattle.gft_pmcfg.specs.declared.signature.Abstract.{Abstract}
use Rattle.gft_pmcfg.specs.declared.concrete.Info.{Info}
use Rattle.gft_pmcfg.specs.declared.concrete.Prod.{Prod}
use Rattle.gft_pmcfg.specs.declared.concrete.Def.{Def}
use Rattle.gft_pmcfg.specs.declared.concrete.Ref.{Ref}
use Rattle.gft_pmcfg.specs.declared.concrete.Concrete.{Concrete}
use Rattle.gft_pmcfg.specs.Nonterminals.{nonterminals_of, category_of, dimension_of}

-- some function has the name
abbrev pub has_function : List Fun → List ℕ → Bool
has_function fs name = list_any (λ (f : Fun). bytes_eq f.name name) fs

-- the layer's names are functions, and its variables are those of the first n arguments
abbrev pub index_step : List Fun → ℕ → Tree-F Bool → Bool
index_step fs n (App f rest) = has_function fs f && list_all (λ b. b) rest
index_step fs n (Int i) = true
index_step fs n (Str w) = true
index_step fs n (Hole k) = nat_le 1 k && nat_le k n

-- so are all names and variables of the index
abbrev pub is_index : List Fun → ℕ → Tree → Bool
is_index fs n = fold-Tree Bool (index_step fs n)

-- a type over the first n arguments: a category with indices
abbrev pub is_type : Abstract → ℕ → AType → Bool
is_type a n t = nat_lt t.cat (length a.cats) && list_all (is_index a.funs n) t.args

-- types of which each is over the ones before it, the first of them over n
abbrev pub are_types : Abstract → ℕ → List AType → Bool
are_types a n [] = true
are_types a n (t ∷ ts) = is_type a n t && are_types a (n + 1) ts

-- a category, and its context
abbrev pub is_category : Abstract → Cat → Bool
is_category a c = are_types a 0 c.context

-- a function: the arguments, and the result over all of them
abbrev pub is_function : Abstract → Fun → Bool
is_function a f = are_types a 0 f.args && is_type a (length f.args) f.result

-- a category without a context that has this name
abbrev pub is_plain : List ℕ → Cat → Bool
is_plain name c = bytes_eq c.name name && length c.context == 0

-- the first two categories are those of literals, and at most 16,384 are listed after them
abbrev pub are_categories : List Cat → Bool
are_categories (i ∷ (s ∷ cs)) = is_plain (codes "Int") i && is_plain (codes "String") s
    && nat_le (length cs) 16384
are_categories cs = false

abbrev pub is_abstract : Abstract → Bool
is_abstract a =
    are_categories a.cats && nat_lt a.start (length a.cats) && list_all (is_category a) a.cats
    && list_all (is_function a) a.funs

-- there are at most 1,048,576 nonterminals of a category, and 65,536 string cells
abbrev pub is_info : Info → Bool
is_info i = nat_le 1 i.count && nat_le i.count 1048576 && nat_le i.dim 65536

-- the nonterminals of each category come right after those of the one before
abbrev pub are_infos : ℕ → List Info → Bool
are_infos next [] = true
are_infos next (i ∷ is) = i.first == next && is_info i && are_infos (next + i.count) is

-- one case with one string cell
abbrev pub is_single : Info → Bool
is_single i = i.count == 1 && i.dim == 1

-- literals have one nonterminal each, of dimension 1
abbrev pub begins_with_literals : List Info → Bool
begins_with_literals (i ∷ (s ∷ is)) = is_single i && is_single s
begins_with_literals is = false

-- the symbol is a word, or a component that the argument has; the arguments' dimensions are given
abbrev pub is_symbol : List ℕ → Sym → Bool
is_symbol dims (Tok w) = true
is_symbol dims (Arg i l) = option_map_or (λ dim. nat_lt l dim) (slice_get dims i) false

-- a sequence for each component of the result
abbrev pub are_sequences : List ℕ → ℕ → List (List Sym) → Bool
are_sequences dims dim seqs = length seqs == dim && list_all (list_all (is_symbol dims)) seqs

-- a nonterminal of this category
abbrev pub is_of : List Info → ℕ → ℕ → Bool
is_of infos cat n = nat_lt n (nonterminals_of infos) && category_of infos n == cat

-- a nonterminal of each argument's category
abbrev pub are_of : List Info → List AType → List ℕ → Bool
are_of infos [] [] = true
are_of infos (t ∷ ts) (n ∷ ns) = is_of infos t.cat n && are_of infos ts ns
are_of infos ts ns = false

-- a production of the function
abbrev pub fits : List Info → Prod → Fun → Bool
fits infos p f =
    are_of infos f.args p.args && is_of infos f.result.cat p.result
    && are_sequences (map (dimension_of infos) p.args) (dimension_of infos p.result) p.seqs

abbrev pub is_production : List Fun → List Info → Prod → Bool
is_production funs infos p = option_map_or (fits infos p) (slice_get funs p.fun) false

-- a nonterminal of a listed category: not one of `Int` and `String`
abbrev pub is_listed : List Info → ℕ → Bool
is_listed infos n = nat_le 2 n && nat_lt n (nonterminals_of infos)

-- the hole's token is the one component of the one argument
abbrev pub is_def : List Info → Def → Bool
is_def infos d = is_listed infos d.result && are_sequences (1 ∷ []) (dimension_of infos d.result) d.seqs

abbrev pub is_ref : List Info → Ref → Bool
is_ref infos r = is_listed infos r.arg && list_all (is_symbol (dimension_of infos r.arg ∷ [])) r.seq

-- a concrete syntax of the abstract one
abbrev pub is_concrete : Abstract → Concrete → Bool
is_concrete a c =
    length c.infos == length a.cats && are_infos 0 c.infos && begins_with_literals c.infos
    && list_all (is_production a.funs c.infos) c.prods && list_all (is_def c.infos) c.defs
    && list_all (is_ref c.infos) c.refs

-- all numbers are in range, and the dimensions agree
abbrev pub is_in_range : Abstract → List Concrete → Bool
is_in_range a cs = is_abstract a && list_all (is_concrete a) cs
