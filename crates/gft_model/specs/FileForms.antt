-- The table of the portable file, version 1: its fields in order, and what must hold of each.
use Rattle.std.specs.Prelude.{◌==◌, ℕ, zero, suc, ◌+◌, Bool, true, false, not, ◌&&◌, ◌||◌, nat_lt, nat_le, bytes_eq, List, [], ◌∷◌, ◌++◌, length, map, drop, codes, slice_get, slice_index_or, Option, Some, None}
use Rattle.std.specs.Cmp.Lexicographic.{slice_cmp}
use Rattle.std.specs.Option.{option_map_or}
use Rattle.std.specs.Ordering.{nat_cmp, is_lt}
use Rattle.std.specs.Str.{is_utf8}
use Rattle.gft_core.specs.Names.{is_name}
use Rattle.gft_core.specs.Words.{is_word}
use Rattle.gft_core.specs.declared.symbol.Sym.{Sym}
use Rattle.gft_core.specs.declared.symbol.Sym.TheVariants.{Tok, Arg}
use Rattle.gft_core.specs.declared.tree.Tree.{Tree, out-Tree, App, Int, Str, Hole}
use Rattle.gft_core.specs.declared.tree.Tree.TheOpen.{Tree-F}
use Rattle.gft_core.specs.declared.tree.Tree.TheOpen as layer
use Rattle.gft_pmcfg.specs.declared.signature.AType.{AType}
use Rattle.gft_pmcfg.specs.declared.signature.Cat.{Cat}
use Rattle.gft_pmcfg.specs.declared.signature.Fun.{Fun}
use Rattle.gft_pmcfg.specs.declared.signature.Abstract.{Abstract}
use Rattle.gft_pmcfg.specs.declared.concrete.Info.{Info}
use Rattle.gft_pmcfg.specs.declared.concrete.Prod.{Prod}
use Rattle.gft_pmcfg.specs.declared.concrete.Def.{Def}
use Rattle.gft_pmcfg.specs.declared.concrete.Ref.{Ref}
use Rattle.gft_pmcfg.specs.declared.concrete.Concrete.{Concrete}
use Rattle.gft_pmcfg.specs.Nonterminals.{dimension_of}
use Rattle.gft_pmcfg.specs.Ranges.{is_of, is_listed}
use Rattle.gft_rules.specs.declared.rule.Rule.TheVariants.{BadMagic, BadVersion, BadText, BadNumber, BadTag, BadOrder}
use Rattle.gft_model.specs.Fields.{Form, number, bytes, part, done, item, such, written}
use Rattle.gft_model.specs.Numbering.{numbered, named}
use Rattle.gft_model.specs.Skeleton.{categories_of}
use Rattle.gft_model.specs.Source.{reserved_words, spelled_in}

-- a number of four bytes
abbrev pub four : Form ℕ
four = number 4

-- a number below a limit
abbrev pub below : ℕ → Form ℕ
below limit = such four (λ n. nat_lt n limit) BadNumber 0

-- a list behind its length
abbrev pub sized : {A : Type 0} → (ℕ → Form (List A)) → Form (List A)
sized form = part length four form

-- so many values
abbrev pub times : {A : Type 0} → Form A → ℕ → Form (List A)
times f zero = done []
times f (suc n) = item f (λ x. times f n)

-- the key comes after the one before it, if there is one
abbrev pub comes_after : Option (List ℕ) → List ℕ → Bool
comes_after before key = option_map_or (λ k. is_lt (slice_cmp nat_cmp k key)) before true

-- so many values, whose keys are in strictly ascending byte order
abbrev pub ascending : {A : Type 0} → (A → List ℕ) → Form A → Option (List ℕ) → ℕ → Form (List A)
ascending key f before zero = done []
ascending key f before (suc n) =
    item (such f (λ x. comes_after before (key x)) BadOrder 0) (λ x. ascending key f (Some (key x)) n)

-- values behind their number, by their encodings
abbrev pub ordered : {A : Type 0} → Form A → Form (List A)
ordered f = sized (ascending (written f) f None)

-- a text: its length in bytes and its bytes
abbrev pub text : (List ℕ → Bool) → Form (List ℕ)
text passes = sized (λ n. such (bytes n) passes BadText 0)

-- a name is an identifier that is not reserved
abbrev pub is_unreserved : List ℕ → Bool
is_unreserved w = is_utf8 w && is_name w && option_map_or (λ r. false) (spelled_in reserved_words w) true

abbrev pub name : Form (List ℕ)
name = text is_unreserved

-- the name of a listed category is not that of a category of literals either
abbrev pub category_name : Form (List ℕ)
category_name = text (λ w. is_unreserved w && not (bytes_eq w (codes "Int") || bytes_eq w (codes "String")))

-- a token is one word
abbrev pub word : Form (List ℕ)
word = text (λ w. is_utf8 w && is_word w)

-- what is written of a term: its tag, the number of its function or variable, or the integer itself, its word, its terms
pub record TermParts : Type 0 where
  pub tag : ℕ
  pub number : ℕ
  pub word : List ℕ
  pub terms : List Tree

abbrev pub parts : Tree-F Tree → TermParts
parts (layer.App f ts) = record { tag = 0; number = slice_index_or f 0 0; word = []; terms = ts }
parts (layer.Hole k) = record { tag = 1; number = k; word = []; terms = [] }
parts (layer.Int n) = record { tag = 2; number = n; word = []; terms = [] }
parts (layer.Str w) = record { tag = 3; number = 0; word = w; terms = [] }

-- a term behind its tag, over so many functions and earlier arguments, where its own terms are of the given form
abbrev pub untagged : ℕ → ℕ → Form Tree → ℕ → Form Tree
untagged functions variables inner zero =
    part (λ t. (parts (out-Tree t)).number) (below functions) (λ f.
    part (λ t. (parts (out-Tree t)).terms) (sized (times inner)) (λ ts. done (App (f ∷ []) ts)))
untagged functions variables inner (suc zero) =
    part (λ t. (parts (out-Tree t)).number) (below variables) (λ k. done (Hole k))
untagged functions variables inner (suc (suc zero)) =
    part (λ t. (parts (out-Tree t)).number) (number 16) (λ n. done (Int n))
untagged functions variables inner (suc (suc (suc n))) =
    part (λ t. (parts (out-Tree t)).word) word (λ w. done (Str w))

-- a term of so many levels at most
abbrev pub term : ℕ → ℕ → ℕ → Form Tree
term functions variables zero =
    part (λ t. (parts (out-Tree t)).tag) (such (number 1) (λ n. false) BadNumber 0) (λ n. done (Hole 0))
term functions variables (suc levels) =
    part (λ t. (parts (out-Tree t)).tag) (such (number 1) (λ n. nat_lt n 4) BadTag 0)
    (untagged functions variables (term functions variables levels))

-- the most levels of a term
abbrev pub most_levels : ℕ
most_levels = 201

-- over so many categories, those of literals too, and so many functions
module _ (categories functions : ℕ) where
  -- a type over so many earlier arguments: its category, its indices
  abbrev pub type_form : ℕ → Form AType
  type_form variables =
      part (λ t. t.cat) (below categories) (λ c.
      part (λ t. t.args) (sized (times (term functions variables most_levels))) (λ ts. done (record { cat = c; args = ts })))

  -- so many types, each over the arguments before it
  abbrev pub types : ℕ → ℕ → Form (List AType)
  types variables zero = done []
  types variables (suc n) = item (type_form variables) (λ t. types (suc variables) n)

  -- a category: its name, its types
  abbrev pub category : Form Cat
  category =
      part (λ c. c.name) category_name (λ w.
      part (λ c. c.context) (sized (types 0)) (λ ts. done (record { name = w; context = ts })))

  -- a function: its name, the types of its arguments, the type of its result
  abbrev pub function : Form Fun
  function =
      part (λ f. f.name) name (λ w.
      part (λ f. f.args) (sized (types 0)) (λ ts.
      part (λ f. f.result) (type_form (length ts)) (λ t. done (record { name = w; args = ts; result = t }))))

-- the categories of literals, and those that are listed after them
abbrev pub literal_categories : List Cat
literal_categories = record { name = codes "Int"; context = [] } ∷ record { name = codes "String"; context = [] } ∷ []

abbrev pub listed : {A : Type 0} → List A → List A
listed xs = drop 2 xs

-- the number of listed categories; the start category, which stands before it, must be among them or those of literals
abbrev pub category_count : ℕ → Form ℕ
category_count start =
    such (such four (λ n. nat_lt start (n + 2)) BadNumber 4) (λ n. nat_le n 16384) BadNumber 0

-- an abstract syntax whose terms are numbered: its name, its start category, how many categories are listed, how many
-- functions there are, the categories, the functions
abbrev pub numbered_abstract : Form Abstract
numbered_abstract =
    part (λ a. a.name) name (λ w.
    part (λ a. a.start) four (λ start.
    part (λ a. length (listed a.cats)) (category_count start) (λ categories.
    part (λ a. length a.funs) four (λ functions.
    part (λ a. listed a.cats)
    (ascending (λ (c : Cat). c.name) (category (categories + 2) functions) None categories) (λ cs.
    part (λ a. a.funs) (ascending (λ (f : Fun). f.name) (function (categories + 2) functions) None functions) (λ fs.
    done (record { name = w; start = start; cats = literal_categories ++ cs; funs = fs })))))))

abbrev pub abstract : Form Abstract
abstract = part numbered numbered_abstract (λ a. done (named a))

-- what a symbol is: 0 a word, 1 a component of an argument
abbrev pub symbol_tag : Sym → ℕ
symbol_tag (Tok w) = 0
symbol_tag (Arg i l) = 1

abbrev pub word_in : Sym → List ℕ
word_in (Tok w) = w
word_in (Arg i l) = []

abbrev pub component_in : Sym → ℕ × ℕ
component_in (Tok w) = (0, 0)
component_in (Arg i l) = (i, l)

-- a symbol behind its tag, over the dimensions of the arguments
abbrev pub untagged_symbol : List ℕ → ℕ → Form Sym
untagged_symbol dims zero = part word_in word (λ w. done (Tok w))
untagged_symbol dims (suc n) =
    part (λ s. (component_in s).0) (below (length dims)) (λ i.
    part (λ s. (component_in s).1) (below (slice_index_or dims i 0)) (λ l. done (Arg i l)))

abbrev pub symbol : List ℕ → Form Sym
symbol dims = part symbol_tag (such (number 1) (λ n. nat_lt n 2) BadTag 0) (untagged_symbol dims)

abbrev pub sequence : List ℕ → Form (List Sym)
sequence dims = sized (times (symbol dims))

-- of a category whose nonterminals are numbered from a number on: the number of its cases, and its dimension
abbrev pub info : ℕ → Form Info
info first =
    part (λ i. i.count) (such four (λ n. nat_le 1 n && nat_le n 65536) BadNumber 0) (λ count.
    part (λ i. i.dim) (such four (λ n. nat_le n 65536) BadNumber 0) (λ dim.
    done (record { first = first; count = count; dim = dim })))

-- of so many categories, one after the other
abbrev pub infos : ℕ → ℕ → Form (List Info)
infos first zero = done []
infos first (suc n) = item (info first) (λ i. infos (first + i.count) n)

-- a nonterminal of the category
abbrev pub nonterminal_of : List Info → ℕ → Form ℕ
nonterminal_of is cat = such four (is_of is cat) BadNumber 0

-- a nonterminal of a listed category
abbrev pub listed_nonterminal : List Info → Form ℕ
listed_nonterminal is = such four (is_listed is) BadNumber 0

-- a nonterminal of each category
abbrev pub nonterminals : List Info → List ℕ → Form (List ℕ)
nonterminals is [] = done []
nonterminals is (c ∷ cs) = item (nonterminal_of is c) (λ n. nonterminals is cs)

-- a production: its function, a nonterminal for each argument, that of the result, a sequence for each component
-- of the result
abbrev pub production : List Fun → List Info → Form Prod
production fs is =
    part (λ p. p.fun) (below (length fs)) (λ k.
    part (λ p. p.args) (nonterminals is (option_map_or categories_of (slice_get fs k) [])) (λ args.
    part (λ p. p.result) (nonterminal_of is (option_map_or (λ (f : Fun). f.result.cat) (slice_get fs k) 0)) (λ result.
    part (λ p. p.seqs) (times (sequence (map (dimension_of is) args)) (dimension_of is result)) (λ seqs.
    done (record { fun = k; args = args; result = result; seqs = seqs })))))

-- a def: its nonterminal, a sequence for each component; the only component of its argument is the hole's token
abbrev pub def_form : List Info → Form Def
def_form is =
    part (λ d. d.result) (listed_nonterminal is) (λ result.
    part (λ d. d.seqs) (times (sequence (1 ∷ [])) (dimension_of is result)) (λ seqs.
    done (record { result = result; seqs = seqs })))

-- a ref: its nonterminal, one sequence
abbrev pub ref_form : List Info → Form Ref
ref_form is =
    part (λ r. r.arg) (listed_nonterminal is) (λ arg.
    part (λ r. r.seq) (sequence (dimension_of is arg ∷ [])) (λ seq. done (record { arg = arg; seq = seq })))

-- the nonterminals of literals
abbrev pub literal_infos : List Info
literal_infos = record { first = 0; count = 1; dim = 1 } ∷ record { first = 1; count = 1; dim = 1 } ∷ []

-- a concrete syntax: its name, what it makes of each listed category, its productions, defs and refs
abbrev pub concrete : Abstract → Form Concrete
concrete a =
    part (λ c. c.name) name (λ w.
    part (λ c. listed c.infos) (infos 2 (length (listed a.cats))) (λ is. let all = literal_infos ++ is in
    part (λ c. c.prods) (ordered (production a.funs all)) (λ ps.
    part (λ c. c.defs) (ordered (def_form all)) (λ ds.
    part (λ c. c.refs) (ordered (ref_form all)) (λ rs.
    done (record { name = w; infos = all; prods = ps; defs = ds; refs = rs }))))))

-- a file: its first four bytes, the version, the abstract syntax, the concrete syntaxes
abbrev pub file : Form (Abstract × List Concrete)
file =
    part (λ g. codes "GFPT") (such (bytes 4) (bytes_eq (codes "GFPT")) BadMagic 0) (λ magic.
    part (λ g. 1) (such four (λ n. n == 1) BadVersion 0) (λ version.
    part (λ g. g.0) abstract (λ a.
    part (λ g. g.1) (sized (ascending (λ (c : Concrete). c.name) (concrete a) None)) (λ cs. done (a, cs)))))
