-- Laws of the definitions.
use Rattle.std.specs.Prelude.{◌≡◌, ℕ, List, [], length, map, Contains, Some, slice_get, ◌<◌, ◌∷◌, ⊤, ◌⊎◌, true}
use Rattle.gft_core.specs.declared.symbol.Sym.{Sym}
use Rattle.gft_core.specs.declared.tree.Tree.{Tree}
use Rattle.gft_pmcfg.specs.declared.signature.AType.{AType}
use Rattle.gft_pmcfg.specs.declared.signature.Abstract.{Abstract}
use Rattle.gft_pmcfg.specs.declared.signature.Fun.{Fun}
use Rattle.gft_pmcfg.specs.declared.concrete.Prod.{Prod}
use Rattle.gft_pmcfg.specs.declared.concrete.Concrete.{Concrete}
use Rattle.gft_pmcfg.specs.declared.grammar.Grammar.{Grammar}
use Rattle.gft_pmcfg.specs.declared.run.Run.{Run}
use Rattle.gft_pmcfg.specs.Ranges.{is_in_range}
use Rattle.gft_rules.specs.declared.rule.Rule.{Rule}
use Rattle.gft_model.specs.Trees.{IsClosed, IsInstance}
use Rattle.gft_model.specs.Typing.{HoleTypes, HasType, IsType}
use Rattle.gft_model.specs.Flaws.{Flaw, HasTypeFlaw}
use Rattle.gft_model.specs.Fields.{Fits, outcome, got}
use Rattle.gft_model.specs.FileForms.{file}
use Rattle.gft_model.specs.PortableFile.{file_bytes, IsGrammar, Reads, HasFault, IsFlawed, IsInvalid}
use Rattle.gft_model.specs.Skeleton.{HoleCategories, HasSkeletonType}
use Rattle.gft_model.specs.Brackets.{Piece, erased}
use Rattle.gft_model.specs.Runs.{Strings, IsRun, IsRef, IsRunFor, components_of, yield_of, holes_of, tree_of}
use Rattle.gft_model.specs.RunStrings.{HasValue, IsBracketedString, IsStringOf}
use Rattle.gft_model.specs.Cut.{cut_of}
use Rattle.gft_model.specs.Solutions.{IsSolution}
use Rattle.gft_model.specs.Listing.{IsListed}

-- the solution of a pattern is unique, the numbers of its holes included
abbrev pub SolutionIsUnique : Type 0
SolutionIsUnique = (a : Abstract) (pattern s u : Tree) → IsSolution a pattern s → IsSolution a pattern u
    → s ≡ u

-- erasing a bracketed string of a tree gives a string of it
abbrev pub ErasedIsString : Type 0
ErasedIsString = (a : Abstract) (c : Concrete) (cat : ℕ) (t : Tree) (b : List Piece)
    → IsBracketedString a c cat t b → IsStringOf a c cat t (erased b)

-- a run is for words as one to one nonterminal, and under one ref for one text
abbrev pub YieldIsDetermined : Type 0
YieldIsDetermined = (c : Concrete) (cat : ℕ) (r : Run) (v w : List (List ℕ)) → (x : IsRunFor c cat v r)
    → (y : IsRunFor c cat w r) → (x.nonterminal ≡ y.nonterminal) × (x.seq ≡ y.seq → v ≡ w)

-- a run is one to at most one nonterminal
abbrev pub NonterminalIsDetermined : Type 0
NonterminalIsDetermined = (c : Concrete) (r : Run) (n m : ℕ) → IsRun c r n → IsRun c r m → n ≡ m

-- the components of a closed tree are those of a run of that tree, to the same nonterminal
abbrev pub ValueIsOfRun : Type 0
ValueIsOfRun = (a : Abstract) (c : Concrete) (p : List ℕ) (t : Tree) (n : ℕ) (vs : Strings)
    → HasValue a c p t n vs → IsClosed t
    → (r : Run) × IsRun c r n × (tree_of a c r ≡ t) × (components_of c r p ≡ vs)

-- each production is of a function that there is
abbrev pub AreOfFunctions : Abstract → Concrete → Type 0
AreOfFunctions a c = (prod : Prod) → Contains c.prods prod → (f : Fun) × (slice_get a.funs prod.fun ≡ Some f)

-- and a run without holes gives its components to its tree
abbrev pub RunGivesValue : Type 0
RunGivesValue = (a : Abstract) (c : Concrete) (p : List ℕ) (r : Run) (n : ℕ) → AreOfFunctions a c
    → IsRun c r n → holes_of r ≡ []
    → HasValue a c p (tree_of a c r) n (components_of c r p)

-- some run of the tree yields the words under a ref
pub record Yields (a : Abstract) (c : Concrete) (t : Tree) (words : List (List ℕ)) : Type 0 where
  pub run : Run
  pub nonterminal : ℕ
  pub is_run : IsRun c run nonterminal
  pub of_tree : tree_of a c run ≡ t
  pub seq : List Sym
  pub ref : IsRef c nonterminal seq
  pub yields : yield_of c seq run ≡ words

-- a string of a closed tree is what some run of the tree yields
abbrev pub StringIsOfRun : Type 0
StringIsOfRun = (a : Abstract) (c : Concrete) (cat : ℕ) (t : Tree) (words : List (List ℕ)) → IsClosed t
    → IsStringOf a c cat t words → Yields a c t words

-- and a run for words that has no holes makes them a string of its tree
abbrev pub RunGivesString : Type 0
RunGivesString = (a : Abstract) (c : Concrete) (cat : ℕ) (words : List (List ℕ)) (r : Run) → AreOfFunctions a c
    → IsRunFor c cat words r → holes_of r ≡ [] → IsStringOf a c cat (tree_of a c r) words

-- each hole has one type
abbrev pub HaveOneType : HoleTypes → Type 0
HaveOneType T = (k : ℕ) (A B : AType) → Contains T (k, A) → Contains T (k, B) → A ≡ B

-- functions are told apart by their names
abbrev pub AreNamedApart : List Fun → Type 0
AreNamedApart fs = (f g : Fun) → Contains fs f → Contains fs g → f.name ≡ g.name → f ≡ g

-- a tree has at most one type
abbrev pub TypeIsDetermined : Type 0
TypeIsDetermined = (a : Abstract) (T : HoleTypes) (t : Tree) (A B : AType) → AreNamedApart a.funs
    → HaveOneType T → HasType a T t A → HasType a T t B → A ≡ B

-- the categories of holes with these types
abbrev pub categories_under : HoleTypes → HoleCategories
categories_under T = map (λ (h : ℕ × AType). (h.0, h.1.cat)) T

-- a typed tree has the category of its type as its skeleton type
abbrev pub TypedHasSkeletonType : Type 0
TypedHasSkeletonType = (a : Abstract) (T : HoleTypes) (t : Tree) (type : AType) → HasType a T t type
    → HasSkeletonType a (categories_under T) t type.cat

-- a closed tree is an instance of what a string shows of it
abbrev pub CutCoversTree : Type 0
CutCoversTree = (t : Tree) (b : List Piece) → IsClosed t → IsInstance (cut_of t b) t

-- a tree of which a pattern is listed is an instance of that pattern
abbrev pub ListedCoversTree : Type 0
ListedCoversTree =
    (a : Abstract) (c : Concrete) (cat : ℕ) (words : List (List ℕ)) (depth : ℕ) (pattern : Tree)
    → (listed : IsListed a (IsBracketedString a c cat) cat words depth pattern)
    → IsInstance pattern listed.tree

-- a type with a flaw is not well formed
abbrev pub FlawedIsNoType : Type 0
FlawedIsNoType = (a : Abstract) (T : HoleTypes) (type : AType) (flaw : Flaw) → AreNamedApart a.funs
    → HaveOneType T → HasTypeFlaw a T type flaw → ¬ IsType a T type

-- the fields of a file are read from its bytes, up to its end
abbrev pub FieldsAreReadAgain : Type 0
FieldsAreReadAgain = (a : Abstract) (cs : List Concrete) → Fits file (a, cs)
    → outcome file 0 (file_bytes a cs) ≡ got (a, cs) (length (file_bytes a cs)) []

-- fields that fit the table are those of a grammar in range
abbrev pub FieldsAreInRange : Type 0
FieldsAreInRange = (a : Abstract) (cs : List Concrete) → Fits file (a, cs) → is_in_range a cs ≡ true

-- the bytes of a grammar are at no fault
abbrev pub GrammarHasNoFault : Type 0
GrammarHasNoFault = (bytes : List ℕ) (g : Grammar) (rule : Rule) (at : ℕ) → Reads bytes g → ¬ HasFault bytes rule at

-- bytes have at most one first fault
abbrev pub FaultIsDetermined : Type 0
FaultIsDetermined = (bytes : List ℕ) (first second : Rule) (i j : ℕ) → HasFault bytes first i
    → HasFault bytes second j → (first ≡ second) × (i ≡ j)

-- bytes are those of one grammar
abbrev pub FileIsOfOneGrammar : Type 0
FileIsOfOneGrammar = (bytes : List ℕ) (g h : Grammar) → Reads bytes g → Reads bytes h
    → (g.abs ≡ h.abs) × (g.concretes ≡ h.concretes)

-- and not those of one with a flaw
abbrev pub GrammarIsNotInvalid : Type 0
GrammarIsNotInvalid = (bytes : List ℕ) (g : Grammar) (flaw : Flaw) (at : ℕ) → Reads bytes g → ¬ IsInvalid bytes flaw at

-- numbers that are bytes
abbrev pub AreBytes : List ℕ → Type 0
AreBytes [] = ⊤
AreBytes (b ∷ bs) = (b < 256) × AreBytes bs

-- a fault of the bytes, or fields that fit the table and are written so
abbrev pub FaultOrFields : List ℕ → Type 0
FaultOrFields bytes =
    ((rule : Rule) × (at : ℕ) × HasFault bytes rule at)
    ⊎ ((a : Abstract) × (cs : List Concrete) × Fits file (a, cs) × (file_bytes a cs ≡ bytes))

-- bytes that are at no fault are those of fields that fit the table
abbrev pub BytesHaveFaultOrFields : Type 0
BytesHaveFaultOrFields = (bytes : List ℕ) → AreBytes bytes → FaultOrFields bytes

-- what fits the table is a grammar, or has a flaw
abbrev pub GrammarOrFlaw : Type 0
GrammarOrFlaw = (a : Abstract) (cs : List Concrete) → Fits file (a, cs)
    → IsGrammar a cs ⊎ ((flaw : Flaw) × (at : ℕ) × IsFlawed a cs flaw at)

-- so bytes are those of a grammar, at a fault, or those of a grammar with a flaw
abbrev pub BytesAreJudged : Type 0
BytesAreJudged = (bytes : List ℕ) → AreBytes bytes
    → ((g : Grammar) × Reads bytes g)
    ⊎ (((rule : Rule) × (at : ℕ) × HasFault bytes rule at) ⊎ ((flaw : Flaw) × (at : ℕ) × IsInvalid bytes flaw at))

-- bytes have at most one first flaw, and then no fault
abbrev pub FlawIsDetermined : Type 0
FlawIsDetermined = (bytes : List ℕ) (flaw : Flaw) (at : ℕ) → IsInvalid bytes flaw at
    → ((other : Flaw) (there : ℕ) → IsInvalid bytes other there → (flaw ≡ other) × (at ≡ there))
    × ((rule : Rule) (there : ℕ) → ¬ HasFault bytes rule there)
