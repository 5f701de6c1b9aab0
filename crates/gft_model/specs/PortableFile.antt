-- The bytes of a grammar, and what bytes are read as: a grammar, or their first fault.
use Rattle.std.specs.Prelude.{◌≡◌, ℕ, suc, List, [], ◌∷◌, take, All, Some, slice_get}
use Rattle.gft_pmcfg.specs.declared.signature.Cat.{Cat}
use Rattle.gft_pmcfg.specs.declared.signature.Abstract.{Abstract}
use Rattle.gft_pmcfg.specs.declared.concrete.Concrete.{Concrete}
use Rattle.gft_pmcfg.specs.declared.grammar.Grammar.{Grammar}
use Rattle.gft_rules.specs.declared.rule.Rule.{Rule}
use Rattle.gft_rules.specs.declared.rule.Rule.TheVariants.{TooLong}
use Rattle.gft_model.specs.Typing.{IsCategoryTyped, IsFunctionTyped, HasTypes, signature_of}
use Rattle.gft_model.specs.Flaws.{Flaw, unproductive, HaveTypesFlaw}
use Rattle.gft_model.specs.Runs.{IsKept}
use Rattle.gft_model.specs.Fields.{written, Fits, offset_of, outcome, got, fault}
use Rattle.gft_model.specs.FileForms.{listed, file}

-- the bytes of a grammar
abbrev pub file_bytes : Abstract → List Concrete → List ℕ
file_bytes a cs = written file (a, cs)

abbrev pub file_of : Grammar → List ℕ
file_of g = file_bytes g.abs g.concretes

-- each production stands at the root of a run of some tree
abbrev pub IsReduced : Concrete → Type 0
IsReduced c = All (IsKept c) c.prods

-- an abstract syntax and concrete syntaxes make a grammar: their fields are as the table of the file asks, each type is
-- well formed, and every production is kept
pub record IsGrammar (a : Abstract) (cs : List Concrete) : Type 0 where
  pub fits : Fits file (a, cs)
  pub types : HasTypes a
  pub reduced : All IsReduced cs

-- the bytes are those of the grammar
pub record Reads (bytes : List ℕ) (g : Grammar) : Type 0 where
  pub grammar : IsGrammar g.abs g.concretes
  pub bytes_are : file_of g ≡ bytes

-- the first fault of the bytes: a rule that a field breaks, or a byte after the grammar, with its offset
pub data HasFault (bytes : List ℕ) : Rule → ℕ → Type 0 where
  of_field : {rule at : _} → outcome file 0 bytes ≡ fault rule at → HasFault bytes rule at
  after_grammar : {x at b rest : _} → outcome file 0 bytes ≡ got x at (b ∷ rest) → HasFault bytes TooLong at

-- the first flaw of a grammar whose fields are in order, with the offset of its part
pub data IsFlawed (a : Abstract) (cs : List Concrete) : Flaw → ℕ → Type 0 where
  -- a category: in the abstract syntax, part 2 of the file, before which no field stands, an item of part 4
  of_category : (i : ℕ) {c : Cat} {flaw : _} → slice_get (listed a.cats) i ≡ Some c →
      All (IsCategoryTyped a) (take i (listed a.cats)) → HaveTypesFlaw a [] c.context flaw →
      IsFlawed a cs flaw (offset_of file (a, cs) (2 ∷ 0 ∷ 4 ∷ i ∷ []))
  -- a function: there, an item of part 5
  of_function : (k : ℕ) {f flaw : _} → All (IsCategoryTyped a) a.cats → slice_get a.funs k ≡ Some f →
      All (IsFunctionTyped a) (take k a.funs) → HaveTypesFlaw a [] (signature_of f) flaw →
      IsFlawed a cs flaw (offset_of file (a, cs) (2 ∷ 0 ∷ 5 ∷ k ∷ []))
  -- a production, concrete syntax by concrete syntax: in part 3 of the file behind the number of these, and in part 2 of a
  -- concrete syntax behind the number of productions
  of_production : (l p : ℕ) {c : Concrete} {prod : _} → HasTypes a → slice_get cs l ≡ Some c → All IsReduced (take l cs) →
      slice_get c.prods p ≡ Some prod → All (IsKept c) (take p c.prods) → ¬ IsKept c prod →
      IsFlawed a cs unproductive (offset_of file (a, cs) (3 ∷ suc l ∷ 2 ∷ suc p ∷ []))

-- the bytes are those of a grammar with a flaw; it comes after the faults of all fields
pub record IsInvalid (bytes : List ℕ) (flaw : Flaw) (at : ℕ) : Type 0 where
  pub abs : Abstract
  pub concretes : List Concrete
  pub fits : Fits file (abs, concretes)
  pub bytes_are : file_bytes abs concretes ≡ bytes
  pub flawed : IsFlawed abs concretes flaw at
