-- Laws of the definitions over sources, each the clause of a function.
use Rattle.std.specs.Prelude.{◌≡◌, ◌≢◌, codes, Contains, ℕ, List, [], ◌∷◌, ◌++◌, map, length, Option}
use Rattle.gft_syntax.specs.declared.ctype.CType.{CType}
use Rattle.gft_syntax.specs.declared.flat.Flat.{Flat}
use Rattle.gft_syntax.specs.declared.judgement.Judgement.{Judgement}
use Rattle.gft_syntax.specs.declared.judgement.Keyword.{Keyword}
use Rattle.gft_syntax.specs.declared.linear.LinTerm.{LinTerm, roll-LinTerm}
use Rattle.gft_syntax.specs.declared.linear.LinTerm.TheOpen as Lin-F
use Rattle.gft_syntax.specs.declared.module.Module.{Module}
use Rattle.gft_syntax.specs.declared.pattern.Pattern.{Pattern}
use Rattle.gft_syntax.specs.declared.reference.Whole.{Whole}
use Rattle.gft_syntax.specs.declared.term.Term.{Term}
use Rattle.gft_syntax.specs.declared.token.SourceToken.{SourceToken}
use Rattle.gft_model.specs.ConcreteTypes.{values_of, count_of, cases_of}
use Rattle.gft_model.specs.ConcreteTyping.{IsType, Finds, Checks}
use Rattle.gft_model.specs.Flats.{IsFlat}
use Rattle.gft_model.specs.Grammar.{Level, PatternLevel, SpellsTerm, SpellsPattern}
use Rattle.gft_model.specs.ModuleGrammar.{SpellsJudgement, SpellsSlice, SpellsModule}
use Rattle.gft_model.specs.Items.{Item, lincat}
use Rattle.gft_model.specs.JudgementTyping.{items, IsTyped}
use Rattle.gft_model.specs.PatternTyping.{Scope, PatternFits}
use Rattle.gft_model.specs.Productions.{case_values}
use Rattle.gft_model.specs.Values.{case_of}
use Rattle.gft_model.specs.Outcomes.{TermResults, Environment, outcomes_of}
use Rattle.gft_model.specs.Source.{Tokens}

-- a file has at most one list of tokens
abbrev pub TokensAreDetermined : Type 0
TokensAreDetermined =
    (file : ℕ) (bytes : List ℕ) (ts us : List SourceToken) → Tokens file bytes ts → Tokens file bytes us → ts ≡ us

-- tokens spell at most one term of a level
abbrev pub SpelledTermIsDetermined : Type 0
SpelledTermIsDetermined = (l : Level) (ts : List SourceToken) (a b : Term) → SpellsTerm l ts a [] → SpellsTerm l ts b [] → a ≡ b

-- tokens spell at most one pattern of a level
abbrev pub SpelledPatternIsDetermined : Type 0
SpelledPatternIsDetermined =
    (l : PatternLevel) (ts : List SourceToken) (p q : Pattern) → SpellsPattern l ts p [] → SpellsPattern l ts q [] → p ≡ q

-- the tokens after a keyword spell at most one judgement
abbrev pub SpelledJudgementIsDetermined : Type 0
SpelledJudgementIsDetermined =
    (k : Keyword) (ts : List SourceToken) (i j : Judgement) → SpellsJudgement k ts i → SpellsJudgement k ts j → i ≡ j

-- a slice spells at most one judgement, with one keyword
abbrev pub SpelledSliceIsDetermined : Type 0
SpelledSliceIsDetermined =
    (before : Option Keyword) (ts : List SourceToken) (k l : Keyword) (i j : Judgement) →
    SpellsSlice before ts k i → SpellsSlice before ts l j → (k ≡ l) × (i ≡ j)

-- the tokens of a file spell at most one module
abbrev pub SpelledModuleIsDetermined : Type 0
SpelledModuleIsDetermined = (ts : List SourceToken) (m n : Module) → SpellsModule ts m → SpellsModule ts n → m ≡ n

-- the outcomes of a | b are those of a, then those of b
abbrev pub AlternativesInOrder : Type 0
AlternativesInOrder =
    (opers : ℕ → TermResults) (a b : LinTerm) (env : Environment) →
    outcomes_of opers (roll-LinTerm (Lin-F.Variants (a ∷ b ∷ []))) env ≡ outcomes_of opers a env ++ outcomes_of opers b env

-- variants {} has no outcome
abbrev pub NoVariants : Type 0
NoVariants = (opers : ℕ → TermResults) (env : Environment) → outcomes_of opers (roll-LinTerm (Lin-F.Variants [])) env ≡ []

-- a type has as many parameter values as are counted
abbrev pub ValuesAreCounted : Type 0
ValuesAreCounted = (T : CType) → length (values_of T) ≡ count_of T

-- the values of an argument go through the cases of its type in order
abbrev pub CasesAreInOrder : Type 0
CasesAreInOrder = (i : ℕ) (T : CType) → map case_of (case_values i T) ≡ cases_of T

-- a pattern fits a type with at most one scope
abbrev pub PatternFitsOnce : Type 0
PatternFitsOnce = (T : CType) (p : Pattern) (Γ Δ : Scope) → PatternFits T p Γ → PatternFits T p Δ → Γ ≡ Δ

-- a term is at most one type, where a type must stand
abbrev pub WrittenTypeIsDetermined : Type 0
WrittenTypeIsDetermined = (items : List Item) (e : Term) (S T : CType) → IsType items e S → IsType items e T → S ≡ T

-- a term has at most one found type, and means at most one typed term
abbrev pub FoundTypeIsDetermined : Type 0
FoundTypeIsDetermined =
    (items : List Item) (Γ : Scope) (e : Term) (S T : CType) (t u : LinTerm) →
    Finds items Γ e S t → Finds items Γ e T u → (S ≡ T) × (t ≡ u)

-- a term that fits a type means at most one typed term there
abbrev pub MeaningIsDetermined : Type 0
MeaningIsDetermined =
    (items : List Item) (Γ : Scope) (e : Term) (T : CType) (t u : LinTerm) →
    Checks items Γ e T t → Checks items Γ e T u → t ≡ u

-- each language has at most one lincat of a category, and none of the two that are built in
pub record HasOneLincat (flat : Flat) : Type 0 where
  pub once : (lang : List ℕ) (v w : Whole) (d e : Term) → Contains (items flat) (lincat lang v d) →
      Contains (items flat) (lincat lang w e) → v.name ≡ w.name → d ≡ e
  pub not_int : (lang : List ℕ) (w : Whole) (e : Term) → Contains (items flat) (lincat lang w e) → w.name ≢ codes "Int"
  pub not_string : (lang : List ℕ) (w : Whole) (e : Term) → Contains (items flat) (lincat lang w e) → w.name ≢ codes "String"

-- a judgement has at most one typing there
abbrev pub JudgementIsDetermined : Type 0
JudgementIsDetermined =
    (flat : Flat) → HasOneLincat flat → (k : ℕ) (t u : LinTerm) (T U : CType) →
    IsTyped flat k t T → IsTyped flat k u U → (t ≡ u) × (T ≡ U)

-- modules and chosen names have at most one resolved grammar
abbrev pub ResolvedGrammarIsDetermined : Type 0
ResolvedGrammarIsDetermined =
    (mods : List Module) (chosen : List (List ℕ)) (f g : Flat) → IsFlat mods chosen f → IsFlat mods chosen g → f ≡ g
