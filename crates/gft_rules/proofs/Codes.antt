-- Codes are one to one.
use Rattle.std.proofs.Common.{◌≡◌, ℕ, ◌==◌, Option, Some, find, refl, sym, ap, ◌∙◌}
use Rattle.gft_rules.specs.declared.rule.Rule.{Rule}
use Rattle.gft_rules.specs.declared.rule.Rule.TheVariants.{NotUtf8, BadCharacter, OpenString, BadEscape, OpenComment, NumberTooLarge, Syntax, TooDeep, OutOfProfile, MissingFile, CannotRead, FileTooLong, TooManyModules, NameMismatch, ModuleCycle, WrongKind, RestrictUnknown, InheritClash, NotIncomplete, ParameterUnmatched, InstanceLacks, Redefined, Unknown, Ambiguous, PatternVars, UnknownCat, HigherOrder, NotAbstract, Arity, IndexType, NoType, NotRecord, NoField, NotTable, NotFunction, Mismatch, FunctionHere, NotFinite, ParamTooLarge, NotExhaustive, NoOverload, ManyOverloads, OperCycle, ParamCycle, InstanceType, NoLincat, NoLin, TooManyCells, TooManyCases, GlueOnArgument, MatchOnArgument, NoStringBranch, TooManyProductions, TooManyCategories, AbstractsDiffer, BadMagic, BadVersion, Short, TooLong, BadText, BadNumber, BadTag, BadOrder, Invalid, UnknownCommand, BadOption, BadArgument, BadPipe, TreeSyntax, TreeTooDeep, BadLiteral, NoGrammar, NoLanguage, NoSuchLanguage, NoSuchCategory, TooManyWords, TokenTooLong, UnknownFun, WrongArity, WrongCategory, IllTyped, UnknownName, CannotWrite, PortableTooLong, LineTooLong, LineNotUtf8, TooManyNonterminals, TooManyTrees}
use Rattle.gft_rules.specs.Rules.{code_of, every_rule, IsAlone}

-- the rule with a code
abbrev rule_with : ℕ → Option Rule
rule_with n = find (λ r. code_of r == n) every_rule

-- each rule is found by its code
found : (r : Rule) → rule_with (code_of r) ≡ Some r
found NotUtf8 = refl
found BadCharacter = refl
found OpenString = refl
found BadEscape = refl
found OpenComment = refl
found NumberTooLarge = refl
found Syntax = refl
found TooDeep = refl
found OutOfProfile = refl
found MissingFile = refl
found CannotRead = refl
found FileTooLong = refl
found TooManyModules = refl
found NameMismatch = refl
found ModuleCycle = refl
found WrongKind = refl
found RestrictUnknown = refl
found InheritClash = refl
found NotIncomplete = refl
found ParameterUnmatched = refl
found InstanceLacks = refl
found Redefined = refl
found Unknown = refl
found Ambiguous = refl
found PatternVars = refl
found UnknownCat = refl
found HigherOrder = refl
found NotAbstract = refl
found Arity = refl
found IndexType = refl
found NoType = refl
found NotRecord = refl
found NoField = refl
found NotTable = refl
found NotFunction = refl
found Mismatch = refl
found FunctionHere = refl
found NotFinite = refl
found ParamTooLarge = refl
found NotExhaustive = refl
found NoOverload = refl
found ManyOverloads = refl
found OperCycle = refl
found ParamCycle = refl
found InstanceType = refl
found NoLincat = refl
found NoLin = refl
found TooManyCells = refl
found TooManyCases = refl
found GlueOnArgument = refl
found MatchOnArgument = refl
found NoStringBranch = refl
found TooManyProductions = refl
found TooManyCategories = refl
found AbstractsDiffer = refl
found BadMagic = refl
found BadVersion = refl
found Short = refl
found TooLong = refl
found BadText = refl
found BadNumber = refl
found BadTag = refl
found BadOrder = refl
found Invalid = refl
found UnknownCommand = refl
found BadOption = refl
found BadArgument = refl
found BadPipe = refl
found TreeSyntax = refl
found TreeTooDeep = refl
found BadLiteral = refl
found NoGrammar = refl
found NoLanguage = refl
found NoSuchLanguage = refl
found NoSuchCategory = refl
found TooManyWords = refl
found TokenTooLong = refl
found UnknownFun = refl
found WrongArity = refl
found WrongCategory = refl
found IllTyped = refl
found UnknownName = refl
found CannotWrite = refl
found PortableTooLong = refl
found LineTooLong = refl
found LineNotUtf8 = refl
found TooManyNonterminals = refl
found TooManyTrees = refl

pub alone : (r : Rule) → IsAlone r
alone r other same =
    let equal : Some other ≡ Some r = sym (found other) ∙ ap rule_with same ∙ found r in cc
