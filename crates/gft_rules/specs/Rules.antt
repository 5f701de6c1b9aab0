-- The rules and their codes and texts.
use Rattle.std.specs.Prelude.{◌≡◌, ℕ, List, [], ◌∷◌, codes}
use Rattle.gft_rules.specs.declared.rule.Rule.{Rule}
use Rattle.gft_rules.specs.declared.rule.Rule.TheVariants.{NotUtf8, BadCharacter, OpenString, BadEscape, OpenComment, NumberTooLarge, Syntax, TooDeep, OutOfProfile, MissingFile, CannotRead, FileTooLong, TooManyModules, NameMismatch, ModuleCycle, WrongKind, RestrictUnknown, InheritClash, NotIncomplete, ParameterUnmatched, InstanceLacks, Redefined, Unknown, Ambiguous, PatternVars, UnknownCat, HigherOrder, NotAbstract, Arity, IndexType, NoType, NotRecord, NoField, NotTable, NotFunction, Mismatch, FunctionHere, NotFinite, ParamTooLarge, NotExhaustive, NoOverload, ManyOverloads, OperCycle, ParamCycle, InstanceType, NoLincat, NoLin, TooManyCells, TooManyCases, GlueOnArgument, MatchOnArgument, NoStringBranch, TooManyProductions, TooManyCategories, AbstractsDiffer, BadMagic, BadVersion, Short, TooLong, BadText, BadNumber, BadTag, BadOrder, Invalid, UnknownCommand, BadOption, BadArgument, BadPipe, TreeSyntax, TreeTooDeep, BadLiteral, NoGrammar, NoLanguage, NoSuchLanguage, NoSuchCategory, TooManyWords, TokenTooLong, UnknownFun, WrongArity, WrongCategory, IllTyped, UnknownName, CannotWrite, PortableTooLong, LineTooLong, LineNotUtf8, TooManyNonterminals, TooManyTrees}

-- the code and the text of each rule
abbrev pub row_of : Rule → ℕ × List ℕ
row_of NotUtf8 = (1, codes "NotUtf8")
row_of BadCharacter = (2, codes "BadCharacter")
row_of OpenString = (3, codes "OpenString")
row_of BadEscape = (4, codes "BadEscape")
row_of OpenComment = (5, codes "OpenComment")
row_of NumberTooLarge = (6, codes "NumberTooLarge")
row_of Syntax = (7, codes "Syntax")
row_of TooDeep = (8, codes "TooDeep")
row_of OutOfProfile = (9, codes "OutOfProfile")
row_of MissingFile = (10, codes "MissingFile")
row_of CannotRead = (11, codes "CannotRead")
row_of FileTooLong = (12, codes "FileTooLong")
row_of TooManyModules = (13, codes "TooManyModules")
row_of NameMismatch = (14, codes "NameMismatch")
row_of ModuleCycle = (15, codes "ModuleCycle")
row_of WrongKind = (16, codes "WrongKind")
row_of RestrictUnknown = (17, codes "RestrictUnknown")
row_of InheritClash = (18, codes "InheritClash")
row_of NotIncomplete = (19, codes "NotIncomplete")
row_of ParameterUnmatched = (20, codes "ParameterUnmatched")
row_of InstanceLacks = (21, codes "InstanceLacks")
row_of Redefined = (22, codes "Redefined")
row_of Unknown = (23, codes "Unknown")
row_of Ambiguous = (24, codes "Ambiguous")
row_of PatternVars = (25, codes "PatternVars")
row_of UnknownCat = (26, codes "UnknownCat")
row_of HigherOrder = (27, codes "HigherOrder")
row_of NotAbstract = (28, codes "NotAbstract")
row_of Arity = (29, codes "Arity")
row_of IndexType = (30, codes "IndexType")
row_of NoType = (31, codes "NoType")
row_of NotRecord = (32, codes "NotRecord")
row_of NoField = (33, codes "NoField")
row_of NotTable = (34, codes "NotTable")
row_of NotFunction = (35, codes "NotFunction")
row_of Mismatch = (36, codes "Mismatch")
row_of FunctionHere = (37, codes "FunctionHere")
row_of NotFinite = (38, codes "NotFinite")
row_of ParamTooLarge = (39, codes "ParamTooLarge")
row_of NotExhaustive = (40, codes "NotExhaustive")
row_of NoOverload = (41, codes "NoOverload")
row_of ManyOverloads = (42, codes "ManyOverloads")
row_of OperCycle = (43, codes "OperCycle")
row_of ParamCycle = (44, codes "ParamCycle")
row_of InstanceType = (45, codes "InstanceType")
row_of NoLincat = (46, codes "NoLincat")
row_of NoLin = (47, codes "NoLin")
row_of TooManyCells = (48, codes "TooManyCells")
row_of TooManyCases = (49, codes "TooManyCases")
row_of GlueOnArgument = (50, codes "GlueOnArgument")
row_of MatchOnArgument = (51, codes "MatchOnArgument")
row_of NoStringBranch = (52, codes "NoStringBranch")
row_of TooManyProductions = (53, codes "TooManyProductions")
row_of TooManyCategories = (54, codes "TooManyCategories")
row_of AbstractsDiffer = (55, codes "AbstractsDiffer")
row_of BadMagic = (56, codes "BadMagic")
row_of BadVersion = (57, codes "BadVersion")
row_of Short = (58, codes "Short")
row_of TooLong = (59, codes "TooLong")
row_of BadText = (60, codes "BadText")
row_of BadNumber = (61, codes "BadNumber")
row_of BadTag = (62, codes "BadTag")
row_of BadOrder = (63, codes "BadOrder")
row_of Invalid = (64, codes "Invalid")
row_of UnknownCommand = (65, codes "UnknownCommand")
row_of BadOption = (66, codes "BadOption")
row_of BadArgument = (67, codes "BadArgument")
row_of BadPipe = (68, codes "BadPipe")
row_of TreeSyntax = (69, codes "TreeSyntax")
row_of TreeTooDeep = (70, codes "TreeTooDeep")
row_of BadLiteral = (71, codes "BadLiteral")
row_of NoGrammar = (72, codes "NoGrammar")
row_of NoLanguage = (73, codes "NoLanguage")
row_of NoSuchLanguage = (74, codes "NoSuchLanguage")
row_of NoSuchCategory = (75, codes "NoSuchCategory")
row_of TooManyWords = (76, codes "TooManyWords")
row_of TokenTooLong = (77, codes "TokenTooLong")
row_of UnknownFun = (78, codes "UnknownFun")
row_of WrongArity = (79, codes "WrongArity")
row_of WrongCategory = (80, codes "WrongCategory")
row_of IllTyped = (81, codes "IllTyped")
row_of UnknownName = (82, codes "UnknownName")
row_of CannotWrite = (83, codes "CannotWrite")
row_of PortableTooLong = (84, codes "PortableTooLong")
row_of LineTooLong = (85, codes "LineTooLong")
row_of LineNotUtf8 = (86, codes "LineNotUtf8")
row_of TooManyNonterminals = (87, codes "TooManyNonterminals")
row_of TooManyTrees = (88, codes "TooManyTrees")

-- the number of a rule
abbrev pub code_of : Rule → ℕ
code_of r = (row_of r).0

-- the name that a refusal writes
abbrev pub text_of : Rule → List ℕ
text_of r = (row_of r).1

-- every rule, in the order of the codes
abbrev pub every_rule : List Rule
every_rule =
    NotUtf8 ∷ BadCharacter ∷ OpenString ∷ BadEscape ∷ OpenComment ∷ NumberTooLarge ∷ Syntax ∷ TooDeep ∷
    OutOfProfile ∷ MissingFile ∷ CannotRead ∷ FileTooLong ∷ TooManyModules ∷ NameMismatch ∷
    ModuleCycle ∷ WrongKind ∷ RestrictUnknown ∷ InheritClash ∷ NotIncomplete ∷ ParameterUnmatched ∷
    InstanceLacks ∷ Redefined ∷ Unknown ∷ Ambiguous ∷ PatternVars ∷ UnknownCat ∷ HigherOrder ∷
    NotAbstract ∷ Arity ∷ IndexType ∷ NoType ∷ NotRecord ∷ NoField ∷ NotTable ∷ NotFunction ∷
    Mismatch ∷ FunctionHere ∷ NotFinite ∷ ParamTooLarge ∷ NotExhaustive ∷ NoOverload ∷ ManyOverloads ∷
    OperCycle ∷ ParamCycle ∷ InstanceType ∷ NoLincat ∷ NoLin ∷ TooManyCells ∷ TooManyCases ∷
    GlueOnArgument ∷ MatchOnArgument ∷ NoStringBranch ∷ TooManyProductions ∷ TooManyCategories ∷
    AbstractsDiffer ∷ BadMagic ∷ BadVersion ∷ Short ∷ TooLong ∷ BadText ∷ BadNumber ∷ BadTag ∷
    BadOrder ∷ Invalid ∷ UnknownCommand ∷ BadOption ∷ BadArgument ∷ BadPipe ∷ TreeSyntax ∷
    TreeTooDeep ∷ BadLiteral ∷ NoGrammar ∷ NoLanguage ∷ NoSuchLanguage ∷ NoSuchCategory ∷
    TooManyWords ∷ TokenTooLong ∷ UnknownFun ∷ WrongArity ∷ WrongCategory ∷ IllTyped ∷ UnknownName ∷
    CannotWrite ∷ PortableTooLong ∷ LineTooLong ∷ LineNotUtf8 ∷ TooManyNonterminals ∷
    TooManyTrees ∷ []

-- no other rule has the code of this one
abbrev pub IsAlone : Rule → Type 0
IsAlone r = (other : Rule) → code_of other ≡ code_of r → other ≡ r
