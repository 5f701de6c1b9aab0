-- Command lines: how a line is cut, which commands stand in it, and what it alone breaks.
use Rattle.std.specs.Prelude.{◌≡◌, ◌≢◌, ◌==◌, ◌&&◌, ◌⊎◌, ℕ, zero, suc, ◌+◌, Bool, true, false, not, nat_le, if◌then◌else◌, List, [], ◌∷◌, ◌++◌, length, map, filter, take, drop, codes, bytes_eq, slice_get, slice_index_or, All, Option, Some, None, Result, Ok, Err, encode_utf8_all}
use Rattle.std.specs.Char.{is_whitespace}
use Rattle.std.specs.Fmt.{decimal}
use Rattle.std.specs.List.{AllZip, list_all, list_any, take_while, filter_map, position_or_len}
use Rattle.std.specs.Map.{lookup}
use Rattle.std.specs.Option.{is_some, option_map, option_map_or}
use Rattle.std.specs.Str.{skip_leading_whitespace, drop_trailing_whitespace}
use Rattle.std.specs.Str.Parse.{digits_value}
use Rattle.gft_core.specs.Names.{spells_name}
use Rattle.gft_core.specs.Words.{runs}
use Rattle.gft_core.specs.declared.tree.Tree.{Tree}
use Rattle.gft_io.specs.Lines.{with_first}
use Rattle.gft_rules.specs.declared.refusal.Refusal.{Refusal}
use Rattle.gft_rules.specs.declared.rule.Rule.{Rule}
use Rattle.gft_rules.specs.declared.rule.Rule.TheVariants.{UnknownCommand, BadOption, BadArgument, BadPipe, TreeSyntax, TreeTooDeep, BadLiteral}
use Rattle.gft_model.specs.Refusals.{placeless}
use Rattle.gft_tree.specs.declared.error.TreeErr.{TreeErr}
use Rattle.gft_tree.specs.declared.error.TreeErr.TheVariants as fault
use Rattle.gft_tree.specs.Faults.{IsRefused, place_of}
use Rattle.gft_tree.specs.Lexemes.{are_digits}
use Rattle.gft_tree.specs.Spelling.{Spells, is_canonical}
use Rattle.gft_tree.specs.Trees.{quoted}

-- the commands
pub data Verb : Type 0 where
  Import Empty Quit Parse Linearize Complete AbstractInfo WritePortable GenerateTrees MorphoAnalyse ContextFree : Verb

-- what passes from one command of a pipe to the next: trees, texts as their words, and lines, which pass unchanged
pub data Item : Type 0 where
  a_tree : Tree → Item
  a_text : List (List ℕ) → Item
  a_line : List ℕ → Item

-- what a command works on: nothing, file names, a tree or a text, or a name
pub data Argument : Type 0 where
  Nothing : Argument
  FileNames : List (List ℕ) → Argument
  Given : Item → Argument
  Name : List ℕ → Argument

-- a command, with what its options say: a language, a category, a depth, and whether brackets are written
pub record Command : Type 0 where
  pub verb : Verb
  pub lang : Option (List ℕ)
  pub cat : Option (List ℕ)
  pub depth : Option ℕ
  pub bracket : Bool
  pub argument : Argument

-- A line is characters here, and so are its parts.

-- a character stands outside quotes, within them, or behind a backslash there, which keeps it within
pub data Place : Type 0 where
  outside within kept : Place

-- where the character behind one stands
abbrev pub place_behind : Place → ℕ → Place
place_behind outside c = if c == 34 then within else outside
place_behind within c = if c == 34 then outside else if c == 92 then kept else within
place_behind kept c = within

-- the parts between separators outside quotes, of which there is one at least
abbrev pub parts : ℕ → Place → List ℕ → List (List ℕ)
parts separator place [] = [] ∷ []
parts separator outside (c ∷ cs) =
    if c == separator then [] ∷ parts separator outside cs else with_first c (parts separator (place_behind outside c) cs)
parts separator place (c ∷ cs) = with_first c (parts separator (place_behind place c) cs)

-- the pipes of a line, between semicolons, that are not white space alone; a line that begins with two hyphens is a comment
-- and has none
abbrev pub pipes_of : List ℕ → List (List ℕ)
pipes_of line =
    if bytes_eq (take 2 line) (codes "--") then [] else filter (λ pipe. not (list_all is_whitespace pipe)) (parts 59 outside line)

-- what stands after so many words and white space
abbrev pub after_words : ℕ → List ℕ → List ℕ
after_words zero cs = skip_leading_whitespace cs
after_words (suc n) cs =
    let word = skip_leading_whitespace cs in after_words n (drop (position_or_len is_whitespace word) word)

abbrev pub begins_with_hyphen : List ℕ → Bool
begins_with_hyphen word = bytes_eq (take 1 word) (codes "-")

-- the first word of a command, or nothing where it is blank
abbrev pub name_of : List ℕ → List ℕ
name_of text = slice_index_or (runs is_whitespace text) 0 []

-- the words after the name that begin with a hyphen, up to the first that does not
abbrev pub options_of : List ℕ → List (List ℕ)
options_of text = take_while begins_with_hyphen (drop 1 (runs is_whitespace text))

-- the trimmed rest
abbrev pub argument_of : List ℕ → List ℕ
argument_of text = drop_trailing_whitespace (after_words (1 + length (options_of text)) text)

-- the names of the commands
abbrev pub verbs : List (List ℕ × Verb)
verbs =
    (codes "import", Import) ∷ (codes "i", Import) ∷ (codes "empty", Empty) ∷ (codes "e", Empty)
    ∷ (codes "quit", Quit) ∷ (codes "q", Quit) ∷ (codes "parse", Parse) ∷ (codes "p", Parse)
    ∷ (codes "linearize", Linearize) ∷ (codes "l", Linearize) ∷ (codes "complete", Complete)
    ∷ (codes "abstract_info", AbstractInfo) ∷ (codes "ai", AbstractInfo) ∷ (codes "write_portable", WritePortable)
    ∷ (codes "generate_trees", GenerateTrees) ∷ (codes "gt", GenerateTrees) ∷ (codes "morpho_analyse", MorphoAnalyse)
    ∷ (codes "ma", MorphoAnalyse) ∷ (codes "context_free", ContextFree) ∷ (codes "cf", ContextFree) ∷ []

-- the command of a text, by its name
abbrev pub verb_of : List ℕ → Option Verb
verb_of text = lookup (bytes_eq (name_of text)) verbs

-- the options that a command takes, as they begin
abbrev pub keys_of : Verb → List (List ℕ)
keys_of Parse = codes "-lang=" ∷ codes "-cat=" ∷ codes "-depth=" ∷ []
keys_of Linearize = codes "-lang=" ∷ codes "-cat=" ∷ codes "-bracket" ∷ []
keys_of Complete = codes "-lang=" ∷ codes "-cat=" ∷ []
keys_of GenerateTrees = codes "-cat=" ∷ codes "-depth=" ∷ []
keys_of MorphoAnalyse = codes "-lang=" ∷ []
keys_of ContextFree = codes "-lang=" ∷ codes "-cat=" ∷ []
keys_of verb = []

-- what stands after a beginning, where the text begins so
abbrev pub value_after : List ℕ → List ℕ → Option (List ℕ)
value_after key cs = if bytes_eq (take (length key) cs) key then Some (drop (length key) cs) else None

-- digits are a canonical decimal from 1 to a limit
abbrev pub is_decimal_to : ℕ → List ℕ → Bool
is_decimal_to most ds =
    are_digits ds && is_canonical ds && nat_le 1 (digits_value 10 ds) && nat_le (digits_value 10 ds) most

-- a good value of an option: a depth is at most 64, -bracket has none, a language and a category are identifiers
abbrev pub is_value : List ℕ → List ℕ → Bool
is_value key value =
    if bytes_eq key (codes "-depth=") then is_decimal_to 64 value
    else if bytes_eq key (codes "-bracket") then bytes_eq value [] else spells_name value

-- the word is the option with a good value
abbrev pub is_option : List ℕ → List ℕ → Bool
is_option word key = option_map_or (is_value key) (value_after key word) false

-- the first word that is none of the options that may still come; each comes once
abbrev pub bad_option : List (List ℕ) → List (List ℕ) → Option (List ℕ)
bad_option keys [] = None
bad_option keys (word ∷ words) =
    if list_any (is_option word) keys then bad_option (filter (λ key. not (is_option word key)) keys) words else Some word

-- the value of an option among words, if it is there
abbrev pub option_of : List ℕ → List (List ℕ) → Option (List ℕ)
option_of key options = option_map encode_utf8_all (slice_get (filter_map (value_after key) options) 0)

-- the command with these options
abbrev pub command_of : Verb → List (List ℕ) → Argument → Command
command_of verb options argument = record {
  verb = verb;
  lang = option_of (codes "-lang=") options;
  cat = option_of (codes "-cat=") options;
  depth = option_map (digits_value 10) (option_of (codes "-depth=") options);
  bracket = is_some (option_of (codes "-bracket") options);
  argument = argument;
}

-- the words of characters
abbrev pub words_in : List ℕ → List (List ℕ)
words_in cs = map encode_utf8_all (runs is_whitespace cs)

-- the name ends so
abbrev pub EndsIn : List ℕ → List ℕ → Type 0
EndsIn ending name = (base : List ℕ) × (name ≡ base ++ ending)

-- the endings of the two kinds of files that can be imported
abbrev pub source_ending : List ℕ
source_ending = codes ".gf"

abbrev pub portable_ending : List ℕ
portable_ending = codes ".gft"

-- the file names of a command are of its form
pub data AreFileNames : Verb → List (List ℕ) → Type 0 where
  of_import : {name names : _} → All (λ file. EndsIn source_ending file ⊎ EndsIn portable_ending file) (name ∷ names) →
      AreFileNames Import (name ∷ names)
  of_write_portable : {name : _} → EndsIn portable_ending name → AreFileNames WritePortable (name ∷ [])

-- what a text says as the argument of a command of that form; a later command of a pipe may have none
pub data IsArgument (later : Bool) : Verb → List ℕ → Argument → Type 0 where
  files : {verb text : _} → AreFileNames verb (words_in text) → IsArgument later verb text (FileNames (words_in text))
  of_empty : IsArgument later Empty [] Nothing
  of_quit : IsArgument later Quit [] Nothing
  of_generate_trees : IsArgument later GenerateTrees [] Nothing
  of_context_free : IsArgument later ContextFree [] Nothing
  to_parse : {text : _} (inner : List ℕ) → text ≡ quoted inner → IsArgument later Parse text (Given (a_text (words_in inner)))
  to_complete : {text : _} (inner : List ℕ) → text ≡ quoted inner →
      IsArgument later Complete text (Given (a_text (words_in inner)))
  to_analyse : {text : _} (inner : List ℕ) → text ≡ quoted inner →
      IsArgument later MorphoAnalyse text (Given (a_text (words_in inner)))
  to_linearize : {text t : _} → Spells text t → IsArgument later Linearize text (Given (a_tree t))
  by_name : {text : _} → spells_name text ≡ true → IsArgument later AbstractInfo text (Name (encode_utf8_all text))
  all : IsArgument later AbstractInfo [] Nothing
  bare : {verb : _} → later ≡ true → IsArgument later verb [] Nothing

-- the rule of a fault of a tree; want of memory is no fault of a text
abbrev pub tree_rule : TreeErr → Rule
tree_rule (fault.TooDeep at) = TreeTooDeep
tree_rule (fault.BadLiteral at) = BadLiteral
tree_rule e = TreeSyntax

-- the refusal of a text that is no argument of the command: the first fault of a tree, with its offset in bytes
pub data HasBadArgument (later : Bool) : Verb → List ℕ → Refusal → Type 0 where
  of_tree : {text e : _} → (later ≡ true → text ≢ []) → IsRefused text e →
      HasBadArgument later Linearize text (placeless (tree_rule e) (decimal (place_of e) ∷ []))
  other : {verb text : _} → verb ≢ Linearize → ((a : Argument) → ¬ IsArgument later verb text a) →
      HasBadArgument later verb text (placeless BadArgument [])

-- the command that a text calls with its options, or the refusal of its name or of an option
abbrev pub called : List ℕ → Result Verb Refusal
called text = elim (verb_of text) [
  | None ↦ Err (placeless UnknownCommand (encode_utf8_all (name_of text) ∷ []))
  | Some verb ↦ option_map_or (λ word. Err (placeless BadOption (encode_utf8_all word ∷ [])))
      (bad_option (keys_of verb) (options_of text)) (Ok verb)
]

-- what the text of a command is read as: the command, or its first refusal
pub data ReadsCommand (later : Bool) (text : List ℕ) : Result Command Refusal → Type 0 where
  not_called : {r : _} → called text ≡ Err r → ReadsCommand later text (Err r)
  argument_refused : {verb r : _} → called text ≡ Ok verb → HasBadArgument later verb (argument_of text) r →
      ReadsCommand later text (Err r)
  read : {verb argument : _} → called text ≡ Ok verb → IsArgument later verb (argument_of text) argument →
      ReadsCommand later text (Ok (command_of verb (options_of text) argument))

-- each gives what R says, in order, up to the first refusal
pub data InTurn {A B : Type 0} (R : A → Result B Refusal → Type 0) : List A → Result (List B) Refusal → Type 0 where
  none : InTurn R [] (Ok [])
  more : {x xs y ys : _} → R x (Ok y) → InTurn R xs (Ok ys) → InTurn R (x ∷ xs) (Ok (y ∷ ys))
  refused : {x xs r : _} → R x (Err r) → InTurn R (x ∷ xs) (Err r)
  refused_later : {x xs y r : _} → R x (Ok y) → InTurn R xs (Err r) → InTurn R (x ∷ xs) (Err r)

-- the texts with whether each is a later one
abbrev pub in_pipe : List (List ℕ) → List (Bool × List ℕ)
in_pipe [] = []
in_pipe (text ∷ texts) = (false, text) ∷ map (λ t. (true, t)) texts

-- the commands of a pipe, between bars, or the first refusal from left to right
abbrev pub ReadsCommands : List ℕ → Result (List Command) Refusal → Type 0
ReadsCommands pipe = InTurn (λ c. ReadsCommand c.0 c.1) (in_pipe (parts 124 outside pipe))

-- a command takes up what the one before it in a pipe hands on: trees, or texts
pub data TakesUp : Verb → Verb → Type 0 where
  trees : TakesUp Parse Linearize
  all_trees : TakesUp GenerateTrees Linearize
  texts : TakesUp Linearize Parse
  last_texts : TakesUp Linearize Complete

-- so does each later command, without an argument of its own; brackets are no texts, so they are handed on to none
pub data AreJoined : Command → List Command → Type 0 where
  last : {c : _} → AreJoined c []
  next : {c d : Command} {cs : _} → TakesUp c.verb d.verb → c.bracket ≡ false → d.argument ≡ Nothing → AreJoined d cs →
      AreJoined c (d ∷ cs)

-- what the text of a pipe is read as: its commands, or its first refusal
pub data ReadsPipe (text : List ℕ) : Result (List Command) Refusal → Type 0 where
  pipe : {c cs : _} → ReadsCommands text (Ok (c ∷ cs)) → AreJoined c cs → ReadsPipe text (Ok (c ∷ cs))
  bad_pipe : {c cs : _} → ReadsCommands text (Ok (c ∷ cs)) → ¬ AreJoined c cs → ReadsPipe text (Err (placeless BadPipe []))
  pipe_refused : {r : _} → ReadsCommands text (Err r) → ReadsPipe text (Err r)

-- what the characters of a line are read as: each of its pipes, in order
abbrev pub ReadsLine : List ℕ → List (Result (List Command) Refusal) → Type 0
ReadsLine line = AllZip ReadsPipe (pipes_of line)
