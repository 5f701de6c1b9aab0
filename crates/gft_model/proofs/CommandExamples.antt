-- Worked examples of command lines.
use Rattle.std.proofs.Common.{◌≡◌, ◌≢◌, refl, sym, ap, ◌∙◌, ℕ, List, [], ◌∷◌, true, false}
use Rattle.std.specs.Prelude.{codes, bytes_eq, take, Some, Result, Ok, Err}
use lib.Utf8
use Rattle.ucd_derived.specs.Binary.{is_xid_start, is_xid_continue}
use Rattle.ucd_derived.specs.XidStartRanges.{xid_start_ranges}
use Rattle.ucd_derived.specs.XidContinueRanges.{xid_continue_ranges}
use Rattle.ucd_table.specs.Rows.{in_ranges}
use Rattle.gft_core.specs.declared.tree.Tree.TheVariants as tree
use Rattle.gft_rules.specs.declared.rule.Rule.TheVariants.{UnknownCommand, BadOption, BadPipe}
use Rattle.gft_tree.specs.Grammar as grammar
use Rattle.gft_tree.specs.Lexemes as lexeme
use Rattle.gft_tree.specs.Spelling.{Spells}
use Rattle.gft_rules.specs.declared.refusal.Refusal.{Refusal}
use Rattle.gft_model.specs.Commands.{Verb, Empty, Parse, Linearize, AbstractInfo, Argument, Nothing, Command, outside, parts, pipes_of, argument_of, bad_option, keys_of, IsArgument, files, of_empty, to_parse, to_linearize, bare, not_called, read, none, more, refused, AreJoined, last, next, ReadsPipe, pipe, bad_pipe, pipe_refused, ReadsLine, command_of, GenerateTrees, ContextFree, all_trees}
use Rattle.gft_model.specs.Refusals.{placeless}

-- a command
abbrev pub command : Verb → List (List ℕ) → Argument → Command
command = command_of

-- a semicolon in quotes does not cut, behind an escaped quote neither
quotes : parts 59 outside (codes "p \"a;\\\";b\" ; e") ≡ codes "p \"a;\\\";b\" " ∷ codes " e" ∷ []
quotes = refl

-- a bar cuts a pipe, and an open quote goes on to the end of the line
bars : parts 124 outside (codes "p \"a|b\"|l \"c|") ≡ codes "p \"a|b\"" ∷ codes "l \"c|" ∷ []
bars = refl

-- blank pipes are left out
blank : pipes_of (codes "  ; e ;") ≡ codes " e " ∷ []
blank = refl

-- a comment is one at the line's first byte alone
comment : pipes_of (codes "-- e") ≡ []
comment = refl

no_comment : pipes_of (codes " -- x") ≢ []
no_comment e = cc

-- the argument is what stands behind the options
rest : argument_of (codes " p -lang=A  -cat=S \"a  b\" ") ≡ codes "\"a  b\""
rest = refl

-- a depth of 65 is none, and an option comes once
depth : bad_option (keys_of Parse) (codes "-depth=64" ∷ codes "-depth=3" ∷ []) ≡ Some (codes "-depth=3")
unfolding is_xid_start is_xid_continue xid_start_ranges xid_continue_ranges in_ranges
depth = refl

twice : bad_option (keys_of Linearize) (codes "-lang=A" ∷ codes "-cat=S" ∷ codes "-lang=B" ∷ []) ≡ Some (codes "-lang=B")
unfolding is_xid_start is_xid_continue xid_start_ranges xid_continue_ranges in_ranges
twice = refl

-- `e`, and a name that is no command
empties : ReadsPipe (codes " e ") (Ok (command Empty [] Nothing ∷ []))
empties = pipe (more (read refl of_empty) none) last

unknown : ReadsPipe (codes " frob ") (Err (placeless UnknownCommand (codes "frob" ∷ [])))
unfolding lib.Utf8.encode
unknown = pipe_refused (refused (not_called refl))

-- a refused pipe stands between two others
abbrev pub empty : Result (List Command) Refusal
empty = Ok (command Empty [] Nothing ∷ [])

pub line : ReadsLine (codes "e ; frob ; e") (empty ∷ Err (placeless UnknownCommand (codes "frob" ∷ [])) ∷ empty ∷ [])
line =
    let first : ReadsPipe (codes "e ") empty = pipe (more (read refl of_empty) none) last in
    let third : ReadsPipe (codes " e") empty = pipe (more (read refl of_empty) none) last in
    (first, (unknown, (third, tt)))

hyphens : ReadsPipe (codes " -- x") (Err (placeless UnknownCommand (codes "--" ∷ [])))
unfolding lib.Utf8.encode
hyphens = pipe_refused (refused (not_called refl))

-- a blank command beside a bar has the empty name
blank_command : ReadsPipe (codes "| e") (Err (placeless UnknownCommand ([] ∷ [])))
blank_command = pipe_refused (refused (not_called refl))

too_deep : ReadsPipe (codes "p -depth=65 \"a\"") (Err (placeless BadOption (codes "-depth=65" ∷ [])))
unfolding is_xid_start is_xid_continue xid_start_ranges xid_continue_ranges in_ranges lib.Utf8.encode
too_deep = pipe_refused (refused (not_called refl))

-- `a` is a tree
a_is_spelled : Spells (codes "a") (tree.App (codes "a") [])
unfolding is_xid_start is_xid_continue xid_start_ranges xid_continue_ranges in_ranges lib.Utf8.encode
a_is_spelled = (
  lexeme.Word (codes "a") ∷ [],
  lexeme.token {t = lexeme.Word (codes "a")} {cs = []} refl refl lexeme.done,
  grammar.application (codes "a") grammar.none,
  refl,
)

-- nothing follows on `linearize` but `parse` and `complete`
not_joined : (argument : Argument) → ¬ AreJoined (command Linearize [] argument) (command AbstractInfo [] Nothing ∷ [])
not_joined argument (next follows plain nothing others) = elim follows [ ]

informs : ReadsPipe (codes "l a | ai") (Err (placeless BadPipe []))
informs = bad_pipe (more (read refl (to_linearize a_is_spelled))
    (more (read refl (bare refl)) none)) (not_joined _)

-- a text stands between quotes
no_text : {text : List ℕ} {a : Argument} → text ≡ codes "a" → ¬ IsArgument false Parse text a
no_text e (to_parse inner k) = let first : true ≡ false = ap (λ cs. bytes_eq (take 1 cs) (codes "a")) (sym e ∙ k) in cc
no_text e (files d) = elim d [ ]
no_text e (bare l) = cc

-- brackets are an option without a value
no_value : bad_option (keys_of Linearize) (codes "-bracket=x" ∷ []) ≡ Some (codes "-bracket=x")
unfolding is_xid_start is_xid_continue xid_start_ranges xid_continue_ranges in_ranges
no_value = refl

brackets : (command Linearize (codes "-bracket" ∷ []) Nothing).bracket ≡ true
brackets = refl

-- `gt | l`: all trees are handed on, and texts with brackets are not
all_handed_on : AreJoined (command GenerateTrees [] Nothing) (command Linearize (codes "-bracket" ∷ []) Nothing ∷ [])
all_handed_on = next all_trees refl refl last

not_handed_on : ¬ AreJoined (command Linearize (codes "-bracket" ∷ []) Nothing) (command Parse [] Nothing ∷ [])
not_handed_on (next follows plain nothing others) = cc

-- nothing is handed on by `ma` and `cf`
alone : (c : Command) → ¬ AreJoined (command ContextFree [] Nothing) (c ∷ [])
alone c (next follows plain nothing others) = elim follows [ ]
