-- Worked example of a whole answer: `l Dup A` over the language of Twice.
use Rattle.std.proofs.Common.{◌≡◌, refl, sym, ap, ◌∙◌, ℕ, zero, suc, List, [], ◌∷◌, arith, rules, ⊎_elim}
use Rattle.std.specs.Prelude.{codes, Some, None, length, Contains, AllPairs, Ok}
use Rattle.std.specs.Str.{chars}
use lib.Utf8
use Rattle.ucd_derived.specs.Binary.{is_xid_start, is_xid_continue}
use Rattle.ucd_derived.specs.XidStartRanges.{xid_start_ranges}
use Rattle.ucd_derived.specs.XidContinueRanges.{xid_continue_ranges}
use Rattle.ucd_table.specs.Rows.{in_ranges}
use Rattle.gft_core.specs.Words.{joined}
use Rattle.gft_core.specs.declared.tree.Tree.{Hole}
use Rattle.gft_core.specs.declared.tree.Tree.TheVariants.{outs-App}
use Rattle.gft_io.specs.Outside.{Files}
use Rattle.gft_rules.specs.declared.refusal.Refusal.{Refusal}
use Rattle.gft_tree.specs.Grammar as grammar
use Rattle.gft_tree.specs.Lexemes as lexeme
use Rattle.gft_tree.specs.Spelling.{Spells}
use Rattle.gft_model.specs.Brackets.{Piece, erased}
use Rattle.gft_model.specs.Commands as commands
use Rattle.gft_model.specs.Commands.{command_of, Linearize, Given, a_tree, Command, ReadsPipe, to_linearize}
use Rattle.gft_model.specs.Listing.{Language}
use Rattle.gft_model.specs.Listing.{IsBefore}
use Rattle.gft_model.specs.Replies.{AreTexts, linearized, next, done}
use Rattle.gft_model.specs.Runs.{Strings, filled}
use Rattle.gft_model.specs.Shell as shell
use Rattle.gft_model.specs.Shell.{Held, replying, LacksFirst, Does, IsAnswer}
use Rattle.gft_model.specs.Solutions.{IsSolution}
use Rattle.gft_model.specs.States.{Loaded, State, of_file, language_of}
use Rattle.gft_model.specs.Typing as typing
use Rattle.gft_model.specs.Typing.{HasType, IsAdmitted}
use Rattle.gft_model.proofs.Grammars.{twice, twice_eng, whole}
use Rattle.gft_model.proofs.StringExamples.{dup_a, a_a_is_string, b_b_is_string, a_gives, dup_gives, doubled}
use Rattle.gft_model.proofs.TreeLemmas.{filled-App, holes_of-App}

abbrev of_twice : Language
of_twice = language_of twice 2 (codes "TwiceEng", of_file twice_eng)

-- `a a`, then `b b`
abbrev texts : List (List (List ℕ))
texts = (codes "a" ∷ codes "a" ∷ []) ∷ (codes "b" ∷ codes "b" ∷ []) ∷ []

is_text : (words : List (List ℕ)) → Contains texts words → (b : List Piece) × of_twice dup_a b × (erased b ≡ words)
is_text words (zero, b, e) = (a_a_is_string.0, a_a_is_string.1, a_a_is_string.2 ∙ e)
is_text words (suc zero, b, e) = (b_b_is_string.0, b_b_is_string.1, b_b_is_string.2 ∙ e)
is_text words (suc (suc k), b, e) = absurd (omega (arith, b))

is_listed : (words : List (List ℕ)) → (b : List Piece) × of_twice dup_a b × (erased b ≡ words) → Contains texts words
is_listed words (b, s, e) =
    let d = dup_gives s in
    let doubles : (v : Strings) → d.0 ≡ v → erased (filled (doubled v ∷ []) whole) ≡ words =
    λ v is. ap (λ (u : Strings). erased (filled (doubled u ∷ []) whole)) (sym is) ∙ ap erased (sym d.2) ∙ e in
    ⊎_elim {C = Contains texts words} (λ is. (0, omega arith, doubles _ is)) (λ is. (1, omega arith, doubles _ is)) (a_gives d.1)

in_order : AllPairs (λ v w. IsBefore (joined v) (joined w)) texts
in_order zero (suc zero) d l m = refl
in_order zero zero d l m = absurd (omega (arith, l))
in_order zero (suc (suc j)) d l m = absurd (omega (arith, m))
in_order (suc i) j d l m = absurd (omega (arith, l, m))

are_texts : AreTexts of_twice dup_a texts
are_texts = record { all = λ words. (is_text words, is_listed words); in_order = in_order }

-- a closed tree that has a type is its own solution
solution : IsSolution twice dup_a dup_a
solution = record {
  instance = (Hole, simp filled-App);
  typed = (
    [],
    ([], record { moves = []; below = search rules; is = refl }, typing.empty),
    record { cat = 2; args = [] },
    typing.HasType.application (1, omega arith, refl) (outs-App _ _)
        (typing.more (typing.HasType.application (0, omega arith, refl) (outs-App _ _) typing.none) typing.none),
  );
  general = λ t i h. i;
  numbered = simp holes_of-App;
}

-- the line is read as a command with the tree
dup_is_spelled : Spells (codes "Dup A") dup_a
unfolding is_xid_start is_xid_continue xid_start_ranges xid_continue_ranges in_ranges lib.Utf8.encode
dup_is_spelled = (
  lexeme.Word (codes "Dup") ∷ lexeme.Word (codes "A") ∷ [],
  lexeme.token {t = lexeme.Word (codes "Dup")} {cs = codes " A"} refl refl (lexeme.space refl
      (lexeme.token {t = lexeme.Word (codes "A")} {cs = []} refl refl lexeme.done)),
  grammar.application (codes "Dup") (grammar.more (grammar.name (codes "A")) grammar.none),
  refl,
)

abbrev linearizes : Command
linearizes = command_of Linearize [] (Given (a_tree dup_a))

line : ReadsPipe (codes "l Dup A") (Ok (linearizes ∷ []))
line = commands.pipe (commands.more (commands.read refl (to_linearize dup_is_spelled))
    commands.none) commands.last

abbrev loaded : Loaded
loaded = record { abs = twice; languages = (codes "TwiceEng", of_file twice_eng) ∷ [] }

abbrev language_count : State → ℕ
language_count None = 0
language_count (Some g) = length g.languages

lacks_nothing : (r : Refusal) → ¬ LacksFirst (Some loaded) (linearizes ∷ []) r
lacks_nothing r (shell.here (shell.no_grammar e i m q)) = cc
lacks_nothing r (shell.here (shell.no_language e i k)) = absurd (omega (arith, ap language_count e, ap length i))
lacks_nothing r (shell.here (shell.no_such_language e i k l f)) = cc
lacks_nothing r (shell.here (shell.no_such_category e i l f)) = cc
lacks_nothing r (shell.later n d) = elim d [ ]

-- the answer: two lines
answered : (files : Files) → IsAnswer (record { state = Some loaded; files = files }) (codes "l Dup A")
    (replying (record { state = Some loaded; files = files }) (codes "a a" ∷ codes "b b" ∷ []))
unfolding chars lib.Utf8.encode
answered files = (
  shell.read (omega arith) (codes "l Dup A", (refl, refl)) (line, tt)
      (shell.more (shell.runs lacks_nothing refl refl
      (next _ (commands.more (linearized (texts ∷ []) refl refl (dup_a, solution) refl (are_texts, tt)) commands.none) done))
      refl shell.none),
  refl,
)
