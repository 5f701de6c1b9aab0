-- A line is read in one way.
use Rattle.std.proofs.lemmas.List.Concat.{flat_map-cons}
use Rattle.std.proofs.Common.{append_assoc, ◌≡◌, ◌≢◌, refl, sym, ap, ◌∙◌, subst, ℕ, List, [], ◌∷◌, ◌++◌, true, false, arith, ⊎_elim, Bool}
use Rattle.std.specs.Prelude.{Some, None, Ok, Err, Result, Option, ◌==◌, ◌||◌, if◌then◌else◌, flat_map, drop}
use Rattle.std.specs.List.{AllZip}
use Rattle.std.specs.Fmt.{decimal}
use Rattle.std.specs.Option.{option_map}
use Rattle.gft_rules.specs.declared.refusal.Refusal.{Refusal}
use Rattle.gft_tree.specs.declared.error.TreeErr.{TreeErr}
use Rattle.gft_tree.specs.declared.error.TreeErr.TheVariants as fault
use Rattle.gft_tree.specs.Faults.{IsRefused, IsSyntax, Precedes, place_of, bytes}
use Rattle.gft_tree.specs.Reading.{read_on, start}
use Rattle.gft_core.specs.Names.{spells_name}
use Rattle.gft_tree.specs.Lexemes.{escaped}
use Rattle.gft_tree.specs.Spelling.{Spells}
use Rattle.gft_tree.specs.Trees.{quoted}
use Rattle.gft_tree.proofs.AnswerLemmas.{spells_reads}
use Rattle.gft_core.specs.declared.tree.Tree.{Tree}
use Rattle.gft_model.specs.Commands.{Verb, Argument, Nothing, FileNames, Given, a_tree, a_text, words_in, AreFileNames, of_import, of_write_portable, tree_rule, Command, IsArgument, files, of_empty, of_quit, to_parse, to_complete, to_linearize, by_name, all, bare, HasBadArgument, of_tree, other, called, ReadsCommand, not_called, argument_refused, read, InTurn, none, more, refused, refused_later, AreJoined, ReadsCommands, ReadsPipe, pipe, bad_pipe, pipe_refused, ReadsLine, argument_of, options_of, pipes_of, command_of, of_generate_trees, of_context_free, to_analyse}
use Rattle.gft_model.specs.Refusals.{placeless}

-- what each gives in turn is determined where each by itself is
pub in_turn_once : {A B : Type 0} {R : A → Result B Refusal → Type 0}
    → (once : (x : A) (p q : Result B Refusal) → R x p → R x q → p ≡ q)
    → {xs : List A} {p q : Result (List B) Refusal} → InTurn R xs p → InTurn R xs q → p ≡ q
in_turn_once once none none = refl
in_turn_once once (more d ds) (more e es) = let h = once _ _ _ d e in let t = in_turn_once once ds es in cc
in_turn_once once (more d ds) (refused e) = let h = once _ _ _ d e in cc
in_turn_once once (more d ds) (refused_later e es) = let t = in_turn_once once ds es in cc
in_turn_once once (refused d) (more e es) = let h = once _ _ _ d e in cc
in_turn_once once (refused d) (refused e) = let h = once _ _ _ d e in cc
in_turn_once once (refused d) (refused_later e es) = let h = once _ _ _ d e in cc
in_turn_once once (refused_later d ds) (more e es) = let t = in_turn_once once ds es in cc
in_turn_once once (refused_later d ds) (refused e) = let h = once _ _ _ d e in cc
in_turn_once once (refused_later d ds) (refused_later e es) = let t = in_turn_once once ds es in cc

-- place by place
pub zip_once : {A B : Type 0} {R : A → B → Type 0} → (once : (x : A) (y z : B) → R x y → R x z → y ≡ z)
    → (xs : List A) (ys zs : List B) → AllZip R xs ys → AllZip R xs zs → ys ≡ zs
zip_once once [] [] [] d e = refl
zip_once once [] [] (z ∷ zs) d e = absurd e
zip_once once [] (y ∷ ys) zs d e = absurd d
zip_once once (x ∷ xs) [] zs d e = absurd d
zip_once once (x ∷ xs) (y ∷ ys) [] d e = absurd e
zip_once once (x ∷ xs) (y ∷ ys) (z ∷ zs) d e = let h = once x y z d.0 e.0 in let t = zip_once once xs ys zs d.1 e.1 in cc

-- the first fault of a tree
syntax_once : (e f : TreeErr) → IsSyntax e → IsSyntax f → place_of e ≡ place_of f → e ≡ f
syntax_once (fault.Syntax a) (fault.Syntax b) x y h = ap fault.Syntax h
syntax_once (fault.Syntax a) (fault.TooDeep b) x y h = absurd y
syntax_once (fault.Syntax a) (fault.BadLiteral b) x y h = absurd y
syntax_once (fault.Syntax a) fault.NoMemory x y h = absurd y
syntax_once (fault.TooDeep a) f x y h = absurd x
syntax_once (fault.BadLiteral a) f x y h = absurd x
syntax_once fault.NoMemory f x y h = absurd x

precedes_once : (e f : TreeErr) → Precedes e f → Precedes f e → e ≡ f
precedes_once e f x y = ⊎_elim {C = e ≡ f}
    (λ l. ⊎_elim {C = e ≡ f} (λ m. absurd (omega (arith, l, m))) (λ m. absurd (omega (arith, l, m.0))) y)
    (λ l. ⊎_elim {C = e ≡ f} (λ m. absurd (omega (arith, l.0, m)))
    (λ m. ⊎_elim {C = e ≡ f} (λ s. ⊎_elim {C = e ≡ f} (λ t. syntax_once e f s t l.0) (λ t. sym t) m.1) (λ s. s) l.1) y) x

fault_once : {text : List ℕ} {e f : TreeErr} → IsRefused text e → IsRefused text f → e ≡ f
fault_once {e = e} {f = f} x y = precedes_once e f (x.first f y.fault) (y.first e x.fault)

tree_once : {text : List ℕ} {t u : Tree} → Spells text t → Spells text u → t ≡ u
tree_once {text = text} {t = t} {u = u} s r = let a = spells_reads text t s in let b = spells_reads text u r in cc

-- what stands between quotes, read back
abbrev mutual
  pub inner : List ℕ → Option (List ℕ)
  inner [] = None
  inner (c ∷ cs) =
      if c == 34 then Some [] else if c == 92 then kept cs else option_map (λ w. c ∷ w) (inner cs)

  pub kept : List ℕ → Option (List ℕ)
  kept [] = None
  kept (c ∷ cs) = option_map (λ w. c ∷ w) (inner cs)

inner_step : (c : ℕ) (rest : List ℕ) → inner (escaped c ++ rest) ≡ option_map (λ w. c ∷ w) (inner rest)
inner_step c rest = split (c == 34) (c == 92) refl refl where
  split : (a b : Bool) → (c == 34) ≡ a → (c == 92) ≡ b
      → inner ((if (a || b) then 92 ∷ c ∷ [] else c ∷ []) ++ rest) ≡ option_map (λ w. c ∷ w) (inner rest)
  split true b e f = refl
  split false true e f = refl
  split false false e f =
      ap (λ a. if a then Some [] else if c == 92 then kept rest else option_map (λ w. c ∷ w) (inner rest)) e
      ∙ ap (λ b. if b then kept rest else option_map (λ w. c ∷ w) (inner rest)) f

pub inner_of : (w : List ℕ) → inner (flat_map escaped w ++ 34 ∷ []) ≡ Some w
inner_of [] = refl
inner_of (c ∷ w) =
    ap (λ z. inner (z ++ 34 ∷ [])) (flat_map-cons escaped c w)
    ∙ ap inner (append_assoc (escaped c) (flat_map escaped w) (34 ∷ []))
    ∙ inner_step c (flat_map escaped w ++ 34 ∷ []) ∙ ap (option_map (λ v. c ∷ v)) (inner_of w)

quoted_once : (v w : List ℕ) → quoted v ≡ quoted w → v ≡ w
quoted_once v w e = let h = sym (inner_of v) ∙ ap (λ q. inner (drop 1 q)) e ∙ inner_of w in cc

-- the argument of a command
files_once : {later : Bool} {verb : Verb} {names : List (List ℕ)} {text : List ℕ} {b : Argument} → AreFileNames verb names
    → IsArgument later verb text b → text ≢ [] → b ≡ FileNames (words_in text)
files_once (of_import h) (files e) n = refl
files_once (of_write_portable h) (files e) n = refl
files_once h (bare l) n = absurd (n refl)
files_once h of_empty n = elim h [ ]
files_once h of_quit n = elim h [ ]
files_once h of_generate_trees n = elim h [ ]
files_once h of_context_free n = elim h [ ]
files_once h (to_analyse w e) n = elim h [ ]
files_once h (to_parse w e) n = elim h [ ]
files_once h (to_complete w e) n = elim h [ ]
files_once h (to_linearize s) n = elim h [ ]
files_once h (by_name e) n = elim h [ ]
files_once h all n = elim h [ ]

-- an argument of no characters is nothing
some_names : {verb : Verb} {names : List (List ℕ)} → AreFileNames verb names → names ≢ []
some_names (of_import h) e = cc
some_names (of_write_portable h) e = cc

nothing_written : {later : Bool} {verb : Verb} {text : List ℕ} {a : Argument} → text ≡ [] → IsArgument later verb text a
    → a ≡ Nothing
nothing_written e (files d) = absurd (some_names d (ap words_in e))
nothing_written e of_empty = refl
nothing_written e of_quit = refl
nothing_written e of_generate_trees = refl
nothing_written e of_context_free = refl
nothing_written e (to_analyse w f) = cc
nothing_written e (to_parse w f) = cc
nothing_written e (to_complete w f) = cc
nothing_written {text = text} e (to_linearize s) =
    let h = ap (λ x. read_on (bytes x) start x) (sym e) ∙ spells_reads text _ s in cc
nothing_written e (by_name n) = let h = ap spells_name (sym e) ∙ n in cc
nothing_written e all = refl
nothing_written e (bare l) = refl

no_words : {text : List ℕ} {verb : Verb} → AreFileNames verb (words_in text) → text ≢ []
no_words d e = some_names d (ap words_in e)

argument_once : {later : Bool} {verb : Verb} {text : List ℕ} {a b : Argument} → IsArgument later verb text a
    → IsArgument later verb text b → a ≡ b
argument_once (files d) e = sym (files_once d e (no_words d))
argument_once d (files e) = files_once e d (no_words e)
argument_once of_empty e = sym (nothing_written refl e)
argument_once of_quit e = sym (nothing_written refl e)
argument_once of_generate_trees e = sym (nothing_written refl e)
argument_once of_context_free e = sym (nothing_written refl e)
argument_once all e = sym (nothing_written refl e)
argument_once (bare l) e = sym (nothing_written refl e)
argument_once d all = nothing_written refl d
argument_once d (bare l) = nothing_written refl d
argument_once (to_parse v e) (to_parse w f) = ap (λ u. Given (a_text (words_in u))) (quoted_once v w (sym e ∙ f))
argument_once (to_analyse v e) (to_analyse w f) = ap (λ u. Given (a_text (words_in u))) (quoted_once v w (sym e ∙ f))
argument_once (to_complete v e) (to_complete w f) = ap (λ u. Given (a_text (words_in u))) (quoted_once v w (sym e ∙ f))
argument_once (to_linearize s) (to_linearize t) = ap (λ u. Given (a_tree u)) (tree_once s t)
argument_once (by_name n) (by_name m) = refl

bad_once : {later : Bool} {verb : Verb} {text : List ℕ} {r s : Refusal} → HasBadArgument later verb text r
    → HasBadArgument later verb text s → r ≡ s
bad_once (of_tree l d) (of_tree m e) = ap (λ f. placeless (tree_rule f) (decimal (place_of f) ∷ [])) (fault_once d e)
bad_once (of_tree l d) (other n never) = absurd (n refl)
bad_once (other n never) (of_tree l e) = absurd (n refl)
bad_once (other n never) (other m nothing) = refl

not_both : {later : Bool} {verb : Verb} {text : List ℕ} {a : Argument} {r : Refusal} → IsArgument later verb text a
    → ¬ HasBadArgument later verb text r
not_both d (other n never) = never _ d
not_both (to_linearize s) (of_tree l e) = e.unread _ s
not_both (files d) (of_tree l e) = elim d [ ]
not_both (bare m) (of_tree l e) = l m refl

-- a command is called by one verb
verb_once : (text : List ℕ) {v w : Verb} → called text ≡ Ok v → called text ≡ Ok w → v ≡ w
verb_once text d e = cc

command_once : {later : Bool} {text : List ℕ} {p q : Result Command Refusal} → ReadsCommand later text p
    → ReadsCommand later text q → p ≡ q
command_once (not_called {r} d) (not_called {r = s} e) = let same : r ≡ s = cc in ap Err same
command_once (not_called d) (argument_refused e b) = cc
command_once (not_called d) (read e b) = cc
command_once (argument_refused d b) (not_called e) = cc
command_once {later} {text} (argument_refused {r} d b) (argument_refused {verb = w} e c) =
    ap Err (bad_once (subst (λ v. HasBadArgument later v (argument_of text) r) (verb_once text d e) b) c)
command_once {later} {text} (argument_refused {r} d b) (read e c) =
    absurd (not_both c (subst (λ v. HasBadArgument later v (argument_of text) r) (verb_once text d e) b))
command_once (read d b) (not_called e) = cc
command_once {later} {text} (read {argument} d b) (argument_refused e c) =
    absurd (not_both (subst (λ v. IsArgument later v (argument_of text) argument) (verb_once text d e) b) c)
command_once {later} {text} (read {verb} {argument} d b) (read {verb = w} {argument = second} e c) =
    let verbs = verb_once text d e in
    let arguments = argument_once (subst (λ v. IsArgument later v (argument_of text) argument) verbs b) c in
    ap (λ v. Ok (command_of v (options_of text) argument)) verbs
    ∙ ap (λ a. Ok (command_of w (options_of text) a)) arguments

-- a pipe
joined_once : {c d : Command} {cs ds : List Command} {p q : Result (List Command) Refusal} → p ≡ Ok (c ∷ cs) → q ≡ Ok (d ∷ ds)
    → p ≡ q → AreJoined c cs → AreJoined d ds
joined_once {c} {d} {cs} {ds} e f g j =
    let heads : c ≡ d = cc in let tails : cs ≡ ds = cc in subst (AreJoined d) tails (subst (λ x. AreJoined x cs) heads j)

commands_once : (text : List ℕ) {p q : Result (List Command) Refusal} → ReadsCommands text p → ReadsCommands text q → p ≡ q
commands_once text = in_turn_once (λ x p q d e. command_once d e)

pipe_once : (text : List ℕ) (p q : Result (List Command) Refusal) → ReadsPipe text p → ReadsPipe text q → p ≡ q
pipe_once text p q (pipe d j) (pipe e k) = let h = commands_once text d e in cc
pipe_once text p q (pipe d j) (bad_pipe e n) = absurd (n (joined_once refl refl (commands_once text d e) j))
pipe_once text p q (pipe d j) (pipe_refused e) = let h = commands_once text d e in cc
pipe_once text p q (bad_pipe d n) (pipe e k) = absurd (n (joined_once refl refl (commands_once text e d) k))
pipe_once text p q (bad_pipe d n) (bad_pipe e m) = refl
pipe_once text p q (bad_pipe d n) (pipe_refused e) = let h = commands_once text d e in cc
pipe_once text p q (pipe_refused d) (pipe e k) = let h = commands_once text d e in cc
pipe_once text p q (pipe_refused d) (bad_pipe e m) = let h = commands_once text d e in cc
pipe_once text p q (pipe_refused d) (pipe_refused e) = let h = commands_once text d e in cc

-- a line
pub line_once : (line : List ℕ) (reads others : List (Result (List Command) Refusal)) → ReadsLine line reads → ReadsLine line others → reads ≡ others
line_once line reads others = zip_once pipe_once (pipes_of line) reads others
