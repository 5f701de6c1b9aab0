-- Every line is read in some way.
use Rattle.std.proofs.Common.{◌≡◌, ◌≢◌, refl, sym, ap, ◌∙◌, ℕ, zero, suc, List, [], ◌∷◌, ◌++◌, true, false, Bool, arith, ⊎_elim, inl, inr, ◌⊎◌, drop}
use Rattle.std.specs.Prelude.{Option, Some, None, Result, Ok, Err, All, ◌==◌, if◌then◌else◌}
use Rattle.std.specs.List.{AllZip}
use Rattle.std.proofs.Math.Dec.{eqb}
use Rattle.std.proofs.lemmas.Bool.Decides.{eqb_tells}
use Rattle.gft_core.specs.Names.{spells_name}
use Rattle.gft_core.specs.declared.tree.Tree.{Tree}
use Rattle.gft_io.specs.Lines.{with_first}
use Rattle.gft_rules.specs.declared.refusal.Refusal.{Refusal}
use Rattle.gft_tree.specs.Faults.{bytes}
use Rattle.gft_tree.specs.Reading.{read_on, start}
use Rattle.gft_tree.specs.Trees.{quoted}
use Rattle.gft_tree.specs.declared.error.TreeErr.{TreeErr}
use Rattle.gft_tree.proofs.AnswerLemmas.{is_read, is_refused}
use Rattle.gft_model.specs.Commands.{Verb, Import, Empty, Quit, Parse, Linearize, Complete, AbstractInfo, WritePortable, Argument, Nothing, FileNames, Given, Name, Command, words_in, EndsIn, source_ending, portable_ending, AreFileNames, of_import, of_write_portable, IsArgument, files, of_empty, of_quit, to_parse, to_complete, to_linearize, by_name, all, bare, HasBadArgument, of_tree, other, called, ReadsCommand, not_called, argument_refused, read, InTurn, none, more, refused, refused_later, TakesUp, AreJoined, last, next, in_pipe, outside, place_behind, parts, ReadsCommands, ReadsPipe, pipe, bad_pipe, pipe_refused, pipes_of, ReadsLine, argument_of, GenerateTrees, MorphoAnalyse, ContextFree, of_generate_trees, of_context_free, to_analyse}
use Rattle.gft_model.specs.Commands as commands
use Rattle.gft_model.proofs.CommandLaws.{inner, inner_of}

-- equal lists or not
pub same_or_not : (a b : List ℕ) → (a ≡ b) ⊎ (a ≢ b)
same_or_not [] [] = inl refl
same_or_not [] (y ∷ b) = inr (λ e. cc)
same_or_not (x ∷ a) [] = inr (λ e. cc)
same_or_not (x ∷ a) (y ∷ b) = ⊎_elim {C = (x ∷ a ≡ y ∷ b) ⊎ (x ∷ a ≢ y ∷ b)}
    (λ (h : (eqb x y ≡ true) × (x ≡ y)). let heads = h.1 in
    ⊎_elim {C = (x ∷ a ≡ y ∷ b) ⊎ (x ∷ a ≢ y ∷ b)} (λ t. inl cc) (λ n. inr (λ e. n cc)) (same_or_not a b))
    (λ (h : (eqb x y ≡ false) × (x ≢ y)). inr (λ e. h.1 cc)) (eqb_tells x y)

-- a name ends so or not
ends_or_not : (ending name : List ℕ) → ending ≢ [] → EndsIn ending name ⊎ (¬ EndsIn ending name)
ends_or_not ending [] some = inr (λ e. none_before e.0 (sym e.1)) where
  none_before : (base : List ℕ) → base ++ ending ≡ [] → ⊥
  none_before [] e = some e
  none_before (c ∷ base) e = cc
ends_or_not ending (c ∷ cs) some = ⊎_elim {C = EndsIn ending (c ∷ cs) ⊎ (¬ EndsIn ending (c ∷ cs))} (λ e. inl ([], e))
    (λ n. ⊎_elim {C = EndsIn ending (c ∷ cs) ⊎ (¬ EndsIn ending (c ∷ cs))} (λ e. inl (c ∷ e.0, ap (λ xs. c ∷ xs) e.1))
    (λ m. inr (λ e. neither n m e.0 e.1)) (ends_or_not ending cs some)) (same_or_not (c ∷ cs) ending) where
      neither : c ∷ cs ≢ ending → ¬ EndsIn ending cs → (base : List ℕ) → c ∷ cs ≡ base ++ ending → ⊥
      neither n m [] e = n e
      neither n m (d ∷ base) e = m (base, cc)

-- a text is quoted or not
quoted_or_not : (text : List ℕ) → ((w : List ℕ) × (text ≡ quoted w)) ⊎ ((w : List ℕ) → text ≢ quoted w)
quoted_or_not text = by_inner (inner (drop 1 text)) refl where
  by_inner : (o : Option (List ℕ)) → inner (drop 1 text) ≡ o
      → ((w : List ℕ) × (text ≡ quoted w)) ⊎ ((w : List ℕ) → text ≢ quoted w)
  by_inner None e = inr (λ w h. let found = sym e ∙ ap (λ t. inner (drop 1 t)) h ∙ inner_of w in cc)
  by_inner (Some v) e = ⊎_elim {C = ((w : List ℕ) × (text ≡ quoted w)) ⊎ ((w : List ℕ) → text ≢ quoted w)} (λ h. inl (v, h))
      (λ n. inr (λ w h. let found : v ≡ w = let f = sym e ∙ ap (λ t. inner (drop 1 t)) h ∙ inner_of w in cc in
      n (h ∙ ap quoted (sym found)))) (same_or_not text (quoted v))

-- what holds or does not
abbrev pub Decided : Type 0 → Type 0
Decided P = P ⊎ (P → ⊥)

abbrev IsFileName : List ℕ → Type 0
IsFileName name = EndsIn source_ending name ⊎ EndsIn portable_ending name

-- file names are of the form of a command or not
file_name_or_not : (name : List ℕ) → Decided (IsFileName name)
file_name_or_not name = ⊎_elim {C = Decided (IsFileName name)} (λ e. inl (inl e))
    (λ n. ⊎_elim {C = Decided (IsFileName name)} (λ e. inl (inr e)) (λ m. inr (λ h. ⊎_elim {C = ⊥} n m h))
    (ends_or_not portable_ending name (λ e. cc))) (ends_or_not source_ending name (λ e. cc))

all_or_not : (names : List (List ℕ)) → Decided (All IsFileName names)
all_or_not [] = inl (λ k d b. absurd (omega (arith, b)))
all_or_not (n ∷ ns) = ⊎_elim {C = Decided (All IsFileName (n ∷ ns))}
    (λ h. ⊎_elim {C = Decided (All IsFileName (n ∷ ns))} (λ t. inl (both h t))
    (λ m. inr (λ a. m (λ k d b. a (suc k) d (omega (arith, b))))) (all_or_not ns))
    (λ m. inr (λ a. m (a zero [] (omega arith)))) (file_name_or_not n) where
      both : IsFileName n → All IsFileName ns → All IsFileName (n ∷ ns)
      both h t zero d b = h
      both h t (suc k) d b = t k d (omega (arith, b))

import_names : (names : List (List ℕ)) → Decided (AreFileNames Import names)
import_names [] = inr (λ d. elim d [ ])
import_names (n ∷ ns) =
    ⊎_elim {C = Decided (AreFileNames Import (n ∷ ns))} (λ a. inl (of_import a)) (λ m. inr (λ d. m (all_of d)))
    (all_or_not (n ∷ ns)) where
      all_of : AreFileNames Import (n ∷ ns) → All IsFileName (n ∷ ns)
      all_of (of_import a) = a

write_names : (names : List (List ℕ)) → Decided (AreFileNames WritePortable names)
write_names [] = inr (λ d. elim d [ ])
write_names (n ∷ m ∷ ns) = inr (λ d. elim d [ ])
write_names (n ∷ []) = ⊎_elim {C = Decided (AreFileNames WritePortable (n ∷ []))} (λ e. inl (of_write_portable e))
    (λ none. inr (λ d. none (ending_of d))) (ends_or_not portable_ending n (λ e. cc)) where
      ending_of : AreFileNames WritePortable (n ∷ []) → EndsIn portable_ending n
      ending_of (of_write_portable e) = e

-- a text is an argument of a command, or it is refused as one
abbrev Told : Bool → Verb → List ℕ → Type 0
Told later verb text = ((a : Argument) × IsArgument later verb text a) ⊎ ((r : Refusal) × HasBadArgument later verb text r)

-- a text that must be written, as a first command of a pipe wants it
module _ (later : Bool) where
  abbrev IsWritten : List ℕ → Type 0
  IsWritten text = later ≡ true → text ≢ []

  import_told : (text : List ℕ) → IsWritten text → Told later Import text
  import_told text l = ⊎_elim {C = Told later Import text} (λ d. inl (FileNames (words_in text), files d))
      (λ n. inr (_, other (λ e. cc) (λ a d. n (names_of l d)))) (import_names (words_in text)) where
        names_of : {text : List ℕ} {a : Argument} → IsWritten text → IsArgument later Import text a → AreFileNames Import
            (words_in text)
        names_of l (files d) = d
        names_of l (bare m) = absurd (l m refl)

  write_told : (text : List ℕ) → IsWritten text → Told later WritePortable text
  write_told text l = ⊎_elim {C = Told later WritePortable text} (λ d. inl (FileNames (words_in text), files d))
      (λ n. inr (_, other (λ e. cc) (λ a d. n (names_of l d)))) (write_names (words_in text)) where
        names_of : {text : List ℕ} {a : Argument} → IsWritten text → IsArgument later WritePortable text a
            → AreFileNames WritePortable (words_in text)
        names_of l (files d) = d
        names_of l (bare m) = absurd (l m refl)

  empty_told : (text : List ℕ) → Told later Empty text
  empty_told [] = inl (Nothing, of_empty)
  empty_told (c ∷ cs) = inr (_, other (λ e. cc) (λ a d. never d)) where
    never : {a : Argument} → ¬ IsArgument later Empty (c ∷ cs) a
    never (files d) = elim d [ ]

  quit_told : (text : List ℕ) → Told later Quit text
  quit_told [] = inl (Nothing, of_quit)
  quit_told (c ∷ cs) = inr (_, other (λ e. cc) (λ a d. never d)) where
    never : {a : Argument} → ¬ IsArgument later Quit (c ∷ cs) a
    never (files d) = elim d [ ]

  generate_trees_told : (text : List ℕ) → Told later GenerateTrees text
  generate_trees_told [] = inl (Nothing, of_generate_trees)
  generate_trees_told (c ∷ cs) = inr (_, other (λ e. cc) (λ a d. never d)) where
    never : {a : Argument} → ¬ IsArgument later GenerateTrees (c ∷ cs) a
    never (files d) = elim d [ ]

  context_free_told : (text : List ℕ) → Told later ContextFree text
  context_free_told [] = inl (Nothing, of_context_free)
  context_free_told (c ∷ cs) = inr (_, other (λ e. cc) (λ a d. never d)) where
    never : {a : Argument} → ¬ IsArgument later ContextFree (c ∷ cs) a
    never (files d) = elim d [ ]

  analyse_told : (text : List ℕ) → IsWritten text → Told later MorphoAnalyse text
  analyse_told text l = ⊎_elim {C = Told later MorphoAnalyse text} (λ q. inl (_, to_analyse q.0 q.1))
      (λ n. inr (_, other (λ e. cc) (λ a d. never l n d))) (quoted_or_not text) where
        never : {text : List ℕ} → IsWritten text → ((w : List ℕ) → text ≢ quoted w) → {a : Argument}
            → ¬ IsArgument later MorphoAnalyse text a
        never l n (files d) = elim d [ ]
        never l n (to_analyse w e) = n w e
        never l n (bare m) = l m refl

  parse_told : (text : List ℕ) → IsWritten text → Told later Parse text
  parse_told text l = ⊎_elim {C = Told later Parse text} (λ q. inl (_, to_parse q.0 q.1))
      (λ n. inr (_, other (λ e. cc) (λ a d. never l n d))) (quoted_or_not text) where
        never : {text : List ℕ} → IsWritten text → ((w : List ℕ) → text ≢ quoted w) → {a : Argument}
            → ¬ IsArgument later Parse text a
        never l n (files d) = elim d [ ]
        never l n (to_parse w e) = n w e
        never l n (bare m) = l m refl

  complete_told : (text : List ℕ) → IsWritten text → Told later Complete text
  complete_told text l = ⊎_elim {C = Told later Complete text} (λ q. inl (_, to_complete q.0 q.1))
      (λ n. inr (_, other (λ e. cc) (λ a d. never l n d))) (quoted_or_not text) where
        never : {text : List ℕ} → IsWritten text → ((w : List ℕ) → text ≢ quoted w) → {a : Argument}
            → ¬ IsArgument later Complete text a
        never l n (files d) = elim d [ ]
        never l n (to_complete w e) = n w e
        never l n (bare m) = l m refl

  linearize_told : (text : List ℕ) → IsWritten text → Told later Linearize text
  linearize_told text l = by_result (read_on (bytes text) start text) refl where
    by_result : (o : Result Tree TreeErr) → read_on (bytes text) start text ≡ o → Told later Linearize text
    by_result (Ok t) e = inl (_, to_linearize (is_read text t e).spelled)
    by_result (Err f) e = inr (_, of_tree l (is_refused text f e))

  info_told : (text : List ℕ) → Told later AbstractInfo text
  info_told [] = inl (Nothing, all)
  info_told (c ∷ cs) = by_test (spells_name (c ∷ cs)) refl where
    never : spells_name (c ∷ cs) ≡ false → {a : Argument} → ¬ IsArgument later AbstractInfo (c ∷ cs) a
    never e (files d) = elim d [ ]
    never e (by_name n) = let h = sym e ∙ n in cc

    by_test : (b : Bool) → spells_name (c ∷ cs) ≡ b → Told later AbstractInfo (c ∷ cs)
    by_test true e = inl (_, by_name e)
    by_test false e = inr (_, other (λ f. cc) (λ a d. never e d))

  written_told : (verb : Verb) (text : List ℕ) → IsWritten text → Told later verb text
  written_told Import text l = import_told text l
  written_told Empty text l = empty_told text
  written_told Quit text l = quit_told text
  written_told Parse text l = parse_told text l
  written_told Linearize text l = linearize_told text l
  written_told Complete text l = complete_told text l
  written_told AbstractInfo text l = info_told text
  written_told WritePortable text l = write_told text l
  written_told GenerateTrees text l = generate_trees_told text
  written_told MorphoAnalyse text l = analyse_told text l
  written_told ContextFree text l = context_free_told text

told : (later : Bool) (verb : Verb) (text : List ℕ) → Told later verb text
told true verb [] = inl (Nothing, bare refl)
told true verb (c ∷ cs) = written_told true verb (c ∷ cs) (λ l e. cc)
told false verb text = written_told false verb text (λ l. cc)

-- EVERY COMMAND, PIPE AND LINE IS READ

command_read : (later : Bool) (text : List ℕ) → (p : Result Command Refusal) × ReadsCommand later text p
command_read later text = by_call (called text) refl where
  by_call : (o : Result Verb Refusal) → called text ≡ o → (p : Result Command Refusal) × ReadsCommand later text p
  by_call (Err r) e = (_, not_called e)
  by_call (Ok verb) e = ⊎_elim {C = (p : Result Command Refusal) × ReadsCommand later text p} (λ a. (_, read e a.1))
      (λ r. (_, argument_refused e r.1)) (told later verb (argument_of text))

in_turn : {A B : Type 0} {R : A → Result B Refusal → Type 0} → ((x : A) → (p : Result B Refusal) × R x p) → (xs : List A)
    → (p : Result (List B) Refusal) × InTurn R xs p
in_turn every [] = (_, none)
in_turn {A} {B} {R} every (x ∷ xs) =
    let others = in_turn every xs in by_first (every x).0 (every x).1 others.0 others.1 where
      by_others : (y : B) → R x (Ok y) → (p : Result (List B) Refusal) → InTurn R xs p
          → (p : Result (List B) Refusal) × InTurn R (x ∷ xs) p
      by_others y d (Ok ys) ds = (_, more d ds)
      by_others y d (Err r) ds = (_, refused_later d ds)

      by_first : (p : Result B Refusal) → R x p → (q : Result (List B) Refusal) → InTurn R xs q
          → (o : Result (List B) Refusal) × InTurn R (x ∷ xs) o
      by_first (Ok y) d q ds = by_others y d q ds
      by_first (Err r) d q ds = (_, refused d)

-- a text has parts
some_first : (c : ℕ) (xs : List (List ℕ)) → with_first c xs ≢ []
some_first c [] e = cc
some_first c (x ∷ xs) e = cc

some_parts : (separator : ℕ) (cs : List ℕ) → parts separator outside cs ≢ []
some_parts separator [] e = cc
some_parts separator (c ∷ cs) e = by_test (c == separator) e where
  by_test : (b : Bool) → (if b then [] ∷ parts separator outside cs
      else with_first c (parts separator (place_behind outside c) cs)) ≡ [] → ⊥
  by_test true e = cc
  by_test false e = some_first c _ e

-- so a pipe has a command
some_commands : (texts : List (List ℕ)) → texts ≢ [] → ¬ InTurn (λ c. ReadsCommand c.0 c.1) (in_pipe texts) (Ok [])
some_commands [] some d = some refl
some_commands (text ∷ texts) some d = elim d [ ]

-- a command takes up what another hands on or not
takes_up_or_not : (v w : Verb) → Decided (TakesUp v w)
takes_up_or_not Import w = inr (λ d. elim d [ ])
takes_up_or_not Empty w = inr (λ d. elim d [ ])
takes_up_or_not Quit w = inr (λ d. elim d [ ])
takes_up_or_not Parse Import = inr (λ d. elim d [ ])
takes_up_or_not Parse Empty = inr (λ d. elim d [ ])
takes_up_or_not Parse Quit = inr (λ d. elim d [ ])
takes_up_or_not Parse Parse = inr (λ d. elim d [ ])
takes_up_or_not Parse Linearize = inl commands.trees
takes_up_or_not Parse Complete = inr (λ d. elim d [ ])
takes_up_or_not Parse AbstractInfo = inr (λ d. elim d [ ])
takes_up_or_not Parse WritePortable = inr (λ d. elim d [ ])
takes_up_or_not Parse GenerateTrees = inr (λ d. elim d [ ])
takes_up_or_not Parse MorphoAnalyse = inr (λ d. elim d [ ])
takes_up_or_not Parse ContextFree = inr (λ d. elim d [ ])
takes_up_or_not Linearize Import = inr (λ d. elim d [ ])
takes_up_or_not Linearize Empty = inr (λ d. elim d [ ])
takes_up_or_not Linearize Quit = inr (λ d. elim d [ ])
takes_up_or_not Linearize Parse = inl commands.texts
takes_up_or_not Linearize Linearize = inr (λ d. elim d [ ])
takes_up_or_not Linearize Complete = inl commands.last_texts
takes_up_or_not Linearize AbstractInfo = inr (λ d. elim d [ ])
takes_up_or_not Linearize WritePortable = inr (λ d. elim d [ ])
takes_up_or_not Linearize GenerateTrees = inr (λ d. elim d [ ])
takes_up_or_not Linearize MorphoAnalyse = inr (λ d. elim d [ ])
takes_up_or_not Linearize ContextFree = inr (λ d. elim d [ ])
takes_up_or_not Complete w = inr (λ d. elim d [ ])
takes_up_or_not AbstractInfo w = inr (λ d. elim d [ ])
takes_up_or_not WritePortable w = inr (λ d. elim d [ ])
takes_up_or_not GenerateTrees Import = inr (λ d. elim d [ ])
takes_up_or_not GenerateTrees Empty = inr (λ d. elim d [ ])
takes_up_or_not GenerateTrees Quit = inr (λ d. elim d [ ])
takes_up_or_not GenerateTrees Parse = inr (λ d. elim d [ ])
takes_up_or_not GenerateTrees Linearize = inl commands.all_trees
takes_up_or_not GenerateTrees Complete = inr (λ d. elim d [ ])
takes_up_or_not GenerateTrees AbstractInfo = inr (λ d. elim d [ ])
takes_up_or_not GenerateTrees WritePortable = inr (λ d. elim d [ ])
takes_up_or_not GenerateTrees GenerateTrees = inr (λ d. elim d [ ])
takes_up_or_not GenerateTrees MorphoAnalyse = inr (λ d. elim d [ ])
takes_up_or_not GenerateTrees ContextFree = inr (λ d. elim d [ ])
takes_up_or_not MorphoAnalyse w = inr (λ d. elim d [ ])
takes_up_or_not ContextFree w = inr (λ d. elim d [ ])

-- brackets are written or not
no_bracket_or_not : (b : Bool) → Decided (b ≡ false)
no_bracket_or_not true = inr (λ e. cc)
no_bracket_or_not false = inl refl

bare_or_not : (a : Argument) → Decided (a ≡ Nothing)
bare_or_not Nothing = inl refl
bare_or_not (FileNames names) = inr (λ e. cc)
bare_or_not (Given item) = inr (λ e. cc)
bare_or_not (Name name) = inr (λ e. cc)

joined_or_not : (c : Command) (cs : List Command) → Decided (AreJoined c cs)
joined_or_not c [] = inl last
joined_or_not c (d ∷ cs) =
    by_parts (takes_up_or_not c.verb d.verb) (no_bracket_or_not c.bracket) (bare_or_not d.argument) (joined_or_not d cs) where
      takes : AreJoined c (d ∷ cs) → TakesUp c.verb d.verb
      takes (next t n b j) = t

      plain : AreJoined c (d ∷ cs) → c.bracket ≡ false
      plain (next t n b j) = n

      bare : AreJoined c (d ∷ cs) → d.argument ≡ Nothing
      bare (next t n b j) = b

      others : AreJoined c (d ∷ cs) → AreJoined d cs
      others (next t n b j) = j

      by_parts : Decided (TakesUp c.verb d.verb) → Decided (c.bracket ≡ false) → Decided (d.argument ≡ Nothing)
          → Decided (AreJoined d cs)
          → Decided (AreJoined c (d ∷ cs))
      by_parts (inl t) (inl p) (inl b) (inl j) = inl (next t p b j)
      by_parts (inr n) p b j = inr (λ h. n (takes h))
      by_parts (inl t) (inr n) b j = inr (λ h. n (plain h))
      by_parts (inl t) (inl p) (inr n) j = inr (λ h. n (bare h))
      by_parts (inl t) (inl p) (inl b) (inr n) = inr (λ h. n (others h))

pipe_read : (text : List ℕ) → (r : Result (List Command) Refusal) × ReadsPipe text r
pipe_read text = let all = in_turn (λ c. command_read c.0 c.1) (in_pipe (parts 124 outside text)) in by_result all.0 all.1 where
  by_result : (p : Result (List Command) Refusal) → ReadsCommands text p → (r : Result (List Command) Refusal) × ReadsPipe text r
  by_result (Err r) d = (_, pipe_refused d)
  by_result (Ok []) d = absurd (some_commands (parts 124 outside text) (some_parts 124 text) d)
  by_result (Ok (c ∷ cs)) d =
      ⊎_elim {C = (r : Result (List Command) Refusal) × ReadsPipe text r} (λ j. (_, pipe d j)) (λ n. (_, bad_pipe d n))
      (joined_or_not c cs)

pipes_read : (texts : List (List ℕ)) → (reads : List (Result (List Command) Refusal)) × AllZip ReadsPipe texts reads
pipes_read [] = ([], tt)
pipes_read (text ∷ texts) = let first = pipe_read text in let others = pipes_read texts in
    (first.0 ∷ others.0, (first.1, others.1))

-- every line is read
pub line_read : (line : List ℕ) → (reads : List (Result (List Command) Refusal)) × ReadsLine line reads
line_read line = pipes_read (pipes_of line)
