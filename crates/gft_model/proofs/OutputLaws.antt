-- The output of a run is determined.
use Rattle.std.proofs.Common.{◌≡◌, refl, sym, ap, ◌∙◌, subst, ℕ, List, [], ◌∷◌, ◌++◌, true, false, arith}
use Rattle.std.proofs.lemmas.Bool.{eqb-true}
use Rattle.std.specs.Prelude.{codes, length}
use Rattle.std.specs.Str.Parse.{digits_value}
use Rattle.gft_io.specs.Lines.{lines_of}
use Rattle.gft_io.specs.Outside.{Files}
use Rattle.gft_model.specs.Commands.{Verb, Import, WritePortable}
use Rattle.gft_model.specs.Output.{is_plain, AreWords, none, a_file, only_files, an_out, an_out_is, a_count, a_count_is, Mode, session, make, workload, Asks, for_session, to_make, for_workload, unbegun, FilesStep, good_names, bad_names, Output, workload_lines, usage_line}
use Rattle.gft_model.specs.Shell.{Held, Answer, replying, whole, InOrder, Steps}
use Rattle.gft_model.proofs.AnswerLaws.{HasNoFailure, no_failures, order_of_answers, answer_once, pipe_once}

-- what the words of a program say
record SameWords (outs counts files others numbers names : List (List ℕ)) : Type 0 where
  same_outs : outs ≡ others
  same_counts : counts ≡ numbers
  same_files : files ≡ names

-- a word that begins with two hyphens is no plain one
two_hyphens : (w rest : List ℕ) → w ≡ 45 ∷ 45 ∷ rest → is_plain w ≡ true → ⊥
two_hyphens w rest e p =
    let plain = ap is_plain (sym e) ∙ p in absurd (omega (arith, eqb-true (length (45 ∷ 45 ∷ rest)) 1 plain))

words_once : {ws outs counts files others numbers names : List (List ℕ)} → AreWords ws outs counts files
    → AreWords ws others numbers names → SameWords outs counts files others numbers names
words_once none none = record { same_outs = refl; same_counts = refl; same_files = refl }
words_once (a_file {w} p d) (a_file q e) =
    let h = words_once d e in
    record { same_outs = h.same_outs; same_counts = h.same_counts; same_files = ap (λ xs. w ∷ xs) h.same_files }
words_once (a_file p d) only_files = cc
words_once (a_file p d) (an_out q e) = cc
words_once (a_file p d) (an_out_is {v} e) = absurd (two_hyphens (codes "--make=" ++ v) _ refl p)
words_once (a_file p d) (a_count q e) = cc
words_once (a_file p d) (a_count_is {v} e) = absurd (two_hyphens (codes "--workload=" ++ v) _ refl p)
words_once only_files (a_file p d) = cc
words_once only_files only_files = record { same_outs = refl; same_counts = refl; same_files = refl }
words_once (an_out p d) (a_file q e) = cc
words_once (an_out {v} p d) (an_out q e) =
    let h = words_once d e in
    record { same_outs = ap (λ xs. v ∷ xs) h.same_outs; same_counts = h.same_counts; same_files = h.same_files }
words_once (an_out_is {v} d) (a_file q e) = absurd (two_hyphens (codes "--make=" ++ v) _ refl q)
words_once (an_out_is {v} d) (an_out_is e) =
    let h = words_once d e in
    record { same_outs = ap (λ xs. v ∷ xs) h.same_outs; same_counts = h.same_counts; same_files = h.same_files }
words_once (a_count p d) (a_file q e) = cc
words_once (a_count {v} p d) (a_count q e) =
    let h = words_once d e in
    record { same_outs = h.same_outs; same_counts = ap (λ xs. v ∷ xs) h.same_counts; same_files = h.same_files }
words_once (a_count_is {v} d) (a_file q e) = absurd (two_hyphens (codes "--workload=" ++ v) _ refl q)
words_once (a_count_is {v} d) (a_count_is e) =
    let h = words_once d e in
    record { same_outs = h.same_outs; same_counts = ap (λ xs. v ∷ xs) h.same_counts; same_files = h.same_files }

-- the mode
asks_once : {words : List (List ℕ)} {m n : Mode} → Asks words m → Asks words n → m ≡ n
asks_once (for_session d) (for_session e) = ap session (words_once d e).same_files
asks_once (for_session d) (to_make e) = let h = (words_once d e).same_outs in cc
asks_once (for_session d) (for_workload e c) = let h = (words_once d e).same_counts in cc
asks_once (to_make d) (for_session e) = let h = (words_once d e).same_outs in cc
asks_once (to_make d) (to_make e) = let h = (words_once d e).same_outs in let f = (words_once d e).same_files in cc
asks_once (to_make d) (for_workload e c) = let h = (words_once d e).same_outs in cc
asks_once (for_workload d b) (for_session e) = let h = (words_once d e).same_counts in cc
asks_once (for_workload d b) (to_make e) = let h = (words_once d e).same_outs in cc
asks_once (for_workload {count} d b) (for_workload {count = other} e c) =
    let h = (words_once d e).same_counts in
    let same : count ≡ other = cc in ap (λ ds. workload (digits_value 10 ds)) same

files_once : {held : Held} {verb : Verb} {names : List (List ℕ)} {x y : Answer} → FilesStep held verb names x
    → x.failures ≡ 0 → FilesStep held verb names y → y.failures ≡ 0 → x ≡ y
files_once (good_names a d) e (good_names b g) f = pipe_once d e g f
files_once (good_names a d) e (bad_names n) f = absurd (n a)
files_once (bad_names n) e (good_names a d) f = absurd (n a)
files_once (bad_names n) e (bad_names m) f = refl

lines_once : {held : Held} {lines : List (List ℕ)} {xs ys : List Answer} → InOrder Steps held lines xs
    → HasNoFailure xs → InOrder Steps held lines ys → HasNoFailure ys → xs ≡ ys
lines_once = order_of_answers (λ held line a b d e g f. answer_once held line a b (d, e) (g, f))

-- what a mode writes
data Writes (input : List ℕ) (files : Files) : Mode → List Answer → Type 0 where
  lines : {xs : List Answer} → InOrder Steps (unbegun files) (lines_of input) xs → Writes input files (session []) xs
  file_lines : {file : List ℕ} {names : List (List ℕ)} {a : Answer} {xs : List Answer}
      → FilesStep (unbegun files) Import (file ∷ names) a → InOrder Steps a.after (lines_of input) xs
      → Writes input files (session (file ∷ names)) (a ∷ xs)
  made : {out : List ℕ} {names : List (List ℕ)} {a b : Answer} → FilesStep (unbegun files) Import names a
      → a.refused ≡ false → FilesStep a.after WritePortable (out ∷ []) b → Writes input files (make out names) (a ∷ b ∷ [])
  not_made : {out : List ℕ} {names : List (List ℕ)} {a : Answer} → FilesStep (unbegun files) Import names a
      → a.refused ≡ true → Writes input files (make out names) (a ∷ [])
  counted : {n : ℕ} → Writes input files (workload n) (replying (unbegun files) (workload_lines n) ∷ [])

writes_once : {input : List ℕ} {files : Files} {mode : Mode} {xs ys : List Answer} → Writes input files mode xs
    → HasNoFailure xs → Writes input files mode ys → HasNoFailure ys → xs ≡ ys
writes_once (lines d) e (lines g) f = lines_once d e g f
writes_once {input} (file_lines {a} {xs} d ds) e (file_lines {a = b} g gs) f =
    let h = files_once d e.0 g f.0 in
    let moved = subst (λ (x : Answer). InOrder Steps x.after (lines_of input) xs) h ds in
    ap (λ (x : Answer). x ∷ xs) h ∙ ap (λ (zs : List Answer). b ∷ zs) (lines_once moved e.1 gs f.1)
writes_once (made {out} {b} d r ds) e (made {a = a} g k gs) f =
    let h = files_once d e.0 g f.0 in
    let moved = subst (λ (x : Answer). FilesStep x.after WritePortable (out ∷ []) b) h ds in
    ap (λ (x : Answer). x ∷ b ∷ []) h ∙ ap (λ (x : Answer). a ∷ x ∷ []) (files_once moved e.1.0 gs f.1.0)
writes_once (made d r ds) e (not_made g k) f =
    let h = files_once d e.0 g f.0 in let flags = sym r ∙ ap (λ (x : Answer). x.refused) h ∙ k in cc
writes_once (not_made d r) e (made g k gs) f =
    let h = files_once d e.0 g f.0 in let flags = sym r ∙ ap (λ (x : Answer). x.refused) h ∙ k in cc
writes_once (not_made d r) e (not_made g k) f = ap (λ (x : Answer). x ∷ []) (files_once d e.0 g f.0)
writes_once counted e counted f = refl

-- an output is what its mode writes, or that of a wrong call
data OfMode (words : List (List ℕ)) (input : List ℕ) (files : Files) (xs : List Answer) : Type 0 where
  asked : {mode : Mode} → Asks words mode → Writes input files mode xs → OfMode words input files xs
  unasked : ((mode : Mode) → ¬ Asks words mode) → xs ≡ replying (unbegun files) (usage_line ∷ []) ∷ []
      → OfMode words input files xs

of_mode : {words : List (List ℕ)} {input : List ℕ} {files : Files} {xs : List Answer} → Output words input files xs
    → OfMode words input files xs
of_mode (Output.lines a d) = asked a (lines d)
of_mode (Output.file_lines a d ds) = asked a (file_lines d ds)
of_mode (Output.made a d r ds) = asked a (made d r ds)
of_mode (Output.not_made a d r) = asked a (not_made d r)
of_mode (Output.counted a) = asked a counted
of_mode (Output.wrong_call n) = unasked n refl

of_mode_once : {words : List (List ℕ)} {input : List ℕ} {files : Files} {xs ys : List Answer} → OfMode words input files xs
    → HasNoFailure xs → OfMode words input files ys → HasNoFailure ys → xs ≡ ys
of_mode_once {input = input} {files} {xs} (asked a d) e (asked b g) f =
    writes_once (subst (λ m. Writes input files m xs) (asks_once a b) d) e g f
of_mode_once (asked a d) e (unasked n u) f = absurd (n _ a)
of_mode_once (unasked n u) e (asked a d) f = absurd (n _ a)
of_mode_once (unasked n u) e (unasked m x) f = u ∙ sym x

-- a run answers at most one output where no load or save fails
pub output_once : (words : List (List ℕ)) (input : List ℕ) (files : Files) (xs ys : List Answer)
    → Output words input files xs → (whole (unbegun files) xs).failures ≡ 0 → Output words input files ys
    → (whole (unbegun files) ys).failures ≡ 0 → xs ≡ ys
output_once words input files xs ys x e y f =
    of_mode_once (of_mode x) (no_failures (unbegun files) xs e) (of_mode y) (no_failures (unbegun files) ys f)
