-- An answer is determined.
use Rattle.std.proofs.Common.{◌≡◌, refl, sym, ap, ◌∙◌, subst, ℕ, List, [], ◌∷◌, ◌++◌, slice_get, Bool, true, false, arith, length, flat_map}
use Rattle.std.specs.Option.{option_map_or, unwrap_or}
use Rattle.std.specs.Fmt.{decimal}
use Rattle.gft_rules.specs.declared.rule.Rule.TheVariants.{NoSuchLanguage, NoSuchCategory}
use Rattle.std.specs.Cmp.{eq_by_cmp_equiv}
use Rattle.std.specs.Cmp.Lexicographic.{nat_list_cmp_total}
use Rattle.std.specs.Prelude.{map, Option, Some, None, Result, Ok, Err, bytes_eq, if◌then◌else◌, codes, filter, zip, ⊤}
use Rattle.std.specs.List.{AllZip, fold}
use Rattle.std.specs.Str.{chars}
use Rattle.gft_io.specs.Outside.{Files}
use Rattle.gft_pmcfg.specs.declared.concrete.Concrete.{Concrete}
use Rattle.gft_pmcfg.specs.declared.grammar.Grammar.{Grammar}
use Rattle.gft_rules.specs.declared.refusal.Refusal.{Refusal}
use Rattle.gft_model.specs.Commands.{Verb, GenerateTrees, ContextFree, Argument, Item, Given, a_tree, a_text, a_line, Command, EndsIn, portable_ending}
use Rattle.gft_model.specs.Refusals.{placeless}
use Rattle.std.specs.FinMap.{get, insert, get-insert}
use Rattle.gft_core.specs.declared.tree.Tree.{Tree}
use Rattle.gft_model.specs.AbstractInfo.{judgement_lines}
use Rattle.gft_model.specs.Analysis.{Analysis, numbers_of, AreAnalyses}
use Rattle.gft_model.specs.Approximation.{AreRuleLines}
use Rattle.gft_model.specs.BracketText.{AreBracketTexts}
use Rattle.gft_model.specs.Generated.{AreGenerated}
use Rattle.gft_model.specs.Listing.{Language, IsBefore}
use Rattle.gft_model.specs.Trees.{text_of}
use Rattle.gft_pmcfg.specs.declared.signature.Abstract.{Abstract}
use Rattle.gft_model.specs.PortableFile.{file_bytes}
use Rattle.gft_model.specs.Replies.{Makes, parsed, completed, too_long, analysed, bracketed, linearized, analysis_lines, Lists, all_trees, too_many_trees, all_rules, unsolved, passed, Parses, Completes, RunsAll, done, next, refused, AreTexts, languages_for}
use Rattle.gft_model.specs.Shell.{Held, Answer, Lacks, no_grammar, no_language, no_such_language, no_such_category, LacksFirst, here, later, IsFileOf, Does, PipeSteps, InOrder, Steps, IsAnswer, followed, whole, replying, refusing, ran, grammar_line}
use Rattle.gft_model.specs.Import.{BreaksImport}
use Rattle.gft_model.specs.Sessions.{Gives, IsImported, Joins, IsCompiled, StandsFor}
use Rattle.gft_model.specs.States.{Kept, Languages, Loaded, State, language_of, added, kept_grammar}
use Rattle.gft_model.proofs.CommandLaws.{in_turn_once, zip_once, line_once}
use Rattle.gft_model.proofs.ReplyLaws.{before_once, order_once, same_members, parses_once, completes_once, texts_once}
use Rattle.gft_model.proofs.CompiledLaws.{concrete_once}
use Rattle.gft_model.proofs.LoadingLaws.{one_list_of_files}
use Rattle.gft_model.proofs.RefusalOrder.{first-once}
use Rattle.gft_model.proofs.SourcesDetermined.{part_once}
use Rattle.gft_model.proofs.UnsolvedLaws.{reason_once}

-- ANSWERS WITHOUT FAILURES

abbrev pub HasNoFailure : List Answer → Type 0
HasNoFailure [] = ⊤
HasNoFailure (a ∷ us) = (a.failures ≡ 0) × HasNoFailure us

-- the failures of all are those of each
fold_failures : (b : Answer) (us : List Answer) → (fold followed b us).failures ≡ 0 → (b.failures ≡ 0) × HasNoFailure us
fold_failures b [] e = (e, tt)
fold_failures b (a ∷ us) e =
    let rest = fold_failures (followed b a) us e in (omega (arith, rest.0), (omega (arith, rest.0), rest.1))

pub no_failures : (held : Held) (us : List Answer) → (whole held us).failures ≡ 0 → HasNoFailure us
no_failures held us e = (fold_failures (replying held []) us e).1

-- what things answer in their order, where each answers once and none fails
pub order_of_answers : {A : Type 0} {R : Held → A → Answer → Type 0} → (once : (held : Held) (x : A) (a b : Answer) → R held x a
    → a.failures ≡ 0 → R held x b → b.failures ≡ 0 → a ≡ b) → {held : Held} {xs : List A} {us vs : List Answer}
    → InOrder R held xs us → HasNoFailure us → InOrder R held xs vs → HasNoFailure vs → us ≡ vs
order_of_answers once InOrder.none e InOrder.none f = refl
order_of_answers once (InOrder.last {a} d l) e (InOrder.last {a = b} g k) f = let h = once _ _ a b d e.0 g f.0 in ap
    (λ (z : Answer). z ∷ []) h
order_of_answers once (InOrder.last {a} d l) e (InOrder.more {a = b} g k gs) f =
    let h = once _ _ a b d e.0 g f.0 in let ends = sym l ∙ ap (λ (z : Answer). z.ends) h ∙ k in cc
order_of_answers once (InOrder.more {a} d l ds) e (InOrder.last {a = b} g k) f =
    let h = once _ _ a b d e.0 g f.0 in let ends = sym l ∙ ap (λ (z : Answer). z.ends) h ∙ k in cc
order_of_answers {R = R} once (InOrder.more {xs} {others} {a} d l ds) e (InOrder.more {others = rest} {a = b} g k gs) f =
    let h = once _ _ a b d e.0 g f.0 in
    let tails = order_of_answers once (subst (λ (z : Answer). InOrder R z.after xs others) h ds) e.1 gs f.1 in
    ap (λ (z : Answer). z ∷ others) h ∙ ap (λ (zs : List Answer). b ∷ zs) tails

-- WHAT A SESSION WRITES

-- what was just written is found
get_inserted : (files : Files) (name bytes : List ℕ) → get (insert files name bytes) name ≡ Some bytes
get_inserted files name bytes =
    get-insert nat_list_cmp_total files name bytes name
    ∙ ap (λ b. if b then Some bytes else get files name) ((eq_by_cmp_equiv nat_list_cmp_total).refl name)

-- the file of a state gives the grammar that stands for it
pub written_given : (state : State) (files : Files) (names : List (List ℕ)) (name bytes : List ℕ)
    → EndsIn portable_ending name → IsFileOf state bytes
    → (g : Grammar) × StandsFor (Some g) state × Gives (insert files name bytes) names name (kept_grammar g)
written_given state files names name bytes ends (g, stands, whole, is) =
    (g, stands, Gives.portable g ends (get_inserted files name bytes) (record { grammar = whole; bytes_are = is }))

-- WHAT A COMMAND MAKES OF AN ITEM

-- what is listed in order is listed once
analyses_once : (a : Abstract) (l : List ℕ × Kept) (word : List ℕ) (xs ys : List Analysis) → AreAnalyses a l word xs
    → AreAnalyses a l word ys → xs ≡ ys
analyses_once a l word xs ys x y = order_once (λ u v. IsBefore (numbers_of u) (numbers_of v))
    (λ u v. before_once (numbers_of u) (numbers_of v)) xs ys x.in_order y.in_order (same_members _ _ x.all y.all)

bracket_texts_once : (L : Language) (t : Tree) (vs ws : List (List ℕ)) → AreBracketTexts L t vs → AreBracketTexts L t ws → vs ≡ ws
bracket_texts_once L t vs ws x y = order_once IsBefore before_once vs ws x.in_order y.in_order (same_members _ _ x.all y.all)

generated_once : (a : Abstract) (cat depth : ℕ) (ts us : List Tree) → AreGenerated a cat depth ts → AreGenerated a cat depth us
    → ts ≡ us
generated_once a cat depth ts us x y = order_once (λ t s. IsBefore (text_of t) (text_of s))
    (λ t s. before_once (text_of t) (text_of s)) ts us x.in_order y.in_order (same_members _ _ x.all y.all)

rule_lines_once : (a : Abstract) (c : Concrete) (cat : ℕ) (vs ws : List (List ℕ)) → AreRuleLines a c cat vs
    → AreRuleLines a c cat ws → vs ≡ ws
rule_lines_once a c cat vs ws x y = order_once IsBefore before_once vs ws x.in_order y.in_order (same_members _ _ x.all y.all)

module _ (g : Loaded) where
  makes_once : {c : Command} {item : Item} {p q : Result (List Item) Refusal} → Makes g c item p → Makes g c item q → p ≡ q
  makes_once {c} (parsed {words} {cat = b} {l} {items} v t k f d) (parsed {cat} {l = m} {items = others} w u n h e) =
      let cats : b ≡ cat = cc in
      let ls : l ≡ m = cc in
      let depth = unwrap_or c.depth 12 in
      let P : ℕ → List ℕ × Kept → Type 0 = λ x y. Parses g.abs (language_of g.abs x y) x words depth items in
      ap Ok (parses_once g.abs (language_of g.abs cat m) cat words depth items others
      (subst (P cat) ls (subst (λ x. P x l) cats d)) e)
  makes_once (parsed v t k f d) (completed w u m h e) = cc
  makes_once (parsed v t k f d) (too_long u) = cc
  makes_once (parsed v t k f d) (analysed found w u h e) = cc
  makes_once (completed v t k f d) (parsed w u m h e) = cc
  makes_once (completed {words} {cat = b} {l} {items} v t k f d) (completed {cat} {l = m} {items = others} w u n h e) =
      let cats : b ≡ cat = cc in
      let ls : l ≡ m = cc in
      let P : ℕ → List ℕ × Kept → Type 0 = λ x y. Completes g.abs (language_of g.abs x y) x words items in
      ap Ok (completes_once g.abs (language_of g.abs cat m) cat words items others
      (subst (P cat) ls (subst (λ x. P x l) cats d)) e)
  makes_once (completed v t k f d) (too_long u) = cc
  makes_once (completed v t k f d) (analysed found w u h e) = cc
  makes_once (analysed found v t k d) (parsed w u m h e) = cc
  makes_once (analysed found v t k d) (completed w u m h e) = cc
  makes_once (analysed found v t k d) (too_long u) = cc
  makes_once (analysed {words} {l} found v t k d) (analysed {l = m} others w u h e) =
      let ls : l ≡ m = cc in
      ap (λ xs. Ok (flat_map (analysis_lines g.abs) (zip words xs)))
      (zip_once (λ w xs ys. analyses_once g.abs m w xs ys) words found others (subst (λ x. AllZip (AreAnalyses g.abs x) words found) ls d) e)
  makes_once (too_long u) (parsed v t k f d) = cc
  makes_once (too_long u) (completed v t k f d) = cc
  makes_once (too_long u) (analysed found v t k d) = cc
  makes_once (too_long u) (too_long v) = cc
  makes_once {c} (bracketed {t} {cat = b} texts v o s k d) (bracketed {cat} others w p r m e) =
      let cats : b ≡ cat = cc in
      let ls = languages_for g c in
      let given = subst (λ x. AllZip (λ l. AreBracketTexts (language_of g.abs x l) t) ls texts) cats d in
      ap (λ ts. Ok (flat_map (map a_line) ts))
      (zip_once (λ l v w. bracket_texts_once (language_of g.abs cat l) t v w) ls texts others given e)
  makes_once (bracketed texts v o s k d) (linearized others w p r m e) = cc
  makes_once (bracketed texts v o s k d) (unsolved u) = absurd (u.0 s)
  makes_once (linearized texts v o s k d) (bracketed others w p r m e) = cc
  makes_once (unsolved u) (bracketed texts v o s k d) = absurd (u.0 s)
  makes_once {c} (linearized {t} {cat = b} texts v o s k d) (linearized {cat} others w p r m e) =
      let cats : b ≡ cat = cc in
      let ls = languages_for g c in
      let given = subst (λ x. AllZip (λ l. AreTexts (language_of g.abs x l) t) ls texts) cats d in
      ap (λ ts. Ok (flat_map (map a_text) ts))
      (zip_once (λ l v w. texts_once g.abs (language_of g.abs cat l) t v w) ls texts others given e)
  makes_once (linearized texts v o s k d) (unsolved u) = absurd (u.0 s)
  makes_once (unsolved u) (linearized texts v o s k d) = absurd (u.0 s)
  makes_once (unsolved {t} u) (unsolved v) = ap Err (reason_once g.abs t u.1 v.1)
  makes_once passed passed = refl

  runs_once : {cs : List Command} {items : List Item} {p q : Result (List Item) Refusal} → RunsAll g cs items p
      → RunsAll g cs items q → p ≡ q
  runs_once done done = refl
  runs_once {p = p} (next {cs} made d ds) (next others e es) =
      let h = in_turn_once (λ x p q. makes_once) d e in
      let same : made ≡ others = cc in
      runs_once (subst (λ x. RunsAll g cs (flat_map (λ xs. xs) x) p) same ds) es
  runs_once (next made d ds) (refused e) = let h = in_turn_once (λ x p q. makes_once) d e in cc
  runs_once (refused d) (next others e es) = let h = in_turn_once (λ x p q. makes_once) d e in cc
  runs_once (refused d) (refused e) = let h = in_turn_once (λ x p q. makes_once) d e in cc

-- WHAT THE STATE LACKS

no_languages_for : (g : Loaded) (c : Command) → g.languages ≡ [] → languages_for g c ≡ []
no_languages_for g c e = by_option c.lang e where
  by_option : {ls : Languages} (o : Option (List ℕ)) → ls ≡ []
      → option_map_or (λ name. filter (λ (l : List ℕ × Kept). bytes_eq l.0 name) ls) o ls ≡ []
  by_option None e = e
  by_option (Some name) e = ap (filter (λ (l : List ℕ × Kept). bytes_eq l.0 name)) e

lacks_once : {state : State} {c : Command} {r s : Refusal} → Lacks state c r → Lacks state c s → r ≡ s
lacks_once (no_grammar e i m q) (no_grammar f j n r) = refl
lacks_once (no_grammar e i m q) (no_language f l k) = cc
lacks_once (no_grammar e i m q) (no_such_language f l c k h) = cc
lacks_once (no_grammar e i m q) (no_such_category f l k h) = cc
lacks_once (no_language f l k) (no_grammar e i m q) = cc
lacks_once (no_language f l k) (no_language e m h) = refl
lacks_once (no_language {g} f l k) (no_such_language {g = h} e n c o u) = let same : g ≡ h = cc in
    absurd (n (sym (ap (λ x. x.languages) same) ∙ l))
lacks_once {c = c} (no_language {g} f l k) (no_such_category {g = h} e n o u) = let same : g ≡ h = cc in
    absurd (n k (no_languages_for h c (sym (ap (λ x. x.languages) same) ∙ l)))
lacks_once (no_such_language f l c k h) (no_grammar e i m q) = cc
lacks_once (no_such_language {g = h} e n c o u) (no_language {g} f l k) =
    let same : g ≡ h = cc in absurd (n (sym (ap (λ x. x.languages) same) ∙ l))
lacks_once (no_such_language {name} f l c k h) (no_such_language {name = other} e n b o u) =
    let same : name ≡ other = cc in ap (λ x. placeless NoSuchLanguage (x ∷ [])) same
lacks_once {c = c} (no_such_language {g} f l b k h) (no_such_category {g = i} e n o u) =
    let same : g ≡ i = cc in absurd (n b (ap (λ x. languages_for x c) (sym same) ∙ h))
lacks_once (no_such_category f l k h) (no_grammar e i m q) = cc
lacks_once {c = c} (no_such_category {g = h} e n o u) (no_language {g} f l k) =
    let same : g ≡ h = cc in absurd (n k (no_languages_for h c (sym (ap (λ x. x.languages) same) ∙ l)))
lacks_once {c = c} (no_such_category {g = i} e n o u) (no_such_language {g} f l b k h) =
    let same : g ≡ i = cc in absurd (n b (ap (λ x. languages_for x c) (sym same) ∙ h))
lacks_once (no_such_category {name} f l k h) (no_such_category {name = other} e n o u) =
    let same : name ≡ other = cc in ap (λ x. placeless NoSuchCategory (x ∷ [])) same

lacks_first_once : {state : State} {cs : List Command} {r s : Refusal} → LacksFirst state cs r → LacksFirst state cs s → r ≡ s
lacks_first_once (here d) (here e) = lacks_once d e
lacks_first_once (here d) (later n e) = absurd (n _ d)
lacks_first_once (later n d) (here e) = absurd (n _ e)
lacks_first_once (later n d) (later m e) = lacks_first_once d e

-- IMPORTS AND COMPILED GRAMMARS

imported_once : {files : Files} {names : List (List ℕ)} {p q : Loaded} → IsImported files names p
    → IsImported files names q → p ≡ q
imported_once {files} {names} {p} {q} x y =
    let parts = zip_once (λ name p q x y. part_once x y) names x.parts y.parts x.given y.given in
    let found : Some p.abs ≡ Some q.abs
    = sym x.abs ∙ ap (λ ps. slice_get (map (λ (l : Loaded). l.abs) ps) 0) parts ∙ y.abs in
    let abs : p.abs ≡ q.abs = cc in
    let languages = x.languages ∙ ap (λ ps. added [] (flat_map (λ (l : Loaded). l.languages) ps)) parts ∙ sym y.languages in
    λ i. record { abs = abs i; languages = languages i }

joins_once : {state : State} {new p q : Loaded} → Joins state new p → Joins state new q → p ≡ q
joins_once Joins.first Joins.first = refl
joins_once (Joins.equal e) (Joins.equal f) = refl
joins_once (Joins.equal e) (Joins.other n) = absurd (n e)
joins_once (Joins.other n) (Joins.equal e) = absurd (n e)
joins_once (Joins.other n) (Joins.other m) = refl

compiled_once : (a : Abstract) (l : List ℕ × Kept) (c d : Concrete) → IsCompiled a l c → IsCompiled a l d → c ≡ d
compiled_once a l c d (IsCompiled.source x) (IsCompiled.source y) = concrete_once a _ _ c d x y
compiled_once a l c d (IsCompiled.file e) (IsCompiled.file f) = refl

file_once : {state : State} {b c : List ℕ} → IsFileOf state b → IsFileOf state c → b ≡ c
file_once (g, StandsFor.loaded {held} e x, m, b) (h, StandsFor.loaded f y, n, c) =
    let concretes = zip_once (compiled_once held.abs) held.languages g.concretes h.concretes x y in
    sym b ∙ ap (λ a. file_bytes a g.concretes) (e ∙ sym f) ∙ ap (file_bytes h.abs) concretes ∙ c

-- WHAT A PIPE DOES

-- no failed load or save is left out of the count
one_is_some : {n : ℕ} → n ≡ 1 → n ≡ 0 → ⊥
one_is_some e f = absurd (omega (arith, e, f))

does_once : {held : Held} {verb : Verb} {argument : Argument} {x y : Answer} → Does held verb argument x
    → Does held verb argument y → x.failures ≡ 0 → y.failures ≡ 0 → x ≡ y
does_once {held} (Does.imports {joined} d j) (Does.imports {joined = other} e k) m n =
    let same = joins_once (subst (λ n. Joins held.state n joined) (imported_once d e) j) k in
    ap (λ x. replying (record held { state = Some x }) (grammar_line x ∷ [])) same
does_once (Does.imports d j) (Does.import_refused {r} e l) m n = absurd (d.accepted e.moment r e.broken)
does_once (Does.import_refused {r} d l) (Does.imports e k) m n = absurd (e.accepted d.moment r d.broken)
does_once {held} (Does.import_refused {names} {loaded} {r} d l) (Does.import_refused {loaded = others} {r = s} e k) m n =
    ap (λ x. refusing held x loaded) (first-once (BreaksImport held.files names) r s d e)
    ∙ ap (refusing held s) (one_list_of_files held.files names loaded others l k)
does_once (Does.load_failed d) e m n = absurd (one_is_some refl m)
does_once d (Does.load_failed e) m n = absurd (one_is_some refl n)
does_once (Does.save_failed d l k) e m n = absurd (one_is_some refl m)
does_once d (Does.save_failed e l k) m n = absurd (one_is_some refl n)
does_once Does.empties Does.empties m n = refl
does_once Does.quits Does.quits m n = refl
does_once {held} (Does.informs {g} e) (Does.informs {g = h} f) m n =
    let same : g ≡ h = cc in ap (λ x. replying held (judgement_lines x.abs (λ n. true))) same
does_once {held} (Does.informs_of {g} {name} e i) (Does.informs_of {g = h} f j) m n =
    let same : g ≡ h = cc in ap (λ x. replying held (judgement_lines x.abs (bytes_eq name))) same
does_once (Does.informs_of {g} {name} e i) (Does.unknown_name {g = h} f j) m n =
    let same : g ≡ h = cc in absurd (i (ap (λ x. judgement_lines x.abs (bytes_eq name)) same ∙ j))
does_once (Does.unknown_name {g} {name} e i) (Does.informs_of {g = h} f j) m n =
    let same : g ≡ h = cc in absurd (j (ap (λ x. judgement_lines x.abs (bytes_eq name)) (sym same) ∙ i))
does_once (Does.unknown_name e i) (Does.unknown_name f j) m n = refl
does_once {held} (Does.writes {file} d l) (Does.writes e k) m n =
    ap (λ b. replying (record held { files = insert held.files file b })
    ((codes "wrote " ++ file ++ codes " " ++ decimal (length b) ++ codes " bytes") ∷ [])) (file_once d e)
does_once (Does.writes d l) (Does.portable_too_long e k) m n = absurd (omega (arith, l, k, ap length (file_once d e)))
does_once (Does.portable_too_long d l) (Does.writes e k) m n = absurd (omega (arith, l, k, ap length (file_once d e)))
does_once (Does.portable_too_long d l) (Does.portable_too_long e k) m n = refl

-- a command that does something by itself is given no item
no_item : {held : Held} {verb : Verb} {argument : Argument} {x : Answer} {item : Item} → Does held verb argument x
    → argument ≡ Given item → ⊥
no_item (Does.imports d j) e = cc
no_item (Does.import_refused d l) e = cc
no_item (Does.load_failed d) e = cc
no_item (Does.save_failed d l k) e = cc
no_item Does.empties e = cc
no_item Does.quits e = cc
no_item (Does.informs d) e = cc
no_item (Does.informs_of d n) e = cc
no_item (Does.unknown_name d n) e = cc
no_item (Does.writes d l) e = cc
no_item (Does.portable_too_long d l) e = cc

-- nor does it begin a pipe with trees or rules
abbrev begins_pipe : Verb → Bool
begins_pipe GenerateTrees = true
begins_pipe ContextFree = true
begins_pipe verb = false

does_alone : {held : Held} {verb : Verb} {argument : Argument} {x : Answer} → Does held verb argument x → begins_pipe verb ≡ false
does_alone (Does.imports d j) = refl
does_alone (Does.import_refused d l) = refl
does_alone (Does.load_failed d) = refl
does_alone (Does.save_failed d l k) = refl
does_alone Does.empties = refl
does_alone Does.quits = refl
does_alone (Does.informs d) = refl
does_alone (Does.informs_of d n) = refl
does_alone (Does.unknown_name d n) = refl
does_alone (Does.writes d l) = refl
does_alone (Does.portable_too_long d l) = refl

lists_first : {g : Loaded} {c : Command} {r : Result (List Item) Refusal} → Lists g c r → begins_pipe c.verb ≡ true
lists_first (all_trees v k t l) = ap begins_pipe v
lists_first (too_many_trees v k t l) = ap begins_pipe v
lists_first (all_rules v k t l m) = ap begins_pipe v

no_list : {held : Held} {g : Loaded} {c : Command} {argument : Argument} {x : Answer} {r : Result (List Item) Refusal} →
    Does held c.verb argument x → Lists g c r → ⊥
no_list d l = let h = sym (does_alone d) ∙ lists_first l in cc

-- what begins a pipe so is determined
lists_once : (g : Loaded) {c : Command} {p q : Result (List Item) Refusal} → Lists g c p → Lists g c q → p ≡ q
lists_once g {c} (all_trees {cat} {trees} v k t l) (all_trees {cat = b} {trees = others} w m u n) =
    let cats : cat ≡ b = cc in
    ap (λ ts. Ok (map a_tree ts))
    (generated_once g.abs b (unwrap_or c.depth 4) trees others (subst (λ x. AreGenerated g.abs x (unwrap_or c.depth 4) trees) cats t) u)
lists_once g {c} (all_trees {cat} {trees} v k t l) (too_many_trees {cat = b} {trees = others} w m u n) =
    let cats : cat ≡ b = cc in
    let same = generated_once g.abs b (unwrap_or c.depth 4) trees others (subst (λ x. AreGenerated g.abs x (unwrap_or c.depth 4) trees) cats t) u in
    absurd (omega (arith, l, n, ap length same))
lists_once g (all_trees v k t l) (all_rules w m u n o) = cc
lists_once g {c} (too_many_trees {cat} {trees} v k t l) (all_trees {cat = b} {trees = others} w m u n) =
    let cats : cat ≡ b = cc in
    let same = generated_once g.abs b (unwrap_or c.depth 4) trees others (subst (λ x. AreGenerated g.abs x (unwrap_or c.depth 4) trees) cats t) u in
    absurd (omega (arith, l, n, ap length same))
lists_once g (too_many_trees v k t l) (too_many_trees w m u n) = refl
lists_once g (too_many_trees v k t l) (all_rules w m u n o) = cc
lists_once g (all_rules v k t l m) (all_trees w n u o) = cc
lists_once g (all_rules v k t l m) (too_many_trees w n u o) = cc
lists_once g (all_rules {cat} {l} {con} {lines} v k t i r) (all_rules {cat = b} {l = m} {con = d} {lines = others} w n u j s) =
    let cats : cat ≡ b = cc in
    let ls : l ≡ m = cc in
    let cons = compiled_once g.abs m con d (subst (λ x. IsCompiled g.abs x con) ls i) j in
    ap (λ xs. Ok (map a_line xs))
    (rule_lines_once g.abs d b lines others (subst (λ x. AreRuleLines g.abs x b lines) cons (subst (λ x. AreRuleLines g.abs con x lines) cats r)) s)

-- ANSWERS

-- what a pipe answers where no load or save fails
pub pipe_once : {held : Held} {read : Result (List Command) Refusal} {x y : Answer} → PipeSteps held read x → x.failures ≡ 0
    → PipeSteps held read y → y.failures ≡ 0 → x ≡ y
pipe_once PipeSteps.refused e PipeSteps.refused f = refl
pipe_once {held} (PipeSteps.lacking d) e (PipeSteps.lacking g) f = ap (λ r. refusing held r []) (lacks_first_once d g)
pipe_once (PipeSteps.lacking d) e (PipeSteps.done none g) f = absurd (none _ d)
pipe_once (PipeSteps.lacking d) e (PipeSteps.runs none h i g) f = absurd (none _ d)
pipe_once (PipeSteps.done none d) e (PipeSteps.lacking g) f = absurd (none _ g)
pipe_once (PipeSteps.done none d) e (PipeSteps.done never g) f = does_once d g e f
pipe_once (PipeSteps.done none d) e (PipeSteps.runs never h i g) f = absurd (no_item d i)
pipe_once (PipeSteps.lacking d) e (PipeSteps.lists none h i l g) f = absurd (none _ d)
pipe_once (PipeSteps.lacking d) e (PipeSteps.lists_none none h i l) f = absurd (none _ d)
pipe_once (PipeSteps.done none d) e (PipeSteps.lists never h i l g) f = absurd (no_list d l)
pipe_once (PipeSteps.done none d) e (PipeSteps.lists_none never h i l) f = absurd (no_list d l)
pipe_once (PipeSteps.lists none h i l d) e (PipeSteps.lacking g) f = absurd (none _ g)
pipe_once (PipeSteps.lists none h i l d) e (PipeSteps.done never g) f = absurd (no_list g l)
pipe_once (PipeSteps.lists none h i l d) e (PipeSteps.runs never j k g) f = cc
pipe_once {held} (PipeSteps.lists {c} {cs} {g} {items} {result} none h i l d) e
    (PipeSteps.lists {g = k} {items = others} never j m n o) f =
    let states : g ≡ k = cc in
    let found = lists_once k (subst (λ x. Lists x c (Ok items)) states l) n in
    let same : items ≡ others = cc in
    let moved = subst (λ x. RunsAll k cs x result) same (subst (λ x. RunsAll x cs items result) states d) in
    ap (ran held) (runs_once k moved o)
pipe_once (PipeSteps.lists {c} {g} {items} none h i l d) e (PipeSteps.lists_none {g = k} never j m n) f =
    let states : g ≡ k = cc in
    let found = lists_once k (subst (λ x. Lists x c (Ok items)) states l) n in cc
pipe_once (PipeSteps.lists_none none h i l) e (PipeSteps.lacking g) f = absurd (none _ g)
pipe_once (PipeSteps.lists_none none h i l) e (PipeSteps.done never g) f = absurd (no_list g l)
pipe_once (PipeSteps.lists_none none h i l) e (PipeSteps.runs never j k g) f = cc
pipe_once (PipeSteps.lists_none {c} {g} {s} none h i l) e (PipeSteps.lists {g = k} never j m n o) f =
    let states : g ≡ k = cc in
    let found = lists_once k (subst (λ x. Lists x c (Err s)) states l) n in cc
pipe_once {held} (PipeSteps.lists_none {c} {g} {s} none h i l) e (PipeSteps.lists_none {g = k} {s = r} never j m n) f =
    let states : g ≡ k = cc in
    let found = lists_once k (subst (λ x. Lists x c (Err s)) states l) n in
    let same : s ≡ r = cc in ap (λ x. refusing held x []) same
pipe_once (PipeSteps.runs none h i d) e (PipeSteps.lists never j k l g) f = cc
pipe_once (PipeSteps.runs none h i d) e (PipeSteps.lists_none never j k l) f = cc
pipe_once (PipeSteps.runs none h i d) e (PipeSteps.lacking g) f = absurd (none _ g)
pipe_once (PipeSteps.runs none h i d) e (PipeSteps.done never g) f = absurd (no_item g i)
pipe_once {held} (PipeSteps.runs {c} {cs} {g} {item} {result} none h i d) e
    (PipeSteps.runs {g = k} {item = again} never j l m) f =
    let states : g ≡ k = cc in
    let items : item ≡ again = cc in
    let moved = subst (λ x. RunsAll k (c ∷ cs) (x ∷ []) result) items (subst (λ x. RunsAll x (c ∷ cs) (item ∷ []) result) states d) in
    ap (ran held) (runs_once k moved m)

-- a session has at most one answer to a line where no load or save fails
pub answer_once : (held : Held) (line : List ℕ) (x y : Answer) → IsAnswer held line x → IsAnswer held line y → x ≡ y
answer_once held line x y d e = steps_once d.0 d.1 e.0 e.1 where
  steps_once : {a b : Answer} → Steps held line a → a.failures ≡ 0 → Steps held line b → b.failures ≡ 0 → a ≡ b
  steps_once (Steps.too_long l) e (Steps.too_long m) f = refl
  steps_once (Steps.too_long l) e (Steps.not_utf8 m u) f = absurd (omega (arith, l, m))
  steps_once (Steps.too_long l) e (Steps.read m u d s) f = absurd (omega (arith, l, m))
  steps_once (Steps.not_utf8 l u) e (Steps.too_long m) f = absurd (omega (arith, l, m))
  steps_once (Steps.not_utf8 l u) e (Steps.not_utf8 m v) f = refl
  steps_once (Steps.not_utf8 l u) e (Steps.read m v d s) f = absurd (u v)
  steps_once (Steps.read l u d s) e (Steps.too_long m) f = absurd (omega (arith, l, m))
  steps_once (Steps.read l u d s) e (Steps.not_utf8 m v) f = absurd (v u)
  steps_once (Steps.read {reads} {answers} l u d s) e (Steps.read {reads = others} {answers = again} m v i t) f =
      let same = line_once (chars line) reads others d i in
      let answered = order_of_answers (λ h r a b x y z w. pipe_once x y z w)
      (subst (λ rs. InOrder PipeSteps held rs answers) same s)
      (no_failures held answers e) t (no_failures held again f) in
      ap (whole held) answered
