-- What the commands of a pipe answer, and what passes from one to the next.
use Rattle.std.specs.Prelude.{◌≡◌, ◌↔◌, ◌<◌, ◌≤◌, ℕ, suc, Bool, true, false, IsTrue, nat_lt, if◌then◌else◌, List, [], ◌∷◌, ◌++◌, length, map, filter, flat_map, zip, codes, bytes_eq, Contains, AllPairs, Option, Some, None, Result, Ok, Err, position, slice_get}
use Rattle.std.specs.Fmt.{decimal}
use Rattle.std.specs.List.{AllZip}
use Rattle.std.specs.Option.{option_map, option_map_or, unwrap_or}
use Rattle.gft_core.specs.Words.{joined}
use Rattle.gft_core.specs.declared.tree.Tree.{Tree}
use Rattle.gft_pmcfg.specs.declared.signature.Abstract.{Abstract}
use Rattle.gft_rules.specs.declared.refusal.Refusal.{Refusal}
use Rattle.gft_rules.specs.declared.rule.Rule.TheVariants.{TooManyWords, TokenTooLong, TooManyTrees}
use Rattle.gft_tree.specs.Trees.{quoted}
use Rattle.gft_model.specs.Analysis.{Analysis, AreAnalyses}
use Rattle.gft_model.specs.Approximation.{AreRuleLines}
use Rattle.gft_model.specs.BracketText.{AreBracketTexts}
use Rattle.gft_model.specs.Brackets as mark
use Rattle.gft_model.specs.Brackets.{Piece, erased}
use Rattle.gft_model.specs.Commands.{Command, Parse, Linearize, Complete, GenerateTrees, MorphoAnalyse, ContextFree, Item, a_tree, a_text, a_line, InTurn}
use Rattle.gft_model.specs.Generated.{AreGenerated}
use Rattle.gft_model.specs.Refusals.{placeless}
use Rattle.gft_model.specs.Listing.{Language, IsBefore, IsListing}
use Rattle.gft_model.specs.Sentences.{IsSentence, Begins, IsNext}
use Rattle.gft_model.specs.Sessions.{IsCompiled}
use Rattle.gft_model.specs.States.{Kept, Languages, Loaded, category_number, category_name, language_of}
use Rattle.gft_model.specs.Trees.{text_of}
use Rattle.gft_model.specs.Unsolved.{IsUnsolved, IsSolvable}

-- the line that is written for an item
abbrev pub line_of : Item → List ℕ
line_of (a_tree t) = text_of t
line_of (a_text words) = joined words
line_of (a_line line) = line

-- the category of a command's option, or else the start category
abbrev pub category_for : Loaded → Command → Option ℕ
category_for g c = option_map_or (category_number g.abs) c.cat (Some g.abs.start)

-- the language of a command's option, or else all
abbrev pub languages_for : Loaded → Command → Languages
languages_for g c = option_map_or (λ name. filter (λ (l : List ℕ × Kept). bytes_eq l.0 name) g.languages)
    c.lang g.languages

-- a text has at most 512 words, each of at most 1,024 bytes
abbrev pub text_refusal : List (List ℕ) → Option Refusal
text_refusal words =
    if nat_lt 512 (length words) then Some (placeless TooManyWords (decimal (length words) ∷ []))
    else option_map (λ i. placeless TokenTooLong (decimal (suc i) ∷ [])) (position (λ w. nat_lt 1024 (length w)) words)

-- the line of the first word with which words begin no sentence, behind those before it
abbrev pub failed_line : List (List ℕ) → List ℕ → List ℕ
failed_line before word = codes "failed at word " ++ decimal (suc (length before)) ++ codes ": " ++ quoted word

-- each word in quotes, then the classes of literals
abbrev pub next_items : List (List ℕ) → Bool → Bool → List Item
next_items tokens integer text =
    map (λ w. a_line (quoted w)) tokens ++ (if integer then a_line (codes "<Int>") ∷ [] else [])
    ++ (if text then a_line (codes "<String>") ∷ [] else [])

-- over words in a category of a language
module _ (a : Abstract) (L : Language) (cat : ℕ) (words : List (List ℕ)) where
  -- the words before this one begin a sentence, and with it they do not
  pub record FailsAt (before : List (List ℕ)) (word : List ℕ) : Type 0 where
    pub after : List (List ℕ)
    pub parts : words ≡ before ++ word ∷ after
    pub begin : Begins a L cat before
    pub begin_not : ¬ Begins a L cat (before ++ word ∷ [])

  -- the patterns that are listed, or one notice
  pub data Parses (depth : ℕ) : List Item → Type 0 where
    listed : {t ts : _} → IsListing a L cat words depth (t ∷ ts) → Parses depth (map a_tree (t ∷ ts))
    failed : (before : List (List ℕ)) (word : List ℕ) → FailsAt before word → Parses depth (a_line (failed_line before word) ∷ [])
    not_complete : Begins a L cat words → ¬ IsSentence a L cat words → Parses depth (a_line (codes "not complete") ∷ [])
    no_tree : IsSentence a L cat words → IsListing a L cat words depth [] → Parses depth (a_line (codes "no tree") ∷ [])

  -- exactly the words and classes of literals that may come next, the words in byte order
  pub record AreNext (tokens : List (List ℕ)) (integer text : Bool) : Type 0 where
    pub all : (w : List ℕ) → Contains tokens w ↔ IsNext a L cat words mark.grammar w
    pub in_order : AllPairs IsBefore tokens
    pub integers : IsTrue integer ↔ ((w : List ℕ) × IsNext a L cat words mark.integer w)
    pub texts : IsTrue text ↔ ((w : List ℕ) × IsNext a L cat words mark.text w)

  -- what may come next, or the notice of the first word that does not fit
  pub data Completes : List Item → Type 0 where
    next : (tokens : List (List ℕ)) (integer text : Bool) → Begins a L cat words → AreNext tokens integer text →
        Completes (next_items tokens integer text)
    failed : (before : List (List ℕ)) (word : List ℕ) → FailsAt before word → Completes (a_line (failed_line before word) ∷ [])

-- exactly the texts of a tree, each once, in byte order
pub record AreTexts (L : Language) (t : Tree) (texts : List (List (List ℕ))) : Type 0 where
  pub all : (words : List (List ℕ)) → Contains texts words ↔ ((b : List Piece) × L t b × (erased b ≡ words))
  pub in_order : AllPairs (λ v w. IsBefore (joined v) (joined w)) texts

-- the lines of a word: one for each analysis, or one that says that there is none
abbrev pub analysis_line : Abstract → List ℕ → Analysis → List ℕ
analysis_line a word x = elim (slice_get a.funs x.fun) [
  | None ↦ word
  | Some f ↦ word ++ 32 ∷ f.name ++ 32 ∷ category_name a f.result.cat ++ 32 ∷ decimal x.case ++ 32 ∷ decimal x.cell
]

abbrev pub analysis_lines : Abstract → List ℕ × List Analysis → List Item
analysis_lines a (word, []) = a_line (word ++ codes " ?") ∷ []
analysis_lines a (word, x ∷ xs) = map (λ y. a_line (analysis_line a word y)) (x ∷ xs)

-- at most so many trees are generated
abbrev pub most_trees : ℕ
most_trees = 100000

-- what a command gives that begins a pipe without an argument: all trees of a category, or the rules of a language
pub data Lists (g : Loaded) (c : Command) : Result (List Item) Refusal → Type 0 where
  all_trees : {cat trees : _} → c.verb ≡ GenerateTrees → category_for g c ≡ Some cat →
      AreGenerated g.abs cat (unwrap_or c.depth 4) trees → length trees ≤ most_trees → Lists g c (Ok (map a_tree trees))
  too_many_trees : {cat trees : _} → c.verb ≡ GenerateTrees → category_for g c ≡ Some cat →
      AreGenerated g.abs cat (unwrap_or c.depth 4) trees → most_trees < length trees →
      Lists g c (Err (placeless TooManyTrees []))
  all_rules : {cat l con lines : _} → c.verb ≡ ContextFree → category_for g c ≡ Some cat →
      slice_get (languages_for g c) 0 ≡ Some l → IsCompiled g.abs l con → AreRuleLines g.abs con cat lines →
      Lists g c (Ok (map a_line lines))

-- what a command makes of an item, or its refusal
pub data Makes (g : Loaded) (c : Command) : Item → Result (List Item) Refusal → Type 0 where
  parsed : {words cat l items : _} → c.verb ≡ Parse → text_refusal words ≡ None → category_for g c ≡ Some cat →
      slice_get (languages_for g c) 0 ≡ Some l → Parses g.abs (language_of g.abs cat l) cat words
      (unwrap_or c.depth 12) items → Makes g c (a_text words) (Ok items)
  completed : {words cat l items : _} → c.verb ≡ Complete → text_refusal words ≡ None → category_for g c ≡ Some cat →
      slice_get (languages_for g c) 0 ≡ Some l → Completes g.abs (language_of g.abs cat l) cat words items →
      Makes g c (a_text words) (Ok items)
  too_long : {words r : _} → text_refusal words ≡ Some r → Makes g c (a_text words) (Err r)
  analysed : {words l : _} (found : List (List Analysis)) → c.verb ≡ MorphoAnalyse → text_refusal words ≡ None →
      slice_get (languages_for g c) 0 ≡ Some l → AllZip (AreAnalyses g.abs l) words found →
      Makes g c (a_text words) (Ok (flat_map (analysis_lines g.abs) (zip words found)))
  bracketed : {t cat : _} (texts : List (List (List ℕ))) → c.verb ≡ Linearize → c.bracket ≡ true → IsSolvable g.abs t →
      category_for g c ≡ Some cat → AllZip (λ l. AreBracketTexts (language_of g.abs cat l) t) (languages_for g c) texts →
      Makes g c (a_tree t) (Ok (flat_map (map a_line) texts))
  linearized : {t cat : _} (texts : List (List (List (List ℕ)))) → c.verb ≡ Linearize → c.bracket ≡ false → IsSolvable g.abs t →
      category_for g c ≡ Some cat → AllZip (λ l. AreTexts (language_of g.abs cat l) t) (languages_for g c) texts →
      Makes g c (a_tree t) (Ok (flat_map (map a_text) texts))
  unsolved : {t r : _} → IsUnsolved g.abs t r → Makes g c (a_tree t) (Err r)
  passed : {line : _} → Makes g c (a_line line) (Ok (a_line line ∷ []))

-- the commands of a pipe run one after the other, each on all items that the one before gave
pub data RunsAll (g : Loaded) : List Command → List Item → Result (List Item) Refusal → Type 0 where
  done : {items : _} → RunsAll g [] items (Ok items)
  next : {c cs items : _} (made : List (List Item)) {result : _} → InTurn (Makes g c) items (Ok made) →
      RunsAll g cs (flat_map (λ xs. xs) made) result → RunsAll g (c ∷ cs) items result
  refused : {c cs items r : _} → InTurn (Makes g c) items (Err r) → RunsAll g (c ∷ cs) items (Err r)
