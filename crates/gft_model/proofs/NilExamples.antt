-- Worked examples over Nil and Ages: a tree without a string, an empty sentence, a literal that may come next.
use Rattle.std.specs.Prelude.{◌≡◌, ◌≤◌, ℕ, zero, suc, Bool, true, false, List, [], ◌∷◌, codes, Contains, Option, Some, None, slice_get}
use Rattle.std.specs.Str.{bytes_eq}
use Rattle.std.proofs.Common.{inr, refl, sym, ap, ◌∙◌, subst, arith, rules}
use Rattle.std.specs.Fmt.{decimal}
use Rattle.gft_core.specs.declared.symbol.Sym.{Sym}
use Rattle.gft_core.specs.declared.symbol.Sym.TheVariants.{Tok, Arg}
use Rattle.gft_core.specs.declared.tree.Tree.{Tree, App, Int, Hole}
use Rattle.gft_core.specs.declared.tree.Tree.TheVariants.{outs-App, outs-Int}
use Rattle.gft_pmcfg.specs.declared.signature.Fun.{Fun}
use Rattle.gft_pmcfg.specs.declared.concrete.Prod.{Prod}
use Rattle.gft_model.proofs.Layers.{induction, by_layers-App, by_layers-Int, by_layers-Str, by_layers-Hole}
use Rattle.gft_model.specs.Trees.{IsHole, depth_of, depth_step}
use Rattle.gft_model.specs.Skeleton as skeleton
use Rattle.gft_model.specs.Skeleton.{HasSkeletonType}
use Rattle.gft_model.specs.Typing as typing
use Rattle.gft_model.specs.Typing.{HasType, IsAdmitted, empty}
use Rattle.gft_model.specs.Brackets.{Piece, integer}
use Rattle.gft_model.specs.Runs.{Strings, listed, applied, filled, word_at}
use Rattle.gft_model.specs.RunStrings.{IsBracketedString, IsStringOf, application, number, none, more}
use Rattle.gft_model.specs.Cut.{Cutting, cut_of, cut_step}
use Rattle.gft_model.specs.Solutions.{IsSolution}
use Rattle.gft_model.specs.Listing.{Language, IsListed}
use Rattle.gft_model.specs.Sentences.{IsSentence, Begins, IsNext}
use Rattle.gft_model.proofs.RunLemmas.{gives}
use Rattle.gft_model.proofs.Grammars.{nil, nil_eng, ages, ages_eng, whole}
use Rattle.gft_model.proofs.TreeLemmas.{filled-App, holes_of-App}

-- the language of S in Nil
abbrev language : Language
language t b = IsBracketedString nil nil_eng 2 t b

abbrev constant : List ℕ → Tree
constant name = App name []

abbrev constant_gives : List Sym → Strings
constant_gives seq = applied [] [] (seq ∷ [])

no_hole : (name : List ℕ) (k : ℕ) → ¬ IsHole (constant name) k
no_hole name k e = let layers = outs-App name [] in cc

-- `Blank` is the empty sentence, and `Word` is `w`
blank_string : language (constant (codes "Blank")) (filled (constant_gives [] ∷ []) whole)
blank_string = record {
  nonterminal = 2;
  components = constant_gives [];
  value = application (outs-App _ _) (0, omega arith, refl) refl none;
  category = λ k e. absurd (no_hole (codes "Blank") k e);
  seq = whole;
  ref = listed (0, omega arith, refl);
  string = refl;
}

word_string : language (constant (codes "Word")) (filled (constant_gives (Tok (codes "w") ∷ []) ∷ []) whole)
word_string = record {
  nonterminal = 2;
  components = constant_gives (Tok (codes "w") ∷ []);
  value = application (outs-App _ _) (1, omega arith, refl) refl none;
  category = λ k e. absurd (no_hole (codes "Word") k e);
  seq = whole;
  ref = listed (0, omega arith, refl);
  string = refl;
}

empty_is_sentence : IsSentence nil language 2 []
empty_is_sentence = record {
  tree = constant (codes "Blank");
  of_category = skeleton.HasSkeletonType.application (0, omega arith, refl) (outs-App _ _) skeleton.none;
  string = _;
  of_tree = blank_string;
  words_are = refl;
}

w_begins : Begins nil language 2 (codes "w" ∷ [])
w_begins = inr (
  [],
  record {
    tree = constant (codes "Word");
    of_category = skeleton.HasSkeletonType.application (2, omega arith, refl) (outs-App _ _) skeleton.none;
    string = _;
    of_tree = word_string;
    words_are = refl;
  },
)

-- whether there is a function and it is `None`
abbrev is_none : Option Fun → Bool
is_none None = false
is_none (Some f) = bytes_eq f.name (codes "None")

no_production : (prod : Prod) → Contains nil_eng.prods prod → is_none (slice_get nil.funs prod.fun) ≡ true → ⊥
no_production prod (zero, b, e) n = let wrong : false ≡ true =
    subst (λ (q : Prod). is_none (slice_get nil.funs q.fun) ≡ true) (sym e) n in cc
no_production prod (suc zero, b, e) n = let wrong : false ≡ true =
    subst (λ (q : Prod). is_none (slice_get nil.funs q.fun) ≡ true) (sym e) n in cc
no_production prod (suc (suc k), b, e) n = absurd (omega (arith, b))

-- `None` has no value, and so no string
none_has_no_string : (words : List (List ℕ)) → ¬ IsStringOf nil nil_eng 2 (constant (codes "None")) words
none_has_no_string words (b, s, e) =
    let g = gives (codes "None") [] (outs-App (codes "None") []) s.value in
    no_production g.prod g.listed (ap is_none g.of_function ∙ ap (λ (n : List ℕ). bytes_eq n (codes "None")) g.name)

-- the words `w` list `Word`
word_typed : HasType nil [] (constant (codes "Word")) (record { cat = 2; args = [] })
word_typed = typing.HasType.application (2, omega arith, refl) (outs-App _ _) typing.none

word_is_solved : IsSolution nil (constant (codes "Word")) (constant (codes "Word"))
word_is_solved = record {
  instance = (Hole, simp filled-App);
  typed = ([], ([], record { moves = []; below = search rules; is = refl }, empty), record { cat = 2; args = [] }, word_typed);
  general = λ t i h. i;
  numbered = simp holes_of-App;
}

depth : depth_of (constant (codes "Word")) ≡ 1
depth = simp by_layers-App

abbrev w : List Piece
w = filled (constant_gives (Tok (codes "w") ∷ []) ∷ []) whole

cut : cut_of (constant (codes "Word")) w ≡ constant (codes "Word")
cut = ap (λ (g : Cutting). (g [] 1).0) (by_layers-App (cut_step w) (codes "Word") [])

word_is_listed : IsListed nil language 2 (codes "w" ∷ []) 1 (constant (codes "Word"))
word_is_listed = record {
  tree = constant (codes "Word");
  indices = [];
  typed = word_typed;
  within = rw depth (omega arith);
  string = w;
  of_tree = word_string;
  words_are = refl;
  solved = rw cut word_is_solved;
}

-- within depth 0 nothing is listed
deep : (t : Tree) → 1 ≤ depth_of t
deep = induction (λ t. 1 ≤ depth_of t)
    (λ f ts each. rw (by_layers-App depth_step f ts) (omega arith))
    (λ n. rw (by_layers-Int depth_step n) (omega arith)) (λ v. rw (by_layers-Str depth_step v) (omega arith))
    (λ k. rw (by_layers-Hole depth_step k) (omega arith))

nothing_within_zero : (words : List (List ℕ)) (pattern : Tree) → ¬ IsListed nil language 2 words 0 pattern
nothing_within_zero words pattern s = absurd (omega (arith, deep s.tree, s.within))

-- behind `age` any integer may come
abbrev age_seven : Tree
age_seven = App (codes "Age") (Int 7 ∷ [])

abbrev age_gives : Strings
age_gives = applied [] (word_at (1 ∷ []) integer (decimal 7) ∷ []) ((Tok (codes "age") ∷ Arg 0 0 ∷ []) ∷ [])

age_is_no_hole : (k : ℕ) → ¬ IsHole age_seven k
age_is_no_hole k e = let layers = outs-App (codes "Age") (Int 7 ∷ []) in cc

age_is_sentence : IsSentence ages (IsBracketedString ages ages_eng 2) 2 (codes "age" ∷ decimal 7 ∷ [])
age_is_sentence = record {
  tree = age_seven;
  of_category = skeleton.HasSkeletonType.application (0, omega arith, refl) (outs-App _ _)
      (skeleton.more (skeleton.integer (outs-Int 7) (omega arith)) skeleton.none);
  string = filled (age_gives ∷ []) whole;
  of_tree = record {
    nonterminal = 2;
    components = age_gives;
    value = application (outs-App _ _) (0, omega arith, refl) refl (more (number (outs-Int 7) (omega arith)) none);
    category = λ k e. absurd (age_is_no_hole k e);
    seq = whole;
    ref = listed (0, omega arith, refl);
    string = refl;
  };
  words_are = refl;
}

integer_is_next : IsNext ages (IsBracketedString ages ages_eng 2) 2 (codes "age" ∷ []) integer (decimal 7)
unfolding age_is_sentence
integer_is_next = record {
  whole = codes "age" ∷ decimal 7 ∷ [];
  sentence = age_is_sentence;
  before = _ ∷ [];
  after = [];
  parts = refl;
  begins = refl;
}
