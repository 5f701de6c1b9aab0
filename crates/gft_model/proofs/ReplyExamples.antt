-- Worked examples of what `parse` and `complete` answer: in Dead `yes` is the one sentence.
use Rattle.std.proofs.Common.{◌≡◌, ◌≢◌, refl, sym, ap, ◌∙◌, subst, ℕ, zero, suc, List, [], ◌∷◌, true, false, arith, rules, inl, inr, ⊎_elim}
use Rattle.std.specs.Prelude.{codes, bytes_eq, slice_index_or, Contains, AllPairs, Bool, Option, Some, None, option_map, length, slice_get}
use Rattle.gft_core.specs.declared.tree.Tree.{Tree, App, Hole, out-Tree, roll-Tree, roll-out-Tree}
use Rattle.gft_core.specs.declared.tree.Tree.TheOpen as layer
use Rattle.gft_core.specs.declared.tree.Tree.TheOpen.{Tree-F}
use Rattle.gft_core.specs.declared.tree.Tree.TheVariants.{outs-App, rolls-App}
use Rattle.std.specs.Fmt.{digits}
use Rattle.gft_pmcfg.specs.declared.signature.AType.{AType}
use Rattle.gft_pmcfg.specs.declared.signature.Fun.{Fun}
use Rattle.gft_rules.specs.declared.refusal.Refusal.{Refusal}
use Rattle.gft_rules.specs.declared.rule.Rule.TheVariants.{UnknownFun}
use Rattle.gft_model.specs.Brackets.{Piece, Mark, grammar, erased}
use Rattle.gft_model.specs.Commands.{a_tree, a_line}
use Rattle.gft_model.specs.Refusals.{placeless}
use Rattle.gft_model.specs.Cut.{Cutting, cut_of, cut_step}
use Rattle.gft_model.proofs.Layers.{by_layers-App}
use Rattle.gft_model.specs.Listing.{IsListed, IsBefore}
use Rattle.gft_model.specs.Replies.{FailsAt, Parses, Completes, AreNext}
use Rattle.gft_model.specs.Replies as replies
use Rattle.gft_model.specs.Runs.{filled}
use Rattle.gft_model.specs.Sentences.{IsSentence, IsNext}
use Rattle.gft_model.specs.Solutions.{IsSolution}
use Rattle.gft_model.specs.Trees as trees
use Rattle.gft_model.specs.Typing as typing
use Rattle.gft_model.specs.Unsolved.{IsUnsolved, IsSolvable, ComesFirst, layer_at, MustHave, argument, IsWrongAt, unknown_fun, wrong_arity, wrong_category, function_named, wrong}
use Rattle.gft_model.proofs.Grammars.{dead, whole}
use Rattle.gft_model.proofs.SentenceExamples.{language, h, h_gives, h_string, yes_is_next, only_h, only_yes, only_first}
use Rattle.gft_model.proofs.SkeletonLaws.{skeleton}
use Rattle.gft_model.proofs.TypingLemmas.{applies}
use Rattle.gft_model.proofs.TreeLemmas.{filled-App, holes_of-App}

-- the bracketed string of `h`
abbrev yes : List Piece
yes = filled (h_gives ∷ []) whole

-- one word is in order
one_in_order : {A : Type 0} (R : A → A → Type 0) (x : A) → AllPairs R (x ∷ [])
one_in_order R x i j d l m = absurd (omega (arith, l, m))

may_come : {w : List ℕ} → Contains (codes "yes" ∷ []) w → IsNext dead language 3 [] grammar w
may_come (zero, b, e) = subst (λ (w : List ℕ). IsNext dead language 3 [] grammar w) e yes_is_next
may_come (suc k, b, e) = absurd (omega (arith, b))

-- `complete ""` gives `"yes"`
completes : Completes dead language 3 [] (a_line (codes "\"yes\"") ∷ [])
completes = replies.next (codes "yes" ∷ []) false false (inl refl) (record {
  all = λ w. (may_come, λ s. (0, omega arith, ap (λ (v : Mark × List ℕ). v.1) (only_first s)));
  in_order = one_in_order IsBefore (codes "yes");
  integers = (λ f. cc, λ s. let is = ap (λ (v : Mark × List ℕ). v.0) (only_first s.1) in cc);
  texts = (λ f. cc, λ s. let is = ap (λ (v : Mark × List ℕ). v.0) (only_first s.1) in cc);
})

-- a sentence has the one word `yes`
only_word : {words : List (List ℕ)} → IsSentence dead language 3 words → codes "yes" ∷ [] ≡ words
only_word s = ap erased (sym (only_yes s.of_category s.of_tree)) ∙ s.words_are

abbrev begins_with_yes : List (List ℕ) → Bool
begins_with_yes ws = bytes_eq (slice_index_or ws 0 []) (codes "yes")

-- `p "no"` fails at its first word
fails : Parses dead language 3 (codes "no" ∷ []) 12 (a_line (codes "failed at word 1: \"no\"") ∷ [])
unfolding digits
fails = replies.Parses.failed [] (codes "no") (record {
  after = [];
  parts = refl;
  begin = inl refl;
  begin_not = λ e. ⊎_elim {C = ⊥} (λ n. cc) (λ r. let is : true ≡ false = ap begins_with_yes (only_word r.1) in cc) e;
})

-- `h` is the pattern of itself
cut : cut_of h yes ≡ h
cut = ap (λ (g : Cutting). (g [] 1).0) (by_layers-App (cut_step yes) (codes "h") [])

typed : typing.HasType dead [] h (record { cat = 3; args = [] })
typed = typing.HasType.application (2, omega arith, refl) (outs-App _ _) typing.none

solved : IsSolution dead h h
solved = record {
  instance = (Hole, simp filled-App);
  typed = (
    [],
    ([], record { moves = []; below = search rules; is = refl }, typing.empty),
    record {
      cat = 3;
      args =
          [];
    },
    typed,
  );
  general = λ t i s. i;
  numbered = simp holes_of-App;
}

depth : trees.depth_of h ≡ 1
depth = simp by_layers-App

listed_h : IsListed dead language 3 (codes "yes" ∷ []) 12 h
listed_h = record {
  tree = h;
  indices = [];
  typed = typed;
  within = rw depth (omega arith);
  string = yes;
  of_tree = h_string;
  words_are = refl;
  solved = rw cut solved;
}

-- and the one that is listed
only_listed : {p : Tree} → IsListed dead language 3 (codes "yes" ∷ []) 12 p → h ≡ p
only_listed s =
    let shape = skeleton s.typed in
    let tree : h ≡ s.tree = sym (rolls-App (codes "h") []) ∙ ap roll-Tree (sym (only_h shape refl)) ∙ roll-out-Tree s.tree in
    let string : s.string ≡ yes = only_yes shape s.of_tree in
    let cuts : cut_of s.tree s.string ≡ h = ap (λ (t : Tree). cut_of t s.string) (sym tree) ∙ ap (cut_of h) string ∙ cut in
    sym (s.solved.instance.1 ∙ ap (trees.filled s.solved.instance.0) cuts ∙ filled-App s.solved.instance.0 (codes "h") [])

of_h : {p : Tree} → Contains (h ∷ []) p → IsListed dead language 3 (codes "yes" ∷ []) 12 p
of_h (zero, b, e) = subst (IsListed dead language 3 (codes "yes" ∷ []) 12) e listed_h
of_h (suc k, b, e) = absurd (omega (arith, b))

-- `p "yes"` gives `h`
parses : Parses dead language 3 (codes "yes" ∷ []) 12 (a_tree h ∷ [])
parses = replies.listed {ts = []} (record {
  all = λ p. (of_h, λ s. (0, omega arith, only_listed s));
  in_order = one_in_order (λ t s. IsBefore (trees.text_of t) (trees.text_of s)) h;
})

-- the root comes first
root_first : (q : List ℕ) (other : ℕ) → ComesFirst [] 0 q other
root_first [] other = inr (refl, omega arith)
root_first (i ∷ q) other = inl refl

-- a function of another name
other_name : (w : List ℕ) (g f : Fun) → bytes_eq g.name w ≡ false → bytes_eq w w ≡ true → g ≡ f → f.name ≢ w
other_name w g f differs same e n = let is : false ≡ true =
    sym differs ∙ ap (λ (k : Fun). bytes_eq k.name w) e ∙ ap (λ m. bytes_eq m w) n ∙ same in cc

-- `nope` has no solution, since no function has the name
not_there : (f : Fun) → Contains dead.funs f → f.name ≢ codes "nope"
not_there f (zero, b, e) = other_name (codes "nope") _ f refl refl e
not_there f (suc zero, b, e) = other_name (codes "nope") _ f refl refl e
not_there f (suc (suc zero), b, e) = other_name (codes "nope") _ f refl refl e
not_there f (suc (suc (suc k)), b, e) = absurd (omega (arith, b))

no_type : (T : typing.HoleTypes) (type : AType) → ¬ typing.HasType dead T (App (codes "nope") []) type
no_type T type d =
    let whole = applies (codes "nope") [] (outs-App _ _) d in not_there whole.function whole.listed whole.name

unsolvable : ¬ IsSolvable dead (App (codes "nope") [])
unsolvable s =
    let same : s.0 ≡ App (codes "nope") [] = s.1.instance.1 ∙ filled-App s.1.instance.0 (codes "nope") [] in
    let typed = s.1.typed in
    no_type typed.0 typed.2 (subst (λ (t : Tree). typing.HasType dead typed.0 t typed.2) same typed.3)

-- `l nope` is refused
unknown : IsUnsolved dead (App (codes "nope") []) (placeless UnknownFun (codes "nope" ∷ []))
unknown = (
  unsolvable,
  wrong {p = []} {kind = 0} (unknown_fun (ap Some (outs-App _ _)) refl)
      (λ q other s w. root_first q other),
)

-- a sentence with a tree is not answered by a notice
no_notice : ¬ Parses dead language 3 (codes "yes" ∷ []) 12 (a_line (codes "no tree") ∷ [])
no_notice (replies.no_tree s none) = let there = (none.all h).1 listed_h in absurd (omega (arith, there.1))

-- `h` has no argument
no_part : (i : ℕ) (q : List ℕ) → trees.subtree_at h (i ∷ q) ≡ None
no_part i q = ap (λ (l : Tree-F Tree). trees.subtree_of (trees.child_at l i) q) (outs-App (codes "h") [])

-- what stands in it is `h` at the root
only_root : (p : List ℕ) {name : List ℕ} {ts : List Tree} → layer_at h p ≡ Some (layer.App name ts)
    → (name ≡ codes "h") × (ts ≡ [])
only_root [] s = let is = outs-App (codes "h") [] in (cc, cc)
only_root (i ∷ q) s = let none = ap (option_map out-Tree) (no_part i q) in cc

abbrev arguments_of : Option Fun → List AType
arguments_of None = []
arguments_of (Some f) = f.args

no_arguments : (p : List ℕ) {name : List ℕ} {f : Fun} {ts : List Tree} → layer_at h p ≡ Some (layer.App name ts) → function_named dead.funs name ≡ Some f
    → f.args ≡ []
no_arguments p s named = sym (ap arguments_of named) ∙ ap (λ n. arguments_of (function_named dead.funs n)) (only_root p s).0

no_demand : {p : List ℕ} {cat : ℕ} → ¬ MustHave dead h p cat
no_demand (argument q i e s named there) = let none = sym (ap (λ ts. slice_get ts i) (no_arguments q s named)) ∙ there in cc

not_wrong : {p : List ℕ} {kind : ℕ} {r : Refusal} → ¬ IsWrongAt dead h p kind r
not_wrong {p} (unknown_fun s named) = let is = ap (function_named dead.funs) (sym (only_root p s).0) ∙ named in cc
not_wrong {p} (wrong_arity s named n) = n (ap length (only_root p s).1 ∙ sym (ap length (no_arguments p s named)))
not_wrong (wrong_category m c n) = no_demand m

-- so `h` is solved, and not refused
not_unsolved : {r : Refusal} → ¬ IsUnsolved dead h r
not_unsolved u = u.0 (h, solved)
