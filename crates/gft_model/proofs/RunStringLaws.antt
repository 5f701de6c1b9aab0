-- The strings of a closed tree are what its runs yield.
use Rattle.std.specs.Prelude.{◌≡◌, ℕ, List, [], ◌∷◌}
use Rattle.std.proofs.Common.{refl, sym, ap, ◌∙◌}
use Rattle.gft_core.specs.declared.symbol.Sym.{Sym}
use Rattle.gft_core.specs.declared.tree.Tree.{Tree}
use Rattle.gft_pmcfg.specs.declared.signature.Abstract.{Abstract}
use Rattle.gft_pmcfg.specs.declared.concrete.Concrete.{Concrete}
use Rattle.gft_pmcfg.specs.declared.run.Run.{Run}
use Rattle.gft_model.specs.Trees.{IsClosed}
use Rattle.gft_model.specs.Brackets.{erased}
use Rattle.gft_model.specs.Runs.{Strings, IsRunFor, components_of, filled, holes_of, tree_of, yield_of}
use Rattle.gft_model.specs.RunStrings.{IsStringOf}
use Rattle.gft_model.specs.Laws.{AreOfFunctions, Yields}
use Rattle.gft_model.proofs.RunLaws.{one_nonterminal, run_of_value, value_of_run}

-- a run for words that has no holes makes them a string of its tree
pub run_string : {a : Abstract} {c : Concrete} {cat : ℕ} {words : List (List ℕ)} {r : Run} → AreOfFunctions a c
    → IsRunFor c cat words r → holes_of r ≡ [] → IsStringOf a c cat (tree_of a c r) words
run_string {c} {r} fs x e = (
  filled (components_of c r [] ∷ []) x.seq,
  record {
    nonterminal = x.nonterminal;
    components = components_of c r [];
    value = value_of_run fs x.run e [];
    category = λ k h. x.category;
    seq = x.seq;
    ref = x.ref;
    string = refl;
  },
  x.yields,
)

-- and a string of a closed tree is what some run of the tree yields
pub string_run : {a : Abstract} {c : Concrete} {cat : ℕ} {t : Tree} {words : List (List ℕ)} → IsClosed t
    → IsStringOf a c cat t words → Yields a c t words
string_run {c} closed (b, s, e) =
    let found = run_of_value s.value closed in record {
      run = found.0;
      nonterminal = s.nonterminal;
      is_run = found.1;
      of_tree = found.2;
      seq = s.seq;
      ref = s.ref;
      yields = ap (λ (v : Strings). erased (filled (v ∷ []) s.seq)) found.3 ∙ ap erased (sym s.string) ∙ e;
    }

-- a run is for one text under one ref
pub one_yield : {c : Concrete} {cat : ℕ} {r : Run} {v w : List (List ℕ)} (x : IsRunFor c cat v r)
    (y : IsRunFor c cat w r) → (x.nonterminal ≡ y.nonterminal) × (x.seq ≡ y.seq → v ≡ w)
one_yield {c} {r} x y = (
  one_nonterminal x.run y.run,
  λ e. sym x.yields ∙ ap (λ (seq : List Sym). yield_of c seq r) e ∙ y.yields,
)
