-- What derivations of values, refs and unread holes say.
use Rattle.std.specs.Prelude.{◌≡◌, ℕ, zero, suc, All, List, [], ◌∷◌, ◌++◌, map, Contains, Some, slice_get, ⊤}
use Rattle.std.proofs.Common.{refl, subst, arith}
use Rattle.gft_core.specs.declared.tree.Tree.{Tree}
use Rattle.gft_pmcfg.specs.declared.signature.Fun.{Fun}
use Rattle.gft_pmcfg.specs.declared.signature.Abstract.{Abstract}
use Rattle.gft_pmcfg.specs.declared.concrete.Prod.{Prod}
use Rattle.gft_pmcfg.specs.declared.concrete.Concrete.{Concrete}
use Rattle.gft_pmcfg.specs.declared.run.Run.{Run, App}
use Rattle.gft_pmcfg.specs.declared.run.Run.TheOpen as layer
use Rattle.gft_pmcfg.specs.Layers.{by_layers-App}
use Rattle.gft_model.specs.Trees.{IsApplication}
use Rattle.gft_model.specs.Runs as runs
use Rattle.gft_model.specs.Runs.{Strings, HasUnreadHoles, HaveUnreadHoles, IsApplied, IsOpen, applied, needed, components_of, components_step}
use Rattle.gft_model.specs.RunStrings.{HasValue, HaveValues, hole, hole_of_literals, number, string, application, none, more}

-- what gives an application its components
pub record Gives (a : Abstract) (c : Concrete) (p : List ℕ) (g : List ℕ) (us : List Tree) (n : ℕ)
    (vs : Strings) : Type 0 where
  pub prod : Prod
  pub function : Fun
  pub args : List Strings
  pub listed : Contains c.prods prod
  pub of_function : slice_get a.funs prod.fun ≡ Some function
  pub name : function.name ≡ g
  pub arguments : HaveValues a c p 0 us prod.args args
  pub nonterminal : prod.result ≡ n
  pub components : vs ≡ applied p args prod.seqs

pub gives : {a : Abstract} {c : Concrete} {p : List ℕ} {t : Tree} {n : ℕ} {vs : Strings} (g : List ℕ)
    (us : List Tree) → IsApplication t g us → HasValue a c p t n vs → Gives a c p g us n vs
gives g us e (hole h b m) = cc
gives g us e (hole_of_literals h b l) = cc
gives g us e (number h b) = cc
gives g us e (string h b) = cc
gives {a} {c} {p} g us e (application {f} {ts} {prod} {args} h m o d) =
    let name : f.name ≡ g = cc in
    let same : ts ≡ us = cc in
    record {
      prod = prod;
      function = f;
      args = args;
      listed = m;
      of_function = o;
      name = name;
      arguments =
          subst (λ (xs : List Tree). HaveValues a c p 0 xs prod.args args) same d;
      nonterminal =
          refl;
      components = refl;
    }

-- the value of one argument, and of none
pub only_value : {a : Abstract} {c : Concrete} {p : List ℕ} {i n : ℕ} {t : Tree} {vs : List Strings}
    → HaveValues a c p i (t ∷ []) (n ∷ []) vs
    → (v : Strings) × HasValue a c (p ++ suc i ∷ []) t n v × (vs ≡ v ∷ [])
only_value (more {v} d none) = (v, d, refl)

pub no_values : {a : Abstract} {c : Concrete} {p : List ℕ} {i : ℕ} {ns : List ℕ} {vs : List Strings}
    → HaveValues a c p i [] ns vs → vs ≡ []
no_values none = refl

-- the components of an application
pub components_of-App : (c : Concrete) (k : ℕ) (rs : List Run)
    → components_of c (App k rs) ≡ components_step c (layer.App k (map (components_of c) rs))
components_of-App c k rs = by_layers-App (components_step c) k rs

-- where nothing is needed there is a hole
pub unread_hole : {c : Concrete} {ls : List ℕ} {r : Run} → HasUnreadHoles c ls r → ls ≡ []
    → (n : ℕ) × IsOpen r n
unread_hole (runs.unread {n} h) e = (n, h)
unread_hole (runs.HasUnreadHoles.number h) e = cc
unread_hole (runs.HasUnreadHoles.string h) e = cc
unread_hole (runs.HasUnreadHoles.application s h d) e = cc

-- what holds of each item of a short list
pub all_none : {A : Type 0} (P : A → Type 0) → All P []
all_none P k d b = absurd (omega arith)

pub all_one : {A : Type 0} (P : A → Type 0) (x : A) → P x → All P (x ∷ [])
all_one P x h zero d b = h
all_one P x h (suc k) d b = absurd (omega arith)

-- the same, one after the other
abbrev pub EachOf : {A : Type 0} → (A → Type 0) → List A → Type 0
EachOf P [] = ⊤
EachOf P (x ∷ xs) = P x × EachOf P xs

pub all_from : {A : Type 0} (P : A → Type 0) (xs : List A) → EachOf P xs → All P xs
all_from P [] h k d b = absurd (omega arith)
all_from P (x ∷ xs) h zero d b = h.0
all_from P (x ∷ xs) h (suc k) d b = all_from P xs h.1 k d (omega (arith, b))
