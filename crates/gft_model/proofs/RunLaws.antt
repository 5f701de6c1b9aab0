-- Laws of runs.
use Rattle.std.specs.Prelude.{◌≡◌, ℕ, zero, suc, List, [], ◌∷◌, ◌++◌, map, length, Contains, Option, Some, slice_get}
use Rattle.std.specs.Option.{option_map_or}
use Rattle.std.proofs.Common.{refl, sym, ap, ◌∙◌, subst, arith}
use Rattle.std.proofs.lemmas.Option.{slice_get_read}
use Rattle.gft_core.specs.declared.tree.Tree.{Tree, roll-out-Tree, roll-Tree}
use Rattle.gft_core.specs.declared.tree.Tree.TheVariants as tree
use Rattle.gft_pmcfg.specs.declared.signature.Abstract.{Abstract}
use Rattle.gft_pmcfg.specs.declared.signature.Fun.{Fun}
use Rattle.gft_pmcfg.specs.declared.concrete.Prod.{Prod}
use Rattle.gft_pmcfg.specs.declared.concrete.Concrete.{Concrete}
use Rattle.gft_pmcfg.specs.declared.run.Run.{Run, App, Int, Str, Hole, roll-out-Run, roll-Run}
use Rattle.gft_pmcfg.specs.declared.run.Run.TheVariants.{outs-App, outs-Int, outs-Str, rolls-App, rolls-Int, rolls-Str, rolls-Hole}
use Rattle.gft_pmcfg.specs.Layers.{by_layers-App, by_layers-Int, by_layers-Str, by_layers-Hole}
use Rattle.gft_model.specs.Trees.{IsHole, IsInteger, IsString, IsApplication, holes_of, all_of}
use Rattle.gft_model.specs.Runs as runs
use Rattle.gft_model.specs.Runs.{IsApplied, IsNumber, IsText, IsOpen, tree_of, tree_step, name_at, IsRun, AreRuns, hole, number, string, application, none, more, Strings, applied, arguments_at, sequences_at, components_of, components_step}
use Rattle.gft_model.specs.RunStrings as strings
use Rattle.gft_model.specs.RunStrings.{HasValue, HaveValues}
use Rattle.gft_model.specs.Laws.{AreOfFunctions}
use Rattle.gft_model.proofs.TreeLemmas.{holes_of-App, holes_of-Hole}
use Rattle.gft_model.proofs.RunLemmas.{components_of-App}

-- the form of a run decides which rule it is by
pub one_nonterminal : {c : Concrete} {r : Run} {n m : ℕ} → IsRun c r n → IsRun c r m → n ≡ m
one_nonterminal (hole h b) (hole k d) = cc
one_nonterminal (hole h b) (number k d) = cc
one_nonterminal (hole h b) (string k d) = cc
one_nonterminal (hole h b) (application q k d) = cc
one_nonterminal (number h b) (hole k d) = cc
one_nonterminal (number h b) (number k d) = refl
one_nonterminal (number h b) (string k d) = cc
one_nonterminal (number h b) (application q k d) = cc
one_nonterminal (string h b) (hole k d) = cc
one_nonterminal (string h b) (number k d) = cc
one_nonterminal (string h b) (string k d) = refl
one_nonterminal (string h b) (application q k d) = cc
one_nonterminal (application s h b) (hole k d) = cc
one_nonterminal (application s h b) (number k d) = cc
one_nonterminal (application s h b) (string k d) = cc
one_nonterminal (application {prod = first} s h b) (application {prod = second} q k d) =
    let same : first ≡ second = cc in ap (λ (x : Prod). x.result) same

-- a tree is what its layer says
pub hole_is : (t : Tree) (k : ℕ) → IsHole t k → t ≡ tree.Hole k
hole_is t k h = sym (roll-out-Tree t) ∙ ap roll-Tree h ∙ tree.rolls-Hole k

pub application_is : (t : Tree) (f : List ℕ) (ts : List Tree) → IsApplication t f ts → t ≡ tree.App f ts
application_is t f ts h = sym (roll-out-Tree t) ∙ ap roll-Tree h ∙ tree.rolls-App f ts

pub integer_is : (t : Tree) (n : ℕ) → IsInteger t n → t ≡ tree.Int n
integer_is t n h = sym (roll-out-Tree t) ∙ ap roll-Tree h ∙ tree.rolls-Int n

pub string_is : (t : Tree) (w : List ℕ) → IsString t w → t ≡ tree.Str w
string_is t w h = sym (roll-out-Tree t) ∙ ap roll-Tree h ∙ tree.rolls-Str w

-- what stands at a place stands in the list
pub contained : {A : Type 0} (xs : List A) (k : ℕ) (x : A) → slice_get xs k ≡ Some x → Contains xs x
contained [] k x e = cc
contained (y ∷ xs) zero x e = let same : y ≡ x = cc in (zero, omega arith, same)
contained (y ∷ xs) (suc k) x e = let rest = contained xs k x e in (suc rest.0, omega (arith, rest.1), rest.2)

-- a hole is not closed
not_closed : {A : Type 0} (t : Tree) (k : ℕ) → IsHole t k → holes_of t ≡ [] → A
not_closed t k h e = let one : k ∷ [] ≡ [] = sym (holes_of-Hole k) ∙ ap holes_of (sym (hole_is t k h)) ∙ e in cc

pub left_empty : (xs ys : List ℕ) → xs ++ ys ≡ [] → xs ≡ []
left_empty [] ys e = refl
left_empty (x ∷ xs) ys e = cc

pub right_empty : (xs ys : List ℕ) → xs ++ ys ≡ [] → ys ≡ []
right_empty [] ys e = e
right_empty (x ∷ xs) ys e = cc

-- the tree of a run, by its form
tree_of-App : (a : Abstract) (c : Concrete) (k : ℕ) (rs : List Run)
    → tree_of a c (App k rs) ≡ tree.App (name_at a c k) (map (tree_of a c) rs)
tree_of-App a c k rs = by_layers-App (tree_step a c) k rs

pub holes_of_run-App : (k : ℕ) (rs : List Run) → runs.holes_of (App k rs) ≡ all_of (map runs.holes_of rs)
holes_of_run-App k rs = by_layers-App runs.holes_step k rs

-- the name of a production's function
name_at-is : (a : Abstract) (c : Concrete) (k : ℕ) (prod : Prod) (f : Fun)
    → slice_get c.prods k ≡ Some prod → slice_get a.funs prod.fun ≡ Some f → name_at a c k ≡ f.name
name_at-is a c k prod f e d =
    ap (λ (q : Option Prod). option_map_or (λ (x : Prod). option_map_or (λ (g : Fun). g.name)
    (slice_get a.funs x.fun) []) q []) e
    ∙ ap (λ (q : Option Fun). option_map_or (λ (g : Fun). g.name) q []) d

mutual
  -- a value of a closed tree is that of a run of the tree
  pub run_of_value : {a : Abstract} {c : Concrete} {p : List ℕ} {t : Tree} {n : ℕ} {vs : Strings}
      → HasValue a c p t n vs → holes_of t ≡ []
      → (r : Run) × IsRun c r n × (tree_of a c r ≡ t) × (components_of c r p ≡ vs)
  run_of_value {t} (strings.hole {k} h b m) e = not_closed t k h e
  run_of_value {t} (strings.hole_of_literals {k} h b l) e = not_closed t k h e
  run_of_value {a} {c} {p} {t} (strings.HasValue.number {n} h b) e = (
    Int n,
    number (outs-Int n) b,
    by_layers-Int (tree_step a c) n
        ∙ sym (integer_is t n h),
    ap (λ (g : List ℕ → Strings). g p) (by_layers-Int (components_step c) n),
  )
  run_of_value {a} {c} {p} {t} (strings.HasValue.string {w} h b) e = (
    Str w,
    string (outs-Str w) b,
    by_layers-Str (tree_step a c) w
        ∙ sym (string_is t w h),
    ap (λ (g : List ℕ → Strings). g p) (by_layers-Str (components_step c) w),
  )
  run_of_value {a} {c} {p} {t} (strings.HasValue.application {f} {ts} {prod} {args} h m o d) e =
      let at : slice_get c.prods m.0 ≡ Some prod =
      slice_get_read c.prods (length c.prods) m.0 prod refl m.1 (sym m.2) in
      let closed : all_of (map holes_of ts) ≡ [] = sym (holes_of-App f.name ts)
      ∙ ap holes_of (sym (application_is t f.name ts h)) ∙ e in
      let below = runs_of_values d closed in (
        App m.0 below.0,
        application at (outs-App m.0 below.0) below.1,
        tree_of-App a c m.0 below.0 ∙ ap (λ (us : List Tree). tree.App (name_at a c m.0) us) below.2
            ∙ ap (λ (g : List ℕ). tree.App g ts) (name_at-is a c m.0 prod f at o)
            ∙ sym (application_is t f.name ts h),
        ap (λ (g : List ℕ → Strings). g p) (components_of-App c m.0 below.0)
            ∙ ap (λ (vs : List Strings). applied p vs (sequences_at c.prods m.0)) below.3
            ∙ ap (λ (q : Option Prod). applied p args (option_map_or (λ (x : Prod). x.seqs) q [])) at,
      )

  -- and so are values of closed arguments
  pub runs_of_values : {a : Abstract} {c : Concrete} {p : List ℕ} {i : ℕ} {ts : List Tree} {ns : List ℕ} {vs : List Strings} → HaveValues a c p i ts ns vs → all_of (map holes_of ts) ≡ []
      → (rs : List Run) × AreRuns c rs ns × (map (tree_of a c) rs ≡ ts) × (arguments_at p i (map
      (components_of c) rs) ≡ vs)
  runs_of_values strings.none e = ([], none, refl, refl)
  runs_of_values {c} {p} {i} (strings.more {t} {ts} {v} {vs} d ds) e =
      let first = run_of_value d (left_empty (holes_of t) (all_of (map holes_of ts)) e) in
      let rest = runs_of_values ds (right_empty (holes_of t) (all_of (map holes_of ts)) e) in (
        first.0 ∷ rest.0,
        more first.1 rest.1,
        (let head = first.2 in let tail = rest.2 in cc),
        let head =
            first.3 in let tail = rest.3 in cc,
      )

-- a run is what its layer says
pub run_application_is : (r : Run) (k : ℕ) (rs : List Run) → IsApplied r k rs → r ≡ App k rs
run_application_is r k rs h = sym (roll-out-Run r) ∙ ap roll-Run h ∙ rolls-App k rs

run_number_is : (r : Run) (n : ℕ) → IsNumber r n → r ≡ Int n
run_number_is r n h = sym (roll-out-Run r) ∙ ap roll-Run h ∙ rolls-Int n

run_string_is : (r : Run) (w : List ℕ) → IsText r w → r ≡ Str w
run_string_is r w h = sym (roll-out-Run r) ∙ ap roll-Run h ∙ rolls-Str w

pub run_hole_is : (r : Run) (n : ℕ) → IsOpen r n → r ≡ Hole n
run_hole_is r n h = sym (roll-out-Run r) ∙ ap roll-Run h ∙ rolls-Hole n

mutual
  -- a run without holes gives its components to its tree
  pub value_of_run : {a : Abstract} {c : Concrete} {r : Run} {n : ℕ} → AreOfFunctions a c → IsRun c r n
      → runs.holes_of r ≡ [] → (p : List ℕ) → HasValue a c p (tree_of a c r) n (components_of c r p)
  value_of_run {r} fs (hole {n} h b) e p = let one : n ∷ [] ≡ [] = sym (by_layers-Hole runs.holes_step n)
      ∙ ap runs.holes_of (sym (run_hole_is r n h)) ∙ e in cc
  value_of_run {a} {c} {r} fs (number {n} h b) e p =
      subst (λ (x : Run). HasValue a c p (tree_of a c x) 0 (components_of c x p)) (sym (run_number_is r n h))
      (subst (λ (t : Tree). HasValue a c p t 0 (components_of c (Int n) p)) (sym (by_layers-Int
      (tree_step a c) n))
      (subst (λ (g : List ℕ → Strings). HasValue a c p (tree.Int n) 0 (g p)) (sym (by_layers-Int
      (components_step c) n)) (strings.HasValue.number (tree.outs-Int n) b)))
  value_of_run {a} {c} {r} fs (string {w} h b) e p =
      subst (λ (x : Run). HasValue a c p (tree_of a c x) 1 (components_of c x p)) (sym (run_string_is r w h))
      (subst (λ (t : Tree). HasValue a c p t 1 (components_of c (Str w) p)) (sym (by_layers-Str
      (tree_step a c) w))
      (subst (λ (g : List ℕ → Strings). HasValue a c p (tree.Str w) 1 (g p)) (sym (by_layers-Str
      (components_step c) w)) (strings.HasValue.string (tree.outs-Str w) b)))
  value_of_run {a} {c} {r} fs (application {p = k} {prod} {rs} s h d) e p =
      let listed = fs prod (contained c.prods k prod s) in
      let closed : all_of (map runs.holes_of rs) ≡ [] = sym (holes_of_run-App k rs)
      ∙ ap runs.holes_of (sym (run_application_is r k rs h)) ∙ e in
      let args = values_of_runs fs d closed p 0 in
      let given : HasValue a c p (tree.App listed.0.name (map (tree_of a c) rs)) prod.result (applied p
      (arguments_at p 0 (map (components_of c) rs)) prod.seqs)
      = strings.HasValue.application (tree.outs-App listed.0.name (map (tree_of a c) rs))
      (contained c.prods k prod s) listed.1 args in
      let tree_is : tree.App listed.0.name (map (tree_of a c) rs) ≡ tree_of a c r
      = ap (λ (g : List ℕ). tree.App g (map (tree_of a c) rs)) (sym
      (name_at-is a c k prod listed.0 s listed.1)) ∙ sym (tree_of-App a c k rs)
      ∙ ap (tree_of a c) (sym (run_application_is r k rs h)) in
      let components_are : applied p (arguments_at p 0 (map
      (components_of c) rs)) prod.seqs ≡ components_of c r p
      = ap (λ (q : Option Prod). applied p (arguments_at p 0 (map (components_of c) rs)) (option_map_or (λ
      (x : Prod). x.seqs) q [])) (sym s)
      ∙ ap (λ (g : List ℕ → Strings). g p) (sym (components_of-App c k rs))
      ∙ ap (λ (x : Run). components_of c x p) (sym (run_application_is r k rs h)) in
      subst (λ (t : Tree). HasValue a c p t prod.result (components_of c r p)) tree_is
      (subst (λ (vs : Strings). HasValue a c p (tree.App listed.0.name (map
      (tree_of a c) rs)) prod.result vs) components_are given)

  pub values_of_runs : {a : Abstract} {c : Concrete} {rs : List Run} {ns : List ℕ} → AreOfFunctions a c
      → AreRuns c rs ns → all_of (map runs.holes_of rs) ≡ [] → (p : List ℕ) (i : ℕ)
      → HaveValues a c p i (map (tree_of a c) rs) ns (arguments_at p i (map (components_of c) rs))
  values_of_runs fs none e p i = strings.none
  values_of_runs fs (more {r} {rs} d ds) e p i =
      strings.more (value_of_run fs d (left_empty (runs.holes_of r) (all_of (map runs.holes_of rs)) e)
      (p ++ suc i ∷ []))
      (values_of_runs fs ds (right_empty (runs.holes_of r) (all_of (map runs.holes_of rs)) e) p (suc i))
