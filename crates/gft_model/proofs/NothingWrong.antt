-- Nothing is wrong in a tree that has a skeleton type.
use Rattle.std.proofs.Common.{◌≡◌, ◌≢◌, refl, sym, ap, ◌∙◌, subst, ℕ, zero, suc, ◌-◌, List, [], ◌∷◌, ◌++◌, Bool, true, false, arith}
use Rattle.std.proofs.lemmas.Bool.{eqb-true}
use Rattle.std.proofs.lemmas.Slice.Eq.{bytes_eq-Decides}
use Rattle.std.specs.Prelude.{Contains, ◌==◌, Option, Some, None, bytes_eq, if◌then◌else◌, length, map, slice_get}
use Rattle.gft_core.specs.declared.tree.Tree.{Tree, out-Tree}
use Rattle.gft_pmcfg.specs.declared.signature.AType.{AType}
use Rattle.gft_pmcfg.specs.declared.signature.Abstract.{Abstract}
use Rattle.gft_pmcfg.specs.declared.signature.Fun.{Fun}
use Rattle.gft_rules.specs.declared.refusal.Refusal.{Refusal}
use Rattle.gft_model.specs.Laws.{AreNamedApart}
use Rattle.gft_model.specs.Skeleton.{HoleCategories, HasSkeletonType, HaveSkeletonTypes, AreSingle, categories_of, hole, integer, text, application, none, more}
use Rattle.gft_model.specs.Trees.{IsApplication, IsInteger, IsString, IsHole, child_at, subtree_of, subtree_at}
use Rattle.gft_model.specs.Unsolved.{layer_at, MustHave, argument, HasCategory, IsWrongAt, unknown_fun, wrong_arity, wrong_category, function_named}
use Rattle.gft_tree.specs.Trees.{child_in}
use Rattle.gft_model.specs.Unsolved as unsolved
use Rattle.gft_core.specs.declared.tree.Tree.TheOpen as layer
use Rattle.gft_model.proofs.TreeLemmas.{standing}

-- WHERE A SUBTREE STANDS

at_end : (o : Option Tree) → subtree_of o [] ≡ o
at_end None = refl
at_end (Some t) = refl

below : (o : Option Tree) (q : List ℕ) (u : Tree) (n : ℕ) → subtree_of o q ≡ Some u
    → subtree_of o (q ++ n ∷ []) ≡ child_at (out-Tree u) n
below None q u n e = cc
below (Some t) [] u n e = let same : t ≡ u = cc in at_end (child_at (out-Tree t) n) ∙ ap (λ s. child_at (out-Tree s) n) same
below (Some t) (m ∷ q) u n e = below (child_at (out-Tree t) m) q u n e

not_one : (i : ℕ) → (suc (suc i) == 1) ≡ false
not_one i = of_bool (suc (suc i) == 1) refl where
  of_bool : (b : Bool) → (suc (suc i) == 1) ≡ b → (suc (suc i) == 1) ≡ false
  of_bool true h = absurd (omega (arith, eqb-true (suc (suc i)) 1 h))
  of_bool false h = h

next_child : (t : Tree) (ts : List Tree) (i : ℕ) → child_in (t ∷ ts) (suc (suc i)) ≡ child_in ts (suc i)
next_child t ts i =
    let number : suc (suc i) - 1 ≡ suc i = omega arith in
    ap (λ b. if b then Some t else child_in ts (suc (suc i) - 1)) (not_one i) ∙ ap (child_in ts) number

-- WHICH FUNCTION HAS A NAME

name_is : (fs : List Fun) (name : List ℕ) (f : Fun) → function_named fs name ≡ Some f → Contains fs f × (f.name ≡ name)
name_is [] name f e = cc
name_is (g ∷ fs) name f e = of_branch (name_is fs name f) (bytes_eq g.name name) refl e where
  of_branch : (function_named fs name ≡ Some f → Contains fs f × (f.name ≡ name)) → (b : Bool) → bytes_eq g.name name ≡ b
      → (if b then Some g else function_named fs name) ≡ Some f
      → Contains (g ∷ fs) f × (f.name ≡ name)
  of_branch after true h e =
      let same : g ≡ f = cc in
      ((zero, omega arith, same), ap (λ (k : Fun). k.name) (sym same) ∙ (bytes_eq-Decides g.name name).0 h)
  of_branch after false h e = let rest = after e in ((suc rest.0.0, omega (arith, rest.0.1), rest.0.2), rest.1)

is_there : (fs : List Fun) (f : Fun) → Contains fs f → function_named fs f.name ≢ None
is_there [] f (k, b, e) n = absurd (omega (arith, b))
is_there (g ∷ fs) f c n = of_branch (is_there fs f) (bytes_eq g.name f.name) refl c n where
  of_branch : (Contains fs f → function_named fs f.name ≢ None) → (b : Bool) → bytes_eq g.name f.name ≡ b
      → Contains (g ∷ fs) f
      → (if b then Some g else function_named fs f.name) ≡ None → ⊥
  of_branch after true h c n = cc
  of_branch after false h (zero, b, e) n = let i = (bytes_eq-Decides g.name f.name).1 (ap (λ (k : Fun). k.name) e) in cc
  of_branch after false h (suc k, b, e) n = after (k, omega (arith, b), e) n

module _ (a : Abstract) (K : HoleCategories) where
  abbrev Typed : Tree → Type 0
  Typed t = (c : ℕ) × HasSkeletonType a K t c

  -- what types an application
  record Applies (name : List ℕ) (ts : List Tree) (c : ℕ) : Type 0 where
    function : Fun
    listed : Contains a.funs function
    is_named : function.name ≡ name
    arguments : HaveSkeletonTypes a K ts (categories_of function)
    result : c ≡ function.result.cat

  applies : {t : Tree} {c : ℕ} (name : List ℕ) (ts : List Tree) → IsApplication t name ts → HasSkeletonType a K t c
      → Applies name ts c
  applies name ts e (hole h b m) = cc
  applies name ts e (integer h b) = cc
  applies name ts e (text h b) = cc
  applies name ts e (application {f} {ts = us} m h ds) =
      let names : f.name ≡ name = cc in
      let args : us ≡ ts = cc in
      record {
        function = f;
        listed = m;
        is_named = names;
        arguments = subst (λ xs. HaveSkeletonTypes a K xs (categories_of f)) args ds;
        result = refl;
      }

  integer_is : {t : Tree} {c n : ℕ} → IsInteger t n → HasSkeletonType a K t c → c ≡ 0
  integer_is e (hole h b m) = cc
  integer_is e (integer h b) = refl
  integer_is e (text h b) = cc
  integer_is e (application m h ds) = cc

  text_is : {t : Tree} {c : ℕ} {w : List ℕ} → IsString t w → HasSkeletonType a K t c → c ≡ 1
  text_is e (hole h b m) = cc
  text_is e (integer h b) = cc
  text_is e (text h b) = refl
  text_is e (application m h ds) = cc

  hole_is : {t : Tree} {c k : ℕ} → IsHole t k → HasSkeletonType a K t c → Contains K (k, c)
  hole_is {c = c} {k = k} e (hole {k = j} h b m) =
      let same : j ≡ k = cc in subst (λ i. Contains K (i, c)) same m
  hole_is e (integer h b) = cc
  hole_is e (text h b) = cc
  hole_is e (application m h ds) = cc

  -- each subtree is typed
  of_children : {s : Tree} (n : ℕ) (ns : List ℕ) (ts : List Tree) (cs : List ℕ)
      → ((t : Tree) (c : ℕ) → HasSkeletonType a K t c → subtree_of (Some t) ns ≡ Some s → Typed s)
      → HaveSkeletonTypes a K ts cs → subtree_of (child_in ts n) ns ≡ Some s → Typed s
  of_children n ns [] cs under ds e = cc
  of_children n ns (t ∷ ts) [] under ds e = elim ds [ ]
  of_children {s} n ns (t ∷ ts) (c ∷ cs) under (more d ds) e = of_branch (of_children (n - 1) ns ts cs under ds) (n == 1) e where
    of_branch : (subtree_of (child_in ts (n - 1)) ns ≡ Some s → Typed s) → (b : Bool)
        → subtree_of (if b then Some t else child_in ts (n - 1)) ns ≡ Some s → Typed s
    of_branch after true f = under t c d f
    of_branch after false f = after f

  stands : {t s : Tree} {c : ℕ} (p : List ℕ) → HasSkeletonType a K t c → subtree_of (Some t) p ≡ Some s → Typed s
  stands {t} {s} {c} [] d e = let same : t ≡ s = cc in (c, subst (λ u. HasSkeletonType a K u c) same d)
  stands (n ∷ ns) (hole h b m) e = let f = sym (ap (λ l. subtree_of (child_at l n) ns) h) ∙ e in cc
  stands (n ∷ ns) (integer h b) e = let f = sym (ap (λ l. subtree_of (child_at l n) ns) h) ∙ e in cc
  stands (n ∷ ns) (text h b) e = let f = sym (ap (λ l. subtree_of (child_at l n) ns) h) ∙ e in cc
  stands (n ∷ ns) (application {f} {ts} m h ds) e =
      of_children n ns ts (categories_of f) (λ u k d. stands ns d) ds (sym (ap (λ l. subtree_of (child_at l n) ns) h) ∙ e)

  -- an argument is of the category of its type
  of_argument : (i : ℕ) (types : List AType) (ts : List Tree) (type : AType) (s : Tree)
      → HaveSkeletonTypes a K ts (map (λ (A : AType). A.cat) types) → slice_get types i ≡ Some type
      → child_in ts (suc i) ≡ Some s → HasSkeletonType a K s type.cat
  of_argument i [] ts type s ds e f = cc
  of_argument zero (A ∷ types) [] type s ds e f = elim ds [ ]
  of_argument zero (A ∷ types) (t ∷ ts) type s (more d ds) e f =
      let trees : t ≡ s = cc in
      let found : A ≡ type = cc in
      subst (λ (B : AType). HasSkeletonType a K s B.cat) found (subst (λ u. HasSkeletonType a K u A.cat) trees d)
  of_argument (suc i) (A ∷ types) [] type s ds e f = elim ds [ ]
  of_argument (suc i) (A ∷ types) (t ∷ ts) type s (more d ds) e f =
      of_argument i types ts type s ds e (sym (next_child t ts i) ∙ f)

  same_length : (types : List AType) (ts : List Tree) → HaveSkeletonTypes a K ts (map (λ (A : AType). A.cat) types)
      → length ts ≡ length types
  same_length [] [] none = refl
  same_length [] (t ∷ ts) ds = elim ds [ ]
  same_length (A ∷ types) [] ds = elim ds [ ]
  same_length (A ∷ types) (t ∷ ts) (more d ds) = ap suc (same_length types ts ds)

  module _ (apart : AreNamedApart a.funs) (single : AreSingle K) {t : Tree} {c : ℕ} (typed : HasSkeletonType a K t c) where
    -- the function that is applied is the one of its name
    same_function : {name : List ℕ} {ts : List Tree} {d : ℕ} {f : Fun} (x : Applies name ts d)
        → function_named a.funs name ≡ Some f → x.function ≡ f
    same_function {name} {f = f} x e =
        let is = name_is a.funs name f e in apart x.function f x.listed is.0 (x.is_named ∙ sym is.1)

    applied : (p : List ℕ) {name : List ℕ} {ts : List Tree} → layer_at t p ≡ Some (layer.App name ts) → (d : ℕ) × Applies name ts d
    applied p {name} {ts} x =
        let s = standing (subtree_at t p) (layer.App name ts) x in
        let d = stands p typed s.1 in (d.0, applies name ts s.2 d.1)

    must : {p : List ℕ} {s : Tree} {wanted : ℕ} → subtree_at t p ≡ Some s → MustHave a t p wanted
        → HasSkeletonType a K s wanted
    must {p} {s} b (argument q i {f} {ts} {type} e x named there) =
        let d = applied q x in
        let u = standing (subtree_at t q) _ x in
        let function = same_function d.1 named in
        let arguments = subst (λ (g : Fun). HaveSkeletonTypes a K ts (categories_of g)) function d.1.arguments in
        let child = sym (ap (λ l. child_at l (suc i)) u.2) ∙ sym (below (Some t) q u.0 (suc i) u.1)
        ∙ ap (subtree_of (Some t)) (sym e) ∙ b in
        of_argument i f.args ts type s arguments there child

    pub right : {p : List ℕ} {k : ℕ} {r : Refusal} → ¬ IsWrongAt a t p k r
    right {p} (unknown_fun x e) =
        let d = applied p x in
        is_there a.funs d.1.function d.1.listed (ap (function_named a.funs) d.1.is_named ∙ e)
    right {p} (wrong_arity {f} {ts} x e n) =
        let d = applied p x in
        let arguments = subst (λ (g : Fun). HaveSkeletonTypes a K ts (categories_of g)) (same_function d.1 e) d.1.arguments in
        n (same_length f.args ts arguments)
    right {p} (wrong_category m (unsolved.HasCategory.application {name} {ts} x e) n) =
        let s = standing (subtree_at t p) _ x in
        let d = applies name ts s.2 (must s.1 m) in
        n (d.result ∙ ap (λ (g : Fun). g.result.cat) (same_function d e))
    right {p} (wrong_category m (unsolved.HasCategory.integer e) n) =
        let s = standing (subtree_at t p) _ e in n (integer_is s.2 (must s.1 m))
    right {p} (wrong_category m (unsolved.HasCategory.text e) n) =
        let s = standing (subtree_at t p) _ e in n (text_is s.2 (must s.1 m))
    right {p} (wrong_category {wanted} {found} m (unsolved.HasCategory.hole {q} {k} x y first o) n) =
        let s = standing (subtree_at t p) _ x in
        let u = standing (subtree_at t q) _ y in
        n (single k wanted found (hole_is s.2 (must s.1 m)) (hole_is u.2 (must u.1 o)))
