-- Trees are equal or not.
use Rattle.std.specs.Prelude.{◌≡◌, ℕ, List, [], ◌∷◌, ◌⊎◌}
use Rattle.std.proofs.Common.{refl, sym, ap, ◌∙◌, inl, inr, ⊎_elim}
use Rattle.std.proofs.Math.Dec.{eqb}
use Rattle.std.proofs.lemmas.Bool.Decides.{eqb_tells}
use Rattle.std.specs.Prelude.{true, false}
use Rattle.gft_core.specs.declared.tree.Tree.{Tree, App, Int, Str, Hole, out-Tree, roll-Tree, roll-out-Tree}
use Rattle.gft_core.specs.declared.tree.Tree.TheOpen.{Tree-F}
use Rattle.gft_core.specs.declared.tree.Tree.TheOpen as layer
use Rattle.gft_core.specs.declared.tree.Tree.TheVariants.{rolls-App, rolls-Int, rolls-Str, rolls-Hole, outs-App, outs-Int, outs-Str, outs-Hole}
use Rattle.gft_pmcfg.specs.declared.signature.AType.{AType}
use Rattle.gft_model.proofs.Layers.{Each, induction}
use Rattle.gft_model.proofs.LineReadings.{Decided, same_or_not}

-- a tree is one of four forms
pub by_form : {A : Type 0} (t : Tree) → ((f : List ℕ) (ts : List Tree) → t ≡ App f ts → A) → ((n : ℕ) → t ≡ Int n → A)
    → ((w : List ℕ) → t ≡ Str w → A) → ((k : ℕ) → t ≡ Hole k → A) → A
by_form {A} t app int str hole = of (out-Tree t) refl where
  is : (l : Tree-F Tree) → out-Tree t ≡ l → t ≡ roll-Tree l
  is l e = sym (roll-out-Tree t) ∙ ap roll-Tree e

  of : (l : Tree-F Tree) → out-Tree t ≡ l → A
  of (layer.App f ts) e = app f ts (is (layer.App f ts) e ∙ rolls-App f ts)
  of (layer.Int n) e = int n (is (layer.Int n) e ∙ rolls-Int n)
  of (layer.Str w) e = str w (is (layer.Str w) e ∙ rolls-Str w)
  of (layer.Hole k) e = hole k (is (layer.Hole k) e ∙ rolls-Hole k)

-- equal trees have equal layers
layers_of : {t u : Tree} {x y : Tree-F Tree} → t ≡ u → out-Tree t ≡ x → out-Tree u ≡ y → x ≡ y
layers_of e i j = sym i ∙ ap out-Tree e ∙ j

pub same_number_or_not : (n m : ℕ) → Decided (n ≡ m)
same_number_or_not n m = ⊎_elim {C = Decided (n ≡ m)} (λ (h : (eqb n m ≡ true) × (n ≡ m)). inl h.1)
    (λ (h : (eqb n m ≡ false) × (¬ (n ≡ m))). inr h.1) (eqb_tells n m)

abbrev IsTold : Tree → Type 0
IsTold t = (u : Tree) → Decided (t ≡ u)

lists_told : (ts : List Tree) → Each IsTold ts → (us : List Tree) → Decided (ts ≡ us)
lists_told [] told [] = inl refl
lists_told [] told (u ∷ us) = inr (λ e. cc)
lists_told (t ∷ ts) told [] = inr (λ e. cc)
lists_told (t ∷ ts) told (u ∷ us) = ⊎_elim {C = Decided (t ∷ ts ≡ u ∷ us)}
    (λ h. ⊎_elim {C = Decided (t ∷ ts ≡ u ∷ us)} (λ k. inl cc) (λ n. inr (λ e. n cc)) (lists_told ts told.1 us))
    (λ n. inr (λ e. n cc)) (told.0 u)

pub same_tree : (t u : Tree) → Decided (t ≡ u)
same_tree = induction IsTold app int str hole where
  app : (f : List ℕ) (ts : List Tree) → Each IsTold ts → IsTold (App f ts)
  app f ts each u = by_form u (λ g us e. parts g us e (same_or_not f g) (lists_told ts each us))
      (λ n e. inr (λ h. let l = layers_of h (outs-App f ts) (ap out-Tree e ∙ outs-Int n) in cc))
      (λ w e. inr (λ h. let l = layers_of h (outs-App f ts) (ap out-Tree e ∙ outs-Str w) in cc))
      (λ k e. inr (λ h. let l = layers_of h (outs-App f ts) (ap out-Tree e ∙ outs-Hole k) in cc)) where
        parts : (g : List ℕ) (us : List Tree) → u ≡ App g us → (f ≡ g) ⊎ (¬ (f ≡ g)) → Decided (ts ≡ us) → Decided (App f ts ≡ u)
        parts g us e (inl i) (inl j) = inl (ap (λ x. App x ts) i ∙ ap (App g) j ∙ sym e)
        parts g us e (inl i) (inr n) = inr (λ h. let l = layers_of h (outs-App f ts) (ap out-Tree e ∙ outs-App g us) in n cc)
        parts g us e (inr n) j = inr (λ h. let l = layers_of h (outs-App f ts) (ap out-Tree e ∙ outs-App g us) in n cc)

  int : (n : ℕ) → IsTold (Int n)
  int n u = by_form u (λ g us e. inr (λ h. let l = layers_of h (outs-Int n) (ap out-Tree e ∙ outs-App g us) in cc))
      (λ m e. ⊎_elim {C = Decided (Int n ≡ u)} (λ i. inl (ap Int i ∙ sym e))
      (λ d. inr (λ h. let l = layers_of h (outs-Int n) (ap out-Tree e ∙ outs-Int m) in d cc)) (same_number_or_not n m))
      (λ w e. inr (λ h. let l = layers_of h (outs-Int n) (ap out-Tree e ∙ outs-Str w) in cc))
      (λ k e. inr (λ h. let l = layers_of h (outs-Int n) (ap out-Tree e ∙ outs-Hole k) in cc))

  str : (w : List ℕ) → IsTold (Str w)
  str w u = by_form u (λ g us e. inr (λ h. let l = layers_of h (outs-Str w) (ap out-Tree e ∙ outs-App g us) in cc))
      (λ n e. inr (λ h. let l = layers_of h (outs-Str w) (ap out-Tree e ∙ outs-Int n) in cc))
      (λ v e. ⊎_elim {C = Decided (Str w ≡ u)} (λ i. inl (ap Str i ∙ sym e))
      (λ d. inr (λ h. let l = layers_of h (outs-Str w) (ap out-Tree e ∙ outs-Str v) in d cc)) (same_or_not w v))
      (λ k e. inr (λ h. let l = layers_of h (outs-Str w) (ap out-Tree e ∙ outs-Hole k) in cc))

  hole : (k : ℕ) → IsTold (Hole k)
  hole k u = by_form u (λ g us e. inr (λ h. let l = layers_of h (outs-Hole k) (ap out-Tree e ∙ outs-App g us) in cc))
      (λ n e. inr (λ h. let l = layers_of h (outs-Hole k) (ap out-Tree e ∙ outs-Int n) in cc))
      (λ w e. inr (λ h. let l = layers_of h (outs-Hole k) (ap out-Tree e ∙ outs-Str w) in cc))
      (λ m e. ⊎_elim {C = Decided (Hole k ≡ u)} (λ i. inl (ap Hole i ∙ sym e))
      (λ d. inr (λ h. let l = layers_of h (outs-Hole k) (ap out-Tree e ∙ outs-Hole m) in d cc)) (same_number_or_not k m))

same_trees : (ts us : List Tree) → Decided (ts ≡ us)
same_trees [] [] = inl refl
same_trees [] (u ∷ us) = inr (λ e. cc)
same_trees (t ∷ ts) [] = inr (λ e. cc)
same_trees (t ∷ ts) (u ∷ us) = ⊎_elim {C = Decided (t ∷ ts ≡ u ∷ us)}
    (λ h. ⊎_elim {C = Decided (t ∷ ts ≡ u ∷ us)} (λ k. inl cc) (λ n. inr (λ e. n cc)) (same_trees ts us))
    (λ n. inr (λ e. n cc)) (same_tree t u)

pub same_type : (s t : AType) → Decided (s ≡ t)
same_type s t = ⊎_elim {C = Decided (s ≡ t)}
    (λ h. ⊎_elim {C = Decided (s ≡ t)} (λ k. inl (λ i. record { cat = h i; args = k i }))
    (λ n. inr (λ e. n (ap (λ (x : AType). x.args) e))) (same_trees s.args t.args))
    (λ n. inr (λ e. n (ap (λ (x : AType). x.cat) e))) (same_number_or_not s.cat t.cat)
