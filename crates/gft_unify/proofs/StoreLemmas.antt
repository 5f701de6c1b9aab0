-- What the store's map says of its bindings.
use Rattle.std.proofs.Common.{◌≡◌, ℕ, suc, ◌-◌, ◌<◌, length, Bool, true, false, cond, nat_eq, List, [], ◌∷◌, ◌++◌, Option, None, Some, Bor, refl, sym, ap, ◌∙◌, arith}
use Rattle.std.specs.Option.{option_copied, IfSome}
use Rattle.std.specs.Map.{lookup}
use Rattle.std.proofs.lemmas.Map.Made.{lookup-map_values}
use Rattle.indexmap.specs.IndexMap.{insert_entry}
use Rattle.gft_core.specs.declared.tree.Tree.{Tree}
use Rattle.gft_core.specs.declared.tree.Tree.TheVariants.{Hole}
use Rattle.gft_unify.specs.Layers.{induction, folded-App, folded-Int, folded-Str, folded-Hole}
use Rattle.gft_unify.specs.Bindings.{seen, LinksOn, IsLater, bound_after, links_left}
use Rattle.gft_unify.proofs.BindingLemmas.{LinksOn-lookup, bound_after-le}

-- a loose hole is bound after all others
pub seen-insert : (es : List (ℕ × Bor Tree)) (k : ℕ) (r : Bor Tree) → lookup (nat_eq k) (seen es) ≡ None → seen (insert_entry nat_eq es k r) ≡ seen es ++ (k, r.now) ∷ []
seen-insert [] k r h = refl
seen-insert (e ∷ es) k r h = by (nat_eq k e.0) refl (seen-insert es k r)
  where
    by : (b : Bool) → nat_eq k e.0 ≡ b → (lookup (nat_eq k) (seen es) ≡ None → seen (insert_entry nat_eq es k r) ≡ seen es ++ (k, r.now) ∷ []) → seen (insert_entry nat_eq (e ∷ es) k r) ≡ seen (e ∷ es) ++ (k, r.now) ∷ []
    by true p rest = let found = sym (ap (λ b. cond b (Some (e.1).now) (lookup (nat_eq k) (seen es))) p) ∙ h in absurd cc
    by false p rest =
        let none = sym (ap (λ b. cond b (Some (e.1).now) (lookup (nat_eq k) (seen es))) p) ∙ h in
        ap (λ b. seen (cond b ((e.0, r) ∷ es) (e ∷ insert_entry nat_eq es k r))) p ∙ ap (λ bs. (e.0, (e.1).now) ∷ bs) (rest none)

pub seen-lookup : (es : List (ℕ × Bor Tree)) (k : ℕ) → option_copied (lookup (nat_eq k) es) ≡ lookup (nat_eq k) (seen es)
seen-lookup es k = sym (lookup-map_values (λ r. r.now) (nat_eq k) es)

pub found_later : (bs : List (ℕ × Tree)) (k : ℕ) (found : Option (Bor Tree)) → LinksOn bs → option_copied found ≡ lookup (nat_eq k) bs → IfSome found (λ t. IsLater bs k t.now)
found_later bs k None l e = tt
found_later bs k (Some t) l e = LinksOn-lookup bs k t.now l (sym e)

-- a chain of bound holes goes on to later ones
module _ (bs : List (ℕ × Tree)) (k : ℕ) where
  Fewer : Tree → Type 0
  Fewer t = IsLater bs k t → links_left bs t < links_left bs (Hole k)

  pub links_left-lt : (t : Tree) → IsLater bs k t → links_left bs t < links_left bs (Hole k)
  unfolding Fewer
  links_left-lt =
      let left = λ (j : ℕ). suc (length bs) - bound_after bs j in
      let here : links_left bs (Hole k) ≡ suc (length bs) - bound_after bs k = folded-Hole _ _ _ _ k in
      let small = bound_after-le bs k in
      induction Fewer (λ f xs p h. omega (arith, folded-App {A = ℕ} (λ g hs. 0) (λ n. 0) (λ w. 0) left f xs))
      (λ n h. omega (arith, folded-Int {A = ℕ} (λ g hs. 0) (λ m. 0) (λ w. 0) left n)) (λ w h. omega (arith, folded-Str {A = ℕ} (λ g hs. 0) (λ n. 0) (λ v. 0) left w))
      (λ j h. let less = h j refl in omega (arith, folded-Hole {A = ℕ} (λ g hs. 0) (λ n. 0) (λ w. 0) left j, bound_after-le bs j))
