-- One more binding, and what all bindings together give.
use Rattle.std.proofs.Common.{◌≡◌, ◌≢◌, ◌⊎◌, ◌↔◌, inl, inr, ⊎_elim, ℕ, zero, suc, ◌+◌, ◌<◌, Bool, true, false, cond, nat_eq, List, [], ◌∷◌, ◌++◌, take, Option, None, Some, Ok, Err, unwrap_or, slice_get, Bor, refl, sym, ap, subst, ◌∙◌, add-one, eq-eqb, true≢false, arith}
use Rattle.std.specs.Option.{is_none, option_map}
use Rattle.std.specs.Bool.{IsTrue}
use Rattle.std.specs.Map.{lookup}
use Rattle.std.proofs.lemmas.Bool.Decides.{eqb_tells}
use Rattle.gft_core.specs.declared.tree.Tree.{Tree}
use Rattle.gft_core.specs.declared.tree.Tree.TheVariants.{Hole}
use Rattle.gft_unify.specs.declared.error.UnifyErr.{UnifyErr}
use Rattle.gft_unify.specs.declared.error.UnifyErr.TheVariants.{Clash, Occurs, NoMemory}
use Rattle.gft_unify.specs.Layers.{induction}
use Rattle.gft_unify.specs.Instances.{inst, hole_count, StandsIn}
use Rattle.gft_unify.specs.Substitutions.{tree_at, MakesEqual, IsMostGeneral, HasNoUnifier, hole_count_of_pairs, KeepsTo}
use Rattle.gft_unify.specs.Parts.{Among, left, right, ArePairedParts, AreBoundParts}
use Rattle.gft_unify.specs.Heads.{Head, head_of}
use Rattle.gft_unify.specs.Bindings.{only, with_binding, solved_from, solved, Respects, IsAcyclic, IsEnd, HasSolvedFirst, HasSolved}
use Rattle.gft_unify.specs.Work.{FindsBinding, StaysInside, IsWhatIsLeft}
use Rattle.gft_unify.specs.Refusals.{IsRefused, IsCycle}
use Rattle.gft_unify.proofs.Equations.{inst-App, inst-Int, inst-Str, inst-Hole, head_of-App, head_of-Int, head_of-Str, head_of-Hole, StandsIn-Hole, hole_count-other}
use Rattle.gft_unify.proofs.TreeLemmas.{inst-inst, inst-equal, hole_count-inst}
use Rattle.gft_unify.proofs.OccursLemmas.{occurs}
use Rattle.gft_unify.proofs.BindingLemmas.{lookup-push_other, lookup-push_none, Respects-push, Respects-front, solved-respected}
use Rattle.gft_unify.proofs.CountLemmas.{hole_count-part, stands_in_pairs, count_less}

-- pairs are made of their own parts
paired-within : (all ps : List (Tree × Tree)) → ((a b : Tree) → Among (a, b) ps → Among (a, b) all) → ArePairedParts all ps
paired-within all [] h = tt
paired-within all (p ∷ ps) h =
    let first = h p.0 p.1 (inl refl) in
    ((left p.0 p.1 first, right p.0 p.1 first), paired-within all ps (λ a b m. h a b (inr m)))

pub paired-self : (pairs : List (Tree × Tree)) → ArePairedParts pairs pairs
paired-self pairs = paired-within pairs pairs (λ a b m. m)

pub amounts-none : (pairs : List (Tree × Tree)) → IsWhatIsLeft pairs pairs []
amounts-none pairs θ = (λ h. (h, tt), λ h. h.0)

-- the old pairs with a refusal of them
pub refused-clash : (pairs old new : List (Tree × Tree)) (bs : List (ℕ × Tree)) (e : UnifyErr) → IsWhatIsLeft pairs old bs → FindsBinding bs old new (Err e) → StaysInside pairs new (Err e) → IsRefused pairs e
refused-clash pairs old new bs (Clash a b) amounts found parts =
    (λ θ h. let o = (amounts θ).0 h in found.1 θ o.1 o.0, (parts.0, parts.1, found.0))
refused-clash pairs old new bs (Occurs k t) amounts found parts = absurd found
refused-clash pairs old new bs NoMemory amounts found parts = tt

-- a tree that is no bound hole, and not the hole k, has another instance than k
module _ (s : ℕ → Tree) (bs : List (ℕ × Tree)) (k : ℕ) (loose : (j : ℕ) → lookup (nat_eq j) bs ≡ None → s j ≡ Hole j) where
  Ends : Tree → Type 0
  Ends t = IsEnd bs t → t ≢ Hole k → inst s t ≢ Hole k

  no_hole : (u : Tree) (h : Head) → head_of u ≡ h → h ≢ Head.hole k → u ≢ Hole k
  no_hole u h e apart w = apart (sym e ∙ ap head_of w ∙ head_of-Hole k)

  pub ended : (t : Tree) → IsEnd bs t → t ≢ Hole k → inst s t ≢ Hole k
  unfolding Ends
  ended = induction Ends
      (λ f xs p end ne. no_hole _ (Head.function f _) (ap head_of (inst-App s f xs) ∙ head_of-App f _) (λ w. cc))
      (λ n end ne. no_hole _ (Head.number n) (ap head_of (inst-Int s n) ∙ head_of-Int n) (λ w. cc))
      (λ v end ne. no_hole _ (Head.word v) (ap head_of (inst-Str s v) ∙ head_of-Str v) (λ w. cc))
      (λ j end ne w. ne (sym (loose j (end j refl)) ∙ sym (inst-Hole s j) ∙ w))

-- the next binding, of k to t
module _ (pairs old new : List (Tree × Tree)) (bs : List (ℕ × Tree)) (k : ℕ) (r : Bor Tree) (found : FindsBinding bs old new (Ok (Some (k, r))))
    (parts : StaysInside pairs new (Ok (Some (k, r)))) (amounts : IsWhatIsLeft pairs old bs) (acyclic : IsAcyclic bs) where
  pub refused-cycle : (u : Tree) → u ≡ inst (solved bs) r.now → StandsIn k (inst (solved bs) r.now) → HasNoUnifier pairs × IsCycle pairs k u
  refused-cycle u e stands =
      let other : inst (solved bs) r.now ≢ Hole k = ended (solved bs) bs k acyclic.loose r.now found.3 found.1 in (
        λ θ h.
            let o = (amounts θ).0 h in let equal = ((found.0 θ o.1).0 o.0).1 in
            let whole : θ k ≡ inst θ (inst (solved bs) r.now) = equal ∙ sym (inst-equal _ θ (solved-respected θ bs o.1) r.now) ∙ sym (inst-inst θ (solved bs) r.now) in
            occurs θ k (inst (solved bs) r.now) stands other whole,
        (parts.1, subst (StandsIn k) (sym e) stands, λ w. other (sym e ∙ w)),
      )

  pub amounts-more : IsWhatIsLeft pairs new (bs ++ (k, r.now) ∷ [])
  amounts-more θ = (
    λ h. let o = (amounts θ).0 h in let w = (found.0 θ o.1).0 o.0 in (w.0, Respects-push θ bs k r.now o.1 w.1),
    λ h. let w = Respects-front θ bs k r.now h.1 in (amounts θ).1 ((found.0 θ w.0).1 (h.0, w.1), w.0),
  )

  push_bound : (cs : List (ℕ × Tree)) → lookup (nat_eq k) cs ≡ None → is_none (lookup (nat_eq k) (cs ++ (k, r.now) ∷ [])) ≡ false
  push_bound [] e = ap (λ b. is_none (cond b (Some r.now) None)) (eq-eqb k k refl)
  push_bound (c ∷ cs) e = by (nat_eq k c.0) refl (push_bound cs)
    where
      by : (b : Bool) → nat_eq k c.0 ≡ b → (lookup (nat_eq k) cs ≡ None → is_none (lookup (nat_eq k) (cs ++ (k, r.now) ∷ [])) ≡ false) → is_none (lookup (nat_eq k) (c ∷ cs ++ (k, r.now) ∷ [])) ≡ false
      by true q rest = ap (λ b. is_none (cond b (Some c.1) (lookup (nat_eq k) (cs ++ (k, r.now) ∷ [])))) q
      by false q rest =
          ap (λ b. is_none (cond b (Some c.1) (lookup (nat_eq k) (cs ++ (k, r.now) ∷ [])))) q ∙ rest (sym (ap (λ b. cond b (Some c.1) (lookup (nat_eq k) cs)) q) ∙ e)

  none_from : (o : Option Tree) → is_none o ≡ true → o ≡ None
  none_from None e = refl
  none_from (Some x) e = absurd cc

  -- one hole of the pairs fewer is loose
  pub loose_less : (after : List (ℕ × Tree)) → after ≡ bs ++ (k, r.now) ∷ [] → hole_count_of_pairs (λ j. is_none (lookup (nat_eq j) after)) pairs < hole_count_of_pairs (λ j. is_none (lookup (nat_eq j) bs)) pairs
  loose_less after e =
      subst (λ cs. hole_count_of_pairs (λ j. is_none (lookup (nat_eq j) cs)) pairs < hole_count_of_pairs (λ j. is_none (lookup (nat_eq j) bs)) pairs) (sym e)
      (count_less (λ j. is_none (lookup (nat_eq j) bs)) (λ j. is_none (lookup (nat_eq j) (bs ++ (k, r.now) ∷ []))) k
      (λ j w. ap is_none (lookup-push_none bs k r.now j (none_from (lookup (nat_eq j) (bs ++ (k, r.now) ∷ [])) w)).0)
      (ap is_none found.2) (push_bound bs found.2) pairs (stands_in_pairs pairs k parts.1))

-- a hole that was not found does not stand in the tree
pub absent-from_search : (b : Bool) (k : ℕ) (t : Tree) → b ≡ false → (StandsIn k t → IsTrue b) → hole_count (nat_eq k) t ≡ 0
absent-from_search b k t e stands = by (hole_count (nat_eq k) t) refl
  where
    by : (n : ℕ) → hole_count (nat_eq k) t ≡ n → hole_count (nat_eq k) t ≡ 0
    by zero q = q
    by (suc n) q = let yes_b = stands (omega arith) in absurd (true≢false (sym yes_b ∙ e))

-- the entry of the substitution at each binding
Respects-at : (θ : ℕ → Tree) (bs : List (ℕ × Tree)) (i k : ℕ) (t : Tree) → Respects θ bs → slice_get bs i ≡ Some (k, t) → θ k ≡ inst θ t
Respects-at θ [] i k t r e = absurd cc
Respects-at θ (b ∷ bs) zero k t r e =
    let first : b.0 ≡ k = cc in let second : b.1 ≡ t = cc in ap θ (sym first) ∙ r.0 ∙ ap (inst θ) second
Respects-at θ (b ∷ bs) (suc i) k t r e = Respects-at θ bs i k t r.1 e

take-at : (bs : List (ℕ × Tree)) (i : ℕ) (b : ℕ × Tree) → slice_get bs i ≡ Some b → take (suc i) bs ≡ take i bs ++ b ∷ []
take-at [] i b e = absurd cc
take-at (c ∷ bs) zero b e = let same : c ≡ b = cc in ap (λ d. d ∷ []) same
take-at (c ∷ bs) (suc i) b e = ap (λ ds. c ∷ ds) (take-at bs i b e)

constant-push : (v : Tree) (bs : List (ℕ × Tree)) (k : ℕ) (t : Tree) → option_map (λ x. v) (lookup (nat_eq k) (bs ++ (k, t) ∷ [])) ≡ Some v
constant-push v [] k t = ap (λ b. option_map (λ (x : Tree). v) (cond b (Some t) None)) (eq-eqb k k refl)
constant-push v (c ∷ bs) k t = by (nat_eq k c.0) refl (constant-push v bs k t)
  where
    by : (b : Bool) → nat_eq k c.0 ≡ b → option_map (λ x. v) (lookup (nat_eq k) (bs ++ (k, t) ∷ [])) ≡ Some v → option_map (λ x. v) (lookup (nat_eq k) (c ∷ bs ++ (k, t) ∷ [])) ≡ Some v
    by true q rest = ap (λ b. option_map (λ (x : Tree). v) (cond b (Some c.1) (lookup (nat_eq k) (bs ++ (k, t) ∷ [])))) q
    by false q rest = ap (λ b. option_map (λ (x : Tree). v) (cond b (Some c.1) (lookup (nat_eq k) (bs ++ (k, t) ∷ [])))) q ∙ rest

module _ (bs : List (ℕ × Tree)) (acyclic : IsAcyclic bs) where
  -- one more binding is solved
  pub solved_more : (before after : List (ℕ × Tree)) (i k : ℕ) (t u : Tree) → HasSolvedFirst before (take i bs) bs → slice_get bs i ≡ Some (k, t) → u ≡ inst (solved bs) t
      → ((j : ℕ) → lookup (nat_eq j) after ≡ cond (nat_eq k j) (Some u) (lookup (nat_eq j) before)) → HasSolvedFirst after (take (i + 1) bs) bs
  solved_more before after i k t u h e v w j =
      let front : take (i + 1) bs ≡ take i bs ++ (k, t) ∷ [] = ap (λ n. take n bs) (add-one i) ∙ take-at bs i (k, t) e in
      w j ∙ by (eqb_tells k j) ∙ ap (λ ds. option_map (λ x. solved bs j) (lookup (nat_eq j) ds)) (sym front)
    where
      by : ((nat_eq k j ≡ true) × (k ≡ j)) ⊎ ((nat_eq k j ≡ false) × (k ≢ j)) → cond (nat_eq k j) (Some u) (lookup (nat_eq j) before) ≡ option_map (λ x. solved bs j) (lookup (nat_eq j) (take i bs ++ (k, t) ∷ []))
      by (inl same) =
          ap (λ b. cond b (Some u) (lookup (nat_eq j) before)) same.0 ∙ ap (λ z. Some z) (v ∙ sym (Respects-at (solved bs) bs i k t acyclic.respected e) ∙ ap (solved bs) same.1)
          ∙ sym (subst (λ n. option_map (λ x. solved bs j) (lookup (nat_eq j) (take i bs ++ (n, t) ∷ [])) ≡ Some (solved bs j)) (sym same.1) (constant-push (solved bs j) (take i bs) j t))
      by (inr other) =
          ap (λ b. cond b (Some u) (lookup (nat_eq j) before)) other.0 ∙ h j ∙ ap (option_map (λ x. solved bs j)) (sym (lookup-push_other (take i bs) k t j (λ e. other.1 (sym e))))

  module _ (sub : List (ℕ × Tree)) (has : HasSolved sub bs) where
    -- the substitution gives each hole what the bindings give it in the end
    pub tree_at-solved : (k : ℕ) → tree_at sub k ≡ solved bs k
    tree_at-solved k = ap (λ o. unwrap_or o (Hole k)) (has k) ∙ by (lookup (nat_eq k) bs) refl
      where
        by : (o : Option Tree) → lookup (nat_eq k) bs ≡ o → unwrap_or (option_map (λ t. solved bs k) (lookup (nat_eq k) bs)) (Hole k) ≡ solved bs k
        by None e = ap (λ o. unwrap_or (option_map (λ t. solved bs k) o) (Hole k)) e ∙ sym (acyclic.loose k e)
        by (Some t) e = ap (λ o. unwrap_or (option_map (λ t. solved bs k) o) (Hole k)) e

-- substitutions that are equal at each hole make the same pairs equal
MakesEqual-same : (θ φ : ℕ → Tree) → ((k : ℕ) → θ k ≡ φ k) → (pairs : List (Tree × Tree)) → MakesEqual φ pairs → MakesEqual θ pairs
MakesEqual-same θ φ e [] h = tt
MakesEqual-same θ φ e (p ∷ ps) h = (inst-equal θ φ e p.0 ∙ h.0 ∙ sym (inst-equal θ φ e p.1), MakesEqual-same θ φ e ps h.1)

-- all pairs are taken apart
module _ (pairs old new : List (Tree × Tree)) (bs sub : List (ℕ × Tree)) (o : Option (ℕ × Bor Tree)) (ended_with : o ≡ None) (found : FindsBinding bs old new (Ok o))
    (amounts : IsWhatIsLeft pairs old bs) (acyclic : IsAcyclic bs) (has : HasSolved sub bs) where
  nothing_left : (θ : ℕ → Tree) → MakesEqual θ pairs ↔ Respects θ bs
  nothing_left θ =
      let none = subst (λ p. FindsBinding bs old new (Ok p)) ended_with found in
      (λ h. ((amounts θ).0 h).1, λ r. (amounts θ).1 ((none.0 θ r).1 tt, r))

  pub unified-equal : MakesEqual (tree_at sub) pairs
  unified-equal = MakesEqual-same (tree_at sub) (solved bs) (tree_at-solved bs acyclic sub has) pairs ((nothing_left (solved bs)).1 acyclic.respected)

  pub unified-general : IsMostGeneral sub pairs
  unified-general θ h k = ap (inst θ) (tree_at-solved bs acyclic sub has k) ∙ solved-respected θ bs ((nothing_left θ).0 h) k

-- a hole that stands in no bound tree stands in no tree that the bindings give to another hole
module _ (k : ℕ) where
  abbrev Clean : List (ℕ × Tree) → Type 0
  Clean [] = Unit {0}
  Clean (b ∷ bs) = (hole_count (nat_eq k) b.1 ≡ 0) × Clean bs

  clean-with : (s : ℕ → Tree) (h : ℕ) (t : Tree) → ((j : ℕ) → j ≢ k → hole_count (nat_eq k) (s j) ≡ 0) → hole_count (nat_eq k) t ≡ 0 → (j : ℕ) → j ≢ k → hole_count (nat_eq k) (with_binding s (h, t) j) ≡ 0
  clean-with s h t clean none j ne =
      let inside : hole_count (nat_eq k) (inst s t) ≡ 0 = hole_count-inst (nat_eq k) s t (λ i stands. clean i (λ e. let same = ap (λ n. hole_count (nat_eq n) t) e in absurd (omega arith))) in
      hole_count-inst (nat_eq k) (only h (inst s t)) (s j) (λ m stands.
      let apart : k ≢ m = λ e. let same = ap (λ n. hole_count (nat_eq n) (s j)) e in let zero_here = clean j ne in absurd (omega arith) in
      ⊎_elim (λ p. ap (λ b. hole_count (nat_eq k) (cond b (inst s t) (Hole m))) p.0 ∙ inside) (λ p. ap (λ b. hole_count (nat_eq k) (cond b (inst s t) (Hole m))) p.0 ∙ hole_count-other k m apart) (eqb_tells h m))

  clean-from : (s : ℕ → Tree) (bs : List (ℕ × Tree)) → ((j : ℕ) → j ≢ k → hole_count (nat_eq k) (s j) ≡ 0) → Clean bs → (j : ℕ) → j ≢ k → hole_count (nat_eq k) (solved_from s bs j) ≡ 0
  clean-from s [] h c = h
  clean-from s (b ∷ bs) h c = clean-from (with_binding s b) bs (clean-with s b.0 b.1 h c.0) c.1

  module _ (pairs : List (Tree × Tree)) (none : hole_count_of_pairs (nat_eq k) pairs ≡ 0) where
    clean-parts : (bs : List (ℕ × Tree)) → AreBoundParts pairs bs → Clean bs
    clean-parts [] h = tt
    clean-parts (b ∷ bs) h = (hole_count-part (nat_eq k) pairs none b.1 h.0.1, clean-parts bs h.1)

    loose-parts : (bs : List (ℕ × Tree)) → AreBoundParts pairs bs → lookup (nat_eq k) bs ≡ None
    loose-parts [] h = refl
    loose-parts (b ∷ bs) h = by (eqb_tells k b.0) (loose-parts bs h.1)
      where
        by : ((nat_eq k b.0 ≡ true) × (k ≡ b.0)) ⊎ ((nat_eq k b.0 ≡ false) × (k ≢ b.0)) → lookup (nat_eq k) bs ≡ None → lookup (nat_eq k) (b ∷ bs) ≡ None
        by (inl same) rest =
            let zero_there = hole_count-part (nat_eq k) pairs none (Hole b.0) h.0.0 in
            let one : StandsIn k (Hole b.0) = subst (λ n. StandsIn k (Hole n)) same.1 (StandsIn-Hole k) in absurd (omega arith)
        by (inr other) rest = ap (λ c. cond c (Some b.1) (lookup (nat_eq k) bs)) other.0 ∙ rest

pub unified-keeps : (pairs : List (Tree × Tree)) (bs sub : List (ℕ × Tree)) → IsAcyclic bs → HasSolved sub bs → AreBoundParts pairs bs → KeepsTo pairs sub
unified-keeps pairs bs sub acyclic has bound k none = (
  has k ∙ ap (option_map (λ t. solved bs k)) (loose-parts k pairs none bs bound),
  λ j ne. ap (hole_count (nat_eq k)) (tree_at-solved bs acyclic sub has j) ∙ clean-from k Hole bs (λ i apart. hole_count-other k i (λ e. apart (sym e))) (clean-parts k pairs none bs bound) j ne,
)
