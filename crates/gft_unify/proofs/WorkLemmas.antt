-- One step of taking pairs apart, and what is left after it.
use Rattle.std.proofs.Common.{◌≡◌, ◌≢◌, inl, inr, ◌↔◌, ℕ, ◌+◌, ◌<◌, ◌≤◌, Bool, true, false, cond, Err, subst₂, Some, nat_eq, zero, suc, take, get_or, append_assoc, add-one, List, [], ◌∷◌, ◌++◌, map, length, zip, None, Bor, refl, sym, ap, ap₂, subst, ◌∙◌, arith}
use Rattle.std.specs.Map.{lookup}
use Rattle.gft_core.specs.declared.tree.Tree.{Tree, out-Tree}
use Rattle.gft_core.specs.declared.tree.Tree.TheVariants.{App, Hole, outs-App}
use Rattle.gft_unify.specs.declared.error.UnifyErr.{UnifyErr}
use Rattle.gft_unify.specs.declared.error.UnifyErr.TheVariants.{Clash, Occurs, NoMemory}
use Rattle.gft_unify.specs.Layers.{induction}
use Rattle.gft_unify.specs.Instances.{inst, total, node_count, IsNoHole}
use Rattle.gft_unify.specs.Substitutions.{MakesEqual}
use Rattle.gft_unify.specs.Parts.{Among, IsPart, argument, ArePairedParts, AreBoundParts}
use Rattle.gft_unify.specs.Heads.{Head, head_of, IsClash}
use Rattle.gft_unify.specs.Bindings.{Respects, IsEnd}
use Rattle.gft_unify.specs.Comparison.{IsSplit}
use Rattle.gft_unify.specs.Work.{pairs_of, AmountsTo, AmountsToBinding, pair_size, IsRefusal, FindsBinding, StaysInside}
use Rattle.gft_unify.proofs.Equations.{inst-App, inst-Int, inst-Str, inst-Hole, node_count-App, node_count-Int, node_count-Str, node_count-Hole, head_of-App}

pub pairs_of-push : (work : List (Bor Tree × Bor Tree)) (a b : Bor Tree) → pairs_of (work ++ (a, b) ∷ []) ≡ pairs_of work ++ (a.now, b.now) ∷ []
pairs_of-push [] a b = refl
pairs_of-push (p ∷ ps) a b = ap (λ ps. ((p.0).now, (p.1).now) ∷ ps) (pairs_of-push ps a b)

-- lists of pairs, one after another
module _ (θ : ℕ → Tree) where
  pub MakesEqual-append : (ps qs : List (Tree × Tree)) → MakesEqual θ (ps ++ qs) ↔ (MakesEqual θ ps × MakesEqual θ qs)
  MakesEqual-append [] qs = (λ h. (tt, h), λ h. h.1)
  MakesEqual-append (p ∷ ps) qs =
      let rest = MakesEqual-append ps qs in
      (λ h. ((h.0, (rest.0 h.1).0), (rest.0 h.1).1), λ h. (h.0.0, rest.1 (h.0.1, h.1)))

  -- applications of one function have equal instances exactly where their arguments have
  zipped : (xs ys : List Tree) → length xs ≡ length ys → map (inst θ) xs ≡ map (inst θ) ys → MakesEqual θ (zip xs ys)
  zipped [] [] l e = tt
  zipped [] (y ∷ ys) l e = tt
  zipped (x ∷ xs) [] l e = tt
  zipped (x ∷ xs) (y ∷ ys) l e =
      let first : inst θ x ≡ inst θ y = cc in let rest : map (inst θ) xs ≡ map (inst θ) ys = cc in let long : length xs ≡ length ys = cc in
      (first, zipped xs ys long rest)

  unzipped : (xs ys : List Tree) → length xs ≡ length ys → MakesEqual θ (zip xs ys) → map (inst θ) xs ≡ map (inst θ) ys
  unzipped [] [] l h = refl
  unzipped [] (y ∷ ys) l h = absurd cc
  unzipped (x ∷ xs) [] l h = absurd cc
  unzipped (x ∷ xs) (y ∷ ys) l h = let long : length xs ≡ length ys = cc in ap₂ ◌∷◌ h.0 (unzipped xs ys long h.1)

  arguments_equal : (f : List ℕ) (us vs : List Tree) → App f us ≡ App f vs → us ≡ vs
  arguments_equal f us vs e = let layers = sym (outs-App f us) ∙ ap out-Tree e ∙ outs-App f vs in cc

  pub equal_applications : (f : List ℕ) (xs ys : List Tree) → length xs ≡ length ys → (inst θ (App f xs) ≡ inst θ (App f ys)) ↔ MakesEqual θ (zip xs ys)
  equal_applications f xs ys l = (
    λ e. zipped xs ys l (arguments_equal f _ _ (sym (inst-App θ f xs) ∙ e ∙ inst-App θ f ys)),
    λ h. inst-App θ f xs ∙ ap (App f) (unzipped xs ys l h) ∙ sym (inst-App θ f ys),
  )

  Kept : Tree → Type 0
  Kept t = IsNoHole t → head_of (inst θ t) ≡ head_of t

  length-insts : (xs : List Tree) → length (map (inst θ) xs) ≡ length xs
  length-insts [] = refl
  length-insts (x ∷ xs) = let rest = length-insts xs in cc

  -- an instance keeps the head of a tree that is no hole
  head_of-inst : (t : Tree) → IsNoHole t → head_of (inst θ t) ≡ head_of t
  unfolding Kept
  head_of-inst = induction Kept
      (λ f xs p w. ap head_of (inst-App θ f xs) ∙ head_of-App f _ ∙ ap (Head.function f) (length-insts xs) ∙ sym (head_of-App f xs))
      (λ n w. ap head_of (inst-Int θ n)) (λ v w. ap head_of (inst-Str θ v)) (λ k w. absurd (w k refl))

  pub clash_apart : (a b : Tree) → IsClash a b → inst θ a ≢ inst θ b
  clash_apart a b h e = h.0 (sym (head_of-inst a h.1) ∙ ap head_of e ∙ head_of-inst b h.2)

-- the pair of a0 and b0 was taken from the pairs, and a and b stand for these
module _ (bs : List (ℕ × Tree)) (old cur new : List (Tree × Tree)) (a0 b0 a b : Tree) (popped : cur ≡ new ++ (a0, b0) ∷ [])
    (left : (θ : ℕ → Tree) → Respects θ bs → inst θ a ≡ inst θ a0) (right : (θ : ℕ → Tree) → Respects θ bs → inst θ b ≡ inst θ b0)
    (amounts : AmountsTo bs old cur) where
  opened : (θ : ℕ → Tree) → Respects θ bs → MakesEqual θ old ↔ (MakesEqual θ new × (inst θ a ≡ inst θ b))
  opened θ r =
      let apart = MakesEqual-append θ new ((a0, b0) ∷ []) in (
        λ h. let parts = apart.0 (subst (MakesEqual θ) popped ((amounts θ r).0 h)) in (parts.0, left θ r ∙ parts.1.0 ∙ sym (right θ r)),
        λ h. (amounts θ r).1 (subst (MakesEqual θ) (sym popped) (apart.1 (h.0, (sym (left θ r) ∙ h.1 ∙ right θ r, tt)))),
      )

  pub amounts-same : a ≡ b → AmountsTo bs old new
  amounts-same e θ r = (λ h. ((opened θ r).0 h).0, λ h. (opened θ r).1 (h, ap (inst θ) e))

  pub amounts-bind : (k : ℕ) (t : Tree) → IsSplit a b k t → AmountsToBinding bs old new k t
  amounts-bind k t (inl s) θ r = (
    λ h. let o = (opened θ r).0 h in (o.0, sym (inst-Hole θ k) ∙ ap (inst θ) (sym s.0) ∙ o.1 ∙ ap (inst θ) s.1),
    λ h. (opened θ r).1 (h.0, ap (inst θ) s.0 ∙ inst-Hole θ k ∙ h.1 ∙ ap (inst θ) (sym s.1)),
  )
  amounts-bind k t (inr s) θ r = (
    λ h. let o = (opened θ r).0 h in (o.0, sym (inst-Hole θ k) ∙ ap (inst θ) (sym s.0) ∙ sym o.1 ∙ ap (inst θ) s.1),
    λ h. (opened θ r).1 (h.0, ap (inst θ) s.1 ∙ sym h.1 ∙ sym (inst-Hole θ k) ∙ ap (inst θ) (sym s.0)),
  )

  pub amounts-descend : (xs ys : List Tree) → ((f : List ℕ) × (a ≡ App f xs) × (b ≡ App f ys)) → length xs ≡ length ys → AmountsTo bs old (new ++ zip xs ys)
  amounts-descend xs ys (f, ea, eb) l θ r =
      let both = equal_applications θ f xs ys l in let apart = MakesEqual-append θ new (zip xs ys) in (
        λ h. let o = (opened θ r).0 h in apart.1 (o.0, both.0 (ap (inst θ) (sym ea) ∙ o.1 ∙ ap (inst θ) eb)),
        λ h. let parts = apart.0 h in (opened θ r).1 (parts.0, ap (inst θ) ea ∙ both.1 parts.1 ∙ ap (inst θ) (sym eb)),
      )

  pub amounts-clash : IsClash a b → (θ : ℕ → Tree) → Respects θ bs → ¬ MakesEqual θ old
  amounts-clash h θ r m = clash_apart θ a b h ((opened θ r).0 m).1

module _ (bs : List (ℕ × Tree)) (a b : Tree) (left : IsEnd bs a) (right : IsEnd bs b) (k : ℕ) (t : Tree) where
  pub split-loose : IsSplit a b k t → lookup (nat_eq k) bs ≡ None
  split-loose (inl s) = left k s.0
  split-loose (inr s) = right k s.0

  pub split-end : IsSplit a b k t → IsEnd bs t
  split-end (inl s) j e = right j (s.1 ∙ e)
  split-end (inr s) j e = left j (s.1 ∙ e)

-- sizes
module _ (s : ℕ → Tree) where
  pub total-append : {X : Type 0} (f : X → ℕ) (xs ys : List X) → total f (xs ++ ys) ≡ total f xs + total f ys
  total-append f [] ys = omega arith
  total-append f (x ∷ xs) ys = omega (arith, total-append f xs ys)

  Positive : Tree → Type 0
  Positive t = 0 < node_count t

  pub node_count-positive : (t : Tree) → 0 < node_count t
  unfolding Positive
  node_count-positive = induction Positive (λ f xs p. omega (arith, node_count-App f xs)) (λ n. omega (arith, node_count-Int n)) (λ w. omega (arith, node_count-Str w)) (λ k. omega (arith, node_count-Hole k))

  total-zip : (xs ys : List Tree) → total (pair_size s) (zip xs ys) ≤ total node_count (map (inst s) xs) + total node_count (map (inst s) ys)
  total-zip [] ys = omega arith
  total-zip (x ∷ xs) [] = omega arith
  total-zip (x ∷ xs) (y ∷ ys) = omega (arith, total-zip xs ys)

  module _ (cur new : List (Tree × Tree)) (a0 b0 a b : Tree) (popped : cur ≡ new ++ (a0, b0) ∷ [])
      (left : inst s a ≡ inst s a0) (right : inst s b ≡ inst s b0) where
    size : total (pair_size s) cur ≡ total (pair_size s) new + (node_count (inst s a) + node_count (inst s b))
    size =
        let whole = ap (total (pair_size s)) popped ∙ total-append (pair_size s) new ((a0, b0) ∷ []) in
        let l = ap node_count left in let r = ap node_count right in omega arith

    pub smaller-same : total (pair_size s) new < total (pair_size s) cur
    smaller-same = omega (arith, size, node_count-positive (inst s a))

    pub smaller-descend : (xs ys : List Tree) → ((f : List ℕ) × (a ≡ App f xs) × (b ≡ App f ys)) → total (pair_size s) (new ++ zip xs ys) < total (pair_size s) cur
    smaller-descend xs ys (f, ea, eb) =
        let l : node_count (inst s a) ≡ total node_count (map (inst s) xs) + 1 = ap node_count (ap (inst s) ea ∙ inst-App s f xs) ∙ node_count-App f _ in
        let r : node_count (inst s b) ≡ total node_count (map (inst s) ys) + 1 = ap node_count (ap (inst s) eb ∙ inst-App s f ys) ∙ node_count-App f _ in
        omega (arith, size, total-append (pair_size s) new (zip xs ys), total-zip xs ys)

-- parts
module _ (pairs : List (Tree × Tree)) where
  pub paired-append : (ps qs : List (Tree × Tree)) → ArePairedParts pairs ps → ArePairedParts pairs qs → ArePairedParts pairs (ps ++ qs)
  paired-append [] qs h w = w
  paired-append (p ∷ ps) qs h w = (h.0, paired-append ps qs h.1 w)

  pub paired-push : (ps : List (Tree × Tree)) (a b : Tree) → ArePairedParts pairs (ps ++ (a, b) ∷ []) → ArePairedParts pairs ps × IsPart pairs a × IsPart pairs b
  paired-push [] a b h = (tt, h.0.0, h.0.1)
  paired-push (p ∷ ps) a b h = let rest = paired-push ps a b h.1 in ((h.0, rest.0), rest.1, rest.2)

  pub paired-zip : (xs ys : List Tree) → ((x : Tree) → Among x xs → IsPart pairs x) → ((y : Tree) → Among y ys → IsPart pairs y) → ArePairedParts pairs (zip xs ys)
  paired-zip [] ys h w = tt
  paired-zip (x ∷ xs) [] h w = tt
  paired-zip (x ∷ xs) (y ∷ ys) h w =
      ((h x (inl refl), w y (inl refl)), paired-zip xs ys (λ z m. h z (inr m)) (λ z m. w z (inr m)))

  pub parts-descend : (a b : Tree) (xs ys : List Tree) → ((f : List ℕ) × (a ≡ App f xs) × (b ≡ App f ys)) → IsPart pairs a → IsPart pairs b → ArePairedParts pairs (zip xs ys)
  parts-descend a b xs ys (f, ea, eb) pa pb =
      paired-zip xs ys (λ x m. argument f xs x (subst (IsPart pairs) ea pa) m) (λ y m. argument f ys y (subst (IsPart pairs) eb pb) m)

  pub parts-bind : (a b : Tree) (k : ℕ) (t : Tree) → IsSplit a b k t → IsPart pairs a → IsPart pairs b → IsPart pairs (Hole k) × IsPart pairs t
  parts-bind a b k t (inl s) pa pb = (subst (IsPart pairs) s.0 pa, subst (IsPart pairs) s.1 pb)
  parts-bind a b k t (inr s) pa pb = (subst (IsPart pairs) s.0 pb, subst (IsPart pairs) s.1 pa)

  pub bound-part : (bs : List (ℕ × Tree)) (k : ℕ) (t : Tree) → AreBoundParts pairs bs → lookup (nat_eq k) bs ≡ Some t → IsPart pairs t
  bound-part [] k t h e = absurd cc
  bound-part (c ∷ bs) k t h e = by (nat_eq k c.0) refl (bound-part bs k t h.1)
    where
      by : (b : Bool) → nat_eq k c.0 ≡ b → (lookup (nat_eq k) bs ≡ Some t → IsPart pairs t) → IsPart pairs t
      by true q rest =
          let same : Some c.1 ≡ Some t = sym (ap (λ b. cond b (Some c.1) (lookup (nat_eq k) bs)) q) ∙ e in
          let tree : c.1 ≡ t = cc in subst (IsPart pairs) tree h.0.1
      by false q rest = rest (sym (ap (λ b. cond b (Some c.1) (lookup (nat_eq k) bs)) q) ∙ e)

  pub bound-push : (bs : List (ℕ × Tree)) (k : ℕ) (t : Tree) → AreBoundParts pairs bs → IsPart pairs (Hole k) → IsPart pairs t → AreBoundParts pairs (bs ++ (k, t) ∷ [])
  bound-push [] k t h hole tree = ((hole, tree), tt)
  bound-push (c ∷ bs) k t h hole tree = (h.0, bound-push bs k t h.1 hole tree)

zip-take_more : (xs ys : List Tree) (i : ℕ) (x y : Tree) → i < length xs → i < length ys → x ≡ get_or xs i x → y ≡ get_or ys i y → zip (take (suc i) xs) (take (suc i) ys) ≡ zip (take i xs) (take i ys) ++ (x, y) ∷ []
zip-take_more [] ys i x y h w e d = absurd (omega arith)
zip-take_more (a ∷ xs) [] i x y h w e d = absurd (omega arith)
zip-take_more (a ∷ xs) (b ∷ ys) zero x y h w e d = ap₂ (λ u v. (u, v) ∷ []) (sym e) (sym d)
zip-take_more (a ∷ xs) (b ∷ ys) (suc i) x y h w e d =
    ap (λ ps. (a, b) ∷ ps) (zip-take_more xs ys i x y (omega arith) (omega arith) e d)

-- one more pair of partners
pub zip_more : (there before after : List (Tree × Tree)) (xs ys : List Tree) (i : ℕ) (x y : Tree) → i < length xs → i < length ys → x ≡ get_or xs i x → y ≡ get_or ys i y
    → before ≡ there ++ zip (take i xs) (take i ys) → after ≡ before ++ (x, y) ∷ [] → after ≡ there ++ zip (take (i + 1) xs) (take (i + 1) ys)
zip_more there before after xs ys i x y h w e d b a =
    a ∙ ap (λ ps. ps ++ (x, y) ∷ []) b ∙ append_assoc there (zip (take i xs) (take i ys)) ((x, y) ∷ []) ∙ ap (λ ps. there ++ ps) (sym (zip-take_more xs ys i x y h w e d))
    ∙ ap (λ n. there ++ zip (take n xs) (take n ys)) (sym (add-one i))

-- the two trees of a refusal
pub refusal_found : (bs : List (ℕ × Tree)) (old new : List (Tree × Tree)) (a b : Tree) (e : UnifyErr) → IsRefusal a b e → IsClash a b → ((θ : ℕ → Tree) → Respects θ bs → ¬ MakesEqual θ old) → FindsBinding bs old new (Err e)
refusal_found bs old new a b (Clash x y) r h w = (subst₂ IsClash (sym r.0) (sym r.1) h, w)
refusal_found bs old new a b (Occurs k t) r h w = r
refusal_found bs old new a b NoMemory r h w = tt

pub refusal_parts : (pairs new : List (Tree × Tree)) (a b : Tree) (e : UnifyErr) → IsRefusal a b e → IsPart pairs a → IsPart pairs b → StaysInside pairs new (Err e)
refusal_parts pairs new a b (Clash x y) r h w = (subst (IsPart pairs) (sym r.0) h, subst (IsPart pairs) (sym r.1) w)
refusal_parts pairs new a b (Occurs k t) r h w = tt
refusal_parts pairs new a b NoMemory r h w = tt

pub empty : {X : Type 0} (xs : List X) → length xs ≡ 0 → xs ≡ []
empty [] e = refl
empty (x ∷ xs) e = absurd cc
