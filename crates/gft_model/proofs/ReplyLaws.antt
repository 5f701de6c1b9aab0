-- Answers of `parse` and `complete` are determined.
use Rattle.std.proofs.Common.{◌≡◌, refl, sym, ap, ◌∙◌, subst, ℕ, zero, suc, List, [], ◌∷◌, ◌++◌, true, false, Bool, arith, ⊎_elim, inl, inr, ◌↔◌, append_assoc, append-nil, IsTrue, map}
use Rattle.std.specs.Prelude.{Contains, AllPairs, ◌⊎◌}
use Rattle.std.specs.Cmp.Lexicographic.{nat_list_cmp_total}
use Rattle.gft_core.specs.Words.{joined}
use Rattle.gft_core.specs.declared.tree.Tree.{Tree}
use Rattle.gft_pmcfg.specs.declared.signature.Abstract.{Abstract}
use Rattle.gft_model.specs.Commands.{Item, a_tree, a_line}
use Rattle.gft_model.specs.Listing.{Language, IsBefore, IsListed, IsListing}
use Rattle.gft_model.specs.Replies.{FailsAt, failed_line, Parses, listed, not_complete, no_tree, Completes, next, next_items, AreTexts}
use Rattle.gft_model.specs.Sentences.{Begins, IsSentence}
use Rattle.gft_model.specs.Trees.{text_of}
use Rattle.gft_model.proofs.SkeletonLaws.{skeleton}

-- IN ORDER

-- an order in which nothing is both before and behind
abbrev pub IsAsymmetric : {A : Type 0} → (A → A → Type 0) → Type 0
IsAsymmetric {A} R = (x y : A) → R x y → R y x → ⊥

pub before_once : IsAsymmetric IsBefore
before_once v w e f = let h = nat_list_cmp_total.antisymm v w in cc

module _ {A : Type 0} (R : A → A → Type 0) where
  -- a list in order: its tail, and its head before each of its tail
  tail_in_order : (x : A) (xs : List A) → AllPairs R (x ∷ xs) → AllPairs R xs
  tail_in_order x xs o i j d l m = o (suc i) (suc j) d (omega (arith, l)) (omega (arith, m))

  pub head_first : (x z : A) (xs : List A) → AllPairs R (x ∷ xs) → Contains xs z → R x z
  head_first x z xs o (k, b, e) = subst (R x) e (o zero (suc k) z (omega arith) (omega (arith, b)))

  -- an item is the first, or one of the others
  split_off : (x z : A) (xs : List A) → Contains (x ∷ xs) z → (x ≡ z) ⊎ Contains xs z
  split_off x z xs (zero, b, e) = inl e
  split_off x z xs (suc k, b, e) = inr (k, omega (arith, b), e)

  put_on : (x z : A) (xs : List A) → Contains xs z → Contains (x ∷ xs) z
  put_on x z xs (k, b, e) = (suc k, omega (arith, b), e)

  module _ (apart : IsAsymmetric R) where
    -- one half of what follows: the heads are equal, and so are the items of the tails
    same_heads : (x y : A) (xs ys : List A) → AllPairs R (x ∷ xs) → AllPairs R (y ∷ ys) → Contains (y ∷ ys) x
        → Contains (x ∷ xs) y
        → x ≡ y
    same_heads x y xs ys o p m n = ⊎_elim {C = x ≡ y} (λ e. sym e)
        (λ i. ⊎_elim {C = x ≡ y} (λ e. e) (λ j. absurd (apart x y (head_first x y xs o j) (head_first y x ys p i)))
        (split_off x y xs n)) (split_off y x ys m)

    in_tail : (x y z : A) (xs ys : List A) → AllPairs R (x ∷ xs) → x ≡ y → Contains xs z → Contains (y ∷ ys) z → Contains ys z
    in_tail x y z xs ys o e m n = ⊎_elim {C = Contains ys z}
        (λ f. let r : R x x = subst (R x) (sym (e ∙ f)) (head_first x z xs o m) in
        absurd (apart x x r r)) (λ i. i) (split_off y z ys n)

    -- two lists in order with the same items are equal
    pub order_once : (xs ys : List A) → AllPairs R xs → AllPairs R ys → ((z : A) → Contains xs z ↔ Contains ys z) → xs ≡ ys
    order_once [] [] o p h = refl
    order_once [] (y ∷ ys) o p h = let there = (h y).1 (zero, omega arith, refl) in absurd (omega (arith, there.1))
    order_once (x ∷ xs) [] o p h = let there = (h x).0 (zero, omega arith, refl) in absurd (omega (arith, there.1))
    order_once (x ∷ xs) (y ∷ ys) o p h =
        let heads : x ≡ y = same_heads x y xs ys o p ((h x).0 (zero, omega arith, refl)) ((h y).1 (zero, omega arith, refl)) in
        let tails : xs ≡ ys = order_once xs ys (tail_in_order x xs o) (tail_in_order y ys p)
        (λ z. (
          λ m. in_tail x y z xs ys o heads m ((h z).0 (put_on x z xs m)),
          λ m. in_tail y x z ys xs p (sym heads) m ((h z).1 (put_on y z ys m)),
        )) in cc

-- two lists with exactly the same members
pub same_members : {A : Type 0} {P : A → Type 0} (xs ys : List A) → ((z : A) → Contains xs z ↔ P z)
    → ((z : A) → Contains ys z ↔ P z)
    → (z : A) → Contains xs z ↔ Contains ys z
same_members xs ys h k z = (λ m. (k z).1 ((h z).0 m), λ m. (h z).1 ((k z).0 m))

-- LISTINGS, TEXTS AND NEXT WORDS

-- nothing stands before nothing
none_before : (xs ys : List (List ℕ)) → xs ++ ys ≡ [] → xs ≡ []
none_before [] ys e = refl
none_before (x ∷ xs) ys e = cc

-- two ways to take a word out of a list: the same, or one before the other
data Splits (b c : List (List ℕ)) (v w : List ℕ) : Type 0 where
  same : b ≡ c → v ≡ w → Splits b c v w
  shorter : (ys : List (List ℕ)) → c ≡ (b ++ v ∷ []) ++ ys → Splits b c v w
  longer : (ys : List (List ℕ)) → b ≡ (c ++ w ∷ []) ++ ys → Splits b c v w

splits : (b c : List (List ℕ)) (v w : List ℕ) (x y : List (List ℕ)) → b ++ v ∷ x ≡ c ++ w ∷ y → Splits b c v w
splits [] [] v w x y e = same refl cc
splits [] (d ∷ c) v w x y e = let h : d ≡ v = cc in shorter c (ap (λ u. u ∷ c) h)
splits (d ∷ b) [] v w x y e = let h : d ≡ w = cc in longer b (ap (λ u. u ∷ b) h)
splits (d ∷ b) (f ∷ c) v w x y e =
    let h : d ≡ f = cc in let t : b ++ v ∷ x ≡ c ++ w ∷ y = cc in under d f h (splits b c v w x y t) where
      under : (d f : List ℕ) → d ≡ f → Splits b c v w → Splits (d ∷ b) (f ∷ c) v w
      under d f h (same e k) = let whole : d ∷ b ≡ f ∷ c = cc in same whole k
      under d f h (shorter ys e) = let whole : f ∷ c ≡ ((d ∷ b) ++ v ∷ []) ++ ys = cc in shorter ys whole
      under d f h (longer ys e) = let whole : d ∷ b ≡ ((f ∷ c) ++ w ∷ []) ++ ys = cc in longer ys whole

module _ (a : Abstract) (L : Language) where
  abbrev TreeBefore : Tree → Tree → Type 0
  TreeBefore t s = IsBefore (text_of t) (text_of s)

  tree_before_once : IsAsymmetric TreeBefore
  tree_before_once t s e f = before_once (text_of t) (text_of s) e f

  listing_once : (cat : ℕ) (words : List (List ℕ)) (depth : ℕ) (ts us : List Tree) → IsListing a L cat words depth ts
      → IsListing a L cat words depth us → ts ≡ us
  listing_once cat words depth ts us x y =
      order_once TreeBefore tree_before_once ts us x.in_order y.in_order (same_members _ _ x.all y.all)

  pub texts_once : (t : Tree) (vs ws : List (List (List ℕ))) → AreTexts L t vs → AreTexts L t ws → vs ≡ ws
  texts_once t vs ws x y = order_once (λ v w. IsBefore (joined v) (joined w)) (λ v w. before_once (joined v) (joined w)) vs ws
      x.in_order y.in_order (same_members _ _ x.all y.all)

  -- a test that tells the same
  test_once : {P : Type 0} (b c : Bool) → IsTrue b ↔ P → IsTrue c ↔ P → b ≡ c
  test_once true true h k = refl
  test_once true false h k = let f = k.1 (h.0 refl) in cc
  test_once false true h k = let f = h.1 (k.0 refl) in cc
  test_once false false h k = refl

  -- what begins a sentence does so up to each of its words
  begins_before : (cat : ℕ) (xs ys : List (List ℕ)) → Begins a L cat (xs ++ ys) → Begins a L cat xs
  begins_before cat xs ys b = ⊎_elim {C = Begins a L cat xs} (λ e. inl (none_before xs ys e))
      (λ r. inr (ys ++ r.0, subst (IsSentence a L cat) (append_assoc xs ys r.0) r.1)) b

  sentence_begins : (cat : ℕ) (words : List (List ℕ)) → IsSentence a L cat words → Begins a L cat words
  sentence_begins cat words s = inr ([], subst (IsSentence a L cat) (sym (append-nil words)) s)

  listed_is_sentence : (cat : ℕ) (words : List (List ℕ)) (depth : ℕ) (p : Tree) → IsListed a L cat words depth p
      → IsSentence a L cat words
  listed_is_sentence cat words depth p x = record {
    tree = x.tree;
    of_category = skeleton x.typed;
    string = x.string;
    of_tree = x.of_tree;
    words_are = x.words_are;
  }

  -- words that begin a sentence do not fail
  begins_or_fails : (cat : ℕ) (words before : List (List ℕ)) (w : List ℕ) → Begins a L cat words
      → ¬ FailsAt a L cat words before w
  begins_or_fails cat words before w b f =
      let parts : words ≡ (before ++ w ∷ []) ++ f.after = f.parts ∙ sym (append_assoc before (w ∷ []) f.after) in
      f.begin_not (begins_before cat (before ++ w ∷ []) f.after (subst (Begins a L cat) parts b))

  fails_once : (cat : ℕ) (words b c : List (List ℕ)) (v w : List ℕ) → FailsAt a L cat words b v → FailsAt a L cat words c w
      → (b ≡ c) × (v ≡ w)
  fails_once cat words b c v w f g = of_splits (splits b c v w f.after g.after (sym f.parts ∙ g.parts)) where
    of_splits : Splits b c v w → (b ≡ c) × (v ≡ w)
    of_splits (same e h) = (e, h)
    of_splits (shorter ys e) =
        absurd (f.begin_not (begins_before cat (b ++ v ∷ []) ys (subst (Begins a L cat) e g.begin)))
    of_splits (longer ys e) =
        absurd (g.begin_not (begins_before cat (c ++ w ∷ []) ys (subst (Begins a L cat) e f.begin)))

  -- the one line of a notice
  notice_once : (cat : ℕ) (words b c : List (List ℕ)) (v w : List ℕ) → FailsAt a L cat words b v → FailsAt a L cat words c w
      → ◌≡◌ {A = List Item} (a_line (failed_line b v) ∷ []) (a_line (failed_line c w) ∷ [])
  notice_once cat words b c v w f g =
      let same = fails_once cat words b c v w f g in
      ap (λ k. a_line (failed_line k v) ∷ []) same.0 ∙ ap (λ u. a_line (failed_line c u) ∷ []) same.1

  -- a listed pattern is of a sentence
  some_listed : (cat : ℕ) (words : List (List ℕ)) (depth : ℕ) (t : Tree) (ts : List Tree)
      → IsListing a L cat words depth (t ∷ ts)
      → IsSentence a L cat words
  some_listed cat words depth t ts x = listed_is_sentence cat words depth t ((x.all t).0 (zero, omega arith, refl))

  pub parses_once : (cat : ℕ) (words : List (List ℕ)) (depth : ℕ) (items others : List Item) → Parses a L cat words depth items
      → Parses a L cat words depth others → items ≡ others
  parses_once cat words depth items others (listed {t} {ts} x) (listed {t = u} {ts = us} y) =
      ap (map a_tree) (listing_once cat words depth (t ∷ ts) (u ∷ us) x y)
  parses_once cat words depth items others (listed {t} {ts} x) (Parses.failed n w f) =
      absurd (begins_or_fails cat words n w (sentence_begins cat words (some_listed cat words depth t ts x)) f)
  parses_once cat words depth items others (listed {t} {ts} x) (not_complete b s) =
      absurd (s (some_listed cat words depth t ts x))
  parses_once cat words depth items others (listed {t} {ts} x) (no_tree s y) =
      let h = listing_once cat words depth (t ∷ ts) [] x y in cc
  parses_once cat words depth items others (Parses.failed n w f) (listed {t} {ts} x) =
      absurd (begins_or_fails cat words n w (sentence_begins cat words (some_listed cat words depth t ts x)) f)
  parses_once cat words depth items others (Parses.failed n w f) (Parses.failed m v g) = notice_once cat words n m w v f g
  parses_once cat words depth items others (Parses.failed n w f) (not_complete b s) = absurd (begins_or_fails cat words n w b f)
  parses_once cat words depth items others (Parses.failed n w f) (no_tree s y) =
      absurd (begins_or_fails cat words n w (sentence_begins cat words s) f)
  parses_once cat words depth items others (not_complete b s) (listed {t} {ts} x) =
      absurd (s (some_listed cat words depth t ts x))
  parses_once cat words depth items others (not_complete b s) (Parses.failed n w f) = absurd (begins_or_fails cat words n w b f)
  parses_once cat words depth items others (not_complete b s) (not_complete c r) = refl
  parses_once cat words depth items others (not_complete b s) (no_tree r y) = absurd (s r)
  parses_once cat words depth items others (no_tree s y) (listed {t} {ts} x) =
      let h = listing_once cat words depth (t ∷ ts) [] x y in cc
  parses_once cat words depth items others (no_tree s y) (Parses.failed n w f) =
      absurd (begins_or_fails cat words n w (sentence_begins cat words s) f)
  parses_once cat words depth items others (no_tree s y) (not_complete b r) = absurd (r s)
  parses_once cat words depth items others (no_tree s y) (no_tree r z) = refl

  pub completes_once : (cat : ℕ) (words : List (List ℕ)) (items others : List Item) → Completes a L cat words items
      → Completes a L cat words others → items ≡ others
  completes_once cat words items others (next ts i s b x) (next us j r c y) =
      let tokens : ts ≡ us = order_once IsBefore before_once ts us x.in_order y.in_order (same_members ts us x.all y.all) in
      let ints : i ≡ j = test_once i j x.integers y.integers in
      let strings : s ≡ r = test_once s r x.texts y.texts in
      ap (λ ws. next_items ws i s) tokens ∙ ap (λ k. next_items us k s) ints ∙ ap (next_items us j) strings
  completes_once cat words items others (next ts i s b x) (Completes.failed n w f) = absurd (begins_or_fails cat words n w b f)
  completes_once cat words items others (Completes.failed n w f) (next ts i s b x) = absurd (begins_or_fails cat words n w b f)
  completes_once cat words items others (Completes.failed n w f) (Completes.failed m v g) = notice_once cat words n m w v f g
