-- A production is kept or not.
use Rattle.std.specs.Prelude.{true, ◌≡◌, ◌<◌, ◌≤◌, ℕ, zero, suc, All, List, [], ◌∷◌, ◌++◌, length, map, codes, Contains, ◌⊎◌, ⊤}
use Rattle.std.specs.List.{flat_map}
use Rattle.std.proofs.Common.{refl, sym, ap, ◌∙◌, subst, inl, inr, ⊎_elim, arith}
use Rattle.std.proofs.lemmas.List.Concat.{flat_map-cons}
use Rattle.std.proofs.lemmas.Option.{slice_get_read}
use Rattle.std.specs.Str.{chars}
use Rattle.gft_core.specs.Words.{is_word}
use Rattle.gft_pmcfg.specs.declared.concrete.Prod.{Prod}
use Rattle.gft_pmcfg.specs.declared.concrete.Def.{Def}
use Rattle.gft_pmcfg.specs.declared.concrete.Concrete.{Concrete}
use Rattle.gft_pmcfg.specs.declared.run.Run.{Run, App, Int, Str, Hole}
use Rattle.gft_pmcfg.specs.declared.run.Run.TheVariants.{outs-App, outs-Int, outs-Str, outs-Hole}
use Rattle.gft_pmcfg.specs.Layers.{by_layers-Int, by_layers-Str, by_layers-Hole}
use Rattle.gft_pmcfg.specs.Nonterminals.{nonterminals_of}
use Rattle.gft_model.specs.Trees.{all_of}
use Rattle.gft_model.specs.Runs.{IsRun, AreRuns, hole, number, string, application, none, more, holes_of, holes_step, MayBeHole, IsKept}
use Rattle.gft_model.proofs.LineReadings.{Decided}
use Rattle.gft_model.proofs.RunLaws.{contained, holes_of_run-App, run_application_is, run_hole_is}
use Rattle.gft_model.proofs.TreeEquality.{same_number_or_not}

-- what all of a list pass
all_left : {A : Type 0} (P : A → Type 0) (xs ys : List A) → All P (xs ++ ys) → All P xs
all_left P [] ys all k d b = absurd (omega (arith, b))
all_left P (x ∷ xs) ys all zero d b = all zero d (omega arith)
all_left P (x ∷ xs) ys all (suc k) d b =
    all_left P xs ys (λ j c l. all (suc j) c (omega (arith, l))) k d (omega (arith, b))

all_right : {A : Type 0} (P : A → Type 0) (xs ys : List A) → All P (xs ++ ys) → All P ys
all_right P [] ys all = all
all_right P (x ∷ xs) ys all = all_right P xs ys (λ j c l. all (suc j) c (omega (arith, l)))

all_both : {A : Type 0} (P : A → Type 0) (xs ys : List A) → All P xs → All P ys → All P (xs ++ ys)
all_both P [] ys left right k d b = right k d b
all_both P (x ∷ xs) ys left right zero d b = left zero d (omega arith)
all_both P (x ∷ xs) ys left right (suc k) d b =
    all_both P xs ys (λ j c l. left (suc j) c (omega (arith, l))) right k d (omega (arith, b))

all_empty : {A : Type 0} (P : A → Type 0) → All P []
all_empty P k d b = absurd (omega (arith, b))

all_single : {A : Type 0} (P : A → Type 0) (x : A) → P x → All P (x ∷ [])
all_single P x h zero d b = h
all_single P x h (suc k) d b = absurd (omega (arith, b))

holes_of_all : (rs : List Run) → flat_map holes_of rs ≡ all_of (map holes_of rs)
holes_of_all [] = refl
holes_of_all (r ∷ rs) = flat_map-cons holes_of r rs ∙ ap (λ hs. holes_of r ++ hs) (holes_of_all rs)

-- members
put_on : {A : Type 0} (y x : A) (xs : List A) → Contains xs x → Contains (y ∷ xs) x
put_on y x xs (k, b, e) = (suc k, omega (arith, b), e)

member_or_not : (n : ℕ) (ns : List ℕ) → Decided (Contains ns n)
member_or_not n [] = inr (λ (c : Contains [] n). absurd (omega (arith, c.1)))
member_or_not n (m ∷ ns) = ⊎_elim {C = Decided (Contains (m ∷ ns) n)} (λ e. inl (zero, omega arith, e))
    (λ d. ⊎_elim {C = Decided (Contains (m ∷ ns) n)} (λ c. inl (put_on m n ns c)) (λ o. inr (neither d o)) (member_or_not n ns))
    (same_number_or_not m n) where
      neither : ¬ (m ≡ n) → ¬ Contains ns n → ¬ Contains (m ∷ ns) n
      neither d o (zero, b, e) = d e
      neither d o (suc k, b, e) = o (k, omega (arith, b), e)

-- each number is a member
abbrev EachIn : List ℕ → List ℕ → Type 0
EachIn known [] = ⊤
EachIn known (n ∷ ns) = Contains known n × EachIn known ns

each_or_not : (known ns : List ℕ) → Decided (EachIn known ns)
each_or_not known [] = inl tt
each_or_not known (n ∷ ns) = ⊎_elim {C = Decided (EachIn known (n ∷ ns))}
    (λ h. ⊎_elim {C = Decided (EachIn known (n ∷ ns))} (λ t. inl (h, t)) (λ o. inr (λ e. o e.1)) (each_or_not known ns))
    (λ o. inr (λ e. o e.0)) (member_or_not n known)

-- a production whose arguments are known, and the others; or there is none
record Ready (known : List ℕ) (left : List Prod) : Type 0 where
  prod : Prod
  rest : List Prod
  arguments : EachIn known prod.args
  fewer : length left ≡ suc (length rest)
  there : Contains left prod
  kept : (q : Prod) → Contains rest q → Contains left q
  others : (q : Prod) → Contains left q → (q ≡ prod) ⊎ Contains rest q

ready_or_not : (known : List ℕ) (left : List Prod) → Ready known left ⊎ ((q : Prod) → Contains left q → ¬ EachIn known q.args)
ready_or_not known [] = inr (λ q (c : Contains [] q). absurd (omega (arith, c.1)))
ready_or_not known (p ∷ left) = by_first (each_or_not known p.args) (ready_or_not known left) where
  by_first : Decided (EachIn known p.args) → Ready known left ⊎ ((q : Prod) → Contains left q → ¬ EachIn known q.args)
      → Ready known (p ∷ left) ⊎ ((q : Prod) → Contains (p ∷ left) q → ¬ EachIn known q.args)
  by_first (inl h) rest = inl (record {
    prod = p;
    rest = left;
    arguments = h;
    fewer = refl;
    there = (zero, omega arith, refl);
    kept = λ q c. put_on p q left c;
    others = λ q c. split q c;
  }) where
    split : (q : Prod) → Contains (p ∷ left) q → (q ≡ p) ⊎ Contains left q
    split q (zero, b, e) = inl (sym e)
    split q (suc k, b, e) = inr (k, omega (arith, b), e)
  by_first (inr n) (inl r) = inl (record {
    prod = r.prod;
    rest = p ∷ r.rest;
    arguments = r.arguments;
    fewer = omega (arith, r.fewer);
    there = put_on p r.prod left r.there;
    kept = λ q c. keep q c;
    others = λ q c. split q c;
  }) where
    keep : (q : Prod) → Contains (p ∷ r.rest) q → Contains (p ∷ left) q
    keep q (zero, b, e) = (zero, omega arith, e)
    keep q (suc k, b, e) = put_on p q left (r.kept q (k, omega (arith, b), e))

    split : (q : Prod) → Contains (p ∷ left) q → (q ≡ r.prod) ⊎ Contains (p ∷ r.rest) q
    split q (zero, b, e) = inr (zero, omega arith, e)
    split q (suc k, b, e) = ⊎_elim {C = (q ≡ r.prod) ⊎ Contains (p ∷ r.rest) q} (λ i. inl i)
        (λ c. inr (put_on p q r.rest c)) (r.others q (k, omega (arith, b), e))
  by_first (inr n) (inr nothing) = inr (λ q c. never q c) where
    never : (q : Prod) → Contains (p ∷ left) q → ¬ EachIn known q.args
    never q (zero, b, e) each = n (subst (λ (x : Prod). EachIn known x.args) (sym e) each)
    never q (suc k, b, e) each = nothing q (k, omega (arith, b), e) each

-- a word
a_is_word : is_word (codes "a") ≡ true
unfolding chars
a_is_word = refl

module _ (c : Concrete) (defs : (d : Def) → Contains c.defs d → d.result < nonterminals_of c.infos) where
  -- the nonterminal has a run whose holes are allowed
  abbrev IsGood : ℕ → Type 0
  IsGood n = (r : Run) × IsRun c r n × All (MayBeHole c) (holes_of r)

  good_runs : (known ns : List ℕ) → ((n : ℕ) → Contains known n → IsGood n) → EachIn known ns
      → (rs : List Run) × AreRuns c rs ns × All (MayBeHole c) (flat_map holes_of rs)
  good_runs known [] sound h = ([], none, all_empty (MayBeHole c))
  good_runs known (n ∷ ns) sound h =
      let first = sound n h.0 in
      let others = good_runs known ns sound h.1 in (
        first.0 ∷ others.0,
        more first.1 others.1,
        subst (All (MayBeHole c)) (sym (flat_map-cons holes_of first.0 others.0))
            (all_both (MayBeHole c) (holes_of first.0) (flat_map holes_of others.0) first.2 others.2),
      )

  -- a production over good arguments makes its result good
  makes_good : (prod : Prod) → Contains c.prods prod
      → (rs : List Run) × AreRuns c rs prod.args × All (MayBeHole c) (flat_map holes_of rs) → IsGood prod.result
  makes_good prod (k, b, e) (rs, are, all) = (
    App k rs,
    application (slice_get_read c.prods (length c.prods) k prod refl b (sym e)) (outs-App k rs) are,
    subst (All (MayBeHole c)) (holes_of_all rs ∙ sym (holes_of_run-App k rs)) all,
  )

  -- literals, and what a def has
  abbrev starting : List ℕ
  starting = 0 ∷ 1 ∷ map (λ (d : Def). d.result) c.defs

  in_map : (ds : List Def) (n : ℕ) → Contains (map (λ (d : Def). d.result) ds) n → (d : Def) × Contains ds d × (d.result ≡ n)
  in_map [] n (k, b, e) = absurd (omega (arith, b))
  in_map (d ∷ ds) n (zero, b, e) = (d, (zero, omega arith, refl), e)
  in_map (d ∷ ds) n (suc k, b, e) =
      let rest = in_map ds n (k, omega (arith, b), e) in (rest.0, put_on d rest.0 ds rest.1, rest.2)

  to_map : (ds : List Def) (d : Def) → Contains ds d → Contains (map (λ (d : Def). d.result) ds) d.result
  to_map [] d (k, b, e) = absurd (omega (arith, b))
  to_map (x ∷ ds) d (zero, b, e) = (zero, omega arith, ap (λ (y : Def). y.result) e)
  to_map (x ∷ ds) d (suc k, b, e) = put_on x.result d.result _ (to_map ds d (k, omega (arith, b), e))

  starting_good : (n : ℕ) → Contains starting n → IsGood n
  starting_good n (zero, b, e) =
      subst IsGood e (
        Int 0,
        number (outs-Int 0) (omega arith),
        subst (All (MayBeHole c)) (sym (by_layers-Int holes_step 0))
            (all_empty (MayBeHole c)),
      )
  starting_good n (suc zero, b, e) =
      subst IsGood e (
        Str (codes "a"),
        string (outs-Str (codes "a")) a_is_word,
        subst (All (MayBeHole c))
            (sym (by_layers-Str holes_step (codes "a"))) (all_empty (MayBeHole c)),
      )
  starting_good n (suc (suc k), b, e) =
      let found = in_map c.defs n (k, omega (arith, b), e) in
      let allowed : MayBeHole c found.0.result = inr (found.0.seqs, found.1) in
      subst IsGood found.2 (
        Hole found.0.result,
        hole (outs-Hole found.0.result) (defs found.0 found.1),
        subst (All (MayBeHole c)) (sym (by_layers-Hole holes_step found.0.result))
            (all_single (MayBeHole c) found.0.result allowed),
      )

  -- numbers that are good, with those to start from, and closed under the productions
  record Closed : Type 0 where
    known : List ℕ
    sound : (n : ℕ) → Contains known n → IsGood n
    starts : (n : ℕ) → Contains starting n → Contains known n
    closed : (p : Prod) → Contains c.prods p → EachIn known p.args → Contains known p.result

  closing : (fuel : ℕ) (known : List ℕ) (left : List Prod) → length left ≤ fuel → ((n : ℕ) → Contains known n → IsGood n)
      → ((n : ℕ) → Contains starting n → Contains known n) → ((p : Prod) → Contains left p → Contains c.prods p)
      → ((p : Prod) → Contains c.prods p → Contains left p ⊎ Contains known p.result) → Closed
  closing zero known left few sound starts part covers = record {
    known = known;
    sound = sound;
    starts = starts;
    closed = λ p m each. ⊎_elim {C = Contains known p.result} (λ l. absurd (omega (arith, few, l.1))) (λ k. k) (covers p m);
  }
  closing (suc fuel) known left few sound starts part covers = by_ready (ready_or_not known left)
      (λ r. closing fuel (r.prod.result ∷ known) r.rest (omega (arith, few, r.fewer)) (grown r)
      (λ n m. put_on r.prod.result n known (starts n m)) (λ p m. part p (r.kept p m)) (covered r)) where
        by_ready : Ready known left ⊎ ((q : Prod) → Contains left q → ¬ EachIn known q.args) → (Ready known left → Closed)
            → Closed
        by_ready (inl r) on = on r
        by_ready (inr nothing) on = record {
          known = known;
          sound = sound;
          starts = starts;
          closed = λ p m each. ⊎_elim {C = Contains known p.result} (λ l. absurd (nothing p l each)) (λ k. k) (covers p m);
        }

        grown : (r : Ready known left) (n : ℕ) → Contains (r.prod.result ∷ known) n → IsGood n
        grown r n (zero, b, e) = subst IsGood e (makes_good r.prod (part r.prod r.there)
            (good_runs known r.prod.args sound r.arguments))
        grown r n (suc k, b, e) = sound n (k, omega (arith, b), e)

        covered : (r : Ready known left) (p : Prod) → Contains c.prods p → Contains r.rest p ⊎ Contains
            (r.prod.result ∷ known) p.result
        covered r p m = ⊎_elim {C = Contains r.rest p ⊎ Contains (r.prod.result ∷ known) p.result}
            (λ l. ⊎_elim {C = Contains r.rest p ⊎ Contains (r.prod.result ∷ known) p.result}
            (λ e. inr (zero, omega arith, ap (λ (q : Prod). q.result) (sym e))) (λ k. inl k) (r.others p l))
            (λ k. inr (put_on r.prod.result p.result known k)) (covers p m)

  all_closed : Closed
  all_closed = closing (length c.prods) starting c.prods (omega arith) starting_good (λ n m. m) (λ p m. m) (λ p m. inl m)

  -- where a hole is allowed the number is known
  allowed_known : (x : Closed) (n : ℕ) → MayBeHole c n → Contains x.known n
  allowed_known x zero (inl b) = x.starts 0 (0, omega arith, refl)
  allowed_known x (suc zero) (inl b) = x.starts 1 (1, omega arith, refl)
  allowed_known x (suc (suc n)) (inl b) = absurd (omega (arith, b))
  allowed_known x n (inr (seqs, m)) =
      x.starts n (put_on 0 n (1 ∷ map (λ (d : Def). d.result) c.defs)
      (put_on 1 n (map (λ (d : Def). d.result) c.defs) (to_map c.defs (record { result = n; seqs = seqs }) m)))

  -- each run whose holes are allowed is to a known number
  mutual
    run_known : (x : Closed) {r : Run} {n : ℕ} → IsRun c r n → All (MayBeHole c) (holes_of r) → Contains x.known n
    run_known x {r} (hole {n} h b) all =
        let holes : holes_of r ≡ n ∷ [] = ap holes_of (run_hole_is r n h) ∙ by_layers-Hole holes_step n in
        allowed_known x n (subst (All (MayBeHole c)) holes all 0 0 (omega arith))
    run_known x (number h b) all = x.starts 0 (0, omega arith, refl)
    run_known x (string h b) all = x.starts 1 (1, omega arith, refl)
    run_known x {r} (application {p} {prod} {rs} s h are) all =
        let holes : holes_of r ≡ all_of (map holes_of rs) = ap holes_of (run_application_is r p rs h) ∙ holes_of_run-App p rs in
        x.closed prod (contained c.prods p prod s) (runs_known x are (subst (All (MayBeHole c)) holes all))

    runs_known : (x : Closed) {rs : List Run} {ns : List ℕ} → AreRuns c rs ns → All (MayBeHole c) (all_of (map holes_of rs))
        → EachIn x.known ns
    runs_known x none all = tt
    runs_known x (more {r} {rs} d ds) all = (
      run_known x d (all_left (MayBeHole c) (holes_of r) (all_of (map holes_of rs)) all),
      runs_known x ds (all_right (MayBeHole c) (holes_of r) (all_of (map holes_of rs)) all),
    )

  -- a production is kept or not
  pub kept_or_not : (prod : Prod) → IsKept c prod ⊎ (¬ IsKept c prod)
  kept_or_not prod = ⊎_elim {C = IsKept c prod ⊎ (¬ IsKept c prod)}
      (λ each. inl (good_runs all_closed.known prod.args all_closed.sound each))
      (λ n. inr (λ k. n (runs_known all_closed k.1 (subst (All (MayBeHole c)) (holes_of_all k.0) k.2))))
      (each_or_not all_closed.known prod.args)
