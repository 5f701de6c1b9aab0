-- The order of places in a file.
use Rattle.std.proofs.Common.{◌≡◌, ℕ, zero, suc, ◌+◌, ◌<◌, ◌≤◌, ◌==◌, List, [], ◌∷◌, ◌++◌, length, take, drop, refl, sym, ap, ◌∙◌, arith, subst, ⊎_elim, ◌⊎◌, inl, inr}
use Rattle.std.proofs.lemmas.Bool.{cond_both}
use Rattle.gft_core.specs.declared.place.Place.{Place}
use Rattle.gft_model.specs.Refusals.{Before, sooner, later_on, place_moment}
use Rattle.gft_model.specs.Source.{after}
use Rattle.gft_model.specs.TokenFaults.{moved}
use Rattle.gft_lex.specs.Steps.{place_past, HasRoom}

-- the first place comes before the second, or is it
pub record IsUpTo (p q : Place) : Type 0 where
  pub order : (p.line < q.line) ⊎ ((p.line ≡ q.line) × (p.col ≤ q.col))

-- the first place comes before the second
pub record IsSooner (p q : Place) : Type 0 where
  pub order : (p.line < q.line) ⊎ ((p.line ≡ q.line) × (p.col < q.col))

pub up_to_itself : (p : Place) → IsUpTo p p
up_to_itself p = record { order = inr (refl, omega arith) }

pub sooner_up_to : (p q r : Place) → IsSooner p q → IsUpTo q r → IsSooner p r
sooner_up_to p q r a b = record {
  order = ⊎_elim
      (λ x. ⊎_elim (λ y. inl (omega (arith, x, y))) (λ y. inl (omega (arith, x, y.0))) b.order)
      (λ x. ⊎_elim (λ y. inl (omega (arith, x.0, y)))
      (λ y. inr (omega (arith, x.0, y.0), omega (arith, x.1, y.1))) b.order) a.order;
}

pub up_to_sooner : (p q : Place) → IsSooner p q → IsUpTo p q
up_to_sooner p q a = record { order = ⊎_elim (λ x. inl x) (λ x. inr (x.0, omega (arith, x.1))) a.order }

pub sooner_before : (p q : Place) → IsSooner p q → Before (place_moment p) (place_moment q)
sooner_before p q a = ⊎_elim (λ x. sooner x)
    (λ x. subst (λ n. Before (place_moment p) (n ∷ q.col ∷ [])) x.0 (later_on (sooner x.1))) a.order

-- each character takes the place further
pub after_later : (c : ℕ) (p : Place) → IsSooner p (after c p)
after_later c p =
    cond_both (c == 10) (record { file = p.file; line = p.line + 1; col = 1 })
    (record { file = p.file; line = p.line; col = p.col + 1 })
    (IsSooner p) (λ e. record { order = inl (omega arith) }) (λ e. record { order = inr (refl, omega arith) })

pub up_to_moved : (n : ℕ) (p : Place) (cs : List ℕ) → IsUpTo p (moved n p cs)
up_to_moved zero p cs = up_to_itself p
up_to_moved (suc n) p [] = up_to_itself p
up_to_moved (suc n) p (c ∷ cs) =
    up_to_sooner p (moved n (after c p) cs)
    (sooner_up_to p (after c p) (moved n (after c p) cs) (after_later c p) (up_to_moved n (after c p) cs))

-- more characters lead further
pub moved_later : (k j : ℕ) (p : Place) (cs : List ℕ) → k < j → k < length cs → IsSooner (moved k p cs) (moved j p cs)
moved_later k zero p cs h l = absurd (omega (arith, h))
moved_later k (suc j) p [] h l = absurd (omega (arith, l))
moved_later zero (suc j) p (c ∷ cs) h l = sooner_up_to p (after c p) (moved j (after c p) cs) (after_later c p)
    (up_to_moved j (after c p) cs)
moved_later (suc k) (suc j) p (c ∷ cs) h l = moved_later k j (after c p) cs (omega (arith, h)) (omega (arith, l))

zero_more : (n : ℕ) → n ≡ 0 + n
zero_more n = omega arith

suc_more : (m n : ℕ) → suc (m + n) ≡ suc m + n
suc_more m n = omega arith

moved_none : (n : ℕ) (p : Place) → moved n p [] ≡ p
moved_none zero p = refl
moved_none (suc n) p = refl

pub moved_more : (m n : ℕ) (p : Place) (cs : List ℕ) → moved n (moved m p cs) (drop m cs) ≡ moved (m + n) p cs
moved_more zero n p cs = ap (λ k. moved k p cs) (zero_more n)
moved_more (suc m) n p [] = moved_none n p ∙ sym (moved_none (suc m + n) p)
moved_more (suc m) n p (c ∷ cs) = moved_more m n (after c p) cs ∙ ap (λ k. moved k p (c ∷ cs)) (suc_more m n)

-- the place after the first so many
pub past_moved : (k : ℕ) (p : Place) (cs : List ℕ) → place_past p (take k cs) ≡ moved k p cs
past_moved zero p cs = refl
past_moved (suc k) p [] = refl
past_moved (suc k) p (c ∷ cs) = past_moved k (after c p) cs

pub moved_front : (b r : List ℕ) (p : Place) → place_past p b ≡ moved (length b) p (b ++ r)
moved_front [] r p = refl
moved_front (c ∷ b) r p = moved_front b r (after c p)

-- the places of what is left
after_room : (c n : ℕ) (p : Place) → HasRoom (suc n) p → HasRoom n (after c p)
after_room c n p r =
    let l = r.lines in
    let k = r.columns in
    cond_both (c == 10) (record { file = p.file; line = p.line + 1; col = 1 })
    (record { file = p.file; line = p.line; col = p.col + 1 })
    (HasRoom n) (λ e. record { lines = omega (arith, l); columns = omega (arith, k) })
    (λ e. record { lines = omega (arith, l); columns = omega (arith, k) })

pub past_room : (xs : List ℕ) (n : ℕ) (p : Place) → HasRoom (length xs + n) p → HasRoom n (place_past p xs)
past_room [] n p r = subst (λ k. HasRoom k p) (sym (zero_more n)) r
past_room (c ∷ xs) n p r = past_room xs n (after c p)
    (after_room c (length xs + n) p (subst (λ k. HasRoom k p) (sym (suc_more (length xs) n)) r))
