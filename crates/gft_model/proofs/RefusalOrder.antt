-- The first refusal is unique: moments are ordered.
use Rattle.std.proofs.Common.{◌≡◌, refl, sym, ◌⊎◌, inl, inr, ⊎_elim, arith}
use Rattle.std.specs.Prelude.{◌<◌}
use Rattle.gft_rules.specs.Rules.{code_of}
use Rattle.gft_rules.specs.declared.refusal.Refusal.{Refusal}
use Rattle.gft_model.specs.Refusals.{Moment, Before, within, sooner, later_on, Earlier, by_moment, by_number, IsFirst}

-- no moment comes before itself, and of two only one before the other
pub never_itself : {p q : Moment} → Before p q → p ≡ q → ⊥
never_itself within e = cc
never_itself (sooner {m = m} {n = n} h) e = let f : m ≡ n = cc in omega (arith, f, h)
never_itself (later_on {p = p} {q = q} b) e = let f : p ≡ q = cc in never_itself b f

pub never_both : {p q r s : Moment} → Before p q → Before r s → p ≡ s → q ≡ r → ⊥
never_both within within e f = cc
never_both within (sooner k) e f = cc
never_both within (later_on c) e f = cc
never_both (sooner h) within e f = cc
never_both (sooner {m = m} {n = n} h) (sooner {m = i} {n = j} k) e f =
    let a : m ≡ j = cc in let b : n ≡ i = cc in omega (arith, a, b, h, k)
never_both (sooner {m = m} {n = n} h) (later_on {n = i} c) e f = let a : m ≡ i = cc in let b : n ≡ i = cc in omega (arith, a, b, h)
never_both (later_on b) within e f = cc
never_both (later_on {n = n} b) (sooner {m = i} {n = j} k) e f = let a : n ≡ j = cc in let c : n ≡ i = cc in omega (arith, a, c, k)
never_both (later_on {p = p} {q = q} b) (later_on {p = r} {q = s} c) e f =
    let g : p ≡ s = cc in let h : q ≡ r = cc in never_both b c g h

-- how one is earlier
how : {m n : Moment} {r s : Refusal} → Earlier m r n s → (Before m n) ⊎ ((m ≡ n) × (code_of r.rule < code_of s.rule))
how (by_moment b) = inl b
how (by_number h) = inr (refl, h)

one_earlier : {m n : Moment} {r s : Refusal} → Earlier m r n s → Earlier n s m r → ⊥
one_earlier x y = ⊎_elim {C = ⊥}
    (λ b. ⊎_elim {C = ⊥} (λ c. never_both b c refl refl) (λ h. never_itself b (sym h.0)) (how y))
    (λ h. ⊎_elim {C = ⊥} (λ c. never_itself c (sym h.0)) (λ k. omega (arith, h.1, k.1)) (how y)) (how x)

pub first-once : (Breaks : Moment → Refusal → Type 0) (r s : Refusal) → IsFirst Breaks r → IsFirst Breaks s → r ≡ s
first-once Breaks r s f g =
    ⊎_elim {C = r ≡ s} (λ e. sym e)
    (λ a. ⊎_elim {C = r ≡ s} (λ e. e) (λ b. absurd (one_earlier a b)) (g.no_earlier f.moment r f.broken)) (f.no_earlier g.moment s g.broken)
