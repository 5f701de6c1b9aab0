-- The first fault from a place on.
use Rattle.std.proofs.Common.{◌≡◌, ℕ, suc, ◌+◌, ◌<◌, ◌≤◌, List, [], ◌∷◌, ◌++◌, length, drop, Some, refl, sym, ap, ◌∙◌, arith, subst, ⊎_elim, ◌⊎◌, inl, inr}
use Rattle.std.proofs.lemmas.List.{drop-drop}
use Rattle.gft_core.specs.declared.place.Place.{Place}
use Rattle.gft_rules.specs.declared.refusal.Refusal.{Refusal}
use Rattle.gft_rules.specs.declared.rule.Rule.TheVariants as R
use Rattle.gft_model.specs.Refusals.{refusal, Moment, ByPlace, by_place, Earlier, by_moment, IsFirst, place_moment, Before}
use Rattle.gft_model.specs.Source.{lexeme_at, after}
use Rattle.gft_model.specs.TokenFaults.{no_character, moved}
use Rattle.gft_lex.specs.Later.{Reaches, here, onward, IsFaultAt, bad_character, open_string, bad_escape, open_comment, number_too_large, IsLater, not_utf8, at_place, length_of}
use Rattle.gft_lex.proofs.Escapes.{escape_on}
use Rattle.gft_lex.proofs.Places.{moved_later, moved_more, sooner_before}

-- a place so many characters on
pub record IsOn (p : Place) (cs : List ℕ) (q : Place) : Type 0 where
  pub index : ℕ
  pub place : q ≡ moved index p cs

-- what is reached
pub record IsReached (p : Place) (cs : List ℕ) (q : Place) (ds : List ℕ) : Type 0 where
  pub index : ℕ
  pub place : q ≡ moved index p cs
  pub rest : ds ≡ drop index cs

pub reached : {p : Place} {cs : List ℕ} {q : Place} {ds : List ℕ} → Reaches p cs q ds → IsReached p cs q ds
reached here = record { index = 0; place = refl; rest = refl }
reached (onward {p = p} {cs = cs} n e r) =
    let x = reached r in
    record {
      index = n + x.index;
      place = x.place ∙ moved_more n x.index p cs;
      rest = x.rest ∙ drop-drop x.index n cs;
    }

-- a fault stands at its place or further on
fault_on : (p : Place) (cs : List ℕ) (r : Refusal) (q : Place) → IsFaultAt p cs r → r.place ≡ Some q → IsOn p cs q
fault_on p cs _ q (bad_character e l w n c) h = record { index = 0; place = cc }
fault_on p cs _ q (open_string e o) h = record { index = 0; place = cc }
fault_on p cs _ q (bad_escape {q = b} {c = c} {ds = ds} e o m n l) h =
    let y = escape_on ds (after 34 p) b c m in
    let same : b ≡ q = cc in
    record {
      index = suc y.index;
      place = sym same ∙ y.place ∙ ap (moved (suc y.index) p) (sym e);
    }
fault_on p cs _ q (open_comment e o) h = record { index = 0; place = cc }
fault_on p cs _ q (number_too_large e o) h = record { index = 0; place = cc }

-- no other one is earlier
abbrev IsNoEarlier : Place → List ℕ → ℕ → Refusal → Place → Refusal → Type 0
IsNoEarlier p cs k r q s = (s ≡ r) ⊎ Earlier (place_moment (moved k p cs)) r (place_moment q) s

further : (p : Place) (cs : List ℕ) (k : ℕ) (r : Refusal) (q : Place) (s : Refusal) (j : ℕ) → q ≡ moved j p cs → k < j
    → k < length cs → IsNoEarlier p cs k r q s
further p cs k r q s j e l m = inr (by_moment (subst (λ q. Before (place_moment (moved k p cs)) (place_moment q)) (sym e)
    (sooner_before (moved k p cs) (moved j p cs) (moved_later k j p cs l m))))

-- a refusal so many characters on, before which nothing is broken
pub record IsLeast (p : Place) (cs : List ℕ) (k : ℕ) (r : Refusal) : Type 0 where
  pub broken : IsLater p cs r
  pub place : r.place ≡ Some (moved k p cs)
  pub within : k < length cs
  -- bytes that begin no character
  pub bytes : (before rest : List ℕ) (c : ℕ) → cs ≡ before ++ c ∷ rest → no_character ≤ c
      → (refusal R.NotUtf8 (moved (length before) p cs) [] ≡ r) ⊎ (k < length before)
  -- what is broken there
  pub faults : (s : Refusal) (q : Place) → IsFaultAt p cs s → s.place ≡ Some q
      → (s ≡ r) ⊎ ((j : ℕ) × (q ≡ moved j p cs) × (k < j))
  -- what comes next
  pub next : (n : ℕ) → length_of (lexeme_at cs) ≡ Some n → k < n

on_bytes : (p : Place) (cs : List ℕ) (k : ℕ) (r : Refusal) → IsLeast p cs k r → (before rest : List ℕ) (c : ℕ) (q : Place)
    → cs ≡ before ++ c ∷ rest
    → no_character ≤ c → q ≡ moved (length before) p cs
    → IsNoEarlier p cs k r q (refusal R.NotUtf8 (moved (length before) p cs) [])
on_bytes p cs k r l before rest c q e n f =
    ⊎_elim (λ a. inl a) (λ a. further p cs k r q _ (length before) f a l.within) (l.bytes before rest c e n)

on_fault : (p : Place) (cs : List ℕ) (k : ℕ) (r : Refusal) → IsLeast p cs k r → (s : Refusal) (q : Place) → IsFaultAt p cs s
    → s.place ≡ Some q → IsNoEarlier p cs k r q s
on_fault p cs k r l s q f e = ⊎_elim (λ a. inl a) (λ a. further p cs k r q s a.0 a.1 a.2 l.within) (l.faults s q f e)

on_reached : (p : Place) (cs : List ℕ) (k : ℕ) (r : Refusal) → IsLeast p cs k r → {d : Place} {ds : List ℕ}
    → (s : Refusal) (q : Place) → Reaches p cs d ds
    → IsFaultAt d ds s → s.place ≡ Some q → IsNoEarlier p cs k r q s
on_reached p cs k r l s q here f e = on_fault p cs k r l s q f e
on_reached p cs k r l {d = d} {ds = ds} s q (onward n h x) f e =
    let y = reached x in
    let z = fault_on d ds s q f e in
    let at : q ≡ moved (n + (y.index + z.index)) p cs
    = z.place ∙ ap (λ d. moved z.index d ds) y.place ∙ ap (moved z.index (moved y.index (moved n p cs) (drop n cs))) y.rest
    ∙ moved_more y.index z.index (moved n p cs) (drop n cs) ∙ moved_more n (y.index + z.index) p cs in
    let m = l.next n h in
    further p cs k r q s (n + (y.index + z.index)) at (omega (arith, m)) l.within

on_later : (p : Place) (cs : List ℕ) (k : ℕ) (r : Refusal) → IsLeast p cs k r → (s : Refusal) (q : Place) → IsLater p cs s
    → s.place ≡ Some q → IsNoEarlier p cs k r q s
on_later p cs k r l s q (not_utf8 before rest c e n) f = on_bytes p cs k r l before rest c q e n (cc)
on_later p cs k r l s q (at_place x y) f = on_reached p cs k r l s q x y f

on_moment : (p : Place) (cs : List ℕ) (k : ℕ) (r : Refusal) → IsLeast p cs k r → (m : Moment) (s : Refusal)
    → ByPlace (IsLater p cs) m s
    → (s ≡ r) ⊎ Earlier (place_moment (moved k p cs)) r m s
on_moment p cs k r l _ s (by_place {p = q} x e) = on_later p cs k r l s q x e

pub first : (p : Place) (cs : List ℕ) (k : ℕ) (r : Refusal) → IsLeast p cs k r → IsFirst (ByPlace (IsLater p cs)) r
first p cs k r l = record {
  moment = place_moment (moved k p cs);
  broken = by_place l.broken l.place;
  no_earlier = on_moment p cs k r l;
}
