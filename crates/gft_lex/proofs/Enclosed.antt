-- A text in quotes: the relation of the definitions, and the functions of the proof.
use Rattle.std.proofs.Common.{◌≡◌, ◌≢◌, ℕ, true, List, [], ◌∷◌, Contains, refl, sym, ◌∙◌, subst, ⊎_elim}
use Rattle.std.proofs.lemmas.Bool.{false≢true}
use Rattle.gft_core.specs.declared.place.Place.{Place}
use Rattle.gft_model.specs.Source.{after}
use Rattle.gft_model.specs.TokenFaults.{Inside, here, plain, escape, IsClosed}
use Rattle.gft_lex.specs.Texts.{is_closed, is_closed_after, escapes_from}
use Rattle.gft_lex.proofs.Closings.{IsNext, next_of, backslash, quote, newline, closed_backslash, closed_plain, closed_newline, after_newline, after_other}
use Rattle.gft_lex.proofs.Closings as next
use Rattle.gft_lex.proofs.Escapes.{escapes_backslash, escapes_quote, escapes_other, at_head, in_tail, head_or_tail, in_none}

-- what leads to a text that is closed
closed_along : {p q : Place} {cs ds : List ℕ} → Inside p cs q ds → is_closed ds ≡ true → is_closed cs ≡ true
closed_along here h = h
closed_along (plain {cs = cs} {c = c} u v w x) h = closed_plain c cs u v w ∙ closed_along x h
closed_along (escape {cs = cs} {c = c} n x) h = closed_backslash 92 (c ∷ cs) refl ∙ after_other c cs n ∙ closed_along x h

pub closed_true : (p : Place) (cs : List ℕ) → IsClosed p cs → is_closed cs ≡ true
closed_true p cs c = closed_along c.2 refl

-- and what is closed leads to its quote
quote_here : (p : Place) (c : ℕ) (cs : List ℕ) → c ≡ 34 → IsClosed p (c ∷ cs)
quote_here p c cs e = (p, cs, subst (λ c. Inside p (c ∷ cs) p (34 ∷ cs)) (sym e) here)

closed_step : (p : Place) (c : ℕ) (cs : List ℕ) → c ≢ 92 → c ≢ 34 → c ≢ 10 → IsClosed (after c p) cs → IsClosed p (c ∷ cs)
closed_step p c cs u v w x = (x.0, x.1, plain u v w x.2)

escape_step : (p : Place) (c d : ℕ) (cs : List ℕ) → c ≡ 92 → d ≢ 10 → IsClosed (after d (after c p)) cs → IsClosed p (c ∷ d ∷ cs)
escape_step p c d cs e n x = (
  x.0,
  x.1,
  subst (λ c. Inside (after d (after c p)) cs x.0 (34 ∷ x.1) → Inside p (c ∷ d ∷ cs) x.0 (34 ∷ x.1)) (sym e)
      (escape n) x.2,
)

abbrev Closes : List ℕ → Type 0
Closes cs = (p : Place) → is_closed cs ≡ true → IsClosed p cs

not_newline : (d : ℕ) (cs : List ℕ) → is_closed_after (d ∷ cs) ≡ true → d ≢ 10
not_newline d cs h e = false≢true (sym (after_newline d cs e) ∙ h)

closes_one : (c : ℕ) → IsNext c → Closes (c ∷ [])
closes_one c (backslash b) p h = absurd (false≢true (sym (closed_backslash c [] b) ∙ h))
closes_one c (quote b) p h = quote_here p c [] b
closes_one c (newline b) p h = absurd (false≢true (sym (closed_newline c [] b) ∙ h))
closes_one c (next.plain u v w) p h = absurd (false≢true (sym (closed_plain c [] u v w) ∙ h))

closes_at : (c d : ℕ) (cs : List ℕ) → IsNext c → Closes (d ∷ cs) → Closes cs → Closes (c ∷ d ∷ cs)
closes_at c d cs (backslash b) f g p h =
    let k = sym (closed_backslash c (d ∷ cs) b) ∙ h in
    let n = not_newline d cs k in
    escape_step p c d cs b n (g (after d (after c p)) (sym (after_other d cs n) ∙ k))
closes_at c d cs (quote b) f g p h = quote_here p c (d ∷ cs) b
closes_at c d cs (newline b) f g p h = absurd (false≢true (sym (closed_newline c (d ∷ cs) b) ∙ h))
closes_at c d cs (next.plain u v w) f g p h = closed_step p c (d ∷ cs) u v w
    (f (after c p) (sym (closed_plain c (d ∷ cs) u v w) ∙ h))

closes_none : Closes []
closes_none p h = absurd (false≢true h)

closes : (cs : List ℕ) → Closes cs
closes [] = closes_none
closes (c ∷ []) = closes_one c (next_of c)
closes (c ∷ d ∷ cs) = closes_at c d cs (next_of c) (closes (d ∷ cs)) (closes cs)

pub true_closed : (p : Place) (cs : List ℕ) → is_closed cs ≡ true → IsClosed p cs
true_closed p cs h = closes cs p h

-- a backslash in it is among its escapes
past_plain : (p q : Place) (c x : ℕ) (cs : List ℕ) → c ≢ 34 → c ≢ 92 → Contains (escapes_from (after c p) cs) (q, x)
    → Contains (escapes_from p (c ∷ cs)) (q, x)
past_plain p q c x [] n m h = absurd (in_none (q, x) h)
past_plain p q c x (d ∷ cs) n m h = subst (λ l. Contains l (q, x)) (sym (escapes_other p c d cs n m)) h

pub listed : {p q : Place} {cs es : List ℕ} (x : ℕ) (ds : List ℕ) → Inside p cs q es → es ≡ 92 ∷ x ∷ ds
    → Contains (escapes_from p cs) (q, x)
listed {p = p} x ds here e = subst (λ l. Contains (escapes_from p l) (p, x)) (sym e)
    (at_head (p, x) (escapes_from (after x (after 92 p)) ds))
listed {p = p} {q = q} x ds (plain {cs = cs} {c = c} u v w i) e = past_plain p q c x cs v u (listed x ds i e)
listed {p = p} {q = q} x ds (escape {cs = cs} {c = c} n i) e =
    in_tail (p, c) (q, x) (escapes_from (after c (after 92 p)) cs) (listed x ds i e)

-- and each of its escapes is a backslash in it
pub record IsInside (p : Place) (cs : List ℕ) (q : Place) (x : ℕ) : Type 0 where
  pub rest : List ℕ
  pub leads : Inside p cs q (92 ∷ x ∷ rest)

abbrev Leads : List ℕ → Type 0
Leads cs = (p q : Place) (x : ℕ) → is_closed cs ≡ true → Contains (escapes_from p cs) (q, x) → IsInside p cs q x

leads_head : (p q : Place) (c d x : ℕ) (cs : List ℕ) → c ≡ 92 → ◌≡◌ {A = Place × ℕ} (p, d) (q, x) → IsInside p (c ∷ d ∷ cs) q x
leads_head p q c d x cs b e = record {
  rest = cs;
  leads = subst (λ c. Inside p (c ∷ d ∷ cs) q (92 ∷ x ∷ cs)) (sym b)
      (subst (λ (y : Place × ℕ). Inside p (92 ∷ d ∷ cs) y.0 (92 ∷ y.1 ∷ cs)) e here);
}

leads_tail : (p q : Place) (c d x : ℕ) (cs : List ℕ) → c ≡ 92 → d ≢ 10 → IsInside (after d (after c p)) cs q x
    → IsInside p (c ∷ d ∷ cs) q x
leads_tail p q c d x cs b n i = record {
  rest = i.rest;
  leads = subst (λ c. Inside (after d (after c p)) cs q (92 ∷ x ∷ i.rest) → Inside p (c ∷ d ∷ cs) q (92 ∷ x ∷ i.rest)) (sym b)
      (escape n) i.leads;
}

leads_at : (c d : ℕ) (cs : List ℕ) → IsNext c → Leads (d ∷ cs) → Leads cs → Leads (c ∷ d ∷ cs)
leads_at c d cs (backslash b) f g p q x h l =
    let k = sym (closed_backslash c (d ∷ cs) b) ∙ h in
    let n = not_newline d cs k in
    ⊎_elim (λ a. leads_head p q c d x cs b a)
    (λ a. leads_tail p q c d x cs b n (g (after d (after c p)) q x (sym (after_other d cs n) ∙ k) a))
    (head_or_tail (p, d) (q, x) (escapes_from (after d (after c p)) cs)
    (subst (λ z. Contains z (q, x)) (escapes_backslash p c d cs b) l))
leads_at c d cs (quote b) f g p q x h l = absurd (in_none (q, x) (subst (λ z. Contains z (q, x)) (escapes_quote p c d cs b) l))
leads_at c d cs (newline b) f g p q x h l = absurd (false≢true (sym (closed_newline c (d ∷ cs) b) ∙ h))
leads_at c d cs (next.plain u v w) f g p q x h l =
    let i = f (after c p) q x (sym (closed_plain c (d ∷ cs) u v w) ∙ h)
    (subst (λ z. Contains z (q, x)) (escapes_other p c d cs v u) l) in
    record { rest = i.rest; leads = plain u v w i.leads }

leads_none : (cs : List ℕ) → ((p : Place) → escapes_from p cs ≡ []) → Leads cs
leads_none cs n p q x h l = absurd (in_none (q, x) (subst (λ z. Contains z (q, x)) (n p) l))

pub leads : (cs : List ℕ) → Leads cs
leads [] = leads_none [] (λ p. refl)
leads (c ∷ []) = leads_none (c ∷ []) (λ p. refl)
leads (c ∷ d ∷ cs) = leads_at c d cs (next_of c) (leads (d ∷ cs)) (leads cs)
