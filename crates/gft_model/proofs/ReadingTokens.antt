-- Reading tokens: how a reader goes on, and what a bounded reading gives once its bound is high enough.
use Rattle.std.proofs.Common.{◌≡◌, ap, sym, ◌∙◌, refl, ℕ, zero, suc, ◌+◌, ◌≤◌, List, [], ◌∷◌, Bool, true, false, not, Option, Some, None, arith}
use Rattle.gft_core.specs.declared.place.Place.{Place}
use Rattle.gft_syntax.specs.declared.token.SourceToken.{SourceToken}
use Rattle.gft_syntax.specs.declared.token.TokenForm.{TokenForm}
use Rattle.gft_syntax.specs.declared.token.TokenForm.TheVariants.{Identifier}
use Rattle.gft_model.specs.Grammar.{Tokens, IsNamed, FirstAt}

-- a test of the first token, which fails where there is none
abbrev pub first : (TokenForm → Bool) → Tokens → Bool
first p [] = false
first p (t ∷ ts) = p t.form

-- the first token, if there is one, fails the test
abbrev pub quiet : (TokenForm → Bool) → Tokens → Bool
quiet p [] = true
quiet p (t ∷ ts) = not (p t.form)

-- what reading goes on with
unfoldable pub after : {A B : Type 0} → Option (A × Tokens) → (A → Tokens → Option B) → Option B
after None k = None
after (Some r) k = k r.0 r.1

-- a token that passes the test comes next
unfoldable pub past : {B : Type 0} → (TokenForm → Bool) → Tokens → (Tokens → Option B) → Option B
past p [] k = None
past p (t ∷ ts) k = elim (p t.form) [ true ↦ k ts | false ↦ None ]

-- by the next token
unfoldable pub seen : {B : Type 0} → Tokens → (SourceToken → Tokens → TokenForm → Option B) → Option B
seen [] k = None
seen (t ∷ ts) k = k t ts t.form

abbrev pub name_in : {B : Type 0} → TokenForm → (List ℕ → Option B) → Option B
name_in (Identifier x) k = k x
name_in f k = None

-- a name comes next
unfoldable pub named : {B : Type 0} → Tokens → (List ℕ → SourceToken → Tokens → Option B) → Option B
named [] k = None
named (t ∷ ts) k = name_in t.form (λ x. k x t ts)

-- from the place of the first token on
unfoldable pub from : {B : Type 0} → Tokens → (Place → Option B) → Option B
from [] k = None
from (t ∷ ts) k = k t.place

-- what was read stands, or the next token goes on with it
unfoldable pub then : {A : Type 0} → A → Tokens → (SourceToken → Tokens → TokenForm → Option (A × Tokens)) →
    Option (A × Tokens)
then a [] k = Some (a, [])
then a (t ∷ ts) k = k t ts t.form

-- what was read is allowed
unfoldable pub given : {B : Type 0} → Bool → Option B → Option B
given true k = k
given false k = None

-- from some bound on, the value
pub record Gives {A : Type 0} (f : ℕ → Option A) (a : A) : Type 0 where
  pub bound : ℕ
  pub value : (m : ℕ) → bound ≤ m → f m ≡ Some a

-- it gives one value
pub gives-once : {A : Type 0} {f : ℕ → Option A} {a b : A} → Gives f a → Gives f b → a ≡ b
gives-once {f = f} {a = a} {b = b} g h =
    let n = g.bound + h.bound in
    let e : Some a ≡ Some b = sym (g.value n (omega arith)) ∙ h.value n (omega arith) in cc

pub now : {A : Type 0} {a b : A} → a ≡ b → Gives (λ n. Some a) b
now e = record { bound = 0; value = λ m l. ap Some e }

under : {A : Type 0} (f : ℕ → Option A) (a : A) (n : ℕ) →
    ((m : ℕ) → n ≤ m → f (suc m) ≡ Some a) → (m : ℕ) → suc n ≤ m → f m ≡ Some a
under f a n h zero l = absurd (omega (arith, l))
under f a n h (suc m) l = h m (omega (arith, l))

-- one step more
pub down : {A : Type 0} (f : ℕ → Option A) {a : A} → Gives (λ n. f (suc n)) a → Gives f a
down f {a = a} g = record { bound = suc g.bound; value = under f a g.bound g.value }

pub goes : {A B : Type 0} {f : ℕ → Option (A × Tokens)} (k : ℕ → A → Tokens → Option B) {a : A} {ts : Tokens} {b : B} →
    Gives f (a, ts) → Gives (λ n. k n a ts) b → Gives (λ n. after (f n) (k n)) b
unfolding after
goes k g h =
    record {
      bound = g.bound + h.bound;
      value = λ i l.
          ap (λ o. after o (k i)) (g.value i (omega (arith, l))) ∙ h.value i (omega (arith, l));
    }

pub passes : {B : Type 0} (p : TokenForm → Bool) (t : SourceToken) {ts : Tokens} {f : TokenForm} (k : ℕ → Tokens → Option B) {b : B} →
    t.form ≡ f → p f ≡ true → Gives (λ n. k n ts) b → Gives (λ n. past p (t ∷ ts) (k n)) b
unfolding past
passes p t {ts = ts} k e h g =
    record { bound = g.bound; value = λ i l. ap (λ c. elim c [ true ↦ k i ts | false ↦ None ]) (ap p e ∙ h) ∙ g.value i l }

pub sees : {B : Type 0} {t : SourceToken} {ts : Tokens} (k : ℕ → SourceToken → Tokens → TokenForm → Option B) {f : TokenForm} {b : B} →
    t.form ≡ f → Gives (λ n. k n t ts f) b → Gives (λ n. seen (t ∷ ts) (k n)) b
unfolding seen
sees {t = t} {ts = ts} k e g =
    record { bound = g.bound; value = λ i l. ap (λ f. k i t ts f) e ∙ g.value i l }

pub names : {B : Type 0} {t : SourceToken} {ts : Tokens} {x : List ℕ} (k : ℕ → List ℕ → SourceToken → Tokens → Option B) {b : B} →
    IsNamed x t → Gives (λ n. k n x t ts) b → Gives (λ n. named (t ∷ ts) (k n)) b
unfolding named
names {t = t} {ts = ts} k e g =
    record { bound = g.bound; value = λ i l. ap (λ f. name_in f (λ y. k i y t ts)) e ∙ g.value i l }

from-first : {B : Type 0} (ts : Tokens) (p : Place) (k : Place → Option B) → FirstAt ts p → from ts k ≡ k p
unfolding from
from-first [] p k e = cc
from-first (t ∷ ts) p k e = let same : t.place ≡ p = cc in ap k same

pub starts : {B : Type 0} (ts : Tokens) {p : Place} (k : ℕ → Place → Option B) {b : B} →
    FirstAt ts p → Gives (λ n. k n p) b → Gives (λ n. from ts (k n)) b
starts ts {p = p} k e g =
    record { bound = g.bound; value = λ i l. from-first ts p (k i) e ∙ g.value i l }

pub continues : {A : Type 0} (a : A) {t : SourceToken} {ts : Tokens}
    (k : ℕ → SourceToken → Tokens → TokenForm → Option (A × Tokens)) {f : TokenForm} {r : A × Tokens} →
    t.form ≡ f → Gives (λ n. k n t ts f) r → Gives (λ n. then a (t ∷ ts) (k n)) r
unfolding then
continues a {t = t} {ts = ts} k e g =
    record { bound = g.bound; value = λ i l. ap (λ f. k i t ts f) e ∙ g.value i l }

-- a test that fails, by its denial
pub denied : (b : Bool) → not b ≡ true → b ≡ false
denied true e = cc
denied false e = refl

then-rest : {A : Type 0} (a : A) (p : TokenForm → Bool) (ts : Tokens) (k : SourceToken → Tokens → TokenForm → Option (A × Tokens)) →
    ((t : SourceToken) (us : Tokens) (f : TokenForm) → p f ≡ false → k t us f ≡ Some (a, t ∷ us)) →
    quiet p ts ≡ true → then a ts k ≡ Some (a, ts)
unfolding then
then-rest a p [] k h e = refl
then-rest a p (t ∷ ts) k h e = h t ts t.form (denied (p t.form) e)

-- what was read stands, where the rest does not go on with it
pub stays : {A : Type 0} (a : A) {ts : Tokens} (k : ℕ → SourceToken → Tokens → TokenForm → Option (A × Tokens)) (p : TokenForm → Bool) →
    quiet p ts ≡ true →
    ((n : ℕ) (t : SourceToken) (us : Tokens) (f : TokenForm) → p f ≡ false → k n t us f ≡ Some (a, t ∷ us)) →
    Gives (λ n. then a ts (k n)) (a, ts)
stays a {ts = ts} k p e h = record { bound = 0; value = λ m l. then-rest a p ts (k m) (h m) e }

given-true : {B : Type 0} (b : Bool) (k : Option B) → b ≡ true → given b k ≡ k
unfolding given
given-true true k e = refl
given-true false k e = cc

pub allowed : {B : Type 0} (c : Bool) (k : ℕ → Option B) {b : B} →
    c ≡ true → Gives k b → Gives (λ n. given c (k n)) b
allowed c k e g = record { bound = g.bound; value = λ m l. given-true c (k m) e ∙ g.value m l }

-- what is read by a test or by a form of a token, once the test or the form is known
pub decided : {A : Type 0} {a : A} (k : ℕ → Bool → Option A) {b c : Bool} → b ≡ c → Gives (λ n. k n c) a → Gives (λ n. k n b) a
decided k e g = record { bound = g.bound; value = λ m l. ap (k m) e ∙ g.value m l }

pub alike : {A : Type 0} {a : A} {f g : ℕ → Option A} → ((n : ℕ) → f n ≡ g n) → Gives g a → Gives f a
alike h g = record { bound = g.bound; value = λ m l. h m ∙ g.value m l }
