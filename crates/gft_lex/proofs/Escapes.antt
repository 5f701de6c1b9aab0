-- The first fault within a text, against its escapes.
use Rattle.std.proofs.Common.{◌≡◌, ◌≢◌, ℕ, suc, ◌+◌, ◌<◌, Bool, true, false, ◌==◌, List, [], ◌∷◌, ◌++◌, length, Option, Some, None, Contains, refl, sym, ap, ◌∙◌, arith, subst, ⊎_elim, ◌⊎◌, inl, inr}
use Rattle.std.specs.Prelude.{encode_utf8}
use Rattle.std.specs.List.{list_all}
use Rattle.std.proofs.lemmas.Bool.{cases_Bool, eq-eqb, ne_eqb, and_from, and_parts, or_cases, leb-true}
use Rattle.std.proofs.lemmas.List.Elements.{Contains-append_left, Contains-append_right, Contains-append_cases, Contains-push, Contains-push_cases}
use Rattle.gft_core.specs.declared.place.Place.{Place}
use Rattle.gft_model.specs.Source.{escaped, after}
use Rattle.gft_model.specs.TokenFaults.{moved, no_character}
use Rattle.gft_lex.specs.declared.quoted.Reading.{Reading}
use Rattle.gft_lex.specs.declared.quoted.Reading.TheVariants.{Closed, BadEscape, Broken, Open}
use Rattle.gft_lex.specs.Later.{is_letter}
use Rattle.gft_lex.specs.Lexemes.{is_character}
use Rattle.gft_lex.specs.Texts.{reading, escapes_from}
use Rattle.gft_lex.proofs.Closings.{IsNext, next_of, backslash, quote, newline, plain}
use Rattle.gft_lex.proofs.Readings.{read_broken, read_quote, read_backslash, read_other, read_escape}
use lib.Utf8.{scalars}

-- the first that is no character
pub record IsBroken (i k : ℕ) (ds : List ℕ) : Type 0 where
  pub front : List ℕ
  pub rest : List ℕ
  pub broken : ℕ
  pub parts : ds ≡ front ++ broken ∷ rest
  pub place : k ≡ i + length front
  pub before : scalars front ≡ true
  pub none : is_character broken ≡ false

abbrev Breaks : Bool → List ℕ → Type 0
Breaks e ds = (i k : ℕ) (text : List ℕ) → reading e i text ds ≡ Broken k → IsBroken i k ds

pub break_here : (i k c : ℕ) (cs : List ℕ) → i ≡ k → is_character c ≡ false → IsBroken i k (c ∷ cs)
break_here i k c cs e h = record {
  front = [];
  rest = cs;
  broken = c;
  parts = refl;
  place = omega
      (arith, e);
  before = refl;
  none = h;
}

break_more : (i k c : ℕ) (cs : List ℕ) → is_character c ≡ true → IsBroken (i + 1) k cs → IsBroken i k (c ∷ cs)
break_more i k c cs h b = record {
  front = c ∷ b.front;
  rest = b.rest;
  broken = b.broken;
  parts = ap (λ l. c ∷ l) b.parts;
  place = let p = b.place in omega (arith, p);
  before = and_from _ _ h b.before;
  none = b.none;
}

breaks_at : (c : ℕ) (cs : List ℕ) → IsNext c → Breaks false cs → Breaks true cs → is_character c ≡ true → Breaks false (c ∷ cs)
breaks_at c cs (backslash b) f g h i k text e = break_more i k c cs h (g (i + 1) k text (sym (read_backslash i text c cs b) ∙ e))
breaks_at c cs (quote b) f g h i k text e = let q = sym (read_quote i text c cs b) ∙ e in absurd (cc)
breaks_at c cs (newline b) f g h i k text e =
    break_more i k c cs h
    (f (i + 1) k (text ++ encode_utf8 c) (sym (read_other i text c cs h (omega (arith, b)) (omega (arith, b))) ∙ e))
breaks_at c cs (plain u v w) f g h i k text e =
    break_more i k c cs h (f (i + 1) k (text ++ encode_utf8 c) (sym (read_other i text c cs h v u) ∙ e))

breaks_escape : (c : ℕ) (cs : List ℕ) (o : Option ℕ) → escaped c ≡ o → Breaks false cs → is_character c ≡ true
    → Breaks true (c ∷ cs)
breaks_escape c cs None q f h i k text e = let r = sym (read_escape i text c cs None h q) ∙ e in absurd (cc)
breaks_escape c cs (Some d) q f h i k text e =
    break_more i k c cs h (f (i + 1) k (text ++ encode_utf8 d) (sym (read_escape i text c cs (Some d) h q) ∙ e))

breaks_or : (e : Bool) (c : ℕ) (cs : List ℕ) → (is_character c ≡ true → Breaks e (c ∷ cs)) → Breaks e (c ∷ cs)
breaks_or e c cs h i k text r = ⊎_elim (λ y. h y i k text r)
    (λ y. let b = sym (read_broken e i text c cs y) ∙ r in let same : i ≡ k = cc in break_here i k c cs same y)
    (cases_Bool (is_character c))

breaks_none : (e : Bool) → Breaks e []
breaks_none e i k text r = absurd (cc)

mutual
  pub breaks : (ds : List ℕ) → Breaks false ds
  breaks [] = breaks_none false
  breaks (c ∷ cs) = breaks_or false c cs (breaks_at c cs (next_of c) (breaks cs) (breaks_after cs))

  breaks_after : (ds : List ℕ) → Breaks true ds
  breaks_after [] = breaks_none true
  breaks_after (c ∷ cs) = breaks_or true c cs (breaks_escape c cs (escaped c) refl (breaks cs))

-- the escapes of a text
abbrev escapes_step : Place → ℕ → ℕ → List ℕ → Bool → Bool → List (Place × ℕ)
escapes_step p c d cs slash ends =
    elim slash [
      | true ↦ (p, d) ∷ escapes_from (after d (after c p)) cs
      | false ↦ elim ends [ true ↦ [] | false ↦ escapes_from (after c p) (d ∷ cs) ]
    ]

pub escapes_backslash : (p : Place) (c d : ℕ) (cs : List ℕ) → c ≡ 92
    → escapes_from p (c ∷ d ∷ cs) ≡ (p, d) ∷ escapes_from (after d (after c p)) cs
escapes_backslash p c d cs e = ap (λ b. escapes_step p c d cs b (c == 34)) (eq-eqb c 92 e)

pub escapes_quote : (p : Place) (c d : ℕ) (cs : List ℕ) → c ≡ 34 → escapes_from p (c ∷ d ∷ cs) ≡ []
escapes_quote p c d cs e = ap (λ c. escapes_step p c d cs (c == 92) (c == 34)) e

pub escapes_other : (p : Place) (c d : ℕ) (cs : List ℕ) → c ≢ 34 → c ≢ 92
    → escapes_from p (c ∷ d ∷ cs) ≡ escapes_from (after c p) (d ∷ cs)
escapes_other p c d cs n m = ap (λ b. escapes_step p c d cs b (c == 34)) (ne_eqb c 92 m)
    ∙ ap (escapes_step p c d cs false) (ne_eqb c 34 n)

pub at_head : {X : Type 0} (y : X) (ys : List X) → Contains (y ∷ ys) y
at_head y ys = Contains-append_left (y ∷ []) ys y (Contains-push [] y)

pub in_tail : {X : Type 0} (y x : X) (ys : List X) → Contains ys x → Contains (y ∷ ys) x
in_tail y x ys h = Contains-append_right (y ∷ []) ys x h

pub in_none : {X : Type 0} (x : X) → Contains [] x → ⊥
in_none x h = let l = h.1 in absurd (omega (arith, l))

pub head_or_tail : {X : Type 0} (y x : X) (ys : List X) → Contains (y ∷ ys) x → (y ≡ x) ⊎ Contains ys x
head_or_tail y x ys h =
    ⊎_elim (λ a. ⊎_elim (λ b. absurd (in_none x b)) (λ b. inl b) (Contains-push_cases [] y x a)) (λ a. inr a)
    (Contains-append_cases (y ∷ []) ys x h)

-- a backslash with a character that stands for nothing
pub record IsBadEscape (i k c : ℕ) (ds : List ℕ) : Type 0 where
  pub front : List ℕ
  pub rest : List ℕ
  pub parts : ds ≡ front ++ 92 ∷ c ∷ rest
  pub place : k ≡ suc (i + length front)
  pub before : scalars front ≡ true
  pub bad : escaped c ≡ None
  pub character : is_character c ≡ true
  pub listed : (p : Place) → Contains (escapes_from p ds) (moved (length front) p ds, c)

abbrev Escapes : List ℕ → Type 0
Escapes ds = (i k x : ℕ) (text : List ℕ) → reading false i text ds ≡ BadEscape k x → IsBadEscape i k x ds

escape_here : (i k c d x : ℕ) (cs : List ℕ) → c ≡ 92 → is_character d ≡ true → escaped d ≡ None → i + 1 ≡ k → d ≡ x
    → IsBadEscape i k x (c ∷ d ∷ cs)
escape_here i k c d x cs b h q e f = record {
  front = [];
  rest = cs;
  parts = ap (λ c. c ∷ d ∷ cs) b ∙ ap (λ d. 92 ∷ d ∷ cs) f;
  place = omega (arith, e);
  before = refl;
  bad = ap escaped (sym f) ∙ q;
  character = ap is_character (sym f) ∙ h;
  listed = λ p. subst (λ l. Contains l (p, x)) (sym (escapes_backslash p c d cs b))
      (subst (λ y. Contains ((p, d) ∷ escapes_from (after d (after c p)) cs) (p, y)) f
      (at_head (p, d) (escapes_from (after d (after c p)) cs)));
}

escape_past : (i k c d x : ℕ) (cs : List ℕ) → c ≡ 92 → is_character d ≡ true → IsBadEscape (i + 1 + 1) k x cs
    → IsBadEscape i k x (c ∷ d ∷ cs)
escape_past i k c d x cs b h y = record {
  front = c ∷ d ∷ y.front;
  rest = y.rest;
  parts = ap (λ l. c ∷ d ∷ l) y.parts;
  place = let p = y.place in omega (arith, p);
  before = and_from _ _ (ap is_character b) (and_from _ _ h y.before);
  bad = y.bad;
  character = y.character;
  listed = λ p. subst (λ l. Contains l (moved (suc (suc (length y.front))) p (c ∷ d ∷ cs), x))
      (sym (escapes_backslash p c d cs b))
      (in_tail (p, d) (moved (length y.front) (after d (after c p)) cs, x) (escapes_from (after d (after c p)) cs)
      (y.listed (after d (after c p))));
}

escape_more : (i k c d x : ℕ) (cs : List ℕ) → c ≢ 34 → c ≢ 92 → is_character c ≡ true → IsBadEscape (i + 1) k x (d ∷ cs)
    → IsBadEscape i k x (c ∷ d ∷ cs)
escape_more i k c d x cs n m h y = record {
  front = c ∷ y.front;
  rest = y.rest;
  parts = ap (λ l. c ∷ l) y.parts;
  place = let p = y.place in omega (arith, p);
  before = and_from _ _ h y.before;
  bad = y.bad;
  character = y.character;
  listed = λ p. subst (λ l. Contains l (moved (suc (length y.front)) p (c ∷ d ∷ cs), x)) (sym (escapes_other p c d cs n m))
      (y.listed (after c p));
}

escapes_after : (c d : ℕ) (cs : List ℕ) (o : Option ℕ) → c ≡ 92 → Escapes cs → escaped d ≡ o → is_character d ≡ true
    → (i k x : ℕ) (text : List ℕ) → reading true (i + 1) text (d ∷ cs) ≡ BadEscape k x → IsBadEscape i k x (c ∷ d ∷ cs)
escapes_after c d cs None b f q h i k x text e =
    let r = sym (read_escape (i + 1) text d cs None h q) ∙ e in
    let place : i + 1 ≡ k = cc in
    let same : d ≡ x = cc in
    escape_here i k c d x cs b h q place same
escapes_after c d cs (Some y) b f q h i k x text e =
    escape_past i k c d x cs b h
    (f (i + 1 + 1) k x (text ++ encode_utf8 y) (sym (read_escape (i + 1) text d cs (Some y) h q) ∙ e))

escapes_at : (c d : ℕ) (cs : List ℕ) → IsNext c → Escapes (d ∷ cs) → Escapes cs → is_character c ≡ true → Escapes (c ∷ d ∷ cs)
escapes_at c d cs (backslash b) f g h i k x text e =
    let r = sym (read_backslash i text c (d ∷ cs) b) ∙ e in
    ⊎_elim (λ y. escapes_after c d cs (escaped d) b g refl y i k x text r)
    (λ y. let s = sym (read_broken true (i + 1) text d cs y) ∙ r in absurd (cc)) (cases_Bool (is_character d))
escapes_at c d cs (quote b) f g h i k x text e = let q = sym (read_quote i text c (d ∷ cs) b) ∙ e in absurd (cc)
escapes_at c d cs (newline b) f g h i k x text e =
    let n : c ≢ 34 = omega (arith, b) in
    let m : c ≢ 92 = omega (arith, b) in
    escape_more i k c d x cs n m h (f (i + 1) k x (text ++ encode_utf8 c) (sym (read_other i text c (d ∷ cs) h n m) ∙ e))
escapes_at c d cs (plain u v w) f g h i k x text e =
    escape_more i k c d x cs v u h (f (i + 1) k x (text ++ encode_utf8 c) (sym (read_other i text c (d ∷ cs) h v u) ∙ e))

escapes_one : (c : ℕ) → IsNext c → is_character c ≡ true → Escapes (c ∷ [])
escapes_one c (backslash b) h i k x text e = let r = sym (read_backslash i text c [] b) ∙ e in absurd (cc)
escapes_one c (quote b) h i k x text e = let r = sym (read_quote i text c [] b) ∙ e in absurd (cc)
escapes_one c (newline b) h i k x text e = let r = sym (read_other i text c [] h (omega (arith, b)) (omega (arith, b)))
    ∙ e in absurd (cc)
escapes_one c (plain u v w) h i k x text e = let r = sym (read_other i text c [] h v u) ∙ e in absurd (cc)

escapes_or : (c : ℕ) (cs : List ℕ) → (is_character c ≡ true → Escapes (c ∷ cs)) → Escapes (c ∷ cs)
escapes_or c cs h i k x text r = ⊎_elim (λ y. h y i k x text r)
    (λ y. let b = sym (read_broken false i text c cs y) ∙ r in absurd (cc)) (cases_Bool (is_character c))

escapes_none : Escapes []
escapes_none i k x text r = absurd (cc)

pub escapes : (ds : List ℕ) → Escapes ds
escapes [] = escapes_none
escapes (c ∷ []) = escapes_or c [] (escapes_one c (next_of c))
escapes (c ∷ d ∷ cs) = escapes_or c (d ∷ cs) (escapes_at c d cs (next_of c) (escapes (d ∷ cs)) (escapes cs))

-- a fault at a place among those read is none before a bad escape
abbrev pub IsNotBefore : ℕ → ℕ → ℕ → Reading → Type 0
IsNotBefore i j x (BadEscape k d) = ((k ≡ suc (i + j)) × (d ≡ x)) ⊎ (k < suc (i + j))
IsNotBefore i j x (Broken k) = k < i + j
IsNotBefore i j x (Closed t n) = ⊥
IsNotBefore i j x Open = Unit {0}

not_before_more : (i j x : ℕ) (r : Reading) → IsNotBefore (i + 1) j x r → IsNotBefore i (suc j) x r
not_before_more i j x (BadEscape k d) h = ⊎_elim (λ a. inl (let e = a.0 in omega (arith, e), a.1)) (λ a. inr (omega (arith, a))) h
not_before_more i j x (Broken k) h = omega (arith, h)
not_before_more i j x (Closed t n) h = h
not_before_more i j x Open h = tt

not_before : (i j x : ℕ) (r s : Reading) → s ≡ r → IsNotBefore i j x r → IsNotBefore i j x s
not_before i j x r s e h = subst (IsNotBefore i j x) (sym e) h

-- where a bad escape stands
pub record IsEscape (i : ℕ) (p : Place) (ds : List ℕ) (q : Place) (x : ℕ) (r : Reading) : Type 0 where
  pub index : ℕ
  pub place : q ≡ moved index p ds
  pub order : IsNotBefore i index x r

abbrev Later : List ℕ → Type 0
Later ds = (p : Place) (i : ℕ) (text : List ℕ) (q : Place) (x : ℕ) → list_all is_letter ds ≡ true
    → Contains (escapes_from p ds) (q, x) → escaped x ≡ None
    → x < no_character → IsEscape i p ds q x (reading false i text ds)

character_of : (c : ℕ) → is_letter c ≡ true → c < no_character → is_character c ≡ true
character_of c h l = ⊎_elim (λ a. a) (λ a. let b = leb-true no_character c a in absurd (omega (arith, b, l))) (or_cases _ _ h)

later_other : (c d : ℕ) (cs : List ℕ) → c ≢ 34 → c ≢ 92 → Later (d ∷ cs) → Later (c ∷ d ∷ cs)
later_other c d cs n m f p i text q x ls h e l =
    let y : IsEscape (i + 1) (after c p) (d ∷ cs) q x (reading false (i + 1) (text ++ encode_utf8 c) (d ∷ cs))
    = f (after c p) (i + 1) (text ++ encode_utf8 c) q x (and_parts (is_letter c) (list_all is_letter (d ∷ cs)) ls).1
    (subst (λ z. Contains z (q, x)) (escapes_other p c d cs n m) h) e l in
    record {
      index = suc y.index;
      place = y.place;
      order = ⊎_elim
          (λ a. not_before i (suc y.index) x _ _ (read_other i text c (d ∷ cs) a n m) (not_before_more i y.index x _ y.order))
          (λ a. not_before i (suc y.index) x _ _ (read_broken false i text c (d ∷ cs) a) (omega arith))
          (cases_Bool (is_character c));
    }

abbrev Tail : Place → ℕ → List ℕ → Place → ℕ → Type 0
Tail p i cs q x = (text : List ℕ) → IsEscape i p cs q x (reading false i text cs)

-- behind a backslash
later_tail : (c d : ℕ) (cs : List ℕ) (p : Place) (i : ℕ) (text : List ℕ) (q : Place) (x : ℕ) (o : Option ℕ) → c ≡ 92
    → escaped d ≡ o → is_character d ≡ true
    → Tail (after d (after c p)) (i + 1 + 1) cs q x → IsEscape i p (c ∷ d ∷ cs) q x (reading true (i + 1) text (d ∷ cs))
later_tail c d cs p i text q x None b f h g =
    let y = g [] in
    record {
      index = suc (suc y.index);
      place = y.place;
      order = not_before i (suc (suc y.index)) x _ _ (read_escape (i + 1) text d cs None h f) (inr (omega arith));
    }
later_tail c d cs p i text q x (Some z) b f h g =
    let y = g (text ++ encode_utf8 z) in
    record {
      index = suc (suc y.index);
      place = y.place;
      order = not_before i (suc (suc y.index)) x _ _ (read_escape (i + 1) text d cs (Some z) h f)
          (not_before_more i (suc y.index) x _ (not_before_more (i + 1) y.index x _ y.order));
    }

later_broken : (c d : ℕ) (cs : List ℕ) (p : Place) (i : ℕ) (text : List ℕ) (q : Place) (x : ℕ) → is_character d ≡ false
    → Tail (after d (after c p)) (i + 1 + 1) cs q x → IsEscape i p (c ∷ d ∷ cs) q x (reading true (i + 1) text (d ∷ cs))
later_broken c d cs p i text q x h g =
    let y = g [] in
    record {
      index = suc (suc y.index);
      place = y.place;
      order = not_before i (suc (suc y.index)) x _ _ (read_broken true (i + 1) text d cs h) (omega arith);
    }

later_head : (c d : ℕ) (cs : List ℕ) (p : Place) (i : ℕ) (text : List ℕ) (q : Place) (x : ℕ) → is_character d ≡ true
    → escaped d ≡ None → p ≡ q → d ≡ x
    → IsEscape i p (c ∷ d ∷ cs) q x (reading true (i + 1) text (d ∷ cs))
later_head c d cs p i text q x h f e g = record {
  index = 0;
  place = sym e;
  order = not_before i 0 x _ _ (read_escape (i + 1) text d cs None h f) (inl (omega arith, g));
}

later_backslash : (c d : ℕ) (cs : List ℕ) → c ≡ 92 → Later cs → Later (c ∷ d ∷ cs)
later_backslash c d cs b f p i text q x ls h e l =
    let letters = and_parts (is_letter d) (list_all is_letter cs) (and_parts (is_letter c) (list_all is_letter (d ∷ cs)) ls).1 in
    let P : Reading → Type 0 = IsEscape i p (c ∷ d ∷ cs) q x in
    subst P (sym (read_backslash i text c (d ∷ cs) b))
    (⊎_elim
    (λ a. let same : d ≡ x = ap (λ (y : Place × ℕ). y.1) a in
    later_head c d cs p i text q x (character_of d letters.0 (omega (arith, same, l))) (ap escaped same ∙ e)
    (ap (λ (y : Place × ℕ). y.0) a) same)
    (λ a. let g : Tail (after d (after c p)) (i + 1 + 1) cs q x = λ text. f (after d (after c p))
    (i + 1 + 1) text q x letters.1 a e l in
    ⊎_elim (λ y. later_tail c d cs p i text q x (escaped d) b refl y g) (λ y. later_broken c d cs p i text q x y g)
    (cases_Bool (is_character d)))
    (head_or_tail (p, d) (q, x) (escapes_from (after d (after c p)) cs)
    (subst (λ z. Contains z (q, x)) (escapes_backslash p c d cs b) h)))

later_quote : (c d : ℕ) (cs : List ℕ) → c ≡ 34 → Later (c ∷ d ∷ cs)
later_quote c d cs b p i text q x ls h e l = absurd (in_none (q, x) (subst (λ z. Contains z (q, x)) (escapes_quote p c d cs b) h))

later_at : (c d : ℕ) (cs : List ℕ) → IsNext c → Later (d ∷ cs) → Later cs → Later (c ∷ d ∷ cs)
later_at c d cs (backslash b) f g = later_backslash c d cs b g
later_at c d cs (quote b) f g = later_quote c d cs b
later_at c d cs (newline b) f g = later_other c d cs (omega (arith, b)) (omega (arith, b)) f
later_at c d cs (plain u v w) f g = later_other c d cs v u f

later_none : Later []
later_none p i text q x ls h e l = absurd (in_none (q, x) h)

later_one : (c : ℕ) → Later (c ∷ [])
later_one c p i text q x ls h e l = absurd (in_none (q, x) h)

pub later : (ds : List ℕ) → Later ds
later [] = later_none
later (c ∷ []) = later_one c
later (c ∷ d ∷ cs) = later_at c d cs (next_of c) (later (d ∷ cs)) (later cs)

-- each escape stands so many characters on
pub record IsListedAt (p : Place) (ds : List ℕ) (q : Place) : Type 0 where
  pub index : ℕ
  pub place : q ≡ moved index p ds

listed_at : (c d : ℕ) (cs : List ℕ) → IsNext c
    → ((p q : Place) (x : ℕ) → Contains (escapes_from p (d ∷ cs)) (q, x) → IsListedAt p (d ∷ cs) q)
    → ((p q : Place) (x : ℕ) → Contains (escapes_from p cs) (q, x) → IsListedAt p cs q)
    → (p q : Place) (x : ℕ) → Contains (escapes_from p (c ∷ d ∷ cs)) (q, x) → IsListedAt p (c ∷ d ∷ cs) q
listed_at c d cs (backslash b) f g p q x h =
    ⊎_elim (λ a. record { index = 0; place = sym (ap (λ (y : Place × ℕ). y.0) a) })
    (λ a. let y = g (after d (after c p)) q x a in record { index = suc (suc y.index); place = y.place })
    (head_or_tail (p, d) (q, x) (escapes_from (after d (after c p)) cs)
    (subst (λ z. Contains z (q, x)) (escapes_backslash p c d cs b) h))
listed_at c d cs (quote b) f g p q x h = absurd (in_none (q, x) (subst (λ z. Contains z (q, x)) (escapes_quote p c d cs b) h))
listed_at c d cs (newline b) f g p q x h =
    let y = f (after c p) q x (subst (λ z. Contains z (q, x)) (escapes_other p c d cs (omega (arith, b)) (omega (arith, b))) h) in
    record { index = suc y.index; place = y.place }
listed_at c d cs (plain u v w) f g p q x h =
    let y = f (after c p) q x (subst (λ z. Contains z (q, x)) (escapes_other p c d cs v u) h) in
    record { index = suc y.index; place = y.place }

pub escape_on : (ds : List ℕ) (p q : Place) (x : ℕ) → Contains (escapes_from p ds) (q, x) → IsListedAt p ds q
escape_on [] p q x h = absurd (in_none (q, x) h)
escape_on (c ∷ []) p q x h = absurd (in_none (q, x) h)
escape_on (c ∷ d ∷ cs) p q x h = listed_at c d cs (next_of c) (escape_on (d ∷ cs)) (escape_on cs) p q x h
