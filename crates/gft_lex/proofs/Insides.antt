-- A text that is closed: its escapes, and what stands before its end.
use Rattle.std.proofs.Common.{◌≡◌, ◌≢◌, ℕ, ◌+◌, ◌<◌, Bool, true, false, List, [], ◌∷◌, ◌++◌, Option, Some, None, Contains, refl, sym, ap, ◌∙◌, arith, subst, ⊎_elim}
use Rattle.std.specs.Prelude.{option_map, encode_utf8}
use Rattle.std.proofs.lemmas.Bool.{cases_Bool}
use Rattle.gft_core.specs.declared.place.Place.{Place}
use Rattle.gft_model.specs.Source.{quoted_text, escape_text, escaped, after}
use Rattle.gft_lex.specs.declared.quoted.Reading.{Reading}
use Rattle.gft_lex.specs.declared.quoted.Reading.TheVariants.{Closed, BadEscape, Broken, Open}
use Rattle.gft_lex.specs.Lexemes.{is_character, closing_on}
use Rattle.gft_lex.specs.Texts.{reading, escapes_from}
use Rattle.gft_lex.proofs.Closings.{IsNext, next_of, backslash, quote, newline, plain, at_backslash, at_other, some_none, map_some, then_some, on_newline, on_escaped, on_quote, on_backslash, on_other}
use Rattle.gft_lex.proofs.Escapes.{escapes_backslash, escapes_quote, escapes_other, head_or_tail, in_none}
use Rattle.gft_lex.proofs.Readings.{read_broken, read_quote, read_backslash, read_other, read_escape}

-- each escape of a text stands for something
abbrev AreGood : List ℕ → List ℕ → Type 0
AreGood q r = (t : List ℕ) (p d : Place) (x : ℕ) → quoted_text q ≡ Some t → Contains (escapes_from p (q ++ r)) (d, x)
    → escaped x ≡ None → ⊥

no_escapes : (p d : Place) (c x : ℕ) (r : List ℕ) → c ≡ 34 → Contains (escapes_from p (c ∷ r)) (d, x) → ⊥
no_escapes p d c x [] e h = in_none (d, x) h
no_escapes p d c x (y ∷ r) e h = in_none (d, x) (subst (λ z. Contains z (d, x)) (escapes_quote p c y r e) h)

good_one : (c : ℕ) (r : List ℕ) → IsNext c → AreGood (c ∷ []) r
good_one c r (backslash b) t p d x e h n = absurd (some_none t (sym e ∙ at_backslash c [] b))
good_one c r (quote b) t p d x e h n = no_escapes p d c x r b h
good_one c r (newline b) t p d x e h n = absurd (some_none t (sym e ∙ ap (λ c. quoted_text (c ∷ [])) b))
good_one c r (plain u v w) t p d x e h n = absurd (some_none t (sym e ∙ at_other c [] u v w))

good_tail : (q r t : List ℕ) (c y : ℕ) (p d : Place) (x : ℕ) → AreGood q r → c ≡ 92 → escape_text (y ∷ q) ≡ Some t
    → Contains (escapes_from p (c ∷ y ∷ (q ++ r))) (d, x) → escaped x ≡ None → ⊥
good_tail q r t c y p d x f b e h n =
    let u = then_some (λ d. option_map (λ l. d ∷ l) (quoted_text q)) (escaped y) t e in
    let v = map_some (λ l. u.0 ∷ l) (quoted_text q) t u.2 in
    ⊎_elim (λ a. let same : y ≡ x = ap (λ (z : Place × ℕ). z.1) a in let z = ap escaped same ∙ n in let k = u.1 in absurd (cc))
    (λ a. f v.0 (after y (after c p)) d x v.1 a n)
    (head_or_tail (p, y) (d, x) (escapes_from (after y (after c p)) (q ++ r))
    (subst (λ z. Contains z (d, x)) (escapes_backslash p c y (q ++ r) b) h))

good_at : (c y : ℕ) (q r : List ℕ) → IsNext c → AreGood (y ∷ q) r → AreGood q r → AreGood (c ∷ y ∷ q) r
good_at c y q r (backslash b) f g t p d x e h n = good_tail q r t c y p d x g b (sym (at_backslash c (y ∷ q) b) ∙ e) h n
good_at c y q r (quote b) f g t p d x e h n = no_escapes p d c x (y ∷ (q ++ r)) b h
good_at c y q r (newline b) f g t p d x e h n = absurd (some_none t (sym e ∙ ap (λ c. quoted_text (c ∷ y ∷ q)) b))
good_at c y q r (plain u v w) f g t p d x e h n =
    let k = map_some (λ l. c ∷ l) (quoted_text (y ∷ q)) t (sym (at_other c (y ∷ q) u v w) ∙ e) in
    f k.0 (after c p) d x k.1 (subst (λ z. Contains z (d, x)) (escapes_other p c y (q ++ r) v u) h) n

good_none : (r : List ℕ) → AreGood [] r
good_none r t p d x e h n = absurd (some_none t (sym e))

pub good : (q r : List ℕ) → AreGood q r
good [] r = good_none r
good (c ∷ []) r = good_one c r (next_of c)
good (c ∷ y ∷ q) r = good_at c y q r (next_of c) (good (y ∷ q) r) (good q r)

-- what is read of a text comes before its end
abbrev pub IsInside : ℕ → Reading → Type 0
IsInside n (Closed t m) = Unit {0}
IsInside n (BadEscape k x) = Unit {0}
IsInside n (Broken k) = k < n
IsInside n Open = ⊥

abbrev Ends : Bool → List ℕ → Type 0
Ends e ds = (i n : ℕ) (text : List ℕ) → closing_on i e ds ≡ Some n → (i < n) × IsInside n (reading e i text ds)

none_some : (n : ℕ) → None ≡ Some n → ⊥
none_some n e = absurd (cc)

inside : (n : ℕ) (x y : Reading) → x ≡ y → IsInside n y → IsInside n x
inside n x y e h = subst (IsInside n) (sym e) h

-- behind a character that is one
ends_at : (c : ℕ) (cs : List ℕ) → IsNext c → Ends false cs → Ends true cs → is_character c ≡ true → Ends false (c ∷ cs)
ends_at c cs (backslash b) f g h i n text e =
    let y = g (i + 1) n text (sym (on_backslash i c cs b) ∙ e) in
    (let l = y.0 in omega (arith, l), inside n _ _ (read_backslash i text c cs b) y.1)
ends_at c cs (quote b) f g h i n text e =
    let same : Some (i + 1) ≡ Some n = sym (on_quote i c cs b) ∙ e in
    (let k : i + 1 ≡ n = cc in omega (arith, k), inside n _ _ (read_quote i text c cs b) tt)
ends_at c cs (newline b) f g h i n text e = absurd (none_some n (sym (on_newline i false c cs b) ∙ e))
ends_at c cs (plain u v w) f g h i n text e =
    let y = f (i + 1) n (text ++ encode_utf8 c) (sym (on_other i c cs w v u) ∙ e) in
    (let l = y.0 in omega (arith, l), inside n _ _ (read_other i text c cs h v u) y.1)

-- behind one that is none
ends_broken : (c : ℕ) (cs : List ℕ) → IsNext c → Ends false cs → Ends true cs → is_character c ≡ false → Ends false (c ∷ cs)
ends_broken c cs (backslash b) f g h i n text e =
    let l = (g (i + 1) n text (sym (on_backslash i c cs b) ∙ e)).0 in
    let m : i < n = omega (arith, l) in
    (m, inside n _ _ (read_broken false i text c cs h) m)
ends_broken c cs (quote b) f g h i n text e =
    let same : Some (i + 1) ≡ Some n = sym (on_quote i c cs b) ∙ e in
    let m : i < n = (let k : i + 1 ≡ n = cc in omega (arith, k)) in
    (m, inside n _ _ (read_broken false i text c cs h) m)
ends_broken c cs (newline b) f g h i n text e = absurd (none_some n (sym (on_newline i false c cs b) ∙ e))
ends_broken c cs (plain u v w) f g h i n text e =
    let l = (f (i + 1) n text (sym (on_other i c cs w v u) ∙ e)).0 in
    let m : i < n = omega (arith, l) in
    (m, inside n _ _ (read_broken false i text c cs h) m)

no_newline : (i n c : ℕ) (e : Bool) (cs : List ℕ) → closing_on i e (c ∷ cs) ≡ Some n → c ≢ 10
no_newline i n c e cs h q = absurd (none_some n (sym (on_newline i e c cs q) ∙ h))

ends_escape : (c : ℕ) (cs : List ℕ) (o : Option ℕ) → escaped c ≡ o → Ends false cs → is_character c ≡ true → Ends true (c ∷ cs)
ends_escape c cs None q f h i n text e =
    let l = (f (i + 1) n text (sym (on_escaped i c cs (no_newline i n c true cs e)) ∙ e)).0 in
    (omega (arith, l), inside n _ _ (read_escape i text c cs None h q) tt)
ends_escape c cs (Some d) q f h i n text e =
    let y = f (i + 1) n (text ++ encode_utf8 d) (sym (on_escaped i c cs (no_newline i n c true cs e)) ∙ e) in
    (let l = y.0 in omega (arith, l), inside n _ _ (read_escape i text c cs (Some d) h q) y.1)

ends_escape_broken : (c : ℕ) (cs : List ℕ) → Ends false cs → is_character c ≡ false → Ends true (c ∷ cs)
ends_escape_broken c cs f h i n text e =
    let l = (f (i + 1) n text (sym (on_escaped i c cs (no_newline i n c true cs e)) ∙ e)).0 in
    let m : i < n = omega (arith, l) in
    (m, inside n _ _ (read_broken true i text c cs h) m)

ends_none : (e : Bool) → Ends e []
ends_none e i n text f = absurd (none_some n f)

mutual
  pub ends : (ds : List ℕ) → Ends false ds
  ends [] = ends_none false
  ends (c ∷ cs) = ⊎_elim (λ h. ends_at c cs (next_of c) (ends cs) (ends_after cs) h)
      (λ h. ends_broken c cs (next_of c) (ends cs) (ends_after cs) h) (cases_Bool (is_character c))

  ends_after : (ds : List ℕ) → Ends true ds
  ends_after [] = ends_none true
  ends_after (c ∷ cs) = ⊎_elim (λ h. ends_escape c cs (escaped c) refl (ends cs) h) (λ h. ends_escape_broken c cs (ends cs) h)
      (cases_Bool (is_character c))
