-- Where texts and comments are closed.
use Rattle.std.proofs.Common.{◌≡◌, ◌≢◌, ℕ, suc, ◌+◌, ◌≤◌, Bool, true, false, ◌&&◌, ◌||◌, ◌==◌, List, [], ◌∷◌, ◌++◌, length, take, drop, Option, Some, None, cond, refl, sym, ap, ◌∙◌, arith, append_assoc, ⊎_elim, ◌⊎◌, inl, inr}
use Rattle.std.specs.Prelude.{option_map, option_and_then, is_some, if◌then◌else◌}
use Rattle.std.proofs.lemmas.Bool.{cond-true, cond-false, and_right, cases_eq, eq-eqb, ne_eqb, or_from}
use Rattle.std.proofs.lemmas.List.{take-append-drop, length-append, take_at, length-take-le}
use Rattle.gft_model.specs.Source.{quoted_text, escape_text, escaped, form_of, longest, block_length}
use Rattle.gft_lex.specs.Texts.{is_closed, is_closed_after}
use Rattle.gft_lex.specs.Lexemes.{block_on, closing_on}
use Rattle.gft_lex.proofs.Longest.{longest_is, longest_none}
use Rattle.gft_lex.proofs.Forms.{quoted_form}

-- how a text goes on
abbrev text_step : ℕ → List ℕ → Bool → Bool → Option (List ℕ)
text_step c cs backslash ends =
    elim backslash [
      | true ↦ escape_text cs
      | false ↦ elim ends [
        | true ↦ (if c == 34 && length cs == 0 then Some [] else None)
        | false ↦ option_map (λ rest. c ∷ rest) (quoted_text cs)
      ]
    ]

quoted_step : (c : ℕ) (cs : List ℕ) → quoted_text (c ∷ cs) ≡ text_step c cs (c == 92) (c == 34 || c == 10)
quoted_step c cs = refl

pub at_backslash : (c : ℕ) (cs : List ℕ) → c ≡ 92 → quoted_text (c ∷ cs) ≡ escape_text cs
at_backslash c cs e = ap (λ b. text_step c cs b (c == 34 || c == 10)) (eq-eqb c 92 e)

pub at_end : (c : ℕ) (cs : List ℕ) → c ≢ 92 → (c == 34 || c == 10) ≡ true
    → quoted_text (c ∷ cs) ≡ (if c == 34 && length cs == 0 then Some [] else None)
at_end c cs n e = ap (λ b. text_step c cs b (c == 34 || c == 10)) (ne_eqb c 92 n) ∙ ap (text_step c cs false) e

pub at_other : (c : ℕ) (cs : List ℕ) → c ≢ 92 → c ≢ 34 → c ≢ 10
    → quoted_text (c ∷ cs) ≡ option_map (λ rest. c ∷ rest) (quoted_text cs)
at_other c cs n m k = ap (λ b. text_step c cs b (c == 34 || c == 10)) (ne_eqb c 92 n)
    ∙ ap (text_step c cs false) (or_from _ _ (ne_eqb c 34 m) (ne_eqb c 10 k))

-- how far a text goes
pub on_newline : (i : ℕ) (b : Bool) (c : ℕ) (cs : List ℕ) → c ≡ 10 → closing_on i b (c ∷ cs) ≡ None
on_newline i b c cs e = cond-true _ _ _ (eq-eqb c 10 e)

pub on_escaped : (i c : ℕ) (cs : List ℕ) → c ≢ 10 → closing_on i true (c ∷ cs) ≡ closing_on (i + 1) false cs
on_escaped i c cs n = cond-false _ _ _ (ne_eqb c 10 n)

pub on_quote : (i c : ℕ) (cs : List ℕ) → c ≡ 34 → closing_on i false (c ∷ cs) ≡ Some (i + 1)
on_quote i c cs e = ap (λ c. closing_on i false (c ∷ cs)) e

pub on_backslash : (i c : ℕ) (cs : List ℕ) → c ≡ 92 → closing_on i false (c ∷ cs) ≡ closing_on (i + 1) true cs
on_backslash i c cs e = ap (λ c. closing_on i false (c ∷ cs)) e

pub on_other : (i c : ℕ) (cs : List ℕ) → c ≢ 10 → c ≢ 34 → c ≢ 92 → closing_on i false (c ∷ cs) ≡ closing_on (i + 1) false cs
on_other i c cs n m k = cond-false _ _ _ (ne_eqb c 10 n) ∙ cond-false _ _ _ (ne_eqb c 34 m)
    ∙ ap (λ b. closing_on (i + 1) b cs) (ne_eqb c 92 k)

-- which character comes next
pub data IsNext (c : ℕ) : Type 0 where
  backslash : c ≡ 92 → IsNext c
  quote : c ≡ 34 → IsNext c
  newline : c ≡ 10 → IsNext c
  plain : c ≢ 92 → c ≢ 34 → c ≢ 10 → IsNext c

pub next_of : (c : ℕ) → IsNext c
next_of c = ⊎_elim backslash (λ n. ⊎_elim quote (λ m. ⊎_elim newline (λ k. plain n m k) (cases_eq c 10)) (cases_eq c 34))
    (cases_eq c 92)

escape_no_newline : (c : ℕ) (cs : List ℕ) (t : List ℕ) → escape_text (c ∷ cs) ≡ Some t → c ≢ 10
escape_no_newline c cs t e q = let f = ap (λ c. escape_text (c ∷ cs)) q in absurd (cc)

pub some_none : (t : List ℕ) → Some t ≡ None → ⊥
some_none t e = absurd (cc)

pub empty_at : (c : ℕ) (cs : List ℕ) (t : List ℕ) → (if c == 34 && length cs == 0 then Some [] else None) ≡ Some t → cs ≡ []
empty_at c [] t e = refl
empty_at c (d ∷ cs) t e =
    absurd (some_none t (sym e ∙ cond-false _ _ _ (and_right _ _ (ne_eqb (suc (length cs)) 0 (λ z. absurd (omega (arith, z)))))))

pub map_some : (f : List ℕ → List ℕ) (o : Option (List ℕ)) (t : List ℕ) → option_map f o ≡ Some t → (u : List ℕ) × (o ≡ Some u)
map_some f None t e = absurd (cc)
map_some f (Some u) t e = (u, refl)

pub then_some : (g : ℕ → Option (List ℕ)) (o : Option ℕ) (t : List ℕ) → option_and_then g o ≡ Some t
    → (d : ℕ) × (o ≡ Some d) × (g d ≡ Some t)
then_some g None t e = absurd (cc)
then_some g (Some d) t e = (d, refl, e)

-- a text is closed at its end
abbrev Closes : List ℕ → List ℕ → Bool → (List ℕ → Option (List ℕ)) → Type 0
Closes q r escaping text = (t : List ℕ) (i : ℕ) → text q ≡ Some t → closing_on i escaping (q ++ r) ≡ Some (i + length q)

closes_at : (c : ℕ) (q r : List ℕ) → IsNext c → Closes q r false quoted_text → Closes q r true escape_text
    → Closes (c ∷ q) r false quoted_text
closes_at c q r (backslash b) f g t i e = on_backslash i c (q ++ r) b ∙ g t (i + 1) (sym (at_backslash c q b) ∙ e)
    ∙ ap Some (omega arith)
closes_at c q r (quote b) f g t i e =
    let n : c ≢ 92 = omega (arith, b) in
    let z = empty_at c q t (sym (at_end c q n (ap (λ c. c == 34 || c == 10) b)) ∙ e) in
    on_quote i c (q ++ r) b ∙ ap (λ q. Some (i + suc (length q))) (sym z)
closes_at c q r (newline b) f g t i e =
    let n : c ≢ 92 = omega (arith, b) in
    let none = ap (λ c. if c == 34 && length q == 0 then Some [] else None) b in
    absurd (some_none t (sym e ∙ at_end c q n (ap (λ c. c == 34 || c == 10) b) ∙ none))
closes_at c q r (plain n m k) f g t i e =
    let u = map_some (λ rest. c ∷ rest) (quoted_text q) t (sym (at_other c q n m k) ∙ e) in
    on_other i c (q ++ r) k m n ∙ f u.0 (i + 1) u.1 ∙ ap Some (omega arith)

mutual
  pub text_closes : (q r : List ℕ) → Closes q r false quoted_text
  text_closes [] r t i e = absurd (cc)
  text_closes (c ∷ q) r t i e = closes_at c q r (next_of c) (text_closes q r) (escape_closes q r) t i e

  escape_closes : (q r : List ℕ) → Closes q r true escape_text
  escape_closes [] r t i e = absurd (cc)
  escape_closes (c ∷ q) r t i e =
      let u = then_some (λ d. option_map (λ rest. d ∷ rest) (quoted_text q)) (escaped c) t e in
      let v = map_some (λ rest. u.0 ∷ rest) (quoted_text q) t u.2 in
      on_escaped i c (q ++ r) (escape_no_newline c q t e) ∙ text_closes q r v.0 (i + 1) v.1 ∙ ap Some (omega arith)

-- a text that is not closed is no token
no_prefix : (ds b a : List ℕ) (c : ℕ) → 34 ∷ ds ≡ b ++ c ∷ a
    → ((q r : List ℕ) → ds ≡ q ++ r → quoted_text q ≡ None) → form_of (b ++ c ∷ []) ≡ None
no_prefix ds [] a c e h = let f : c ≡ 34 = cc in ap (λ c. form_of (c ∷ [])) f
no_prefix ds (x ∷ b) a c e h =
    let f : x ≡ 34 = cc in
    let g : ds ≡ b ++ c ∷ a = cc in
    ap (λ x. form_of (x ∷ (b ++ c ∷ []))) f
    ∙ ap (option_map (quoted_form (b ++ c ∷ []))) (h (b ++ c ∷ []) a (g ∙ sym (append_assoc b (c ∷ []) a)))

none_or : (o : Option (List ℕ)) → ((t : List ℕ) → o ≡ Some t → ⊥) → o ≡ None
none_or None h = refl
none_or (Some t) h = absurd (h t refl)

no_texts : (ds : List ℕ) → ((q r : List ℕ) → ds ≡ q ++ r → quoted_text q ≡ None) → longest (34 ∷ ds) ≡ None
no_texts ds h = longest_none (34 ∷ ds) (λ b a c e. no_prefix ds b a c e h)

pub open_longest : (ds : List ℕ) → closing_on 0 false ds ≡ None → longest (34 ∷ ds) ≡ None
open_longest ds n = no_texts ds (λ q r e. none_or (quoted_text q) (λ t f.
    let g = ap (closing_on 0 false) e ∙ text_closes q r t 0 f in absurd (cc)))

-- it has the length at which it is closed
pub text_length : (ds q r t : List ℕ) (n : ℕ) → ds ≡ q ++ r → quoted_text q ≡ Some t → closing_on 0 false ds ≡ Some n
    → length q ≡ n
text_length ds q r t n e f h = let g = ap (closing_on 0 false) e
    ∙ text_closes q r t 0 f in let k : 0 + length q ≡ n = cc in omega (arith, k)

pub bad_longest : (ds : List ℕ) (n : ℕ) → closing_on 0 false ds ≡ Some n → quoted_text (take n ds) ≡ None
    → longest (34 ∷ ds) ≡ None
bad_longest ds n h none = no_texts ds (λ q r e. none_or (quoted_text q) (λ t f.
    let k = text_length ds q r t n e f h in
    let same : take n ds ≡ q = ap (take n) e ∙ take_at q r n k in
    let g = ap quoted_text same in absurd (cc)))

pub text_longest : (ds t : List ℕ) (n : ℕ) → closing_on 0 false ds ≡ Some n → n ≤ length ds → quoted_text (take n ds) ≡ Some t
    → longest (34 ∷ ds) ≡ Some (quoted_form (take n ds) t, n + 1)
text_longest ds t n h l e =
    let k : length (take n ds) ≡ n = length-take-le n ds l in
    ap (λ ds. longest (34 ∷ ds)) (sym (take-append-drop n ds))
    ∙ longest_is 34 (take n ds) (drop n ds) (quoted_form (take n ds) t) (ap (option_map (quoted_form (take n ds))) e)
    (λ b a c f. ap (option_map (quoted_form (take n ds ++ (b ++ c ∷ []))))
    (none_or (quoted_text (take n ds ++ (b ++ c ∷ []))) (λ u g.
    let parts : ds ≡ (take n ds ++ (b ++ c ∷ [])) ++ a
    = sym (take-append-drop n ds) ∙ ap (λ r. take n ds ++ r) (f ∙ sym (append_assoc b (c ∷ []) a))
    ∙ sym (append_assoc (take n ds) (b ++ c ∷ []) a) in
    let m = text_length ds (take n ds ++ (b ++ c ∷ [])) a u n parts g h in
    let s = length-append (take n ds) (b ++ c ∷ []) in
    let s2 = length-append b (c ∷ []) in
    absurd (omega (arith, m, s, s2, k)))))
    ∙ ap (λ m. Some (quoted_form (take n ds) t, m)) (omega (arith, k))

-- closed on its line
abbrev closed_step : ℕ → List ℕ → Bool → Bool → Bool
closed_step c cs slash ends =
    elim slash [ true ↦ is_closed_after cs | false ↦ elim ends [ true ↦ c == 34 | false ↦ is_closed cs ] ]

closed_at : (c : ℕ) (cs : List ℕ) → IsNext c → ((i : ℕ) → is_closed cs ≡ is_some (closing_on i false cs))
    → ((i : ℕ) → is_closed_after cs ≡ is_some (closing_on i true cs))
    → (i : ℕ) → is_closed (c ∷ cs) ≡ is_some (closing_on i false (c ∷ cs))
closed_at c cs (backslash b) f g i = ap (λ b. closed_step c cs b (c == 34 || c == 10)) (eq-eqb c 92 b) ∙ g (i + 1)
    ∙ sym (ap is_some (on_backslash i c cs b))
closed_at c cs (quote b) f g i = ap (λ c. is_closed (c ∷ cs)) b ∙ sym (ap is_some (on_quote i c cs b))
closed_at c cs (newline b) f g i = ap (λ c. is_closed (c ∷ cs)) b ∙ sym (ap is_some (on_newline i false c cs b))
closed_at c cs (plain u v w) f g i =
    ap (λ b. closed_step c cs b (c == 34 || c == 10)) (ne_eqb c 92 u)
    ∙ ap (closed_step c cs false) (or_from _ _ (ne_eqb c 34 v) (ne_eqb c 10 w))
    ∙ f (i + 1) ∙ sym (ap is_some (on_other i c cs w v u))

abbrev after_step : List ℕ → Bool → Bool
after_step cs ends = elim ends [ true ↦ false | false ↦ is_closed cs ]

after_at : (c : ℕ) (cs : List ℕ) → (c ≡ 10) ⊎ (c ≢ 10) → ((i : ℕ) → is_closed cs ≡ is_some (closing_on i false cs))
    → (i : ℕ) → is_closed_after (c ∷ cs) ≡ is_some (closing_on i true (c ∷ cs))
after_at c cs (inl e) f i = ap (after_step cs) (eq-eqb c 10 e) ∙ sym (ap is_some (on_newline i true c cs e))
after_at c cs (inr n) f i = ap (after_step cs) (ne_eqb c 10 n) ∙ f (i + 1) ∙ sym (ap is_some (on_escaped i c cs n))

mutual
  pub closed_is : (ds : List ℕ) (i : ℕ) → is_closed ds ≡ is_some (closing_on i false ds)
  closed_is [] i = refl
  closed_is (c ∷ cs) i = closed_at c cs (next_of c) (closed_is cs) (closed_after cs) i

  closed_after : (ds : List ℕ) (i : ℕ) → is_closed_after ds ≡ is_some (closing_on i true ds)
  closed_after [] i = refl
  closed_after (c ∷ cs) i = after_at c cs (cases_eq c 10) (closed_is cs) i

-- the length of a comment
block_step : (t : Bool) (i : ℕ) (o w : Option ℕ) → o ≡ option_map (λ n. i + 1 + n) w
    → cond t (Some (i + 1 + 1)) o ≡ option_map (λ n. i + n) (cond t (Some 2) (option_map suc w))
block_step true i o w e = ap Some (omega arith)
block_step false i o None e = e
block_step false i o (Some n) e = e ∙ ap Some (omega arith)

block_shift : (c : ℕ) (cs : List ℕ) (i : ℕ) → block_on (i + 1) (c == 45) cs ≡ option_map (λ n. i + n) (block_length (c ∷ cs))
block_shift c [] i = refl
block_shift c (d ∷ cs) i = block_step (c == 45 && d == 125) i _ (block_length (d ∷ cs)) (block_shift d cs (i + 1))

from_zero : (o : Option ℕ) → option_map (λ n. 0 + n) o ≡ o
from_zero None = refl
from_zero (Some n) = ap Some (omega arith)

pub block_is : (cs : List ℕ) → block_on 0 false cs ≡ block_length cs
block_is [] = refl
block_is (c ∷ cs) = block_shift c cs 0 ∙ from_zero (block_length (c ∷ cs))

-- the end stands among the characters
within_step : (i n : ℕ) (c : ℕ) (cs : List ℕ) (a b : Bool) (x y z : Option ℕ) → (x ≡ Some n → n ≤ i + 1 + length cs)
    → (y ≡ Some n → n ≤ i + 1 + length cs)
    → (z ≡ Some n → n ≤ i + 1 + length cs) → (cond a x (cond b y z)) ≡ Some n → n ≤ i + suc (length cs)
within_step i n c cs true b x y z f g h e = let l = f e in omega (arith, l)
within_step i n c cs false true x y z f g h e = let l = g e in omega (arith, l)
within_step i n c cs false false x y z f g h e = let l = h e in omega (arith, l)

end_here : (i n : ℕ) (cs : List ℕ) → Some (i + 1) ≡ Some n → n ≤ i + 1 + length cs
end_here i n cs e = let f : i + 1 ≡ n = cc in omega (arith, f)

not_newline : (b : Bool) (o : Option ℕ) (n m : ℕ) → (o ≡ Some n → n ≤ m) → cond b None o ≡ Some n → n ≤ m
not_newline true o n m f e = absurd (cc)
not_newline false o n m f e = f e

pub closing_within : (i : ℕ) (e : Bool) (ds : List ℕ) (n : ℕ) → closing_on i e ds ≡ Some n → n ≤ i + length ds
closing_within i e [] n h = absurd (cc)
closing_within i e (c ∷ cs) n h =
    not_newline (c == 10) _ n (i + suc (length cs))
    (within_step i n c cs e (c == 34) (closing_on (i + 1) false cs) (Some (i + 1)) (closing_on (i + 1) (c == 92) cs)
    (closing_within (i + 1) false cs n) (end_here i n cs) (closing_within (i + 1) (c == 92) cs n)) h

-- one character of it
pub closed_backslash : (c : ℕ) (cs : List ℕ) → c ≡ 92 → is_closed (c ∷ cs) ≡ is_closed_after cs
closed_backslash c cs e = ap (λ b. closed_step c cs b (c == 34 || c == 10)) (eq-eqb c 92 e)

pub closed_newline : (c : ℕ) (cs : List ℕ) → c ≡ 10 → is_closed (c ∷ cs) ≡ false
closed_newline c cs e = ap (λ c. is_closed (c ∷ cs)) e

pub closed_plain : (c : ℕ) (cs : List ℕ) → c ≢ 92 → c ≢ 34 → c ≢ 10 → is_closed (c ∷ cs) ≡ is_closed cs
closed_plain c cs u v w =
    ap (λ b. closed_step c cs b (c == 34 || c == 10)) (ne_eqb c 92 u)
    ∙ ap (closed_step c cs false) (or_from _ _ (ne_eqb c 34 v) (ne_eqb c 10 w))

pub after_newline : (c : ℕ) (cs : List ℕ) → c ≡ 10 → is_closed_after (c ∷ cs) ≡ false
after_newline c cs e = ap (after_step cs) (eq-eqb c 10 e)

pub after_other : (c : ℕ) (cs : List ℕ) → c ≢ 10 → is_closed_after (c ∷ cs) ≡ is_closed cs
after_other c cs n = ap (after_step cs) (ne_eqb c 10 n)
