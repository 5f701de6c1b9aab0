-- What a text is read as, against its escapes and where it is closed.
use Rattle.std.proofs.Common.{◌≡◌, ◌≢◌, ℕ, ◌+◌, Bool, true, false, List, [], ◌∷◌, ◌++◌, length, Option, Some, None, refl, sym, ap, ◌∙◌, arith, append_assoc, append-nil, ⊎_elim}
use Rattle.std.specs.Prelude.{option_map, option_and_then, encode_utf8, encode_utf8_all}
use Rattle.std.proofs.lemmas.Bool.{cond-true, cond-false, cases_Bool, ne_eqb, not_from_true, not_from_false}
use Rattle.gft_model.specs.Source.{quoted_text, escape_text, escaped}
use Rattle.gft_lex.specs.declared.quoted.Reading.{Reading}
use Rattle.gft_lex.specs.declared.quoted.Reading.TheVariants.{Closed, BadEscape, Broken}
use Rattle.gft_lex.specs.Lexemes.{is_character, closing_on}
use Rattle.gft_lex.specs.Texts.{reading}
use Rattle.gft_lex.proofs.Closings.{IsNext, next_of, backslash, quote, newline, plain, at_backslash, at_other, on_newline, on_escaped, on_backslash, on_other}

-- one character more is read
pub read_broken : (e : Bool) (i : ℕ) (text : List ℕ) (c : ℕ) (cs : List ℕ) → is_character c ≡ false
    → reading e i text (c ∷ cs) ≡ Broken i
read_broken e i text c cs h = cond-true _ _ _ (not_from_false _ h)

pub read_quote : (i : ℕ) (text : List ℕ) (c : ℕ) (cs : List ℕ) → c ≡ 34 → reading false i text (c ∷ cs) ≡ Closed text (i + 1)
read_quote i text c cs e = ap (λ c. reading false i text (c ∷ cs)) e

pub read_backslash : (i : ℕ) (text : List ℕ) (c : ℕ) (cs : List ℕ) → c ≡ 92
    → reading false i text (c ∷ cs) ≡ reading true (i + 1) text cs
read_backslash i text c cs e = ap (λ c. reading false i text (c ∷ cs)) e

pub read_other : (i : ℕ) (text : List ℕ) (c : ℕ) (cs : List ℕ) → is_character c ≡ true → c ≢ 34 → c ≢ 92
    → reading false i text (c ∷ cs) ≡ reading false (i + 1) (text ++ encode_utf8 c) cs
read_other i text c cs h n m = cond-false _ _ _ (not_from_true _ h) ∙ cond-false _ _ _ (ne_eqb c 34 n)
    ∙ cond-false _ _ _ (ne_eqb c 92 m)

abbrev pub escape_step : ℕ → List ℕ → ℕ → List ℕ → Option ℕ → Reading
escape_step i text c cs o = elim o [ None ↦ BadEscape i c | Some d ↦ reading false (i + 1) (text ++ encode_utf8 d) cs ]

pub read_escape : (i : ℕ) (text : List ℕ) (c : ℕ) (cs : List ℕ) (o : Option ℕ) → is_character c ≡ true → escaped c ≡ o
    → reading true i text (c ∷ cs) ≡ escape_step i text c cs o
read_escape i text c cs o h e = cond-false _ _ _ (not_from_true _ h) ∙ ap (escape_step i text c cs) e

-- a text that is read to its end
pub record IsRead (f : List ℕ → Option (List ℕ)) (i : ℕ) (text ds t : List ℕ) (m : ℕ) : Type 0 where
  pub front : List ℕ
  pub rest : List ℕ
  pub meant : List ℕ
  pub parts : ds ≡ front ++ rest
  pub read : f front ≡ Some meant
  pub value : t ≡ text ++ encode_utf8_all meant
  pub size : m ≡ i + length front

abbrev Reads : Bool → (List ℕ → Option (List ℕ)) → List ℕ → Type 0
Reads e f ds = (i : ℕ) (text t : List ℕ) (m n : ℕ) → reading e i text ds ≡ Closed t m → closing_on i e ds ≡ Some n
    → IsRead f i text ds t m

no_newline : (i n c : ℕ) (e : Bool) (cs : List ℕ) → closing_on i e (c ∷ cs) ≡ Some n → c ≢ 10
no_newline i n c e cs h q = let f = on_newline i e c cs q in absurd (cc)

reads_at : (c : ℕ) (cs : List ℕ) → IsNext c → Reads false quoted_text cs → Reads true escape_text cs → is_character c ≡ true
    → Reads false quoted_text (c ∷ cs)
reads_at c cs (quote b) f g h i text t m n e k =
    let q = sym (read_quote i text c cs b) ∙ e in
    let same : text ≡ t = cc in
    let size : i + 1 ≡ m = cc in
    record {
      front = c ∷ [];
      rest = cs;
      meant = [];
      parts = refl;
      read = ap (λ c. quoted_text (c ∷ [])) b;
      value = sym same ∙ sym (append-nil text);
      size = sym size;
    }
reads_at c cs (backslash b) f g h i text t m n e k =
    let r = g (i + 1) text t m n (sym (read_backslash i text c cs b) ∙ e) (sym (on_backslash i c cs b) ∙ k) in
    record {
      front = c ∷ r.front;
      rest = r.rest;
      meant = r.meant;
      parts = ap (λ l. c ∷ l) r.parts;
      read = at_backslash c r.front b ∙ r.read;
      value = r.value;
      size = let s = r.size in omega (arith, s);
    }
reads_at c cs (newline b) f g h i text t m n e k = absurd (no_newline i n c false cs k b)
reads_at c cs (plain u v w) f g h i text t m n e k =
    let r = f (i + 1) (text ++ encode_utf8 c) t m n (sym (read_other i text c cs h v u) ∙ e) (sym (on_other i c cs w v u) ∙ k) in
    record {
      front = c ∷ r.front;
      rest = r.rest;
      meant = c ∷ r.meant;
      parts = ap (λ l. c ∷ l) r.parts;
      read = at_other c r.front u v w ∙ ap (option_map (λ l. c ∷ l)) r.read;
      value = r.value ∙ append_assoc text (encode_utf8 c) (encode_utf8_all r.meant);
      size = let s = r.size in omega (arith, s);
    }

escape_at : (c : ℕ) (cs : List ℕ) (o : Option ℕ) → escaped c ≡ o → Reads false quoted_text cs → is_character c ≡ true
    → Reads true escape_text (c ∷ cs)
escape_at c cs None q f h i text t m n e k = let r = sym (read_escape i text c cs None h q) ∙ e in absurd (cc)
escape_at c cs (Some d) q f h i text t m n e k =
    let r = f (i + 1) (text ++ encode_utf8 d) t m n (sym (read_escape i text c cs (Some d) h q) ∙ e)
    (sym (on_escaped i c cs (no_newline i n c true cs k)) ∙ k) in
    record {
      front = c ∷ r.front;
      rest = r.rest;
      meant = d ∷ r.meant;
      parts = ap (λ l. c ∷ l) r.parts;
      read = ap (option_and_then (λ d. option_map (λ l. d ∷ l) (quoted_text r.front))) q ∙ ap (option_map (λ l. d ∷ l)) r.read;
      value = r.value ∙ append_assoc text (encode_utf8 d) (encode_utf8_all r.meant);
      size = let s = r.size in omega (arith, s);
    }

unbroken : (e : Bool) (c : ℕ) (cs : List ℕ) (f : List ℕ → Option (List ℕ)) → (is_character c ≡ true → Reads e f (c ∷ cs))
    → Reads e f (c ∷ cs)
unbroken e c cs f h i text t m n r k = ⊎_elim (λ y. h y i text t m n r k)
    (λ y. let b = sym (read_broken e i text c cs y) ∙ r in absurd (cc)) (cases_Bool (is_character c))

reads_none : (e : Bool) (f : List ℕ → Option (List ℕ)) → Reads e f []
reads_none e f i text t m n r k = absurd (cc)

mutual
  pub reads : (ds : List ℕ) → Reads false quoted_text ds
  reads [] = reads_none false quoted_text
  reads (c ∷ cs) = unbroken false c cs quoted_text (reads_at c cs (next_of c) (reads cs) (reads_escape cs))

  reads_escape : (ds : List ℕ) → Reads true escape_text ds
  reads_escape [] = reads_none true escape_text
  reads_escape (c ∷ cs) = unbroken true c cs escape_text (escape_at c cs (escaped c) refl (reads cs))
