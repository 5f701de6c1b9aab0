-- Which lexeme is seen, and that nothing is broken where it begins.
use Rattle.std.proofs.Common.{◌≡◌, ◌≢◌, ℕ, ◌+◌, ◌<◌, ◌≤◌, ◌^◌, true, false, ◌&&◌, ◌==◌, List, [], ◌∷◌, Some, None, Contains, refl, sym, ap, ◌∙◌, arith, subst, ⊎_elim}
use Rattle.std.specs.Char.{is_whitespace}
use Rattle.std.proofs.lemmas.Bool.{cond-true, cond-false, false≢true, cases_Bool}
use Rattle.gft_core.specs.declared.place.Place.{Place}
use Rattle.gft_rules.specs.declared.refusal.Refusal.{Refusal}
use Rattle.gft_syntax.specs.declared.token.TokenForm.{TokenForm}
use Rattle.gft_syntax.specs.declared.token.TokenForm.TheVariants as T
use Rattle.gft_syntax.specs.declared.token.Symbol.TheVariants as S
use Rattle.gft_model.specs.Source.{blank, token, nothing, lexeme_at, token_lexeme, longest, block_length, escaped}
use Rattle.gft_model.specs.TokenFaults.{no_character}
use Rattle.gft_lex.specs.Texts.{is_closed, escapes_from}
use Rattle.gft_lex.specs.declared.sight.Sight.{Sight}
use Rattle.gft_lex.specs.Later.{IsFaultAt, bad_character, open_string, bad_escape, open_comment, number_too_large}
use Rattle.gft_lex.specs.Lexemes.{block_on, line_length}
use Rattle.gft_lex.specs.Sights.{comment_of, block_of, block_lexeme}
use Rattle.gft_lex.proofs.Closings.{block_is}
use Rattle.gft_lex.proofs.Longest.{longest_some}

-- white space
pub white_lexeme : (c : ℕ) (ds : List ℕ) → is_whitespace c ≡ true → lexeme_at (c ∷ ds) ≡ blank 1
white_lexeme c [] w = cond-true _ _ _ w
white_lexeme c (d ∷ ds) w = cond-true _ _ _ w

-- what is no comment
some_none : (s : Sight) → Some s ≡ None → ⊥
some_none s e = absurd (cc)

no_line : (c d : ℕ) (cs : List ℕ) → comment_of c (d ∷ cs) ≡ None → (c == 45 && d == 45) ≡ false
no_line c d cs h = ⊎_elim (λ a. let e = sym (cond-true _ _ _ a) ∙ h in absurd (some_none _ e)) (λ a. a)
    (cases_Bool (c == 45 && d == 45))

no_block : (c d : ℕ) (cs : List ℕ) → comment_of c (d ∷ cs) ≡ None → (c == 123 && d == 45) ≡ false
no_block c d cs h = ⊎_elim
    (λ a. let e = sym (cond-false _ _ _ (no_line c d cs h) ∙ cond-true _ _ _ a) ∙ h in absurd (some_none _ e)) (λ a. a)
    (cases_Bool (c == 123 && d == 45))

pub token_at : (c : ℕ) (ds : List ℕ) → is_whitespace c ≡ false → comment_of c ds ≡ None
    → lexeme_at (c ∷ ds) ≡ token_lexeme (longest (c ∷ ds))
token_at c [] w n = cond-false _ _ _ w
token_at c (d ∷ cs) w n = cond-false _ _ _ w ∙ cond-false _ _ _ (no_line c d cs n) ∙ cond-false _ _ _ (no_block c d cs n)

-- nothing is broken where the characters begin
pub record IsSound (cs : List ℕ) : Type 0 where
  pub begins : (c : ℕ) (ds : List ℕ) → cs ≡ c ∷ ds → longest (c ∷ ds) ≡ None → is_whitespace c ≡ false → ⊥
  pub closed : (ds : List ℕ) → cs ≡ 34 ∷ ds → is_closed ds ≡ false → ⊥
  pub escapes : (p q : Place) (x : ℕ) (ds : List ℕ) → cs ≡ 34 ∷ ds → Contains (escapes_from p ds) (q, x) → escaped x ≡ None
      → x < no_character → ⊥
  pub comments : (ds : List ℕ) → cs ≡ 123 ∷ 45 ∷ ds → block_length ds ≡ None → ⊥
  pub numbers : (n k : ℕ) (s : List ℕ) → lexeme_at cs ≡ token (T.Number n s) k → 2 ^ 128 ≤ n → ⊥

pub sound : {cs : List ℕ} → IsSound cs → (p : Place) (r : Refusal) → ¬ (IsFaultAt p cs r)
sound s p _ (bad_character e l w n c) = s.begins _ _ e l w
sound s p _ (open_string e o) = s.closed _ e o
sound s p _ (bad_escape e o m n l) = s.escapes _ _ _ _ e m n l
sound s p _ (open_comment e o) = s.comments _ e o
sound s p _ (number_too_large e l) = s.numbers _ _ _ e l

blank_number : (n k m : ℕ) (t : List ℕ) → blank n ≡ token (T.Number m t) k → ⊥
blank_number n k m t e = absurd (cc)

some_number : (n : ℕ) → Some n ≡ None → ⊥
some_number n e = absurd (cc)

pub some_token : (x : TokenForm × ℕ) → Some x ≡ None → ⊥
some_token x e = absurd (cc)

pub white_sound : (c : ℕ) (ds : List ℕ) → is_whitespace c ≡ true → IsSound (c ∷ ds)
white_sound c ds w = record {
  begins = λ d es e l v. let q : c ≡ d = cc in absurd (false≢true (sym v ∙ ap is_whitespace (sym q) ∙ w));
  closed = λ es e o. let q : c ≡ 34 = cc in absurd (false≢true (sym (ap is_whitespace q) ∙ w));
  escapes = λ p q x es e m n l. let q : c ≡ 34 = cc in absurd (false≢true (sym (ap is_whitespace q) ∙ w));
  comments = λ es e o. let q : c ≡ 123 = cc in absurd (false≢true (sym (ap is_whitespace q) ∙ w));
  numbers = λ n k s e l. absurd (blank_number 1 k n s (sym (white_lexeme c ds w) ∙ e));
}

-- comments
pub line_sound : (c : ℕ) (ds es : List ℕ) → c ≡ 45 → ds ≡ 45 ∷ es → IsSound (c ∷ ds)
line_sound c ds es e f = subst IsSound (sym (ap (λ c. c ∷ ds) e ∙ ap (λ l. 45 ∷ l) f)) (record {
  begins = λ d gs e l v. let q : 45 ∷ 45 ∷ es
      ≡ d ∷ gs = e in absurd (longest_some 45 (45 ∷ es) (T.Symbol S.Minus) refl (ap longest q ∙ l));
  closed = λ gs e o. absurd (cc);
  escapes = λ p q x gs e m n l. absurd (cc);
  comments = λ gs e o. absurd (cc);
  numbers = λ n k s e l. absurd (blank_number (line_length es + 2) k n s e);
})

pub block_sound : (c n : ℕ) (ds es : List ℕ) → c ≡ 123 → ds ≡ 45 ∷ es → block_on 0 false es ≡ Some n → IsSound (c ∷ ds)
block_sound c n ds es e f h = subst IsSound (sym (ap (λ c. c ∷ ds) e ∙ ap (λ l. 123 ∷ l) f)) (record {
  begins = λ d gs e l v. let q : 123 ∷ 45 ∷ es
      ≡ d ∷ gs = e in absurd (longest_some 123 (45 ∷ es) (T.Symbol S.LeftBrace) refl (ap longest q ∙ l));
  closed = λ gs e o. absurd (cc);
  escapes = λ p q x gs e m n l. absurd (cc);
  comments = λ gs e o. let q : es ≡ gs = cc in absurd (some_number n (sym h ∙ block_is es ∙ ap block_length q ∙ o));
  numbers = λ m k s e l. absurd (blank_number (n + 2) k m s (sym (ap block_lexeme (sym (block_is es) ∙ h)) ∙ e));
})

pub line_lexeme : (c : ℕ) (ds es : List ℕ) → c ≡ 45 → ds ≡ 45 ∷ es → lexeme_at (c ∷ ds) ≡ blank (line_length es + 2)
line_lexeme c ds es e f = ap (λ c. lexeme_at (c ∷ ds)) e ∙ ap (λ l. lexeme_at (45 ∷ l)) f

pub block_at : (c n : ℕ) (ds es : List ℕ) → c ≡ 123 → ds ≡ 45 ∷ es → block_on 0 false es ≡ Some n
    → lexeme_at (c ∷ ds) ≡ blank (n + 2)
block_at c n ds es e f h = ap (λ c. lexeme_at (c ∷ ds)) e ∙ ap (λ l. lexeme_at (123 ∷ l)) f
    ∙ ap block_lexeme (sym (block_is es) ∙ h)

pub open_at : (c : ℕ) (ds es : List ℕ) → c ≡ 123 → ds ≡ 45 ∷ es → block_on 0 false es ≡ None → lexeme_at (c ∷ ds) ≡ nothing
open_at c ds es e f h = ap (λ c. lexeme_at (c ∷ ds)) e ∙ ap (λ l. lexeme_at (123 ∷ l)) f ∙ ap block_lexeme (sym (block_is es) ∙ h)

-- tokens other than texts
pub no_comment : (c : ℕ) (ds es : List ℕ) → comment_of c ds ≡ None → c ∷ ds ≡ 123 ∷ 45 ∷ es → ⊥
no_comment c ds es k e =
    let f : c ≡ 123 = cc in
    let g : ds ≡ 45 ∷ es = cc in
    absurd (some_none (block_of (block_on 0 false es)) (sym (ap (λ c. comment_of c ds) f ∙ ap (comment_of 123) g) ∙ k))

abbrev pub IsInRange : TokenForm → Type 0
IsInRange t = (n : ℕ) (s : List ℕ) → t ≡ T.Number n s → n < 2 ^ 128

pub token_sound : (c n : ℕ) (ds : List ℕ) (t : TokenForm) → c ≢ 34 → is_whitespace c ≡ false → comment_of c ds ≡ None
    → longest (c ∷ ds) ≡ Some (t, n)
    → IsInRange t → IsSound (c ∷ ds)
token_sound c n ds t q w k l r = record {
  begins = λ d es e m v. let f : c ∷ ds ≡ d ∷ es = e in absurd (some_token (t, n) (sym l ∙ ap longest f ∙ m));
  closed = λ es e o. let f : c ≡ 34 = cc in absurd (q f);
  escapes = λ p g x es e m n l. let f : c ≡ 34 = cc in absurd (q f);
  comments = λ es e o. no_comment c ds es k e;
  numbers = λ m k2 s e h.
      let f : token t n ≡ token (T.Number m s) k2 = sym (token_at c ds w k ∙ ap token_lexeme l) ∙ e in
      let g : t ≡ T.Number m s = cc in
      let u = r m s g in absurd (omega (arith, u, h));
}
