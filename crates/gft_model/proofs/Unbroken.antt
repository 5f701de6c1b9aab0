-- A file in whose characters nothing is broken has tokens.
use Rattle.std.proofs.Common.{◌≡◌, ◌≢◌, refl, sym, ap, ◌∙◌, subst, append_assoc, ℕ, zero, suc, ◌+◌, ◌^◌, ◌<◌, ◌≤◌, List, [], ◌∷◌, ◌++◌, Bool, true, false, arith, length, ◌⊎◌, inl, inr, ⊎_elim}
use Rattle.std.proofs.Math.Seq.{take-length}
use Rattle.std.proofs.lemmas.Bool.{ltb-true, ltb-false}
use Rattle.std.proofs.lemmas.List.{take-append-drop}
use Rattle.std.proofs.lemmas.Str.{IsUtf8-append, IsUtf8-nil, IsUtf8-from_ascii, IsUtf8-from_is_utf8, is_utf8-from_IsUtf8, utf8_valid_len_le}
use Rattle.std.specs.Char.{is_whitespace}
use Rattle.std.specs.List.{list_all, position_or_len}
use Rattle.std.specs.Prelude.{◌==◌, ◌&&◌, map, take, drop, chars, IsUtf8, IsAscii, Option, Some, None, option_map, option_and_then, nat_lt, encode_utf8_all, if◌then◌else◌}
use Rattle.std.specs.Option.{option_map_or}
use Rattle.std.specs.Str.{is_utf8}
use Rattle.std.specs.Str.Lossy.{utf8_valid_len, valid_len_up_to}
use Rattle.gft_core.specs.declared.place.Place.{Place}
use Rattle.gft_rules.specs.declared.refusal.Refusal.{Refusal}
use Rattle.gft_syntax.specs.declared.token.SourceToken.{SourceToken}
use Rattle.gft_syntax.specs.declared.token.TokenForm.{TokenForm}
use Rattle.gft_syntax.specs.declared.token.TokenForm.TheVariants.{Identifier, Reserved, Number, Quoted, Symbol}
use Rattle.gft_model.specs.Source.{Tokens, Lexeme, blank, token, nothing, lexeme_at, longest, longest_from, form_of, token_lexeme, block_length, escaped, quoted_text, tokens_from, in_range, after, first_place}
use Rattle.gft_model.specs.TokenFaults.{BreaksTokens, Begins, at_start, after_blank, after_token, not_utf8, bad_character, open_string, bad_escape, open_comment, number_too_large, text_of, loose, moved, no_character, Inside, here, plain, escape}
use Rattle.gft_model.proofs.TokenLaws.{Long, long_at, read_here, one_less, is_that, is_other, text_is, none_from, quoted_as}

-- THE BYTES ARE UTF-8

-- the byte after the front of that length
next_byte : (n : ℕ) (bs : List ℕ) → n < length bs
    → (b : ℕ) × (rest : List ℕ) × (take (suc n) bs ≡ take n bs ++ b ∷ []) × (drop n bs ≡ b ∷ rest)
next_byte n [] h = absurd (omega (arith, h))
next_byte zero (b ∷ bs) h = (b, bs, refl, refl)
next_byte (suc n) (b ∷ bs) h =
    let next = next_byte n bs (omega (arith, h)) in
    (next.0, next.1, ap (λ xs. b ∷ xs) next.2, next.3)

front_by : (bs : List ℕ) (n : ℕ) (b : Bool) → is_utf8 (take (suc n) bs) ≡ b → IsUtf8 (take (valid_len_up_to bs n) bs)
    → IsUtf8 (take (if b then suc n else valid_len_up_to bs n) bs)
front_by bs n true e rest = IsUtf8-from_is_utf8 (take (suc n) bs) e
front_by bs n false e rest = rest

front : (bs : List ℕ) (n : ℕ) → IsUtf8 (take (valid_len_up_to bs n) bs)
front bs zero = IsUtf8-nil
front bs (suc n) = front_by bs n (is_utf8 (take (suc n) bs)) refl (front bs n)

beyond_by : (bs : List ℕ) (n k : ℕ) (b : Bool) → is_utf8 (take (suc n) bs) ≡ b
    → (valid_len_up_to bs n < k → k ≤ n → is_utf8 (take k bs) ≡ false)
    → (if b then suc n else valid_len_up_to bs n) < k → k ≤ suc n → (at_end : Bool) → (k == suc n) ≡ at_end
    → is_utf8 (take k bs) ≡ false
beyond_by bs n k true e rest h l at_end q = absurd (omega (arith, h, l))
beyond_by bs n k false e rest h l true q = subst (λ m. is_utf8 (take m bs) ≡ false) (sym (is_that k (suc n) q)) e
beyond_by bs n k false e rest h l false q =
    let other = is_other k (suc n) q in rest h (omega (arith, l, other))

beyond : (bs : List ℕ) (n k : ℕ) → valid_len_up_to bs n < k → k ≤ n → is_utf8 (take k bs) ≡ false
beyond bs zero k h l = absurd (omega (arith, h, l))
beyond bs (suc n) k h l =
    beyond_by bs n k (is_utf8 (take (suc n) bs)) refl (beyond bs n k) h l (k == suc n) refl

ascii_alone : (b : ℕ) → b < 128 → IsAscii (b ∷ [])
ascii_alone b h zero = h
ascii_alone b h (suc i) = omega arith

loose_byte : (b : ℕ) (low : Bool) → nat_lt b 128 ≡ low → (low ≡ true → ⊥) → no_character ≤ loose b
loose_byte b true h n = absurd (n refl)
loose_byte b false h n = subst (λ x. no_character ≤ (if x then b else no_character + b)) (sym h) (omega arith)

-- WHERE NO LEXEME BEGINS

-- what comes before
suffix : {file : ℕ} {text : List ℕ} {p : Place} {cs : List ℕ} → Begins file text p cs → (before : List ℕ) × (text ≡ before ++ cs)
suffix at_start = ([], refl)
suffix (after_blank {cs} {n} b e) =
    let s = suffix b in
    (s.0 ++ take n cs, s.1 ∙ ap (λ xs. s.0 ++ xs) (sym (take-append-drop n cs)) ∙ sym (append_assoc s.0 (take n cs) (drop n cs)))
suffix (after_token {cs} {n = n} b e) =
    let s = suffix b in
    (s.0 ++ take n cs, s.1 ∙ ap (λ xs. s.0 ++ xs) (sym (take-append-drop n cs)) ∙ sym (append_assoc s.0 (take n cs) (drop n cs)))

inside_suffix : {p q : Place} {cs ds : List ℕ} → Inside p cs q ds → (before : List ℕ) × (cs ≡ before ++ ds)
inside_suffix here = ([], refl)
inside_suffix (plain {c} i j k r) = let s = inside_suffix r in (c ∷ s.0, ap (λ xs. c ∷ xs) s.1)
inside_suffix (escape {c} i r) = let s = inside_suffix r in (92 ∷ c ∷ s.0, ap (λ xs. 92 ∷ c ∷ xs) s.1)

not_equal : (c k : ℕ) (b : Bool) → (c == k) ≡ b → c ≢ k → (c == k) ≡ false
not_equal c k true h n = absurd (n (is_that c k h))
not_equal c k false h n = h

plain_text : (a b d : Bool) (c : ℕ) (xs t : List ℕ) → a ≡ false → b ≡ false → d ≡ false → quoted_text xs ≡ Some t
    → quoted_as a b d c xs ≡ Some (c ∷ t)
plain_text true b d c xs t h i j e = cc
plain_text false true d c xs t h i j e = cc
plain_text false false true c xs t h i j e = cc
plain_text false false false c xs t h i j e = ap (λ o. option_map (λ rest. c ∷ rest) o) e

quoted_plain : (c : ℕ) (xs t : List ℕ) → c ≢ 92 → c ≢ 34 → c ≢ 10 → quoted_text xs ≡ Some t → quoted_text (c ∷ xs) ≡ Some (c ∷ t)
quoted_plain c xs t i j k e =
    plain_text (c == 92) (c == 34) (c == 10) c xs t (not_equal c 92 (c == 92) refl i) (not_equal c 34 (c == 34) refl j)
    (not_equal c 10 (c == 10) refl k) e

quoted_escape : (k d : ℕ) (xs t : List ℕ) → escaped k ≡ Some d → quoted_text xs ≡ Some t
    → quoted_text (92 ∷ k ∷ xs) ≡ Some (d ∷ t)
quoted_escape k d xs t h e =
    ap (λ o. option_and_then (λ c. option_map (λ rest. c ∷ rest) (quoted_text xs)) o) h
    ∙ ap (λ o. option_map (λ rest. d ∷ rest) o) e

some_of : (o : Option ℕ) → (o ≡ None → ⊥) → (d : ℕ) × (o ≡ Some d)
some_of None n = absurd (n refl)
some_of (Some d) n = (d, refl)

-- a closed text whose escapes are good is one
spelled : {p q : Place} {cs fs : List ℕ} → Inside p cs q fs → (ds : List ℕ) → fs ≡ 34 ∷ ds
    → ((r : Place) (k : ℕ) (es : List ℕ) → Inside p cs r (92 ∷ k ∷ es) → escaped k ≡ None → ⊥)
    → (xs : List ℕ) × (t : List ℕ) × (cs ≡ xs ++ ds) × (quoted_text xs ≡ Some t)
spelled here ds e good = (34 ∷ [], [], e, refl)
spelled (plain {c} i j k r) ds e good =
    let rest = spelled r ds e (λ q m es x n. good q m es (plain i j k x) n) in
    (c ∷ rest.0, c ∷ rest.1, ap (λ xs. c ∷ xs) rest.2, quoted_plain c rest.0 rest.1 i j k rest.3)
spelled (escape {p} {cs} {c} i r) ds e good =
    let rest = spelled r ds e (λ q m es x n. good q m es (escape i x) n) in
    let some = some_of (escaped c) (good p c cs here) in
    (92 ∷ c ∷ rest.0, some.0 ∷ rest.1, ap (λ xs. 92 ∷ c ∷ xs) rest.2, quoted_escape c some.0 rest.0 rest.1 some.1 rest.3)

no_form_now : (o : Option TokenForm) (n : ℕ) (best : Option (TokenForm × ℕ))
    → ◌≡◌ {A = Option (TokenForm × ℕ)} (elim o [ Some t ↦ Some (t, n) | None ↦ best ]) None → o ≡ None
no_form_now None n best e = refl
no_form_now (Some t) n best e = cc

-- where no beginning is a token, none is
beginning : (held xs : List ℕ) (x : ℕ) (ds : List ℕ) (best : Option (TokenForm × ℕ))
    → longest_from held (x ∷ xs ++ ds) best ≡ None → form_of (held ++ x ∷ xs) ≡ None
beginning held [] x ds best e =
    no_form_now (form_of (held ++ x ∷ [])) (length (held ++ x ∷ [])) best
    (none_from (held ++ x ∷ []) ds
    (elim (form_of (held ++ x ∷ [])) [ Some t ↦ Some (t, length (held ++ x ∷ [])) | None ↦ best ]) e)
beginning held (y ∷ xs) x ds best e =
    subst (λ zs. form_of zs ≡ None) (append_assoc held (x ∷ []) (y ∷ xs))
    (beginning (held ++ x ∷ []) xs y ds
    (elim (form_of (held ++ x ∷ [])) [ Some t ↦ Some (t, length (held ++ x ∷ [])) | None ↦ best ]) e)

quoted_found : (cs xs t ds : List ℕ) → cs ≡ xs ++ ds → quoted_text xs ≡ Some t → longest (34 ∷ cs) ≡ None → ⊥
quoted_found cs xs t ds h e l =
    let none = beginning [] xs 34 ds None (subst (λ zs. longest (34 ∷ zs) ≡ None) h l) in
    let form : form_of (34 ∷ xs) ≡ Some (Quoted (encode_utf8_all t) (encode_utf8_all (34 ∷ xs))) =
    ap (λ o. option_map (λ z. Quoted (encode_utf8_all z) (encode_utf8_all (34 ∷ xs))) o) e in
    let wrong : None ≡ Some (Quoted (encode_utf8_all t) (encode_utf8_all (34 ∷ xs))) = sym none ∙ form in cc

both_true : (a b : Bool) → (a && b) ≡ true → (a ≡ true) × (b ≡ true)
both_true true b e = (refl, e)
both_true false b e = let wrong : false ≡ true = e in cc

no_token : (o : Option (TokenForm × ℕ)) → token_lexeme o ≡ nothing → o ≡ None
no_token None e = refl
no_token (Some t) e = let wrong : token t.0 t.1 ≡ nothing = e in cc

no_block : (o : Option ℕ) → option_map_or (λ n. blank (n + 2)) o nothing ≡ nothing → o ≡ None
no_block None e = refl
no_block (Some n) e = let wrong : blank (n + 2) ≡ nothing = e in cc

choice : (w a b : Bool) (k : ℕ) (B L : Lexeme)
    → (if w then blank 1 else if a then blank k else if b then B else L) ≡ nothing
    → (w ≡ false) × ((L ≡ nothing) ⊎ ((b ≡ true) × (B ≡ nothing)))
choice true a b k B L e = let wrong : blank 1 ≡ nothing = e in cc
choice false true b k B L e = let wrong : blank k ≡ nothing = e in cc
choice false false true k B L e = (refl, inr (refl, e))
choice false false false k B L e = (refl, inl e)

abbrev Open : ℕ → List ℕ → Type 0
Open c cs = (rest : List ℕ) × (c ≡ 123) × (cs ≡ 45 ∷ rest) × (block_length rest ≡ None)

number_ranged : (n : ℕ) (b : Bool) → nat_lt n (2 ^ 128) ≡ b → (2 ^ 128 ≤ n → ⊥) → nat_lt n (2 ^ 128) ≡ true
number_ranged n true h never = h
number_ranged n false h never = absurd (never (ltb-false n (2 ^ 128) h))

ranged : (t : TokenForm) (p : Place) → ((n : ℕ) (s : List ℕ) → t ≡ Number n s → 2 ^ 128 ≤ n → ⊥)
    → in_range (record { form = t; place = p }) ≡ true
ranged (Identifier x) p never = refl
ranged (Reserved w) p never = refl
ranged (Number n s) p never = number_ranged n (nat_lt n (2 ^ 128)) refl (never n s refl)
ranged (Quoted x s) p never = refl
ranged (Symbol s) p never = refl

and_true : (a b : Bool) → a ≡ true → b ≡ true → (a && b) ≡ true
and_true true b h e = e
and_true false b h e = h

-- the tokens from a place on
abbrev Read : ℕ → Place → List ℕ → Type 0
Read n p cs = (us : List SourceToken) × (tokens_from n p cs ≡ Some us) × (list_all in_range us ≡ true)

module _ {file : ℕ} {bytes : List ℕ} (unbroken : (r : Refusal) → ¬ (BreaksTokens file bytes r)) where
  not_shorter : utf8_valid_len bytes < length bytes → ⊥
  unfolding utf8_valid_len
  not_shorter h =
      let n = valid_len_up_to bytes (length bytes) in
      let next = next_byte n bytes h in
      let no_text = beyond bytes (length bytes) (suc n) (omega arith) (omega (arith, h)) in
      let low : nat_lt next.0 128 ≡ true → ⊥ = λ l.
      let text = IsUtf8-append (take n bytes) (next.0 ∷ []) (front bytes (length bytes))
      (IsUtf8-from_ascii (next.0 ∷ []) (ascii_alone next.0 (ltb-true next.0 128 l))) in
      let is : is_utf8 (take (suc n) bytes) ≡ true =
      ap is_utf8 next.2 ∙ is_utf8-from_IsUtf8 (take n bytes ++ next.0 ∷ []) text in
      let wrong : false ≡ true = sym no_text ∙ is in cc in
      unbroken _ (not_utf8 (chars (take n bytes)) (map loose next.1) (loose next.0)
      (ap (λ xs. chars (take n bytes) ++ map loose xs) next.3) (loose_byte next.0 (nat_lt next.0 128) refl low))

  utf8_by : (shorter : Bool) → nat_lt (utf8_valid_len bytes) (length bytes) ≡ shorter → IsUtf8 bytes
  unfolding utf8_valid_len
  utf8_by true h = absurd (not_shorter (ltb-true (utf8_valid_len bytes) (length bytes) h))
  utf8_by false h =
      let least = ltb-false (utf8_valid_len bytes) (length bytes) h in
      let most = utf8_valid_len_le bytes in
      let whole : valid_len_up_to bytes (length bytes) ≡ length bytes = omega (arith, least, most) in
      subst (λ xs. IsUtf8 xs) (take-length bytes) (subst (λ n. IsUtf8 (take n bytes)) whole (front bytes (length bytes)))

  is_text : IsUtf8 bytes
  is_text = utf8_by (nat_lt (utf8_valid_len bytes) (length bytes)) refl

  -- no character of the text is past all characters
  below : {p : Place} {c : ℕ} {cs : List ℕ} → Begins file (text_of bytes) p (c ∷ cs) → (low : Bool) → nat_lt c no_character ≡ low
      → c < no_character
  below {c} b true h = ltb-true c no_character h
  below {c} {cs} b false h =
      let s = suffix b in absurd (unbroken _ (not_utf8 s.0 cs c s.1 (ltb-false c no_character h)))

  below_inside : {p r : Place} {k : ℕ} {cs es : List ℕ} → Begins file (text_of bytes) p (34 ∷ cs)
      → Inside (after 34 p) cs r (92 ∷ k ∷ es) → (low : Bool) → nat_lt k no_character ≡ low → k < no_character
  below_inside {k} b i true h = ltb-true k no_character h
  below_inside {k} {cs} {es} b i false h =
      let s = suffix b in
      let t = inside_suffix i in
      let where_it_is : text_of bytes ≡ (s.0 ++ 34 ∷ t.0 ++ 92 ∷ []) ++ k ∷ es =
      s.1 ∙ ap (λ xs. s.0 ++ 34 ∷ xs) t.1 ∙ sym (append_assoc s.0 (34 ∷ t.0) (92 ∷ k ∷ es))
      ∙ sym (append_assoc (s.0 ++ 34 ∷ t.0) (92 ∷ []) (k ∷ es)) in
      absurd (unbroken _ (not_utf8 (s.0 ++ 34 ∷ t.0 ++ 92 ∷ []) es k where_it_is (ltb-false k no_character h)))

  no_text : {p : Place} {cs : List ℕ} → Begins file (text_of bytes) p (34 ∷ cs) → longest (34 ∷ cs) ≡ None → ⊥
  no_text {p} {cs} b l = unbroken _ (open_string b (λ closed.
      let t = spelled closed.2 closed.1 refl (λ r k es i n.
      unbroken _ (bad_escape b closed i n (below_inside b i (nat_lt k no_character) refl))) in
      quoted_found cs t.0 t.1 closed.1 t.2 t.3 l))

  no_character_there : {p : Place} {c : ℕ} {cs : List ℕ} → Begins file (text_of bytes) p (c ∷ cs) → is_whitespace c ≡ false
      → longest (c ∷ cs) ≡ None → (quote : Bool) → (c == 34) ≡ quote → ⊥
  no_character_there {p} {c} {cs} b w l true h =
      let same = is_that c 34 h in
      no_text (subst (λ x. Begins file (text_of bytes) p (x ∷ cs)) same b) (subst (λ x. longest (x ∷ cs) ≡ None) same l)
  no_character_there {c} b w l false h =
      unbroken _ (bad_character b l w (is_other c 34 h) (below b (nat_lt c no_character) refl))

  no_comment : {p : Place} {c : ℕ} {cs : List ℕ} → Begins file (text_of bytes) p (c ∷ cs) → Open c cs → ⊥
  no_comment {p} {c} {cs} b (rest, h, i, e) =
      unbroken _ (open_comment (subst (λ xs. Begins file (text_of bytes) p (123 ∷ xs)) i
      (subst (λ x. Begins file (text_of bytes) p (x ∷ cs)) h b)) e)

  gap : {p : Place} {c : ℕ} (cs : List ℕ) → Begins file (text_of bytes) p (c ∷ cs) → lexeme_at (c ∷ cs) ≡ nothing → ⊥
  gap {c = c} [] b e =
      let why = choice (is_whitespace c) false false 0 nothing (token_lexeme (longest (c ∷ []))) e in
      ⊎_elim {C = ⊥} (λ l. no_character_there b why.0 (no_token (longest (c ∷ [])) l) (c == 34) refl)
      (λ o. let wrong = o.0 in cc) why.1
  gap {c = c} (d ∷ cs) b e =
      let why = choice (is_whitespace c) (c == 45 && d == 45) (c == 123 && d == 45) (position_or_len (λ x. x == 10) cs + 2)
      (option_map_or (λ n. blank (n + 2)) (block_length cs) nothing) (token_lexeme (longest (c ∷ d ∷ cs))) e in
      ⊎_elim {C = ⊥} (λ l. no_character_there b why.0 (no_token (longest (c ∷ d ∷ cs)) l) (c == 34) refl)
      (λ o. let both = both_true (c == 123) (d == 45) o.0 in
      no_comment b (cs, is_that c 123 both.0, ap (λ x. x ∷ cs) (is_that d 45 both.1), no_block (block_length cs) o.1)) why.1

  too_large : {p : Place} {cs : List ℕ} {t : TokenForm} {k : ℕ} → Begins file (text_of bytes) p cs → lexeme_at cs ≡ token t k
      → (n : ℕ) (s : List ℕ) → t ≡ Number n s → 2 ^ 128 ≤ n → ⊥
  too_large {cs = cs} {k = k} b e n s same h =
      unbroken _ (number_too_large b (subst (λ f. lexeme_at cs ≡ token f k) same e) h)

  by_lexeme : (l : Lexeme) {p : Place} {c : ℕ} {cs : List ℕ} → Begins file (text_of bytes) p (c ∷ cs) → lexeme_at (c ∷ cs) ≡ l
      → Long l → ((n : ℕ) (q : Place) → Begins file (text_of bytes) (moved n q cs) (drop n cs) → Read n q cs) → Read 0 p (c ∷ cs)
  by_lexeme nothing {cs = cs} b e k rest = absurd (gap cs b e)
  by_lexeme (blank zero) b e k rest = absurd (omega (arith, k))
  by_lexeme (blank (suc m)) {p} {c} {cs} b e k rest =
      let others = rest m (after c p) (after_blank b e) in
      (others.0, read_here p c cs (blank (suc m)) e ∙ ap (λ x. tokens_from x (after c p) cs) (one_less m) ∙ others.1, others.2)
  by_lexeme (token t zero) b e k rest = absurd (omega (arith, k))
  by_lexeme (token t (suc m)) {p} {c} {cs} b e k rest =
      let others = rest m (after c p) (after_token b e) in
      let first : SourceToken = record { form = t; place = p } in (
        first ∷ others.0,
        read_here p c cs (token t (suc m)) e
            ∙ ap (λ x. option_map (λ ts. first ∷ ts) (tokens_from x (after c p) cs)) (one_less m)
            ∙ ap (λ o. option_map (λ ts. first ∷ ts) o) others.1,
        and_true (in_range first) (list_all in_range others.0) (ranged t p (too_large b e)) others.2,
      )

  read_on : (cs : List ℕ) (n : ℕ) (p : Place) → Begins file (text_of bytes) (moved n p cs) (drop n cs) → Read n p cs
  read_on [] n p b = ([], refl, refl)
  read_on (c ∷ cs) (suc n) p b = read_on cs n (after c p) b
  read_on (c ∷ cs) zero p b = by_lexeme (lexeme_at (c ∷ cs)) b refl (long_at (c ∷ cs)) (λ n q d. read_on cs n q d)

  pub has_tokens : (ts : List SourceToken) × Tokens file bytes ts
  has_tokens =
      let read = read_on (text_of bytes) 0 (first_place file) at_start in (
        read.0,
        record {
          is_text = is_text;
          spelled = ap (λ x. tokens_from 0 (first_place file) x) (sym (text_is bytes is_text)) ∙ read.1;
          ranged = read.2;
        },
      )
