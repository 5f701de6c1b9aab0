-- A file that has tokens has no fault of its characters.
use Rattle.std.proofs.Common.{◌≡◌, ◌≢◌, refl, sym, ap, ◌∙◌, subst, append_assoc, ℕ, zero, suc, ◌+◌, ◌-◌, ◌^◌, ◌<◌, ◌≤◌, List, [], ◌∷◌, ◌++◌, Bool, true, false, arith, length, ⊎_elim}
use Rattle.std.proofs.Math.Seq.{take-length, drop-length}
use Rattle.std.proofs.Math.Utf8.{scalar, scalars, scalar_cases}
use Rattle.std.proofs.lemmas.Bool.{ltb-true}
use Rattle.std.proofs.lemmas.List.{append-nil, length-append}
use Rattle.std.proofs.lemmas.Str.{scalars-chars, utf8_valid_len-IsUtf8}
use Rattle.std.specs.Char.{is_whitespace}
use Rattle.std.specs.Cmp.{unsigned_Decides}
use Rattle.std.specs.List.{list_all, position_or_len}
use Rattle.std.specs.Option.{option_map_or}
use Rattle.std.specs.Prelude.{⊤, ◌==◌, ◌&&◌, ◌||◌, map, take, drop, chars, IsUtf8, Option, Some, None, option_map, option_and_then, nat_lt, encode_utf8_all, if◌then◌else◌}
use Rattle.gft_core.specs.declared.place.Place.{Place}
use Rattle.gft_rules.specs.declared.refusal.Refusal.{Refusal}
use Rattle.gft_syntax.specs.declared.token.SourceToken.{SourceToken}
use Rattle.gft_syntax.specs.declared.token.TokenForm.{TokenForm}
use Rattle.gft_syntax.specs.declared.token.TokenForm.TheVariants.{Quoted, Number}
use Rattle.gft_model.specs.Source.{Tokens, Lexeme, blank, token, nothing, lexeme_at, longest, longest_from, form_of, token_lexeme, block_length, escaped, quoted_text, escape_text, tokens_from, in_range, after, first_place}
use Rattle.gft_model.specs.TokenFaults.{BreaksTokens, Begins, at_start, after_blank, after_token, not_utf8, bad_character, open_string, bad_escape, open_comment, number_too_large, text_of, loose, moved, Inside, here, plain, escape, IsClosed}

true_of_and : (a b : Bool) → (a && b) ≡ true → (a ≡ true) × (b ≡ true)
true_of_and true b e = (refl, e)
true_of_and false b e = let wrong : false ≡ true = e in cc

-- THE CHARACTERS OF A TEXT

pub text_is : (bytes : List ℕ) → IsUtf8 bytes → text_of bytes ≡ chars bytes
text_is bytes u =
    ap (λ n. chars (take n bytes) ++ map loose (drop n bytes)) (utf8_valid_len-IsUtf8 bytes u)
    ∙ ap (λ xs. chars (take (length bytes) bytes) ++ map loose xs) (drop-length bytes)
    ∙ append-nil (chars (take (length bytes) bytes)) ∙ ap chars (take-length bytes)

-- a character among those of a text
in_text : (xs : List ℕ) (c : ℕ) (ys : List ℕ) → scalars (xs ++ c ∷ ys) ≡ true → c < 1114112
in_text [] c ys h =
    let is = true_of_and (scalar c) (scalars ys) h in
    ⊎_elim {C = c < 1114112} (λ k. omega (arith, k)) (λ k. k.1) (scalar_cases c is.0)
in_text (x ∷ xs) c ys h = in_text xs c ys (true_of_and (scalar x) (scalars (xs ++ c ∷ ys)) h).1

-- LEXEMES ARE NOT EMPTY

-- what begins has a character at least
abbrev pub Long : Lexeme → Type 0
Long (blank n) = 0 < n
Long (token t n) = 0 < n
Long nothing = ⊤

abbrev Found : Option (TokenForm × ℕ) → Type 0
Found None = ⊤
Found (Some t) = 0 < t.1

either : (b : Bool) (x y : Lexeme) → Long x → Long y → Long (if b then x else y)
either true x y h k = h
either false x y h k = k

found_now : (o : Option TokenForm) (n : ℕ) (best : Option (TokenForm × ℕ)) → 0 < n → Found best
    → Found (elim o [ Some t ↦ Some (t, n) | None ↦ best ])
found_now (Some t) n best h k = h
found_now None n best h k = k

found_longest : (held cs : List ℕ) (best : Option (TokenForm × ℕ)) → Found best → Found (longest_from held cs best)
found_longest held [] best h = h
found_longest held (c ∷ cs) best h =
    let more = length-append held (c ∷ []) in
    found_longest (held ++ c ∷ []) cs
    (elim (form_of (held ++ c ∷ [])) [ Some t ↦ Some (t, length (held ++ c ∷ [])) | None ↦ best ])
    (found_now (form_of (held ++ c ∷ [])) (length (held ++ c ∷ [])) best (omega (arith, more)) h)

long_token : (o : Option (TokenForm × ℕ)) → Found o → Long (token_lexeme o)
long_token None h = tt
long_token (Some t) h = h

abbrev block_lexeme : Option ℕ → Lexeme
block_lexeme o = option_map_or (λ n. blank (n + 2)) o nothing

long_block : (o : Option ℕ) → Long (block_lexeme o)
long_block None = tt
long_block (Some n) = omega arith

pub long_at : (cs : List ℕ) → Long (lexeme_at cs)
long_at [] = tt
long_at (c ∷ []) =
    either (is_whitespace c) (blank 1) _ (omega arith)
    (long_token (longest (c ∷ [])) (found_longest [] (c ∷ []) None tt))
long_at (c ∷ d ∷ cs) =
    either (is_whitespace c) (blank 1) _ (omega arith)
    (either (c == 45 && d == 45) (blank (position_or_len (λ e. e == 10) cs + 2)) _ (omega arith)
    (either (c == 123 && d == 45) (block_lexeme (block_length cs)) _ (long_block (block_length cs))
    (long_token (longest (c ∷ d ∷ cs)) (found_longest [] (c ∷ d ∷ cs) None tt))))

-- WHERE A LEXEME MAY BEGIN

-- the tokens from a place on, by what begins there
abbrev pub reading : Lexeme → Place → ℕ → List ℕ → Option (List SourceToken)
reading nothing p c cs = None
reading (blank n) p c cs = tokens_from (n - 1) (after c p) cs
reading (token t n) p c cs = option_map (λ ts. record { form = t; place = p } ∷ ts) (tokens_from (n - 1) (after c p) cs)

-- the same, as tokens_from has it
abbrev as_read : Lexeme → Place → ℕ → List ℕ → Option (List SourceToken)
as_read l p c cs =
    elim l [
      | nothing ↦ None
      | blank n ↦ tokens_from (n - 1) (after c p) cs
      | token t n ↦ option_map (λ ts. record { form = t; place = p } ∷ ts) (tokens_from (n - 1) (after c p) cs)
    ]

read_as : (p : Place) (c : ℕ) (cs : List ℕ) (l : Lexeme) → lexeme_at (c ∷ cs) ≡ l → tokens_from 0 p (c ∷ cs) ≡ as_read l p c cs
read_as p c cs l e = ap (λ x. as_read x p c cs) e

pub read_here : (p : Place) (c : ℕ) (cs : List ℕ) (l : Lexeme) → lexeme_at (c ∷ cs) ≡ l
    → tokens_from 0 p (c ∷ cs) ≡ reading l p c cs
read_here p c cs nothing e = read_as p c cs _ e
read_here p c cs (blank n) e = read_as p c cs _ e
read_here p c cs (token t n) e = read_as p c cs _ e

tokens_moved : (n : ℕ) (p : Place) (cs : List ℕ) → tokens_from n p cs ≡ tokens_from 0 (moved n p cs) (drop n cs)
tokens_moved zero p cs = refl
tokens_moved (suc n) p [] = refl
tokens_moved (suc n) p (c ∷ cs) = tokens_moved n (after c p) cs

-- the tokens from a place on are in range
abbrev Good : Place → List ℕ → Type 0
Good p cs = (us : List SourceToken) × (tokens_from 0 p cs ≡ Some us) × (list_all in_range us ≡ true)

pub one_less : (m : ℕ) → suc m - 1 ≡ m
one_less m = omega arith

mapped : (t : SourceToken) (o : Option (List SourceToken)) (us : List SourceToken) → option_map (λ ts. t ∷ ts) o ≡ Some us
    → list_all in_range us ≡ true
    → (vs : List SourceToken) × (o ≡ Some vs) × (list_all in_range vs ≡ true) × (in_range t ≡ true)
mapped t None us e r = let wrong : None ≡ Some us = e in cc
mapped t (Some vs) us e r =
    let same : us ≡ t ∷ vs = cc in
    let both = true_of_and (in_range t) (list_all in_range vs) (subst (λ x. list_all in_range x ≡ true) same r) in
    (vs, refl, both.1, both.0)

good_next : (m n : ℕ) (p : Place) (c : ℕ) (cs : List ℕ) (us : List SourceToken) → suc m ≡ n
    → tokens_from (suc m - 1) (after c p) cs ≡ Some us → list_all in_range us ≡ true
    → Good (moved n p (c ∷ cs)) (drop n (c ∷ cs))
good_next m n p c cs us same e r =
    let less : tokens_from (suc m - 1) (after c p) cs ≡ tokens_from m (after c p) cs =
    ap (λ x. tokens_from x (after c p) cs) (one_less m) in
    subst (λ x. Good (moved x p (c ∷ cs)) (drop x (c ∷ cs))) same (us, sym (tokens_moved m (after c p) cs) ∙ sym less ∙ e, r)

good_blank : (n : ℕ) (p : Place) (c : ℕ) (cs : List ℕ) (us : List SourceToken) → Long (blank n)
    → reading (blank n) p c cs ≡ Some us → list_all in_range us ≡ true → Good (moved n p (c ∷ cs)) (drop n (c ∷ cs))
good_blank zero p c cs us k e r = absurd (omega (arith, k))
good_blank (suc m) p c cs us k e r = good_next m (suc m) p c cs us refl e r

good_token : (t : TokenForm) (n : ℕ) (p : Place) (c : ℕ) (cs : List ℕ) (us : List SourceToken) → Long (token t n)
    → reading (token t n) p c cs ≡ Some us → list_all in_range us ≡ true → Good (moved n p (c ∷ cs)) (drop n (c ∷ cs))
good_token t zero p c cs us k e r = absurd (omega (arith, k))
good_token t (suc m) p c cs us k e r =
    let parts = mapped (record { form = t; place = p }) (tokens_from (suc m - 1) (after c p) cs) us e r in
    good_next m (suc m) p c cs parts.0 refl parts.1 parts.2

good_at : {file : ℕ} {text : List ℕ} {ts : List SourceToken} {p : Place} {cs : List ℕ} → Begins file text p cs
    → tokens_from 0 (first_place file) text ≡ Some ts → list_all in_range ts ≡ true → Good p cs
good_at {ts} at_start e r = (ts, e, r)
good_at (after_blank {cs = []} {n} b h) e r = let wrong : nothing ≡ blank n = h in cc
good_at (after_blank {p} {cs = c ∷ cs} {n} b h) e r =
    let good = good_at b e r in
    good_blank n p c cs good.0 (subst Long h (long_at (c ∷ cs))) (sym (read_here p c cs (blank n) h) ∙ good.1) good.2
good_at (after_token {cs = []} {t} {n} b h) e r = let wrong : nothing ≡ token t n = h in cc
good_at (after_token {p} {cs = c ∷ cs} {t} {n} b h) e r =
    let good = good_at b e r in
    good_token t n p c cs good.0 (subst Long h (long_at (c ∷ cs))) (sym (read_here p c cs (token t n) h) ∙ good.1) good.2

-- nothing but a lexeme begins there
nowhere : (p : Place) (c : ℕ) (cs : List ℕ) → Good p (c ∷ cs) → lexeme_at (c ∷ cs) ≡ nothing → ⊥
nowhere p c cs g e = let wrong : None ≡ Some g.0 = sym (read_here p c cs nothing e) ∙ g.1 in cc

-- EACH FAULT

too_large : (m n : ℕ) → nat_lt n m ≡ true → m ≤ n → ⊥
too_large m n h k = omega (arith, ltb-true n m h, k)

-- no token begins, and neither white space nor a comment
none_now : (o : Option TokenForm) (n : ℕ) (best : Option (TokenForm × ℕ))
    → ◌≡◌ {A = Option (TokenForm × ℕ)} (elim o [ Some t ↦ Some (t, n) | None ↦ best ]) None → best ≡ None
none_now None n best e = e
none_now (Some t) n best e = cc

pub none_from : (held cs : List ℕ) (best : Option (TokenForm × ℕ)) → longest_from held cs best ≡ None → best ≡ None
none_from held [] best e = e
none_from held (c ∷ cs) best e =
    none_now (form_of (held ++ c ∷ [])) (length (held ++ c ∷ [])) best
    (none_from (held ++ c ∷ []) cs
    (elim (form_of (held ++ c ∷ [])) [ Some t ↦ Some (t, length (held ++ c ∷ [])) | None ↦ best ]) e)

form_now : (o : Option TokenForm) (n : ℕ) → ◌≡◌ {A = Option (TokenForm × ℕ)} (elim o [ Some t ↦ Some (t, n) | None ↦ None ]) None
    → o ≡ None
form_now None n e = refl
form_now (Some t) n e = cc

no_form : (c : ℕ) (cs : List ℕ) → longest (c ∷ cs) ≡ None → form_of (c ∷ []) ≡ None
no_form c cs e =
    form_now (form_of (c ∷ [])) (length (c ∷ []))
    (none_from (c ∷ []) cs (elim (form_of (c ∷ [])) [ Some t ↦ Some (t, length (c ∷ [])) | None ↦ None ]) e)

-- a character of its own is no symbol
differs : (c k : ℕ) (b : Bool) → (c == k) ≡ b → form_of (c ∷ []) ≡ None → (form_of (k ∷ []) ≡ None → ⊥)
    → (c == k) ≡ false
differs c k false e f n = e
differs c k true e f n = absurd (n (subst (λ x. form_of (x ∷ []) ≡ None) ((unsigned_Decides c k).0 e) f))

no_lexeme : (c : ℕ) (cs : List ℕ) → longest (c ∷ cs) ≡ None → is_whitespace c ≡ false → lexeme_at (c ∷ cs) ≡ nothing
no_lexeme c [] e w = ap (λ b. if b then blank 1 else token_lexeme (longest (c ∷ []))) w ∙ ap token_lexeme e
no_lexeme c (d ∷ cs) e w =
    let f = no_form c (d ∷ cs) e in
    let minus = differs c 45 (c == 45) refl f (λ x. cc) in
    let brace = differs c 123 (c == 123) refl f (λ x. cc) in
    ap (λ b. if b then blank 1 else if c == 45 && d == 45 then blank (position_or_len (λ e. e == 10) cs + 2)
    else if c == 123 && d == 45 then block_lexeme (block_length cs) else token_lexeme (longest (c ∷ d ∷ cs))) w
    ∙ ap (λ b. if b && d == 45 then blank (position_or_len (λ e. e == 10) cs + 2)
    else if c == 123 && d == 45 then block_lexeme (block_length cs) else token_lexeme (longest (c ∷ d ∷ cs))) minus
    ∙ ap (λ b. if b && d == 45 then block_lexeme (block_length cs) else token_lexeme (longest (c ∷ d ∷ cs))) brace
    ∙ ap token_lexeme e

-- a text that is not one
quoted_lexeme : (cs : List ℕ) → longest (34 ∷ cs) ≡ None → lexeme_at (34 ∷ cs) ≡ nothing
quoted_lexeme cs e = no_lexeme 34 cs e refl

quoted_longest : (held cs : List ℕ) → ((xs ys : List ℕ) → held ++ cs ≡ xs ++ ys → quoted_text xs ≡ None)
    → longest_from (34 ∷ held) cs None ≡ None
quoted_longest held [] none = refl
quoted_longest held (c ∷ cs) none =
    let same = append_assoc held (c ∷ []) cs in
    let this = none (held ++ c ∷ []) cs (sym same) in
    ap (λ o. longest_from (34 ∷ held ++ c ∷ []) cs
    (elim (option_map {T = List ℕ} {U = TokenForm} (λ t. Quoted (encode_utf8_all t) (encode_utf8_all (34 ∷ held ++ c ∷ []))) o)
    [ Some t ↦ Some (t, length (34 ∷ held ++ c ∷ [])) | None ↦ None ])) this
    ∙ quoted_longest (held ++ c ∷ []) cs (λ xs ys h. none xs ys (sym same ∙ h))

-- a text that is spelled is closed
abbrev pub quoted_as : Bool → Bool → Bool → ℕ → List ℕ → Option (List ℕ)
quoted_as a b d c cs =
    elim a [
      | true ↦ escape_text cs
      | false ↦ elim (b || d) [
        | true ↦ (if b && length cs == 0 then Some [] else None)
        | false ↦ option_map (λ rest. c ∷ rest) (quoted_text cs)
      ]
    ]

of_map : (c : ℕ) (o : Option (List ℕ)) (t : List ℕ) → option_map (λ rest. c ∷ rest) o ≡ Some t → (s : List ℕ) × (o ≡ Some s)
of_map c None t e = let wrong : None ≡ Some t = e in cc
of_map c (Some s) t e = (s, refl)

of_escape : (o : Option ℕ) (xs t : List ℕ)
    → option_and_then (λ d. option_map (λ rest. d ∷ rest) (quoted_text xs)) o ≡ Some t
    → (d : ℕ) × (o ≡ Some d) × (s : List ℕ) × (quoted_text xs ≡ Some s)
of_escape None xs t e = let wrong : None ≡ Some t = e in cc
of_escape (Some d) xs t e = let s = of_map d (quoted_text xs) t e in (d, refl, s.0, s.1)

pub is_that : (c k : ℕ) → (c == k) ≡ true → c ≡ k
is_that c k h = (unsigned_Decides c k).0 h

pub is_other : (c k : ℕ) → (c == k) ≡ false → c ≢ k
is_other c k h e = let wrong : false ≡ true = sym h ∙ (unsigned_Decides c k).1 e in cc

no_newline : (c d : ℕ) → escaped c ≡ Some d → c ≢ 10
no_newline c d e h = let wrong : None ≡ Some d = sym (ap escaped h) ∙ e in cc

abbrev Closed : List ℕ → Type 0
Closed cs = (p : Place) → IsClosed p cs

closed_by : (a b d : Bool) (c : ℕ) (xs ys t : List ℕ) → (c == 92) ≡ a → (c == 34) ≡ b → (c == 10) ≡ d
    → ((s : List ℕ) → escape_text xs ≡ Some s → Closed (92 ∷ xs ++ ys))
    → ((s : List ℕ) → quoted_text xs ≡ Some s → Closed (xs ++ ys)) → quoted_as a b d c xs ≡ Some t → Closed (c ∷ xs ++ ys)
closed_by true b d c xs ys t h i j f g e = subst (λ k. Closed (k ∷ xs ++ ys)) (sym (is_that c 92 h)) (f t e)
closed_by false true d c xs ys t h i j f g e =
    subst (λ k. Closed (k ∷ xs ++ ys)) (sym (is_that c 34 i)) (λ p. (p, xs ++ ys, here))
closed_by false false true c xs ys t h i j f g e = let wrong : None ≡ Some t = e in cc
closed_by false false false c xs ys t h i j f g e = λ p.
    let s = of_map c (quoted_text xs) t e in
    let rest = g s.0 s.1 (after c p) in
    (rest.0, rest.1, plain (is_other c 92 h) (is_other c 34 i) (is_other c 10 j) rest.2)

mutual
  closed_if : (xs ys t : List ℕ) → quoted_text xs ≡ Some t → Closed (xs ++ ys)
  closed_if [] ys t e = let wrong : None ≡ Some t = e in cc
  closed_if (c ∷ xs) ys t e =
      closed_by (c == 92) (c == 34) (c == 10) c xs ys t refl refl refl (closed_escape xs ys) (closed_if xs ys) e

  closed_escape : (xs ys t : List ℕ) → escape_text xs ≡ Some t → Closed (92 ∷ xs ++ ys)
  closed_escape [] ys t e = let wrong : None ≡ Some t = e in cc
  closed_escape (c ∷ xs) ys t e = λ p.
      let parts = of_escape (escaped c) xs t e in
      let rest = closed_if xs ys parts.2 parts.3 (after c (after 92 p)) in
      (rest.0, rest.1, escape (no_newline c parts.0 parts.1) rest.2)

-- and its escapes are escapes
plain_by : (a b d : Bool) (c : ℕ) (xs t : List ℕ) → (c == 92) ≡ a → (c == 34) ≡ b → (c == 10) ≡ d
    → c ≢ 92 → c ≢ 34 → c ≢ 10 → quoted_as a b d c xs ≡ Some t → (s : List ℕ) × (quoted_text xs ≡ Some s)
plain_by true b d c xs t h i j k l m e = absurd (k (is_that c 92 h))
plain_by false true d c xs t h i j k l m e = absurd (l (is_that c 34 i))
plain_by false false true c xs t h i j k l m e = absurd (m (is_that c 10 j))
plain_by false false false c xs t h i j k l m e = of_map c (quoted_text xs) t e

after_plain : (c : ℕ) (xs t : List ℕ) → c ≢ 92 → c ≢ 34 → c ≢ 10 → quoted_text (c ∷ xs) ≡ Some t
    → (s : List ℕ) × (quoted_text xs ≡ Some s)
after_plain c xs t k l m e = plain_by (c == 92) (c == 34) (c == 10) c xs t refl refl refl k l m e

after_escape : (c d : ℕ) (xs t : List ℕ) → c ≡ 92 → quoted_text (c ∷ d ∷ xs) ≡ Some t
    → (e : ℕ) × (escaped d ≡ Some e) × (s : List ℕ) × (quoted_text xs ≡ Some s)
after_escape c d xs t h e =
    of_escape (escaped d) xs t (subst (λ k. quoted_text (k ∷ d ∷ xs) ≡ Some t) h e)

not_alone : (c : ℕ) (t : List ℕ) → c ≡ 92 → quoted_text (c ∷ []) ≡ Some t → ⊥
not_alone c t h e = let wrong : None ≡ Some t = subst (λ k. quoted_text (k ∷ []) ≡ Some t) h e in cc

escapes_good : (xs ys t : List ℕ) → quoted_text xs ≡ Some t → (p q : Place) (es fs : List ℕ) → Inside p es q fs → es ≡ xs ++ ys
    → (k : ℕ) (ds : List ℕ) → fs ≡ 92 ∷ k ∷ ds → escaped k ≡ None → ⊥
escapes_good [] ys t e p q es fs i h k ds f n = let wrong : None ≡ Some t = e in cc
escapes_good (c ∷ []) ys t e p q es fs here h k ds f n = not_alone c t (cc) e
escapes_good (c ∷ d ∷ xs) ys t e p q es fs here h k ds f n =
    let same : c ∷ d ∷ xs ++ ys ≡ 92 ∷ k ∷ ds = sym h ∙ f in
    let first : c ≡ 92 = cc in
    let second : d ≡ k = cc in
    let parts = after_escape c d xs t first e in
    let wrong : None ≡ Some parts.0 = sym n ∙ sym (ap escaped second) ∙ parts.1 in cc
escapes_good (x ∷ xs) ys t e p q es fs (plain {cs} {c} i j l rest) h k ds f n =
    let first : c ≡ x = cc in
    let others : cs ≡ xs ++ ys = cc in
    let s = after_plain c xs t i j l (subst (λ z. quoted_text (z ∷ xs) ≡ Some t) (sym first) e) in
    escapes_good xs ys s.0 s.1 (after c p) q cs fs rest others k ds f n
escapes_good (x ∷ []) ys t e p q es fs (escape i rest) h k ds f n = not_alone x t (cc) e
escapes_good (x ∷ y ∷ xs) ys t e p q es fs (escape {cs} {c} i rest) h k ds f n =
    let first : x ≡ 92 = cc in
    let others : cs ≡ xs ++ ys = cc in
    let parts = after_escape x y xs t first e in
    escapes_good xs ys parts.2 parts.3 (after c (after 92 p)) q cs fs rest others k ds f n

none_or : {A : Type 0} (o : Option A) → ((t : A) → o ≡ Some t → ⊥) → o ≡ None
none_or None n = refl
none_or (Some t) n = absurd (n t refl)

good_of : {file : ℕ} {bytes : List ℕ} {ts : List SourceToken} {p : Place} {cs : List ℕ} → Tokens file bytes ts
    → Begins file (text_of bytes) p cs → Good p cs
good_of {file} {bytes} t b =
    good_at b (ap (λ x. tokens_from 0 (first_place file) x) (text_is bytes t.is_text) ∙ t.spelled) t.ranged

large : (p : Place) {n k : ℕ} {s : List ℕ} (cs : List ℕ) → Good p cs → lexeme_at cs ≡ token (Number n s) k → 2 ^ 128 ≤ n → ⊥
large p [] g e h = let wrong : nothing ≡ token (Number _ _) _ = e in cc
large p {n} {k} {s} (c ∷ cs) g e h =
    let parts = mapped (record { form = Number n s; place = p }) (tokens_from (k - 1) (after c p) cs) g.0
    (sym (read_here p c cs (token (Number n s) k) e) ∙ g.1) g.2 in
    too_large (2 ^ 128) n parts.3 h

-- a file that has tokens has no fault of its characters
pub tokens_apart : {n : ℕ} {bytes : List ℕ} {ts : List SourceToken} {r : Refusal} → Tokens n bytes ts → BreaksTokens n bytes r → ⊥
tokens_apart {bytes} t (not_utf8 before rest c e h) =
    let is : scalars (before ++ c ∷ rest) ≡ true =
    subst (λ x. scalars x ≡ true) (sym (text_is bytes t.is_text) ∙ e) (scalars-chars bytes t.is_text) in
    omega (arith, h, in_text before c rest is)
tokens_apart t (bad_character {p} {c} {cs} b e w n h) = nowhere p c cs (good_of t b) (no_lexeme c cs e w)
tokens_apart t (open_string {p} {cs} b n) =
    let none = quoted_longest [] cs (λ xs ys h. none_or (quoted_text xs)
    (λ s f. n (subst (λ x. IsClosed (after 34 p) x) (sym h) (closed_if xs ys s f (after 34 p))))) in
    nowhere p 34 cs (good_of t b) (quoted_lexeme cs none)
tokens_apart t (bad_escape {p} {q} {c} {cs} {ds} b closed i n h) =
    let none = quoted_longest [] cs (λ xs ys f. none_or (quoted_text xs)
    (λ s g. escapes_good xs ys s g (after 34 p) q cs _ i f c ds refl n)) in
    nowhere p 34 cs (good_of t b) (quoted_lexeme cs none)
tokens_apart t (open_comment {p} {cs} b e) = nowhere p 123 (45 ∷ cs) (good_of t b) (ap block_lexeme e)
tokens_apart t (number_too_large {p} {n} {k} {cs} {s} b e h) = large p cs (good_of t b) e h
