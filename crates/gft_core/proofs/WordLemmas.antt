-- Lemmas on the words of a text.
use Rattle.std.proofs.Common.{◌≡◌, ℕ, ◌<◌, Bool, true, false, not, cond, ◌&&◌, List, [], ◌∷◌, ◌++◌, length, map, refl, sym, ap, subst, ◌∙◌, append_assoc, append-nil, eqb, arith}
use Rattle.std.specs.Str.{chars, IsUtf8, NoCharPasses, NonePass, EmptyOrStartsWithPassing}
use Rattle.std.specs.Prelude.{encode_utf8, encode_utf8_all}
use Rattle.std.specs.Char.{is_whitespace, is_not_whitespace}
use Rattle.std.specs.List.{list_all}
use Rattle.std.proofs.lemmas.Str.{chars_past_char, IsUtf8-past_char, chars_from_encodes, chars-nil, chars-encodes, scalars-chars}
use Rattle.std.proofs.lemmas.Bool.{false≢true}
use Rattle.std.proofs.lemmas.Bool.Decides.{nat_tests}
use lib.Utf8.{scalars, scalar}
use Rattle.gft_core.specs.Words.{runs, later_runs, first_run, words_of, IsWord}

pub true_of_and : (a b : Bool) → (a && b) ≡ true → (a ≡ true) × (b ≡ true)
true_of_and true b h = (refl, h)
true_of_and false b h = absurd (false≢true h)

not_false : (b : Bool) → not b ≡ false → b ≡ true
not_false true h = refl
not_false false h = sym h

-- a text that goes on from these characters has them and then the others
pub past_all : (cs rest : List ℕ) → IsUtf8 (encode_utf8_all cs ++ rest) → (chars (encode_utf8_all cs ++ rest) ≡ cs ++ chars rest) × IsUtf8 rest
past_all [] rest u = (refl, u)
past_all (c ∷ cs) rest u =
    let e = append_assoc (encode_utf8 c) (encode_utf8_all cs) rest in
    let later = past_all cs rest (IsUtf8-past_char _ _ c u e) in
    (chars_past_char _ _ c u e ∙ ap (λ ds. c ∷ ds) later.0, later.1)

module _ (p : ℕ → Bool) where
  -- nothing, or a character that passes comes first
  abbrev pub StartsPassing : List ℕ → Type 0
  StartsPassing [] = Unit {0}
  StartsPassing (c ∷ cs) = p c ≡ true

  -- what separates runs adds none
  pub runs-gap : (q : ℕ → Bool) → ((c : ℕ) → q c ≡ not (p c)) → (gap cs : List ℕ) → NonePass q gap → runs p (gap ++ cs) ≡ runs p cs
  runs-gap q opposite [] cs h = refl
  runs-gap q opposite (c ∷ gap) cs h =
      let passes : p c ≡ true = not_false (p c) (sym (opposite c) ∙ h.0) in
      ap (λ b. cond b (runs p (gap ++ cs)) ((c ∷ first_run p (gap ++ cs)) ∷ later_runs p (gap ++ cs))) passes
      ∙ runs-gap q opposite gap cs h.1

  first_run-front : (cs ds : List ℕ) → NonePass p cs → StartsPassing ds → first_run p (cs ++ ds) ≡ cs
  first_run-front [] [] h s = refl
  first_run-front [] (d ∷ ds) h s = ap (λ b. cond b [] (d ∷ first_run p ds)) s
  first_run-front (c ∷ cs) ds h s =
      ap (λ b. cond b [] (c ∷ first_run p (cs ++ ds))) h.0 ∙ ap (λ xs. c ∷ xs) (first_run-front cs ds h.1 s)

  later_runs-front : (cs ds : List ℕ) → NonePass p cs → StartsPassing ds → later_runs p (cs ++ ds) ≡ runs p ds
  later_runs-front [] [] h s = refl
  later_runs-front [] (d ∷ ds) h s =
      ap (λ b. cond b (runs p ds) (later_runs p ds)) s
      ∙ sym (ap (λ b. cond b (runs p ds) ((d ∷ first_run p ds) ∷ later_runs p ds)) s)
  later_runs-front (c ∷ cs) ds h s =
      ap (λ b. cond b (runs p (cs ++ ds)) (later_runs p (cs ++ ds))) h.0 ∙ later_runs-front cs ds h.1 s

  -- a run that is not empty and ends where a character passes, or nothing is left, is the first
  pub runs-front : (cs ds : List ℕ) → 0 < length cs → NonePass p cs → StartsPassing ds → runs p (cs ++ ds) ≡ cs ∷ runs p ds
  runs-front [] ds l h s = absurd (omega arith)
  runs-front (c ∷ cs) ds l h s =
      ap (λ b. cond b (runs p (cs ++ ds)) ((c ∷ first_run p (cs ++ ds)) ∷ later_runs p (cs ++ ds))) h.0
      ∙ ap (λ xs. (c ∷ xs) ∷ later_runs p (cs ++ ds)) (first_run-front cs ds h.1 s)
      ∙ ap (λ xs. (c ∷ cs) ∷ xs) (later_runs-front cs ds h.1 s)

  -- a text that is empty or starts with a character that passes
  starts_chars : (bs more : List ℕ) → IsUtf8 bs → EmptyOrStartsWithPassing p bs more → StartsPassing (chars bs)
  starts_chars [] more u h = subst StartsPassing (sym chars-nil) tt
  starts_chars (b ∷ bs) more u h =
      let first = h (omega arith) in
      subst StartsPassing (sym (chars_past_char _ _ first.0 u first.2)) first.1

  none_passes : (cs : List ℕ) → NonePass p cs → list_all (λ c. not (p c)) cs ≡ true
  none_passes [] h = refl
  none_passes (c ∷ cs) h = rw h.0 (none_passes cs h.1)

scalars-front : (xs ys : List ℕ) → scalars (xs ++ ys) ≡ true → scalars xs ≡ true
scalars-front [] ys h = refl
scalars-front (x ∷ xs) ys h = let both = true_of_and (scalar x) (scalars (xs ++ ys)) h in rw both.0 (scalars-front xs ys both.1)

-- what one more word of a text says: it is a word, what is left is text, and its words are those after it
pub record IsTurn (bs word rest : List ℕ) : Type 0 where
  pub is_word : IsWord word
  pub is_text : IsUtf8 rest
  pub words : words_of bs ≡ word ∷ words_of rest

pub nonempty_source : (cs : List ℕ) (bs : List ℕ) → encode_utf8_all cs ≡ bs → 0 < length bs → 0 < length cs
nonempty_source [] bs e h = absurd (omega (arith, ap length e))
nonempty_source (c ∷ cs) bs e h = omega arith

word_from : (word : List ℕ) → 0 < length word → list_all is_not_whitespace (chars word) ≡ true → IsWord word
word_from [] l h = absurd (omega arith)
word_from (b ∷ bs) l h =
    let e : eqb (length (b ∷ bs)) 0 ≡ false = grind (arith, nat_tests) in
    ap (λ t. not t && list_all is_not_whitespace (chars (b ∷ bs))) e ∙ h

-- the same, where the parts are told by their characters
turn_of : (gs ws rest more : List ℕ) → IsUtf8 (encode_utf8_all gs ++ (encode_utf8_all ws ++ rest)) → 0 < length (encode_utf8_all ws)
    → NonePass is_not_whitespace gs → NonePass is_whitespace ws → EmptyOrStartsWithPassing is_whitespace rest more
    → IsTurn (encode_utf8_all gs ++ (encode_utf8_all ws ++ rest)) (encode_utf8_all ws) rest
turn_of gs ws rest more u l ng nw s =
    let a = past_all gs (encode_utf8_all ws ++ rest) u in
    let b = past_all ws rest a.1 in
    let starts = starts_chars is_whitespace rest more b.1 s in
    let scalar_ws = scalars-front ws (chars rest) (subst (λ cs. scalars cs ≡ true) b.0 (scalars-chars _ a.1)) in
    record {
      is_word = word_from _ l (subst (λ cs. list_all is_not_whitespace cs ≡ true) (sym (chars-encodes ws scalar_ws)) (none_passes is_whitespace ws nw));
      is_text = b.1;
      words = ap (λ cs. map encode_utf8_all (runs is_whitespace cs)) (a.0 ∙ ap (λ cs. gs ++ cs) b.0)
          ∙ ap (map encode_utf8_all) (runs-gap is_whitespace is_not_whitespace (λ c. refl) gs (ws ++ chars rest) ng
          ∙ runs-front is_whitespace ws (chars rest) (nonempty_source ws _ refl l) nw starts);
    }

pub turn : (bs word rest gap more : List ℕ) → IsUtf8 bs → bs ≡ gap ++ (word ++ rest) → 0 < length word
    → NoCharPasses is_not_whitespace gap → NoCharPasses is_whitespace word → EmptyOrStartsWithPassing is_whitespace rest more
    → IsTurn bs word rest
turn bs word rest gap more u e l ng nw s =
    let spelled : encode_utf8_all ng.0 ++ (encode_utf8_all nw.0 ++ rest) ≡ bs
    = ap (λ g. g ++ (encode_utf8_all nw.0 ++ rest)) ng.1 ∙ ap (λ w. gap ++ (w ++ rest)) nw.1 ∙ sym e in
    let t = turn_of ng.0 nw.0 rest more (subst IsUtf8 (sym spelled) u) (subst (λ w. 0 < length w) (sym nw.1) l) ng.2 nw.2 s in
    subst (λ w. IsTurn bs w rest) nw.1 (subst (λ x. IsTurn x (encode_utf8_all nw.0) rest) spelled t)

-- a text of white space has no words
pub no_words : (bs : List ℕ) → IsUtf8 bs → NoCharPasses is_not_whitespace bs → words_of bs ≡ []
no_words bs u h =
    ap (λ cs. map encode_utf8_all (runs is_whitespace cs)) (sym (chars_from_encodes h.0 bs u h.1))
    ∙ ap (map encode_utf8_all) (ap (runs is_whitespace) (sym (append-nil h.0)) ∙ runs-gap is_whitespace is_not_whitespace (λ c. refl) h.0 [] h.2)
