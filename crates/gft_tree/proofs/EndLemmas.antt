-- Tokens that end, and the steps within them.
use Rattle.std.proofs.Common.{◌≡◌, ℕ, ◌-◌, inl, Bool, true, false, not, ◌&&◌, ◌||◌, ◌==◌, if◌then◌else◌, List, [], ◌∷◌, ◌++◌, length, ap, sym, ◌∙◌, subst, refl, Result, Ok, Err, Option, Some, arith, append_assoc, append-nil, ⊎_elim}
use Rattle.std.specs.Prelude.{encode_utf8_all, flat_map}
use Rattle.std.specs.Char.{is_ascii_digit}
use Rattle.std.specs.List.{list_all}
use Rattle.std.specs.Str.Parse.{digits_value}
use Rattle.std.proofs.lemmas.Grind.{flat_map-append}
use Rattle.std.proofs.lemmas.List.Folds.{list_all-append}
use Rattle.std.proofs.lemmas.Bool.{and_parts, and_from, and_cases, false≢true, cases_Bool, eqb-true, not-false, or_cases, or_from}
use Rattle.gft_core.specs.declared.tree.Tree.TheVariants as tree
use Rattle.gft_core.specs.Names.{begins_name, continues_name, spells_name, is_lone}
use Rattle.gft_core.specs.Words.{is_word}
use Rattle.gft_tree.specs.declared.error.TreeErr.{TreeErr}
use Rattle.gft_tree.specs.declared.error.TreeErr.TheVariants.{Syntax, BadLiteral}
use Rattle.gft_tree.specs.declared.level.Level.{Level}
use Rattle.gft_tree.specs.declared.level.Gap.{Gap}
use Rattle.gft_tree.specs.declared.level.Gap.TheVariants.{Begun}
use Rattle.gft_tree.specs.declared.reader.Here.{Here}
use Rattle.gft_tree.specs.declared.reader.Here.TheVariants.{Between, Asked, InWord, InNumber, InQuotes, InEscape}
use Rattle.gft_tree.specs.declared.reader.Reader.{Reader}
use Rattle.gft_tree.specs.Lexemes.{Word, Number, Quoted, Cut, spelled, escaped, stops, stays_on_line}
use Rattle.gft_tree.specs.Spelling.{is_canonical, is_in_range}
use Rattle.gft_tree.specs.Faults.{bytes, GoesOn, underscore}
use Rattle.gft_tree.specs.Reading.{with_atom, with_name, with_digit, read_on, start, reader_at, step_at, step_word, step_number, step_quotes, step_escape, word_ended, number_ended, string_ended, on_ended}
use Rattle.gft_tree.proofs.TokenLemmas.{gap, asked, State, number_value, number_literal, literal, in_quotes}
use Rattle.gft_tree.proofs.GoLemmas.{goes_on}
use Rattle.gft_tree.proofs.StepLemmas.{Stands, Found, StandsAt, number_stop, Stepped, comes, one_token, no_fit, no_way, gap_steps, asked_steps, goes_back, token_goes}

-- the same, where what follows has another form
pub restand : (cs : List ℕ) (f g : List ℕ → List ℕ) (p : State) → Stands cs f p → ((rest : List ℕ) → (other : List ℕ) × (f other ≡ g rest)) → Stands cs g p
restand cs f g p s h = record {
  tokens = s.tokens;
  cut = λ rest. let P : List ℕ → Type 0 = λ x. Cut cs s.tokens x in subst P (h rest).1 (s.cut (h rest).0);
  held = s.held;
  fit = s.fit;
  led = s.led;
}

-- what a token that ends leaves
abbrev pub Ended : List ℕ → List ℕ → (List ℕ → List ℕ) → List Level → Result Gap TreeErr → Type 0
Ended text cs next outer (Ok g) = Stands cs next (outer, gap g)
Ended text cs next outer (Err e) = Found text e

pub on_end : (text cs ds : List ℕ) (next : List ℕ → List ℕ) (outer : List Level) (r : Result Gap TreeErr) (f : Gap → Result Reader TreeErr)
    → Ended text cs next outer r → ((g : Gap) → Stands cs next (outer, gap g) → Stepped text ds (f g)) → Stepped text ds (on_ended r f)
on_end text cs ds next outer (Ok g) f s h = h g s
on_end text cs ds next outer (Err e) f s h = s

no_letters : (w : List ℕ) → (length w == 0) ≡ true → w ≡ []
no_letters [] h = refl
no_letters (c ∷ cs) h = let e = eqb-true (length (c ∷ cs)) 0 h in absurd (omega (arith, e))

-- a word that ends
pub word_end : (text b : List ℕ) (c : ℕ) (w rest : List ℕ) (next : List ℕ → List ℕ) (outer : List Level) (l : Level)
    → begins_name c ≡ true → list_all continues_name w ≡ true → ((r : List ℕ) → stops continues_name (next r) ≡ true)
    → Stands b (λ r. (c ∷ w) ++ next r) (outer, gap (Begun l)) → text ≡ b ++ ((c ∷ w) ++ next rest)
    → Ended text (b ++ c ∷ w) next outer (word_ended l (bytes b) (c ∷ w))
word_end text b c w rest next outer l h hs n s e = ⊎_elim
    (λ y. rw y (one_token b next (outer, gap (Begun l)) (outer, gap (with_name l (encode_utf8_all (c ∷ w)))) (Word (c ∷ w)) s y n refl refl))
    (λ y. rw y (
    let lone : is_lone c w ≡ true = not-false (is_lone c w) (⊎_elim (λ x. absurd (false≢true (sym x ∙ and_from _ _ h hs))) (λ x. x) (and_cases (begins_name c && list_all continues_name w) (not (is_lone c w)) y)) in
    let q = and_parts (c == 95) (length w == 0) lone in
    let is = no_letters w q.1 in
    let P : ℕ → Type 0 = λ x. text ≡ b ++ ((x ∷ []) ++ next rest) in
    let W : List ℕ → Type 0 = λ x. text ≡ b ++ ((c ∷ x) ++ next rest) in
    let C : ℕ → Type 0 = λ x. Cut b s.tokens ((x ∷ []) ++ next rest) in
    let D : List ℕ → Type 0 = λ x. Cut b s.tokens ((c ∷ x) ++ next rest) in
    let c95 = eqb-true c 95 q.0 in
    let t95 = subst P c95 (subst W is e) in
    record {
      fault = underscore b s.tokens (next rest) t95 (subst C c95 (subst D is (s.cut rest))) (n rest);
      before = b;
      rest = (c ∷ w) ++ next rest;
      parts = e;
      place = refl;
      reached = goes_on b ((c ∷ w) ++ next rest) s.tokens outer (gap (Begun l)) (s.cut rest) s.held;
      beyond = inl tt;
    }))
    (cases_Bool (spells_name (c ∷ w)))

-- a number that ends
number_case : (text b : List ℕ) (d : ℕ) (ds rest : List ℕ) (next : List ℕ → List ℕ) (outer : List Level) (l : Level) (hole fit : Bool)
    → is_ascii_digit d ≡ true → list_all is_ascii_digit ds ≡ true → ((r : List ℕ) → stops is_ascii_digit (next r) ≡ true)
    → Stands b (λ r. (d ∷ ds) ++ next r) (outer, number_stop l hole) → text ≡ b ++ ((d ∷ ds) ++ next rest)
    → (is_canonical (d ∷ ds) && is_in_range hole (digits_value 10 (d ∷ ds))) ≡ fit
    → Ended text (b ++ d ∷ ds) next outer (if fit then Ok (with_atom l (literal hole (digits_value 10 (d ∷ ds)))) else Err (BadLiteral (bytes b)))
number_case text b d ds rest next outer l false true h hs n s e f =
    one_token b next (outer, gap (Begun l)) (outer, gap (with_atom l (tree.Int (digits_value 10 (d ∷ ds))))) (Number (d ∷ ds)) s (and_from _ _ h hs) n refl f
number_case text b d ds rest next outer l true true h hs n s e f =
    one_token b next (outer, asked l) (outer, gap (with_atom l (tree.Hole (digits_value 10 (d ∷ ds))))) (Number (d ∷ ds)) s (and_from _ _ h hs) n refl f
number_case text b d ds rest next outer l false false h hs n s e f =
    no_fit text b next (outer, gap (Begun l)) (outer, gap (with_atom l (tree.Int (digits_value 10 (d ∷ ds))))) (Number (d ∷ ds)) rest s (and_from _ _ h hs) (n rest) refl f e
number_case text b d ds rest next outer l true false h hs n s e f =
    no_fit text b next (outer, asked l) (outer, gap (with_atom l (tree.Hole (digits_value 10 (d ∷ ds))))) (Number (d ∷ ds)) rest s (and_from _ _ h hs) (n rest) refl f e

pub number_end : (text b : List ℕ) (d : ℕ) (ds rest : List ℕ) (next : List ℕ → List ℕ) (outer : List Level) (l : Level) (hole : Bool)
    → is_ascii_digit d ≡ true → list_all is_ascii_digit ds ≡ true → ((r : List ℕ) → stops is_ascii_digit (next r) ≡ true)
    → Stands b (λ r. (d ∷ ds) ++ next r) (outer, number_stop l hole) → text ≡ b ++ ((d ∷ ds) ++ next rest)
    → Ended text (b ++ d ∷ ds) next outer (number_ended l hole (bytes b) (number_value (Some (d - 48)) ds))
number_end text b d ds rest next outer l hole h hs n s e =
    let R : Result Gap TreeErr → Type 0 = Ended text (b ++ d ∷ ds) next outer in
    subst R (sym (number_literal l hole (bytes b) d ds h hs)) (number_case text b d ds rest next outer l hole _ h hs n s e refl)

-- a string that ends
string_end : (text b w rest : List ℕ) (outer : List Level) (l : Level) → list_all stays_on_line w ≡ true
    → Stands b (λ r. 34 ∷ r) (outer, gap (Begun l)) → text ≡ b ++ (spelled (Quoted w) ++ rest)
    → Ended text (b ++ spelled (Quoted w)) (λ r. r) outer (string_ended l (bytes b) w)
string_end text b w rest outer l h s e =
    let p : State = (outer, gap (Begun l)) in
    let t = restand b (λ r. 34 ∷ r) (λ r. spelled (Quoted w) ++ r) p s (λ r. ((flat_map escaped w ++ 34 ∷ []) ++ r, refl)) in
    ⊎_elim
    (λ y. rw y (one_token b (λ r. r) p (outer, gap (with_atom l (tree.Str (encode_utf8_all w)))) (Quoted w) t h (λ r. refl) refl y))
    (λ y. rw y (no_fit text b (λ r. r) p (outer, gap (with_atom l (tree.Str (encode_utf8_all w)))) (Quoted w) rest t h refl refl y e))
    (cases_Bool (is_word (encode_utf8_all w)))

all_push : (p : ℕ → Bool) (xs : List ℕ) (c : ℕ) → list_all p xs ≡ true → p c ≡ true → list_all p (xs ++ c ∷ []) ≡ true
all_push p xs c h k = list_all-append p xs (c ∷ []) ∙ and_from _ _ h (and_from _ _ k refl)

-- within a word
word_steps : (text b : List ℕ) (d : ℕ) (w rest : List ℕ) (outer : List Level) (l : Level) (c : ℕ) → begins_name d ≡ true → list_all continues_name w ≡ true
    → Stands b (λ r. (d ∷ w) ++ r) (outer, gap (Begun l)) → text ≡ (b ++ d ∷ w) ++ c ∷ rest
    → Stepped text ((b ++ d ∷ w) ++ c ∷ []) (step_word outer l (bytes b) (d ∷ w) (bytes (b ++ d ∷ w)) c)
word_steps text b d w rest outer l c h hs s e =
    let p : State = (outer, gap (Begun l)) in
    ⊎_elim
    (λ y. rw y (
      b,
      d,
      w ++ c ∷ [],
      refl,
      append_assoc b (d ∷ w) (c ∷ []),
      refl,
      h,
      all_push continues_name w c hs y,
      restand b (λ r. (d ∷ w) ++ r) (λ r. (d ∷ (w ++ c ∷ [])) ++ r) p s (λ r. (c ∷ r, sym (append_assoc (d ∷ w) (c ∷ []) r))),
    ))
    (λ y. rw y (on_end text (b ++ d ∷ w) ((b ++ d ∷ w) ++ c ∷ []) (λ r. c ∷ r) outer (word_ended l (bytes b) (d ∷ w)) _
    (word_end text b d w rest (λ r. c ∷ r) outer l h hs (λ r. ap not y)
    (restand b (λ r. (d ∷ w) ++ r) (λ r. (d ∷ w) ++ c ∷ r) p s (λ r. (c ∷ r, refl))) (e ∙ append_assoc b (d ∷ w) (c ∷ rest)))
    (λ g t. gap_steps text (b ++ d ∷ w) rest outer g c t e)))
    (cases_Bool (continues_name c))

number_push : (v : Option ℕ) (ds : List ℕ) (c : ℕ) → number_value v (ds ++ c ∷ []) ≡ with_digit (number_value v ds) (c - 48)
number_push v [] c = refl
number_push v (d ∷ ds) c = number_push (with_digit v (d - 48)) ds c

-- within a number
number_steps : (text b : List ℕ) (d : ℕ) (ds rest : List ℕ) (outer : List Level) (l : Level) (hole : Bool) (c : ℕ) → is_ascii_digit d ≡ true → list_all is_ascii_digit ds ≡ true
    → Stands b (λ r. (d ∷ ds) ++ r) (outer, number_stop l hole) → text ≡ (b ++ d ∷ ds) ++ c ∷ rest
    → Stepped text ((b ++ d ∷ ds) ++ c ∷ []) (step_number outer l hole (bytes b) (number_value (Some (d - 48)) ds) (bytes (b ++ d ∷ ds)) c)
number_steps text b d ds rest outer l hole c h hs s e =
    let p : State = (outer, number_stop l hole) in
    ⊎_elim
    (λ y. rw y (
      b,
      d,
      ds ++ c ∷ [],
      append_assoc b (d ∷ ds) (c ∷ []),
      refl,
      h,
      all_push is_ascii_digit ds c hs y,
      sym (number_push (Some (d - 48)) ds c),
      restand b (λ r. (d ∷ ds) ++ r) (λ r. (d ∷ (ds ++ c ∷ [])) ++ r) p s (λ r. (c ∷ r, sym (append_assoc (d ∷ ds) (c ∷ []) r))),
    ))
    (λ y. rw y (on_end text (b ++ d ∷ ds) ((b ++ d ∷ ds) ++ c ∷ []) (λ r. c ∷ r) outer (number_ended l hole (bytes b) (number_value (Some (d - 48)) ds)) _
    (number_end text b d ds rest (λ r. c ∷ r) outer l hole h hs (λ r. ap not y)
    (restand b (λ r. (d ∷ ds) ++ r) (λ r. (d ∷ ds) ++ c ∷ r) p s (λ r. (c ∷ r, refl))) (e ∙ append_assoc b (d ∷ ds) (c ∷ rest)))
    (λ g t. gap_steps text (b ++ d ∷ ds) rest outer g c t e)))
    (cases_Bool (is_ascii_digit c))

-- a string may end
quotes_go : (b w : List ℕ) (outer : List Level) (l : Level) → list_all stays_on_line w ≡ true → Stands b (λ r. 34 ∷ r) (outer, gap (Begun l))
    → GoesOn (b ++ spelled (Quoted w))
quotes_go b w outer l h s =
    let p : State = (outer, gap (Begun l)) in
    let t = restand b (λ r. 34 ∷ r) (λ r. spelled (Quoted w) ++ r) p s (λ r. ((flat_map escaped w ++ 34 ∷ []) ++ r, refl)) in
    token_goes b (λ r. r) p (outer, gap (with_atom l (tree.Str (encode_utf8_all w)))) (Quoted w) [] t h refl refl

pub quotes_goes : (b w : List ℕ) (outer : List Level) (l : Level) → list_all stays_on_line w ≡ true → Stands b (λ r. 34 ∷ r) (outer, gap (Begun l))
    → GoesOn (b ++ 34 ∷ flat_map escaped w)
quotes_goes b w outer l h s =
    let G : List ℕ → Type 0 = GoesOn in
    goes_back (b ++ 34 ∷ flat_map escaped w) (34 ∷ []) (subst G (sym (append_assoc b (34 ∷ flat_map escaped w) (34 ∷ []))) (quotes_go b w outer l h s))

-- reading comes into a string
pub comes_in : (b w more : List ℕ) (outer : List Level) (l : Level) → list_all stays_on_line w ≡ true → Stands b (λ r. 34 ∷ r) (outer, gap (Begun l))
    → (at : ℕ) × (read_on (bytes (b ++ 34 ∷ (flat_map escaped w ++ more))) start (b ++ 34 ∷ (flat_map escaped w ++ more))
    ≡ read_on (bytes (b ++ 34 ∷ (flat_map escaped w ++ more))) (reader_at outer (InQuotes l at w)) more)
comes_in b w more outer l h s =
    let total = bytes (b ++ 34 ∷ (flat_map escaped w ++ more)) in
    (_, comes b (λ r. 34 ∷ r) (outer, gap (Begun l)) s (flat_map escaped w ++ more) ∙ in_quotes total outer l (total - bytes (34 ∷ (flat_map escaped w ++ more))) [] w more h)

fails_at : (text cs b w mark rest : List ℕ) (outer : List Level) (l : Level) (c : ℕ) → list_all stays_on_line w ≡ true → Stands b (λ r. 34 ∷ r) (outer, gap (Begun l))
    → cs ≡ b ++ 34 ∷ (flat_map escaped w ++ mark) → text ≡ cs ++ c ∷ rest → GoesOn cs
    → ((total at : ℕ) (other : List ℕ) → (place : ℕ) × (read_on total (reader_at outer (InQuotes l at w)) (mark ++ c ∷ other) ≡ Err (Syntax place)))
    → Found text (Syntax (bytes cs))
fails_at text cs b w mark rest outer l c h s i e g f = no_way text cs c rest e g (λ other.
    let same : cs ++ c ∷ other ≡ b ++ 34 ∷ (flat_map escaped w ++ (mark ++ c ∷ other)) =
    ap (λ x. x ++ c ∷ other) i ∙ append_assoc b (34 ∷ (flat_map escaped w ++ mark)) (c ∷ other) ∙ ap (λ x. b ++ 34 ∷ x) (append_assoc (flat_map escaped w) mark (c ∷ other)) in
    let came = comes_in b w (mark ++ c ∷ other) outer l h s in
    let bad = f (bytes (b ++ 34 ∷ (flat_map escaped w ++ (mark ++ c ∷ other)))) came.0 other in
    let P : List ℕ → Type 0 = λ x. (at : ℕ) × (read_on (bytes x) start x ≡ Err (Syntax at)) in
    subst P (sym same) (bad.0, came.1 ∙ bad.1))

-- one character more in a string
escaped_push : (w : List ℕ) (c : ℕ) → flat_map escaped (w ++ c ∷ []) ≡ flat_map escaped w ++ escaped c
escaped_push w c = flat_map-append escaped w (c ∷ []) ∙ ap (λ x. flat_map escaped w ++ x) (append-nil (escaped c))

plain_in : (c : ℕ) → (c == 34 || c == 92) ≡ false → escaped c ≡ c ∷ []
plain_in c h = rw h refl

marked_in : (c : ℕ) → (c == 34 || c == 92) ≡ true → escaped c ≡ 92 ∷ c ∷ []
marked_in c h = rw h refl

marked_stays : (c : ℕ) → (c == 34 || c == 92) ≡ true → stays_on_line c ≡ true
marked_stays c h =
    let P : ℕ → Type 0 = λ x. stays_on_line x ≡ true in
    ⊎_elim (λ e. subst P (sym (eqb-true c 34 e)) refl) (λ e. subst P (sym (eqb-true c 92 e)) refl) (or_cases (c == 34) (c == 92) h)

-- within quotes
quotes_steps : (text b w rest : List ℕ) (outer : List Level) (l : Level) (c : ℕ) → list_all stays_on_line w ≡ true
    → Stands b (λ r. 34 ∷ r) (outer, gap (Begun l)) → text ≡ (b ++ 34 ∷ flat_map escaped w) ++ c ∷ rest
    → Stepped text ((b ++ 34 ∷ flat_map escaped w) ++ c ∷ []) (step_quotes outer l (bytes b) w (bytes (b ++ 34 ∷ flat_map escaped w)) c)
quotes_steps text b w rest outer l c h s e =
    let cs = b ++ 34 ∷ flat_map escaped w in
    let T : ℕ → Type 0 = λ x. text ≡ cs ++ x ∷ rest in
    ⊎_elim (λ y.
    let P : ℕ → Type 0 = λ x. Stepped text (cs ++ x ∷ []) (on_ended (string_ended l (bytes b) w) (λ g. Ok (reader_at outer (Between g)))) in
    let is = eqb-true c 34 y in
    let Q : List ℕ → Type 0 = λ x. Stepped text x (on_ended (string_ended l (bytes b) w) (λ g. Ok (reader_at outer (Between g)))) in
    rw y (subst P (sym is) (subst Q (sym (append_assoc b (34 ∷ flat_map escaped w) (34 ∷ [])))
    (on_end text (b ++ spelled (Quoted w)) (b ++ spelled (Quoted w)) (λ r. r) outer (string_ended l (bytes b) w) _
    (string_end text b w rest outer l h s (subst T is e ∙ append_assoc b (34 ∷ flat_map escaped w) (34 ∷ rest) ∙ ap (λ x. b ++ 34 ∷ x) (sym (append_assoc (flat_map escaped w) (34 ∷ []) rest))))
    (λ g t. t)))))
    (λ n. rw n (⊎_elim (λ y.
    let P : ℕ → Type 0 = λ x. StandsAt (cs ++ x ∷ []) outer (InEscape l (bytes b) w) in
    rw y (subst P (sym (eqb-true c 92 y)) (b, append_assoc b (34 ∷ flat_map escaped w) (92 ∷ []), refl, h, s)))
    (λ m. rw m (⊎_elim (λ y.
    let is = eqb-true c 10 y in
    rw y (fails_at text cs b w [] rest outer l 10 h s (ap (λ x. b ++ 34 ∷ x) (sym (append-nil (flat_map escaped w)))) (subst T is e)
    (quotes_goes b w outer l h s)
    (λ total at other. (_, refl))))
    (λ k. rw k (
      b,
      append_assoc b (34 ∷ flat_map escaped w) (c ∷ []) ∙ ap (λ x. b ++ 34 ∷ x) (ap (λ x. flat_map escaped w ++ x) (sym (plain_in c (or_from (c == 34) (c == 92) n m))) ∙ sym (escaped_push w c)),
      refl,
      all_push stays_on_line w c h (ap not k),
      s,
    ))
    (cases_Bool (c == 10)))) (cases_Bool (c == 92)))) (cases_Bool (c == 34))

pub escape_goes : (b w : List ℕ) (outer : List Level) (l : Level) → list_all stays_on_line w ≡ true → Stands b (λ r. 34 ∷ r) (outer, gap (Begun l))
    → GoesOn (b ++ 34 ∷ (flat_map escaped w ++ 92 ∷ []))
escape_goes b w outer l h s =
    let fm = flat_map escaped w in
    let cs = b ++ 34 ∷ (fm ++ 92 ∷ []) in
    let G : List ℕ → Type 0 = GoesOn in
    let all = quotes_go b (w ++ 34 ∷ []) outer l (all_push stays_on_line w 34 h refl) s in
    let same : b ++ 34 ∷ (flat_map escaped (w ++ 34 ∷ []) ++ 34 ∷ []) ≡ cs ++ 34 ∷ 34 ∷ [] =
    ap (λ x. b ++ 34 ∷ (x ++ 34 ∷ [])) (escaped_push w 34) ∙ ap (λ x. b ++ 34 ∷ x) (append_assoc fm (92 ∷ 34 ∷ []) (34 ∷ []) ∙ sym (append_assoc fm (92 ∷ []) (34 ∷ 34 ∷ [])))
    ∙ sym (append_assoc b (34 ∷ (fm ++ 92 ∷ [])) (34 ∷ 34 ∷ [])) in
    goes_back cs (34 ∷ 34 ∷ []) (subst G same all)

-- behind a backslash
escape_steps : (text b w rest : List ℕ) (outer : List Level) (l : Level) (c : ℕ) → list_all stays_on_line w ≡ true
    → Stands b (λ r. 34 ∷ r) (outer, gap (Begun l)) → text ≡ (b ++ 34 ∷ (flat_map escaped w ++ 92 ∷ [])) ++ c ∷ rest
    → Stepped text ((b ++ 34 ∷ (flat_map escaped w ++ 92 ∷ [])) ++ c ∷ []) (step_escape outer l (bytes b) w (bytes (b ++ 34 ∷ (flat_map escaped w ++ 92 ∷ []))) c)
escape_steps text b w rest outer l c h s e =
    let fm = flat_map escaped w in
    let cs = b ++ 34 ∷ (fm ++ 92 ∷ []) in
    ⊎_elim
    (λ y. rw y (
      b,
      append_assoc b (34 ∷ (fm ++ 92 ∷ [])) (c ∷ []) ∙ ap (λ x. b ++ 34 ∷ x) (append_assoc fm (92 ∷ []) (c ∷ []) ∙ ap (λ x. fm ++ x) (sym (marked_in c y)) ∙ sym (escaped_push w c)),
      refl,
      all_push stays_on_line w c h (marked_stays c y),
      s,
    ))
    (λ n. rw n (fails_at text cs b w (92 ∷ []) rest outer l c h s refl e (escape_goes b w outer l h s) (λ total at other. (total - bytes (c ∷ other), rw n refl))))
    (cases_Bool (c == 34 || c == 92))

-- one step of the reader
pub steps : (text cs rest : List ℕ) (outer : List Level) (here : Here) (c : ℕ) → StandsAt cs outer here → text ≡ cs ++ c ∷ rest
    → Stepped text (cs ++ c ∷ []) (step_at outer here (bytes cs) c)
steps text cs rest outer (Between g) c s e = gap_steps text cs rest outer g c (restand cs (λ r. r) (λ r. c ∷ r) (outer, gap g) s (λ r. (c ∷ r, refl))) e
steps text cs rest outer (Asked l) c s e = asked_steps text cs rest outer l c (restand cs (λ r. r) (λ r. c ∷ r) (outer, asked l) s (λ r. (c ∷ r, refl))) e
steps text cs rest outer (InWord l from w) c s e =
    let b = s.0 in
    let v = s.1 ∷ s.2 in
    let parts : cs ≡ b ++ v = s.4 ∙ ap (λ x. b ++ x) s.3 in
    let A : List ℕ → Type 0 = λ x. Stands b (λ r. x ++ r) (outer, gap (Begun l)) in
    let P : List ℕ → Type 0 = λ x. Stepped text (x ++ c ∷ []) (step_word outer l (bytes b) v (bytes x) c) in
    let Q : ℕ → Type 0 = λ x. Stepped text (cs ++ c ∷ []) (step_word outer l x v (bytes cs) c) in
    let R : List ℕ → Type 0 = λ x. Stepped text (cs ++ c ∷ []) (step_word outer l from x (bytes cs) c) in
    subst R (sym s.3) (subst Q (sym s.5) (subst P (sym parts)
    (word_steps text b s.1 s.2 rest outer l c s.6 s.7 (subst A s.3 s.8) (e ∙ ap (λ x. x ++ c ∷ rest) parts))))
steps text cs rest outer (InNumber l hole from v) c s e =
    let b = s.0 in
    let P : List ℕ → Type 0 = λ x. Stepped text (x ++ c ∷ []) (step_number outer l hole (bytes b) (number_value (Some (s.1 - 48)) s.2) (bytes x) c) in
    let Q : ℕ → Type 0 = λ x. Stepped text (cs ++ c ∷ []) (step_number outer l hole x (number_value (Some (s.1 - 48)) s.2) (bytes cs) c) in
    let R : Option ℕ → Type 0 = λ x. Stepped text (cs ++ c ∷ []) (step_number outer l hole from x (bytes cs) c) in
    subst R (sym s.7) (subst Q (sym s.4) (subst P (sym s.3)
    (number_steps text b s.1 s.2 rest outer l hole c s.5 s.6 s.8 (e ∙ ap (λ x. x ++ c ∷ rest) s.3))))
steps text cs rest outer (InQuotes l from w) c s e =
    let b = s.0 in
    let P : List ℕ → Type 0 = λ x. Stepped text (x ++ c ∷ []) (step_quotes outer l (bytes b) w (bytes x) c) in
    let Q : ℕ → Type 0 = λ x. Stepped text (cs ++ c ∷ []) (step_quotes outer l x w (bytes cs) c) in
    subst Q (sym s.2) (subst P (sym s.1) (quotes_steps text b w rest outer l c s.3 s.4 (e ∙ ap (λ x. x ++ c ∷ rest) s.1)))
steps text cs rest outer (InEscape l from w) c s e =
    let b = s.0 in
    let P : List ℕ → Type 0 = λ x. Stepped text (x ++ c ∷ []) (step_escape outer l (bytes b) w (bytes x) c) in
    let Q : ℕ → Type 0 = λ x. Stepped text (cs ++ c ∷ []) (step_escape outer l x w (bytes cs) c) in
    subst Q (sym s.2) (subst P (sym s.1) (escape_steps text b w rest outer l c s.3 s.4 (e ∙ ap (λ x. x ++ c ∷ rest) s.1)))
