-- The reader over one token.
use Rattle.std.proofs.Common.{◌≡◌, ℕ, ◌-◌, ◌+◌, ◌*◌, ◌^◌, ◌≤◌, ◌<◌, Bool, true, false, not, ◌&&◌, ◌||◌, ◌==◌, nat_lt, if◌then◌else◌, List, [], ◌∷◌, ◌++◌, length, ap, sym, ◌∙◌, subst, refl, Result, Ok, Err, Option, None, Some, arith, append_assoc, append-nil, ⊎_elim}
use Rattle.std.specs.Prelude.{encode_utf8_all, flat_map}
use Rattle.std.specs.Char.{is_ascii_digit, digit_value}
use Rattle.std.specs.List.{list_all}
use Rattle.std.specs.Str.Parse.{digits_value, digits_value_after}
use Rattle.std.proofs.lemmas.Str.{digit_value_digit}
use Rattle.std.proofs.lemmas.Bool.{and_parts, and_right, false≢true, not-true, ltb-true, ltb-false, lt-ltb, le-ltb, eqb-true, eqb-false, leb-true, cases_Bool, or_parts}
use Rattle.gft_core.specs.declared.tree.Tree.{Tree}
use Rattle.gft_core.specs.declared.tree.Tree.TheVariants as tree
use Rattle.gft_core.specs.Names.{begins_name, continues_name, spells_name}
use Rattle.gft_core.specs.Words.{is_word}
use Rattle.gft_tree.specs.declared.error.TreeErr.{TreeErr}
use Rattle.gft_tree.specs.declared.error.TreeErr.TheVariants.{Syntax, BadLiteral}
use Rattle.gft_tree.specs.declared.level.Level.{Level}
use Rattle.gft_tree.specs.declared.level.Level.TheVariants.{Empty, Call}
use Rattle.gft_tree.specs.declared.level.Gap.{Gap}
use Rattle.gft_tree.specs.declared.level.Gap.TheVariants.{Begun, Whole}
use Rattle.gft_tree.specs.declared.reader.Here.{Here}
use Rattle.gft_tree.specs.declared.reader.Here.TheVariants.{Between, Asked, InWord, InNumber, InQuotes}
use Rattle.gft_tree.specs.declared.reader.Reader.{Reader}
use Rattle.gft_tree.specs.Lexemes.{Lexeme, Word, Number, Quoted, Query, Open, Close, spelled, escaped, is_lexeme, ends_before, stops, stays_on_line}
use Rattle.gft_tree.specs.Spelling.{Context, is_canonical, is_in_range, fits}
use Rattle.gft_tree.specs.Faults.{bytes, misfit_of}
use Rattle.gft_tree.specs.Reading.{with_atom, with_name, with_digit, tree_of, reader_at, step_begun, step_asked, word_ended, number_ended, string_ended, read_on, on_step, on_gap, on_ended}
use Rattle.gft_tree.proofs.ClassLemmas.{begins_plain, begins_no_digit, digit_plain}

-- a place between two tokens
pub data Stop : Type 0 where
  gap : Gap → Stop
  asked : Level → Stop

abbrev pub here_of : Stop → Here
here_of (gap g) = Between g
here_of (asked l) = Asked l

-- the same, of one token after another
abbrev pub State : Type 0
State = List Level × Stop

abbrev pub reader_of : State → Reader
reader_of p = reader_at p.0 (here_of p.1)

abbrev pub fed_close : List Level → Option Tree → Option State
fed_close outer None = None
fed_close [] (Some t) = None
fed_close (l ∷ outer) (Some t) = Some (outer, gap (with_atom l t))

abbrev pub fed_begun : List Level → Level → Lexeme → Option State
fed_begun outer l (Word w) = Some (outer, gap (with_name l (encode_utf8_all w)))
fed_begun outer l (Number ds) = Some (outer, gap (with_atom l (tree.Int (digits_value 10 ds))))
fed_begun outer l (Quoted w) = Some (outer, gap (with_atom l (tree.Str (encode_utf8_all w))))
fed_begun outer l Query = Some (outer, asked l)
fed_begun outer l Open = Some (l ∷ outer, gap (Begun Empty))
fed_begun outer l Close = fed_close outer (tree_of (Begun l))

abbrev pub fed_whole : List Level → Tree → Lexeme → Option State
fed_whole outer t (Word w) = None
fed_whole outer t (Number ds) = None
fed_whole outer t (Quoted w) = None
fed_whole outer t Query = None
fed_whole outer t Open = None
fed_whole outer t Close = fed_close outer (Some t)

abbrev pub fed_asked : List Level → Level → Lexeme → Option State
fed_asked outer l (Word w) = None
fed_asked outer l (Number ds) = Some (outer, gap (with_atom l (tree.Hole (digits_value 10 ds))))
fed_asked outer l (Quoted w) = None
fed_asked outer l Query = None
fed_asked outer l Open = None
fed_asked outer l Close = None

-- what a token makes of a place between two tokens, where one may stand
abbrev pub fed : List Level → Stop → Lexeme → Option State
fed outer (gap (Begun l)) t = fed_begun outer l t
fed outer (gap (Whole s)) t = fed_whole outer s t
fed outer (asked l) t = fed_asked outer l t

abbrev pub is_asked : Stop → Bool
is_asked (gap g) = false
is_asked (asked l) = true

abbrev pub context_of : List Level → Stop → Context
context_of outer stop = record { behind_query = is_asked stop; opened = length outer }

-- what is read where a token stands
abbrev pub behind : ℕ → List ℕ → Lexeme → Bool → Option State → Result Tree TreeErr
behind total more t fit None = Err (Syntax (total - bytes (spelled t ++ more)))
behind total more t fit (Some p) = if fit then read_on total (reader_of p) more else Err (misfit_of t (total - bytes (spelled t ++ more)))

-- what ends, and then the rest
abbrev pub ended : ℕ → List Level → Result Gap TreeErr → List ℕ → Result Tree TreeErr
ended total outer r more = on_gap r (λ g. read_on total (reader_at outer (Between g)) more)

fuse : (r : Result Gap TreeErr) (f : Gap → Result Reader TreeErr) (k : Reader → Result Tree TreeErr) → on_step (on_ended r f) k ≡ on_gap r (λ g. on_step (f g) k)
fuse (Ok g) f k = refl
fuse (Err e) f k = refl

-- WORDS

-- a word goes on as far as its characters do
pub in_word : (total : ℕ) (outer : List Level) (l : Level) (s : ℕ) (w cs more : List ℕ) → list_all continues_name cs ≡ true
    → read_on total (reader_at outer (InWord l s w)) (cs ++ more) ≡ read_on total (reader_at outer (InWord l s (w ++ cs))) more
in_word total outer l s w [] more h = ap (λ v. read_on total (reader_at outer (InWord l s v)) more) (sym (append-nil w))
in_word total outer l s w (c ∷ cs) more h =
    let p = and_parts (continues_name c) (list_all continues_name cs) h in
    rw p.0 (in_word total outer l s (w ++ c ∷ []) cs more p.1 ∙ ap (λ v. read_on total (reader_at outer (InWord l s v)) more) (append_assoc w (c ∷ []) cs))

-- and ends where none goes on
pub out_of_word : (total : ℕ) (outer : List Level) (l : Level) (s : ℕ) (w more : List ℕ) → stops continues_name more ≡ true
    → read_on total (reader_at outer (InWord l s w)) more ≡ ended total outer (word_ended l s w) more
out_of_word total outer l s w [] h = refl
out_of_word total outer l s w (c ∷ cs) h = rw (not-true (continues_name c) h) (fuse (word_ended l s w) _ _)

-- the first character of a word
pub begins_word : (outer : List Level) (l : Level) (at c : ℕ) → begins_name c ≡ true
    → step_begun outer l at c ≡ Ok (reader_at outer (InWord l at (c ∷ [])))
begins_word outer l at c h =
    let p = begins_plain c h in
    simp (p.space, p.opening, p.closing, p.quote, p.query, begins_no_digit c h, h) refl

-- a word
pub whole_word : (total : ℕ) (outer : List Level) (l : Level) (w more : List ℕ) → spells_name w ≡ true → stops continues_name more ≡ true
    → read_on total (reader_at outer (Between (Begun l))) (w ++ more) ≡ read_on total (reader_at outer (Between (with_name l (encode_utf8_all w)))) more
whole_word total outer l [] more h n = absurd (false≢true h)
whole_word total outer l (c ∷ cs) more h n =
    let p = and_parts _ _ h in
    let q = and_parts (begins_name c) (list_all continues_name cs) p.0 in
    let at = total - bytes (c ∷ (cs ++ more)) in
    ap (λ r. on_step r (λ next. read_on total next (cs ++ more))) (begins_word outer l at c q.0)
    ∙ in_word total outer l at (c ∷ []) cs more q.1
    ∙ out_of_word total outer l at (c ∷ cs) more n
    ∙ ap (λ (b : Bool). ended total outer (if b then Ok (with_name l (encode_utf8_all (c ∷ cs))) else Err (Syntax at)) more) h

-- NUMBERS

-- the value of a number whose digits go on
abbrev pub number_value : Option ℕ → List ℕ → Option ℕ
number_value v [] = v
number_value v (d ∷ ds) = number_value (with_digit v (d - 48)) ds

pub in_number : (total : ℕ) (outer : List Level) (l : Level) (hole : Bool) (s : ℕ) (v : Option ℕ) (ds more : List ℕ) → list_all is_ascii_digit ds ≡ true
    → read_on total (reader_at outer (InNumber l hole s v)) (ds ++ more) ≡ read_on total (reader_at outer (InNumber l hole s (number_value v ds))) more
in_number total outer l hole s v [] more h = refl
in_number total outer l hole s v (d ∷ ds) more h =
    let p = and_parts (is_ascii_digit d) (list_all is_ascii_digit ds) h in
    rw p.0 (in_number total outer l hole s (with_digit v (d - 48)) ds more p.1)

pub out_of_number : (total : ℕ) (outer : List Level) (l : Level) (hole : Bool) (s : ℕ) (v : Option ℕ) (more : List ℕ) → stops is_ascii_digit more ≡ true
    → read_on total (reader_at outer (InNumber l hole s v)) more ≡ ended total outer (number_ended l hole s v) more
out_of_number total outer l hole s v [] h = refl
out_of_number total outer l hole s v (c ∷ cs) h = rw (not-true (is_ascii_digit c) h) (fuse (number_ended l hole s v) _ _)

digit_is : (d : ℕ) → is_ascii_digit d ≡ true → digit_value d ≡ d - 48
digit_is d h =
    let p = and_parts _ _ h in
    let lo = leb-true 48 d p.0 in
    let hi = leb-true d 57 p.1 in
    let e = digit_value_digit d (lo, hi) in
    omega (arith, e)

value_ge : (n : ℕ) (ds : List ℕ) → n ≤ digits_value_after 10 n ds
value_ge n [] = omega arith
value_ge n (d ∷ ds) = let h = value_ge (n * 10 + digit_value d) ds in omega (arith, h)

none_stays : (ds : List ℕ) → number_value None ds ≡ None
none_stays [] = refl
none_stays (d ∷ ds) = none_stays ds

-- as long as it is below 2 ^ 128, the value is kept
value_kept : (n : ℕ) (ds : List ℕ) → 0 < n → n < 2 ^ 128 → list_all is_ascii_digit ds ≡ true
    → number_value (Some n) ds ≡ (if nat_lt (digits_value_after 10 n ds) (2 ^ 128) then Some (digits_value_after 10 n ds) else None)
value_kept n [] lo hi h = rw (lt-ltb n (2 ^ 128) hi) refl
value_kept n (d ∷ ds) lo hi h =
    let p = and_parts (is_ascii_digit d) (list_all is_ascii_digit ds) h in
    let e = digit_is d p.0 in
    let m = n * 10 + (d - 48) in
    let up : 0 < m = omega (arith, lo) in
    rw (e, lt-ltb 0 n lo) (⊎_elim
    (λ fits. let k = ltb-true m (2 ^ 128) fits in rw fits (value_kept m ds up k p.1))
    (λ over. let big = ltb-false m (2 ^ 128) over in let more = value_ge m ds in
    rw (over, le-ltb (digits_value_after 10 m ds) (2 ^ 128) (omega (arith, big, more))) (none_stays ds))
    (cases_Bool (nat_lt m (2 ^ 128))))

abbrev pub literal : Bool → ℕ → Tree
literal false n = tree.Int n
literal true n = tree.Hole n

-- what a number is where its value was kept
ended_value : (l : Level) (hole : Bool) (s n : ℕ)
    → number_ended l hole s (if nat_lt n (2 ^ 128) then Some n else None) ≡ (if is_in_range hole n then Ok (with_atom l (literal hole n)) else Err (BadLiteral s))
ended_value l false s n =
    elim (nat_lt n (2 ^ 128)) as (λ b. number_ended l false s (if b then Some n else None) ≡ (if b then Ok (with_atom l (tree.Int n)) else Err (BadLiteral s))) [ true ↦ refl | false ↦ refl ]
ended_value l true s n = ⊎_elim
    (λ fits. rw fits refl)
    (λ over. let big = ltb-false n (2 ^ 128) over in rw (over, le-ltb n (2 ^ 32) (omega (arith, big)), and_right (nat_lt 0 n) false refl) refl)
    (cases_Bool (nat_lt n (2 ^ 128)))

-- the value of all digits
digits_kept : (d : ℕ) (ds : List ℕ) → (d == 48) ≡ false → is_ascii_digit d ≡ true → list_all is_ascii_digit ds ≡ true
    → number_value (Some (d - 48)) ds ≡ (if nat_lt (digits_value 10 (d ∷ ds)) (2 ^ 128) then Some (digits_value 10 (d ∷ ds)) else None)
digits_kept d ds z h hs =
    let p = and_parts _ _ h in
    let lo = leb-true 48 d p.0 in
    let hi = leb-true d 57 p.1 in
    let n = eqb-false d 48 z in
    let e : 0 * 10 + digit_value d ≡ d - 48 = let f = digit_is d h in omega (arith, f) in
    rw e (value_kept (d - 48) ds (omega (arith, lo, n)) (omega (arith, hi)) hs)

-- digits that end
pub number_literal : (l : Level) (hole : Bool) (s d : ℕ) (ds : List ℕ) → is_ascii_digit d ≡ true → list_all is_ascii_digit ds ≡ true
    → number_ended l hole s (number_value (Some (d - 48)) ds)
    ≡ (if (is_canonical (d ∷ ds) && is_in_range hole (digits_value 10 (d ∷ ds))) then Ok (with_atom l (literal hole (digits_value 10 (d ∷ ds)))) else Err (BadLiteral s))
number_literal l hole s d [] h hs = ⊎_elim
    (λ zero. let e = eqb-true d 48 zero in
    let P : ℕ → Type 0 = λ x. number_ended l hole s (Some (x - 48)) ≡ (if (is_canonical (x ∷ []) && is_in_range hole (digits_value 10 (x ∷ []))) then Ok (with_atom l (literal hole (digits_value 10 (x ∷ [])))) else Err (BadLiteral s)) in
    subst P (sym e) (ended_value l hole s 0))
    (λ some. rw (digits_kept d [] some h hs) (ended_value l hole s (digits_value 10 (d ∷ []))))
    (cases_Bool (d == 48))
number_literal l hole s d (x ∷ xs) h hs = ⊎_elim
    (λ zero. let e = eqb-true d 48 zero in
    let P : ℕ → Type 0 = λ y. number_ended l hole s (number_value (Some (y - 48)) (x ∷ xs)) ≡ (if (is_canonical (y ∷ x ∷ xs) && is_in_range hole (digits_value 10 (d ∷ x ∷ xs))) then Ok (with_atom l (literal hole (digits_value 10 (d ∷ x ∷ xs)))) else Err (BadLiteral s)) in
    subst P (sym e) (ap (number_ended l hole s) (none_stays xs)))
    (λ some. let n = digits_value 10 (d ∷ x ∷ xs) in
    ap (number_ended l hole s) (digits_kept d (x ∷ xs) some h hs) ∙ ended_value l hole s n
    ∙ ap (λ (b : Bool). if (not b && is_in_range hole n) then Ok (with_atom l (literal hole n)) else Err (BadLiteral s)) (sym some))
    (cases_Bool (d == 48))

ended_if : (total : ℕ) (outer : List Level) (b : Bool) (g : Gap) (e : TreeErr) (more : List ℕ)
    → ended total outer (if b then Ok g else Err e) more ≡ (if b then read_on total (reader_at outer (Between g)) more else Err e)
ended_if total outer true g e more = refl
ended_if total outer false g e more = refl

-- the first digit of a number
pub begins_number : (outer : List Level) (l : Level) (at c : ℕ) → is_ascii_digit c ≡ true
    → step_begun outer l at c ≡ Ok (reader_at outer (InNumber l false at (Some (c - 48))))
begins_number outer l at c h =
    let p = digit_plain c h in
    simp (p.space, p.opening, p.closing, p.quote, p.query, h) refl

pub begins_hole : (outer : List Level) (l : Level) (at c : ℕ) → is_ascii_digit c ≡ true
    → step_asked outer l at c ≡ Ok (reader_at outer (InNumber l true at (Some (c - 48))))
begins_hole outer l at c h =
    let p = digit_plain c h in
    simp (p.space, h) refl

-- the digits of a number
rest_of_number : (total : ℕ) (outer : List Level) (l : Level) (hole : Bool) (s d : ℕ) (ds more : List ℕ)
    → is_ascii_digit d ≡ true → list_all is_ascii_digit ds ≡ true → stops is_ascii_digit more ≡ true
    → read_on total (reader_at outer (InNumber l hole s (Some (d - 48)))) (ds ++ more)
    ≡ (if (is_canonical (d ∷ ds) && is_in_range hole (digits_value 10 (d ∷ ds))) then read_on total (reader_at outer (Between (with_atom l (literal hole (digits_value 10 (d ∷ ds)))))) more else Err (BadLiteral s))
rest_of_number total outer l hole s d ds more h hs n =
    in_number total outer l hole s (Some (d - 48)) ds more hs
    ∙ out_of_number total outer l hole s (number_value (Some (d - 48)) ds) more n
    ∙ ap (λ r. ended total outer r more) (number_literal l hole s d ds h hs)
    ∙ ended_if total outer (is_canonical (d ∷ ds) && is_in_range hole (digits_value 10 (d ∷ ds))) _ _ more

-- STRINGS

pub in_quotes : (total : ℕ) (outer : List Level) (l : Level) (s : ℕ) (v w more : List ℕ) → list_all stays_on_line w ≡ true
    → read_on total (reader_at outer (InQuotes l s v)) (flat_map escaped w ++ more) ≡ read_on total (reader_at outer (InQuotes l s (v ++ w))) more
in_quotes total outer l s v [] more h = ap (λ u. read_on total (reader_at outer (InQuotes l s u)) more) (sym (append-nil v))
in_quotes total outer l s v (c ∷ w) more h =
    let p = and_parts (stays_on_line c) (list_all stays_on_line w) h in
    let go = in_quotes total outer l s (v ++ c ∷ []) w more p.1 ∙ ap (λ u. read_on total (reader_at outer (InQuotes l s u)) more) (append_assoc v (c ∷ []) w) in
    ⊎_elim
    (λ marked. rw marked (rw marked go))
    (λ plain. let q = or_parts (c == 34) (c == 92) plain in rw plain (rw (q.0, q.1, not-true (c == 10) p.0) go))
    (cases_Bool (c == 34 || c == 92))

pub out_of_quotes : (total : ℕ) (outer : List Level) (l : Level) (s : ℕ) (w more : List ℕ)
    → read_on total (reader_at outer (InQuotes l s w)) (34 ∷ more) ≡ ended total outer (string_ended l s w) more
out_of_quotes total outer l s w more = fuse (string_ended l s w) _ _

whole_string : (total : ℕ) (outer : List Level) (l : Level) (w more : List ℕ) → list_all stays_on_line w ≡ true
    → read_on total (reader_at outer (Between (Begun l))) (spelled (Quoted w) ++ more)
    ≡ (if is_word (encode_utf8_all w) then read_on total (reader_at outer (Between (with_atom l (tree.Str (encode_utf8_all w))))) more else Err (BadLiteral (total - bytes (spelled (Quoted w) ++ more))))
whole_string total outer l w more h =
    let s = total - bytes (spelled (Quoted w) ++ more) in
    ap (read_on total (reader_at outer (InQuotes l s []))) (append_assoc (flat_map escaped w) (34 ∷ []) more)
    ∙ in_quotes total outer l s [] w (34 ∷ more) h
    ∙ out_of_quotes total outer l s w more
    ∙ ended_if total outer (is_word (encode_utf8_all w)) _ _ more

-- TOKENS

step_if : (total : ℕ) (b : Bool) (r : Reader) (e : TreeErr) (more : List ℕ)
    → on_step (if b then Ok r else Err e) (λ next. read_on total next more) ≡ (if b then read_on total r more else Err e)
step_if total true r e more = refl
step_if total false r e more = refl

at_begun : (total : ℕ) (outer : List Level) (l : Level) (t : Lexeme) (more : List ℕ) → is_lexeme t ≡ true → ends_before t more ≡ true
    → read_on total (reader_at outer (Between (Begun l))) (spelled t ++ more) ≡ behind total more t (fits (context_of outer (gap (Begun l))) t) (fed_begun outer l t)
at_begun total outer l (Word w) more h n = whole_word total outer l w more h n
at_begun total outer l (Number []) more h n = absurd (false≢true h)
at_begun total outer l (Number (d ∷ ds)) more h n =
    let p = and_parts (is_ascii_digit d) (list_all is_ascii_digit ds) h in
    ap (λ r. on_step r (λ next. read_on total next (ds ++ more))) (begins_number outer l _ d p.0)
    ∙ rest_of_number total outer l false _ d ds more p.0 p.1 n
at_begun total outer l (Quoted w) more h n = whole_string total outer l w more h
at_begun total outer l Query more h n = refl
at_begun total outer l Open more h n = step_if total (nat_lt (length outer) 200) _ _ more
at_begun total outer Empty Close more h n = refl
at_begun total [] (Call f ts) Close more h n = refl
at_begun total (k ∷ outer) (Call f ts) Close more h n = refl

at_whole : (total : ℕ) (outer : List Level) (s : Tree) (t : Lexeme) (more : List ℕ) → is_lexeme t ≡ true
    → read_on total (reader_at outer (Between (Whole s))) (spelled t ++ more) ≡ behind total more t (fits (context_of outer (gap (Whole s))) t) (fed_whole outer s t)
at_whole total outer s (Word []) more h = absurd (false≢true h)
at_whole total outer s (Word (c ∷ cs)) more h =
    let p = begins_plain c (and_parts (begins_name c) (list_all continues_name cs) (and_parts _ _ h).0).0 in
    rw (p.space, p.closing) refl
at_whole total outer s (Number []) more h = absurd (false≢true h)
at_whole total outer s (Number (d ∷ ds)) more h =
    let p = digit_plain d (and_parts (is_ascii_digit d) (list_all is_ascii_digit ds) h).0 in
    rw (p.space, p.closing) refl
at_whole total outer s (Quoted w) more h = refl
at_whole total outer s Query more h = refl
at_whole total outer s Open more h = refl
at_whole total [] s Close more h = refl
at_whole total (k ∷ outer) s Close more h = refl

at_asked : (total : ℕ) (outer : List Level) (l : Level) (t : Lexeme) (more : List ℕ) → is_lexeme t ≡ true → ends_before t more ≡ true
    → read_on total (reader_at outer (Asked l)) (spelled t ++ more) ≡ behind total more t (fits (context_of outer (asked l)) t) (fed_asked outer l t)
at_asked total outer l (Word []) more h n = absurd (false≢true h)
at_asked total outer l (Word (c ∷ cs)) more h n =
    let q = (and_parts (begins_name c) (list_all continues_name cs) (and_parts _ _ h).0).0 in
    let p = begins_plain c q in
    rw (p.space, begins_no_digit c q) refl
at_asked total outer l (Number []) more h n = absurd (false≢true h)
at_asked total outer l (Number (d ∷ ds)) more h n =
    let p = and_parts (is_ascii_digit d) (list_all is_ascii_digit ds) h in
    ap (λ r. on_step r (λ next. read_on total next (ds ++ more))) (begins_hole outer l _ d p.0)
    ∙ rest_of_number total outer l true _ d ds more p.0 p.1 n
at_asked total outer l (Quoted w) more h n = refl
at_asked total outer l Query more h n = refl
at_asked total outer l Open more h n = refl
at_asked total outer l Close more h n = refl

-- reading goes over a token as it makes of the place before it the place behind it
pub over_token : (total : ℕ) (outer : List Level) (stop : Stop) (t : Lexeme) (more : List ℕ) → is_lexeme t ≡ true → ends_before t more ≡ true
    → read_on total (reader_of (outer, stop)) (spelled t ++ more) ≡ behind total more t (fits (context_of outer stop) t) (fed outer stop t)
over_token total outer (gap (Begun l)) t more h n = at_begun total outer l t more h n
over_token total outer (gap (Whole s)) t more h n = at_whole total outer s t more h
over_token total outer (asked l) t more h n = at_asked total outer l t more h n
