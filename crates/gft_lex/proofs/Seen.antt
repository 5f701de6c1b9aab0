-- What is seen at a place, by cases.
use Rattle.std.proofs.Common.{◌≡◌, ◌≢◌, ℕ, suc, ◌+◌, ◌≤◌, Bool, true, false, not, ◌&&◌, ◌==◌, List, [], ◌∷◌, length, take, Option, Some, None, cond, refl, sym, ap, ◌∙◌, arith, subst, option_map, add-one}
use Rattle.std.specs.Char.{is_whitespace}
use Rattle.std.specs.List.{prefix_len, list_all}
use Rattle.std.proofs.lemmas.Bool.{cond_both, and_parts, and_from, not_from_false, eqb-true, eqb-false}
use Rattle.std.proofs.lemmas.List.{length-take-le}
use Rattle.gft_core.specs.Names.{begins_name, continues_name, spells_name}
use Rattle.gft_syntax.specs.declared.token.Symbol.{Symbol as Sign}
use Rattle.gft_model.specs.Source.{is_digit}
use Rattle.gft_lex.specs.declared.sight.Sight.{Sight}
use Rattle.gft_lex.specs.declared.sight.Sight.TheVariants.{Blank, OpenComment, Number, Quote, Symbol, Word, Nothing}
use Rattle.gft_lex.specs.Lexemes.{block_on, line_length}
use Rattle.gft_lex.specs.Sights.{comment_of, block_of, long_symbol_of, name_of, short_symbol_of, short_symbol_in, or_else, token_of, sight_of, IsWithin}
use Rattle.gft_lex.specs.Spellings.{symbol_in}
use Rattle.gft_lex.proofs.Lengths.{within, prefix_passes}

-- a comment
pub data IsComment (c : ℕ) (ds : List ℕ) : Sight → Type 0 where
  line : {es : List ℕ} → c ≡ 45 → ds ≡ 45 ∷ es → IsComment c ds (Blank (line_length es + 2))
  block : {es : List ℕ} {n : ℕ} → c ≡ 123 → ds ≡ 45 ∷ es → block_on 0 false es ≡ Some n → IsComment c ds (Blank (n + 2))
  open_block : {es : List ℕ} → c ≡ 123 → ds ≡ 45 ∷ es → block_on 0 false es ≡ None → IsComment c ds OpenComment

-- what no token before a symbol begins with
pub record IsOther (c : ℕ) : Type 0 where
  pub digit : is_digit c ≡ false
  pub quote : c ≢ 34

-- a token
pub data IsToken (c : ℕ) (ds : List ℕ) : Sight → Type 0 where
  digits : is_digit c ≡ true → IsToken c ds (Number (prefix_len is_digit ds + 1))
  quote : is_digit c ≡ false → c ≡ 34 → IsToken c ds Quote
  pair : {d : ℕ} {es : List ℕ} {s : Sign} → IsOther c → ds ≡ d ∷ es → symbol_in (c ∷ d ∷ []) ≡ Some s → IsToken c ds (Symbol s 2)
  name : IsOther c → long_symbol_of c ds ≡ None → begins_name c ≡ true → (c == 95 && prefix_len continues_name ds == 0) ≡ false
      → IsToken c ds (Word (prefix_len continues_name ds + 1))
  single : {s : Sign} → IsOther c → long_symbol_of c ds ≡ None → name_of c ds ≡ None → symbol_in (c ∷ []) ≡ Some s
      → IsToken c ds (Symbol s 1)
  nothing : IsOther c → long_symbol_of c ds ≡ None → name_of c ds ≡ None → symbol_in (c ∷ []) ≡ None → IsToken c ds Nothing

-- white space, a comment or a token
pub data IsSeen (cs : List ℕ) : Sight → Type 0 where
  none : cs ≡ [] → IsSeen cs Nothing
  white : {c : ℕ} {ds : List ℕ} → cs ≡ c ∷ ds → is_whitespace c ≡ true → IsSeen cs (Blank 1)
  comment : {c : ℕ} {ds : List ℕ} {s : Sight} → cs ≡ c ∷ ds → is_whitespace c ≡ false → IsComment c ds s → IsSeen cs s
  token : {c : ℕ} {ds : List ℕ} {s : Sight} → cs ≡ c ∷ ds → is_whitespace c ≡ false → comment_of c ds ≡ None → IsToken c ds s
      → IsSeen cs s

or_else_both : (o : Option Sight) (other : Sight) (P : Sight → Type 0) → ((s : Sight) → o ≡ Some s → P s)
    → (o ≡ None → P other) → P (or_else o other)
or_else_both None other P f g = g refl
or_else_both (Some s) other P f g = f s refl

block_case : (c : ℕ) (ds es : List ℕ) → c ≡ 123 → ds ≡ 45 ∷ es → (o : Option ℕ) → block_on 0 false es ≡ o
    → IsComment c ds (block_of o)
block_case c ds es e f None h = open_block e f h
block_case c ds es e f (Some n) h = block e f h

comment_case : (c : ℕ) (ds : List ℕ) (s : Sight) → comment_of c ds ≡ Some s → IsComment c ds s
comment_case c [] s h = absurd (cc)
comment_case c (d ∷ es) s h =
    let P : Option Sight → Type 0 = λ o. o ≡ Some s → IsComment c (d ∷ es) s in
    cond_both (c == 45 && d == 45) (Some (Blank (line_length es + 2)))
    (cond (c == 123 && d == 45) (Some (block_of (block_on 0 false es))) None) P
    (λ e q. let p = and_parts _ _ e in
    subst (IsComment c (d ∷ es)) (cc) (line {es = es} (eqb-true c 45 p.0) (ap (λ x. x ∷ es) (eqb-true d 45 p.1))))
    (λ e. cond_both (c == 123 && d == 45) (Some (block_of (block_on 0 false es))) None P
    (λ f q. let p = and_parts _ _ f in
    subst (IsComment c (d ∷ es)) (cc)
    (block_case c (d ∷ es) es (eqb-true c 123 p.0) (ap (λ x. x ∷ es) (eqb-true d 45 p.1)) _ refl))
    (λ f q. absurd (cc))) h

pair_found : (c d : ℕ) (es : List ℕ) (s : Sight) → IsOther c → (f : Option Sign) → symbol_in (c ∷ d ∷ []) ≡ f
    → option_map (λ s. Symbol s 2) f ≡ Some s
    → IsToken c (d ∷ es) s
pair_found c d es s o None e h = absurd (cc)
pair_found c d es s o (Some t) e h = subst (IsToken c (d ∷ es)) (cc) (pair {s = t} o refl e)

pair_case : (c : ℕ) (ds : List ℕ) (s : Sight) → IsOther c → long_symbol_of c ds ≡ Some s → IsToken c ds s
pair_case c [] s o h = absurd (cc)
pair_case c (d ∷ es) s o h = pair_found c d es s o (symbol_in (c ∷ d ∷ [])) refl h

name_case : (c : ℕ) (ds : List ℕ) (s : Sight) → IsOther c → long_symbol_of c ds ≡ None → name_of c ds ≡ Some s → IsToken c ds s
name_case c ds s o l h =
    let n = prefix_len continues_name ds in
    let P : Option Sight → Type 0 = λ o. o ≡ Some s → IsToken c ds s in
    cond_both (begins_name c) (cond (c == 95 && n == 0) None (Some (Word (n + 1)))) None P
    (λ b. cond_both (c == 95 && n == 0) None (Some (Word (n + 1))) P (λ e q. absurd (cc))
    (λ e q. subst (IsToken c ds) (cc) (name o l b e)))
    (λ b q. absurd (cc)) h

single_case : (c : ℕ) (ds : List ℕ) → IsOther c → long_symbol_of c ds ≡ None → name_of c ds ≡ None → (f : Option Sign)
    → symbol_in (c ∷ []) ≡ f
    → IsToken c ds (short_symbol_in f)
single_case c ds o l n None e = nothing o l n e
single_case c ds o l n (Some s) e = single o l n e

token_seen : (c : ℕ) (ds : List ℕ) → IsToken c ds (token_of c ds)
token_seen c ds =
    let rest = or_else (long_symbol_of c ds) (or_else (name_of c ds) (short_symbol_of c)) in
    cond_both (is_digit c) (Number (prefix_len is_digit ds + 1)) (cond (c == 34) Quote rest) (IsToken c ds) digits
    (λ d. cond_both (c == 34) Quote rest (IsToken c ds) (λ q. quote d (eqb-true c 34 q))
    (λ q. let o : IsOther c = record { digit = d; quote = eqb-false c 34 q } in
    or_else_both (long_symbol_of c ds) (or_else (name_of c ds) (short_symbol_of c)) (IsToken c ds) (λ s e. pair_case c ds s o e)
    (λ l. or_else_both (name_of c ds) (short_symbol_of c) (IsToken c ds) (λ s e. name_case c ds s o l e)
    (λ n. single_case c ds o l n (symbol_in (c ∷ [])) refl))))

pub seen : (cs : List ℕ) → IsSeen cs (sight_of cs)
seen [] = none refl
seen (c ∷ ds) =
    cond_both (is_whitespace c) (Blank 1) (or_else (comment_of c ds) (token_of c ds)) (IsSeen (c ∷ ds)) (white refl)
    (λ w. or_else_both (comment_of c ds) (token_of c ds) (IsSeen (c ∷ ds)) (λ s e. comment refl w (comment_case c ds s e))
    (λ e. token refl w e (token_seen c ds)))

-- what is seen has as many characters as there are
line_within : (cs : List ℕ) → line_length cs ≤ length cs
line_within cs = within (λ c. not (c == 10)) cs

block_within : (i : ℕ) (b : Bool) (cs : List ℕ) (n : ℕ) → block_on i b cs ≡ Some n → n ≤ i + length cs
block_within i b [] n e = absurd (cc)
block_within i b (c ∷ cs) n e =
    let P : Option ℕ → Type 0 = λ o. o ≡ Some n → n ≤ i + suc (length cs) in
    cond_both (b && c == 125) (Some (i + 1)) (block_on (i + 1) (c == 45) cs) P
    (λ t q. let f : i + 1 ≡ n = cc in omega (arith, f))
    (λ t q. let f = block_within (i + 1) (c == 45) cs n q in omega (arith, f)) e

pub comment_within : (c : ℕ) (ds : List ℕ) (s : Sight) → IsComment c ds s → IsWithin (c ∷ ds) s
comment_within c ds _ (line {es = es} e f) = let l = line_within es in let n = ap length f in (omega arith, omega (arith, l, n))
comment_within c ds _ (block {es = es} {n = n} e f h) = let l = block_within 0 false es n h in let k = ap length f in
    (omega arith, omega (arith, l, k))
comment_within c ds _ (open_block e f h) = tt

pub token_within : (c : ℕ) (ds : List ℕ) (s : Sight) → IsToken c ds s → IsWithin (c ∷ ds) s
token_within c ds _ (digits d) = let l = within is_digit ds in (omega arith, omega (arith, l))
token_within c ds _ (quote d q) = tt
token_within c ds _ (pair o e h) = let n = ap length e in (omega arith, omega (arith, n))
token_within c ds _ (name o l b e) = let w = within continues_name ds in (omega arith, omega (arith, w))
token_within c ds _ (single o l n h) = (omega arith, omega arith)
token_within c ds _ (nothing o l n h) = tt

seen_within : (cs : List ℕ) (s : Sight) → IsSeen cs s → IsWithin cs s
seen_within cs _ (none e) = tt
seen_within cs _ (white e w) = let n = ap length e in (omega arith, omega (arith, n))
seen_within cs _ (comment {c = c} {ds = ds} {s = s} e w k) = subst (λ cs. IsWithin cs s) (sym e) (comment_within c ds s k)
seen_within cs _ (token {c = c} {ds = ds} {s = s} e w n k) = subst (λ cs. IsWithin cs s) (sym e) (token_within c ds s k)

pub sight_within : (cs : List ℕ) → IsWithin cs (sight_of cs)
sight_within cs = seen_within cs (sight_of cs) (seen cs)

-- a word is a name
names_front : (cs : List ℕ) → list_all continues_name (take (prefix_len continues_name cs) cs) ≡ true
names_front cs = prefix_passes continues_name cs

word_name : (c : ℕ) (ds : List ℕ) (n : ℕ) → begins_name c ≡ true → list_all continues_name (take n ds) ≡ true
    → (c == 95 && n == 0) ≡ false → n ≤ length ds
    → spells_name (c ∷ take n ds) ≡ true
word_name c ds n b l e w =
    let k : length (take n ds) ≡ n = length-take-le n ds w in
    and_from _ _ (and_from _ _ b l) (not_from_false _ (ap (λ m. c == 95 && m == 0) k ∙ e))

pub token_word : (c : ℕ) (ds : List ℕ) (n : ℕ) → IsToken c ds (Word n) → spells_name (take n (c ∷ ds)) ≡ true
token_word c ds _ (name o l b e) = let n = prefix_len continues_name ds in
    ap (λ m. spells_name (take m (c ∷ ds))) (add-one n) ∙ word_name c ds n b (names_front ds) e (within continues_name ds)

comment_word : (c : ℕ) (ds : List ℕ) (n : ℕ) → IsComment c ds (Word n) → ⊥
comment_word c ds n k = elim k [ ]

seen_word : (cs : List ℕ) (n : ℕ) → IsSeen cs (Word n) → spells_name (take n cs) ≡ true
seen_word cs n (comment {c = c} {ds = ds} e w k) = absurd (comment_word c ds n k)
seen_word cs n (token {c = c} {ds = ds} e w m k) = ap (λ cs. spells_name (take n cs)) e ∙ token_word c ds n k

pub sight_word : (cs : List ℕ) (n : ℕ) → sight_of cs ≡ Word n → spells_name (take n cs) ≡ true
sight_word cs n e = seen_word cs n (subst (IsSeen cs) e (seen cs))
