-- The text of a tree is read as the tree.
use Rattle.std.proofs.Common.{◌≡◌, ℕ, zero, suc, ◌+◌, ◌-◌, ◌^◌, ◌≤◌, ◌<◌, Bool, true, false, not, ◌||◌, ◌==◌, nat_lt, if◌then◌else◌, max, List, [], ◌∷◌, ◌++◌, map, ap, sym, ◌∙◌, subst, refl, arith, append-nil, ⊎_elim}
use Rattle.std.specs.Prelude.{encode_utf8_all, flat_map}
use Rattle.std.specs.Char.{is_not_whitespace}
use Rattle.std.specs.Fmt.{decimal}
use Rattle.std.specs.List.{list_all}
use Rattle.std.specs.Str.{chars, IsUtf8, IsAscii, is_utf8, all_scalars}
use Rattle.std.specs.Str.Parse.{digits_value}
use Rattle.std.proofs.lemmas.Bool.{and_parts, and_from, false≢true, lt-ltb, ltb-true, cases_Bool, false_from_ne_true, eqb-true}
use Rattle.std.proofs.lemmas.Fmt.{IsAscii-decimal_wide}
use Rattle.std.proofs.lemmas.List.Folds.{list_all-append}
use Rattle.std.proofs.lemmas.Str.{chars-nil, chars-append, chars-IsAscii, chars-encodes, encodes-chars, scalars-chars, IsUtf8-from_ascii, IsUtf8-append, IsUtf8-nil, IsUtf8-from_is_utf8}
use Rattle.gft_core.specs.declared.tree.Tree.{Tree, fold-Tree}
use Rattle.gft_core.specs.declared.tree.Tree.TheVariants as tree
use Rattle.gft_core.specs.Names.{is_name}
use Rattle.gft_core.specs.Words.{is_word}
use Rattle.gft_tree.specs.Lexemes.{Lexeme, Word, Number, Quoted, Query, Open, Close, Cut, done, space, token, spelled, escaped, is_lexeme, ends_before, stays_on_line}
use Rattle.gft_tree.specs.Grammar.{IsTree, IsAtom, AreAtoms, application, atom, name, number, string, hole, parentheses, none, more}
use Rattle.gft_tree.specs.Spelling.{Context, after, after_all, all_fit, fits, Spells}
use Rattle.gft_tree.specs.Faults.{IsRead}
use Rattle.gft_tree.specs.Trees.{Printed, printed, printed_step, text_of, quoted, as_argument, as_arguments, holes_of, holes_step, all_of, proper_step, all_true, IsProper, HasNumberedHoles, Nesting, nested, nesting_step, IsReadable}
use Rattle.gft_tree.proofs.DigitLemmas.{Writes, writes, writes_digits, writes_canonical}
use Rattle.gft_tree.proofs.EscapeLemmas.{escaped_all}
use Rattle.gft_tree.proofs.GoLemmas.{Neutral, cut_append, all_fit-append}
use Rattle.gft_tree.proofs.LayerLemmas.{fold-App, fold-Int, fold-Str, fold-Hole, Each, tree_induction}
use Rattle.gft_tree.proofs.AnswerLemmas.{spells_reads, is_read}
use Rattle.gft_tree.proofs.ClassLemmas.{no_name_goes_on}

abbrev at : ℕ → Context
at n = record { behind_query = false; opened = n }

-- CHARACTERS

ascii_one : (c : ℕ) → c < 128 → IsAscii (c ∷ [])
ascii_one c h zero = h
ascii_one c h (suc i) = omega arith

front : (c : ℕ) (bs : List ℕ) → c < 128 → chars (c ∷ bs) ≡ c ∷ chars bs
front c bs h = chars-append (c ∷ []) bs (IsUtf8-from_ascii (c ∷ []) (ascii_one c h)) ∙ ap (λ x. x ++ chars bs) (chars-IsAscii (c ∷ []) (ascii_one c h))

back : (bs : List ℕ) (c : ℕ) → IsUtf8 bs → c < 128 → chars (bs ++ c ∷ []) ≡ chars bs ++ c ∷ []
back bs c u h = chars-append bs (c ∷ []) u ∙ ap (λ x. chars bs ++ x) (chars-IsAscii (c ∷ []) (ascii_one c h))

utf8_front : (c : ℕ) (bs : List ℕ) → c < 128 → IsUtf8 bs → IsUtf8 (c ∷ bs)
utf8_front c bs h u = IsUtf8-append (c ∷ []) bs (IsUtf8-from_ascii (c ∷ []) (ascii_one c h)) u

utf8_back : (bs : List ℕ) (c : ℕ) → IsUtf8 bs → c < 128 → IsUtf8 (bs ++ c ∷ [])
utf8_back bs c u h = IsUtf8-append bs (c ∷ []) u (IsUtf8-from_ascii (c ∷ []) (ascii_one c h))

closing_neutral : (rest : List ℕ) → Neutral (41 ∷ rest)
closing_neutral rest = (ap not no_name_goes_on.1, refl)

space_neutral : (rest : List ℕ) → Neutral (32 ∷ rest)
space_neutral rest = (ap not no_name_goes_on.0, refl)

after_all-append : (x : Context) (ts us : List Lexeme) → after_all x (ts ++ us) ≡ after_all (after_all x ts) us
after_all-append x [] us = refl
after_all-append x (t ∷ ts) us = after_all-append (after x t) ts us

-- WHAT IS PRINTED

-- the tokens of some text, where at most 200 parentheses are open
pub record Prints (text : List ℕ) (ts : List Lexeme) (nest : ℕ) : Type 0 where
  pub utf8 : IsUtf8 text
  pub cut : (rest : List ℕ) → Neutral rest → Cut (chars text) ts rest
  pub fit : (n : ℕ) → n + nest ≤ 200 → (all_fit (at n) ts ≡ true) × (after_all (at n) ts ≡ at n)

abbrev pub nest_of : Tree → Nesting
nest_of = fold-Tree Nesting nesting_step

-- a tree is printed, alone and as an argument
pub record TreePrints (t : Tree) : Type 0 where
  pub tokens : List Lexeme
  pub prints : Prints (printed t).0 tokens (nest_of t).0
  pub whole : IsTree tokens t
  pub single : (printed t).1 ≡ false → IsAtom tokens t
  pub flag : (printed t).1 ≡ (nest_of t).1

-- one token alone
one_token_prints : (text : List ℕ) (t : Lexeme) → IsUtf8 text → chars text ≡ spelled t → is_lexeme t ≡ true
    → ((rest : List ℕ) → Neutral rest → ends_before t rest ≡ true)
    → ((n : ℕ) → fits (at n) t ≡ true) → ((n : ℕ) → after (at n) t ≡ at n) → Prints text (t ∷ []) 0
one_token_prints text t u e h n f a = record {
  utf8 = u;
  cut = λ rest m.
      let P : List ℕ → Type 0 = λ x. Cut x (t ∷ []) rest in
      subst P (append-nil (spelled t) ∙ sym e) (token h (n rest m) done);
  fit = λ k small. (and_from _ _ (f k) refl, a k);
}

-- one text behind another
joined_prints : (a b : List ℕ) (ts us : List Lexeme) (m n : ℕ) → Prints a ts m → Prints b us n → ((rest : List ℕ) → Neutral rest → Neutral (chars b ++ rest)) → Prints (a ++ b) (ts ++ us) (max m n)
joined_prints a b ts us m n p q neutral = record {
  utf8 = IsUtf8-append a b p.utf8 q.utf8;
  cut = λ rest k.
      let P : List ℕ → Type 0 = λ x. Cut x (ts ++ us) rest in
      subst P (sym (chars-append a b p.utf8)) (cut_append (p.cut (chars b ++ rest) (neutral rest k)) refl (q.cut rest k));
  fit = λ k small.
      let f = p.fit k (omega arith) in
      let g = q.fit k (omega arith) in
      let A : Context → Type 0 = λ x. all_fit x us ≡ true in (
        all_fit-append (at k) ts us ∙ and_from _ _ f.0 (subst A (sym f.1) g.0),
        after_all-append (at k) ts us ∙ ap (λ x. after_all x us) f.1 ∙ g.1,
      );
}

-- behind a space
space_prints : (text : List ℕ) (ts : List Lexeme) (n : ℕ) → Prints text ts n → Prints (32 ∷ text) ts n
space_prints text ts n p = record {
  utf8 = utf8_front 32 text (omega arith) p.utf8;
  cut = λ rest k. let P : List ℕ → Type 0 = λ x. Cut x ts rest in subst P (sym (front 32 text (omega arith))) (space refl (p.cut rest k));
  fit = p.fit;
}

-- in parentheses
paren_prints : (text : List ℕ) (ts : List Lexeme) (n : ℕ) → Prints text ts n → Prints (40 ∷ (text ++ 41 ∷ [])) (Open ∷ (ts ++ Close ∷ [])) (n + 1)
paren_prints text ts n p = record {
  utf8 = utf8_front 40 (text ++ 41 ∷ []) (omega arith) (utf8_back text 41 p.utf8 (omega arith));
  cut = λ rest k.
      let P : List ℕ → Type 0 = λ x. Cut x (Open ∷ (ts ++ Close ∷ [])) rest in
      let close : Cut (41 ∷ []) (Close ∷ []) rest = token refl refl done in
      subst P (sym (front 40 (text ++ 41 ∷ []) (omega arith) ∙ ap (λ x. 40 ∷ x) (back text 41 p.utf8 (omega arith))))
      (token refl refl (cut_append (p.cut (41 ∷ rest) (closing_neutral rest)) refl close));
  fit = λ k small.
      let f = p.fit (k + 1) (omega (arith, small)) in
      let few = lt-ltb k 200 (omega (arith, small)) in
      let less : (k + 1) - 1 ≡ k = omega arith in (
        and_from _ _ few (all_fit-append (at (k + 1)) ts (Close ∷ []) ∙ and_from _ _ f.0 refl),
        after_all-append (at (k + 1)) ts (Close ∷ []) ∙ ap (λ x. after x Close) f.1 ∙ ap at less,
      );
}

-- an argument
arg_case : (t : Tree) (text : List ℕ) (b c : Bool) (n : ℕ) (ts : List Lexeme) → Prints text ts n → IsTree ts t → (b ≡ false → IsAtom ts t) → b ≡ c
    → (us : List Lexeme) × Prints (if b then 40 ∷ (text ++ 41 ∷ []) else text) us (if c then n + 1 else n) × IsAtom us t
arg_case t text false false n ts p w s e = (ts, p, s refl)
arg_case t text true true n ts p w s e = (Open ∷ (ts ++ Close ∷ []), paren_prints text ts n p, parentheses w)
arg_case t text false true n ts p w s e = absurd (false≢true e)
arg_case t text true false n ts p w s e = absurd (false≢true (sym e))

argument : (t : Tree) → TreePrints t → (us : List Lexeme) × Prints (as_argument (printed t)) us (if (nest_of t).1 then (nest_of t).0 + 1 else (nest_of t).0) × IsAtom us t
argument t p = arg_case t (printed t).0 (printed t).1 (nest_of t).1 (nest_of t).0 p.tokens p.prints p.whole p.single p.flag

-- ARGUMENTS

record ArgumentsPrint (ts : List Tree) : Type 0 where
  tokens : List Lexeme
  prints : Prints (as_arguments (map printed ts)) tokens (nested (map nest_of ts))
  atoms : AreAtoms tokens ts
  neutral : (rest : List ℕ) → Neutral rest → Neutral (chars (as_arguments (map printed ts)) ++ rest)

abbrev proper : Tree → Bool
proper = fold-Tree Bool proper_step

abbrev Printable : Tree → Type 0
Printable t = IsProper t → HasNumberedHoles t → TreePrints t

no_arguments : ArgumentsPrint []
no_arguments = record {
  tokens = [];
  prints = record {
    utf8 = IsUtf8-nil;
    cut = λ rest k. let P : List ℕ → Type 0 = λ x. Cut x [] rest in subst P (sym chars-nil) done;
    fit = λ k small. (refl, refl);
  };
  atoms = none;
  neutral = λ rest k. let P : List ℕ → Type 0 = λ x. Neutral (x ++ rest) in subst P (sym chars-nil) k;
}

arguments : (ts : List Tree) → Each Printable ts → all_true (map proper ts) ≡ true → list_all (λ k. nat_lt 0 k) (all_of (map holes_of ts)) ≡ true → ArgumentsPrint ts
arguments [] h p q = no_arguments
arguments (t ∷ ts) h p q =
    let pp = and_parts (proper t) (all_true (map proper ts)) p in
    let qq = and_parts _ _ (sym (list_all-append (λ k. nat_lt 0 k) (holes_of t) (all_of (map holes_of ts))) ∙ q) in
    let one = argument t (h.0 pp.0 qq.0) in
    let others = arguments ts h.1 pp.1 qq.1 in
    let text = as_argument (printed t) ++ as_arguments (map printed ts) in
    record {
      tokens = one.0 ++ others.tokens;
      prints = space_prints text (one.0 ++ others.tokens) _ (joined_prints (as_argument (printed t)) (as_arguments (map printed ts)) one.0 others.tokens _ _ one.1 others.prints others.neutral);
      atoms = more one.2 others.atoms;
      neutral = λ rest k. let P : List ℕ → Type 0 = λ x. Neutral (x ++ rest) in subst P (sym (front 32 text (omega arith))) (space_neutral (chars text ++ rest));
    }

-- TREES

made : (t : Tree) (p : Printed) (q : Nesting) → printed t ≡ p → nest_of t ≡ q → (ts : List Lexeme) → Prints p.0 ts q.0 → IsTree ts t → (p.1 ≡ false → IsAtom ts t) → p.1 ≡ q.1 → TreePrints t
made t p q e f ts prints w s flag =
    let P : Printed → Type 0 = λ x. Prints x.0 ts (nest_of t).0 in
    let Q : Nesting → Type 0 = λ y. Prints p.0 ts y.0 in
    record {
      tokens = ts;
      prints = subst P (sym e) (subst Q (sym f) prints);
      whole = w;
      single = λ h. s (ap (λ x. x.1) (sym e) ∙ h);
      flag = ap (λ x. x.1) e ∙ flag ∙ sym (ap (λ x. x.1) f);
    }

of_name : (f : List ℕ) → is_utf8 f ≡ true → is_name f ≡ true → Prints f (Word (chars f) ∷ []) 0
of_name f u h = one_token_prints f (Word (chars f)) (IsUtf8-from_is_utf8 f u) refl h (λ rest n. n.0) (λ k. refl) (λ k. refl)

of_constant : (f : List ℕ) → Printable (tree.App f [])
of_constant f h k =
    let p = and_parts _ _ (and_parts _ _ (sym (fold-App Bool proper_step f []) ∙ h)).0 in
    let same = encodes-chars f (IsUtf8-from_is_utf8 f p.0) in
    let A : List ℕ → Type 0 = λ x. IsAtom (Word (chars f) ∷ []) (tree.App x []) in
    let one = subst A same (name (chars f)) in
    let N : List ℕ → Type 0 = λ x. Prints x (Word (chars f) ∷ []) 0 in
    made (tree.App f []) (f ++ [], false) (0, false) (fold-App Printed printed_step f []) (fold-App Nesting nesting_step f []) (Word (chars f) ∷ [])
    (subst N (sym (append-nil f)) (of_name f p.0 p.1)) (atom one) (λ e. one) refl

of_application : (f : List ℕ) (t : Tree) (ts : List Tree) → Each Printable (t ∷ ts) → Printable (tree.App f (t ∷ ts))
of_application f t ts each h k =
    let q = and_parts _ _ (sym (fold-App Bool proper_step f (t ∷ ts)) ∙ h) in
    let p = and_parts (is_utf8 f) (is_name f) q.0 in
    let same = encodes-chars f (IsUtf8-from_is_utf8 f p.0) in
    let args = arguments (t ∷ ts) each q.1 (ap (list_all (λ n. nat_lt 0 n)) (sym (fold-App (List ℕ) holes_step f (t ∷ ts))) ∙ k) in
    let A : List ℕ → Type 0 = λ x. IsTree (Word (chars f) ∷ args.tokens) (tree.App x (t ∷ ts)) in
    let n = nested (map nest_of (t ∷ ts)) in
    let none_deeper : max 0 n ≡ n = omega arith in
    let N : ℕ → Type 0 = λ x. Prints (f ++ as_arguments (map printed (t ∷ ts))) (Word (chars f) ∷ args.tokens) x in
    made (tree.App f (t ∷ ts)) (f ++ as_arguments (map printed (t ∷ ts)), true) (n, true) (fold-App Printed printed_step f (t ∷ ts)) (fold-App Nesting nesting_step f (t ∷ ts)) (Word (chars f) ∷ args.tokens)
    (subst N none_deeper (joined_prints f (as_arguments (map printed (t ∷ ts))) (Word (chars f) ∷ []) args.tokens 0 n (of_name f p.0 p.1) args.prints args.neutral))
    (subst A same (application (chars f) args.atoms)) (λ e. absurd (false≢true (sym e))) refl

of_app : (f : List ℕ) (ts : List Tree) → Each Printable ts → Printable (tree.App f ts)
of_app f [] each = of_constant f
of_app f (t ∷ ts) each = of_application f t ts each

number_fits : (n : ℕ) (ds : List ℕ) (k : ℕ) → Writes n ds → n < 2 ^ 128 → fits (at k) (Number ds) ≡ true
number_fits n ds k w h = and_from _ _ (writes_canonical n ds w) (lt-ltb (digits_value 10 ds) (2 ^ 128) (let v = w.value in omega (arith, v, h)))

of_int : (n : ℕ) → Printable (tree.Int n)
of_int n h k =
    let small : n < 2 ^ 128 = ltb-true n (2 ^ 128) (sym (fold-Int Bool proper_step n) ∙ h) in
    let wide : n < 10 ^ 64 = omega (arith, small) in
    let w = writes n wide in
    let ascii = IsAscii-decimal_wide n wide in
    let A : ℕ → Type 0 = λ x. IsAtom (Number (decimal n) ∷ []) (tree.Int x) in
    let one = subst A w.value (number (decimal n)) in
    made (tree.Int n) (decimal n, false) (0, false) (fold-Int Printed printed_step n) (fold-Int Nesting nesting_step n) (Number (decimal n) ∷ [])
    (one_token_prints (decimal n) (Number (decimal n)) (IsUtf8-from_ascii (decimal n) ascii) (chars-IsAscii (decimal n) ascii) (writes_digits n (decimal n) w) (λ rest m. m.1) (λ c. number_fits n (decimal n) c w small) (λ c. refl))
    (atom one) (λ e. one) refl

of_hole : (n : ℕ) → Printable (tree.Hole n)
of_hole n h k =
    let small : n < 2 ^ 32 = ltb-true n (2 ^ 32) (sym (fold-Hole Bool proper_step n) ∙ h) in
    let some : 0 < n = ltb-true 0 n (and_parts (nat_lt 0 n) true (ap (list_all (λ x. nat_lt 0 x)) (sym (fold-Hole (List ℕ) holes_step n)) ∙ k)).0 in
    let wide : n < 10 ^ 64 = omega (arith, small) in
    let w = writes n wide in
    let v = w.value in
    let ascii = IsAscii-decimal_wide n wide in
    let ds = decimal n in
    let A : ℕ → Type 0 = λ x. IsAtom (Query ∷ Number ds ∷ []) (tree.Hole x) in
    let one = subst A w.value (hole ds) in
    let fit = and_from _ _ (writes_canonical n ds w) (and_from _ _ (lt-ltb 0 (digits_value 10 ds) (omega (arith, v, some))) (lt-ltb (digits_value 10 ds) (2 ^ 32) (omega (arith, v, small)))) in
    made (tree.Hole n) (63 ∷ ds, false) (0, false) (fold-Hole Printed printed_step n) (fold-Hole Nesting nesting_step n) (Query ∷ Number ds ∷ [])
    (record {
      utf8 = utf8_front 63 ds (omega arith) (IsUtf8-from_ascii ds ascii);
      cut = λ rest m.
          let P : List ℕ → Type 0 = λ x. Cut x (Query ∷ Number ds ∷ []) rest in
          let D : List ℕ → Type 0 = λ x. Cut x (Number ds ∷ []) rest in
          subst P (sym (front 63 ds (omega arith) ∙ ap (λ x. 63 ∷ x) (chars-IsAscii ds ascii)))
          (token refl refl (subst D (append-nil ds) (token (writes_digits n ds w) m.1 done)));
      fit = λ c less. (and_from _ _ fit refl, refl);
    })
    (atom one) (λ e. one) refl

scalars_app : (xs ys : List ℕ) → all_scalars xs ≡ true → all_scalars ys ≡ true → all_scalars (xs ++ ys) ≡ true
scalars_app [] ys h k = k
scalars_app (x ∷ xs) ys h k = let p = and_parts _ _ h in and_from _ _ p.0 (scalars_app xs ys p.1 k)

scalars_escaped : (cs : List ℕ) → all_scalars cs ≡ true → all_scalars (flat_map escaped cs) ≡ true
scalars_escaped [] h = refl
scalars_escaped (c ∷ cs) h =
    let p = and_parts _ _ h in
    ⊎_elim (λ m. rw m (and_from _ _ refl (and_from _ _ p.0 (scalars_escaped cs p.1)))) (λ m. rw m (and_from _ _ p.0 (scalars_escaped cs p.1))) (cases_Bool (c == 34 || c == 92))

no_newline : (cs : List ℕ) → list_all is_not_whitespace cs ≡ true → list_all stays_on_line cs ≡ true
no_newline [] h = refl
no_newline (c ∷ cs) h =
    let p = and_parts (is_not_whitespace c) (list_all is_not_whitespace cs) h in
    let P : ℕ → Type 0 = λ x. is_not_whitespace x ≡ true in
    and_from _ _ (ap not (false_from_ne_true (c == 10) (λ e. false≢true (subst P (eqb-true c 10 e) p.0)))) (no_newline cs p.1)

of_str : (w : List ℕ) → Printable (tree.Str w)
of_str w h k =
    let p = and_parts (is_utf8 w) (is_word w) (sym (fold-Str Bool proper_step w) ∙ h) in
    let u = IsUtf8-from_is_utf8 w p.0 in
    let same = encodes-chars w u in
    let inside = flat_map escaped (chars w) in
    let sc = scalars_escaped (chars w) (scalars-chars w u) in
    let bytes_are : encode_utf8_all inside ≡ flat_map escaped w = sym (escaped_all (chars w)) ∙ ap (flat_map escaped) same in
    let inner : IsUtf8 (flat_map escaped w) = (inside, (sc, bytes_are)) in
    let spells : chars (quoted w) ≡ 34 ∷ (inside ++ 34 ∷ []) =
    front 34 (flat_map escaped w ++ 34 ∷ []) (omega arith)
    ∙ ap (λ x. 34 ∷ x) (back (flat_map escaped w) 34 inner (omega arith) ∙ ap (λ x. x ++ 34 ∷ []) (ap chars (sym bytes_are) ∙ chars-encodes inside sc)) in
    let A : List ℕ → Type 0 = λ x. IsAtom (Quoted (chars w) ∷ []) (tree.Str x) in
    let one = subst A same (string (chars w)) in
    made (tree.Str w) (quoted w, false) (0, false) (fold-Str Printed printed_step w) (fold-Str Nesting nesting_step w) (Quoted (chars w) ∷ [])
    (one_token_prints (quoted w) (Quoted (chars w)) (utf8_front 34 (flat_map escaped w ++ 34 ∷ []) (omega arith) (utf8_back (flat_map escaped w) 34 inner (omega arith))) spells
    (no_newline (chars w) (and_parts _ _ p.1).1) (λ rest m. refl) (λ c. ap is_word same ∙ p.1) (λ c. refl))
    (atom one) (λ e. one) refl

-- each tree is printed
pub prints_all : (t : Tree) → Printable t
prints_all = tree_induction Printable of_app of_int of_str of_hole

-- the text of a tree is read as the tree
pub round : (t : Tree) → IsReadable t → IsRead (chars (text_of t)) t
round t r =
    let p = prints_all t r.proper r.holes in
    let f = p.prints.fit 0 (let s = r.shallow in omega (arith, s)) in
    let s : Spells (chars (text_of t)) t = (p.tokens, p.prints.cut [] (refl, refl), p.whole, f.0) in
    is_read (chars (text_of t)) t (spells_reads (chars (text_of t)) t s)
