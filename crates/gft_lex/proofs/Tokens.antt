-- What is seen as digits, a symbol or a name is the longest token.
use Rattle.std.proofs.Common.{◌≡◌, ℕ, suc, ◌+◌, ◌≤◌, Bool, true, false, ◌&&◌, ◌==◌, List, [], ◌∷◌, ◌++◌, length, take, drop, Option, Some, None, cond, refl, sym, ap, ◌∙◌, arith, one-add, add-one}
use Rattle.std.specs.Prelude.{option_map, encode_utf8_all}
use Rattle.std.specs.List.{list_all, prefix_len}
use Rattle.std.proofs.lemmas.Bool.{cond_both, and_left, and_right, and_parts, and_from, not_from_true, eqb-true, ne_eqb}
use Rattle.std.proofs.lemmas.List.{take-append-drop, length-take-le}
use Rattle.std.proofs.lemmas.List.Folds.{list_all-append}
use Rattle.gft_core.specs.Names.{begins_name, continues_name, spells_name}
use Rattle.gft_syntax.specs.declared.token.TokenForm.{TokenForm}
use Rattle.gft_syntax.specs.declared.token.TokenForm.TheVariants as T
use Rattle.gft_syntax.specs.declared.token.Symbol.{Symbol as Sign}
use Rattle.gft_model.specs.Source.{is_digit, number_after, form_of, longest}
use Rattle.gft_lex.specs.Sights.{long_symbol_of, name_of}
use Rattle.gft_lex.specs.Spellings.{symbol_in, word_form}
use Rattle.gft_lex.specs.declared.sight.Sight.{Sight}
use Rattle.gft_lex.specs.declared.sight.Sight.TheVariants.{Word, Symbol}
use Rattle.gft_lex.proofs.Lengths.{within, prefix_passes}
use Rattle.gft_lex.proofs.Longest.{AreNone, longest_is, longest_none}
use Rattle.gft_lex.proofs.Forms.{digits_form, digits_end, symbol_form_of, name_form_of, no_form_of, name_no_symbol, pair_no_name, long_no_symbol}
use Rattle.gft_lex.proofs.Seen.{IsOther}

-- those that pass end where one fails
first_fails : (p : ℕ → Bool) (c : ℕ) (cs b a : List ℕ) (d : ℕ) → p c ≡ false → c ∷ cs ≡ b ++ d ∷ a
    → list_all p (b ++ d ∷ []) ≡ false
first_fails p c cs [] a d f e = let q : c ≡ d = cc in and_left _ _ (ap p (sym q) ∙ f)
first_fails p c cs (x ∷ b) a d f e = let q : c ≡ x = cc in and_left _ _ (ap p (sym q) ∙ f)

end_step : (p : ℕ → Bool) (c : ℕ) (cs b a : List ℕ) (d : ℕ) (t : Bool) → p c ≡ t
    → (drop (prefix_len p cs) cs ≡ b ++ d ∷ a → list_all p (b ++ d ∷ []) ≡ false)
    → drop (cond t (1 + prefix_len p cs) 0) (c ∷ cs) ≡ b ++ d ∷ a → list_all p (b ++ d ∷ []) ≡ false
end_step p c cs b a d true f h e = h (ap (λ n. drop n (c ∷ cs)) (sym (one-add (prefix_len p cs))) ∙ e)
end_step p c cs b a d false f h e = first_fails p c cs b a d f e

prefix_ends : (p : ℕ → Bool) (cs b a : List ℕ) (d : ℕ) → drop (prefix_len p cs) cs ≡ b ++ d ∷ a → list_all p (b ++ d ∷ []) ≡ false
prefix_ends p [] [] a d e = absurd (cc)
prefix_ends p [] (x ∷ b) a d e = absurd (cc)
prefix_ends p (c ∷ cs) b a d e = end_step p c cs b a d (p c) refl (prefix_ends p cs b a d) e

-- the first so many that pass, and what is left
parts : (c : ℕ) (ds : List ℕ) (n : ℕ) → c ∷ ds ≡ c ∷ (take n ds ++ drop n ds)
parts c ds n = ap (λ l. c ∷ l) (sym (take-append-drop n ds))

-- a token of so many characters
abbrev pub IsLongest : List ℕ → TokenForm → ℕ → Type 0
IsLongest cs t n = longest cs ≡ Some (t, n)

found : (c : ℕ) (ds : List ℕ) (n : ℕ) (t : TokenForm) → n ≤ length ds → form_of (c ∷ take n ds) ≡ Some t
    → AreNone (c ∷ take n ds) (drop n ds)
    → IsLongest (c ∷ ds) t (n + 1)
found c ds n t l f h =
    ap longest (parts c ds n) ∙ longest_is c (take n ds) (drop n ds) t f h
    ∙ ap (λ m. Some (t, m)) (ap suc (length-take-le n ds l) ∙ sym (add-one n))

-- digits
abbrev pub number_form : List ℕ → TokenForm
number_form cs = T.Number (number_after 0 cs) (encode_utf8_all cs)

pub digits_longest : (c : ℕ) (ds : List ℕ) → is_digit c ≡ true
    → let n = prefix_len is_digit ds in IsLongest (c ∷ ds) (number_form (c ∷ take n ds)) (n + 1)
digits_longest c ds d =
    let n = prefix_len is_digit ds in
    found c ds n (number_form (c ∷ take n ds)) (within is_digit ds) (digits_form c (take n ds) d (prefix_passes is_digit ds))
    (λ b a x e. digits_end c (take n ds ++ (b ++ x ∷ [])) d
    (list_all-append is_digit (take n ds) (b ++ x ∷ []) ∙ and_right _ _ (prefix_ends is_digit ds b a x e)))

-- names
not_name : (c : ℕ) (ds : List ℕ) → list_all continues_name ds ≡ false → spells_name (c ∷ ds) ≡ false
not_name c ds h = and_left _ _ (and_right _ _ h)

begins_not : (c : ℕ) (ds : List ℕ) → begins_name c ≡ false → spells_name (c ∷ ds) ≡ false
begins_not c ds h = and_left _ _ (and_left _ _ h)

not_empty : (c : ℕ) (xs b : List ℕ) (d : ℕ) → (c == 95 && length (xs ++ (b ++ d ∷ [])) == 0) ≡ false
not_empty c [] [] d = and_right _ _ refl
not_empty c [] (x ∷ b) d = and_right _ _ (ne_eqb (suc (length (b ++ d ∷ []))) 0 (λ e. absurd (omega (arith, e))))
not_empty c (x ∷ xs) b d = and_right _ _ (ne_eqb (suc (length (xs ++ (b ++ d ∷ [])))) 0 (λ e. absurd (omega (arith, e))))

pub name_longest : (c : ℕ) (ds : List ℕ) → IsOther c → begins_name c ≡ true
    → let n = prefix_len continues_name ds in (c == 95 && n == 0) ≡ false → spells_name (c ∷ take n ds) ≡ true
    → IsLongest (c ∷ ds) (word_form (c ∷ take n ds)) (n + 1)
name_longest c ds o b e s =
    let n = prefix_len continues_name ds in
    let k : length (take n ds) ≡ n = length-take-le n ds (within continues_name ds) in
    found c ds n (word_form (c ∷ take n ds)) (within continues_name ds)
    (name_form_of c (take n ds) o (name_no_symbol c (take n ds) b (ap (λ m. c == 95 && m == 0) k ∙ e)) s)
    (λ f a x q. no_form_of c (take n ds ++ (f ++ x ∷ [])) o
    (name_no_symbol c (take n ds ++ (f ++ x ∷ [])) b (not_empty c (take n ds) f x))
    (not_name c (take n ds ++ (f ++ x ∷ []))
    (list_all-append continues_name (take n ds) (f ++ x ∷ []) ∙ and_right _ _ (prefix_ends continues_name ds f a x q))))

-- symbols of two characters
longer : (c d : ℕ) (b : List ℕ) (x : ℕ) → symbol_in (c ∷ d ∷ (b ++ x ∷ [])) ≡ None
longer c d [] x = long_no_symbol c d x []
longer c d (y ∷ b) x = long_no_symbol c d y (b ++ x ∷ [])

pub pair_longest : (c d : ℕ) (es : List ℕ) (s : Sign) → IsOther c → symbol_in (c ∷ d ∷ []) ≡ Some s
    → IsLongest (c ∷ d ∷ es) (T.Symbol s) 2
pair_longest c d es s o e =
    longest_is c (d ∷ []) es (T.Symbol s) (symbol_form_of c (d ∷ []) s o e)
    (λ b a x f. no_form_of c (d ∷ (b ++ x ∷ [])) o (longer c d b x) (begins_not c (d ∷ (b ++ x ∷ [])) (pair_no_name c d s e)))

-- where no symbol of two characters and no name is seen
no_pair : (c d : ℕ) (es : List ℕ) → (f : Option Sign) → symbol_in (c ∷ d ∷ []) ≡ f → option_map (λ s. Symbol s 2) f ≡ None
    → symbol_in (c ∷ d ∷ []) ≡ None
no_pair c d es None e h = e
no_pair c d es (Some s) e h = absurd (cc)

no_symbol_on : (c : ℕ) (ds b a : List ℕ) (x : ℕ) → long_symbol_of c ds ≡ None → ds ≡ b ++ x ∷ a
    → symbol_in (c ∷ (b ++ x ∷ [])) ≡ None
no_symbol_on c [] [] a x l e = absurd (cc)
no_symbol_on c [] (y ∷ b) a x l e = absurd (cc)
no_symbol_on c (d ∷ es) [] a x l e = let q : d ≡ x = cc in ap (λ y. symbol_in (c ∷ y ∷ [])) (sym q)
    ∙ no_pair c d es (symbol_in (c ∷ d ∷ [])) refl l
no_symbol_on c (d ∷ es) (y ∷ b) a x l e = longer c y b x

no_name_on : (c : ℕ) (ds b a : List ℕ) (x : ℕ) → name_of c ds ≡ None → ds ≡ b ++ x ∷ a → spells_name (c ∷ (b ++ x ∷ [])) ≡ false
no_name_on c ds b a x h e =
    let n = prefix_len continues_name ds in
    let P : Option Sight → Type 0 = λ o. o ≡ None → spells_name (c ∷ (b ++ x ∷ [])) ≡ false in
    cond_both (begins_name c) (cond (c == 95 && n == 0) None (Some (Word (n + 1)))) None P
    (λ t. cond_both (c == 95 && n == 0) None (Some (Word (n + 1))) P
    (λ u q. let z : n ≡ 0 = eqb-true n 0 (and_parts _ _ u).1 in
    not_name c (b ++ x ∷ []) (prefix_ends continues_name ds b a x (ap (λ m. drop m ds) z ∙ e)))
    (λ u q. absurd (cc)))
    (λ t q. begins_not c (b ++ x ∷ []) t) h

none_longer : (c : ℕ) (ds : List ℕ) → IsOther c → long_symbol_of c ds ≡ None → name_of c ds ≡ None → AreNone (c ∷ []) ds
none_longer c ds o l n b a x e = no_form_of c (b ++ x ∷ []) o (no_symbol_on c ds b a x l e) (no_name_on c ds b a x n e)

-- symbols of one character
pub single_longest : (c : ℕ) (ds : List ℕ) (s : Sign) → IsOther c → long_symbol_of c ds ≡ None → name_of c ds ≡ None
    → symbol_in (c ∷ []) ≡ Some s
    → IsLongest (c ∷ ds) (T.Symbol s) 1
single_longest c ds s o l n e = longest_is c [] ds (T.Symbol s) (symbol_form_of c [] s o e) (none_longer c ds o l n)

-- nothing
alone : (c : ℕ) (ds : List ℕ) → name_of c ds ≡ None → spells_name (c ∷ []) ≡ false
alone c ds h =
    let n = prefix_len continues_name ds in
    let P : Option Sight → Type 0 = λ o. o ≡ None → spells_name (c ∷ []) ≡ false in
    cond_both (begins_name c) (cond (c == 95 && n == 0) None (Some (Word (n + 1)))) None P
    (λ t. cond_both (c == 95 && n == 0) None (Some (Word (n + 1))) P
    (λ u q. and_right _ _ (not_from_true _ (and_from _ _ (and_parts _ _ u).0 refl)))
    (λ u q. absurd (cc)))
    (λ t q. begins_not c [] t) h

none_at : (c : ℕ) (ds : List ℕ) → IsOther c → long_symbol_of c ds ≡ None → name_of c ds ≡ None → symbol_in (c ∷ []) ≡ None
    → AreNone [] (c ∷ ds)
none_at c ds o l n e [] a x f = let q : c ≡ x = cc in ap (λ y. form_of (y ∷ [])) (sym q) ∙ no_form_of c [] o e (alone c ds n)
none_at c ds o l n e (y ∷ b) a x f =
    let q : c ≡ y = cc in
    let r : ds ≡ b ++ x ∷ a = cc in
    ap (λ y. form_of (y ∷ (b ++ x ∷ []))) (sym q) ∙ none_longer c ds o l n b a x r

pub nothing_longest : (c : ℕ) (ds : List ℕ) → IsOther c → long_symbol_of c ds ≡ None → name_of c ds ≡ None
    → symbol_in (c ∷ []) ≡ None
    → longest (c ∷ ds) ≡ None
nothing_longest c ds o l n e = longest_none (c ∷ ds) (none_at c ds o l n e)
