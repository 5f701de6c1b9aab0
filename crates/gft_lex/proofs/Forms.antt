-- Which token some characters are, by their first character.
use Rattle.std.proofs.Common.{◌≡◌, ℕ, Bool, true, false, not, ◌&&◌, ◌||◌, ◌==◌, List, [], ◌∷◌, length, Option, Some, None, bytes_eq, refl, sym, ap, ◌∙◌}
use Rattle.std.specs.Prelude.{option_map, encode_utf8_all}
use Rattle.std.specs.List.{list_all}
use Rattle.std.proofs.lemmas.Bool.{cond_both, cond-true, cond-false, and_parts, false≢true, ne_eqb, false_from_ne_true, or_from, and_from, not-true, not_from_true}
use Rattle.std.proofs.lemmas.Slice.Eq.{bytes_eq-Decides}
use Rattle.ucd_derived.specs.Binary.{is_xid_start}
use Rattle.ucd_derived.specs.XidStartRanges.{xid_start_ranges}
use Rattle.ucd_table.specs.Rows.{in_ranges}
use Rattle.gft_core.specs.Names.{begins_name, spells_name}
use Rattle.gft_syntax.specs.declared.token.TokenForm.{TokenForm}
use Rattle.gft_syntax.specs.declared.token.TokenForm.TheVariants as T
use Rattle.gft_syntax.specs.declared.token.Symbol.{Symbol as Sign}
use Rattle.gft_model.specs.Source.{name_form, is_digit, number_after, quoted_text, form_of, symbols, spelled_in}
use Rattle.gft_lex.specs.Spellings.{symbol_in, word_form}
use Rattle.gft_lex.proofs.Seen.{IsOther}
use lib.Utf8.{scalars}

-- digits
pub digits_form : (c : ℕ) (cs : List ℕ) → is_digit c ≡ true → list_all is_digit cs ≡ true
    → form_of (c ∷ cs) ≡ Some (T.Number (number_after 0 (c ∷ cs)) (encode_utf8_all (c ∷ cs)))
digits_form c cs d l = cond-true _ _ _ d ∙ cond-true _ _ _ l

pub digits_end : (c : ℕ) (cs : List ℕ) → is_digit c ≡ true → list_all is_digit cs ≡ false → form_of (c ∷ cs) ≡ None
digits_end c cs d l = cond-true _ _ _ d ∙ cond-false _ _ _ l

-- a text
abbrev pub quoted_form : List ℕ → List ℕ → TokenForm
quoted_form cs t = T.Quoted (encode_utf8_all t) (encode_utf8_all (34 ∷ cs))

pub text_form : (cs : List ℕ) → form_of (34 ∷ cs) ≡ option_map (quoted_form cs) (quoted_text cs)
text_form cs = refl

-- a symbol or a name
abbrev other_form : List ℕ → Option Sign → Option TokenForm
other_form s o = elim o [ Some x ↦ Some (T.Symbol x) | None ↦ name_form s ]

other : (c : ℕ) (cs : List ℕ) → IsOther c → form_of (c ∷ cs) ≡ other_form (c ∷ cs) (symbol_in (c ∷ cs))
unfolding symbol_in
other c cs o = cond-false _ _ _ o.digit ∙ cond-false _ _ _ (ne_eqb c 34 o.quote)

pub symbol_form_of : (c : ℕ) (cs : List ℕ) (s : Sign) → IsOther c → symbol_in (c ∷ cs) ≡ Some s
    → form_of (c ∷ cs) ≡ Some (T.Symbol s)
symbol_form_of c cs s o e = other c cs o ∙ ap (other_form (c ∷ cs)) e

pub name_form_of : (c : ℕ) (cs : List ℕ) → IsOther c → symbol_in (c ∷ cs) ≡ None → spells_name (c ∷ cs) ≡ true
    → form_of (c ∷ cs) ≡ Some (word_form (c ∷ cs))
name_form_of c cs o e n = other c cs o ∙ ap (other_form (c ∷ cs)) e ∙ cond-true _ _ _ n

pub no_form_of : (c : ℕ) (cs : List ℕ) → IsOther c → symbol_in (c ∷ cs) ≡ None → spells_name (c ∷ cs) ≡ false
    → form_of (c ∷ cs) ≡ None
no_form_of c cs o e n = other c cs o ∙ ap (other_form (c ∷ cs)) e ∙ cond-false _ _ _ n

-- what each spelling passes, what is spelled passes
spelled_passes : (Q : List ℕ → Bool) (es : List (List ℕ × Sign)) (s : List ℕ) (x : Sign)
    → list_all (λ (e : List ℕ × Sign). Q e.0) es ≡ true
    → spelled_in es s ≡ Some x → Q s ≡ true
spelled_passes Q [] s x h e = absurd (cc)
spelled_passes Q (w ∷ es) s x h e =
    let p = and_parts _ _ h in
    let P : Option Sign → Type 0 = λ o. o ≡ Some x → Q s ≡ true in
    cond_both (bytes_eq s w.0) (Some w.1) (spelled_in es s) P (λ t f. ap Q ((bytes_eq-Decides s w.0).0 t) ∙ p.0)
    (λ t f. spelled_passes Q es s x p.1 f) e

-- a symbol has at most two characters; one with two begins with no letter, and one that begins with one is the underscore
abbrev is_shape : List ℕ → Bool
is_shape [] = false
is_shape (c ∷ []) = not (begins_name c) || c == 95
is_shape (c ∷ d ∷ []) = not (begins_name c)
is_shape (c ∷ d ∷ e ∷ cs) = false

symbol_shape : (s : List ℕ) (x : Sign) → symbol_in s ≡ Some x → is_shape s ≡ true
unfolding symbol_in is_xid_start xid_start_ranges in_ranges
symbol_shape s x e = spelled_passes is_shape symbols s x refl e

shape_none : (s : List ℕ) (o : Option Sign) → is_shape s ≡ false → symbol_in s ≡ o → symbol_in s ≡ None
shape_none s None h e = e
shape_none s (Some x) h e = absurd (false≢true (sym h ∙ symbol_shape s x e))

no_symbol : (s : List ℕ) → is_shape s ≡ false → symbol_in s ≡ None
no_symbol s h = shape_none s (symbol_in s) h refl

-- a name is no symbol
pub name_no_symbol : (c : ℕ) (cs : List ℕ) → begins_name c ≡ true → (c == 95 && length cs == 0) ≡ false
    → symbol_in (c ∷ cs) ≡ None
name_no_symbol c [] b e = no_symbol (c ∷ [])
    (or_from _ _ (not_from_true _ b) (false_from_ne_true _ (λ q. false≢true (sym e ∙ and_from _ _ q refl))))
name_no_symbol c (d ∷ []) b e = no_symbol (c ∷ d ∷ []) (not_from_true _ b)
name_no_symbol c (d ∷ x ∷ cs) b e = no_symbol (c ∷ d ∷ x ∷ cs) refl

-- a symbol of two characters begins no name, and no longer symbol
pub pair_no_name : (c d : ℕ) (s : Sign) → symbol_in (c ∷ d ∷ []) ≡ Some s → begins_name c ≡ false
pair_no_name c d s e = not-true _ (symbol_shape (c ∷ d ∷ []) s e)

pub long_no_symbol : (c d x : ℕ) (cs : List ℕ) → symbol_in (c ∷ d ∷ x ∷ cs) ≡ None
long_no_symbol c d x cs = no_symbol (c ∷ d ∷ x ∷ cs) refl

-- a symbol is of characters
pub symbol_characters : (s : List ℕ) (x : Sign) → symbol_in s ≡ Some x → scalars s ≡ true
unfolding symbol_in
symbol_characters s x e = spelled_passes scalars symbols s x refl e
