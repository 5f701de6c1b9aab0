-- What patterns match: parameter values, and texts.
use Rattle.std.specs.Prelude.{ℕ, suc, ◌==◌, List, [], ◌∷◌, ◌++◌, map, length, Bool, true, false, not, ◌&&◌, ◌||◌, Option, Some, None, bytes_eq, chars, encode_utf8_all, decimal, if◌then◌else◌, option_map}
use Rattle.std.specs.List.{enumerate_from, flat_map}
use Rattle.std.specs.Option.{option_map_or}
use Rattle.gft_core.specs.Words.{words_of, joined}
use Rattle.gft_core.specs.declared.symbol.Sym.{Sym}
use Rattle.gft_core.specs.declared.symbol.Sym.TheVariants.{Tok, Arg}
use Rattle.gft_syntax.specs.declared.reference.Whole.{Whole}
use Rattle.gft_syntax.specs.declared.reference.Reference.TheVariants as Reference-V
use Rattle.gft_syntax.specs.declared.pattern.Pattern.{Pattern}
use Rattle.gft_syntax.specs.declared.pattern.PatternField.{PatternField}
use Rattle.gft_syntax.specs.declared.pattern.Pattern.TheOpen.{Pattern-F}
use Rattle.gft_syntax.specs.declared.pattern.Pattern.TheFolds.{fold-Pattern}
use Rattle.gft_syntax.specs.declared.value.Param.{Param, out-Param}
use Rattle.gft_syntax.specs.declared.value.Param.TheOpen.{Param-F}
use Rattle.gft_syntax.specs.declared.value.Param.TheFolds.{para-Param}
use Rattle.gft_syntax.specs.declared.value.Value.{Value}
use Rattle.gft_model.specs.ConcreteTypes.{field_of}
use Rattle.gft_model.specs.ValueForms.{con_param, number_param, string_value, param_value, record_value}

-- two whole names are the same
abbrev pub same_whole : Whole → Whole → Bool
same_whole a b = bytes_eq a.module b.module && bytes_eq a.name b.name

-- the label of the item after n others in a tuple: p1, p2, ..
abbrev pub tuple_label : ℕ → List ℕ
tuple_label n = 112 ∷ decimal (suc n)

-- the items of a tuple with the labels p1, p2, ..
abbrev pub tuple_fields : {A : Type 0} → List A → List (List ℕ × A)
tuple_fields es = map (λ e. (tuple_label e.0, e.1)) (enumerate_from 0 es)

-- the patterns of fields label by label: a, b = p as a = p ; b = p
abbrev pub label_by_label : {A : Type 0} → List (PatternField A) → List (List ℕ × A)
label_by_label fs = flat_map (λ f. map (λ l. (l, f.pattern)) f.labels) fs

-- the value that a parameter value is: a record of parameters is a record
abbrev pub value_step : Param-F (Param × Value) → Value
value_step (Param-F.Con w vs) = param_value (con_param w (map (λ p. p.0) vs))
value_step (Param-F.Ints n) = param_value (number_param n)
value_step (Param-F.Record fs) = record_value (map (λ f. (f.0, f.1.1)) fs)

abbrev pub value_of : Param → Value
value_of = para-Param Value value_step

-- the string of known words
abbrev pub words_value : List (List ℕ) → Value
words_value ws = string_value (map Tok ws)

-- the words of a string that holds words only
abbrev pub known_words : List Sym → Option (List (List ℕ))
known_words [] = Some []
known_words (Tok w ∷ ss) = option_map (λ ws. w ∷ ws) (known_words ss)
known_words (Arg i l ∷ ss) = None

-- what is matched: a parameter value, the characters of a known text, or a string with a closed part
pub data Subject : Type 0 where
  parameter : Param → Subject
  text : List ℕ → Subject
  closed : List Sym → Subject

-- the value that a variable takes
abbrev pub subject_value : Subject → Value
subject_value (parameter v) = value_of v
subject_value (text cs) = words_value (words_of (encode_utf8_all cs))
subject_value (closed ss) = string_value ss

-- a string: its words joined by one space, where it holds words only
abbrev pub string_subject : List Sym → Subject
string_subject ss = elim (known_words ss) [ None ↦ closed ss | Some ws ↦ text (chars (joined ws)) ]

-- the variables of a pattern with their values
abbrev pub Bindings : Type 0
Bindings = List (List ℕ × Value)

-- whether a pattern matches: it does, and binds; it does not; or it cannot be told
pub data Match : Type 0 where
  matched : Bindings → Match
  differs : Match
  hidden : Match

-- the second where the first differs
abbrev pub or_else : Match → Match → Match
or_else differs n = n
or_else m n = m

-- both, with the bindings of both
abbrev pub and_also : Match → Match → Match
and_also (matched bs) (matched cs) = matched (bs ++ cs)
and_also (matched bs) m = m
and_also m n = m

-- a match that binds nothing, or none
abbrev pub matched_if : Bool → Match
matched_if b = if b then matched [] else differs

-- only known texts are told apart; a parameter is no text
abbrev pub on_text : (List ℕ → Match) → Subject → Match
on_text f (parameter v) = differs
on_text f (text cs) = f cs
on_text f (closed ss) = hidden

-- the text in two parts of which the left has n characters or as few more as let both match
abbrev pub shortest_split : (List ℕ → Match) → (List ℕ → Match) → List ℕ → List ℕ → Match
shortest_split p q left [] = and_also (p left) (q [])
shortest_split p q left (c ∷ cs) = or_else (and_also (p left) (q (c ∷ cs))) (shortest_split p q (left ++ c ∷ []) cs)

-- whether it matches
abbrev pub is_matched : Match → Bool
is_matched (matched bs) = true
is_matched m = false

-- whether the text is cut into parts that p matches: the first part begins with what is held
abbrev pub repeats : (List ℕ → Match) → List ℕ → List ℕ → Bool
repeats p held [] = length held == 0 || is_matched (p held)
repeats p held (c ∷ cs) =
    (not (length held == 0) && is_matched (p held) && repeats p (c ∷ []) cs) || repeats p (held ++ c ∷ []) cs

-- each pattern on each value, in order
abbrev pub match_all : List (Subject → Match) → List Param → Match
match_all [] [] = matched []
match_all (p ∷ ps) (v ∷ vs) = and_also (p (parameter v)) (match_all ps vs)
match_all ps vs = differs

-- the pattern of each label on its field of a record
abbrev pub match_fields : List (List ℕ × (Subject → Match)) → List (List ℕ × Param) → Match
match_fields [] fs = matched []
match_fields (p ∷ ps) fs = option_map_or (λ v. and_also (p.1 (parameter v)) (match_fields ps fs)) (field_of p.0 fs) differs

-- a layer on a parameter; a whole name is a constructor
abbrev pub match_parameter : Pattern-F (Subject → Match) → Param-F Param → Match
match_parameter (Pattern-F.Con m (Reference-V.Whole w) ps place) (Param-F.Con c vs) =
    if same_whole w c then match_all ps vs else differs
match_parameter (Pattern-F.Name (Reference-V.Whole w) place) (Param-F.Con c vs) =
    if same_whole w c then match_all [] vs else differs
match_parameter (Pattern-F.Num n place) (Param-F.Ints m) = matched_if (n == m)
match_parameter (Pattern-F.Fields fs place) (Param-F.Record gs) = match_fields (label_by_label fs) gs
match_parameter (Pattern-F.Tuple ps place) (Param-F.Record gs) = match_fields (tuple_fields ps) gs
match_parameter p v = differs

-- what a layer matches, from what its parts match; a name that is still as written is a variable
abbrev pub match_step : Pattern-F (Subject → Match) → Subject → Match
match_step (Pattern-F.Or p q place) s = or_else (p s) (q s)
match_step (Pattern-F.Seq p q place) s = on_text (shortest_split (λ cs. p (text cs)) (λ cs. q (text cs)) []) s
match_step (Pattern-F.Star p place) s = on_text (λ cs. matched_if (repeats (λ ds. p (text ds)) [] cs)) s
match_step (Pattern-F.As x p place) s = and_also (matched ((x, subject_value s) ∷ [])) (p s)
match_step (Pattern-F.Any place) s = matched []
match_step (Pattern-F.One place) s = on_text (λ cs. matched_if (length cs == 1)) s
match_step (Pattern-F.Name (Reference-V.Written x) place) s = matched ((x, subject_value s) ∷ [])
match_step (Pattern-F.Text t place) s = on_text (λ cs. matched_if (bytes_eq cs (chars t))) s
match_step p (parameter v) = match_parameter p (out-Param v)
match_step p s = differs

-- what a pattern makes of a subject: its variables where it matches
abbrev pub match_of : Pattern → Subject → Match
match_of = fold-Pattern (Subject → Match) match_step
