-- Reading by descent: a function that reads each part of the grammar in one way, by what it has read and
-- the next token or two. Its steps are bounded by a number.
use Rattle.std.specs.Prelude.{ℕ, zero, suc, List, [], ◌∷◌, flat_map, Bool, true, false, not, Option, Some, None}
use Rattle.std.specs.List.{list_all}
use Rattle.gft_core.specs.declared.place.Place.{Place}
use Rattle.gft_syntax.specs.declared.bind.Bind.{Bind}
use Rattle.gft_syntax.specs.declared.bind.Bind.TheVariants.{Variable, Nothing}
use Rattle.gft_syntax.specs.declared.module.Inherited.{Inherited}
use Rattle.gft_syntax.specs.declared.module.Inherited.TheVariants.{Whole, Only, Except}
use Rattle.gft_syntax.specs.declared.module.Opened.{Opened}
use Rattle.gft_syntax.specs.declared.module.Opened.TheVariants.{Plain, Qualified}
use Rattle.gft_syntax.specs.declared.pattern.Pattern.{Pattern, roll-Pattern}
use Rattle.gft_syntax.specs.declared.pattern.Pattern.TheOpen as P
use Rattle.gft_syntax.specs.declared.reference.PlacedName.{PlacedName}
use Rattle.gft_syntax.specs.declared.reference.Reference.TheVariants.{Written}
use Rattle.gft_syntax.specs.declared.term.Local.{Local}
use Rattle.gft_syntax.specs.declared.term.Local.TheVariants.{Value, Label, TypedValue}
use Rattle.gft_syntax.specs.declared.term.Sort.{Sort}
use Rattle.gft_syntax.specs.declared.term.Sort.TheVariants as Sort-V
use Rattle.gft_syntax.specs.declared.term.Term.{Term, roll-Term}
use Rattle.gft_syntax.specs.declared.term.Term.TheOpen as T
use Rattle.gft_syntax.specs.declared.token.Reserved.{Reserved as Word}
use Rattle.gft_syntax.specs.declared.token.Reserved.TheVariants as W
use Rattle.gft_syntax.specs.declared.token.SourceToken.{SourceToken}
use Rattle.gft_syntax.specs.declared.token.Symbol.{Symbol as Sign}
use Rattle.gft_syntax.specs.declared.token.Symbol.TheVariants as S
use Rattle.gft_syntax.specs.declared.token.TokenForm.{TokenForm}
use Rattle.gft_syntax.specs.declared.token.TokenForm.TheVariants.{Identifier, Reserved, Number, Quoted, Symbol}
use Rattle.gft_syntax.specs.Parts.{list_name, is_value}
use Rattle.gft_model.proofs.GrammarRules.{Tokens, placed, distinct, are_fields, Level, exp, exp1, exp2, exp3, exp4, exp5, exp6, patt, patt1, patt2, patt3, patt4, Part, term, pattern, local, branch, field, alternative, context, constructor, name, bind, placed_name, category_name, inherited, opened, substitution, listed, semicolons, many, Meaning, TermForm}
use Rattle.gft_model.proofs.ReadingTokens.{after, past, seen, named, from, then, given, quiet, first}
use Rattle.gft_model.proofs.FirstTokens.{begins_at, begins_atom, begins_pattern, binding_at, branches_at, is_closer, is_key, is_sign, in_key, where_key, table_key, case_key, of_key, variants_key}

-- what a descent does next: it reads a part, or goes on with a term or a pattern that begins at a place
pub data Job : Type 0 where
  read : Part → Job
  project apply select : Term → Place → Job
  sequence alternate : Pattern → Place → Job

abbrev pub Result : Job → Type 0
Result (read g) = Meaning g
Result (project e p) = Term
Result (apply e p) = Term
Result (select e p) = Term
Result (sequence q p) = Pattern
Result (alternate q p) = Pattern

abbrev pub Reader : Type 0
Reader = (j : Job) → Tokens → Option (Result j × Tokens)

-- names, and what headers are made of
abbrev pub read_bind : SourceToken → Tokens → TokenForm → Option (Bind × Tokens)
read_bind t us (Identifier x) = Some (Variable x t.place, us)
read_bind t us (Symbol S.Underscore) = Some (Nothing t.place, us)
read_bind t us f = None

abbrev pub read_category : SourceToken → Tokens → TokenForm → Option (PlacedName × Tokens)
read_category t us (Identifier x) = Some (placed x t, us)
read_category t us (Symbol S.LeftBracket) =
    named us (λ x u vs. past (is_sign S.RightBracket) vs (λ ws. Some (placed (list_name x) t, ws)))
read_category t us f = None

abbrev pub read_opened : SourceToken → Tokens → TokenForm → Option (Opened × Tokens)
read_opened t us (Identifier x) = Some (Plain (placed x t), us)
read_opened t us (Symbol S.LeftParenthesis) =
    named us (λ q s vs. past (is_sign S.Equals) vs (λ ws. named ws (λ x u xs.
    past (is_sign S.RightParenthesis) xs (λ zs. Some (Qualified (placed q s) (placed x u), zs)))))
read_opened t us f = None

abbrev pub read_restriction : Reader → PlacedName → SourceToken → Tokens → TokenForm → Option (Inherited × Tokens)
read_restriction r n t us (Symbol S.LeftBracket) =
    after (r (read (listed S.Comma placed_name)) us) (λ ns vs. past (is_sign S.RightBracket) vs (λ ws. Some (Only n ns, ws)))
read_restriction r n t us (Symbol S.Minus) =
    past (is_sign S.LeftBracket) us (λ vs. after (r (read (listed S.Comma placed_name)) vs) (λ ns ws.
    past (is_sign S.RightBracket) ws (λ zs. Some (Except n ns, zs))))
read_restriction r n t us f = Some (Whole n, t ∷ us)

-- lists
abbrev pub read_more : {A : Type 0} → Option (List A × Tokens) → A → SourceToken → Tokens → Bool → Option (List A × Tokens)
read_more rest a t us true = after rest (λ bs vs. Some (a ∷ bs, vs))
read_more rest a t us false = Some (a ∷ [], t ∷ us)

abbrev pub read_items : Reader → (g : Part) → Tokens → Bool → Option (List (Meaning g) × Tokens)
read_items r g ts true = Some ([], ts)
read_items r g ts false =
    after (r (read g) ts) (λ a us. then (a ∷ []) us (λ t vs f. read_more (r (read (semicolons g)) vs) a t vs (is_sign S.Semicolon f)))

abbrev pub read_many : Reader → (g : Part) → Tokens → Bool → Option (List (Meaning g) × Tokens)
read_many r g ts true =
    after (r (read g) ts) (λ a us. after (r (read (many g)) us) (λ bs vs. Some (a ∷ bs, vs)))
read_many r g ts false = Some ([], ts)

-- parts of records, branches and contexts
abbrev pub read_type : Reader → List (List ℕ) → Term → SourceToken → Tokens → Bool → Option (Local Term × Tokens)
read_type r xs a t us true = after (r (read (term exp)) us) (λ e vs. Some (TypedValue xs a e, vs))
read_type r xs a t us false = Some (Label xs a, t ∷ us)

abbrev pub read_local : Reader → List (List ℕ) → Tokens → TokenForm → Option (Local Term × Tokens)
read_local r xs us (Symbol S.Equals) = after (r (read (term exp)) us) (λ e vs. Some (Value xs e, vs))
read_local r xs us (Symbol S.Colon) =
    after (r (read (term exp)) us) (λ a vs. then (Label xs a) vs (λ t ws f. read_type r xs a t ws (is_sign S.Equals f)))
read_local r xs us f = None

abbrev pub read_context : Reader → Tokens → Bool → Option (Meaning context × Tokens)
read_context r ts true =
    past (is_sign S.LeftParenthesis) ts (λ us. after (r (read (listed S.Comma bind)) us) (λ xs vs.
    past (is_sign S.Colon) vs (λ ws. after (r (read (term exp)) ws) (λ a ys. past (is_sign S.RightParenthesis) ys (λ zs.
    Some (record { binds = xs; of_type = a }, zs))))))
read_context r ts false =
    after (r (read (term exp6)) ts) (λ a us. Some (record { binds = []; of_type = a }, us))

-- atoms of terms
abbrev pub sort_of : Word → Option Sort
sort_of W.Str = Some Sort-V.Str
sort_of W.TypeWord = Some Sort-V.TypeSort
sort_of W.ParamTypeWord = Some Sort-V.ParamSort
sort_of W.Ints = Some Sort-V.Ints
sort_of W.Predef = Some Sort-V.Predef
sort_of w = None

abbrev pub read_sort : Place → Tokens → Option Sort → Option (Term × Tokens)
read_sort p us (Some s) = Some (roll-Term (T.Sort s p), us)
read_sort p us None = None

abbrev pub in_brackets : Place → Tokens → TokenForm → Option (Term × Tokens)
in_brackets p us (Symbol S.RightBracket) = Some (roll-Term (T.Empty p), us)
in_brackets p us (Identifier x) = past (is_sign S.RightBracket) us (λ vs. Some (roll-Term (T.ListCat (Written x) p), vs))
in_brackets p us (Quoted x s) = past (is_sign S.RightBracket) us (λ vs. Some (roll-Term (T.Lit x p), vs))
in_brackets p us f = None

abbrev pub typed_or_tuple : Reader → Place → List Term → Tokens → TokenForm → Option (Term × Tokens)
typed_or_tuple r p es us (Symbol S.Greater) = Some (roll-Term (T.Tuple es p), us)
typed_or_tuple r p (e ∷ []) us (Symbol S.Colon) =
    after (r (read (term exp)) us) (λ a vs. past (is_sign S.Greater) vs (λ ws. Some (roll-Term (T.Typed e a p), ws)))
typed_or_tuple r p es us f = None

abbrev pub atom : Reader → Place → Tokens → TokenForm → Option (Term × Tokens)
atom r p us (Identifier x) = Some (roll-Term (T.Var (Written x) p), us)
atom r p us (Number n s) = Some (roll-Term (T.Num n p), us)
atom r p us (Quoted x s) = Some (roll-Term (T.Lit x p), us)
atom r p us (Reserved w) = read_sort p us (sort_of w)
atom r p us (Symbol S.LeftBracket) = seen us (λ t vs f. in_brackets p vs f)
atom r p us (Symbol S.LeftBrace) =
    after (r (read (semicolons local)) us) (λ ls vs. past (is_sign S.RightBrace) vs (λ ws.
    given (are_fields ls) (Some (roll-Term (T.Fields ls p), ws))))
atom r p us (Symbol S.Less) =
    after (r (read (listed S.Comma (term exp))) us) (λ es vs. seen vs (λ t ws f. typed_or_tuple r p es ws f))
atom r p us (Symbol S.LeftParenthesis) =
    after (r (read (term exp)) us) (λ e vs. past (is_sign S.RightParenthesis) vs (λ ws. Some (e, ws)))
atom r p us f = None

-- applications begin with case, with variants, or with a projection
abbrev pub read_head : Reader → Place → Tokens → Bool → Bool → Option (Term × Tokens)
read_head r p ts true b =
    past (is_key case_key) ts (λ us. after (r (read (term exp)) us) (λ e vs. past (is_key of_key) vs (λ ws.
    past (is_sign S.LeftBrace) ws (λ xs. after (r (read (semicolons branch)) xs) (λ cs ys.
    past (is_sign S.RightBrace) ys (λ zs. Some (roll-Term (T.CaseOf e cs p), zs)))))))
read_head r p ts false true =
    past (is_key variants_key) ts (λ us. past (is_sign S.LeftBrace) us (λ vs.
    after (r (read (semicolons (term exp))) vs) (λ es ws. past (is_sign S.RightBrace) ws (λ zs. Some (roll-Term (T.Variants es p), zs)))))
read_head r p ts false false = r (read (term exp5)) ts

abbrev pub read_argument : Reader → Term → Place → Tokens → Bool → Option (Term × Tokens)
read_argument r e p ts true = after (r (read (term exp5)) ts) (λ a us. r (apply (roll-Term (T.App e a p)) p) us)
read_argument r e p ts false = Some (e, ts)

abbrev pub project_by : Reader → Term → Place → SourceToken → Tokens → Bool → Option (Term × Tokens)
project_by r e p t us true = named us (λ x u vs. r (project (roll-Term (T.Proj e x p)) p) vs)
project_by r e p t us false = Some (e, t ∷ us)

-- tables
abbrev pub read_over : Reader → Place → Term → Tokens → TokenForm → Option (Term × Tokens)
read_over r p a us (Symbol S.LeftBrace) =
    after (r (read (semicolons branch)) us) (λ cs vs. past (is_sign S.RightBrace) vs (λ ws. Some (roll-Term (T.TableOf (Some a) cs p), ws)))
read_over r p a us (Symbol S.LeftBracket) =
    after (r (read (semicolons (term exp))) us) (λ es vs. past (is_sign S.RightBracket) vs (λ ws. Some (roll-Term (T.TableList a es p), ws)))
read_over r p a us f = None

abbrev pub read_table : Reader → Place → Tokens → Bool → Option (Term × Tokens)
read_table r p ts true =
    past (is_sign S.LeftBrace) ts (λ us. after (r (read (semicolons branch)) us) (λ cs vs.
    past (is_sign S.RightBrace) vs (λ ws. Some (roll-Term (T.TableOf None cs p), ws))))
read_table r p ts false = after (r (read (term exp6)) ts) (λ a us. seen us (λ t vs f. read_over r p a vs f))

abbrev pub read_operand : Reader → Place → Tokens → Bool → Option (Term × Tokens)
read_operand r p ts true = past (is_key table_key) ts (λ us. read_table r p us (branches_at us))
read_operand r p ts false = r (read (term exp4)) ts

abbrev pub select_by : Reader → Term → Place → SourceToken → Tokens → TokenForm → Option (Term × Tokens)
select_by r e p t us (Symbol S.Exclamation) =
    after (r (read (term exp4)) us) (λ a vs. r (select (roll-Term (T.Select e a p)) p) vs)
select_by r e p t us (Symbol S.DoubleStar) =
    after (r (read (term exp4)) us) (λ a vs. r (select (roll-Term (T.Extend e a p)) p) vs)
select_by r e p t us (Symbol S.Star) =
    after (r (read (term exp4)) us) (λ a vs. r (select (roll-Term (T.Pair e a p)) p) vs)
select_by r e p t us f = Some (e, t ∷ us)

-- forms that group to the right
abbrev pub read_right : Reader → Level → TermForm → Term → Place → SourceToken → Tokens → Bool → Option (Term × Tokens)
read_right r l form e p t us true = after (r (read (term l)) us) (λ a vs. Some (roll-Term (form e a p), vs))
read_right r l form e p t us false = Some (e, t ∷ us)

-- let, lambdas, and what follows an operand
abbrev pub read_let : Reader → Place → List (Local Term) → Tokens → Option (Term × Tokens)
read_let r p ls us =
    past (is_key in_key) us (λ vs. given (list_all is_value ls)
    (after (r (read (term exp)) vs) (λ e ws. Some (roll-Term (T.Let ls e p), ws))))

abbrev pub read_locals : Reader → Place → Tokens → Bool → Option (Term × Tokens)
read_locals r p ts true =
    past (is_sign S.LeftBrace) ts (λ us. after (r (read (semicolons local)) us) (λ ls vs.
    past (is_sign S.RightBrace) vs (λ ws. read_let r p ls ws)))
read_locals r p ts false = after (r (read (semicolons local)) ts) (λ ls us. read_let r p ls us)

abbrev pub read_lambda : Reader → Place → Sign → (List Bind → Term → Place → T.Term-F Term) → Tokens → Option (Term × Tokens)
read_lambda r p s form us =
    after (r (read (listed S.Comma bind)) us) (λ xs vs. past (is_sign s) vs (λ ws.
    after (r (read (term exp)) ws) (λ e zs. Some (roll-Term (form xs e p), zs))))

abbrev pub read_tail : Reader → Place → Tokens → Term → SourceToken → Tokens → TokenForm → Option (Term × Tokens)
read_tail r p ts e t us (Symbol S.Bar) =
    after (r (read (term exp)) us) (λ a vs. Some (roll-Term (T.Alt e a p), vs))
read_tail r p ts e t us (Symbol S.Arrow) =
    after (r (read (term exp4)) ts) (λ a vs. past (is_sign S.Arrow) vs (λ ws.
    after (r (read (term exp)) ws) (λ b zs. Some (roll-Term (T.Arrow [] a b p), zs))))
read_tail r p ts e t us (Symbol S.DoubleArrow) =
    after (r (read (term exp3)) ts) (λ a vs. past (is_sign S.DoubleArrow) vs (λ ws.
    after (r (read (term exp)) ws) (λ b zs. Some (roll-Term (T.TabType a b p), zs))))
read_tail r p ts e t us (Reserved W.Where) =
    after (r (read (term exp3)) ts) (λ a vs. past (is_key where_key) vs (λ ws. past (is_sign S.LeftBrace) ws (λ xs.
    after (r (read (semicolons local)) xs) (λ ls ys. past (is_sign S.RightBrace) ys (λ zs.
    given (list_all is_value ls) (Some (roll-Term (T.Let ls a p), zs)))))))
read_tail r p ts e t us f = Some (e, t ∷ us)

abbrev pub operand_first : Reader → Place → Tokens → Option (Term × Tokens)
operand_first r p ts = after (r (read (term exp1)) ts) (λ e us. then e us (λ t vs f. read_tail r p ts e t vs f))

abbrev pub read_by : Reader → Place → SourceToken → Tokens → TokenForm → Option (Term × Tokens)
read_by r p t us (Symbol S.Backslash) = read_lambda r p S.Arrow T.Fun us
read_by r p t us (Symbol S.DoubleBackslash) = read_lambda r p S.DoubleArrow T.TabFun us
read_by r p t us (Reserved W.Let) = read_locals r p us (first (is_sign S.LeftBrace) us)
read_by r p t us f = operand_first r p (t ∷ us)

abbrev pub read_term : Reader → Place → Tokens → Bool → Option (Term × Tokens)
read_term r p ts true =
    past (is_sign S.LeftParenthesis) ts (λ us. after (r (read (listed S.Comma bind)) us) (λ xs vs.
    past (is_sign S.Colon) vs (λ ws. after (r (read (term exp)) ws) (λ a xs'. past (is_sign S.RightParenthesis) xs' (λ ys.
    past (is_sign S.Arrow) ys (λ zs. after (r (read (term exp)) zs) (λ b rest. Some (roll-Term (T.Arrow xs a b p), rest))))))))
read_term r p ts false = seen ts (λ t us f. read_by r p t us f)

-- patterns
abbrev pub atom_of_pattern : Reader → Place → Tokens → TokenForm → Option (Pattern × Tokens)
atom_of_pattern r p us (Identifier x) = Some (roll-Pattern (P.Name (Written x) p), us)
atom_of_pattern r p us (Number n s) = Some (roll-Pattern (P.Num n p), us)
atom_of_pattern r p us (Quoted x s) = Some (roll-Pattern (P.Text x p), us)
atom_of_pattern r p us (Reserved w) = None
atom_of_pattern r p us (Symbol S.Underscore) = Some (roll-Pattern (P.Any p), us)
atom_of_pattern r p us (Symbol S.Question) = Some (roll-Pattern (P.One p), us)
atom_of_pattern r p us (Symbol S.LeftBrace) =
    after (r (read (semicolons field)) us) (λ fs vs. past (is_sign S.RightBrace) vs (λ ws.
    given (distinct (flat_map (λ f. f.labels) fs)) (Some (roll-Pattern (P.Fields fs p), ws))))
atom_of_pattern r p us (Symbol S.Less) =
    after (r (read (listed S.Comma (pattern patt))) us) (λ ps vs. past (is_sign S.Greater) vs (λ ws. Some (roll-Pattern (P.Tuple ps p), ws)))
atom_of_pattern r p us (Symbol S.LeftParenthesis) =
    after (r (read (pattern patt)) us) (λ q vs. past (is_sign S.RightParenthesis) vs (λ ws. Some (q, ws)))
atom_of_pattern r p us f = None

abbrev pub star_or_as : Reader → Place → Tokens → Pattern → SourceToken → Tokens → TokenForm → Option (Pattern × Tokens)
star_or_as r p ts q t us (Symbol S.Star) = Some (roll-Pattern (P.Star q p), us)
star_or_as r p ts q t us (Symbol S.At) =
    named ts (λ x u vs. past (is_sign S.At) vs (λ ws. after (r (read (pattern patt4)) ws) (λ a zs.
    Some (roll-Pattern (P.As x a p), zs))))
star_or_as r p ts q t us f = Some (q, t ∷ us)

abbrev pub read_constructor : Reader → Place → Tokens → Pattern → Tokens → Bool → Bool → Option (Pattern × Tokens)
read_constructor r p ts q us true b =
    named ts (λ Q t vs. past (is_sign S.Dot) vs (λ ws. named ws (λ x u xs. after (r (read (many (pattern patt4))) xs) (λ ps zs.
    Some (roll-Pattern (P.Con (Some Q) (Written x) ps p), zs)))))
read_constructor r p ts q us false true =
    named ts (λ x t vs. after (r (read (many (pattern patt4))) vs) (λ ps zs.
    Some (roll-Pattern (P.Con None (Written x) ps p), zs)))
read_constructor r p ts q us false false = Some (q, us)

abbrev pub pattern_by : Option (Pattern × Tokens) → Pattern → SourceToken → Tokens → Bool → Option (Pattern × Tokens)
pattern_by next q t us true = next
pattern_by next q t us false = Some (q, t ∷ us)

-- one step of a descent
abbrev pub step : Reader → Reader
step r (read name) ts = named ts (λ x t us. Some (x, us))
step r (read bind) ts = seen ts (λ t us f. read_bind t us f)
step r (read placed_name) ts = named ts (λ x t us. Some (placed x t, us))
step r (read category_name) ts = seen ts (λ t us f. read_category t us f)
step r (read inherited) ts =
    named ts (λ x t us. then (Whole (placed x t)) us (λ u vs f. read_restriction r (placed x t) u vs f))
step r (read opened) ts = seen ts (λ t us f. read_opened t us f)
step r (read substitution) ts =
    past (is_sign S.LeftParenthesis) ts (λ us. named us (λ i s vs. past (is_sign S.Equals) vs (λ ws. named ws (λ j t xs.
    past (is_sign S.RightParenthesis) xs (λ zs. Some (record { interface = placed i s; instance = placed j t }, zs))))))
step r (read (listed s g)) ts =
    after (r (read g) ts) (λ a us. then (a ∷ []) us (λ t vs f. read_more (r (read (listed s g)) vs) a t vs (is_sign s f)))
step r (read (semicolons g)) ts = read_items r g ts (quiet (λ f. not (is_closer f)) ts)
step r (read (many g)) ts = read_many r g ts (begins_at g ts)
step r (read local) ts =
    after (r (read (listed S.Comma name)) ts) (λ xs us. seen us (λ t vs f. read_local r xs vs f))
step r (read branch) ts =
    after (r (read (pattern patt)) ts) (λ p us. past (is_sign S.DoubleArrow) us (λ vs.
    after (r (read (term exp)) vs) (λ e ws. Some (record { pattern = p; body = e }, ws))))
step r (read field) ts =
    after (r (read (listed S.Comma name)) ts) (λ xs us. past (is_sign S.Equals) us (λ vs.
    after (r (read (pattern patt)) vs) (λ p ws. Some (record { labels = xs; pattern = p }, ws))))
step r (read alternative) ts =
    after (r (read (listed S.Comma name)) ts) (λ xs us. past (is_sign S.Colon) us (λ vs.
    after (r (read (term exp)) vs) (λ a ws. past (is_sign S.Equals) ws (λ ys.
    after (r (read (term exp)) ys) (λ e zs. Some (record { names = xs; of_type = a; value = e }, zs))))))
step r (read context) ts = read_context r ts (binding_at ts)
step r (read constructor) ts =
    named ts (λ x t us. after (r (read (many context)) us) (λ cs vs. Some (record { name = placed x t; arguments = cs }, vs)))
step r (read (term exp)) ts = from ts (λ p. read_term r p ts (binding_at ts))
step r (read (term exp1)) ts =
    from ts (λ p. after (r (read (term exp2)) ts) (λ e us. then e us (λ t vs f.
    read_right r exp1 T.Concat e p t vs (is_sign S.DoublePlus f))))
step r (read (term exp2)) ts =
    from ts (λ p. after (r (read (term exp3)) ts) (λ e us. then e us (λ t vs f.
    read_right r exp2 T.Glue e p t vs (is_sign S.Plus f))))
step r (read (term exp3)) ts =
    from ts (λ p. after (read_operand r p ts (first (is_key table_key) ts)) (λ e us. r (select e p) us))
step r (read (term exp4)) ts =
    from ts (λ p. after (read_head r p ts (first (is_key case_key) ts) (first (is_key variants_key) ts)) (λ e us. r (apply e p) us))
step r (read (term exp5)) ts = from ts (λ p. after (r (read (term exp6)) ts) (λ e us. r (project e p) us))
step r (read (term exp6)) ts = seen ts (λ t us f. atom r t.place us f)
step r (read (pattern patt)) ts = from ts (λ p. after (r (read (pattern patt1)) ts) (λ q us. r (alternate q p) us))
step r (read (pattern patt1)) ts = from ts (λ p. after (r (read (pattern patt2)) ts) (λ q us. r (sequence q p) us))
step r (read (pattern patt2)) ts =
    from ts (λ p. after (r (read (pattern patt3)) ts) (λ q us.
    read_constructor r p ts q us (first (is_sign S.Dot) us) (first begins_pattern us)))
step r (read (pattern patt3)) ts =
    from ts (λ p. after (r (read (pattern patt4)) ts) (λ q us. then q us (λ t vs f. star_or_as r p ts q t vs f)))
step r (read (pattern patt4)) ts = seen ts (λ t us f. atom_of_pattern r t.place us f)
step r (project e p) ts = then e ts (λ t us f. project_by r e p t us (is_sign S.Dot f))
step r (apply e p) ts = read_argument r e p ts (first begins_atom ts)
step r (select e p) ts = then e ts (λ t us f. select_by r e p t us f)
step r (sequence q p) ts =
    then q ts (λ t us f. pattern_by (after (r (read (pattern patt2)) us) (λ a vs. r (sequence (roll-Pattern (P.Seq q a p)) p) vs)) q t us (is_sign S.Plus f))
step r (alternate q p) ts =
    then q ts (λ t us f. pattern_by (after (r (read (pattern patt1)) us) (λ a vs. r (alternate (roll-Pattern (P.Or q a p)) p) vs)) q t us (is_sign S.Bar f))

-- a descent of so many steps
abbrev pub descend : ℕ → Reader
descend zero j ts = None
descend (suc n) j ts = step (descend n) j ts
