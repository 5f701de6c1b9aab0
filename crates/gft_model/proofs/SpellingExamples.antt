-- Worked examples of the grammar: a term, a pattern, judgements and a module that tokens spell, and how
-- a body is cut into slices.
use Rattle.std.proofs.Common.{◌++◌, true, not, Option, sym, ◌∙◌, suc, arith, ◌≡◌, refl, ℕ, List, [], ◌∷◌, Some, None}
use Rattle.std.specs.Prelude.{codes}
use Rattle.gft_core.specs.declared.place.Place.{Place}
use Rattle.gft_syntax.specs.declared.judgement.Definition.TheVariants as D
use Rattle.gft_syntax.specs.declared.judgement.Judgement.{Judgement}
use Rattle.gft_syntax.specs.declared.judgement.Judgement.TheVariants as J
use Rattle.gft_syntax.specs.declared.judgement.Keyword.{Keyword}
use Rattle.gft_syntax.specs.declared.judgement.Keyword.TheVariants as K
use Rattle.gft_syntax.specs.declared.module.Header.TheVariants as H
use Rattle.gft_syntax.specs.declared.module.Module.{Module}
use Rattle.gft_syntax.specs.declared.module.Inherited.TheVariants.{Whole}
use Rattle.gft_syntax.specs.declared.module.Inherited.{Inherited}
use Rattle.gft_syntax.specs.declared.module.Rest.{Rest}
use Rattle.gft_syntax.specs.declared.module.Rest.TheVariants.{Own, With}
use Rattle.gft_syntax.specs.declared.pattern.Pattern.{Pattern, roll-Pattern}
use Rattle.gft_syntax.specs.declared.pattern.Pattern.TheOpen as P
use Rattle.gft_syntax.specs.declared.pattern.Pattern.TheViews.{out-roll-Pattern}
use Rattle.gft_syntax.specs.declared.reference.Reference.TheVariants.{Written}
use Rattle.gft_syntax.specs.declared.term.Sort.TheVariants as Sort-V
use Rattle.gft_syntax.specs.declared.term.Term.{Term, roll-Term}
use Rattle.gft_syntax.specs.declared.term.Term.TheOpen as T
use Rattle.gft_syntax.specs.declared.term.Term.TheViews.{out-roll-Term}
use Rattle.gft_syntax.specs.declared.token.SourceToken.{SourceToken}
use Rattle.gft_syntax.specs.declared.token.TokenForm.{TokenForm}
use Rattle.gft_syntax.specs.declared.token.TokenForm.TheVariants.{Identifier, Reserved, Quoted, Symbol}
use Rattle.gft_syntax.specs.declared.token.Reserved.TheVariants as W
use Rattle.gft_syntax.specs.declared.token.Symbol.TheVariants as S
use Rattle.gft_model.specs.Grammar as F
use Rattle.gft_model.specs.Grammar.{Spells, SpellsTerm, SpellsPattern, Tokens, exp3, exp, exp4, patt, listed, inherited, term, placed}
use Rattle.gft_model.proofs.GrammarRules.{Spells as IsRuled, ruled, below_exp, below_exp1, below_exp2, below_exp3, below_exp4, below_exp5, below_patt, below_patt1, below_patt2, below_patt3, some, literal, empty, table_over, fields, sort, strings, constructor_with, whole, instance_of, one, none, a_placed_name, infix_term, tighter_term, glue, selection, function_type, variable, infix_pattern, tighter_pattern, in_sequence, named_pattern, text_pattern}
use Rattle.gft_model.proofs.GrammarTable.{tabled}
use Rattle.gft_model.specs.ModuleGrammar.{AtEnd, SpellsJudgement, SpellsRest, incomplete_module, opening_body, typed_oper, by_term, parameter_type, linearization, module_of, a_concrete, functor, functor_with_body, inherited_alone, inherited_before, after_semicolon, SpellsSlice, slices_of, category, function, with_keyword, goes_on, no_slice, empty_slice, slice, closed_body, plain_module, an_abstract, nothing_before, own_body, at_once, SpellsModule, a_module}
use Rattle.gft_model.proofs.ReadingTokens.{after, past, seen, named, from, then, given}
use Rattle.gft_model.proofs.Descent.{descend, read}
use Rattle.gft_model.proofs.Beginnings.{begun, impossible}
use Rattle.gft_model.proofs.Claims.{reads}
use Rattle.gft_model.proofs.DescentLaws.{complete}
use Rattle.gft_model.proofs.FirstTokens.{goes_on as continues}
use Rattle.gft_model.proofs.SliceLaws.{same-part, same-rest, at as stops}
use Rattle.gft_model.proofs.ModuleLaws.{forms-agree, not-end, ends}

abbrev place : ℕ → Place
place col = record { file = 0; line = 1; col = col }

abbrev at : ℕ → TokenForm → SourceToken
at col form = record { form = form; place = place col }

abbrev word : ℕ → List ℕ → SourceToken
word col x = at col (Identifier x)

abbrev var : ℕ → List ℕ → Term
var col x = roll-Term (T.Var (Written x) (place col))

-- a name is a term, of each level
name_at : (col : ℕ) (x : List ℕ) (rest : Tokens) → IsRuled (term exp4) (word col x ∷ rest) (var col x) rest
name_at col x rest =
    tighter_term below_exp4 (tighter_term below_exp5 (variable refl (out-roll-Term (T.Var (Written x) (place col)))))

name_as_exp : (col : ℕ) (x : List ℕ) (rest : Tokens) → IsRuled (term exp) (word col x ∷ rest) (var col x) rest
name_as_exp col x rest =
    tighter_term below_exp (tighter_term below_exp1 (tighter_term below_exp2 (tighter_term below_exp3 (name_at col x rest))))

-- x + y ! z is x + (y ! z)
pub sum_of_selection : SpellsTerm exp
    (word 1 (codes "x") ∷ at 3 (Symbol S.Plus) ∷ word 5 (codes "y") ∷ at 7 (Symbol S.Exclamation) ∷ word 9 (codes "z") ∷ [])
    (roll-Term (T.Glue (var 1 (codes "x")) (roll-Term (T.Select (var 5 (codes "y")) (var 9 (codes "z")) (place 5))) (place 1))) []
sum_of_selection = tabled
    (tighter_term below_exp (tighter_term below_exp1 (infix_term glue (tighter_term below_exp3 (name_at 1 (codes "x") _)) refl
    (tighter_term below_exp2 (infix_term selection (tighter_term below_exp3 (name_at 5 (codes "y") _)) refl (name_at 9 (codes "z") []) refl (out-roll-Term _)))
    refl (out-roll-Term _))))

-- x + "y", the pattern of a text that ends in y
pub ends_in_y : SpellsPattern patt (word 1 (codes "x") ∷ at 3 (Symbol S.Plus) ∷ at 5 (Quoted (codes "y") (codes "y")) ∷ [])
    (roll-Pattern (P.Seq (roll-Pattern (P.Name (Written (codes "x")) (place 1))) (roll-Pattern (P.Text (codes "y") (place 5))) (place 1))) []
ends_in_y = tabled
    (tighter_pattern below_patt (infix_pattern in_sequence
    (tighter_pattern below_patt1 (tighter_pattern below_patt2 (tighter_pattern below_patt3 (named_pattern refl (out-roll-Pattern _)))))
    refl (tighter_pattern below_patt2 (tighter_pattern below_patt3 (text_pattern (codes "y", refl) (out-roll-Pattern _))))
    refl (out-roll-Pattern _)))

-- C x "a", a constructor with its arguments
pub constructor_pattern : SpellsPattern patt (word 1 (codes "C") ∷ word 3 (codes "x") ∷ at 5 (Quoted (codes "a") (codes "a")) ∷ [])
    (roll-Pattern (P.Con None (Written (codes "C")) (roll-Pattern (P.Name (Written (codes "x")) (place 3)) ∷ roll-Pattern (P.Text (codes "a") (place 5)) ∷ []) (place 1))) []
constructor_pattern = tabled
    (tighter_pattern below_patt (tighter_pattern below_patt1 (constructor_with refl
    (some (named_pattern refl (out-roll-Pattern _)) (some (text_pattern (codes "a", refl) (out-roll-Pattern _)) none)) (out-roll-Pattern _))))

-- no pattern begins with a minus
pub minus_is_no_pattern : (ts : Tokens) (p : Pattern) → ¬ (SpellsPattern patt (at 1 (Symbol S.Minus) ∷ ts) p [])
minus_is_no_pattern ts p d = impossible (begun (ruled d))

-- table {} {} is a table over {}, with no branch
pub table_over_nothing : SpellsTerm exp3
    (at 1 (Reserved W.Table) ∷ at 7 (Symbol S.LeftBrace) ∷ at 8 (Symbol S.RightBrace) ∷ at 10 (Symbol S.LeftBrace) ∷ at 11 (Symbol S.RightBrace) ∷ [])
    (roll-Term (T.TableOf (Some (roll-Term (T.Fields [] (place 7)))) [] (place 1))) []
table_over_nothing = tabled (table_over refl (fields refl empty refl refl (out-roll-Term _)) refl empty refl (out-roll-Term _))

-- abstract Hello = {cat S ; X ; fun Greet : X -> S ;}
abbrev cat_s : Tokens
cat_s = at 19 (Reserved W.Cat) ∷ word 23 (codes "S") ∷ []

abbrev x_alone : Tokens
x_alone = word 27 (codes "X") ∷ []

abbrev fun_greet : Tokens
fun_greet =
    at 31 (Reserved W.Fun) ∷ word 35 (codes "Greet") ∷ at 41 (Symbol S.Colon) ∷ word 43 (codes "X") ∷ at 45 (Symbol S.Arrow)
    ∷ word 48 (codes "S") ∷ []

abbrev hello : Tokens
hello =
    at 1 (Reserved W.Abstract) ∷ word 10 (codes "Hello") ∷ at 16 (Symbol S.Equals) ∷ at 18 (Symbol S.LeftBrace)
    ∷ at 19 (Reserved W.Cat) ∷ word 23 (codes "S") ∷ at 25 (Symbol S.Semicolon) ∷ word 27 (codes "X") ∷ at 29 (Symbol S.Semicolon)
    ∷ at 31 (Reserved W.Fun) ∷ word 35 (codes "Greet") ∷ at 41 (Symbol S.Colon) ∷ word 43 (codes "X") ∷ at 45 (Symbol S.Arrow)
    ∷ word 48 (codes "S") ∷ at 50 (Symbol S.Semicolon) ∷ at 51 (Symbol S.RightBrace) ∷ []

abbrev greet_type : Term
greet_type = roll-Term (T.Arrow [] (var 43 (codes "X")) (var 48 (codes "S")) (place 43))

abbrev hello_module : Module
hello_module =
    record {
      header = H.Abstract (placed (codes "Hello") (word 10 (codes "Hello")));
      rest = Own [] (record {
        opened = [];
        judgements =
            J.Cat (placed (codes "S") (word 23 (codes "S"))) [] ∷ J.Cat (placed (codes "X") (word 27 (codes "X"))) []
            ∷ J.Fun (placed (codes "Greet") (word 35 (codes "Greet")) ∷ []) greet_type ∷ [];
      });
    }

abbrev hello_body : Tokens
hello_body =
    cat_s ++ at 25 (Symbol S.Semicolon) ∷ x_alone ++ at 29 (Symbol S.Semicolon) ∷ fun_greet
    ++ at 50 (Symbol S.Semicolon) ∷ at 51 (Symbol S.RightBrace) ∷ []

hello_slices : slices_of hello_body ≡ (cat_s ∷ x_alone ∷ fun_greet ∷ [] ∷ [], Some [])
hello_slices = refl

-- the second slice goes on with the keyword of the first, and the last one is empty
pub hello_is_spelled : SpellsModule hello hello_module
hello_is_spelled =
    a_module (plain_module an_abstract refl refl) refl
    (own_body nothing_before (closed_body {ts = hello_body} refl hello_slices
    (slice (with_keyword refl (category refl (tabled none)))
    (slice (goes_on (category refl (tabled none)))
    (slice (with_keyword refl (function (tabled (one (a_placed_name refl))) refl
    (tabled (infix_term function_type (name_at 43 (codes "X") _) refl (name_as_exp 48 (codes "S") []) refl (out-roll-Term _)))))
    (empty_slice no_slice)))))) at_once

-- oper mk : Str = "two"
abbrev str_at : ℕ → Term
str_at col = roll-Term (T.Sort Sort-V.Str (place col))

abbrev two_at : ℕ → Term
two_at col = roll-Term (T.Lit (codes "two") (place col))

str_as_exp : (col : ℕ) (rest : Tokens) → IsRuled (term exp) (at col (Reserved W.Str) ∷ rest) (str_at col) rest
str_as_exp col rest =
    tighter_term below_exp (tighter_term below_exp1 (tighter_term below_exp2 (tighter_term below_exp3 (tighter_term below_exp4
    (tighter_term below_exp5 (sort strings refl (out-roll-Term (T.Sort Sort-V.Str (place col)))))))))

two_as_exp : (col : ℕ) (rest : Tokens) → IsRuled (term exp) (at col (Quoted (codes "two") (codes "two")) ∷ rest) (two_at col) rest
two_as_exp col rest =
    tighter_term below_exp (tighter_term below_exp1 (tighter_term below_exp2 (tighter_term below_exp3 (tighter_term below_exp4
    (tighter_term below_exp5 (literal (codes "two", refl) (out-roll-Term (T.Lit (codes "two") (place col)))))))))

pub oper_of_two : SpellsJudgement K.Oper
    (word 21 (codes "mk") ∷ at 24 (Symbol S.Colon) ∷ at 26 (Reserved W.Str) ∷ at 30 (Symbol S.Equals) ∷ at 32 (Quoted (codes "two") (codes "two")) ∷ [])
    (J.OperTyped (placed (codes "mk") (word 21 (codes "mk")) ∷ []) (str_at 26) (D.Term (two_at 32)))
oper_of_two =
    typed_oper (tabled (one (a_placed_name refl))) refl (tabled (str_as_exp 26 _)) refl (by_term (tabled (two_as_exp 32 [])))

-- param declares one name: param P, Q is no judgement
pub two_parameters : (j : Judgement) → ¬ (SpellsJudgement K.Param (word 7 (codes "P") ∷ at 8 (Symbol S.Comma) ∷ word 10 (codes "Q") ∷ []) j)
two_parameters j (parameter_type h i d) = cc
two_parameters j (linearization w d p h e) = elim w [ ]

-- concrete HiEng of Hi = HiI with (Lex = LexEng) ;
pub functor_is_spelled : SpellsModule
    (at 1 (Reserved W.Concrete) ∷ word 10 (codes "HiEng") ∷ at 16 (Reserved W.Of) ∷ word 19 (codes "Hi") ∷ at 22 (Symbol S.Equals)
    ∷ word 24 (codes "HiI") ∷ at 28 (Reserved W.With) ∷ at 33 (Symbol S.LeftParenthesis) ∷ word 34 (codes "Lex") ∷ at 38 (Symbol S.Equals)
    ∷ word 40 (codes "LexEng") ∷ at 46 (Symbol S.RightParenthesis) ∷ at 48 (Symbol S.Semicolon) ∷ [])
    (record {
      header = H.Concrete (placed (codes "HiEng") (word 10 (codes "HiEng"))) (placed (codes "Hi") (word 19 (codes "Hi")));
      rest = With [] (Whole (placed (codes "HiI") (word 24 (codes "HiI"))))
          (record { interface = placed (codes "Lex") (word 34 (codes "Lex")); instance = placed (codes "LexEng") (word 40 (codes "LexEng")) } ∷ []) None;
    })
functor_is_spelled =
    a_module (module_of a_concrete refl refl refl refl) refl
    (functor nothing_before (tabled (whole refl)) refl (tabled (one (instance_of refl refl refl refl refl)))) (after_semicolon refl)

-- abstract A = B {} is no module: before its body an inherited module has **
abbrev no_stars : Tokens
no_stars = word 14 (codes "B") ∷ at 16 (Symbol S.LeftBrace) ∷ at 17 (Symbol S.RightBrace) ∷ []

inherits_b : Spells (listed S.Comma inherited) no_stars (Whole (placed (codes "B") (word 14 (codes "B"))) ∷ []) (at 16 (Symbol S.LeftBrace) ∷ at 17 (Symbol S.RightBrace) ∷ [])
inherits_b = tabled (one (whole refl))

next_is : {rest : Tokens} {s : SourceToken} {hs : List Inherited} {f : TokenForm} →
    Spells (listed S.Comma inherited) no_stars hs (s ∷ rest) → s.form ≡ f → not (continues (listed S.Comma inherited) f) ≡ true → f ≡ Symbol S.LeftBrace
next_is d h stop =
    sym h ∙ forms-agree (same-rest (listed S.Comma inherited) refl (tt, refl) d (stops (listed S.Comma inherited) h stop) inherits_b refl)

no_rest : (r : Rest) (end : Tokens) → SpellsRest no_stars r end → AtEnd end → ⊥
no_rest r end (own_body nothing_before (closed_body h i d)) e = cc
no_rest r end (own_body nothing_before (opening_body h d i j k f)) e = cc
no_rest r end (own_body (inherited_before d h) b) e = let wrong = next_is d h refl in cc
no_rest r end (inherited_alone d) e =
    not-end e (same-rest (listed S.Comma inherited) refl (tt, refl) d (ends (listed S.Comma inherited) e refl) inherits_b refl) refl refl
no_rest r end (functor nothing_before d h f) e = let wrong = next_is (F.one d) h refl in cc
no_rest r end (functor (inherited_before d h) f i g) e = let wrong = next_is d h refl in cc
no_rest r end (functor_with_body nothing_before d h f i b) e = let wrong = next_is (F.one d) h refl in cc
no_rest r end (functor_with_body (inherited_before d h) f i g j b) e = let wrong = next_is d h refl in cc

pub no_module : (m : Module) → ¬ (SpellsModule (at 1 (Reserved W.Abstract) ∷ word 10 (codes "A") ∷ at 12 (Symbol S.Equals) ∷ no_stars) m)
no_module m (a_module {end = end} {r = r} (plain_module k h i) j d e) = no_rest r end d e
no_module m (a_module (module_of k h i j l) g d e) = cc
no_module m (a_module (incomplete_module h i j k l) g d e) = cc

-- a body is cut outside brackets and lets: {x ; y} and let x ; in stay whole, and } ends the body
pub cut_outside_brackets :
    slices_of (word 1 (codes "a") ∷ at 2 (Symbol S.LeftBrace) ∷ word 3 (codes "x") ∷ at 4 (Symbol S.Semicolon) ∷ at 5 (Symbol S.RightBrace)
    ∷ at 6 (Symbol S.Semicolon) ∷ word 7 (codes "b") ∷ at 8 (Symbol S.RightBrace) ∷ at 9 (Symbol S.Semicolon) ∷ [])
    ≡ (
      (word 1 (codes "a") ∷ at 2 (Symbol S.LeftBrace) ∷ word 3 (codes "x") ∷ at 4 (Symbol S.Semicolon) ∷ at 5 (Symbol S.RightBrace) ∷ [])
          ∷ (word 7 (codes "b") ∷ []) ∷ [],
      Some (at 9 (Symbol S.Semicolon) ∷ []),
    )
cut_outside_brackets = refl

-- an in ends its let also from within a bracket that was opened after the let
pub in_within_brackets :
    slices_of (at 1 (Reserved W.Let) ∷ at 2 (Symbol S.LeftParenthesis) ∷ at 3 (Symbol S.Semicolon) ∷ at 4 (Reserved W.InWord)
    ∷ at 5 (Symbol S.RightParenthesis) ∷ at 6 (Symbol S.Semicolon) ∷ at 7 (Symbol S.RightBrace) ∷ [])
    ≡ (
      (at 1 (Reserved W.Let) ∷ at 2 (Symbol S.LeftParenthesis) ∷ at 3 (Symbol S.Semicolon) ∷ at 4 (Reserved W.InWord)
          ∷ at 5 (Symbol S.RightParenthesis) ∷ []) ∷ [] ∷ [],
      Some [],
    )
in_within_brackets = refl

-- nothing is after a body that does not end
pub no_end : slices_of (word 1 (codes "a") ∷ at 2 (Symbol S.LeftBrace) ∷ at 3 (Symbol S.RightBrace) ∷ [])
    ≡ ((word 1 (codes "a") ∷ at 2 (Symbol S.LeftBrace) ∷ at 3 (Symbol S.RightBrace) ∷ []) ∷ [], None)
no_end = refl

-- those tokens are no other term: + does not bind x and y first
pub sum_in_one_way : (e : Term) → SpellsTerm exp
    (word 1 (codes "x") ∷ at 3 (Symbol S.Plus) ∷ word 5 (codes "y") ∷ at 7 (Symbol S.Exclamation) ∷ word 9 (codes "z") ∷ []) e [] →
    e ≡ roll-Term (T.Glue (var 1 (codes "x")) (roll-Term (T.Select (var 5 (codes "y")) (var 9 (codes "z")) (place 5))) (place 1))
sum_in_one_way e d = same-part (term exp) refl tt d refl sum_of_selection refl

-- case x of { -A => "a" } is no term: no pattern begins with a minus
abbrev negated : Tokens
negated =
    at 1 (Reserved W.Case) ∷ word 6 (codes "x") ∷ at 8 (Reserved W.Of) ∷ at 11 (Symbol S.LeftBrace) ∷ at 13 (Symbol S.Minus) ∷ word 14 (codes "A")
    ∷ at 16 (Symbol S.DoubleArrow) ∷ at 19 (Quoted (codes "a") (codes "a")) ∷ at 23 (Symbol S.RightBrace) ∷ []

abbrev ten : ℕ → ℕ
ten n = suc (suc (suc (suc (suc (suc (suc (suc (suc (suc n)))))))))

unread : (n : ℕ) → descend (ten (ten n)) (read (term exp)) negated ≡ None
unfolding after past seen named from then given
unread n = refl

pub no_negated_pattern : (e : Term) → ¬ (SpellsTerm exp negated e [])
no_negated_pattern e d =
    let g = reads (term exp) (ruled d) (complete (ruled d)) tt refl in
    let wrong : ◌≡◌ {A = Option (Term × Tokens)} None (Some (e, [])) = sym (unread g.bound) ∙ g.value (ten (ten g.bound)) (omega arith) in cc

-- the first slice has a keyword
pub no_keyword : (k : Keyword) (j : Judgement) → ¬ (SpellsSlice None x_alone k j)
no_keyword k j (with_keyword h d) = cc
