-- Characters up to a place, and how they go on.
use Rattle.std.proofs.Common.{◌≡◌, ℕ, ◌≤◌, ◌⊎◌, inl, inr, Bool, true, false, not, ◌&&◌, List, [], ◌∷◌, ◌++◌, ap, sym, ◌∙◌, subst, refl, Result, Ok, Err, Option, None, Some, IfSome, arith, append_assoc, append-nil, ⊎_elim}
use Rattle.std.specs.Prelude.{unwrap_or}
use Rattle.std.specs.Char.{is_ascii_digit}
use Rattle.std.proofs.lemmas.Bool.{and_from}
use Rattle.gft_core.specs.declared.tree.Tree.{Tree}
use Rattle.gft_core.specs.Names.{continues_name}
use Rattle.gft_tree.specs.declared.error.TreeErr.{TreeErr}
use Rattle.gft_tree.specs.declared.level.Level.{Level}
use Rattle.gft_tree.specs.declared.level.Level.TheVariants.{Empty, Call}
use Rattle.gft_tree.specs.declared.level.Gap.TheVariants.{Begun, Whole}
use Rattle.gft_tree.specs.Lexemes.{Lexeme, Word, Number, Quoted, Query, Open, Close, Cut, done, space, token, spelled, is_lexeme, ends_before, stops}
use Rattle.gft_tree.specs.Grammar.{IsTree}
use Rattle.gft_tree.specs.Spelling.{Context, outside, after, after_all, all_fit, fits, HasShape}
use Rattle.gft_tree.specs.Faults.{bytes, IsSyntax, GoesOn}
use Rattle.gft_tree.specs.Reading.{read_on, start, finished_gap}
use Rattle.gft_tree.proofs.ClassLemmas.{no_name_goes_on, letter_a}
use Rattle.gft_tree.proofs.TokenLemmas.{Stop, gap, asked, State, fed}
use Rattle.gft_tree.proofs.CutLemmas.{fed_all, fed_none, context, after_fed, over_cut, Leads}
use Rattle.gft_tree.proofs.GrammarLemmas.{over_tree}
use Rattle.gft_tree.proofs.HoldLemmas.{Holds, completes, completion, closers}

-- CUTS

-- a token ends before the same first character, or before one that goes on with none
abbrev pub Neutral : List ℕ → Type 0
Neutral rest = (stops continues_name rest ≡ true) × (stops is_ascii_digit rest ≡ true)

ends_neutral : (t : Lexeme) (cs rest other : List ℕ) → Neutral other → ends_before t (cs ++ rest) ≡ true → ends_before t (cs ++ other) ≡ true
ends_neutral (Word w) [] rest other n h = n.0
ends_neutral (Word w) (c ∷ cs) rest other n h = h
ends_neutral (Number ds) [] rest other n h = n.1
ends_neutral (Number ds) (c ∷ cs) rest other n h = h
ends_neutral (Quoted w) cs rest other n h = refl
ends_neutral Query cs rest other n h = refl
ends_neutral Open cs rest other n h = refl
ends_neutral Close cs rest other n h = refl

pub cut_neutral : {cs : List ℕ} {ts : List Lexeme} {rest : List ℕ} (other : List ℕ) → Neutral other → Cut cs ts rest → Cut cs ts other
cut_neutral other n done = done
cut_neutral other n (space w cut) = space w (cut_neutral other n cut)
cut_neutral other n (token {t} {cs} {rest} h e cut) = token h (ends_neutral t cs rest other n e) (cut_neutral other n cut)

pub cut_append : {cs ds : List ℕ} {ts us : List Lexeme} {x rest : List ℕ} → Cut cs ts x → x ≡ ds ++ rest → Cut ds us rest → Cut (cs ++ ds) (ts ++ us) rest
cut_append done e b = b
cut_append (space w cut) e b = space w (cut_append cut e b)
cut_append {ds} {us} {x} {rest = last} (token {t} {cs} {tokens = ts} h n cut) e b =
    let P : List ℕ → Type 0 = λ y. Cut y (t ∷ (ts ++ us)) last in
    let E : List ℕ → Type 0 = λ y. ends_before t y ≡ true in
    subst P (sym (append_assoc (spelled t) cs ds)) (token h (subst E (ap (λ y. cs ++ y) e ∙ sym (append_assoc cs ds last)) n) (cut_append cut e b))

-- tokens with a space before each
abbrev pub spaced : List Lexeme → List ℕ
spaced [] = []
spaced (t ∷ ts) = 32 ∷ (spelled t ++ spaced ts)

abbrev pub AllLexemes : List Lexeme → Type 0
AllLexemes [] = Unit {0}
AllLexemes (t ∷ ts) = (is_lexeme t ≡ true) × AllLexemes ts

spaced_neutral : (ts : List Lexeme) → Neutral (spaced ts ++ [])
spaced_neutral [] = (refl, refl)
spaced_neutral (t ∷ ts) = (ap not no_name_goes_on.0, refl)

neutral_ends : (t : Lexeme) (rest : List ℕ) → Neutral rest → ends_before t rest ≡ true
neutral_ends (Word w) rest n = n.0
neutral_ends (Number ds) rest n = n.1
neutral_ends (Quoted w) rest n = refl
neutral_ends Query rest n = refl
neutral_ends Open rest n = refl
neutral_ends Close rest n = refl

pub cut_spaced : (ts : List Lexeme) → AllLexemes ts → Cut (spaced ts) ts []
cut_spaced [] h = done
cut_spaced (t ∷ ts) h = space refl (token h.0 (neutral_ends t (spaced ts ++ []) (spaced_neutral ts)) (cut_spaced ts h.1))

closers_lexemes : (outer : List Level) → AllLexemes (closers outer)
closers_lexemes [] = tt
closers_lexemes (l ∷ outer) = (refl, closers_lexemes outer)

completion_lexemes : (outer : List Level) (stop : Stop) → AllLexemes (completion outer stop)
completion_lexemes outer (gap (Begun Empty)) = (and_from _ _ (and_from _ _ letter_a refl) refl, closers_lexemes outer)
completion_lexemes outer (gap (Begun (Call f ts))) = closers_lexemes outer
completion_lexemes outer (gap (Whole t)) = closers_lexemes outer
completion_lexemes outer (asked l) = (refl, closers_lexemes outer)

-- what holds before a place goes on to a tree
pub goes_on : (before rest : List ℕ) (ts : List Lexeme) (outer : List Level) (stop : Stop) → Cut before ts rest → Holds ts outer stop → GoesOn before
goes_on before rest ts outer stop cut h =
    let all = completes ts outer stop h in
    let more = completion outer stop in (
      spaced more,
      all.0,
      (
        ts ++ more,
        cut_append (cut_neutral (spaced more ++ []) (spaced_neutral more) cut) refl (cut_spaced more (completion_lexemes outer stop)),
        all.1,
      ),
    )

-- CONTEXTS

and_both : (a b c : Bool) → ((a && b) && c) ≡ (a && (b && c))
and_both true b c = refl
and_both false b c = refl

pub all_fit-append : (x : Context) (ts us : List Lexeme) → all_fit x (ts ++ us) ≡ (all_fit x ts && all_fit (after_all x ts) us)
all_fit-append x [] us = refl
all_fit-append x (t ∷ ts) us = ap (λ b. fits x t && b) (all_fit-append (after x t) ts us) ∙ sym (and_both (fits x t) _ _)

none_not : (q : State) → None ≡ Some q → ⊥
none_not q e = cc e

context_after : (t : Lexeme) (ts : List Lexeme) (x : Context) (q : State) (o : Option State) → fed_all o ts ≡ Some q
    → IfSome o (λ r. context r ≡ after x t) → ((r : State) → fed_all (Some r) ts ≡ Some q → context q ≡ after_all (context r) ts)
    → context q ≡ after_all (after x t) ts
context_after t ts x q None e h go = absurd (none_not q (sym (fed_none ts) ∙ e))
context_after t ts x q (Some r) e h go = let P : Context → Type 0 = λ y. context q ≡ after_all y ts in subst P h (go r e)

-- the context behind tokens that may stand is that of the place
pub context_led : (ts : List Lexeme) (p q : State) → fed_all (Some p) ts ≡ Some q → context q ≡ after_all (context p) ts
context_led [] p q e = ap (λ o. context (unwrap_or o q)) (sym e)
context_led (t ∷ ts) p q e = context_after t ts (context p) q (fed p.0 p.1 t) e (after_fed p.0 p.1 t) (λ r f. context_led ts r q f)

-- READING

-- a result that is no `Syntax`
abbrev pub NotSyntax : Result Tree TreeErr → Type 0
NotSyntax (Ok t) = Unit {0}
NotSyntax (Err e) = IsSyntax e → ⊥

abbrev pub began : State
began = ([], gap (Begun Empty))

-- a text that is spelled like a tree is read, or has a token that does not fit
pub shape_reads : (text : List ℕ) (t : Tree) (ts : List Lexeme) → Cut text ts [] → IsTree ts t
    → ((all_fit outside ts ≡ true) × (read_on (bytes text) start text ≡ Ok t)) ⊎ ((all_fit outside ts ≡ false) × NotSyntax (read_on (bytes text) start text))
shape_reads text t ts cut tr =
    let total = bytes text in
    let over = over_tree tr [] in
    let all : Leads total [] (fed_all (Some began) ts) (all_fit outside ts) (read_on total start (text ++ [])) =
    over_cut total cut began (let P : List ℕ → Type 0 = λ x. bytes x ≤ total in subst P (sym (append-nil text)) (omega arith)) in
    let P : Option State → Type 0 = λ o. Leads total [] o (all_fit outside ts) (read_on total start (text ++ [])) in
    let whole = ap (read_on total start) (append-nil text) in
    ⊎_elim
    (λ h. inl (h.0, sym whole ∙ h.1 ∙ ap (λ o. finished_gap [] o total) over.1))
    (λ h. let N : Result Tree TreeErr → Type 0 = NotSyntax in inr (h.0, subst N whole (subst N (sym h.1.1) h.1.3)))
    (subst P over.2 all)

-- one that is spelled like a tree fails by no `Syntax`
pub shape_not_syntax : (text : List ℕ) (t : Tree) → HasShape text t → NotSyntax (read_on (bytes text) start text)
shape_not_syntax text t h =
    let N : Result Tree TreeErr → Type 0 = NotSyntax in
    ⊎_elim (λ r. subst N (sym r.1) tt) (λ r. r.1) (shape_reads text t h.0 h.1 h.2)
