-- One step of the reader, against the text up to it.
use Rattle.std.proofs.Common.{◌≡◌, ℕ, ◌-◌, ◌⊎◌, inl, inr, Bool, true, false, ◌==◌, nat_lt, List, [], ◌∷◌, ◌++◌, length, ap, sym, ◌∙◌, subst, refl, Result, Ok, Err, Option, None, Some, IfSome, arith, append_assoc, append-nil, ⊎_elim}
use Rattle.std.specs.Prelude.{flat_map}
use Rattle.std.specs.Char.{is_whitespace, is_ascii_digit}
use Rattle.std.specs.List.{list_all}
use Rattle.std.proofs.lemmas.Bool.{and_from, false≢true, cases_Bool, eqb-true}
use Rattle.gft_core.specs.declared.tree.Tree.{Tree}
use Rattle.gft_core.specs.Names.{begins_name, continues_name}
use Rattle.gft_tree.specs.declared.error.TreeErr.{TreeErr}
use Rattle.gft_tree.specs.declared.error.TreeErr.TheVariants.{Syntax}
use Rattle.gft_tree.specs.declared.level.Level.{Level}
use Rattle.gft_tree.specs.declared.level.Level.TheVariants.{Empty}
use Rattle.gft_tree.specs.declared.level.Gap.{Gap}
use Rattle.gft_tree.specs.declared.level.Gap.TheVariants.{Begun, Whole}
use Rattle.gft_tree.specs.declared.reader.Here.{Here}
use Rattle.gft_tree.specs.declared.reader.Here.TheVariants.{Between, Asked, InWord, InNumber, InQuotes, InEscape}
use Rattle.gft_tree.specs.declared.reader.Reader.{Reader}
use Rattle.gft_tree.specs.Lexemes.{Lexeme, Word, Number, Quoted, Query, Open, Close, Cut, done, space, token, spelled, escaped, is_lexeme, ends_before, stays_on_line}
use Rattle.gft_tree.specs.Spelling.{outside, all_fit, fits, HasShape}
use Rattle.gft_tree.specs.Faults.{bytes, misfit_of, place_of, IsSyntax, GoesOn, HasFault, stuck, misfit}
use Rattle.gft_tree.specs.Reading.{tree_of, with_atom, read_on, on_step, start, reader_at, step_at, step_begun, step_whole, step_between, step_asked, closed, opened}
use Rattle.gft_tree.proofs.TokenLemmas.{Stop, gap, asked, State, here_of, reader_of, fed, fed_close, number_value}
use Rattle.gft_tree.proofs.CutLemmas.{fed_some, fed_all, fed_all-append, context, over_cut, Leads, misfit_place}
use Rattle.gft_tree.proofs.HoldLemmas.{Holds, fed_holds}
use Rattle.gft_tree.proofs.GoLemmas.{cut_append, goes_on, all_fit-append, context_led, began, NotSyntax, shape_not_syntax}

-- the tokens before a place, where characters of that form follow
pub record Stands (cs : List ℕ) (next : List ℕ → List ℕ) (p : State) : Type 0 where
  pub tokens : List Lexeme
  pub cut : (rest : List ℕ) → Cut cs tokens (next rest)
  pub held : Holds tokens p.0 p.1
  pub fit : all_fit outside tokens ≡ true
  pub led : fed_all (Some began) tokens ≡ Some p

-- a fault of the text, at a place that some tree comes to
pub record Found (text : List ℕ) (e : TreeErr) : Type 0 where
  pub fault : HasFault text e
  pub before : List ℕ
  pub rest : List ℕ
  pub parts : text ≡ before ++ rest
  pub place : place_of e ≡ bytes before
  pub reached : GoesOn before
  pub beyond : IsSyntax e ⊎ ((c : ℕ) × (more : List ℕ) × (rest ≡ c ∷ more) × GoesOn (before ++ c ∷ []))

-- where a number may stand
abbrev pub number_stop : Level → Bool → Stop
number_stop l false = gap (Begun l)
number_stop l true = asked l

-- where the reader stands
abbrev pub StandsAt : List ℕ → List Level → Here → Type 0
StandsAt cs outer (Between g) = Stands cs (λ rest. rest) (outer, gap g)
StandsAt cs outer (Asked l) = Stands cs (λ rest. rest) (outer, asked l)
StandsAt cs outer (InWord l s w) = (b : List ℕ) × (c : ℕ) × (w' : List ℕ) × (w ≡ c ∷ w') × (cs ≡ b ++ w) × (s ≡ bytes b)
    × (begins_name c ≡ true) × (list_all continues_name w' ≡ true) × Stands b (λ rest. w ++ rest) (outer, gap (Begun l))
StandsAt cs outer (InNumber l hole s v) = (b : List ℕ) × (d : ℕ) × (ds : List ℕ) × (cs ≡ b ++ d ∷ ds) × (s ≡ bytes b)
    × (is_ascii_digit d ≡ true) × (list_all is_ascii_digit ds ≡ true) × (v ≡ number_value (Some (d - 48)) ds)
    × Stands b (λ rest. (d ∷ ds) ++ rest) (outer, number_stop l hole)
StandsAt cs outer (InQuotes l s w) = (b : List ℕ) × (cs ≡ b ++ 34 ∷ flat_map escaped w) × (s ≡ bytes b) × (list_all stays_on_line w ≡ true)
    × Stands b (λ rest. 34 ∷ rest) (outer, gap (Begun l))
StandsAt cs outer (InEscape l s w) = (b : List ℕ) × (cs ≡ b ++ 34 ∷ (flat_map escaped w ++ 92 ∷ [])) × (s ≡ bytes b) × (list_all stays_on_line w ≡ true)
    × Stands b (λ rest. 34 ∷ rest) (outer, gap (Begun l))

-- what a step gives
abbrev pub Stepped : List ℕ → List ℕ → Result Reader TreeErr → Type 0
Stepped text cs (Ok r) = StandsAt cs r.outer r.here
Stepped text cs (Err e) = Found text e

-- reading comes to where the tokens lead
pub comes : (cs : List ℕ) (next : List ℕ → List ℕ) (p : State) → Stands cs next p → (rest : List ℕ)
    → read_on (bytes (cs ++ next rest)) start (cs ++ next rest) ≡ read_on (bytes (cs ++ next rest)) (reader_of p) (next rest)
comes cs next p s rest =
    let total = bytes (cs ++ next rest) in
    let all : Leads total (next rest) (fed_all (Some began) s.tokens) (all_fit outside s.tokens) (read_on total start (cs ++ next rest)) =
    over_cut total (s.cut rest) began (omega arith) in
    let P : Option State → Type 0 = λ o. Leads total (next rest) o (all_fit outside s.tokens) (read_on total start (cs ++ next rest)) in
    ⊎_elim (λ h. h.1) (λ h. absurd (false≢true (sym h.0 ∙ s.fit))) (subst P s.led all)

-- a token more
pub one_token : (cs : List ℕ) (next : List ℕ → List ℕ) (p q : State) (t : Lexeme) → Stands cs (λ rest. spelled t ++ next rest) p
    → is_lexeme t ≡ true → ((rest : List ℕ) → ends_before t (next rest) ≡ true) → fed p.0 p.1 t ≡ Some q → fits (context p) t ≡ true
    → Stands (cs ++ spelled t) next q
one_token cs next p q t s h n e f = record {
  tokens = s.tokens ++ t ∷ [];
  cut = λ rest.
      let E : List ℕ → Type 0 = λ x. ends_before t x ≡ true in
      let P : List ℕ → Type 0 = λ x. Cut (cs ++ x) (s.tokens ++ t ∷ []) (next rest) in
      subst P (append-nil (spelled t)) (cut_append (s.cut rest) (ap (λ x. x ++ next rest) (sym (append-nil (spelled t)))) (token {cs = []} h (n rest) done));
  held = let H : Option State → Type 0 = λ o. IfSome o (λ r. Holds (s.tokens ++ t ∷ []) r.0 r.1) in subst H e (fed_holds s.tokens p.0 p.1 t s.held);
  fit = all_fit-append outside s.tokens (t ∷ []) ∙ and_from _ _ s.fit (and_from _ _ (ap (λ x. fits x t) (sym (context_led s.tokens began p s.led)) ∙ f) refl);
  led = fed_all-append (Some began) s.tokens (t ∷ []) ∙ ap (λ o. fed_some o t) s.led ∙ e;
}

-- white space
pub one_space : (cs : List ℕ) (p : State) (c : ℕ) → Stands cs (λ rest. c ∷ rest) p → is_whitespace c ≡ true → Stands (cs ++ c ∷ []) (λ rest. rest) p
one_space cs p c s w = record {
  tokens = s.tokens;
  cut = λ rest. let P : List Lexeme → Type 0 = λ x. Cut (cs ++ c ∷ []) x rest in
      subst P (append-nil s.tokens) (cut_append (s.cut rest) refl (space w done));
  held = s.held;
  fit = s.fit;
  led = s.led;
}

-- what goes on behind some characters goes on before them
pub goes_back : (xs ys : List ℕ) → GoesOn (xs ++ ys) → GoesOn xs
goes_back xs ys g = let P : List ℕ → Type 0 = λ x. HasShape x g.1 in (ys ++ g.0, g.1, subst P (append_assoc xs ys g.0) g.2)

-- the first character of a token
first_of : (t : Lexeme) → is_lexeme t ≡ true → (c : ℕ) × (cs : List ℕ) × (spelled t ≡ c ∷ cs)
first_of (Word []) h = absurd (false≢true h)
first_of (Word (c ∷ cs)) h = (c, cs, refl)
first_of (Number []) h = absurd (false≢true h)
first_of (Number (c ∷ cs)) h = (c, cs, refl)
first_of (Quoted w) h = (34, _, refl)
first_of Query h = (63, [], refl)
first_of Open h = (40, [], refl)
first_of Close h = (41, [], refl)

-- a token that may stand goes on
pub token_goes : (cs : List ℕ) (next : List ℕ → List ℕ) (p q : State) (t : Lexeme) (rest : List ℕ) → Stands cs (λ rest. spelled t ++ next rest) p
    → is_lexeme t ≡ true → ends_before t (next rest) ≡ true → fed p.0 p.1 t ≡ Some q → GoesOn (cs ++ spelled t)
token_goes cs next p q t rest s h n e =
    let C : List ℕ → Type 0 = λ x. Cut (cs ++ x) (s.tokens ++ t ∷ []) (next rest) in
    let H : Option State → Type 0 = λ o. IfSome o (λ r. Holds (s.tokens ++ t ∷ []) r.0 r.1) in
    let nil = append-nil (spelled t) in
    goes_on (cs ++ spelled t) (next rest) (s.tokens ++ t ∷ []) q.0 q.1
    (subst C nil (cut_append (s.cut rest) (ap (λ x. x ++ next rest) (sym nil)) (token {cs = []} h n done)))
    (subst H e (fed_holds s.tokens p.0 p.1 t s.held))

-- a token that may stand and does not fit
pub no_fit : (text cs : List ℕ) (next : List ℕ → List ℕ) (p q : State) (t : Lexeme) (rest : List ℕ) → Stands cs (λ rest. spelled t ++ next rest) p
    → is_lexeme t ≡ true → ends_before t (next rest) ≡ true → fed p.0 p.1 t ≡ Some q → fits (context p) t ≡ false → text ≡ cs ++ (spelled t ++ next rest)
    → Found text (misfit_of t (bytes cs))
no_fit text cs next p q t rest s h n l f e = record {
  fault = misfit cs s.tokens t (next rest) e (s.cut rest) h n (ap (λ x. fits x t) (sym (context_led s.tokens began p s.led)) ∙ f);
  before = cs;
  rest = spelled t ++ next rest;
  parts = e;
  place = (misfit_place t (bytes cs)).0;
  reached = goes_on cs (spelled t ++ next rest) s.tokens p.0 p.1 (s.cut rest) s.held;
  beyond =
      let first = first_of t h in
      let G : List ℕ → Type 0 = λ x. GoesOn (cs ++ x) in
      let all = subst G first.2 (token_goes cs next p q t rest s h n l) in
      let H : List ℕ → Type 0 = GoesOn in
      inr (first.0, first.1 ++ next rest, ap (λ x. x ++ next rest) first.2, goes_back (cs ++ first.0 ∷ []) first.1 (subst H (sym (append_assoc cs (first.0 ∷ []) first.1)) all));
}

-- no tree goes on with a character
pub no_way : (text cs : List ℕ) (c : ℕ) (rest : List ℕ) → text ≡ cs ++ c ∷ rest → GoesOn cs
    → ((other : List ℕ) → (at : ℕ) × (read_on (bytes (cs ++ c ∷ other)) start (cs ++ c ∷ other) ≡ Err (Syntax at)))
    → Found text (Syntax (bytes cs))
no_way text cs c rest e g fails = record {
  fault = stuck cs c rest e g (λ other t h.
      let N : Result Tree TreeErr → Type 0 = NotSyntax in
      let f = fails other in
      subst N f.1 (shape_not_syntax (cs ++ c ∷ other) t h) tt);
  before = cs;
  rest = c ∷ rest;
  parts = e;
  place = refl;
  reached = g;
  beyond = inl tt;
}

-- a step that fails wherever it is taken
pub no_step : (text cs : List ℕ) (p : State) (c : ℕ) (rest : List ℕ) → Stands cs (λ rest. c ∷ rest) p → text ≡ cs ++ c ∷ rest
    → ((at : ℕ) → step_at p.0 (here_of p.1) at c ≡ Err (Syntax at)) → Found text (Syntax (bytes cs))
no_step text cs p c rest s e f = no_way text cs c rest e (goes_on cs (c ∷ []) s.tokens p.0 p.1 (s.cut []) s.held)
    (λ other. (_, comes cs (λ r. c ∷ r) p s other ∙ ap (λ r. on_step r (λ next. read_on (bytes (cs ++ c ∷ other)) next other)) (f (bytes (cs ++ c ∷ other) - bytes (c ∷ other)))))

-- a closing parenthesis
close_step : (outer : List Level) (g : Gap) (at : ℕ) → step_at outer (Between g) at 41 ≡ closed outer (tree_of g) at
close_step outer (Begun l) at = refl
close_step outer (Whole t) at = refl

close_fed : (outer : List Level) (g : Gap) → fed outer (gap g) Close ≡ fed_close outer (tree_of g)
close_fed outer (Begun l) = refl
close_fed outer (Whole t) = refl

closing_at : (text cs rest : List ℕ) (outer : List Level) (g : Gap) (o : Option Tree) → tree_of g ≡ o → Stands cs (λ r. 41 ∷ r) (outer, gap g)
    → text ≡ cs ++ 41 ∷ rest → Stepped text (cs ++ 41 ∷ []) (closed outer o (bytes cs))
closing_at text cs rest [] g None i s e = no_step text cs ([], gap g) 41 rest s e (λ at. close_step [] g at ∙ ap (λ o. closed [] o at) i)
closing_at text cs rest (k ∷ outer) g None i s e = no_step text cs (k ∷ outer, gap g) 41 rest s e (λ at. close_step (k ∷ outer) g at ∙ ap (λ o. closed (k ∷ outer) o at) i)
closing_at text cs rest [] g (Some t) i s e = no_step text cs ([], gap g) 41 rest s e (λ at. close_step [] g at ∙ ap (λ o. closed [] o at) i)
closing_at text cs rest (k ∷ outer) g (Some t) i s e =
    one_token cs (λ r. r) (k ∷ outer, gap g) (outer, gap (with_atom k t)) Close s refl (λ r. refl) (close_fed (k ∷ outer) g ∙ ap (fed_close (k ∷ outer)) i) refl

-- an opening parenthesis
opening_at : (text cs rest : List ℕ) (outer : List Level) (l : Level) → Stands cs (λ r. 40 ∷ r) (outer, gap (Begun l))
    → text ≡ cs ++ 40 ∷ rest → Stepped text (cs ++ 40 ∷ []) (opened outer l (bytes cs))
opening_at text cs rest outer l s e = ⊎_elim
    (λ few. rw few (one_token cs (λ r. r) (outer, gap (Begun l)) (l ∷ outer, gap (Begun Empty)) Open s refl (λ r. refl) refl few))
    (λ many. rw many (no_fit text cs (λ r. r) (outer, gap (Begun l)) (l ∷ outer, gap (Begun Empty)) Open rest s refl refl refl many e))
    (cases_Bool (nat_lt (length outer) 200))

-- the same, at a character that is one
at_char : (text cs rest : List ℕ) (p : State) (c k : ℕ) (r : Result Reader TreeErr) → (c == k) ≡ true
    → (Stands cs (λ x. k ∷ x) p → text ≡ cs ++ k ∷ rest → Stepped text (cs ++ k ∷ []) r)
    → Stands cs (λ x. c ∷ x) p → text ≡ cs ++ c ∷ rest → Stepped text (cs ++ c ∷ []) r
at_char text cs rest p c k r e h =
    let P : ℕ → Type 0 = λ y. Stands cs (λ x. y ∷ x) p → text ≡ cs ++ y ∷ rest → Stepped text (cs ++ y ∷ []) r in
    subst P (sym (eqb-true c k e)) h

-- between two tokens, where an atom may come
begun_steps : (text cs rest : List ℕ) (outer : List Level) (l : Level) (c : ℕ) → Stands cs (λ r. c ∷ r) (outer, gap (Begun l))
    → text ≡ cs ++ c ∷ rest → Stepped text (cs ++ c ∷ []) (step_begun outer l (bytes cs) c)
begun_steps text cs rest outer l c s e =
    let p : State = (outer, gap (Begun l)) in
    ⊎_elim (λ w. rw w (one_space cs p c s w))
    (λ w. rw w (⊎_elim (λ x. rw x (at_char text cs rest p c 40 _ x (opening_at text cs rest outer l) s e))
    (λ a. rw a (⊎_elim (λ x. rw x (at_char text cs rest p c 41 _ x (closing_at text cs rest outer (Begun l) _ refl) s e))
    (λ b. rw b (⊎_elim (λ x. rw x (at_char text cs rest p c 34 (Ok (reader_at outer (InQuotes l (bytes cs) []))) x (λ t f. (cs, refl, refl, refl, t)) s e))
    (λ d. rw d (⊎_elim (λ x. rw x (at_char text cs rest p c 63 (Ok (reader_at outer (Asked l))) x (λ t f. one_token cs (λ r. r) p (outer, asked l) Query t refl (λ r. refl) refl refl) s e))
    (λ q. rw q (⊎_elim (λ x. rw x (cs, c, [], refl, refl, x, refl, refl, s))
    (λ n. rw n (⊎_elim (λ x. rw x (cs, c, [], refl, refl, refl, x, refl, s))
    (λ m. rw m (no_step text cs p c rest s e (λ at. simp (w, a, b, d, q, n, m) refl)))
    (cases_Bool (begins_name c)))) (cases_Bool (is_ascii_digit c)))) (cases_Bool (c == 63)))) (cases_Bool (c == 34)))) (cases_Bool (c == 41)))) (cases_Bool (c == 40)))) (cases_Bool (is_whitespace c))

whole_steps : (text cs rest : List ℕ) (outer : List Level) (t : Tree) (c : ℕ) → Stands cs (λ r. c ∷ r) (outer, gap (Whole t))
    → text ≡ cs ++ c ∷ rest → Stepped text (cs ++ c ∷ []) (step_whole outer t (bytes cs) c)
whole_steps text cs rest outer t c s e =
    let p : State = (outer, gap (Whole t)) in
    ⊎_elim (λ w. rw w (one_space cs p c s w))
    (λ w. rw w (⊎_elim (λ x. rw x (at_char text cs rest p c 41 _ x (closing_at text cs rest outer (Whole t) _ refl) s e))
    (λ b. rw b (no_step text cs p c rest s e (λ at. simp (w, b) refl)))
    (cases_Bool (c == 41)))) (cases_Bool (is_whitespace c))

pub gap_steps : (text cs rest : List ℕ) (outer : List Level) (g : Gap) (c : ℕ) → Stands cs (λ r. c ∷ r) (outer, gap g)
    → text ≡ cs ++ c ∷ rest → Stepped text (cs ++ c ∷ []) (step_between outer g (bytes cs) c)
gap_steps text cs rest outer (Begun l) c s e = begun_steps text cs rest outer l c s e
gap_steps text cs rest outer (Whole t) c s e = whole_steps text cs rest outer t c s e

pub asked_steps : (text cs rest : List ℕ) (outer : List Level) (l : Level) (c : ℕ) → Stands cs (λ r. c ∷ r) (outer, asked l)
    → text ≡ cs ++ c ∷ rest → Stepped text (cs ++ c ∷ []) (step_asked outer l (bytes cs) c)
asked_steps text cs rest outer l c s e =
    let p : State = (outer, asked l) in
    ⊎_elim (λ w. rw w (one_space cs p c s w))
    (λ w. rw w (⊎_elim (λ x. rw x (cs, c, [], refl, refl, x, refl, refl, s))
    (λ n. rw n (no_step text cs p c rest s e (λ at. simp (w, n) refl)))
    (cases_Bool (is_ascii_digit c)))) (cases_Bool (is_whitespace c))
