-- What the reader answers.
use Rattle.std.proofs.Common.{◌≡◌, ℕ, ◌+◌, ◌-◌, ◌≤◌, ◌<◌, ◌⊎◌, inl, inr, Bool, true, false, List, [], ◌∷◌, ◌++◌, length, ap, sym, ◌∙◌, subst, refl, Result, Ok, Err, Option, None, Some, arith, append_assoc, append-nil, ⊎_elim, IfOk, IfErr}
use Rattle.std.specs.Prelude.{flat_map}
use Rattle.std.specs.List.{list_all}
use Rattle.std.specs.Str.{chars, IsUtf8}
use Rattle.std.proofs.lemmas.Str.{encodes-chars}
use Rattle.std.proofs.lemmas.Bool.{false≢true}
use Rattle.gft_core.specs.declared.tree.Tree.{Tree}
use Rattle.gft_core.specs.Names.{continues_name}
use Rattle.gft_tree.specs.declared.error.TreeErr.{TreeErr}
use Rattle.gft_tree.specs.declared.error.TreeErr.TheVariants.{Syntax, TooDeep, BadLiteral, NoMemory}
use Rattle.gft_tree.specs.declared.level.Level.{Level}
use Rattle.gft_tree.specs.declared.level.Gap.{Gap}
use Rattle.gft_tree.specs.declared.level.Gap.TheVariants.{Begun, Whole}
use Rattle.gft_tree.specs.declared.reader.Here.{Here}
use Rattle.gft_tree.specs.declared.reader.Here.TheVariants.{Between, Asked, InWord, InNumber, InQuotes, InEscape}
use Rattle.gft_tree.specs.declared.reader.Reader.{Reader}
use Rattle.gft_tree.specs.Lexemes.{Lexeme, Cut, done, spelled, escaped, is_lexeme, ends_before, stops, stays_on_line}
use Rattle.gft_tree.specs.Grammar.{IsTree}
use Rattle.gft_tree.specs.Spelling.{outside, after_all, all_fit, fits, HasShape, Spells}
use Rattle.gft_tree.specs.Faults.{bytes, misfit_of, place_of, IsSyntax, GoesOn, HasFault, stuck, ended, underscore, misfit, Precedes, IsRead, IsRefused, AnswersErr}
use Rattle.gft_tree.specs.Reading.{tree_of, read_on, on_step, on_gap, start, step, finished_at, finished_gap, word_ended, number_ended, reader_at, Gives}
use Rattle.gft_tree.proofs.ClassLemmas.{no_name_goes_on}
use Rattle.gft_tree.proofs.TokenLemmas.{Stop, gap, asked, State, reader_of, fed, behind, over_token, number_value, out_of_word, begins_word}
use Rattle.gft_tree.proofs.CutLemmas.{fed_all, context, over_cut, Leads, bytes-append, bytes_more, misfit_place}
use Rattle.gft_tree.proofs.HoldLemmas.{tree_at}
use Rattle.gft_tree.proofs.GoLemmas.{goes_on, began, context_led, shape_reads, shape_not_syntax, NotSyntax}
use Rattle.gft_tree.proofs.StepLemmas.{Stands, Found, StandsAt, number_stop, Stepped, comes, goes_back}
use Rattle.gft_tree.proofs.EndLemmas.{restand, Ended, word_end, number_end, comes_in, quotes_goes, escape_goes, steps}

-- what reading gives
abbrev pub Answered : List ℕ → Result Tree TreeErr → Type 0
Answered text (Ok t) = Spells text t
Answered text (Err e) = Found text e

-- THE END OF THE TEXT

-- a text that ends too early
no_end : (text : List ℕ) → GoesOn text → (at : ℕ) → read_on (bytes text) start text ≡ Err (Syntax at) → Found text (Syntax (bytes text))
no_end text g at e = record {
  fault = ended g (λ t h. let N : Result Tree TreeErr → Type 0 = NotSyntax in subst N e (shape_not_syntax text t h) tt);
  before = text;
  rest = [];
  parts = sym (append-nil text);
  place = refl;
  reached = g;
  beyond = inl tt;
}

stands_end : (text : List ℕ) (outer : List Level) (g : Gap) → Stands text (λ r. []) (outer, gap g)
    → finished_gap outer (tree_of g) (bytes text) ≡ Err (Syntax (bytes text)) → Found text (Syntax (bytes text))
stands_end text outer g s e =
    let P : List ℕ → Type 0 = λ x. read_on (bytes x) start x ≡ finished_gap outer (tree_of g) (bytes x) in
    let came = subst P (append-nil text) (comes text (λ r. []) (outer, gap g) s []) in
    no_end text (goes_on text [] s.tokens outer (gap g) (s.cut []) s.held) (bytes text) (came ∙ e)

gap_done : (text : List ℕ) (outer : List Level) (g : Gap) (o : Option Tree) → tree_of g ≡ o → Stands text (λ r. []) (outer, gap g)
    → Answered text (finished_gap outer o (bytes text))
gap_done text outer g None i s = stands_end text outer g s (ap (λ o. finished_gap outer o (bytes text)) i)
gap_done text (l ∷ outer) g (Some t) i s = stands_end text (l ∷ outer) g s (ap (λ o. finished_gap (l ∷ outer) o (bytes text)) i)
gap_done text [] g (Some t) i s =
    let T : List Lexeme → Type 0 = λ x. IsTree x t in
    let h = s.held in
    let same : s.tokens ≡ h.1 = h.2 ∙ ap (λ x. x ++ h.1) h.3 in
    (s.tokens, s.cut [], subst T (sym same) (tree_at h.1 g t h.4 i), s.fit)

on_done : (text cs : List ℕ) (outer : List Level) (r : Result Gap TreeErr) → text ≡ cs → Ended text cs (λ r. []) outer r
    → Answered text (on_gap r (λ g. finished_gap outer (tree_of g) (bytes text)))
on_done text cs outer (Ok g) e s = let S : List ℕ → Type 0 = λ x. Stands x (λ r. []) (outer, gap g) in gap_done text outer g (tree_of g) refl (subst S (sym e) s)
on_done text cs outer (Err f) e s = s

quotes_done : (text b w mark : List ℕ) (outer : List Level) (l : Level) → list_all stays_on_line w ≡ true → Stands b (λ r. 34 ∷ r) (outer, gap (Begun l))
    → text ≡ b ++ 34 ∷ (flat_map escaped w ++ mark) → GoesOn text
    → ((total at : ℕ) → read_on total (reader_at outer (InQuotes l at w)) mark ≡ Err (Syntax total)) → Found text (Syntax (bytes text))
quotes_done text b w mark outer l h s e g f =
    let came = comes_in b w mark outer l h s in
    let P : List ℕ → Type 0 = λ x. (at : ℕ) × (read_on (bytes x) start x ≡ Err (Syntax at)) in
    let all = subst P (sym e) (_, came.1 ∙ f _ came.0) in
    no_end text g all.0 all.1

-- the text ends
finishes : (text : List ℕ) (outer : List Level) (here : Here) → StandsAt text outer here → Answered text (finished_at outer here (bytes text))
finishes text outer (Between g) s = gap_done text outer g (tree_of g) refl (restand text (λ r. r) (λ r. []) (outer, gap g) s (λ r. ([], refl)))
finishes text outer (Asked l) s =
    let P : List ℕ → Type 0 = λ x. read_on (bytes x) start x ≡ Err (Syntax (bytes x)) in
    no_end text (goes_on text [] s.tokens outer (asked l) (s.cut []) s.held) (bytes text)
    (subst P (append-nil text) (comes text (λ r. []) (outer, asked l) (restand text (λ r. r) (λ r. []) (outer, asked l) s (λ r. ([], refl))) []))
finishes text outer (InWord l at w) s =
    let b = s.0 in
    let v = s.1 ∷ s.2 in
    let parts : text ≡ b ++ v = s.4 ∙ ap (λ x. b ++ x) s.3 in
    let A : List ℕ → Type 0 = λ x. Stands b (λ r. x ++ r) (outer, gap (Begun l)) in
    let Q : ℕ → Type 0 = λ x. Answered text (on_gap (word_ended l x v) (λ g. finished_gap outer (tree_of g) (bytes text))) in
    let R : List ℕ → Type 0 = λ x. Answered text (on_gap (word_ended l at x) (λ g. finished_gap outer (tree_of g) (bytes text))) in
    subst R (sym s.3) (subst Q (sym s.5) (on_done text (b ++ v) outer (word_ended l (bytes b) v) parts
    (word_end text b s.1 s.2 [] (λ r. []) outer l s.6 s.7 (λ r. refl)
    (restand b (λ r. v ++ r) (λ r. v ++ []) (outer, gap (Begun l)) (subst A s.3 s.8) (λ r. ([], refl))) (parts ∙ ap (λ x. b ++ x) (sym (append-nil v))))))
finishes text outer (InNumber l hole at v) s =
    let b = s.0 in
    let ds = s.1 ∷ s.2 in
    let n = number_value (Some (s.1 - 48)) s.2 in
    let Q : ℕ → Type 0 = λ x. Answered text (on_gap (number_ended l hole x n) (λ g. finished_gap outer (tree_of g) (bytes text))) in
    let R : Option ℕ → Type 0 = λ x. Answered text (on_gap (number_ended l hole at x) (λ g. finished_gap outer (tree_of g) (bytes text))) in
    subst R (sym s.7) (subst Q (sym s.4) (on_done text (b ++ ds) outer (number_ended l hole (bytes b) n) s.3
    (number_end text b s.1 s.2 [] (λ r. []) outer l hole s.5 s.6 (λ r. refl)
    (restand b (λ r. ds ++ r) (λ r. ds ++ []) (outer, number_stop l hole) s.8 (λ r. ([], refl))) (s.3 ∙ ap (λ x. b ++ x) (sym (append-nil ds))))))
finishes text outer (InQuotes l at w) s =
    quotes_done text s.0 w [] outer l s.3 s.4 (s.1 ∙ ap (λ x. s.0 ++ 34 ∷ x) (sym (append-nil (flat_map escaped w))))
    (let G : List ℕ → Type 0 = GoesOn in subst G (sym s.1) (quotes_goes s.0 w outer l s.3 s.4)) (λ total place. refl)
finishes text outer (InEscape l at w) s =
    quotes_done text s.0 w (92 ∷ []) outer l s.3 s.4 s.1
    (let G : List ℕ → Type 0 = GoesOn in subst G (sym s.1) (escape_goes s.0 w outer l s.3 s.4)) (λ total place. refl)

-- THE WHOLE TEXT

on_stepped : (text cs rest : List ℕ) (total : ℕ) (r : Result Reader TreeErr) → Stepped text cs r
    → ((next : Reader) → StandsAt cs next.outer next.here → Answered text (read_on total next rest)) → Answered text (on_step r (λ next. read_on total next rest))
on_stepped text cs rest total (Ok next) s go = go next s
on_stepped text cs rest total (Err e) s go = s

-- reading from a place on
reads_on : (text cs : List ℕ) (reader : Reader) (rest : List ℕ) → StandsAt cs reader.outer reader.here → text ≡ cs ++ rest → Answered text (read_on (bytes text) reader rest)
reads_on text cs reader [] s e =
    let here = reader.here in
    let S : List ℕ → Type 0 = λ x. StandsAt x reader.outer here in
    finishes text reader.outer here (subst S (sym (e ∙ append-nil cs)) s)
reads_on text cs reader (c ∷ rest) s e =
    let n : bytes text ≡ bytes cs + bytes (c ∷ rest) = ap bytes e ∙ bytes-append cs (c ∷ rest) in
    let place : bytes text - bytes (c ∷ rest) ≡ bytes cs = omega (arith, n) in
    let P : ℕ → Type 0 = λ x. Answered text (on_step (step reader x c) (λ next. read_on (bytes text) next rest)) in
    subst P (sym place) (on_stepped text (cs ++ c ∷ []) rest (bytes text) (step reader (bytes cs) c) (steps text cs rest reader.outer reader.here c s e)
    (λ next t. reads_on text (cs ++ c ∷ []) next rest t (e ∙ sym (append_assoc cs (c ∷ []) rest))))

-- reading a text
pub reads : (text : List ℕ) → Answered text (read_on (bytes text) start text)
reads text = reads_on text [] start text (record { tokens = []; cut = λ rest. done; held = ([], [], refl, refl, refl); fit = refl; led = refl }) refl

-- FIRST FAULTS

-- two splits of one text
abbrev pub Longer : List ℕ → List ℕ → List ℕ → List ℕ → Type 0
Longer xs ys zs ws = (c : ℕ) × (mid : List ℕ) × (xs ≡ zs ++ c ∷ mid) × (ws ≡ c ∷ (mid ++ ys))

compared : (xs ys zs ws : List ℕ) → xs ++ ys ≡ zs ++ ws → Longer xs ys zs ws ⊎ (((xs ≡ zs) × (ys ≡ ws)) ⊎ Longer zs ws xs ys)
compared [] ys [] ws e = inr (inl (refl, e))
compared [] ys (z ∷ zs) ws e = inr (inr (z, zs, refl, e))
compared (x ∷ xs) ys [] ws e = inl (x, xs, refl, sym e)
compared (x ∷ xs) ys (z ∷ zs) ws e =
    let h : x ≡ z = cc e in
    let t : xs ++ ys ≡ zs ++ ws = cc e in
    ⊎_elim (λ a. inl (a.0, a.1, ap (λ v. x ∷ v) a.2 ∙ ap (λ v. v ∷ (zs ++ a.0 ∷ a.1)) h, a.3))
    (λ b. inr (⊎_elim (λ q. inl (ap (λ v. x ∷ v) q.0 ∙ ap (λ v. v ∷ zs) h, q.1))
    (λ r. inr (r.0, r.1, ap (λ v. z ∷ v) r.2 ∙ ap (λ v. v ∷ (xs ++ r.0 ∷ r.1)) (sym h), r.3)) b))
    (compared xs ys zs ws t)

shorter_bytes : (xs ys zs ws : List ℕ) → Longer zs ws xs ys → bytes xs < bytes zs
shorter_bytes xs ys zs ws l =
    let n : bytes zs ≡ bytes xs + bytes (l.0 ∷ l.1) = ap bytes l.2 ∙ bytes-append xs (l.0 ∷ l.1) in
    let m = bytes_more l.0 l.1 in
    omega (arith, n, m)

-- a fault comes before what is found further on
before_place : (e f : TreeErr) (n m : ℕ) → place_of e ≡ n → place_of f ≡ m → n < m → Precedes e f
before_place e f n m a b h = let P : ℕ → ℕ → Type 0 = λ x y. x < y in inl (omega (arith, a, b, h))

-- against a character with which no tree goes on
before_stuck : (text : List ℕ) (e : TreeErr) → Found text e → (before : List ℕ) (c : ℕ) (rest : List ℕ) → text ≡ before ++ c ∷ rest
    → ((other : List ℕ) (t : Tree) → HasShape (before ++ c ∷ other) t → ⊥) → Precedes e (Syntax (bytes before))
before_stuck text e found before c rest parts never =
    let no_go : GoesOn (before ++ c ∷ []) → ⊥ = λ g. never g.0 g.1 (let H : List ℕ → Type 0 = λ x. HasShape x g.1 in subst H (append_assoc before (c ∷ []) g.0) g.2) in
    ⊎_elim
    (λ a.
    let k : a.0 ≡ c = cc a.3 in
    let G : List ℕ → Type 0 = GoesOn in
    let D : ℕ → Type 0 = λ x. GoesOn (before ++ x ∷ []) in
    let all = subst G (a.2 ∙ sym (append_assoc before (a.0 ∷ []) a.1)) found.reached in
    absurd (no_go (subst D k (goes_back (before ++ a.0 ∷ []) a.1 all))))
    (λ b. ⊎_elim
    (λ q. inr (
      found.place ∙ ap bytes q.0,
      inl (⊎_elim (λ s. s)
          (λ m.
          let k : m.0 ≡ c = cc (sym m.2 ∙ q.1) in
          let D : ℕ → Type 0 = λ x. GoesOn (before ++ x ∷ []) in
          let B : List ℕ → Type 0 = λ x. GoesOn (x ++ m.0 ∷ []) in
          absurd (no_go (subst D k (subst B q.0 m.3)))) found.beyond),
    ))
    (λ r. before_place e (Syntax (bytes before)) (bytes found.before) (bytes before) found.place refl (shorter_bytes found.before found.rest before (c ∷ rest) r))
    b)
    (compared found.before found.rest before (c ∷ rest) (sym found.parts ∙ parts))

end_case : (text : List ℕ) (e : TreeErr) (found : Found text e) (rest : List ℕ) → found.rest ≡ rest → Precedes e (Syntax (bytes text))
end_case text e found [] i =
    let same : text ≡ found.before = found.parts ∙ ap (λ x. found.before ++ x) i ∙ append-nil found.before in
    inr (found.place ∙ ap bytes (sym same), inl (⊎_elim (λ s. s) (λ m. absurd (cc (sym i ∙ m.2))) found.beyond))
end_case text e found (c ∷ more) i =
    let n : bytes text ≡ bytes found.before + bytes (c ∷ more) = ap bytes (found.parts ∙ ap (λ x. found.before ++ x) i) ∙ bytes-append found.before (c ∷ more) in
    let m = bytes_more c more in
    before_place e (Syntax (bytes text)) (bytes found.before) (bytes text) found.place refl (omega (arith, n, m))

-- against the end of the text
before_end : (text : List ℕ) (e : TreeErr) → Found text e → Precedes e (Syntax (bytes text))
before_end text e found = end_case text e found found.rest refl

-- a fault that the tokens show stops the reading
abbrev pub Stops : TreeErr → Result Tree TreeErr → Type 0
Stops f r = (e : TreeErr) × (r ≡ Err e) × Precedes e f

lone_word : (l : Level) (at : ℕ) → word_ended l at (95 ∷ []) ≡ Err (Syntax at)
lone_word l at = rw no_name_goes_on.2 refl

-- reading at an underscore that is no name
lone_stops : (total : ℕ) (outer : List Level) (stop : Stop) (rest : List ℕ) → stops continues_name rest ≡ true
    → read_on total (reader_of (outer, stop)) (95 ∷ rest) ≡ Err (Syntax (total - bytes (95 ∷ rest)))
lone_stops total outer (gap (Begun l)) rest h =
    let at = total - bytes (95 ∷ rest) in
    ap (λ r. on_step r (λ next. read_on total next rest)) (begins_word outer l at 95 no_name_goes_on.2)
    ∙ out_of_word total outer l at (95 ∷ []) rest h
    ∙ ap (λ r. on_gap r (λ g. read_on total (reader_at outer (Between g)) rest)) (lone_word l at)
lone_stops total outer (gap (Whole t)) rest h = refl
lone_stops total outer (asked l) rest h = refl

stops_case : (total : ℕ) (before rest : List ℕ) (f : TreeErr) → total ≡ bytes before + bytes rest → place_of f ≡ bytes before
    → (o : Option State) (fit : Bool) (r : Result Tree TreeErr) → Leads total rest o fit r
    → ((q : State) → o ≡ Some q → (e : TreeErr) × (read_on total (reader_of q) rest ≡ Err e) × (place_of e ≡ total - bytes rest) × (IsSyntax e ⊎ ((total - bytes rest ≡ bytes before) → e ≡ f)))
    → Stops f r
stops_case total before rest f n at None fit r l here =
    let p = l.2 in (l.0, l.1, inl (omega (arith, p, n, at)))
stops_case total before rest f n at (Some q) fit r l here = ⊎_elim
    (λ h.
    let x = here q refl in
    let place : total - bytes rest ≡ bytes before = omega (arith, n) in
    (x.0, h.1 ∙ x.1, inr (x.2 ∙ place ∙ sym at, ⊎_elim inl (λ k. inr (k place)) x.3)))
    (λ h. let p = h.1.2 in (h.1.0, h.1.1, inl (omega (arith, p, n, at))))
    l

-- a token that stands somewhere and stops the reading there, or an earlier one does
token_stops : (text before rest : List ℕ) (ts : List Lexeme) (f : TreeErr) → text ≡ before ++ rest → Cut before ts rest → place_of f ≡ bytes before
    → ((q : State) → fed_all (Some began) ts ≡ Some q → (e : TreeErr) × (read_on (bytes text) (reader_of q) rest ≡ Err e) × (place_of e ≡ bytes text - bytes rest) × (IsSyntax e ⊎ ((bytes text - bytes rest ≡ bytes before) → e ≡ f)))
    → Stops f (read_on (bytes text) start text)
token_stops text before rest ts f parts cut at here =
    let total = bytes text in
    let n : bytes text ≡ bytes before + bytes rest = ap bytes parts ∙ bytes-append before rest in
    let R : List ℕ → Type 0 = λ x. Stops f (read_on total start x) in
    let room : bytes (before ++ rest) ≤ total = let m = ap bytes parts in omega (arith, m) in
    subst R (sym parts) (stops_case total before rest f n at (fed_all (Some began) ts) (all_fit outside ts) (read_on total start (before ++ rest)) (over_cut total cut began room) here)

misfit_case : (total : ℕ) (rest : List ℕ) (t : Lexeme) (b : ℕ) (r : Result Tree TreeErr) (o : Option State) → r ≡ behind total rest t false o
    → (e : TreeErr) × (r ≡ Err e) × (place_of e ≡ total - bytes (spelled t ++ rest)) × (IsSyntax e ⊎ ((total - bytes (spelled t ++ rest) ≡ b) → e ≡ misfit_of t b))
misfit_case total rest t b r None i = (_, i, refl, inl tt)
misfit_case total rest t b r (Some p) i = (_, i, (misfit_place t _).0, inr (λ k. ap (misfit_of t) k))

-- a token that does not fit
misfit_here : (total : ℕ) (rest : List ℕ) (ts : List Lexeme) (t : Lexeme) (b : ℕ) (q : State) → fed_all (Some began) ts ≡ Some q → is_lexeme t ≡ true → ends_before t rest ≡ true
    → fits (after_all outside ts) t ≡ false
    → (e : TreeErr) × (read_on total (reader_of q) (spelled t ++ rest) ≡ Err e) × (place_of e ≡ total - bytes (spelled t ++ rest))
    × (IsSyntax e ⊎ ((total - bytes (spelled t ++ rest) ≡ b) → e ≡ misfit_of t b))
misfit_here total rest ts t b q led h n f =
    let no : fits (context q) t ≡ false = ap (λ x. fits x t) (context_led ts began q led) ∙ f in
    let B : Bool → Type 0 = λ x. read_on total (reader_of q) (spelled t ++ rest) ≡ behind total rest t x (fed q.0 q.1 t) in
    misfit_case total rest t b (read_on total (reader_of q) (spelled t ++ rest)) (fed q.0 q.1 t) (subst B no (over_token total q.0 q.1 t rest h n))

lone_fault : (text before : List ℕ) (ts : List Lexeme) (rest : List ℕ) → text ≡ before ++ 95 ∷ rest → Cut before ts (95 ∷ rest) → stops continues_name rest ≡ true
    → Stops (Syntax (bytes before)) (read_on (bytes text) start text)
lone_fault text before ts rest parts cut h =
    token_stops text before (95 ∷ rest) ts (Syntax (bytes before)) parts cut refl (λ q led. (_, lone_stops (bytes text) q.0 q.1 rest h, refl, inl tt))

misfit_fault : (text before : List ℕ) (ts : List Lexeme) (t : Lexeme) (rest : List ℕ) → text ≡ before ++ (spelled t ++ rest) → Cut before ts (spelled t ++ rest)
    → is_lexeme t ≡ true → ends_before t rest ≡ true → fits (after_all outside ts) t ≡ false → Stops (misfit_of t (bytes before)) (read_on (bytes text) start text)
misfit_fault text before ts t rest parts cut h n m =
    token_stops text before (spelled t ++ rest) ts (misfit_of t (bytes before)) parts cut (misfit_place t (bytes before)).0 (λ q led. misfit_here (bytes text) rest ts t (bytes before) q led h n m)

stopped_first : (text : List ℕ) (e f : TreeErr) → read_on (bytes text) start text ≡ Err e → Stops f (read_on (bytes text) start text) → Precedes e f
stopped_first text e f is s =
    let same : s.0 ≡ e = cc (sym s.1 ∙ is) in
    let P : TreeErr → Type 0 = λ x. Precedes x f in subst P same s.2

-- each fault stops the reading there or before
first_fault : (text : List ℕ) (e : TreeErr) → Found text e → read_on (bytes text) start text ≡ Err e → (f : TreeErr) → HasFault text f → Precedes e f
first_fault text e found is f (stuck before c rest parts go never) = before_stuck text e found before c rest parts never
first_fault text e found is f (ended go never) = before_end text e found
first_fault text e found is f (underscore before ts rest parts cut h) = stopped_first text e f is (lone_fault text before ts rest parts cut h)
first_fault text e found is f (misfit before ts t rest parts cut h n m) = stopped_first text e f is (misfit_fault text before ts t rest parts cut h n m)

-- a text that is read has no fault
no_fault : (text : List ℕ) (t : Tree) → Spells text t → read_on (bytes text) start text ≡ Ok t → (f : TreeErr) → HasFault text f → ⊥
no_fault text t s is f (stuck before c rest parts go never) = let H : List ℕ → Type 0 = λ x. HasShape x t in never rest t (subst H parts (s.0, s.1, s.2))
no_fault text t s is f (ended go never) = never t (s.0, s.1, s.2)
no_fault text t s is f (underscore before ts rest parts cut h) = let x = lone_fault text before ts rest parts cut h in absurd (cc (sym is ∙ x.1))
no_fault text t s is f (misfit before ts u rest parts cut h n m) = let x = misfit_fault text before ts u rest parts cut h n m in absurd (cc (sym is ∙ x.1))

-- what a text spells is read
pub spells_reads : (text : List ℕ) (t : Tree) → Spells text t → read_on (bytes text) start text ≡ Ok t
spells_reads text t s = ⊎_elim (λ h. h.1) (λ h. absurd (false≢true (sym h.0 ∙ s.3))) (shape_reads text t s.0 s.1 s.2)

-- what is read, and what is refused
pub is_read : (text : List ℕ) (t : Tree) → read_on (bytes text) start text ≡ Ok t → IsRead text t
is_read text t is =
    let A : Result Tree TreeErr → Type 0 = Answered text in
    let s = subst A is (reads text) in
    record {
      spelled = s;
      only = λ other h. cc (sym (spells_reads text other h) ∙ is);
      faultless = no_fault text t s is;
    }

pub is_refused : (text : List ℕ) (e : TreeErr) → read_on (bytes text) start text ≡ Err e → IsRefused text e
is_refused text e is =
    let A : Result Tree TreeErr → Type 0 = Answered text in
    let found = subst A is (reads text) in
    record {
      fault = found.fault;
      first = first_fault text e found is;
      unread = λ t h. cc (sym (spells_reads text t h) ∙ is);
    }

-- what a reader of bytes answers
pub answers_ok : (bs : List ℕ) → IsUtf8 bs → (r : Result Tree TreeErr) → Gives r (read_on (length bs) start (chars bs)) → IfOk r (IsRead (chars bs))
answers_ok bs u (Ok t) h = is_read (chars bs) t (ap (λ n. read_on n start (chars bs)) (ap length (encodes-chars bs u)) ∙ h)
answers_ok bs u (Err e) h = tt

pub answers_err : (bs : List ℕ) → IsUtf8 bs → (r : Result Tree TreeErr) → Gives r (read_on (length bs) start (chars bs)) → IfErr r (AnswersErr (chars bs))
answers_err bs u (Ok t) h = tt
answers_err bs u (Err (Syntax at)) h = is_refused (chars bs) (Syntax at) (ap (λ n. read_on n start (chars bs)) (ap length (encodes-chars bs u)) ∙ h)
answers_err bs u (Err (TooDeep at)) h = is_refused (chars bs) (TooDeep at) (ap (λ n. read_on n start (chars bs)) (ap length (encodes-chars bs u)) ∙ h)
answers_err bs u (Err (BadLiteral at)) h = is_refused (chars bs) (BadLiteral at) (ap (λ n. read_on n start (chars bs)) (ap length (encodes-chars bs u)) ∙ h)
answers_err bs u (Err NoMemory) h = tt
