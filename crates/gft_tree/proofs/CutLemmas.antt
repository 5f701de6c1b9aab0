-- The reader over the tokens of a text.
use Rattle.std.proofs.Common.{IfSome, ◌≡◌, ℕ, ◌-◌, ◌+◌, ◌≤◌, ◌<◌, ◌⊎◌, inl, inr, Bool, true, false, ◌&&◌, List, [], ◌∷◌, ◌++◌, length, ap, sym, ◌∙◌, subst, refl, Result, Err, Option, None, Some, arith, append_assoc, length-append}
use Rattle.std.specs.Prelude.{encode_utf8, encode_utf8_all, flat_map}
use Rattle.std.specs.Char.{is_whitespace}
use Rattle.std.proofs.lemmas.Str.{encodes-append, length-encode, len_utf8_bounds}
use Rattle.std.proofs.lemmas.Bool.{false≢true}
use Rattle.gft_core.specs.declared.tree.Tree.{Tree}
use Rattle.gft_tree.specs.declared.error.TreeErr.{TreeErr}
use Rattle.gft_tree.specs.declared.level.Level.{Level}
use Rattle.gft_tree.specs.declared.level.Gap.TheVariants.{Begun, Whole}
use Rattle.gft_tree.specs.Lexemes.{Lexeme, Word, Number, Quoted, Query, Open, Close, Cut, done, space, token, spelled, escaped, is_lexeme}
use Rattle.gft_tree.specs.Spelling.{Context, after, all_fit, fits}
use Rattle.gft_tree.specs.Faults.{bytes, misfit_of, place_of, IsSyntax}
use Rattle.gft_tree.specs.Reading.{tree_of, read_on}
use Rattle.gft_tree.proofs.TokenLemmas.{Stop, gap, asked, State, reader_of, fed, fed_close, context_of, behind, over_token}

-- bytes of characters
pub bytes-append : (xs ys : List ℕ) → bytes (xs ++ ys) ≡ bytes xs + bytes ys
bytes-append xs ys = ap length (encodes-append xs ys) ∙ length-append (encode_utf8_all xs) (encode_utf8_all ys)

pub bytes_more : (c : ℕ) (cs : List ℕ) → bytes cs < bytes (c ∷ cs)
bytes_more c cs =
    let n : bytes (c ∷ cs) ≡ length (encode_utf8 c) + bytes cs = length-append (encode_utf8 c) (encode_utf8_all cs) in
    let e = length-encode c in
    let b = (len_utf8_bounds c).0 in
    omega (arith, n, e, b)

-- a token takes room
pub token_bytes : (t : Lexeme) (more : List ℕ) → is_lexeme t ≡ true → bytes more < bytes (spelled t ++ more)
token_bytes (Word []) more h = absurd (false≢true h)
token_bytes (Word (c ∷ cs)) more h = let a = bytes_more c (cs ++ more) in let b = bytes-append cs more in omega (arith, a, b)
token_bytes (Number []) more h = absurd (false≢true h)
token_bytes (Number (c ∷ cs)) more h = let a = bytes_more c (cs ++ more) in let b = bytes-append cs more in omega (arith, a, b)
token_bytes (Quoted w) more h =
    let inside = flat_map escaped w ++ 34 ∷ [] in
    let a = bytes_more 34 (inside ++ more) in
    let b = bytes-append inside more in
    omega (arith, a, b)
token_bytes Query more h = bytes_more 63 more
token_bytes Open more h = bytes_more 40 more
token_bytes Close more h = bytes_more 41 more

-- what the tokens make of a place, where they may stand
abbrev pub fed_some : Option State → Lexeme → Option State
fed_some None t = None
fed_some (Some p) t = fed p.0 p.1 t

abbrev pub fed_all : Option State → List Lexeme → Option State
fed_all o [] = o
fed_all o (t ∷ ts) = fed_all (fed_some o t) ts

pub fed_none : (ts : List Lexeme) → fed_all None ts ≡ None
fed_none [] = refl
fed_none (t ∷ ts) = fed_none ts

pub fed_all-append : (o : Option State) (ts us : List Lexeme) → fed_all o (ts ++ us) ≡ fed_all (fed_all o ts) us
fed_all-append o [] us = refl
fed_all-append o (t ∷ ts) us = fed_all-append (fed_some o t) ts us

abbrev pub context : State → Context
context p = context_of p.0 p.1

-- a token that may stand changes the context as it does
after_close : (outer : List Level) (o : Option Tree) → IfSome (fed_close outer o) (λ q. context q ≡ record { behind_query = false; opened = length outer - 1 })
after_close [] None = tt
after_close (l ∷ outer) None = tt
after_close [] (Some t) = tt
after_close (l ∷ outer) (Some t) = let n : length outer ≡ length (l ∷ outer) - 1 = omega arith in ap (λ (k : ℕ). let x : Context = record { behind_query = false; opened = k } in x) n

pub after_fed : (outer : List Level) (stop : Stop) (t : Lexeme) → IfSome (fed outer stop t) (λ q. context q ≡ after (context_of outer stop) t)
after_fed outer (gap (Begun l)) (Word w) = refl
after_fed outer (gap (Begun l)) (Number ds) = refl
after_fed outer (gap (Begun l)) (Quoted w) = refl
after_fed outer (gap (Begun l)) Query = refl
after_fed outer (gap (Begun l)) Open = let n : length (l ∷ outer) ≡ length outer + 1 = omega arith in ap (λ (k : ℕ). let x : Context = record { behind_query = false; opened = k } in x) n
after_fed outer (gap (Begun l)) Close = after_close outer (tree_of (Begun l))
after_fed outer (gap (Whole s)) (Word w) = tt
after_fed outer (gap (Whole s)) (Number ds) = tt
after_fed outer (gap (Whole s)) (Quoted w) = tt
after_fed outer (gap (Whole s)) Query = tt
after_fed outer (gap (Whole s)) Open = tt
after_fed outer (gap (Whole s)) Close = after_close outer (Some s)
after_fed outer (asked l) (Word w) = tt
after_fed outer (asked l) (Number ds) = refl
after_fed outer (asked l) (Quoted w) = tt
after_fed outer (asked l) Query = tt
after_fed outer (asked l) Open = tt
after_fed outer (asked l) Close = tt

-- white space changes no place
over_space : (total : ℕ) (outer : List Level) (stop : Stop) (c : ℕ) (cs : List ℕ) → is_whitespace c ≡ true
    → read_on total (reader_of (outer, stop)) (c ∷ cs) ≡ read_on total (reader_of (outer, stop)) cs
over_space total outer (gap (Begun l)) c cs h = rw h refl
over_space total outer (gap (Whole s)) c cs h = rw h refl
over_space total outer (asked l) c cs h = rw h refl

-- reading fails before the rest
abbrev pub FailsBefore : ℕ → List ℕ → Result Tree TreeErr → Type 0
FailsBefore total rest r = (e : TreeErr) × (r ≡ Err e) × (place_of e + bytes rest < total)

-- reading fails before the rest, by a token that does not fit
abbrev pub Misfits : ℕ → List ℕ → Result Tree TreeErr → Type 0
Misfits total rest r = (e : TreeErr) × (r ≡ Err e) × (place_of e + bytes rest < total) × (IsSyntax e → ⊥)

-- reading comes to where the tokens lead, where each fits
abbrev pub Leads : ℕ → List ℕ → Option State → Bool → Result Tree TreeErr → Type 0
Leads total rest None fit r = FailsBefore total rest r
Leads total rest (Some q) fit r = ((fit ≡ true) × (r ≡ read_on total (reader_of q) rest)) ⊎ ((fit ≡ false) × Misfits total rest r)

pub misfit_place : (t : Lexeme) (at : ℕ) → (place_of (misfit_of t at) ≡ at) × (IsSyntax (misfit_of t at) → ⊥)
misfit_place (Word w) at = (refl, λ h. h)
misfit_place (Number ds) at = (refl, λ h. h)
misfit_place (Quoted w) at = (refl, λ h. h)
misfit_place Query at = (refl, λ h. h)
misfit_place Open at = (refl, λ h. h)
misfit_place Close at = (refl, λ h. h)

-- a failure, whatever the tokens would lead to
misfit_leads : (total : ℕ) (rest : List ℕ) (o : Option State) (fit : Bool) (r : Result Tree TreeErr) → fit ≡ false → Misfits total rest r → Leads total rest o fit r
misfit_leads total rest None fit r f m = (m.0, m.1, m.2)
misfit_leads total rest (Some q) fit r f m = inr (f, m)

place_in : (total n m k : ℕ) → n ≤ total → m < n → k ≤ m → (total - n) + k < total
place_in total n m k a b d = omega (arith, a, b, d)

-- one token, and then the others
on_token : (total : ℕ) (rest more : List ℕ) (p : State) (t : Lexeme) (ts : List Lexeme) (o : Option State) (fit : Bool) (r : Result Tree TreeErr)
    → is_lexeme t ≡ true → bytes (spelled t ++ more) ≤ total → bytes rest ≤ bytes more
    → fed p.0 p.1 t ≡ o → fits (context p) t ≡ fit → r ≡ behind total more t fit o
    → ((q : State) → Leads total rest (fed_all (Some q) ts) (all_fit (context q) ts) (read_on total (reader_of q) more))
    → IfSome o (λ q. context q ≡ after (context p) t)
    → Leads total rest (fed_all o ts) (fit && all_fit (after (context p) t) ts) r
on_token total rest more p t ts None fit r h room short e f is go same =
    let P : Option State → Type 0 = λ x. Leads total rest x (fit && all_fit (after (context p) t) ts) r in
    subst P (sym (fed_none ts)) (_, is, place_in total (bytes (spelled t ++ more)) (bytes more) (bytes rest) room (token_bytes t more h) short)
on_token total rest more p t ts (Some q) true r h room short e f is go same =
    let P : Result Tree TreeErr → Type 0 = λ x. Leads total rest (fed_all (Some q) ts) (all_fit (after (context p) t) ts) x in
    let Q : Context → Type 0 = λ x. Leads total rest (fed_all (Some q) ts) (all_fit x ts) (read_on total (reader_of q) more) in
    subst P (sym is) (subst Q same (go q))
on_token total rest more p t ts (Some q) false r h room short e f is go same =
    let m = misfit_place t (total - bytes (spelled t ++ more)) in
    let at = place_in total (bytes (spelled t ++ more)) (bytes more) (bytes rest) room (token_bytes t more h) short in
    let R : ℕ → Type 0 = λ n. n + bytes rest < total in
    misfit_leads total rest (fed_all (Some q) ts) false r refl (_, is, subst R (sym m.0) at, m.1)

-- reading over the tokens of some characters
pub over_cut : (total : ℕ) {cs : List ℕ} {ts : List Lexeme} {rest : List ℕ} → Cut cs ts rest → (p : State) → bytes (cs ++ rest) ≤ total
    → Leads total rest (fed_all (Some p) ts) (all_fit (context p) ts) (read_on total (reader_of p) (cs ++ rest))
over_cut total done p room = inl (refl, refl)
over_cut total (space {c} {cs} {tokens = ts} {rest} w cut) p room =
    let P : Result Tree TreeErr → Type 0 = λ x. Leads total rest (fed_all (Some p) ts) (all_fit (context p) ts) x in
    let n = bytes_more c (cs ++ rest) in
    subst P (sym (over_space total p.0 p.1 c (cs ++ rest) w)) (over_cut total cut p (omega (arith, n, room)))
over_cut total (token {t} {cs} {tokens = ts} {rest} h n cut) p room =
    let more = cs ++ rest in
    let same = append_assoc (spelled t) cs rest in
    let P : List ℕ → Type 0 = λ x. Leads total rest (fed_all (fed p.0 p.1 t) ts) (fits (context p) t && all_fit (after (context p) t) ts) (read_on total (reader_of p) x) in
    let B : List ℕ → Type 0 = λ x. bytes x ≤ total in
    let room' = subst B same room in
    let longer = token_bytes t more h in
    let short : bytes rest ≤ bytes more = let b = bytes-append cs rest in omega (arith, b) in
    subst P (sym same) (on_token total rest more p t ts (fed p.0 p.1 t) (fits (context p) t) (read_on total (reader_of p) (spelled t ++ more)) h room' short
    refl refl (over_token total p.0 p.1 t more h n) (λ q. over_cut total cut q (omega (arith, longer, room'))) (after_fed p.0 p.1 t))
