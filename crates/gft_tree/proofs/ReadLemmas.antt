-- One character of the reader's loop.
use Rattle.std.proofs.Common.{◌≡◌, ℕ, ◌-◌, ◌+◌, ◌≤◌, List, [], ◌∷◌, ◌++◌, length, ap, sym, ◌∙◌, Result, Err, arith, length-append}
use Rattle.std.specs.Prelude.{encode_utf8, encode_utf8_all}
use Rattle.std.specs.Str.{chars, IsUtf8}
use Rattle.std.proofs.lemmas.Str.{chars-nil, chars_past_char, encodes-chars}
use Rattle.gft_core.specs.declared.tree.Tree.{Tree}
use Rattle.gft_tree.specs.declared.error.TreeErr.{TreeErr}
use Rattle.gft_tree.specs.declared.error.TreeErr.TheVariants.{Syntax, TooDeep, BadLiteral, NoMemory}
use Rattle.gft_tree.specs.declared.reader.Reader.{Reader}
use Rattle.gft_tree.specs.Reading.{read_on, on_step, step, finished, Gives}

-- reading the first character of some bytes
pub read_one : (total : ℕ) (reader : Reader) (bs rest : List ℕ) (c : ℕ) → IsUtf8 bs → bs ≡ encode_utf8 c ++ rest
    → read_on total reader (chars bs) ≡ on_step (step reader (total - length bs) c) (λ next. read_on total next (chars rest))
read_one total reader bs rest c u e =
    let first = chars_past_char bs rest c u e in
    ap (read_on total reader) first
    ∙ ap (λ n. on_step (step reader (total - n) c) (λ next. read_on total next (chars rest)))
    (ap (λ cs. length (encode_utf8_all cs)) (sym first) ∙ ap length (encodes-chars bs u))

-- and where there is none
pub read_none : (total : ℕ) (reader : Reader) (bs : List ℕ) → length bs ≡ 0 → read_on total reader (chars bs) ≡ finished reader (total - length bs)
read_none total reader [] e = ap (read_on total reader) chars-nil ∙ ap (finished reader) (omega arith)
read_none total reader (b ∷ bs) e = absurd (omega (arith, e))

-- a fault of a step is that of the reading
pub gives_on : (e : TreeErr) (r : Result Reader TreeErr) (next : Reader → Result Tree TreeErr) → Gives {X = Reader} (Err e) r → Gives {X = Tree} (Err e) (on_step r next)
gives_on (Syntax at) r next h = ap (λ q. on_step q next) h
gives_on (TooDeep at) r next h = ap (λ q. on_step q next) h
gives_on (BadLiteral at) r next h = ap (λ q. on_step q next) h
gives_on NoMemory r next h = tt

-- what is left behind a character is no longer than before it
pub shorter : (xs ys zs : List ℕ) (n : ℕ) → xs ≡ ys ++ zs → length xs ≤ n → length zs ≤ n
shorter xs ys zs n e h = let long : length xs ≡ length ys + length zs = ap length e ∙ length-append ys zs in omega (arith, long, h)
