-- Characters of a text, one more and one less.
use Rattle.std.proofs.Common.{◌≡◌, ℕ, List, [], ◌∷◌, ◌++◌, ap, sym, ◌∙◌, subst, IfOk, Result, append-nil, Option}
use Rattle.std.specs.Prelude.{encode_utf8, encode_utf8_all}
use Rattle.std.specs.Char.{IsScalar}
use Rattle.std.specs.Str.{chars, IsUtf8}
use Rattle.std.proofs.lemmas.Str.{chars-nil, chars-append, chars_past_char, IsUtf8-encode, encodes-chars}

-- the characters with one more
pub chars-push : (bs : List ℕ) (c : ℕ) → IsUtf8 bs → IsScalar c → chars (bs ++ encode_utf8 c) ≡ chars bs ++ c ∷ []
chars-push bs c u s =
    chars-append bs (encode_utf8 c) u
    ∙ ap (λ cs. chars bs ++ cs) (chars_past_char (encode_utf8 c) [] c (IsUtf8-encode c s) (sym (append-nil (encode_utf8 c))) ∙ ap (λ cs. c ∷ cs) chars-nil)

-- an answer that cites the bytes of a text, said of its characters
pub on_chars : {E N : Type 0} (r : Result (Option N) E) (is : List ℕ → List ℕ → Option N) (bs cs : List ℕ) → IsUtf8 bs → chars bs ≡ cs
    → IfOk r (λ found. found ≡ is (chars bs) bs) → IfOk r (λ found. found ≡ is cs (encode_utf8_all cs))
on_chars r is bs cs u e h =
    let P : List ℕ → Type 0 = λ x. IfOk r (λ found. found ≡ is (chars bs) x) in
    let Q : List ℕ → Type 0 = λ x. IfOk r (λ found. found ≡ is x (encode_utf8_all x)) in
    subst Q e (subst P (sym (encodes-chars bs u)) h)
