use Rattle.std.proofs.Common.{◌≡◌, [], ◌∷◌, ◌++◌, ap, sym, ◌∙◌, drop, take, length, map, ◌+◌, append_assoc}
use Rattle.std.specs.Str.{chars}
use Rattle.std.specs.Str.Lossy.{utf8_valid_len}
use Rattle.std.proofs.lemmas.Iterator.{YieldsList-from_chars}
use Rattle.std.proofs.lemmas.Iterator.Consumers.{YieldsList-end}
use Rattle.std.proofs.lemmas.List.{at_drop_more, map-id, length-take-le}
use Rattle.std.proofs.lemmas.Str.{utf8_valid_len_le}
use Rattle.gft_model.specs.TokenFaults.{loose}
use Rattle.gft_lex.proofs.letters.letters_of.Goals as goal

pub bytes-init : goal.bytes-init
bytes-init c =
    let text = c.text_at_front-text in
    let bytes = c.args.bytes.now in
    let t = YieldsList-end
    (YieldsList-from_chars text.result.now text.utf8 cc) c.characters.yielded _
    c.characters.yielded_by _ _ c.in-None.is c.next.ensures.steps in
    let all : c.characters.letters.items ≡ chars (take (utf8_valid_len bytes) bytes)
    = c.characters.invariant ∙ sym (map-id c.characters.yielded) ∙ t.0 ∙ ap chars text.ensures in
    let n : length text.result.now ≡ utf8_valid_len bytes
    = ap length text.ensures ∙ length-take-le (utf8_valid_len bytes) bytes (utf8_valid_len_le bytes) in
    let rest = c.split_at.ensures.back ∙ ap (λ n. drop n bytes) n in
    ap (λ ls. ls ++ map loose c.split_at.result.1.now) all
    ∙ ap (λ bs. chars (take (utf8_valid_len bytes) bytes) ++ map loose bs) rest

pub bytes-preserved : goal.bytes-preserved
bytes-preserved c =
    let rest = c.split_at.result.1.now in
    let i = c.bytes.byte-index in
    let left = map loose (drop (i + 1) rest) in
    ap (λ ls. ls ++ left) c.in_ok-push-2.ensures.items ∙ append_assoc c.bytes.letters.items (c.loose.result ∷ []) left
    ∙ ap (λ b. c.bytes.letters.items ++ b ∷ left) c.loose.ensures
    ∙ ap (λ ls. c.bytes.letters.items ++ ls) (sym (at_drop_more (map loose) rest i 0 c.bytes-test.true)) ∙ c.bytes.invariant
