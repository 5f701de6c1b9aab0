use Rattle.std.proofs.Common.{◌∙◌, ℕ, List, None, Some, ap, sym, position, bytes_eq}
use Rattle.gft_lex.proofs.Spelled.{by_place}
use Rattle.gft_lex.proofs.spellings.reserved_word.Goals as goal

pub returns-in-None : goal.returns-in-None
returns-in-None c =
    let place = λ (rows : List (ℕ × List ℕ)). position (λ (r : ℕ × List ℕ). bytes_eq r.1 c.args.text.now) rows in
    sym (by_place c.args.text.now c.utf8.text None (c.in-None.ensures ∙ ap place c.words.ensures))

pub returns-in-Some : goal.returns-in-Some
returns-in-Some c =
    let place = λ (rows : List (ℕ × List ℕ)). position (λ (r : ℕ × List ℕ). bytes_eq r.1 c.args.text.now) rows in
    sym (by_place c.args.text.now c.utf8.text (Some c.in-Some.place) (c.in-Some.ensures ∙ ap place c.words.ensures)
    ∙ c.word_at.ensures)
