use Rattle.std.proofs.Common.{◌≡◌, ◌∙◌, sym, ap, ℕ, List, Option, Some, None}
use Rattle.std.proofs.lemmas.Bool.{cond_both}
use Rattle.gft_core.specs.Names.{is_name}
use Rattle.std.proofs.lemmas.Str.{encodes-chars}
use Rattle.std.specs.Str.{chars}
use Rattle.gft_syntax.specs.declared.token.TokenForm.TheVariants.{Identifier}
use Rattle.gft_lex.proofs.Wholes.{word_reserved, word_identifier}
use Rattle.gft_lex.proofs.step.form_of_word.Goals as goal

pub returns-in-Some : goal.returns-in-Some
returns-in-Some c = sym (word_reserved (chars c.args.text.now) c.in-Some.word (sym c.in-Some.ensures))

pub returns : goal.returns
returns c =
    let text = c.args.text.now in
    let P : Option (List ℕ) → Type 0 = λ o. o ≡ Some c.in-Some-2.name → c.in-Some-2.name ≡ text in
    let named : c.in-Some-2.name ≡ text =
    cond_both (is_name text) (Some text) None P (λ b e. cc) (λ b e. absurd (cc)) (sym c.in_ok-new.ensures ∙ c.in-Some-2.is) in
    ap Identifier (named ∙ sym (encodes-chars text c.utf8.text)) ∙ sym (word_identifier (chars text) (sym c.in_default.ensures))
