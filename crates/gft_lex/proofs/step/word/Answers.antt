use Rattle.std.proofs.Common.{◌≡◌, ◌∙◌, sym, ap, subst, Ok, Some, length}
use Rattle.std.specs.Str.{chars}
use Rattle.gft_core.specs.Names.{IsName}
use Rattle.gft_syntax.specs.declared.token.TokenForm.{TokenForm}
use Rattle.gft_lex.specs.Spellings.{word_form}
use Rattle.gft_lex.specs.Steps.{on_given, met}
use Rattle.gft_lex.proofs.Wholes.{spelled_text, spelled_name, spelled_characters}
use Rattle.gft_lex.proofs.step.word.Goals as goal

pub form_of_word-requires : goal.form_of_word-requires
form_of_word-requires c =
    let s = spelled_text c.args.place c.args.letters.now c.in-Ok.text c.in-Ok.ensures in
    subst IsName (sym c.as_str.ensures) (spelled_name c.args.letters.now c.in-Ok.text s c.requires.name)

pub returns-in_ok-form_of_word-in-Ok : goal.returns-in_ok-form_of_word-in-Ok
returns-in_ok-form_of_word-in-Ok c =
    let cs = c.args.letters.now in
    let s = spelled_text c.args.place cs c.in-Ok.text c.in-Ok.ensures in
    let form = c.in_ok-form_of_word-in-Ok in
    let e : word_form cs ≡ form.field-0 = ap word_form (sym (spelled_characters cs c.in-Ok.text s))
    ∙ ap (λ t. word_form (chars t)) (sym c.as_str.ensures) ∙ sym form.ensures in
    ap (λ t. on_given t (λ _. Ok (met (Some (word_form cs)) (length cs)))) c.in-Ok.ensures
    ∙ ap (λ (f : TokenForm). Ok (met (Some f) (length cs))) e
