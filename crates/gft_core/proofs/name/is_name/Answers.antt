use Rattle.std.proofs.Common.{sym, ap, ◌∙◌, ◌∷◌}
use Rattle.std.specs.Str.{chars}
use Rattle.std.proofs.lemmas.Str.{chars_past_char}
use Rattle.gft_core.specs.Names.{spells_name}
use Rattle.gft_core.proofs.name.is_name.Goals as goal

pub returns-in-Some : goal.returns-in-Some
returns-in-Some c =
    let e = sym c.chars-rest.ensures.rest ∙ c.in-Some.ensures.steps.0 in
    c.spells.ensures ∙ ap (λ t. spells_name (c.in-Some.first ∷ chars t)) c.as_str.ensures
    ∙ sym (ap spells_name (chars_past_char _ _ c.in-Some.first c.utf8.text e))
