use Rattle.std.proofs.Common.{ap, ◌∙◌, Some, None, if◌then◌else◌}
use Rattle.std.specs.Str.{chars}
use Rattle.gft_core.specs.Names.{spells_name}
use Rattle.gft_tree.proofs.CharLemmas.{on_chars}
use Rattle.gft_tree.proofs.letters.Letters.name.Goals as goal

pub returns : goal.returns
returns c =
    on_chars c.new.result (λ cs bs. if spells_name cs then Some bs else None) c.as_str.result.now c.args.self.now
    c.as_str.utf8 (ap chars c.as_str.ensures.value ∙ c.self.view_is) c.new.ensures
