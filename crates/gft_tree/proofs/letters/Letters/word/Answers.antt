use Rattle.std.proofs.Common.{ap, ◌∙◌, Some, None, if◌then◌else◌}
use Rattle.std.specs.Str.{chars}
use Rattle.gft_core.specs.Words.{is_word}
use Rattle.gft_tree.proofs.CharLemmas.{on_chars}
use Rattle.gft_tree.proofs.letters.Letters.word.Goals as goal

pub returns : goal.returns
returns c =
    on_chars c.new.result (λ cs bs. if is_word bs then Some bs else None) c.as_str.result.now c.args.self.now
    c.as_str.utf8 (ap chars c.as_str.ensures.value ∙ c.self.view_is) c.new.ensures
