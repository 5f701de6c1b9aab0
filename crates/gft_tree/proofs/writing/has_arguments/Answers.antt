use Rattle.std.proofs.Common.{ap, sym, ◌∙◌}
use Rattle.gft_tree.specs.Trees.{printed}
use Rattle.gft_tree.proofs.ListLemmas.{flag_is}
use Rattle.gft_tree.proofs.writing.has_arguments.Goals as goal

pub returns-in-App : goal.returns-in-App
returns-in-App c = flag_is c.in-App.field-0 c.in-App.arguments c.is_empty.result c.is_empty.ensures ∙ sym (ap (λ t. (printed t).1) c.in-App.is)
