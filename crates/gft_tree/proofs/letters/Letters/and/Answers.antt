use Rattle.std.proofs.Common.{ap, ◌∙◌, ◌++◌, ◌∷◌, []}
use Rattle.std.specs.Str.{chars}
use Rattle.std.proofs.lemmas.Str.{IsUtf8-string_bytes}
use Rattle.gft_tree.proofs.CharLemmas.{chars-push}
use Rattle.gft_tree.proofs.letters.Letters.and.Goals as goal

pub returns : goal.returns
returns c =
    ap chars c.in_ok-push.ensures.bytes
    ∙ chars-push _ c.args.c (IsUtf8-string_bytes c.self.inside.text) c.ranges.c.0
    ∙ ap (λ cs. cs ++ c.args.c ∷ []) c.self.view_is
