use Rattle.std.proofs.Common.{nat_eq, ap, subst, ◌∙◌}
use Rattle.std.specs.Option.{option_copied, IfSome}
use Rattle.std.specs.Map.{lookup}
use Rattle.gft_unify.specs.Bindings.{IsLater}
use Rattle.gft_unify.proofs.StoreLemmas.{seen-lookup, found_later}
use Rattle.gft_unify.proofs.store.Store.get.Goals as goal

pub returns-clause-value : goal.returns-clause-value
returns-clause-value c =
    ap option_copied (c.copied.ensures ∙ c.get.ensures.value) ∙ seen-lookup _ c.args.hole ∙ ap (lookup (nat_eq c.args.hole)) c.self.view_is

pub returns-clause-later : goal.returns-clause-later
returns-clause-later c =
    subst (λ bs. IfSome c.copied.result (λ t. IsLater bs c.args.hole t.now)) c.self.view_is
    (found_later _ c.args.hole c.copied.result c.self.invariant (ap option_copied (c.copied.ensures ∙ c.get.ensures.value) ∙ seen-lookup _ c.args.hole))
