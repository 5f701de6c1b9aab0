use Rattle.std.proofs.Common.{◌≡◌, [], ◌∷◌, ◌++◌, nat_eq, ap, sym, subst, ◌∙◌}
use Rattle.std.specs.Map.{lookup}
use Rattle.gft_unify.specs.Bindings.{seen, LinksOn, IsEnd}
use Rattle.gft_unify.proofs.BindingLemmas.{LinksOn-push}
use Rattle.gft_unify.proofs.StoreLemmas.{seen-insert}
use Rattle.gft_unify.proofs.store.Store.bind.Goals as goal

-- the bindings are those that were there
same : (c : goal.In_ok-insert) → seen c.self.inside.bound.entries ≡ c.args.self.now
same c = c.self.view_is ∙ c.lengthen.ensures

bound : (c : goal.In_ok-insert) → seen c.insert.new.self.entries ≡ seen c.self.inside.bound.entries ++ (c.args.hole, c.args.tree.now) ∷ []
bound c =
    ap seen c.in_ok-insert.ensures.entries ∙ seen-insert _ c.args.hole c.args.tree (ap (lookup (nat_eq c.args.hole)) (same c) ∙ c.requires.loose)

pub invariant_of-self-2 : goal.invariant_of-self-2
invariant_of-self-2 c =
    subst LinksOn (sym (bound c)) (LinksOn-push _ c.args.hole c.args.tree.now c.self.invariant (subst (λ bs. IsEnd bs c.args.tree.now) (sym (same c)) c.requires.end) c.requires.other)

pub returns : goal.returns
returns c = record { ok = bound c ∙ ap (λ bs. bs ++ (c.args.hole, c.args.tree.now) ∷ []) (same c) }
