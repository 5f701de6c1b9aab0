use Rattle.std.proofs.Common.{◌≡◌, [], ◌∷◌, ◌++◌, ap, sym, refl, ◌∙◌}
use Rattle.gft_unify.specs.Bindings.{trees_of, solved}
use Rattle.gft_unify.proofs.SearchLemmas.{trees_of-push, step-smaller, step-kept, step-found, step-smaller-App, step-kept-App, occurrences-Int, occurrences-Str, occurrences-other, occurrences-same}
use Rattle.gft_unify.proofs.occurs.reaches.Goals as goal
use Rattle.gft_unify.proofs.occurs.reaches.Goals.{After-walk}

popped : (c : After-walk) → trees_of c.search.pending.items ≡ trees_of c.pop.new.self.items ++ c.in-Some.next.now ∷ []
popped c = ap trees_of c.in-Some.ensures.items ∙ trees_of-push c.pop.new.self.items _

pub search-smaller-in-Int : goal.search-smaller-in-Int
search-smaller-in-Int c =
    let s = solved c.args.store.now in
    step-smaller s c.args.hole _ _ _ _ (popped (goal.at.search-smaller-in-Int c).After-walk) (c.walk.ensures.same s c.requires.respected)

pub search-preserved-in-Int : goal.search-preserved-in-Int
search-preserved-in-Int c =
    let s = solved c.args.store.now in
    step-kept s c.args.hole _ _ _ _ (popped (goal.at.search-preserved-in-Int c).After-walk) (c.walk.ensures.same s c.requires.respected) _
    (occurrences-Int s c.args.hole c.walk.result.now _ c.in-Int.is) c.search.invariant

pub search-smaller-in-Str : goal.search-smaller-in-Str
search-smaller-in-Str c =
    let s = solved c.args.store.now in
    step-smaller s c.args.hole _ _ _ _ (popped (goal.at.search-smaller-in-Str c).After-walk) (c.walk.ensures.same s c.requires.respected)

pub search-preserved-in-Str : goal.search-preserved-in-Str
search-preserved-in-Str c =
    let s = solved c.args.store.now in
    step-kept s c.args.hole _ _ _ _ (popped (goal.at.search-preserved-in-Str c).After-walk) (c.walk.ensures.same s c.requires.respected) _
    (occurrences-Str s c.args.hole c.walk.result.now _ c.in-Str.is) c.search.invariant

pub search-smaller-else-found-hole : goal.search-smaller-else-found-hole
search-smaller-else-found-hole c =
    let s = solved c.args.store.now in
    step-smaller s c.args.hole _ _ _ _ (popped (goal.at.search-smaller-else-found-hole c).After-walk) (c.walk.ensures.same s c.requires.respected)

pub search-preserved-else-found-hole : goal.search-preserved-else-found-hole
search-preserved-else-found-hole c =
    let s = solved c.args.store.now in let loose = c.requires.loose c.in-Hole.found (c.walk.ensures.end c.in-Hole.found c.in-Hole.is) in
    step-kept s c.args.hole _ _ _ _ (popped (goal.at.search-preserved-else-found-hole c).After-walk) (c.walk.ensures.same s c.requires.respected) _
    (occurrences-other s c.args.hole c.walk.result.now c.in-Hole.found c.in-Hole.is loose (λ e. c.if-found-hole.false (sym e))) c.search.invariant

pub returns-then-found-hole : goal.returns-then-found-hole
returns-then-found-hole c =
    let s = solved c.args.store.now in let loose = c.requires.loose c.in-Hole.found (c.walk.ensures.end c.in-Hole.found c.in-Hole.is) in
    let found = step-found s c.args.hole _ _ _ _ (popped (goal.at.returns-then-found-hole c).After-walk) (c.walk.ensures.same s c.requires.respected) _
    (occurrences-same s c.args.hole c.walk.result.now c.in-Hole.found c.in-Hole.is loose c.if-found-hole.true) c.search.invariant in
    (λ t. found, λ h. refl)

pushed : (c : goal.In_ok-push_all-in-App) → trees_of c.push_all.new.pending.items ≡ trees_of c.pop.new.self.items ++ c.in-App.arguments
pushed c = c.in_ok-push_all-in-App.ensures ∙ ap (λ xs. trees_of c.pop.new.self.items ++ xs) c.as_slice.ensures

pub search-smaller : goal.search-smaller
search-smaller c =
    let s = solved c.args.store.now in
    step-smaller-App s c.args.hole _ _ _ _ (popped (goal.at.search-smaller c).After-walk) (c.walk.ensures.same s c.requires.respected) _ _ _ c.in-App.is (pushed c)

pub search-preserved : goal.search-preserved
search-preserved c =
    let s = solved c.args.store.now in
    step-kept-App s c.args.hole _ _ _ _ (popped (goal.at.search-preserved c).After-walk) (c.walk.ensures.same s c.requires.respected) _ _ _ c.in-App.is (pushed c) _ c.search.invariant
