-- Holes renamed by first occurrence.
use Rattle.std.proofs.Common.{◌≡◌, ℕ, ◌+◌, nat_eq, Bool, true, false, ◌||◌, List, [], ◌∷◌, ◌++◌, length, map, take, get_or, ◌<◌, ap, sym, ◌∙◌, subst, refl, append_assoc, append-nil, ⊎_elim, IfOk, OnOk, Result, Ok, Err}
use Rattle.std.specs.List.{list_any, position_or_len}
use Rattle.std.proofs.lemmas.Bool.{cases_Bool, false≢true, eq-eqb}
use Rattle.gft_core.specs.declared.memory.NoMemory.{NoMemory}
use Rattle.gft_core.specs.declared.tree.Tree.{Tree, roll-Tree}
use Rattle.gft_core.specs.declared.tree.Tree.TheOpen.{Hole}
use Rattle.gft_core.specs.declared.tree.Tree.TheVariants.{rolls-App, rolls-Int, rolls-Str, rolls-Hole}
use Rattle.gft_core.specs.declared.tree.Tree.TheVariants as tree
use Rattle.gft_tree.specs.Trees.{holes_of, all_of, with_number, firsts_after, place_in, filled_step, placed, numbered}
use Rattle.gft_tree.proofs.LayerLemmas.{fold-App, fold-Hole}
use Rattle.gft_tree.proofs.ListLemmas.{take_one, map_push}

abbrev fill_of : List ℕ → ℕ → Tree
fill_of js k = roll-Tree (Hole (place_in js k))

placed-App : (js : List ℕ) (f : List ℕ) (ts : List Tree) → placed js (tree.App f ts) ≡ tree.App f (map (placed js) ts)
placed-App js f ts = fold-App Tree (filled_step (fill_of js)) f ts ∙ rolls-App f (map (placed js) ts)

placed-Hole : (js : List ℕ) (k : ℕ) → placed js (tree.Hole k) ≡ tree.Hole (place_in js k)
placed-Hole js k = fold-Hole Tree (filled_step (fill_of js)) k ∙ rolls-Hole (place_in js k)

-- a number that is there keeps its place
kept : (js more : List ℕ) (k : ℕ) → list_any (nat_eq k) js ≡ true → position_or_len (nat_eq k) (js ++ more) ≡ position_or_len (nat_eq k) js
kept [] more k h = absurd (false≢true h)
kept (j ∷ js) more k h = ⊎_elim
    (λ e. rw e refl)
    (λ n. let P : Bool → Type 0 = λ b. (b || list_any (nat_eq k) js) ≡ true in rw n (ap (λ x. 1 + x) (kept js more k (subst P n h))))
    (cases_Bool (nat_eq k j))

-- one that is not goes to the end
added : (js more : List ℕ) (k : ℕ) → list_any (nat_eq k) js ≡ false → position_or_len (nat_eq k) ((js ++ k ∷ []) ++ more) ≡ position_or_len (nat_eq k) js
added [] more k h = rw (eq-eqb k k refl) refl
added (j ∷ js) more k h = ⊎_elim
    (λ e. let P : Bool → Type 0 = λ b. (b || list_any (nat_eq k) js) ≡ false in absurd (false≢true (sym (subst P e h))))
    (λ n. let P : Bool → Type 0 = λ b. (b || list_any (nat_eq k) js) ≡ false in rw n (ap (λ x. 1 + x) (added js more k (subst P n h))))
    (cases_Bool (nat_eq k j))

stays : (js more : List ℕ) (k : ℕ) → place_in (with_number js k ++ more) k ≡ place_in js k
stays js more k = ap (λ n. n + 1) (⊎_elim (λ h. rw h (kept js more k h)) (λ h. rw h (added js more k h)) (cases_Bool (list_any (nat_eq k) js)))

-- an application
pub app_placed : (now : Tree) (f g : List ℕ) (ts us : List Tree) (new : List ℕ) → now ≡ tree.App f ts → g ≡ f → ((more : List ℕ) → us ≡ map (placed (new ++ more)) ts)
    → (more : List ℕ) → tree.App g us ≡ placed (new ++ more) now
app_placed now f g ts us new e c h more = ap (λ x. tree.App x us) c ∙ ap (tree.App f) (h more) ∙ sym (ap (placed (new ++ more)) e ∙ placed-App (new ++ more) f ts)

-- a hole
pub hole_placed : (now : Tree) (k p : ℕ) (old new : List ℕ) → now ≡ tree.Hole k → new ≡ with_number old k → p ≡ place_in old k
    → (more : List ℕ) → tree.Hole p ≡ placed (new ++ more) now
hole_placed now k p old new e n h more =
    ap tree.Hole (h ∙ sym (stays old more k)) ∙ ap (λ x. tree.Hole (place_in (x ++ more) k)) (sym n) ∙ sym (ap (placed (new ++ more)) e ∙ placed-Hole (new ++ more) k)

firsts-append : (js ks ls : List ℕ) → firsts_after js (ks ++ ls) ≡ firsts_after (firsts_after js ks) ls
firsts-append js [] ls = refl
firsts-append js (k ∷ ks) ls = firsts-append (with_number js k) ks ls

extends_one : (js : List ℕ) (k : ℕ) → (ext : List ℕ) × (with_number js k ≡ js ++ ext)
extends_one js k = ⊎_elim (λ h. ([], rw h (sym (append-nil js)))) (λ h. (k ∷ [], rw h refl)) (cases_Bool (list_any (nat_eq k) js))

extends : (js ks : List ℕ) → (ext : List ℕ) × (firsts_after js ks ≡ js ++ ext)
extends js [] = ([], sym (append-nil js))
extends js (k ∷ ks) =
    let one = extends_one js k in
    let all = extends (with_number js k) ks in
    (one.0 ++ all.0, all.1 ∙ ap (λ x. x ++ all.0) one.1 ∙ append_assoc js one.0 all.0)

all_of_push : (xss : List (List ℕ)) (xs : List ℕ) → all_of (xss ++ xs ∷ []) ≡ all_of xss ++ xs
all_of_push [] xs = append-nil xs
all_of_push (ys ∷ xss) xs = ap (λ z. ys ++ z) (all_of_push xss xs) ∙ sym (append_assoc ys (all_of xss) xs)

-- one tree more
pub seen_more : (ts : List Tree) (i : ℕ) (x : Tree) (first now new : List ℕ) → i < length ts → x ≡ get_or ts i x
    → now ≡ firsts_after first (all_of (map holes_of (take i ts))) → new ≡ firsts_after now (holes_of x)
    → new ≡ firsts_after first (all_of (map holes_of (take (i + 1) ts)))
seen_more ts i x first now new h e n m =
    m ∙ ap (λ js. firsts_after js (holes_of x)) n ∙ sym (firsts-append first (all_of (map holes_of (take i ts))) (holes_of x))
    ∙ ap (firsts_after first) (sym (ap (λ us. all_of (map holes_of us)) (take_one ts i x h e) ∙ ap all_of (map_push holes_of (take i ts) x) ∙ all_of_push (map holes_of (take i ts)) (holes_of x)))

pub trees_more : (ts us vs : List Tree) (i : ℕ) (x y : Tree) (now new : List ℕ) → i < length ts → x ≡ get_or ts i x
    → ((more : List ℕ) → us ≡ map (placed (now ++ more)) (take i ts)) → new ≡ firsts_after now (holes_of x)
    → ((more : List ℕ) → y ≡ placed (new ++ more) x) → vs ≡ us ++ y ∷ []
    → (more : List ℕ) → vs ≡ map (placed (new ++ more)) (take (i + 1) ts)
trees_more ts us vs i x y now new h e u n p v more =
    let ext = extends now (holes_of x) in
    let grown : now ++ (ext.0 ++ more) ≡ new ++ more = sym (ap (λ z. z ++ more) (n ∙ ext.1) ∙ append_assoc now ext.0 more) in
    v ∙ ap (λ z. z ++ y ∷ []) (u (ext.0 ++ more) ∙ ap (λ js. map (placed js) (take i ts)) grown)
    ∙ ap (λ z. map (placed (new ++ more)) (take i ts) ++ z ∷ []) (p more)
    ∙ sym (ap (map (placed (new ++ more))) (take_one ts i x h e) ∙ map_push (placed (new ++ more)) (take i ts) x)

-- the whole tree
pub numbers_all : (r : Result Tree NoMemory) (t : Tree) (first new : List ℕ) → first ≡ [] → OnOk r (new ≡ firsts_after first (holes_of t))
    → IfOk r (λ u. (more : List ℕ) → u ≡ placed (new ++ more) t) → IfOk r (λ u. u ≡ numbered t)
numbers_all (Ok u) t first new e n h = h [] ∙ ap (λ js. placed js t) (append-nil new ∙ n ∙ ap (λ js. firsts_after js (holes_of t)) e)
numbers_all (Err x) t first new e n h = tt
