-- Lists that grow by one.
use Rattle.std.proofs.Common.{◌≡◌, ℕ, zero, suc, ◌+◌, ◌<◌, Bool, true, false, not, max, min, List, [], ◌∷◌, ◌++◌, length, map, take, get_or, ap, sym, ◌∙◌, refl, arith, append_assoc, append-nil, IsTrue}
use Rattle.std.specs.Prelude.{◌↔◌}
use Rattle.std.proofs.lemmas.Bool.{false≢true}
use Rattle.gft_core.specs.declared.tree.Tree.{Tree}
use Rattle.gft_core.specs.declared.tree.Tree.TheVariants as tree
use Rattle.gft_tree.specs.Trees.{Printed, printed, printed_step, as_argument, as_arguments, greatest, depth_of}
use Rattle.gft_tree.proofs.LayerLemmas.{fold-App}

take_suc : {X : Type 0} (xs : List X) (k : ℕ) (x : X) → k < length xs → x ≡ get_or xs k x → take (suc k) xs ≡ take k xs ++ x ∷ []
take_suc [] k x h e = absurd (omega (arith, h))
take_suc (y ∷ ys) zero x h e = ap (λ z. z ∷ []) (sym e)
take_suc (y ∷ ys) (suc k) x h e = ap (λ zs. y ∷ zs) (take_suc ys k x (omega (arith, h)) e)

-- one element more
pub take_one : {X : Type 0} (xs : List X) (k : ℕ) (x : X) → k < length xs → x ≡ get_or xs k x → take (k + 1) xs ≡ take k xs ++ x ∷ []
take_one xs k x h e = let n : k + 1 ≡ suc k = omega arith in ap (λ m. take m xs) n ∙ take_suc xs k x h e

pub map_push : {X Y : Type 0} (f : X → Y) (xs : List X) (x : X) → map f (xs ++ x ∷ []) ≡ map f xs ++ f x ∷ []
map_push f [] x = refl
map_push f (y ∷ ys) x = ap (λ zs. f y ∷ zs) (map_push f ys x)

greatest_push : (ns : List ℕ) (n : ℕ) → greatest (ns ++ n ∷ []) ≡ max (greatest ns) n
greatest_push [] n = omega arith
greatest_push (m ∷ ns) n = ap (max m) (greatest_push ns n) ∙ omega arith

-- the greatest depth, as far as it is counted, with one tree more
pub deeper : (ts : List Tree) (k most d new : ℕ) (x : Tree) → k < length ts → x ≡ get_or ts k x
    → most ≡ min (greatest (map depth_of (take k ts))) 18446744073709551615 → d ≡ min (depth_of x) 18446744073709551615 → new ≡ max most d
    → new ≡ min (greatest (map depth_of (take (k + 1) ts))) 18446744073709551615
deeper ts k most d new x h e m i n =
    let grown = ap (λ us. greatest (map depth_of us)) (take_one ts k x h e) ∙ ap greatest (map_push depth_of (take k ts) x) ∙ greatest_push (map depth_of (take k ts)) (depth_of x) in
    omega (arith, grown, m, i, n)

arguments_push : (ps : List Printed) (p : Printed) → as_arguments (ps ++ p ∷ []) ≡ as_arguments ps ++ (32 ∷ as_argument p)
arguments_push [] p = ap (λ x. 32 ∷ x) (append-nil (as_argument p))
arguments_push (q ∷ ps) p = ap (λ x. 32 ∷ (as_argument q ++ x)) (arguments_push ps p) ∙ ap (λ x. 32 ∷ x) (sym (append_assoc (as_argument q) (as_arguments ps) (32 ∷ as_argument p)))

-- the text of the arguments, with one more
pub written : (ts : List Tree) (k : ℕ) (before now spaced new : List ℕ) (x : Tree) → k < length ts → x ≡ get_or ts k x
    → now ≡ before ++ as_arguments (map printed (take k ts)) → spaced ≡ now ++ 32 ∷ [] → new ≡ spaced ++ as_argument (printed x)
    → new ≡ before ++ as_arguments (map printed (take (k + 1) ts))
written ts k before now spaced new x h e n s w =
    w ∙ ap (λ a. a ++ as_argument (printed x)) s ∙ append_assoc now (32 ∷ []) (as_argument (printed x))
    ∙ ap (λ a. a ++ (32 ∷ as_argument (printed x))) n ∙ append_assoc before _ _
    ∙ ap (λ a. before ++ a) (sym (ap (λ us. as_arguments (map printed us)) (take_one ts k x h e) ∙ ap as_arguments (map_push printed (take k ts) x) ∙ arguments_push (map printed (take k ts)) (printed x)))

-- whether an application has arguments
pub flag_is : (f : List ℕ) (ts : List Tree) (b : Bool) → (IsTrue b ↔ (ts ≡ [])) → not b ≡ (printed (tree.App f ts)).1
flag_is f [] true h = sym (ap (λ p. p.1) (fold-App Printed printed_step f []))
flag_is f [] false h = absurd (false≢true (h.1 refl))
flag_is f (t ∷ ts) true h = absurd (cc (h.0 refl))
flag_is f (t ∷ ts) false h = sym (ap (λ p. p.1) (fold-App Printed printed_step f (t ∷ ts)))
