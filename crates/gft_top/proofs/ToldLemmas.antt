-- Lemmas on what is written, piece by piece.
use Rattle.std.proofs.Common.{inl, inr, ◌≤◌, ℕ, List, [], ◌++◌, take, Option, Some, None, refl, sym, ap, ◌∙◌, append_assoc, append-nil, arith}
use Rattle.gft_io.specs.Outside.{Rose, Told, Same, Appends, AppendsPart}
use Rattle.gft_io.proofs.ToldLemmas.{Told-join, Told-weaken}
use Rattle.gft_top.specs.Ends.{AppendsThenPart}

-- nothing was added
pub same_told : (o : Option (List ℕ)) → Told Same o o
same_told None = tt
same_told (Some xs) = refl

pub nothing_told : (o : Option (List ℕ)) → Told (Appends []) o o
nothing_told None = tt
nothing_told (Some xs) = sym (append-nil xs)

-- two writes, one after the other
pub both_told : (a b : List ℕ) (o p q : Option (List ℕ)) → Told (Appends a) o p → Told (Appends b) p q → Told (Appends (a ++ b)) o q
both_told a b = Told-join (Appends a) (Appends b) (Appends (a ++ b)) (λ x y z h k. k ∙ ap (λ t. t ++ b) h ∙ append_assoc x a b)

pub then_same : (a : List ℕ) (o p q : Option (List ℕ)) → Told (Appends a) o p → Told Same p q → Told (Appends a) o q
then_same a = Told-join (Appends a) Same (Appends a) (λ x y z h k. k ∙ h)

-- whole pieces, and then a part of one
pub then_part : (a c : List ℕ) (o p q : Option (List ℕ)) → Told (Appends a) o p → Told (AppendsPart c) p q → Told (AppendsThenPart a c) o q
then_part a c = Told-join (Appends a) (AppendsPart c) (AppendsThenPart a c) (λ x y z h k. (k.0, k.1, k.2 ∙ ap (λ t. t ++ take k.0 c) h ∙ append_assoc x a (take k.0 c)))

pub after_part : (a b c : List ℕ) (o p q : Option (List ℕ)) → Told (Appends a) o p → Told (AppendsThenPart b c) p q → Told (AppendsThenPart (a ++ b) c) o q
after_part a b c = Told-join (Appends a) (AppendsThenPart b c) (AppendsThenPart (a ++ b) c)
    (λ x y z h k. (k.0, k.1, k.2 ∙ ap (λ t. t ++ (b ++ take k.0 c)) h ∙ append_assoc x a (b ++ take k.0 c) ∙ ap (λ t. x ++ t) (sym (append_assoc a b (take k.0 c)))))

-- a part alone
pub only_part : (c : List ℕ) (o q : Option (List ℕ)) → Told (AppendsPart c) o q → Told (AppendsThenPart [] c) o q
only_part c = Told-weaken (AppendsPart c) (AppendsThenPart [] c) (λ x y h. h)

-- faults that rose later rose
pub rose_later : (a b c : ℕ) → a ≤ b → Rose b c → Rose a c
rose_later a b c h (inl r) = inl (omega arith)
rose_later a b c h (inr r) = inr r
