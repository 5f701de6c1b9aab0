-- Fields of a file, one after another: how values are written, what must hold of them, and which fault comes
-- first.
use Rattle.std.specs.Prelude.{◌≡◌, ◌<◌, ◌^◌, ℕ, zero, suc, ◌+◌, ◌-◌, ◌*◌, ◌/◌, ◌%◌, Bool, true, nat_le, if◌then◌else◌, List, [], ◌∷◌, ◌++◌, length, take, drop}
use Rattle.gft_rules.specs.declared.rule.Rule.{Rule}
use Rattle.gft_rules.specs.declared.rule.Rule.TheVariants.{Short}

-- a form of values: the fields that a value has, and what must hold as they are read
pub data Form : Type 0 → Type 1 where
  -- a number in so many bytes, the highest first
  number : ℕ → Form ℕ
  -- so many bytes
  bytes : ℕ → Form (List ℕ)
  -- first a part of the value; what it is tells how to go on
  part : {A B : Type 0} → (A → B) → Form B → (B → Form A) → Form A
  -- no field is left: it is this value
  done : {A : Type 0} → A → Form A
  -- one value, and then others
  item : {A : Type 0} → Form A → (A → Form (List A)) → Form (List A)
  -- what is read must pass, or the rule is broken, so many bytes before its first field
  such : {A : Type 0} → Form A → (A → Bool) → Rule → ℕ → Form A

-- a number in so many bytes, the highest first
abbrev pub big_endian : ℕ → ℕ → List ℕ
big_endian zero n = []
big_endian (suc count) n = big_endian count (n / 256) ++ (n % 256) ∷ []

-- the number that bytes write, after those read
abbrev pub number_after : ℕ → List ℕ → ℕ
number_after n [] = n
number_after n (b ∷ bs) = number_after (n * 256 + b) bs

-- the bytes of a value
abbrev pub written : {A : Type 0} → Form A → A → List ℕ
written (number width) n = big_endian width n
written (bytes count) bs = bs
written (part of f g) x = written f (of x) ++ written (g (of x)) x
written (done y) x = []
written (item f g) [] = []
written (item f g) (x ∷ xs) = written f x ++ written (g x) xs
written (such f passes rule back) x = written f x

-- the value is one of the form
abbrev pub Fits : {A : Type 0} → Form A → A → Type 0
Fits (number width) n = n < 256 ^ width
Fits (bytes count) bs = length bs ≡ count
Fits (part of f g) x = Fits f (of x) × Fits (g (of x)) x
Fits (done y) x = y ≡ x
Fits (item f g) [] = ⊥
Fits (item f g) (x ∷ xs) = Fits f x × Fits (g x) xs
Fits (such f passes rule back) x = Fits f x × (passes x ≡ true)

-- how many bytes of a value stand before a place in it: so many parts or items, so many within the next, and so on
abbrev pub offset_of : {A : Type 0} → Form A → A → List ℕ → ℕ
offset_of (part of f g) x (zero ∷ place) = offset_of f (of x) place
offset_of (part of f g) x (suc n ∷ place) = length (written f (of x)) + offset_of (g (of x)) x (n ∷ place)
offset_of (item f g) (x ∷ xs) (zero ∷ place) = offset_of f x place
offset_of (item f g) (x ∷ xs) (suc n ∷ place) = length (written f x) + offset_of (g x) xs (n ∷ place)
offset_of (such f passes rule back) x place = offset_of f x place
offset_of f x place = 0

-- what reading gives: a value, with the offset and the bytes after it, or the first fault with its offset
pub data Outcome (A : Type 0) : Type 0 where
  got : A → ℕ → List ℕ → Outcome A
  fault : Rule → ℕ → Outcome A

-- what comes after a value
abbrev pub and_then : {A B : Type 0} → Outcome A → (A → ℕ → List ℕ → Outcome B) → Outcome B
and_then (got x at rest) next = next x at rest
and_then (fault rule at) next = fault rule at

-- so many bytes, or the file ends in them
abbrev pub block : ℕ → ℕ → List ℕ → Outcome (List ℕ)
block count at bs = if nat_le count (length bs) then got (take count bs) (at + count) (drop count bs) else fault Short at

-- what the bytes from an offset on are read as
abbrev pub outcome : {A : Type 0} → Form A → ℕ → List ℕ → Outcome A
outcome (number width) at bs = and_then (block width at bs) (λ b next rest. got (number_after 0 b) next rest)
outcome (bytes count) at bs = block count at bs
outcome (part of f g) at bs = and_then (outcome f at bs) (λ y next rest. outcome (g y) next rest)
outcome (done y) at bs = got y at bs
outcome (item f g) at bs =
    and_then (outcome f at bs) (λ x next rest.
    and_then (outcome (g x) next rest) (λ xs last behind. got (x ∷ xs) last behind))
outcome (such f passes rule back) at bs =
    and_then (outcome f at bs) (λ x next rest. if passes x then got x next rest else fault rule (at - back))
