-- What refusals share: the moment at which a rule is looked at, and which broken rule comes first.
use Rattle.std.specs.Prelude.{◌≡◌, ℕ, suc, ◌<◌, List, [], ◌∷◌, ◌++◌, map, ◌⊎◌, Some, None}
use Rattle.gft_core.specs.declared.place.Place.{Place}
use Rattle.gft_rules.specs.Rules.{code_of}
use Rattle.gft_rules.specs.declared.refusal.Refusal.{Refusal}
use Rattle.gft_rules.specs.declared.rule.Rule.{Rule}
use Rattle.gft_syntax.specs.declared.reference.PlacedName.{PlacedName}

-- a moment of an import: its turn, its turn within that, and so on
abbrev pub Moment : Type 0
Moment = List ℕ

-- the first moment comes before the second; what is within a turn comes before that turn ends
pub data Before : Moment → Moment → Type 0 where
  within : {n p : _} → Before (n ∷ p) []
  sooner : {m n p q : _} → m < n → Before (m ∷ p) (n ∷ q)
  later_on : {n p q : _} → Before p q → Before (n ∷ p) (n ∷ q)

-- in the order of places in a file
abbrev pub place_moment : Place → Moment
place_moment p = p.line ∷ p.col ∷ []

-- in byte order: a name before those that it begins
abbrev pub name_moment : List ℕ → Moment
name_moment x = map suc x ++ 0 ∷ []

-- a refusal with a place, and one without
abbrev pub refusal : Rule → Place → List (List ℕ) → Refusal
refusal rule place names = record { rule = rule; place = Some place; names = names }

abbrev pub placeless : Rule → List (List ℕ) → Refusal
placeless rule names = record { rule = rule; place = None; names = names }

-- a name at a place
abbrev pub name_at : List ℕ → Place → PlacedName
name_at x place = record { name = x; place = place }

-- a refusal at a name, which it carries, and the modules that it carries beside
abbrev pub at_name : Rule → PlacedName → List PlacedName → Refusal
at_name rule n modules = refusal rule n.place (map (λ m. m.name) (n ∷ modules))

-- of modules in header order the last counts most
abbrev pub modules_moment : List PlacedName → Moment
modules_moment [] = []
modules_moment (m ∷ ms) = modules_moment ms ++ place_moment m.place

-- which rules are broken: the moment, and the refusal
abbrev pub Faults : Type 1
Faults = Moment → Refusal → Type 0

-- faults of one turn that are taken by place
pub data ByPlace (Broken : Refusal → Type 0) : Moment → Refusal → Type 0 where
  by_place : {r : Refusal} {p : _} → Broken r → r.place ≡ Some p → ByPlace Broken (place_moment p) r

-- the first is looked at before the second; at one moment the least number counts
pub data Earlier : Moment → Refusal → Moment → Refusal → Type 0 where
  by_moment : {m n r s : _} → Before m n → Earlier m r n s
  by_number : {m : _} {r s : Refusal} → code_of r.rule < code_of s.rule → Earlier m r m s

-- a broken rule before which no other is broken
pub record IsFirst (Breaks : Faults) (refusal : Refusal) : Type 0 where
  pub moment : Moment
  pub broken : Breaks moment refusal
  pub no_earlier : (m : Moment) (r : Refusal) → Breaks m r → (r ≡ refusal) ⊎ Earlier moment refusal m r

-- nothing is broken
abbrev pub IsAccepted : Faults → Type 0
IsAccepted Breaks = (m : Moment) (r : Refusal) → ¬ (Breaks m r)
