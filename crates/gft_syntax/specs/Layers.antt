-- What a function on the parts of a form makes of the form's lists.
use Rattle.std.specs.Prelude.{map, Option, Some, None}
use Rattle.gft_syntax.specs.declared.linear.Branches.{Branches}
use Rattle.gft_syntax.specs.declared.linear.Branches.TheVariants.{Matched, Listed}
use Rattle.gft_syntax.specs.declared.pattern.PatternField.{PatternField}
use Rattle.gft_syntax.specs.declared.term.Case.{Case}
use Rattle.gft_syntax.specs.declared.term.Local.{Local}
use Rattle.gft_syntax.specs.declared.term.Local.TheVariants.{Value, Label, TypedValue}

-- the second of a pair changed
abbrev pub on_second : {A B C : Type 0} → (A → B) → C × A → C × B
on_second f p = (p.0, f p.1)

-- each term of the branches changed
abbrev pub on_branches : {A B : Type 0} → (A → B) → Branches A → Branches B
on_branches f (Matched bs) = Matched (map (on_second f) bs)
on_branches f (Listed P ts) = Listed P (map f ts)

-- the body of a branch changed
abbrev pub on_case : {A B : Type 0} → (A → B) → Case A → Case B
on_case f c = record { pattern = c.pattern; body = f c.body }

-- the pattern of a field changed
abbrev pub on_field : {A B : Type 0} → (A → B) → PatternField A → PatternField B
on_field f p = record { labels = p.labels; pattern = f p.pattern }

-- the terms of a local changed
abbrev pub on_local : {A B : Type 0} → (A → B) → Local A → Local B
on_local f (Value xs e) = Value xs (f e)
on_local f (Label xs t) = Label xs (f t)
on_local f (TypedValue xs t e) = TypedValue xs (f t) (f e)

-- the term changed, where there is one
abbrev pub map_option : {A B : Type 0} → (A → B) → Option A → Option B
map_option f None = None
map_option f (Some a) = Some (f a)
