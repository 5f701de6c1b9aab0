-- Worked examples of patterns, each computed.
use Rattle.std.proofs.Common.{◌≡◌, ℕ, List, [], ◌∷◌}
use Rattle.std.specs.Prelude.{codes}
use Rattle.std.specs.Str.{chars}
use lib.Utf8
use Rattle.gft_core.specs.declared.place.Place.{Place}
use Rattle.gft_core.specs.declared.symbol.Sym.TheVariants.{Arg}
use Rattle.gft_syntax.specs.declared.pattern.Pattern.{Pattern, roll-Pattern}
use Rattle.gft_syntax.specs.declared.pattern.Pattern.TheOpen as P
use Rattle.gft_syntax.specs.declared.reference.Reference.TheVariants.{Written}
use Rattle.gft_model.specs.Matching.{Subject, match_of, text, closed, matched, differs, hidden, words_value}
use Rattle.gft_model.proofs.Computing.{match-roll}

abbrev nowhere : Place
nowhere = record { file = 0; line = 1; col = 1 }

abbrev variable : List ℕ → Pattern
variable x = roll-Pattern (P.Name (Written x) nowhere)

abbrev literal : List ℕ → Pattern
literal t = roll-Pattern (P.Text t nowhere)

abbrev then : Pattern → Pattern → Pattern
then p q = roll-Pattern (P.Seq p q nowhere)

abbrev star : Pattern → Pattern
star p = roll-Pattern (P.Star p nowhere)

-- x + "y" on fly: x is fl
pub ends_in_y : match_of (then (variable (codes "x")) (literal (codes "y"))) (text (codes "fly")) ≡ matched ((codes "x", words_value (codes "fl" ∷ [])) ∷ [])
unfolding chars lib.Utf8.encode
ends_in_y = simp match-roll

-- x + y on ab: the shortest left part is empty
pub shortest_left : match_of (then (variable (codes "x")) (variable (codes "y"))) (text (codes "ab"))
    ≡ matched ((codes "x", words_value []) ∷ (codes "y", words_value (codes "ab" ∷ [])) ∷ [])
unfolding chars lib.Utf8.encode
shortest_left = simp match-roll

-- ("a")* + "b" matches aab, and not aba
pub stars : match_of (then (star (literal (codes "a"))) (literal (codes "b"))) (text (codes "aab")) ≡ matched []
unfolding chars lib.Utf8.encode
stars = simp match-roll

pub no_stars : match_of (then (star (literal (codes "a"))) (literal (codes "b"))) (text (codes "aba")) ≡ differs
unfolding chars lib.Utf8.encode
no_stars = simp match-roll

-- "a  b" with two spaces does not match the text of the words a and b
pub two_spaces : match_of (literal (codes "a  b")) (text (codes "a b")) ≡ differs
unfolding chars lib.Utf8.encode
two_spaces = simp match-roll

-- "a" | _ cannot be told on a closed part, and _ | "a" takes it
abbrev or : Pattern → Pattern → Pattern
or p q = roll-Pattern (P.Or p q nowhere)

abbrev any : Pattern
any = roll-Pattern (P.Any nowhere)

abbrev closed_part : Subject
closed_part = closed (Arg 0 0 ∷ [])

pub text_first : match_of (or (literal (codes "a")) any) closed_part ≡ hidden
text_first = simp match-roll

pub any_first : match_of (or any (literal (codes "a"))) closed_part ≡ matched []
any_first = simp match-roll
