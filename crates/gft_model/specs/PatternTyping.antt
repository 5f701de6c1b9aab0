-- Which patterns fit a type, and the types of their variables.
use Rattle.std.specs.Prelude.{◌≡◌, ℕ, List, [], ◌∷◌, ◌++◌, map, Some, None}
use Rattle.std.specs.Map.{lookup}
use Rattle.gft_syntax.specs.declared.ctype.CType.{CType, out-CType}
use Rattle.gft_syntax.specs.declared.ctype.CType.TheOpen as CType-F
use Rattle.gft_syntax.specs.declared.pattern.Pattern.{Pattern, out-Pattern}
use Rattle.gft_syntax.specs.declared.pattern.Pattern.TheOpen.{Or, Seq, Con, Star, As, Any, One, Name, Text, Num, Fields, Tuple}
use Rattle.gft_syntax.specs.declared.reference.Whole.{Whole}
use Rattle.gft_syntax.specs.declared.reference.Reference.TheVariants.{Written, Whole as WholeName}
use Rattle.gft_model.specs.ConcreteTypes.{field_of, IsSubtype}
use Rattle.gft_syntax.specs.Patterns.{Layer}
use Rattle.gft_model.specs.Matching.{same_whole, tuple_fields, label_by_label}
use Rattle.gft_model.specs.Values.{all_there}
use Rattle.gft_model.specs.TypeForms.{str_type, number_type}

-- variables with their types, the nearest first
abbrev pub Scope : Type 0
Scope = List (List ℕ × CType)

-- the same variables with the same types
abbrev pub SameScope : Scope → Scope → Type 0
SameScope Γ Δ = (x : List ℕ) → field_of x Γ ≡ field_of x Δ

-- T is the parameter type that has the constructor c, whose arguments have the types
pub data Constructs (c : Whole) (Ts : List CType) (T : CType) : Type 0 where
  constructs : {w ds : _} → out-CType T ≡ CType-F.Param w ds → lookup (same_whole c) ds ≡ Some Ts → Constructs c Ts T

-- the form of a pattern without other spellings: a constructor alone is one without arguments, and a tuple is the
-- record of its items
abbrev pub plain_pattern : Layer → Layer
plain_pattern (Name (WholeName c) place) = Con None (WholeName c) [] place
plain_pattern (Tuple ps place) = Fields (map (λ f. record { labels = f.0 ∷ []; pattern = f.1 }) (tuple_fields ps)) place
plain_pattern d = d

-- how typing sees a pattern
unfoldable pub pattern_form : Pattern → Layer
pattern_form p = plain_pattern (out-Pattern p)

mutual
  -- the pattern fits the type and binds the variables
  pub data PatternFits : CType → Pattern → Scope → Type 0 where
    either : {T r p q place Γ Δ : _} → pattern_form r ≡ Or p q place → PatternFits T p Γ → PatternFits T q Δ → SameScope Γ Δ →
        PatternFits T r Γ
    sequence : {r p q place Γ Δ : _} → pattern_form r ≡ Seq p q place → PatternFits str_type p Γ → PatternFits str_type q Δ →
        PatternFits str_type r (Γ ++ Δ)
    constructor_with : {T r m c ps place Ts Γ : _} → pattern_form r ≡ Con m (WholeName c) ps place → Constructs c Ts T →
        EachFits Ts ps Γ → PatternFits T r Γ
    repeated : {r p place : _} → pattern_form r ≡ Star p place → PatternFits str_type p [] → PatternFits str_type r []
    as_well : {T r p x place Γ : _} → pattern_form r ≡ As x p place → PatternFits T p Γ → PatternFits T r ((x, T) ∷ Γ)
    anything : {T r place : _} → pattern_form r ≡ Any place → PatternFits T r []
    character : {r place : _} → pattern_form r ≡ One place → PatternFits str_type r []
    variable : {T r x place : _} → pattern_form r ≡ Name (Written x) place → PatternFits T r ((x, T) ∷ [])
    literal : {r t place : _} → pattern_form r ≡ Text t place → PatternFits str_type r []
    number : {T r n place : _} → pattern_form r ≡ Num n place → IsSubtype (number_type n) T → PatternFits T r []
    record_of : {T r fs gs place Ts Γ : _} → pattern_form r ≡ Fields fs place → out-CType T ≡ CType-F.Record gs →
        all_there (map (λ f. field_of f.0 gs) (label_by_label fs)) ≡ Some Ts →
        EachFits Ts (map (λ f. f.1) (label_by_label fs)) Γ → PatternFits T r Γ

  -- as many patterns as types, each fits its own
  pub data EachFits : List CType → List Pattern → Scope → Type 0 where
    no_more : EachFits [] [] []
    more : {T Ts p ps Γ Δ : _} → PatternFits T p Γ → EachFits Ts ps Δ → EachFits (T ∷ Ts) (p ∷ ps) (Γ ++ Δ)
