-- Which terms are types where a type must stand, and what whole names mean there.
use Rattle.std.specs.Prelude.{◌≡◌, ℕ, suc, ◌+◌, ◌≤◌, List, [], ◌∷◌, ◌++◌, map, ◌⊎◌, Option, Some, None, Bool, true, not, ◌&&◌, bytes_eq, if◌then◌else◌, slice_get}
use Rattle.std.specs.List.{list_any}
use Rattle.std.specs.Option.{is_some}
use Rattle.gft_core.specs.declared.place.Place.{Place}
use Rattle.gft_syntax.specs.declared.bind.Bind.{Bind}
use Rattle.gft_syntax.specs.declared.ctype.CType.{CType, out-CType}
use Rattle.gft_syntax.specs.declared.ctype.CType.TheOpen as CType-F
use Rattle.gft_syntax.specs.declared.ctype.CType.TheFolds.{para-CType}
use Rattle.gft_syntax.specs.declared.judgement.Constructor.{Constructor}
use Rattle.gft_syntax.specs.declared.judgement.Context.{Context}
use Rattle.gft_syntax.specs.declared.reference.Whole.{Whole}
use Rattle.gft_syntax.specs.declared.reference.Reference.TheVariants.{Whole as WholeName}
use Rattle.gft_syntax.specs.declared.term.Local.{Local}
use Rattle.gft_syntax.specs.declared.term.Local.TheVariants.{Label}
use Rattle.gft_syntax.specs.declared.term.Sort.TheVariants as Sort-V
use Rattle.gft_syntax.specs.declared.term.Term.{Term}
use Rattle.gft_syntax.specs.declared.term.Term.TheOpen as Term-F
use Rattle.gft_model.specs.ConcreteTypes.{is_finite, count_of, function_in}
use Rattle.gft_model.specs.Items.{Item, parameter_type, bare_parameter, oper, alternative}
use Rattle.gft_model.specs.Matching.{same_whole, tuple_fields}
use Rattle.gft_model.specs.TypeForms.{form, str_type, number_type, record_type, table_type, functions, sort_type, sort_param}

-- a type of data: no function type
abbrev pub IsData : CType → Type 0
IsData T = (A B : CType) → ¬ (out-CType T ≡ CType-F.Fun A B)

-- whether all parameters of a layer's type are data, those of its result counted too; whatever is no function has none
abbrev pub takes_data_step : CType-F.CType-F (CType × Bool) → Bool
takes_data_step (CType-F.Fun A B) = not (is_some (function_in (out-CType A.0))) && B.1
takes_data_step d = true

abbrev pub takes_data : CType → Bool
takes_data = para-CType Bool takes_data_step

-- a type is used only with at most so many values
abbrev pub most_values : ℕ
most_values = 4096

-- a type that a table may be over
abbrev pub IsDomain : CType → Type 0
IsDomain P = (is_finite P ≡ true) × (count_of P ≤ most_values)

-- one for each variable; one where none is named
abbrev pub for_each : {A : Type 0} → List Bind → A → List A
for_each [] a = a ∷ []
for_each (x ∷ xs) a = map (λ y. a) (x ∷ xs)

-- what a whole name is in a grammar: a parameter type, one without constructors, a constructor, an oper with its number,
-- its type and its definition, an overload, or nothing
pub data Standing : Type 0 where
  a_parameter : List Constructor → Standing
  a_bare_parameter : Standing
  a_constructor : Whole → List Constructor → Standing
  an_oper : ℕ → Option Term → Option Term → Standing
  an_overload : Standing
  nothing : Standing

-- a constructor of the parameter type w
abbrev pub is_constructor : Whole → Whole → List Constructor → Bool
is_constructor c w cs = bytes_eq c.«module» w.«module» && list_any (λ d. bytes_eq c.name d.name.name) cs

-- the first item of the name, the items being numbered from k on
abbrev pub standing_from : ℕ → List Item → Whole → Standing
standing_from k [] w = nothing
standing_from k (parameter_type v cs ∷ is) w =
    if same_whole w v then a_parameter cs
    else if is_constructor w v cs then a_constructor v cs else standing_from (suc k) is w
standing_from k (bare_parameter v ∷ is) w = if same_whole w v then a_bare_parameter else standing_from (suc k) is w
standing_from k (oper v T d ∷ is) w = if same_whole w v then an_oper k T d else standing_from (suc k) is w
standing_from k (alternative v T xs D d ∷ is) w = if same_whole w v then an_overload else standing_from (suc k) is w
standing_from k (i ∷ is) w = standing_from (suc k) is w

module _ (items : List Item) where
  -- the item of that number
  abbrev pub At : ℕ → Item → Type 0
  At k i = slice_get items k ≡ Some i

  -- what the whole name is
  abbrev pub Stands : Whole → Standing → Type 0
  Stands w s = standing_from 0 items w ≡ s

  mutual
    -- the term, where a type must stand, is the type
    pub data IsType : Term → CType → Type 0 where
      text_type : {e place : _} → form e ≡ Term-F.Sort Sort-V.Str place → IsType e str_type
      type_of_types : {e place : _} → form e ≡ Term-F.Sort Sort-V.TypeSort place → IsType e sort_type
      type_of_parameters : {e place : _} → form e ≡ Term-F.Sort Sort-V.ParamSort place → IsType e sort_param
      numbers_to : {e f a n p q r : _} → form e ≡ Term-F.App f a p → form f ≡ Term-F.Sort Sort-V.Ints q →
          form a ≡ Term-F.Num n r → n + 1 ≤ most_values → IsType e (number_type n)
      labels : {e ls p fs : _} → form e ≡ Term-F.Fields ls p → AreLabels ls fs → IsType e (record_type fs)
      table_over : {e a b p P V : _} → form e ≡ Term-F.TabType a b p → IsType a P → IsDomain P → IsType b V → IsData V →
          IsType e (table_type P V)
      function_from : {e a b xs p A B : _} → form e ≡ Term-F.Arrow xs a b p → IsType a A → takes_data A ≡ true → IsType b B →
          IsType e (functions (for_each xs A) B)
      pair_of : {e a b p Ts : _} → form e ≡ Term-F.Pair a b p → AreFactors e Ts → IsType e (record_type (tuple_fields Ts))
      parameters_named : {e w p T : _} → form e ≡ Term-F.Var (WholeName w) p → IsParameter w T → count_of T ≤ most_values →
          IsType e T
      oper_named : {e D d w : _} (k : ℕ) {p S T : _} → form e ≡ Term-F.Var (WholeName w) p →
          Stands w (an_oper k (Some D) (Some d)) → IsType D S → (S ≡ sort_type) ⊎ (S ≡ sort_param) → IsType d T → IsType e T
      definition_named : {e d w : _} (k : ℕ) {p T : _} → form e ≡ Term-F.Var (WholeName w) p →
          Stands w (an_oper k None (Some d)) → ((q : Place) → ¬ (form d ≡ Term-F.Fields [] q)) → IsType d T → IsType e T

    -- w names the parameter type, which has its constructors in order
    pub data IsParameter : Whole → CType → Type 0 where
      parameter_of : {w cs ds T : _} → Stands w (a_parameter cs) → AreConstructors w cs ds → out-CType T ≡ CType-F.Param w ds →
          IsParameter w T

    -- the constructors with the types of their arguments
    pub data AreConstructors : Whole → List Constructor → List (Whole × List CType) → Type 0 where
      no_constructor : {w : _} → AreConstructors w [] []
      constructor : {w : _} {c : Constructor} {cs Ts ds : _} → AreArguments c.arguments Ts → AreConstructors w cs ds →
          AreConstructors w (c ∷ cs) ((record { «module» = w.«module»; name = c.name.name }, Ts) ∷ ds)

    -- the types of a constructor's arguments, which are finite
    pub data AreArguments : List Context → List CType → Type 0 where
      no_argument : AreArguments [] []
      arguments : {c : Context} {cs T Ts : _} → IsType c.of_type T → is_finite T ≡ true → AreArguments cs Ts →
          AreArguments (c ∷ cs) (for_each c.binds T ++ Ts)

    -- labels with types of data
    pub data AreLabels : List (Local Term) → List (List ℕ × CType) → Type 0 where
      no_label : AreLabels [] []
      label : {x t ls T fs : _} → IsType t T → IsData T → AreLabels ls fs → AreLabels (Label (x ∷ []) t ∷ ls) ((x, T) ∷ fs)

    -- the types of a product; where the left side is a product in turn, its items stay
    pub data AreFactors : Term → List CType → Type 0 where
      last_factor : {e T : _} → ((a b : Term) (p : Place) → ¬ (form e ≡ Term-F.Pair a b p)) → IsType e T → IsData T →
          AreFactors e (T ∷ [])
      next_factor : {e a b p Ts T : _} → form e ≡ Term-F.Pair a b p → AreFactors a Ts → IsType b T → IsData T →
          AreFactors e (Ts ++ T ∷ [])

  -- a name that means a parameter type: its own, also without constructors, or that of an oper
  pub data MeansParameter (e : Term) (w : Whole) : Type 0 where
    its_name : {T : _} → IsParameter w T → MeansParameter e w
    its_bare_name : Stands w a_bare_parameter → MeansParameter e w
    of_oper : {T c ds : _} → IsType e T → out-CType T ≡ CType-F.Param c ds → MeansParameter e w

  -- a form that is a type wherever it stands; Ints before any number is one
  pub data IsTypeForm (e : Term) : Type 0 where
    a_type : {T : _} → IsType e T → IsTypeForm e
    some_numbers : {f a n p q r : _} → form e ≡ Term-F.App f a p → form f ≡ Term-F.Sort Sort-V.Ints q →
        form a ≡ Term-F.Num n r → IsTypeForm e
