-- What typing gives for each numbered judgement: its typed term and the type of that.
use Rattle.std.specs.Prelude.{◌≡◌, ℕ, List, [], ◌∷◌, ◌++◌, replicate, bytes_eq, if◌then◌else◌, Option, Some, None, ◌⊎◌, codes, Contains, All, option_map}
use Rattle.std.specs.List.{AllZip, find}
use Rattle.std.specs.Option.{option_to_list}
use Rattle.gft_syntax.specs.declared.ctype.CType.{CType, roll-CType}
use Rattle.gft_syntax.specs.declared.ctype.CType.TheOpen as CType-F
use Rattle.gft_syntax.specs.declared.flat.Flat.{Flat}
use Rattle.gft_syntax.specs.declared.flat.FlatJudgement.{FlatJudgement}
use Rattle.gft_syntax.specs.declared.judgement.Judgement.{Judgement}
use Rattle.gft_syntax.specs.declared.judgement.Judgement.TheVariants as Judgement-V
use Rattle.gft_syntax.specs.declared.judgement.Keyword.{Keyword}
use Rattle.gft_syntax.specs.declared.judgement.Keyword.TheVariants as K
use Rattle.gft_syntax.specs.declared.linear.LinTerm.{LinTerm}
use Rattle.gft_syntax.specs.declared.linear.LinTerm.TheOpen as Lin-F
use Rattle.gft_syntax.specs.declared.reference.Reference.{Reference}
use Rattle.gft_syntax.specs.declared.reference.Reference.TheVariants as Reference-V
use Rattle.gft_syntax.specs.declared.reference.Whole.{Whole}
use Rattle.gft_syntax.specs.declared.term.Term.{Term}
use Rattle.gft_syntax.specs.declared.term.Term.TheOpen as Term-F
use Rattle.gft_syntax.specs.declared.term.Term.TheFolds.{fold-Term}
use Rattle.gft_syntax.specs.Parts.{list_name}
use Rattle.gft_model.specs.ConcreteTyping.{At, IsType, IsParameter, IsData, Finds, Checks, for_each}
use Rattle.gft_model.specs.Items.{Item, items_of, parameter_type, bare_parameter, oper, alternative, lincat, linear}
use Rattle.gft_model.specs.Resting.{NoCycle}
use Rattle.gft_model.specs.TypeForms.{str_type, record_type, function_type, functions, sort_type, sort_param, made, no_value}

-- the name that is referred to, without its module
abbrev pub name_of : Reference → List ℕ
name_of (Reference-V.Written x) = x
name_of (Reference-V.Found o) = o.name
name_of (Reference-V.Whole w) = w.name

-- the categories of a function's arguments, and that of its result; a type's category is its head
pub record Signature : Type 0 where
  pub arguments : List (List ℕ)
  pub result : List ℕ

-- a type that is no arrow: its head
abbrev pub headed : List ℕ → Signature
headed C = record { arguments = []; result = C }

-- what a form is, from what its parts are
abbrev pub signature_step : Term-F.Term-F Signature → Signature
signature_step (Term-F.Arrow xs a b place) =
    record { arguments = for_each xs a.result ++ b.arguments; result = b.result }
signature_step (Term-F.App f a place) = f
signature_step (Term-F.Var r place) = headed (name_of r)
signature_step (Term-F.ListCat r place) = headed (name_of r)
signature_step d = headed []

-- the signature that a type is
abbrev pub signature_of : Term → Signature
signature_of = fold-Term Signature signature_step

-- the signature that a judgement gives its function w
abbrev pub signature_given : List ℕ → Judgement → Signature
signature_given f (Judgement-V.Fun ns T) = signature_of T
signature_given f (Judgement-V.ListCat n r k place) =
    let C = name_of r in
    record { arguments = if bytes_eq f (codes "Base" ++ C) then replicate k C else C ∷ list_name C ∷ []; result = list_name C }
signature_given f j = headed []

-- the signature of the function of that name
abbrev pub signature_in : List FlatJudgement → List ℕ → Option Signature
signature_in js f = option_map (λ j. signature_given f j.judgement) (find (λ j. bytes_eq f j.whole.name) js)

-- the type of literals: a record of one string
abbrev pub literal_type : CType
literal_type = record_type ((codes "s", str_type) ∷ [])

-- a sort: such a type is that of a type
abbrev pub IsSort : CType → Type 0
IsSort S = (S ≡ sort_type) ⊎ (S ≡ sort_param)

module _ (flat : Flat) where
  -- its numbered judgements
  abbrev pub items : List Item
  items = items_of flat

  -- the linearization type of a category in a language
  pub data HasLinType (lang : List ℕ) : List ℕ → CType → Type 0 where
    of_int : HasLinType lang (codes "Int") literal_type
    of_string : HasLinType lang (codes "String") literal_type
    of_category : {w : Whole} {e T : _} → Contains items (lincat lang w e) → IsType items e T → IsData T →
        HasLinType lang w.name T

  -- the type that the lin of a function is given, and those of the lindef and the linref of a category
  pub data HasGiven (lang : List ℕ) : Keyword → List ℕ → CType → Type 0 where
    of_function : {f : _} {s : Signature} (Ts : List CType) {T : _} → signature_in flat.funs f ≡ Some s →
        AllZip (HasLinType lang) s.arguments Ts → HasLinType lang s.result T → HasGiven lang K.Lin f (functions Ts T)
    from_string : {C T : _} → HasLinType lang C T → HasGiven lang K.Lindef C (function_type str_type T)
    to_string : {C T : _} → HasLinType lang C T → HasGiven lang K.Linref C (function_type T str_type)

  -- the judgement means the typed term, which has the type; one that names a type means the empty
  -- record and has that type; an oper without definition has no outcome, and a parameter type without
  -- constructors no value
  pub data HasTyping : Item → LinTerm → CType → Type 0 where
    parameter : {w cs T : _} → IsParameter items w T → HasTyping (parameter_type w cs) no_value T
    undefined_parameter : {w : _} → HasTyping (bare_parameter w) no_value (roll-CType (CType-F.Param w []))
    named_type : {w D d S T t : _} → IsType items D S → IsSort S → Checks items [] d S t → IsType items d T → NoCycle items w →
        HasTyping (oper w (Some D) (Some d)) no_value T
    typed_oper : {w D d T t : _} → IsType items D T → ¬ (IsSort T) → Checks items [] d T t → NoCycle items w →
        HasTyping (oper w (Some D) (Some d)) t T
    undefined_oper : {w D T : _} → IsType items D T → HasTyping (oper w (Some D) None) (made (Lin-F.Variants [])) T
    found_type : {w d S T t : _} → Finds items [] d S t → IsSort S → IsType items d T → NoCycle items w →
        HasTyping (oper w None (Some d)) no_value T
    found_oper : {w d T t : _} → Finds items [] d T t → ¬ (IsSort T) → NoCycle items w → HasTyping (oper w None (Some d)) t T
    of_overload : {w e D d T t : _} → All (λ E. (A : CType) × IsType items E A) (option_to_list e) →
        IsType items D T → Checks items [] d T t → NoCycle items w → HasTyping (alternative w e [] D d) t T
    linearization_type : {lang w e T : _} → IsType items e T → IsData T → HasTyping (lincat lang w e) no_value T
    linearization : {k lang : _} {w : Whole} {e T t : _} → HasGiven lang k w.name T → Checks items [] e T t →
        HasTyping (linear k lang w e) t T

  -- what typing gives for the judgement of that number
  abbrev pub IsTyped : ℕ → LinTerm → CType → Type 0
  IsTyped k t T = (i : Item) × At items k i × HasTyping i t T
