-- The order in which the judgements of a module are typed.
use Rattle.std.specs.Prelude.{◌≡◌, ℕ, suc, List, [], ◌∷◌, ◌++◌, map, flat_map, filter, Bool, true, false, ◌||◌, Contains, Option, Some, None, ◌≢◌, option_to_list, slice_get}
use Rattle.gft_syntax.specs.declared.flat.FlatJudgement.{FlatJudgement}
use Rattle.gft_syntax.specs.declared.judgement.Definition.{Definition}
use Rattle.gft_syntax.specs.declared.judgement.Definition.TheVariants as D
use Rattle.gft_syntax.specs.declared.judgement.Judgement.{Judgement}
use Rattle.gft_syntax.specs.declared.judgement.Judgement.TheVariants as J
use Rattle.gft_syntax.specs.declared.judgement.Keyword.{Keyword}
use Rattle.gft_syntax.specs.declared.judgement.Keyword.TheVariants as K
use Rattle.gft_syntax.specs.declared.module.Module.{Module}
use Rattle.gft_syntax.specs.declared.reference.PlacedName.{PlacedName}
use Rattle.gft_syntax.specs.declared.reference.Whole.{Whole}
use Rattle.gft_syntax.specs.declared.term.Term.{Term}
use Rattle.gft_model.specs.Flats.{IsOf, HasEntry}
use Rattle.gft_model.specs.JudgementTyping.{Signature, signature_in}
use Rattle.gft_model.specs.Modules.{is_incomplete, is_interface, sort_of, header_name, declared_names, main_name}
use Rattle.gft_model.specs.Refusals.{Moment}
use Rattle.gft_syntax.specs.Parts.{list_name, judgement_names, names_in}

-- the whole names by which terms name a judgement; they name no linearization
abbrev pub answered : FlatJudgement → List Whole
answered e = elim (sort_of e.judgement)
    [ None ↦ map (λ x. record { «module» = e.whole.«module»; name = x }) (declared_names e.judgement) | Some k ↦ [] ]

-- the categories whose linearization types a linearization of the keyword and name needs
abbrev pub needed_categories : List FlatJudgement → Option Keyword → List ℕ → List (List ℕ)
needed_categories funs (Some K.Lin) f =
    flat_map (λ (s : Signature). s.arguments ++ s.result ∷ []) (option_to_list (signature_in funs f))
needed_categories funs (Some K.Lindef) C = C ∷ []
needed_categories funs (Some K.Linref) C = C ∷ []
needed_categories funs s x = []

-- the types of the alternatives of an overload
abbrev pub alternative_types : Definition → List Term
alternative_types (D.Term e) = []
alternative_types (D.Overload ds) = map (λ d. d.of_type) ds

-- the types that a judgement writes for its opers
abbrev pub declared_types : Judgement → List Term
declared_types (J.OperType ns t) = t ∷ []
declared_types (J.OperTyped ns t d) = t ∷ alternative_types d
declared_types (J.Oper ns xs d) = alternative_types d
declared_types j = []

-- among judgements, one rests on another: it names it, or the type that is declared for it does, or it needs it, or rests
-- on what does
pub data RestsOn (IsDeclared : FlatJudgement → Judgement → Type 0) (es funs : List FlatJudgement) :
    FlatJudgement → FlatJudgement → Type 0 where
  by_name : {e f : FlatJudgement} {w : _} → Contains es e → Contains es f → Contains (judgement_names e.judgement) w →
      Contains (answered f) w → RestsOn IsDeclared es funs e f
  by_declaration : {e f : FlatJudgement} {j w : _} → Contains es e → Contains es f → IsDeclared e j →
      Contains (flat_map names_in (declared_types j)) w → Contains (answered f) w → RestsOn IsDeclared es funs e f
  by_lincat : {e f : FlatJudgement} → Contains es e → Contains es f → sort_of f.judgement ≡ Some K.Lincat →
      Contains (needed_categories funs (sort_of e.judgement) e.whole.name) f.whole.name → RestsOn IsDeclared es funs e f
  through : {e f g : _} → RestsOn IsDeclared es funs e f → RestsOn IsDeclared es funs f g → RestsOn IsDeclared es funs e g

-- those of the judgements that one rests on and that do not rest on it, in the same order
pub data Before (Rests : FlatJudgement → FlatJudgement → Type 0) (e : FlatJudgement) :
    List FlatJudgement → List FlatJudgement → Type 0 where
  none : Before Rests e [] []
  needed : {f fs ns : _} → Rests e f → ¬ (Rests f e) → Before Rests e fs ns → Before Rests e (f ∷ fs) (f ∷ ns)
  not_needed : {f fs ns : _} → ¬ (Rests e f × ¬ (Rests f e)) → Before Rests e fs ns → Before Rests e (f ∷ fs) ns

-- the turns of judgements where some are typed already: at the turn of each come first, in the same way,
-- those that it rests on and that do not rest on it
pub data Turns (Rests : FlatJudgement → FlatJudgement → Type 0) (list : List FlatJudgement) :
    List FlatJudgement → List FlatJudgement → List FlatJudgement → Type 0 where
  no_turn : {typed : _} → Turns Rests list typed [] []
  typed_already : {typed rest order e : _} → Contains typed e → Turns Rests list typed rest order →
      Turns Rests list typed (e ∷ rest) order
  its_turn : {typed rest first later needed e : _} → ¬ (Contains typed e) → Before Rests e list needed →
      Turns Rests list typed needed first → Turns Rests list (typed ++ first ++ e ∷ []) rest later →
      Turns Rests list typed (e ∷ rest) (first ++ e ∷ later)

-- the name under which a judgement is typed: a parameter type, a list category and an overload once
abbrev pub typed_name : Judgement → List ℕ → List ℕ
typed_name (J.ListCat n r k place) x = list_name n.name
typed_name j x = main_name j x

module _ (mods : List Module) where
  -- a linearization whose name the abstract module lacks is ignored
  abbrev pub Ignored : List PlacedName → List ℕ → Judgement → Type 0
  Ignored abstract x j = (sort_of j ≢ None) × (A : PlacedName) × Contains abstract A × ¬ (IsOf mods A.name x j)

  -- the judgements of a module that are typed, at their turns there
  abbrev pub HasTyped : List PlacedName → List ℕ → Moment → FlatJudgement → Type 0
  HasTyped abstract = HasEntry mods (λ x j. ¬ (Ignored abstract x j)) typed_name

  -- those that it does not inherit: copies and its own
  abbrev pub HasNew : List PlacedName → List ℕ → Moment → FlatJudgement → Type 0
  HasNew abstract M at e = (k : ℕ) × (within : Moment) × (at ≡ suc k ∷ within) × HasTyped abstract M at e

  -- the judgements of interfaces and incomplete modules, which are typed where a judgement rests on them
  abbrev pub IsMet : Moment → FlatJudgement → Type 0
  IsMet at e = (i : ℕ) × (m : Module) × (within : Moment) × (at ≡ i ∷ within) × (slice_get mods i ≡ Some m)
      × ((is_interface m.header || is_incomplete m.header) ≡ true) × HasNew [] (header_name m.header).name within e

-- inherited linearizations are typed again: lincats, lindefs, linrefs, then lins
abbrev pub is_of : Keyword → Option Keyword → Bool
is_of K.Lincat (Some K.Lincat) = true
is_of K.Lindef (Some K.Lindef) = true
is_of K.Linref (Some K.Linref) = true
is_of K.Lin (Some K.Lin) = true
is_of k s = false

abbrev pub typed_again : List FlatJudgement → List FlatJudgement
typed_again es = flat_map (λ k. filter (λ e. is_of k (sort_of e.judgement)) es) (K.Lincat ∷ K.Lindef ∷ K.Linref ∷ K.Lin ∷ [])
