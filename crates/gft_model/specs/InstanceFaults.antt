-- Faults of an instance: what it gives for a constant has not the type that its interface declares.
use Rattle.std.specs.Prelude.{◌≡◌, ◌≢◌, ℕ, suc, List, [], ◌∷◌, ◌++◌, map, length, Contains, Some, None, slice_get}
use Rattle.std.specs.List.{AllZip}
use Rattle.gft_core.specs.declared.place.Place.{Place}
use Rattle.gft_rules.specs.declared.refusal.Refusal.{Refusal}
use Rattle.gft_rules.specs.declared.rule.Rule.TheVariants as R
use Rattle.gft_syntax.specs.declared.ctype.CType.{out-CType}
use Rattle.gft_syntax.specs.declared.ctype.CType.TheOpen as CType-F
use Rattle.gft_syntax.specs.declared.flat.Flat.{Flat}
use Rattle.gft_syntax.specs.declared.flat.FlatJudgement.{FlatJudgement}
use Rattle.gft_syntax.specs.declared.judgement.Definition.TheVariants as D
use Rattle.gft_syntax.specs.declared.judgement.Judgement.{Judgement}
use Rattle.gft_syntax.specs.declared.judgement.Judgement.TheVariants as J
use Rattle.gft_syntax.specs.declared.module.Header.TheVariants.{Instance}
use Rattle.gft_syntax.specs.declared.module.Module.{Module}
use Rattle.gft_syntax.specs.declared.reference.PlacedName.{PlacedName}
use Rattle.gft_syntax.specs.declared.reference.Reference.TheVariants.{Whole as WholeName}
use Rattle.gft_syntax.specs.declared.reference.Whole.{Whole}
use Rattle.gft_syntax.specs.declared.term.Term.{Term, roll-Term}
use Rattle.gft_syntax.specs.declared.term.Term.TheOpen as T
use Rattle.gft_model.specs.ConcreteTyping.{IsType, Stands, a_parameter, an_oper}
use Rattle.gft_model.specs.Flats.{AreMeanings, whole_of}
use Rattle.gft_model.specs.JudgementOrder.{answered, alternative_types, declared_types}
use Rattle.gft_model.specs.JudgementTyping.{items, IsSort}
use Rattle.gft_model.specs.Modules.{placed_names, header_name, module_of, Has, HasNameable, Writes, Declared, copy, main_name}
use Rattle.gft_model.specs.Refusals.{Moment, refusal, name_moment}
use Rattle.gft_model.specs.Resolution.{resolved_judgement}
use Rattle.gft_model.specs.TypeFaults.{BreaksSites}
use Rattle.gft_model.specs.TypeForms.{sort_param}
use Rattle.gft_model.specs.TypingSites.{any_role, type_site, judgement_sites, FoundFor, IsOverload}

-- what is declared of an oper: its type, or those of the alternatives of an overload; of a parameter type
-- that it is one
pub data Wanted : Type 0 where
  a_type : Term → Wanted
  alternatives : List Term → Wanted
  a_parameter_type : Wanted
  nothing : Wanted

abbrev pub wanted_of : Judgement → Wanted
wanted_of (J.ParamName n) = a_parameter_type
wanted_of (J.Param n cs) = a_parameter_type
wanted_of (J.OperType ns t) = a_type t
wanted_of (J.OperTyped ns t (D.Term e)) = a_type t
wanted_of (J.OperTyped ns t (D.Overload ds)) = alternatives (alternative_types (D.Overload ds))
wanted_of (J.Oper ns xs (D.Overload ds)) = alternatives (alternative_types (D.Overload ds))
wanted_of j = nothing

module _ (mods : List Module) (m : Module) where
  -- the instance gives e for what its interface declares under x: a judgement, with its names as a copy of it means them
  pub data Replaced (x : List ℕ) (e : Declared) : Judgement → Type 0 where
    replaced : {own interface : PlacedName} {d text names : _} → m.header ≡ Instance own interface →
        Has mods interface.name x d → Writes mods d text → main_name text x ≡ x → HasNameable mods own.name x e →
        e ≢ copy own.name d → AreMeanings mods (copy own.name d) names → Replaced x e (resolved_judgement names text)

  -- what the interface declares for a judgement of the instance's own
  pub data IsDeclared (f : FlatJudgement) (j : Judgement) : Type 0 where
    is_declared : {x e : _} → Replaced x e j → module_of e ≡ (header_name m.header).name → Contains (answered f) (whole_of x e) →
        IsDeclared f j

  module _ (flat : Flat) where
    -- a name that has both sorts: that of a param, or of an oper without a written type that means one
    pub data HasBothSorts (w : Whole) : Type 0 where
      by_param : {cs : _} → Stands (items flat) w (a_parameter cs) → HasBothSorts w
      by_definition : {k d A c ds : _} → Stands (items flat) w (an_oper k None (Some d)) → IsType (items flat) d A →
          out-CType A ≡ CType-F.Param c ds → HasBothSorts w

    -- it gives a declared param; so does an oper of type PType
    pub data GivesParameter (w : Whole) : Type 0 where
      by_both : HasBothSorts w → GivesParameter w
      by_sort : {k t d : _} → Stands (items flat) w (an_oper k (Some t) d) → IsType (items flat) t sort_param → GivesParameter w

    -- what the instance gives has another type; types are equal or not, whatever is a subtype of what
    pub data HasAnotherType (w : Whole) : Wanted → Type 0 where
      other_type : {t : _} (p : Place) {A B : _} → IsType (items flat) t A → ¬ (IsOverload flat w) →
          FoundFor flat (roll-Term (T.Var (WholeName w) p)) [] B → A ≢ B → ¬ (HasBothSorts w × IsSort A) →
          HasAnotherType w (a_type t)
      overload_for_one : {t : _} → IsOverload flat w → HasAnotherType w (a_type t)
      one_for_overload : {ts : _} → ¬ (IsOverload flat w) → HasAnotherType w (alternatives ts)
      other_alternatives : {ts us As Bs : _} {f : FlatJudgement} → Contains flat.opers f → f.whole ≡ w →
          wanted_of f.judgement ≡ alternatives us → AllZip (IsType (items flat)) ts As → AllZip (IsType (items flat)) us Bs →
          As ≢ Bs → HasAnotherType w (alternatives ts)
      no_parameter_type : ¬ (GivesParameter w) → HasAnotherType w a_parameter_type

    -- the turn of a declared type and of its comparison: once the own judgement is typed, by its names in order; of an
    -- inherited one, after all own judgements, by name
    pub data TurnOf (order : List FlatJudgement) (w : Whole) : Moment → Type 0 where
      own_turn : {k i : _} {f : FlatJudgement} → slice_get order k ≡ Some f → slice_get (answered f) i ≡ Some w →
          TurnOf order w (k ∷ suc (length (judgement_sites w.«module» w.name f.judgement)) ∷ i ∷ [])
      inherited_turn : ((f : FlatJudgement) → Contains order f → ¬ (Contains (answered f) w)) →
          TurnOf order w (length order ∷ name_moment w.name)

    -- what is broken where an instance replaces what its interface declares: the declared types first
    pub data BreaksInstance (order : List FlatJudgement) : Moment → Refusal → Type 0 where
      in_declared_type : {x e j turn at r : _} → Replaced x e j → TurnOf order (whole_of x e) turn →
          BreaksSites flat (map (type_site any_role) (declared_types j)) at r → BreaksInstance order (turn ++ 0 ∷ at) r
      of_another_type : {x e j text : _} {n : PlacedName} {turn : _} → Replaced x e j → TurnOf order (whole_of x e) turn →
          HasAnotherType (whole_of x e) (wanted_of j) → Writes mods e text → Contains (placed_names text) n → n.name ≡ x →
          BreaksInstance order (turn ++ 1 ∷ []) (refusal R.InstanceType n.place (x ∷ []))
