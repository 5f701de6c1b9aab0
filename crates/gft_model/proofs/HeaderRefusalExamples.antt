-- Worked examples of refusals of headers: a name that two inherited modules give, a resource that is a named source, and a
-- name that is declared twice.
use Rattle.std.proofs.Common.{◌≡◌, ap, refl, ℕ, true, false, Bool, List, [], ◌∷◌, ◌++◌, None, inl, arith}
use Rattle.std.specs.Prelude.{codes, bytes_eq}
use Rattle.gft_core.specs.declared.place.Place.{Place}
use Rattle.gft_rules.specs.Rules.{code_of}
use Rattle.gft_rules.specs.declared.rule.Rule.TheVariants as R
use Rattle.gft_syntax.specs.declared.judgement.Definition.TheVariants as D
use Rattle.gft_syntax.specs.declared.judgement.Judgement.TheVariants as J
use Rattle.gft_syntax.specs.declared.module.Header.TheVariants.{Abstract, Resource}
use Rattle.gft_syntax.specs.declared.module.Inherited.TheVariants.{Whole}
use Rattle.gft_syntax.specs.declared.module.Module.{Module}
use Rattle.gft_syntax.specs.declared.module.Rest.TheVariants.{Own, Inherits}
use Rattle.gft_syntax.specs.declared.reference.PlacedName.{PlacedName}
use Rattle.gft_syntax.specs.declared.term.Term.{Term}
use Rattle.gft_model.specs.HeaderFaults
use Rattle.gft_model.specs.Import.{BreaksModule, in_header, twice}
use Rattle.gft_model.specs.Modules.{declares, own, own_text, module_of, inherits}
use Rattle.gft_model.specs.Refusals.{refusal, sooner, later_on, name_moment}

abbrev here : ℕ → Place
here col = record { file = 0; line = 1; col = col }

abbrev named : ℕ → List ℕ → PlacedName
named col x = record { name = x; place = here col }

module _ (t e : Term) where
  -- resource X = {oper P : T = e ;}, and Y in the same way
  abbrev resource_of_p : List ℕ → Module
  resource_of_p X = record {
    header = Resource (named 10 X);
    rest = Own [] (record { opened = []; judgements = J.OperTyped (named 20 (codes "P") ∷ []) t (D.Term e) ∷ [] });
  }

  -- resource Z = X, Y
  abbrev both : Module
  both = record { header = Resource (named 10 (codes "Z")); rest = Inherits (Whole (named 14 (codes "X")) ∷ Whole (named 17 (codes "Y")) ∷ []) }

  abbrev mods : List Module
  mods = resource_of_p (codes "X") ∷ resource_of_p (codes "Y") ∷ both ∷ []

  p_clash : HeaderFaults.Clash (HeaderFaults.GivesOf mods None both (codes "P")) (named 14 (codes "X")) (named 17 (codes "Y"))
  p_clash = (
    own (codes "X") 0,
    own (codes "Y") 0,
    (
      inherits {h = Whole (named 14 (codes "X"))} (0, omega arith, refl) refl (declares 0 refl refl (0, omega arith, refl)),
      (J.OperTyped (named 20 (codes "P") ∷ []) t (D.Term e), own_text 0 refl refl, refl),
    ),
    (
      inherits {h = Whole (named 17 (codes "Y"))} (1, omega arith, refl) refl (declares 0 refl refl (0, omega arith, refl)),
      (J.OperTyped (named 20 (codes "P") ∷ []) t (D.Term e), own_text 0 refl refl, refl),
    ),
    λ q. let wrong : true ≡ false = ap (λ d. bytes_eq (module_of d) (codes "X")) q in cc,
    later_on (sooner (omega arith)),
  )

  -- 1:17, with P, X, Y
  pub inherited_twice : (named_source : Bool) → BreaksModule mods named_source both
      (0 ∷ code_of R.InheritClash ∷ 1 ∷ 17 ∷ name_moment (codes "P") ++ 1 ∷ 17 ∷ 1 ∷ 14 ∷ [])
      (refusal R.InheritClash (here 17) (codes "P" ∷ codes "X" ∷ codes "Y" ∷ []))
  inherited_twice named_source = in_header (HeaderFaults.inherited_clash p_clash)

  -- a resource is no named source: 1:10, with Z
  pub no_source : BreaksModule mods true both (0 ∷ code_of R.WrongKind ∷ 1 ∷ 10 ∷ name_moment (codes "Z") ++ [])
      (refusal R.WrongKind (here 10) (codes "Z" ∷ []))
  no_source = in_header (HeaderFaults.source_of_wrong_kind refl refl)

  -- abstract A = {cat S ; fun S : S ;}: the second S, at 1:27
  abbrev twice_s : Module
  twice_s = record {
    header = Abstract (named 10 (codes "A"));
    rest = Own [] (record { opened = []; judgements = J.Cat (named 19 (codes "S")) [] ∷ J.Fun (named 27 (codes "S") ∷ []) t ∷ [] });
  }

  pub declared_twice : (named_source : Bool) → BreaksModule (twice_s ∷ []) named_source twice_s (1 ∷ 1 ∷ [])
      (refusal R.Redefined (here 27) (codes "S" ∷ []))
  declared_twice named_source =
      twice (HeaderFaults.redefined ((None, named 19 (codes "S")) ∷ []) [] refl (inl (0, omega arith, refl)))
