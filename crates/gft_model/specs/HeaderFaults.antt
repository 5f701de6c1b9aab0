-- Faults of a module's header, and of names that it declares twice.
use Rattle.std.specs.Prelude.{◌≡◌, ℕ, List, [], ◌∷◌, ◌++◌, map, flat_map, length, Bool, true, false, not, ◌&&◌, ◌||◌, ◌⊎◌, codes, Contains, Option, Some, None, ◌≢◌, if◌then◌else◌}
use Rattle.gft_rules.specs.declared.refusal.Refusal.{Refusal}
use Rattle.gft_rules.specs.declared.rule.Rule.{Rule}
use Rattle.gft_rules.specs.declared.rule.Rule.TheVariants as R
use Rattle.gft_syntax.specs.declared.judgement.Judgement.{Judgement}
use Rattle.gft_syntax.specs.declared.judgement.Judgement.TheVariants as J
use Rattle.gft_syntax.specs.declared.judgement.Keyword.{Keyword}
use Rattle.gft_syntax.specs.declared.module.Header.{Header}
use Rattle.gft_syntax.specs.declared.module.Header.TheVariants.{Abstract, Resource, Interface, Instance, Concrete, Incomplete}
use Rattle.gft_syntax.specs.declared.module.Inherited.{Inherited}
use Rattle.gft_syntax.specs.declared.module.Inherited.TheVariants.{Whole, Only, Except}
use Rattle.gft_syntax.specs.declared.module.Module.{Module}
use Rattle.gft_syntax.specs.declared.module.Substitution.{Substitution}
use Rattle.gft_syntax.specs.declared.reference.PlacedName.{PlacedName}
use Rattle.gft_model.specs.Modules.{is_abstract, is_interface, is_incomplete, is_concrete, placed_names, sort_of, functor_of, restricted_of, Gives, inherited_at, opened_at, Is, Has, HasNameable, Writes, Declared, header_name, header_mentions, inherited_of, inherited_name, judgements_of, opened_of, is_undefined}
use Rattle.gft_model.specs.Refusals.{Moment, Before, place_moment, name_at, at_name}

-- an instance is a resource too
abbrev pub is_resource : Header → Bool
is_resource (Resource n) = true
is_resource (Instance n i) = true
is_resource h = false

-- the first may inherit from the second, and may open it
abbrev pub may_inherit : Header → Header → Bool
may_inherit (Abstract n) h = is_abstract h
may_inherit (Resource n) h = is_resource h
may_inherit (Instance n i) h = is_resource h
may_inherit (Interface n) h = is_interface h
may_inherit (Concrete n a) h = is_concrete h && not (is_incomplete h)
may_inherit (Incomplete n a) h = is_concrete h

abbrev pub may_open : Header → Header → Bool
may_open g h = is_resource h || ((is_interface g || is_incomplete g) && is_interface h)

-- the judgement may stand in a module of that kind: flags in any, linearizations in concrete modules, what has
-- no definition in interfaces, and other opers and parameter types in any module but abstract ones
abbrev pub may_stand : Judgement → Header → Bool
may_stand (J.Flag n v) h = true
may_stand (J.Cat n cs) h = is_abstract h
may_stand (J.ListCat n r k place) h = is_abstract h
may_stand (J.Fun ns T) h = is_abstract h
may_stand j h =
    elim (sort_of j) [ Some k ↦ is_concrete h | None ↦ if is_undefined j then is_interface h else not (is_abstract h) ]

-- what a module declares, in order, each name with the sort of its judgement
abbrev pub own_names : Module → List (Option Keyword × PlacedName)
own_names m = flat_map (λ j. map (λ n. (sort_of j, n)) (placed_names j)) (judgements_of m)

-- the names of a restriction
abbrev pub listed_names : Inherited → List PlacedName
listed_names (Only n xs) = xs
listed_names (Except n xs) = xs
listed_names (Whole n) = []

-- a module that a header names, and which kinds are allowed there
pub data Wants (m : Module) : PlacedName → (Header → Bool) → Type 0 where
  after_of : {n : _} → Contains (header_mentions m.header) n →
      Wants m n (if is_concrete m.header then is_abstract else is_interface)
  inherited : {h : _} → Contains (inherited_of m.rest) h → Wants m (inherited_at h) (may_inherit m.header)
  opened : {o : _} → Contains (opened_of m) o → Wants m (opened_at o) (may_open m.header)

-- two modules, in header order, give two judgements
abbrev pub Clash : (PlacedName → Declared → Type 0) → PlacedName → PlacedName → Type 0
Clash Gives earlier later = (d : Declared) × (e : Declared) × Gives earlier d × Gives later e × (d ≢ e)
    × Before (place_moment earlier.place) (place_moment later.place)

module _ (mods : List Module) where
  -- the interfaces that an incomplete module leaves open: those that it opens, and those of the incomplete
  -- modules that it inherits from
  pub data Parameter : List ℕ → List ℕ → Type 0 where
    opens : {F o : _} {m i : Module} → Is mods F m → is_incomplete m.header ≡ true → Contains (opened_of m) o →
        Is mods (opened_at o).name i → is_interface i.header ≡ true → Parameter F (opened_at o).name
    passes_on : {F I : _} {m : Module} {h : _} → Is mods F m → Contains (inherited_of m.rest) h → Parameter (inherited_name h) I →
        Parameter F I

  -- J is an instance of exactly I
  abbrev pub IsInstanceOf : List ℕ → List ℕ → Type 0
  IsInstanceOf J I = (m : Module) × (n : PlacedName) × (i : PlacedName) × Is mods J m × (m.header ≡ Instance n i) × (i.name ≡ I)

  -- what a module that the header names gives, of that sort
  abbrev pub GivesOf : Option Keyword → Module → List ℕ → PlacedName → Declared → Type 0
  GivesOf k m x n d = Gives mods m x n d × ((j : Judgement) × Writes mods d j × (sort_of j ≡ k))

  -- which header rules are broken, at which name, and with which modules beside; named says whether the module is a
  -- named source
  pub data BreaksHeader (named : Bool) (m : Module) : Rule → PlacedName → List PlacedName → Type 0 where
    module_of_wrong_kind : {n : PlacedName} {allowed : _} {o : Module} → Wants m n allowed → Is mods n.name o →
        allowed o.header ≡ false → BreaksHeader named m R.WrongKind n []
    functor_of_no_concrete : {f ss : _} {o : Module} → functor_of m.rest ≡ Some (f, ss) → is_concrete m.header ≡ false →
        Is mods (inherited_name f) o → is_incomplete o.header ≡ true → BreaksHeader named m R.WrongKind (inherited_at f) []
    judgement_of_wrong_kind : {j n ns : _} → Contains (judgements_of m) j → may_stand j m.header ≡ false →
        placed_names j ≡ n ∷ ns → BreaksHeader named m R.WrongKind n []
    source_of_wrong_kind : named ≡ true →
        (is_abstract m.header || (is_concrete m.header && not (is_incomplete m.header))) ≡ false →
        BreaksHeader named m R.WrongKind (header_name m.header) []
    restricts_unknown : {h : _} {n : PlacedName} → Contains (restricted_of m.rest) h → Contains (listed_names h) n →
        ((d : Declared) → ¬ (Has mods (inherited_name h) n.name d)) → BreaksHeader named m R.RestrictUnknown n []
    inherited_clash : {k x i : _} {n : PlacedName} → Clash (GivesOf k m x) i n →
        BreaksHeader named m R.InheritClash (name_at x n.place) (i ∷ n ∷ [])
    own_clash : {j : _} {n : PlacedName} {i d : _} → Contains (judgements_of m) j → Contains (placed_names j) n →
        GivesOf (sort_of j) m n.name i d → BreaksHeader named m R.InheritClash n (i ∷ header_name m.header ∷ [])
    not_incomplete : {f ss : _} {o : Module} → functor_of m.rest ≡ Some (f, ss) → Is mods (inherited_name f) o →
        is_incomplete o.header ≡ false → BreaksHeader named m R.NotIncomplete (inherited_at f) []
    without_substitution : {f ss I : _} → functor_of m.rest ≡ Some (f, ss) → Parameter (inherited_name f) I →
        ((s : Substitution) → Contains ss s → s.interface.name ≢ I) →
        BreaksHeader named m R.ParameterUnmatched (name_at I (inherited_at f).place) []
    no_parameter : {f ss : _} {s : Substitution} → functor_of m.rest ≡ Some (f, ss) → Contains ss s →
        ¬ (Parameter (inherited_name f) s.interface.name) → BreaksHeader named m R.ParameterUnmatched s.interface []
    no_instance : {f ss : _} {s : Substitution} → functor_of m.rest ≡ Some (f, ss) → Contains ss s →
        ¬ (IsInstanceOf s.instance.name s.interface.name) → BreaksHeader named m R.ParameterUnmatched s.instance []
    instance_lacks : {n i : PlacedName} {x d j : _} → m.header ≡ Instance n i → Has mods i.name x d → Writes mods d j →
        is_undefined j ≡ true → ((e : Declared) → ¬ (HasNameable mods n.name x e)) →
        BreaksHeader named m R.InstanceLacks (name_at x n.place) []

-- a name that is built in
abbrev pub IsBuiltIn : List ℕ → Type 0
IsBuiltIn x = Contains (codes "Int" ∷ codes "String" ∷ []) x

-- a name that is declared a second time, or is built in, in the order of the declarations
pub data Redefines (m : Module) : Moment → Refusal → Type 0 where
  redefined : (before after : List (Option Keyword × PlacedName)) {k : _} {n : PlacedName} →
      own_names m ≡ before ++ (k, n) ∷ after →
      Contains {X = Option Keyword × List ℕ} (map (λ o. (o.0, o.1.name)) before) (k, n.name) ⊎ IsBuiltIn n.name →
      Redefines m (length before ∷ []) (at_name R.Redefined n [])
