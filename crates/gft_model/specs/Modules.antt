-- Which judgements a module has, and which a name in it means.
use Rattle.std.specs.Prelude.{◌≡◌, ℕ, List, [], ◌∷◌, ◌++◌, map, flat_map, Bool, true, false, not, bytes_eq, codes, Contains, Option, Some, None, option_to_list, slice_get, if◌then◌else◌}
use Rattle.std.specs.List.{list_any}
use Rattle.gft_syntax.specs.declared.judgement.Judgement.{Judgement}
use Rattle.gft_syntax.specs.declared.judgement.Judgement.TheVariants as J
use Rattle.gft_syntax.specs.declared.judgement.Keyword.{Keyword}
use Rattle.gft_syntax.specs.declared.judgement.Keyword.TheVariants as K
use Rattle.gft_syntax.specs.declared.module.Body.{Body}
use Rattle.gft_syntax.specs.declared.module.Header.{Header}
use Rattle.gft_syntax.specs.declared.module.Header.TheVariants.{Abstract, Resource, Interface, Instance, Concrete, Incomplete}
use Rattle.gft_syntax.specs.declared.module.Inherited.{Inherited}
use Rattle.gft_syntax.specs.declared.module.Inherited.TheVariants.{Whole, Only, Except}
use Rattle.gft_syntax.specs.declared.module.Module.{Module}
use Rattle.gft_syntax.specs.declared.module.Opened.{Opened}
use Rattle.gft_syntax.specs.declared.module.Opened.TheVariants.{Plain, Qualified}
use Rattle.gft_syntax.specs.declared.module.Rest.{Rest}
use Rattle.gft_syntax.specs.declared.module.Rest.TheVariants.{Own, Inherits, With}
use Rattle.gft_syntax.specs.declared.module.Substitution.{Substitution}
use Rattle.gft_syntax.specs.declared.reference.PlacedName.{PlacedName}
use Rattle.gft_syntax.specs.Parts.{list_name}
use Rattle.gft_model.specs.Refusals.{Moment}

-- the name of a module
abbrev pub header_name : Header → PlacedName
header_name (Abstract n) = n
header_name (Resource n) = n
header_name (Interface n) = n
header_name (Instance n i) = n
header_name (Concrete n a) = n
header_name (Incomplete n a) = n

-- kinds of modules
abbrev pub is_abstract : Header → Bool
is_abstract (Abstract n) = true
is_abstract h = false

abbrev pub is_interface : Header → Bool
is_interface (Interface n) = true
is_interface h = false

abbrev pub is_incomplete : Header → Bool
is_incomplete (Incomplete n a) = true
is_incomplete h = false

abbrev pub is_concrete : Header → Bool
is_concrete (Concrete n a) = true
is_concrete (Incomplete n a) = true
is_concrete h = false

-- the module of that name
abbrev pub module_named : List Module → List ℕ → Option Module
module_named [] M = None
module_named (m ∷ ms) M = if bytes_eq M (header_name m.header).name then Some m else module_named ms M

-- what a module inherits; the functor of a with is none of it
abbrev pub inherited_of : Rest → List Inherited
inherited_of (Own hs b) = hs
inherited_of (Inherits hs) = hs
inherited_of (With hs f ss b) = hs

-- the functor of a with, and what is given for its parameters
abbrev pub functor_of : Rest → Option (Inherited × List Substitution)
functor_of (With hs f ss b) = Some (f, ss)
functor_of r = None

-- what may be restricted: the functor of a with too
abbrev pub restricted_of : Rest → List Inherited
restricted_of r = inherited_of r ++ map (λ w. w.0) (option_to_list (functor_of r))

-- its body, where it has one
abbrev pub body_of : Rest → Option Body
body_of (Own hs b) = Some b
body_of (Inherits hs) = None
body_of (With hs f ss b) = b

-- its own judgements
abbrev pub judgements_of : Module → List Judgement
judgements_of m = elim (body_of m.rest) [ None ↦ [] | Some b ↦ b.judgements ]

-- what it opens
abbrev pub opened_of : Module → List Opened
opened_of m = elim (body_of m.rest) [ None ↦ [] | Some b ↦ b.opened ]

-- a module that is inherited, where the header names it
abbrev pub inherited_at : Inherited → PlacedName
inherited_at (Whole n) = n
inherited_at (Only n xs) = n
inherited_at (Except n xs) = n

-- a module that is opened, where the header names it
abbrev pub opened_at : Opened → PlacedName
opened_at (Plain n) = n
opened_at (Qualified q n) = n

-- the names under which it is opened: an alias, and its own
abbrev pub opened_names : Opened → List (List ℕ)
opened_names (Plain n) = n.name ∷ []
opened_names (Qualified q n) = q.name ∷ n.name ∷ []

-- the module that is inherited
abbrev pub inherited_name : Inherited → List ℕ
inherited_name h = (inherited_at h).name

-- the name is among those
abbrev pub is_listed : List ℕ → List PlacedName → Bool
is_listed x ns = list_any (λ n. bytes_eq x n.name) ns

-- a restriction lets the name through
abbrev pub lets_through : Inherited → List ℕ → Bool
lets_through (Whole n) x = true
lets_through (Only n xs) x = is_listed x xs
lets_through (Except n xs) x = not (is_listed x xs)

-- the module after of: an interface, or an abstract module
abbrev pub header_mentions : Header → List PlacedName
header_mentions (Instance n i) = i ∷ []
header_mentions (Concrete n a) = a ∷ []
header_mentions (Incomplete n a) = a ∷ []
header_mentions h = []

-- the modules that a module names, in the order of the text, in which they are loaded
abbrev pub mentions : Module → List PlacedName
mentions m =
    header_mentions m.header ++ map inherited_at (restricted_of m.rest)
    ++ flat_map (λ w. flat_map (λ s. s.interface ∷ s.instance ∷ []) w.1) (option_to_list (functor_of m.rest))
    ++ map opened_at (opened_of m)

-- names without their places
abbrev pub names_of : List PlacedName → List (List ℕ)
names_of ns = map (λ n. n.name) ns

-- the names that a judgement declares, at their places; a flag is no name
abbrev pub placed_names : Judgement → List PlacedName
placed_names (J.Cat n cs) = n ∷ []
placed_names (J.ListCat n r k place) =
    map (λ x. record { name = x; place = place })
    (list_name n.name ∷ (codes "Base" ++ n.name) ∷ (codes "Cons" ++ n.name) ∷ [])
placed_names (J.Fun ns T) = ns
placed_names (J.Flag n v) = []
placed_names (J.Lincat ns T) = ns
placed_names (J.Lin ns xs e) = ns
placed_names (J.Lindef ns xs e) = ns
placed_names (J.Linref ns xs e) = ns
placed_names (J.ParamName n) = n ∷ []
placed_names (J.Param n cs) = n ∷ map (λ c. c.name) cs
placed_names (J.OperType ns T) = ns
placed_names (J.OperTyped ns T d) = ns
placed_names (J.Oper ns xs d) = ns

-- the same without the places
abbrev pub declared_names : Judgement → List (List ℕ)
declared_names j = names_of (placed_names j)

-- judgements clash with those of their own sort: each keyword of linearizations by itself, all others
abbrev pub sort_of : Judgement → Option Keyword
sort_of (J.Lincat ns T) = Some K.Lincat
sort_of (J.Lin ns xs e) = Some K.Lin
sort_of (J.Lindef ns xs e) = Some K.Lindef
sort_of (J.Linref ns xs e) = Some K.Linref
sort_of j = None

-- a declaration that leaves the definition to instances
abbrev pub is_undefined : Judgement → Bool
is_undefined (J.ParamName n) = true
is_undefined (J.OperType ns T) = true
is_undefined j = false

-- the name by which a judgement is kept or replaced: a parameter type with its constructors whole
abbrev pub main_name : Judgement → List ℕ → List ℕ
main_name (J.Param n cs) x = n.name
main_name j x = x

-- a judgement where it stands: judgement k of a module's own, from 0, or the copy that an instance
-- or a with module makes of one
pub data Declared : Type 0 where
  own : List ℕ → ℕ → Declared
  copy : List ℕ → Declared → Declared

-- the module whose judgement it is
abbrev pub module_of : Declared → List ℕ
module_of (own M k) = M
module_of (copy M d) = M

module _ (mods : List Module) where
  -- the module of the name
  abbrev pub Is : List ℕ → Module → Type 0
  Is M m = module_named mods M ≡ Some m

  -- the judgement as it is written
  pub data Writes : Declared → Judgement → Type 0 where
    own_text : {M : _} (k : ℕ) {m j : _} → Is M m → slice_get (judgements_of m) k ≡ Some j → Writes (own M k) j
    copied_text : {M d j : _} → Writes d j → Writes (copy M d) j

  -- an own judgement declares the name
  abbrev pub OwnName : Module → List ℕ → Type 0
  OwnName m x = (j : Judgement) × Contains (judgements_of m) j × Contains (declared_names j) x

  mutual
    -- the module has the judgement under the name: its own, or one that a module which its header names gives
    pub data Has : List ℕ → List ℕ → Declared → Type 0 where
      declares : {M x : _} (k : ℕ) {m j : _} → Is M m → slice_get (judgements_of m) k ≡ Some j → Contains (declared_names j) x →
          Has M x (own M k)
      is_given : {M x m n d : _} → Is M m → Gives m x n d → Has M x d

    -- what a module that the header names gives under a name: one that is inherited from, the functor of a
    -- with, or the interface of an instance, whose judgements the instance keeps
    pub data Gives : Module → List ℕ → PlacedName → Declared → Type 0 where
      inherits : {m : Module} {x h d : _} → Contains (inherited_of m.rest) h → lets_through h x ≡ true →
          Has (inherited_name h) x d → Gives m x (inherited_at h) d
      keeps : {m : Module} {x : _} {n i : PlacedName} {d j : _} → m.header ≡ Instance n i → Has i.name x d → Writes d j →
          is_undefined j ≡ false → ¬ (OwnName m (main_name j x)) → Gives m x i (copy n.name d)
      instantiates : {m : Module} {x f ss d : _} → functor_of m.rest ≡ Some (f, ss) → lets_through f x ≡ true →
          Has (inherited_name f) x d → Gives m x (inherited_at f) (copy (header_name m.header).name d)

  -- its turn there: what is inherited comes first, in the order of the header, then the copies, then its own
  abbrev pub turn : {M x : List ℕ} {d : Declared} → Has M x d → Moment
  turn (is_given is (inherits c l h)) = 0 ∷ c.0 ∷ turn h
  turn (is_given is (keeps e h w u n)) = 1 ∷ turn h
  turn (is_given is (instantiates e l h)) = 2 ∷ turn h
  turn (declares k is g c) = 3 ∷ k ∷ c.0 ∷ []

  -- the module has a judgement under the name that terms may name: no linearization
  pub record HasNameable (M x : List ℕ) (d : Declared) : Type 0 where
    pub has : Has M x d
    pub text : Judgement
    pub writes : Writes d text
    pub nameable : sort_of text ≡ None

  -- what an opened module offers for x, where the module itself has nothing, or for Q.x
  pub data Offers (m : Module) (x : List ℕ) : Option (List ℕ) → PlacedName → Declared → Type 0 where
    for_bare : {n : PlacedName} {d : _} → Contains (opened_of m) (Plain n) →
        ((e : Declared) → ¬ (HasNameable (header_name m.header).name x e)) → HasNameable n.name x d → Offers m x None n d
    for_qualified : {Q o d : _} → Contains (opened_of m) o → Contains (opened_names o) Q → HasNameable (opened_at o).name x d →
        Offers m x (Some Q) (opened_at o) d

  -- what x, or Q.x, means in a module, where no local variable is called x, or Q
  pub data Sees : List ℕ → Option (List ℕ) → List ℕ → Declared → Type 0 where
    at_home : {M x d : _} → HasNameable M x d → Sees M None x d
    from_opened : {M m q x n d : _} → Is M m → Offers m x q n d → Sees M q x d

  -- what the instances of a with give for a constant of an interface under a name: the first interface that
  -- has it counts
  pub data Argument : List Substitution → List ℕ → Declared → Declared → Type 0 where
    here : {s : Substitution} {ss y d e : _} → HasNameable s.interface.name y d → HasNameable s.instance.name y e →
        Argument (s ∷ ss) y d e
    later : {s : Substitution} {ss y d e : _} → ¬ (HasNameable s.interface.name y d) → Argument ss y d e →
        Argument (s ∷ ss) y d e

  -- what stands for a judgement under one of its names in the copies that a module makes: an instance's own
  -- for that of its interface; in a with module that of the instance for the interface's, and the copy for
  -- the functor's. A parameter type is copied whole where the restriction lets one of its names through
  pub data Replaces : List ℕ → List ℕ → Declared → Declared → Type 0 where
    by_instance : {M y : _} {m : Module} {n : _} {i : PlacedName} {d e : _} → Is M m → m.header ≡ Instance n i →
        HasNameable i.name y d → HasNameable M y e → Replaces M y d e
    by_argument : {M y : _} {m : Module} {f ss d e : _} → Is M m → functor_of m.rest ≡ Some (f, ss) → Argument ss y d e →
        Replaces M y d e
    by_copy : {M y z : _} {m : Module} {f ss d j : _} → Is M m → functor_of m.rest ≡ Some (f, ss) → Writes d j →
        Has (inherited_name f) z d → lets_through f z ≡ true → Contains (declared_names j) y → main_name j y ≡ main_name j z →
        Replaces M y d (copy M d)

  -- what x, or Q.x, in a judgement means: in an own one by the module where it is written, in a copy what
  -- stands for what it meant, where there is something, and else the same
  pub data Means : Declared → Option (List ℕ) → List ℕ → Declared → Type 0 where
    own_name : {M q x : _} (k : ℕ) {d : _} → Sees M q x d → Means (own M k) q x d
    replaced : {M j q x d e : _} → Means j q x d → Replaces M x d e → Means (copy M j) q x e
    remains : {M j q x d : _} → Means j q x d → ((e : Declared) → ¬ (Replaces M x d e)) → Means (copy M j) q x d
