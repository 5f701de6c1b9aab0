-- The resolved grammar of modules: every judgement that counts, under its whole name, with each name
-- in it replaced by what it means.
use Rattle.std.specs.Prelude.{◌≡◌, ℕ, List, [], ◌∷◌, ◌++◌, map, filter, filter_map, find, unwrap_or, true, not, ◌&&◌, ◌↔◌, bytes_eq, codes, Contains, AllPairs, Option, Some, None, option_map, if◌then◌else◌}
use Rattle.std.specs.List.{list_any, last_or, reduce}
use Rattle.std.specs.Cmp.Lexicographic.{slice_cmp}
use Rattle.std.specs.Ordering.{nat_cmp, min_by_ordering}
use Rattle.gft_syntax.specs.declared.flat.Flat.{Flat}
use Rattle.gft_syntax.specs.declared.flat.FlatConcrete.{FlatConcrete}
use Rattle.gft_syntax.specs.declared.flat.FlatJudgement.{FlatJudgement}
use Rattle.gft_syntax.specs.declared.judgement.Constructor.{Constructor}
use Rattle.gft_syntax.specs.declared.judgement.Judgement.{Judgement}
use Rattle.gft_syntax.specs.declared.judgement.Judgement.TheVariants as J
use Rattle.gft_syntax.specs.declared.judgement.Keyword.{Keyword}
use Rattle.gft_syntax.specs.declared.judgement.Keyword.TheVariants as K
use Rattle.gft_syntax.specs.declared.judgement.Setting.TheVariants as V
use Rattle.gft_syntax.specs.declared.module.Module.{Module}
use Rattle.gft_syntax.specs.declared.reference.PlacedName.{PlacedName}
use Rattle.gft_syntax.specs.declared.reference.Whole.{Whole}
use Rattle.gft_syntax.specs.Parts.{list_name}
use Rattle.gft_model.specs.Modules.{is_abstract, is_concrete, is_incomplete, Is, Has, turn, Writes, header_name, Means, Declared, module_of, module_named, header_mentions, sort_of, mentions, judgements_of, main_name}
use Rattle.gft_model.specs.Refusals.{Moment, Before}
use Rattle.gft_model.specs.Resolution.{Names, resolved_judgement}

-- the whole name of a judgement under one of its names
abbrev pub whole_of : List ℕ → Declared → Whole
whole_of x d = record { «module» = module_of d; name = x }

-- that one of the names alone
abbrev pub only : List ℕ → List PlacedName → List PlacedName
only x ns = filter (λ n. bytes_eq x n.name) ns

-- a judgement with one of its names alone
abbrev pub alone : List ℕ → Judgement → Judgement
alone x (J.Fun ns T) = J.Fun (only x ns) T
alone x (J.Lincat ns T) = J.Lincat (only x ns) T
alone x (J.Lin ns xs e) = J.Lin (only x ns) xs e
alone x (J.Lindef ns xs e) = J.Lindef (only x ns) xs e
alone x (J.Linref ns xs e) = J.Linref (only x ns) xs e
alone x (J.OperType ns T) = J.OperType (only x ns) T
alone x (J.OperTyped ns T d) = J.OperTyped (only x ns) T d
alone x (J.Oper ns xs d) = J.Oper (only x ns) xs d
alone x j = j

-- the parts of a resolved grammar beside its languages
pub data Part : Type 0 where
  categories functions parameters opers : Part

-- the part to which a judgement belongs under a name; a constructor stands in its parameter type
abbrev pub part_of : List ℕ → Judgement → Option Part
part_of x (J.Cat n cs) = Some categories
part_of x (J.ListCat n r k place) = if bytes_eq x (list_name n.name) then Some categories else Some functions
part_of x (J.Fun ns T) = Some functions
part_of x (J.ParamName n) = Some parameters
part_of x (J.Param n cs) = Some parameters
part_of x (J.OperType ns T) = Some opers
part_of x (J.OperTyped ns T d) = Some opers
part_of x (J.Oper ns xs d) = Some opers
part_of x j = None

-- what a linearization of the keyword is of: a category or a function
abbrev pub linearized_part : Keyword → Part
linearized_part K.Lin = functions
linearized_part k = categories

-- the judgement declares the name as a constructor
abbrev pub IsConstructor : Judgement → List ℕ → Type 0
IsConstructor j x =
    (n : PlacedName) × (cs : List Constructor) × (j ≡ J.Param n cs) × Contains (map (λ (c : Constructor). c.name.name) cs) x

-- the category that a flag of the start category names, the built-in ones among them
abbrev pub flag_value : List (List ℕ) → Judgement → Option (List ℕ)
flag_value cats (J.Flag n (V.Name C)) =
    if bytes_eq n.name (codes "startcat") && list_any (bytes_eq C) (codes "Int" ∷ codes "String" ∷ cats) then Some C else None
flag_value cats j = None

-- the start category where no flag names one: S, else the first in byte order, else Int
abbrev pub default_start : List (List ℕ) → List ℕ
default_start cats = if list_any (bytes_eq (codes "S")) cats then codes "S"
    else unwrap_or (reduce (λ C D. min_by_ordering (slice_cmp nat_cmp C D) C D) cats) (codes "Int")

-- the start category, by the last flag of the module itself that names one
abbrev pub start_of : List (List ℕ) → List Judgement → List ℕ
start_of cats js = unwrap_or (last_or None (filter_map (flag_value cats) js)) (default_start cats)

module _ (mods : List Module) where
  -- the abstract module among some, the first where there are several, and the complete concrete ones
  abbrev pub abstract_in : List (List ℕ) → Option Module
  abstract_in chosen = find (λ m. is_abstract m.header) (filter_map (module_named mods) chosen)

  abbrev pub languages_in : List (List ℕ) → List Module
  languages_in chosen = filter (λ m. is_concrete m.header && not (is_incomplete m.header)) (filter_map (module_named mods) chosen)

  -- a module rests on itself, on what it names, and so on
  pub data RestsOn : List ℕ → List ℕ → Type 0 where
    itself : {M : _} → RestsOn M M
    through : {M K m : _} {n : PlacedName} → Is mods M m → Contains (mentions m) n → RestsOn n.name K → RestsOn M K

  -- its turn there: as in loading, what a module names comes before it, in the order of the text
  abbrev pub loading_turn : {M K : List ℕ} → RestsOn M K → Moment
  loading_turn (through is c r) = 0 ∷ c.0 ∷ loading_turn r
  loading_turn itself = 1 ∷ []

  -- the one thing that a name in a judgement means; several are no fault where the name is not used
  pub record IsMeaning (d : Declared) (q : Option (List ℕ)) (x : List ℕ) (whole : Whole) : Type 0 where
    pub some_meaning : Declared
    pub means : Means mods d q x some_meaning
    pub only_one : (e : Declared) → Means mods d q x e → whole ≡ whole_of x e

  -- what the names of a judgement mean, and which are constructors
  pub record AreMeanings (d : Declared) (names : Names) : Type 0 where
    pub of_names : (q : Option (List ℕ)) (x : List ℕ) (w : Whole) → (names.means q x ≡ Some w) ↔ IsMeaning d q x w
    pub of_constructors : (x : List ℕ) → (names.is_constructor x ≡ true) ↔
        ((e : Declared) × (j : Judgement) × Means mods d None x e × Writes mods e j × IsConstructor j x)

  -- the entry of a judgement under one of its names
  pub record IsEntry (x : List ℕ) (d : Declared) (text : Judgement) (e : FlatJudgement) : Type 0 where
    pub names : Names
    pub meanings : AreMeanings d names
    pub whole : e.whole ≡ whole_of x d
    pub judgement : e.judgement ≡ resolved_judgement names (alone x text)

  -- the module has an entry, at its turn there, of a judgement that is taken under one of its names
  pub record HasEntry (Takes : List ℕ → Judgement → Type 0) (entry_name : Judgement → List ℕ → List ℕ) (M : List ℕ) (at : Moment)
      (e : FlatJudgement) : Type 0 where
    pub name : List ℕ
    pub declared : Declared
    pub judgement : Judgement
    pub has : Has mods M name declared
    pub turn_is : turn mods has ≡ at
    pub writes : Writes mods declared judgement
    pub taken : Takes name judgement
    pub entry : IsEntry (entry_name judgement name) declared judgement e

  -- what a module has of a part
  abbrev pub HasOfPart : Part → List ℕ → Moment → FlatJudgement → Type 0
  HasOfPart p = HasEntry (λ x j. part_of x j ≡ Some p) main_name

  -- what the abstract module among the chosen ones has of a part
  abbrev pub HasAbstract : Part → List (List ℕ) → Moment → FlatJudgement → Type 0
  HasAbstract p chosen at e =
      (m : Module) × (abstract_in chosen ≡ Some m) × HasOfPart p (header_name m.header).name at e

  -- what some module that the chosen ones rest on has of a part
  abbrev pub HasSomewhere : Part → List (List ℕ) → Moment → FlatJudgement → Type 0
  HasSomewhere p chosen at e =
      (C : List ℕ) × (M : List ℕ) × (c : Contains chosen C) × (r : RestsOn C M) × (there : Moment)
      × (at ≡ c.0 ∷ loading_turn r ++ there) × HasOfPart p M there e

  -- the module has the category or the function that a linearization is of
  abbrev pub IsOf : List ℕ → List ℕ → Judgement → Type 0
  IsOf A x j = (k : Keyword) × (d : Declared) × (i : Judgement) × (sort_of j ≡ Some k)
      × Has mods A x d × Writes mods d i × (part_of x i ≡ Some (linearized_part k))

  -- what a concrete module says of the categories and functions of its abstract module; what it says of
  -- others is no part of the language
  abbrev pub HasLinearization : List ℕ → Moment → FlatJudgement → Type 0
  HasLinearization M = HasEntry (λ x j. (m : Module) × (A : PlacedName) × Is mods M m × Contains (header_mentions m.header) A
      × IsOf A.name x j) (λ j x. x) M

-- the first turn of the one comes before all turns of the other
abbrev pub Precedes : (Moment → FlatJudgement → Type 0) → FlatJudgement → FlatJudgement → Type 0
Precedes Has e f = (first : Moment) × Has first e × ((at : Moment) → Has at f → Before first at)

-- the entries are exactly those of the relation, each once, in the order of their first turns
pub record AreListed (es : List FlatJudgement) (Has : Moment → FlatJudgement → Type 0) : Type 0 where
  pub all : (e : FlatJudgement) → Contains es e ↔ ((at : Moment) × Has at e)
  pub in_order : AllPairs (Precedes Has) es

-- the resolved grammar of the chosen modules, where no judgement is typed yet
pub record IsFlat (mods : List Module) (chosen : List (List ℕ)) (flat : Flat) : Type 0 where
  pub name : flat.name ≡ option_map (λ (m : Module). (header_name m.header).name) (abstract_in mods chosen)
  pub start : flat.start ≡
      option_map (λ m. start_of (map (λ e. e.whole.name) flat.cats) (judgements_of m)) (abstract_in mods chosen)
  pub cats_of : AreListed flat.cats (HasAbstract mods categories chosen)
  pub funs_of : AreListed flat.funs (HasAbstract mods functions chosen)
  pub params_of : AreListed flat.params (HasSomewhere mods parameters chosen)
  pub opers_of : AreListed flat.opers (HasSomewhere mods opers chosen)
  pub languages : map (λ c. c.name) flat.concretes ≡ map (λ (m : Module). (header_name m.header).name) (languages_in mods chosen)
  pub judgements : (c : FlatConcrete) → Contains flat.concretes c → AreListed c.judgements (HasLinearization mods c.name)
  pub typed : flat.typed ≡ []
