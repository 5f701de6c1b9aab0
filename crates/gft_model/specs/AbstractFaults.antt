-- Faults of types and indices in an abstract judgement.
use Rattle.std.specs.Prelude.{◌≡◌, ℕ, zero, suc, List, [], ◌∷◌, ◌++◌, map, flat_map, reverse, length, Bool, true, false, not, ◌⊎◌, codes, Contains, Option, Some, None, ◌≢◌, ◌==◌, slice_get}
use Rattle.gft_core.specs.Words.{IsWord}
use Rattle.gft_core.specs.declared.tree.Tree.{Tree, roll-Tree, fold-Tree}
use Rattle.gft_core.specs.declared.tree.Tree.TheOpen as Tree-F
use Rattle.gft_rules.specs.declared.refusal.Refusal.{Refusal}
use Rattle.gft_rules.specs.declared.rule.Rule.{Rule}
use Rattle.gft_rules.specs.declared.rule.Rule.TheVariants as R
use Rattle.gft_syntax.specs.declared.bind.Bind.{Bind}
use Rattle.gft_syntax.specs.declared.bind.Bind.TheVariants.{Variable, Nothing}
use Rattle.gft_syntax.specs.declared.flat.FlatJudgement.{FlatJudgement}
use Rattle.gft_syntax.specs.declared.judgement.Context.{Context}
use Rattle.gft_syntax.specs.declared.judgement.Judgement.{Judgement}
use Rattle.gft_syntax.specs.declared.judgement.Judgement.TheVariants as J
use Rattle.gft_syntax.specs.declared.reference.PlacedName.{PlacedName}
use Rattle.gft_syntax.specs.declared.reference.Reference.{Reference}
use Rattle.gft_syntax.specs.declared.reference.Reference.TheVariants.{Written, Whole as WholeName}
use Rattle.gft_syntax.specs.declared.reference.Whole.{Whole}
use Rattle.gft_syntax.specs.declared.term.Term.{Term, out-Term}
use Rattle.gft_syntax.specs.declared.term.Term.TheOpen as T
use Rattle.gft_syntax.specs.Parts.{list_name, parts}
use Rattle.gft_syntax.specs.Terms.{Layer, place_of}
use Rattle.gft_tree.specs.Trees.{as_arguments}
use Rattle.gft_model.specs.AbstractInfo.{index_step}
use Rattle.gft_model.specs.ConcreteTypes.{field_of}
use Rattle.gft_model.specs.ConcreteTyping.{Spine, for_each}
use Rattle.gft_model.specs.HeaderFaults.{IsBuiltIn}
use Rattle.gft_model.specs.JudgementTyping.{name_of, signature_given}
use Rattle.gft_model.specs.Refusals.{Moment, refusal, name_at, at_name}
use Rattle.gft_model.specs.Trees.{Printed, filled}
use Rattle.gft_model.specs.Typing.{value_of}

-- a category with its indices, in which ?k stands for the variable of argument k
pub record Indexed : Type 0 where
  pub category : List ℕ
  pub indices : List Tree

-- a category without indices
abbrev pub without_indices : List ℕ → Indexed
without_indices C = record { category = C; indices = [] }

-- the type with each variable replaced by its argument
abbrev pub indexed_at : List Tree → Indexed → Indexed
indexed_at ts A = record { category = A.category; indices = map (filled (value_of ts)) A.indices }

-- the text of a type
abbrev pub indexed_text : Indexed → List ℕ
indexed_text A = A.category ++ as_arguments (map (fold-Tree Printed index_step) A.indices)

-- how many arguments contexts have: one for each variable, and one where none is named
abbrev pub count_of : List Context → ℕ
count_of cs = length (flat_map (λ c. for_each c.binds c) cs)

-- the variables that are bound, with their numbers from that one on, the last first
abbrev pub numbered : ℕ → List Bind → List (List ℕ × ℕ)
numbered k [] = []
numbered k (Variable x place ∷ xs) = numbered (suc k) xs ++ (x, k) ∷ []
numbered k (Nothing place ∷ xs) = numbered (suc k) xs

-- the variables of contexts, the last first: the number of each, its type, and the contexts that its type sees
abbrev pub variables_of : List Context → List (List ℕ × (ℕ × (Term × List Context)))
variables_of [] = []
variables_of (c ∷ cs) = map (λ v. (v.0, (v.1, (c.of_type, cs)))) (numbered (suc (count_of cs)) c.binds) ++ variables_of cs

-- where a term stands: as a type, that of an argument or not; as an index in the application of a term; or in a form
-- that abstract syntax does not have
pub data Role : Type 0 where
  a_type : Bool → Role
  an_index : Term → Role
  neither : Role

-- where a part stands, by its number: those of an arrow as types, the head of an application as the whole does, and the
-- argument as an index
abbrev pub role_of_part : Role → ℕ → Layer → Role
role_of_part neither k d = neither
role_of_part (a_type x) k (T.Arrow xs a b place) = a_type (k == 0)
role_of_part r zero (T.App f a place) = r
role_of_part r (suc k) (T.App f a place) = an_index f
role_of_part r k d = neither

-- the part is the head of an application
abbrev pub is_head_part : ℕ → Layer → Bool
is_head_part zero (T.App f a place) = true
is_head_part k d = false

-- what an arrow binds in its result
abbrev pub context_of_part : ℕ → Layer → List Context
context_of_part (suc k) (T.Arrow xs a b place) = record { binds = xs; of_type = a } ∷ []
context_of_part k d = []

-- the form may stand there, as a head or not: names and applications anywhere, [C] but as an index, arrows and literals as
-- no head, arrows as no index and literals as no type
abbrev pub may_stand : Role → Bool → Layer → Bool
may_stand r is_head (T.Var n place) = true
may_stand r is_head (T.App f a place) = true
may_stand (an_index f) is_head (T.ListCat n place) = false
may_stand r is_head (T.ListCat n place) = true
may_stand (an_index f) is_head (T.Arrow xs a b place) = false
may_stand r is_head (T.Arrow xs a b place) = not is_head
may_stand (a_type x) is_head d = false
may_stand r is_head (T.Lit t place) = not is_head
may_stand r is_head (T.Num n place) = not is_head
may_stand r is_head d = false

-- a name, and [C], which is one
abbrev pub head_name : Layer → Option Reference
head_name (T.Var r place) = Some r
head_name (T.ListCat r place) = Some r
head_name d = None

-- the judgement of a whole name among entries, and that there is one
abbrev pub Declares : List FlatJudgement → Whole → Judgement → Type 0
Declares es w j = Contains es (record { whole = w; judgement = j })

abbrev pub IsAmong : List FlatJudgement → Whole → Type 0
IsAmong es w = Contains (map (λ e. e.whole) es) w

-- a category that is built in, where no variable has the name
abbrev pub NamesBuiltIn : List Context → Reference → Type 0
NamesBuiltIn Γ r = (x : List ℕ) × (r ≡ Written x) × IsBuiltIn x × (field_of x (variables_of Γ) ≡ None)

-- the categories and the functions of a module; what stands in contexts sees these, the last first
module _ (cats funs : List FlatJudgement) where
  -- a category, or one that is built in
  abbrev pub IsCategory : List Context → Reference → Type 0
  IsCategory Γ r = ((w : Whole) × (r ≡ WholeName w) × IsAmong cats w) ⊎ NamesBuiltIn Γ r

  -- how many indices a category takes, and how many arguments a function; a variable and a built-in category take none
  pub data Takes : Reference → ℕ → Type 0 where
    of_category : {w n cs : _} → Declares cats w (J.Cat n cs) → Takes (WholeName w) (count_of cs)
    of_list : {w n r k p : _} → Declares cats w (J.ListCat n r k p) → Takes (WholeName w) 0
    of_function : {w : Whole} {j : _} → Declares funs w j → Takes (WholeName w) (length (signature_given w.name j).arguments)
    as_written : {x : _} → Takes (Written x) 0

  mutual
    -- a term is the tree, as an index
    pub data IsIndex (Γ : List Context) : Term → Tree → Type 0 where
      variable : {e x p k t : _} → out-Term e ≡ T.Var (Written x) p → field_of x (variables_of Γ) ≡ Some (k, t) →
          IsIndex Γ e (roll-Tree (Tree-F.Hole k))
      number : {e n p : _} → out-Term e ≡ T.Num n p → IsIndex Γ e (roll-Tree (Tree-F.Int n))
      text : {e s p : _} → out-Term e ≡ T.Lit s p → IsWord s → IsIndex Γ e (roll-Tree (Tree-F.Str s))
      application : {e h es : _} {w : Whole} {p ts : _} → Spine e [] h es → out-Term h ≡ T.Var (WholeName w) p →
          IsAmong funs w → AreIndices Γ es ts → IsIndex Γ e (roll-Tree (Tree-F.App w.name ts))

    -- so are terms the trees
    pub data AreIndices (Γ : List Context) : List Term → List Tree → Type 0 where
      no_index : AreIndices Γ [] []
      one_index : {e es t ts : _} → IsIndex Γ e t → AreIndices Γ es ts → AreIndices Γ (e ∷ es) (t ∷ ts)

  -- a term is the type, as it is written
  pub data ReadsType (Γ : List Context) (e : Term) : Indexed → Type 0 where
    indexed : {h es : _} {w : Whole} {ts : _} → Spine e [] h es → head_name (out-Term h) ≡ Some (WholeName w) →
        IsAmong cats w → AreIndices Γ es ts → ReadsType Γ e (record { category = w.name; indices = ts })
    built_in : {x p : _} → out-Term e ≡ T.Var (Written x) p → NamesBuiltIn Γ (Written x) → ReadsType Γ e (without_indices x)

  -- the types of contexts after others
  pub data ReadsContext : List Context → List Context → List Indexed → Type 0 where
    no_context : {Γ : _} → ReadsContext Γ [] []
    more_context : {Γ : _} {c : Context} {cs A As : _} → ReadsType Γ c.of_type A → ReadsContext (c ∷ Γ) cs As →
        ReadsContext Γ (c ∷ cs) (for_each c.binds A ++ As)

  -- the types of the indices of a category
  pub data HasContext (w : Whole) : List Indexed → Type 0 where
    its_context : {n cs As : _} → Declares cats w (J.Cat n cs) → ReadsContext [] cs As → HasContext w As
    of_a_list : {n r k p : _} → Declares cats w (J.ListCat n r k p) → HasContext w []

  -- a term is the type of a function
  pub data ReadsFunction : List Context → Term → List Indexed → Indexed → Type 0 where
    takes : {Γ e a b xs p A B As : _} → out-Term e ≡ T.Arrow xs a b p → ReadsType Γ a A →
        ReadsFunction (record { binds = xs; of_type = a } ∷ Γ) b As B → ReadsFunction Γ e (for_each xs A ++ As) B
    gives : {Γ e B : _} → ReadsType Γ e B → ReadsFunction Γ e [] B

  -- the types of a function's arguments and of its result
  pub data HasSignature (w : Whole) : List Indexed → Indexed → Type 0 where
    its_type : {ns t As B : _} → Declares funs w (J.Fun ns t) → ReadsFunction [] t As B → HasSignature w As B
    of_list_function : {n r k p : _} → Declares funs w (J.ListCat n r k p) →
        HasSignature w (map without_indices (signature_given w.name (J.ListCat n r k p)).arguments)
        (without_indices (list_name (name_of r)))

  -- the type of an index, by the signatures of variables and functions as they are written
  pub data IndexHas (Γ : List Context) (e : Term) : Indexed → Type 0 where
    by_variable : {x p k t Δ A : _} → out-Term e ≡ T.Var (Written x) p → field_of x (variables_of Γ) ≡ Some (k, (t, Δ)) →
        ReadsType Δ t A → IndexHas Γ e A
    by_number : {n p : _} → out-Term e ≡ T.Num n p → IndexHas Γ e (without_indices (codes "Int"))
    by_text : {s p : _} → out-Term e ≡ T.Lit s p → IndexHas Γ e (without_indices (codes "String"))
    by_application : {h es w p As B ts : _} → Spine e [] h es → out-Term h ≡ T.Var (WholeName w) p → HasSignature w As B →
        AreIndices Γ es ts → IndexHas Γ e (indexed_at ts B)

  -- the types that a category or a function takes
  abbrev pub TakesTypes : Whole → List Indexed → Type 0
  TakesTypes w As = HasContext w As ⊎ ((B : Indexed) × HasSignature w As B)

  -- the type that the next index in an application of f must have
  pub data Expects (Γ : List Context) (f : Term) : Indexed → Type 0 where
    expects : {h es w As A ts : _} → Spine f [] h es → head_name (out-Term h) ≡ Some (WholeName w) → TakesTypes w As →
        AreIndices Γ es ts → slice_get As (length es) ≡ Some A → Expects Γ f (indexed_at ts A)

  -- a term of the judgement, where it stands, and whether it is a head
  pub data StandsIn (j : Judgement) : Moment → List Context → Term → Role → Bool → Type 0 where
    function_type : {ns t : _} → j ≡ J.Fun ns t → StandsIn j (1 ∷ []) [] t (a_type false) false
    in_context : {n : _} (before : List Context) (c : Context) (after : List Context) → j ≡ J.Cat n (before ++ c ∷ after) →
        StandsIn j (suc (length before) ∷ []) (reverse before) c.of_type (a_type true) false
    part : {path Γ e r h : _} (k : ℕ) {a : _} → StandsIn j path Γ e r h → slice_get (parts (out-Term e)) k ≡ Some a →
        StandsIn j (path ++ suc k ∷ []) (context_of_part k (out-Term e) ++ Γ) a.part (role_of_part r k (out-Term e))
        (is_head_part k (out-Term e))

  -- the functions that the module leaves out of what it inherits
  module _ (LeftOut : Whole → Type 0) where
    -- what is broken at a term that stands there, as a head or not, once its parts were looked at
    pub data BreaksIndexed (Γ : List Context) (e : Term) : Role → Bool → Rule → List (List ℕ) → Type 0 where
      takes_function : {xs a b p : _} → out-Term e ≡ T.Arrow xs a b p → BreaksIndexed Γ e (a_type true) false R.HigherOrder []
      alien_form : {r h : _} → may_stand r h (out-Term e) ≡ false → BreaksIndexed Γ e r h R.NotAbstract []
      no_word : {f h s p : _} → out-Term e ≡ T.Lit s p → ¬ (IsWord s) → BreaksIndexed Γ e (an_index f) h R.NotAbstract []
      no_function : {f h n p : _} → out-Term e ≡ T.Var n p →
          ((w : Whole) × (n ≡ WholeName w) × ¬ (IsAmong funs w) × ¬ (LeftOut w)) ⊎ NamesBuiltIn Γ n →
          BreaksIndexed Γ e (an_index f) h R.NotAbstract []
      left_out : {f h : _} {w : Whole} {p : _} → out-Term e ≡ T.Var (WholeName w) p → LeftOut w →
          BreaksIndexed Γ e (an_index f) h R.Unknown (w.name ∷ [])
      no_category : {x h n : _} → head_name (out-Term e) ≡ Some n → ¬ (IsCategory Γ n) →
          BreaksIndexed Γ e (a_type x) h R.UnknownCat (name_of n ∷ [])
      wrong_number : {r g n es k : _} → r ≢ neither → Spine e [] g es → head_name (out-Term g) ≡ Some n → Takes n k →
          length es ≢ k → BreaksIndexed Γ e r false R.Arity (name_of n ∷ [])
      of_another_type : {f A B : _} → Expects Γ f A → IndexHas Γ e B → A ≢ B →
          BreaksIndexed Γ e (an_index f) false R.IndexType (indexed_text A ∷ indexed_text B ∷ [])

    -- what is broken in the types of an abstract judgement
    pub data BreaksAbstract (j : Judgement) : Moment → Refusal → Type 0 where
      at_term : {at Γ e r h rule names : _} → StandsIn j at Γ e r h → BreaksIndexed Γ e r h rule names →
          BreaksAbstract j at (refusal rule (place_of e) names)
      list_of_no_category : {n r k p : _} → j ≡ J.ListCat n r k p → ¬ (IsCategory [] r) →
          BreaksAbstract j (0 ∷ []) (at_name R.UnknownCat n [])
      list_of_indexed : {n r k m p : _} → j ≡ J.ListCat n r k p → Takes r (suc m) →
          BreaksAbstract j (0 ∷ []) (at_name R.Arity n [])
      list_left_out : {n : PlacedName} {r k p : _} → j ≡ J.ListCat n r k p → ((w : Whole) → ¬ (Declares cats w j)) →
          BreaksAbstract j (1 ∷ []) (at_name R.UnknownCat (name_at (list_name n.name) p) [])
