-- Worked examples of abstract types: some that name each other, read as they are written, and two refusals.
use Rattle.std.proofs.Common.{◌≡◌, ◌∙◌, ap, refl, subst, ℕ, suc, Bool, true, false, List, [], ◌∷◌, ◌++◌, Some, inl, arith}
use Rattle.std.specs.Prelude.{codes, bytes_eq, slice_get}
use Rattle.gft_core.specs.declared.place.Place.{Place}
use Rattle.gft_core.specs.declared.tree.Tree.{Tree, roll-Tree}
use Rattle.gft_core.specs.declared.tree.Tree.TheOpen as Tree-F
use Rattle.gft_syntax.specs.declared.bind.Bind.TheVariants.{Variable}
use Rattle.gft_syntax.specs.declared.flat.FlatJudgement.{FlatJudgement}
use Rattle.gft_syntax.specs.declared.judgement.Context.{Context}
use Rattle.gft_rules.specs.declared.rule.Rule.TheVariants as R
use Rattle.gft_syntax.specs.declared.judgement.Judgement.{Judgement}
use Rattle.gft_syntax.specs.declared.judgement.Judgement.TheVariants as J
use Rattle.gft_syntax.specs.declared.reference.PlacedName.{PlacedName}
use Rattle.gft_syntax.specs.declared.reference.Reference.TheVariants.{Whole as WholeName}
use Rattle.gft_syntax.specs.declared.reference.Whole.{Whole}
use Rattle.gft_syntax.specs.declared.term.Term.{Term, roll-Term}
use Rattle.gft_syntax.specs.declared.term.Term.TheOpen as T
use Rattle.gft_syntax.specs.declared.term.Term.TheViews.{out-roll-Term}
use Rattle.gft_syntax.specs.Parts.{Part, parts}
use Rattle.gft_syntax.specs.Terms.{Layer, layer_place}
use Rattle.gft_model.specs.AbstractFaults
use Rattle.gft_model.specs.Refusals.{Moment, refusal}
use Rattle.gft_model.specs.ConcreteTyping.{Spine, applied_to, at_head}
use Rattle.gft_model.proofs.Computing.{form-roll}

-- cat C (x : C c) ; fun c : C c
abbrev here : ℕ → Place
here col = record { file = 0; line = 1; col = col }

abbrev whole : List ℕ → Whole
whole x = record { «module» = codes "A"; name = x }

abbrev named : List ℕ → PlacedName
named x = record { name = x; place = here 1 }

-- C c, where c is the function
abbrev c_term : Term
c_term = roll-Term (T.Var (WholeName (whole (codes "c"))) (here 24))

abbrev head_term : Term
head_term = roll-Term (T.Var (WholeName (whole (codes "C"))) (here 22))

abbrev type_term : Term
type_term = roll-Term (T.App head_term c_term (here 22))

abbrev context : Context
context = record { binds = Variable (codes "x") (here 18) ∷ []; of_type = type_term }

abbrev cats : List FlatJudgement
cats = record { whole = whole (codes "C"); judgement = J.Cat (named (codes "C")) (context ∷ []) } ∷ []

abbrev funs : List FlatJudgement
funs = record { whole = whole (codes "c"); judgement = J.Fun (named (codes "c") ∷ []) type_term } ∷ []

module _ (Γ : List Context) where
  a_name : (r : Whole) (p : Place) (es : List Term) → Spine (roll-Term (T.Var (WholeName r) p)) es (roll-Term (T.Var (WholeName r) p)) es
  a_name r p es = at_head (λ f a q e. let h = form-roll (T.Var (WholeName r) p) in cc)

  -- the tree c, and the type C c
  abbrev c_tree : Tree
  c_tree = roll-Tree (Tree-F.App (codes "c") [])

  abbrev c_type : AbstractFaults.Indexed
  c_type = record { category = codes "C"; indices = c_tree ∷ [] }

  is_index : AbstractFaults.IsIndex cats funs Γ c_term c_tree
  is_index = AbstractFaults.application (a_name _ _ []) (out-roll-Term _) (0, omega arith, refl) AbstractFaults.no_index

  reads_type : AbstractFaults.ReadsType cats funs Γ type_term c_type
  reads_type =
      AbstractFaults.indexed (applied_to (form-roll _) (a_name _ _ (c_term ∷ []))) (ap AbstractFaults.head_name (out-roll-Term _))
      (0, omega arith, refl) (AbstractFaults.one_index is_index AbstractFaults.no_index)

-- neither waits for the other: the category has its context, and the function its type
pub has_context : AbstractFaults.HasContext cats funs (whole (codes "C")) (c_type [] ∷ [])
has_context =
    AbstractFaults.its_context (0, omega arith, refl) (AbstractFaults.more_context (reads_type []) AbstractFaults.no_context)

pub has_signature : AbstractFaults.HasSignature cats funs (whole (codes "c")) [] (c_type [])
has_signature = AbstractFaults.its_type (0, omega arith, refl) (AbstractFaults.gives (reads_type []))

-- cat Kind ; Tag Kind
abbrev kind_at : ℕ → Term
kind_at col = roll-Term (T.Var (WholeName (whole (codes "Kind"))) (here col))

abbrev kinds : List FlatJudgement
kinds =
    record { whole = whole (codes "Kind"); judgement = J.Cat (named (codes "Kind")) [] }
    ∷ record { whole = whole (codes "Tag"); judgement = J.Cat (named (codes "Tag")) (record { binds = []; of_type = kind_at 5 } ∷ []) } ∷ []

-- a part of a form that stands somewhere
part_of : {j : Judgement} {path : Moment} {Γ : List Context} {r : AbstractFaults.Role} {h : Bool} (d : Layer) (k : ℕ) {a : Part Term} →
    AbstractFaults.StandsIn kinds [] j path Γ (roll-Term d) r h → slice_get (parts d) k ≡ Some a →
    AbstractFaults.StandsIn kinds [] j (path ++ suc k ∷ []) (AbstractFaults.context_of_part k d ++ Γ) a.part
    (AbstractFaults.role_of_part r k d) (AbstractFaults.is_head_part k d)
part_of {j} {path} {Γ} {r} d k {a} s g =
    subst (λ l. AbstractFaults.StandsIn kinds [] j (path ++ suc k ∷ []) (AbstractFaults.context_of_part k l ++ Γ) a.part
    (AbstractFaults.role_of_part r k l) (AbstractFaults.is_head_part k l)) (out-roll-Term d)
    (AbstractFaults.part k s (ap (λ l. slice_get (parts l) k) (out-roll-Term d) ∙ g))

-- fun t : Tag 7, where the index is of the type Int
abbrev tag_term : Term
tag_term = roll-Term (T.Var (WholeName (whole (codes "Tag"))) (here 31))

abbrev seven : Term
seven = roll-Term (T.Num 7 (here 35))

abbrev tag_of_seven : Judgement
tag_of_seven = J.Fun (named (codes "t") ∷ []) (roll-Term (T.App tag_term seven (here 31)))

kind_expected : AbstractFaults.Expects kinds [] [] tag_term (AbstractFaults.without_indices (codes "Kind"))
kind_expected =
    AbstractFaults.expects {w = whole (codes "Tag")} {A = AbstractFaults.without_indices (codes "Kind")} {ts = []} (a_name [] _ _ [])
    (ap AbstractFaults.head_name (out-roll-Term _))
    (inl (AbstractFaults.its_context (1, omega arith, refl) (AbstractFaults.more_context
    (AbstractFaults.indexed (a_name [] _ _ []) (ap AbstractFaults.head_name (out-roll-Term _)) (0, omega arith, refl)
    AbstractFaults.no_index) AbstractFaults.no_context))) AbstractFaults.no_index refl

module _ (LeftOut : Whole → Type 0) where
  -- 1:35, with Kind, Int
  pub index_of_another_type : AbstractFaults.BreaksAbstract kinds [] LeftOut tag_of_seven (1 ∷ 2 ∷ [])
      (refusal R.IndexType (here 35) (codes "Kind" ∷ codes "Int" ∷ []))
  index_of_another_type =
      subst (λ p. AbstractFaults.BreaksAbstract kinds [] LeftOut tag_of_seven (1 ∷ 2 ∷ [])
      (refusal R.IndexType p (codes "Kind" ∷ codes "Int" ∷ []))) (ap layer_place (out-roll-Term _))
      (AbstractFaults.at_term (part_of _ 1 (AbstractFaults.function_type refl) refl)
      (AbstractFaults.of_another_type kind_expected (AbstractFaults.by_number (out-roll-Term _))
      (λ e. let wrong : false ≡ true = ap (λ (A : AbstractFaults.Indexed). bytes_eq A.category (codes "Int")) e in cc)))

  -- fun h : (Kind -> Kind) -> Kind: an argument that is a function, at 1:32
  abbrev function_term : Term
  function_term = roll-Term (T.Arrow [] (kind_at 32) (kind_at 40) (here 32))

  pub argument_is_function : AbstractFaults.BreaksAbstract kinds [] LeftOut
      (J.Fun (named (codes "h") ∷ []) (roll-Term (T.Arrow [] function_term (kind_at 49) (here 31)))) (1 ∷ 1 ∷ [])
      (refusal R.HigherOrder (here 32) [])
  argument_is_function =
      subst (λ p. AbstractFaults.BreaksAbstract kinds [] LeftOut
      (J.Fun (named (codes "h") ∷ []) (roll-Term (T.Arrow [] function_term (kind_at 49) (here 31)))) (1 ∷ 1 ∷ [])
      (refusal R.HigherOrder p [])) (ap layer_place (out-roll-Term _))
      (AbstractFaults.at_term (part_of _ 0 (AbstractFaults.function_type refl) refl) (AbstractFaults.takes_function (out-roll-Term _)))
