-- Entries of categories and functions are at most one abstract syntax.
use Rattle.std.proofs.Common.{◌≡◌, refl, sym, ap, ◌∙◌, subst, ℕ, zero, suc, true, false, List, [], ◌∷◌, ◌++◌, map, Option, Some, None, arith}
use Rattle.std.specs.Prelude.{Contains, AllPairs, bytes_eq, codes, position, option_and_then}
use Rattle.std.specs.List.{AllZip}
use Rattle.gft_core.specs.declared.place.Place.{Place}
use Rattle.gft_core.specs.declared.tree.Tree.{Tree, roll-Tree}
use Rattle.gft_core.specs.declared.tree.Tree.TheOpen as Tree-F
use Rattle.gft_pmcfg.specs.declared.signature.AType.{AType}
use Rattle.gft_pmcfg.specs.declared.signature.Abstract.{Abstract}
use Rattle.gft_pmcfg.specs.declared.signature.Cat.{Cat}
use Rattle.gft_pmcfg.specs.declared.signature.Fun.{Fun}
use Rattle.gft_syntax.specs.declared.flat.Flat.{Flat}
use Rattle.gft_syntax.specs.declared.flat.FlatJudgement.{FlatJudgement}
use Rattle.gft_syntax.specs.declared.bind.Bind.{Bind}
use Rattle.gft_syntax.specs.declared.judgement.Context.{Context}
use Rattle.gft_syntax.specs.declared.judgement.Judgement.{Judgement}
use Rattle.gft_syntax.specs.declared.judgement.Judgement.TheVariants as J
use Rattle.gft_syntax.specs.declared.reference.Whole.{Whole}
use Rattle.gft_syntax.specs.declared.term.Term.{Term, out-Term}
use Rattle.gft_syntax.specs.declared.term.Term.TheOpen as T
use Rattle.gft_syntax.specs.Terms.{Layer}
use Rattle.gft_syntax.specs.Parts.{list_name}
use Rattle.gft_model.specs.AbstractFaults.{Indexed, without_indices, variables_of, is_head_part, Declares, head_name, IsIndex, variable, number, text, application, AreIndices, no_index, one_index, ReadsType, indexed, built_in, ReadsContext, no_context, more_context, HasContext, its_context, of_a_list, ReadsFunction, takes, gives, HasSignature, its_type, of_list_function}
use Rattle.gft_model.specs.AbstractParts.{IsNumbered, IsSorted, IsCategory, IsFunction, IsAbstractPart}
use Rattle.gft_model.specs.ConcreteTypes.{field_of}
use Rattle.gft_model.specs.ConcreteTyping.{Spine, applied_to, at_head}
use Rattle.gft_model.specs.JudgementTyping.{name_of, signature_given}
use Rattle.gft_model.specs.Refusals.{Before, name_moment}
use Rattle.gft_model.specs.States.{category_number}
use Rattle.gft_model.specs.TypeForms.{form, plain_form}
use Rattle.gft_model.specs.WrittenTypes.{for_each}
use Rattle.gft_rules.proofs.Places.{position-map}
use Rattle.gft_model.proofs.FoundTypes.{spine-once}
use Rattle.gft_model.proofs.RefusalOrder.{never_both, never_itself}
use Rattle.gft_model.proofs.ReplyLaws.{order_once, same_members, head_first}

-- AS THEY ARE WRITTEN

form_is : (e : Term) {l : Layer} → out-Term e ≡ l → form e ≡ plain_form l
unfolding form
form_is e h = ap plain_form h

-- a term that is no application is its own head
own_head : {e h : Term} {es : List Term} {l : Layer} → Spine e [] h es → out-Term e ≡ l
    → is_head_part 0 (plain_form l) ≡ false → e ≡ h
own_head (applied_to k s) x y = let wrong : true ≡ false = sym (ap (is_head_part 0) k) ∙ ap (is_head_part 0) (form_is _ x) ∙ y in cc
own_head (at_head k) x y = refl

module _ {cats funs : List FlatJudgement} where
  mutual
    index_once : {Γ : List Context} {e : Term} {t u : Tree} → IsIndex cats funs Γ e t → IsIndex cats funs Γ e u → t ≡ u
    index_once {Γ} (variable {x = x} {k = i} {t = A} h f) (variable {x = y} {k = j} {t = B} k g) =
        let names : x ≡ y = cc in
        let there : Some (i, A) ≡ Some (j, B) = sym f ∙ ap (λ n. field_of n (variables_of Γ)) names ∙ g in
        let same : (i, A) ≡ (j, B) = cc in
        ap (λ (p : ℕ × (Term × List Context)). roll-Tree (Tree-F.Hole p.0)) same
    index_once (variable h f) (number k) = cc
    index_once (variable h f) (text k w) = cc
    index_once (variable h f) (application s k g a) = let own = own_head s h refl in cc
    index_once (number h) (variable k g) = cc
    index_once (number {n = n} h) (number {n = m} k) = let same : n ≡ m = cc in ap (λ i. roll-Tree (Tree-F.Int i)) same
    index_once (number h) (text k w) = cc
    index_once (number h) (application s k g a) = let own = own_head s h refl in cc
    index_once (text h w) (variable k g) = cc
    index_once (text h w) (number k) = cc
    index_once (text {s = s} h w) (text {s = r} k v) = let same : s ≡ r = cc in ap (λ i. roll-Tree (Tree-F.Str i)) same
    index_once (text h w) (application s k g a) = let own = own_head s h refl in cc
    index_once (application s h f a) (variable k g) = let own = own_head s k refl in cc
    index_once (application s h f a) (number k) = let own = own_head s k refl in cc
    index_once (application s h f a) (text k w) = let own = own_head s k refl in cc
    index_once {Γ} {e} (application {w = w} {ts = ts} s h f a) (application {w = v} {ts = us} r k g b) =
        let spines = spine-once s r refl refl in
        let same : w ≡ v = cc in
        let trees = are_once a (subst (λ es. AreIndices cats funs Γ es us) (sym spines.1) b) in
        ap (λ (x : Whole). roll-Tree (Tree-F.App x.name ts)) same ∙ ap (λ xs. roll-Tree (Tree-F.App v.name xs)) trees

    are_once : {Γ : List Context} {es : List Term} {ts us : List Tree} → AreIndices cats funs Γ es ts
        → AreIndices cats funs Γ es us → ts ≡ us
    are_once no_index no_index = refl
    are_once (one_index i is) (one_index j js) = let first = index_once i j in let rest = are_once is js in cc

  type_once : {Γ : List Context} {e : Term} {A B : Indexed} → ReadsType cats funs Γ e A → ReadsType cats funs Γ e B → A ≡ B
  type_once {Γ} (indexed {w = w} {ts = ts} s h c a) (indexed {w = v} {ts = us} r k d b) =
      let spines = spine-once s r refl refl in
      let heads = ap (λ g. head_name (out-Term g)) spines.0 in
      let same : w ≡ v = cc in
      let trees = are_once a (subst (λ es. AreIndices cats funs Γ es us) (sym spines.1) b) in
      λ i. record { category = (same i).name; indices = trees i }
  type_once (indexed s h c a) (built_in k b) =
      let own = ap (λ g. head_name (out-Term g)) (own_head s k refl) in let name = ap head_name k in cc
  type_once (built_in h a) (indexed s k c b) =
      let own = ap (λ g. head_name (out-Term g)) (own_head s h refl) in let name = ap head_name h in cc
  type_once (built_in {x = x} h a) (built_in {x = y} k b) = let same : x ≡ y = cc in ap without_indices same

  no_arrow : {Γ : List Context} {e a b : Term} {xs : List Bind} {p : Place} {A : Indexed} → ReadsType cats funs Γ e A
      → out-Term e ≡ T.Arrow xs a b p → ⊥
  no_arrow (indexed s h c a) k = let own = ap (λ g. head_name (out-Term g)) (own_head s k refl) in let name = ap head_name k in cc
  no_arrow (built_in h a) k = cc

  context_once : {Γ : List Context} {cs : List Context} {As Bs : List Indexed} → ReadsContext cats funs Γ cs As
      → ReadsContext cats funs Γ cs Bs → As ≡ Bs
  context_once no_context no_context = refl
  context_once (more_context {c = c} t r) (more_context u s) =
      let same = type_once t u in let rest = context_once r s in λ i. for_each c.binds (same i) ++ rest i

  function_once : {Γ : List Context} {e d : Term} {As Bs : List Indexed} {R S : Indexed} → e ≡ d
      → ReadsFunction cats funs Γ e As R → ReadsFunction cats funs Γ d Bs S
      → (As ≡ Bs) × (R ≡ S)
  function_once {Γ} e (takes {a = a} {b = b} {xs = xs} {A = A} {As = As} h t r)
      (takes {a = c} {b = d} {xs = ys} {A = B} {B = S} {As = Bs} k u s) =
      let forms = sym h ∙ ap out-Term e ∙ k in
      let first : a ≡ c = cc in
      let binds : xs ≡ ys = cc in
      let second : b ≡ d = cc in
      let same = type_once t (subst (λ f. ReadsType cats funs Γ f B) (sym first) u) in
      let scope : record { binds = ys; of_type = c } ∷ Γ ≡ record { binds = xs; of_type = a } ∷ Γ =
      λ i. record { binds = sym binds i; of_type = sym first i } ∷ Γ in
      let rest = function_once second r (subst (λ Δ. ReadsFunction cats funs Δ d Bs S) scope s) in
      (λ i. for_each (binds i) (same i) ++ rest.0 i, rest.1)
  function_once e (takes h t r) (gives u) = absurd (no_arrow u (ap out-Term (sym e) ∙ h))
  function_once e (gives t) (takes k u s) = absurd (no_arrow t (ap out-Term e ∙ k))
  function_once {Γ} e (gives {B =
      A} t) (gives {B = B} u) = (refl, type_once t (subst (λ f. ReadsType cats funs Γ f B) (sym e) u))

-- BY NAME

abbrev entry_name : FlatJudgement → List ℕ
entry_name e = e.whole.name

abbrev ByName : FlatJudgement → FlatJudgement → Type 0
ByName e f = Before (name_moment (entry_name e)) (name_moment (entry_name f))

never : (e f : FlatJudgement) → entry_name e ≡ entry_name f → ByName e f → ⊥
never e f h b = never_itself b (ap name_moment h)

-- a sorted list has one entry of a name
same_entry : (es : List FlatJudgement) {e f : FlatJudgement} → AllPairs ByName es → Contains es e → Contains es f
    → entry_name e ≡ entry_name f → e ≡ f
same_entry [] o c d h = absurd (omega (arith, c.1))
same_entry (x ∷ es) o (zero, b, i) (zero, c, j) h = sym i ∙ j
same_entry (x ∷ es) {f = f} o (zero, b, i) (suc k, c, j) h =
    absurd (never x f (ap entry_name i ∙ h) (head_first ByName x f es o (k, omega (arith, c), j)))
same_entry (x ∷ es) {e = e} o (suc k, b, i) (zero, c, j) h =
    absurd (never x e (ap entry_name j ∙ sym h) (head_first ByName x e es o (k, omega (arith, b), i)))
same_entry (x ∷ es) o (suc k, b, i) (suc n, c, j) h =
    same_entry es (λ m n d l u. o (suc m) (suc n) d (omega (arith, l)) (omega (arith, u))) (k, omega (arith, b), i) (
      n,
      omega
          (arith, c),
      j,
    ) h

sorted_once : {es xs ys : List FlatJudgement} → IsSorted es xs → IsSorted es ys → xs ≡ ys
sorted_once {xs = xs} {ys = ys} x y = order_once ByName (λ e f p q. never_both p q refl refl) xs ys x.in_order y.in_order
    (same_members xs ys x.same y.same)

declared_once : {es sorted : List FlatJudgement} {w : Whole} {i j : Judgement} → IsSorted es sorted → Declares es w i
    → Declares es w j → i ≡ j
declared_once {sorted = sorted} s c d =
    ap (λ (g : FlatJudgement). g.judgement) (same_entry sorted s.in_order ((s.same _).1 c) ((s.same _).1 d) refl)

-- two zips of one list
zips_once : {A B : Type 0} {R S : A → B → Type 0} → ((x : A) (y z : B) → R x y → S x z → y ≡ z) → (xs : List A) (ys zs : List B)
    → AllZip R xs ys → AllZip S xs zs → ys ≡ zs
zips_once once [] [] [] d e = refl
zips_once once [] [] (z ∷ zs) d e = absurd e
zips_once once [] (y ∷ ys) zs d e = absurd d
zips_once once (x ∷ xs) [] zs d e = absurd d
zips_once once (x ∷ xs) (y ∷ ys) [] d e = absurd e
zips_once once (x ∷ xs) (y ∷ ys) (z ∷ zs) d e =
    let first = once x y z d.0 e.0 in let rest = zips_once once xs ys zs d.1 e.1 in cc

-- NUMBERS

abbrev cat_names : List Cat → List (List ℕ)
cat_names cs = map (λ (c : Cat). c.name) cs

-- categories of the same names have the same numbers
number_once : (a b : Abstract) (x : List ℕ) → cat_names a.cats ≡ cat_names b.cats → category_number a x ≡ category_number b x
number_once a b x h =
    position-map (λ (c : Cat). c.name) (λ y. bytes_eq y x) a.cats ∙ ap (λ ns. position (λ y. bytes_eq y x) ns) h
    ∙ sym (position-map (λ (c : Cat). c.name) (λ y. bytes_eq y x) b.cats)

numbered_once : (a b : Abstract) → cat_names a.cats ≡ cat_names b.cats → (A : Indexed) (t u : AType) → IsNumbered a A t
    → IsNumbered b A u → t ≡ u
numbered_once a b h A t u x y =
    let there : Some t.cat ≡ Some u.cat = sym x.category ∙ number_once a b A.category h ∙ y.category in
    let cat : t.cat ≡ u.cat = cc in
    let args : t.args ≡ u.args = x.indices ∙ sym y.indices in
    λ i. record { cat = cat i; args = args i }

-- ALL OF IT

-- the names of the categories are those of their entries
listed_names : (flat : Flat) (a : Abstract) (es : List FlatJudgement) (cs : List Cat) →
    AllZip (IsCategory flat a) es cs → map entry_name es ≡ cat_names cs
listed_names flat a [] [] z = refl
listed_names flat a [] (c ∷ cs) z = absurd z
listed_names flat a (e ∷ es) [] z = absurd z
listed_names flat a (e ∷ es) (c ∷ cs) z = let name = z.0.name in let rest = listed_names flat a es cs z.1 in cc

abbrev built_in_and : List Cat → List Cat
built_in_and cs = record { name = codes "Int"; context = [] } ∷ record { name = codes "String"; context = [] } ∷ cs

module _ {cats funs : List FlatJudgement} where
  has_context_once : {sorted : List FlatJudgement} {w : Whole} {As Bs : List Indexed} → IsSorted cats sorted
      → HasContext cats funs w As → HasContext cats funs w Bs → As ≡ Bs
  has_context_once {Bs = Bs} s (its_context {n = n} {cs = cs} d r) (its_context {n = m} {cs = ds} e q) =
      let same : J.Cat n cs ≡ J.Cat m ds = declared_once s d e in
      let contexts : ds ≡ cs = cc in
      context_once r (subst (λ xs. ReadsContext cats funs [] xs Bs) contexts q)
  has_context_once s (its_context d r) (of_a_list e) = let wrong = declared_once s d e in cc
  has_context_once s (of_a_list d) (its_context e q) = let wrong = declared_once s d e in cc
  has_context_once s (of_a_list d) (of_a_list e) = refl

  has_signature_once : {sorted : List FlatJudgement} {w : Whole} {As Bs : List Indexed} {R S : Indexed} → IsSorted funs sorted
      → HasSignature cats funs w As R → HasSignature cats funs w Bs S → (As ≡ Bs) × (R ≡ S)
  has_signature_once s (its_type {ns = ns} {t = t} d r) (its_type {ns = ms} {t = u} e q) =
      let same : J.Fun ns t ≡ J.Fun ms u = declared_once s d e in
      let types : t ≡ u = cc in function_once types r q
  has_signature_once s (its_type d r) (of_list_function e) = let wrong = declared_once s d e in cc
  has_signature_once s (of_list_function d) (its_type e q) = let wrong = declared_once s d e in cc
  has_signature_once {w = w} s (of_list_function {n = n} {r = r} {k = k} {p = p} d) (of_list_function {n = m} {r = q} {k = l}
      {p = o} e) =
      let same : J.ListCat n r k p ≡ J.ListCat m q l o = declared_once s d e in
      let names : r ≡ q = cc in (
        ap (λ j. map without_indices (signature_given w.name j).arguments) same,
        ap (λ x. without_indices (list_name (name_of x))) names,
      )

start_once : (a b : Abstract) (start : Option (List ℕ)) → cat_names a.cats ≡ cat_names b.cats
    → option_and_then (category_number a) start ≡ option_and_then (category_number b) start
start_once a b None h = refl
start_once a b (Some C) h = number_once a b C h

module _ {flat : Flat} where
  category_once : {sorted : List FlatJudgement} → IsSorted flat.cats sorted → (a b : Abstract) → cat_names a.cats ≡ cat_names b.cats →
      (e : FlatJudgement) (c d : Cat) → IsCategory flat a e c → IsCategory flat b e d → c ≡ d
  category_once s a b h e c d x y =
      let contexts = has_context_once s x.has_context y.has_context in
      let name : c.name ≡ d.name = sym x.name ∙ y.name in
      let context = zips_once (numbered_once a b h) x.context c.context d.context x.numbered
      (subst (λ As. AllZip (IsNumbered b) As d.context) (sym contexts) y.numbered) in
      λ i. record { name = name i; context = context i }

  a_function_once : {sorted : List FlatJudgement} → IsSorted flat.funs sorted → (a b : Abstract)
      → cat_names a.cats ≡ cat_names b.cats →
      (e : FlatJudgement) (f g : Fun) → IsFunction flat a e f → IsFunction flat b e g → f ≡ g
  a_function_once s a b h e f g x y =
      let signatures = has_signature_once s x.has_signature y.has_signature in
      let name : f.name ≡ g.name = sym x.name ∙ y.name in
      let args = zips_once (numbered_once a b h) x.arguments f.args g.args x.numbered
      (subst (λ As. AllZip (IsNumbered b) As g.args) (sym signatures.0) y.numbered) in
      let result = numbered_once a b h x.result f.result g.result x.result_numbered
      (subst (λ R. IsNumbered b R g.result) (sym signatures.1) y.result_numbered) in
      λ i. record { name = name i; args = args i; result = result i }

  pub abstract_once : (a b : Abstract) → IsAbstractPart flat a → IsAbstractPart flat b → a ≡ b
  abstract_once a b x y =
      let cats_same = sorted_once x.cats_by_name y.cats_by_name in
      let funs_same = sorted_once x.funs_by_name y.funs_by_name in
      let categories = subst (λ es. AllZip (IsCategory flat b) es y.listed) (sym cats_same) y.categories in
      let functions = subst (λ es. AllZip (IsFunction flat b) es b.funs) (sym funs_same) y.functions in
      let listed : cat_names x.listed ≡ cat_names y.listed =
      sym (listed_names flat a x.sorted_cats x.listed x.categories)
      ∙ listed_names flat b x.sorted_cats y.listed categories in
      let names : cat_names a.cats ≡ cat_names b.cats =
      ap cat_names x.built_in ∙ ap (λ ns. codes "Int" ∷ codes "String" ∷ ns) listed ∙ ap cat_names (sym y.built_in) in
      let same_listed = zips_once (category_once x.cats_by_name a b names) x.sorted_cats x.listed y.listed x.categories
      categories in
      let named : Some a.name ≡ Some b.name = sym x.is_named ∙ y.is_named in
      let name : a.name ≡ b.name = cc in
      let all_cats = x.built_in ∙ ap built_in_and same_listed ∙ sym y.built_in in
      let all_funs = zips_once (a_function_once x.funs_by_name a b names) x.sorted_funs a.funs b.funs x.functions functions in
      let begins : Some a.start ≡ Some b.start =
      sym x.starts ∙ start_once a b flat.start names ∙ y.starts in
      let start : a.start ≡ b.start = cc in
      λ i. record { name = name i; start = start i; cats = all_cats i; funs = all_funs i }
