-- What a language compiles to is determined.
use Rattle.std.proofs.Common.{◌≡◌, sym, ◌∙◌, subst, ℕ, zero, suc, ◌<◌, List, [], ◌∷◌, ◌++◌, arith, ◌↔◌, length}
use Rattle.std.specs.Prelude.{AllPairs, Contains, Option, Some, None, slice_index_or}
use Rattle.std.specs.Cmp.Lexicographic.{slice_cmp, nat_list_cmp_total}
use Rattle.std.specs.Ordering.{nat_cmp}
use Rattle.std.specs.declared.cmp.Ordering.TheVariants.{Less}
use Rattle.gft_pmcfg.specs.declared.concrete.Concrete.{Concrete}
use Rattle.gft_pmcfg.specs.declared.concrete.Info.{Info}
use Rattle.gft_pmcfg.specs.declared.concrete.Prod.{Prod}
use Rattle.gft_pmcfg.specs.declared.signature.Abstract.{Abstract}
use Rattle.gft_syntax.specs.declared.flat.Flat.{Flat}
use Rattle.gft_model.specs.Compiled.{Compiles, productions_from}
use Rattle.gft_model.specs.Fields.{Form, Fits, written}
use Rattle.gft_model.specs.FileForms.{listed, ascending, ordered, literal_infos, production, def_form, ref_form, concrete}
use Rattle.gft_model.specs.Runs.{IsKept}
use Rattle.gft_model.proofs.Rising.{less}
use Rattle.gft_model.proofs.ReplyLaws.{IsAsymmetric, order_once, same_members}

-- items in strict order of their encodings
module _ {A : Type 0} (f : Form A) where
  abbrev key : A → List ℕ
  key x = written f x

  abbrev IsLess : A → A → Type 0
  IsLess x y = slice_cmp nat_cmp (key x) (key y) ≡ Less

  less_once : IsAsymmetric IsLess
  less_once x y e g = let h = nat_list_cmp_total.antisymm (key x) (key y) in cc

  -- a key before a list in order is less than each of the list
  before_all : (before : List ℕ) (n : ℕ) (xs : List A) → Fits (ascending (written f) f (Some before) n) xs
      → (k : ℕ) (d : A) → k < length xs → slice_cmp nat_cmp before (key (slice_index_or xs k d)) ≡ Less
  before_all before n [] h k d b = absurd (omega (arith, b))
  before_all before zero (x ∷ xs) h k d b = cc
  before_all before (suc n) (x ∷ xs) h zero d b = less _ h.0.1
  before_all before (suc n) (x ∷ xs) h (suc k) d b =
      nat_list_cmp_total.trans before (key x) (key (slice_index_or xs k d)) (less _ h.0.1)
      (before_all (key x) n xs h.1 k d (omega (arith, b)))

  in_order : (before : Option (List ℕ)) (n : ℕ) (xs : List A) → Fits (ascending (written f) f before n) xs
      → AllPairs IsLess xs
  in_order before n [] h i j d l b = absurd (omega (arith, b))
  in_order before zero (x ∷ xs) h i j d l b = cc
  in_order before (suc n) (x ∷ xs) h zero zero d l b = absurd (omega (arith, l))
  in_order before (suc n) (x ∷ xs) h zero (suc j) d l b = before_all (key x) n xs h.1 j d (omega (arith, b))
  in_order before (suc n) (x ∷ xs) h (suc i) zero d l b = absurd (omega (arith, l))
  in_order before (suc n) (x ∷ xs) h (suc i) (suc j) d l b =
      in_order (Some (key x)) n xs h.1 i j d (omega (arith, l)) (omega (arith, b))

  -- two lists in order with the same items are equal
  ordered_once : (xs ys : List A) → Fits (ordered f) xs → Fits (ordered f) ys
      → ((z : A) → Contains xs z ↔ Contains ys z) → xs ≡ ys
  ordered_once xs ys h k same =
      order_once IsLess less_once xs ys (in_order None _ xs h.1) (in_order None _ ys k.1) same

-- both have the same infos, and so the same encodings; they have the same defs, and so keep the same productions
pub concrete_once : (a : Abstract) (flat : Flat) (lang : List ℕ) (c d : Concrete) → Compiles a flat lang c
    → Compiles a flat lang d → c ≡ d
concrete_once a flat lang c d x y =
    let names : c.name ≡ d.name = x.name ∙ sym y.name in
    let infos : c.infos ≡ d.infos = x.infos ∙ sym y.infos in
    let FitsWith : List Info → Type 0
    = λ is. Fits (concrete a) (record d { infos = is }) in
    let fits = subst FitsWith (sym infos) y.in_order in
    let numbered = literal_infos ++ listed c.infos in
    let defs : c.defs ≡ d.defs = ordered_once (def_form numbered) c.defs d.defs
    x.in_order.1.1.1.0 fits.1.1.1.0 (same_members c.defs d.defs x.defs y.defs) in
    let refs : c.refs ≡ d.refs = ordered_once (ref_form numbered) c.refs d.refs
    x.in_order.1.1.1.1.0 fits.1.1.1.1.0 (same_members c.refs d.refs x.refs y.refs) in
    let all = productions_from flat lang a.cats 0 a.funs in
    let unreduced : ◌≡◌ {A = Concrete} (record c { prods = all }) (record d { prods = all })
    = λ i. record { name = names i; infos = infos i; prods = all; defs = defs i; refs = refs i } in
    let kept : (p : Prod) → Contains d.prods p ↔ (Contains all p × IsKept (record c { prods = all }) p)
    = λ p. subst (λ (e : Concrete). Contains d.prods p ↔ (Contains all p × IsKept e p)) (sym unreduced) (y.prods p) in
    let prods : c.prods ≡ d.prods = ordered_once (production a.funs numbered) c.prods d.prods
    x.in_order.1.1.0 fits.1.1.0 (same_members c.prods d.prods x.prods kept) in
    λ i. record { name = names i; infos = infos i; prods = prods i; defs = defs i; refs = refs i }
