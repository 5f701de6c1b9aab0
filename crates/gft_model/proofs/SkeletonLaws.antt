-- Typed trees have skeleton types.
use Rattle.std.specs.Prelude.{◌≡◌, ℕ, zero, suc, List, [], ◌∷◌, map, Contains}
use Rattle.std.proofs.Common.{refl, ap, ◌∙◌, subst, arith}
use Rattle.gft_core.specs.declared.tree.Tree.{Tree}
use Rattle.gft_pmcfg.specs.declared.signature.AType.{AType}
use Rattle.gft_pmcfg.specs.declared.signature.Fun.{Fun}
use Rattle.gft_pmcfg.specs.declared.signature.Abstract.{Abstract}
use Rattle.gft_model.specs.Typing as typing
use Rattle.gft_model.specs.Typing.{HoleTypes, HasType, HaveTypes, type_at}
use Rattle.gft_model.specs.Skeleton.{HasSkeletonType, HaveSkeletonTypes, hole, integer, text, application, none, more}
use Rattle.gft_model.specs.Laws.{categories_under, AreNamedApart, HaveOneType}

-- the image of an item stands in the image of the list
mapped : {A B : Type 0} (f : A → B) (xs : List A) (x : A) → Contains xs x → Contains (map f xs) (f x)
mapped f [] x (k, b, e) = absurd (omega arith)
mapped f (y ∷ xs) x (zero, b, e) = (zero, omega arith, ap f e)
mapped f (y ∷ xs) x (suc k, b, e) = let rest =
    mapped f xs x (k, omega arith, e) in (suc rest.0, omega (arith, rest.1), rest.2)

mutual
  pub skeleton : {a : Abstract} {T : HoleTypes} {t : Tree} {type : AType} → HasType a T t type
      → HasSkeletonType a (categories_under T) t type.cat
  skeleton {T} (typing.hole {k} {type} h b m) =
      hole h b (mapped (λ (x : ℕ × AType). (x.0, x.1.cat)) T (k, type) m)
  skeleton (typing.integer h b) = integer h b
  skeleton (typing.text h b) = text h b
  skeleton (typing.HasType.application m h ds) = application m h (skeletons ds)

  pub skeletons : {a : Abstract} {T : HoleTypes} {before ts : List Tree} {types : List AType}
      → HaveTypes a T before types ts
      → HaveSkeletonTypes a (categories_under T) ts (map (λ (t : AType). t.cat) types)
  skeletons typing.none = none
  skeletons (typing.more d ds) = more (skeleton d) (skeletons ds)

-- a tree has at most one type
pub one_type : {a : Abstract} {T : HoleTypes} {t : Tree} {A B : AType} → AreNamedApart a.funs
    → HaveOneType T → HasType a T t A → HasType a T t B → A ≡ B
one_type {T} {A} {B} fs hs (typing.hole {k} h b m) (typing.hole {k = j} i d n) =
    let same : j ≡ k = cc in
    let holds : ℕ → Type 0 = λ l. Contains T (l, B) in
    hs k A B m (subst holds same n)
one_type fs hs (typing.hole h b m) (typing.integer i d) = cc
one_type fs hs (typing.hole h b m) (typing.text i d) = cc
one_type fs hs (typing.hole h b m) (typing.HasType.application n i ds) = cc
one_type fs hs (typing.integer h b) (typing.hole i d n) = cc
one_type fs hs (typing.integer h b) (typing.integer i d) = refl
one_type fs hs (typing.integer h b) (typing.text i d) = cc
one_type fs hs (typing.integer h b) (typing.HasType.application n i ds) = cc
one_type fs hs (typing.text h b) (typing.hole i d n) = cc
one_type fs hs (typing.text h b) (typing.integer i d) = cc
one_type fs hs (typing.text h b) (typing.text i d) = refl
one_type fs hs (typing.text h b) (typing.HasType.application n i ds) = cc
one_type fs hs (typing.HasType.application m h ds) (typing.hole i d n) = cc
one_type fs hs (typing.HasType.application m h ds) (typing.integer i d) = cc
one_type fs hs (typing.HasType.application m h ds) (typing.text i d) = cc
one_type fs hs (typing.HasType.application {f} {ts} m h ds) (typing.HasType.application {f = g} {ts =
    us} n i es) =
    let names : f.name ≡ g.name = cc in
    let args : ts ≡ us = cc in
    ap (λ (xs : List Tree). type_at xs f.result) args ∙ ap (λ (k : Fun). type_at us k.result) (fs f g m n names)
