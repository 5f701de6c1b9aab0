-- A tree or type with a flaw has no type.
use Rattle.std.specs.Prelude.{◌≡◌, List, [], Some}
use Rattle.std.proofs.Common.{sym, subst, ◌∙◌}
use Rattle.gft_core.specs.declared.tree.Tree.{Tree}
use Rattle.gft_pmcfg.specs.declared.signature.AType.{AType}
use Rattle.gft_pmcfg.specs.declared.signature.Cat.{Cat}
use Rattle.gft_pmcfg.specs.declared.signature.Fun.{Fun}
use Rattle.gft_pmcfg.specs.declared.signature.Abstract.{Abstract}
use Rattle.gft_model.specs.Typing.{HoleTypes, HasType, HaveTypes, IsType, more}
use Rattle.gft_model.specs.Flaws.{Flaw, HasFlaw, HaveFlaw, HasTypeFlaw, application, inside, other_type, later, past, too_many, too_few}
use Rattle.gft_model.specs.Laws.{AreNamedApart, HaveOneType}
use Rattle.gft_model.proofs.SkeletonLaws.{one_type}
use Rattle.gft_model.proofs.TypingLemmas.{applies}

mutual
  pub no_type : {a : Abstract} {T : HoleTypes} {t : Tree} {type : AType} {flaw : Flaw} → AreNamedApart a.funs
      → HaveOneType T → HasFlaw a T t flaw → HasType a T t type → ⊥
  no_type {a} {T} fs hs (application {f} {ts} m h d) e =
      let x = applies f.name ts h e in
      let same : f ≡ x.function = fs f x.function m x.listed (sym x.name) in
      no_types fs hs d (subst (λ (g : Fun). HaveTypes a T [] g.args ts) (sym same) x.arguments)

  pub no_types : {a : Abstract} {T : HoleTypes} {before ts : List Tree} {types : List AType} {flaw : Flaw}
      → AreNamedApart a.funs → HaveOneType T → HaveFlaw a T before types ts flaw → HaveTypes a T before types ts → ⊥
  no_types fs hs (inside d) (more e es) = no_type fs hs d e
  no_types fs hs (other_type d n) (more e es) = n (one_type fs hs d e)
  no_types fs hs (later d ds) (more e es) = no_types fs hs ds es
  no_types fs hs (past d ds) es = elim es [ ]
  no_types fs hs (too_many d) es = elim es [ ]
  no_types fs hs too_few es = elim es [ ]

-- the category of a type is one
pub flaw_has_no_type : {a : Abstract} {T : HoleTypes} {type : AType} {flaw : Flaw} → AreNamedApart a.funs
    → HaveOneType T → HasTypeFlaw a T type flaw → IsType a T type → ⊥
flaw_has_no_type {a} {T} {type} fs hs d e =
    let found : Some d.category ≡ Some e.category = sym d.numbered ∙ e.numbered in
    let same : d.category ≡ e.category = cc in
    no_types fs hs d.indices (subst (λ (c : Cat). HaveTypes a T [] c.context type.args) (sym same) e.indices)
