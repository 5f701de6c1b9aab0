-- Worked examples of compilation by numbers: Twice, the two cases of K in Gend, and T as a whole.
use Rattle.std.proofs.Common.{◌≡◌, refl, ap, sym, ◌∙◌, subst, ℕ, zero, suc, true, false, List, [], ◌∷◌, Some, None, arith}
use Rattle.std.specs.Prelude.{codes, bytes_eq, Contains}
use Rattle.gft_pmcfg.specs.declared.concrete.Concrete.{Concrete}
use Rattle.gft_pmcfg.specs.declared.concrete.Def.{Def}
use Rattle.gft_pmcfg.specs.declared.concrete.Prod.{Prod}
use Rattle.gft_pmcfg.specs.declared.concrete.Ref.{Ref}
use Rattle.gft_pmcfg.specs.declared.signature.Abstract.{Abstract}
use Rattle.gft_pmcfg.specs.declared.signature.Cat.{Cat}
use Rattle.gft_syntax.specs.declared.flat.Flat.{Flat}
use Rattle.gft_syntax.specs.declared.judgement.Judgement.TheVariants as J
use Rattle.gft_syntax.specs.declared.term.Term.TheFolds.{fold-roll-Term}
use Rattle.gft_syntax.specs.declared.value.Param.TheViews.{out-roll-Param}
use Rattle.gft_syntax.specs.declared.value.Value.TheViews.{out-roll-Value}
use Rattle.gft_model.specs.Compiled.{Compiles, infos_from, nonterminal, productions_from, defs_in, refs_in}
use Rattle.gft_model.proofs.Computing.{results-roll, same-roll, case_values-roll, cells-roll, numbered_value-roll, string_leaves-roll, first_string-roll, case_of-roll}
use Rattle.gft_model.proofs.Grammars as compiled
use Rattle.gft_model.specs.Runs.{IsKept, MayBeHole, AreRuns, none}
use Rattle.gft_model.proofs.GrammarExamples.{concrete_fits}
use Rattle.gft_model.proofs.RunLemmas.{all_none}
use Rattle.gft_model.proofs.Tiny.{abs, eng}
use Rattle.gft_model.proofs.ProductionExamples.{gend, gender}
use Rattle.gft_model.proofs.TermTreeExamples.{twice, entry, named, category, nothing, word, field_s, a_lincat, a_lin}

-- the nonterminals of Twice are numbered as in its compiled form
pub infos_of_twice : infos_from twice (codes "TwiceEng") 0 compiled.twice.cats ≡ compiled.twice_eng.infos
infos_of_twice = simp cells-roll

-- so are its productions, A before Dup, and its defs and refs
pub productions_of_twice : productions_from twice (codes "TwiceEng") compiled.twice.cats 0 compiled.twice.funs ≡ compiled.twice_eng.prods
productions_of_twice = simp (fold-roll-Term, cells-roll, case_values-roll, case_of-roll, results-roll, out-roll-Value, numbered_value-roll, string_leaves-roll)

pub defs_of_twice : defs_in twice (codes "TwiceEng") compiled.twice.cats ≡ compiled.twice_eng.defs
defs_of_twice = simp (cells-roll, case_values-roll, case_of-roll, string_leaves-roll)

pub refs_of_twice : refs_in twice (codes "TwiceEng") compiled.twice.cats ≡ compiled.twice_eng.refs
refs_of_twice = simp (cells-roll, case_values-roll, case_of-roll, numbered_value-roll, first_string-roll, string_leaves-roll)

-- Gend: S has the nonterminal 2, K in the case Fe has 4, and in no case of S anything
abbrev plain : List ℕ → Cat
plain C = record { name = C; context = [] }

abbrev cats : List Cat
cats = plain (codes "Int") ∷ plain (codes "String") ∷ plain (codes "S") ∷ plain (codes "K") ∷ []

pub of_s : nonterminal gend (codes "GendEng") 0 cats (codes "S") [] ≡ Some 2
of_s = simp cells-roll

pub of_fe : nonterminal gend (codes "GendEng") 0 cats (codes "K") (gender (codes "Fe") ∷ []) ≡ Some 4
of_fe = simp (cells-roll, same-roll, out-roll-Param)

pub of_nothing : nonterminal gend (codes "GendEng") 0 cats (codes "S") (gender (codes "Fe") ∷ []) ≡ None
of_nothing = simp cells-roll

-- abstract T = {cat S ; fun a : S ;}, with lin a = {s = "a"}
abbrev t : Flat
t = record {
  name = Some (codes "T");
  start = Some (codes "S");
  cats = entry (codes "S") (J.Cat (named (codes "S")) []) ∷ [];
  funs = entry (codes "a") (J.Fun (named (codes "a") ∷ []) (category (codes "S"))) ∷ [];
  params = [];
  opers = [];
  concretes = record {
    name = codes "TE";
    judgements = entry (codes "S") (J.Lincat (named (codes "S") ∷ []) nothing) ∷ entry (codes "a") (J.Lin (named (codes "a") ∷ []) [] nothing) ∷ [];
  } ∷ [];
  typed = a_lincat ∷ a_lin (field_s (word (codes "a"))) ∷ [];
}

infos_of_t : infos_from t (codes "TE") 0 abs.cats ≡ eng.infos
infos_of_t = simp cells-roll

productions_of_t : productions_from t (codes "TE") abs.cats 0 abs.funs ≡ eng.prods
productions_of_t = simp (fold-roll-Term, cells-roll, case_of-roll, results-roll, string_leaves-roll)

defs_of_t : defs_in t (codes "TE") abs.cats ≡ eng.defs
defs_of_t = simp (cells-roll, case_values-roll, case_of-roll, string_leaves-roll)

refs_of_t : refs_in t (codes "TE") abs.cats ≡ eng.refs
refs_of_t = simp (cells-roll, case_values-roll, case_of-roll, numbered_value-roll, first_string-roll, string_leaves-roll)

-- a production without arguments is kept
kept : (c : Concrete) (p q : Prod) → q ≡ p → q.args ≡ [] → IsKept c p
kept c p q e a = ([], subst (λ (ns : List ℕ). AreRuns c [] ns) (sym a ∙ ap (λ (r : Prod). r.args) e) none, all_none (MayBeHole c))

kept_in_t : (c : Concrete) (p : Prod) → Contains eng.prods p → IsKept c p
kept_in_t c p (zero, b, e) = kept c p _ e refl
kept_in_t c p (suc n, b, e) = absurd (omega (arith, b))

-- TE compiles to its file's concrete syntax
pub t_compiles : Compiles abs t (codes "TE") eng
t_compiles = record {
  name = refl;
  infos = sym infos_of_t;
  prods = λ p. (
    λ h. (subst (λ (ps : List Prod). Contains ps p) (sym productions_of_t) h, kept_in_t _ p h),
    λ h. subst (λ (ps : List Prod). Contains ps p) productions_of_t h.0,
  );
  defs = λ d. (subst (λ (ds : List Def). Contains ds d) (sym defs_of_t), subst (λ (ds : List Def). Contains ds d) defs_of_t);
  refs = λ r. (subst (λ (rs : List Ref). Contains rs r) (sym refs_of_t), subst (λ (rs : List Ref). Contains rs r) refs_of_t);
  in_order = concrete_fits;
}

-- and to nothing of another name
pub other_name : {a : Abstract} {c : Concrete} → Compiles a t (codes "TE") c → c.name ≡ codes "UE" → ⊥
other_name h e = let k : false ≡ true = ap (λ (n : List ℕ). bytes_eq n (codes "UE")) (sym h.name ∙ e) in cc
