-- What a language compiles to: its productions, defs and refs over nonterminals by their numbers.
use Rattle.std.specs.Prelude.{◌≡◌, ◌↔◌, ℕ, suc, ◌+◌, List, [], ◌∷◌, ◌++◌, map, flat_map, length, zip, position, Contains, Option, None, bytes_eq, if◌then◌else◌, option_map}
use Rattle.std.specs.List.{filter_map}
use Rattle.std.specs.Option.{option_map_or, option_to_list, unwrap_or}
use Rattle.gft_pmcfg.specs.declared.concrete.Concrete.{Concrete}
use Rattle.gft_pmcfg.specs.declared.concrete.Def.{Def}
use Rattle.gft_pmcfg.specs.declared.concrete.Info.{Info}
use Rattle.gft_pmcfg.specs.declared.concrete.Prod.{Prod}
use Rattle.gft_pmcfg.specs.declared.concrete.Ref.{Ref}
use Rattle.gft_pmcfg.specs.declared.signature.Abstract.{Abstract}
use Rattle.gft_pmcfg.specs.declared.signature.Cat.{Cat}
use Rattle.gft_pmcfg.specs.declared.signature.Fun.{Fun}
use Rattle.gft_syntax.specs.declared.flat.Flat.{Flat}
use Rattle.gft_syntax.specs.declared.value.Param.{Param}
use Rattle.gft_model.specs.ConcreteTypes.{cases_of, string_cells}
use Rattle.gft_model.specs.Fields.{Fits}
use Rattle.gft_model.specs.FileForms.{listed, concrete}
use Rattle.gft_model.specs.JudgementTyping.{Signature, signature_in}
use Rattle.gft_model.specs.Languages.{lin_type}
use Rattle.gft_model.specs.Productions.{CaseProduction, productions_of, defs_of, refs_of}
use Rattle.gft_model.specs.Runs.{IsKept}
use Rattle.gft_model.specs.Values.{all_there, each_same, same_param}

module _ (flat : Flat) (lang : List ℕ) where
  -- the cases of a category in order
  abbrev pub cases_in : List ℕ → List (List Param)
  cases_in C = option_map_or cases_of (lin_type flat lang C) []

  -- the number of its string cells
  abbrev pub dimension_in : List ℕ → ℕ
  dimension_in C = option_map_or (λ T. length (string_cells T)) (lin_type flat lang C) 0

  -- for each category its first nonterminal, the number of its cases, and of its string cells; the
  -- nonterminals are numbered from n on
  abbrev pub infos_from : ℕ → List Cat → List Info
  infos_from n [] = []
  infos_from n (c ∷ cs) =
      let count = length (cases_in c.name) in
      record { first = n; count = count; dim = dimension_in c.name } ∷ infos_from (n + count) cs

  -- the nonterminal of a category in a case
  abbrev pub nonterminal : ℕ → List Cat → List ℕ → List Param → Option ℕ
  nonterminal n [] C v = None
  nonterminal n (c ∷ cs) C v =
      if bytes_eq C c.name then option_map (λ k. n + k) (position (each_same (map same_param v)) (cases_in C))
      else nonterminal (n + length (cases_in c.name)) cs C v

  -- those of several categories, each in its case
  abbrev pub nonterminals : List Cat → List (List ℕ) → List (List Param) → Option (List ℕ)
  nonterminals cats Cs vs = all_there (map (λ c. nonterminal 0 cats c.0 c.1) (zip Cs vs))

  -- a production of the function of number k
  abbrev pub numbered_production : List Cat → ℕ → Signature → CaseProduction → List Prod
  numbered_production cats k s p =
      flat_map (λ ns. map (λ n. record { fun = k; args = ns; result = n; seqs = p.sequences })
      (option_to_list (nonterminal 0 cats s.result p.result))) (option_to_list (nonterminals cats s.arguments p.arguments))

  -- the productions of the functions from number k on, whether they are kept or not
  abbrev pub productions_from : List Cat → ℕ → List Fun → List Prod
  productions_from cats k [] = []
  productions_from cats k (f ∷ fs) =
      option_map_or (λ s. flat_map (numbered_production cats k s) (productions_of flat lang f.name))
      (signature_in flat.funs f.name) [] ++ productions_from cats (suc k) fs

  -- a ref of a category: of one nonterminal, with one sequence
  abbrev pub numbered_ref : List Cat → List ℕ → CaseProduction → List Ref
  numbered_ref cats C p = flat_map (λ n. map (λ seq. record { arg = n; seq = seq }) p.sequences)
      (unwrap_or (nonterminals cats (C ∷ []) p.arguments) [])

  -- all defs of the listed categories
  abbrev pub defs_in : List Cat → List Def
  defs_in cats = flat_map (λ c. filter_map
      (λ p. option_map (λ n. record { result = n; seqs = p.sequences }) (nonterminal 0 cats c.name p.result))
      (defs_of flat lang c.name)) (listed cats)

  -- all refs of the listed categories
  abbrev pub refs_in : List Cat → List Ref
  refs_in cats = flat_map (λ c. flat_map (numbered_ref cats c.name) (refs_of flat lang c.name)) (listed cats)

-- the concrete syntax that a language compiles to: of its productions those that stand at the root of a
-- run of some tree, each once, and all defs and refs, in the order of the portable file
pub record Compiles (a : Abstract) (flat : Flat) (lang : List ℕ) (c : Concrete) : Type 0 where
  pub name : c.name ≡ lang
  pub infos : c.infos ≡ infos_from flat lang 0 a.cats
  pub prods : (p : Prod) → Contains c.prods p ↔
      Contains (productions_from flat lang a.cats 0 a.funs) p
      × IsKept (record c { prods = productions_from flat lang a.cats 0 a.funs }) p
  pub defs : (d : Def) → Contains c.defs d ↔ Contains (defs_in flat lang a.cats) d
  pub refs : (r : Ref) → Contains c.refs r ↔ Contains (refs_in flat lang a.cats) r
  pub in_order : Fits (concrete a) c
