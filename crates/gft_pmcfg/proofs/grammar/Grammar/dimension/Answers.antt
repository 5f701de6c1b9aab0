use Rattle.std.proofs.Common.{◌≡◌, ◌≤◌, ◌<◌, true, List, get_or, pred, nat_le, sym, ap, ◌∙◌, arith, rules}
use Rattle.std.proofs.Math.Numerals.{sub-one}
use Rattle.std.proofs.lemmas.Bool.{leb-true, leb-false}
use Rattle.std.proofs.lemmas.List.Sorted.{IsPartitionedBy-leb, IsPartitionPoint-from_clause}
use Rattle.gft_pmcfg.specs.declared.concrete.Info.{Info}
use Rattle.gft_pmcfg.specs.declared.concrete.Concrete.{Concrete}
use Rattle.gft_pmcfg.specs.Nonterminals.{infos_at, nonterminals_of, dimension_of}
use Rattle.gft_pmcfg.specs.Ranges.{are_infos}
use Rattle.gft_pmcfg.proofs.Firsts.{IsCut, dimension_from_zero, rising}
use Rattle.gft_pmcfg.proofs.Languages.{infos_fit, infos_at-is}
use Rattle.gft_pmcfg.proofs.grammar.Grammar.dimension.Goals as goal
use Rattle.gft_pmcfg.proofs.grammar.Grammar.dimension.Goals.{After-partition_point-after}

abbrev no_info : Info
no_info = record { first = 0; count = 0; dim = 0 }

-- the last category that does not begin after the nonterminal has it
found : (c : After-partition_point-after)
    → (1 ≤ c.partition_point-after.result) × ((get_or c.as_slice-infos.result.now
    (pred c.partition_point-after.result) no_info).dim ≡ dimension_of
    (infos_at c.args.self.now.concretes c.args.lang) c.args.nonterminal)
found c =
    let cs = c.args.self.now.concretes in
    let here = c.index-as_slice-lang.result in
    let xs = c.as_slice-infos.result.now in
    let at : here ≡ get_or cs c.args.lang here = c.index-as_slice-lang.is
    ∙ ap (λ (l : List Concrete). get_or l c.args.lang here) c.as_slice.ensures in
    let same : xs ≡ here.infos = c.as_slice-infos.ensures
    ∙ ap (λ (k : Concrete). k.infos) (sym c.index-as_slice-lang.is) in
    let all : infos_at cs c.args.lang ≡ xs = infos_at-is cs c.args.lang here c.requires.language at
    ∙ sym same in
    let infos : are_infos 0 xs ≡ true =
    rw same (infos_fit c.args.self.now.abs cs c.args.lang here c.args.self.now.in_range c.requires.language at) in
    let high : c.args.nonterminal < nonterminals_of xs = rw (← all) c.requires.nonterminal in
    let point = IsPartitionPoint-from_clause (λ
    (i : Info). nat_le i.first c.args.nonterminal) xs c.partition_point-after.result c.partition_point-after.ensures.partitioned (IsPartitionedBy-leb (λ (i : Info). i.first) xs c.args.nonterminal (rising 0 xs infos)) (λ a r q k. search rules) in
    let n = c.args.nonterminal in
    let k = c.partition_point-after.result in
    let cut : IsCut xs n k no_info = record {
      within = c.partition_point-after.ensures.bound;
      before = λ j b. leb-true _ _ (point.0 j no_info (omega arith) b);
      after = λ b. leb-false _ _ (point.1 k no_info (omega arith) b);
    } in
    let dimension = dimension_from_zero n k xs no_info infos high cut in
    (dimension.0, dimension.1 ∙ ap (λ (l : List Info). dimension_of l n) (sym all))

pub overflow_sub-result : goal.overflow_sub-result
overflow_sub-result c = (found c).0

pub returns : goal.returns
returns c = rw sub-one (found c).1
