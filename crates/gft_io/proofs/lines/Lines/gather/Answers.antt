use Rattle.std.proofs.Common.{rules, arith}
use Rattle.gft_io.proofs.PlaceLemmas.{GoesOn-none, turned, failed_on, given_on}
use Rattle.gft_io.proofs.lines.Lines.gather.Goals as goal

pub reads-init : goal.reads-init
reads-init g c = record {
  goes = GoesOn-none c.args.self.now _ _ _;
  first = λ over. search rules;
}

pub returns-in-Ok-eq0-clause-goes : goal.returns-in-Ok-eq0-clause-goes
returns-in-Ok-eq0-clause-goes g c =
    let f = c.in-Ok-eq0.ensures in
    turned c.args.self.now c.reads.self c.keep.new.self c.fill.new.self _ _ _ _ _ _ _ _ _ c.reads.invariant.goes c.in_ok-keep.ensures.line (search rules) c.in_ok-keep.ensures.ok f.only (given_on _ _ _ f.gives) f.takes f.faults

pub reads-preserved : goal.reads-preserved
reads-preserved g c =
    let f = c.in-Ok.ensures in
    record {
      goes = turned c.args.self.now c.reads.self c.keep.new.self c.fill.new.self _ _ _ _ _ _ _ _ _ c.reads.invariant.goes c.in_ok-keep.ensures.line (search rules) c.in_ok-keep.ensures.ok f.only (given_on _ _ _ f.gives) f.takes f.faults;
      first = λ over. absurd (omega (arith, c.reads.invariant.goes.counts));
    }

pub returns-in-Err-clause-goes : goal.returns-in-Err-clause-goes
returns-in-Err-clause-goes g c =
    let f = c.in-Err.ensures in
    turned c.args.self.now c.reads.self c.keep.new.self c.fill.new.self _ _ _ _ _ _ _ _ _ c.reads.invariant.goes c.in_ok-keep.ensures.line (search rules) c.in_ok-keep.ensures.ok f.only (failed_on _ f.none _ _ f.keeps) f.takes f.faults
