use Rattle.std.proofs.Common.{ap, sym, ◌∙◌, subst, ◌-◌, length, Result, Err}
use Rattle.std.specs.Str.{chars}
use Rattle.std.proofs.lemmas.Result.{err_from_is_err_and}
use Rattle.gft_core.specs.declared.tree.Tree.{Tree}
use Rattle.gft_tree.specs.declared.error.TreeErr.{TreeErr}
use Rattle.gft_tree.specs.Reading.{read_on, step, on_step, Gives}
use Rattle.gft_tree.proofs.ReadLemmas.{read_one, read_none, gives_on, shorter}
use Rattle.gft_tree.proofs.reading.read.Goals as goal

pub returns-in_err-reader-in-Some : goal.returns-in_err-reader-in-Some
returns-in_err-reader-in-Some c =
    let p = err_from_is_err_and c.from_residual.result c.from_residual.ensures.1 in
    let total = length c.args.text.now in
    let e = c.as_str.ensures in
    let s = c.in-Some.ensures.steps.0 in
    let one = sym (read_one total c.characters.reader _ _ c.in-Some.c c.as_str.utf8 (e ∙ s))
    ∙ ap (λ b. read_on total c.characters.reader (chars b)) e ∙ c.characters.invariant.same in
    let P : Result Tree TreeErr → Type 0 = λ r. Gives (Err p.0) r in
    let Q : TreeErr → Type 0 = λ f. Gives {X = Tree} (Err f) (on_step (step c.characters.reader (total - length c.as_str.result.now) c.in-Some.c) (λ next. read_on total next (chars c.next.new.self.rest.now))) in
    rw p.1 (subst P one (subst Q (sym p.2) (gives_on _ _ _ c.in_err-reader-in-Some.ensures)))

pub characters-preserved : goal.characters-preserved
characters-preserved c =
    let total = length c.args.text.now in
    let e = c.as_str.ensures in
    let s = c.in-Some.ensures.steps.0 in
    record {
      within = shorter _ _ _ _ s c.characters.invariant.within;
      same = sym (ap (λ r. on_step r (λ next. read_on total next (chars c.next.new.self.rest.now))) c.in_ok-reader-in-Some.ensures)
          ∙ sym (read_one total c.characters.reader _ _ c.in-Some.c c.as_str.utf8 (e ∙ s))
          ∙ ap (λ b. read_on total c.characters.reader (chars b)) e ∙ c.characters.invariant.same;
    }

pub returns-in-None : goal.returns-in-None
returns-in-None c =
    let total = length c.args.text.now in
    let e = c.as_str.ensures in
    let one = sym (read_none total c.characters.reader c.as_str.result.now (ap length e ∙ c.in-None.ensures.steps.0.0))
    ∙ ap (λ b. read_on total c.characters.reader (chars b)) e ∙ c.characters.invariant.same in
    let P : Result Tree TreeErr → Type 0 = λ r. Gives c.finish.result r in
    subst P one c.finish.ensures
