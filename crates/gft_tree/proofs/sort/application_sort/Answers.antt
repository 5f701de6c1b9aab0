use Rattle.std.proofs.Common.{sym, length}
use Rattle.std.proofs.lemmas.Bool.{eqb-true, eqb-false}
use Rattle.gft_tree.specs.declared.sort.Sort.TheVariants.{Parenthesis, Letter}
use Rattle.gft_tree.proofs.CompareLemmas.{leads_by, app_letter, app_inner, app_outer}
use Rattle.gft_tree.proofs.sort.application_sort.Goals as goal

pub returns-then-is_empty-clause-leads : goal.returns-then-is_empty-clause-leads
returns-then-is_empty-clause-leads c =
    leads_by Letter c.args.inner c.args.function.now c.as_str-name.result.now c.args.arguments.now
    (app_letter c.args.inner c.args.function.now c.args.arguments.now (eqb-true (length c.args.arguments.now) 0 (sym c.if-is_empty.ensures)))
    c.as_str-name.ensures.text c.as_str-name.utf8 c.as_str-name.ensures.name

pub returns-then-inner-clause-leads : goal.returns-then-inner-clause-leads
returns-then-inner-clause-leads c =
    leads_by Parenthesis c.args.inner c.args.function.now c.as_str-name.result.now c.args.arguments.now
    (app_inner c.args.inner c.args.function.now c.args.arguments.now c.if-inner.true (eqb-false (length c.args.arguments.now) 0 (sym c.if-is_empty.ensures)))
    c.as_str-name.ensures.text c.as_str-name.utf8 c.as_str-name.ensures.name

pub returns-clause-leads : goal.returns-clause-leads
returns-clause-leads c =
    leads_by Letter c.args.inner c.args.function.now c.as_str-name.result.now c.args.arguments.now
    (app_outer c.args.inner c.args.function.now c.args.arguments.now c.if-inner.false)
    c.as_str-name.ensures.text c.as_str-name.utf8 c.as_str-name.ensures.name
