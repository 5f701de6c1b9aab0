use Rattle.std.proofs.Common.{sym, arith, ◌+◌, ◌++◌, List, length, map, subst, ⊎_elim, inl, inr}
use Rattle.std.proofs.lemmas.Bool.{cases_lt}
use Rattle.gft_core.specs.declared.tree.Tree.{Tree}
use Rattle.gft_tree.specs.declared.order.After.TheVariants.{Close}
use Rattle.gft_tree.specs.Order.{Orders}
use Rattle.gft_tree.specs.Trees.{as_arguments, printed}
use Rattle.gft_tree.proofs.CompareLemmas.{left_differs, left_same, left_ends, names_differ, names_same, both_inner, behind_rest, not_nil}
use Rattle.gft_tree.proofs.compare.+argument.Goals as goal

pub applications-returns-then-is_ne : goal.applications-returns-then-is_ne
applications-returns-then-is_ne t c =
    names_differ c.names-order.result c.args.name.now c.args.other.now c.args.xs.now c.args.ys.now c.args.closed _ _
    c.behind.ensures c.behind-2.ensures c.names-order.ensures (sym c.if-is_ne.ensures)

pub applications-returns : goal.applications-returns
applications-returns t c =
    names_same c.names-order.result c.arguments.result c.args.name.now c.args.other.now c.args.xs.now c.args.ys.now c.args.closed _ _
    c.behind.ensures c.behind-2.ensures c.names-order.ensures (sym c.if-is_ne.ensures) c.arguments.ensures

pub arguments-returns-then-is_ne : goal.arguments-returns-then-is_ne
arguments-returns-then-is_ne t c =
    let xs = c.args.xs.now in
    let ys = c.args.ys.now in
    let i = c.each.i in
    let m = c.min-shorter.ensures in
    let h = c.each-test.true in
    left_differs xs ys i c.args.closed c.argument-order.result c.index-xs-i.result c.index-ys-i.result c.behind-after_one.result c.behind-after_other.result
    c.each.invariant (omega (arith, m, h)) (omega (arith, m, h)) c.index-xs-i.is c.index-ys-i.is
    (behind_rest _ xs (i + 1) c.args.closed c.behind-after_one.ensures) (behind_rest _ ys (i + 1) c.args.closed c.behind-after_other.ensures)
    c.argument-order.ensures (sym c.if-is_ne.ensures)

pub arguments-each-preserved : goal.arguments-each-preserved
arguments-each-preserved t c =
    let xs = c.args.xs.now in
    let ys = c.args.ys.now in
    let i = c.each.i in
    let m = c.min-shorter.ensures in
    let h = c.each-test.true in
    left_same xs ys i c.args.closed c.argument-order.result c.index-xs-i.result c.index-ys-i.result c.behind-after_one.result c.behind-after_other.result
    c.each.invariant (omega (arith, m, h)) (omega (arith, m, h)) c.index-xs-i.is c.index-ys-i.is
    (behind_rest _ xs (i + 1) c.args.closed c.behind-after_one.ensures) (behind_rest _ ys (i + 1) c.args.closed c.behind-after_other.ensures)
    c.argument-order.ensures (sym c.if-is_ne.ensures)

pub arguments-returns : goal.arguments-returns
arguments-returns t c =
    let xs = c.args.xs.now in
    let ys = c.args.ys.now in
    let i = c.each.i in
    let m = c.min-shorter.ensures in
    let h = c.each-test.false in
    let k = c.each.auto.i-end in
    left_ends xs ys i c.args.closed c.ended.result (omega (arith, m, k)) (omega (arith, m, k))
    (⊎_elim (λ l. inl (omega (arith, m, h, l))) (λ l. inr (omega (arith, m, h, l))) (cases_lt (length xs) (length ys)))
    c.each.invariant c.ended.ensures

pub with_application-returns : goal.with_application-returns
with_application-returns t c =
    let P : List Tree → Type 0 = λ z. Orders c.applications.result (c.args.name.now ++ as_arguments (map printed c.args.arguments.now)) (c.in-App.other ++ as_arguments (map printed z)) Close Close in
    both_inner c.applications.result c.args.name.now c.in-App.other c.args.arguments.now c.in-App.others c.args.tree.now c.args.after c.args.after_tree c.in-App.is
    (not_nil c.args.arguments.now c.if-is_empty.ensures) c.requires (subst P c.as_slice.ensures c.applications.ensures)
