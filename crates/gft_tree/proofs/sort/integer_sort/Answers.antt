use Rattle.std.proofs.Common.{arith, sym}
use Rattle.gft_tree.proofs.CompareLemmas.{leads_int, sort-Int}
use Rattle.gft_tree.proofs.sort.integer_sort.Goals as goal

pub returns-clause-sort : goal.returns-clause-sort
returns-clause-sort c = sym (sort-Int c.args._inner c.args._value)

pub returns-clause-leads : goal.returns-clause-leads
returns-clause-leads c = leads_int c.args._inner c.args._value (let r = c.ranges._value.fits in omega (arith, r))
