use Rattle.gft_tree.specs.declared.sort.Sort.TheVariants.{Word, Mark}
use Rattle.gft_tree.proofs.CompareLemmas.{leads_at, leads_word, leads_hole}
use Rattle.gft_tree.proofs.sort.sort_of.Goals as goal

pub returns-in-Str-clause-leads : goal.returns-in-Str-clause-leads
returns-in-Str-clause-leads c = leads_at Word c.args.inner c.args.tree.now _ c.in-Str.is (leads_word c.args.inner _)

pub returns-in-Hole-clause-leads : goal.returns-in-Hole-clause-leads
returns-in-Hole-clause-leads c = leads_at Mark c.args.inner c.args.tree.now _ c.in-Hole.is (leads_hole c.args.inner _)
