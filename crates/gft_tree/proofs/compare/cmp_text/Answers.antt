use Rattle.gft_tree.specs.Trees.{text_of}
use Rattle.gft_tree.proofs.CompareLemmas.{whole_texts}
use Rattle.gft_tree.proofs.compare.cmp_text.Goals as goal

pub returns : goal.returns
returns c = whole_texts c.alone.result (text_of c.args.a.now) (text_of c.args.b.now) c.alone.ensures
