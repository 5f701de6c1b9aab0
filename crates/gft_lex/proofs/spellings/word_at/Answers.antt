use Rattle.std.proofs.lemmas.Option.{slice_get-get_or}
use Rattle.gft_syntax.specs.declared.token.Reserved.TheVariants.{Abstract}
use Rattle.gft_lex.specs.Spellings.{words_in_order}
use Rattle.gft_lex.proofs.spellings.word_at.Goals as goal

pub returns : goal.returns
unfolding words_in_order
returns c = slice_get-get_or words_in_order _ Abstract c.requires
