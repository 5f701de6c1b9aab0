use Rattle.std.proofs.Common.{◌∙◌, not, rules, tests}
use Rattle.std.proofs.lemmas.Iterator.{YieldsList-from_slice}
use Rattle.std.proofs.lemmas.Iterator.Search.{position_from_yields_List}
use Rattle.gft_core.specs.Names.{continues_name}
use Rattle.gft_lex.proofs.Lengths.{passing_from}
use Rattle.gft_lex.proofs.lexemes.name_length.Goals as goal

pub returns-clause-value : goal.returns-clause-value
returns-clause-value c =
    c.unwrap_or.ensures ∙ passing_from continues_name c.args.letters.now c.position.result
    (position_from_yields_List (λ c. not (continues_name c)) _ _ c.position.result c.position.ensures.ran
    (YieldsList-from_slice _ c.iter.ensures.rest) (λ x b q k. search (rules, tests)))
