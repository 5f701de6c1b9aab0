use Rattle.gft_rules.proofs.Codes.{alone}
use Rattle.gft_rules.proofs.rule.Rule.code.Goals as goal

pub returns-clause-one_to_one : goal.returns-clause-one_to_one
returns-clause-one_to_one c = alone c.args.self.now
