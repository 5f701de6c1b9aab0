use Rattle.std.proofs.Common.{◌-◌}
use Rattle.gft_chart.proofs.items.Items.saturate.Given as goal

abbrev pub decreases-agenda : goal.decreases-agenda
decreases-agenda l = 4294967295 - l.at
