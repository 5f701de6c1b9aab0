-- How deep calls may nest falls with each of them.
use Rattle.gft_oper.proofs.machine.Machine.+walk.Given as goal

abbrev pub decreases-run : goal.decreases-run
decreases-run l = l.fuel

abbrev pub decreases-body : goal.decreases-body
decreases-body l = l.fuel

abbrev pub decreases-extend : goal.decreases-extend
decreases-extend l = l.fuel

abbrev pub decreases-applied : goal.decreases-applied
decreases-applied l = l.fuel

abbrev pub decreases-feed : goal.decreases-feed
decreases-feed l = l.fuel

abbrev pub decreases-data : goal.decreases-data
decreases-data l = l.fuel

abbrev pub decreases-all : goal.decreases-all
decreases-all l = l.fuel

abbrev pub decreases-fields : goal.decreases-fields
decreases-fields l = l.fuel

abbrev pub decreases-matched : goal.decreases-matched
decreases-matched l = l.fuel

abbrev pub decreases-branches : goal.decreases-branches
decreases-branches l = l.fuel

abbrev pub decreases-both : goal.decreases-both
decreases-both l = l.fuel

abbrev pub decreases-parts : goal.decreases-parts
decreases-parts l = l.fuel
