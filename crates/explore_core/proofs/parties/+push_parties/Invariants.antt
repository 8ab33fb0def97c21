use Rattle.std.proofs.Common.{◌-◌, length}
use Rattle.explore_core.proofs.parties.+push_parties.Given as goal

abbrev pub decreases-push_parties : goal.decreases-push_parties
decreases-push_parties l = length l.arrivals.now - l.place
