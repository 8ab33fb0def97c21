use Rattle.std.proofs.Common.{◌≡◌, map}
use Rattle.run_question.specs.Questions.{arrival_data}
use Rattle.explore_core.specs.Parties.{party_of}
use Rattle.explore_core.proofs.Party.{parties_below}
use Rattle.explore_core.proofs.parties.all_parties.Given as goal

abbrev pub invariant-loop-some : goal.invariant-loop-some
invariant-loop-some l = map (party_of (map arrival_data l.arrivals)) l.list.items ≡ parties_below (map arrival_data l.arrivals) l.some
