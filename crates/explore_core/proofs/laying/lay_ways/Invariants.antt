use Rattle.std.proofs.Common.{◌+◌, ℕ, length}
use Rattle.run_script.specs.Events.{script_data}
use Rattle.run_script.specs.Laying.{HasRoom}
use Rattle.explore_core.proofs.Chosen.{events_behind}
use Rattle.explore_core.proofs.Listing.{IsLaidBefore}
use Rattle.explore_core.proofs.laying.lay_ways.Given as goal

abbrev pub invariant-loop-place : goal.invariant-loop-place
invariant-loop-place l = record {
  laid : IsLaidBefore (script_data l.laid) (script_data l.script) (events_behind l.arrivals l.ways l.place) (events_behind l.arrivals l.ways 0);
  place : HasRoom l.laid (length (script_data l.laid).events + length (events_behind l.arrivals l.ways l.place));
  room : (n : ℕ) → HasRoom l.fn.laid n → HasRoom l.laid n;
}
