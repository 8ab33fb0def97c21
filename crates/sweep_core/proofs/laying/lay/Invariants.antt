use Rattle.std.proofs.Common.{ℕ}
use Rattle.run_script.specs.Events.{script_data}
use Rattle.run_script.specs.Laying.{HasRoom}
use Rattle.board_model.proofs.Arrivals.{IsLaidSoFar}
use Rattle.sweep_core.proofs.laying.lay.Given as goal

abbrev pub invariant-loop-place : goal.invariant-loop-place
invariant-loop-place l = record {
  laid : IsLaidSoFar (script_data l.laid) (script_data l.script) (script_data l.arrival).events l.time l.place;
  room : (n : ℕ) → HasRoom l.fn.laid n → HasRoom l.laid n;
}
