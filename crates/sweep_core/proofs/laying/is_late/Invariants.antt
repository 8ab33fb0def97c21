use Rattle.std.proofs.Common.{◌≡◌, false, take}
use Rattle.run_script.specs.Events.{script_data}
use Rattle.sweep_core.specs.Swept.{is_late}
use Rattle.sweep_core.proofs.laying.is_late.Given as goal

abbrev pub invariant-loop-place : goal.invariant-loop-place
invariant-loop-place l = is_late (take l.place (script_data l.arrival).events) l.time l.limit ≡ false
