use Rattle.std.proofs.Common.{◌<◌, ◌≤◌}
use Rattle.std.specs.List.{AllWithin}
use Rattle.run_script.specs.Events.{script_data}
use Rattle.run_script.specs.Scripts.{Listed}
use Rattle.sweep_core.proofs.laying.span.Given as goal

abbrev pub invariant-loop-place : goal.invariant-loop-place
invariant-loop-place l = record {
  all : AllWithin (λ (d : Listed). d.0 < l.span) (script_data l.arrival).events 0 l.place;
  few : l.span ≤ 1000000000;
}
