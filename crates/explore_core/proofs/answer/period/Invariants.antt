use Rattle.std.proofs.Common.{◌-◌, ◌<◌, ◌≤◌}
use Rattle.run_script.specs.Events.{script_data}
use Rattle.explore_core.proofs.Periods.{NoneBelow}
use Rattle.explore_core.proofs.answer.period.Given as goal

abbrev pub invariant-turns : goal.invariant-turns
invariant-turns l = record {
  none : NoneBelow (script_data l.script).every l.from;
  some : 0 < l.from;
  most : l.from ≤ 1000000000;
}

abbrev pub decreases-turns : goal.decreases-turns
decreases-turns l = 1000000000 - l.from
