use Rattle.std.proofs.Common.{◌≡◌, ◌+◌, ◌-◌, ◌*◌, replicate}
use Rattle.run_script.specs.Events.{script_data}
use Rattle.run_script.specs.Scripts.{with_series}
use Rattle.run_script.proofs.draft.add_repeats.Given as goal

abbrev pub invariant-loop-k : goal.invariant-loop-k
invariant-loop-k l = record {
  turn : l.turn ≡ l.first + l._k * l.step;
  same : with_series (script_data l.fn.script) l.first l.step (replicate l.times l.event) ≡ with_series (script_data l.script) l.turn l.step (replicate (l.times - l._k) l.event);
}
