use Rattle.std.proofs.Common.{◌≡◌, ◌+◌, ◌*◌, drop, map}
use Rattle.run_script.specs.declared.events.Event.TheVariants.{Feed}
use Rattle.run_script.specs.Events.{script_data}
use Rattle.run_script.specs.Scripts.{with_series}
use Rattle.run_script.proofs.draft.add_bytes.Given as goal

abbrev pub invariant-loop-byte : goal.invariant-loop-byte
invariant-loop-byte l = record {
  turn : l.turn ≡ l.first + l.byte-index * l.step;
  same : with_series (script_data l.fn.script) l.first l.step (map (λ byte. Feed l.fn.device byte) l.bytes) ≡ with_series (script_data l.script) l.turn l.step (map (λ byte. Feed l.fn.device byte) (drop l.byte-index l.bytes));
}
