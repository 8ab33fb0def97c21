use Rattle.std.proofs.Common.{◌*◌, ◌≤◌, take}
use Rattle.std.specs.Prelude.{fold}
use Rattle.run_script.specs.Events.{script_data}
use Rattle.run_script.specs.Scripts.{events_of}
use Rattle.task_table.specs.model.State.{Setup, Turn}
use Rattle.task_table.specs.kept.Holds.{note_count}
use Rattle.task_table.specs.kept.Limits.{syscall_notes}
use Rattle.board_model.specs.Turn.{happened}
use Rattle.board_core.specs.Machine.{MachineStands}
use Rattle.board_core.specs.Data.{boxed}
use Rattle.board_core.proofs.machine.Machine.happen_all.Given as goal

-- so far the first events have happened
abbrev pub invariant-loop-k : goal.invariant-loop-k
invariant-loop-k boxes l =
    let shown = boxed (λ p. (goal.Device-dyn boxes p).shown p.1) in
    record {
      room : note_count l.self.space.kernel ≤ syscall_notes * l.k;
      stands : (g : Setup) (t : Turn) → MachineStands shown g l.initial.self t → MachineStands shown g l.self (fold (happened g) t (take l.k (events_of (script_data l.script) l.turn)));
    }
