use Rattle.std.proofs.Common.{◌≤◌}
use Rattle.std.specs.Io.KnownBytes.{Appends}
use Rattle.task_table.specs.model.State.{State}
use Rattle.board_model.specs.Script.{Scenario}
use Rattle.board_core.specs.Data.{boxed}
use Rattle.board_core.specs.Stands.{Stands}
use Rattle.board_run.specs.Text.{tasks_text}
use Rattle.board_run.specs.Timers.{AreFitTimers}
use Rattle.board_run.proofs.pushing.push_tasks.Given as goal

abbrev pub invariant-loop-i : goal.invariant-loop-i
invariant-loop-i g l =
    let shown = boxed (λ p. (goal.Device-dyn g p).shown p.1) in
    record {
      pushed : (x : Scenario) (s : State) → Stands shown x l.board s → Appends (g.S.Sink.seen l.fn.out).written (g.S.Sink.seen l.out).written (tasks_text s l.i);
      timers : (x : Scenario) (s : State) → Stands shown x l.board s → AreFitTimers s l.i;
      later : (g.S.Sink.seen l.fn.out).faults ≤ (g.S.Sink.seen l.out).faults;
    }
