use Rattle.std.proofs.Common.{◌≤◌}
use Rattle.std.specs.Io.KnownBytes.{Appends}
use Rattle.task_table.specs.model.State.{State}
use Rattle.board_model.specs.Script.{Scenario}
use Rattle.board_core.specs.Data.{boxed}
use Rattle.board_core.specs.Stands.{Stands}
use Rattle.board_run.specs.MemoryText.{rows_text}
use Rattle.board_run.proofs.memory.push_rows.Given as goal

abbrev pub invariant-loop-k : goal.invariant-loop-k
invariant-loop-k g l =
    let shown = boxed (λ p. (goal.Device-dyn g p).shown p.1) in
    record {
      pushed : (x : Scenario) (s : State) → Stands shown x l.board s → Appends (g.S.Sink.seen l.fn.out).written (g.S.Sink.seen l.out).written (rows_text s.memory l.base l.k);
      later : (g.S.Sink.seen l.fn.out).faults ≤ (g.S.Sink.seen l.out).faults;
    }
