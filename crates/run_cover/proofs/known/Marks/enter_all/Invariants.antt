use Rattle.task_table.specs.model.State.{State}
use Rattle.board_model.specs.Script.{Scenario}
use Rattle.board_core.specs.Data.{boxed}
use Rattle.board_core.specs.Stands.{Stands}
use Rattle.run_cover.specs.Known.{HaveEntered}
use Rattle.run_cover.specs.Marked.{AreMarks}
use Rattle.run_cover.proofs.known.Marks.enter_all.Given as goal

abbrev pub invariant-loop-task : goal.invariant-loop-task
invariant-loop-task g l =
    let shown = boxed (λ p. (goal.Device-dyn g p).shown p.1) in
    record {
      marks : AreMarks l.self;
      entered : (x : Scenario) (s : State) → Stands shown x l.board s → HaveEntered x.setup s.memory l.task l.fn.self l.self;
    }
