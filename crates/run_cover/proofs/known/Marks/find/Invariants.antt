use Rattle.task_table.specs.model.State.{State}
use Rattle.board_model.specs.Script.{Scenario}
use Rattle.board_core.specs.Data.{boxed}
use Rattle.board_core.specs.Stands.{Stands}
use Rattle.run_cover.specs.Counted.{count_of}
use Rattle.run_cover.specs.Marked.{AreMarks, work}
use Rattle.run_cover.proofs.Knowing.{IsOnTheWay}
use Rattle.run_cover.proofs.known.Marks.find.Given as goal

abbrev pub decreases-loop-addr : goal.decreases-loop-addr
decreases-loop-addr g l = work l.self

abbrev pub invariant-loop-addr : goal.invariant-loop-addr
invariant-loop-addr g l =
    let shown = boxed (λ p. (goal.Device-dyn g p).shown p.1) in
    record {
      marks : AreMarks l.self;
      known : (x : Scenario) (s : State) → Stands shown x l.board s → IsOnTheWay x.setup s.memory (count_of l.counts) l.self;
    }
