use Rattle.std.proofs.Common.{◌≡◌, ◌++◌, map, take, drop}
use Rattle.std.specs.List.{All}
use Rattle.task_table.specs.model.State.{State}
use Rattle.board_model.specs.Script.{Scenario}
use Rattle.board_core.specs.Data.{boxed}
use Rattle.board_core.specs.Stands.{Stands}
use Rattle.explore_core.specs.declared.watch.Watched.{Watched}
use Rattle.explore_core.specs.There.{AreThere}
use Rattle.explore_core.specs.Watching.{begun_in}
use Rattle.explore_core.proofs.judging.judge_start.Given as goal

abbrev pub invariant-loop-one : goal.invariant-loop-one
invariant-loop-one g l =
    let shown = boxed (λ p. (goal.Device-dyn g p).shown p.1) in
    (x : Scenario) (s : State) → Stands shown x l.board s → All (λ (w : Watched). AreThere w.property s) l.fn.watched →
    l.watched ≡ map (begun_in s) (take l.one-index l.fn.watched) ++ drop l.one-index l.fn.watched
