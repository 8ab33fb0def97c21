use Rattle.std.proofs.Common.{◌≡◌, ◌++◌, map, take, drop}
use Rattle.std.specs.List.{All}
use Rattle.task_table.specs.model.State.{State}
use Rattle.board_model.specs.Script.{Scenario}
use Rattle.board_core.specs.Data.{boxed}
use Rattle.explore_core.specs.declared.watch.Watched.{Watched}
use Rattle.explore_core.specs.Made.{IsMade}
use Rattle.explore_core.specs.Watching.{stepped_in}
use Rattle.explore_core.proofs.judging.judge_turn.Given as goal

abbrev pub invariant-loop-one : goal.invariant-loop-one
invariant-loop-one g l =
    let shown = boxed (λ p. (goal.Device-dyn g p).shown p.1) in
    (x : Scenario) (s : State) → All (λ (w : Watched). IsMade shown x w.property w.before l.made l.board s) l.fn.watched →
    l.watched ≡ map (stepped_in x s) (take l.one-index l.fn.watched) ++ drop l.one-index l.fn.watched
