use Rattle.std.proofs.Common.{◌≡◌, ◌*◌}
use Rattle.task_table.specs.model.State.{State}
use Rattle.board_model.specs.Script.{Scenario}
use Rattle.board_core.specs.Data.{boxed}
use Rattle.board_core.specs.Stands.{Stands}
use Rattle.run_cover.specs.Covered.{covered}
use Rattle.run_cover.specs.Totals.{AreAtMost, totals_in}
use Rattle.run_cover.proofs.totals.totals_in.Given as goal

abbrev pub invariant-loop-j : goal.invariant-loop-j
invariant-loop-j g l =
    let shown = boxed (λ p. (goal.Device-dyn g p).shown p.1) in
    record {
      is : (x : Scenario) (s : State) → Stands shown x l.board s → l.totals ≡ totals_in (covered s.memory l.cover) l.base l.j;
      few : AreAtMost (2 * l.j) l.totals;
    }
