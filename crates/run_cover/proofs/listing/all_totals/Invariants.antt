use Rattle.std.proofs.Common.{◌≡◌, ◌*◌}
use Rattle.task_table.specs.model.State.{State}
use Rattle.board_model.specs.Script.{Scenario}
use Rattle.board_core.specs.Data.{boxed}
use Rattle.board_core.specs.Stands.{Stands}
use Rattle.run_cover.specs.Covered.{covered}
use Rattle.run_cover.specs.Text.{all_totals}
use Rattle.run_cover.specs.Totals.{AreAtMost}
use Rattle.run_cover.proofs.listing.all_totals.Given as goal

abbrev pub invariant-loop-i : goal.invariant-loop-i
invariant-loop-i g l =
    let shown = boxed (λ p. (goal.Device-dyn g p).shown p.1) in
    record {
      is : (x : Scenario) (s : State) → Stands shown x l.board s → l.totals ≡ all_totals x.setup (covered s.memory l.cover) l.i;
      few : AreAtMost (1048576 * l.i) l.totals;
    }
