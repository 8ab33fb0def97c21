use Rattle.std.proofs.Common.{◌≡◌, ◌*◌, take}
use Rattle.task_table.specs.model.State.{State}
use Rattle.board_model.specs.Script.{Scenario}
use Rattle.board_core.specs.Data.{boxed}
use Rattle.board_core.specs.Stands.{Stands}
use Rattle.run_cover.specs.Counted.{count_of}
use Rattle.run_cover.specs.Totals.{AreAtMost}
use Rattle.run_cover.specs.Tracefile.{source_totals}
use Rattle.run_cover.proofs.tracefile.source_totals.Given as goal

abbrev pub invariant-loop-line : goal.invariant-loop-line
invariant-loop-line g l =
    let shown = boxed (λ p. (goal.Device-dyn g p).shown p.1) in
    record {
      is : (x : Scenario) (s : State) → Stands shown x l.board s → l.totals ≡ source_totals s.memory (count_of l.counts) (take l.line-index l.lines);
      few : AreAtMost (2 * l.line-index) l.totals;
    }
