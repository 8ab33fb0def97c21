use Rattle.std.proofs.Common.{◌≡◌, ◌<◌, ℕ, length, get_or}
use Rattle.task_table.specs.model.State.{State}
use Rattle.task_table.specs.model.Reading.{line_at}
use Rattle.board_model.specs.Alike.{reduced}
use Rattle.board_model.specs.Script.{Scenario}
use Rattle.board_core.specs.Data.{boxed}
use Rattle.board_core.specs.Stands.{Stands}
use Rattle.snapshot.specs.Saved.{line_number}
use Rattle.snapshot.proofs.saving.lines_of.Given as goal

abbrev pub invariant-loop-k : goal.invariant-loop-k
invariant-loop-k boxes l =
    let shown = boxed (λ p. (goal.Device-dyn boxes p).shown p.1) in
    record {
      long : length l.lines ≡ 64;
      filled : (x : Scenario) (s : State) → Stands shown x l.board s → (k : ℕ) → k < l.k → get_or l.lines k 0 ≡ line_number (line_at (reduced s) k);
    }
