use Rattle.std.proofs.Common.{◌≡◌, ◌<◌, ◌+◌, ◌*◌, ℕ, false}
use Rattle.task_table.specs.model.State.{State}
use Rattle.board_model.specs.Script.{Scenario}
use Rattle.board_core.specs.Data.{boxed}
use Rattle.board_core.specs.Stands.{Stands}
use Rattle.run_cover.specs.Covered.{covered}
use Rattle.run_cover.specs.Text.{is_taken_up}
use Rattle.run_cover.proofs.listing.rest_len.Given as goal

abbrev pub invariant-loop-i : goal.invariant-loop-i
invariant-loop-i g l =
    let shown = boxed (λ p. (goal.Device-dyn g p).shown p.1) in
    (x : Scenario) (s : State) → Stands shown x l.board s → (j : ℕ) → j < l.i → is_taken_up (covered s.memory l.cover) (l.addr + 2 * j) ≡ false
