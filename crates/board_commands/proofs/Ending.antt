-- What is in range at the end of a run.
use Rattle.std.proofs.Common.{◌≤◌, ℕ, Bool, true, false, [], length, arith}
use Rattle.task_table.specs.model.State.{State}
use Rattle.task_table.specs.model.Sane.{Sane}
use Rattle.board_model.specs.Run.{Run}
use Rattle.board_model.specs.Script.{Scenario, start_of}
use Rattle.board_core.specs.Data.{Shows}
use Rattle.board_core.specs.declared.board.Board.{Board}
use Rattle.board_core.specs.Machine.{HoldsBy}
use Rattle.board_core.specs.Stands.{Stands, notes_of, turns_of}
use Rattle.board_run.specs.Timers.{HasFitTimers}
use Rattle.trace_text.specs.Fit.{AreFit}
use Rattle.board_commands.specs.Fit.{IsFitRun}

-- a kernel has as many tasks as the setup that it stands for, and not more than it may have
few_tasks : {X : Type 0} {H : X → Type 0} {shown : Shows X H} (x : Scenario) (b : Board X H) (s : State) → Stands shown x b s → length s.tasks ≤ 512
few_tasks {X} {H} {shown} x b s st = by b.machine.loaded st.holds.machine
  where
    by : (loaded : Bool) → HoldsBy shown loaded x.setup b.machine.space b.machine.glider.runner.processor record { state = s; notes = notes_of b; writes = []; reads = [] } → length s.tasks ≤ 512
    by true h = let most = b.machine.space.kernel.few in let same = st.sane.steady.as_many in let many = h.holds.kernel.many in let count = h.holds.kernel.count in omega arith
    by false h = let most = b.machine.space.kernel.few in let count = h.kernel.count in omega arith

-- the board stands for the last state
pub run_fits : {X : Type 0} {H : X → Type 0} {shown : Shows X H} (x : Scenario) (b : Board X H) (r : Run) (n : ℕ) → Sane x.setup (start_of x) → n ≤ 1000000000 → turns_of b ≤ n → Stands shown x b r.last → HasFitTimers r.last → AreFit r.notes → IsFitRun x r
run_fits x b r n start few within st timers notes =
    let at = st.holds.turns in
    record { start = start; last = st.sane; counted = st.counted; turns = omega arith; tasks = few_tasks x b r.last st; timers = timers; notes = notes }
