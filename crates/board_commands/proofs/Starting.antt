-- The run from the start.
use Rattle.std.proofs.Common.{◌≡◌, ℕ, ◌-◌, ◌++◌, ap, arith}
use Rattle.board_core.specs.Data.{Shows}
use Rattle.board_core.specs.declared.board.Board.{Board}
use Rattle.board_model.specs.declared.outcomes.Level.{Level}
use Rattle.board_model.specs.Run as board
use Rattle.board_model.specs.Script.{Scenario, start_of}
use Rattle.board_core.specs.Stands.{Stands, turns_of}
use Rattle.board_run.specs.Text.{trace_text}
use Rattle.command_line.specs.declared.job.Detail.{Detail}
use Rattle.board_commands.specs.Verdict.{level_of, memory_if, ran, resumed, run_of}
use Rattle.command_files.specs.Verdict.{line_alone, status_of}

pub from_start : {X : Type 0} {H : X → Type 0} {shown : Shows X H} (level : Level) (x : Scenario) (b : Board X H) (n : ℕ) → Stands shown x b (start_of x) → turns_of b ≡ 0 → board.run level x (n - (start_of x).turn) (start_of x) ≡ run_of level n x
from_start level x b n st none =
    let at : turns_of b ≡ (start_of x).turn = st.holds.turns in
    let e : n - (start_of x).turn ≡ n = omega arith in
    ap (λ (k : ℕ). board.run level x k (start_of x)) e

-- so is what is told of it
pub told_from_start : {X : Type 0} {H : X → Type 0} {shown : Shows X H} (n : ℕ) (detail : Detail) (x : Scenario) (b : Board X H) → Stands shown x b (start_of x) → turns_of b ≡ 0 → resumed n detail x (start_of x) ≡ ran n detail x
told_from_start n detail x b st none =
    ap (λ (r : board.Run). line_alone (status_of r.end) (trace_text r ++ memory_if detail.memory x.setup r.last)) (from_start (level_of detail) x b n st none)
