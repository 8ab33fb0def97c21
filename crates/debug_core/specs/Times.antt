-- A run that goes forwards and back: at which turn of the run the board is, and the checkpoints that were
-- saved on the way.
use Rattle.std.specs.Prelude.{ℕ, ◌≡◌, ◌≤◌, ◌&&◌, nat_le, if◌then◌else◌, List, length, Option, Some, None}
use Rattle.std.specs.List.{All, HoldsAt}
use Rattle.task_table.specs.model.State.{State}
use Rattle.task_table.specs.model.Sane.{Sane, IsCounted}
use Rattle.board_model.specs.Alike.{reduced}
use Rattle.board_model.specs.Script.{Scenario, start_of}
use Rattle.board_core.specs.Data.{Shows}
use Rattle.board_core.specs.Stands.{Stands}
use Rattle.snapshot.specs.Saved.{SpellsState}
use Rattle.debug_core.specs.declared.replay.Checkpoint.{Checkpoint}
use Rattle.debug_core.specs.declared.replay.Replay.{Replay}
use Rattle.debug_core.specs.Runs.{most_turns, state_at}

-- the bytes are the saved state of a board that is at this turn of the run
pub record IsSaved (x : Scenario) (turn : ℕ) (bytes : List ℕ) : Type 0 where
  pub spelled : SpellsState x.setup (reduced (state_at x turn)) bytes
  pub counted : IsCounted (reduced (state_at x turn))
  pub reached : (state_at x turn).turn ≡ turn
  pub most : turn ≤ most_turns

-- The later one of two checkpoints, as its place and its turn. The second one counts only if it is in use and
-- is of turn `to` or earlier.
abbrev pub later_of : ℕ → ℕ × ℕ → ℕ → Option ℕ → ℕ × ℕ
later_of to best place None = best
later_of to best place (Some turn) = if nat_le best.1 turn && nat_le turn to then (place, turn) else best

-- a checkpoint is free, or it is of a turn of the run
abbrev pub IsFree : Checkpoint → Type 0
IsFree c = c.turn ≡ None

abbrev pub IsKept : Scenario → Checkpoint → Type 0
IsKept x c = (turn : ℕ) → c.turn ≡ Some turn → IsSaved x turn c.bytes.items

-- The board is at a turn that the run reaches. It stands for a state that equals the run's state there, with
-- births modulo 64. The first checkpoint is of the start.
pub record IsAt {X : Type 0} {H : X → Type 0} (shown : Shows X H) (x : Scenario) (t : Replay X H) (turn : ℕ) : Type 0 where
  pub state : (u : State) × Stands shown x t.board u × (reduced u ≡ reduced (state_at x turn))
  pub reached : (state_at x turn).turn ≡ turn
  pub most : turn ≤ most_turns
  pub start : Sane x.setup (start_of x)
  pub count : length t.kept.items ≡ 64
  pub kept : All (IsKept x) t.kept.items
  pub first : HoldsAt (λ c. c.turn ≡ Some 0) t.kept.items 0
