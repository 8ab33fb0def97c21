-- Going on to a turn, but stopping right after the first turn that runs a task at a breakpoint.
use Rattle.std.specs.Prelude.{ℕ, ◌≡◌, ◌≤◌, ◌<◌, ◌+◌, ◌-◌, false, List, Option, Some, None}
use Rattle.board_model.specs.declared.outcomes.Turned.TheVariants.{Ran}
use Rattle.board_model.specs.Script.{Scenario}
use Rattle.board_model.specs.Turn.{turned}
use Rattle.board_core.specs.fast.Breakpoints.{is_hit, hit_of}
use Rattle.board_core.specs.Data.{Shows}
use Rattle.debug_core.specs.declared.replay.Replay.{Replay}
use Rattle.debug_core.specs.Runs.{state_at}
use Rattle.debug_core.specs.Session.{hit_in}
use Rattle.debug_core.specs.Times.{IsAt}

-- The replay went on by some turns. If the last of them was a hit, this is the task that it ran and where its
-- PC was. No turn before it was a hit.
pub record WentPast {X : Type 0} {H : X → Type 0} (shown : Shows X H) (x : Scenario) (breakpoints : List ℕ) (from : ℕ) (t : Replay X H) (hit : Option (ℕ × ℕ)) : Type 0 where
  pub last : ℕ
  pub later : from ≤ last
  pub at : IsAt shown x t (last + 1)
  pub none : (turn : ℕ) → from ≤ turn → turn < last → is_hit breakpoints (turned x (state_at x turn)) ≡ false
  pub is : hit ≡ hit_of breakpoints (turned x (state_at x last))

-- the first hit among the turns from turn `from` on to turn `to`, or to the end of the run before it
abbrev pub first_hit : Scenario → List ℕ → ℕ → ℕ → Option ℕ
first_hit x breakpoints from to = hit_in x breakpoints from ((state_at x to).turn - from)

-- either nothing was hit, and the replay is at turn `to` or at the end of the run; or it is right after the
-- first hit, which ran this task with its PC there
abbrev pub CameTo : {X : Type 0} {H : X → Type 0} → Shows X H → Scenario → List ℕ → ℕ → ℕ → Replay X H → Option (ℕ × ℕ) → Type 0
CameTo shown x breakpoints from to t None = IsAt shown x t (state_at x to).turn × (first_hit x breakpoints from to ≡ None)
CameTo shown x breakpoints from to t (Some hit) = (turn : ℕ) × IsAt shown x t (turn + 1) × (first_hit x breakpoints from to ≡ Some turn) × (turned x (state_at x turn) ≡ Ran hit.0 hit.1)
