-- Searches over the turns of a run: what was found, and where the replay is afterwards.
use Rattle.std.specs.Prelude.{ℕ, ◌≡◌, ◌≤◌, ◌<◌, ◌+◌, ◌-◌, Option, Some, None}
use Rattle.board_model.specs.Script.{Scenario}
use Rattle.board_core.specs.Data.{Shows}
use Rattle.debug_core.specs.declared.answer.Answer.{Answer}
use Rattle.debug_core.specs.declared.command.Sought.{Sought}
use Rattle.debug_core.specs.declared.replay.Replay.{Replay}
use Rattle.debug_core.specs.Runs.{state_at}
use Rattle.debug_core.specs.Searched.{first_found, found, last_found}
use Rattle.debug_core.specs.Times.{IsAt}

-- The replay went on by some turns. This is what is found in the last of them. Nothing is found in a turn
-- before it.
pub record WentFor {X : Type 0} {H : X → Type 0} (shown : Shows X H) (x : Scenario) (what : Sought) (from : ℕ) (t : Replay X H) (answer : Option Answer) : Type 0 where
  pub last : ℕ
  pub later : from ≤ last
  pub at : IsAt shown x t (last + 1)
  pub none : (turn : ℕ) → from ≤ turn → turn < last → found x what turn ≡ None
  pub is : answer ≡ found x what last

-- The replay went on to turn `to`, or to the end of the run before it, but no further than right after the
-- first turn in which something is found.
abbrev pub CameFor : {X : Type 0} {H : X → Type 0} → Shows X H → Scenario → Sought → ℕ → ℕ → Replay X H → Option Answer → Type 0
CameFor shown x what from to t None = IsAt shown x t (state_at x to).turn × (first_found x what from ((state_at x to).turn - from) ≡ None)
CameFor shown x what from to t (Some answer) = (turn : ℕ) × IsAt shown x t (turn + 1) × (first_found x what from ((state_at x to).turn - from) ≡ Some turn) × (found x what turn ≡ Some answer)

-- the last turn before turn `to` in which something is found, and what is found there; the run reaches turn
-- `to`
abbrev pub IsLastFound : Scenario → Sought → ℕ → ℕ → Option (ℕ × Answer) → Type 0
IsLastFound x what from to None = last_found x what from (to - from) ≡ None
IsLastFound x what from to (Some last) = (last_found x what from (to - from) ≡ Some last.0) × (found x what last.0 ≡ Some last.1)

-- The replay went back to turn `low`, but no further than right before the last turn in which something is
-- found.
abbrev pub WentBackFor : {X : Type 0} {H : X → Type 0} → Shows X H → Scenario → Sought → ℕ → ℕ → Replay X H → Option Answer → Type 0
WentBackFor shown x what low from t None = IsAt shown x t low × (last_found x what low (from - low) ≡ None)
WentBackFor shown x what low from t (Some answer) = (turn : ℕ) × IsAt shown x t turn × (last_found x what low (from - low) ≡ Some turn) × (found x what turn ≡ Some answer)
