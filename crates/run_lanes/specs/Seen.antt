-- In the middle of a run that is watched. The turns so far were seen, and the run goes on from a state for
-- which the board stands.
use Rattle.std.specs.Prelude.{◌≡◌, ℕ, ◌+◌, List, ◌++◌, length}
use Rattle.task_table.specs.model.State.{State}
use Rattle.board_core.specs.declared.board.Board.{Board}
use Rattle.board_core.specs.Data.{Shows}
use Rattle.board_core.specs.Stands.{Stands}
use Rattle.board_model.specs.declared.outcomes.Level.TheVariants.{Calls}
use Rattle.board_model.specs.Script.{Scenario}
use Rattle.board_model.specs.Run.{Run, run}
use Rattle.run_lanes.specs.Activities.{TurnSight, sights}

-- what is said of a watcher and its output, said of the pair
abbrev pub Paired : {W O : Type 0} → (W → O → List TurnSight → W → O → Type 0) → W × O → List TurnSight → W × O → Type 0
Paired says p turns q = says p.0 p.1 turns q.0 q.1

-- two runs end in the same way
pub record EndsAlike (r q : Run) : Type 0 where
  pub last : r.last ≡ q.last
  pub end : r.end ≡ q.end

pub record HasWatched {W : Type 0} {X : Type 0} {H : X → Type 0} (shown : Shows X H) (saw : W → List TurnSight → W → Type 0) (x : Scenario) (w w' : W) (s : State) (b : Board X H) : Type 0 where
  pub front : List TurnSight
  pub here : State
  pub stands : Stands shown x b here
  pub at : here.turn ≡ s.turn + length front
  pub told : saw w front w'
  -- however many turns are left
  pub rest : (left : ℕ) → sights x (length front + left) s ≡ front ++ sights x left here
  pub ends : (left : ℕ) → EndsAlike (run Calls x (length front + left) s) (run Calls x left here)

-- A watcher failed in a run of at most this many turns. The turns so far are the first ones of the run, and
-- it failed at the last of them.
pub record BreaksSeeing {W : Type 0} (broke : W → List TurnSight → W → Type 0) (x : Scenario) (left : ℕ) (s : State) (w w' : W) : Type 0 where
  pub front : List TurnSight
  pub rest : List TurnSight
  pub whole : sights x left s ≡ front ++ rest
  pub broken : broke w front w'
