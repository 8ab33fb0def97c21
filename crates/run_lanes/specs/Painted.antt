-- What a canvas has of the turns so far.
use Rattle.std.specs.Prelude.{◌≡◌, ◌≤◌, ℕ, ◌+◌, List, ◌++◌, length, vec_capacity}
use Rattle.lane_picture.specs.Drawing.{most_arrows}
use Rattle.run_lanes.specs.declared.canvas.Canvas.{Canvas}
use Rattle.run_lanes.specs.Columned.{Columned}
use Rattle.run_lanes.specs.First.{IsFirst}
use Rattle.run_lanes.specs.Pictured.{most_events}
use Rattle.run_lanes.specs.Told.{all_arrows, all_events, calls_at_end, no_calls_of}
use Rattle.run_lanes.specs.Activities.{TurnSight}

-- the turns so far, of this many tasks
pub record Painted (tasks : ℕ) (c : Canvas) (turns : List TurnSight) : Type 0 where
  pub many : c.columns.tasks ≡ tasks
  pub columns : Columned c.columns (length turns) turns
  pub calls : c.exchange.calls.items ≡ calls_at_end (no_calls_of tasks) turns
  pub arrows : IsFirst most_arrows c.exchange.arrows.kept.items (vec_capacity c.exchange.arrows.kept) c.exchange.arrows.all (all_arrows (no_calls_of tasks) turns)
  pub events : IsFirst most_events c.events.kept.items (vec_capacity c.events.kept) c.events.all (all_events turns)

-- more turns were seen; in all there are at most a thousand million
abbrev pub Paints : Canvas → List TurnSight → Canvas → Type 0
Paints c turns d = (tasks : ℕ) (front : List TurnSight) → length front + length turns ≤ 1000000000 → Painted tasks c front → Painted tasks d (front ++ turns)
