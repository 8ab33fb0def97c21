use Rattle.std.proofs.Common.{◌≡◌, ◌≤◌, ◌+◌, ◌-◌, ◌++◌, ℕ, List, length}
use Rattle.run_lanes.specs.Columned.{Columned}
use Rattle.run_lanes.specs.Activities.{TurnSight, idle_turns}
use Rattle.run_lanes.proofs.columns.Columns.add_idle.Given as goal

abbrev pub invariant-columns : goal.invariant-columns
invariant-columns l = record {
  left : l.left ≤ l.turns;
  tasks : l.self.tasks ≡ l.fn.self.tasks;
  added : (turn : ℕ) (front : List TurnSight) → length front + l.turns ≤ 1000000000 → Columned l.fn.self (length front) front → Columned l.self (length front + (l.turns - l.left)) (front ++ idle_turns turn (l.turns - l.left) l.activities);
}

abbrev pub decreases-columns : goal.decreases-columns
decreases-columns l = l.left
