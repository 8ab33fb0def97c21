use Rattle.std.proofs.Common.{◌≡◌, ◌-◌, ◌≤◌}
use Rattle.run_script.specs.Events.{script_data}
use Rattle.task_table.specs.model.State.{State}
use Rattle.board_model.specs.Script.{Scenario}
use Rattle.board_core.specs.Data.{boxed}
use Rattle.board_core.specs.Stands.{script_of, turns_of}
use Rattle.sweep_core.specs.Leading.{IsUnderWay}
use Rattle.sweep_core.proofs.Following.{ArePassed, HasHeard}
use Rattle.sweep_core.proofs.leader.Leader.follow.Given as goal

abbrev pub invariant-stops : goal.invariant-stops
invariant-stops g l =
    let shown = boxed (λ p. (goal.Device-dyn g p).shown p.1) in
    record {
      led : l.self.led ≡ l.fn.self.led;
      told : l.self.told ≡ l.fn.self.told;
      gone : (x : Scenario) (s : State) → IsUnderWay shown x l.over l.fn.board s → HasHeard x (script_data (script_of l.fn.board)) shown l.front s l.board l.heard;
      passed : (x : Scenario) (s : State) → (u : IsUnderWay shown x l.over l.fn.board s) → ArePassed x (script_data (script_of l.fn.board)) shown l.over u.goes l.board l.heard l.self.passed;
      here : turns_of l.board ≤ l.turn;
      within : l.turn ≤ l.limit;
    }

abbrev pub decreases-stops : goal.decreases-stops
decreases-stops g l = l.limit - l.turn
