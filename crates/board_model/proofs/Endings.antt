-- The tests for the end of a run.
use Rattle.std.proofs.Common.{◌≡◌, ◌<◌, ℕ, Bool, true, false, not, ◌&&◌, Option, refl, arith, eqb}
use Rattle.std.specs.Prelude.{is_none}
use Rattle.std.proofs.lemmas.Bool.Decides.{nat_tests}
use Rattle.task_table.specs.model.State.{State}
use Rattle.task_table.specs.model.Reading.{chosen}
use Rattle.run_script.specs.Scripts.{ScriptData, lasts}
use Rattle.board_model.specs.Script.{Scenario}
use Rattle.board_model.specs.Run.{ending, end_by, is_down, is_still, end_in, end_at}

pub still_is : (x : Scenario) (s : State) (next : Option ℕ) (script : ScriptData) (turn : ℕ) (b : Bool) → b ≡ (is_none next && not (lasts script turn)) → next ≡ chosen x.setup s → script ≡ x.script → turn ≡ s.turn → b ≡ is_still x s
still_is x s next script turn b e chosen script_is turn_is = rw (← chosen, ← script_is, ← turn_is) e

not_zero : (left : ℕ) → 0 < left → eqb left 0 ≡ false
not_zero left h = grind (arith, nat_tests)

pub before_bound : (x : Scenario) (s : State) (left : ℕ) → 0 < left → end_at x s ≡ ending x left s
unfolding ending
before_bound x s left h = by_down (is_down s)
  where
    by_down : (d : Bool) → end_in d (is_still x s) ≡ end_by d left (is_still x s)
    by_down true = refl
    by_down false = rw (not_zero left h) refl
