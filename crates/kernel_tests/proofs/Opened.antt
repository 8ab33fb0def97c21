-- A board that was opened stands for the start of its run.
use Rattle.std.proofs.Common.{◌≡◌, ◌≤◌, true, length, arith, lt-ltb}
use Rattle.std.specs.Prelude.{Result, Ok, Err, IfOk}
use Rattle.mem_banks.specs.Memory.{is_held}
use Rattle.task_table.specs.model.State.{State}
use Rattle.task_table.specs.model.Start.{start}
use Rattle.board_core.specs.Data.{Shows}
use Rattle.board_core.specs.declared.board.Board.{Board}
use Rattle.board_model.specs.Script.{Scenario, start_of}
use Rattle.board_core.specs.Stands.{Holds, Stands, StandsForSome}

module _ {X : Type 0} {H : X → Type 0} {E : Type 0} (shown : Shows X H) (x : Scenario) where
  pub some_stands : (s : State) (r : Result (Board X H) E) → IfOk r (λ b. Stands shown x b s) → IfOk r (StandsForSome shown)
  some_stands s (Ok b) h = (x, s, h)
  some_stands s (Err e) h = tt

  -- it holds the first byte of its flash
  pub some_held : (r : Result (Board X H) E) → 1 ≤ length x.setup.flash → IfOk r (λ b. Stands shown x b (start_of x)) → IfOk r (λ b. (y : Scenario) × (s : State) × Holds shown y b s × (is_held s.memory 0x08000000 ≡ true))
  unfolding start
  some_held (Ok b) some h = (x, start_of x, h.holds, lt-ltb 0 (length x.setup.flash) (omega (arith, some)))
  some_held (Err e) some h = tt
