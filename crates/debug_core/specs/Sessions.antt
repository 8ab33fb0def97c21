-- Which session a debugger holds.
use Rattle.std.specs.Prelude.{◌≡◌}
use Rattle.board_model.specs.Script.{Scenario}
use Rattle.board_core.specs.Data.{Shows}
use Rattle.debug_core.specs.declared.debugger.Debugger.{Debugger}
use Rattle.debug_core.specs.Session.{Session}
use Rattle.debug_core.specs.Times.{IsAt}

-- the debugger's run is at the cursor of the session, its breakpoints are those of the session, and it is over if
-- the session is
pub record IsSession {X : Type 0} {H : X → Type 0} (shown : Shows X H) (x : Scenario) (d : Debugger X H) (s : Session) : Type 0 where
  pub at : IsAt shown x d.replay s.cursor
  pub breakpoints : d.breakpoints.items ≡ s.breakpoints
  pub over : d.is_over ≡ s.is_over
