-- Pushing a text about a board.
use Rattle.std.specs.Prelude.{ℕ, List, Result}
use Rattle.outside_io.specs.Outside.{Pushes}
use Rattle.outside_io.specs.Seen.{SinkSeen}
use Rattle.outside_io.specs.declared.traits.Failed.{Failed}
use Rattle.task_table.specs.model.State.{State}
use Rattle.board_model.specs.Script.{Scenario}
use Rattle.board_core.specs.declared.board.Board.{Board}
use Rattle.board_core.specs.Data.{Shows}
use Rattle.board_core.specs.Stands.{Stands}

-- For each state for which the board stands, the text of that state is pushed.
abbrev pub PushesFor : {X : Type 0} {H : X → Type 0} → Shows X H → Board X H → (Scenario → State → List ℕ) → SinkSeen → SinkSeen → Result Unit Failed → Type 0
PushesFor shown board text before after result = (x : Scenario) (s : State) → Stands shown x board s → Pushes before.written after.written (text x s) result
