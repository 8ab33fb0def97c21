-- What a board keeps of a state between turns.
use Rattle.std.specs.Prelude.{◌≡◌}
use Rattle.task_table.specs.model.State.{Setup, State}
use Rattle.task_table.specs.model.Reading.{chosen, is_ready}
use Rattle.task_table.specs.kept.Order.{AreAtPlaces}
use Rattle.task_table.specs.declared.order.Order.{Order}
use Rattle.task_table.specs.model.Sane.{Sane}
use Rattle.board_core.specs.declared.choice.Choice.{Choice}
use Rattle.board_model.specs.Run.{is_down}

-- the kept choice is that of the state, and it has the tasks that are ready in the state by their places
pub record IsChoice (g : Setup) (s : State) (c : Choice) : Type 0 where
  pub next : c.next ≡ chosen g s
  pub order : Order
  pub ready : AreAtPlaces g.tasks order c.ready.words (is_ready s)
  pub down : c.down ≡ is_down s

-- it was the choice of some sane state
abbrev pub WasChoice : Setup → Choice → Type 0
WasChoice g c = (s : State) × Sane g s × IsChoice g s c
