-- A turn between its events and what the chosen task does.
use Rattle.std.specs.Prelude.{◌+◌, ◌≡◌, map, vec_items}
use Rattle.task_table.specs.model.State.{State}
use Rattle.task_table.specs.model.Start.{begun}
use Rattle.task_table.specs.model.Sane.{IsCounted}
use Rattle.task_table.specs.kept.Holds.{note_count}
use Rattle.run_script.specs.Events.{script_data}
use Rattle.run_script.specs.Scripts.{IsNext}
use Rattle.board_core.specs.declared.board.Board.{Board}
use Rattle.board_model.specs.Script.{Scenario}
use Rattle.board_model.specs.Turn.{after_events}
use Rattle.board_core.specs.Kept.{IsChoice, WasChoice}
use Rattle.board_core.specs.Machine.{MachineStands}
use Rattle.board_core.specs.fast.IoRegions.{AllIoRegions}
use Rattle.board_core.specs.Data.{Shows}

-- the board before the events of the turn: it has no notes yet
pub record IsDue {X : Type 0} {H : X → Type 0} (shown : Shows X H) (x : Scenario) (b : Board X H) (s : State) : Type 0 where
  pub machine : MachineStands shown x.setup b.machine (begun s)
  pub turns : b.turns ≡ s.turn
  pub choice : WasChoice x.setup b.choice
  pub script : script_data b.script ≡ x.script
  pub io_regions : AllIoRegions x.setup (map vec_items b.io_regions.items)
  pub counted : IsCounted s
  pub nothing : note_count b.machine.space.kernel ≡ 0

-- the board after the events of the turn: it has chosen again, and knows the next turn in which something
-- happens
pub record IsMidway {X : Type 0} {H : X → Type 0} (shown : Shows X H) (x : Scenario) (b : Board X H) (s : State) : Type 0 where
  pub machine : MachineStands shown x.setup b.machine (after_events x s)
  pub choice : IsChoice x.setup (after_events x s).state b.choice
  pub script : script_data b.script ≡ x.script
  pub io_regions : AllIoRegions x.setup (map vec_items b.io_regions.items)
  pub due : IsNext x.script (s.turn + 1) b.due
