-- Which states a board stands for, in which run.
use Rattle.std.specs.Prelude.{ℕ, ◌≡◌, List, [], map, vec_items}
use Rattle.kernel_abi.specs.declared.Note.{Note}
use Rattle.task_table.specs.model.State.{State}
use Rattle.task_table.specs.model.Sane.{Sane, IsCounted}
use Rattle.task_table.specs.kept.Holds.{notes_of as kernel_notes, task_count}
use Rattle.run_script.specs.Events.{script_data}
use Rattle.run_script.specs.declared.script.Script.{Script}
use Rattle.run_script.specs.Scripts.{IsNext}
use Rattle.board_core.specs.declared.board.Board.{Board}
use Rattle.board_model.specs.Script.{Scenario}
use Rattle.board_core.specs.Kept.{IsChoice}
use Rattle.board_core.specs.Machine.{MachineHolds}
use Rattle.board_core.specs.fast.IoRegions.{AllIoRegions}
use Rattle.board_core.specs.Data.{Shows}

-- What a board shows whatever state it stands for: the notes of its last turn, how many turns it has made,
-- how many tasks it has.
abbrev pub notes_of : {X : Type 0} {H : X → Type 0} → Board X H → List Note
notes_of b = kernel_notes b.machine.space.kernel

abbrev pub turns_of : {X : Type 0} {H : X → Type 0} → Board X H → ℕ
turns_of b = b.turns

abbrev pub count_of : {X : Type 0} {H : X → Type 0} → Board X H → ℕ
count_of b = task_count b.machine.space.kernel

-- its script
abbrev pub script_of : {X : Type 0} {H : X → Type 0} → Board X H → Script
script_of b = b.script

-- The board's machine, turn number and choice are those of the state. Its script is that of the run. It knows
-- the next turn in which something happens, and which devices each task may read.
pub record Holds {X : Type 0} {H : X → Type 0} (shown : Shows X H) (x : Scenario) (b : Board X H) (s : State) : Type 0 where
  pub machine : MachineHolds shown x.setup b.machine record { state = s; notes = notes_of b; writes = []; reads = [] }
  pub turns : b.turns ≡ s.turn
  pub choice : IsChoice x.setup s b.choice
  pub script : script_data b.script ≡ x.script
  pub due : IsNext x.script s.turn b.due
  pub io_regions : AllIoRegions x.setup (map vec_items b.io_regions.items)

-- and the state is sane, and its counts are ones that a run can reach
pub record Stands {X : Type 0} {H : X → Type 0} (shown : Shows X H) (x : Scenario) (b : Board X H) (s : State) : Type 0 where
  pub holds : Holds shown x b s
  pub sane : Sane x.setup s
  pub counted : IsCounted s

-- it stands for some state of some run
abbrev pub StandsForSome : {X : Type 0} {H : X → Type 0} → Shows X H → Board X H → Type 0
StandsForSome shown b = (x : Scenario) × (s : State) × Stands shown x b s
