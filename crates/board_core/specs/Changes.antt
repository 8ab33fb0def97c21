-- What a turn changes of a byte of memory.
use Rattle.std.specs.Prelude.{ℕ, ◌==◌, Option, Some, None, if◌then◌else◌}
use Rattle.std.specs.Option.{option_map}
use Rattle.mem_banks.specs.Memory.{byte_at}
use Rattle.task_table.specs.model.State.{State}
use Rattle.board_model.specs.declared.outcomes.Level.TheVariants.{Calls}
use Rattle.board_model.specs.declared.outcomes.Turned.{Turned}
use Rattle.board_model.specs.declared.outcomes.Turned.TheVariants.{Idle, Ran}
use Rattle.board_model.specs.Script.{Scenario}
use Rattle.board_model.specs.Turn.{turn, turned}
use Rattle.board_core.specs.declared.changes.Change.{Change}

-- what a byte was and what it is, if the two differ
abbrev pub change_of : Option ℕ → Option ℕ → Option (ℕ × ℕ)
change_of (Some old) (Some new) = if old == new then None else Some (old, new)
change_of _ _ = None

-- the task that a turn ran
abbrev pub runner_of : Turned → Option ℕ
runner_of Idle = None
runner_of (Ran task at) = Some task

-- the change of a byte in a turn that ran this task; none if the byte stayed
abbrev pub change_by : Option ℕ → Option ℕ → Option ℕ → Option Change
change_by task before after = option_map (λ change. record { task = task; old = change.0; new = change.1 }) (change_of before after)

-- what the turn that starts in a state changes of the byte at an address
abbrev pub change_in : Scenario → ℕ → State → Option Change
change_in x at s = change_by (runner_of (turned x s)) (byte_at s.memory at) (byte_at (turn Calls x s).state.memory at)
