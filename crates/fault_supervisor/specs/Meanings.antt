-- The kernel messages, by the names that the code has for them.
use Rattle.std.specs.Prelude.{ℕ, List, [], ◌∷◌, true, false, ◌||◌, not, is_some}
use Rattle.kernel_abi.specs.Faults.{usage_number, access_number}
use Rattle.kernel_abi.specs.declared.Access.TheVariants.{KernelRead, KernelWrite}
use Rattle.kernel_abi.specs.declared.Usage.TheVariants.{InvalidSlice}
use Rattle.kernel_abi.specs.declared.arguments.SendArgs.{SendArgs}
use Rattle.region_check.specs.declared.Right.TheVariants.{Read, Write}
use Rattle.task_table.specs.model.State.{Setup, Turn}
use Rattle.task_table.specs.model.Reading.{is_valid, bad_byte}
use Rattle.task_table.specs.model.Effects.{◌⨾◌}
use Rattle.task_table.specs.model.Rows.{first_row, misused, denied}
use Rattle.task_table.specs.model.Sends.{message_of, reply_room}
use Rattle.kernel_abi.specs.declared.Health.{Health}
use Rattle.kernel_abi.specs.declared.Health.TheVariants.{Well, Stopped, Faulted}
use Rattle.task_table.specs.model.Requests.{Request as Meaning, request_of, served, status_given, restart_made, injected, fault_found}
use Rattle.fault_supervisor.specs.declared.message.Request.{Request}
use Rattle.fault_supervisor.specs.declared.message.Request.TheVariants.{Status, Restart, Fault, Find}

-- the meaning of each request
abbrev pub meaning : Request → Meaning
meaning Status = record { number = 1; message = 4; reply = 16; on_supervisor = true; does = λ g x index t. status_given x index t }
meaning Restart = record { number = 2; message = 8; reply = 0; on_supervisor = false; does = restart_made }
meaning Fault = record { number = 3; message = 4; reply = 0; on_supervisor = false; does = λ g x index t. injected g index t }
meaning Find = record { number = 9; message = 4; reply = 4; on_supervisor = true; does = λ g x index t. fault_found x index t }

-- the status of a task, in words
abbrev pub status_words : Health → List ℕ
status_words Well = 0 ∷ 0 ∷ 0 ∷ 0 ∷ []
status_words Stopped = 1 ∷ 0 ∷ 0 ∷ 0 ∷ []
status_words (Faulted f) = 2 ∷ f.number ∷ f.x ∷ f.y ∷ []

-- what a request of the supervisor does, by its arguments
abbrev pub heard : Setup → ℕ → SendArgs → Turn → Turn
heard g c x t =
    first_row (
    (not (is_valid (message_of x)) || not (is_valid (reply_room x)), t ⨾ misused g c (usage_number InvalidSlice))
    ∷ (is_some (bad_byte g c Read (message_of x)), t ⨾ denied g c (access_number KernelRead) (bad_byte g c Read (message_of x)))
    ∷ (is_some (bad_byte g c Write (reply_room x)), t ⨾ denied g c (access_number KernelWrite) (bad_byte g c Write (reply_room x)))
    ∷ []) (t ⨾ served g c x (request_of x.operation))
