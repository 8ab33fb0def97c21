-- The tasks that a send and a reply name, as the code answers it.
use Rattle.std.specs.Prelude.{ℕ, ◌≡◌, ◌<◌, ◌%◌, true, false, ◌||◌, Option, Some, None, ◌==◌}
use Rattle.std.specs.Option.{option_map}
use Rattle.kernel_abi.specs.Ids.{index_of}
use Rattle.task_table.specs.model.State.{Setup, State, Turn}
use Rattle.task_table.specs.model.Reading.{task_at, is_out, is_dead, taken_by}
use Rattle.task_table.specs.kept.Holds.{Stands, kept_call}
use Rattle.task_table.specs.declared.kernel.Kernel.{Kernel}
use Rattle.task_table.specs.declared.slot.OpenCall.{OpenCall}
use Rattle.ipc_core.specs.declared.sending.Recipient.{Recipient}
use Rattle.ipc_core.specs.declared.sending.Recipient.TheVariants.{Dead, Live}

-- an id names an existing task other than the caller, at an earlier birth or the present one
abbrev pub IsRecipient : State → ℕ → ℕ → Recipient → Type 0
IsRecipient s c id (Dead g) =
    ((is_out s id || (index_of id == c)) ≡ false) × (is_dead s id ≡ true) × (g.number ≡ (task_at s (index_of id)).births % 64)
IsRecipient s c id (Live i) =
    ((is_out s id || (index_of id == c)) ≡ false) × (is_dead s id ≡ false) × (i ≡ index_of id)

-- the same, or the id names the caller or no task
abbrev pub IsRecipientOf : State → ℕ → ℕ → Option Recipient → Type 0
IsRecipientOf s c id (Some recipient) = IsRecipient s c id recipient
IsRecipientOf s c id None = (is_out s id || (index_of id == c)) ≡ true

-- the index of a recipient at its present birth is below n
abbrev pub IsAmong : ℕ → Recipient → Type 0
IsAmong n (Dead g) = Unit {0}
IsAmong n (Live i) = i < n

-- the caller has taken this call of a client
pub record IsTaken (k : Kernel) (c client : ℕ) (call : OpenCall) : Type 0 where
  pub setup : Setup
  pub turn : Turn
  pub stands : Stands setup k turn
  pub taken : option_map kept_call (taken_by turn.state client c) ≡ Some call
