-- The sender that a receive names, as the code answers it.
use Rattle.std.specs.Prelude.{ℕ, ◌≡◌, ◌<◌, ◌%◌, true, false, ◌||◌, ◌==◌, Option, Some, None}
use Rattle.kernel_abi.specs.Ids.{index_of}
use Rattle.kernel_abi.specs.declared.arguments.RecvArgs.{RecvArgs}
use Rattle.task_table.specs.model.State.{State}
use Rattle.task_table.specs.model.Reading.{task_at, is_out, is_dead}
use Rattle.task_table.specs.model.Rows.{asked}
use Rattle.ipc_core.specs.declared.receiving.Sender.{Sender}
use Rattle.ipc_core.specs.declared.receiving.Sender.TheVariants.{Any, Kernel, Dead, One}

-- a receive is open to any sender; or it is closed, to the kernel or to an existing task other than the caller, at
-- an earlier birth or the present one
abbrev pub IsSender : State → ℕ → RecvArgs → Sender → Type 0
IsSender s c x Any = x.closed ≡ false
IsSender s c x Kernel = (x.closed ≡ true) × ((x.sender.number == 0xFFFF) ≡ true)
IsSender s c x (Dead g) =
    (x.closed ≡ true) × ((x.sender.number == 0xFFFF) ≡ false) × ((is_out s x.sender.number || (index_of x.sender.number == c)) ≡ false)
    × (is_dead s x.sender.number ≡ true) × (g.number ≡ (task_at s (index_of x.sender.number)).births % 64)
IsSender s c x (One i) =
    (x.closed ≡ true) × ((x.sender.number == 0xFFFF) ≡ false) × ((is_out s x.sender.number || (index_of x.sender.number == c)) ≡ false)
    × (is_dead s x.sender.number ≡ false) × (i ≡ index_of x.sender.number)

-- the receive that a task makes asks for this sender
abbrev pub AsksFor : State → ℕ → Sender → Type 0
AsksFor s c sender = IsSender s c (asked s c) sender

-- the same, or the receive names the caller or no task
abbrev pub IsNamed : State → ℕ → RecvArgs → Option Sender → Type 0
IsNamed s c x (Some sender) = IsSender s c x sender
IsNamed s c x None = (x.closed ≡ true) × ((x.sender.number == 0xFFFF) ≡ false) × ((is_out s x.sender.number || (index_of x.sender.number == c)) ≡ true)

-- the index of a sender at its present birth is below n
abbrev pub IsInside : ℕ → Sender → Type 0
IsInside n Any = Unit {0}
IsInside n Kernel = Unit {0}
IsInside n (Dead g) = Unit {0}
IsInside n (One i) = i < n
