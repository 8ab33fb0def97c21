-- The system calls: each has a number, which the caller has in r11, and a meaning. (Hubris Reference: syscalls.)
use Rattle.kernel_abi.specs.declared.Usage.TheVariants.{BadCall}
use Rattle.kernel_abi.specs.declared.syscalls.Syscall.TheVariants.{Send, Recv, Reply, SetTimer, BorrowRead, BorrowWrite, BorrowInfo, IrqControl, Panic, GetTimer, RefreshTaskId, Post, ReplyFault, IrqStatus}
use Rattle.kernel_abi.specs.Syscalls.{syscall_number}
use Rattle.kernel_abi.specs.Faults.{usage_number}
use Rattle.std.specs.Prelude.{ℕ, Bool, List, [], ◌∷◌, ◌==◌, if◌then◌else◌}
use Rattle.kernel_abi.specs.Arguments.{send_args}
use Rattle.task_table.specs.model.State.{Setup, State, Turn}
use Rattle.task_table.specs.model.Reading.{register, arguments, best_sender, syscall_selector}
use Rattle.task_table.specs.model.Rows.{misused, received, timer_set, timer_answered, irq_controlled, irq_answered, panicked}
use Rattle.task_table.specs.model.Sends.{sent, replied, reply_faulted, post_made, refreshed}
use Rattle.task_table.specs.model.Borrows.{reading, writing, borrowed, informed}
use Rattle.task_table.specs.model.Requests.{requested}

-- what a system call does, to the turn of its caller
abbrev pub Meaning : Type 0
Meaning = Setup → ℕ → Turn → Turn

-- a SEND to the kernel is a kernel message
abbrev pub is_to_kernel : State → ℕ → Bool
is_to_kernel s c = (send_args (arguments s c)).recipient.number == 0xFFFF

abbrev pub syscalls : List (ℕ × Meaning)
syscalls =
    (syscall_number Send, λ g c t. if is_to_kernel t.state c then requested g c t else sent g c t)
    ∷ (syscall_number Recv, λ g c t. received g c (best_sender g t.state c) t)
    ∷ (syscall_number Reply, replied)
    ∷ (syscall_number SetTimer, λ g c t. timer_set c t)
    ∷ (syscall_number BorrowRead, λ g c t. borrowed g reading c t)
    ∷ (syscall_number BorrowWrite, λ g c t. borrowed g writing c t)
    ∷ (syscall_number BorrowInfo, informed)
    ∷ (syscall_number IrqControl, irq_controlled)
    ∷ (syscall_number Panic, panicked)
    ∷ (syscall_number GetTimer, λ g c t. timer_answered c t)
    ∷ (syscall_number RefreshTaskId, refreshed)
    ∷ (syscall_number Post, post_made)
    ∷ (syscall_number ReplyFault, reply_faulted)
    ∷ (syscall_number IrqStatus, irq_answered)
    ∷ []

-- the meaning of a number among these system calls; a number that none of them has is usage 1, BadCall
abbrev pub meaning_among : List (ℕ × Meaning) → ℕ → Meaning
meaning_among [] n g c t = misused g c (usage_number BadCall) t
meaning_among (syscall ∷ syscalls) n g c t = if n == syscall.0 then syscall.1 g c t else meaning_among syscalls n g c t

-- the system call whose number is in r11
unfoldable pub syscall_made : Meaning
syscall_made g c t = meaning_among syscalls (register t.state c syscall_selector) g c t
