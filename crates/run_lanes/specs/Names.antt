-- The names that a timeline has for system calls and for faults (docs/FORMATS.md, Timeline). What has no name
-- is written by its numbers.
use Rattle.std.specs.Prelude.{ℕ, ◌==◌, if◌then◌else◌, List, ◌++◌, codes, decimal, Option, Some, None}
use Rattle.kernel_abi.specs.Faults.{access_number, reason_number, usage_number}
use Rattle.kernel_abi.specs.Syscalls.{syscall_number}
use Rattle.kernel_abi.specs.declared.Access.TheVariants as access
use Rattle.kernel_abi.specs.declared.Fault.{Fault}
use Rattle.kernel_abi.specs.declared.Reason.TheVariants as reason
use Rattle.kernel_abi.specs.declared.Usage.TheVariants as usage
use Rattle.kernel_abi.specs.declared.syscalls.Syscall.TheVariants as syscall
use Rattle.trace_text.specs.Text.{spaced_hex}

-- a system call by its number (docs/FORMATS.md, System calls)
unfoldable pub call_name : ℕ → Option (List ℕ)
call_name number =
    if number == syscall_number syscall.Send then Some (codes "SEND")
    else if number == syscall_number syscall.Recv then Some (codes "RECV")
    else if number == syscall_number syscall.Reply then Some (codes "REPLY")
    else if number == syscall_number syscall.SetTimer then Some (codes "SET_TIMER")
    else if number == syscall_number syscall.BorrowRead then Some (codes "BORROW_READ")
    else if number == syscall_number syscall.BorrowWrite then Some (codes "BORROW_WRITE")
    else if number == syscall_number syscall.BorrowInfo then Some (codes "BORROW_INFO")
    else if number == syscall_number syscall.IrqControl then Some (codes "IRQ_CONTROL")
    else if number == syscall_number syscall.Panic then Some (codes "PANIC")
    else if number == syscall_number syscall.GetTimer then Some (codes "GET_TIMER")
    else if number == syscall_number syscall.RefreshTaskId then Some (codes "REFRESH_TASK_ID")
    else if number == syscall_number syscall.Post then Some (codes "POST")
    else if number == syscall_number syscall.ReplyFault then Some (codes "REPLY_FAULT")
    else if number == syscall_number syscall.IrqStatus then Some (codes "IRQ_STATUS")
    else None

-- a misuse by its number (docs/FORMATS.md, Faults: usage numbers)
unfoldable pub usage_name : ℕ → Option (List ℕ)
usage_name number =
    if number == usage_number usage.BadCall then Some (codes "BadCall")
    else if number == usage_number usage.BadTaskIndex then Some (codes "BadTaskIndex")
    else if number == usage_number usage.InvalidSlice then Some (codes "InvalidSlice")
    else if number == usage_number usage.BadKernelMessage then Some (codes "BadKernelMessage")
    else if number == usage_number usage.NotSupervisor then Some (codes "NotSupervisor")
    else if number == usage_number usage.NoIrq then Some (codes "NoIrq")
    else if number == usage_number usage.OffsetOutOfRange then Some (codes "OffsetOutOfRange")
    else if number == usage_number usage.LeaseOutOfRange then Some (codes "LeaseOutOfRange")
    else if number == usage_number usage.ReplyTooBig then Some (codes "ReplyTooBig")
    else if number == usage_number usage.BadReason then Some (codes "BadReason")
    else None

-- why a server faulted its client, by its number (docs/FORMATS.md, Faults: reasons of REPLY_FAULT)
unfoldable pub reason_name : ℕ → Option (List ℕ)
reason_name number =
    if number == reason_number reason.UndefinedOperation then Some (codes "UndefinedOperation")
    else if number == reason_number reason.BadMessageSize then Some (codes "BadMessageSize")
    else if number == reason_number reason.BadMessageContents then Some (codes "BadMessageContents")
    else if number == reason_number reason.BadLeases then Some (codes "BadLeases")
    else if number == reason_number reason.ReplyBufferTooSmall then Some (codes "ReplyBufferTooSmall")
    else if number == reason_number reason.AccessViolation then Some (codes "AccessViolation")
    else None

-- what was not permitted, by its number (docs/FORMATS.md, Faults: y of Access)
unfoldable pub access_name : ℕ → Option (List ℕ)
access_name number =
    if number == access_number access.Load then Some (codes "load")
    else if number == access_number access.Store then Some (codes "store")
    else if number == access_number access.KernelRead then Some (codes "kernel read")
    else if number == access_number access.KernelWrite then Some (codes "kernel write")
    else None

-- which instruction was not aligned, by its number: the kernel reads and writes bytes (docs/FORMATS.md, Faults: y of Unaligned)
unfoldable pub unaligned_name : ℕ → Option (List ℕ)
unaligned_name number =
    if number == access_number access.Load then Some (codes "load")
    else if number == access_number access.Store then Some (codes "store")
    else None

-- ## system calls

-- `SEND`; without a name `call 14`
abbrev pub call_text : ℕ → Option (List ℕ) → List ℕ
call_text number None = codes "call " ++ decimal number
call_text number (Some name) = name

unfoldable pub syscall_name : ℕ → List ℕ
syscall_name number = call_text number (call_name number)

-- ## faults

-- `fault 11 00000000 00000000`: a fault without a name
unfoldable pub numbers_text : Fault → List ℕ
numbers_text fault = codes "fault " ++ decimal fault.number ++ spaced_hex fault.x ++ spaced_hex fault.y

-- `Illegal 08000000`
unfoldable pub plain_text : List ℕ → ℕ → List ℕ
plain_text word x = word ++ spaced_hex x

-- `Access 20000000 store`
abbrev pub access_text : List ℕ → Fault → Option (List ℕ) → List ℕ
access_text word fault None = numbers_text fault
access_text word fault (Some name) = plain_text word fault.x ++ codes " " ++ name

-- `Usage BadCall`
abbrev pub usage_text : Fault → Option (List ℕ) → List ℕ
usage_text fault None = numbers_text fault
usage_text fault (Some name) = codes "Usage " ++ name

-- `ReplyFault BadLeases 00000401`, with the server's id
unfoldable pub named_text : List ℕ → List ℕ → ℕ → List ℕ
named_text word name x = word ++ plain_text name x

abbrev pub reply_fault_text : Fault → Option (List ℕ) → List ℕ
reply_fault_text fault None = numbers_text fault
reply_fault_text fault (Some name) = named_text (codes "ReplyFault ") name fault.x

-- a fault by its number (docs/FORMATS.md, Faults)
unfoldable pub fault_text : ℕ → Fault → List ℕ
fault_text number fault =
    if number == 1 then plain_text (codes "Illegal") fault.x
    else if number == 2 then plain_text (codes "IllegalText") fault.x
    else if number == 3 then access_text (codes "Access") fault (access_name fault.y)
    else if number == 4 then access_text (codes "Unaligned") fault (unaligned_name fault.y)
    else if number == 5 then plain_text (codes "State") fault.x
    else if number == 6 then codes "Breakpoint " ++ decimal fault.x
    else if number == 7 then usage_text fault (usage_name fault.x)
    else if number == 8 then plain_text (codes "Panic") fault.x ++ spaced_hex fault.y
    else if number == 9 then codes "Injected"
    else if number == 10 then reply_fault_text fault (reason_name fault.y)
    else numbers_text fault

unfoldable pub fault_name : Fault → List ℕ
fault_name fault = fault_text fault.number fault
