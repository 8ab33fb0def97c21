-- Faults, and the numbers of their details. A fault consists of its number, x and y.
use Rattle.std.specs.Prelude.{ℕ, Bool, if◌then◌else◌}
use Rattle.kernel_abi.specs.declared.Access.{Access}
use Rattle.kernel_abi.specs.declared.Access.TheVariants.{Load, Store, KernelRead, KernelWrite}
use Rattle.kernel_abi.specs.declared.Fault.{Fault}
use Rattle.kernel_abi.specs.declared.Reason.{Reason}
use Rattle.kernel_abi.specs.declared.Reason.TheVariants.{UndefinedOperation, BadMessageSize, BadMessageContents, BadLeases, ReplyBufferTooSmall, AccessViolation}
use Rattle.kernel_abi.specs.declared.TaskId.{TaskId}
use Rattle.kernel_abi.specs.declared.Usage.{Usage}
use Rattle.kernel_abi.specs.declared.Usage.TheVariants.{BadCall, BadTaskIndex, InvalidSlice, BadKernelMessage, NotSupervisor, NoIrq, OffsetOutOfRange, LeaseOutOfRange, ReplyTooBig, BadReason}

-- the number of a misuse
abbrev pub usage_number : Usage → ℕ
usage_number BadCall = 1
usage_number BadTaskIndex = 2
usage_number InvalidSlice = 3
usage_number BadKernelMessage = 4
usage_number NotSupervisor = 5
usage_number NoIrq = 6
usage_number OffsetOutOfRange = 7
usage_number LeaseOutOfRange = 8
usage_number ReplyTooBig = 9
usage_number BadReason = 10

-- the number of a reason
abbrev pub reason_number : Reason → ℕ
reason_number UndefinedOperation = 0
reason_number BadMessageSize = 1
reason_number BadMessageContents = 2
reason_number BadLeases = 3
reason_number ReplyBufferTooSmall = 4
reason_number AccessViolation = 5

-- the number of an access
abbrev pub access_number : Access → ℕ
access_number Load = 0
access_number Store = 1
access_number KernelRead = 2
access_number KernelWrite = 3

abbrev pub illegal_fault : ℕ → Fault
illegal_fault address = record { number = 1; x = address; y = 0 }

abbrev pub illegal_text_fault : ℕ → Fault
illegal_text_fault address = record { number = 2; x = address; y = 0 }

-- the fault, from the number of the access
abbrev pub access_fault_by : ℕ → ℕ → Fault
access_fault_by address number = record { number = 3; x = address; y = number }

abbrev pub access_fault : ℕ → Access → Fault
access_fault address access = access_fault_by address (access_number access)

abbrev pub unaligned_fault : ℕ → Bool → Fault
unaligned_fault address is_store = record { number = 4; x = address; y = (if is_store then 1 else 0) }

abbrev pub state_fault : ℕ → Fault
state_fault target = record { number = 5; x = target; y = 0 }

abbrev pub breakpoint_fault : ℕ → Fault
breakpoint_fault immediate = record { number = 6; x = immediate; y = 0 }

-- the fault, from the number of the misuse
abbrev pub usage_fault_by : ℕ → Fault
usage_fault_by number = record { number = 7; x = number; y = 0 }

abbrev pub usage_fault : Usage → Fault
usage_fault usage = usage_fault_by (usage_number usage)

abbrev pub panic_fault : ℕ → ℕ → Fault
panic_fault first second = record { number = 8; x = first; y = second }

abbrev pub injected_fault : Fault
injected_fault = record { number = 9; x = 0; y = 0 }

-- the fault, from the number of the server's id and the number of the reason
abbrev pub reply_fault_by : ℕ → ℕ → Fault
reply_fault_by server reason = record { number = 10; x = server; y = reason }

abbrev pub reply_fault : TaskId → Reason → Fault
reply_fault server reason = reply_fault_by server.number (reason_number reason)
