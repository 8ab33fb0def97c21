-- The numbers of the system calls. 0 to 8 are those of the Hubris Reference; this project added 9 to 13.
use Rattle.std.specs.Prelude.{ℕ}
use Rattle.kernel_abi.specs.declared.syscalls.Syscall.{Syscall}
use Rattle.kernel_abi.specs.declared.syscalls.Syscall.TheVariants.{Send, Recv, Reply, SetTimer, BorrowRead, BorrowWrite, BorrowInfo, IrqControl, Panic, GetTimer, RefreshTaskId, Post, ReplyFault, IrqStatus}

abbrev pub syscall_number : Syscall → ℕ
syscall_number Send = 0
syscall_number Recv = 1
syscall_number Reply = 2
syscall_number SetTimer = 3
syscall_number BorrowRead = 4
syscall_number BorrowWrite = 5
syscall_number BorrowInfo = 6
syscall_number IrqControl = 7
syscall_number Panic = 8
syscall_number GetTimer = 9
syscall_number RefreshTaskId = 10
syscall_number Post = 11
syscall_number ReplyFault = 12
syscall_number IrqStatus = 13
