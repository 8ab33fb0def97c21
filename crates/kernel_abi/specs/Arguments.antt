-- Which register holds which argument of a system call. The list has r4 to r11.
use Rattle.std.specs.Prelude.{ℕ, ◌+◌, ◌-◌, ◌*◌, ◌/◌, ◌%◌, ◌^◌, List, not, nat_eq, nat_le, slice_index}
use Rattle.kernel_abi.specs.declared.TaskId.{TaskId}
use Rattle.kernel_abi.specs.declared.arguments.BorrowArgs.{BorrowArgs}
use Rattle.kernel_abi.specs.declared.arguments.IdArgs.{IdArgs}
use Rattle.kernel_abi.specs.declared.arguments.InfoArgs.{InfoArgs}
use Rattle.kernel_abi.specs.declared.arguments.IrqArgs.{IrqArgs}
use Rattle.kernel_abi.specs.declared.arguments.RecvArgs.{RecvArgs}
use Rattle.kernel_abi.specs.declared.arguments.ReplyArgs.{ReplyArgs}
use Rattle.kernel_abi.specs.declared.arguments.SendArgs.{SendArgs}
use Rattle.kernel_abi.specs.declared.arguments.TimerArgs.{TimerArgs}

-- the numbers of the registers with arguments
abbrev pub r4 : ℕ
r4 = 4

abbrev pub r5 : ℕ
r5 = 5

abbrev pub r6 : ℕ
r6 = 6

abbrev pub r7 : ℕ
r7 = 7

abbrev pub r8 : ℕ
r8 = 8

abbrev pub r9 : ℕ
r9 = 9

abbrev pub r10 : ℕ
r10 = 10

-- the register of a number from 4 to 11
abbrev pub register : List ℕ → ℕ → ℕ
register registers number = slice_index registers (number - 4)

-- bits 15..0 and bits 31..16 of a word
abbrev pub low_half : ℕ → ℕ
low_half word = word % 2 ^ 16

abbrev pub high_half : ℕ → ℕ
high_half word = word / 2 ^ 16

-- the id in a register's low half
abbrev pub low_id : ℕ → TaskId
low_id word = record { number = low_half word }

abbrev pub high_id : ℕ → TaskId
high_id word = record { number = high_half word }

-- SEND
abbrev pub send_args : List ℕ → SendArgs
send_args registers = record {
  recipient = high_id (register registers r4);
  operation = low_half (register registers r4);
  message_base = register registers r5;
  message_length = register registers r6;
  reply_base = register registers r7;
  reply_capacity = register registers r8;
  table = register registers r9;
  leases = register registers r10;
}

-- RECV; it is closed if bit 31 of r7 is set
abbrev pub recv_args : List ℕ → RecvArgs
recv_args registers = record {
  buffer_base = register registers r4;
  buffer_length = register registers r5;
  mask = register registers r6;
  closed = nat_le (2 ^ 31) (register registers r7);
  sender = low_id (register registers r7);
}

-- REPLY and REPLY_FAULT
abbrev pub reply_args : List ℕ → ReplyArgs
reply_args registers = record {
  client = low_id (register registers r4);
  code = register registers r5;
  reply_base = register registers r6;
  reply_length = register registers r7;
}

-- SET_TIMER
abbrev pub timer_args : List ℕ → TimerArgs
timer_args registers = record {
  set = not (nat_eq (register registers r4) 0);
  deadline = register registers r5 + register registers r6 * 2 ^ 32;
  bits = register registers r7;
}

-- BORROW_READ and BORROW_WRITE
abbrev pub borrow_args : List ℕ → BorrowArgs
borrow_args registers = record {
  lender = low_id (register registers r4);
  lease = register registers r5;
  offset = register registers r6;
  buffer_base = register registers r7;
  buffer_length = register registers r8;
}

-- BORROW_INFO
abbrev pub info_args : List ℕ → InfoArgs
info_args registers = record { lender = low_id (register registers r4); lease = register registers r5 }

-- IRQ_CONTROL and IRQ_STATUS; for IRQ_CONTROL, bit 0 of r5 says whether to enable
abbrev pub irq_args : List ℕ → IrqArgs
irq_args registers = record { bits = register registers r4; enable = nat_eq (register registers r5 % 2) 1 }

-- REFRESH_TASK_ID and POST
abbrev pub id_args : List ℕ → IdArgs
id_args registers = record { id = low_id (register registers r4); bits = register registers r5 }
