-- What a system call does that names an earlier birth of a task. (Hubris Reference: task ids and generations.)
use Rattle.words_core.specs.Regs.{program_counter}
use Rattle.std.specs.Prelude.{ℕ, ◌≡◌, ◌≢◌, ◌+◌, ◌%◌, ◌^◌, true, false, List, [], ◌∷◌, ◌++◌, None, slice_set, bit_and, slice_range}
use Rattle.kernel_abi.specs.Arguments.{send_args, recv_args, reply_args, id_args, borrow_args, info_args}
use Rattle.kernel_abi.specs.Ids.{index_of}
use Rattle.kernel_abi.specs.declared.Note.TheVariants as note
use Rattle.kernel_abi.specs.declared.syscalls.Syscall.{Syscall}
use Rattle.kernel_abi.specs.Syscalls.{syscall_number}
use Rattle.region_check.specs.declared.Right.TheVariants.{Read, Write}
use Rattle.task_table.specs.model.State.{Setup, State, Turn}
use Rattle.task_table.specs.model.Reading.{task_at, register, arguments, is_out, is_dead, dead_code_for, is_valid, bad_byte, syscall_selector}
use Rattle.task_table.specs.model.Effects.{with_results}
use Rattle.task_table.specs.model.Rows.{buffer_of, goes_on_with}
use Rattle.task_table.specs.model.Sends.{message_of, reply_room, table_of}
use Rattle.task_table.specs.model.Syscalls.{is_to_kernel}

-- the caller makes this system call
abbrev pub IsCalling : Syscall → ℕ → Turn → Type 0
IsCalling call c t = register t.state c syscall_selector ≡ syscall_number call

-- the caller goes on and gets the dead code for an id, with the present generation, and these words after it
abbrev pub told_dead : ℕ → ℕ → List ℕ → Turn → Turn
told_dead c id words t = goes_on_with c (dead_code_for t.state id ∷ words) t

-- the ids that calls of c name: of a SEND, a RECV, a REPLY or REPLY_FAULT, a borrow, BORROW_INFO, and POST
abbrev pub recipient : State → ℕ → ℕ
recipient s c = (send_args (arguments s c)).recipient.number

abbrev pub sender : State → ℕ → ℕ
sender s c = (recv_args (arguments s c)).sender.number

abbrev pub client : State → ℕ → ℕ
client s c = (reply_args (arguments s c)).client.number

abbrev pub lender : State → ℕ → ℕ
lender s c = (borrow_args (arguments s c)).lender.number

abbrev pub asked_lender : State → ℕ → ℕ
asked_lender s c = (info_args (arguments s c)).lender.number

abbrev pub posted_to : State → ℕ → ℕ
posted_to s c = (id_args (arguments s c)).id.number

-- the reason of a REPLY_FAULT
abbrev pub reason : State → ℕ → ℕ
reason s c = (reply_args (arguments s c)).code

-- the id names an earlier birth of a task
pub record IsDeadId (s : State) (id : ℕ) : Type 0 where
  pub inside : is_out s id ≡ false
  pub dead : is_dead s id ≡ true

-- no earlier row of SEND faults its caller
pub record MaySend (g : Setup) (c : ℕ) (s : State) : Type 0 where
  pub task : is_to_kernel s c ≡ false
  pub other : index_of (send_args (arguments s c)).recipient.number ≢ c
  pub message : is_valid (message_of (send_args (arguments s c))) ≡ true
  pub reply : is_valid (reply_room (send_args (arguments s c))) ≡ true
  pub table : is_valid (table_of (send_args (arguments s c))) ≡ true
  pub readable : bad_byte g c Read (message_of (send_args (arguments s c))) ≡ None
  pub writable : bad_byte g c Write (reply_room (send_args (arguments s c))) ≡ None

-- no earlier row of RECV decides a receive that is closed to a task
pub record MayReceiveFrom (g : Setup) (c : ℕ) (s : State) : Type 0 where
  pub valid : is_valid (buffer_of (recv_args (arguments s c))) ≡ true
  pub writable : bad_byte g c Write (buffer_of (recv_args (arguments s c))) ≡ None
  pub closed : (recv_args (arguments s c)).closed ≡ true
  pub task : (recv_args (arguments s c)).sender.number ≢ 0xFFFF
  pub other : index_of (recv_args (arguments s c)).sender.number ≢ c
  pub quiet : bit_and (task_at s c).posted (recv_args (arguments s c)).mask ≡ 0

-- The caller has these results from r4 on and is past its system call; this is noted. Nothing else of it changes.
-- Every other task with its call and its listen is as it was. So are the open calls, the listens, the memory, the
-- time, the lines and the number of the next call. Nothing was written, and nothing was read for another task.
pub record IsAnsweredAlone (c : ℕ) (values : List ℕ) (t u : Turn) : Type 0 where
  pub caller : task_at u.state c ≡ record (task_at t.state c) { registers = (task_at u.state c).registers }
  pub registers : (task_at u.state c).registers ≡ slice_set (with_results values (task_at t.state c).registers) program_counter ((register t.state c program_counter + 2) % 2 ^ 32)
  pub others : (i : ℕ) → i ≢ c → task_at u.state i ≡ task_at t.state i
  pub calls : u.state.calls ≡ t.state.calls
  pub listens : u.state.listens ≡ t.state.listens
  pub memory : u.state.memory ≡ t.state.memory
  pub now : u.state.now ≡ t.state.now
  pub lines : u.state.lines ≡ t.state.lines
  pub next_call : u.state.next_call ≡ t.state.next_call
  pub notes : u.notes ≡ t.notes ++ note.Ret c (slice_range (task_at u.state c).registers 4 10) ∷ []
  pub writes : u.writes ≡ t.writes
  pub reads : u.reads ≡ t.reads
