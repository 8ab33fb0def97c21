-- The turn of a task whose system call names an earlier birth of a task. (Hubris Reference: task ids and generations.)
use Rattle.words_core.specs.Regs.{program_counter}
use Rattle.std.specs.Prelude.{ℕ, ◌≡◌, ◌≢◌, ◌+◌, ◌%◌, ◌^◌, ◌<◌, ◌≤◌, true, false, List, [], ◌∷◌, Some, Ok, slice_set}
use Rattle.kernel_abi.specs.Arguments.{id_args, recv_args}
use Rattle.kernel_abi.specs.Faults.{usage_fault}
use Rattle.kernel_abi.specs.Ids.{index_of}
use Rattle.kernel_abi.specs.declared.Fault.{Fault}
use Rattle.kernel_abi.specs.declared.Health.TheVariants.{Faulted}
use Rattle.kernel_abi.specs.declared.Usage.TheVariants.{BadReason}
use Rattle.kernel_abi.specs.declared.syscalls.Syscall.{Syscall}
use Rattle.kernel_abi.specs.declared.syscalls.Syscall.TheVariants.{Send, Recv, Reply, BorrowRead, BorrowWrite, BorrowInfo, RefreshTaskId, Post, ReplyFault}
use Rattle.thumb_insn.specs.declared.Insn.TheVariants.{Svc}
use Rattle.thumb_exec.specs.Fetch.{fetched}
use Rattle.task_table.specs.model.State.{State}
use Rattle.task_table.specs.model.Reading.{task_at, register, arguments, chosen, is_out, present_id, dead_code_for}
use Rattle.task_table.specs.model.Effects.{with_results}
use Rattle.task_table.specs.model.Sends.{last_reason}
use Rattle.task_table.specs.model.Syscalls.{is_to_kernel}
use Rattle.task_table.specs.model.DeadIds.{IsCalling, IsDeadId, MaySend, MayReceiveFrom, recipient, sender, client, lender, asked_lender, posted_to, reason}
use Rattle.board_model.specs.declared.outcomes.Level.{Level}
use Rattle.board_model.specs.Script.{Scenario}
use Rattle.board_model.specs.Turn.{refusals, held, after_events, turn}
use Rattle.board_model.specs.Faults.{ChangesNothingElse}

-- a RECV of c is closed: it receives from one task only
pub record IsClosedTo (s : State) (c : ℕ) : Type 0 where
  pub closed : (recv_args (arguments s c)).closed ≡ true
  pub task : sender s c ≢ 0xFFFF

-- task c is chosen in the turn after s, and the instruction that it fetches is the SVC of this system call
pub record MakesCall (x : Scenario) (s : State) (c : ℕ) (call : Syscall) : Type 0 where
  pub chosen : chosen x.setup (after_events x s).state ≡ Some c
  pub immediate : ℕ
  pub code : ℕ
  pub svc : let u = (after_events x s).state in fetched (refusals x.setup c) (held u) (register u c program_counter) ≡ Ok record { insn = Svc immediate; code = code }
  pub calls : IsCalling call c (after_events x s)

-- u is s, except that task c has these results from r4 on and is past its system call. Every other task, the
-- open calls, the listens, the memory, the devices, the time, the lines and the number of the next call are
-- as they were.
pub record IsSameButForResults (c : ℕ) (values : List ℕ) (s u : State) : Type 0 where
  pub caller : task_at u c ≡ record (task_at s c) { registers = (task_at u c).registers }
  pub registers : (task_at u c).registers ≡ slice_set (with_results values (task_at s c).registers) program_counter ((register s c program_counter + 2) % 2 ^ 32)
  pub others : (i : ℕ) → i ≢ c → task_at u i ≡ task_at s i
  pub calls : u.calls ≡ s.calls
  pub listens : u.listens ≡ s.listens
  pub memory : u.memory ≡ s.memory
  pub devices : u.devices ≡ s.devices
  pub now : u.now ≡ s.now
  pub lines : u.lines ≡ s.lines
  pub next_call : u.next_call ≡ s.next_call

-- The turn after s gives task c these results and changes nothing else. Nothing was written, and nothing was
-- read for another task.
pub record OnlyAnswers (level : Level) (x : Scenario) (s : State) (c : ℕ) (values : List ℕ) : Type 0 where
  pub state : IsSameButForResults c values (after_events x s).state (turn level x s).state
  pub writes : (turn level x s).writes ≡ []
  pub reads : (turn level x s).reads ≡ []

-- the turn after s makes task c fault like this, and changes nothing else
pub record OnlyFaults (level : Level) (x : Scenario) (s : State) (c : ℕ) (fault : Fault) : Type 0 where
  pub health : (task_at (turn level x s).state c).health ≡ Faulted fault
  pub nothing : ChangesNothingElse level x s c

-- the id that a REFRESH_TASK_ID of c names
abbrev pub old_id : State → ℕ → ℕ
old_id s c = (id_args (arguments s c)).id.number

-- The turn after s of a task that names an earlier birth, for each system call. SEND and a closed RECV, if no
-- earlier row decides, the borrows and POST get the dead code with the present generation. REPLY, and
-- REPLY_FAULT with a valid reason, get no answer. REPLY_FAULT with another reason faults. REFRESH_TASK_ID
-- gives the present id.
pub record IsDeadTurn (level : Level) (x : Scenario) (s : State) : Type 0 where
  pub send : (c : ℕ) → let u = (after_events x s).state in MakesCall x s c Send → IsDeadId u (recipient u c) → MaySend x.setup c u → OnlyAnswers level x s c (dead_code_for u (recipient u c) ∷ 0 ∷ [])
  pub recv : (c : ℕ) → let u = (after_events x s).state in MakesCall x s c Recv → IsDeadId u (sender u c) → MayReceiveFrom x.setup c u → OnlyAnswers level x s c (dead_code_for u (sender u c) ∷ 0 ∷ 0 ∷ 0 ∷ 0 ∷ 0 ∷ [])
  pub reply : (c : ℕ) → let u = (after_events x s).state in MakesCall x s c Reply → IsDeadId u (client u c) → OnlyAnswers level x s c []
  pub read : (c : ℕ) → let u = (after_events x s).state in MakesCall x s c BorrowRead → IsDeadId u (lender u c) → OnlyAnswers level x s c (dead_code_for u (lender u c) ∷ 0 ∷ [])
  pub written : (c : ℕ) → let u = (after_events x s).state in MakesCall x s c BorrowWrite → IsDeadId u (lender u c) → OnlyAnswers level x s c (dead_code_for u (lender u c) ∷ 0 ∷ [])
  pub informed : (c : ℕ) → let u = (after_events x s).state in MakesCall x s c BorrowInfo → IsDeadId u (asked_lender u c) → OnlyAnswers level x s c (dead_code_for u (asked_lender u c) ∷ 0 ∷ 0 ∷ [])
  pub post : (c : ℕ) → let u = (after_events x s).state in MakesCall x s c Post → IsDeadId u (posted_to u c) → OnlyAnswers level x s c (dead_code_for u (posted_to u c) ∷ [])
  pub reply_fault : (c : ℕ) → let u = (after_events x s).state in MakesCall x s c ReplyFault → IsDeadId u (client u c) → reason u c ≤ last_reason → OnlyAnswers level x s c []
  pub no_reason : (c : ℕ) → let u = (after_events x s).state in MakesCall x s c ReplyFault → IsDeadId u (client u c) → last_reason < reason u c → OnlyFaults level x s c (usage_fault BadReason)
  -- for a task that exists, whatever birth the id names
  pub refresh : (c : ℕ) → let u = (after_events x s).state in MakesCall x s c RefreshTaskId → is_out u (old_id u c) ≡ false → OnlyAnswers level x s c (present_id u (index_of (old_id u c)) ∷ [])

-- In the turn after s task c makes a system call that names an earlier birth of a task: a SEND to it, a
-- closed RECV from it, a REPLY or REPLY_FAULT to it, a borrow from it or a POST to it.
pub data NamesDead (x : Scenario) (s : State) (c : ℕ) : Type 0 where
  by_send : MakesCall x s c Send → is_to_kernel (after_events x s).state c ≡ false → IsDeadId (after_events x s).state (recipient (after_events x s).state c) → NamesDead x s c
  by_recv : MakesCall x s c Recv → IsClosedTo (after_events x s).state c → IsDeadId (after_events x s).state (sender (after_events x s).state c) → NamesDead x s c
  by_reply : MakesCall x s c Reply → IsDeadId (after_events x s).state (client (after_events x s).state c) → NamesDead x s c
  by_reply_fault : MakesCall x s c ReplyFault → IsDeadId (after_events x s).state (client (after_events x s).state c) → NamesDead x s c
  by_read : MakesCall x s c BorrowRead → IsDeadId (after_events x s).state (lender (after_events x s).state c) → NamesDead x s c
  by_write : MakesCall x s c BorrowWrite → IsDeadId (after_events x s).state (lender (after_events x s).state c) → NamesDead x s c
  by_info : MakesCall x s c BorrowInfo → IsDeadId (after_events x s).state (asked_lender (after_events x s).state c) → NamesDead x s c
  by_post : MakesCall x s c Post → IsDeadId (after_events x s).state (posted_to (after_events x s).state c) → NamesDead x s c

-- memory is the same after the turn as before it, and nothing was written
pub record TouchesNoMemory (level : Level) (x : Scenario) (s : State) : Type 0 where
  pub memory : (turn level x s).state.memory ≡ s.memory
  pub writes : (turn level x s).writes ≡ []
