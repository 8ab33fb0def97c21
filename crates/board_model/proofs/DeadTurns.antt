-- The turn of a task that makes a system call, and of one whose call names an earlier birth of a task.
use Rattle.words_core.specs.Regs.{program_counter}
use Rattle.std.proofs.Common.{◌≡◌, ◌+◌, ◌<◌, ◌≤◌, ℕ, Bool, true, false, cond, not, ◌&&◌, ◌||◌, eqb, ltb, bit_and, is_some, Option, List, [], ◌∷◌, length, refl, ◌∙◌, ap, arith}
use Rattle.std.specs.Prelude.{Result, Ok}
use Rattle.std.proofs.lemmas.Bool.{ne_eqb}
use Rattle.kernel_abi.specs.Arguments.{send_args, reply_args}
use Rattle.kernel_abi.specs.Faults.{usage_fault_by, usage_number, access_number}
use Rattle.kernel_abi.specs.Ids.{index_of}
use Rattle.kernel_abi.specs.declared.Access.TheVariants.{KernelRead, KernelWrite}
use Rattle.kernel_abi.specs.declared.Fault.{Fault}
use Rattle.kernel_abi.specs.declared.Health.TheVariants.{Faulted}
use Rattle.kernel_abi.specs.declared.Note.TheVariants as note
use Rattle.kernel_abi.specs.declared.Usage.TheVariants.{BadTaskIndex, InvalidSlice, BadReason}
use Rattle.kernel_abi.specs.declared.syscalls.Syscall.{Syscall}
use Rattle.region_check.specs.declared.Right.TheVariants.{Read, Write}
use Rattle.kernel_abi.specs.declared.syscalls.Syscall.TheVariants.{Send, Recv, Reply, BorrowRead, BorrowWrite, BorrowInfo, RefreshTaskId, Post, ReplyFault}
use Rattle.thumb_insn.specs.declared.Insn.TheVariants.{Svc}
use Rattle.thumb_exec.specs.Effect.{effect}
use Rattle.thumb_exec.specs.Fetch.{fetched}
use Rattle.thumb_exec.specs.declared.fetch.Fetched.{Fetched}
use Rattle.task_table.specs.model.State.{Setup, State, Task, Turn}
use Rattle.task_table.specs.model.Reading.{task_at, register, arguments, is_ready, is_out, is_dead, is_valid, bad_byte, best_sender, present_id, dead_code_for, is_faulted}
use Rattle.task_table.specs.model.Effects.{noted, faulted, given, returned, past_syscall, bits_cleared, with_task}
use Rattle.task_table.specs.model.Rows.{syscall_noted, goes_on, goes_on_with, misused, denied, asked, buffer_of, takes_bits, message_received, received}
use Rattle.task_table.specs.model.Sane.{Sane}
use Rattle.task_table.specs.model.Sends.{last_reason, message_of, reply_room, table_of, refreshed, sent, reply_faulted}
use Rattle.task_table.specs.model.Syscalls.{syscall_made, is_to_kernel}
use Rattle.task_table.specs.model.DeadIds.{IsCalling, IsAnsweredAlone, IsDeadId, recipient, sender, client, lender, asked_lender, posted_to}
use Rattle.task_table.proofs.model.DeadRows as dead
use Rattle.task_table.proofs.model.RowChains.{stay-syscall_made}
use Rattle.task_table.proofs.model.Sanity.{sane-current}
use Rattle.board_model.specs.declared.outcomes.Level.{Level}
use Rattle.board_model.specs.declared.outcomes.Level.TheVariants as level_of
use Rattle.board_model.specs.Script.{Scenario}
use Rattle.board_model.specs.Turn.{refusals, held, noted_at, stepped_by, stepped, after_events, with_current, with_registers_noted, ended, turn}
use Rattle.board_model.specs.DeadCalls.{MakesCall, IsClosedTo, IsSameButForResults, OnlyAnswers, OnlyFaults, IsDeadTurn, old_id, NamesDead, by_send, by_recv, by_reply, by_reply_fault, by_read, by_write, by_info, by_post, TouchesNoMemory}
use Rattle.board_model.proofs.Events.{fresh-after_events}
use Rattle.board_model.proofs.TurnChains.{chosen_is, as_current, sane-after_events}
use Rattle.board_model.proofs.FaultFrames.{task-faulted}
use Rattle.board_model.proofs.FaultTurns.{changes_nothing_else}

-- ## the turn of a system call

-- where the row of a system call of c begins: c is current, its instruction and its call are noted
abbrev row_of : Level → ℕ → ℕ → Turn → Turn
row_of level c code t = syscall_noted c (noted_at level (note.Insn c (register t.state c program_counter) code) (with_current c t))

-- an SVC of c, as it is fetched and carried out
stepped_is : (level : Level) (g : Setup) (c code immediate : ℕ) (v : Turn) → fetched (refusals g c) (held v.state) (register v.state c program_counter) ≡ Ok record { insn = Svc immediate; code = code }
    → stepped level g c v ≡ syscall_made g c (syscall_noted c (noted_at level (note.Insn c (register v.state c program_counter) code) v))
unfolding stepped effect
stepped_is level g c code immediate v found = ap (λ (r : Result Fetched Fault). stepped_by level g c (register v.state c program_counter) r v) found

pub call_is : (level : Level) (x : Scenario) (s : State) (c : ℕ) (call : Syscall) (h : MakesCall x s c call) → turn level x s ≡ ended (with_registers_noted level c (syscall_made x.setup c (row_of level c h.code (after_events x s))))
unfolding turn register task_at
call_is level x s c call h = rw h.chosen (ap (λ (u : Turn). ended (with_registers_noted level c u)) (stepped_is level x.setup c h.code h.immediate (with_current c (after_events x s)) h.svc))

-- nothing but who is current and what is noted has changed where the row begins
begins : (level : Level) (c code : ℕ) (t : Turn) → (row_of level c code t).state ≡ record t.state { current = c }
unfolding syscall_noted noted
begins level_of.Calls c code t = refl
begins level_of.All c code t = refl

begins-writes : (level : Level) (c code : ℕ) (t : Turn) → (row_of level c code t).writes ≡ t.writes
unfolding syscall_noted noted
begins-writes level_of.Calls c code t = refl
begins-writes level_of.All c code t = refl

begins-reads : (level : Level) (c code : ℕ) (t : Turn) → (row_of level c code t).reads ≡ t.reads
unfolding syscall_noted noted
begins-reads level_of.Calls c code t = refl
begins-reads level_of.All c code t = refl

-- what is noted behind it, and that the turn is over, change nothing else
over : (level : Level) (c : ℕ) (u : Turn) → (ended (with_registers_noted level c u)).state ≡ record u.state { turn = u.state.turn + 1 }
unfolding ended with_registers_noted noted
over level_of.Calls c u = refl
over level_of.All c u = refl

over-writes : (level : Level) (c : ℕ) (u : Turn) → (ended (with_registers_noted level c u)).writes ≡ u.writes
unfolding ended with_registers_noted noted
over-writes level_of.Calls c u = refl
over-writes level_of.All c u = refl

over-reads : (level : Level) (c : ℕ) (u : Turn) → (ended (with_registers_noted level c u)).reads ≡ u.reads
unfolding ended with_registers_noted noted
over-reads level_of.Calls c u = refl
over-reads level_of.All c u = refl

-- ## results alone

-- from the events to the end of the turn, who is current and the turn's number aside
answered_over : (c n : ℕ) (values : List ℕ) (s : State) (v u : Turn) (w : State) → v.state ≡ record s { current = c } → w ≡ record u.state { turn = n } → u.state.devices ≡ s.devices → IsAnsweredAlone c values v u → IsSameButForResults c values s w
unfolding task_at register
answered_over c n values s v u w e f devices h = rw f record {
  caller = rw e at h.caller;
  registers = rw e at h.registers;
  others = λ i ne. rw e at (h.others i ne);
  calls = rw e at h.calls;
  listens = rw e at h.listens;
  memory = rw e at h.memory;
  devices = devices;
  now = rw e at h.now;
  lines = rw e at h.lines;
  next_call = rw e at h.next_call;
}

-- REFRESH_TASK_ID gives the present id of a task that is there
refresh_is : (g : Setup) (c : ℕ) (t : Turn) → IsCalling RefreshTaskId c t → is_out t.state (old_id t.state c) ≡ false → syscall_made g c t ≡ goes_on_with c (present_id t.state (index_of (old_id t.state c)) ∷ []) t
unfolding syscall_made refreshed
refresh_is g c t e inside = rw (e, inside) refl

-- ## a row that touches no memory

-- memory stays, and nothing more was written
record IsQuiet (t u : Turn) : Type 0 where
  memory : u.state.memory ≡ t.state.memory
  writes : u.writes ≡ t.writes

-- so it is, or the caller faults at once
data StaysOrFaults (g : Setup) (c : ℕ) (t u : Turn) : Type 0 where
  stays : IsQuiet t u → StaysOrFaults g c t u
  fails : (f : Fault) → u ≡ faulted g c f t → StaysOrFaults g c t u

on_quiet : (c : ℕ) (t : Turn) → IsQuiet t (goes_on c t)
unfolding returned past_syscall noted with_task
on_quiet c t = record { memory = refl; writes = refl }

goes_quiet : (c : ℕ) (values : List ℕ) (t : Turn) → IsQuiet t (goes_on_with c values t)
unfolding given returned past_syscall noted with_task
goes_quiet c values t = record { memory = refl; writes = refl }

bits_quiet : (c mask : ℕ) (t : Turn) → IsQuiet t (takes_bits c mask t)
unfolding bits_cleared given returned past_syscall noted with_task
bits_quiet c mask t = record { memory = refl; writes = refl }

module _ (g : Setup) (c : ℕ) (t : Turn) where
  misuses : (usage : ℕ) → StaysOrFaults g c t (misused g c usage t)
  misuses usage = fails (usage_fault_by usage) refl

  denies : (y : ℕ) (bad : Option ℕ) → StaysOrFaults g c t (denied g c y bad t)
  denies y bad = fails _ refl

  either : {u v : Turn} (b : Bool) → StaysOrFaults g c t u → StaysOrFaults g c t v → StaysOrFaults g c t (cond b u v)
  either true h k = h
  either false h k = k

  sent_row : IsDeadId t.state (recipient t.state c) → StaysOrFaults g c t (sent g c t)
  unfolding sent
  sent_row d =
      let x = send_args (arguments t.state c) in
      let id = x.recipient.number in
      either (is_out t.state id || eqb (index_of id) c) (misuses (usage_number BadTaskIndex))
      (either (not (is_valid (message_of x)) || (not (is_valid (reply_room x)) || not (is_valid (table_of x)))) (misuses (usage_number InvalidSlice))
      (either (is_some (bad_byte g c Read (message_of x))) (denies (access_number KernelRead) (bad_byte g c Read (message_of x)))
      (either (is_some (bad_byte g c Write (reply_room x))) (denies (access_number KernelWrite) (bad_byte g c Write (reply_room x)))
      (rw d.dead (stays (goes_quiet c (dead_code_for t.state id ∷ 0 ∷ []) t))))))

  sent_stays : IsCalling Send c t → is_to_kernel t.state c ≡ false → IsDeadId t.state (recipient t.state c) → StaysOrFaults g c t (syscall_made g c t)
  unfolding syscall_made
  sent_stays e task d = rw (e, task) (sent_row d)

  message_row : (best : Option ℕ) → IsClosedTo t.state c → IsDeadId t.state (sender t.state c) → StaysOrFaults g c t (message_received c best t)
  message_row best closed d =
      let task = ne_eqb _ _ closed.task in
      rw (closed.closed, task, d.dead) (stays (goes_quiet c (dead_code_for t.state (sender t.state c) ∷ 0 ∷ 0 ∷ 0 ∷ 0 ∷ 0 ∷ []) t))

  received_row : (best : Option ℕ) → IsClosedTo t.state c → IsDeadId t.state (sender t.state c) → StaysOrFaults g c t (received g c best t)
  unfolding received
  received_row best closed d =
      let x = asked t.state c in
      let id = x.sender.number in
      either (not (is_valid (buffer_of x))) (misuses (usage_number InvalidSlice))
      (either (is_some (bad_byte g c Write (buffer_of x))) (denies (access_number KernelWrite) (bad_byte g c Write (buffer_of x)))
      (either (x.closed && not (eqb id 0xFFFF) && (is_out t.state id || eqb (index_of id) c)) (misuses (usage_number BadTaskIndex))
      (either (not (eqb (bit_and (task_at t.state c).posted x.mask) 0)) (stays (bits_quiet c x.mask t)) (message_row best closed d))))

  received_stays : IsCalling Recv c t → IsClosedTo t.state c → IsDeadId t.state (sender t.state c) → StaysOrFaults g c t (syscall_made g c t)
  unfolding syscall_made
  received_stays e closed d = rw e (received_row (best_sender g t.state c) closed d)

  reply_faulted_row : IsDeadId t.state (client t.state c) → StaysOrFaults g c t (reply_faulted g c t)
  unfolding reply_faulted
  reply_faulted_row d =
      let x = reply_args (arguments t.state c) in
      either (is_out t.state x.client.number) (misuses (usage_number BadTaskIndex))
      (either (ltb last_reason x.code) (misuses (usage_number BadReason)) (rw d.dead (stays (on_quiet c t))))

  reply_faulted_stays : IsCalling ReplyFault c t → IsDeadId t.state (client t.state c) → StaysOrFaults g c t (syscall_made g c t)
  unfolding syscall_made
  reply_faulted_stays e d = rw e (reply_faulted_row d)

module _ (level : Level) (x : Scenario) (s : State) (sane : Sane x.setup s) where
  abbrev t : Turn
  t = after_events x s

  abbrev row : ℕ → ℕ → Turn
  row c code = row_of level c code t

  row_state : (c code : ℕ) → (row c code).state ≡ record t.state { current = c }
  row_state c code = begins level c code t

  calls : (c : ℕ) (call : Syscall) (h : MakesCall x s c call) → IsCalling call c (row c h.code)
  unfolding register task_at
  calls c call h = rw (row_state c h.code) h.calls

  inside : (c : ℕ) (call : Syscall) → MakesCall x s c call → c < length t.state.tasks
  inside c call h = (chosen_is t.state c (sane-after_events x s sane) h.chosen).inside

  there : (c : ℕ) (call : Syscall) (h : MakesCall x s c call) → c < length (row c h.code).state.tasks
  there c call h = rw (row_state c h.code) (inside c call h)

  sixteen : (c : ℕ) (call : Syscall) (h : MakesCall x s c call) → length (task_at (row c h.code).state c).registers ≡ 16
  unfolding task_at
  sixteen c call h = rw (row_state c h.code) ((sane-after_events x s sane).steady.tasks c (inside c call h)).sixteen

  -- no system call changes a device
  devices_stay : (c : ℕ) (call : Syscall) (h : MakesCall x s c call) → (syscall_made x.setup c (row c h.code)).state.devices ≡ t.state.devices
  devices_stay c call h =
      let sane_now = sane-after_events x s sane in
      let is = chosen_is t.state c sane_now h.chosen in
      let sane_row : Sane x.setup (row c h.code).state = rw (row_state c h.code) (sane-current c t sane_now is.inside) in
      let ready : is_ready (row c h.code).state c ≡ true = rw (row_state c h.code) (as_current c c t.state is.ready) in
      stay-syscall_made x.setup c (row c h.code) sane_row (rw (← sane_now.steady.as_many) is.inside) ready ∙ ap (λ (u : State). u.devices) (row_state c h.code)

  answers : (c : ℕ) (call : Syscall) (values : List ℕ) (h : MakesCall x s c call) → IsAnsweredAlone c values (row c h.code) (syscall_made x.setup c (row c h.code)) → OnlyAnswers level x s c values
  answers c call values h a =
      let made = syscall_made x.setup c (row c h.code) in
      let e = call_is level x s c call h in
      let fresh = fresh-after_events x s in
      record {
        state = answered_over c (made.state.turn + 1) values t.state (row c h.code) made (turn level x s).state (row_state c h.code) (ap (λ (u : Turn). u.state) e ∙ over level c made) (devices_stay c call h) a;
        writes = ap (λ (u : Turn). u.writes) e ∙ over-writes level c made ∙ a.writes ∙ begins-writes level c h.code t ∙ fresh.writes;
        reads = ap (λ (u : Turn). u.reads) e ∙ over-reads level c made ∙ a.reads ∙ begins-reads level c h.code t ∙ fresh.reads;
      }

  with_values : (c : ℕ) (call : Syscall) (values : List ℕ) (h : MakesCall x s c call) → length values ≤ 6 → syscall_made x.setup c (row c h.code) ≡ goes_on_with c values (row c h.code) → OnlyAnswers level x s c values
  with_values c call values h few e = answers c call values h (rw e (dead.answered-goes_on_with c values (row c h.code) (there c call h) (sixteen c call h) few))

  without : (c : ℕ) (call : Syscall) (h : MakesCall x s c call) → syscall_made x.setup c (row c h.code) ≡ goes_on c (row c h.code) → OnlyAnswers level x s c []
  without c call h e = answers c call [] h (rw e (dead.answered-goes_on c (row c h.code) (there c call h) (sixteen c call h)))

  -- ## a fault alone

  health_is : (c : ℕ) (call : Syscall) (f : Fault) (h : MakesCall x s c call) → syscall_made x.setup c (row c h.code) ≡ faulted x.setup c f (row c h.code) → (task_at (turn level x s).state c).health ≡ Faulted f
  unfolding task_at
  health_is c call f h e =
      ap (λ (u : Turn). (task_at u.state c).health) (call_is level x s c call h)
      ∙ ap (λ (u : State). (task_at u c).health) (over level c (syscall_made x.setup c (row c h.code)))
      ∙ ap (λ (u : Turn). (task_at u.state c).health) e
      ∙ ap (λ (y : Task). y.health) (task-faulted x.setup c f (row c h.code) (there c call h))

  faults : (c : ℕ) (call : Syscall) (f : Fault) (h : MakesCall x s c call) → syscall_made x.setup c (row c h.code) ≡ faulted x.setup c f (row c h.code) → OnlyFaults level x s c f
  faults c call f h e =
      let health = health_is c call f h e in
      record { health = health; nothing = changes_nothing_else level x s c sane record { chosen = h.chosen; faulted = ap is_faulted health } }

  -- ## an id is the same where the row begins, and as dead

  module _ (c code : ℕ) where
    same_id : (id : State → ℕ → ℕ) → IsDeadId t.state (id t.state c) → id (record t.state { current = c }) c ≡ id t.state c → IsDeadId (row c code).state (id (row c code).state c)
    unfolding is_out is_dead task_at
    same_id id d e = rw (row_state c code, e) record { inside = d.inside; dead = d.dead }

    same_code : (id : State → ℕ → ℕ) → id (record t.state { current = c }) c ≡ id t.state c → dead_code_for (row c code).state (id (row c code).state c) ≡ dead_code_for t.state (id t.state c)
    unfolding dead_code_for task_at
    same_code id e = rw (row_state c code, e) refl

    same_old : is_out t.state (old_id t.state c) ≡ false → is_out (row c code).state (old_id (row c code).state c) ≡ false
    unfolding is_out arguments task_at
    same_old inside = rw (row_state c code) inside

    same_present : present_id (row c code).state (index_of (old_id (row c code).state c)) ≡ present_id t.state (index_of (old_id t.state c))
    unfolding present_id arguments task_at
    same_present = rw (row_state c code) refl

  pub dead_turn : IsDeadTurn level x s
  unfolding arguments task_at register dead_code_for
  dead_turn = record {
    send = λ c h d m. with_values c Send _ h (omega arith) (dead.dead-sent x.setup c (row c h.code) (calls c Send h) (same_id c h.code recipient d refl) (rw (row_state c h.code) record { task = m.task; other = m.other; message = m.message; reply = m.reply; table = m.table; readable = m.readable; writable = m.writable }) ∙ ap (λ (k : ℕ). goes_on_with c (k ∷ 0 ∷ []) (row c h.code)) (same_code c h.code recipient refl));
    recv = λ c h d m. with_values c Recv _ h (omega arith) (dead.dead-received x.setup c (row c h.code) (calls c Recv h) (same_id c h.code sender d refl) (rw (row_state c h.code) record { valid = m.valid; writable = m.writable; closed = m.closed; task = m.task; other = m.other; quiet = m.quiet }) ∙ ap (λ (k : ℕ). goes_on_with c (k ∷ 0 ∷ 0 ∷ 0 ∷ 0 ∷ 0 ∷ []) (row c h.code)) (same_code c h.code sender refl));
    reply = λ c h d. without c Reply h (dead.dead-replied x.setup c (row c h.code) (calls c Reply h) (same_id c h.code client d refl));
    read = λ c h d. with_values c BorrowRead _ h (omega arith) (dead.dead-read x.setup c (row c h.code) (calls c BorrowRead h) (same_id c h.code lender d refl) ∙ ap (λ (k : ℕ). goes_on_with c (k ∷ 0 ∷ []) (row c h.code)) (same_code c h.code lender refl));
    written = λ c h d. with_values c BorrowWrite _ h (omega arith) (dead.dead-written x.setup c (row c h.code) (calls c BorrowWrite h) (same_id c h.code lender d refl) ∙ ap (λ (k : ℕ). goes_on_with c (k ∷ 0 ∷ []) (row c h.code)) (same_code c h.code lender refl));
    informed = λ c h d. with_values c BorrowInfo _ h (omega arith) (dead.dead-informed x.setup c (row c h.code) (calls c BorrowInfo h) (same_id c h.code asked_lender d refl) ∙ ap (λ (k : ℕ). goes_on_with c (k ∷ 0 ∷ 0 ∷ []) (row c h.code)) (same_code c h.code asked_lender refl));
    post = λ c h d. with_values c Post _ h (omega arith) (dead.dead-posted x.setup c (row c h.code) (calls c Post h) (same_id c h.code posted_to d refl) ∙ ap (λ (k : ℕ). goes_on_with c (k ∷ []) (row c h.code)) (same_code c h.code posted_to refl));
    reply_fault = λ c h d few. without c ReplyFault h (dead.dead-reply_faulted x.setup c (row c h.code) (calls c ReplyFault h) (same_id c h.code client d refl) (rw (row_state c h.code) few));
    no_reason = λ c h d many. faults c ReplyFault (usage_fault_by 10) h (dead.dead-no_reason x.setup c (row c h.code) (calls c ReplyFault h) (same_id c h.code client d refl) (rw (row_state c h.code) many));
    refresh = λ c h inside. with_values c RefreshTaskId _ h (omega arith) (refresh_is x.setup c (row c h.code) (calls c RefreshTaskId h) (same_old c h.code inside) ∙ ap (λ (k : ℕ). goes_on_with c (k ∷ []) (row c h.code)) (same_present c h.code));
  }

  -- ## memory, whatever row decides

  quiet : (c : ℕ) (call : Syscall) (h : MakesCall x s c call) → IsQuiet (row c h.code) (syscall_made x.setup c (row c h.code)) → TouchesNoMemory level x s
  quiet c call h q =
      let made = syscall_made x.setup c (row c h.code) in
      let e = call_is level x s c call h in
      let fresh = fresh-after_events x s in
      record {
        memory = ap (λ (u : Turn). u.state.memory) e ∙ ap (λ (u : State). u.memory) (over level c made) ∙ q.memory ∙ ap (λ (u : State). u.memory) (row_state c h.code) ∙ fresh.memory;
        writes = ap (λ (u : Turn). u.writes) e ∙ over-writes level c made ∙ q.writes ∙ begins-writes level c h.code t ∙ fresh.writes;
      }

  by_row : (c : ℕ) (call : Syscall) (h : MakesCall x s c call) → StaysOrFaults x.setup c (row c h.code) (syscall_made x.setup c (row c h.code)) → TouchesNoMemory level x s
  by_row c call h (stays q) = quiet c call h q
  by_row c call h (fails f e) = let o = faults c call f h e in record { memory = o.nothing.state.memory ∙ (fresh-after_events x s).memory; writes = o.nothing.writes }

  goes : (c : ℕ) (call : Syscall) (values : List ℕ) (h : MakesCall x s c call) → syscall_made x.setup c (row c h.code) ≡ goes_on_with c values (row c h.code) → TouchesNoMemory level x s
  goes c call values h e = quiet c call h (rw e (goes_quiet c values (row c h.code)))

  pub dead_memory : (c : ℕ) → NamesDead x s c → TouchesNoMemory level x s
  unfolding arguments task_at register
  dead_memory c (by_send h task d) = by_row c Send h (sent_stays x.setup c (row c h.code) (calls c Send h) (rw (row_state c h.code) task) (same_id c h.code recipient d refl))
  dead_memory c (by_recv h closed d) = by_row c Recv h (received_stays x.setup c (row c h.code) (calls c Recv h) (rw (row_state c h.code) record { closed = closed.closed; task = closed.task }) (same_id c h.code sender d refl))
  dead_memory c (by_reply h d) = quiet c Reply h (rw (dead.dead-replied x.setup c (row c h.code) (calls c Reply h) (same_id c h.code client d refl)) (on_quiet c (row c h.code)))
  dead_memory c (by_reply_fault h d) = by_row c ReplyFault h (reply_faulted_stays x.setup c (row c h.code) (calls c ReplyFault h) (same_id c h.code client d refl))
  dead_memory c (by_read h d) = goes c BorrowRead _ h (dead.dead-read x.setup c (row c h.code) (calls c BorrowRead h) (same_id c h.code lender d refl))
  dead_memory c (by_write h d) = goes c BorrowWrite _ h (dead.dead-written x.setup c (row c h.code) (calls c BorrowWrite h) (same_id c h.code lender d refl))
  dead_memory c (by_info h d) = goes c BorrowInfo _ h (dead.dead-informed x.setup c (row c h.code) (calls c BorrowInfo h) (same_id c h.code asked_lender d refl))
  dead_memory c (by_post h d) = goes c Post _ h (dead.dead-posted x.setup c (row c h.code) (calls c Post h) (same_id c h.code posted_to d refl))
