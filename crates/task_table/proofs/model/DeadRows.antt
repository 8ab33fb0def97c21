-- System calls that name an earlier birth of a task.
use Rattle.std.proofs.Common.{◌≡◌, ◌+◌, ◌%◌, ◌^◌, ◌<◌, ◌≤◌, ℕ, List, [], ◌∷◌, ◌++◌, length, refl, sym, ◌∙◌, ap, arith}
use Rattle.std.specs.Prelude.{take, drop, slice_set, slice_index}
use Rattle.std.proofs.lemmas.Bool.{ne_eqb, le-ltb, lt-ltb}
use Rattle.std.proofs.lemmas.List.{append-nil, take-append-drop}
use Rattle.task_table.proofs.model.Posting.{kept_at}
use Rattle.task_table.proofs.model.Changes.{task_at-with_task, task_at-with_task_other, length-with_task}
use Rattle.kernel_abi.specs.declared.syscalls.Syscall.TheVariants.{Send, Recv, Reply, BorrowRead, BorrowWrite, BorrowInfo, Post, ReplyFault}
use Rattle.task_table.specs.model.State.{Setup, State, Task, Turn}
use Rattle.task_table.specs.model.Reading.{task_at, register}
use Rattle.task_table.specs.model.Effects.{given, returned, past_syscall, noted, with_task, with_results}
use Rattle.task_table.specs.model.Rows.{misused, goes_on, goes_on_with, received}
use Rattle.task_table.specs.model.Sends.{last_reason, sent, replied, reply_faulted, post_made}
use Rattle.task_table.specs.model.Borrows.{borrowed, informed}
use Rattle.task_table.specs.model.Syscalls.{syscall_made}
use Rattle.task_table.specs.model.DeadIds.{IsCalling, IsDeadId, MaySend, MayReceiveFrom, IsAnsweredAlone, told_dead, recipient, sender, client, lender, asked_lender, posted_to, reason}

pub dead-replied : (g : Setup) (c : ℕ) (t : Turn) → IsCalling Reply c t → IsDeadId t.state (client t.state c) → syscall_made g c t ≡ goes_on c t
unfolding syscall_made replied
dead-replied g c t e d = rw (e, d.inside, d.dead) refl

pub dead-sent : (g : Setup) (c : ℕ) (t : Turn) → IsCalling Send c t → IsDeadId t.state (recipient t.state c) → MaySend g c t.state → syscall_made g c t ≡ told_dead c (recipient t.state c) (0 ∷ []) t
unfolding syscall_made sent
dead-sent g c t e d m = let other = ne_eqb _ _ m.other in rw (e, m.task, d.inside, other, m.message, m.reply, m.table, m.readable, m.writable, d.dead) refl

pub dead-received : (g : Setup) (c : ℕ) (t : Turn) → IsCalling Recv c t → IsDeadId t.state (sender t.state c) → MayReceiveFrom g c t.state → syscall_made g c t ≡ told_dead c (sender t.state c) (0 ∷ 0 ∷ 0 ∷ 0 ∷ 0 ∷ []) t
unfolding syscall_made received
dead-received g c t e d m =
    let other = ne_eqb _ _ m.other in
    let task = ne_eqb _ _ m.task in
    rw (e, m.valid, m.writable, m.closed, task, d.inside, other, m.quiet, d.dead) refl

pub dead-read : (g : Setup) (c : ℕ) (t : Turn) → IsCalling BorrowRead c t → IsDeadId t.state (lender t.state c) → syscall_made g c t ≡ told_dead c (lender t.state c) (0 ∷ []) t
unfolding syscall_made borrowed
dead-read g c t e d = rw (e, d.inside, d.dead) refl

pub dead-written : (g : Setup) (c : ℕ) (t : Turn) → IsCalling BorrowWrite c t → IsDeadId t.state (lender t.state c) → syscall_made g c t ≡ told_dead c (lender t.state c) (0 ∷ []) t
unfolding syscall_made borrowed
dead-written g c t e d = rw (e, d.inside, d.dead) refl

pub dead-informed : (g : Setup) (c : ℕ) (t : Turn) → IsCalling BorrowInfo c t → IsDeadId t.state (asked_lender t.state c) → syscall_made g c t ≡ told_dead c (asked_lender t.state c) (0 ∷ 0 ∷ []) t
unfolding syscall_made informed
dead-informed g c t e d = rw (e, d.inside, d.dead) refl

pub dead-posted : (g : Setup) (c : ℕ) (t : Turn) → IsCalling Post c t → IsDeadId t.state (posted_to t.state c) → syscall_made g c t ≡ told_dead c (posted_to t.state c) [] t
unfolding syscall_made post_made
dead-posted g c t e d = rw (e, d.inside, d.dead) refl

pub dead-reply_faulted : (g : Setup) (c : ℕ) (t : Turn) → IsCalling ReplyFault c t → IsDeadId t.state (client t.state c) → reason t.state c ≤ last_reason → syscall_made g c t ≡ goes_on c t
unfolding syscall_made reply_faulted
dead-reply_faulted g c t e d few = let known = le-ltb 5 (reason t.state c) few in rw (e, d.inside, known, d.dead) refl

pub dead-no_reason : (g : Setup) (c : ℕ) (t : Turn) → IsCalling ReplyFault c t → IsDeadId t.state (client t.state c) → last_reason < reason t.state c → syscall_made g c t ≡ misused g c 10 t
unfolding syscall_made reply_faulted
dead-no_reason g c t e d many = let unknown = lt-ltb 5 (reason t.state c) many in rw (e, d.inside, unknown) refl

-- all but the tasks is the same
record IsSameBeside (s u : State) : Type 0 where
  calls : u.calls ≡ s.calls
  listens : u.listens ≡ s.listens
  memory : u.memory ≡ s.memory
  now : u.now ≡ s.now
  lines : u.lines ≡ s.lines
  next_call : u.next_call ≡ s.next_call

beside_task : (c : ℕ) (x : Task) (s : State) → IsSameBeside s (with_task c x s)
unfolding with_task
beside_task c x s = record { calls = refl; listens = refl; memory = refl; now = refl; lines = refl; next_call = refl }

no_results : (registers : List ℕ) → with_results [] registers ≡ registers
no_results registers = ap (λ xs. xs ++ drop 4 registers) (append-nil (take 4 registers)) ∙ take-append-drop 4 registers

pub answered-goes_on : (c : ℕ) (t : Turn) → c < length t.state.tasks → length (task_at t.state c).registers ≡ 16 → IsAnsweredAlone c [] t (goes_on c t)
unfolding past_syscall returned noted register
answered-goes_on c t inside sixteen =
    let task = task_at-with_task t.state c record (task_at t.state c) { registers = slice_set (task_at t.state c).registers 15 ((slice_index (task_at t.state c).registers 15 + 2) % 2 ^ 32) } inside in
    let same = beside_task c record (task_at t.state c) { registers = slice_set (task_at t.state c).registers 15 ((slice_index (task_at t.state c).registers 15 + 2) % 2 ^ 32) } t.state in
    let all = no_results (task_at t.state c).registers in
    record {
      caller = rw task refl;
      registers = rw task (ap (λ (xs : List ℕ). slice_set xs 15 ((slice_index (task_at t.state c).registers 15 + 2) % 2 ^ 32)) (sym all));
      others = λ i ne. task_at-with_task_other t.state c i _ ne;
      calls = same.calls;
      listens = same.listens;
      memory = same.memory;
      now = same.now;
      lines = same.lines;
      next_call = same.next_call;
      notes = refl;
      writes = refl;
      reads = refl;
    }

-- results do not change the program counter
counter_kept : (values registers : List ℕ) → length registers ≡ 16 → length values ≤ 6 → slice_index (with_results values registers) 15 ≡ slice_index registers 15
counter_kept values registers sixteen few = kept_at values registers 15 sixteen few (omega arith) (omega arith)

pub answered-goes_on_with : (c : ℕ) (values : List ℕ) (t : Turn) → c < length t.state.tasks → length (task_at t.state c).registers ≡ 16 → length values ≤ 6 → IsAnsweredAlone c values t (goes_on_with c values t)
unfolding given past_syscall returned noted register
answered-goes_on_with c values t inside sixteen few =
    let x = record (task_at t.state c) { registers = with_results values (task_at t.state c).registers } in
    let y = record x { registers = slice_set x.registers 15 ((slice_index x.registers 15 + 2) % 2 ^ 32) } in
    let inner = task_at-with_task t.state c x inside in
    let still : c < length (with_task c x t.state).tasks = rw (length-with_task t.state c x) inside in
    let task = task_at-with_task (with_task c x t.state) c y still in
    let first = beside_task c x t.state in
    let second = beside_task c y (with_task c x t.state) in
    let counter = counter_kept values (task_at t.state c).registers sixteen few in
    record {
      caller = rw (inner, task) refl;
      registers = rw (inner, task, counter) refl;
      others = λ i ne. rw inner (task_at-with_task_other (with_task c x t.state) c i y ne ∙ task_at-with_task_other t.state c i x ne);
      calls = rw inner (second.calls ∙ first.calls);
      listens = rw inner (second.listens ∙ first.listens);
      memory = rw inner (second.memory ∙ first.memory);
      now = rw inner (second.now ∙ first.now);
      lines = rw inner (second.lines ∙ first.lines);
      next_call = rw inner (second.next_call ∙ first.next_call);
      notes = refl;
      writes = refl;
      reads = refl;
    }
