-- The rows of SEND, REPLY, REPLY_FAULT, POST and REFRESH_TASK_ID. (Hubris Reference: IPC, task ids.)
use Rattle.std.specs.Prelude.{ℕ, ◌*◌, ◌||◌, not, [], ◌∷◌, Option, None, Some, is_some, ◌==◌, nat_lt, if◌then◌else◌}
use Rattle.kernel_abi.specs.Arguments.{send_args, reply_args, id_args}
use Rattle.kernel_abi.specs.Faults.{usage_number, access_number, reply_fault_by}
use Rattle.kernel_abi.specs.Ids.{index_of}
use Rattle.kernel_abi.specs.declared.Access.TheVariants.{KernelRead, KernelWrite}
use Rattle.kernel_abi.specs.declared.Ending.TheVariants as ending
use Rattle.kernel_abi.specs.declared.Fault.{Fault}
use Rattle.kernel_abi.specs.declared.Usage.TheVariants.{BadTaskIndex, InvalidSlice, ReplyTooBig, BadReason}
use Rattle.kernel_abi.specs.declared.arguments.ReplyArgs.{ReplyArgs}
use Rattle.kernel_abi.specs.declared.arguments.SendArgs.{SendArgs}
use Rattle.region_check.specs.declared.Right.TheVariants.{Read, Write}
use Rattle.task_table.specs.model.State.{Setup, State, Call, Listen, Offered, Slice, Message, Reply, Turn}
use Rattle.task_table.specs.model.Reading.{arguments, present, present_id, listen_of, is_out, is_dead, dead_code_for, admits, is_valid, bad_byte, taken_by}
use Rattle.task_table.specs.model.Effects.{◌⨾◌, given, returned, past_syscall, closed, copied, offered, handed, posted, faulted_as}
use Rattle.task_table.specs.model.Rows.{first_row, misused, denied, goes_on, goes_on_with}

-- ## SEND: r4 bits 31 to 16 recipient, 15 to 0 operation, r5 and r6 message, r7 and r8 reply buffer, r9 lease table, r10 leases

abbrev pub message_of : SendArgs → Slice
message_of x = record { base = x.message_base; len = x.message_length }

abbrev pub reply_room : SendArgs → Slice
reply_room x = record { base = x.reply_base; len = x.reply_capacity }

-- the lease table: twelve bytes for each lease
abbrev pub table_of : SendArgs → Slice
table_of x = record { base = x.table; len = 12 * x.leases }

-- the call that a client makes, under the next number
abbrev pub call_made : State → ℕ → SendArgs → ℕ → Call
call_made s c x server =
    record {
      number = s.next_call;
      client = present s c;
      server = present s server;
      operation = x.operation;
      message = message_of x;
      reply = reply_room x;
      table = x.table;
      leases = x.leases;
      phase = Offered;
    }

-- a task that listens takes an offered call at once, if its listen admits the client
abbrev pub taken_at_once : Call → Option Listen → Turn → Turn
taken_at_once k None t = t
taken_at_once k (Some l) t =
    if admits l.from k.client then (t ⨾ handed (Message k.number) k l.buffer ⨾ returned k.server.index) else t

-- a call is offered
abbrev pub offers_call : Call → Turn → Turn
offers_call k t = t ⨾ offered k ⨾ taken_at_once k (listen_of t.state k.server.index)

-- the caller goes past its system call, and waits
abbrev pub sends : ℕ → SendArgs → ℕ → Turn → Turn
sends c x server t = let u = t ⨾ past_syscall c in u ⨾ offers_call (call_made u.state c x server)

-- a SEND to another task: the message, the reply buffer and the lease table are checked in this order
abbrev pub sent_to : Setup → ℕ → SendArgs → Turn → Turn
sent_to g c x t =
    let s = t.state in
    let id = x.recipient.number in
    first_row (
    (not (is_valid (message_of x)) || (not (is_valid (reply_room x)) || not (is_valid (table_of x))), t ⨾ misused g c (usage_number InvalidSlice))
    ∷ (is_some (bad_byte g c Read (message_of x)), t ⨾ denied g c (access_number KernelRead) (bad_byte g c Read (message_of x)))
    ∷ (is_some (bad_byte g c Write (reply_room x)), t ⨾ denied g c (access_number KernelWrite) (bad_byte g c Write (reply_room x)))
    ∷ (is_dead s id, t ⨾ goes_on_with c (dead_code_for s id ∷ 0 ∷ []))
    ∷ []) (t ⨾ sends c x (index_of id))

-- SEND: the recipient has to be a task, and not the caller itself
unfoldable pub sent : Setup → ℕ → Turn → Turn
sent g c t =
    let s = t.state in
    let x = send_args (arguments s c) in
    let id = x.recipient.number in
    first_row (
    (is_out s id || (index_of id == c), t ⨾ misused g c (usage_number BadTaskIndex))
    ∷ []) (t ⨾ sent_to g c x)

-- ## REPLY: r4 client, r5 code, r6 and r7 reply

abbrev pub reply_of : ReplyArgs → Slice
reply_of x = record { base = x.reply_base; len = x.reply_length }

-- the client gets the reply, the code and the length of the reply, and its call is closed
abbrev pub answers : ℕ → ReplyArgs → Call → Turn → Turn
answers c x k t =
    t
    ⨾ copied (Reply k.number) x.reply_base k.reply.base x.reply_length
    ⨾ closed k.client.index ending.Reply
    ⨾ given k.client.index (x.code ∷ x.reply_length ∷ [])
    ⨾ returned k.client.index
    ⨾ goes_on c

-- a client that does not await a reply of the caller does not change
abbrev pub replied_to : Setup → ℕ → ReplyArgs → Option Call → Turn → Turn
replied_to g c x None t = t ⨾ goes_on c
replied_to g c x (Some k) t =
    first_row (
    (not (is_valid (reply_of x)), t ⨾ misused g c (usage_number InvalidSlice))
    ∷ (is_some (bad_byte g c Read (reply_of x)), t ⨾ denied g c (access_number KernelRead) (bad_byte g c Read (reply_of x)))
    ∷ (nat_lt k.reply.len x.reply_length, t ⨾ misused g c (usage_number ReplyTooBig))
    ∷ []) (t ⨾ answers c x k)

unfoldable pub replied : Setup → ℕ → Turn → Turn
replied g c t =
    let s = t.state in
    let x = reply_args (arguments s c) in
    let id = x.client.number in
    first_row (
    (is_out s id, t ⨾ misused g c (usage_number BadTaskIndex))
    ∷ (is_dead s id, t ⨾ goes_on c)
    ∷ []) (t ⨾ replied_to g c x (taken_by s (index_of id) c))

-- ## REPLY_FAULT: r4 client, r5 reason

-- the fault of the client, which its server caused for a reason
abbrev pub reply_fault_of : State → ℕ → ℕ → Fault
reply_fault_of s c reason = reply_fault_by (present_id s c) reason

-- reasons are numbered from 0 to 5
abbrev pub last_reason : ℕ
last_reason = 5

-- the client of a call faults, and its server goes on
abbrev pub faults_client : Setup → ℕ → Call → ℕ → Turn → Turn
faults_client g c k reason t = t ⨾ faulted_as g k.client.index (reply_fault_of t.state c reason) ending.ReplyFault ⨾ goes_on c

abbrev pub reply_faulted_to : Setup → ℕ → ℕ → Option Call → Turn → Turn
reply_faulted_to g c reason None t = t ⨾ goes_on c
reply_faulted_to g c reason (Some k) t = t ⨾ faults_client g c k reason

unfoldable pub reply_faulted : Setup → ℕ → Turn → Turn
reply_faulted g c t =
    let s = t.state in
    let x = reply_args (arguments s c) in
    let id = x.client.number in
    first_row (
    (is_out s id, t ⨾ misused g c (usage_number BadTaskIndex))
    ∷ (nat_lt last_reason x.code, t ⨾ misused g c (usage_number BadReason))
    ∷ (is_dead s id, t ⨾ goes_on c)
    ∷ []) (t ⨾ reply_faulted_to g c x.code (taken_by s (index_of id) c))

-- ## POST: r4 id, r5 bits

unfoldable pub post_made : Setup → ℕ → Turn → Turn
post_made g c t =
    let s = t.state in
    let x = id_args (arguments s c) in
    let id = x.id.number in
    first_row (
    (is_out s id, t ⨾ misused g c (usage_number BadTaskIndex))
    ∷ (is_dead s id, t ⨾ goes_on_with c (dead_code_for s id ∷ []))
    ∷ []) (t ⨾ posted (index_of id) x.bits ⨾ goes_on_with c (0 ∷ []))

-- ## REFRESH_TASK_ID: r4 id

unfoldable pub refreshed : Setup → ℕ → Turn → Turn
refreshed g c t =
    let s = t.state in
    let id = (id_args (arguments s c)).id.number in
    first_row (
    (is_out s id, t ⨾ misused g c (usage_number BadTaskIndex))
    ∷ []) (t ⨾ goes_on_with c (present_id s (index_of id) ∷ []))
