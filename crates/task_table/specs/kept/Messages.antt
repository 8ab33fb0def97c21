-- What operations of the code's kernel on messages require.
use Rattle.std.specs.Prelude.{ℕ, ◌≡◌, ◌<◌, ◌≤◌, ◌+◌, ◌*◌, Option, None, Some, if◌then◌else◌}
use Rattle.std.specs.Option.{option_map}
use Rattle.kernel_abi.specs.Arguments.{recv_args}
use Rattle.kernel_abi.specs.declared.FromIndex.{FromIndex}
use Rattle.kernel_abi.specs.declared.FromIndex.TheVariants as from_index
use Rattle.kernel_abi.specs.declared.Note.TheVariants as note
use Rattle.kernel_abi.specs.declared.arguments.RecvArgs.{RecvArgs}
use Rattle.kernel_abi.specs.declared.arguments.ReplyArgs.{ReplyArgs}
use Rattle.kernel_abi.specs.declared.arguments.SendArgs.{SendArgs}
use Rattle.region_check.specs.declared.Right.TheVariants.{Read, Write}
use Rattle.task_table.specs.declared.entry.KeptEntry.{KeptEntry}
use Rattle.task_table.specs.declared.kernel.Kernel.{Kernel}
use Rattle.task_table.specs.declared.slot.OpenCall.{OpenCall}
use Rattle.task_table.specs.model.State.{Setup, State, Birth, Listen, Slice, From, Any, One, KernelOnly, Turn}
use Rattle.task_table.specs.model.Reading.{arguments, present, admits, bad_byte, offer_by, taken_by, IsIdle}
use Rattle.task_table.specs.kept.Entries.{entry_at}
use Rattle.task_table.specs.model.Effects.{◌⨾◌, changed, noted, with_listen}
use Rattle.task_table.specs.model.Rows.{listened_from, buffer_of}
use Rattle.task_table.specs.model.Sends.{message_of, reply_of}
use Rattle.task_table.specs.kept.Holds.{Stands, kept_call}

-- whose messages a task listens for; a task that is named has an index below n
abbrev pub from_of : State → FromIndex → From
from_of s from_index.Any = Any
from_of s from_index.Kernel = KernelOnly
from_of s (from_index.One i) = One (present s i)

abbrev pub IsListened : ℕ → FromIndex → Type 0
IsListened n from_index.Any = Unit {0}
IsListened n from_index.Kernel = Unit {0}
IsListened n (from_index.One i) = i < n

-- a task starts to listen, by the arguments of its system call
abbrev pub listening : ℕ → RecvArgs → From → Turn → Turn
listening c x from t =
    t
    ⨾ changed (with_listen record { task = c; from = from; mask = x.mask; buffer = buffer_of x })
    ⨾ noted (note.Listen c (listened_from from) x.mask)

-- the caller of RECV may write its buffer
pub record IsReceiving (k : Kernel) (c : ℕ) : Type 0 where
  pub setup : Setup
  pub turn : Turn
  pub stands : Stands setup k turn
  pub writable : bad_byte setup c Write (buffer_of (recv_args (arguments turn.state c))) ≡ None

-- and a client offers this call to it
pub record IsReceivable (k : Kernel) (c client : ℕ) (call : OpenCall) : Type 0 where
  pub receiving : IsReceiving k c
  pub offered : option_map kept_call (offer_by receiving.turn.state client c) ≡ Some call

-- the buffer of a listen that accepts a client
abbrev pub buffer_for : Birth → Option Listen → Option Slice
buffer_for client None = None
buffer_for client (Some l) = if admits l.from client then Some l.buffer else None

-- the caller of SEND waits for nothing, and its message may be read
pub record IsSending (k : Kernel) (c : ℕ) (x : SendArgs) : Type 0 where
  pub setup : Setup
  pub turn : Turn
  pub stands : Stands setup k turn
  pub idle : IsIdle turn.state c
  pub readable : bad_byte setup c Read (message_of x) ≡ None

-- the caller of REPLY has taken this call of a client, and its reply may be read and is not too long
pub record IsReplying (k : Kernel) (c client : ℕ) (call : OpenCall) (x : ReplyArgs) : Type 0 where
  pub setup : Setup
  pub turn : Turn
  pub stands : Stands setup k turn
  pub taken : option_map kept_call (taken_by turn.state client c) ≡ Some call
  pub readable : bad_byte setup c Read (reply_of x) ≡ None
  pub fits : x.reply_length ≤ call.reply.len

-- a borrower has taken this call of a lender
pub record IsLent (k : Kernel) (lender borrower : ℕ) (call : OpenCall) : Type 0 where
  pub setup : Setup
  pub turn : Turn
  pub stands : Stands setup k turn
  pub taken : option_map kept_call (taken_by turn.state lender borrower) ≡ Some call

-- and an entry of the call's lease table, which the lender may read, is what memory has there
pub record IsRead (k : Kernel) (lender borrower : ℕ) (call : OpenCall) (x : KeptEntry) : Type 0 where
  pub lent : IsLent k lender borrower call
  pub listed : x.lease < call.leases
  pub base : x.base ≡ call.table + 12 * x.lease
  pub readable : bad_byte lent.setup lender Read record { base = x.base; len = 12 } ≡ None
  pub is : entry_at lent.turn.state.memory x.base ≡ x.entry
