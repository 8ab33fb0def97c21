-- What the notes of a run say of calls. It is good, and agrees with the calls that are open.
use Rattle.std.specs.Prelude.{ℕ, ◌+◌, ◌≡◌, Bool, true, false, List, length, map, Contains, find, Option, Some, None, ◌==◌}
use Rattle.kernel_abi.specs.declared.Note.{Note}
use Rattle.task_table.specs.model.State.{State, Call}
use Rattle.task_table.specs.declared.slot.Phase.{Phase}
use Rattle.task_table.specs.declared.slot.Phase.TheVariants.{Offered, Taken}
use Rattle.trace_audit.specs.declared.book.Open.{Open}
use Rattle.trace_audit.specs.declared.reading.Saying.{Saying}
use Rattle.trace_audit.specs.declared.reading.FinalWait.{FinalWait}
use Rattle.trace_audit.specs.declared.reading.FinalWait.TheVariants as wait
use Rattle.trace_audit.specs.Books.{CallBook, IsTold}
use Rattle.audit_laws.specs.Told.{told_by}
use Rattle.audit_laws.specs.Whole.{AreGoodSayings}

-- what notes say of calls, in order
abbrev pub sayings : List Note → List Saying
sayings notes = map told_by notes

-- the open call of a client, as an audit keeps it
abbrev pub is_taken : Phase → Bool
is_taken Offered = false
is_taken Taken = true

abbrev pub open_of : Option Call → Option Open
open_of None = None
open_of (Some c) = Some record { call = c.number; taken = is_taken c.phase }

abbrev pub held_of : List Call → ℕ → Option Open
held_of calls i = open_of (find (λ c. c.client.index == i) calls)

-- what the notes say of calls is good, and an audit that has read them has exactly the calls that are open
pub record IsSpoken (notes : List Note) (s : State) : Type 0 where
  pub kept : CallBook
  pub held : (i : ℕ) → kept.held i ≡ held_of s.calls i
  pub next : s.next_call ≡ length kept.clients + 1
  pub told : IsTold (sayings notes) kept
  pub unique : (c d : Call) → Contains s.calls c → Contains s.calls d → c.client.index ≡ d.client.index → c ≡ d
  pub good : AreGoodSayings (sayings notes)

-- what a task waits for by its line, given its open call
abbrev pub wait_in : Phase → ℕ → FinalWait
wait_in Offered number = wait.Offered number
wait_in Taken number = wait.Taken number

abbrev pub wait_by_call : Option Call → FinalWait
wait_by_call None = wait.Other
wait_by_call (Some c) = wait_in c.phase c.number
