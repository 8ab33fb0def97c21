-- The rows of system calls by their arguments.
use Rattle.std.proofs.Common.{◌≡◌, ◌<◌, ◌≤◌, ℕ, true, false, not, ◌&&◌, ◌||◌, [], ◌∷◌, cond, eqb, ltb, Option, Some, None, MatchOption, refl, sym, arith, is_some}
use Rattle.std.proofs.lemmas.Bool.{lt-ltb, le-ltb, false≢true}
use Rattle.std.specs.Option.{option_map}
use Rattle.kernel_abi.specs.Faults.{reason_number}
use Rattle.kernel_abi.specs.Ids.{index_of}
use Rattle.kernel_abi.specs.declared.Reason.{Reason}
use Rattle.kernel_abi.specs.declared.Reason.TheVariants.{UndefinedOperation, BadMessageSize, BadMessageContents, BadLeases, ReplyBufferTooSmall, AccessViolation}
use Rattle.kernel_abi.specs.declared.arguments.IdArgs.{IdArgs}
use Rattle.kernel_abi.specs.declared.arguments.RecvArgs.{RecvArgs}
use Rattle.kernel_abi.specs.declared.arguments.ReplyArgs.{ReplyArgs}
use Rattle.kernel_abi.specs.declared.arguments.SendArgs.{SendArgs}
use Rattle.region_check.specs.declared.Right.TheVariants.{Write}
use Rattle.task_table.specs.model.State.{Setup, State, Call, Turn}
use Rattle.task_table.specs.model.Reading.{is_out, is_dead, dead_code_for, present_id, is_valid, bad_byte, taken_by}
use Rattle.task_table.specs.model.Effects.{posted}
use Rattle.task_table.specs.model.Rows.{buffer_of, misused, denied, goes_on, goes_on_with, input_received}
use Rattle.task_table.specs.model.Sends.{sent_to, replied_to, reply_faulted_to}
use Rattle.task_table.specs.kept.Holds.{Holds, kept_call}
use Rattle.task_table.specs.declared.kernel.Kernel.{Kernel}
use Rattle.ipc_core.specs.declared.receiving.Sender.{Sender}
use Rattle.ipc_core.specs.declared.receiving.Sender.TheVariants as sender
use Rattle.ipc_core.specs.Named.{IsSender}
use Rattle.ipc_core.specs.Sending.{IsRecipient}
use Rattle.ipc_core.specs.declared.sending.Recipient.{Recipient}
use Rattle.ipc_core.specs.declared.sending.Recipient.TheVariants as recipient

abbrev pub Received : Setup → Kernel → ℕ → Option ℕ → Turn → RecvArgs → Type 0
Received g k c best t x =
    Holds g k
    (cond (not (is_valid (buffer_of x))) (misused g c 3 t)
    (cond (is_some (bad_byte g c Write (buffer_of x))) (denied g c 3 (bad_byte g c Write (buffer_of x)) t)
    (cond ((x.closed && not (eqb x.sender.number 0xFFFF)) && (is_out t.state x.sender.number || eqb (index_of x.sender.number) c)) (misused g c 2 t)
    (input_received c best t))))

-- a sender that a receive may name is no misuse
pub no_misuse : (s : State) (c : ℕ) (x : RecvArgs) (who : Sender) → IsSender s c x who → ((x.closed && not (eqb x.sender.number 0xFFFF)) && (is_out s x.sender.number || eqb (index_of x.sender.number) c)) ≡ false
no_misuse s c x sender.Any h = rw h refl
no_misuse s c x sender.Kernel h = rw (h.0, h.1) refl
no_misuse s c x (sender.Dead g) h = rw (h.0, h.1, h.2) refl
no_misuse s c x (sender.One i) h = rw (h.0, h.1, h.2) refl

abbrev pub Sent : Setup → Kernel → ℕ → Turn → SendArgs → Type 0
Sent g k c t x =
    Holds g k (cond (is_out t.state x.recipient.number || eqb (index_of x.recipient.number) c) (misused g c 2 t) (sent_to g c x t))

abbrev pub Replied : Setup → Kernel → ℕ → Turn → ReplyArgs → Type 0
Replied g k c t x =
    Holds g k
    (cond (is_out t.state x.client.number) (misused g c 2 t)
    (cond (is_dead t.state x.client.number) (goes_on c t)
    (replied_to g c x (taken_by t.state (index_of x.client.number) c) t)))

abbrev pub ReplyFaulted : Setup → Kernel → ℕ → Turn → ReplyArgs → Type 0
ReplyFaulted g k c t x =
    Holds g k
    (cond (is_out t.state x.client.number) (misused g c 2 t)
    (cond (ltb 5 x.code) (misused g c 10 t)
    (cond (is_dead t.state x.client.number) (goes_on c t)
    (reply_faulted_to g c x.code (taken_by t.state (index_of x.client.number) c) t))))

abbrev pub PostMade : Setup → Kernel → ℕ → Turn → IdArgs → Type 0
PostMade g k c t x =
    Holds g k
    (cond (is_out t.state x.id.number) (misused g c 2 t)
    (cond (is_dead t.state x.id.number) (goes_on_with c (dead_code_for t.state x.id.number ∷ []) t)
    (goes_on_with c (0 ∷ []) (posted (index_of x.id.number) x.bits t))))

abbrev pub Refreshed : Setup → Kernel → ℕ → Turn → IdArgs → Type 0
Refreshed g k c t x =
    Holds g k
    (cond (is_out t.state x.id.number) (misused g c 2 t)
    (goes_on_with c (present_id t.state (index_of x.id.number) ∷ []) t))

-- a recipient that a send may name is no misuse
pub is_other : (s : State) (c id : ℕ) (who : Recipient) → IsRecipient s c id who → (is_out s id || eqb (index_of id) c) ≡ false
is_other s c id (recipient.Dead g) h = h.0
is_other s c id (recipient.Live i) h = h.0

-- a number is that of a reason, or is too high
pub bad_reason : (o : Option Reason) (n : ℕ) → MatchOption o (5 < n) (λ r. reason_number r ≡ n) → o ≡ None → ltb 5 n ≡ true
bad_reason None n h e = lt-ltb 5 n h
bad_reason (Some r) n h e = absurd (no_none e)
  where
    no_none : Some r ≡ None → ⊥
    no_none e = cc

few_reasons : (r : Reason) → reason_number r ≤ 5
few_reasons UndefinedOperation = omega arith
few_reasons BadMessageSize = omega arith
few_reasons BadMessageContents = omega arith
few_reasons BadLeases = omega arith
few_reasons ReplyBufferTooSmall = omega arith
few_reasons AccessViolation = omega arith

pub good_reason : (o : Option Reason) (n : ℕ) (r : Reason) → MatchOption o (5 < n) (λ x. reason_number x ≡ n) → o ≡ Some r → (ltb 5 n ≡ false) × (reason_number r ≡ n)
good_reason o n r h e = let number : reason_number r ≡ n = rw e at h in (le-ltb 5 n (rw (← number) (few_reasons r)), number)

-- a call that the kernel keeps is an open call of the state
pub kept_some : (o : Option Call) → is_some (option_map kept_call o) ≡ true → (k : Call) × (o ≡ Some k)
kept_some None h = absurd (false≢true h)
kept_some (Some k) h = (k, refl)

pub kept_none : (o : Option Call) → is_some (option_map kept_call o) ≡ false → o ≡ None
kept_none None h = refl
kept_none (Some k) h = absurd (false≢true (sym h))
