-- So no system call begins or ends an instruction: the walk over the rows.
-- (t: where the turn was; c: the caller; u: what the turn has come to)
use Rattle.std.proofs.Common.{ℕ, Bool, false, List, Option, Some, None, refl, IfSome}
use Rattle.std.specs.Prelude.{filter}
use Rattle.kernel_abi.specs.Arguments.{irq_args}
use Rattle.kernel_abi.specs.declared.Borrow.{Borrow}
use Rattle.kernel_abi.specs.declared.Borrow.TheVariants as borrow
use Rattle.kernel_abi.specs.declared.Fault.{Fault}
use Rattle.kernel_abi.specs.declared.Health.{Health}
use Rattle.kernel_abi.specs.declared.Health.TheVariants.{Well, Stopped, Faulted}
use Rattle.kernel_abi.specs.declared.LeaseEntry.{LeaseEntry}
use Rattle.kernel_abi.specs.declared.arguments.BorrowArgs.{BorrowArgs}
use Rattle.kernel_abi.specs.declared.arguments.RecvArgs.{RecvArgs}
use Rattle.kernel_abi.specs.declared.arguments.ReplyArgs.{ReplyArgs}
use Rattle.kernel_abi.specs.declared.arguments.SendArgs.{SendArgs}
use Rattle.task_table.specs.declared.slot.Slice.{Slice}
use Rattle.task_table.specs.model.State.{Setup, LineSetup, Call, From, Turn}
use Rattle.task_table.specs.model.Asking.{is_asked}
use Rattle.task_table.specs.model.Reading.{task_at, arguments}
use Rattle.task_table.specs.model.Effects.{past_syscall, faulted}
use Rattle.task_table.specs.model.Rows.{goes_on, goes_on_with, panicked, timer_set, timer_answered, owns_with, line_controlled, irq_controlled, irq_answered, listens, receives_or_listens, takes_bits, message_received, received, syscall_noted}
use Rattle.task_table.specs.model.Sends.{sends, sent, replied_to, replied, reply_faulted_to, reply_faulted, post_made, refreshed}
use Rattle.task_table.specs.model.Borrows.{Way, moved, lent, granted, borrowed_by, borrowed, informed_by, informed}
use Rattle.task_table.specs.model.Requests.{Request, injected_by, injected, requests, served, request_of, requested}
use Rattle.task_table.specs.model.Syscalls.{syscall_made}
use Rattle.task_table.proofs.model.RequestChains.{each_found}
use Rattle.run_cover.proofs.Quiet.{IsQuiet, quiet_if, quiet_fold, quiet_noted, quiet_same, quiet_stored, quiet_copied, quiet_looked, quiet_given, quiet_past_syscall, quiet_cleared, quiet_timer, quiet_line, quiet_returned, quiet_posted, quiet_closed, quiet_faulted_as, quiet_faulted, quiet_handed, quiet_offers, quiet_restarted}

module _ (t : Turn) (g : Setup) (c : ℕ) where
  goes : (u : Turn) → IsQuiet false t u → IsQuiet false t (goes_on c u)
  goes u h = quiet_returned false t c _ (quiet_past_syscall false t c u h)

  goes_with : (values : List ℕ) (u : Turn) → IsQuiet false t u → IsQuiet false t (goes_on_with c values u)
  goes_with values u h = goes _ (quiet_given false t c values u h)

  fails : (fault : Fault) (u : Turn) → IsQuiet false t u → IsQuiet false t (faulted g c fault u)
  fails fault u h = quiet_faulted t g c fault u h

  -- ## PANIC, timers, interrupts

  quiet_panicked : (u : Turn) → IsQuiet false t u → IsQuiet false t (panicked g c u)
  unfolding panicked
  quiet_panicked u h = fails _ u h

  quiet_timer_set : (u : Turn) → IsQuiet false t u → IsQuiet false t (timer_set c u)
  unfolding timer_set
  quiet_timer_set u h = search (quiet_if, goes, quiet_timer, quiet_posted) depth 12

  quiet_timer_answered : (u : Turn) → IsQuiet false t u → IsQuiet false t (timer_answered c u)
  unfolding timer_answered
  quiet_timer_answered u h = goes_with _ u h

  controls : (bits : ℕ) (enable asks : Bool) (u : Turn) (o : LineSetup) → IsQuiet false t u → IsQuiet false t (line_controlled c bits enable asks o.line u)
  controls bits enable asks u o h = search (quiet_if, quiet_line, quiet_posted) depth 12

  quiet_irq_controlled : (u : Turn) → IsQuiet false t u → IsQuiet false t (irq_controlled g c u)
  unfolding irq_controlled
  quiet_irq_controlled u h =
      let x = irq_args (arguments u.state c) in
      quiet_if _ (fails _ u h)
      (goes _ (quiet_fold false t (λ v o. line_controlled c x.bits x.enable (is_asked u.state o) o.line v) (λ v o k. controls x.bits x.enable (is_asked u.state o) v o k) (filter (owns_with c x.bits) g.lines) u h))

  quiet_irq_answered : (u : Turn) → IsQuiet false t u → IsQuiet false t (irq_answered g c u)
  unfolding irq_answered
  quiet_irq_answered u h = search (quiet_if, fails, goes_with, quiet_noted) depth 12

  -- ## RECV

  quiet_listens : (x : RecvArgs) (from : From) (u : Turn) → IsQuiet false t u → IsQuiet false t (listens c x from u)
  quiet_listens x from u h = quiet_noted false t _ _ refl (quiet_same false t (past_syscall c u) _ refl (quiet_past_syscall false t c u h))

  receives_if : (x : RecvArgs) (from : From) (o : Option Call) (u : Turn) → IsQuiet false t u → IsQuiet false t (receives_or_listens c x from o u)
  receives_if x from None u h = quiet_listens x from u h
  receives_if x from (Some k) u h = quiet_returned false t c _ (quiet_handed false t _ k _ _ (quiet_past_syscall false t c u h))

  takes : (mask : ℕ) (u : Turn) → IsQuiet false t u → IsQuiet false t (takes_bits c mask u)
  takes mask u h = goes_with _ _ (quiet_cleared false t c mask u h)

  quiet_message : (best : Option ℕ) (u : Turn) → IsQuiet false t u → IsQuiet false t (message_received c best u)
  quiet_message best u h = search (quiet_if, quiet_listens, goes_with, receives_if) depth 12

  quiet_received : (best : Option ℕ) (u : Turn) → IsQuiet false t u → IsQuiet false t (received g c best u)
  unfolding received
  quiet_received best u h = search (quiet_if, fails, takes, quiet_message) depth 12

  -- ## SEND, REPLY, REPLY_FAULT, POST and REFRESH_TASK_ID

  quiet_sends : (x : SendArgs) (server : ℕ) (u : Turn) → IsQuiet false t u → IsQuiet false t (sends c x server u)
  quiet_sends x server u h = quiet_offers false t _ _ (quiet_past_syscall false t c u h)

  quiet_sent : (u : Turn) → IsQuiet false t u → IsQuiet false t (sent g c u)
  unfolding sent
  quiet_sent u h = search (quiet_if, fails, goes_with, quiet_sends) depth 12

  replies : (x : ReplyArgs) (o : Option Call) (u : Turn) → IsQuiet false t u → IsQuiet false t (replied_to g c x o u)
  replies x None u h = goes u h
  replies x (Some k) u h = search (quiet_if, fails, goes, quiet_returned, quiet_given, quiet_closed, quiet_copied) depth 12

  quiet_replied : (u : Turn) → IsQuiet false t u → IsQuiet false t (replied g c u)
  unfolding replied
  quiet_replied u h = search (quiet_if, fails, goes, replies) depth 12

  faults : (reason : ℕ) (o : Option Call) (u : Turn) → IsQuiet false t u → IsQuiet false t (reply_faulted_to g c reason o u)
  faults reason None u h = goes u h
  faults reason (Some k) u h = goes _ (quiet_faulted_as t g _ _ _ u h)

  quiet_reply_faulted : (u : Turn) → IsQuiet false t u → IsQuiet false t (reply_faulted g c u)
  unfolding reply_faulted
  quiet_reply_faulted u h = search (quiet_if, fails, goes, faults) depth 12

  quiet_post_made : (u : Turn) → IsQuiet false t u → IsQuiet false t (post_made g c u)
  unfolding post_made
  quiet_post_made u h = search (quiet_if, fails, goes_with, quiet_posted) depth 12

  quiet_refreshed : (u : Turn) → IsQuiet false t u → IsQuiet false t (refreshed g c u)
  unfolding refreshed
  quiet_refreshed u h = search (quiet_if, fails, goes_with) depth 12

  -- ## borrows

  moves : (way : Borrow) (k : Call) (leased own n : ℕ) (u : Turn) → IsQuiet false t u → IsQuiet false t (moved way k leased own n u)
  moves borrow.Read k leased own n u h = quiet_copied false t _ _ _ _ _ (quiet_looked false t _ u h)
  moves borrow.Write k leased own n u h = quiet_copied false t _ _ _ _ u h
  moves borrow.Info k leased own n u h = h

  quiet_lent : (way : Way) (x : BorrowArgs) (k : Call) (part : Slice) (u : Turn) → IsQuiet false t u → IsQuiet false t (lent g way c x k part u)
  quiet_lent way x k part u h = search (quiet_if, goes_with, quiet_faulted, quiet_noted, moves) depth 12

  quiet_granted : (way : Way) (x : BorrowArgs) (k : Call) (e : LeaseEntry) (u : Turn) → IsQuiet false t u → IsQuiet false t (granted g way c x k e u)
  quiet_granted way x k e u h = search (quiet_if, fails, goes_with, quiet_faulted, quiet_lent) depth 12

  borrows : (way : Way) (x : BorrowArgs) (o : Option Call) (u : Turn) → IsQuiet false t u → IsQuiet false t (borrowed_by g way c x o u)
  borrows way x None u h = goes_with _ u h
  borrows way x (Some k) u h = search (quiet_if, fails, goes_with, quiet_faulted, quiet_granted, quiet_looked) depth 12

  quiet_borrowed : (way : Way) (u : Turn) → IsQuiet false t u → IsQuiet false t (borrowed g way c u)
  unfolding borrowed
  quiet_borrowed way u h = search (quiet_if, fails, goes_with, borrows) depth 12

  informs : (lease : ℕ) (o : Option Call) (u : Turn) → IsQuiet false t u → IsQuiet false t (informed_by g c lease o u)
  informs lease None u h = goes_with _ u h
  informs lease (Some k) u h = search (quiet_if, fails, goes_with, quiet_faulted, quiet_looked, quiet_noted) depth 12

  quiet_informed : (u : Turn) → IsQuiet false t u → IsQuiet false t (informed g c u)
  unfolding informed
  quiet_informed u h = search (quiet_if, fails, goes_with, informs) depth 12

  -- ## kernel messages

  injects : (i : ℕ) (health : Health) (u : Turn) → IsQuiet false t u → IsQuiet false t (injected_by g i health u)
  injects i Well u h = quiet_faulted t g i _ u h
  injects i Stopped u h = quiet_faulted t g i _ u h
  injects i (Faulted f) u h = h

  quiet_injected : (i : ℕ) (u : Turn) → IsQuiet false t u → IsQuiet false t (injected g i u)
  unfolding injected
  quiet_injected i u h = injects i (task_at u.state i).health u h

  -- what it does to a task leaves it quiet
  IsQuietRequest : Request → Type 0
  IsQuietRequest o = (x : SendArgs) (i : ℕ) (u : Turn) → IsQuiet false t u → IsQuiet false t (o.does g x i u)

  serves : (x : SendArgs) (o : Option Request) → IfSome o IsQuietRequest → (u : Turn) → IsQuiet false t u → IsQuiet false t (served g c x o u)
  unfolding IsQuietRequest
  serves x None each u h = fails _ u h
  serves x (Some o) each u h = search (quiet_if, fails, goes_with, each) depth 12

  serves_each : (x : SendArgs) (number : ℕ) (u : Turn) → IsQuiet false t u → IsQuiet false t (served g c x (request_of number) u)
  unfolding IsQuietRequest
  serves_each x number u h =
      serves x (request_of number)
      (each_found IsQuietRequest requests number (
        λ y i v k. quiet_stored false t _ _ _ v k,
        (
          λ y i v k. quiet_restarted false t g i _ v k,
          (λ y i v k. quiet_injected i v k, (λ y i v k. quiet_noted false t _ _ refl (quiet_stored false t _ _ _ v k), tt)),
        ),
      )) u h

  quiet_requested : (u : Turn) → IsQuiet false t u → IsQuiet false t (requested g c u)
  unfolding requested
  quiet_requested u h = search (quiet_if, fails, serves_each) depth 12

  -- ## every system call

  pub quiet_syscall_noted : (u : Turn) → IsQuiet false t u → IsQuiet false t (syscall_noted c u)
  unfolding syscall_noted
  quiet_syscall_noted u h = quiet_noted false t _ u refl h

  pub quiet_syscall_made : (u : Turn) → IsQuiet false t u → IsQuiet false t (syscall_made g c u)
  unfolding syscall_made
  quiet_syscall_made u h = search (quiet_if, fails, quiet_requested, quiet_sent, quiet_received, quiet_replied, quiet_timer_set, quiet_borrowed, quiet_informed, quiet_irq_controlled, quiet_panicked, quiet_timer_answered, quiet_refreshed, quiet_post_made, quiet_reply_faulted, quiet_irq_answered) depth 40
