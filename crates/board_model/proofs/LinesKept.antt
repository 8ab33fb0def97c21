-- Faults, restarts, ticks and system calls other than IRQ_CONTROL leave all lines as they are.
use Rattle.std.proofs.Common.{◌≡◌, ◌⊎◌, inl, inr, ℕ, Bool, true, false, cond, List, [], ◌∷◌, length, Option, Some, None, refl, eqb, leb, bit_and, not, ◌||◌, is_some, IfSome}
use Rattle.std.specs.Prelude.{fold}
use Rattle.std.specs.List.{range_with_len}
use Rattle.kernel_abi.specs.declared.Borrow.{Borrow}
use Rattle.kernel_abi.specs.declared.Borrow.TheVariants as borrow
use Rattle.kernel_abi.specs.declared.Ending.{Ending}
use Rattle.kernel_abi.specs.declared.Ending.TheVariants.{Client, Restart}
use Rattle.kernel_abi.specs.declared.Fault.{Fault}
use Rattle.kernel_abi.specs.declared.Health.{Health}
use Rattle.kernel_abi.specs.declared.Health.TheVariants.{Well, Stopped, Faulted}
use Rattle.kernel_abi.specs.declared.Note.{Note}
use Rattle.kernel_abi.specs.declared.Note.TheVariants as note
use Rattle.kernel_abi.specs.Arguments.{send_args}
use Rattle.kernel_abi.specs.Faults.{injected_fault}
use Rattle.kernel_abi.specs.Ids.{dead_code_of}
use Rattle.kernel_abi.specs.declared.Timer.{Timer}
use Rattle.kernel_abi.specs.declared.arguments.RecvArgs.{RecvArgs}
use Rattle.kernel_abi.specs.declared.arguments.SendArgs.{SendArgs}
use Rattle.kernel_abi.specs.declared.arguments.ReplyArgs.{ReplyArgs}
use Rattle.kernel_abi.specs.declared.arguments.BorrowArgs.{BorrowArgs}
use Rattle.region_check.specs.declared.Right.TheVariants.{Write}
use Rattle.region_check.specs.declared.Right.TheVariants.{Read as ToRead}
use Rattle.words_core.specs.declared.Flags.{Flags}
use Rattle.task_table.specs.declared.Line.{Line}
use Rattle.task_table.specs.declared.slot.Slice.{Slice}
use Rattle.task_table.specs.model.State.{Setup, Call, Listen, From, Ground, Read, Turn}
use Rattle.task_table.specs.model.Reading.{task_at, listen_of, call_of, arguments, is_valid, bad_byte, best_sender}
use Rattle.task_table.specs.model.Effects.{with_task, without_call, without_listen, with_listen, with_taken, with_call, changed, noted, with_processor, with_health, stored, copied, looked, given, returned, past_syscall, bits_added, bits_cleared, woken_by, woken, posted, with_timer, clocked, closed, faulted_as, offered, handed, reborn, is_to, awaits, dead_answered, restarted}
use Rattle.task_table.specs.model.Events.{expired_by, expired, ticked}
use Rattle.task_table.specs.model.Rows.{goes_on, panicked, timer_set, timer_answered, irq_controlled, irq_answered, receives_or_listens, received}
use Rattle.task_table.specs.model.Sends.{message_of, reply_room, taken_at_once, sent, replied_to, replied, reply_faulted_to, reply_faulted, post_made, refreshed}
use Rattle.task_table.specs.model.Borrows.{Way, reading, writing, moved, borrowed_by, borrowed, informed_by, informed}
use Rattle.task_table.specs.model.Requests.{Request, injected_by, injected, requests, request_of, served, requested}
use Rattle.task_table.specs.model.Syscalls.{Meaning, is_to_kernel, syscalls}
use Rattle.task_table.proofs.model.Meanings.{EachMeaning}
use Rattle.task_table.proofs.model.RequestChains.{each_found}
use Rattle.board_model.proofs.AlikeRequests.{EachRequest}

-- these are the lines of a turn
pub record HasLines (ls : List Line) (t : Turn) : Type 0 where
  pub lines : t.state.lines ≡ ls

-- both sides of a test
either : {ls : List Line} (b : Bool) {t u : Turn} → HasLines ls t → HasLines ls u → HasLines ls (cond b t u)
either true here later = here
either false here later = later

-- ## effects

pub has-noted : {ls : List Line} (n : Note) {t : Turn} → HasLines ls t → HasLines ls (noted n t)
unfolding noted
has-noted n h = record { lines = h.lines }

has-given : {ls : List Line} (i : ℕ) (values : List ℕ) {t : Turn} → HasLines ls t → HasLines ls (given i values t)
unfolding given with_task
has-given i values h = record { lines = h.lines }

has-past_syscall : {ls : List Line} (i : ℕ) {t : Turn} → HasLines ls t → HasLines ls (past_syscall i t)
unfolding past_syscall with_task
has-past_syscall i h = record { lines = h.lines }

has-cleared : {ls : List Line} (i mask : ℕ) {t : Turn} → HasLines ls t → HasLines ls (bits_cleared i mask t)
unfolding bits_cleared with_task
has-cleared i mask h = record { lines = h.lines }

has-timer : {ls : List Line} (i : ℕ) (timer : Option Timer) {t : Turn} → HasLines ls t → HasLines ls (with_timer i timer t)
unfolding with_timer with_task
has-timer i timer h = record { lines = h.lines }

pub has-processor : {ls : List Line} (i : ℕ) (registers : List ℕ) (flags : Flags) {t : Turn} → HasLines ls t → HasLines ls (with_processor i registers flags t)
unfolding with_processor with_task
has-processor i registers flags h = record { lines = h.lines }

has-health : {ls : List Line} (i : ℕ) (health : Health) {t : Turn} → HasLines ls t → HasLines ls (with_health i health t)
unfolding with_health with_task
has-health i health h = record { lines = h.lines }

has-unlistened : {ls : List Line} (i : ℕ) {t : Turn} → HasLines ls t → HasLines ls (changed (without_listen i) t)
unfolding without_listen
has-unlistened i h = record { lines = h.lines }

has-listening : {ls : List Line} (l : Listen) {t : Turn} → HasLines ls t → HasLines ls (changed (with_listen l) t)
unfolding with_listen
has-listening l h = record { lines = h.lines }

has-stored : {ls : List Line} (on : Ground) (at : ℕ) (bytes : List ℕ) {t : Turn} → HasLines ls t → HasLines ls (stored on at bytes t)
unfolding stored
has-stored on at bytes h = record { lines = h.lines }

has-copied : {ls : List Line} (on : Ground) (from at n : ℕ) {t : Turn} → HasLines ls t → HasLines ls (copied on from at n t)
unfolding copied
has-copied on from at n h = record { lines = h.lines }

has-looked : {ls : List Line} (r : Read) {t : Turn} → HasLines ls t → HasLines ls (looked r t)
unfolding looked
has-looked r h = record { lines = h.lines }

has-closed : {ls : List Line} (i : ℕ) (ending : Ending) {t : Turn} → HasLines ls t → HasLines ls (closed i ending t)
unfolding closed without_call
has-closed i ending h = record { lines = h.lines }

has-handed : {ls : List Line} (on : Ground) (k : Call) (buffer : Slice) {t : Turn} → HasLines ls t → HasLines ls (handed on k buffer t)
unfolding handed looked copied with_taken noted without_listen given with_task
has-handed on k buffer h = record { lines = h.lines }

has-offered : {ls : List Line} (k : Call) {t : Turn} → HasLines ls t → HasLines ls (offered k t)
unfolding offered with_call noted
has-offered k h = record { lines = h.lines }

has-reborn : {ls : List Line} (g : Setup) (i : ℕ) (start : Bool) {t : Turn} → HasLines ls t → HasLines ls (changed (reborn g i start) t)
unfolding reborn with_task
has-reborn g i start h = record { lines = h.lines }

has-returned : {ls : List Line} (i : ℕ) {t : Turn} → HasLines ls t → HasLines ls (returned i t)
unfolding returned noted
has-returned i h = record { lines = h.lines }

pub has-goes_on : {ls : List Line} (c : ℕ) {t : Turn} → HasLines ls t → HasLines ls (goes_on c t)
has-goes_on c h = has-returned c (has-past_syscall c h)

has-added : {ls : List Line} (i bits : ℕ) {t : Turn} → HasLines ls t → HasLines ls (bits_added i bits t)
unfolding bits_added noted with_task
has-added i bits h = record { lines = h.lines }

-- ## posts, faults and restarts

has-woken_by : {ls : List Line} (i : ℕ) (o : Option Listen) {t : Turn} → HasLines ls t → HasLines ls (woken_by i o t)
has-woken_by i None h = h
has-woken_by i (Some l) {t} h =
    either (eqb (bit_and (task_at t.state i).posted l.mask) 0) h
    (has-returned i (has-given i _ (has-cleared i l.mask (has-unlistened i h))))

pub has-posted : {ls : List Line} (i bits : ℕ) {t : Turn} → HasLines ls t → HasLines ls (posted i bits t)
unfolding posted woken
has-posted i bits {t} h = has-woken_by i (listen_of (bits_added i bits t).state i) (has-added i bits h)

pub has-faulted : {ls : List Line} (g : Setup) (i : ℕ) (fault : Fault) (ending : Ending) {t : Turn} → HasLines ls t → HasLines ls (faulted_as g i fault ending t)
unfolding faulted_as
has-faulted g i fault ending h =
    let shut = has-closed i ending (has-noted (note.Fault i fault) (has-unlistened i (has-health i (Faulted fault) h))) in
    either (eqb i 0) shut (has-posted 0 g.fault_bits shut)

has-answered : {ls : List Line} (i : ℕ) (t : Turn) (j : ℕ) → HasLines ls t → HasLines ls (dead_answered i t j)
has-answered {ls} i t j h = by_tests (is_to i (call_of t.state j)) (awaits i (listen_of t.state j)) (dead_code_of _)
  where
    by_tests : (b d : Bool) (code : ℕ) →
        HasLines ls (cond b (returned j (given j (code ∷ 0 ∷ []) (closed j Restart t))) (cond d (returned j (given j (code ∷ 0 ∷ 0 ∷ 0 ∷ 0 ∷ 0 ∷ []) (changed (without_listen j) t))) t))
    by_tests true d code = has-returned j (has-given j _ (has-closed j Restart h))
    by_tests false true code = has-returned j (has-given j _ (has-unlistened j h))
    by_tests false false code = h

has-all_answered : {ls : List Line} (i : ℕ) (tasks : List ℕ) (t : Turn) → HasLines ls t → HasLines ls (fold (dead_answered i) t tasks)
has-all_answered i [] t h = h
has-all_answered i (j ∷ tasks) t h = has-all_answered i tasks (dead_answered i t j) (has-answered i t j h)

has-restarted : {ls : List Line} (g : Setup) (i : ℕ) (start : Bool) {t : Turn} → HasLines ls t → HasLines ls (restarted g i start t)
unfolding restarted
has-restarted g i start {t} h =
    has-all_answered i (range_with_len 0 (length t.state.tasks)) _ (has-noted _ (has-reborn g i start (has-unlistened i (has-closed i Restart h))))

-- ## ticks

has-expired : {ls : List Line} (t : Turn) (i : ℕ) → HasLines ls t → HasLines ls (expired t i)
has-expired {ls} t i h = by_timer (task_at t.state i).timer
  where
    by_timer : (o : Option Timer) → HasLines ls (expired_by i o t)
    by_timer None = h
    by_timer (Some x) = either (leb x.deadline t.state.now) (has-posted i x.bits (has-timer i None h)) h

has-all_expired : {ls : List Line} (tasks : List ℕ) (t : Turn) → HasLines ls t → HasLines ls (fold expired t tasks)
has-all_expired [] t h = h
has-all_expired (i ∷ tasks) t h = has-all_expired tasks (expired t i) (has-expired t i h)

has-clocked : {ls : List Line} {t : Turn} → HasLines ls t → HasLines ls (clocked t)
unfolding clocked noted
has-clocked h = record { lines = h.lines }

pub has-ticked : {ls : List Line} (t : Turn) → HasLines ls t → HasLines ls (ticked t)
unfolding ticked
has-ticked t h = has-all_expired (range_with_len 0 (length t.state.tasks)) (clocked t) (has-clocked h)

-- ## rows

ruleset effects = (either, has-noted, has-given, has-past_syscall, has-cleared, has-timer, has-listening, has-stored, has-copied, has-looked, has-closed, has-handed, has-offered, has-returned, has-posted, has-faulted, has-restarted)

has-panicked : {ls : List Line} (g : Setup) (c : ℕ) (t : Turn) → HasLines ls t → HasLines ls (panicked g c t)
unfolding panicked
has-panicked g c t h = search effects

has-timer_set : {ls : List Line} (c : ℕ) (t : Turn) → HasLines ls t → HasLines ls (timer_set c t)
unfolding timer_set
has-timer_set c t h = search effects depth 12

has-timer_answered : {ls : List Line} (c : ℕ) (t : Turn) → HasLines ls t → HasLines ls (timer_answered c t)
unfolding timer_answered
has-timer_answered c t h = search effects depth 12

has-irq_answered : {ls : List Line} (g : Setup) (c : ℕ) (t : Turn) → HasLines ls t → HasLines ls (irq_answered g c t)
unfolding irq_answered
has-irq_answered g c t h = search effects depth 12

has-post_made : {ls : List Line} (g : Setup) (c : ℕ) (t : Turn) → HasLines ls t → HasLines ls (post_made g c t)
unfolding post_made
has-post_made g c t h = search effects depth 12

has-refreshed : {ls : List Line} (g : Setup) (c : ℕ) (t : Turn) → HasLines ls t → HasLines ls (refreshed g c t)
unfolding refreshed
has-refreshed g c t h = search effects depth 12

-- ## RECV

has-receives_or_listens : {ls : List Line} (c : ℕ) (x : RecvArgs) (from : From) (o : Option Call) (t : Turn) → HasLines ls t → HasLines ls (receives_or_listens c x from o t)
has-receives_or_listens c x from None t h = search effects depth 12
has-receives_or_listens c x from (Some k) t h = search effects depth 12

has-received : {ls : List Line} (g : Setup) (c : ℕ) (best : Option ℕ) (t : Turn) → HasLines ls t → HasLines ls (received g c best t)
unfolding received
has-received g c best t h = search (effects, has-receives_or_listens) depth 20

-- ## SEND, REPLY and REPLY_FAULT

has-taken_at_once : {ls : List Line} (k : Call) (o : Option Listen) (t : Turn) → HasLines ls t → HasLines ls (taken_at_once k o t)
has-taken_at_once k None t h = h
has-taken_at_once k (Some l) t h = search effects depth 12

has-sent : {ls : List Line} (g : Setup) (c : ℕ) (t : Turn) → HasLines ls t → HasLines ls (sent g c t)
unfolding sent
has-sent g c t h = search (effects, has-taken_at_once) depth 20

has-replied_to : {ls : List Line} (g : Setup) (c : ℕ) (x : ReplyArgs) (o : Option Call) (t : Turn) → HasLines ls t → HasLines ls (replied_to g c x o t)
has-replied_to g c x None t h = search effects depth 12
has-replied_to g c x (Some k) t h = search effects depth 20

has-replied : {ls : List Line} (g : Setup) (c : ℕ) (t : Turn) → HasLines ls t → HasLines ls (replied g c t)
unfolding replied
has-replied g c t h = search (effects, has-replied_to) depth 20

has-reply_faulted_to : {ls : List Line} (g : Setup) (c reason : ℕ) (o : Option Call) (t : Turn) → HasLines ls t → HasLines ls (reply_faulted_to g c reason o t)
has-reply_faulted_to g c reason None t h = search effects depth 12
has-reply_faulted_to g c reason (Some k) t h = search effects depth 12

has-reply_faulted : {ls : List Line} (g : Setup) (c : ℕ) (t : Turn) → HasLines ls t → HasLines ls (reply_faulted g c t)
unfolding reply_faulted
has-reply_faulted g c t h = search (effects, has-reply_faulted_to) depth 20

-- ## leases

has-moved : {ls : List Line} (way : Borrow) (k : Call) (leased own n : ℕ) (t : Turn) → HasLines ls t → HasLines ls (moved way k leased own n t)
has-moved borrow.Read k leased own n t h = search effects depth 12
has-moved borrow.Write k leased own n t h = search effects depth 12
has-moved borrow.Info k leased own n t h = h

has-borrowed_by : {ls : List Line} (g : Setup) (way : Way) (c : ℕ) (x : BorrowArgs) (o : Option Call) (t : Turn) → HasLines ls t → HasLines ls (borrowed_by g way c x o t)
has-borrowed_by g way c x None t h = search effects depth 12
has-borrowed_by g way c x (Some k) t h = search (effects, has-moved) depth 30

has-borrowed : {ls : List Line} (g : Setup) (way : Way) (c : ℕ) (t : Turn) → HasLines ls t → HasLines ls (borrowed g way c t)
unfolding borrowed
has-borrowed g way c t h = search (effects, has-borrowed_by) depth 20

has-informed_by : {ls : List Line} (g : Setup) (c lease : ℕ) (o : Option Call) (t : Turn) → HasLines ls t → HasLines ls (informed_by g c lease o t)
has-informed_by g c lease None t h = search effects depth 12
has-informed_by g c lease (Some k) t h = search effects depth 20

has-informed : {ls : List Line} (g : Setup) (c : ℕ) (t : Turn) → HasLines ls t → HasLines ls (informed g c t)
unfolding informed
has-informed g c t h = search (effects, has-informed_by) depth 20

-- ## kernel messages

has-injected : {ls : List Line} (g : Setup) (i : ℕ) (t : Turn) → HasLines ls t → HasLines ls (injected g i t)
unfolding injected
has-injected {ls} g i t h = by_health (task_at t.state i).health
  where
    by_health : (x : Health) → HasLines ls (injected_by g i x t)
    by_health Well = has-faulted g i injected_fault Client h
    by_health Stopped = has-faulted g i injected_fault Client h
    by_health (Faulted f) = h

abbrev LeavesLines : Request → Type 0
LeavesLines o = (ls : List Line) (g : Setup) (x : SendArgs) (index : ℕ) (t : Turn) → HasLines ls t → HasLines ls (o.does g x index t)

has-served : {ls : List Line} (g : Setup) (c : ℕ) (x : SendArgs) (o : Option Request) (t : Turn) → IfSome o LeavesLines → HasLines ls t → HasLines ls (served g c x o t)
has-served g c x None t does h = search effects depth 12
has-served g c x (Some o) t does h = search (effects, does) depth 20

requests_leave : EachRequest LeavesLines requests
requests_leave = (
  λ ls g x index t h. search effects depth 12,
  (λ ls g x index t h. search effects depth 12, (λ ls g x index t h. has-injected g index t h, (λ ls g x index t h. search effects depth 12, tt))),
)

has-requested : {ls : List Line} (g : Setup) (c : ℕ) (t : Turn) → HasLines ls t → HasLines ls (requested g c t)
unfolding requested
has-requested g c t h =
    let x = send_args (arguments t.state c) in
    either (not (eqb c 0)) (has-faulted g c _ Client h) (
    either (not (is_valid (message_of x)) || not (is_valid (reply_room x))) (has-faulted g c _ Client h) (
    either (is_some (bad_byte g c ToRead (message_of x))) (has-faulted g c _ Client h) (
    either (is_some (bad_byte g c Write (reply_room x))) (has-faulted g c _ Client h)
    (has-served g c x (request_of x.operation) t (each_found LeavesLines requests x.operation requests_leave) h))))

-- ## every system call but IRQ_CONTROL

-- what a system call leaves of the lines
abbrev pub KeepsLines : Meaning → Type 0
KeepsLines m = (ls : List Line) (g : Setup) (c : ℕ) (t : Turn) → HasLines ls t → HasLines ls (m g c t)

sent_or_requested : KeepsLines (λ g c t. cond (is_to_kernel t.state c) (requested g c t) (sent g c t))
sent_or_requested ls g c t h = either (is_to_kernel t.state c) (has-requested g c t h) (has-sent g c t h)

-- of each number but that of IRQ_CONTROL
pub each_keeps : EachMeaning (λ m. KeepsLines m ⊎ (m ≡ irq_controlled)) syscalls
each_keeps = (
  inl sent_or_requested,
  (
    inl (λ ls g c t h. has-received g c (best_sender g t.state c) t h),
    (
      inl (λ ls g c t h. has-replied g c t h),
      (
        inl (λ ls g c t h. has-timer_set c t h),
        (
          inl (λ ls g c t h. has-borrowed g reading c t h),
          (
            inl (λ ls g c t h. has-borrowed g writing c t h),
            (
              inl (λ ls g c t h. has-informed g c t h),
              (
                inr refl,
                (
                  inl (λ ls g c t h. has-panicked g c t h),
                  (
                    inl (λ ls g c t h. has-timer_answered c t h),
                    (
                      inl (λ ls g c t h. has-refreshed g c t h),
                      (inl (λ ls g c t h. has-post_made g c t h), (inl (λ ls g c t h. has-reply_faulted g c t h), (inl (λ ls g c t h. has-irq_answered g c t h), tt))),
                    ),
                  ),
                ),
              ),
            ),
          ),
        ),
      ),
    ),
  ),
)
