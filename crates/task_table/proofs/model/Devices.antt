-- What the kernel does leaves all devices alone.
use Rattle.std.proofs.Common.{◌≡◌, ℕ, Bool, true, false, cond, List, [], ◌∷◌, length, Option, Some, None, refl, ◌∙◌, eqb}
use Rattle.std.specs.Prelude.{fold}
use Rattle.std.specs.List.{range_with_len}
use Rattle.kernel_abi.specs.Ids.{id_of, dead_code_of}
use Rattle.kernel_abi.specs.declared.Ending.{Ending}
use Rattle.kernel_abi.specs.declared.Ending.TheVariants.{Client, Restart}
use Rattle.kernel_abi.specs.declared.Fault.{Fault}
use Rattle.kernel_abi.specs.declared.Health.TheVariants.{Faulted}
use Rattle.kernel_abi.specs.declared.Note.{Note}
use Rattle.kernel_abi.specs.declared.Note.TheVariants as note
use Rattle.task_table.specs.model.State.{Setup, State, Call, Listen, Slice, Ground, Own, Message, Turn}
use Rattle.task_table.specs.model.Reading.{call_of, listen_of, admits}
use Rattle.task_table.specs.model.Effects.{with_call, without_call, without_listen, with_taken, changed, noted, with_health, stored, copied, looked, given, returned, past_syscall, posted, closed, faulted_as, offered, handed, reborn, is_to, awaits, dead_answered, restarted}
use Rattle.task_table.specs.model.Rows.{goes_on_with}
use Rattle.task_table.specs.model.Sends.{taken_at_once, offers_call}
use Rattle.task_table.specs.model.Step.{Step, Notes, Gives, Returns, PassesSyscall, Runs, Clears, Posts, Times, Lines, Listens, Sends, Receives, Stores, Copies, Looks, Borrows, Ceases, Halts, Strikes, Restarts, Reaches, Spares}
use Rattle.task_table.proofs.model.Moves.{aside-given, aside-returned, aside-past_syscall, aside-cleared, aside-unlistened, aside-listening, aside-timer, aside-line, aside-health, aside-processor, aside-reborn, aside-posted}

-- they stay
abbrev pub Stay : Turn → Turn → Type 0
Stay t u = u.state.devices ≡ t.state.devices

pub stay-noted : (n : Note) (t : Turn) → Stay t (noted n t)
unfolding noted
stay-noted n t = refl

-- ## calls

stay-offered : (k : Call) (t : Turn) → Stay t (offered k t)
unfolding offered noted with_call
stay-offered k t = refl

stay-handed : (on : Ground) (k : Call) (buffer : Slice) (t : Turn) → Stay t (handed on k buffer t)
unfolding handed noted copied looked with_taken without_listen
stay-handed on k buffer t = (aside-given k.server.index (0 ∷ id_of k.client.index k.client.birth ∷ k.operation ∷ k.message.len ∷ k.reply.len ∷ k.leases ∷ []) _).devices

stay-taken : (k : Call) (lo : Option Listen) (t : Turn) → Stay t (taken_at_once k lo t)
stay-taken k None t = refl
stay-taken k (Some l) t = by_fit (admits l.from k.client)
  where
    by_fit : (b : Bool) → Stay t (cond b (returned k.server.index (handed (Message k.number) k l.buffer t)) t)
    by_fit true = (aside-returned k.server.index _).devices ∙ stay-handed (Message k.number) k l.buffer t
    by_fit false = refl

stay-offers : (k : Call) (t : Turn) → Stay t (offers_call k t)
stay-offers k t = stay-taken k (listen_of t.state k.server.index) (offered k t) ∙ stay-offered k t

stay-closed : (i : ℕ) (ending : Ending) (t : Turn) → Stay t (closed i ending t)
unfolding closed without_call
stay-closed i ending t = refl

-- ## a task faults

pub stay-faulted : (g : Setup) (i : ℕ) (fault : Fault) (ending : Ending) (t : Turn) → Stay t (faulted_as g i fault ending t)
unfolding faulted_as
stay-faulted g i fault ending t = by_zero (eqb i 0)
  where
    u : Turn
    u = with_health i (Faulted fault) t

    v : Turn
    v = changed (without_listen i) u

    w : Turn
    w = noted (note.Fault i fault) v

    shut : Stay t (closed i ending w)
    shut = stay-closed i ending w ∙ stay-noted (note.Fault i fault) v ∙ (aside-unlistened i u).devices ∙ (aside-health i (Faulted fault) t).devices

    by_zero : (b : Bool) → Stay t (cond b (closed i ending w) (posted 0 g.fault_bits (closed i ending w)))
    by_zero true = shut
    by_zero false = (aside-posted 0 g.fault_bits (closed i ending w)).devices ∙ shut

-- ## a task is born again

stay-answered : (i k : ℕ) (t : Turn) → Stay t (dead_answered i t k)
stay-answered i k t = by_tests (is_to i (call_of t.state k)) (awaits i (listen_of t.state k)) (dead_code_of _)
  where
    shut : Turn
    shut = closed k Restart t

    dropped : Turn
    dropped = changed (without_listen k) t

    by_tests : (b d : Bool) (code : ℕ) → Stay t (cond b (returned k (given k (code ∷ 0 ∷ []) shut)) (cond d (returned k (given k (code ∷ 0 ∷ 0 ∷ 0 ∷ 0 ∷ 0 ∷ []) dropped)) t))
    by_tests true d code = (aside-returned k _).devices ∙ (aside-given k (code ∷ 0 ∷ []) shut).devices ∙ stay-closed k Restart t
    by_tests false true code = (aside-returned k _).devices ∙ (aside-given k (code ∷ 0 ∷ 0 ∷ 0 ∷ 0 ∷ 0 ∷ []) dropped).devices ∙ (aside-unlistened k t).devices
    by_tests false false code = refl

stay-all_answered : (i : ℕ) (tasks : List ℕ) (t : Turn) → Stay t (fold (dead_answered i) t tasks)
stay-all_answered i [] t = refl
stay-all_answered i (k ∷ tasks) t = stay-all_answered i tasks (dead_answered i t k) ∙ stay-answered i k t

stay-restarted : (g : Setup) (i : ℕ) (start : Bool) (t : Turn) → Stay t (restarted g i start t)
unfolding restarted
stay-restarted g i start t =
    let u = closed i Restart t in
    let v = changed (without_listen i) u in
    let w = changed (reborn g i start) v in
    stay-all_answered i (range_with_len 0 (length t.state.tasks)) _
    ∙ stay-noted (note.Restart i _) w
    ∙ (aside-reborn g i start v).devices
    ∙ (aside-unlistened i u).devices
    ∙ stay-closed i Restart t

pub stay-after_restart : (g : Setup) (c i : ℕ) (start : Bool) (values : List ℕ) (t : Turn) → Stay t (goes_on_with c values (restarted g i start t))
stay-after_restart g c i start values t =
    let u = restarted g i start t in
    let v = given c values u in
    (aside-returned c (past_syscall c v)).devices ∙ (aside-past_syscall c v).devices ∙ (aside-given c values u).devices ∙ stay-restarted g i start t

-- ## a step

-- the step spares c, and reaches no device
abbrev pub SparesDevices : {g : Setup} {s : State} {c : ℕ} {u v : Turn} → Step g s c u v → Type 0
SparesDevices (Reaches devices u reached) = ⊥
SparesDevices step = Spares step

pub spares_caller : {g : Setup} {s : State} {c : ℕ} {u v : Turn} (step : Step g s c u v) → SparesDevices step → Spares step
spares_caller (Reaches devices u reached) spared = absurd spared
spares_caller _ spared = spared

module _ (g : Setup) (s : State) (c : ℕ) where
  pub stay-step : (t u : Turn) (step : Step g s c t u) → SparesDevices step → Stay t u
  unfolding stored copied looked
  stay-step _ _ (Notes n t plain) spared = stay-noted n t
  stay-step _ _ (Gives i values t lt few party) spared = (aside-given i values t).devices
  stay-step _ _ (Returns i t) spared = (aside-returned i t).devices
  stay-step _ _ (PassesSyscall t lt) spared = (aside-past_syscall c t).devices
  stay-step _ _ (Runs registers flags t lt whole) spared = (aside-processor c registers flags t).devices
  stay-step _ _ (Clears mask t lt off) spared = (aside-cleared c mask t).devices
  stay-step _ _ (Posts i bits t lt) spared = (aside-posted i bits t).devices
  stay-step _ _ (Times timer t lt ahead) spared = (aside-timer c timer t).devices
  stay-step _ _ (Lines k line t owned) spared = (aside-line k line t).devices
  stay-step _ _ (Listens l t own may) spared = stay-noted _ _ ∙ (aside-listening l t).devices
  stay-step _ _ (Sends k t may) spared = stay-offers k t
  stay-step _ _ (Receives k buffer t may) spared = stay-handed Own k buffer t
  stay-step _ _ (Stores on at bytes t all within room may) spared = refl
  stay-step _ _ (Copies on from at n i r t target may) spared = refl
  stay-step _ _ (Reaches devices t reached) spared = absurd spared
  stay-step _ _ (Looks r t alive) spared = refl
  stay-step _ _ (Borrows k borrow lease offset moved t alive taken fits) spared = stay-noted _ t
  stay-step _ _ (Ceases i ending t ends) spared = stay-closed i ending t
  stay-step _ _ (Halts fault t lt low high) spared = stay-faulted g c fault Client t
  stay-step _ _ (Strikes i fault ending t other lt low high party ends) spared = stay-faulted g i fault ending t
  stay-step _ _ (Restarts i start t other lt) spared = stay-restarted g i start t
