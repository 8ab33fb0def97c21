-- What a step that does not fault its caller keeps: the births of each task, and the health of each task that does
-- not fault.
use Rattle.std.proofs.Common.{◌≡◌, ◌≢◌, ◌⊎◌, inl, inr, ◌%◌, ℕ, zero, suc, Bool, true, false, cond, List, [], ◌∷◌, length, Option, Some, None, refl, ◌∙◌, ap, eqb, bit_and, get_or, set}
use Rattle.std.specs.Prelude.{fold}
use Rattle.std.specs.List.{range_with_len}
use Rattle.kernel_abi.specs.Devices.{DeviceData}
use Rattle.kernel_abi.specs.Ids.{dead_code_of}
use Rattle.kernel_abi.specs.declared.Ending.{Ending}
use Rattle.kernel_abi.specs.declared.Ending.TheVariants.{Restart}
use Rattle.kernel_abi.specs.declared.Fault.{Fault}
use Rattle.kernel_abi.specs.declared.Health.TheVariants.{Faulted}
use Rattle.kernel_abi.specs.declared.Note.{Note}
use Rattle.kernel_abi.specs.declared.Note.TheVariants as note
use Rattle.kernel_abi.specs.declared.Timer.{Timer}
use Rattle.words_core.specs.declared.Flags.{Flags}
use Rattle.task_table.specs.declared.Line.{Line}
use Rattle.task_table.specs.model.State.{Setup, State, Task, Call, Listen, Slice, Ground, Own, Message, Read, Turn}
use Rattle.task_table.specs.model.Reading.{task_at, no_task, call_of, listen_of, admits}
use Rattle.task_table.specs.model.Effects.{with_task, with_call, without_listen, with_listen, with_taken, changed, noted, with_processor, with_health, stored, copied, looked, given, returned, past_syscall, bits_added, bits_cleared, woken_by, woken, posted, with_timer, with_line, closed, faulted_as, offered, handed, reborn, is_to, awaits, dead_answered, restarted, with_devices}
use Rattle.task_table.specs.model.Rows.{goes_on_with}
use Rattle.task_table.specs.model.Sends.{taken_at_once, offers_call}
use Rattle.task_table.specs.model.Chain.{Chain}
use Rattle.task_table.specs.model.Step.{Step, Notes, Gives, Returns, PassesSyscall, Runs, Clears, Posts, Times, Lines, Listens, Sends, Receives, Stores, Copies, Looks, Borrows, Ceases, Halts, Strikes, Restarts, Spares, Spared, Reaches}
use Rattle.task_table.proofs.model.Chains.{chain_keeps}
use Rattle.task_table.proofs.model.Changes.{task_at-with_task_other, task_at-without_call, task_at-without_listen}
use Rattle.task_table.proofs.model.Waiting.{task_at-with_listen}

part_set : {A : Type 0} (part : Task → A) (xs : List Task) (k j : ℕ) (x : Task) → part x ≡ part (get_or xs k no_task) → part (get_or (set xs k x) j no_task) ≡ part (get_or xs j no_task)
part_set part [] k j x e = refl
part_set part (y ∷ ys) zero zero x e = e
part_set part (y ∷ ys) zero (suc j) x e = refl
part_set part (y ∷ ys) (suc k) zero x e = refl
part_set part (y ∷ ys) (suc k) (suc j) x e = part_set part ys k j x e

-- what a change of a task leaves of each
part_kept : {A : Type 0} (part : Task → A) (s : State) (i j : ℕ) (x : Task) → part x ≡ part (task_at s i) → part (task_at (with_task i x s) j) ≡ part (task_at s j)
unfolding task_at with_task
part_kept part s i j x e = part_set part s.tasks i j x e

-- a part of task j that its births and its health decide
module _ {A : Type 0} (part : Task → A) (decided : (x y : Task) → x.births ≡ y.births → x.health ≡ y.health → part x ≡ part y) (j : ℕ) where
  abbrev pub Left : Turn → Turn → Type 0
  Left t u = part (task_at u.state j) ≡ part (task_at t.state j)

  left-task : (i : ℕ) (x : Task) (t : Turn) → x.births ≡ (task_at t.state i).births → x.health ≡ (task_at t.state i).health → Left t (changed (with_task i x) t)
  left-task i x t births health = part_kept part t.state i j x (decided x (task_at t.state i) births health)

  pub left-noted : (n : Note) (t : Turn) → Left t (noted n t)
  unfolding noted
  left-noted n t = refl

  pub left-processor : (i : ℕ) (registers : List ℕ) (flags : Flags) (t : Turn) → Left t (with_processor i registers flags t)
  unfolding with_processor
  left-processor i registers flags t = left-task i _ t refl refl

  left-given : (i : ℕ) (values : List ℕ) (t : Turn) → Left t (given i values t)
  unfolding given
  left-given i values t = left-task i _ t refl refl

  left-returned : (i : ℕ) (t : Turn) → Left t (returned i t)
  unfolding returned
  left-returned i t = left-noted _ t

  left-past_syscall : (i : ℕ) (t : Turn) → Left t (past_syscall i t)
  unfolding past_syscall
  left-past_syscall i t = left-task i _ t refl refl

  left-cleared : (i mask : ℕ) (t : Turn) → Left t (bits_cleared i mask t)
  unfolding bits_cleared
  left-cleared i mask t = left-task i _ t refl refl

  pub left-timer : (i : ℕ) (timer : Option Timer) (t : Turn) → Left t (with_timer i timer t)
  unfolding with_timer
  left-timer i timer t = left-task i _ t refl refl

  pub left-line : (k : ℕ) (line : Line) (t : Turn) → Left t (with_line k line t)
  unfolding with_line task_at
  left-line k line t = refl

  left-unlistened : (i : ℕ) (t : Turn) → Left t (changed (without_listen i) t)
  left-unlistened i t = rw (task_at-without_listen t.state i j) refl

  left-woken_by : (i : ℕ) (lo : Option Listen) (t : Turn) → Left t (woken_by i lo t)
  left-woken_by i None t = refl
  left-woken_by i (Some l) t = by_bits (eqb (bit_and (task_at t.state i).posted l.mask) 0)
    where
      u : Turn
      u = changed (without_listen i) t

      v : Turn
      v = bits_cleared i l.mask u

      w : Turn
      w = given i (0 ∷ 0xFFFF ∷ bit_and (task_at t.state i).posted l.mask ∷ 0 ∷ 0 ∷ 0 ∷ []) v

      by_bits : (b : Bool) → Left t (cond b t (returned i w))
      by_bits true = refl
      by_bits false = left-returned i w ∙ left-given i _ v ∙ left-cleared i l.mask u ∙ left-unlistened i t

  pub left-posted : (i bits : ℕ) (t : Turn) → Left t (posted i bits t)
  unfolding posted woken bits_added
  left-posted i bits t =
      let u = bits_added i bits t in
      left-woken_by i (listen_of u.state i) u ∙ left-noted _ _ ∙ left-task i _ t refl refl

  left-looked : (r : Read) (t : Turn) → Left t (looked r t)
  unfolding looked
  left-looked r t = refl

  pub left-stored : (on : Ground) (at : ℕ) (bytes : List ℕ) (t : Turn) → Left t (stored on at bytes t)
  unfolding stored task_at
  left-stored on at bytes t = refl

  left-copied : (on : Ground) (from at n : ℕ) (t : Turn) → Left t (copied on from at n t)
  unfolding copied task_at
  left-copied on from at n t = refl

  left-devices : (devices : List DeviceData) (t : Turn) → Left t (with_devices devices t)
  unfolding with_devices task_at
  left-devices devices t = refl

  left-closed : (i : ℕ) (ending : Ending) (t : Turn) → Left t (closed i ending t)
  unfolding closed
  left-closed i ending t = rw (task_at-without_call t.state i j) refl

  left-listening : (l : Listen) (t : Turn) → Left t (changed (with_listen l) t)
  left-listening l t = rw (task_at-with_listen t.state l j) refl

  left-handed : (on : Ground) (k : Call) (buffer : Slice) (t : Turn) → Left t (handed on k buffer t)
  unfolding handed noted copied looked task_at with_taken without_listen
  left-handed on k buffer t = left-given k.server.index _ _

  -- a call that is offered may be taken at once
  left-offered : (k : Call) (t : Turn) → Left t (offered k t)
  unfolding offered noted with_call task_at
  left-offered k t = refl

  left-taken : (k : Call) (lo : Option Listen) (t : Turn) → Left t (taken_at_once k lo t)
  left-taken k None t = refl
  left-taken k (Some l) t = by_fit (admits l.from k.client)
    where
      by_fit : (b : Bool) → Left t (cond b (returned k.server.index (handed (Message k.number) k l.buffer t)) t)
      by_fit true = left-returned k.server.index _ ∙ left-handed (Message k.number) k l.buffer t
      by_fit false = refl

  left-offers : (k : Call) (t : Turn) → Left t (offers_call k t)
  left-offers k t = left-taken k (listen_of t.state k.server.index) (offered k t) ∙ left-offered k t

  -- ## a task faults

  -- a fault of task i keeps the part of task j: j is another task, or the part is not of its health
  abbrev pub FaultsLeave : ℕ → Type 0
  FaultsLeave i = (j ≢ i) ⊎ ((x : Task) (fault : Fault) → part record x { health = Faulted fault } ≡ part x)

  left-stopped : (i : ℕ) (fault : Fault) (t : Turn) → FaultsLeave i → Left t (with_health i (Faulted fault) t)
  unfolding with_health
  left-stopped i fault t (inl other) = rw (task_at-with_task_other t.state i j _ other) refl
  left-stopped i fault t (inr any) = part_kept part t.state i j _ (any (task_at t.state i) fault)

  pub left-faulted : (g : Setup) (i : ℕ) (fault : Fault) (ending : Ending) (t : Turn) → FaultsLeave i → Left t (faulted_as g i fault ending t)
  unfolding faulted_as
  left-faulted g i fault ending t leave = by_zero (eqb i 0)
    where
      u : Turn
      u = with_health i (Faulted fault) t

      v : Turn
      v = changed (without_listen i) u

      w : Turn
      w = noted (note.Fault i fault) v

      shut : Left t (closed i ending w)
      shut = left-closed i ending w ∙ left-noted (note.Fault i fault) v ∙ left-unlistened i u ∙ left-stopped i fault t leave

      by_zero : (b : Bool) → Left t (cond b (closed i ending w) (posted 0 g.fault_bits (closed i ending w)))
      by_zero true = shut
      by_zero false = left-posted 0 g.fault_bits (closed i ending w) ∙ shut

  -- ## another task is born again

  left-answered : (i k : ℕ) (t : Turn) → Left t (dead_answered i t k)
  left-answered i k t = by_tests (is_to i (call_of t.state k)) (awaits i (listen_of t.state k)) (dead_code_of ((task_at t.state i).births % 64))
    where
      by_tests : (b d : Bool) (code : ℕ) → Left t (cond b (returned k (given k (code ∷ 0 ∷ []) (closed k Restart t))) (cond d (returned k (given k (code ∷ 0 ∷ 0 ∷ 0 ∷ 0 ∷ 0 ∷ []) (changed (without_listen k) t))) t))
      by_tests true d code = left-returned k _ ∙ left-given k _ (closed k Restart t) ∙ left-closed k Restart t
      by_tests false true code = left-returned k _ ∙ left-given k _ (changed (without_listen k) t) ∙ left-unlistened k t
      by_tests false false code = refl

  left-all_answered : (i : ℕ) (tasks : List ℕ) (t : Turn) → Left t (fold (dead_answered i) t tasks)
  left-all_answered i [] t = refl
  left-all_answered i (k ∷ tasks) t = left-all_answered i tasks (dead_answered i t k) ∙ left-answered i k t

  left-restarted : (g : Setup) (i : ℕ) (start : Bool) (t : Turn) → j ≢ i → Left t (restarted g i start t)
  unfolding restarted reborn
  left-restarted g i start t other =
      let u = closed i Restart t in
      let v = changed (without_listen i) u in
      let w = changed (reborn g i start) v in
      left-all_answered i (range_with_len 0 (length t.state.tasks)) _
      ∙ left-noted _ w
      ∙ ap part (task_at-with_task_other v.state i j _ other)
      ∙ left-unlistened i u
      ∙ left-closed i Restart t

  pub left-after_restart : (g : Setup) (c i : ℕ) (start : Bool) (values : List ℕ) (t : Turn) → j ≢ i → Left t (goes_on_with c values (restarted g i start t))
  left-after_restart g c i start values t other =
      let u = restarted g i start t in
      let v = given c values u in
      left-returned c (past_syscall c v) ∙ left-past_syscall c v ∙ left-given c values u ∙ left-restarted g i start t other

  -- ## a step that spares the caller

  module _ (g : Setup) (s : State) (c : ℕ) (struck : (i : ℕ) → i ≢ c → FaultsLeave i) where
    left-step : (t u : Turn) (step : Step g s c t u) → Spares step → Left t u
    left-step _ _ (Notes n t plain) spared = left-noted n t
    left-step _ _ (Gives i values t lt few party) spared = left-given i values t
    left-step _ _ (Returns i t) spared = left-returned i t
    left-step _ _ (PassesSyscall t lt) spared = left-past_syscall c t
    left-step _ _ (Runs registers flags t lt whole) spared = left-processor c registers flags t
    left-step _ _ (Clears mask t lt off) spared = left-cleared c mask t
    left-step _ _ (Posts i bits t lt) spared = left-posted i bits t
    left-step _ _ (Times timer t lt ahead) spared = left-timer c timer t
    left-step _ _ (Lines k line t owned) spared = left-line k line t
    left-step _ _ (Listens l t own may) spared = left-noted _ _ ∙ left-listening l t
    left-step _ _ (Sends k t may) spared = left-offers k t
    left-step _ _ (Receives k buffer t may) spared = left-handed Own k buffer t
    left-step _ _ (Stores on at bytes t all within room may) spared = left-stored on at bytes t
    left-step _ _ (Copies on from at n i r t target may) spared = left-copied on from at n t
    left-step _ _ (Reaches devices t reached) spared = left-devices devices t
    left-step _ _ (Looks r t alive) spared = left-looked r t
    left-step _ _ (Borrows k borrow lease offset moved t alive taken fits) spared = left-noted _ t
    left-step _ _ (Ceases i ending t ends) spared = left-closed i ending t
    left-step _ _ (Halts fault t lt low high) spared = absurd spared
    left-step _ _ (Strikes i fault ending t other lt low high party ends) spared = left-faulted g i fault ending t (struck i other)
    left-step _ _ (Restarts i start t other lt) spared = absurd spared

    pub left-chain : (t u : Turn) → Chain (Spared g s c) t u → Left t u
    left-chain t u x = chain_keeps (Spared g s c) (Left t) (λ a b step before. left-step a b step.0 step.1 ∙ before) t u x refl
