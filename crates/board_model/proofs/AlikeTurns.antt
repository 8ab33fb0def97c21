-- Turns leave alike states alike.
use Rattle.std.proofs.Common.{◌≡◌, ◌+◌, ◌%◌, ℕ, Bool, true, false, cond, leb, ◌&&◌, List, Option, Some, None, refl, sym, subst, ap}
use Rattle.std.specs.Prelude.{fold}
use Rattle.kernel_abi.specs.declared.Given.{Given}
use Rattle.kernel_abi.specs.Devices.{DeviceData, devices_stored, devices_loaded, devices_fed, feed_answer, device_out, device_number}
use Rattle.kernel_abi.specs.declared.Note.{Note}
use Rattle.kernel_abi.specs.declared.Note.TheVariants as note
use Rattle.region_check.specs.declared.Right.TheVariants.{Read, Execute}
use Rattle.run_script.specs.declared.events.Event.{Event}
use Rattle.run_script.specs.declared.events.Event.TheVariants.{Tick, Irq, Feed}
use Rattle.run_script.specs.Scripts.{events_of}
use Rattle.thumb_exec.specs.Effect.{Move, Puts, Takes}
use Rattle.mem_banks.specs.Memory.{number_at, number_of, is_ram}
use Rattle.task_table.specs.model.State.{Setup, State, Own, Turn}
use Rattle.task_table.specs.model.Reading.{task_at, listen_of, chosen}
use Rattle.task_table.specs.model.Effects.{noted, stored, with_devices, given_out, device_stored, device_taken}
use Rattle.task_table.specs.model.Events.{fed}
use Rattle.task_table.specs.model.Rows.{syscall_noted}
use Rattle.board_model.specs.Levels.{is_noted_always}
use Rattle.task_table.specs.model.Start.{begun}
use Rattle.board_model.specs.declared.outcomes.Level.{Level}
use Rattle.board_model.specs.declared.outcomes.Level.TheVariants.{Calls, All}
use Rattle.board_model.specs.Script.{Scenario}
use Rattle.thumb_exec.specs.Bytes.{bytes_of}
use Rattle.board_model.specs.Turn.{may, is_device, or_zero, held, cpu_of, moved, noted_at, stepped, happened, after_events, with_current, low_note, high_note, with_registers_noted, turn_of, ended, turn}
use Rattle.board_model.specs.Alike.{Viewer, IsAttentive, seen, IsAlike, IsAlikeWhereSeen}
use Rattle.board_model.specs.Agreement.{rest_of}
use Rattle.board_model.proofs.Alike.{devices_alike, register_alike, chosen_alike, bytes_alike, turn_alike}
use Rattle.board_model.proofs.AlikeRows.{by_test, alike-heard, alike-unheard, the_task, alike-processor, alike-current, alike-next_turn, alike-stored, alike-faulted, surely, alike-syscall_noted, alike-ticked, alike-interrupted, alike-driven, alike-fold, alike-noted_always}
use Rattle.board_model.proofs.AlikeSyscalls.{alike-syscall_made}
use Rattle.board_model.proofs.Sight.{IsOpen, none_lacking}
use Rattle.board_model.proofs.Births.{AreTellable}
use Rattle.board_model.proofs.Following.{IsFollowed, follow-stepped}

-- how much is noted of the two turns: as much, and all is heard; or the first tells no more than what is heard
abbrev pub IsHeardAs : Viewer → Level → Level → Type 0
IsHeardAs w Calls Calls = Unit {0}
IsHeardAs w All All = (n : Note) → w.hears n ≡ true
IsHeardAs w Calls All = (n : Note) → is_noted_always n ≡ false → w.hears n ≡ false
IsHeardAs w All Calls = ⊥

-- alike, and what listens name is told apart in both
pub record AreAlikeAndNoted (w : Viewer) (t u : Turn) : Type 0 where
  pub alike : IsAlike w t u
  pub first : AreTellable w.birth t.state
  pub second : AreTellable w.birth u.state

notable_noted : (v : ℕ → ℕ) (l : Level) (n : Note) (t : Turn) → AreTellable v t.state → AreTellable v (noted_at l n t).state
unfolding noted
notable_noted v Calls n t h = h
notable_noted v All n t h = h

notable_out : (v : ℕ → ℕ) (o : Option Given) (t : Turn) → AreTellable v t.state → AreTellable v (given_out o t).state
unfolding noted
notable_out v None t h = h
notable_out v (Some x) t h = h

notable_devices : (v : ℕ → ℕ) (devices : List DeviceData) (t : Turn) → AreTellable v t.state → AreTellable v (with_devices devices t).state
unfolding with_devices listen_of task_at
notable_devices v devices t h = h

notable_moved : (v : ℕ → ℕ) (t : Turn) (x : Move) → AreTellable v t.state → AreTellable v (moved t x).state
unfolding stored listen_of task_at device_stored device_taken
notable_moved v t (Puts x) h = go (is_ram t.state.memory x.addr x.bytes)
  where
    device : (b : Bool) → AreTellable v (cond b (device_stored x.addr x.value t) t).state
    device true = notable_out v (device_out t.state.devices x.addr x.value) _ (notable_devices v (devices_stored t.state.devices x.addr) t h)
    device false = h

    go : (b : Bool) → AreTellable v (cond b (stored Own x.addr (bytes_of x.value x.bytes) t) (cond (is_device x.addr) (device_stored x.addr x.value t) t)).state
    go true = h
    go false = device (is_device x.addr)
notable_moved v t (Takes a n) h = go (is_device a)
  where
    go : (b : Bool) → AreTellable v (cond b (device_taken a t) t).state
    go true = notable_devices v (devices_loaded t.state.devices a) t h
    go false = h

notable_current : (v : ℕ → ℕ) (c : ℕ) (t : Turn) → AreTellable v t.state → AreTellable v (with_current c t).state
unfolding listen_of task_at
notable_current v c t h = h

notable_syscall_noted : (v : ℕ → ℕ) (c : ℕ) (t : Turn) → AreTellable v t.state → AreTellable v (syscall_noted c t).state
unfolding syscall_noted noted
notable_syscall_noted v c t h = h

module _ (w : Viewer) (a : IsAttentive w) where
  alike-noted_at : (l m : Level) → IsHeardAs w l m → (n k : Note) (t u : Turn) → n ≡ k → is_noted_always n ≡ false → IsAlike w t u → IsAlike w (noted_at l n t) (noted_at m k u)
  alike-noted_at l m heard n k t u e request h = rw (sym e) (go l m heard)
    where
      go : (x y : Level) → IsHeardAs w x y → IsAlike w (noted_at x n t) (noted_at y n u)
      go Calls Calls q = h
      go All All q = alike-heard w a n t u (q n) h
      go Calls All q = alike-unheard w a n t u (q n request) h
      go All Calls q = absurd q

  devices_same : (t u : Turn) → IsAlike w t u → t.state.devices ≡ u.state.devices
  devices_same t u h = devices_alike w.birth t.state u.state h.state

  alike-with_devices : (devices : List DeviceData) (t u : Turn) → IsAlike w t u → IsAlike w (with_devices devices t) (with_devices devices u)
  unfolding with_devices seen
  alike-with_devices devices t u h = record { state = ap (λ (s : State). record s { devices = devices }) h.state; memory = h.memory; notes = h.notes; writes = h.writes; reads = h.reads }

  alike-out : (o : Option Given) (t u : Turn) → IsAlike w t u → IsAlike w (given_out o t) (given_out o u)
  alike-out None t u h = h
  alike-out (Some x) t u h = alike-noted_always w a (note.Out x.device x.byte) (note.Out x.device x.byte) t u refl refl h

  alike-device_stored : (at value : ℕ) (t u : Turn) → IsAlike w t u → IsAlike w (device_stored at value t) (device_stored at value u)
  unfolding device_stored
  alike-device_stored at value t u h =
      let P : List DeviceData → Type 0 = λ ds. IsAlike w (given_out (device_out t.state.devices at value) (with_devices (devices_stored t.state.devices at) t)) (given_out (device_out ds at value) (with_devices (devices_stored ds at) u)) in
      subst P (devices_same t u h) (alike-out (device_out t.state.devices at value) _ _ (alike-with_devices (devices_stored t.state.devices at) t u h))

  alike-device_taken : (at : ℕ) (t u : Turn) → IsAlike w t u → IsAlike w (device_taken at t) (device_taken at u)
  unfolding device_taken
  alike-device_taken at t u h =
      let P : List DeviceData → Type 0 = λ ds. IsAlike w (with_devices (devices_loaded t.state.devices at) t) (with_devices (devices_loaded ds at) u) in
      subst P (devices_same t u h) (alike-with_devices (devices_loaded t.state.devices at) t u h)

  alike-moved : (x : Move) (t u : Turn) → IsAlike w t u → IsAlike w (moved t x) (moved u x)
  alike-moved (Puts x) t u h =
      by_test (IsAlike w) (is_ram t.state.memory x.addr x.bytes) (is_ram u.state.memory x.addr x.bytes)
      (ap (λ n. leb 0x20000000 x.addr && leb (x.addr + x.bytes) (0x20000000 + n)) h.memory.ram_length)
      (alike-stored w a Own x.addr (bytes_of x.value x.bytes) t u h) (device (is_device x.addr))
    where
      device : (b : Bool) → IsAlike w (cond b (device_stored x.addr x.value t) t) (cond b (device_stored x.addr x.value u) u)
      device true = alike-device_stored x.addr x.value t u h
      device false = h
  alike-moved (Takes at n) t u h = device (is_device at)
    where
      device : (b : Bool) → IsAlike w (cond b (device_taken at t) t) (cond b (device_taken at u) u)
      device true = alike-device_taken at t u h
      device false = h

  -- what bytes hold, where the memory does and where devices lie
  held_alike : (t u : Turn) (at n : ℕ) → IsAlike w t u → number_at t.state.memory at n ≡ number_at u.state.memory at n → held t.state at n ≡ held u.state at n
  held_alike t u at n h same = go (is_device at)
    where
      go : (b : Bool) → cond b (or_zero (device_number t.state.devices at n)) (number_at t.state.memory at n) ≡ cond b (or_zero (device_number u.state.devices at n)) (number_at u.state.memory at n)
      go true = ap (λ (ds : List DeviceData). or_zero (device_number ds at n)) (devices_same t u h)
      go false = same

  -- the walk of an instruction, to this viewer
  module _ (l m : Level) (heard : IsHeardAs w l m) (g : Setup) (c : ℕ) (open_to : IsOpen w g c) where
    pub followed : IsFollowed l m g g c c (AreAlikeAndNoted w) (IsAlikeWhereSeen w)
    followed = record {
      refused = refl;
      pc = λ t u h. register_alike w.birth t.state u.state c 15 h.alike.state;
      cpu = λ t u h. ap cpu_of (the_task w a c t u h.alike);
      fetches = λ t u h a e. held_alike t u a 2 h.alike (ap number_of (bytes_alike w.sees t.state.memory u.state.memory a 2 h.alike.memory (λ x lo hi. open_to.rights Execute x (none_lacking (may g c Execute) a 2 e x lo hi))));
      loads = λ t u h at n e. held_alike t u at n h.alike (ap number_of (bytes_alike w.sees t.state.memory u.state.memory at n h.alike.memory (λ x lo hi. open_to.rights Read x (none_lacking (may g c Read) at n e x lo hi))));
      noted_at = λ at code t u h. record { alike = alike-noted_at l m heard (note.Insn c at code) (note.Insn c at code) t u refl refl h.alike; first = notable_noted w.birth l _ t h.first; second = notable_noted w.birth m _ u h.second };
      moved = λ x t u h. record { alike = alike-moved x t u h.alike; first = notable_moved w.birth t x h.first; second = notable_moved w.birth u x h.second };
      processor = λ registers flags t u h. surely w a (alike-processor w a c registers flags t u h.alike);
      fault = λ x t u h. surely w a (alike-faulted w a g c x t u h.alike);
      call = λ t u h. alike-syscall_made w a g c _ _ open_to (notable_syscall_noted w.birth c t h.first) (notable_syscall_noted w.birth c u h.second) (alike-syscall_noted w a c t u h.alike);
    }

    alike-stepped : (t u : Turn) → AreAlikeAndNoted w t u → IsAlikeWhereSeen w (stepped l g c t) (stepped m g c u)
    alike-stepped t u h = follow-stepped l m g g c c (AreAlikeAndNoted w) (IsAlikeWhereSeen w) followed t u h

  -- ## the turn

  module _ (l m : Level) (heard : IsHeardAs w l m) where
    alike-registers_noted : (c : ℕ) (t u : Turn) → IsAlike w t u → IsAlike w (with_registers_noted l c t) (with_registers_noted m c u)
    unfolding with_registers_noted
    alike-registers_noted c t u h =
        alike-noted_at l m heard _ _ _ _ (ap high_note (the_task w a c t u h)) refl
        (alike-noted_at l m heard _ _ t u (ap low_note (the_task w a c t u h)) refl h)

    reads_told : (c : ℕ) (t : Turn) → (with_registers_noted l c t).reads ≡ t.reads
    unfolding with_registers_noted noted
    reads_told c t = elim l as (λ (x : Level). (noted_at x (high_note (task_at t.state c)) (noted_at x (low_note (task_at t.state c)) t)).reads ≡ t.reads) [ Calls ↦ refl | All ↦ refl ]

    alike-turn_of : (g : Setup) (o : Option ℕ) (t u : Turn) → ((c : ℕ) → o ≡ Some c → IsOpen w g c) → AreAlikeAndNoted w t u → IsAlikeWhereSeen w (turn_of l g o t) (turn_of m g o u)
    alike-turn_of g None t u sight h = surely w a (alike-noted_at l m heard note.Idle note.Idle t u refl refl h.alike)
    alike-turn_of g (Some c) t u sight h =
        let k = alike-stepped l m heard g c (sight c refl) (with_current c t) (with_current c u) record { alike = alike-current w a c t u h.alike; first = notable_current w.birth c t h.first; second = notable_current w.birth c u h.second } in
        record { alike = λ see. alike-registers_noted c _ _ (k.alike (rw reads_told at see)) }

    pub alike-rest : (g : Setup) (t u : Turn) → ((c : ℕ) → chosen g t.state ≡ Some c → IsOpen w g c) → AreTellable w.birth t.state → AreTellable w.birth u.state → IsAlike w t u → IsAlikeWhereSeen w (rest_of l g t) (rest_of m g u)
    unfolding ended
    alike-rest g t u sight tell tell' h =
        let e = sym (chosen_alike w.birth g t.state u.state h.state) in
        let k = alike-turn_of g (chosen g t.state) t u sight record { alike = h; first = tell; second = tell' } in
        rw e record { alike = λ see. alike-next_turn w a _ _ (k.alike see) }

  alike-fed : (device byte : ℕ) (t u : Turn) → IsAlike w t u → IsAlike w (fed device byte t) (fed device byte u)
  unfolding fed
  alike-fed device byte t u h =
      let same = devices_same t u h in
      let P : List DeviceData → Type 0 = λ ds. IsAlike w (with_devices (devices_fed t.state.devices device byte) t) (with_devices (devices_fed ds device byte) u) in
      alike-noted_always w a _ _ _ _ (ap (λ (ds : List DeviceData). note.In device byte (feed_answer ds device)) same) refl
      (subst P same (alike-with_devices (devices_fed t.state.devices device byte) t u h))

  alike-happened : (g : Setup) (e : Event) (t u : Turn) → IsAlike w t u → IsAlike w (happened g t e) (happened g u e)
  alike-happened g Tick t u h = alike-ticked w a t u h
  alike-happened g (Irq line) t u h = alike-interrupted w a g line t u h
  alike-happened g (Feed device byte) t u h = alike-driven w a g _ _ (alike-fed device (byte % 256) t u h)

  pub alike-events : (x : Scenario) (s u : State) → IsAlike w (begun s) (begun u) → IsAlike w (after_events x s) (after_events x u)
  unfolding after_events begun
  alike-events x s u h = go (events_of x.script s.turn) (events_of x.script u.turn) (λ j. events_of x.script (turn_alike w.birth s u h.state j))
    where
      go : (es ks : List Event) → es ≡ ks → IsAlike w (fold (happened x.setup) (begun s) es) (fold (happened x.setup) (begun u) ks)
      go es ks e = rw (sym e) (alike-fold w a (happened x.setup) es (begun s) (begun u) (alike-happened x.setup) h)

  pub alike-turn : (l m : Level) → IsHeardAs w l m → (x : Scenario) (s u : State) → ((c : ℕ) → IsOpen w x.setup c) → AreTellable w.birth (after_events x s).state → AreTellable w.birth (after_events x u).state → IsAlike w (begun s) (begun u) → IsAlikeWhereSeen w (turn l x s) (turn m x u)
  unfolding turn
  alike-turn l m heard x s u sight tell tell' h = alike-rest l m heard x.setup (after_events x s) (after_events x u) (λ c e. sight c) tell tell' (alike-events x s u h)
