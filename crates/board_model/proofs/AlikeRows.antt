-- Effects, events and the rows of RECV, PANIC, the timers and lines leave alike turns alike.
use Rattle.std.proofs.Common.{◌≡◌, ◌+◌, ◌-◌, ◌*◌, ◌/◌, ◌<◌, ◌≤◌, ◌%◌, ◌^◌, ◌&&◌, ◌||◌, ℕ, Bool, true, false, not, leb, eqb, is_some, List, [], ◌∷◌, ◌++◌, length, Option, Some, None, refl, sym, ◌∙◌, ap, bit_and, bit_or, cond, min, arith}
use Rattle.std.specs.Prelude.{if◌then◌else◌, filter, fold, option_map, unwrap_or, slice_range, slice_set, slice_index}
use Rattle.std.specs.List.{range_with_len, list_any}
use Rattle.std.proofs.lemmas.List.Elements.{Contains-append_right}
use Rattle.std.proofs.lemmas.Bool.{false≢true}
use Rattle.std.proofs.lemmas.List.{append-nil}
use Rattle.kernel_abi.specs.Arguments.{recv_args, timer_args, irq_args}
use Rattle.kernel_abi.specs.Devices.{DeviceData}
use Rattle.kernel_abi.specs.Ids.{index_of, generation_of, dead_code_of}
use Rattle.kernel_abi.specs.declared.arguments.RecvArgs.{RecvArgs}
use Rattle.kernel_abi.specs.declared.Ending.{Ending}
use Rattle.kernel_abi.specs.declared.Ending.TheVariants.{Client}
use Rattle.kernel_abi.specs.declared.Fault.{Fault}
use Rattle.kernel_abi.specs.declared.Handled.TheVariants.{Posted, Held, Unowned}
use Rattle.kernel_abi.specs.declared.Health.{Health}
use Rattle.kernel_abi.specs.declared.Health.TheVariants.{Faulted}
use Rattle.kernel_abi.specs.declared.Note.{Note}
use Rattle.kernel_abi.specs.declared.Note.TheVariants as note
use Rattle.kernel_abi.specs.declared.Timer.{Timer}
use Rattle.region_check.specs.declared.Right.TheVariants.{Write}
use Rattle.words_core.specs.declared.Flags.{Flags}
use Rattle.task_table.specs.declared.Line.{Line}
use Rattle.mem_banks.specs.Memory.{Memory, bytes_at, copied as copied_memory}
use Rattle.task_table.specs.model.State.{Setup, LineSetup, Task, State, Call, From, Any, One, KernelOnly, Listen, Turn, Ground, Own, Read, MessageFront}
use Rattle.task_table.specs.declared.slot.Slice.{Slice}
use Rattle.task_table.specs.model.Asking.{asks_at}
use Rattle.task_table.specs.model.Reading.{task_at, line_at, line_off, line_on, register, arguments, call_of, is_out, is_dead, dead_code_for, present, is_valid, bad_byte}
use Rattle.task_table.specs.model.Effects.{with_task, without_call, without_listen, with_listen, with_taken, changed, noted, with_processor, with_health, writes_on, stored, copied, looked, with_results, given, returned, past_syscall, bits_added, bits_cleared, woken_by, woken, posted, with_timer, clocked, with_line, close_notes, closed, faulted_as, faulted, handed}
use Rattle.task_table.specs.model.Rows.{goes_on, goes_on_with, misused, denied, panicked, timer_set, timer_words, timer_answered, owns_with, line_controlled, irq_controlled, status_of_lines, irq_answered, listened_from, buffer_of, listens, receives_or_listens, offer_of, received, syscall_noted}
use Rattle.task_table.specs.model.Events.{expired_by, expired, ticked, owner_of, interrupted_by, interrupted, driven_by, driven}
use Rattle.board_model.specs.Levels.{is_noted_always}
use Rattle.board_model.specs.Alike.{Viewer, IsAttentive, seen_task, seen_call, seen_from, seen_listen, seen, IsAlike, IsAlikeWhereSeen}
use Rattle.std.proofs.lemmas.List.Elements.{filter-append}
use Rattle.board_model.proofs.Alike.{shown, task_alike, registers_alike, arguments_alike, register_alike, count_alike, call_alike, offer_alike, listen_alike, line_alike, devices_alike, now_alike, alike-with_task, alike-without_call, alike-without_listen, alike-with_listen, alike-with_taken, alike-with_bytes, bytes_alike}

-- both sides of a test
pub by_test : (P : Turn → Turn → Type 0) (b c : Bool) {t t' u u' : Turn} → b ≡ c → P t u → P t' u' → P (cond b t t') (cond c u u')
by_test P true true e here later = here
by_test P false false e here later = later
by_test P true false e here later = absurd (false≢true (sym e))
by_test P false true e here later = absurd (false≢true e)

close_same : (ending : Ending) (v : ℕ → ℕ) (o p : Option Call) → option_map (seen_call v) o ≡ option_map (seen_call v) p → close_notes ending o ≡ close_notes ending p
close_same ending v None None e = refl
close_same ending v (Some c) (Some d) e = ap (λ n. note.Close n ending ∷ []) number
  where
    number : c.number ≡ d.number
    number = ap (λ (x : Call). x.number) inner
      where
        inner : seen_call v c ≡ seen_call v d
        inner = cc
close_same ending v None (Some d) e = absurd cc
close_same ending v (Some c) None e = absurd cc

pub by_same : (P : Turn → Turn → Type 0) (b : Bool) {t t' u u' : Turn} → P t u → P t' u' → P (cond b t t') (cond b u u')
by_same P true here later = here
by_same P false here later = later

-- a test, whose second side knows that it failed
pub by_case : (P : Turn → Turn → Type 0) (b : Bool) {t t' u u' : Turn} → P t u → (b ≡ false → P t' u') → P (cond b t t') (cond b u u')
by_case P true here later = here
by_case P false here later = later refl

module _ (w : Viewer) (a : IsAttentive w) where
  -- ## notes, and parts of the state

  pub alike-heard : (n : Note) (t u : Turn) → w.hears n ≡ true → IsAlike w t u → IsAlike w (noted n t) (noted n u)
  unfolding noted
  alike-heard n t u heard h = record {
    state = h.state;
    memory = h.memory;
    notes = ap (λ ns. ns ++ n ∷ []) h.notes ∙ ap (λ b. filter w.hears u.notes ++ cond b (n ∷ []) []) (sym heard) ∙ sym (filter-append w.hears u.notes (n ∷ []));
    writes = h.writes;
    reads = h.reads;
  }

  -- the second notes what is not heard
  pub alike-unheard : (n : Note) (t u : Turn) → w.hears n ≡ false → IsAlike w t u → IsAlike w t (noted n u)
  unfolding noted
  alike-unheard n t u unheard h = record {
    state = h.state;
    memory = h.memory;
    notes = h.notes ∙ sym (append-nil (filter w.hears u.notes)) ∙ ap (λ b. filter w.hears u.notes ++ cond b (n ∷ []) []) (sym unheard) ∙ sym (filter-append w.hears u.notes (n ∷ []));
    writes = h.writes;
    reads = h.reads;
  }

  pub alike-noted : (n : Note) (t u : Turn) → is_noted_always n ≡ true → IsAlike w t u → IsAlike w (noted n t) (noted n u)
  alike-noted n t u always h = alike-heard n t u (a.hears n always) h

  -- a note that is the same in both
  pub alike-noted_always : (n m : Note) (t u : Turn) → n ≡ m → is_noted_always n ≡ true → IsAlike w t u → IsAlike w (noted n t) (noted m u)
  alike-noted_always n m t u e always h = rw (sym e) (alike-noted n t u always h)

  pub alike-changed : (s x : State) (t u : Turn) → shown w.birth s ≡ shown w.birth x → s.memory ≡ t.state.memory → x.memory ≡ u.state.memory → IsAlike w t u → IsAlike w record t { state = s } record u { state = x }
  alike-changed s x t u e m n h = record { state = e; memory = rw (m, n) h.memory; notes = h.notes; writes = h.writes; reads = h.reads }

  pub alike-task : (i : ℕ) (x y : Task) (t u : Turn) → seen_task w.birth x ≡ seen_task w.birth y → IsAlike w t u → IsAlike w (changed (with_task i x) t) (changed (with_task i y) u)
  unfolding with_task
  alike-task i x y t u same h = alike-changed (with_task i x t.state) (with_task i y u.state) t u (alike-with_task w.birth i x y t.state u.state same h.state) refl refl h

  pub the_task : (i : ℕ) (t u : Turn) → IsAlike w t u → seen_task w.birth (task_at t.state i) ≡ seen_task w.birth (task_at u.state i)
  the_task i t u h = task_alike w.birth t.state u.state i h.state

  pub alike-processor : (i : ℕ) (registers : List ℕ) (flags : Flags) (t u : Turn) → IsAlike w t u → IsAlike w (with_processor i registers flags t) (with_processor i registers flags u)
  unfolding with_processor
  alike-processor i registers flags t u h = alike-task i _ _ t u (ap (λ (x : Task). record x { registers = registers; flags = flags }) (the_task i t u h)) h

  pub alike-health : (i : ℕ) (health : Health) (t u : Turn) → IsAlike w t u → IsAlike w (with_health i health t) (with_health i health u)
  unfolding with_health
  alike-health i health t u h = alike-task i _ _ t u (ap (λ (x : Task). record x { health = health }) (the_task i t u h)) h

  pub alike-given : (i : ℕ) (values : List ℕ) (t u : Turn) → IsAlike w t u → IsAlike w (given i values t) (given i values u)
  unfolding given
  alike-given i values t u h = alike-task i _ _ t u (ap (λ (x : Task). record x { registers = with_results values x.registers }) (the_task i t u h)) h

  pub alike-past_syscall : (i : ℕ) (t u : Turn) → IsAlike w t u → IsAlike w (past_syscall i t) (past_syscall i u)
  unfolding past_syscall register
  alike-past_syscall i t u h = alike-task i _ _ t u (ap (λ (x : Task). record x { registers = slice_set x.registers 15 ((slice_index x.registers 15 + 2) % 2 ^ 32) }) (the_task i t u h)) h

  pub alike-cleared : (i mask : ℕ) (t u : Turn) → IsAlike w t u → IsAlike w (bits_cleared i mask t) (bits_cleared i mask u)
  unfolding bits_cleared
  alike-cleared i mask t u h = alike-task i _ _ t u (ap (λ (x : Task). record x { posted = bit_and x.posted (2 ^ 32 - 1 - mask) }) (the_task i t u h)) h

  pub alike-timer : (i : ℕ) (timer : Option Timer) (t u : Turn) → IsAlike w t u → IsAlike w (with_timer i timer t) (with_timer i timer u)
  unfolding with_timer
  alike-timer i timer t u h = alike-task i _ _ t u (ap (λ (x : Task). record x { timer = timer }) (the_task i t u h)) h

  pub alike-line : (k : ℕ) (line : Line) (t u : Turn) → IsAlike w t u → IsAlike w (with_line k line t) (with_line k line u)
  unfolding with_line seen
  alike-line k line t u h = alike-changed _ _ t u (ap (λ (s : State). record s { lines = slice_set s.lines k line }) h.state) refl refl h

  pub alike-current : (i : ℕ) (t u : Turn) → IsAlike w t u → IsAlike w (changed (λ s. record s { current = i }) t) (changed (λ s. record s { current = i }) u)
  unfolding seen
  alike-current i t u h = alike-changed _ _ t u (ap (λ (s : State). record s { current = i }) h.state) refl refl h

  pub alike-next_turn : (t u : Turn) → IsAlike w t u → IsAlike w (changed (λ s. record s { turn = s.turn + 1 }) t) (changed (λ s. record s { turn = s.turn + 1 }) u)
  unfolding seen
  alike-next_turn t u h = alike-changed _ _ t u (ap (λ (s : State). record s { turn = s.turn + 1 }) h.state) refl refl h

  pub alike-clocked : (t u : Turn) → IsAlike w t u → IsAlike w (clocked t) (clocked u)
  unfolding clocked seen
  alike-clocked t u h =
      alike-noted_always _ _ _ _ (ap (λ k. note.Tick (k + 1)) (now_alike w.birth t.state u.state h.state)) refl
      (alike-changed _ _ t u (ap (λ (s : State). record s { now = s.now + 1 }) h.state) refl refl h)

  pub alike-no_listen : (i : ℕ) (t u : Turn) → IsAlike w t u → IsAlike w (changed (without_listen i) t) (changed (without_listen i) u)
  unfolding without_listen
  alike-no_listen i t u h = alike-changed _ _ t u (alike-without_listen w.birth i t.state u.state h.state) refl refl h

  pub alike-closed : (i : ℕ) (ending : Ending) (t u : Turn) → IsAlike w t u → IsAlike w (closed i ending t) (closed i ending u)
  unfolding closed without_call
  alike-closed i ending t u h = record {
    state = alike-without_call w.birth i t.state u.state h.state;
    memory = h.memory;
    notes =
        (λ j. h.notes j ++ close_same ending w.birth (call_of t.state i) (call_of u.state i) (call_alike w.birth t.state u.state i h.state) j)
        ∙ ap (λ l. filter w.hears u.notes ++ l) (sym (heard (call_of u.state i)))
        ∙ sym (filter-append w.hears u.notes (close_notes ending (call_of u.state i)));
    writes = h.writes;
    reads = h.reads;
  }
    where
      heard : (o : Option Call) → filter w.hears (close_notes ending o) ≡ close_notes ending o
      heard None = refl
      heard (Some c) = ap (λ b. cond b (note.Close c.number ending ∷ []) []) (a.hears (note.Close c.number ending) refl)

  -- ## posts and faults

  pub alike-returned : (i : ℕ) (t u : Turn) → IsAlike w t u → IsAlike w (returned i t) (returned i u)
  unfolding returned
  alike-returned i t u h = rw (sym (registers_alike w.birth t.state u.state i h.state)) (alike-noted _ t u refl h)

  posted_same : (i : ℕ) (t u : Turn) → IsAlike w t u → (task_at t.state i).posted ≡ (task_at u.state i).posted
  posted_same i t u h = ap (λ (x : Task). x.posted) (the_task i t u h)

  alike-added : (i bits : ℕ) (t u : Turn) → IsAlike w t u → IsAlike w (bits_added i bits t) (bits_added i bits u)
  unfolding bits_added
  alike-added i bits t u h =
      rw (sym (posted_same i t u h)) (alike-noted _ _ _ refl (alike-task i _ _ t u (ap (λ (x : Task). record x { posted = bit_or (task_at t.state i).posted bits }) (the_task i t u h)) h))

  alike-woken_by : (i : ℕ) (l m : Option Listen) (t u : Turn) → option_map (seen_listen w.birth) l ≡ option_map (seen_listen w.birth) m → IsAlike w t u → IsAlike w (woken_by i l t) (woken_by i m u)
  alike-woken_by i None None t u e h = h
  alike-woken_by i (Some l) None t u e h = absurd cc
  alike-woken_by i None (Some m) t u e h = absurd cc
  alike-woken_by i (Some l) (Some m) t u e h = go (ap (λ (x : Listen). x.mask) inner) (posted_same i t u h)
    where
      inner : seen_listen w.birth l ≡ seen_listen w.birth m
      inner = cc

      go : l.mask ≡ m.mask → (task_at t.state i).posted ≡ (task_at u.state i).posted → IsAlike w (woken_by i (Some l) t) (woken_by i (Some m) u)
      go x y = rw (sym x, sym y) (by_test (IsAlike w) _ _ refl h (alike-returned i _ _ (alike-given i _ _ _ (alike-cleared i l.mask _ _ (alike-no_listen i t u h)))))

  pub alike-posted : (i bits : ℕ) (t u : Turn) → IsAlike w t u → IsAlike w (posted i bits t) (posted i bits u)
  unfolding posted woken
  alike-posted i bits t u h =
      let k = alike-added i bits t u h in
      alike-woken_by i _ _ _ _ (listen_alike w.birth (bits_added i bits t).state (bits_added i bits u).state i k.state) k

  pub alike-faulted_as : (g : Setup) (i : ℕ) (fault : Fault) (ending : Ending) (t u : Turn) → IsAlike w t u → IsAlike w (faulted_as g i fault ending t) (faulted_as g i fault ending u)
  unfolding faulted_as
  alike-faulted_as g i fault ending t u h =
      let shut = alike-closed i ending _ _ (alike-noted (note.Fault i fault) _ _ refl (alike-no_listen i _ _ (alike-health i (Faulted fault) t u h))) in
      by_test (IsAlike w) (eqb i 0) (eqb i 0) refl shut (alike-posted 0 g.fault_bits _ _ shut)

  pub alike-faulted : (g : Setup) (i : ℕ) (fault : Fault) (t u : Turn) → IsAlike w t u → IsAlike w (faulted g i fault t) (faulted g i fault u)
  alike-faulted g i fault t u h = alike-faulted_as g i fault Client t u h

  pub alike-misused : (g : Setup) (c usage : ℕ) (t u : Turn) → IsAlike w t u → IsAlike w (misused g c usage t) (misused g c usage u)
  alike-misused g c usage t u h = alike-faulted g c record { number = 7; x = usage; y = 0 } t u h

  pub alike-denied : (g : Setup) (c y : ℕ) (bad : Option ℕ) (t u : Turn) → IsAlike w t u → IsAlike w (denied g c y bad t) (denied g c y bad u)
  alike-denied g c y bad t u h = alike-faulted g c record { number = 3; x = unwrap_or bad 0; y = y } t u h

  -- ## bytes

  same_but_memory : (s : State) (m : Memory) → shown w.birth record s { memory = m } ≡ shown w.birth s
  unfolding seen
  same_but_memory s m = refl

  pub alike-stored : (on : Ground) (at : ℕ) (bytes : List ℕ) (t u : Turn) → IsAlike w t u → IsAlike w (stored on at bytes t) (stored on at bytes u)
  unfolding stored
  alike-stored on at bytes t u h = record {
    state = same_but_memory t.state _ ∙ h.state ∙ sym (same_but_memory u.state _);
    memory = alike-with_bytes w.sees t.state.memory u.state.memory at bytes h.memory;
    notes = h.notes;
    writes = ap (λ l. l ++ writes_on on at bytes) h.writes;
    reads = h.reads;
  }

  -- bytes are copied from where they are seen
  pub alike-copied : (on : Ground) (from to n : ℕ) (t u : Turn) → ((x : ℕ) → from ≤ x → x < from + n → w.sees x ≡ true) → IsAlike w t u → IsAlike w (copied on from to n t) (copied on from to n u)
  unfolding copied copied_memory
  alike-copied on from to n t u see h =
      let e : bytes_at t.state.memory from n ≡ bytes_at u.state.memory from n = bytes_alike w.sees t.state.memory u.state.memory from n h.memory see in
      record {
        state = same_but_memory t.state _ ∙ h.state ∙ sym (same_but_memory u.state _);
        memory = rw e (alike-with_bytes w.sees t.state.memory u.state.memory to (bytes_at u.state.memory from n) h.memory);
        notes = h.notes;
        writes = λ j. h.writes j ++ writes_on on to (e j);
        reads = h.reads;
      }

  pub alike-looked : (r : Read) (t u : Turn) → IsAlike w t u → IsAlike w (looked r t) (looked r u)
  unfolding looked
  alike-looked r t u h = record { state = h.state; memory = h.memory; notes = h.notes; writes = h.writes; reads = ap (λ l. l ++ r ∷ []) h.reads }

  -- ## a call is handed over

  front_of : Call → Slice → Read
  front_of k buffer = record { call = k.number; part = MessageFront; base = k.message.base; len = min k.message.len buffer.len }

  alike-handed_same : (on : Ground) (k : Call) (buffer : Slice) (t u : Turn) → IsAlike w t u → IsAlikeWhereSeen w (handed on k buffer t) (handed on k buffer u)
  unfolding handed given noted copied looked front_of with_taken
  alike-handed_same on k buffer t u h = record {
    alike = λ see.
        let n = min k.message.len buffer.len in
        let r = front_of k buffer in
        let front : (x : ℕ) → k.message.base ≤ x → x < k.message.base + n → w.sees x ≡ true = see r (Contains-append_right t.reads (r ∷ []) r (0, zero-lt, refl)) in
        let taken = alike-copied on k.message.base buffer.base n _ _ front (alike-looked r t u h) in
        let noted_at = alike-noted (note.Take k.number n) _ _ refl (alike-changed _ _ _ _ (alike-with_taken w.birth k.client.index _ _ taken.state) refl refl taken) in
        alike-given k.server.index _ _ _ (alike-no_listen k.server.index _ _ noted_at);
  }
    where
      zero-lt : 0 < 1
      zero-lt = omega arith

  handed_seen : (on : Ground) (k : Call) (buffer : Slice) (t : Turn) → handed on (seen_call w.birth k) buffer t ≡ handed on k buffer t
  unfolding handed
  handed_seen on k buffer t =
      ap (λ (b : ℕ). given k.server.index (0 ∷ (k.client.index + 1024 * b) ∷ k.operation ∷ k.message.len ∷ k.reply.len ∷ k.leases ∷ []) given_before) (a.generation k.client.birth)
    where
      given_before : Turn
      given_before =
          let n = min k.message.len buffer.len in
          changed (without_listen k.server.index)
          (noted (note.Take k.number n)
          (changed (with_taken k.client.index)
          (copied on k.message.base buffer.base n
          (looked record { call = k.number; part = MessageFront; base = k.message.base; len = n } t))))

  pub alike-handed : (on : Ground) (k m : Call) (buffer : Slice) (t u : Turn) → seen_call w.birth k ≡ seen_call w.birth m → IsAlike w t u → IsAlikeWhereSeen w (handed on k buffer t) (handed on m buffer u)
  alike-handed on k m buffer t u same h =
      let e : handed on m buffer u ≡ handed on k buffer u = sym (handed_seen on m buffer u) ∙ ap (λ (x : Call). handed on x buffer u) (sym same) ∙ handed_seen on k buffer u in
      rw e (alike-handed_same on k buffer t u h)

  pub surely : {t u : Turn} → IsAlike w t u → IsAlikeWhereSeen w t u
  surely h = record { alike = λ see. h }

  pub where_seen-returned : (c : ℕ) (t u : Turn) → IsAlikeWhereSeen w t u → IsAlikeWhereSeen w (returned c t) (returned c u)
  unfolding returned noted
  where_seen-returned c t u h = record { alike = λ see. alike-returned c t u (h.alike see) }

  -- ## the rows of the system calls

  pub alike-goes_on : (c : ℕ) (t u : Turn) → IsAlike w t u → IsAlike w (goes_on c t) (goes_on c u)
  alike-goes_on c t u h = alike-returned c _ _ (alike-past_syscall c t u h)

  pub alike-goes_on_with : (c : ℕ) (values : List ℕ) (t u : Turn) → IsAlike w t u → IsAlike w (goes_on_with c values t) (goes_on_with c values u)
  alike-goes_on_with c values t u h = alike-goes_on c _ _ (alike-given c values t u h)

  -- values that are the same in both
  pub alike-answers : (c : ℕ) (values others : List ℕ) (t u : Turn) → values ≡ others → IsAlike w t u → IsAlike w (goes_on_with c values t) (goes_on_with c others u)
  alike-answers c values others t u e h = rw (sym e) (alike-goes_on_with c values t u h)

  pub args : (c : ℕ) (t u : Turn) → IsAlike w t u → arguments u.state c ≡ arguments t.state c
  args c t u h = sym (arguments_alike w.birth t.state u.state c h.state)

  pub word : (c r : ℕ) (t u : Turn) → IsAlike w t u → register u.state c r ≡ register t.state c r
  word c r t u h = sym (register_alike w.birth t.state u.state c r h.state)

  pub alike-panicked : (g : Setup) (c : ℕ) (t u : Turn) → IsAlike w t u → IsAlike w (panicked g c t) (panicked g c u)
  unfolding panicked
  alike-panicked g c t u h =
      let x = word c 4 t u h in
      let y = word c 5 t u h in
      rw (x, y) (alike-faulted g c _ t u h)

  pub alike-timer_set : (c : ℕ) (t u : Turn) → IsAlike w t u → IsAlike w (timer_set c t) (timer_set c u)
  unfolding timer_set
  alike-timer_set c t u h =
      let e = args c t u h in
      let x = timer_args (arguments t.state c) in
      rw e (
      by_same (IsAlike w) (not x.set) (alike-goes_on c _ _ (alike-timer c None t u h)) (
      by_test (IsAlike w) (leb x.deadline t.state.now) (leb x.deadline u.state.now) (ap (leb x.deadline) (now_alike w.birth t.state u.state h.state))
      (alike-goes_on c _ _ (alike-posted c x.bits _ _ (alike-timer c None t u h)))
      (alike-goes_on c _ _ (alike-timer c (Some record { deadline = x.deadline; bits = x.bits }) t u h))))

  pub alike-timer_answered : (c : ℕ) (t u : Turn) → IsAlike w t u → IsAlike w (timer_answered c t) (timer_answered c u)
  unfolding timer_answered
  alike-timer_answered c t u h =
      let now = now_alike w.birth t.state u.state h.state in
      let timer : (task_at t.state c).timer ≡ (task_at u.state c).timer = ap (λ (x : Task). x.timer) (the_task c t u h) in
      alike-answers c _ _ t u (λ j. now j % 2 ^ 32 ∷ now j / 2 ^ 32 ∷ timer_words (timer j)) h

  pub alike-fold : {A : Type 0} (f : Turn → A → Turn) (xs : List A) (t u : Turn) → ((x : A) (p q : Turn) → IsAlike w p q → IsAlike w (f p x) (f q x)) → IsAlike w t u → IsAlike w (fold f t xs) (fold f u xs)
  alike-fold f [] t u step h = h
  alike-fold f (x ∷ xs) t u step h = alike-fold f xs (f t x) (f u x) step (step x t u h)

  alike-line_controlled : (c bits : ℕ) (enable asks : Bool) (k : ℕ) (t u : Turn) → IsAlike w t u → IsAlike w (line_controlled c bits enable asks k t) (line_controlled c bits enable asks k u)
  alike-line_controlled c bits enable asks k t u h = go (line_at t.state k) (line_at u.state k) (line_alike w.birth t.state u.state k h.state)
    where
      controlled : Line → Turn → Turn
      controlled l x =
          if not enable then with_line k (line_off l.pending) x
          else (if l.pending || asks then posted c bits (with_line k (line_off false) x) else with_line k line_on x)

      same : (l : Line) → IsAlike w (controlled l t) (controlled l u)
      same l =
          by_same (IsAlike w) (not enable) (alike-line k (line_off l.pending) t u h) (
          by_same (IsAlike w) (l.pending || asks) (alike-posted c bits _ _ (alike-line k (line_off false) t u h)) (alike-line k line_on t u h))

      go : (l m : Line) → l ≡ m → IsAlike w (controlled l t) (controlled m u)
      go l m e = rw (sym e) (same l)

  -- the devices that are looked at are the same in both
  alike-lines_controlled : (c bits : ℕ) (enable : Bool) (lines : List LineSetup) (ds es : List DeviceData) (t u : Turn) → ds ≡ es → IsAlike w t u →
      IsAlike w (fold (λ v o. line_controlled c bits enable (asks_at ds o.device) o.line v) t lines) (fold (λ v o. line_controlled c bits enable (asks_at es o.device) o.line v) u lines)
  alike-lines_controlled c bits enable lines ds es t u e h =
      rw (sym e) (alike-fold (λ v (o : LineSetup). line_controlled c bits enable (asks_at ds o.device) o.line v) lines t u (λ o p q k. alike-line_controlled c bits enable (asks_at ds o.device) o.line p q k) h)

  pub alike-irq_controlled : (g : Setup) (c : ℕ) (t u : Turn) → IsAlike w t u → IsAlike w (irq_controlled g c t) (irq_controlled g c u)
  unfolding irq_controlled
  alike-irq_controlled g c t u h =
      let e = args c t u h in
      let x = irq_args (arguments t.state c) in
      rw e (
      by_same (IsAlike w) (not (list_any (owns_with c x.bits) g.lines)) (alike-misused g c 6 t u h)
      (alike-goes_on c _ _ (alike-lines_controlled c x.bits x.enable (filter (owns_with c x.bits) g.lines) t.state.devices u.state.devices t u (devices_alike w.birth t.state u.state h.state) h)))

  status_same : (g : Setup) (c bits : ℕ) (t u : Turn) → IsAlike w t u → status_of_lines g t.state c bits ≡ status_of_lines g u.state c bits
  status_same g c bits t u h =
      let line : (k : ℕ) → line_at t.state k ≡ line_at u.state k = λ k. line_alike w.birth t.state u.state k h.state in
      let ds = devices_alike w.birth t.state u.state h.state in
      let p = posted_same c t u h in
      let own = filter (owns_with c bits) g.lines in
      λ j. cond (list_any (λ (o : LineSetup). (line o.line j).enabled) own) 1 0 + cond (list_any (λ (o : LineSetup). (line o.line j).pending || asks_at (ds j) o.device) own) 2 0 + cond (not (eqb (bit_and (p j) bits) 0)) 4 0

  pub alike-irq_answered : (g : Setup) (c : ℕ) (t u : Turn) → IsAlike w t u → IsAlike w (irq_answered g c t) (irq_answered g c u)
  unfolding irq_answered
  alike-irq_answered g c t u h =
      let e = args c t u h in
      let bits = (irq_args (arguments t.state c)).bits in
      let s = status_same g c bits t u h in
      rw e (
      by_same (IsAlike w) (not (list_any (owns_with c bits) g.lines)) (alike-misused g c 6 t u h)
      (alike-answers c (status_of_lines g t.state c bits ∷ []) (status_of_lines g u.state c bits ∷ []) _ _ (ap (λ n. n ∷ []) s)
      (alike-noted_always _ _ t u (ap (λ n. note.IrqStatus c bits n) s) refl h)))

  pub alike-syscall_noted : (c : ℕ) (t u : Turn) → IsAlike w t u → IsAlike w (syscall_noted c t) (syscall_noted c u)
  unfolding syscall_noted
  alike-syscall_noted c t u h =
      let x = register_alike w.birth t.state u.state c 11 h.state in
      let y = registers_alike w.birth t.state u.state c h.state in
      alike-noted_always _ _ t u (λ j. note.Syscall c (x j) (slice_range (y j) 4 11)) refl h

  -- ## RECV

  pub is_out_same : (id : ℕ) (t u : Turn) → IsAlike w t u → is_out t.state id ≡ is_out u.state id
  unfolding is_out
  is_out_same id t u h = ap (λ n. leb n (index_of id)) (count_alike w.birth t.state u.state h.state)

  pub generation_same : (i : ℕ) (t u : Turn) → IsAlike w t u → (task_at t.state i).births % 64 ≡ (task_at u.state i).births % 64
  generation_same i t u h =
      sym (a.generation (task_at t.state i).births) ∙ ap (λ (x : Task). x.births % 64) (the_task i t u h) ∙ a.generation (task_at u.state i).births

  pub is_dead_same : (id : ℕ) (t u : Turn) → IsAlike w t u → is_dead t.state id ≡ is_dead u.state id
  unfolding is_dead
  is_dead_same id t u h = ap (λ n. not (eqb (generation_of id) n)) (generation_same (index_of id) t u h)

  pub dead_code_same : (id : ℕ) (t u : Turn) → IsAlike w t u → dead_code_for u.state id ≡ dead_code_for t.state id
  unfolding dead_code_for
  dead_code_same id t u h = ap dead_code_of (sym (generation_same (index_of id) t u h))

  listened_same : (v : ℕ → ℕ) (f : From) → listened_from (seen_from v f) ≡ listened_from f
  listened_same v Any = refl
  listened_same v (One b) = refl
  listened_same v KernelOnly = refl

  alike-listens : (c : ℕ) (x : RecvArgs) (from other : From) (t u : Turn) → seen_from w.birth from ≡ seen_from w.birth other → IsAlike w t u → IsAlike w (listens c x from t) (listens c x other u)
  unfolding with_listen
  alike-listens c x from other t u same h =
      let k = alike-past_syscall c t u h in
      let e : listened_from from ≡ listened_from other = sym (listened_same w.birth from) ∙ ap listened_from same ∙ listened_same w.birth other in
      let l : seen_listen w.birth record { task = c; from = from; mask = x.mask; buffer = buffer_of x } ≡ seen_listen w.birth record { task = c; from = other; mask = x.mask; buffer = buffer_of x } = ap (λ f. record { task = c; from = f; mask = x.mask; buffer = buffer_of x }) same in
      alike-noted_always _ _ _ _ (ap (λ f. note.Listen c f x.mask) e) refl
      (alike-changed _ _ _ _ (alike-with_listen w.birth _ _ (past_syscall c t).state (past_syscall c u).state l k.state) refl refl k)

  alike-receives_or_listens : (c : ℕ) (x : RecvArgs) (from other : From) (o p : Option Call) (t u : Turn) → seen_from w.birth from ≡ seen_from w.birth other → option_map (seen_call w.birth) o ≡ option_map (seen_call w.birth) p → IsAlike w t u → IsAlikeWhereSeen w (receives_or_listens c x from o t) (receives_or_listens c x other p u)
  alike-receives_or_listens c x from other None None t u same e h = surely (alike-listens c x from other t u same h)
  alike-receives_or_listens c x from other (Some k) None t u same e h = absurd cc
  alike-receives_or_listens c x from other None (Some m) t u same e h = absurd cc
  alike-receives_or_listens c x from other (Some k) (Some m) t u same e h =
      where_seen-returned c _ _ (alike-handed Own k m (buffer_of x) _ _ inner (alike-past_syscall c t u h))
    where
      inner : seen_call w.birth k ≡ seen_call w.birth m
      inner = cc

  offer_of_same : (c : ℕ) (best : Option ℕ) (t u : Turn) → IsAlike w t u → option_map (seen_call w.birth) (offer_of t.state c best) ≡ option_map (seen_call w.birth) (offer_of u.state c best)
  offer_of_same c None t u h = refl
  offer_of_same c (Some i) t u h = offer_alike w.birth t.state u.state i c h.state

  pub alike-received : (g : Setup) (c : ℕ) (best other : Option ℕ) (t u : Turn) → best ≡ other → IsAlike w t u → IsAlikeWhereSeen w (received g c best t) (received g c other u)
  unfolding received
  alike-received g c best other t u same h =
      let e = args c t u h in
      let p = posted_same c t u h in
      let x = recv_args (arguments t.state c) in
      let id = x.sender.number in
      let bad = bad_byte g c Write (buffer_of x) in
      rw (e, sym same) (
      by_same (IsAlikeWhereSeen w) (not (is_valid (buffer_of x))) (surely (alike-misused g c 3 t u h)) (
      by_same (IsAlikeWhereSeen w) (is_some bad) (surely (alike-denied g c 3 bad t u h)) (
      by_test (IsAlikeWhereSeen w) (x.closed && not (eqb id 0xFFFF) && (is_out t.state id || eqb (index_of id) c)) (x.closed && not (eqb id 0xFFFF) && (is_out u.state id || eqb (index_of id) c))
      (ap (λ b. x.closed && not (eqb id 0xFFFF) && (b || eqb (index_of id) c)) (is_out_same id t u h)) (surely (alike-misused g c 2 t u h)) (
      by_test (IsAlikeWhereSeen w) (not (eqb (bit_and (task_at t.state c).posted x.mask) 0)) (not (eqb (bit_and (task_at u.state c).posted x.mask) 0))
      (ap (λ n. not (eqb (bit_and n x.mask) 0)) p)
      (surely (alike-answers c (0 ∷ 0xFFFF ∷ bit_and (task_at t.state c).posted x.mask ∷ 0 ∷ 0 ∷ 0 ∷ []) (0 ∷ 0xFFFF ∷ bit_and (task_at u.state c).posted x.mask ∷ 0 ∷ 0 ∷ 0 ∷ []) _ _ (ap (λ n. 0 ∷ 0xFFFF ∷ bit_and n x.mask ∷ 0 ∷ 0 ∷ 0 ∷ []) p) (alike-cleared c x.mask t u h))) (
      by_same (IsAlikeWhereSeen w) (x.closed && eqb id 0xFFFF) (surely (alike-listens c x KernelOnly KernelOnly t u refl h)) (
      by_test (IsAlikeWhereSeen w) (x.closed && is_dead t.state id) (x.closed && is_dead u.state id) (ap (λ b. x.closed && b) (is_dead_same id t u h))
      (surely (alike-answers c _ _ t u (ap (λ n. n ∷ 0 ∷ 0 ∷ 0 ∷ 0 ∷ 0 ∷ []) (sym (dead_code_same id t u h))) h)) (
      by_same (IsAlikeWhereSeen w) x.closed
      (alike-receives_or_listens c x (One (present t.state (index_of id))) (One (present u.state (index_of id))) _ _ t u (ap (λ (y : Task). One record { index = index_of id; birth = y.births }) (the_task (index_of id) t u h)) (offer_alike w.birth t.state u.state (index_of id) c h.state) h)
      (alike-receives_or_listens c x Any Any _ _ t u refl (offer_of_same c best t u h) h))))))))

  -- ## events

  alike-expired : (i : ℕ) (t u : Turn) → IsAlike w t u → IsAlike w (expired t i) (expired u i)
  alike-expired i t u h = go (task_at t.state i).timer (task_at u.state i).timer (ap (λ (x : Task). x.timer) (the_task i t u h))
    where
      same : (o : Option Timer) → IsAlike w (expired_by i o t) (expired_by i o u)
      same None = h
      same (Some x) = by_test (IsAlike w) (leb x.deadline t.state.now) (leb x.deadline u.state.now) (ap (leb x.deadline) (now_alike w.birth t.state u.state h.state)) (alike-posted i x.bits _ _ (alike-timer i None t u h)) h

      go : (o p : Option Timer) → o ≡ p → IsAlike w (expired_by i o t) (expired_by i p u)
      go o p e = rw (sym e) (same o)

  pub alike-ticked : (t u : Turn) → IsAlike w t u → IsAlike w (ticked t) (ticked u)
  unfolding ticked
  alike-ticked t u h =
      let n = sym (count_alike w.birth t.state u.state h.state) in
      rw n (alike-fold expired (range_with_len 0 (length t.state.tasks)) _ _ alike-expired (alike-clocked t u h))

  alike-interrupted_by : (k : ℕ) (o : Option LineSetup) (t u : Turn) → IsAlike w t u → IsAlike w (interrupted_by k o t) (interrupted_by k o u)
  alike-interrupted_by k None t u h = alike-noted (note.Irq k Unowned) t u refl h
  alike-interrupted_by k (Some o) t u h =
      by_test (IsAlike w) (line_at t.state k).enabled (line_at u.state k).enabled (ap (λ (l : Line). l.enabled) (line_alike w.birth t.state u.state k h.state))
      (alike-posted o.owner o.bits _ _ (alike-line k (line_off false) _ _ (alike-noted (note.Irq k Posted) t u refl h)))
      (alike-line k (line_off true) _ _ (alike-noted (note.Irq k Held) t u refl h))

  pub alike-interrupted : (g : Setup) (k : ℕ) (t u : Turn) → IsAlike w t u → IsAlike w (interrupted g k t) (interrupted g k u)
  unfolding interrupted
  alike-interrupted g k t u h = alike-interrupted_by k (owner_of g k) t u h

  alike-driven_by : (ds : List DeviceData) (o : LineSetup) (t u : Turn) → IsAlike w t u → IsAlike w (driven_by ds t o) (driven_by ds u o)
  alike-driven_by ds o t u h =
      by_test (IsAlike w) ((line_at t.state o.line).enabled && asks_at ds o.device) ((line_at u.state o.line).enabled && asks_at ds o.device)
      (ap (λ (l : Line). l.enabled && asks_at ds o.device) (line_alike w.birth t.state u.state o.line h.state))
      (alike-interrupted_by o.line (Some o) t u h) h

  pub alike-driven : (g : Setup) (t u : Turn) → IsAlike w t u → IsAlike w (driven g t) (driven g u)
  unfolding driven
  alike-driven g t u h = go t.state.devices u.state.devices (devices_alike w.birth t.state u.state h.state)
    where
      go : (ds es : List DeviceData) → ds ≡ es → IsAlike w (fold (driven_by ds) t g.lines) (fold (driven_by es) u g.lines)
      go ds es e = rw (sym e) (alike-fold (driven_by ds) g.lines t u (alike-driven_by ds) h)
