-- Each row of each system call faults its caller, or is a chain of steps that do not fault it, or a restart. This
-- is the only proof that goes through all rows.
use Rattle.std.proofs.Common.{◌≡◌, ◌≢◌, ◌/◌, ◌%◌, ◌^◌, ◌<◌, ◌≤◌, ℕ, Bool, true, false, cond, not, ◌&&◌, ◌||◌, List, [], ◌∷◌, length, Option, Some, None, refl, sym, ◌∙◌, arith, eqb, leb, bit_and, is_some}
use Rattle.std.specs.Prelude.{Contains, filter}
use Rattle.std.specs.List.{list_any}
use Rattle.std.proofs.lemmas.Bool.{eq-eqb, eqb-true, leb-false, not-false, false≢true, false_from_ne_true}
use Rattle.kernel_abi.specs.Arguments.{recv_args, timer_args, irq_args}
use Rattle.kernel_abi.specs.Ids.{index_of}
use Rattle.kernel_abi.specs.declared.Note.TheVariants as note
use Rattle.kernel_abi.specs.declared.Timer.{Timer}
use Rattle.kernel_abi.specs.declared.arguments.RecvArgs.{RecvArgs}
use Rattle.region_check.specs.declared.Right.TheVariants.{Write}
use Rattle.task_table.specs.declared.Line.{Line}
use Rattle.task_table.specs.model.State.{Setup, LineSetup, Birth, Call, Listen, From, Any, One, KernelOnly, Offered, Turn}
use Rattle.task_table.specs.model.Asking.{is_asked}
use Rattle.task_table.specs.model.Reading.{task_at, line_at, line_off, line_on, register, arguments, is_ready, is_out, is_dead, present, is_valid, bad_byte, offer_by, best_sender, admits, IsIdle}
use Rattle.task_table.specs.model.Effects.{noted, past_syscall, bits_cleared, posted, with_timer, with_line}
use Rattle.task_table.specs.model.Rows.{panicked, timer_set, timer_words, timer_answered, owns_with, line_controlled, irq_controlled, status_of_lines, irq_answered, buffer_of, listens, receives, receives_or_listens, takes_bits, offer_of, received, syscall_noted}
use Rattle.task_table.specs.model.Requests.{requested}
use Rattle.task_table.specs.model.Sends.{sent}
use Rattle.task_table.specs.model.Syscalls.{Meaning, is_to_kernel, syscalls, meaning_among, syscall_made}
use Rattle.task_table.specs.model.Sane.{Sane, IsOwned}
use Rattle.task_table.specs.model.Chain.{Chain, Here}
use Rattle.task_table.specs.model.Step.{Step, Notes, Returns, PassesSyscall, Clears, Posts, Times, Lines, Listens, Receives, CallOutcome}
use Rattle.task_table.proofs.model.BorrowChains.{comes-read, comes-written, comes-informed}
use Rattle.task_table.proofs.model.Chains.{one, ◌▷◌, chain-fold}
use Rattle.task_table.proofs.model.Frames.{idle-ready}
use Rattle.task_table.proofs.model.Keeps.{filter_in}
use Rattle.task_table.proofs.model.Meanings.{EachMeaning}
use Rattle.task_table.proofs.model.MessageChains.{comes-sent, comes-replied, comes-reply_faulted, comes-post_made, comes-refreshed}
use Rattle.task_table.proofs.model.Offers.{offer_is, no_offer, IsBestOf, best_is_best}
use Rattle.task_table.proofs.model.RequestChains.{comes-requested}
use Rattle.task_table.proofs.model.Outcomes.{chain-outcome, Made, Comes, by_outcome, comes, comes-faulted, comes-misused, comes-denied, goes, goes_with}
use Rattle.task_table.proofs.model.Receives.{births-past_syscall, health-past_syscall, posted-past_syscall, idle-past_syscall, calls-past_syscall, well-ready, is_there, none_left, same_index, no_kernel_birth, no_any_birth, one_birth, names_another}

-- ## what needs nothing but the caller

pub chain-syscall_noted : (g : Setup) (c : ℕ) (t : Turn) → Chain (Step g t.state c) t (syscall_noted c t)
unfolding syscall_noted
chain-syscall_noted g c t = one (Notes _ t refl)

module _ (g : Setup) (c : ℕ) (t : Turn) (inside : c < length g.tasks) where
  -- ## PANIC, timers, interrupts

  pub comes-panicked : Comes g c t (panicked g c t)
  unfolding panicked
  comes-panicked = comes-faulted g c t inside _ (omega arith) (omega arith)

  pub comes-timer_set : Comes g c t (timer_set c t)
  unfolding timer_set
  comes-timer_set =
      let x = timer_args (arguments t.state c) in
      let off = with_timer c None t in
      let timer : Timer = record { deadline = x.deadline; bits = x.bits } in
      by_outcome (not x.set) (λ unset. goes g c t inside off (one (Times None t inside tt, tt))) (λ set.
      by_outcome (leb x.deadline t.state.now) (λ due. goes g c t inside (posted c x.bits off) (one (Times None t inside tt, tt) ▷ (Posts c x.bits off inside, tt))) (λ ahead.
      goes g c t inside (with_timer c (Some timer) t) (one (Times (Some timer) t inside (leb-false x.deadline t.state.now ahead), tt))))

  pub comes-timer_answered : Comes g c t (timer_answered c t)
  unfolding timer_answered
  comes-timer_answered = goes_with g c t inside (t.state.now % 2 ^ 32 ∷ t.state.now / 2 ^ 32 ∷ timer_words (task_at t.state c).timer) t (few (task_at t.state c).timer) (Here t)
    where
      few : (timer : Option Timer) → length (t.state.now % 2 ^ 32 ∷ t.state.now / 2 ^ 32 ∷ timer_words timer) ≤ 6
      few None = omega arith
      few (Some x) = omega arith

  controls : (bits : ℕ) (enable asks : Bool) (o : LineSetup) → Contains g.lines o → (u : Turn) → Chain (Made g t.state c) u (line_controlled c bits enable asks o.line u)
  controls bits enable asks o here u = let pending = (line_at u.state o.line).pending in by_tests enable pending (pending || asks)
    where
      owned : (line : Line) → line.enabled ≡ false → line.pending ≡ true → (line.enabled ≡ false) × IsOwned g o.line
      owned line off p = (off, (o, here, refl))

      by_tests : (b p waits : Bool) → Chain (Made g t.state c) u (cond (not b) (with_line o.line (line_off p) u) (cond waits (posted c bits (with_line o.line (line_off false) u)) (with_line o.line line_on u)))
      by_tests false p waits = one (Lines o.line (line_off p) u (owned (line_off p) refl), tt)
      by_tests true p true = one (Lines o.line (line_off false) u (owned (line_off false) refl), tt) ▷ (Posts c bits (with_line o.line (line_off false) u) inside, tt)
      by_tests true p false = one (Lines o.line line_on u (λ p. absurd (false≢true p)), tt)

  pub comes-irq_controlled : Comes g c t (irq_controlled g c t)
  unfolding irq_controlled
  comes-irq_controlled =
      let x = irq_args (arguments t.state c) in
      let lines = filter (owns_with c x.bits) g.lines in
      by_outcome (not (list_any (owns_with c x.bits) g.lines)) (λ none. comes-misused g c t inside 6) (λ some.
      goes g c t inside _ (chain-fold (λ u o. line_controlled c x.bits x.enable (is_asked t.state o) o.line u) lines t (λ o u here. controls x.bits x.enable (is_asked t.state o) o (filter_in (owns_with c x.bits) g.lines o here).0 u)))

  pub comes-irq_answered : Comes g c t (irq_answered g c t)
  unfolding irq_answered
  comes-irq_answered =
      let bits = (irq_args (arguments t.state c)).bits in
      let status = status_of_lines g t.state c bits in
      by_outcome (not (list_any (owns_with c bits) g.lines)) (λ none. comes-misused g c t inside 6) (λ some.
      goes_with g c t inside (status ∷ []) (noted (note.IrqStatus c bits status) t) (omega arith) (one (Notes (note.IrqStatus c bits status) t refl, tt)))

-- ## RECV

module _ (g : Setup) (c : ℕ) (t : Turn) (h : Sane g t.state) (inside : c < length g.tasks) (ready : is_ready t.state c ≡ true) where
  within : c < length t.state.tasks
  within = rw h.steady.as_many inside

  idle : IsIdle t.state c
  idle = idle-ready t.state c ready

  listen : (x : RecvArgs) (from : From) → is_valid (buffer_of x) ≡ true → bad_byte g c Write (buffer_of x) ≡ None → bit_and (task_at t.state c).posted x.mask ≡ 0 → ((b : Birth) → from ≡ One b → (b.index < length g.tasks) × (b.index ≢ c) × ((task_at t.state b.index).births ≡ b.birth)) → ((k : Call) → Contains t.state.calls k → k.phase ≡ Offered → k.server.index ≡ c → admits from k.client ≡ false) → Comes g c t (listens c x from t)
  listen x from valid writable unmet names unfit =
      let l : Listen = record { task = c; from = from; mask = x.mask; buffer = buffer_of x } in
      comes g c t inside _ (one (PassesSyscall t inside, tt) ▷ (
        Listens l (past_syscall c t) refl record {
          fit = record { there = inside; names = λ b e. let n = names b e in (n.0, n.1); valid = valid; writable = writable };
          well = health-past_syscall c t c within ∙ well-ready t.state c ready;
          idle = idle-past_syscall c t c idle;
          named = λ b e. births-past_syscall c t b.index within ∙ (names b e).2;
          unmet = rw (posted-past_syscall c t c within) unmet;
          unfit = λ k here. unfit k (rw (calls-past_syscall c t) at here);
        },
        tt,
      ))

  receive : (x : RecvArgs) (k : Call) → Contains t.state.calls k → k.phase ≡ Offered → k.server.index ≡ c → bad_byte g c Write (buffer_of x) ≡ None → Comes g c t (receives c x k t)
  receive x k here offered server writable =
      comes g c t inside _
      (one (PassesSyscall t inside, tt)
      ▷ (Receives k (buffer_of x) (past_syscall c t) record { here = rw (calls-past_syscall c t) here; before = here; offered = offered; server = server; good = writable }, tt)
      ▷ (Returns c _, tt))

  take_bits : (mask : ℕ) → Comes g c t (takes_bits c mask t)
  take_bits mask = goes_with g c t inside _ (bits_cleared c mask t) (omega arith) (one (Clears mask t inside idle.listen, tt))

  -- once the buffer is good and no posted bit is under the mask, from one task and from any
  module _ (x : RecvArgs) (valid : is_valid (buffer_of x) ≡ true) (writable : bad_byte g c Write (buffer_of x) ≡ None) (unmet : bit_and (task_at t.state c).posted x.mask ≡ 0) where
    from_one : (o : Option Call) (i : ℕ) → offer_by t.state i c ≡ o → i < length t.state.tasks → i ≢ c → Comes g c t (receives_or_listens c x (One (present t.state i)) o t)
    from_one (Some k) i e there apart = let f = offer_is t.state i c k e in receive x k f.here f.offered f.server_is writable
    from_one None i e there apart = listen x (One (present t.state i)) valid writable unmet
        (λ b same. let is = one_birth same in (rw (← is, ← h.steady.as_many) there, rw (← is) apart, rw (← is) refl))
        (λ k here o server. false_from_ne_true _ (λ admitted. no_offer t.state i c k e here o server (same_index (present t.state i) k.client admitted)))

    from_any : (best : Option ℕ) (o : Option Call) → offer_of t.state c best ≡ o → IsBestOf t.state c best → Comes g c t (receives_or_listens c x Any o t)
    from_any best None e is_best = listen x Any valid writable unmet (λ b same. no_any_birth same) (λ k here o server. absurd (is_best k e here o server))
    from_any None (Some k) e is_best = absurd (none_some e)
      where
        none_some : None ≡ Some k → ⊥
        none_some e = cc
    from_any (Some i) (Some k) e is_best = let f = offer_is t.state i c k e in receive x k f.here f.offered f.server_is writable

  pub comes-received : (best : Option ℕ) → best ≡ best_sender g t.state c → Comes g c t (received g c best t)
  unfolding received
  comes-received best is =
      let s = t.state in
      let x = recv_args (arguments s c) in
      let buffer = buffer_of x in
      let id = x.sender.number in
      let named_out = x.closed && not (eqb id 0xFFFF) && (is_out s id || eqb (index_of id) c) in
      by_outcome (not (is_valid buffer)) (λ bad. comes-misused g c t inside 3) (λ valid'.
      by_outcome (is_some (bad_byte g c Write buffer)) (λ bad. comes-denied g c t inside 3 (bad_byte g c Write buffer)) (λ good.
      by_outcome named_out (λ bad. comes-misused g c t inside 2) (λ named.
      by_outcome (not (eqb (bit_and (task_at s c).posted x.mask) 0)) (λ bits. take_bits x.mask) (λ no_bits.
      let valid = not-false _ valid' in
      let writable = none_left (bad_byte g c Write buffer) good in
      let unmet = eqb-true _ _ (not-false _ no_bits) in
      by_outcome (x.closed && eqb id 0xFFFF) (λ kernel. listen x KernelOnly valid writable unmet (λ b e. no_kernel_birth e) (λ k here o e. refl)) (λ other.
      by_outcome (x.closed && is_dead s id) (λ dead. goes_with g c t inside _ t (omega arith) (Here t)) (λ live.
      by_outcome x.closed
      (λ closed.
      let another = names_another x.closed (eqb id 0xFFFF) (is_out s id) (eqb (index_of id) c) closed named other in
      from_one x valid writable unmet (offer_by s (index_of id) c) (index_of id) refl (is_there s id another.0) (λ e. absurd (false≢true (sym another.1 ∙ eq-eqb _ _ e))))
      (λ any. from_any x valid writable unmet best (offer_of s c best) refl (rw is (best_is_best t.state c h)))))))))

  -- ## every system call

  -- a system call of a list is one of its meanings, or a misuse
  among : (list : List (ℕ × Meaning)) (n : ℕ) → EachMeaning (λ m. Comes g c t (m g c t)) list → Comes g c t (meaning_among list n g c t)
  among [] n each = comes-misused g c t inside 1
  among (call ∷ list) n each = by_outcome (eqb n call.0) (λ is. each.0) (λ other. among list n each.1)

  comes-sent_or_requested : Comes g c t (cond (is_to_kernel t.state c) (requested g c t) (sent g c t))
  comes-sent_or_requested = by_outcome (is_to_kernel t.state c) (λ kernel. comes-requested g c t h inside) (λ other. comes-sent g c t h inside ready)

  each : EachMeaning (λ m. Comes g c t (m g c t)) syscalls
  each = (
    comes-sent_or_requested,
    (
      comes-received (best_sender g t.state c) refl,
      (
        comes-replied g c t h inside,
        (
          comes-timer_set g c t inside,
          (
            comes-read g c t h inside,
            (
              comes-written g c t h inside,
              (
                comes-informed g c t h inside,
                (
                  comes-irq_controlled g c t inside,
                  (
                    comes-panicked g c t inside,
                    (
                      comes-timer_answered g c t inside,
                      (
                        comes-refreshed g c t h inside,
                        (
                          comes-post_made g c t h inside,
                          (
                            comes-reply_faulted g c t h inside,
                            (
                              comes-irq_answered g c t inside,
                              tt,
                            ),
                          ),
                        ),
                      ),
                    ),
                  ),
                ),
              ),
            ),
          ),
        ),
      ),
    ),
  )

  made : Comes g c t (syscall_made g c t)
  unfolding syscall_made
  made = among syscalls (register t.state c 11) each

  pub comes-syscall_made : CallOutcome g t.state c t (syscall_made g c t)
  comes-syscall_made = made.outcome

  -- no system call changes a device
  pub stay-syscall_made : (syscall_made g c t).state.devices ≡ t.state.devices
  stay-syscall_made = made.devices

  pub chain-syscall_made : Chain (Step g t.state c) t (syscall_made g c t)
  chain-syscall_made = chain-outcome g t.state c t _ comes-syscall_made
