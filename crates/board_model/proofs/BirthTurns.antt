-- A turn leaves the births of every task, or restarts one, which begins a birth then.
use Rattle.std.proofs.Common.{◌≡◌, ◌≢◌, ◌+◌, ◌%◌, ◌<◌, inl, inr, ℕ, Bool, true, false, cond, ◌&&◌, List, [], ◌∷◌, length, Option, Some, None, refl, ◌∙◌, ap, leb}
use Rattle.std.specs.Prelude.{fold, Result, Ok, Err}
use Rattle.std.specs.List.{range_with_len}
use Rattle.std.proofs.lemmas.Bool.Decides.{eqb_tells}
use Rattle.kernel_abi.specs.Devices.{DeviceData}
use Rattle.kernel_abi.specs.declared.Fault.{Fault}
use Rattle.kernel_abi.specs.declared.Ending.TheVariants.{Client}
use Rattle.kernel_abi.specs.declared.Handled.TheVariants.{Posted, Held, Unowned}
use Rattle.kernel_abi.specs.declared.Note.{Note}
use Rattle.kernel_abi.specs.declared.Note.TheVariants as note
use Rattle.kernel_abi.specs.declared.Timer.{Timer}
use Rattle.run_script.specs.declared.events.Event.{Event}
use Rattle.run_script.specs.declared.events.Event.TheVariants.{Tick, Irq, Feed}
use Rattle.run_script.specs.Scripts.{events_of}
use Rattle.thumb_insn.specs.declared.Insn.{Insn}
use Rattle.thumb_exec.specs.Effect.{Effect, Next, Syscall, Trap, Move}
use Rattle.thumb_exec.specs.declared.fetch.Fetched.{Fetched}
use Rattle.task_table.specs.model.State.{Setup, LineSetup, State, Task, Turn}
use Rattle.task_table.specs.model.Asking.{asks_at}
use Rattle.task_table.specs.model.Reading.{task_at, line_at, line_off, chosen}
use Rattle.task_table.specs.model.Effects.{noted, posted, with_timer, with_line, clocked, faulted, restarted, with_devices}
use Rattle.task_table.specs.model.Events.{expired_by, expired, ticked, owner_of, interrupted_by, interrupted, fed, driven_by, driven}
use Rattle.task_table.specs.model.Rows.{goes_on_with, syscall_noted}
use Rattle.task_table.specs.model.Start.{begun}
use Rattle.task_table.specs.model.Syscalls.{syscall_made}
use Rattle.task_table.specs.model.Sane.{Sane}
use Rattle.task_table.specs.model.Chain.{Chain}
use Rattle.task_table.specs.model.Step.{Spared, CallOutcome, Faults, Goes, GoesAfterRestart}
use Rattle.task_table.proofs.model.RowChains.{comes-syscall_made}
use Rattle.task_table.proofs.model.Sanity.{sane-current}
use Rattle.task_table.proofs.model.Spared.{left-noted, left-processor, left-timer, left-line, left-posted, left-faulted, left-after_restart, left-chain}
use Rattle.board_model.specs.declared.outcomes.Level.{Level}
use Rattle.board_model.specs.declared.outcomes.Level.TheVariants.{Calls, All}
use Rattle.board_model.specs.Script.{Scenario}
use Rattle.board_model.specs.Turn.{moved, acted, executed, noted_at, stepped_by, stepped, happened, after_events, with_current, with_registers_noted, turn_of, ended, turn}
use Rattle.board_model.specs.Loners.{IsAtBirth}
use Rattle.board_model.proofs.LonerBirths.{birth-turn}
use Rattle.board_model.proofs.LonerOwnTurns.{state-registers, state-ended}
use Rattle.board_model.proofs.Stepping.{moves_state}
use Rattle.board_model.proofs.TurnChains.{IsChosen, chosen_is, as_current, sane-after_events, noted_state}

abbrev births_of : Task → ℕ
births_of x = x.births

by_births : (x y : Task) → x.births ≡ y.births → x.health ≡ y.health → births_of x ≡ births_of y
by_births x y births health = births

-- the births of a task are the same in both
abbrev pub SameBirths : ℕ → State → State → Type 0
SameBirths i s u = (task_at u i).births ≡ (task_at s i).births

-- ## events

module _ (i : ℕ) where
  births-clocked : (t : Turn) → SameBirths i t.state (clocked t).state
  unfolding clocked noted task_at
  births-clocked t = refl

  births-expired : (t : Turn) (k : ℕ) → SameBirths i t.state (expired t k).state
  births-expired t k = by_timer (task_at t.state k).timer
    where
      by_timer : (o : Option Timer) → SameBirths i t.state (expired_by k o t).state
      by_timer None = refl
      by_timer (Some x) = by_time (leb x.deadline t.state.now)
        where
          by_time : (b : Bool) → SameBirths i t.state (cond b (posted k x.bits (with_timer k None t)) t).state
          by_time true = left-posted births_of by_births i k x.bits (with_timer k None t) ∙ left-timer births_of by_births i k None t
          by_time false = refl

  births-all_expired : (tasks : List ℕ) (t : Turn) → SameBirths i t.state (fold expired t tasks).state
  births-all_expired [] t = refl
  births-all_expired (k ∷ tasks) t = births-all_expired tasks (expired t k) ∙ births-expired t k

  births-ticked : (t : Turn) → SameBirths i t.state (ticked t).state
  unfolding ticked
  births-ticked t = births-all_expired (range_with_len 0 (length t.state.tasks)) (clocked t) ∙ births-clocked t

  births-interrupted_by : (k : ℕ) (o : Option LineSetup) (t : Turn) → SameBirths i t.state (interrupted_by k o t).state
  births-interrupted_by k None t = left-noted births_of by_births i (note.Irq k Unowned) t
  births-interrupted_by k (Some o) t = by_line (line_at t.state k).enabled
    where
      by_line : (b : Bool) → SameBirths i t.state (cond b (posted o.owner o.bits (with_line k (line_off false) (noted (note.Irq k Posted) t))) (with_line k (line_off true) (noted (note.Irq k Held) t))).state
      by_line true =
          left-posted births_of by_births i o.owner o.bits _
          ∙ left-line births_of by_births i k (line_off false) _
          ∙ left-noted births_of by_births i (note.Irq k Posted) t
      by_line false = left-line births_of by_births i k (line_off true) _ ∙ left-noted births_of by_births i (note.Irq k Held) t

  births-interrupted : (g : Setup) (k : ℕ) (t : Turn) → SameBirths i t.state (interrupted g k t).state
  unfolding interrupted
  births-interrupted g k t = births-interrupted_by k (owner_of g k) t

  births-all_driven : (ds : List DeviceData) (lines : List LineSetup) (t : Turn) → SameBirths i t.state (fold (driven_by ds) t lines).state
  births-all_driven ds [] t = refl
  births-all_driven ds (o ∷ lines) t = births-all_driven ds lines (driven_by ds t o) ∙ by_test ((line_at t.state o.line).enabled && asks_at ds o.device)
    where
      by_test : (b : Bool) → SameBirths i t.state (cond b (interrupted_by o.line (Some o) t) t).state
      by_test true = births-interrupted_by o.line (Some o) t
      by_test false = refl

  births-driven : (g : Setup) (t : Turn) → SameBirths i t.state (driven g t).state
  unfolding driven
  births-driven g t = births-all_driven t.state.devices g.lines t

  births-fed : (device byte : ℕ) (t : Turn) → SameBirths i t.state (fed device byte t).state
  unfolding fed with_devices noted task_at
  births-fed device byte t = refl

  births-events : (g : Setup) (events : List Event) (t : Turn) → SameBirths i t.state (fold (happened g) t events).state
  births-events g [] t = refl
  births-events g (Tick ∷ events) t = births-events g events (ticked t) ∙ births-ticked t
  births-events g (Irq line ∷ events) t = births-events g events (interrupted g line t) ∙ births-interrupted g line t
  births-events g (Feed device byte ∷ events) t =
      let u = fed device (byte % 256) t in
      births-events g events (driven g u) ∙ births-driven g u ∙ births-fed device (byte % 256) t

  births-begun : (s : State) → SameBirths i s (begun s).state
  unfolding begun
  births-begun s = refl

  pub births-after_events : (x : Scenario) (s : State) → SameBirths i s (after_events x s).state
  unfolding after_events
  births-after_events x s = births-events x.setup (events_of x.script s.turn) (begun s) ∙ births-begun s

  births-current : (c : ℕ) (s : State) → SameBirths i s record s { current = c }
  unfolding task_at
  births-current c s = refl

  births-counted : (n : ℕ) (s : State) → SameBirths i s record s { turn = n }
  unfolding task_at
  births-counted n s = refl

-- ## an instruction

-- c leaves the births of each task, or it restarts another task, leaves those of the others, and goes on
pub data Births (g : Setup) (c : ℕ) (t u : Turn) : Type 0 where
  Stay : ((i : ℕ) → SameBirths i t.state u.state) → Births g c t u
  Begin : (i : ℕ) (start : Bool) (values : List ℕ) (v : Turn) → i ≢ c → i < length v.state.tasks → u ≡ goes_on_with c values (restarted g i start v) → ((j : ℕ) → j ≢ i → SameBirths j t.state u.state) → Births g c t u

module _ (g : Setup) (c : ℕ) where
  births-faulted : (fault : Fault) (t : Turn) → Births g c t (faulted g c fault t)
  births-faulted fault t = Stay (λ i. left-faulted births_of by_births i g c fault Client t (inr (λ x f. refl)))

  births-moves : (moves : List Move) (t : Turn) (i : ℕ) → SameBirths i t.state (fold moved t moves).state
  unfolding task_at
  births-moves moves t i = ap (λ (s : State). (task_at s i).births) (moves_state moves t)

  -- what was noted before changed nothing
  noted_first : (n : Note) (t u : Turn) → Births g c (noted n t) u → Births g c t u
  unfolding noted
  noted_first n t u (Stay same) = Stay same
  noted_first n t u (Begin i start values v other inside is same) = Begin i start values v other inside is same

  -- whatever a system call comes to
  births-chain : (s : State) (t u : Turn) → Chain (Spared g s c) t u → (i : ℕ) → SameBirths i t.state u.state
  births-chain s t u x i = left-chain births_of by_births i g s c (λ k other. inr (λ y f. refl)) t u x

  births-rows : (s : State) (t u : Turn) → Sane g t.state → CallOutcome g s c t u → Births g c t u
  births-rows s _ _ h (Faults fault t u there low high x state notes writes reads) =
      Stay (λ i. left-faulted births_of by_births i g c fault Client u (inr (λ y f. refl)) ∙ births-chain s t u x i)
  births-rows s _ _ h (Goes t u x) = Stay (births-chain s t u x)
  births-rows s _ _ h (GoesAfterRestart i start values t there other inside few) =
      Begin i start values t other (rw h.steady.as_many inside) refl (λ j apart. left-after_restart births_of by_births j g c i start values t apart)

  module _ (t : Turn) (h : Sane g t.state) (is : IsChosen t.state c) where
    births-syscall_made : Births g c t (syscall_made g c t)
    births-syscall_made = births-rows t.state t _ h (comes-syscall_made g c t h (rw (← h.steady.as_many) is.inside) is.ready)

  births-acted : (e : Effect) (t : Turn) → Sane g t.state → IsChosen t.state c → Births g c t (acted g c e t)
  unfolding syscall_noted noted
  births-acted (Next cpu moves) t h is =
      Stay (λ i. left-processor births_of by_births i c cpu.regs.words cpu.flags (fold moved t moves) ∙ births-moves moves t i)
  births-acted Syscall t h is = noted_first _ t _ (births-syscall_made (syscall_noted c t) h is)
  births-acted (Trap fault) t h is = births-faulted fault t

  births-executed : (level : Level) (at code : ℕ) (insn : Insn) (t : Turn) → Sane g t.state → IsChosen t.state c → Births g c t (executed g c insn (noted_at level (note.Insn c at code) t))
  unfolding noted
  births-executed Calls at code insn t h is = births-acted _ t h is
  births-executed All at code insn t h is = noted_first (note.Insn c at code) t _ (births-acted _ (noted (note.Insn c at code) t) h is)

  module _ (level : Level) (t : Turn) (h : Sane g t.state) (is : IsChosen t.state c) where
    births-by : (at : ℕ) (r : Result Fetched Fault) → Births g c t (stepped_by level g c at r t)
    births-by at (Ok f) = births-executed level at f.code f.insn t h is
    births-by at (Err fault) = births-faulted fault t

    pub births-stepped : Births g c t (stepped level g c t)
    unfolding stepped
    births-stepped = births-by _ _

-- ## the turn

-- what is noted of registers, and the count of turns, change no births
births-ended : (i : ℕ) (u : Turn) → SameBirths i u.state (ended u).state
births-ended i u = ap (λ (s : State). (task_at s i).births) (state-ended u) ∙ births-counted i (u.state.turn + 1) u.state

births-registers : (i : ℕ) (level : Level) (c : ℕ) (u : Turn) → SameBirths i u.state (with_registers_noted level c u).state
births-registers i level c u = ap (λ (s : State). (task_at s i).births) (state-registers level c u)

module _ (level : Level) (x : Scenario) (s : State) (sane : Sane x.setup s) where
  abbrev t : Turn
  t = after_events x s

  idle_left : (i : ℕ) → SameBirths i s (ended (turn_of level x.setup None t)).state
  idle_left i =
      births-ended i (noted_at level note.Idle t) ∙ ap (λ (z : State). (task_at z i).births) (noted_state level note.Idle t) ∙ births-after_events i x s

  module _ (c : ℕ) (own : chosen x.setup t.state ≡ Some c) where
    abbrev u : Turn
    u = with_current c t

    abbrev v : Turn
    v = stepped level x.setup c u

    ran_left : (i : ℕ) → SameBirths i u.state v.state → SameBirths i s (ended (turn_of level x.setup (Some c) t)).state
    ran_left i same =
        births-ended i (with_registers_noted level c v)
        ∙ births-registers i level c v
        ∙ same
        ∙ births-current i c t.state
        ∙ births-after_events i x s

    births-ran : Births x.setup c u v
    births-ran =
        let is = chosen_is t.state c (sane-after_events x s sane) own in
        births-stepped x.setup c level u (sane-current c t (sane-after_events x s sane) is.inside) record { ready = as_current c c t.state is.ready; inside = is.inside }

    begins : (i : ℕ) → Births x.setup c u v → (SameBirths i s (ended (turn_of level x.setup (Some c) t)).state → ⊥) → IsAtBirth x.setup i (turn level x s).state
    begins i (Stay same) changes = absurd (changes (ran_left i (same i)))
    begins i (Begin k start values w other inside is same) changes = elim (eqb_tells i k) [
      | inl it ↦ rw it.1 (birth-turn level x s k c values start w own is inside other)
      | inr apart ↦ absurd (changes (ran_left i (same i apart.1)))
    ]

  -- whose births the turn changes is at birth after it
  pub begins_at_birth : (i : ℕ) → (task_at (turn level x s).state i).births ≢ (task_at s i).births → IsAtBirth x.setup i (turn level x s).state
  unfolding turn
  begins_at_birth i changes = by_choice (chosen x.setup t.state) refl changes
    where
      by_choice : (o : Option ℕ) → chosen x.setup t.state ≡ o → (SameBirths i s (ended (turn_of level x.setup o t)).state → ⊥) → IsAtBirth x.setup i (turn level x s).state
      by_choice None none changes = absurd (changes (idle_left i))
      by_choice (Some c) own changes = begins c own i (births-ran c own) changes
