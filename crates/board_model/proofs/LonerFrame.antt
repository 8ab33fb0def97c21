-- A turn that is not a task's own, and the events of any turn, leave what it has for itself as it was, where it waits
-- for nothing and the supervisor does not strike it.
use Rattle.std.proofs.Common.{◌≡◌, ◌≢◌, inl, inr, ◌+◌, ◌%◌, ℕ, Bool, true, false, cond, ◌&&◌, List, [], ◌∷◌, length, Option, Some, None, refl, sym, ◌∙◌, ap, leb}
use Rattle.std.specs.Prelude.{fold}
use Rattle.std.specs.List.{range_with_len}
use Rattle.kernel_abi.specs.Devices.{DeviceData}
use Rattle.kernel_abi.specs.declared.Handled.TheVariants.{Posted, Held, Unowned}
use Rattle.kernel_abi.specs.declared.Note.TheVariants as note
use Rattle.kernel_abi.specs.declared.Timer.{Timer}
use Rattle.mem_banks.specs.Memory.{byte_at}
use Rattle.run_script.specs.declared.events.Event.{Event}
use Rattle.run_script.specs.declared.events.Event.TheVariants.{Tick, Irq, Feed}
use Rattle.run_script.specs.Scripts.{events_of}
use Rattle.task_table.specs.model.State.{Setup, LineSetup, State, Turn}
use Rattle.task_table.specs.model.Asking.{asks_at}
use Rattle.task_table.specs.model.Reading.{task_at, line_at, line_off, chosen, IsIdle}
use Rattle.task_table.specs.model.Effects.{noted, posted, with_timer, with_line, clocked, with_devices}
use Rattle.task_table.specs.model.Events.{expired_by, expired, ticked, owner_of, interrupted_by, interrupted, fed, driven_by, driven}
use Rattle.task_table.specs.model.Start.{begun}
use Rattle.task_table.specs.model.Sane.{Sane}
use Rattle.task_table.specs.model.Grounds.{with_writes}
use Rattle.board_model.specs.declared.outcomes.Level.{Level}
use Rattle.board_model.specs.declared.outcomes.Level.TheVariants.{Calls, All}
use Rattle.board_model.specs.Script.{Scenario}
use Rattle.board_model.specs.Turn.{noted_at, happened, after_events, with_current, turn_of, ended, turn}
use Rattle.board_model.specs.Lifetimes.{IsGroundedTurn}
use Rattle.board_model.proofs.Lifetimes.{grounded-turn}
use Rattle.board_model.proofs.TurnChains.{turn_chain}
use Rattle.board_model.specs.Loners.{IsLoner, owns, IsUntouched}
use Rattle.board_model.proofs.LonerSteps.{IsLeftAlone, same-noted, same-now, same-turn, same-current, same-timer, same-posted, same-line, same-devices, chain_alone}
use Rattle.board_model.proofs.LonerBytes.{own_stays}

-- it is as it is
pub untouched_here : (s : State) (j : ℕ) → IsIdle s j → IsUntouched s j s
untouched_here s j idle = record { births = refl; registers = refl; flags = refl; health = refl; idle = idle }

pub untouched_then : (s u v : State) (j : ℕ) → IsUntouched s j u → IsUntouched u j v → IsUntouched s j v
untouched_then s u v j a b = record { births = b.births ∙ a.births; registers = b.registers ∙ a.registers; flags = b.flags ∙ a.flags; health = b.health ∙ a.health; idle = b.idle }

module _ (s : State) (j : ℕ) where
  -- ## events

  untouched-clocked : (t : Turn) → IsUntouched s j t.state → IsUntouched s j (clocked t).state
  unfolding clocked noted
  untouched-clocked t h = same-now s j _ t.state h

  untouched-expired : (t : Turn) (i : ℕ) → IsUntouched s j t.state → IsUntouched s j (expired t i).state
  untouched-expired t i h = by_timer (task_at t.state i).timer
    where
      by_timer : (o : Option Timer) → IsUntouched s j (expired_by i o t).state
      by_timer None = h
      by_timer (Some x) = by_time (leb x.deadline t.state.now)
        where
          by_time : (b : Bool) → IsUntouched s j (cond b (posted i x.bits (with_timer i None t)) t).state
          by_time true = same-posted s j i x.bits (with_timer i None t) (same-timer s j i None t h)
          by_time false = h

  untouched-expired_all : (is : List ℕ) (t : Turn) → IsUntouched s j t.state → IsUntouched s j (fold expired t is).state
  untouched-expired_all [] t h = h
  untouched-expired_all (i ∷ is) t h = untouched-expired_all is (expired t i) (untouched-expired t i h)

  untouched-ticked : (t : Turn) → IsUntouched s j t.state → IsUntouched s j (ticked t).state
  unfolding ticked
  untouched-ticked t h = untouched-expired_all (range_with_len 0 (length t.state.tasks)) (clocked t) (untouched-clocked t h)

  untouched-interrupted_by : (k : ℕ) (o : Option LineSetup) (t : Turn) → IsUntouched s j t.state → IsUntouched s j (interrupted_by k o t).state
  untouched-interrupted_by k None t h = same-noted s j (note.Irq k Unowned) t h
  untouched-interrupted_by k (Some o) t h = by_line (line_at t.state k).enabled
    where
      by_line : (b : Bool) → IsUntouched s j (cond b (posted o.owner o.bits (with_line k (line_off false) (noted (note.Irq k Posted) t))) (with_line k (line_off true) (noted (note.Irq k Held) t))).state
      by_line true = same-posted s j o.owner o.bits _ (same-line s j k (line_off false) _ (same-noted s j (note.Irq k Posted) t h))
      by_line false = same-line s j k (line_off true) _ (same-noted s j (note.Irq k Held) t h)

  untouched-interrupted : (g : Setup) (k : ℕ) (t : Turn) → IsUntouched s j t.state → IsUntouched s j (interrupted g k t).state
  unfolding interrupted
  untouched-interrupted g k t h = untouched-interrupted_by k (owner_of g k) t h

  untouched-driven_all : (ds : List DeviceData) (lines : List LineSetup) (t : Turn) → IsUntouched s j t.state → IsUntouched s j (fold (driven_by ds) t lines).state
  untouched-driven_all ds [] t h = h
  untouched-driven_all ds (o ∷ lines) t h = untouched-driven_all ds lines (driven_by ds t o) (by_test ((line_at t.state o.line).enabled && asks_at ds o.device))
    where
      by_test : (b : Bool) → IsUntouched s j (cond b (interrupted_by o.line (Some o) t) t).state
      by_test true = untouched-interrupted_by o.line (Some o) t h
      by_test false = h

  untouched-driven : (g : Setup) (t : Turn) → IsUntouched s j t.state → IsUntouched s j (driven g t).state
  unfolding driven
  untouched-driven g t h = untouched-driven_all t.state.devices g.lines t h

  untouched-fed : (device byte : ℕ) (t : Turn) → IsUntouched s j t.state → IsUntouched s j (fed device byte t).state
  unfolding fed with_devices noted
  untouched-fed device byte t h = same-devices s j _ t.state h

  untouched-events : (g : Setup) (events : List Event) (t : Turn) → IsUntouched s j t.state → IsUntouched s j (fold (happened g) t events).state
  untouched-events g [] t h = h
  untouched-events g (Tick ∷ events) t h = untouched-events g events (ticked t) (untouched-ticked t h)
  untouched-events g (Irq line ∷ events) t h = untouched-events g events (interrupted g line t) (untouched-interrupted g line t h)
  untouched-events g (Feed device byte ∷ events) t h =
      let u = fed device (byte % 256) t in
      untouched-events g events (driven g u) (untouched-driven g u (untouched-fed device (byte % 256) t h))

  untouched-begun : IsIdle s j → IsUntouched s j (begun s).state
  unfolding begun
  untouched-begun idle = untouched_here s j idle

  pub untouched-after_events : (x : Scenario) → IsIdle s j → IsUntouched s j (after_events x s).state
  unfolding after_events
  untouched-after_events x idle = untouched-events x.setup (events_of x.script s.turn) (begun s) (untouched-begun idle)

  -- ## the turn

  alone-idle : (level : Level) (t : Turn) → IsUntouched s j t.state → IsUntouched s j (noted_at level note.Idle t).state
  alone-idle Calls t h = h
  alone-idle All t h = same-noted s j note.Idle t h

  alone-ended : (u : Turn) → IsLeftAlone s j u → IsLeftAlone s j (ended u)
  unfolding ended
  alone-ended u (inl struck) = inl struck
  alone-ended u (inr same) = inr (same-turn s j (u.state.turn + 1) u.state same)

  pub alone-turn : (level : Level) (x : Scenario) → Sane x.setup s → IsIdle s j → chosen x.setup (after_events x s).state ≢ Some j → IsLeftAlone s j (turn level x s)
  unfolding turn
  alone-turn level x h idle other = by_choice (chosen x.setup (after_events x s).state) refl
    where
      t : Turn
      t = after_events x s

      same : IsUntouched s j t.state
      same = untouched-after_events x idle

      idle_now : (c : ℕ) → IsIdle (with_current c t).state j
      idle_now c = (same-current s j c t.state same).idle

      by_choice : (o : Option ℕ) → chosen x.setup t.state ≡ o → IsLeftAlone s j (ended (turn_of level x.setup o t))
      by_choice None e = alone-ended _ (inr (alone-idle level t same))
      by_choice (Some c) e =
          alone-ended _
          (chain_alone s j x.setup c (with_current c t).state (λ is. other (e ∙ ap Some (sym is))) (idle_now c) (with_current c t) _ (turn_chain level x s c h e) (inr (same-current s j c t.state same)))

  -- its bytes
  pub bytes-turn : (level : Level) (x : Scenario) → Sane x.setup s → IsIdle s j → chosen x.setup (after_events x s).state ≢ Some j → IsLoner x.setup j → (a : ℕ) → owns x.setup j a ≡ true → byte_at (turn level x s).state.memory a ≡ byte_at s.memory a
  bytes-turn level x h idle other loner a own = by_choice (chosen x.setup (after_events x s).state) refl
    where
      grounded : IsGroundedTurn level x s
      grounded = grounded-turn level x s h

      by_choice : (o : Option ℕ) → chosen x.setup (after_events x s).state ≡ o → byte_at (turn level x s).state.memory a ≡ byte_at s.memory a
      by_choice None e = ap (λ m. byte_at m a) (grounded.written ∙ ap (with_writes s.memory) (grounded.idle e))
      by_choice (Some c) e =
          ap (λ m. byte_at m a) grounded.written
          ∙ own_stays x.setup (after_events x s).state c (turn level x s) j (λ is. other (e ∙ ap Some (sym is))) (untouched-after_events x idle).idle s.memory a h.steady.placed (grounded.grounded c e) loner own
