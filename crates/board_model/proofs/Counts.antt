-- A turn changes its number by one, the time by its ticks alone, and the next call's number by at most one.
use Rattle.std.proofs.Common.{◌≡◌, ◌+◌, ◌%◌, ◌≤◌, ℕ, List, [], ◌∷◌, length, Option, Some, None, refl, ◌∙◌, arith}
use Rattle.std.specs.Prelude.{fold}
use Rattle.kernel_abi.specs.declared.Note.TheVariants as note
use Rattle.run_script.specs.declared.events.Event.{Event}
use Rattle.run_script.specs.declared.events.Event.TheVariants.{Tick, Irq, Feed}
use Rattle.run_script.specs.Scripts.{events_of}
use Rattle.task_table.specs.model.State.{Setup, State, Turn}
use Rattle.task_table.specs.model.Reading.{chosen}
use Rattle.task_table.specs.model.Events.{ticked, interrupted, fed, driven}
use Rattle.task_table.specs.model.Start.{begun}
use Rattle.task_table.specs.model.Sane.{Sane, IsCounted}
use Rattle.task_table.specs.model.Counts.{AreCounts}
use Rattle.task_table.proofs.model.Counting.{time-aside, counts_same, chain_counts}
use Rattle.task_table.proofs.kept.Starts.{counted-start}
use Rattle.task_table.proofs.model.Outside.{outside-ticked, now-ticked, aside-interrupted, outside-fed, now-fed, aside-driven}
use Rattle.board_model.specs.declared.outcomes.Level.{Level}
use Rattle.board_model.specs.Run.{run}
use Rattle.board_model.specs.Script.{Scenario, start_of}
use Rattle.board_model.specs.Turn.{noted_at, happened, after_events, with_current, turn_of, ended, turn}
use Rattle.board_model.proofs.RunKeeps.{state_run}
use Rattle.board_model.proofs.TurnChains.{turn_chain, sane-after_events, idle-aside}

-- at most so many ticks later
pub record IsLater (n : ℕ) (s u : State) : Type 0 where
  pub turn : u.turn ≡ s.turn
  pub now : u.now ≤ s.now + n
  pub next_call : u.next_call ≡ s.next_call

pub later-events : (g : Setup) (events : List Event) (t : Turn) → IsLater (length events) t.state (fold (happened g) t events).state
later-events g [] t = record { turn = refl; now = omega arith; next_call = refl }
later-events g (Tick ∷ events) t =
    let a = outside-ticked t in
    let b = later-events g events (ticked t) in
    record { turn = b.turn ∙ a.turn; now = omega (arith, b.now, now-ticked t); next_call = b.next_call ∙ a.next_call }
later-events g (Feed device byte ∷ events) t =
    let u = fed device (byte % 256) t in
    let a = outside-fed device (byte % 256) t in
    let d = aside-driven g u in
    let b = later-events g events (driven g u) in
    record { turn = b.turn ∙ d.outside.turn ∙ a.turn; now = omega (arith, b.now, d.now, now-fed device (byte % 256) t); next_call = b.next_call ∙ d.outside.next_call ∙ a.next_call }
later-events g (Irq line ∷ events) t =
    let a = aside-interrupted g line t in
    let b = later-events g events (interrupted g line t) in
    record { turn = b.turn ∙ a.outside.turn; now = omega (arith, b.now, a.now); next_call = b.next_call ∙ a.outside.next_call }

later_begun : (n : ℕ) (s u : State) → IsLater n (begun s).state u → IsLater n s u
unfolding begun
later_begun n s u h = h

pub later-after_events : (x : Scenario) (s : State) → IsLater (length (events_of x.script s.turn)) s (after_events x s).state
unfolding after_events
later-after_events x s = later_begun _ s _ (later-events x.setup (events_of x.script s.turn) (begun s))

-- from the events to the end of the turn
turn_counts : (level : Level) (x : Scenario) (s : State) → Sane x.setup s → (o : Option ℕ) → chosen x.setup (after_events x s).state ≡ o → AreCounts (after_events x s).state (turn_of level x.setup o (after_events x s)).state
turn_counts level x s h None e = let t = after_events x s in counts_same t.state (noted_at level note.Idle t).state (time-aside t _ (idle-aside level t))
turn_counts level x s h (Some c) e =
    let u = with_current c (after_events x s) in
    let here : AreCounts u.state u.state = record { count = refl; turn = refl; now = refl; from = omega arith; upto = omega arith } in
    let r = chain_counts x.setup u.state c (sane-after_events x s h).steady.placed u _ (turn_chain level x s c h e) here in
    record { count = r.count; turn = r.turn; now = r.now; from = r.from; upto = r.upto }

pub counted_turn : (level : Level) (x : Scenario) (s : State) → Sane x.setup s → length (events_of x.script s.turn) ≤ 9 → IsCounted s → IsCounted (turn level x s).state
unfolding turn ended
counted_turn level x s sane few h =
    let later = later-after_events x s in
    let same = turn_counts level x s sane (chosen x.setup (after_events x s).state) refl in
    record { some = omega (arith, h.some, later.next_call, same.from); calls = omega (arith, h.calls, later.next_call, later.turn, same.upto, same.turn); now = omega (arith, h.now, later.now, later.turn, few, same.now, same.turn) }

pub turn_more : (level : Level) (x : Scenario) (s : State) → Sane x.setup s → (turn level x s).state.turn ≡ s.turn + 1
unfolding turn ended
turn_more level x s sane =
    let later = later-after_events x s in
    let same = turn_counts level x s sane (chosen x.setup (after_events x s).state) refl in
    omega (arith, later.turn, same.turn)

-- ## a run

pub counted_run : (level : Level) (x : Scenario) (n : ℕ) (s : State) → Sane x.setup s → ((turn : ℕ) → length (events_of x.script turn) ≤ 9) → IsCounted s → IsCounted (run level x n s).last
counted_run level x n s h few counted = state_run level x IsCounted (λ z sane now. counted_turn level x z sane (few z.turn) now) n s h counted

pub counted_first : (x : Scenario) → IsCounted (start_of x)
counted_first x = let h = counted-start x.setup in record { some = h.some; calls = h.calls; now = h.now }
