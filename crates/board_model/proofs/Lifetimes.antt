-- Every write of a turn stands on its ground, and the ledger of a run is right.
use Rattle.kernel_abi.specs.Devices.{DeviceData}
use Rattle.std.proofs.Common.{◌≡◌, ◌+◌, ℕ, List, [], Option, Some, None, refl, sym, subst, ◌∙◌, ap, arith, inl, inr, IfSome}
use Rattle.task_table.specs.model.State.{Setup, State, Turn}
use Rattle.task_table.specs.model.Reading.{chosen}
use Rattle.task_table.specs.model.Start.{start}
use Rattle.task_table.specs.model.Placed.{ArePlaced}
use Rattle.task_table.specs.model.Sane.{Sane}
use Rattle.task_table.specs.model.Grounds.{AreGrounded, AreGranted, AreAlive, IsAlive, call_of_ground, touched, with_writes}
use Rattle.task_table.specs.model.Chain.{Chain, Here}
use Rattle.task_table.specs.model.Step.{Step}
use Rattle.task_table.specs.model.Lives.{IsAsNoted, IsFresh, IsClosed}
use Rattle.task_table.proofs.model.Grounding.{IsHonest, honest_same, honest_alive, chain_honest}
use Rattle.task_table.proofs.model.Writing.{chain_written}
use Rattle.task_table.proofs.model.Closing.{NoneReopened, fresh_reopened, chain_reopened, closed_stays, same_some, none_some}
use Rattle.task_table.proofs.model.Lives.{as_noted-ledger}
use Rattle.task_table.proofs.model.Ledgers.{as_noted-start, as_noted-aside, as_noted-same, chain_as_noted}
use Rattle.board_model.specs.declared.outcomes.Level.{Level}
use Rattle.board_model.specs.Script.{Scenario, start_of}
use Rattle.board_model.specs.Turn.{after_events, with_current, turn_of, ended, turn}
use Rattle.board_model.specs.Lifetimes.{IsUnused, IsGroundedTurn, IsLedgerOfRun}
use Rattle.board_model.proofs.TurnChains.{turn_chain, sane-after_events, idle-aside}
use Rattle.board_model.proofs.Events.{fresh_outside, fresh-after_events}
use Rattle.board_model.proofs.Reached.{reached_in, none_in, fed_before}
use Rattle.board_model.proofs.RunKeeps.{IsKeptByTurns, kept_run}

-- ## one turn

-- a turn of o from s, where z is the state after its events
record IsGroundedBy (g : Setup) (s z : State) (o : Option ℕ) (u : Turn) : Type 0 where
  written : u.state.memory ≡ with_writes s.memory u.writes
  idle : o ≡ None → u.writes ≡ []
  grounded : (c : ℕ) → o ≡ Some c → AreGrounded g z c u
  granted : (c : ℕ) → o ≡ Some c → AreGranted g z c u
  alive : (c : ℕ) → o ≡ Some c → AreAlive z c u
  closed : (k : ℕ) → IsClosed s k → IsUnused u k × IsClosed u.state k

closed_fresh : (s : State) (u : Turn) → IsFresh s u → (k : ℕ) → IsClosed s k → IsClosed u.state k
closed_fresh s u f k gone = (rw f.next_call gone.0, λ o. gone.1 (o.0, rw f.calls at o.1, o.2))

-- a call that was closed is not touched
not_alive : (s : State) (c : ℕ) (u : Turn) → NoneReopened s u → (k : ℕ) → IsClosed s k → IsAlive s c u k → ⊥
not_alive s c u h k gone (inl still) = gone.1 still
not_alive s c u h k gone (inr offer) = let later = h.offered_later k c offer.0 offer.1 in let lt = gone.0 in omega (arith, later, lt)

none_of : (A : ℕ → Type 0) (k : ℕ) → (A k → ⊥) → (o : Option ℕ) → IfSome o A → o ≡ Some k → ⊥
none_of A k gone None x e = none_some e
none_of A k gone (Some j) x e = gone (subst A (same_some e) x)

unused : (s : State) (c : ℕ) (u : Turn) → NoneReopened s u → AreAlive s c u → (k : ℕ) → IsClosed s k → IsUnused u k
unused s c u h alive k gone =
    let gone_now = not_alive s c u h k gone in
    record {
      silent = λ w here e. none_of (IsAlive s c u) k gone_now (call_of_ground w.on) (alive.written w here) e;
      unread = λ r here e. gone_now (subst (IsAlive s c u) e (alive.read r here));
      untouched = λ n here e. none_of (IsAlive s c u) k gone_now (touched n) (alive.touches n here) e;
    }

-- nothing happens
fresh_grounded : (g : Setup) (s z : State) (u : Turn) → ArePlaced g s.memory → IsFresh s u → IsGroundedBy g s z None u
fresh_grounded g s z u placed f = record {
  written = f.memory ∙ ap (with_writes s.memory) (sym f.writes);
  idle = λ e. f.writes;
  grounded = λ c e. absurd cc;
  granted = λ c e. absurd cc;
  alive = λ c e. absurd cc;
  closed = λ k gone. (unused s 0 u (fresh_reopened s u f) (honest_alive g s 0 u (chain_honest g s 0 placed u u (Here u) f)) k gone, closed_fresh s u f k gone);
}

-- c does what a chain of steps does, from where it is the current task
chain_grounded : (g : Setup) (s : State) (c : ℕ) (t v : Turn) → ArePlaced g t.state.memory → IsFresh s t → Chain (Step g (with_current c t).state c) (with_current c t) v → IsGroundedBy g s t.state (Some c) v
chain_grounded g s c t v placed f x =
    let u = with_current c t in
    let now : IsFresh u.state u = record { calls = refl; next_call = refl; memory = refl; writes = f.writes; reads = f.reads; plain = f.plain } in
    let done = chain_honest g u.state c placed u v x now in
    let honest = honest_same g u.state t.state c v v refl refl refl refl refl refl done in
    let none = chain_reopened g u.state c placed u.state u v x (fresh_reopened u.state u now) in
    record {
      written = subst (λ m. v.state.memory ≡ with_writes m v.writes) f.memory (chain_written g u.state c placed u v x now);
      idle = λ e. absurd cc;
      grounded = λ d e. subst (λ i. AreGrounded g t.state i v) (same_some e) honest.grounded;
      granted = λ d e. subst (λ i. AreGranted g t.state i v) (same_some e) honest.granted;
      alive = λ d e. subst (λ i. AreAlive t.state i v) (same_some e) (honest_alive g t.state c v honest);
      closed = λ k gone. let here : IsClosed u.state k = closed_fresh s t f k gone in (unused u.state c v none (honest_alive g u.state c v done) k here, closed_stays u.state v none k here);
    }

-- the turn's number is no matter
ended_grounded : (g : Setup) (s z : State) (o : Option ℕ) (u : Turn) → IsGroundedBy g s z o u → IsGroundedBy g s z o (ended u)
unfolding ended
ended_grounded g s z o u h = record {
  written = h.written;
  idle = h.idle;
  grounded = λ c e. (honest_ended c (h.grounded c e) (h.granted c e) (h.alive c e)).grounded;
  granted = λ c e. (honest_ended c (h.grounded c e) (h.granted c e) (h.alive c e)).granted;
  alive = λ c e. honest_alive g z c (ended u) (honest_ended c (h.grounded c e) (h.granted c e) (h.alive c e));
  closed = λ k gone. let r = h.closed k gone in (record { silent = r.0.silent; unread = r.0.unread; untouched = r.0.untouched }, r.1);
}
  where
    honest_ended : (c : ℕ) → AreGrounded g z c u → AreGranted g z c u → AreAlive z c u → IsHonest g z c record u { state = record u.state { turn = u.state.turn + 1 } }
    honest_ended c grounded granted alive = honest_same g z z c u _ refl refl refl refl refl refl record { grounded = grounded; read = alive.read; granted = granted; touches = alive.touches }

module _ (level : Level) (x : Scenario) (s : State) (h : Sane x.setup s) where
  turn_grounded : (o : Option ℕ) → chosen x.setup (after_events x s).state ≡ o → IsGroundedBy x.setup s (after_events x s).state o (ended (turn_of level x.setup o (after_events x s)))
  turn_grounded None e =
      let t = after_events x s in
      ended_grounded x.setup s t.state None _ (fresh_grounded x.setup s t.state _ h.steady.placed (fresh_outside s t _ (idle-aside level t).outside (fresh-after_events x s)))
  turn_grounded (Some c) e =
      let t = after_events x s in
      ended_grounded x.setup s t.state (Some c) _ (chain_grounded x.setup s c t _ (sane-after_events x s h).steady.placed (fresh-after_events x s) (turn_chain level x s c h e))

  pub grounded-turn : IsGroundedTurn level x s
  unfolding turn
  grounded-turn =
      let r = turn_grounded (chosen x.setup (after_events x s).state) refl in
      record {
        written = r.written;
        events = (fresh-after_events x s).writes;
        idle = r.idle;
        grounded = r.grounded;
        granted = r.granted;
        alive = r.alive;
        closed = r.closed;
        fed = fed_before x s;
        reached = λ c e. reached_in level x s c h e;
        unreached = none_in level x s;
      }

-- ## the ledger

pub kept_as_noted : (g : Setup) → IsKeptByTurns g IsAsNoted
kept_as_noted g = record { same = as_noted-same; outside = as_noted-aside; chain = λ s c old u v placed x. chain_as_noted g s c placed old u v x }

as_noted_with : (s : State) (devices : List DeviceData) → IsAsNoted [] s → IsAsNoted [] record s { devices = devices }
as_noted_with s devices h = record { apart = record { some = h.apart.some; from = h.apart.from; below = h.apart.below; client = h.apart.client; number = h.apart.number }; lives = h.lives }

pub as_noted_first : (x : Scenario) → IsAsNoted [] (start_of x)
as_noted_first x = as_noted_with (start x.setup) x.devices (as_noted-start x.setup)

pub ledger-run : (level : Level) (x : Scenario) (n : ℕ) → Sane x.setup (start_of x) → IsLedgerOfRun level x n
ledger-run level x n h = as_noted-ledger _ _ (kept_run level x IsAsNoted (kept_as_noted x.setup) n (start_of x) [] h (as_noted_first x))
