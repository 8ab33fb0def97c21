-- A byte that a turn changes is one that the chosen task may change; and the RAM stays as long as it is.
use Rattle.std.proofs.Common.{◌≡◌, ◌≢◌, ◌⊎◌, inl, inr, ◌+◌, ◌<◌, ◌≤◌, ℕ, zero, suc, List, [], ◌∷◌, length, Option, Some, None, refl, sym, subst, ◌∙◌, ap, arith, bit_and}
use Rattle.std.specs.Prelude.{Contains}
use Rattle.std.proofs.lemmas.Bool.Decides.{eqb_tells}
use Rattle.kernel_abi.specs.declared.LeaseEntry.{LeaseEntry}
use Rattle.mem_banks.specs.Memory.{Memory, byte_at, with_bytes}
use Rattle.task_table.specs.model.State.{Setup, State, Call, Ground, Own, Message, Reply, Lease, Write as Written, Turn}
use Rattle.task_table.specs.model.Reading.{task_at, chosen}
use Rattle.task_table.specs.model.Borrows.{lease_range}
use Rattle.task_table.specs.model.Placed.{ArePlaced}
use Rattle.task_table.specs.model.Sane.{Sane}
use Rattle.task_table.specs.model.Grounds.{Lies, MayWrite, MayChange, IsTakenBy, AreGrounded, with_writes}
use Rattle.task_table.proofs.model.Ranges.{within_ram-given, one_in_ram}
use Rattle.mem_banks.proofs.Stores.{length-with_bytes}
use Rattle.board_model.specs.declared.outcomes.Level.{Level}
use Rattle.board_model.specs.Script.{Scenario}
use Rattle.board_model.specs.Turn.{after_events, turn}
use Rattle.board_model.specs.Lifetimes.{IsGroundedTurn, Serves, MayReach, in_own, in_message, in_reply, in_lease, IsOnGround, ChangesOnGrounds}
use Rattle.board_model.proofs.TurnChains.{sane-after_events}
use Rattle.board_model.proofs.Lifetimes.{grounded-turn}
use Rattle.board_model.proofs.LonerBytes.{unwritten}

-- ## where it is written

-- each ground is one that some task may write
owner : (g : Setup) (s : State) (c : ℕ) (u : Turn) (on : Ground) (a : ℕ) → MayChange g s c u on a → (i : ℕ) × MayWrite g i a
owner g s c u Own a h = (c, h)
owner g s c u (Message k) a h = (h.listen.task, h.may)
owner g s c u (Reply k) a h = (h.call.client.index, h.may)
owner g s c u (Lease k) a h = (h.call.client.index, h.may)

abbrev AreInRam : Memory → List Written → Type 0
AreInRam m ws = (w : Written) → Contains ws w → (0x20000000 ≤ w.address) × (w.address < 0x20000000 + length m.ram)

written_in_ram : (g : Setup) (s : State) (c : ℕ) (u : Turn) (m : Memory) → ArePlaced g m → AreGrounded g s c u → AreInRam m u.writes
written_in_ram g s c u m placed grounded w here =
    let who = owner g s c u w.on w.address (grounded w here) in
    one_in_ram m w.address (within_ram-given g m who.0 w.address placed who.1)

-- ## whether it is written

no_other : (y : Written) (ys : List Written) (a : ℕ) → y.address ≢ a → ((w : Written) → Contains ys w → w.address ≢ a) → (w : Written) → Contains (y ∷ ys) w → w.address ≢ a
no_other y ys a ne none w (zero, lt, same) = let e : y ≡ w = same in λ q. ne (ap (λ (z : Written). z.address) e ∙ q)
no_other y ys a ne none w (suc i, lt, same) = none w (i, omega arith, same)

written_at : (ws : List Written) (a : ℕ) → ((w : Written) × Contains ws w × (w.address ≡ a)) ⊎ ((w : Written) → Contains ws w → w.address ≢ a)
written_at [] a = inr (λ w here. absurd (omega (arith, here.1)))
written_at (y ∷ ys) a = elim (eqb_tells y.address a) [
  | inl same ↦ inl (y, (zero, omega arith, refl), same.1)
  | inr other ↦ elim (written_at ys a) [
    | inl r ↦ inl (r.0, (suc r.1.0, omega (arith, r.1.1), r.1.2), r.2)
    | inr none ↦ inr (no_other y ys a other.1 none)
  ]
]

-- ## a ground is a reach

serves : (g : Setup) (s : State) (c k : ℕ) (call : Call) → Sane g s → IsTakenBy s c k call → Serves s c call
serves g s c k call sane t = record {
  here = t.here;
  taken = t.phase;
  server = t.server_is;
  server_birth = subst (λ (i : ℕ). (task_at s i).births ≡ call.server.birth) t.server_is (sane.present.server call t.here tt);
  client_birth = sane.present.client call t.here;
}

may_reach : (g : Setup) (s : State) (c : ℕ) (u : Turn) (on : Ground) (a : ℕ) → Sane g s → MayChange g s c u on a → MayReach g s c u a
may_reach g s c u Own a sane h = in_own h
may_reach g s c u (Message k) a sane h = in_message h.listen k h.copied h.here h.offered h.taken h.lies h.may
may_reach g s c u (Reply k) a sane h = in_reply h.call (serves g s c k h.call sane h.taken) h.lies h.may
may_reach g s c u (Lease k) a sane h =
    in_lease h.call h.lease (serves g s c k h.call sane h.taken) h.there
    (λ none. h.writable (sym (ap (λ (e : LeaseEntry). bit_and e.attributes 2) h.in_memory) ∙ none))
    (subst (λ (e : LeaseEntry). Lies (lease_range e) a) (sym h.in_memory) h.lies) h.may

-- ## the turn

module _ (level : Level) (x : Scenario) (s : State) (h : Sane x.setup s) where
  pub changes_on_grounds : ChangesOnGrounds level x s
  changes_on_grounds a differs = by_choice (chosen x.setup (after_events x s).state) refl
    where
      grounded : IsGroundedTurn level x s
      grounded = grounded-turn level x s h

      z : State
      z = (after_events x s).state

      u : Turn
      u = turn level x s

      by_choice : (o : Option ℕ) → chosen x.setup (after_events x s).state ≡ o → IsOnGround level x s a
      by_choice None e = absurd (differs (ap (λ (m : Memory). byte_at m a) (grounded.written ∙ ap (with_writes s.memory) (grounded.idle e))))
      by_choice (Some c) e = elim (written_at u.writes a) [
        | inl r ↦ record {
          task = c;
          chosen = e;
          may = subst (λ (i : ℕ). MayReach x.setup z c u i) r.2 (may_reach x.setup z c u r.0.on r.0.address (sane-after_events x s h) (grounded.grounded c e r.0 r.1));
        }
        | inr none ↦ absurd (differs (ap (λ (m : Memory). byte_at m a) grounded.written ∙ unwritten u.writes s.memory a (λ w here.
            let place = written_in_ram x.setup z c u s.memory h.steady.placed (grounded.grounded c e) w here in
            (place.0, place.1, none w here))))
      ]

-- ## how long the RAM is

long_written : (ws : List Written) (m : Memory) → AreInRam m ws → length (with_writes m ws).ram ≡ length m.ram
long_written [] m h = refl
long_written (w ∷ ws) m h =
    let r = h w (zero, omega arith, refl) in
    let high = r.1 in
    let v = with_bytes m w.address (w.byte ∷ []) in
    let same : length v.ram ≡ length m.ram = length-with_bytes m w.address (w.byte ∷ []) (inr (r.0, omega arith)) in
    long_written ws v (λ y here. let q = h y (suc here.0, omega (arith, here.1), here.2) in (q.0, rw same q.1)) ∙ same

pub ram_turn : (level : Level) (x : Scenario) (s : State) → Sane x.setup s → length (turn level x s).state.memory.ram ≡ length s.memory.ram
ram_turn level x s h = by_choice (chosen x.setup (after_events x s).state) refl
  where
    grounded : IsGroundedTurn level x s
    grounded = grounded-turn level x s h

    by_choice : (o : Option ℕ) → chosen x.setup (after_events x s).state ≡ o → length (turn level x s).state.memory.ram ≡ length s.memory.ram
    by_choice None e = ap (λ (m : Memory). length m.ram) (grounded.written ∙ ap (with_writes s.memory) (grounded.idle e))
    by_choice (Some c) e =
        ap (λ (m : Memory). length m.ram) grounded.written
        ∙ long_written (turn level x s).writes s.memory (written_in_ram x.setup (after_events x s).state c (turn level x s) s.memory h.steady.placed (grounded.grounded c e))
