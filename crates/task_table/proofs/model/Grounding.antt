-- The task has the ground of each write of its turn, and each call that it reads for or touches is alive.
use Rattle.std.proofs.Common.{◌≡◌, ◌+◌, ◌<◌, ◌≤◌, ◌⊎◌, inl, inr, ℕ, zero, suc, true, List, [], ◌∷◌, ◌++◌, length, Option, Some, None, refl, sym, ap, ◌∙◌, arith, IfSome, min}
use Rattle.std.specs.Prelude.{Contains}
use Rattle.std.proofs.lemmas.Bool.{false≢true}
use Rattle.std.proofs.lemmas.List.Elements.{Contains-append_left, Contains-append_cases}
use Rattle.kernel_abi.specs.declared.Ending.{Ending}
use Rattle.kernel_abi.specs.declared.LeaseEntry.{LeaseEntry}
use Rattle.kernel_abi.specs.declared.Note.{Note}
use Rattle.kernel_abi.specs.declared.Note.TheVariants as note
use Rattle.mem_banks.specs.Memory.{bytes_at}
use Rattle.task_table.specs.model.State.{Setup, State, Call, Slice, Ground, Own, Message, Reply, Lease, Write as Written, Read, Part, MessageFront, Entry, Leased, Turn}
use Rattle.task_table.specs.model.Reading.{call_of}
use Rattle.task_table.specs.model.Effects.{with_taken, with_call, noted, stored, copied, looked, writes_on, close_notes, closed, offered}
use Rattle.task_table.specs.model.Borrows.{grant}
use Rattle.task_table.specs.model.Placed.{ArePlaced}
use Rattle.task_table.specs.model.Grounds.{MayChange, AreGrounded, IsLent, IsRightRead, AreGranted, IsAlive, AreAlive, call_of_ground, touched}
use Rattle.task_table.specs.model.Chain.{Chain}
use Rattle.task_table.specs.model.Step.{is_plain, MayChangeAll, Step}
use Rattle.task_table.specs.model.Lives.{IsFresh}
use Rattle.task_table.proofs.model.Chains.{chain_keeps}
use Rattle.task_table.proofs.model.Handing.{few_bytes}
use Rattle.task_table.proofs.model.Moves.{plain_one, IsOutside, taken_over, IsTaking, Move, Aside, Writes, Reads, Alters, Lends, Offers, Takes, Closes, outside-devices}
use Rattle.task_table.proofs.model.Happens.{chain_moves}

-- ## what each move adds

-- notes and reads stay, and each new write, read and note is as it may be
pub record IsMoved (g : Setup) (s : State) (c : ℕ) (u v : Turn) : Type 0 where
  pub notes : (n : Note) → Contains u.notes n → Contains v.notes n
  pub reads : (r : Read) → Contains u.reads r → Contains v.reads r
  pub written : (w : Written) → Contains v.writes w → Contains u.writes w ⊎ MayChange g s c v w.on w.address
  pub read : (r : Read) → Contains v.reads r → Contains u.reads r ⊎ (IsAlive s c v r.call × IsRightRead g s c r r.part)
  pub touches : (n : Note) → Contains v.notes n → Contains u.notes n ⊎ IfSome (touched n) (IsAlive s c v)

-- a call that is alive stays alive
alive_stays : (s : State) (c : ℕ) (u v : Turn) (k : ℕ) → ((n : Note) → Contains u.notes n → Contains v.notes n) → IsAlive s c u k → IsAlive s c v k
alive_stays s c u v k more h = elim h [ inl a ↦ inl a | inr b ↦ inr (b.0, more (note.Offer k c b.0) b.1) ]

may_stays : (g : Setup) (s : State) (c : ℕ) (u v : Turn) (on : Ground) (a : ℕ) → ((n : Note) → Contains u.notes n → Contains v.notes n) → ((r : Read) → Contains u.reads r → Contains v.reads r) → MayChange g s c u on a → MayChange g s c v on a
may_stays g s c u v Own a notes reads h = h
may_stays g s c u v (Message k) a notes reads h = record { listen = h.listen; here = h.here; offered = notes _ h.offered; copied = h.copied; taken = notes _ h.taken; lies = h.lies; may = h.may }
may_stays g s c u v (Reply k) a notes reads h = h
may_stays g s c u v (Lease k) a notes reads h = record { call = h.call; taken = h.taken; lease = h.lease; there = h.there; attributes = h.attributes; range = h.range; read = reads _ h.read; in_memory = h.in_memory; writable = h.writable; lies = h.lies; may = h.may }

writes_in : (on : Ground) (at : ℕ) (bytes : List ℕ) (w : Written) → Contains (writes_on on at bytes) w → (w.on ≡ on) × (at ≤ w.address) × (w.address < at + length bytes)
writes_in on at [] w h = absurd (omega (arith, h.1))
writes_in on at (b ∷ bs) w (zero, lt, same) = let e : ◌≡◌ {A = Written} (record { on = on; address = at; byte = b }) w = same in (ap (λ (x : Written). x.on) (sym e), rw (← e) (omega arith), rw (← e) (omega arith))
writes_in on at (b ∷ bs) w (suc k, lt, same) = let r = writes_in on (at + 1) bs w (k, omega arith, same) in (r.0, omega (arith, r.1), omega (arith, r.2))

pub one_in : {X : Type 0} (y x : X) → Contains (y ∷ []) x → y ≡ x
one_in y x (zero, lt, same) = same
one_in y x (suc k, lt, same) = absurd (omega arith)

-- the last note is the only new one
touches_one : (s : State) (c : ℕ) (v : Turn) (xs : List Note) (m : Note) → IfSome (touched m) (IsAlive s c v) → (n : Note) → Contains (xs ++ m ∷ []) n → Contains xs n ⊎ IfSome (touched n) (IsAlive s c v)
touches_one s c v xs m h n here = elim (Contains-append_cases xs (m ∷ []) n here) [ inl a ↦ inl a | inr b ↦ inr (rw (← one_in m n b) h) ]

-- a plain note touches no call
plain_touched : (n : Note) → is_plain n ≡ true → touched n ≡ None
plain_touched (note.Offer call client server) h = absurd (false≢true h)
plain_touched (note.Take call copied) h = absurd (false≢true h)
plain_touched (note.Close call ending) h = absurd (false≢true h)
plain_touched (note.Borrow call borrow lease offset moved) h = absurd (false≢true h)
plain_touched (note.Tick now) h = refl
plain_touched (note.Irq line handled) h = refl
plain_touched (note.Post task bits posted) h = refl
plain_touched (note.Syscall task number arguments) h = refl
plain_touched (note.Ret task results) h = refl
plain_touched (note.Fault task fault) h = refl
plain_touched (note.Restart task generation) h = refl
plain_touched (note.In device byte fed) h = refl
plain_touched (note.Out device byte) h = refl
plain_touched (note.IrqStatus task bits status) h = refl
plain_touched (note.Find index found) h = refl
plain_touched (note.Listen task from mask) h = refl
plain_touched (note.Insn task at code) h = refl
plain_touched note.Idle h = refl
plain_touched (note.Low registers) h = refl
plain_touched (note.High registers n z c v) h = refl

plain_alive : (s : State) (c : ℕ) (v : Turn) (n : Note) → is_plain n ≡ true → IfSome (touched n) (IsAlive s c v)
plain_alive s c v n h = rw (plain_touched n h) tt

module _ (g : Setup) (s : State) (c : ℕ) where
  moved-aside : (u v : Turn) → IsOutside u v → IsMoved g s c u v
  moved-aside u v a = record {
    notes = λ n h. rw a.notes (Contains-append_left u.notes a.new n h);
    reads = λ r h. rw a.reads h;
    written = λ w h. inl (rw a.writes at h);
    read = λ r h. inl (rw a.reads at h);
    touches = λ n h. elim (Contains-append_cases u.notes a.new n (rw a.notes at h)) [
      | inl old ↦ inl old
      | inr new ↦ inr (plain_alive s c v n (plain_one a.new n a.plain new))
    ];
  }

  moved-stored : (on : Ground) (at : ℕ) (bytes : List ℕ) (u : Turn) → MayChangeAll g s c u on at (length bytes) → IsMoved g s c u (stored on at bytes u)
  unfolding stored
  moved-stored on at bytes u may = record {
    notes = λ n h. h;
    reads = λ r h. h;
    written = λ w h. elim (Contains-append_cases u.writes (writes_on on at bytes) w h) [
      | inl old ↦ inl old
      | inr new ↦ let r = writes_in on at bytes w new in inr (rw r.0 (may_stays g s c u (stored on at bytes u) on w.address (λ n h. h) (λ x h. h) (may w.address r.1 r.2)))
    ];
    read = λ r h. inl h;
    touches = λ n h. inl h;
  }

  moved-looked : (r : Read) (u : Turn) → IsAlive s c u r.call × IsRightRead g s c r r.part → IsMoved g s c u (looked r u)
  unfolding looked
  moved-looked r u good = record {
    notes = λ n h. h;
    reads = λ x h. Contains-append_left u.reads (r ∷ []) x h;
    written = λ w h. inl h;
    read = λ x h. elim (Contains-append_cases u.reads (r ∷ []) x h) [ inl old ↦ inl old | inr new ↦ inr (rw (← one_in r x new) good) ];
    touches = λ n h. inl h;
  }

  moved-noted : (m : Note) (u : Turn) → IfSome (touched m) (IsAlive s c u) → IsMoved g s c u (noted m u)
  unfolding noted
  moved-noted m u alive = record {
    notes = λ n h. Contains-append_left u.notes (m ∷ []) n h;
    reads = λ r h. h;
    written = λ w h. inl h;
    read = λ r h. inl h;
    touches = touches_one s c (noted m u) u.notes m (by_touch (touched m) alive);
  }
    where
      by_touch : (o : Option ℕ) → IfSome o (IsAlive s c u) → IfSome o (IsAlive s c (noted m u))
      by_touch None h = tt
      by_touch (Some k) h = alive_stays s c u (noted m u) k (λ n x. Contains-append_left u.notes (m ∷ []) n x) h

  moved-offered : (k : Call) (u : Turn) → IsMoved g s c u (offered k u)
  unfolding offered with_call noted
  moved-offered k u = record {
    notes = λ n h. Contains-append_left u.notes (note.Offer k.number k.client.index k.server.index ∷ []) n h;
    reads = λ r h. h;
    written = λ w h. inl h;
    read = λ r h. inl h;
    touches = touches_one s c (offered k u) u.notes (note.Offer k.number k.client.index k.server.index) tt;
  }

  moved-taken : (on : Ground) (k : Call) (buffer : Slice) (u : Turn) → IsTaking g s c u on k buffer → IsMoved g s c u (taken_over on k buffer u)
  unfolding noted with_taken copied looked
  moved-taken on k buffer u t =
      let n = min k.message.len buffer.len in
      let r : Read = record { call = k.number; part = MessageFront; base = k.message.base; len = n } in
      let v = taken_over on k buffer u in
      let more : (m : Note) → Contains u.notes m → Contains v.notes m = λ m h. Contains-append_left u.notes (note.Take k.number n ∷ []) m h in
      let alive : IsAlive s c v k.number = alive_stays s c u v k.number more t.alive in
      record {
        notes = more;
        reads = λ x h. Contains-append_left u.reads (r ∷ []) x h;
        written = λ w h. elim (Contains-append_cases u.writes (writes_on on buffer.base (bytes_at u.state.memory k.message.base n)) w h) [
          | inl old ↦ inl old
          | inr new ↦
              let i = writes_in on buffer.base (bytes_at u.state.memory k.message.base n) w new in
              let few = few_bytes u.state.memory k.message.base n in
              inr (rw i.0 (t.may w.address (i.1, omega (arith, i.2, few))))
        ];
        read = λ x h. elim (Contains-append_cases u.reads (r ∷ []) x h) [ inl old ↦ inl old | inr new ↦ inr (rw (← one_in r x new) (alive, tt)) ];
        touches = touches_one s c v u.notes (note.Take k.number n) alive;
      }

  moved-closed : (i : ℕ) (ending : Ending) (u : Turn) → IsMoved g s c u (closed i ending u)
  unfolding closed
  moved-closed i ending u = record {
    notes = λ n h. Contains-append_left u.notes (close_notes ending (call_of u.state i)) n h;
    reads = λ r h. h;
    written = λ w h. inl h;
    read = λ r h. inl h;
    touches = λ n h. elim (Contains-append_cases u.notes (close_notes ending (call_of u.state i)) n h) [ inl old ↦ inl old | inr new ↦ inr (by_call (call_of u.state i) n new) ];
  }
    where
      by_call : (o : Option Call) (n : Note) → Contains (close_notes ending o) n → IfSome (touched n) (IsAlive s c (closed i ending u))
      by_call None n h = absurd (omega (arith, h.1))
      by_call (Some k) n h = rw (← one_in (note.Close k.number ending) n h) tt

  moved : (u v : Turn) → Move g s c u v → IsMoved g s c u v
  moved _ _ (Aside u v a) = moved-aside u v a.outside
  moved _ _ (Writes on at bytes u within may) = moved-stored on at bytes u may
  moved _ _ (Reads r u alive) = moved-looked r u alive
  moved _ _ (Alters devices u reached) = moved-aside u _ (outside-devices devices u)
  moved _ _ (Lends k borrow lease offset n u alive taken fits) = moved-noted (note.Borrow k borrow lease offset n) u alive
  moved _ _ (Offers k u new) = moved-offered k u
  moved _ _ (Takes on k buffer u t) = moved-taken on k buffer u t
  moved _ _ (Closes i ending u ends) = moved-closed i ending u

-- ## so grounds are kept

-- each write on its ground, each read and each touch of a call that is alive
pub record IsHonest (g : Setup) (s : State) (c : ℕ) (u : Turn) : Type 0 where
  pub grounded : AreGrounded g s c u
  pub read : (r : Read) → Contains u.reads r → IsAlive s c u r.call
  pub granted : AreGranted g s c u
  pub touches : (n : Note) → Contains u.notes n → IfSome (touched n) (IsAlive s c u)

some_stays : (s : State) (c : ℕ) (u v : Turn) (o : Option ℕ) → ((n : Note) → Contains u.notes n → Contains v.notes n) → IfSome o (IsAlive s c u) → IfSome o (IsAlive s c v)
some_stays s c u v None more h = tt
some_stays s c u v (Some k) more h = alive_stays s c u v k more h

move_honest : (g : Setup) (s : State) (c : ℕ) (u v : Turn) → Move g s c u v → IsHonest g s c u → IsHonest g s c v
move_honest g s c u v m h =
    let f = moved g s c u v m in
    record {
      grounded = λ w here. elim (f.written w here) [ inl old ↦ may_stays g s c u v w.on w.address f.notes f.reads (h.grounded w old) | inr new ↦ new ];
      read = λ r here. elim (f.read r here) [ inl old ↦ alive_stays s c u v r.call f.notes (h.read r old) | inr new ↦ new.0 ];
      granted = λ r here. elim (f.read r here) [ inl old ↦ h.granted r old | inr new ↦ new.1 ];
      touches = λ n here. elim (f.touches n here) [ inl old ↦ some_stays s c u v (touched n) f.notes (h.touches n old) | inr new ↦ new ];
    }

-- who writes on the ground of a call finds it alive
ground_alive : (g : Setup) (s : State) (c : ℕ) (u : Turn) (on : Ground) (a : ℕ) → MayChange g s c u on a → IfSome (call_of_ground on) (IsAlive s c u)
ground_alive g s c u Own a h = tt
ground_alive g s c u (Message k) a h = inr (h.listen.task, h.offered)
ground_alive g s c u (Reply k) a h = inl (h.call, h.taken.here, h.taken.number)
ground_alive g s c u (Lease k) a h = inl (h.call, h.taken.here, h.taken.number)

pub honest_alive : (g : Setup) (s : State) (c : ℕ) (u : Turn) → IsHonest g s c u → AreAlive s c u
honest_alive g s c u h = record { written = λ w here. ground_alive g s c u w.on w.address (h.grounded w here); read = h.read; touches = h.touches }

-- where nothing has happened yet
fresh_honest : (g : Setup) (s : State) (c : ℕ) (u : Turn) → IsFresh s u → IsHonest g s c u
fresh_honest g s c u f = record {
  grounded = λ w here. absurd (omega (arith, (rw f.writes at here).1));
  read = λ r here. absurd (omega (arith, (rw f.reads at here).1));
  granted = λ r here. absurd (omega (arith, (rw f.reads at here).1));
  touches = λ n here. plain_alive s c u n (f.plain n here);
}

pub chain_honest : (g : Setup) (s : State) (c : ℕ) → ArePlaced g s.memory → (u v : Turn) → Chain (Step g s c) u v → IsFresh s u → IsHonest g s c v
chain_honest g s c placed u v x f = chain_keeps (Move g s c) (IsHonest g s c) (move_honest g s c) u v (chain_moves g s c placed u v x) (fresh_honest g s c u f)

-- an entry is what memory has
same_grant : (s z : State) (call : Call) (lease : ℕ) → z.memory ≡ s.memory → grant z call lease ≡ grant s call lease
unfolding grant
same_grant s z call lease memory = rw memory refl

-- it is the same where calls, listens and memory, notes, writes and reads are
may_same : (g : Setup) (s z : State) (c : ℕ) (u v : Turn) → z.calls ≡ s.calls → z.listens ≡ s.listens → z.memory ≡ s.memory → v.notes ≡ u.notes → v.reads ≡ u.reads → (on : Ground) (a : ℕ) → MayChange g s c u on a → MayChange g z c v on a
may_same g s z c u v calls listens memory notes reads Own a h = h
may_same g s z c u v calls listens memory notes reads (Message k) a h = record { listen = h.listen; here = rw listens h.here; offered = rw notes h.offered; copied = h.copied; taken = rw notes h.taken; lies = h.lies; may = h.may }
may_same g s z c u v calls listens memory notes reads (Reply k) a h = record { call = h.call; taken = record { here = rw calls h.taken.here; number = h.taken.number; server_is = h.taken.server_is; phase = h.taken.phase }; lies = h.lies; may = h.may }
may_same g s z c u v calls listens memory notes reads (Lease k) a h = record { call = h.call; taken = record { here = rw calls h.taken.here; number = h.taken.number; server_is = h.taken.server_is; phase = h.taken.phase }; lease = h.lease; there = h.there; attributes = h.attributes; range = h.range; read = rw reads h.read; in_memory = same_grant s z h.call h.lease memory ∙ h.in_memory; writable = h.writable; lies = h.lies; may = h.may }

alive_same : (s z : State) (c : ℕ) (u v : Turn) → z.calls ≡ s.calls → v.notes ≡ u.notes → (k : ℕ) → IsAlive s c u k → IsAlive z c v k
alive_same s z c u v calls notes k h = rw (calls, notes) h

abbrev lent_same : (s z : State) (c k : ℕ) (entry : LeaseEntry) → z.calls ≡ s.calls → z.memory ≡ s.memory → IsLent s c k entry → IsLent z c k entry
lent_same s z c k entry calls memory h = record { call = h.call; taken = record { here = rw calls h.taken.here; number = h.taken.number; server_is = h.taken.server_is; phase = h.taken.phase }; lease = h.lease; there = h.there; in_memory = same_grant s z h.call h.lease memory ∙ h.in_memory }

right_same : (g : Setup) (s z : State) (c : ℕ) → z.calls ≡ s.calls → z.memory ≡ s.memory → (r : Read) (p : Part) → IsRightRead g s c r p → IsRightRead g z c r p
right_same g s z c calls memory r MessageFront h = tt
right_same g s z c calls memory r (Entry attributes base len) h = record { lent = lent_same s z c r.call _ calls memory h.lent; base = h.base; len = h.len; may = h.may }
right_same g s z c calls memory r Leased h = record { entry = h.entry; lent = lent_same s z c r.call h.entry calls memory h.lent; readable = h.readable; low = h.low; high = h.high; may = h.may }

pub honest_same : (g : Setup) (s z : State) (c : ℕ) (u v : Turn) → z.calls ≡ s.calls → z.listens ≡ s.listens → z.memory ≡ s.memory → v.notes ≡ u.notes → v.reads ≡ u.reads → v.writes ≡ u.writes → IsHonest g s c u → IsHonest g z c v
honest_same g s z c u v calls listens memory notes reads writes h = record {
  grounded = λ w here. may_same g s z c u v calls listens memory notes reads w.on w.address (h.grounded w (rw writes at here));
  read = λ r here. alive_same s z c u v calls notes r.call (h.read r (rw reads at here));
  granted = λ r here. right_same g s z c calls memory r r.part (h.granted r (rw reads at here));
  touches = λ n here. by_touch (touched n) (h.touches n (rw notes at here));
}
  where
    by_touch : (o : Option ℕ) → IfSome o (IsAlive s c u) → IfSome o (IsAlive z c v)
    by_touch None x = tt
    by_touch (Some k) x = alive_same s z c u v calls notes k x
