-- The own turns of two loners that have the same for themselves.
use Rattle.std.proofs.Common.{◌≡◌, ◌⊎◌, inl, inr, ◌+◌, ◌<◌, ◌≤◌, ℕ, Bool, true, false, leb, ltb, [], ◌∷◌, length, Some, refl, sym, ◌∙◌, ap, arith, ltb-true}
use Rattle.std.specs.Prelude.{Contains}
use Rattle.std.specs.List.{list_any}
use Rattle.std.proofs.lemmas.Bool.{leb-true, and_parts, false≢true}
use Rattle.std.proofs.lemmas.List.Elements.{Contains-append_left}
use Rattle.kernel_abi.specs.declared.Note.{Note}
use Rattle.region_check.specs.declared.Region.{Region}
use Rattle.region_check.specs.declared.Right.{Right}
use Rattle.region_check.specs.declared.Right.TheVariants.{Write}
use Rattle.region_check.specs.Rights.{is_inside, has_right, gives}
use Rattle.mem_banks.specs.Memory.{Memory, IsWithin, IsWithinRam}
use Rattle.task_table.specs.model.State.{Setup, State, Turn}
use Rattle.task_table.specs.model.Reading.{task_at, setup_at, call_of, listen_of, chosen, IsIdle}
use Rattle.task_table.specs.model.Effects.{noted}
use Rattle.task_table.specs.model.Placed.{ArePlaced}
use Rattle.task_table.specs.model.Sane.{Sane}
use Rattle.task_table.proofs.model.Receives.{well-ready}
use Rattle.task_table.proofs.model.Sanity.{sane-current}
use Rattle.board_model.specs.declared.outcomes.Level.{Level}
use Rattle.board_model.specs.declared.outcomes.Level.TheVariants.{Calls, All}
use Rattle.board_model.specs.Script.{Scenario}
use Rattle.board_model.specs.Turn.{may, is_device, noted_at, stepped, after_events, with_current, low_note, high_note, with_registers_noted, ended, turn}
use Rattle.board_model.proofs.Events.{fresh-after_events}
use Rattle.board_model.proofs.TurnChains.{IsChosen, chosen_is, as_current, sane-after_events, noted_state}
use Rattle.board_model.proofs.Views.{any_in, any_of}
use Rattle.board_model.specs.Loners.{IsLoner, HaveSameRegions, owns, HaveSameOwn, IsUntouched}
use Rattle.board_model.specs.LonerTurns.{IsOwnTurn, IsToItself, AreAlike}
use Rattle.board_model.proofs.Held.{no_device_below}
use Rattle.board_model.proofs.LonerFrame.{untouched-after_events}
use Rattle.board_model.proofs.SameBytes.{HoldSame, same_of_bytes, bytes_of_same}
use Rattle.board_model.proofs.LonerWalk.{IsPair, AreSame, IsAbout, HasCalled, same-stepped}

-- ## the same regions

pub same_regions : (g : Setup) (i : ℕ) → HaveSameRegions g g i i
same_regions g i = record { first = λ r here. here; second = λ r here. here }

-- what is asked of any region has one answer
pub same_any : (p : Region → Bool) (g h : Setup) (i j : ℕ) → HaveSameRegions g h i j → list_any p (setup_at g i).regions ≡ list_any p (setup_at h j).regions
same_any p g h i j same = by_answers (list_any p (setup_at g i).regions) (list_any p (setup_at h j).regions) refl refl
  where
    by_answers : (b c : Bool) → list_any p (setup_at g i).regions ≡ b → list_any p (setup_at h j).regions ≡ c → b ≡ c
    by_answers true true e f = refl
    by_answers false false e f = refl
    by_answers true false e f = let r = any_in p (setup_at g i).regions e in absurd (false≢true (sym f ∙ any_of p (setup_at h j).regions r.0 (same.first r.0 r.1) r.2))
    by_answers false true e f = let r = any_in p (setup_at h j).regions f in absurd (false≢true (sym e ∙ any_of p (setup_at g i).regions r.0 (same.second r.0 r.1) r.2))

-- ## where a loner's bytes lie

module _ (g : Setup) (i : ℕ) where
  -- a region that gives the right at an address
  given_by : (right : Right) (a : ℕ) → may g i right a ≡ true → (r : Region) × Contains (setup_at g i).regions r × (is_inside r a ≡ true) × (has_right r.rights right ≡ true)
  given_by right a e =
      let r = any_in (gives right a) (setup_at g i).regions e in
      let b = and_parts (is_inside r.0 a) (has_right r.0.rights right) r.2 in
      (r.0, r.1, b.0, b.1)

  from_to : (r : Region) (a : ℕ) → is_inside r a ≡ true → (r.base ≤ a) × (a < r.base + r.size)
  from_to r a e = let b = and_parts (leb r.base a) (ltb a (r.base + r.size)) e in (leb-true _ _ b.0, ltb-true _ _ b.1)

  own : (right : Right) (a : ℕ) → may g i right a ≡ true → owns g i a ≡ true
  own right a e = let r = given_by right a e in any_of (λ (x : Region). is_inside x a) (setup_at g i).regions r.0 r.1 r.2

  -- in memory, where no device lies
  own_memory : (m : Memory) → ArePlaced g m → IsLoner g i → (right : Right) (a : ℕ) → may g i right a ≡ true → is_device a ≡ false
  own_memory m placed loner right a e =
      let r = given_by right a e in
      let b = from_to r.0 a r.2 in
      no_device_below a (by_place r.0.base r.0.size b.0 b.1 (placed.within i r.0 r.1 (loner.no_device r.0 r.1)))
    where
      by_place : (base size : ℕ) → base ≤ a → a < base + size → IsWithin m base size → a < 0x40000000
      by_place base size lo hi (inl (inl none)) = absurd (omega arith)
      by_place base size lo hi (inl (inr ram)) = let end = ram.1 in let few = placed.below in omega arith
      by_place base size lo hi (inr flash) = let end = flash.1 in let few = placed.flash in omega arith

  -- in RAM, where it may be written: also in the memory of another image, in which a task has this region and no device
  own_ram : (h : Setup) (j : ℕ) (m : Memory) → ArePlaced h m → IsLoner h j → HaveSameRegions g h i j → (a : ℕ) → may g i Write a ≡ true → (0x20000000 ≤ a) × (a < 0x20000000 + length m.ram)
  own_ram h j m placed other same a e =
      let r = given_by Write a e in
      let b = from_to r.0 a r.2 in
      let here : Contains (setup_at h j).regions r.0 = same.first r.0 r.1 in
      by_place r.0.base r.0.size b.0 b.1 (placed.writable j r.0 here (other.no_device r.0 here) r.3)
    where
      by_place : (base size : ℕ) → base ≤ a → a < base + size → IsWithinRam m base size → (0x20000000 ≤ a) × (a < 0x20000000 + length m.ram)
      by_place base size lo hi (inl none) = absurd (omega arith)
      by_place base size lo hi (inr ram) = let low = ram.0 in let end = ram.1 in (omega arith, omega arith)

-- ## the turn around the instruction

pub turn_is : (level : Level) (x : Scenario) (s : State) (c : ℕ) → chosen x.setup (after_events x s).state ≡ Some c → turn level x s ≡ ended (with_registers_noted level c (stepped level x.setup c (with_current c (after_events x s))))
unfolding turn
turn_is level x s c e = rw e refl

kept-noted_at : (level : Level) (n m : Note) (t : Turn) → Contains t.notes m → Contains (noted_at level n t).notes m
unfolding noted
kept-noted_at Calls n m t here = here
kept-noted_at All n m t here = Contains-append_left t.notes (n ∷ []) m here

kept-registers : (level : Level) (c : ℕ) (m : Note) (t : Turn) → Contains t.notes m → Contains (with_registers_noted level c t).notes m
unfolding with_registers_noted
kept-registers level c m t here = kept-noted_at level (high_note (task_at t.state c)) m _ (kept-noted_at level (low_note (task_at t.state c)) m t here)

pub state-registers : (level : Level) (c : ℕ) (t : Turn) → (with_registers_noted level c t).state ≡ t.state
unfolding with_registers_noted
state-registers level c t = noted_state level _ _ ∙ noted_state level _ t

pub state-ended : (t : Turn) → (ended t).state ≡ record t.state { turn = t.state.turn + 1 }
unfolding ended
state-ended t = refl

notes-ended : (t : Turn) → (ended t).notes ≡ t.notes
unfolding ended
notes-ended t = refl

same_later : (g : Setup) (c d n m a b : ℕ) (s u : State) → AreSame g c d n m s u → AreSame g c d n m record s { turn = a } record u { turn = b }
unfolding task_at call_of listen_of
same_later g c d n m a b s u h = record {
  there = h.there;
  registers = h.registers;
  flags = h.flags;
  health = h.health;
  memory = h.memory;
  ram = h.ram;
  idle = (record { call = h.idle.0.call; listen = h.idle.0.listen }, record { call = h.idle.1.call; listen = h.idle.1.listen });
}

same_currents : (g : Setup) (c d n m a b : ℕ) (s u : State) → AreSame g c d n m s u → AreSame g c d n m record s { current = a } record u { current = b }
unfolding task_at call_of listen_of
same_currents g c d n m a b s u h = record {
  there = h.there;
  registers = h.registers;
  flags = h.flags;
  health = h.health;
  memory = h.memory;
  ram = h.ram;
  idle = (record { call = h.idle.0.call; listen = h.idle.0.listen }, record { call = h.idle.1.call; listen = h.idle.1.listen });
}

-- ## own turns of two

module _ (l p : Level) (x y : Scenario) (i j : ℕ) (s u : State) (h : AreAlike x y i j s u) where
  pair : (m n : Memory) → ArePlaced x.setup m → ArePlaced y.setup n → IsPair x.setup y.setup i j (length m.ram) (length n.ram)
  pair m n a b = record {
    rights = λ right a. same_any (gives right a) x.setup y.setup i j h.regions;
    own = own x.setup i;
    memory = own_memory x.setup i m a h.loners.0;
    ram = λ at may_write. let one = own_ram x.setup i x.setup i m a h.loners.0 (same_regions x.setup i) at may_write in let two = own_ram x.setup i y.setup j n b h.loners.1 h.regions at may_write in (one.0, one.1, two.1);
  }

  -- after an own turn of each, in which the first made no system call but PANIC
  pub own_turns : Sane x.setup s → Sane y.setup u → IsOwnTurn x i s → IsOwnTurn y j u → IsToItself i (turn l x s).notes → HaveSameOwn x.setup i j (turn l x s).state (turn p y u).state × IsIdle (turn l x s).state i × IsIdle (turn p y u).state j
  own_turns hs hu own_s own_u itself = by_outcome (same-stepped l p x.setup y.setup i j (length s.memory.ram) (length u.memory.ram) (pair s.memory u.memory hs.steady.placed hu.steady.placed) (with_current i t) (with_current j v) ready)
    where
      t : Turn
      t = after_events x s

      v : Turn
      v = after_events y u

      sane_t : Sane x.setup t.state
      sane_t = sane-after_events x s hs

      sane_v : Sane y.setup v.state
      sane_v = sane-after_events y u hu

      is_t : IsChosen t.state i
      is_t = chosen_is t.state i sane_t own_s

      is_v : IsChosen v.state j
      is_v = chosen_is v.state j sane_v own_u

      left_t : IsUntouched s i t.state
      left_t = untouched-after_events s i x h.idle.0

      left_v : IsUntouched u j v.state
      left_v = untouched-after_events u j y h.idle.1

      memory_t : t.state.memory ≡ s.memory
      memory_t = (fresh-after_events x s).memory

      memory_v : v.state.memory ≡ u.memory
      memory_v = (fresh-after_events y u).memory

      alike : HoldSame (owns x.setup i) s.memory u.memory
      alike = same_of_bytes (owns x.setup i) s.memory u.memory hs.steady.placed.flash hu.steady.placed.flash h.bytes

      before : AreSame x.setup i j (length s.memory.ram) (length u.memory.ram) t.state v.state
      before = record {
        there = (is_t.inside, is_v.inside);
        registers = left_t.registers ∙ h.registers ∙ sym left_v.registers;
        flags = left_t.flags ∙ h.flags ∙ sym left_v.flags;
        health = well-ready t.state i is_t.ready ∙ sym (well-ready v.state j is_v.ready);
        memory = rw (memory_t, memory_v) alike;
        ram = (ap (λ (m : Memory). length m.ram) memory_t, ap (λ (m : Memory). length m.ram) memory_v);
        idle = (left_t.idle, left_v.idle);
      }

      ready : IsAbout x.setup i j (length s.memory.ram) (length u.memory.ram) (with_current i t).state (with_current j v).state
      ready = record {
        same = same_currents x.setup i j (length s.memory.ram) (length u.memory.ram) i j t.state v.state before;
        sane = sane-current i t sane_t is_t.inside;
        ready = as_current i i t.state is_t.ready;
      }

      one : Turn
      one = stepped l x.setup i (with_current i t)

      two : Turn
      two = stepped p y.setup j (with_current j v)

      state_one : (turn l x s).state ≡ record one.state { turn = one.state.turn + 1 }
      state_one = ap (λ (z : Turn). z.state) (turn_is l x s i own_s) ∙ state-ended (with_registers_noted l i one) ∙ ap (λ (z : State). record z { turn = z.turn + 1 }) (state-registers l i one)

      state_two : (turn p y u).state ≡ record two.state { turn = two.state.turn + 1 }
      state_two = ap (λ (z : Turn). z.state) (turn_is p y u j own_u) ∙ state-ended (with_registers_noted p j two) ∙ ap (λ (z : State). record z { turn = z.turn + 1 }) (state-registers p j two)

      notes_one : (m : Note) → Contains one.notes m → Contains (turn l x s).notes m
      notes_one m here = rw (turn_is l x s i own_s, notes-ended (with_registers_noted l i one)) (kept-registers l i m one here)

      by_outcome : AreSame x.setup i j (length s.memory.ram) (length u.memory.ram) one.state two.state ⊎ HasCalled i one.notes → HaveSameOwn x.setup i j (turn l x s).state (turn p y u).state × IsIdle (turn l x s).state i × IsIdle (turn p y u).state j
      by_outcome (inl after) =
          let late = same_later x.setup i j (length s.memory.ram) (length u.memory.ram) (one.state.turn + 1) (two.state.turn + 1) one.state two.state after in
          rw (state_one, state_two) (record { registers = late.registers; flags = late.flags; health = late.health; bytes = bytes_of_same (owns x.setup i) _ _ late.memory }, late.idle.0, late.idle.1)
      by_outcome (inr called) = absurd (called.3 (itself.no_call called.0 called.1 (notes_one _ called.2)))
