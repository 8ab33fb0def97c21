-- Instructions on end within a window of a task's memory are its turns.
use Rattle.words_core.specs.Regs.{reg_at, stack_pointer, program_counter}
use Rattle.std.proofs.Common.{◌≡◌, ◌≢◌, ◌⊎◌, inl, inr, ◌+◌, ◌-◌, ◌%◌, ◌≤◌, ◌<◌, ℕ, zero, suc, Bool, true, false, not, cond, eqb, leb, ◌&&◌, List, [], length, Option, Some, None, refl, sym, ◌∙◌, ap, subst, arith, get_or, Vec, Global}
use Rattle.std.specs.Prelude.{Contains, Ok, find, map, vec_items, vec_len}
use Rattle.std.proofs.lemmas.Bool.{leb-true, leb-false, ltb-true, eq-eqb, eqb-true, false≢true, not-true, and_parts}
use Rattle.std.proofs.lemmas.List.{set-set, length-map, get_or-map, nil_from_length}
use Rattle.region_check.specs.declared.Region.{Region}
use Rattle.region_check.specs.declared.Right.{Right}
use Rattle.region_check.specs.declared.Right.TheVariants.{Read, Write, Execute}
use Rattle.region_check.specs.Rights.{has_right}
use Rattle.run_script.specs.Scripts.{ScriptData, IsNext, events_of}
use Rattle.mem_banks.specs.Memory.{Memory, with_bytes}
use Rattle.mem_banks.specs.Windows.{Doing, IsInMemory, IsInRam, IsInFlash, IsNoRegion, IsOpened, bytes_of}
use Rattle.mem_banks.proofs.Windows.{region_length, written_same}
use Rattle.thumb_exec.specs.declared.cpu.Cpu.{Cpu}
use Rattle.kernel_abi.specs.Devices.{DeviceData}
use Rattle.thumb_exec.specs.Effect.{Effect, Next, Syscall, Trap, Halts}
use Rattle.thumb_exec.specs.Fetch.{WidensFetch, fetched, step_effect}
use Rattle.thumb_insn.specs.declared.Insn.TheVariants.{Svc}
use Rattle.thumb_step.specs.declared.window.Window.{Window}
use Rattle.thumb_step.specs.Windows.{View, given, Keeps, IsApart, is_at_syscall, refused_by, held_by}
use Rattle.thumb_step.proofs.Widening.{fetched_wider, step_wider}
use Rattle.thumb_step.proofs.Gliding.{fetched_from, in_stretch}
use Rattle.task_table.specs.model.State.{Setup, State, Task, Turn}
use Rattle.task_table.specs.model.Start.{begun}
use Rattle.task_table.specs.model.Reading.{setup_at, task_at, call_of, listen_of, is_ready, chosen, register}
use Rattle.task_table.specs.model.Effects.{with_task, with_processor, with_devices}
use Rattle.task_table.specs.declared.kernel.Kernel.{Kernel}
use Rattle.task_table.specs.kept.Holds.{Holds, setup_of, memory_of, kept_of, note_count, notes_of as kernel_notes}
use Rattle.task_table.specs.kept.Openable.{AreUsable, IsUsableOrNone, span_of}
use Rattle.task_table.specs.kept.Window.{overlaid_all, IsWindowOpened}
use Rattle.task_table.proofs.model.Changes.{task_at-with_task}
use Rattle.task_table.proofs.kept.Steps.{holds_turn}
use Rattle.board_model.specs.declared.outcomes.Level.TheVariants.{Calls}
use Rattle.board_model.specs.declared.outcomes.Turned.{Turned}
use Rattle.board_model.specs.declared.outcomes.Turned.TheVariants.{Idle, Ran}
use Rattle.board_model.specs.Script.{Scenario}
use Rattle.board_model.specs.Turn.{may, refusals, is_device, held, cpu_of, with_current, turned}
use Rattle.board_model.specs.Run.{ending, is_down, state_after}
use Rattle.board_model.proofs.Outside.{due_later}
use Rattle.board_model.proofs.TurnChains.{chosen_is, whole_cpu}
use Rattle.task_table.specs.model.Sane.{Sane}
use Rattle.board_core.specs.fast.Reached.{is_flash_at, is_ram_at, is_area, is_second, no_region, unwatched, IsStackRegion, MakeWindow}
use Rattle.board_core.specs.declared.fast_path.regions.WindowRegions.{WindowRegions}
use Rattle.board_core.specs.fast.Breakpoints.{IsStretch, is_hit}
use Rattle.board_core.specs.fast.Stops.{Stops}
use Rattle.board_core.specs.fast.Windowed.{IsWindow, IsWholeWindow, IsAllOf, IsBeyond, IsBeside, IsSight, IsAtEnd, MustStop, IsFetchedIn, AreTurns, runner, later, with_window}
use Rattle.board_core.proofs.fast.WindowTurns.{fetched_there}
use Rattle.board_core.proofs.fast.SightTurns.{IsLeft, are_turns, seen_then}
use Rattle.board_core.proofs.fast.WindowCovers.{widens}
use Rattle.board_core.proofs.fast.LaidOut.{found_first}
use Rattle.board_core.proofs.fast.IoRegions.{each_byte, own_ports}
use Rattle.board_core.proofs.fast.Polled.{glides_polls}
use Rattle.board_core.proofs.Reaching.{holds_devices}
use Rattle.board_core.specs.fast.Sights.{Sight, is_read, io_regions_of, sight_by, refused_at, held_at, Polls, IsAtLimit}
use Rattle.board_core.specs.declared.fast_path.poller.Poller.{Poller}
use Rattle.board_core.specs.fast.Polling.{HasPolled}
use Rattle.board_core.specs.declared.machine.Machine.{Machine}
use Rattle.board_core.specs.declared.space.AddressSpace.{AddressSpace}
use Rattle.board_core.specs.Machine.{IsLoaded, HoldsBy, HasContext, MachineHolds, MachineStands, with_cpu}
use Rattle.board_core.specs.declared.fast_path.glider.Glider.{Glider}
use Rattle.board_core.specs.fast.Gliding.{lent_view, TellsCall, HasWorked, IsGlided, HasGlided}
use Rattle.board_core.specs.declared.board.Board.{Board}
use Rattle.board_core.specs.fast.IoRegions.{AllIoRegions}
use Rattle.board_core.specs.Stands.{Stands, turns_of}
use Rattle.board_core.specs.fast.Advanced.{HasGlidden, IsCallPast}
use Rattle.board_core.proofs.Loading.{rest_of, context_cpu, context_memory, loaded_by}
use Rattle.region_check.specs.Spans.{spans}
use Rattle.board_core.proofs.fast.Skipping.{quiet_before, quiet_begun, begun_board}
use Rattle.board_core.proofs.Turning.{rested, rested_as, none_of}
use Rattle.board_core.specs.Data.{Shows, data_of}

-- ## a window

in_flash : (m : Memory) (r : ℕ × ℕ) → r.0 < 0x20000000 → IsInMemory m r → IsInFlash m r
in_flash m r low (inl x) = absurd (omega (arith, low, x.0))
in_flash m r low (inr x) = x

-- what the tests of a region say
record IsFlashAt (at : ℕ) (r : Region) : Type 0 where
  to : at + 2 ≤ r.base + r.size
  from : r.base ≤ at
  execute : r.rights.execute ≡ true
  no_device : r.rights.device ≡ false
  below : r.base < 0x20000000

-- a region of the RAM that has bytes and may be read
record IsData (r : Region) : Type 0 where
  some : 0 < r.size
  read : r.rights.read ≡ true
  no_device : r.rights.device ≡ false
  above : 0x20000000 ≤ r.base

-- one has not the base and the size of the other
abbrev IsOther : Region → Region → Type 0
IsOther other r = r.base ≡ other.base → r.size ≡ other.size → ⊥

-- that of the stack, an area beside that, and one beside both
abbrev IsStack : Region → Type 0
IsStack r = IsData r × (r.rights.write ≡ true)

abbrev IsArea : Region → Region → Type 0
IsArea stack r = IsData r × IsOther stack r

abbrev IsSecond : Region → Region → Region → Type 0
IsSecond stack area r = IsData r × IsOther stack r × IsOther area r

spanned : (r : Region) (a n : ℕ) → spans r a n ≡ true → (r.base ≤ a) × (a + n ≤ r.base + r.size)
spanned r a n h = let two = and_parts _ _ h in (leb-true _ _ two.0, leb-true _ _ two.1)

flash_at : (at : ℕ) (r : Region) → is_flash_at at r ≡ true → IsFlashAt at r
flash_at at r h =
    let three = and_parts _ _ h in
    let two = and_parts _ _ three.0 in
    let one = and_parts _ _ two.0 in
    let range = spanned r at 2 one.0 in
    record { to = range.1; from = range.0; execute = one.1; no_device = not-true _ two.1; below = ltb-true _ _ three.1 }

ram_at : (at : ℕ) (r : Region) → is_ram_at at r ≡ true → IsStack r
ram_at at r h =
    let five = and_parts _ _ h in
    let four = and_parts _ _ five.0 in
    let three = and_parts _ _ four.0 in
    let two = and_parts _ _ three.0 in
    let one = and_parts _ _ two.0 in
    (record { some = ltb-true _ _ one.1; read = two.1; no_device = not-true _ four.1; above = leb-true _ _ five.1 }, three.1)

same_spans : (a b c d : ℕ) → not (eqb a b && eqb c d) ≡ true → a ≡ b → c ≡ d → ⊥
same_spans a b c d h e f =
    let p : eqb a b ≡ true = eq-eqb a b e in
    let q : eqb c d ≡ true = eq-eqb c d f in
    let both_same : (eqb a b && eqb c d) ≡ true = rw (p, q) refl in
    false≢true (ap (λ (x : Bool). not x) (sym both_same) ∙ h)

area_at : (stack r : Region) → is_area stack r ≡ true → IsArea stack r
area_at stack r h =
    let four = and_parts _ _ h in
    let three = and_parts _ _ four.0 in
    let two = and_parts _ _ three.0 in
    let one = and_parts _ _ two.0 in
    (record { some = ltb-true _ _ one.1; read = two.1; no_device = not-true _ three.1; above = leb-true _ _ one.0 }, same_spans r.base stack.base r.size stack.size four.1)

second_at : (stack area r : Region) → is_second stack area r ≡ true → IsSecond stack area r
second_at stack area r h =
    let two = and_parts _ _ h in
    let further = area_at stack r two.0 in
    (further.0, further.1, same_spans r.base area.base r.size area.size two.1)

-- it is no region, or one of these with such rights
abbrev IsSomeOrNone : List Region → (Region → Type 0) → Region → Type 0
IsSomeOrNone regions P r = IsNoRegion (span_of r) ⊎ (Contains regions r × P r)

-- the first one that passes a test is as the test says
first_at : (regions : List Region) (test : Region → Bool) (P : Region → Type 0) (r : Region) → ((x : Region) → test x ≡ true → P x) → (find test regions ≡ Some r) ⊎ (IsNoRegion (span_of r) × (find test regions ≡ None)) → IsSomeOrNone regions P r
first_at regions test P r says (inl e) = let f = found_first test regions r e in inr (f.0, says r f.1)
first_at regions test P r says (inr x) = inl x.0

stack_at : (regions : List Region) (sp : ℕ) (r : Region) → IsStackRegion regions sp r → IsSomeOrNone regions IsStack r
stack_at regions sp r (inl x) = inr (x.0, ram_at sp r x.1)
stack_at regions sp r (inr x) = inl x.0

-- what is left of a region where a byte is watched is all of it, or none
whole_or_none : (watched : Option ℕ) (r u : Region) → u ≡ unwatched watched r → (u ≡ r) ⊎ IsNoRegion (span_of u)
whole_or_none None r u e = inl e
whole_or_none (Some at) r u e = by (spans r at 1) e
  where
    by : (b : Bool) → u ≡ cond b no_region r → (u ≡ r) ⊎ IsNoRegion (span_of u)
    by true e = inr (ap (λ (z : Region). z.base) e, ap (λ (z : Region). z.size) e)
    by false e = inl e

left_or_none : (watched : Option ℕ) (regions : List Region) (P : Region → Type 0) (r u : Region) → u ≡ unwatched watched r → IsSomeOrNone regions P r → IsSomeOrNone regions P u
left_or_none watched regions P r u e x = by (whole_or_none watched r u e)
  where
    by : (u ≡ r) ⊎ IsNoRegion (span_of u) → IsSomeOrNone regions P u
    by (inl same) = subst (IsSomeOrNone regions P) (sym same) x
    by (inr none) = inl none

-- the byte is none of what is left
not_there : (at : ℕ) (r : Region) → (unwatched (Some at) r).base ≤ at → at < (unwatched (Some at) r).base + (unwatched (Some at) r).size → ⊥
not_there at r = by (leb r.base at) (leb (at + 1) (r.base + r.size)) refl refl
  where
    by : (p q : Bool) → leb r.base at ≡ p → leb (at + 1) (r.base + r.size) ≡ q → (cond (p && q) no_region r).base ≤ at → at < (cond (p && q) no_region r).base + (cond (p && q) no_region r).size → ⊥
    by true true e f low high = absurd (omega (arith, low, high))
    by true false e f low high = let g = leb-false (at + 1) (r.base + r.size) f in absurd (omega (arith, g, high))
    by false q e f low high = let g = leb-false r.base at e in absurd (omega (arith, g, low))

-- nor one of a window that has what is left
beyond : (base : ℕ) (bytes : List ℕ) (at : ℕ) (u r : Region) → IsAllOf base bytes u → u ≡ unwatched (Some at) r → IsBeyond base bytes at
beyond base bytes at u r all e low high =
    let start = all.0 ∙ ap (λ (x : Region). x.base) e in
    let size = all.1 ∙ ap (λ (x : Region). x.size) e in
    not_there at r (rw (← start) low) (rw (← start, ← size) high)

-- a region is not what is left of one that it is not
not_left : (watched : Option ℕ) (other u r : Region) → u ≡ unwatched watched other → IsOther other r → 0 < r.size → span_of u ≢ span_of r
not_left watched other u r e differs some same = by (whole_or_none watched other u e)
  where
    by : (u ≡ other) ⊎ IsNoRegion (span_of u) → ⊥
    by (inl is) = differs (ap (λ (p : ℕ × ℕ). p.0) (sym same) ∙ ap (λ (x : Region). x.base) is) (ap (λ (p : ℕ × ℕ). p.1) (sym same) ∙ ap (λ (x : Region). x.size) is)
    by (inr none) = let empty : u.size ≡ 0 = none.1 in let size : u.size ≡ r.size = ap (λ (p : ℕ × ℕ). p.1) same in absurd (omega (arith, empty, size, some))

usable : (regions : List Region) (P : Region → Type 0) (r : Region) → (P r → IsData r) → IsSomeOrNone regions P r → IsUsableOrNone regions r
usable regions P r says (inl none) = inl none
usable regions P r says (inr x) = let h = says x.1 in inr (record { here = x.0; no_device = h.no_device; some = h.some }, h.above)

-- the regions of a window
module _ (watched : Option ℕ) (regions : List Region) (pc sp : ℕ) (w : WindowRegions) (are : MakeWindow watched regions pc sp w) where
  flash_given : Contains regions w.flash × IsFlashAt pc w.flash
  flash_given = rw are.is (are.reached.here, flash_at pc are.all.flash are.reached.flash)

  ram_left : w.ram ≡ unwatched watched are.all.ram
  ram_left = ap (λ (x : WindowRegions). x.ram) are.is

  area_left : w.area ≡ unwatched watched are.all.area
  area_left = ap (λ (x : WindowRegions). x.area) are.is

  second_left : w.second ≡ unwatched watched are.all.second
  second_left = ap (λ (x : WindowRegions). x.second) are.is

  ram_given : IsSomeOrNone regions IsStack w.ram
  ram_given = left_or_none watched regions IsStack are.all.ram w.ram ram_left (stack_at regions sp are.all.ram are.reached.ram)

  area_given : IsSomeOrNone regions (IsArea are.all.ram) w.area
  area_given = left_or_none watched regions (IsArea are.all.ram) are.all.area w.area area_left (first_at regions (is_area are.all.ram) (IsArea are.all.ram) are.all.area (area_at are.all.ram) are.reached.area)

  second_given : IsSomeOrNone regions (IsSecond are.all.ram are.all.area) w.second
  second_given = left_or_none watched regions (IsSecond are.all.ram are.all.area) are.all.second w.second second_left (first_at regions (is_second are.all.ram are.all.area) (IsSecond are.all.ram are.all.area) are.all.second (second_at are.all.ram are.all.area) are.reached.second)

  -- they can be opened
  pub are_usable : AreUsable regions w.flash w.ram w.area w.second
  are_usable =
      let f = flash_given.1 in
      record {
        flash_usable = record { here = flash_given.0; no_device = f.no_device; some = omega (arith, f.from, f.to) };
        below = f.below;
        ram_usable = usable regions IsStack w.ram (λ h. h.0) ram_given;
        area_usable = usable regions (IsArea are.all.ram) w.area (λ h. h.0) area_given;
        second_usable = usable regions (IsSecond are.all.ram are.all.area) w.second (λ h. h.0) second_given;
        other = elim area_given [
          | inl none ↦ inl none
          | inr x ↦ inr (not_left watched are.all.ram w.ram w.area ram_left x.1.1 x.1.0.some)
        ];
        second_other = elim second_given [
          | inl none ↦ inl none
          | inr x ↦ inr (not_left watched are.all.ram w.ram w.second ram_left x.1.1 x.1.0.some, not_left watched are.all.area w.area w.second area_left x.1.2 x.1.0.some)
        ];
      }

-- a window's fields are those of its regions
pub record IsAimed (breakpoints : List ℕ) (pc : ℕ) (w : WindowRegions) (a : Window) : Type 0 where
  pub flash : a.flash_base ≡ w.flash.base
  pub stretch : IsStretch breakpoints w.flash.base w.flash.size pc a.code_base a.code_size
  pub readable : a.readable ≡ w.flash.rights.read
  pub ram : a.ram_base ≡ w.ram.base
  pub area : a.area_base ≡ w.area.base
  pub writable : a.area_writable ≡ w.area.rights.write
  pub second : a.second_base ≡ w.second.base
  pub second_writable : a.second_writable ≡ w.second.rights.write

module _ (stops : Stops) (g : Setup) (c : ℕ) (m : Memory) (pc sp : ℕ) (w : WindowRegions) (a : Window) (are : MakeWindow stops.watched (setup_at g c).regions pc sp w) (aim : IsAimed stops.breakpoints pc w a)
    {B : Type 0} (did : Doing B) (user user' : B) (m' : Memory) (opened : IsOpened did m (span_of w.flash) (span_of w.ram) (span_of w.area) (span_of w.second) user user' m') where
  abbrev v : View
  v = lent_view a (bytes_of m (span_of w.flash)) (bytes_of m (span_of w.ram)) (bytes_of m (span_of w.area)) (bytes_of m (span_of w.second))

  flash_long : length v.flash ≡ w.flash.size
  flash_long = region_length m w.flash.base w.flash.size opened.flash_there

  ram_long : length v.ram ≡ w.ram.size
  ram_long = region_length m w.ram.base w.ram.size (inl opened.ram_there)

  area_long : length v.area ≡ w.area.size
  area_long = region_length m w.area.base w.area.size (inl opened.area_there)

  second_long : length v.second ≡ w.second.size
  second_long = region_length m w.second.base w.second.size (inl opened.second_there)

  of_region : (right : Right) (r : Region) (base : ℕ) (bytes : List ℕ) → base ≡ r.base → length bytes ≡ r.size → Contains (setup_at g c).regions r → has_right r.rights right ≡ true → (b : ℕ) → base ≤ b → b < base + length bytes → may g c right b ≡ true
  of_region right r base bytes e long here has b low high = each_byte (setup_at g c).regions right r b here has (omega (arith, low, e)) (omega (arith, high, e, long))

  of_flash : (right : Right) → has_right w.flash.rights right ≡ true → (b : ℕ) → v.flash_base ≤ b → b < v.flash_base + length v.flash → may g c right b ≡ true
  of_flash right has = of_region right w.flash v.flash_base v.flash aim.flash flash_long (flash_given stops.watched (setup_at g c).regions pc sp w are).0 has

  of_some : (right : Right) (P : Region → Type 0) (r : Region) (base : ℕ) (bytes : List ℕ) → base ≡ r.base → length bytes ≡ r.size → (P r → has_right r.rights right ≡ true) → IsSomeOrNone (setup_at g c).regions P r → (b : ℕ) → base ≤ b → b < base + length bytes → may g c right b ≡ true
  of_some right P r base bytes e long has (inl none) b low high = let empty : r.size ≡ 0 = none.1 in absurd (omega (arith, low, high, long, empty))
  of_some right P r base bytes e long has (inr x) b low high = of_region right r base bytes e long x.0 (has x.1) b low high

  -- the stretch lies within the flash, which ends below the RAM
  pub is_apart : IsApart v
  is_apart = record {
    from = omega (arith, aim.flash, aim.stretch.inside.0);
    to = omega (arith, aim.flash, flash_long, aim.stretch.inside.1);
    below = let inside = in_flash m (span_of w.flash) (flash_given stops.watched (setup_at g c).regions pc sp w are).1.below opened.flash_there in omega (arith, aim.flash, flash_long, aim.ram, inside.2, opened.ram_there.0);
  }

  window_of : IsWindow g c m v
  window_of =
      let f = (flash_given stops.watched (setup_at g c).regions pc sp w are).1 in
      let ram = ram_given stops.watched (setup_at g c).regions pc sp w are in
      let area = area_given stops.watched (setup_at g c).regions pc sp w are in
      let second = second_given stops.watched (setup_at g c).regions pc sp w are in
      record {
        executed = of_flash Execute f.execute;
        legible = λ e. of_flash Read (sym aim.readable ∙ e);
        read = of_some Read IsStack w.ram v.ram_base v.ram aim.ram ram_long (λ h. h.0.read) ram;
        written = of_some Write IsStack w.ram v.ram_base v.ram aim.ram ram_long (λ h. h.1) ram;
        area_read = of_some Read (IsArea are.all.ram) w.area v.area_base v.area aim.area area_long (λ h. h.0.read) area;
        area_written = λ e. of_some Write (IsArea are.all.ram) w.area v.area_base v.area aim.area area_long (λ h. sym aim.writable ∙ e) area;
        second_read = of_some Read (IsSecond are.all.ram are.all.area) w.second v.second_base v.second aim.second second_long (λ h. h.0.read) second;
        second_written = λ e. of_some Write (IsSecond are.all.ram are.all.area) w.second v.second_base v.second aim.second second_long (λ h. sym aim.second_writable ∙ e) second;
        in_flash = rw (aim.flash, flash_long) (in_flash m (span_of w.flash) f.below opened.flash_there);
        in_ram = rw (aim.ram, ram_long) opened.ram_there;
        in_area = rw (aim.area, area_long) opened.area_there;
        in_second = rw (aim.second, second_long) opened.second_there;
        apart = rw (aim.ram, ram_long, aim.area, area_long) opened.area_apart.1;
        second_apart = rw (aim.ram, ram_long, aim.area, area_long, aim.second, second_long) (opened.second_apart.1, opened.second_apart.2);
        flash = rw (aim.flash, flash_long) refl;
        ram = rw (aim.ram, ram_long) refl;
        area = rw (aim.area, area_long) refl;
        second = rw (aim.second, second_long) refl;
      }

  pub whole_window : IsWholeWindow stops g c m pc sp v
  whole_window = record {
    is = window_of;
    regions = w;
    make = are;
    flash = (aim.flash, flash_long);
    stretch = aim.stretch;
    readable = aim.readable;
    ram = (aim.ram, ram_long);
    area = (aim.area, area_long);
    writable = aim.writable;
    second = (aim.second, second_long);
    second_writable = aim.second_writable;
  }

-- ## the kernel whose window was opened

set_twice : (s : State) (i : ℕ) (x y : Task) → with_task i y (with_task i x s) ≡ with_task i y s
unfolding with_task
set_twice s i x y = ap (λ (xs : List Task). record s { tasks = xs }) (set-set s.tasks i x y)

-- the turn that the kernel holds, n turns later with another memory and other devices
abbrev saved_later : Turn → Memory → List DeviceData → ℕ → Turn
saved_later saved m ds n = record saved { state = record saved.state { memory = m; devices = ds; turn = saved.state.turn + n } }

later_loaded : (saved : Turn) (cpu cpu' : Cpu) (m : Memory) (ds : List DeviceData) (n : ℕ) → saved.state.current < length saved.state.tasks →
    record (with_cpu cpu saved) { state = later record (with_cpu cpu saved).state { devices = ds } saved.state.current cpu' m n } ≡ with_cpu cpu' (saved_later saved m ds n)
unfolding with_processor with_task task_at
later_loaded saved cpu cpu' m ds n inside =
    let s = saved.state in
    let c = s.current in
    let x : Task = record (task_at s c) { registers = cpu.regs.words; flags = cpu.flags } in
    let y : Task → Task = λ z. record z { registers = cpu'.regs.words; flags = cpu'.flags } in
    ap (λ (z : Task). record saved { state = record (with_task c (y z) (with_task c x s)) { memory = m; devices = ds; turn = s.turn + n } }) (task_at-with_task s c x inside)
    ∙ ap (λ (z : State). record saved { state = record z { memory = m; devices = ds; turn = s.turn + n } }) (set_twice s c x (y x))

later_ready : (s : State) (m : Memory) (ds : List DeviceData) (n c : ℕ) → is_ready s c ≡ true → is_ready record s { memory = m; devices = ds; turn = n; current = c } c ≡ true
unfolding is_ready task_at call_of listen_of
later_ready s m ds n c h = h

-- no kernel keeps a device
holds_beside : (g : Setup) (k : Kernel) (t : Turn) (ds : List DeviceData) → Holds g k t → Holds g k record t { state = record t.state { devices = ds } }
unfolding with_devices
holds_beside g k t ds h = holds_devices g (kept_of k) t ds h

-- a memory where the three regions of the RAM have these bytes
abbrev written_over : Memory → WindowRegions → List ℕ → List ℕ → List ℕ → Memory
written_over m w xs ys zs = with_bytes (with_bytes (with_bytes m w.ram.base xs) w.area.base ys) w.second.base zs

pub lent_loaded : {X : Type 0} {H : X → Type 0} (shown : Shows X H) (g : Setup) (m : Machine X H) (r' : AddressSpace X H) (cpu' : Cpu) (c : ℕ) (t : Turn) (w : WindowRegions) (xs ys zs : List ℕ) (ds : List DeviceData) (n : ℕ) → HasContext shown g m c t → c < length t.state.tasks → data_of shown r'.devices ≡ ds →
    ((u : Turn) → Holds g m.space.kernel u → Holds g r'.kernel (with_current c (overlaid_all w.ram xs w.area ys w.second zs u))) → IsLoaded shown g r' cpu' record t { state = later record t.state { current = c; devices = ds } c cpu' (written_over t.state.memory w xs ys zs) n }
lent_loaded shown g m r' cpu' c t w xs ys zs ds n h inside same f =
    let cpu : Cpu = m.glider.runner.processor in
    let saved : Turn = with_current c h.saved in
    let now : Turn = with_current c t in
    let rest = rest_of saved now cpu h.is in
    let y : Memory = written_over saved.state.memory w xs ys zs in
    let there : c < length saved.state.tasks = rw rest.count at inside in
    let same_turn : record t { state = later record now.state { devices = ds } c cpu' (written_over t.state.memory w xs ys zs) n } ≡ with_cpu cpu' (saved_later saved y ds n) =
    ap (λ (u : Turn). record u { state = later record u.state { devices = ds } c cpu' (written_over t.state.memory w xs ys zs) n }) h.is
    ∙ ap (λ (z : Memory). record (with_cpu cpu saved) { state = later record (with_cpu cpu saved).state { devices = ds } c cpu' (written_over z w xs ys zs) n }) rest.memory
    ∙ later_loaded saved cpu cpu' y ds n there in
    record {
      saved = saved_later saved y ds n;
      holds = record { kernel = holds_beside g r'.kernel record saved { state = record saved.state { memory = y; turn = saved.state.turn + n } } ds (held (holds_turn g (kept_of r'.kernel) (with_current c (overlaid_all w.ram xs w.area ys w.second zs h.saved)) (saved.state.turn + n) (f h.saved h.holds.kernel))); devices = same };
      ready = later_ready h.saved.state y ds (saved.state.turn + n) c h.ready;
      is = same_turn;
    }
  where
    held : {u : Turn} → Holds g r'.kernel u → Holds g r'.kernel u
    held x = x

-- regions whose bytes are as they were
bytes_same : (m : Memory) (r : Region) (bytes : List ℕ) → IsInRam m (span_of r) → bytes ≡ bytes_of m (span_of r) → with_bytes m r.base bytes ≡ m
bytes_same m r bytes there is = ap (with_bytes m r.base) is ∙ written_same m r.base r.size there

pub lent_none : (g : Setup) (k k' : Kernel) (w : WindowRegions) (xs ys zs : List ℕ) → IsInRam (memory_of k) (span_of w.ram) → IsInRam (memory_of k) (span_of w.area) → IsInRam (memory_of k) (span_of w.second) →
    xs ≡ bytes_of (memory_of k) (span_of w.ram) → ys ≡ bytes_of (memory_of k) (span_of w.area) → zs ≡ bytes_of (memory_of k) (span_of w.second) →
    ((u : Turn) → Holds g k u → Holds g k' (overlaid_all w.ram xs w.area ys w.second zs u)) → (u : Turn) → Holds g k u → Holds g k' u
lent_none g k k' w xs ys zs ram area second is_ram is_area is_second f u h =
    let m : Memory = memory_of k in
    let whole : written_over u.state.memory w xs ys zs ≡ u.state.memory =
    ap (λ (y : Memory). written_over y w xs ys zs) (sym h.memory)
    ∙ ap (λ (y : Memory). with_bytes (with_bytes y w.area.base ys) w.second.base zs) (bytes_same m w.ram xs ram is_ram)
    ∙ ap (λ (y : Memory). with_bytes y w.second.base zs) (bytes_same m w.area ys area is_area)
    ∙ bytes_same m w.second zs second is_second
    ∙ h.memory in
    subst (λ (y : Memory). Holds g k' record u { state = record u.state { memory = y } }) whole (f u h)

-- ## what was done with a window

pub context_devices : {X : Type 0} {H : X → Type 0} (shown : Shows X H) (g : Setup) (m : Machine X H) (c : ℕ) (t : Turn) → HasContext shown g m c t → data_of shown m.space.devices ≡ t.state.devices
context_devices shown g m c t h = h.holds.devices ∙ sym (rest_of (with_current c h.saved) (with_current c t) m.glider.runner.processor h.is).devices

-- instructions on end over what a task sees, at most so many
pub record IsWork (g : Setup) (c : ℕ) (before left : View) (devices ds : List DeviceData) (from to : Cpu) (most made : ℕ) (calls : Bool) : Type 0 where
  pub polls : Polls (sight_by g c before devices) from made (sight_by g c left ds) to
  pub far : made < most → IsAtLimit (sight_by g c left ds) to
  pub tells : TellsCall most made before left to calls

-- where a task may read no device it sees its window alone
module _ (v : View) (ds : List DeviceData) where
  abbrev alone : Sight
  alone = record { view = v; devices = ds; io_regions = [] }

  beyond_alone : (a n : ℕ) (r : Right) → refused_at alone a n r ≡ None → (is_device a ≡ false) × (refused_by v a n r ≡ None)
  beyond_alone a n r = by (is_device a) (is_read r)
    where
      by : (b read : Bool) → cond b (given (read && false) a) (refused_by v a n r) ≡ None → (b ≡ false) × (refused_by v a n r ≡ None)
      by true true e = absurd cc
      by true false e = absurd cc
      by false read e = (refl, e)

  same_alone : (a n : ℕ) → is_device a ≡ false → held_at alone a n ≡ held_by v a n
  same_alone a n e = rw e refl

  wider_alone : WidensFetch (refused_at alone) (refused_by v) (held_at alone) (held_by v)
  wider_alone = record {
    widens = record { granted = λ a n r e. (beyond_alone a n r e).1; same = λ a n e. same_alone a n (beyond_alone a n Read e).0 };
    fetches = λ a e. same_alone a 2 (beyond_alone a 2 Execute e).0;
  }

  limit_alone : (c : Cpu) → Halts (step_effect (refused_by v) (held_by v) c) → Halts (step_effect (refused_at alone) (held_at alone) c)
  limit_alone c halts = by (step_effect (refused_at alone) (held_at alone) c) refl
    where
      by : (e : Effect) → step_effect (refused_at alone) (held_at alone) c ≡ e → Halts e
      by (Next d ms) is = absurd (subst (λ (x : Effect). Halts x) (step_wider (refused_at alone) (refused_by v) (held_at alone) (held_by v) wider_alone c d ms is) halts)
      by Syscall is = tt
      by (Trap f) is = tt

-- what the glider did
pub glider_work : (g : Setup) (c : ℕ) (a b : Glider) (flash ram area second after area_after second_after : List ℕ) (devices : List DeviceData) (from : Cpu) (most : ℕ) → io_regions_of g c ≡ [] → a.runner.processor ≡ from → a.most ≡ most → IsApart (lent_view a.runner.window flash ram area second) → HasWorked a flash ram area second b after area_after second_after →
    IsWork g c (lent_view a.runner.window flash ram area second) (lent_view a.runner.window flash after area_after second_after) devices devices from b.runner.processor most b.made b.at_syscall
glider_work g c a b flash ram area second after area_after second_after devices from most none own limit apart work =
    let v : View = lent_view a.runner.window flash ram area second in
    let w : View = lent_view a.runner.window flash after area_after second_after in
    subst (λ (k : ℕ). IsWork g c v w devices devices from b.runner.processor k b.made b.at_syscall) limit record {
      polls = subst (λ (x : Cpu). Polls (sight_by g c v devices) x b.made (sight_by g c w devices) b.runner.processor) own (glides_polls b.made _ _ _ _ devices (io_regions_of g c) work.glides);
      far = λ lt even. subst (λ (io_regions : List Region). Halts (step_effect (refused_at record { view = w; devices = devices; io_regions = io_regions }) (held_at record { view = w; devices = devices; io_regions = io_regions }) b.runner.processor)) (sym none) (limit_alone w devices b.runner.processor (work.far apart lt));
      tells = work.tells;
    }

-- what the poller did
pub poller_work : {X : Type 0} {H : X → Type 0} (shown : Shows X H) (g : Setup) (c : ℕ) (a b : Poller X H) (flash ram area second after area_after second_after : List ℕ) (devices : List DeviceData) (from : Cpu) (most : ℕ) → a.seen.io_regions.items ≡ io_regions_of g c → a.processor ≡ from → a.most ≡ most → data_of shown a.seen.devices ≡ devices → IsApart (lent_view a.seen.window flash ram area second) → HasPolled shown a flash ram area second b after area_after second_after →
    IsWork g c (lent_view a.seen.window flash ram area second) (lent_view a.seen.window flash after area_after second_after) devices (data_of shown b.seen.devices) from b.processor most b.made b.at_syscall
poller_work shown g c a b flash ram area second after area_after second_after devices from most io_regions own limit same apart work =
    let v : View = lent_view a.seen.window flash ram area second in
    let w : View = lent_view a.seen.window flash after area_after second_after in
    let e : List DeviceData = data_of shown b.seen.devices in
    subst (λ (k : ℕ). IsWork g c v w devices e from b.processor k b.made b.at_syscall) limit record {
      polls =
          subst (λ (x : Cpu). Polls (sight_by g c v devices) x b.made (sight_by g c w e) b.processor) own
          (subst (λ (ds : List DeviceData). Polls (sight_by g c v ds) a.processor b.made (sight_by g c w e) b.processor) same
          (subst (λ (rs : List Region). Polls record { view = v; devices = data_of shown a.seen.devices; io_regions = rs } a.processor b.made record { view = w; devices = e; io_regions = rs } b.processor) io_regions work.polls));
      far = λ lt. subst (λ (rs : List Region). IsAtLimit record { view = w; devices = e; io_regions = rs } b.processor) io_regions (work.far apart lt);
      tells = work.tells;
    }

-- the devices show what they showed, and the kernel stands for what it stood for
same_shown : {X : Type 0} {H : X → Type 0} (shown : Shows X H) (loaded : Bool) (g : Setup) (r r' : AddressSpace X H) (cpu : Cpu) (t : Turn) → data_of shown r'.devices ≡ data_of shown r.devices → ((u : Turn) → Holds g r.kernel u → Holds g r'.kernel u) → HoldsBy shown loaded g r cpu t → HoldsBy shown loaded g r' cpu t
same_shown shown true g r r' cpu t same f h = record { saved = h.saved; holds = record { kernel = f h.saved h.holds.kernel; devices = same ∙ h.holds.devices }; ready = h.ready; is = h.is }
same_shown shown false g r r' cpu t same f h = record { kernel = f t h.kernel; devices = same ∙ h.devices }

-- a window of a task was opened for somebody who has the task's processor, and did such work in it
module _ {X : Type 0} {H : X → Type 0} (shown : Shows X H) (stops : Stops) (g : Setup) (m : Machine X H) (task most : ℕ) (t : Turn) (w : WindowRegions) (pc sp : ℕ) {B : Type 0} (did : Doing B) (user user' : B) (a : Window) (k' : Kernel)
    (h : HasContext shown g m task t) (inside : task < length t.state.tasks) (reached : MakeWindow stops.watched (setup_at (setup_of m.space.kernel) task).regions pc sp w)
    (pc_is : pc ≡ register t.state task program_counter) (sp_is : sp ≡ register t.state task stack_pointer) (aim : IsAimed stops.breakpoints pc w a)
    (opened : IsWindowOpened did m.space.kernel w.flash w.ram w.area w.second user user' k') where
  abbrev old : Memory
  old = memory_of m.space.kernel

  abbrev pub before : View
  before = lent_view a (bytes_of old (span_of w.flash)) (bytes_of old (span_of w.ram)) (bytes_of old (span_of w.area)) (bytes_of old (span_of w.second))

  abbrev pub left : View
  left = lent_view a (bytes_of old (span_of w.flash)) opened.window.after opened.window.area_after opened.window.second_after

  are : MakeWindow stops.watched (setup_at g task).regions pc sp w
  are = let P : Setup → Type 0 = λ x. MakeWindow stops.watched (setup_at x task).regions pc sp w in subst P h.holds.kernel.setup reached

  whole_here : IsWholeWindow stops g task t.state.memory (register t.state task program_counter) (register t.state task stack_pointer) before
  whole_here =
      let W : Memory → Type 0 = λ y. IsWholeWindow stops g task y pc sp before in
      let P : ℕ → Type 0 = λ at. IsWholeWindow stops g task t.state.memory at sp before in
      let S : ℕ → Type 0 = λ at. IsWholeWindow stops g task t.state.memory (register t.state task program_counter) at before in
      subst S sp_is (subst P pc_is (subst W (context_memory shown g m task t h) (whole_window stops g task old pc sp w a are aim did user user' (memory_of k') opened.window)))

  pub apart_here : IsApart before
  apart_here = is_apart stops g task old pc sp w a are aim did user user' (memory_of k') opened.window

  -- instructions were made: the task is the current one from now on
  pub has_run : (ds : List DeviceData) (cpu : Cpu) (made : ℕ) (calls : Bool) → IsWork g task before left t.state.devices ds (cpu_of (task_at t.state task)) cpu most made calls →
      (m' : Machine X H) → 0 < made → m'.loaded ≡ true → m'.glider.runner.processor ≡ cpu → data_of shown m'.space.devices ≡ ds → ((u : Turn) → Holds g k' u → Holds g m'.space.kernel (with_current task u)) → IsGlided shown stops g m' task t most made calls
  has_run ds cpu made calls work m' some loaded processor same f =
      let xs : List ℕ = opened.window.after in
      let ys : List ℕ = opened.window.area_after in
      let zs : List ℕ = opened.window.second_after in
      let L : Memory → Type 0 = λ y. IsLoaded shown g m'.space m'.glider.runner.processor record t { state = later record t.state { current = task; devices = ds } task m'.glider.runner.processor y made } in
      let places : written_over t.state.memory w xs ys zs ≡ with_window t.state.memory before left = rw (aim.ram, aim.area, aim.second) refl in
      record {
        window = before;
        after = left;
        devices = ds;
        whole = whole_here;
        polls = subst (λ (y : Cpu). Polls (sight_by g task before t.state.devices) (cpu_of (task_at t.state task)) made (sight_by g task left ds) y) (sym processor) work.polls;
        far = λ lt. subst (λ (y : Cpu). IsAtLimit (sight_by g task left ds) y) (sym processor) (work.far lt);
        apart = apart_here;
        tells = subst (λ (y : Cpu). TellsCall most made before left y calls) (sym processor) work.tells;
        stays = λ none. absurd (omega (arith, some, none));
        goes = λ lt. loaded_by shown m'.loaded g m'.space m'.glider.runner.processor _ loaded (subst L places (lent_loaded shown g m m'.space m'.glider.runner.processor task t w xs ys zs ds made h inside same (λ u held. f (overlaid_all w.ram xs w.area ys w.second zs u) (opened.holds g u held))));
      }

  -- a sight that is left as it was
  none_here : (ds : List DeviceData) (cpu : Cpu) → Polls (sight_by g task before t.state.devices) (cpu_of (task_at t.state task)) 0 (sight_by g task left ds) cpu → (sight_by g task left ds ≡ sight_by g task before t.state.devices) × (cpu ≡ m.glider.runner.processor) × (ds ≡ data_of shown m.space.devices)
  none_here ds cpu e = (e.0, e.1 ∙ sym (context_cpu shown g m task t h inside), ap (λ (o : Sight). o.devices) e.0 ∙ sym (context_devices shown g m task t h))

  -- none was made: all is as it was
  pub has_stayed : (ds : List DeviceData) (cpu : Cpu) (made : ℕ) (calls : Bool) → IsWork g task before left t.state.devices ds (cpu_of (task_at t.state task)) cpu most made calls →
      (m' : Machine X H) → made ≡ 0 → m'.loaded ≡ m.loaded → m'.glider.runner.processor ≡ cpu → m'.space.kernel ≡ k' → data_of shown m'.space.devices ≡ ds → MachineHolds shown g m t → IsGlided shown stops g m' task t most made calls
  has_stayed ds cpu made calls work m' none loaded processor kernel devices holds =
      let N : ℕ → Type 0 = λ n. Polls (sight_by g task before t.state.devices) (cpu_of (task_at t.state task)) n (sight_by g task left ds) cpu in
      let same = none_here ds cpu (subst N none work.polls) in
      let kept : m'.glider.runner.processor ≡ m.glider.runner.processor = processor ∙ same.1 in
      let o = opened.window in
      let f = lent_none g m.space.kernel k' w o.after o.area_after o.second_after o.ram_there o.area_there o.second_there (ap (λ (s : Sight). s.view.ram) same.0) (ap (λ (s : Sight). s.view.area) same.0) (ap (λ (s : Sight). s.view.second) same.0) (opened.holds g) in
      let K : (u : Turn) → Holds g m.space.kernel u → Holds g m'.space.kernel u = λ u held. subst (λ (k : Kernel). Holds g k u) (sym kernel) (f u held) in
      record {
        window = before;
        after = left;
        devices = ds;
        whole = whole_here;
        polls = subst (λ (y : Cpu). Polls (sight_by g task before t.state.devices) (cpu_of (task_at t.state task)) made (sight_by g task left ds) y) (sym processor) work.polls;
        far = λ lt. subst (λ (y : Cpu). IsAtLimit (sight_by g task left ds) y) (sym processor) (work.far lt);
        apart = apart_here;
        tells = subst (λ (y : Cpu). TellsCall most made before left y calls) (sym processor) work.tells;
        stays = λ e. rw (loaded, kept) (same_shown shown m.loaded g m.space m'.space m.glider.runner.processor t (devices ∙ same.2) K holds);
        goes = λ lt. absurd (omega (arith, lt, none));
      }

-- ## the board

-- what is due later is still due, and next, some turns later
due_later_on : (script : ScriptData) (turn n : ℕ) (due : Option ℕ) → IsNext script turn due → ((k : ℕ) → k < n → due ≢ Some (turn + k)) → IsNext script (turn + n) due
due_later_on script turn zero due next ne = let e : turn ≡ turn + 0 = omega arith in subst (λ (k : ℕ). IsNext script k due) e next
due_later_on script turn (suc n) due next ne =
    let before = due_later_on script turn n due next (λ k lt. ne k (omega (arith, lt))) in
    let e : turn + n + 1 ≡ turn + suc n = omega arith in
    subst (λ (k : ℕ). IsNext script k due) e (due_later script (turn + n) due before (ne n (omega arith)))

-- ## turns on end of the task that is chosen

-- a board after n turns within a window, and why there were no more
pub record IsMade {X : Type 0} {H : X → Type 0} (shown : Shows X H) (stops : Stops) (x : Scenario) (u : State) (task until : ℕ) (b b' : Board X H) (calls : Bool) : Type 0 where
  pub glidden : HasGlidden shown stops x u (turns_of b' - turns_of b) b'
  pub far : turns_of b' < until → MustStop stops x.setup task (register u task program_counter) (register u task stack_pointer) (state_after Calls x (turns_of b' - turns_of b) u) calls
  pub call : calls ≡ true → IsCallPast stops x (state_after Calls x (turns_of b' - turns_of b) u) task
  pub before : calls ≡ true → turns_of b' < until

-- PC is even
even_there : (g : Setup) (c : ℕ) (s : State) → Sane g s → c < length s.tasks → reg_at (cpu_of (task_at s c)).regs program_counter % 2 ≡ 0
even_there g c s sane inside = (whole_cpu {g = g} c record { state = s; notes = []; writes = []; reads = [] } sane inside).even

-- where a window fetches there is no breakpoint
not_hit : (breakpoints : List ℕ) (base size pc c : ℕ) (v : View) (t : Turned) → IsStretch breakpoints base size pc v.code_base v.code_size → IsFetchedIn v c t → is_hit breakpoints t ≡ false
not_hit breakpoints base size pc c v Idle s h = absurd h
not_hit breakpoints base size pc c v (Ran task at) s h = let i = in_stretch v at 2 h.1 in s.free at i.0 (omega (arith, i.1))

module _ {X : Type 0} {H : X → Type 0} (shown : Shows X H) (stops : Stops) (x : Scenario) (u : State) (b : Board X H) (m : Machine X H) (task most n until : ℕ) (calls : Bool)
    (st : Stands shown x b u) (next : b.choice.next ≡ Some task) (up : b.choice.down ≡ false)
    (few : until ≤ 1000000000) (within : turns_of b + n ≤ until) (later_due : (turn : ℕ) → turn < until → b.due ≢ Some turn)
    (none : kernel_notes m.space.kernel ≡ []) where
  nothing : (k : ℕ) → k < n → events_of x.script (u.turn + k) ≡ []
  nothing k lt = let e = st.holds.turns in quiet_before x.script u.turn until b.due st.holds.due later_due few (u.turn + k) (omega arith) (omega (arith, e, lt, within))

  is_chosen : chosen x.setup u ≡ Some task
  is_chosen = sym st.holds.choice.next ∙ next

  -- none was made
  stayed : n ≡ 0 → MachineHolds shown x.setup m (rested b.machine u) → HasGlidden shown stops x u n record b { machine = m; turns = turns_of b + n }
  unfolding state_after
  stayed zero_is h =
      rw zero_is record {
        stands = record {
          holds = record {
            machine = rested_as shown x.setup b.machine m u h;
            turns = let a = st.holds.turns in omega (arith, a);
            choice = st.holds.choice;
            script = st.holds.script;
            due = st.holds.due;
            io_regions = st.holds.io_regions;
          };
          sane = st.sane;
          counted = st.counted;
        };
        nothing = λ k lt. absurd (omega (arith, lt));
        goes_on = λ k lt. absurd (omega (arith, lt));
        past = λ k lt. absurd (omega (arith, lt));
        untouched = λ k at lt is. absurd (omega (arith, lt));
        notes = λ lt. none;
      }

  -- what the task sees
  seen : (h : IsGlided shown stops x.setup m task (rested b.machine u) most n calls) → IsSight x.setup task u (sight_by x.setup task h.window u.devices)
  seen h = record { window = h.whole.is; devices = refl; io_regions = own_ports x.setup task }

  turns_are : (h : IsGlided shown stops x.setup m task (rested b.machine u) most n calls) → AreTurns x u task (sight_by x.setup task h.window u.devices) n (sight_by x.setup task h.after h.devices) m.glider.runner.processor
  turns_are h = are_turns x u task (sight_by x.setup task h.window u.devices) st.sane is_chosen (seen h) n (sight_by x.setup task h.after h.devices) m.glider.runner.processor nothing h.polls

  left_is : (h : IsGlided shown stops x.setup m task (rested b.machine u) most n calls) → IsLeft x u task (sight_by x.setup task h.window u.devices) n (sight_by x.setup task h.after h.devices) m.glider.runner.processor
  left_is h = seen_then x u task (sight_by x.setup task h.window u.devices) st.sane is_chosen (seen h) n (sight_by x.setup task h.after h.devices) m.glider.runner.processor nothing h.polls

  -- what the machine holds then
  held_after : (h : IsGlided shown stops x.setup m task (rested b.machine u) most n calls) → MachineHolds shown x.setup m (rested b.machine (state_after Calls x n u))
  unfolding state_after
  held_after h = by n refl h.stays h.goes (turns_are h).state
    where
      by : (k : ℕ) → k ≡ n → (k ≡ 0 → MachineHolds shown x.setup m (rested b.machine u)) → (0 < k → MachineHolds shown x.setup m (rested b.machine (later record u { current = task; devices = h.devices } task m.glider.runner.processor (with_window u.memory h.window h.after) k))) → state_after Calls x k u ≡ later record u { current = runner k task u.current; devices = h.devices } task m.glider.runner.processor (with_window u.memory h.window h.after) k →
          MachineHolds shown x.setup m (rested b.machine (state_after Calls x k u))
      by zero e stays goes is = stays refl
      by (suc k) e stays goes is = subst (λ (y : State). MachineHolds shown x.setup m (rested b.machine y)) (sym is) (goes (omega arith))

  -- a window has no byte that is watched
  beside_watched : (v : View) (at : ℕ) → (w : IsWholeWindow stops x.setup task u.memory (register u task program_counter) (register u task stack_pointer) v) → stops.watched ≡ Some at → IsBeside v at
  beside_watched v at w is = (
    clear v.ram_base v.ram w.regions.ram w.make.all.ram w.ram (ap (λ (r : WindowRegions). r.ram) w.make.is),
    clear v.area_base v.area w.regions.area w.make.all.area w.area (ap (λ (r : WindowRegions). r.area) w.make.is),
    clear v.second_base v.second w.regions.second w.make.all.second w.second (ap (λ (r : WindowRegions). r.second) w.make.is),
  )
    where
      clear : (base : ℕ) (bytes : List ℕ) (u r : Region) → IsAllOf base bytes u → u ≡ unwatched stops.watched r → IsBeyond base bytes at
      clear base bytes u r all e = beyond base bytes at u r all (subst (λ (o : Option ℕ). u ≡ unwatched o r) is e)

  made : IsGlided shown stops x.setup m task (rested b.machine u) most n calls → HasGlidden shown stops x u n record b { machine = m; turns = turns_of b + n }
  unfolding ending state_after
  made h =
      let are = turns_are h in
      let v : State = state_after Calls x n u in
      let turns : v.turn ≡ u.turn + n = ap (λ (y : State). y.turn) are.state in
      let a = st.holds.turns in
      record {
        stands = record {
          holds = record {
            machine = rested_as shown x.setup b.machine m v (held_after h);
            turns = omega (arith, a, turns);
            choice = record {
              next = st.holds.choice.next ∙ is_chosen ∙ sym (are.chosen n (omega arith));
              order = st.holds.choice.order;
              ready = record {
                ordered = st.holds.choice.ready.ordered;
                each = λ i there. st.holds.choice.ready.each i there ∙ sym (are.ready i);
              };
              down = st.holds.choice.down ∙ sym (are.down n (omega arith));
            };
            script = st.holds.script;
            due = subst (λ (k : ℕ). IsNext x.script k b.due) (sym turns) (due_later_on x.script u.turn n b.due st.holds.due (λ k lt. later_due (u.turn + k) (omega (arith, a, lt, within))));
            io_regions = st.holds.io_regions;
          };
          sane = are.sane;
          counted = are.counted st.counted;
        };
        nothing = are.silent;
        past = λ k lt. not_hit stops.breakpoints h.whole.regions.flash.base h.whole.regions.flash.size (register u task program_counter) task h.window (turned x (state_after Calls x k u)) h.whole.stretch (are.ran k lt);
        untouched = λ k at lt is. are.beside (suc k) at (omega (arith, lt)) (beside_watched h.window at h.whole is);
        goes_on = λ k lt. goes_at (suc k) (are.chosen (suc k) (omega (arith, lt))) (are.down (suc k) (omega (arith, lt)));
        notes = λ lt. none;
      }
    where
      goes_at : (k : ℕ) → chosen x.setup (state_after Calls x k u) ≡ Some task → is_down (state_after Calls x k u) ≡ is_down u → ending x 1 (state_after Calls x k u) ≡ None
      goes_at k some same =
          let down : is_down (state_after Calls x k u) ≡ false = same ∙ sym st.holds.choice.down ∙ up in
          rw (down, some) refl

  has_glidden : HasGlided shown stops x.setup m task (rested b.machine u) most n calls → HasGlidden shown stops x u n record b { machine = m; turns = turns_of b + n }
  has_glidden (inl h) = made h
  has_glidden (inr h) = stayed h.none h.holds

  stretch_still : (w : View) (h : IsGlided shown stops x.setup m task (rested b.machine u) most n calls) → Keeps h.window w → IsStretch stops.breakpoints h.whole.regions.flash.base h.whole.regions.flash.size (register u task program_counter) w.code_base w.code_size
  stretch_still w h same = rw (same.code_base, same.code_size) h.whole.stretch

  -- the window that is left is of the same regions
  at_end : (h : IsGlided shown stops x.setup m task (rested b.machine u) most n calls) → n < most → IsAtEnd stops x.setup task (register u task program_counter) (register u task stack_pointer) (state_after Calls x n u) calls
  at_end h lt =
      let left = left_is h in
      let same = left.keeps in
      let v : State = state_after Calls x n u in
      let p : Sight = sight_by x.setup task h.after h.devices in
      let even = even_there x.setup task v (turns_are h).sane (chosen_is v task (turns_are h).sane ((turns_are h).chosen n (omega arith))).inside in
      let halts : Halts (step_effect (refused_at p) (held_at p) (cpu_of (task_at v task))) = subst (λ (d : Cpu). IsAtLimit p d) (sym left.processor) (h.far lt) even in
      record {
        window = h.after;
        whole = record {
          is = left.sight.window;
          regions = h.whole.regions;
          make = h.whole.make;
          flash = (same.flash_base ∙ h.whole.flash.0, ap (λ (xs : List ℕ). length xs) same.flash ∙ h.whole.flash.1);
          stretch = stretch_still h.after h same;
          readable = same.readable ∙ h.whole.readable;
          ram = (same.ram_base ∙ h.whole.ram.0, same.size ∙ h.whole.ram.1);
          area = (same.area_base ∙ h.whole.area.0, same.area_size ∙ h.whole.area.1);
          writable = same.area_writable ∙ h.whole.writable;
          second = (same.second_base ∙ h.whole.second.0, same.second_size ∙ h.whole.second.1);
          second_writable = same.second_writable ∙ h.whole.second_writable;
        };
        halts = subst (λ (ds : List DeviceData). Halts (step_effect (refused_at (sight_by x.setup task h.after ds)) (held_at (sight_by x.setup task h.after ds)) (cpu_of (task_at v task)))) left.sight.devices halts;
        told = h.tells.told h.apart lt ∙ ap (is_at_syscall h.after) (sym left.processor);
      }

  must_stop : HasGlided shown stops x.setup m task (rested b.machine u) most n calls → n < most → MustStop stops x.setup task (register u task program_counter) (register u task stack_pointer) (state_after Calls x n u) calls
  unfolding state_after
  must_stop (inl h) lt = inl (at_end h lt)
  must_stop (inr h) lt = inr (rw h.none h.beyond, h.no_call)

  -- at a system call there are fewer than there may be
  is_short : HasGlided shown stops x.setup m task (rested b.machine u) most n calls → calls ≡ true → n < most
  is_short (inl h) e = h.tells.short e
  is_short (inr h) e = absurd (false≢true (sym h.no_call ∙ e))

  -- at a system call the next turn is that call
  is_call : HasGlided shown stops x.setup m task (rested b.machine u) most n calls → turns_of b + most ≡ until → calls ≡ true → IsCallPast stops x (state_after Calls x n u) task
  unfolding register
  is_call (inl h) all e =
      let are = turns_are h in
      let v : State = state_after Calls x n u in
      let left = left_is h in
      let call = h.tells.calling e in
      let turns : v.turn ≡ u.turn + n = ap (λ (y : State). y.turn) are.state in
      let wide = fetched_wider (refused_by h.after) (refusals x.setup task) (held_by h.after) (held v) (widens x.setup task v h.after left.sight.window are.sane.steady.placed) (reg_at m.glider.runner.processor.regs 15) _ call.is in
      let quiet : events_of x.script v.turn ≡ [] = ap (events_of x.script) turns ∙ (let at = st.holds.turns in let lt = h.tells.short e in quiet_before x.script u.turn until b.due st.holds.due later_due few (u.turn + n) (omega arith) (omega (arith, at, lt, all))) in
      let there : IsFetchedIn h.after task (turned x v) = fetched_there x v task h.after m.glider.runner.processor (are.chosen n (omega arith)) quiet left.processor (fetched_from h.after (reg_at m.glider.runner.processor.regs 15) _ call.is) in
      record {
        call = record {
          chosen = are.chosen n (omega arith);
          nothing = quiet;
          calling = record {
            value = call.value;
            code = call.code;
            is = subst (λ (d : Cpu). fetched (refusals x.setup task) (held v) (reg_at d.regs 15) ≡ Ok record { insn = Svc call.value; code = call.code }) (sym left.processor) wide;
          };
        };
        past = not_hit stops.breakpoints h.whole.regions.flash.base h.whole.regions.flash.size (register u task program_counter) task h.after (turned x v) (stretch_still h.after h left.keeps) there;
      }
  is_call (inr h) all e = absurd (false≢true (sym h.no_call ∙ e))

-- the same of a board once its machine's turn has begun
pub made_by : {X : Type 0} {H : X → Type 0} (shown : Shows X H) (stops : Stops) (x : Scenario) (u : State) (b : Board X H) (m m' : Machine X H) (task n until : ℕ) (calls : Bool) → Stands shown x b u → MachineHolds shown x.setup m (begun u) → b.choice.next ≡ Some task → b.choice.down ≡ false → until ≤ 1000000000 →
    turns_of b < until → n ≤ until - turns_of b → ((turn : ℕ) → turn < until → b.due ≢ Some turn) → note_count m'.space.kernel ≡ note_count m.space.kernel →
    ((t : Turn) → MachineStands shown x.setup m t → task < length t.state.tasks → is_ready t.state task ≡ true → HasGlided shown stops x.setup m' task t (until - turns_of b) n calls) → IsMade shown stops x u task until b record b { machine = m'; turns = turns_of b + n } calls
made_by {X} {H} shown stops x u b0 m m' task n until calls st0 holds next up few left within later_due count glided =
    let b : Board X H = record b0 { machine = m } in
    let b' : Board X H = record b0 { machine = m'; turns = turns_of b0 + n } in
    let st : Stands shown x b u = begun_board shown x u b0 m st0 holds in
    let none : kernel_notes m'.space.kernel ≡ [] = none_of m m' (quiet_begun shown x u m holds) count in
    let over : turns_of b0 + n ≤ until = omega (arith, left, within) in
    let most : ℕ = until - turns_of b0 in
    let is = chosen_is u task st.sane (sym st.holds.choice.next ∙ next) in
    let h = glided (rested m u) record { holds = st.holds.machine; sane = st.sane } is.inside is.ready in
    let e : n ≡ turns_of b0 + n - turns_of b0 = omega arith in
    record {
      glidden = subst (λ (k : ℕ). HasGlidden shown stops x u k b') e (has_glidden shown stops x u b m' task most n until calls st next up few over later_due none h);
      far = λ lt.
          let stop = must_stop shown stops x u b m' task most n until calls st next up few over later_due none h (omega (arith, lt)) in
          subst (λ (k : ℕ). MustStop stops x.setup task (register u task program_counter) (register u task stack_pointer) (state_after Calls x k u) calls) e stop;
      call = λ yes. subst (λ (k : ℕ). IsCallPast stops x (state_after Calls x k u) task) e (is_call shown stops x u b m' task most n until calls st next up few over later_due none h (omega (arith, left)) yes);
      before = λ yes. let short = is_short shown stops x u b m' task most n until calls st next up few over later_due none h yes in omega (arith, left, short);
    }

-- ## the ports of a board

pub no_list : (v : Vec Region Global) → true ≡ eqb (vec_len v) 0 → v.items ≡ []
no_list v e = nil_from_length v.items (sym v.ok.0 ∙ eqb-true (vec_len v) 0 (sym e))

module _ {X : Type 0} {H : X → Type 0} (shown : Shows X H) (x : Scenario) (s : State) (b : Board X H) (st : Stands shown x b s) where
  -- there is a list for each task
  pub ports_inside : (c : ℕ) → c < length s.tasks → c < vec_len b.io_regions
  ports_inside c inside = let long = b.io_regions.ok.0 in let all = st.holds.io_regions.count in let same = length-map b.io_regions.items vec_items in let many = st.sane.steady.as_many in omega (arith, long, all, same, many, inside)

  pub own_list : (c : ℕ) (v d : Vec Region Global) → c < length s.tasks → v ≡ get_or b.io_regions.items c d → v.items ≡ io_regions_of x.setup c
  own_list c v d inside is = let long = b.io_regions.ok.0 in let in_len = ports_inside c inside in let lt : c < length b.io_regions.items = omega (arith, in_len, long) in let many = st.sane.steady.as_many in ap vec_items is ∙ sym (get_or-map vec_items b.io_regions.items c d [] lt) ∙ st.holds.io_regions.each c (omega (arith, many, inside))

pub glidden_ports : {X : Type 0} {H : X → Type 0} (shown : Shows X H) (stops : Stops) (x : Scenario) (s : State) (n : ℕ) (b : Board X H) (p : Vec (Vec Region Global) Global) → HasGlidden shown stops x s n b → AllIoRegions x.setup (map vec_items p.items) → HasGlidden shown stops x s n record b { io_regions = p }
glidden_ports shown stops x s n b p h io_regions = record {
  stands = record {
    holds = record {
      machine = h.stands.holds.machine;
      turns = h.stands.holds.turns;
      choice = h.stands.holds.choice;
      script = h.stands.holds.script;
      due = h.stands.holds.due;
      io_regions = io_regions;
    };
    sane = h.stands.sane;
    counted = h.stands.counted;
  };
  nothing = h.nothing;
  goes_on = h.goes_on;
  past = h.past;
  untouched = h.untouched;
  notes = h.notes;
}
