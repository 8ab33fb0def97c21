-- Instructions on end over what a task sees are its turns.
use Rattle.std.proofs.Common.{◌≡◌, ◌+◌, ◌≤◌, ◌<◌, ℕ, zero, suc, Bool, true, false, ◌&&◌, cond, List, [], ◌∷◌, length, Some, None, refl, sym, ◌∙◌, ap, subst, arith, ltb, inl, inr, ◌⊎◌, set, get_or}
use Rattle.std.specs.Prelude.{fold, Contains, Result, Ok, Err}
use Rattle.std.proofs.lemmas.Bool.{ltb-true, ltb-false, false≢true, and_parts}
use Rattle.std.proofs.lemmas.List.{set-set, set-get_or}
use Rattle.kernel_abi.specs.declared.Fault.{Fault}
use Rattle.kernel_abi.specs.Devices.{DeviceData, device_number, devices_loaded}
use Rattle.region_check.specs.declared.Region.{Region}
use Rattle.region_check.specs.declared.Right.{Right}
use Rattle.region_check.specs.declared.Right.TheVariants.{Read, Write, Execute}
use Rattle.run_script.specs.Scripts.{events_of}
use Rattle.mem_banks.specs.Memory.{Memory, byte_at}
use Rattle.thumb_exec.specs.declared.cpu.Cpu.{Cpu}
use Rattle.thumb_exec.specs.Effect.{Next, Move, Puts, Takes}
use Rattle.thumb_exec.specs.declared.fetch.Fetched.{Fetched}
use Rattle.thumb_exec.specs.Fetch.{WidensFetch, unless_barred, fetched, fetched_by, executed as executed_by, step_effect}
use Rattle.thumb_step.proofs.Widening.{step_wider}
use Rattle.thumb_step.specs.Windows.{View, has_code, given, refused_by, put as lands, Keeps, IsInside, AreInside}
use Rattle.thumb_step.proofs.Gliding.{kept, kept_on, went_from}
use Rattle.words_core.specs.Regs.{reg_at}
use Rattle.task_table.specs.model.Placed.{ArePlaced}
use Rattle.task_table.specs.model.State.{Setup, State, Task, Turn}
use Rattle.task_table.specs.model.Reading.{task_at, register, chosen, is_ready, no_task}
use Rattle.task_table.specs.model.Effects.{with_task, with_processor, with_devices, device_taken}
use Rattle.task_table.specs.model.Start.{begun}
use Rattle.task_table.specs.model.Sane.{Sane, IsCounted}
use Rattle.task_table.proofs.model.Changes.{task_at-with_task}
use Rattle.board_model.specs.declared.outcomes.Level.TheVariants.{Calls}
use Rattle.board_model.specs.Script.{Scenario}
use Rattle.board_model.specs.Turn.{refusals, is_device, or_zero, held, cpu_of, took, moved, acted, stepped, after_events, turn, turned, ended}
use Rattle.board_model.specs.Run.{is_down, turn_after, state_after}
use Rattle.board_model.proofs.Held.{held_in_memory}
use Rattle.board_model.proofs.TurnChains.{chosen_is, sane-after}
use Rattle.board_model.proofs.Stepping.{moves_state}
use Rattle.board_model.proofs.Outside.{no_event, begun_state}
use Rattle.board_model.proofs.Quiet.{quiet-turn}
use Rattle.board_model.proofs.Counts.{counted_turn}
use Rattle.board_model.proofs.Further.{last_turn}
use Rattle.board_core.specs.fast.Sights.{Sight, is_read, in_io_region, refused_at, held_at, moved_at, GoesOnWithin, GoesOnBeside, Polls}
use Rattle.board_core.specs.fast.Windowed.{IsSight, IsBeside, IsFetchedIn, runner, later, with_window, AreTurns}
use Rattle.board_core.proofs.fast.WindowCovers.{all_there, granted, held_same, fetched_same}
use Rattle.board_core.proofs.fast.IoRegions.{read_there}
use Rattle.board_core.proofs.fast.WindowTurns.{carried_next, first_inside, rest_inside, move_keeps, HasPlaces, places_of, places_on, own_memory, own_again, own_same, own_beside, beside_still, one_put, window_again, plain_turn, acted_notes, one_turn, fetched_there, code_still}

-- ## what a task sees it may use so

module _ (g : Setup) (c : ℕ) (s : State) (o : Sight) (sight : IsSight g c s o) (placed : ArePlaced g s.memory) where
  granted_at : (a n : ℕ) (r : Right) → refused_at o a n r ≡ None → refusals g c a n r ≡ None
  granted_at a n r e = by (is_device a) e
    where
      read : (r : Right) → is_read r ≡ true → in_io_region o.io_regions a n ≡ true → refusals g c a n r ≡ None
      read Read h there = read_there g c o.io_regions sight.io_regions a n there
      read Write h there = absurd (false≢true h)
      read Execute h there = absurd (false≢true h)

      by : (b : Bool) → cond b (given (is_read r && in_io_region o.io_regions a n) a) (refused_by o.view a n r) ≡ None → refusals g c a n r ≡ None
      by true e = let two = and_parts _ _ (all_there _ a e) in read r two.0 two.1
      by false e = granted g c s.memory o.view sight.window a n r e

  held_there : (a n : ℕ) → or_zero (device_number o.devices a n) ≡ or_zero (device_number s.devices a n)
  held_there a n = ap (λ (ds : List DeviceData). or_zero (device_number ds a n)) sight.devices

  same_at : (a n : ℕ) → refused_at o a n Read ≡ None → held_at o a n ≡ held s a n
  same_at a n e = by (is_device a) refl e
    where
      by : (b : Bool) → is_device a ≡ b → cond b (given (true && in_io_region o.io_regions a n) a) (refused_by o.view a n Read) ≡ None → held_at o a n ≡ held s a n
      by true is e = rw is (held_there a n)
      by false is e = rw is (held_same g c s o.view sight.window placed a n e ∙ held_in_memory s a n is)

  fetches_at : (a : ℕ) → refused_at o a 2 Execute ≡ None → held_at o a 2 ≡ held s a 2
  fetches_at a e = by (is_device a) refl e
    where
      by : (b : Bool) → is_device a ≡ b → cond b (given (false && in_io_region o.io_regions a 2) a) (refused_by o.view a 2 Execute) ≡ None → held_at o a 2 ≡ held s a 2
      by true is e = absurd cc
      by false is e = rw is (fetched_same g c s o.view sight.window placed a e ∙ held_in_memory s a 2 is)

  widens_at : WidensFetch (refused_at o) (refusals g c) (held_at o) (held s)
  widens_at = record { widens = record { granted = granted_at; same = same_at }; fetches = fetches_at }

module _ (g : Setup) (c : ℕ) (t : Turn) (o p : Sight) (d : Cpu) (sight : IsSight g c t.state o) (placed : ArePlaced g t.state.memory) (on : GoesOnBeside o (cpu_of (task_at t.state c)) p d) where
  wide_at : step_effect (refusals g c) (held t.state) (cpu_of (task_at t.state c)) ≡ Next d on.moves
  wide_at = step_wider (refused_at o) (refusals g c) (held_at o) (held t.state) (widens_at g c t.state o sight placed) (cpu_of (task_at t.state c)) d on.moves on.effect

  pub stepped_beside : stepped Calls g c t ≡ acted g c (Next d on.moves) t
  unfolding stepped register
  stepped_beside =
      let at : ℕ = reg_at (cpu_of (task_at t.state c)).regs 15 in
      carried_next g c t at d on.moves (fetched (refusals g c) (held t.state) at) wide_at

-- ## its moves

-- what moves come to: such a memory, such devices, and the notes that there were
record HasSeen (m : Memory) (ds : List DeviceData) (t u : Turn) : Type 0 where
  memory : u.state.memory ≡ m
  devices : u.state.devices ≡ ds
  notes : u.notes ≡ t.notes

taken_there : (t : Turn) (a : ℕ) (ds : List DeviceData) → t.state.devices ≡ ds → HasSeen t.state.memory (devices_loaded ds a) t (device_taken a t)
unfolding device_taken with_devices
taken_there t a ds is = record { memory = refl; devices = ap (λ (xs : List DeviceData). devices_loaded xs a) is; notes = refl }

took_at : (m : Memory) (o : Sight) (t : Turn) (a n : ℕ) → t.state.memory ≡ own_memory m o.view → t.state.devices ≡ o.devices → HasSeen (own_memory m (moved_at o (Takes a n)).view) (moved_at o (Takes a n)).devices t (took t a)
took_at m o t a n is ds = by (is_device a)
  where
    by : (b : Bool) → HasSeen (own_memory m (cond b record o { devices = devices_loaded o.devices a } o).view) (cond b record o { devices = devices_loaded o.devices a } o).devices t (cond b (device_taken a t) t)
    by true = let h = taken_there t a o.devices ds in record { memory = h.memory ∙ is; devices = h.devices; notes = h.notes }
    by false = record { memory = is; devices = ds; notes = refl }

move_seen : (m : Memory) (x : Move) (o : Sight) (t : Turn) → HasPlaces m o.view → t.state.memory ≡ own_memory m o.view → t.state.devices ≡ o.devices → IsInside o.view x → HasSeen (own_memory m (moved_at o x).view) (moved_at o x).devices t (moved t x)
move_seen m (Puts x) o t h is ds one = let p = one_put m x o.view t h is one in record { memory = p.memory; devices = p.devices ∙ ds; notes = p.notes }
move_seen m (Takes a n) o t h is ds one = took_at m o t a n is ds

-- a move changes what is seen by what it does to the window, and keeps the ports
view_at : (o : Sight) (x : Move) → ((moved_at o x).view ≡ lands o.view x) × ((moved_at o x).io_regions ≡ o.io_regions)
view_at o (Puts x) = (refl, refl)
view_at o (Takes a n) = by (is_device a)
  where
    by : (b : Bool) → ((cond b record o { devices = devices_loaded o.devices a } o).view ≡ o.view) × ((cond b record o { devices = devices_loaded o.devices a } o).io_regions ≡ o.io_regions)
    by true = (refl, refl)
    by false = (refl, refl)

-- what moves leave of what is seen
record HasMovedOn (m : Memory) (o p : Sight) (t u : Turn) : Type 0 where
  seen : HasSeen (own_memory m p.view) p.devices t u
  keeps : Keeps o.view p.view
  io_regions : p.io_regions ≡ o.io_regions

moves_seen : (m : Memory) (ms : List Move) (o : Sight) (t : Turn) → HasPlaces m o.view → t.state.memory ≡ own_memory m o.view → t.state.devices ≡ o.devices → AreInside o.view ms → HasMovedOn m o (fold moved_at o ms) t (fold moved t ms)
moves_seen m [] o t h is ds all = record { seen = record { memory = is; devices = ds; notes = refl }; keeps = kept o.view o.view refl; io_regions = refl }
moves_seen m (x ∷ xs) o t h is ds all =
    let one = first_inside o.view x xs all in
    let v = view_at o x in
    let k : Keeps o.view (moved_at o x).view = subst (λ (w : View). Keeps o.view w) (sym v.0) (move_keeps o.view x one) in
    let here = move_seen m x o t h is ds one in
    let rest = moves_seen m xs (moved_at o x) (moved t x) (places_on m o.view (moved_at o x).view k h) here.memory here.devices (rest_inside o.view (moved_at o x).view x xs k all) in
    record {
      seen = record { memory = rest.seen.memory; devices = rest.seen.devices; notes = rest.seen.notes ∙ here.notes };
      keeps = kept_on o.view (moved_at o x).view _ k rest.keeps;
      io_regions = rest.io_regions ∙ v.1;
    }

-- ## the turn

-- the turn of a task that goes on over what it sees
pub record HasGoneOn (x : Scenario) (s : State) (c : ℕ) (o p : Sight) (d : Cpu) : Type 0 where
  pub state : (turn Calls x s).state ≡ later record s { current = c; devices = p.devices } c d (own_memory s.memory p.view) 1
  pub notes : (turn Calls x s).notes ≡ []
  pub keeps : Keeps o.view p.view
  pub io_regions : p.io_regions ≡ o.io_regions

acted_beside : (g : Setup) (c : ℕ) (s : State) (d : Cpu) (ms : List Move) (m : Memory) (ds : List DeviceData) → (fold moved (begun s) ms).state.memory ≡ m → (fold moved (begun s) ms).state.devices ≡ ds → (ended (acted g c (Next d ms) (begun s))).state ≡ later record s { devices = ds } c d m 1
unfolding ended begun with_processor with_task task_at
acted_beside g c s d ms m ds e f =
    let u : State = (fold moved (begun s) ms).state in
    let same : u ≡ record s { memory = m; devices = ds } = moves_state ms (begun s) ∙ ap (λ (y : Memory). record s { memory = y; devices = u.devices }) e ∙ ap (λ (xs : List DeviceData). record s { memory = m; devices = xs }) f in
    ap (λ (y : State). record (with_task c record (task_at y c) { registers = d.regs.words; flags = d.flags } y) { turn = y.turn + 1 }) same

module _ (x : Scenario) (s : State) (c : ℕ) (o p : Sight) (d : Cpu) (is : chosen x.setup s ≡ Some c) (nothing : events_of x.script s.turn ≡ []) (sight : IsSight x.setup c s o) (placed : ArePlaced x.setup s.memory) where
  turn_beside : GoesOnBeside o (cpu_of (task_at s c)) p d → HasGoneOn x s c o p d
  unfolding begun task_at
  turn_beside on =
      let g : Setup = x.setup in
      let y : State = record s { current = c } in
      let over : IsSight g c (begun y).state o = record { window = sight.window; devices = sight.devices; io_regions = sight.io_regions } in
      let whole : turn Calls x s ≡ ended (acted g c (Next d on.moves) (begun y)) = plain_turn x s c is nothing ∙ ap ended (stepped_beside g c (begun y) o p d over placed on) in
      let put = moves_seen s.memory on.moves o (begun y) (places_of g c s.memory o.view sight.window) (own_same g c s.memory o.view sight.window) (sym sight.devices) on.inside in
      let E : Sight → Type 0 = λ q. (turn Calls x s).state ≡ later record s { current = c; devices = q.devices } c d (own_memory s.memory q.view) 1 in
      record {
        state = subst E (sym on.after) (ap (λ (t : Turn). t.state) whole ∙ acted_beside g c y d on.moves _ _ put.seen.memory put.seen.devices);
        notes = ap (λ (t : Turn). t.notes) whole ∙ acted_notes g c y d on.moves put.seen.notes;
        keeps = subst (λ (q : Sight). Keeps o.view q.view) (sym on.after) put.keeps;
        io_regions = ap (λ (q : Sight). q.io_regions) on.after ∙ put.io_regions;
      }

  turn_within : GoesOnWithin o (cpu_of (task_at s c)) p d → HasGoneOn x s c o p d
  turn_within on =
      let one = one_turn x s c o.view p.view d is nothing sight.window placed on.window in
      let same : s.devices ≡ p.devices = sym sight.devices ∙ sym (ap (λ (q : Sight). q.devices) on.rest) in
      record {
        state = one.state ∙ ap (λ (ds : List DeviceData). later record s { current = c; devices = ds } c d (own_memory s.memory p.view) 1) same;
        notes = one.notes;
        keeps = one.same;
        io_regions = ap (λ (q : Sight). q.io_regions) on.rest;
      }

  pub turn_on : GoesOnWithin o (cpu_of (task_at s c)) p d ⊎ GoesOnBeside o (cpu_of (task_at s c)) p d → HasGoneOn x s c o p d
  turn_on (inl on) = turn_within on
  turn_on (inr on) = turn_beside on

-- ## where its instruction was

fetched_at : (o : Sight) (at : ℕ) (f : Fetched) → fetched (refused_at o) (held_at o) at ≡ Ok f → has_code o.view at 2 ≡ true
fetched_at o at f is = by (is_device at) (has_code o.view at 2) is
  where
    by : (b code : Bool) → unless_barred (cond b (given (false && in_io_region o.io_regions at 2) at) (given code at)) at (fetched_by (refused_at o) (held_at o) at (held_at o at 2)) ≡ Ok f → code ≡ true
    by true code e = absurd cc
    by false true e = refl
    by false false e = absurd cc

beside_from : (o p : Sight) (c d : Cpu) → GoesOnBeside o c p d → has_code o.view (reg_at c.regs 15) 2 ≡ true
beside_from o p c d on = by (fetched (refused_at o) (held_at o) (reg_at c.regs 15)) refl on.effect
  where
    by : (r : Result Fetched Fault) → fetched (refused_at o) (held_at o) (reg_at c.regs 15) ≡ r → executed_by (refused_at o) (held_at o) c r ≡ Next d on.moves → has_code o.view (reg_at c.regs 15) 2 ≡ true
    by (Ok f) is e = fetched_at o (reg_at c.regs 15) f is
    by (Err fault) is e = absurd cc

from_there : (o p : Sight) (c d : Cpu) → GoesOnWithin o c p d ⊎ GoesOnBeside o c p d → has_code o.view (reg_at c.regs 15) 2 ≡ true
from_there o p c d (inl on) = went_from o.view p.view c d on.window
from_there o p c d (inr on) = beside_from o p c d on

-- ## turns on end

-- of two writes of a processor the later stays
set_twice : (s : State) (i : ℕ) (x y : Task) → with_task i y (with_task i x s) ≡ with_task i y s
unfolding with_task
set_twice s i x y = ap (λ (xs : List Task). record s { tasks = xs }) (set-set s.tasks i x y)

cpu_after : (s : State) (c : ℕ) (cpu : Cpu) (m : Memory) (n : ℕ) → c < length s.tasks → cpu_of (task_at (later s c cpu m n) c) ≡ cpu
unfolding task_at with_task
cpu_after s c cpu m n there = ap cpu_of (task_at-with_task s c record (task_at s c) { registers = cpu.regs.words; flags = cpu.flags } there)

again : (s : State) (c : ℕ) (cpu d : Cpu) (m u : Memory) (ds es : List DeviceData) (n before : ℕ) → c < length s.tasks →
    later record (later record s { current = before; devices = ds } c cpu m n) { current = c; devices = es } c d u 1 ≡ later record s { current = c; devices = es } c d u (suc n)
unfolding with_task task_at
again s0 c cpu d m u ds es n before there =
    let s : State = record s0 { current = c; devices = es } in
    let x : Task = record (task_at s c) { registers = cpu.regs.words; flags = cpu.flags } in
    let y : Task → Task = λ z. record z { registers = d.regs.words; flags = d.flags } in
    let at : task_at (with_task c x s) c ≡ x = task_at-with_task s c x there in
    let e : s.turn + n + 1 ≡ s.turn + suc n = omega arith in
    ap (λ (z : Task). record (with_task c (y z) (with_task c x s)) { memory = u; turn = s.turn + n + 1 }) at
    ∙ ap (λ (z : State). record z { memory = u; turn = s.turn + n + 1 }) (set_twice s c x (y x))
    ∙ ap (λ (k : ℕ). record (with_task c (y x) s) { memory = u; turn = k }) e

unmoved : (s : State) (c : ℕ) → s ≡ later s c (cpu_of (task_at s c)) s.memory 0
unfolding with_task task_at
unmoved s c = ap (λ (xs : List Task). record s { tasks = xs }) (sym (set-get_or s.tasks c no_task)) ∙ ap (λ (k : ℕ). record s { turn = k; tasks = set s.tasks c (get_or s.tasks c no_task) }) (omega arith)

-- a view that is left has the bases of the first one
at_bases : (m : Memory) (v w : View) → Keeps v w → own_memory m w ≡ with_window m v w
at_bases m v w k = rw (k.ram_base, k.area_base, k.second_base) refl

-- the state after n of them
pub record HasGone (x : Scenario) (s : State) (c : ℕ) (o : Sight) (n : ℕ) (p : Sight) (d : Cpu) : Type 0 where
  pub state : state_after Calls x n s ≡ later record s { current = runner n c s.current; devices = p.devices } c d (own_memory s.memory p.view) n
  pub keeps : Keeps o.view p.view
  pub io_regions : p.io_regions ≡ o.io_regions
  pub sane : Sane x.setup (state_after Calls x n s)
  pub chosen : chosen x.setup (state_after Calls x n s) ≡ Some c
  pub down : is_down (state_after Calls x n s) ≡ is_down s
  pub ready : (i : ℕ) → is_ready (state_after Calls x n s) i ≡ is_ready s i
  pub counted : IsCounted s → IsCounted (state_after Calls x n s)

-- what is seen after n turns, and the processor after them
pub record IsLeft (x : Scenario) (s : State) (c : ℕ) (o : Sight) (n : ℕ) (p : Sight) (d : Cpu) : Type 0 where
  pub keeps : Keeps o.view p.view
  pub io_regions : p.io_regions ≡ o.io_regions
  pub sight : IsSight x.setup c (state_after Calls x n s) p
  pub processor : cpu_of (task_at (state_after Calls x n s) c) ≡ d

abbrev GoesOnSo : Sight → Cpu → Sight → Cpu → Type 0
GoesOnSo p d q e = GoesOnWithin p d q e ⊎ GoesOnBeside p d q e

module _ (x : Scenario) (s : State) (c : ℕ) (o : Sight) (sane : Sane x.setup s) (is : chosen x.setup s ≡ Some c) (sight : IsSight x.setup c s o) where
  there : c < length s.tasks
  there = (chosen_is s c sane is).inside

  -- what is seen where they have come to
  sight_then : (n : ℕ) (p : Sight) (d : Cpu) → Keeps o.view p.view → p.io_regions ≡ o.io_regions → IsSight x.setup c (later record s { current = runner n c s.current; devices = p.devices } c d (own_memory s.memory p.view) n) p
  unfolding with_task
  sight_then n p d keeps io_regions = record {
    window = window_again x.setup c s.memory o.view p.view sight.window keeps;
    devices = refl;
    io_regions = λ r here. sight.io_regions r (subst (λ (rs : List Region). Contains rs r) io_regions here);
  }

  -- one more from there
  next_gone : (n : ℕ) (p q : Sight) (d e : Cpu) → HasGone x s c o n p d → events_of x.script (s.turn + n) ≡ [] → GoesOnSo p d q e → HasGoneOn x (state_after Calls x n s) c p q e
  unfolding with_task
  next_gone n p q d e h nothing on =
      let m : Memory = own_memory s.memory p.view in
      let P : State → Type 0 = λ y. HasGoneOn x y c p q e in
      let C : State → Type 0 = λ y. chosen x.setup y ≡ Some c in
      let from : State = record s { current = runner n c s.current; devices = p.devices } in
      let own = cpu_after from c d m n there in
      subst P (sym h.state) (turn_on x (later from c d m n) c p q e (subst C h.state h.chosen) nothing (sight_then n p d h.keeps h.io_regions) (subst (λ (y : State). ArePlaced x.setup y.memory) h.state h.sane.steady.placed) (subst (λ (k : Cpu). GoesOnSo p k q e) (sym own) on))

  -- a turn that notes nothing leaves the choice
  chosen_next : (y : State) → Sane x.setup y → chosen x.setup y ≡ Some c → events_of x.script y.turn ≡ [] → (turn Calls x y).notes ≡ [] → (chosen x.setup (turn Calls x y).state ≡ Some c) × (is_down (turn Calls x y).state ≡ is_down y) × ((i : ℕ) → is_ready (turn Calls x y).state i ≡ is_ready y i)
  chosen_next y sane-y is-y nothing none =
      let e : begun y ≡ after_events x y = no_event x y nothing in
      let st : (after_events x y).state ≡ y = ap (λ (t : Turn). t.state) (sym e) ∙ begun_state y in
      let alike = quiet-turn Calls x y (subst (λ (z : State). Sane x.setup z) (sym st) sane-y) (rw none (omega arith)) in
      (alike.next ∙ ap (chosen x.setup) st ∙ is-y, alike.down ∙ ap is_down st, λ i. alike.ready i ∙ ap (λ (z : State). is_ready z i) st)

  one_further : (n : ℕ) (p q : Sight) (d e : Cpu) → HasGone x s c o n p d → events_of x.script (s.turn + n) ≡ [] → GoesOnSo p d q e → HasGone x s c o (suc n) q e
  unfolding state_after
  one_further n p q d e h nothing on =
      let m : Memory = own_memory s.memory p.view in
      let y : State = state_after Calls x n s in
      let g = next_gone n p q d e h nothing on in
      let same : (turn_after Calls x n s).state ≡ (turn Calls x y).state = ap (λ (t : Turn). t.state) (last_turn Calls x n s) in
      let at : y.turn ≡ s.turn + n = ap (λ (z : State). z.turn) h.state in
      let ch = chosen_next y h.sane h.chosen (ap (events_of x.script) at ∙ nothing) g.notes in
      let memory : own_memory y.memory q.view ≡ own_memory s.memory q.view =
      ap (λ (z : State). own_memory z.memory q.view) h.state
      ∙ own_again s.memory p.view q.view (places_on s.memory o.view p.view h.keeps (places_of x.setup c s.memory o.view sight.window)) g.keeps in
      record {
        state = same ∙ g.state ∙ ap (λ (z : State). later record z { current = c; devices = q.devices } c e (own_memory y.memory q.view) 1) h.state ∙ again s c d e m (own_memory y.memory q.view) p.devices q.devices n (runner n c s.current) there ∙ ap (λ (z : Memory). later record s { current = c; devices = q.devices } c e z (suc n)) memory;
        keeps = kept_on o.view p.view q.view h.keeps g.keeps;
        io_regions = g.io_regions ∙ h.io_regions;
        sane = subst (λ (z : State). Sane x.setup z) (sym same) (sane-after Calls x y h.sane);
        chosen = ap (chosen x.setup) same ∙ ch.0;
        down = ap is_down same ∙ ch.1 ∙ h.down;
        ready = λ i. ap (λ (z : State). is_ready z i) same ∙ ch.2 i ∙ h.ready i;
        counted = λ before. subst (λ (z : State). IsCounted z) (sym same) (counted_turn Calls x y h.sane (rw (ap (events_of x.script) at ∙ nothing) (omega arith)) (h.counted before));
      }

  gone : (n : ℕ) (p : Sight) (d : Cpu) → ((k : ℕ) → k < n → events_of x.script (s.turn + k) ≡ []) → Polls o (cpu_of (task_at s c)) n p d → HasGone x s c o n p d
  unfolding state_after
  gone zero p d nothing on =
      let start : HasGone x s c o zero o (cpu_of (task_at s c)) = record {
        state = unmoved s c ∙ ap (λ (z : Memory). later s c (cpu_of (task_at s c)) z 0) (own_same x.setup c s.memory o.view sight.window) ∙ ap (λ (ds : List DeviceData). later record s { devices = ds } c (cpu_of (task_at s c)) (own_memory s.memory o.view) 0) (sym sight.devices);
        keeps = kept o.view o.view refl;
        io_regions = refl;
        sane = sane;
        chosen = is;
        down = refl;
        ready = λ i. refl;
        counted = λ before. before;
      } in
      subst (λ (q : Sight). HasGone x s c o zero q d) (sym on.0) (subst (λ (e : Cpu). HasGone x s c o zero o e) (sym on.1) start)
  gone (suc n) p d nothing on =
      let before = gone n on.0 on.1 (λ k lt. nothing k (omega (arith, lt))) on.2 in
      one_further n on.0 p on.1 d before (nothing n (omega arith)) on.3

  -- the front of them
  front : (n k : ℕ) (p : Sight) (d : Cpu) → k ≤ n → Polls o (cpu_of (task_at s c)) n p d → (q : Sight) × (e : Cpu) × Polls o (cpu_of (task_at s c)) k q e
  front zero zero p d le on = (p, d, on)
  front zero (suc k) p d le on = absurd (omega (arith, le))
  front (suc n) k p d le on = by (ltb k (suc n)) refl (λ lt. front n k on.0 on.1 (omega (arith, lt)) on.2)
    where
      by : (b : Bool) → ltb k (suc n) ≡ b → (k < suc n → (q : Sight) × (e : Cpu) × Polls o (cpu_of (task_at s c)) k q e) → (q : Sight) × (e : Cpu) × Polls o (cpu_of (task_at s c)) k q e
      by true e before = before (ltb-true k (suc n) e)
      by false e before = let same : suc n ≡ k = let ge = ltb-false k (suc n) e in omega (arith, ge, le) in subst (λ (j : ℕ). (q : Sight) × (e : Cpu) × Polls o (cpu_of (task_at s c)) j q e) same (p, d, on)

  -- the processor after them
  processor_then : (n : ℕ) (p : Sight) (d : Cpu) → HasGone x s c o n p d → cpu_of (task_at (state_after Calls x n s) c) ≡ d
  unfolding with_task
  processor_then n p d h = ap (λ (y : State). cpu_of (task_at y c)) h.state ∙ cpu_after record s { current = runner n c s.current; devices = p.devices } c d (own_memory s.memory p.view) n there

  pub are_turns : (n : ℕ) (p : Sight) (d : Cpu) → ((k : ℕ) → k < n → events_of x.script (s.turn + k) ≡ []) → Polls o (cpu_of (task_at s c)) n p d → AreTurns x s c o n p d
  are_turns n p d nothing on =
      record {
        state = let h = gone n p d nothing on in h.state ∙ ap (λ (z : Memory). later record s { current = runner n c s.current; devices = p.devices } c d z n) (at_bases s.memory o.view p.view h.keeps);
        beside = λ k at le ne. beside_at k at le ne (front n k p d le on);
        silent = λ k lt. silent_at k lt (front n (suc k) p d (omega (arith, lt)) on);
        ran = λ k lt. ran_at k lt (front n (suc k) p d (omega (arith, lt)) on);
        chosen = λ k le. let f = front n k p d le on in (gone k f.0 f.1 (λ j lt. nothing j (omega (arith, lt, le))) f.2).chosen;
        down = λ k le. let f = front n k p d le on in (gone k f.0 f.1 (λ j lt. nothing j (omega (arith, lt, le))) f.2).down;
        ready = (gone n p d nothing on).ready;
        sane = (gone n p d nothing on).sane;
        counted = (gone n p d nothing on).counted;
      }
    where
      beside_at : (k at : ℕ) → k ≤ n → IsBeside o.view at → (q : Sight) × (e : Cpu) × Polls o (cpu_of (task_at s c)) k q e → byte_at (state_after Calls x k s).memory at ≡ byte_at s.memory at
      beside_at k at le ne (q, e, g) =
          let then = gone k q e (λ j less. nothing j (omega (arith, le, less))) g in
          ap (λ (y : State). byte_at y.memory at) then.state
          ∙ own_beside s.memory q.view at (places_on s.memory o.view q.view then.keeps (places_of x.setup c s.memory o.view sight.window)) (beside_still o.view q.view at then.keeps ne)

      silent_at : (k : ℕ) → k < n → (q : Sight) × (e : Cpu) × Polls o (cpu_of (task_at s c)) (suc k) q e → (turn_after Calls x k s).notes ≡ []
      silent_at k lt (q, e, g) =
          let before = gone k g.0 g.1 (λ j less. nothing j (omega (arith, lt, less))) g.2 in
          ap (λ (t : Turn). t.notes) (last_turn Calls x k s) ∙ (next_gone k g.0 q g.1 e before (nothing k lt) g.3).notes

      ran_at : (k : ℕ) → k < n → (q : Sight) × (e : Cpu) × Polls o (cpu_of (task_at s c)) (suc k) q e → IsFetchedIn o.view c (turned x (state_after Calls x k s))
      ran_at k lt (q, e, g) =
          let before = gone k g.0 g.1 (λ j less. nothing j (omega (arith, lt, less))) g.2 in
          let turns : (state_after Calls x k s).turn ≡ s.turn + k = ap (λ (y : State). y.turn) before.state in
          fetched_there x (state_after Calls x k s) c o.view g.1 before.chosen (ap (events_of x.script) turns ∙ nothing k lt) (processor_then k g.0 g.1 before) (code_still o.view g.0.view (reg_at g.1.regs 15) before.keeps (from_there g.0 q g.1 e g.3))

  -- what they leave to see, and the processor
  pub seen_then : (n : ℕ) (p : Sight) (d : Cpu) → ((k : ℕ) → k < n → events_of x.script (s.turn + k) ≡ []) → Polls o (cpu_of (task_at s c)) n p d → IsLeft x s c o n p d
  seen_then n p d nothing on =
      let h = gone n p d nothing on in
      record {
        keeps = h.keeps;
        io_regions = h.io_regions;
        sight = subst (λ (y : State). IsSight x.setup c y p) (sym h.state) (sight_then n p d h.keeps h.io_regions);
        processor = processor_then n p d h;
      }
