-- A board that has all parts of bytes stands for the state that they spell.
use Rattle.std.proofs.Common.{◌≡◌, ◌∙◌, ◌+◌, ◌*◌, ◌<◌, ◌≤◌, ℕ, List, length, map, arith, ap, subst, sym}
use Rattle.std.specs.Prelude.{None, replicate}
use Rattle.std.specs.List.{range_with_len}
use Rattle.std.proofs.Math.ListN.{get_or-map}
use Rattle.std.proofs.lemmas.List.{length-map, length-replicate, ext_get_or}
use Rattle.std.proofs.lemmas.List.FromFn.{length-map-range_with_len, get_or-map-range_with_len}
use Rattle.kernel_abi.specs.declared.Kind.TheVariants.{Console}
use Rattle.kernel_abi.specs.Devices.{DeviceData, device_at}
use Rattle.mem_banks.specs.Memory.{Memory, AreAllBytes}
use Rattle.task_table.specs.kept.Parts.{IsSound}
use Rattle.task_table.specs.model.Placed.{ArePlaced}
use Rattle.task_table.specs.model.Start.{start}
use Rattle.task_table.specs.model.State.{Setup, State, TaskSetup}
use Rattle.task_table.specs.model.Sane.{Sane, IsCounted}
use Rattle.board_model.specs.Script.{Scenario}
use Rattle.board_core.specs.declared.board.Board.{Board}
use Rattle.board_core.specs.Data.{Shows}
use Rattle.board_core.specs.Stands.{Holds, Stands, count_of}
use Rattle.board_core.proofs.Loading.{HoldsRest, rest_held, devices_held}
use Rattle.board_core.proofs.Turning.{rested}
use Rattle.board_core.proofs.KeptAlike.{stands_alike}
use Rattle.snapshot.specs.Records.{header_at, task_in, device_in}
use Rattle.image_format.specs.ImageData.{AreBytes}
use Rattle.snapshot.specs.Accepted.{IsAccepted, IsGoodRecord, IsGoodDevice}
use Rattle.snapshot.specs.Waits.{state_fault}
use Rattle.snapshot.specs.Saved.{SpellsState, expected_of}
use Rattle.snapshot.specs.Restored.{state_in, device_from}
use Rattle.snapshot.specs.Loaded.{sites, loaded}
use Rattle.snapshot.proofs.Accepts.{accepted}
use Rattle.snapshot.proofs.Loads.{IsFit, no_device, site, loaded_alike}
use Rattle.snapshot.proofs.Pieces.{placed_alike}
use Rattle.snapshot.proofs.Restores as restores

-- ## what is known of a board that holds a state

module _ {X : Type 0} {H : X → Type 0} (shown : Shows X H) (x : Scenario) (b : Board X H) (u : State) (h : Holds shown x b u) where
  rest : HoldsRest x.setup b.machine.space.kernel (rested b.machine u)
  rest = rest_held shown b.machine.loaded x.setup b.machine.space b.machine.glider.runner.processor _ h.machine

  pub as_many : count_of b ≡ length u.tasks
  as_many = rest.holds.count ∙ sym rest.rest.count

  setup_tasks : length x.setup.tasks ≡ count_of b
  setup_tasks = rest.holds.many ∙ sym rest.holds.count

  few_tasks : length x.setup.tasks ≤ 1024
  few_tasks = let few = b.machine.space.kernel.few in omega (arith, few, setup_tasks)

  all_lines : x.setup.line_count ≡ 64
  all_lines = ap (λ (g : Setup). g.line_count) (sym rest.holds.setup) ∙ b.machine.space.kernel.all_lines

  lines_there : length u.lines ≡ 64
  lines_there = ap length (rest.rest.lines ∙ sym rest.holds.lines) ∙ b.machine.space.kernel.all_lines

  pub as_much : length u.memory.ram ≡ x.setup.ram
  as_much = ap (λ (m : Memory). length m.ram) (rest.rest.memory ∙ sym rest.holds.memory) ∙ ap (λ (g : Setup). g.ram) rest.holds.setup

module _ {X : Type 0} {H : X → Type 0} (shown : Shows X H) (x : Scenario) (b : Board X H) (u : State) (st : Stands shown x b u) where
  pub fit : IsFit x.setup u
  fit = record {
    few = few_tasks shown x b u st.holds;
    all_lines = all_lines shown x b u st.holds;
    tasks = st.sane.steady.as_many;
    lines = lines_there shown x b u st.holds;
    flash = st.sane.steady.flash;
  }

  sound : IsSound x.setup
  unfolding start
  sound =
      let g = x.setup in
      let flash = st.sane.steady.flash in
      let same : u.memory ≡ record { flash = g.flash; ram = u.memory.ram } = λ j. record { flash = flash j; ram = u.memory.ram } in
      record {
        some = let inside = st.sane.steady.current in let many = st.sane.steady.as_many in omega (arith, inside, many);
        placed = placed_alike g g.flash u.memory.ram (replicate g.ram 0) (as_much shown x b u st.holds ∙ sym (length-replicate {A = ℕ} g.ram 0)) (subst (ArePlaced g) same st.sane.steady.placed);
        flash_bytes = subst AreAllBytes flash st.sane.steady.flash_bytes;
      }

-- ## the devices keep their kinds and their places

same_sites : (g : Setup) (devices : List DeviceData) (bytes : List ℕ) → sites (state_in g devices bytes).devices ≡ sites devices
unfolding state_in
same_sites g devices bytes =
    let n = length devices in
    let of : ℕ → DeviceData = λ k. device_from (device_at devices k) (device_in bytes (length g.tasks) k) in
    let long = length-map-range_with_len of 0 n in
    let front = length-map (map of (range_with_len 0 n)) site in
    ext_get_or (Console, 0) (sites (map of (range_with_len 0 n))) (sites devices) (front ∙ long ∙ sym (length-map devices site)) (λ k lt.
    get_or-map site (map of (range_with_len 0 n)) k no_device
    ∙ ap site (get_or-map-range_with_len of 0 n k k no_device (omega (arith, lt, front, long)) (omega arith))
    ∙ sym (get_or-map site devices k no_device))

-- ## a board that has all parts of bytes

-- bytes that are accepted with the devices of one state that the board stands for are accepted with those of
-- each such state
pub accepted_by : {X : Type 0} {H : X → Type 0} (shown : Shows X H) (x y : Scenario) (b : Board X H) (u v : State) (bytes : List ℕ) → Holds shown x b u → Holds shown y b v → state_fault (expected_of y.setup v.devices) bytes ≡ None → IsAccepted (expected_of x.setup u.devices) bytes
accepted_by shown x y b u v bytes h k none =
    let setup : y.setup ≡ x.setup = sym (rest shown y b v k).holds.setup ∙ (rest shown x b u h).holds.setup in
    let devices : v.devices ≡ u.devices = sym (devices_held shown b.machine.loaded y.setup b.machine.space b.machine.glider.runner.processor _ k.machine) ∙ devices_held shown b.machine.loaded x.setup b.machine.space b.machine.glider.runner.processor _ h.machine in
    subst (λ (g : Setup). IsAccepted (expected_of g u.devices) bytes) setup
    (subst (λ (ds : List DeviceData). IsAccepted (expected_of y.setup ds) bytes) devices (accepted (expected_of y.setup v.devices) bytes none))

-- the records are right for themselves
pub good_records : (g : Setup) (devices : List DeviceData) (bytes : List ℕ) → IsAccepted (expected_of g devices) bytes → (i : ℕ) → i < length g.tasks → IsGoodRecord (header_at bytes).clock (task_in bytes i)
good_records g devices bytes a i lt = a.records i (let long = length-map g.tasks (λ (t : TaskSetup). t.regions) in omega (arith, long, lt))

-- what is asked of bytes whose parts a board is told, behind so many tasks and devices
pub record HasParts {X : Type 0} {H : X → Type 0} (b : Board X H) (u : State) (tasks devices : ℕ) (bytes : List ℕ) : Type 0 where
  pub as_many : tasks ≡ count_of b
  pub few : tasks ≤ 1024
  pub current : (header_at bytes).current < tasks
  pub long : length bytes ≡ 100 + 132 * tasks + 72 * devices + length u.memory.ram
  pub good : (i : ℕ) → i < tasks → IsGoodRecord (header_at bytes).clock (task_in bytes i)
  pub fit : (k : ℕ) → k < devices → IsGoodDevice (device_at u.devices k).kind (device_in bytes tasks k)

pub has_parts : {X : Type 0} {H : X → Type 0} (shown : Shows X H) (x : Scenario) (b : Board X H) (u : State) (tasks devices : ℕ) (bytes : List ℕ) → Stands shown x b u → tasks ≡ length u.tasks → devices ≡ length u.devices → state_fault (expected_of x.setup u.devices) bytes ≡ None → HasParts b u tasks devices bytes
has_parts shown x b u tasks devices bytes st many beside none =
    let g = x.setup in
    let a = accepted (expected_of g u.devices) bytes none in
    let count = length-map g.tasks (λ (t : TaskSetup). t.regions) in
    let kinds = length-map u.devices (λ (d : DeviceData). d.kind) in
    let mine = st.sane.steady.as_many in
    let few = few_tasks shown x b u st.holds in
    let ram = as_much shown x b u st.holds in
    let long = a.long in
    let current = a.current in
    let same : length g.tasks ≡ tasks = sym (many ∙ mine) in
    record {
      as_many = many ∙ sym (as_many shown x b u st.holds);
      few = omega (arith, few, same);
      current = omega (arith, current, count, same);
      long = omega (arith, long, count, kinds, same, beside, ram);
      good = λ i lt. good_records g u.devices bytes a i (omega (arith, lt, same));
      fit = λ k lt. subst (λ n. IsGoodDevice (device_at u.devices k).kind (device_in bytes n k)) same (restores.fits g u.devices bytes a k (omega (arith, lt, beside)));
    }

module _ {X : Type 0} {H : X → Type 0} (shown : Shows X H) (bytes : List ℕ) (b b' : Board X H) (x : Scenario) (u : State) (st : Stands shown x b u) (a : IsAccepted (expected_of x.setup u.devices) bytes) (holds : Holds shown x b' (loaded bytes u)) where
  pub stands_each : (s : State) → SpellsState x.setup s bytes → Sane x.setup s → IsCounted s → sites s.devices ≡ sites u.devices → Stands shown x b' s
  stands_each s spells sane counted same =
      stands_alike shown x b' s (loaded bytes u) holds (loaded_alike x.setup u s bytes (header_at bytes).clock (fit shown x b u st) (good_records x.setup u.devices bytes a) spells sane same) sane counted

  -- the state of the bytes is one of them
  pub stands_in : AreBytes bytes → Stands shown x b' (state_in x.setup u.devices bytes)
  stands_in are =
      let f = fit shown x b u st in
      stands_each (state_in x.setup u.devices bytes)
      (restores.spells x.setup u.devices bytes a f.all_lines are)
      (restores.sane x.setup u.devices bytes a (sound shown x b u st) st.sane.steady.devices are)
      (restores.counted x.setup u.devices bytes a).0
      (same_sites x.setup u.devices bytes)
