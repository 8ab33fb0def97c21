-- A state that has all parts of some bytes is kept in the same way as each sane state that the bytes spell.
use Rattle.std.proofs.Common.{◌≡◌, ◌≢◌, ◌∙◌, ◌+◌, ◌-◌, ◌<◌, ◌≤◌, inl, inr, ℕ, zero, suc, Bool, true, false, List, [], length, drop, get_or, arith, ap, sym, refl}
use Rattle.std.specs.Prelude.{replicate}
use Rattle.std.proofs.Math.ListN.{get_or-map}
use Rattle.std.proofs.Math.Seq.{take-append_seam}
use Rattle.std.proofs.lemmas.Bool.Decides.{eqb_tells}
use Rattle.std.proofs.lemmas.Grind.{get_or-set_at}
use Rattle.std.proofs.lemmas.List.{length-map, length-set, get_or-set_other, ext_get_or}
use Rattle.std.proofs.lemmas.List.FromFn.{length-map-range_with_len, get_or-map-range_with_len}
use Rattle.kernel_abi.specs.declared.Kind.{Kind}
use Rattle.kernel_abi.specs.declared.Kind.TheVariants.{Console}
use Rattle.kernel_abi.specs.Devices.{DeviceData, device_at}
use Rattle.task_table.specs.declared.Line.{Line}
use Rattle.task_table.specs.declared.slot.Slot.{Slot}
use Rattle.task_table.specs.model.State.{Setup, State}
use Rattle.task_table.specs.model.Reading.{task_at, line_at, call_of, listen_of, no_line, IsSameBut}
use Rattle.task_table.specs.model.Effects.{with_task}
use Rattle.task_table.specs.kept.Holds.{packed, packed_task, wait_of}
use Rattle.task_table.specs.model.Sane.{Sane}
use Rattle.task_table.specs.kept.Setting.{with_slot, AreKeptAlike}
use Rattle.task_table.proofs.model.Changes.{length-with_task}
use Rattle.task_table.proofs.kept.KeptAlike.{packed_other}
use Rattle.task_table.proofs.kept.Setting.{same_but-with_slot, kept-with_slot}
use Rattle.board_core.specs.Setting.{slot_told}
use Rattle.board_core.proofs.Told.{devices-with_slot}
use Rattle.snapshot.specs.declared.records.Header.{Header}
use Rattle.snapshot.specs.declared.records.TaskRecord.{TaskRecord}
use Rattle.snapshot.specs.Records.{Parts, header_at, task_in, device_in, ram_place}
use Rattle.snapshot.specs.Spelling.{AreParts}
use Rattle.snapshot.specs.Accepted.{IsGoodRecord}
use Rattle.snapshot.specs.Saved.{record_of, device_told, line_number, parts_of, SpellsState}
use Rattle.snapshot.specs.Restored.{line_from, device_from}
use Rattle.snapshot.specs.Views.{view_of}
use Rattle.snapshot.specs.Loaded.{sites, with_numbers, with_lines, with_tasks, with_devices, loaded}
use Rattle.snapshot.proofs.Again.{parts_again}
use Rattle.snapshot.proofs.Places.{header_place, line_place, task_place, device_place}
use Rattle.snapshot.proofs.Saves.{are_parts, few_queued}
use Rattle.snapshot.proofs.TaskViews.{is_told, viewed_again}

-- ## lines

lines_length : (bytes : List ℕ) (n : ℕ) (lines : List Line) → length (with_lines bytes n lines) ≡ length lines
unfolding with_lines
lines_length bytes zero lines = refl
lines_length bytes (suc n) lines = length-set (with_lines bytes n lines) n _ ∙ lines_length bytes n lines

lines_set : (bytes : List ℕ) (n k : ℕ) (lines : List Line) (d : Line) → k < n → n ≤ length lines → get_or (with_lines bytes n lines) k d ≡ line_from (get_or bytes (36 + k) 0)
unfolding with_lines
lines_set bytes zero k lines d lt few = absurd (omega (arith, lt))
lines_set bytes (suc n) k lines d lt few =
    let long = lines_length bytes n lines in
    elim (eqb_tells k n) [
      | inl same ↦ get_or-set_at (with_lines bytes n lines) n k _ d same.1 (omega (arith, long, few)) ∙ ap (λ j. line_from (get_or bytes (36 + j) 0)) (sym same.1)
      | inr other ↦ let ne : k ≢ n = other.1 in get_or-set_other (with_lines bytes n lines) n k _ d ne ∙ lines_set bytes n k lines d (omega (arith, lt, ne)) (omega (arith, few))
    ]

-- ## devices

pub devices_length : (bytes : List ℕ) (tasks n : ℕ) (ds : List DeviceData) → length (with_devices bytes tasks n ds) ≡ length ds
unfolding with_devices
devices_length bytes tasks zero ds = refl
devices_length bytes tasks (suc n) ds = length-set (with_devices bytes tasks n ds) n _ ∙ devices_length bytes tasks n ds

-- those that are not told as yet are as they were
pub devices_left : (bytes : List ℕ) (tasks n k : ℕ) (ds : List DeviceData) (d : DeviceData) → n ≤ k → get_or (with_devices bytes tasks n ds) k d ≡ get_or ds k d
unfolding with_devices
devices_left bytes tasks zero k ds d past = refl
devices_left bytes tasks (suc n) k ds d past =
    let ne : k ≢ n = λ e. omega (arith, e, past) in
    get_or-set_other (with_devices bytes tasks n ds) n k _ d ne ∙ devices_left bytes tasks n k ds d (omega (arith, past))

devices_set : (bytes : List ℕ) (tasks n k : ℕ) (ds : List DeviceData) (d : DeviceData) → k < n → n ≤ length ds → get_or (with_devices bytes tasks n ds) k d ≡ device_from (device_at ds k) (device_in bytes tasks k)
unfolding with_devices
devices_set bytes tasks zero k ds d lt few = absurd (omega (arith, lt))
devices_set bytes tasks (suc n) k ds d lt few =
    let long = devices_length bytes tasks n ds in
    elim (eqb_tells k n) [
      | inl same ↦
          get_or-set_at (with_devices bytes tasks n ds) n k _ d same.1 (omega (arith, long, few))
          ∙ ap (λ (e : DeviceData). device_from e (device_in bytes tasks n)) (devices_left bytes tasks n n ds _ (omega arith))
          ∙ ap (λ j. device_from (device_at ds j) (device_in bytes tasks j)) (sym same.1)
      | inr other ↦ let ne : k ≢ n = other.1 in get_or-set_other (with_devices bytes tasks n ds) n k _ d ne ∙ devices_set bytes tasks n k ds d (omega (arith, lt, ne)) (omega (arith, few))
    ]

-- ## tasks

-- of the first n tasks is kept what the records tell; all else is as it was
pub record AreTold (bytes : List ℕ) (n : ℕ) (s u : State) : Type 0 where
  pub count : length u.tasks ≡ length s.tasks
  pub tasks : (i : ℕ) → i < n → packed u i ≡ slot_told (view_of (task_in bytes i) i)
  pub memory : u.memory ≡ s.memory
  pub clock : u.now ≡ s.now
  pub lines : u.lines ≡ s.lines
  pub current : u.current ≡ s.current
  pub next_call : u.next_call ≡ s.next_call
  pub turn : u.turn ≡ s.turn
  pub devices : u.devices ≡ s.devices

-- another task is told
packed_past : (s : State) (i j : ℕ) (slot : Slot) → IsSameBut i (with_task i (task_at s i) s) (with_slot i slot s) → j ≢ i → packed (with_slot i slot s) j ≡ packed s j
packed_past s i j slot h ne =
    (λ k. packed_task (h.task j ne k) (wait_of (h.call j ne k) (h.listen j ne k))) ∙ packed_other s i j (task_at s i) ne

pub tasks_told : (bytes : List ℕ) (clock n : ℕ) (s : State) → n ≤ length s.tasks → n ≤ 1024 → ((i : ℕ) → i < n → IsGoodRecord clock (task_in bytes i)) → AreTold bytes n s (with_tasks bytes n s)
unfolding with_tasks with_task
tasks_told bytes clock zero s few small good = record {
  count = refl;
  tasks = λ i lt. absurd (omega (arith, lt));
  memory = refl;
  clock = refl;
  lines = refl;
  current = refl;
  next_call = refl;
  turn = refl;
  devices = refl;
}
tasks_told bytes clock (suc n) s few small good =
    let u = with_tasks bytes n s in
    let h = tasks_told bytes clock n s (omega (arith, few)) (omega (arith, small)) (λ i lt. good i (omega (arith, lt))) in
    let slot = slot_told (view_of (task_in bytes n) n) in
    let here = h.count in
    let told = is_told clock n (task_in bytes n) (omega (arith, small)) (good n (omega arith)) in
    let same = same_but-with_slot u n (task_at u n) slot (omega (arith, small)) told in
    record {
      count = same.count ∙ length-with_task u n (task_at u n) ∙ h.count;
      tasks = λ i lt. elim (eqb_tells i n) [
        | inl is ↦
            sym (ap (λ j. packed (with_slot n slot u) j) (sym is.1)) ∙ sym (kept-with_slot u n slot (omega (arith, here, few)) (omega (arith, small)) told).is
            ∙ ap (λ j. slot_told (view_of (task_in bytes j) j)) (sym is.1)
        | inr other ↦ let ne : i ≢ n = other.1 in packed_past u n i slot same ne ∙ h.tasks i (omega (arith, lt, ne))
      ];
      memory = same.memory ∙ h.memory;
      clock = same.now ∙ h.clock;
      lines = same.lines ∙ h.lines;
      current = same.current ∙ h.current;
      next_call = same.next_call ∙ h.next_call;
      turn = same.turn ∙ h.turn;
      devices = devices-with_slot n slot u ∙ h.devices;
    }

-- ## all parts

-- the numbers and the lines, then the tasks, then all else
abbrev pub told_front : List ℕ → Header → State → State
told_front bytes h u = record (with_numbers h u) { lines = with_lines bytes 64 u.lines }

abbrev pub told_from : List ℕ → ℕ → Header → State → State
told_from bytes tasks h u = with_tasks bytes tasks (told_front bytes h u)

abbrev pub told_ram : List ℕ → State → State
told_ram ram s = record s { memory = record s.memory { ram = ram } }

abbrev pub told_devices : List ℕ → ℕ → ℕ → State → State
told_devices bytes tasks devices s = record s { devices = with_devices bytes tasks devices s.devices }

pub loaded_by : (bytes ram : List ℕ) (tasks devices : ℕ) (h : Header) (u : State) → tasks ≡ length u.tasks → devices ≡ length u.devices → h ≡ header_at bytes → ram ≡ drop (ram_place tasks devices) bytes → told_devices bytes tasks devices (told_ram ram (told_from bytes tasks h u)) ≡ loaded bytes u
unfolding loaded
loaded_by bytes ram tasks devices h u e f g r =
    (λ j. told_devices bytes tasks devices (told_ram (r j) (told_from bytes tasks (g j) u)))
    ∙ (λ j. told_devices bytes (e j) (f j) (told_ram (drop (ram_place (e j) (f j)) bytes) (told_from bytes (e j) (header_at bytes) u)))

-- ## what is spelled comes back

pub line_again : (l : Line) → (l.pending ≡ true → l.enabled ≡ false) → line_from (line_number l) ≡ l
line_again l h = by l.enabled l.pending h
  where
    by : (e p : Bool) → (p ≡ true → e ≡ false) → line_from (line_number record { enabled = e; pending = p }) ≡ record { enabled = e; pending = p }
    by true true h = absurd (cc (h refl))
    by true false h = refl
    by false true h = refl
    by false false h = refl

pub device_again : (d e : DeviceData) → e.kind ≡ d.kind → e.base ≡ d.base → device_from d (device_told e) ≡ e
device_again d e kind base =
    let queue = take-append_seam e.queue (replicate (64 - length e.queue) 0) in
    λ j. record { kind = sym kind j; base = sym base j; count = e.count; queue = queue j }

abbrev pub no_device : DeviceData
no_device = record { kind = Console; base = 0; count = 0; queue = [] }

abbrev pub site : DeviceData → Kind × ℕ
site d = (d.kind, d.base)

pub site_at : (ds es : List DeviceData) (k : ℕ) → sites ds ≡ sites es → site (device_at ds k) ≡ site (device_at es k)
site_at ds es k same =
    sym (get_or-map site ds k no_device) ∙ ap (λ (xs : List (Kind × ℕ)). get_or xs k (Console, 0)) same ∙ get_or-map site es k no_device

-- what a board is that may go on from a state of an image
pub record IsFit (g : Setup) (u : State) : Type 0 where
  pub few : length g.tasks ≤ 1024
  pub all_lines : g.line_count ≡ 64
  pub tasks : length u.tasks ≡ length g.tasks
  pub lines : length u.lines ≡ 64
  pub flash : u.memory.flash ≡ g.flash

module _ (g : Setup) (u s : State) (bytes : List ℕ) (clock : ℕ) (fit : IsFit g u) (good : (i : ℕ) → i < length g.tasks → IsGoodRecord clock (task_in bytes i)) (spells : SpellsState g s bytes) (sane : Sane g s) (same : sites s.devices ≡ sites u.devices) where
  abbrev p : Parts
  p = parts_of s

  abbrev told_all : State
  told_all = told_from bytes (length u.tasks) (header_at bytes) u

  parts : AreParts p
  parts = are_parts s (λ i lt. (sane.steady.tasks i lt).sixteen) (λ d has. few_queued d.kind d.count d.queue (sane.steady.devices.sane d has).settable)

  head : header_at bytes ≡ p.header
  head = ap header_at spells.is ∙ header_place p parts

  as_many : length u.tasks ≡ length s.tasks
  as_many = fit.tasks ∙ sym spells.tasks

  beside : length u.devices ≡ length s.devices
  beside = sym (length-map u.devices site) ∙ ap length (sym same) ∙ length-map s.devices site

  task_is : (i : ℕ) → i < length s.tasks → task_in bytes i ≡ record_of s i
  task_is i lt =
      let long = length-map-range_with_len (record_of s) 0 (length s.tasks) in
      ap (λ b. task_in b i) spells.is ∙ task_place p i (record_of s i) parts (omega (arith, lt, long))
      ∙ get_or-map-range_with_len (record_of s) 0 (length s.tasks) i i (record_of s i) lt (omega arith)

  line_is : (k : ℕ) → k < 64 → get_or bytes (36 + k) 0 ≡ line_number (line_at s k)
  line_is k lt =
      ap (λ b. get_or b (36 + k) 0) spells.is ∙ line_place p k parts lt
      ∙ get_or-map-range_with_len (λ j. line_number (line_at s j)) 0 64 k k 0 lt (omega arith)

  device_is : (k : ℕ) → k < length s.devices → device_in bytes (length u.tasks) k ≡ device_told (device_at s.devices k)
  device_is k lt =
      let long = length-map s.devices device_told in
      ap (λ n. device_in bytes n k) as_many ∙ ap (λ b. device_in b (length s.tasks) k) spells.is
      ∙ device_place p k (device_told no_device) parts (omega (arith, lt, long)) ∙ get_or-map device_told s.devices k no_device

  told : AreTold bytes (length u.tasks) (told_front bytes (header_at bytes) u) told_all
  told =
      let n = fit.tasks in
      let few = fit.few in
      tasks_told bytes clock (length u.tasks) _ (omega arith) (omega (arith, n, few)) (λ i lt. good i (omega (arith, lt, n)))

  task_again : (i : ℕ) → i < length s.tasks → packed told_all i ≡ packed s i
  task_again i lt =
      told.tasks i (omega (arith, lt, as_many)) ∙ ap (λ (r : TaskRecord). slot_told (view_of r i)) (task_is i lt)
      ∙ viewed_again g s i sane fit.few spells.small

  lines_again : with_lines bytes 64 u.lines ≡ s.lines
  unfolding line_at
  lines_again =
      let long = lines_length bytes 64 u.lines in
      let mine = fit.lines in
      let its : length s.lines ≡ 64 = spells.lines ∙ fit.all_lines in
      ext_get_or no_line (with_lines bytes 64 u.lines) s.lines (long ∙ mine ∙ sym its) (λ k lt.
      let below : k < 64 = omega (arith, lt, long, mine) in
      lines_set bytes 64 k u.lines no_line below (omega (arith, mine)) ∙ ap line_from (line_is k below) ∙ line_again (line_at s k) (λ e. (sane.steady.lines k e).0))

  devices_again : with_devices bytes (length u.tasks) (length u.devices) u.devices ≡ s.devices
  devices_again =
      let n = length u.devices in
      let long = devices_length bytes (length u.tasks) n u.devices in
      ext_get_or no_device (with_devices bytes (length u.tasks) n u.devices) s.devices (long ∙ beside) (λ k lt.
      let below : k < length s.devices = omega (arith, lt, long, beside) in
      let site = site_at s.devices u.devices k same in
      devices_set bytes (length u.tasks) n k u.devices no_device (omega (arith, lt, long)) (omega arith)
      ∙ ap (device_from (device_at u.devices k)) (device_is k below)
      ∙ device_again (device_at u.devices k) (device_at s.devices k) (ap (λ (x : Kind × ℕ). x.0) site) (ap (λ (x : Kind × ℕ). x.1) site))

  ram_again : drop (ram_place (length u.tasks) (length u.devices)) bytes ≡ s.memory.ram
  ram_again =
      (λ j. drop (ram_place (as_many j) (beside j)) bytes) ∙ (λ j. drop (ram_place (sym (head_tasks) j) (sym head_devices j)) bytes)
      ∙ ap (λ b. drop (ram_place (header_at b).tasks (header_at b).devices) b) spells.is ∙ ap (λ (q : Parts). q.ram) (parts_again p parts)
    where
      head_tasks : (header_at bytes).tasks ≡ length s.tasks
      head_tasks = ap (λ (h : Header). h.tasks) head

      head_devices : (header_at bytes).devices ≡ length s.devices
      head_devices = ap (λ (h : Header). h.devices) head

  pub loaded_alike : AreKeptAlike s (loaded bytes u)
  unfolding loaded task_at call_of listen_of
  loaded_alike = record {
    count = told.count ∙ as_many;
    tasks = task_again;
    memory =
        (λ j. record (told.memory j) { ram = drop (ram_place (length u.tasks) (length u.devices)) bytes })
        ∙ (λ j. record { flash = (fit.flash ∙ sym spells.flash) j; ram = ram_again j });
    now = told.clock ∙ ap (λ (h : Header). h.clock) head;
    lines = told.lines ∙ lines_again;
    current = told.current ∙ ap (λ (h : Header). h.current) head;
    next_call = told.next_call ∙ ap (λ (h : Header). h.next_call) head;
    turn = told.turn ∙ ap (λ (h : Header). h.turn) head;
    devices = ap (with_devices bytes (length u.tasks) (length u.devices)) told.devices ∙ devices_again;
  }
