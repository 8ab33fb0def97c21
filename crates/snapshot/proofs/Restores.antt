-- Bytes that no cause refuses spell a sane state.
use Rattle.std.proofs.Common.{◌≡◌, ◌∙◌, ◌+◌, ◌*◌, ◌%◌, ◌<◌, ◌≤◌, ℕ, zero, suc, Bool, true, false, ltb, List, [], length, length-drop, length-take, map, take, drop, get_or, IfSome, arith, ap, sym, subst, refl}
use Rattle.std.proofs.lemmas.List.Elements.{Contains-get_or}
use Rattle.std.specs.Prelude.{Contains, replicate}
use Rattle.std.specs.List.{range_with_len}
use Rattle.std.proofs.Math.ListN.{get_or-map}
use Rattle.std.proofs.lemmas.List.{length-map, length-replicate, drop-drop, get_or-drop, get_or-take, get_or_past, ext_get_or}
use Rattle.std.proofs.lemmas.List.FromFn.{length-map-range_with_len, get_or-map-range_with_len}
use Rattle.std.proofs.lemmas.Bool.{false≢true, ltb-true, ltb-false}
use Rattle.kernel_abi.specs.declared.Kind.{Kind}
use Rattle.kernel_abi.specs.declared.Kind.TheVariants.{Console}
use Rattle.kernel_abi.specs.Devices as device
use Rattle.task_table.specs.declared.Line.{Line}
use Rattle.task_table.specs.model.Start.{start}
use Rattle.task_table.specs.kept.Parts.{IsSound}
use Rattle.task_table.specs.model.State.{Setup, TaskSetup, Birth, Call, Listen, From, Any, One, KernelOnly, State, Task}
use Rattle.task_table.specs.model.Reading.{task_at, line_at, call_of, listen_of, no_task, no_line}
use Rattle.task_table.specs.model.Sane.{Sane, IsSaneTask, AreLines, AreAhead, Every, IsCounted, IsOwned}
use Rattle.board_model.specs.Alike.{reduced, seen, seen_task, seen_call, seen_listen, seen_from}
use Rattle.image_format.specs.ImageData.{AreBytes}
use Rattle.snapshot.specs.Records as file
use Rattle.snapshot.specs.Records.{header_at, task_in, device_in, tasks_at, devices_at, parts_at, bytes_of, total, devices_place, ram_place}
use Rattle.snapshot.specs.Causes.{kind_at}
use Rattle.snapshot.specs.Waits.{is_good_wait}
use Rattle.snapshot.specs.Accepted.{IsGoodRecord, IsGoodDevice, IsAccepted}
use Rattle.snapshot.specs.Saved.{record_told, record_of, device_told, line_number, parts_of, spelling, expected_of, SpellsState}
use Rattle.snapshot.specs.Restored.{state_in, task_from, call_in, listen_in, line_from, device_from}
use Rattle.snapshot.proofs.Splits.{spelled, num_small, rest_bytes}
use Rattle.snapshot.proofs.Places.{tasks_index, devices_index}
use Rattle.snapshot.proofs.Told.{told_again, task_sane, timer_ahead}
use Rattle.snapshot.proofs.Collected.{made_of, map_same}
use Rattle.snapshot.proofs.Agreed.{own}
use Rattle.snapshot.proofs.Pieces.{small_take, all_small, placed_alike, line_again, pending_owned, device_again, device_sane}
use Rattle.snapshot.proofs.WaitsRestored.{call_found, listen_found, are_calls, are_listens, are_well, are_present, are_unmet, are_unfit}

zero_plus : (i : ℕ) → 0 + i ≡ i
zero_plus i = omega arith

tasks_length : (n : ℕ) (xs : List ℕ) → length (tasks_at n xs) ≡ n
tasks_length zero xs = refl
tasks_length (suc n) xs = ap suc (tasks_length n (drop 132 xs))

devices_length : (n : ℕ) (xs : List ℕ) → length (devices_at n xs) ≡ n
devices_length zero xs = refl
devices_length (suc n) xs = ap suc (devices_length n (drop 72 xs))

abbrev no_device : device.DeviceData
no_device = record { kind = Console; base = 0; count = 0; queue = [] }

module _ (g : Setup) (devices : List device.DeviceData) (bytes : List ℕ) (a : IsAccepted (expected_of g devices) bytes) where
  abbrev n : ℕ
  n = length g.tasks

  abbrev s : State
  s = state_in g devices bytes

  count_tasks : length (map (λ (t : TaskSetup). t.regions) g.tasks) ≡ n
  count_tasks = length-map g.tasks (λ (t : TaskSetup). t.regions)

  count_devices : length (map (λ (d : device.DeviceData). d.kind) devices) ≡ length devices
  count_devices = length-map devices (λ (d : device.DeviceData). d.kind)

  -- ## what stands in it

  good : (i : ℕ) → i < n → IsGoodRecord s.now (task_in bytes i)
  unfolding state_in
  good i lt = a.records i (subst (λ m. i < m) (sym count_tasks) lt)

  waits : (i : ℕ) → i < n → is_good_wait (own g i) (task_in bytes) n s.next_call i ≡ true
  unfolding state_in
  waits i lt = subst (λ m. is_good_wait (own g i) (task_in bytes) m (header_at bytes).next_call i ≡ true) count_tasks (a.waits i (subst (λ m. i < m) (sym count_tasks) lt))

  many : length s.tasks ≡ n
  unfolding state_in
  many = length-map-range_with_len (λ k. task_from (task_in bytes k)) 0 n

  task_is : (i : ℕ) → i < n → task_at s i ≡ task_from (task_in bytes i)
  unfolding state_in task_at
  task_is i lt = get_or-map-range_with_len (λ k. task_from (task_in bytes k)) 0 n i i no_task lt (zero_plus i)

  line_is : (k : ℕ) → k < 64 → line_at s k ≡ line_from (get_or bytes (36 + k) 0)
  unfolding state_in line_at
  line_is k lt = get_or-map-range_with_len (λ j. line_from (get_or bytes (36 + j) 0)) 0 64 k k no_line lt (zero_plus k)

  long_devices : length s.devices ≡ length devices
  unfolding state_in
  long_devices = length-map-range_with_len (λ k. device_from (device.device_at devices k) (device_in bytes n k)) 0 (length devices)

  device_is : (k : ℕ) (d : device.DeviceData) → k < length devices → get_or s.devices k d ≡ device_from (device.device_at devices k) (device_in bytes n k)
  unfolding state_in
  device_is k d lt = get_or-map-range_with_len (λ j. device_from (device.device_at devices j) (device_in bytes n j)) 0 (length devices) k k d lt (zero_plus k)

  long : length bytes ≡ total n (length devices) g.ram
  long = a.long ∙ (λ i. total (count_tasks i) (count_devices i) g.ram)

  as_much : length s.memory.ram ≡ g.ram
  unfolding state_in
  as_much = let rest = length-drop (ram_place n (length devices)) bytes in omega (arith, rest, long)

  pub fits : (k : ℕ) → k < length devices → IsGoodDevice (device.device_at devices k).kind (device_in bytes n k)
  fits k lt =
      let kind : kind_at (map (λ (d : device.DeviceData). d.kind) devices) k ≡ (device.device_at devices k).kind = get_or-map (λ (d : device.DeviceData). d.kind) devices k no_device in
      subst (λ (x : Kind). IsGoodDevice x (device_in bytes n k)) kind (subst (λ m. IsGoodDevice (kind_at (map (λ (d : device.DeviceData). d.kind) devices) k) (device_in bytes m k)) count_tasks (a.fit k (subst (λ m. k < m) (sym count_devices) lt)))

  -- ## the counts

  pub counted : IsCounted s × (s.turn ≤ 1000000000)
  unfolding state_in
  counted = (record { some = a.some_call; calls = a.few_calls; now = a.clock }, a.turn)

  -- ## what is found of a task

  call_is : (i : ℕ) → i < n → call_of s i ≡ call_in i (task_in bytes i)
  unfolding state_in
  call_is = call_found g s (task_in bytes) good waits task_is refl refl

  listen_is : (i : ℕ) → i < n → listen_of s i ≡ listen_in i (task_in bytes i)
  unfolding state_in
  listen_is = listen_found g s (task_in bytes) good waits task_is refl refl

  told : (i : ℕ) → i < n → record_of s i ≡ task_in bytes i
  told i lt = (λ j. record_told (task_is i lt j) (call_is i lt j) (listen_is i lt j)) ∙ told_again s.now i (task_in bytes i) _ _ _ _ _ _ _ _ refl (good i lt)

  -- ## it is spelled

  header_is : header_at bytes ≡ (parts_of s).header
  unfolding state_in
  header_is =
      let tasks = a.tasks ∙ count_tasks ∙ sym many in
      let ram = a.ram ∙ sym as_much in
      let beside = a.devices ∙ count_devices ∙ sym long_devices in
      λ i. record {
        turn = (header_at bytes).turn;
        tasks = tasks i;
        ram = ram i;
        clock = (header_at bytes).clock;
        current = (header_at bytes).current;
        next_call = (header_at bytes).next_call;
        devices = beside i;
      }

  lines_are : take 64 (drop 36 bytes) ≡ (parts_of s).lines
  lines_are =
      let rest = length-drop 36 bytes in
      let front = length-take 64 (drop 36 bytes) in
      let there : length (take 64 (drop 36 bytes)) ≡ 64 = omega (arith, rest, front, long) in
      let told : length (map (λ k. line_number (line_at s k)) (range_with_len 0 64)) ≡ 64 = length-map-range_with_len (λ k. line_number (line_at s k)) 0 64 in
      ext_get_or 0 (take 64 (drop 36 bytes)) (map (λ k. line_number (line_at s k)) (range_with_len 0 64)) (there ∙ sym told) (λ k lt.
      let below : k < 64 = omega (arith, lt, there) in
      get_or-take 64 (drop 36 bytes) k 0 below ∙ get_or-drop 36 bytes k 0 ∙ sym (line_again _ k (get_or bytes (36 + k) 0) (a.lines k below)) ∙ ap line_number (sym (line_is k below))
      ∙ sym (get_or-map-range_with_len (λ j. line_number (line_at s j)) 0 64 k k 0 below (zero_plus k)))

  tasks_are : tasks_at n (drop 100 bytes) ≡ map (record_of s) (range_with_len 0 n)
  tasks_are =
      let there = tasks_length n (drop 100 bytes) in
      let told_all : length (map (record_of s) (range_with_len 0 n)) ≡ n = length-map-range_with_len (record_of s) 0 n in
      ext_get_or (task_in bytes 0) (tasks_at n (drop 100 bytes)) (map (record_of s) (range_with_len 0 n)) (there ∙ sym told_all) (λ i lt.
      let below : i < n = omega (arith, lt, there) in
      tasks_index n i (drop 100 bytes) (task_in bytes 0) below ∙ ap file.task_at (drop-drop (132 * i) 100 bytes) ∙ sym (told i below)
      ∙ sym (get_or-map-range_with_len (record_of s) 0 n i i (task_in bytes 0) below (zero_plus i)))

  queue_long : (k : ℕ) → k < length devices → length (device_in bytes n k).queue ≡ 64
  queue_long k lt =
      let place = devices_place n + 72 * k in
      let rest = length-drop place bytes in
      let behind = length-drop 8 (drop place bytes) in
      let queue = length-take 64 (drop 8 (drop place bytes)) in
      omega (arith, rest, behind, queue, long, lt)

  devices_are : devices_at (length devices) (drop (devices_place n) bytes) ≡ map device_told s.devices
  devices_are =
      let there = devices_length (length devices) (drop (devices_place n) bytes) in
      let told_all : length (map device_told s.devices) ≡ length devices = length-map s.devices device_told ∙ long_devices in
      ext_get_or (device_told no_device) (devices_at (length devices) (drop (devices_place n) bytes)) (map device_told s.devices) (there ∙ sym told_all) (λ k lt.
      let below : k < length devices = omega (arith, lt, there) in
      devices_index (length devices) k (drop (devices_place n) bytes) (device_told no_device) below ∙ ap file.device_at (drop-drop (72 * k) (devices_place n) bytes)
      ∙ sym (device_again (device.device_at devices k) (device_in bytes n k) (queue_long k below) (fits k below)) ∙ ap device_told (sym (device_is k no_device below))
      ∙ sym (get_or-map device_told s.devices k no_device))

  parts_are : parts_at (header_at bytes) bytes ≡ parts_of s
  unfolding state_in
  parts_are =
      let tasks : (header_at bytes).tasks ≡ n = a.tasks ∙ count_tasks in
      let beside : (header_at bytes).devices ≡ length devices = a.devices ∙ count_devices in
      (λ i. record {
        header = header_at bytes;
        lines = take 64 (drop 36 bytes);
        tasks = tasks_at (tasks i) (drop 100 bytes);
        devices = devices_at (beside i) (drop (devices_place (tasks i)) bytes);
        ram = drop (ram_place (tasks i) (beside i)) bytes;
      })
      ∙ (λ i. record {
        header = header_is i;
        lines = lines_are i;
        tasks = tasks_are i;
        devices = devices_are i;
        ram = drop (ram_place n (length devices)) bytes;
      })
      ∙ (λ i. record {
        header = (parts_of s).header;
        lines = (parts_of s).lines;
        tasks = map (record_of s) (range_with_len 0 (sym many i));
        devices = (parts_of s).devices;
        ram = s.memory.ram;
      })

  spelling_is : AreBytes bytes → bytes ≡ spelling s
  spelling_is are =
      let whole : length bytes ≡ total (header_at bytes).tasks (header_at bytes).devices (header_at bytes).ram = a.long ∙ (λ i. total (sym a.tasks i) (sym a.devices i) (sym a.ram i)) in
      spelled bytes are a.letters whole ∙ ap bytes_of parts_are

  -- ## it is sane

  are_ahead : AreAhead Every s
  are_ahead i lt any =
      let below : i < n = subst (λ m. i < m) many lt in
      let r = task_in bytes i in
      subst (λ (t : Task). IfSome t.timer (λ x. s.now < x.deadline)) (sym (task_is i below)) (timer_ahead s.now r.timer record { deadline = r.deadline; bits = r.bits } (good i below).timer)

  are_tasks : (i : ℕ) → i < length s.tasks → IsSaneTask (task_at s i)
  are_tasks i lt =
      let below : i < n = subst (λ m. i < m) many lt in
      subst IsSaneTask (sym (task_is i below)) (task_sane s.now (task_in bytes i) refl (good i below))

  no_more : (k : ℕ) → 64 ≤ k → line_at s k ≡ no_line
  unfolding state_in line_at
  no_more k past =
      let told : length (map (λ j. line_from (get_or bytes (36 + j) 0)) (range_with_len 0 64)) ≡ 64 = length-map-range_with_len (λ j. line_from (get_or bytes (36 + j) 0)) 0 64 in
      get_or_past (map (λ j. line_from (get_or bytes (36 + j) 0)) (range_with_len 0 64)) k no_line (omega (arith, told, past))

  are_lines : AreLines g s
  are_lines k pending = by (ltb k 64) refl
    where
      by : (b : Bool) → ltb k 64 ≡ b → ((line_at s k).enabled ≡ false) × IsOwned g k
      by true is =
          let below : k < 64 = ltb-true k 64 is in
          let line = line_is k below in
          let p = pending_owned g k (get_or bytes (36 + k) 0) (a.lines k below) (ap (λ (l : Line). l.pending) (sym line) ∙ pending) in
          (ap (λ (l : Line). l.enabled) line ∙ p.0, p.1)
      by false is = absurd (false≢true (ap (λ (l : Line). l.pending) (sym (no_more k (ltb-false k 64 is))) ∙ pending))

  device_of : (d : device.DeviceData) → Contains s.devices d → (k : ℕ) × (k < 0 + length devices) × (device_from (device.device_at devices k) (device_in bytes n k) ≡ d)
  unfolding state_in
  device_of d here = made_of (λ k. device_from (device.device_at devices k) (device_in bytes n k)) 0 (length devices) d here

  are_devices : device.AreSaneDevices devices → AreBytes bytes → device.AreSaneDevices s.devices
  are_devices sane are = record {
    few = subst (λ m. m ≤ 8) (sym long_devices) sane.few;
    sane = λ d here. one d (device_of d here);
    apart = λ j k before lt.
        let below : k < length devices = subst (λ m. k < m) long_devices lt in
        let first : j < length devices = omega (arith, before, below) in
        λ same. sane.apart j k before below (ap (λ (d : device.DeviceData). d.base) (sym (device_is j no_device first)) ∙ same ∙ ap (λ (d : device.DeviceData). d.base) (device_is k no_device below));
  }
    where
      one : (d : device.DeviceData) → ((k : ℕ) × (k < 0 + length devices) × (device_from (device.device_at devices k) (device_in bytes n k) ≡ d)) → device.IsSaneDevice d
      one d (k, lt, is) =
          let below : k < length devices = omega (arith, lt) in
          let place = devices_place n + 72 * k in
          let rest = rest_bytes place bytes are in
          subst device.IsSaneDevice is (device_sane (device.device_at devices k) (device_in bytes n k) (sane.sane _ (Contains-get_or devices k no_device below)) (num_small (drop place bytes) 0 rest) (small_take 64 (drop 8 (drop place bytes)) (rest_bytes 8 (drop place bytes) rest)) (fits k below))

  ram_bytes : AreBytes bytes → (i : ℕ) → get_or (drop (ram_place n (length devices)) bytes) i 0 < 256
  ram_bytes are = rest_bytes (ram_place n (length devices)) bytes are

  pub sane : IsSound g → device.AreSaneDevices devices → AreBytes bytes → Sane g s
  unfolding state_in start
  sane sound beside are = record {
    steady = record {
      calls = are_calls g s (task_in bytes) good waits task_is refl refl;
      listens = are_listens g s (task_in bytes) good waits task_is refl refl;
      tasks = are_tasks;
      lines = are_lines;
      as_many = many;
      current = subst (λ m. (header_at bytes).current < m) (count_tasks ∙ sym many) a.current;
      flash = refl;
      flash_bytes = sound.flash_bytes;
      bytes = all_small (drop (ram_place n (length devices)) bytes) (ram_bytes are);
      placed = placed_alike g g.flash (replicate g.ram 0) (drop (ram_place n (length devices)) bytes) (length-replicate {A = ℕ} g.ram 0 ∙ sym as_much) sound.placed;
      devices = are_devices beside are;
    };
    well = are_well g s (task_in bytes) good waits task_is refl refl;
    present = are_present g s (task_in bytes) good waits task_is refl refl;
    unmet = are_unmet g s (task_in bytes) good waits task_is refl refl;
    unfit = are_unfit g s (task_in bytes) good waits task_is refl refl;
    ahead = are_ahead;
  }

  -- ## its births are below 64

  abbrev low : ℕ → ℕ
  low b = b % 64

  low_same : (b : ℕ) → b < 64 → low b ≡ b
  low_same b few = omega (arith, few)

  born_low : (i : ℕ) → i < n → (task_at s i).births < 64
  born_low i lt = let few = (good i lt).generation in let is = ap (λ (t : Task). t.births) (task_is i lt) in omega (arith, few, is)

  task_of : (t : Task) → Contains s.tasks t → (i : ℕ) × (i < 0 + n) × (task_from (task_in bytes i) ≡ t)
  unfolding state_in
  task_of t here = made_of (λ k. task_from (task_in bytes k)) 0 n t here

  same_task : (t : Task) → Contains s.tasks t → seen_task low t ≡ t
  same_task t here =
      let o = task_of t here in
      let below : o.0 < n = omega (arith, o.1) in
      let few = (good o.0 below).generation in
      let is : (task_in bytes o.0).generation ≡ t.births = ap (λ (x : Task). x.births) o.2 in
      let same = low_same t.births (omega (arith, few, is)) in
      λ i. record t { births = same i }

  same_call : (c : Call) → Contains s.calls c → seen_call low c ≡ c
  unfolding state_in
  same_call c here =
      let fit = (are_calls g s (task_in bytes) good waits task_is refl refl).fit c here in
      let present = are_present g s (task_in bytes) good waits task_is refl refl in
      let client = low_same c.client.birth (subst (λ b. b < 64) (present.client c here) (born_low c.client.index fit.client)) in
      let server = low_same c.server.birth (subst (λ b. b < 64) (present.server c here tt) (born_low c.server.index fit.server)) in
      λ i. record c { client = record { index = c.client.index; birth = client i }; server = record { index = c.server.index; birth = server i } }

  same_from : (f : From) → ((b : Birth) → f ≡ One b → b.birth < 64) → seen_from low f ≡ f
  same_from Any few = refl
  same_from (One b) few = let same = low_same b.birth (few b refl) in λ i. One record { index = b.index; birth = same i }
  same_from KernelOnly few = refl

  same_listen : (l : Listen) → Contains s.listens l → seen_listen low l ≡ l
  unfolding state_in
  same_listen l here =
      let fit = (are_listens g s (task_in bytes) good waits task_is refl refl).fit l here in
      let present = are_present g s (task_in bytes) good waits task_is refl refl in
      let from = same_from l.from (λ b e. subst (λ m. m < 64) (present.named l b here e tt) (born_low b.index (fit.names b e).0)) in
      λ i. record l { from = from i }

  small : reduced s ≡ s
  unfolding seen
  small =
      let tasks = map_same (seen_task low) s.tasks same_task in
      let calls = map_same (seen_call low) s.calls same_call in
      let listens = map_same (seen_listen low) s.listens same_listen in
      λ i. record s { tasks = tasks i; calls = calls i; listens = listens i }

  many_lines : length s.lines ≡ 64
  unfolding state_in
  many_lines = length-map-range_with_len (λ k. line_from (get_or bytes (36 + k) 0)) 0 64

  flash_is : s.memory.flash ≡ g.flash
  unfolding state_in
  flash_is = refl

  pub spells : g.line_count ≡ 64 → AreBytes bytes → SpellsState g s bytes
  spells lines are = record {
    tasks = many;
    lines = many_lines ∙ sym lines;
    flash = flash_is;
    ram = as_much;
    small = small;
    is = spelling_is are;
  }
