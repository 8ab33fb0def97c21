-- A board that is saved as some bytes stands for each sane state that they spell.
use Rattle.std.proofs.Common.{◌≡◌, ◌∙◌, ◌+◌, ◌*◌, ◌%◌, ◌<◌, ◌≤◌, ℕ, List, length, get_or, Option, Some, None, arith, ap, sym, refl}
use Rattle.std.specs.Prelude.{option_map}
use Rattle.std.proofs.Math.ListN.{get_or-map}
use Rattle.std.proofs.Math.Nat.{mod-mod}
use Rattle.std.proofs.lemmas.List.{length-map, ext_get_or}
use Rattle.std.proofs.lemmas.List.FromFn.{get_or-map-range_with_len}
use Rattle.kernel_abi.specs.Ids.{id_of}
use Rattle.kernel_abi.specs.declared.Kind.{Kind}
use Rattle.kernel_abi.specs.Devices.{device_at}
use Rattle.task_table.specs.declared.slot.FromId.TheVariants as from_id
use Rattle.task_table.specs.declared.slot.Wait.{Wait}
use Rattle.task_table.specs.declared.slot.Wait.TheVariants as wait
use Rattle.task_table.specs.model.State.{Setup, Task, Call, Listen, From, Any, One, KernelOnly, State}
use Rattle.task_table.specs.model.Reading.{task_at, line_at, call_of, listen_of, no_line}
use Rattle.task_table.specs.kept.Holds.{from_id_of, kept_call, kept_listen, packed, packed_task, wait_of}
use Rattle.task_table.specs.model.Sane.{Sane, IsCounted}
use Rattle.task_table.specs.kept.Setting.{AreKeptAlike}
use Rattle.board_model.specs.Alike.{reduced, seen, seen_task, seen_call, seen_from, seen_listen}
use Rattle.board_model.specs.Script.{Scenario}
use Rattle.board_model.proofs.Alike.{call_alike, listen_alike}
use Rattle.board_model.proofs.GenerationsSeen.{shown_reduced}
use Rattle.board_model.proofs.SaneReduced.{sane-reduced}
use Rattle.board_core.specs.declared.board.Board.{Board}
use Rattle.board_core.specs.Data.{Shows}
use Rattle.board_core.specs.Setting.{slot_told}
use Rattle.board_core.specs.Stands.{Stands}
use Rattle.board_core.proofs.KeptAlike.{stands_alike}
use Rattle.snapshot.specs.declared.records.Header.{Header}
use Rattle.snapshot.specs.declared.records.TaskRecord.{TaskRecord}
use Rattle.snapshot.specs.Loaded.{sites}
use Rattle.snapshot.specs.Records.{Parts, header_at, parts_at}
use Rattle.snapshot.specs.Restored.{device_from, line_from}
use Rattle.snapshot.specs.Saved.{SpellsState, device_told, line_number, parts_of, record_of}
use Rattle.snapshot.specs.Spelling.{AreParts}
use Rattle.snapshot.specs.Views.{view_of}
use Rattle.snapshot.proofs.Again.{parts_again}
use Rattle.snapshot.proofs.Boards.{fit}
use Rattle.snapshot.proofs.Loads.{device_again, line_again, no_device, site, site_at}
use Rattle.snapshot.proofs.Saves.{are_parts, few_queued, reduced_task}
use Rattle.snapshot.proofs.StandsForSome.{as_long}
use Rattle.snapshot.proofs.TaskViews.{viewed_again}

-- ## states that the same bytes spell

parts_spelled : (g : Setup) (s : State) → Sane g s → AreParts (parts_of s)
parts_spelled g s sane = are_parts s (λ i lt. (sane.steady.tasks i lt).sixteen) (λ d has. few_queued d.kind d.count d.queue (sane.steady.devices.sane d has).settable)

module _ (g : Setup) (s u : State) (bytes : List ℕ) (one : SpellsState g s bytes) (other : SpellsState g u bytes) (hs : Sane g s) (hu : Sane g u) (few : length g.tasks ≤ 1024) (all_lines : g.line_count ≡ 64) (same : sites s.devices ≡ sites u.devices) where
  parts : parts_of u ≡ parts_of s
  parts =
      sym (parts_again (parts_of u) (parts_spelled g u hu))
      ∙ ap (λ b. parts_at (header_at b) b) (sym other.is ∙ one.is)
      ∙ parts_again (parts_of s) (parts_spelled g s hs)

  head : (parts_of u).header ≡ (parts_of s).header
  head = ap (λ (p : Parts). p.header) parts

  count : length u.tasks ≡ length s.tasks
  count = other.tasks ∙ sym one.tasks

  record_same : (i : ℕ) → i < length s.tasks → record_of u i ≡ record_of s i
  record_same i lt =
      sym (get_or-map-range_with_len (record_of u) 0 (length u.tasks) i i (record_of s i) (omega (arith, lt, count)) (omega arith))
      ∙ ap (λ (p : Parts). get_or p.tasks i (record_of s i)) parts
      ∙ get_or-map-range_with_len (record_of s) 0 (length s.tasks) i i (record_of s i) lt (omega arith)

  task_same : (i : ℕ) → i < length s.tasks → packed u i ≡ packed s i
  task_same i lt = sym (viewed_again g u i hu few other.small) ∙ ap (λ (r : TaskRecord). slot_told (view_of r i)) (record_same i lt) ∙ viewed_again g s i hs few one.small

  line_same : (k : ℕ) → k < 64 → line_at u k ≡ line_at s k
  line_same k lt =
      sym (line_again (line_at u k) (λ e. (hu.steady.lines k e).0))
      ∙ ap line_from (
      sym (get_or-map-range_with_len (λ j. line_number (line_at u j)) 0 64 k k 0 lt (omega arith))
      ∙ ap (λ (p : Parts). get_or p.lines k 0) parts
      ∙ get_or-map-range_with_len (λ j. line_number (line_at s j)) 0 64 k k 0 lt (omega arith)
      )
      ∙ line_again (line_at s k) (λ e. (hs.steady.lines k e).0)

  lines_same : u.lines ≡ s.lines
  unfolding line_at
  lines_same = ext_get_or no_line u.lines s.lines (other.lines ∙ sym one.lines) (λ k lt. let many = other.lines in line_same k (omega (arith, lt, many, all_lines)))

  beside : length u.devices ≡ length s.devices
  beside = sym (length-map u.devices site) ∙ ap length (sym same) ∙ length-map s.devices site

  devices_same : u.devices ≡ s.devices
  devices_same = ext_get_or no_device u.devices s.devices beside (λ k lt.
      let places = site_at s.devices u.devices k same in
      let told : device_told (device_at u.devices k) ≡ device_told (device_at s.devices k) =
      sym (get_or-map device_told u.devices k no_device) ∙ ap (λ (p : Parts). get_or p.devices k (device_told no_device)) parts ∙ get_or-map device_told s.devices k no_device in
      sym (device_again (device_at u.devices k) (device_at u.devices k) refl refl)
      ∙ ap (device_from (device_at u.devices k)) told
      ∙ device_again (device_at u.devices k) (device_at s.devices k) (ap (λ (x : Kind × ℕ). x.0) places) (ap (λ (x : Kind × ℕ). x.1) places))

  pub spelled_alike : AreKeptAlike s u
  spelled_alike = record {
    count = count;
    tasks = task_same;
    memory = λ j. record { flash = (other.flash ∙ sym one.flash) j; ram = (parts j).ram };
    now = ap (λ (h : Header). h.clock) head;
    lines = lines_same;
    current = ap (λ (h : Header). h.current) head;
    next_call = ap (λ (h : Header). h.next_call) head;
    turn = ap (λ (h : Header). h.turn) head;
    devices = devices_same;
  }

-- ## a state is kept as it is with its births modulo 64

abbrev births : ℕ → ℕ
births b = b % 64

-- an id tells the generation of a birth alone
pub same_id : (i b : ℕ) → id_of i (b % 64) ≡ id_of i b
same_id i b = ap (λ n. i + 1024 * n) (mod-mod b 64)

pub from_seen : (f : From) → from_id_of (seen_from births f) ≡ from_id_of f
from_seen Any = refl
from_seen (One b) = ap (λ n. from_id.One record { number = n }) (same_id b.index b.birth)
from_seen KernelOnly = refl

pub call_seen : (c : Call) → kept_call (seen_call births c) ≡ kept_call c
call_seen c = λ i. record {
  number = c.number;
  client = record { number = same_id c.client.index c.client.birth i };
  server = record { number = same_id c.server.index c.server.birth i };
  operation = c.operation;
  message = c.message;
  reply = c.reply;
  table = c.table;
  leases = c.leases;
  phase = c.phase;
}

listen_seen : (l : Listen) → kept_listen (seen_listen births l) ≡ kept_listen l
listen_seen l = λ i. record { from = from_seen l.from i; mask = l.mask; buffer = l.buffer }

pub wait_seen : (c : Option Call) (l : Option Listen) → wait_of (option_map (seen_call births) c) (option_map (seen_listen births) l) ≡ wait_of c l
wait_seen (Some c) l = ap wait.Call (call_seen c)
wait_seen None (Some l) = ap wait.Listen (listen_seen l)
wait_seen None None = refl

task_seen : (t : Task) (w : Wait) → packed_task (seen_task births t) w ≡ packed_task t w
task_seen t w = ap (λ n. record (packed_task t w) { generation = record { number = n } }) (mod-mod t.births 64)

packed_reduced : (s : State) (i : ℕ) → packed s i ≡ packed (reduced s) i
packed_reduced s i =
    let p = call_alike births s (reduced s) i (sym (shown_reduced s)) in
    let q = listen_alike births s (reduced s) i (sym (shown_reduced s)) in
    let waits : wait_of (call_of s i) (listen_of s i) ≡ wait_of (call_of (reduced s) i) (listen_of (reduced s) i) =
    sym (wait_seen (call_of s i) (listen_of s i)) ∙ (λ j. wait_of (p j) (q j)) ∙ wait_seen (call_of (reduced s) i) (listen_of (reduced s) i) in
    sym (task_seen (task_at s i) (wait_of (call_of s i) (listen_of s i)))
    ∙ (λ j. packed_task (sym (reduced_task s i) j) (waits j))

kept_reduced : (s : State) → AreKeptAlike (reduced s) s
unfolding seen
kept_reduced s = record {
  count = sym (as_long s).tasks;
  tasks = λ i lt. packed_reduced s i;
  memory = refl;
  now = refl;
  lines = refl;
  current = refl;
  next_call = refl;
  turn = refl;
  devices = refl;
}

kept_then : (s u v : State) → AreKeptAlike s u → AreKeptAlike u v → AreKeptAlike s v
kept_then s u v a b = record {
  count = b.count ∙ a.count;
  tasks = λ i lt. b.tasks i (let same = a.count in omega (arith, lt, same)) ∙ a.tasks i lt;
  memory = b.memory ∙ a.memory;
  now = b.now ∙ a.now;
  lines = b.lines ∙ a.lines;
  current = b.current ∙ a.current;
  next_call = b.next_call ∙ a.next_call;
  turn = b.turn ∙ a.turn;
  devices = b.devices ∙ a.devices;
}

-- ## a board

pub stands_spelled : {X : Type 0} {H : X → Type 0} (shown : Shows X H) (x : Scenario) (b : Board X H) (u s : State) (bytes : List ℕ) → Stands shown x b u → SpellsState x.setup (reduced u) bytes →
    SpellsState x.setup s bytes → Sane x.setup s → IsCounted s → sites s.devices ≡ sites u.devices → Stands shown x b s
stands_spelled shown x b u s bytes st saved spelled sane counted same =
    let f = fit shown x b u st in
    let alike = spelled_alike x.setup s (reduced u) bytes spelled saved sane (sane-reduced x.setup u st.sane) f.few f.all_lines (same ∙ ap sites (sym (as_long u).devices)) in
    stands_alike shown x b s u st.holds (kept_then s (reduced u) u alike (kept_reduced u)) sane counted
