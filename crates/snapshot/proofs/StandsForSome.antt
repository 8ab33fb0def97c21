-- What a board shares with the state that it stands for, and which bytes spell that state.
use Rattle.std.proofs.Common.{◌≡◌, ◌∙◌, ◌%◌, ◌≤◌, ℕ, Bool, true, false, List, length, refl, sym, ap, subst}
use Rattle.std.specs.Prelude.{Contains}
use Rattle.std.proofs.Math.Nat.{mod-mod}
use Rattle.std.proofs.lemmas.List.{length-map}
use Rattle.kernel_abi.specs.Devices.{DeviceData, AreSaneDevices}
use Rattle.mem_banks.specs.Memory.{Memory}
use Rattle.thumb_exec.specs.declared.cpu.Cpu.{Cpu}
use Rattle.task_table.specs.declared.kernel.Kernel.{Kernel}
use Rattle.task_table.specs.declared.Line.{Line}
use Rattle.task_table.specs.model.State.{Setup, State, Task, Call, Listen, Turn, From, Any, One, KernelOnly}
use Rattle.task_table.specs.model.Effects.{with_processor, with_task}
use Rattle.task_table.specs.kept.Holds.{Holds}
use Rattle.task_table.specs.model.Sane.{Sane}
use Rattle.board_model.specs.Script.{Scenario}
use Rattle.board_model.specs.Alike.{reduced, seen, seen_task, seen_call, seen_from, seen_listen}
use Rattle.board_model.proofs.SaneReduced.{sane-reduced}
use Rattle.board_core.specs.declared.board.Board.{Board}
use Rattle.board_core.specs.declared.space.AddressSpace.{AddressSpace}
use Rattle.board_core.specs.Data.{Shows}
use Rattle.board_core.specs.Machine.{with_cpu, HoldsBy}
use Rattle.board_core.specs.Stands.{Stands}
use Rattle.snapshot.specs.declared.records.Header.{Header}
use Rattle.snapshot.specs.Records.{total}
use Rattle.snapshot.specs.Spelling.{AreParts}
use Rattle.snapshot.specs.Saved.{SpellsState, parts_of, spelling}
use Rattle.snapshot.proofs.Again.{whole_again}
use Rattle.snapshot.proofs.Places.{header_place}
use Rattle.snapshot.proofs.Saves.{are_parts, few_queued}
use Rattle.board_model.proofs.Views.{map_again}

-- ## as much as the image fixes

pub record IsAsLarge (g : Setup) (s : State) : Type 0 where
  pub lines : length s.lines ≡ g.line_count
  pub ram : length s.memory.ram ≡ g.ram

large_held : (g : Setup) (k : Kernel) (t : Turn) → Holds g k t → IsAsLarge g t.state
large_held g k t h = record {
  lines = ap (λ (ls : List Line). length ls) (sym h.lines) ∙ ap (λ (x : Setup). x.line_count) h.setup;
  ram = ap (λ (m : Memory). length m.ram) (sym h.memory) ∙ ap (λ (x : Setup). x.ram) h.setup;
}

large_processed : (g : Setup) (cpu : Cpu) (t : Turn) → IsAsLarge g t.state → IsAsLarge g (with_cpu cpu t).state
unfolding with_processor with_task
large_processed g cpu t h = record { lines = h.lines; ram = h.ram }

large_by : {X : Type 0} {H : X → Type 0} (shown : Shows X H) (loaded : Bool) (g : Setup) (r : AddressSpace X H) (cpu : Cpu) (t : Turn) → HoldsBy shown loaded g r cpu t → IsAsLarge g t.state
large_by shown false g r cpu t h = large_held g r.kernel t h.kernel
large_by shown true g r cpu t h =
    let P : Turn → Type 0 = λ u. IsAsLarge g u.state in
    subst P (sym h.is) (large_processed g cpu h.saved (large_held g r.kernel h.saved h.holds.kernel))

pub large_stood : {X : Type 0} {H : X → Type 0} (shown : Shows X H) (x : Scenario) (b : Board X H) (s : State) → Stands shown x b s → IsAsLarge x.setup s
large_stood shown x b s st = large_by shown b.machine.loaded x.setup b.machine.space b.machine.glider.runner.processor _ st.holds.machine

-- ## births taken modulo 64 once more

abbrev births : ℕ → ℕ
births b = b % 64

from_again : (f : From) → seen_from births (seen_from births f) ≡ seen_from births f
from_again Any = refl
from_again (One b) = ap (λ n. One record { index = b.index; birth = n }) (mod-mod b.birth 64)
from_again KernelOnly = refl

pub reduced_again : (s : State) → reduced (reduced s) ≡ reduced s
unfolding seen
reduced_again s =
    let t = map_again (seen_task births) (λ (x : Task). ap (λ n. record x { births = n }) (mod-mod x.births 64)) s.tasks in
    let c = map_again (seen_call births) (λ (x : Call). λ i. record x { client = record { index = x.client.index; birth = mod-mod x.client.birth 64 i }; server = record { index = x.server.index; birth = mod-mod x.server.birth 64 i } }) s.calls in
    let l = map_again (seen_listen births) (λ (x : Listen). ap (λ f. record x { from = f }) (from_again x.from)) s.listens in
    λ i. record s { tasks = t i; calls = c i; listens = l i }

-- ## what is written spells the state

pub record IsAsLong (s : State) : Type 0 where
  pub tasks : length (reduced s).tasks ≡ length s.tasks
  pub devices : (reduced s).devices ≡ s.devices
  pub ram : (reduced s).memory ≡ s.memory

pub as_long : (s : State) → IsAsLong s
unfolding seen
as_long s = record { tasks = length-map s.tasks (seen_task births); devices = refl; ram = refl }

few_waiting : (devices : List DeviceData) → AreSaneDevices devices → (d : DeviceData) → Contains devices d → length d.queue ≤ 64
few_waiting devices sane d here = few_queued d.kind d.count d.queue (sane.sane d here).settable

pub parts_stood : (g : Setup) (s : State) → Sane g s → AreParts (parts_of (reduced s))
parts_stood g s sane =
    let again = sane-reduced g s sane in
    are_parts (reduced s) (λ i lt. (again.steady.tasks i lt).sixteen) (few_waiting (reduced s).devices again.steady.devices)

pub spelling_long : (g : Setup) (s : State) → Sane g s → length (spelling (reduced s)) ≡ total (length s.tasks) (length s.devices) (length s.memory.ram)
spelling_long g s sane =
    let p = parts_of (reduced s) in
    let parts = parts_stood g s sane in
    let same = as_long s in
    (whole_again p parts).long
    ∙ ap (λ (h : Header). total h.tasks h.devices h.ram) (header_place p parts)
    ∙ (λ i. total (same.tasks i) (length (same.devices i)) (length (same.ram i).ram))

pub spells : (g : Setup) (s : State) (bytes : List ℕ) → Sane g s → IsAsLarge g s → bytes ≡ spelling (reduced s) → SpellsState g (reduced s) bytes
unfolding seen
spells g s bytes sane large e = record {
  tasks = length-map s.tasks (seen_task births) ∙ sane.steady.as_many;
  lines = large.lines;
  flash = sane.steady.flash;
  ram = large.ram;
  small = reduced_again s;
  is = e;
}

-- ## the numbers at the head

pub header_stood : (s : State) (turn tasks ram clock current next_call devices : ℕ) → turn ≡ s.turn → tasks ≡ length s.tasks → ram ≡ length s.memory.ram → clock ≡ s.now → current ≡ s.current → next_call ≡ s.next_call → devices ≡ length s.devices →
    ◌≡◌ {A = Header} (record { turn = turn; tasks = tasks; ram = ram; clock = clock; current = current; next_call = next_call; devices = devices }) (parts_of (reduced s)).header
unfolding seen
header_stood s turn tasks ram clock current next_call devices a b c d e f g =
    let many = b ∙ sym (length-map s.tasks (seen_task births)) in
    λ i. record { turn = a i; tasks = many i; ram = c i; clock = d i; current = e i; next_call = f i; devices = g i }
