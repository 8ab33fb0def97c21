-- The views of tasks, lines and devices of two states that are equal with births modulo 64.
use Rattle.std.proofs.Common.{◌≡◌, ◌∙◌, ℕ, zero, suc, ◌+◌, ◌*◌, ◌%◌, ◌≤◌, ◌<◌, eqb, Bool, cond, ◌||◌, List, [], ◌∷◌, length, get_or, Option, Some, None, refl, sym, ap, arith}
use Rattle.std.specs.Prelude.{find, slice_get, slice_index_or}
use Rattle.std.specs.Option.{option_map}
use Rattle.std.proofs.Math.Nat.{mod-mod}
use Rattle.std.proofs.lemmas.Bool.{lt-ltb, le-ltb}
use Rattle.std.proofs.lemmas.List.{take_all}
use Rattle.std.proofs.lemmas.Option.{slice_get-get_or, slice_get_within}
use Rattle.kernel_abi.specs.Devices.{AreSaneDevices, DeviceData}
use Rattle.kernel_abi.specs.declared.TaskId.{TaskId}
use Rattle.task_table.specs.declared.Line.{Line}
use Rattle.task_table.specs.kept.Holds.{id_at, wait_of}
use Rattle.task_table.specs.model.State.{Birth, LineSetup, Setup, State, Task}
use Rattle.task_table.specs.model.Asking.{asks_at, is_asked}
use Rattle.task_table.specs.model.Reading.{call_of, line_at, listen_of, no_line as no_line_there, task_at}
use Rattle.board_model.specs.Alike.{but_memory, reduced, seen_birth}
use Rattle.board_model.proofs.Alike.{call_alike, count_alike, devices_alike, line_alike, listen_alike, shown, task_alike}
use Rattle.board_model.specs.Script.{Scenario}
use Rattle.board_core.specs.declared.board.Board.{Board}
use Rattle.board_core.specs.declared.device_view.DeviceView.{DeviceView}
use Rattle.board_core.specs.declared.views.TaskView.{TaskView}
use Rattle.board_core.specs.Data.{Shows}
use Rattle.board_core.specs.DeviceViews.{device_told}
use Rattle.board_core.specs.Stands.{Stands}
use Rattle.board_core.specs.Views.{IsTask}
use Rattle.board_core.proofs.Loading.{rest_held}
use Rattle.debug_core.specs.declared.answer.Answer.TheVariants as answered
use Rattle.debug_core.specs.declared.answer.Answer.TheVariants.{Absent, Registers}
use Rattle.debug_core.specs.Answers.{device_by, device_of, irq_by, irq_of, owner_of, registers_of, task_of, task_view}
use Rattle.board_core.proofs.Queues.{few_wait}
use Rattle.snapshot.proofs.SpelledAlike.{wait_seen}
use Rattle.debug_core.proofs.Hitting.{one_same}

abbrev births : ℕ → ℕ
births b = b % 64

same_shown : (u s : State) → reduced u ≡ reduced s → shown births u ≡ shown births s
same_shown u s e = ap but_memory e

-- ---- the registers of a task

pub no_registers : (u s : State) (i : ℕ) → reduced u ≡ reduced s → length u.tasks ≤ i → Absent ≡ registers_of s i
no_registers u s i e past =
    let count = count_alike births u s (same_shown u s e) in
    sym (ap (λ (b : Bool). cond b (Registers (task_at s i).registers (task_at s i).flags) Absent) (le-ltb i (length s.tasks) (omega arith)))

pub its_registers : (u s : State) (i : ℕ) (v : TaskView) → reduced u ≡ reduced s → IsTask u i v → Registers v.regs v.flags ≡ registers_of s i
its_registers u s i v e k =
    let h = same_shown u s e in
    let count = count_alike births u s h in
    let task = task_alike births u s i h in
    let regs = k.regs ∙ ap (λ (t : Task). t.registers) task in
    let flags = k.flags ∙ ap (λ (t : Task). t.flags) task in
    let inside = k.inside in
    (λ j. Registers (regs j) (flags j))
    ∙ sym (ap (λ (b : Bool). cond b (Registers (task_at s i).registers (task_at s i).flags) Absent) (lt-ltb i (length s.tasks) (omega arith)))

-- ---- what a task waits for: it is told by ids, which have births modulo 64

abbrev named : ℕ → ℕ → TaskId
named index birth = record { number = index + 1024 * birth }

same_id : (b : Birth) → id_at (seen_birth births b) ≡ id_at b
same_id b = ap (named b.index) (mod-mod b.birth 64)

same_wait : (u s : State) (i : ℕ) → shown births u ≡ shown births s → wait_of (call_of u i) (listen_of u i) ≡ wait_of (call_of s i) (listen_of s i)
same_wait u s i h =
    let call = call_alike births u s i h in
    let listen = listen_alike births u s i h in
    sym (wait_seen (call_of u i) (listen_of u i)) ∙ (λ j. wait_of (call j) (listen j)) ∙ wait_seen (call_of s i) (listen_of s i)

-- ---- how a task is

same_view : (u s : State) (i : ℕ) (v : TaskView) → shown births u ≡ shown births s → IsTask u i v → v ≡ task_view s i
same_view u s i v h k =
    let task = task_alike births u s i h in
    let generation : v.generation ≡ (task_at s i).births % 64 = k.generation ∙ ap (λ (t : Task). t.births) task in
    let health = k.health ∙ ap (λ (t : Task). t.health) task in
    let regs = k.regs ∙ ap (λ (t : Task). t.registers) task in
    let flags = k.flags ∙ ap (λ (t : Task). t.flags) task in
    let posted = k.posted ∙ ap (λ (t : Task). t.posted) task in
    let timer = k.timer ∙ ap (λ (t : Task). option_map (λ timer. (timer.deadline, timer.bits)) t.timer) task in
    let waits = k.wait ∙ same_wait u s i h in
    λ j. record { generation = generation j; health = health j; regs = regs j; flags = flags j; posted = posted j; timer = timer j; wait = waits j }

pub no_task : (u s : State) (i : ℕ) → reduced u ≡ reduced s → length u.tasks ≤ i → Absent ≡ task_of s i
no_task u s i e past =
    let count = count_alike births u s (same_shown u s e) in
    sym (ap (λ (b : Bool). cond b (answered.Task i (task_view s i)) Absent) (le-ltb i (length s.tasks) (omega arith)))

pub its_task : (u s : State) (i : ℕ) (v : TaskView) → reduced u ≡ reduced s → IsTask u i v → answered.Task i v ≡ task_of s i
its_task u s i v e k =
    let h = same_shown u s e in
    let count = count_alike births u s h in
    let inside = k.inside in
    ap (answered.Task i) (same_view u s i v h k)
    ∙ sym (ap (λ (b : Bool). cond b (answered.Task i (task_view s i)) Absent) (lt-ltb i (length s.tasks) (omega arith)))

-- ---- an interrupt line

abbrev pub told_line : Line → Bool × Bool
told_line l = (l.enabled, l.pending)

no_pair : {A : Type 0} (a : A) → ◌≡◌ {A = Option A} None (Some a) → ⊥
no_pair a e = cc

all_lines : {X : Type 0} {H : X → Type 0} (shown : Shows X H) (x : Scenario) (b : Board X H) (s : State) → Stands shown x b s → length s.lines ≡ 64
all_lines shown x b s st =
    let rest = rest_held shown b.machine.loaded x.setup b.machine.space b.machine.glider.runner.processor _ st.holds.machine in
    ap (λ (ls : List Line). length ls) (rest.rest.lines ∙ sym rest.holds.lines) ∙ b.machine.space.kernel.all_lines

-- there are 64 lines
pub no_line : {X : Type 0} {H : X → Type 0} (shown : Shows X H) (x : Scenario) (b : Board X H) (s : State) (number : ℕ) → Stands shown x b s → number < 64 → None ≡ option_map told_line (slice_get s.lines number) → ⊥
no_line shown x b s number st lt e = let all = all_lines shown x b s st in by s.lines number (omega arith) e
  where
    by : (ls : List Line) (k : ℕ) → k < length ls → None ≡ option_map told_line (slice_get ls k) → ⊥
    by [] k lt e = absurd (omega arith)
    by (l ∷ ls) zero lt e = no_pair (told_line l) e
    by (l ∷ ls) (suc k) lt e = by ls k (omega arith) e

line_is : (s : State) (number : ℕ) (line : Bool × Bool) → Some line ≡ option_map told_line (slice_get s.lines number) → line ≡ told_line (line_at s number)
unfolding line_at
line_is s number line e = by s.lines number e
  where
    by : (ls : List Line) (k : ℕ) → Some line ≡ option_map told_line (slice_get ls k) → line ≡ told_line (slice_index_or ls k no_line_there)
    by [] k e = absurd (no_pair line (sym e))
    by (l ∷ ls) zero e = cc
    by (l ∷ ls) (suc k) e = by ls k e

irq_is : (s : State) (number : ℕ) (o : Option LineSetup) (owner : LineSetup) (line : Bool × Bool) (pending : Bool) → Some owner ≡ o → line ≡ told_line (line_at s number) → pending ≡ (line.1 || is_asked s owner) →
    answered.Irq number owner.owner owner.bits line.0 pending ≡ irq_by s number o
irq_is s number None owner line pending e h k = absurd (no_pair owner (sym e))
irq_is s number (Some l) owner line pending e h k =
    let same : owner ≡ l = cc in
    let is : pending ≡ ((line_at s number).pending || is_asked s l) = k ∙ ap (λ (held : Bool). held || is_asked s owner) (λ j. (h j).1) ∙ ap (λ (o : LineSetup). (line_at s number).pending || is_asked s o) same in
    λ j. answered.Irq number (same j).owner (same j).bits (h j).0 (is j)

-- the line of this owner: an interrupt is pending where one is held or the device asks
pub its_line : (g : Setup) (s : State) (number : ℕ) (lines : List LineSetup) (owner : LineSetup) (line : Bool × Bool) (asks pending : Bool) → lines ≡ g.lines → Some owner ≡ find (λ (l : LineSetup). eqb l.line number) lines →
    Some line ≡ option_map told_line (slice_get s.lines number) → asks ≡ is_asked s owner → pending ≡ (line.1 || asks) → answered.Irq number owner.owner owner.bits line.0 pending ≡ irq_of g s number
its_line g s number lines owner line asks pending same e h k is =
    irq_is s number (owner_of g number) owner line pending (e ∙ ap (find (λ (l : LineSetup). eqb l.line number)) same) (line_is s number line h) (is ∙ ap (λ (b : Bool). line.1 || b) k)

pub irq_same : (g : Setup) (u s : State) (number : ℕ) → reduced u ≡ reduced s → irq_of g u number ≡ irq_of g s number
irq_same g u s number e = by (owner_of g number)
  where
    by : (o : Option LineSetup) → irq_by u number o ≡ irq_by s number o
    by None = refl
    by (Some l) =
        let line = line_alike births u s number (same_shown u s e) in
        let asks : is_asked u l ≡ is_asked s l = ap (λ (ds : List DeviceData). asks_at ds l.device) (devices_alike births u s (same_shown u s e)) in
        λ j. answered.Irq number l.owner l.bits (line j).enabled ((line j).pending || asks j)

-- ---- a device

pub no_device : (s : State) (k : ℕ) → ◌≡◌ {A = Option DeviceData} None (slice_get s.devices k) → Absent ≡ device_of s k
no_device s k e = ap (device_by k) e

-- at most 64 bytes wait in it
few_waiting : (ds : List DeviceData) (k : ℕ) (d : DeviceData) → AreSaneDevices ds → Some d ≡ slice_get ds k → length d.queue ≤ 64
few_waiting ds k d sane e =
    let lt = slice_get_within ds k d (sym e) in
    let is = one_same (get_or ds k d) d (sym (slice_get-get_or ds k d lt) ∙ sym e) in
    few_wait d.kind d.count d.queue (sane.sane d (k, lt, is)).settable

pub its_device : (s : State) (k : ℕ) (v : DeviceView) → AreSaneDevices s.devices → Some (device_told v) ≡ slice_get s.devices k → answered.Device k v.kind v.base v.count v.queue ≡ device_of s k
its_device s k v sane e =
    let few = few_waiting s.devices k (device_told v) sane e in
    ap (λ (bytes : List ℕ). answered.Device k v.kind v.base v.count (record { items = bytes })) (sym (take_all 64 v.queue.items few)) ∙ ap (device_by k) e

pub device_same : (u s : State) (k : ℕ) → reduced u ≡ reduced s → device_of u k ≡ device_of s k
device_same u s k e = ap (λ (ds : List DeviceData). device_by k (slice_get ds k)) (devices_alike births u s (same_shown u s e))
