-- What the executor says over the bus is the turn's instruction.
use Rattle.std.proofs.Common.{◌≡◌, ◌+◌, ◌≤◌, ℕ, List, [], ◌∷◌, length, cond, refl, ◌∙◌, ap, subst, arith}
use Rattle.std.specs.Prelude.{fold}
use Rattle.kernel_abi.specs.declared.Fault.{Fault}
use Rattle.thumb_insn.specs.declared.Insn.{Insn}
use Rattle.thumb_insn.specs.Range.{IsCoded}
use Rattle.thumb_exec.specs.Keeps.{Keeps}
use Rattle.thumb_exec.proofs.Keeping.{keeps}
use Rattle.board_model.proofs.TurnChains.{whole_cpu}
use Rattle.board_core.proofs.Reaching.{holds_devices}
use Rattle.thumb_exec.specs.declared.cpu.Cpu.{Cpu}
use Rattle.thumb_exec.specs.declared.cpu.Outcome.{Outcome}
use Rattle.thumb_exec.specs.declared.cpu.Outcome.TheVariants as outcome
use Rattle.kernel_abi.specs.Devices.{DeviceData, AreFresh, device_number}
use Rattle.thumb_exec.specs.Effect.{Effect, Next, Syscall, Trap, Move, Puts, Takes, Moves, Acts, effect}
use Rattle.task_table.specs.declared.kernel.Kernel.{Kernel}
use Rattle.task_table.specs.model.State.{Setup, State, Turn}
use Rattle.task_table.specs.model.Reading.{task_at, call_of, listen_of, is_ready, chosen}
use Rattle.task_table.specs.model.Effects.{with_devices}
use Rattle.task_table.proofs.model.Equipped.{sane-devices}
use Rattle.task_table.proofs.kept.Starts.{counted-start}
use Rattle.kernel_abi.proofs.Devices.{fresh_sane}
use Rattle.task_table.specs.kept.Holds.{Holds, Stands, setup_of, current_of, memory_of, notes_of, kept_of, note_count}
use Rattle.task_table.specs.kept.Limits.{turn_notes}
use Rattle.mem_banks.specs.Memory.{Memory, number_at}
use Rattle.task_table.specs.model.Start.{begun, start}
use Rattle.task_table.specs.model.Sane.{Sane, IsCounted}
use Rattle.task_table.proofs.kept.Steps.{holds_turn}
use Rattle.board_core.specs.declared.space.AddressSpace.{AddressSpace}
use Rattle.board_model.specs.Turn.{refusals, is_device, or_zero, held, cpu_of, put, took, moved}
use Rattle.board_core.specs.Machine.{SpaceHolds, IsStored, IsTaken, shown_by}
use Rattle.board_core.specs.declared.choice.Choice.{Choice}
use Rattle.board_core.specs.Kept.{IsChoice}
use Rattle.board_core.specs.Data.{Shows, data_of}

-- what the bus says of a store
abbrev pub stored_by : {X : Type 0} {H : X → Type 0} (shown : Shows X H) → AddressSpace X H → ℕ → ℕ → ℕ → AddressSpace X H → Type 0
stored_by shown m a n v m' = IsStored shown m a n v m'

-- what it says of a load
abbrev pub taken_by : {X : Type 0} {H : X → Type 0} (shown : Shows X H) → AddressSpace X H → ℕ → AddressSpace X H → Type 0
taken_by shown m a m' = IsTaken shown m a m'

-- ## moves through the bus are the turn's

pub moves_notes : {X : Type 0} {H : X → Type 0} (shown : Shows X H) (ms : List Move) (m m' : AddressSpace X H) → Moves (stored_by shown) (taken_by shown) m ms m' → note_count m'.kernel ≤ note_count m.kernel + length ms
moves_notes {X} {H} shown [] m m' e = let same = ap (λ (n : AddressSpace X H). note_count n.kernel) e in omega (arith, same)
moves_notes shown (Puts x ∷ xs) m m' e = let more = e.1.notes in let rest = moves_notes shown xs e.0 m' e.2 in omega (arith, more, rest)
moves_notes shown (Takes a n ∷ xs) m m' e = let same = ap (λ (k : Kernel). note_count k) e.1.kernel in let rest = moves_notes shown xs e.0 m' e.2 in omega (arith, same, rest)

-- where there is room for a note of each
pub moves_hold : {X : Type 0} {H : X → Type 0} (shown : Shows X H) (ms : List Move) (m m' : AddressSpace X H) → Moves (stored_by shown) (taken_by shown) m ms m' → note_count m.kernel + length ms ≤ turn_notes → (g : Setup) (t : Turn) → SpaceHolds shown g m t → SpaceHolds shown g m' (fold moved t ms)
moves_hold shown [] m m' e room g t h = rw e h
moves_hold shown (Puts x ∷ xs) m m' e room g t h = let more = e.1.notes in moves_hold shown xs e.0 m' e.2 (omega (arith, room, more)) g (put t x) (e.1.holds g t (omega (arith, room)) h)
moves_hold shown (Takes a n ∷ xs) m m' e room g t h = let same = ap (λ (k : Kernel). note_count k) e.1.kernel in moves_hold shown xs e.0 m' e.2 (omega (arith, room, same)) g (took t a) (e.1.holds g t h)

-- ## what came of an instruction

-- what bytes hold, by the memory and the devices
abbrev pub held_in : Memory → List DeviceData → ℕ → ℕ → ℕ
held_in m ds a n = cond (is_device a) (or_zero (device_number ds a n)) (number_at m a n)

-- the effect by the bus is the effect by the turn
pub effect_here : {X : Type 0} {H : X → Type 0} (shown : Shows X H) (g : Setup) (t : Turn) (r : AddressSpace X H) (cpu : Cpu) (insn : Insn) → setup_of r.kernel ≡ g → current_of r.kernel ≡ t.state.current → memory_of r.kernel ≡ t.state.memory → data_of shown r.devices ≡ t.state.devices → cpu ≡ cpu_of (task_at t.state t.state.current) →
    effect (refusals (setup_of r.kernel) (current_of r.kernel)) (shown_by shown r) cpu insn ≡ effect (refusals g t.state.current) (held t.state) (cpu_of (task_at t.state t.state.current)) insn
effect_here shown g t r cpu insn setup current memory devices same =
    ap (λ (x : Setup). effect (refusals x (current_of r.kernel)) (shown_by shown r) cpu insn) setup
    ∙ ap (λ (c : ℕ). effect (refusals g c) (shown_by shown r) cpu insn) current
    ∙ ap (λ (m : Memory). effect (refusals g t.state.current) (held_in m (data_of shown r.devices)) cpu insn) memory
    ∙ ap (λ (ds : List DeviceData). effect (refusals g t.state.current) (held_in t.state.memory ds) cpu insn) devices
    ∙ ap (λ (c : Cpu). effect (refusals g t.state.current) (held t.state) c insn) same

pub record WasNext {X : Type 0} {H : X → Type 0} (shown : Shows X H) (c' : Cpu) (m m' : AddressSpace X H) (e : Effect) : Type 0 where
  pub processor : Cpu
  pub moves : List Move
  pub is : e ≡ Next processor moves
  pub after : c' ≡ processor
  pub bus : Moves (stored_by shown) (taken_by shown) m moves m'

pub was_next : {X : Type 0} {H : X → Type 0} (shown : Shows X H) (c c' : Cpu) (m m' : AddressSpace X H) (o : Outcome) (e : Effect) → Acts (stored_by shown) (taken_by shown) c c' m m' o e → o ≡ outcome.Next → WasNext shown c' m m' e
was_next shown c c' m m' o (Next d ms) a p = record { processor = d; moves = ms; is = refl; after = a.1; bus = a.2 }
was_next shown c c' m m' o Syscall a p = absurd (let q : o ≡ outcome.Call = a.0 in cc)
was_next shown c c' m m' o (Trap f) a p = absurd (let q : o ≡ outcome.Trap f = a.0 in cc)

pub was_syscall : {X : Type 0} {H : X → Type 0} (shown : Shows X H) (c c' : Cpu) (m m' : AddressSpace X H) (o : Outcome) (e : Effect) → Acts (stored_by shown) (taken_by shown) c c' m m' o e → o ≡ outcome.Call → (e ≡ Syscall) × (m' ≡ m) × (c' ≡ c)
was_syscall shown c c' m m' o (Next d ms) a p = absurd (let q : o ≡ outcome.Next = a.0 in cc)
was_syscall shown c c' m m' o Syscall a p = (refl, a.2, a.1)
was_syscall shown c c' m m' o (Trap f) a p = absurd (let q : o ≡ outcome.Trap f = a.0 in cc)

pub was_trap : {X : Type 0} {H : X → Type 0} (shown : Shows X H) (c c' : Cpu) (m m' : AddressSpace X H) (o : Outcome) (e : Effect) (f : Fault) → Acts (stored_by shown) (taken_by shown) c c' m m' o e → o ≡ outcome.Trap f → (e ≡ Trap f) × (m' ≡ m) × (c' ≡ c)
was_trap shown c c' m m' o (Next d ms) f a p = absurd (let q : o ≡ outcome.Next = a.0 in cc)
was_trap shown c c' m m' o Syscall f a p = absurd (let q : o ≡ outcome.Call = a.0 in cc)
was_trap shown c c' m m' o (Trap d) f a p = (let q : o ≡ outcome.Trap d = a.0 in let r : d ≡ f = cc in ap Trap r, a.2, a.1)

-- an instruction makes at most sixteen moves
pub moves_few : (g : Setup) (t : Turn) (insn : Insn) (d : Cpu) (ms : List Move) → Sane g t.state → IsCoded insn →
    effect (refusals g t.state.current) (held t.state) (cpu_of (task_at t.state t.state.current)) insn ≡ Next d ms → length ms ≤ 16
moves_few g t insn d ms sane coded is =
    let whole = whole_cpu t.state.current t sane sane.steady.current in
    let P : Effect → Type 0 = λ e. Keeps (refusals g t.state.current) e in
    (subst P is (keeps (refusals g t.state.current) (held t.state) (cpu_of (task_at t.state t.state.current)) insn coded whole)).2

-- ## the turn

-- the kernel between turns: what the turn noted is still there
pub between : (g : Setup) (k : Kernel) (u : Turn) (n : ℕ) → Holds g k u → Holds g k record { state = record u.state { turn = n }; notes = notes_of k; writes = []; reads = [] }
between g k u n h =
    let h1 = holds_turn g (kept_of k) u n h in
    record {
      setup = h1.setup;
      count = h1.count;
      many = h1.many;
      tasks = h1.tasks;
      notes = refl;
      memory = h1.memory;
      now = h1.now;
      lines = h1.lines;
      current = h1.current;
      next_call = h1.next_call;
    }

-- the start, with devices as they were handed in
abbrev pub started : Setup → List DeviceData → State
started g ds = record (start g) { devices = ds }

-- a kernel at the start of a run stands for the start, between turns
pub opened : (g : Setup) (ds : List DeviceData) (k : Kernel) → AreFresh ds → Stands g k (begun (start g)) → Holds g k record { state = started g ds; notes = notes_of k; writes = []; reads = [] } × Sane g (started g ds)
unfolding begun start with_devices
opened g ds k fresh h = (
  holds_devices g (kept_of k) record { state = start g; notes = notes_of k; writes = []; reads = [] } ds (between g k (begun (start g)) 0 h.holds),
  sane-devices ds (begun (start g)) h.sane (fresh_sane ds fresh),
)

-- what is kept of the choice is no device's
pub choice_started : (g : Setup) (ds : List DeviceData) (c : Choice) → IsChoice g (begun (start g)).state c → IsChoice g (started g ds) c
unfolding begun start chosen is_ready task_at call_of listen_of
choice_started g ds c h = record { next = h.next; order = h.order; ready = h.ready; down = h.down }

pub counted_started : (g : Setup) (ds : List DeviceData) → IsCounted (started g ds)
counted_started g ds = let h = counted-start g in record { some = h.some; calls = h.calls; now = h.now }

pub turn_started : (g : Setup) (ds : List DeviceData) → 0 ≡ (started g ds).turn
unfolding start
turn_started g ds = refl
