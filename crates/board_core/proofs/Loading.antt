-- A machine whose processor has the context of the current task.
use Rattle.std.proofs.Common.{◌≡◌, ◌<◌, ℕ, Bool, true, false, cond, List, [], ◌∷◌, length, refl, sym, ◌∙◌, ap, subst, arith, length-set}
use Rattle.std.specs.Prelude.{fold, slice_index, Option, Some, None}
use Rattle.kernel_abi.specs.declared.Given.{Given}
use Rattle.kernel_abi.specs.Devices.{DeviceData, device_out}
use Rattle.std.proofs.lemmas.List.{set-set, set-get_or}
use Rattle.words_core.specs.declared.Flags.{Flags}
use Rattle.thumb_exec.specs.declared.cpu.Cpu.{Cpu}
use Rattle.thumb_exec.specs.Effect.{Effect, Next, Store, Move, Puts, Takes, effect}
use Rattle.thumb_insn.specs.declared.Insn.{Insn}
use Rattle.kernel_abi.specs.declared.Note.{Note}
use Rattle.task_table.specs.declared.kernel.Kernel.{Kernel}
use Rattle.mem_banks.specs.Memory.{Memory, is_ram}
use Rattle.task_table.specs.model.State.{Setup, State, Task, Own, Turn}
use Rattle.task_table.specs.model.Reading.{register, task_at, call_of, listen_of, is_ready, no_task}
use Rattle.task_table.specs.model.Effects.{with_task, noted, stored, with_processor, with_devices, given_out, device_stored, device_taken}
use Rattle.task_table.specs.kept.Holds.{Holds, Stands, notes_of, setup_of, current_of, task_count, memory_of}
use Rattle.task_table.specs.model.Start.{begun}
use Rattle.task_table.proofs.model.Changes.{task_at-with_task}
use Rattle.thumb_exec.specs.Bytes.{bytes_of}
use Rattle.board_model.specs.Turn.{refusals, is_device, held, cpu_of, put, took, moved, acted, with_current}
use Rattle.board_core.specs.Machine.{with_cpu, SpaceHolds, shown_by, IsLoaded, HoldsBy, IsReady, MachineStands, HasContext}
use Rattle.board_core.specs.declared.machine.Machine.{Machine}
use Rattle.board_core.specs.declared.space.AddressSpace.{AddressSpace}
use Rattle.board_core.proofs.Running.{between, effect_here}
use Rattle.board_model.proofs.Stepping.{moves_state}
use Rattle.board_core.specs.Data.{Shows, data_of}

-- ## what the kernel knows all the same

pub record IsSameRest (saved t : Turn) : Type 0 where
  pub count : length t.state.tasks ≡ length saved.state.tasks
  pub notes : t.notes ≡ saved.notes
  pub memory : t.state.memory ≡ saved.state.memory
  pub time : t.state.now ≡ saved.state.now
  pub lines : t.state.lines ≡ saved.state.lines
  pub current : t.state.current ≡ saved.state.current
  pub next_call : t.state.next_call ≡ saved.state.next_call
  pub devices : t.state.devices ≡ saved.state.devices

rest-with_cpu : (cpu : Cpu) (s : Turn) → IsSameRest s (with_cpu cpu s)
unfolding with_processor with_task
rest-with_cpu cpu s = record { count = length-set s.state.tasks s.state.current _; notes = refl; memory = refl; time = refl; lines = refl; current = refl; next_call = refl; devices = refl }

pub rest_of : (saved t : Turn) (cpu : Cpu) → t ≡ with_cpu cpu saved → IsSameRest saved t
rest_of saved t cpu e = rw e (rest-with_cpu cpu saved)

-- a turn that the kernel holds, with all but the registers and flags of the current task
pub record HoldsRest (g : Setup) (k : Kernel) (t : Turn) : Type 0 where
  pub saved : Turn
  pub holds : Holds g k saved
  pub rest : IsSameRest saved t

pub rest_held : {X : Type 0} {H : X → Type 0} (shown : Shows X H) (loaded : Bool) (g : Setup) (r : AddressSpace X H) (cpu : Cpu) (t : Turn) → HoldsBy shown loaded g r cpu t → HoldsRest g r.kernel t
rest_held shown true g r cpu t h = record { saved = h.saved; holds = h.holds.kernel; rest = rest_of h.saved t cpu h.is }
rest_held shown false g r cpu t h = record { saved = t; holds = h.kernel; rest = record { count = refl; notes = refl; memory = refl; time = refl; lines = refl; current = refl; next_call = refl; devices = refl } }

pub devices_held : {X : Type 0} {H : X → Type 0} (shown : Shows X H) (loaded : Bool) (g : Setup) (r : AddressSpace X H) (cpu : Cpu) (t : Turn) → HoldsBy shown loaded g r cpu t → data_of shown r.devices ≡ t.state.devices
devices_held shown true g r cpu t h = h.holds.devices ∙ sym (rest_of h.saved t cpu h.is).devices
devices_held shown false g r cpu t h = h.devices

-- ## loaded or not

pub loaded_by : {X : Type 0} {H : X → Type 0} (shown : Shows X H) (loaded : Bool) (g : Setup) (r : AddressSpace X H) (cpu : Cpu) (t : Turn) → loaded ≡ true → IsLoaded shown g r cpu t → HoldsBy shown loaded g r cpu t
loaded_by shown loaded g r cpu t e h = rw e h

pub is_loaded : {X : Type 0} {H : X → Type 0} (shown : Shows X H) (loaded : Bool) (g : Setup) (r : AddressSpace X H) (cpu : Cpu) (t : Turn) → loaded ≡ true → HoldsBy shown loaded g r cpu t → IsLoaded shown g r cpu t
is_loaded shown loaded g r cpu t e h = rw e at h

pub unloaded_by : {X : Type 0} {H : X → Type 0} (shown : Shows X H) (loaded : Bool) (g : Setup) (r : AddressSpace X H) (cpu : Cpu) (t : Turn) → loaded ≡ false → SpaceHolds shown g r t → HoldsBy shown loaded g r cpu t
unloaded_by shown loaded g r cpu t e h = rw e h

-- ## a turn begins, and has ended

begun-with_cpu : (cpu : Cpu) (s : Turn) → begun (with_cpu cpu s).state ≡ with_cpu cpu (begun s.state)
unfolding begun with_processor with_task
begun-with_cpu cpu s = refl

begun_ready : (s : Turn) → is_ready s.state s.state.current ≡ true → is_ready (begun s.state).state (begun s.state).state.current ≡ true
unfolding begun
begun_ready s h = h

begun_reach : {X : Type 0} {H : X → Type 0} (shown : Shows X H) (g : Setup) (r r' : AddressSpace X H) (t : Turn) → r'.devices ≡ r.devices → Holds g r'.kernel (begun t.state) → SpaceHolds shown g r t → SpaceHolds shown g r' (begun t.state)
unfolding begun
begun_reach shown g r r' t same kernel h = record { kernel = kernel; devices = ap (data_of shown) same ∙ h.devices }

pub begun_by : {X : Type 0} {H : X → Type 0} (shown : Shows X H) (loaded : Bool) (g : Setup) (r r' : AddressSpace X H) (cpu : Cpu) (t : Turn) → r'.devices ≡ r.devices → ((u : Turn) → Holds g r.kernel u → Holds g r'.kernel (begun u.state)) → HoldsBy shown loaded g r cpu t → HoldsBy shown loaded g r' cpu (begun t.state)
begun_by shown true g r r' cpu t same f h = record { saved = begun h.saved.state; holds = begun_reach shown g r r' h.saved same (f h.saved h.holds.kernel) h.holds; ready = begun_ready h.saved h.ready; is = ap (λ (u : Turn). begun u.state) h.is ∙ begun-with_cpu cpu h.saved }
begun_by shown false g r r' cpu t same f h = begun_reach shown g r r' t same (f t h.kernel) h

-- the machine between turns: what the turn noted is still there
abbrev pub after : Kernel → ℕ → Turn → Turn
after k n u = record { state = record u.state { turn = n }; notes = notes_of k; writes = []; reads = [] }

after-with_cpu : (k : Kernel) (n : ℕ) (cpu : Cpu) (s : Turn) → after k n (with_cpu cpu s) ≡ with_cpu cpu (after k n s)
unfolding with_processor with_task task_at
after-with_cpu k n cpu s = refl

turn_ready : (s : State) (n : ℕ) → is_ready s s.current ≡ true → is_ready (record s { turn = n }) s.current ≡ true
unfolding is_ready task_at call_of listen_of
turn_ready s n h = h

between_reach : {X : Type 0} {H : X → Type 0} (shown : Shows X H) (g : Setup) (r : AddressSpace X H) (u : Turn) (n : ℕ) → SpaceHolds shown g r u → SpaceHolds shown g r (after r.kernel n u)
between_reach shown g r u n h = record { kernel = between g r.kernel u n h.kernel; devices = h.devices }

pub between_by : {X : Type 0} {H : X → Type 0} (shown : Shows X H) (loaded : Bool) (g : Setup) (r : AddressSpace X H) (cpu : Cpu) (u : Turn) (n : ℕ) → HoldsBy shown loaded g r cpu u → HoldsBy shown loaded g r cpu (after r.kernel n u)
between_by shown true g r cpu u n h = record { saved = after r.kernel n h.saved; holds = between_reach shown g r h.saved n h.holds; ready = turn_ready h.saved.state n h.ready; is = ap (after r.kernel n) h.is ∙ after-with_cpu r.kernel n cpu h.saved }
between_by shown false g r cpu u n h = between_reach shown g r u n h

-- ## the processor is the task's

task-with_cpu : (cpu : Cpu) (s : Turn) → s.state.current < length s.state.tasks → cpu_of (task_at (with_cpu cpu s).state s.state.current) ≡ cpu
unfolding with_processor
task-with_cpu cpu s inside = ap cpu_of (task_at-with_task s.state s.state.current _ inside)

pub loaded_cpu : {X : Type 0} {H : X → Type 0} (shown : Shows X H) (g : Setup) (r : AddressSpace X H) (cpu : Cpu) (t : Turn) → IsLoaded shown g r cpu t → t.state.current < length t.state.tasks → cpu ≡ cpu_of (task_at t.state t.state.current)
loaded_cpu shown g r cpu t h inside =
    let rest = rest_of h.saved t cpu h.is in
    let there : h.saved.state.current < length h.saved.state.tasks = rw (rest.current, rest.count) at inside in
    sym (task-with_cpu cpu h.saved there) ∙ ap (λ (u : Turn). cpu_of (task_at u.state h.saved.state.current)) (sym h.is) ∙ ap (λ (i : ℕ). cpu_of (task_at t.state i)) (sym rest.current)

-- who gets the processor with its own registers is as it was
pub with_own : (c : ℕ) (s : State) (t : Turn) → s ≡ t.state → with_processor c (task_at s c).registers (task_at s c).flags t ≡ t
unfolding with_processor with_task task_at
with_own c s t e = rw e (ap (λ (xs : List Task). record t { state = record t.state { tasks = xs } }) (set-get_or t.state.tasks c no_task))

pub loaded_own : {X : Type 0} {H : X → Type 0} (shown : Shows X H) (g : Setup) (r : AddressSpace X H) (cpu : Cpu) (t : Turn) → SpaceHolds shown g r t → is_ready t.state t.state.current ≡ true → cpu ≡ cpu_of (task_at t.state t.state.current) → IsLoaded shown g r cpu t
loaded_own shown g r cpu t h ready e = record { saved = t; holds = h; ready = ready; is = rw e (sym (with_own t.state.current t.state t refl)) }

pub loaded_again : {X : Type 0} {H : X → Type 0} (shown : Shows X H) (g : Setup) (r : AddressSpace X H) (cpu : Cpu) (t : Turn) (task : ℕ) → task ≡ t.state.current → IsLoaded shown g r cpu t → IsLoaded shown g r cpu (with_current task t)
loaded_again shown g r cpu t task e h = rw e h

-- ## the context of a task that is not the current one yet

-- it is that of the task
pub context_cpu : {X : Type 0} {H : X → Type 0} (shown : Shows X H) (g : Setup) (m : Machine X H) (c : ℕ) (t : Turn) → HasContext shown g m c t → c < length t.state.tasks → m.glider.runner.processor ≡ cpu_of (task_at t.state c)
unfolding task_at
context_cpu shown g m c t h inside =
    let saved : Turn = with_current c h.saved in
    let rest = rest_of saved (with_current c t) m.glider.runner.processor h.is in
    let there : c < length saved.state.tasks = rw rest.count at inside in
    sym (task-with_cpu m.glider.runner.processor saved there) ∙ ap (λ (u : Turn). cpu_of (task_at u.state c)) (sym h.is)

pub context_register : {X : Type 0} {H : X → Type 0} (shown : Shows X H) (i : ℕ) (g : Setup) (m : Machine X H) (c : ℕ) (t : Turn) → HasContext shown g m c t → c < length t.state.tasks → slice_index m.glider.runner.processor.regs.words i ≡ register t.state c i
unfolding register
context_register shown i g m c t h inside = ap (λ (x : Cpu). slice_index x.regs.words i) (context_cpu shown g m c t h inside)

pub context_memory : {X : Type 0} {H : X → Type 0} (shown : Shows X H) (g : Setup) (m : Machine X H) (c : ℕ) (t : Turn) → HasContext shown g m c t → memory_of m.space.kernel ≡ t.state.memory
context_memory shown g m c t h = h.holds.kernel.memory ∙ sym (rest_of (with_current c h.saved) (with_current c t) m.glider.runner.processor h.is).memory

-- that of the current one
pub context_loaded : {X : Type 0} {H : X → Type 0} (shown : Shows X H) (g : Setup) (m : Machine X H) (c : ℕ) (t : Turn) → IsLoaded shown g m.space m.glider.runner.processor t → current_of m.space.kernel ≡ c → HasContext shown g m c t
context_loaded shown g m c t h e =
    let saved = h.saved in
    let rest = rest_of saved t m.glider.runner.processor h.is in
    let here : saved.state.current ≡ c = sym h.holds.kernel.current ∙ e in
    record {
      saved = saved;
      holds = h.holds;
      ready = subst (λ (i : ℕ). is_ready saved.state i ≡ true) here h.ready;
      is = ap (λ (i : ℕ). with_current i t) (sym (rest.current ∙ here)) ∙ h.is ∙ ap (λ (i : ℕ). with_cpu m.glider.runner.processor (with_current i saved)) here;
    }

-- that of the kernel
pub context_own : {X : Type 0} {H : X → Type 0} (shown : Shows X H) (g : Setup) (m : Machine X H) (c : ℕ) (t : Turn) → SpaceHolds shown g m.space t → is_ready t.state c ≡ true → m.glider.runner.processor ≡ cpu_of (task_at t.state c) → HasContext shown g m c t
unfolding task_at
context_own shown g m c t h ready e = record { saved = t; holds = h; ready = ready; is = rw e (sym (with_own c (with_current c t).state (with_current c t) refl)) }

-- a machine with another kernel that holds all the same
pub same_held : {X : Type 0} {H : X → Type 0} (shown : Shows X H) (loaded : Bool) (g : Setup) (r r' : AddressSpace X H) (cpu : Cpu) (t : Turn) → r'.devices ≡ r.devices → ((u : Turn) → Holds g r.kernel u → Holds g r'.kernel u) → HoldsBy shown loaded g r cpu t → HoldsBy shown loaded g r' cpu t
same_held shown true g r r' cpu t same f h = record { saved = h.saved; holds = record { kernel = f h.saved h.holds.kernel; devices = ap (data_of shown) same ∙ h.holds.devices }; ready = h.ready; is = h.is }
same_held shown false g r r' cpu t same f h = record { kernel = f t h.kernel; devices = ap (data_of shown) same ∙ h.devices }

-- ## an instruction goes on

-- whose processor changes does not matter to a device
out-with_cpu : (c : ℕ) (registers : List ℕ) (flags : Flags) (o : Option Given) (t : Turn) → given_out o (with_processor c registers flags t) ≡ with_processor c registers flags (given_out o t)
unfolding with_processor with_task noted task_at
out-with_cpu c registers flags None t = refl
out-with_cpu c registers flags (Some x) t = refl

store-with_cpu : (c : ℕ) (registers : List ℕ) (flags : Flags) (t : Turn) (a v : ℕ) → device_stored a v (with_processor c registers flags t) ≡ with_processor c registers flags (device_stored a v t)
unfolding device_stored with_processor with_task with_devices task_at
store-with_cpu c registers flags t a v = out-with_cpu c registers flags (device_out t.state.devices a v) _

load-with_cpu : (c : ℕ) (registers : List ℕ) (flags : Flags) (t : Turn) (a : ℕ) → device_taken a (with_processor c registers flags t) ≡ with_processor c registers flags (device_taken a t)
unfolding device_taken with_processor with_task with_devices task_at
load-with_cpu c registers flags t a = refl

put-with_cpu : (c : ℕ) (registers : List ℕ) (flags : Flags) (t : Turn) (x : Store) → put (with_processor c registers flags t) x ≡ with_processor c registers flags (put t x)
unfolding with_processor with_task stored task_at
put-with_cpu c registers flags t x = by_ram (is_ram t.state.memory x.addr x.bytes)
  where
    after : Turn → Turn
    after = with_processor c registers flags

    by_device : (b : Bool) → cond b (device_stored x.addr x.value (after t)) (after t) ≡ after (cond b (device_stored x.addr x.value t) t)
    by_device true = store-with_cpu c registers flags t x.addr x.value
    by_device false = refl

    by_ram : (b : Bool) → cond b (stored Own x.addr (bytes_of x.value x.bytes) (after t)) (cond (is_device x.addr) (device_stored x.addr x.value (after t)) (after t)) ≡ after (cond b (stored Own x.addr (bytes_of x.value x.bytes) t) (cond (is_device x.addr) (device_stored x.addr x.value t) t))
    by_ram true = refl
    by_ram false = by_device (is_device x.addr)

took-with_cpu : (c : ℕ) (registers : List ℕ) (flags : Flags) (t : Turn) (a : ℕ) → took (with_processor c registers flags t) a ≡ with_processor c registers flags (took t a)
took-with_cpu c registers flags t a = by_device (is_device a)
  where
    by_device : (b : Bool) → cond b (device_taken a (with_processor c registers flags t)) (with_processor c registers flags t) ≡ with_processor c registers flags (cond b (device_taken a t) t)
    by_device true = load-with_cpu c registers flags t a
    by_device false = refl

move-with_cpu : (c : ℕ) (registers : List ℕ) (flags : Flags) (t : Turn) (x : Move) → moved (with_processor c registers flags t) x ≡ with_processor c registers flags (moved t x)
move-with_cpu c registers flags t (Puts x) = put-with_cpu c registers flags t x
move-with_cpu c registers flags t (Takes a n) = took-with_cpu c registers flags t a

moves-with_cpu : (c : ℕ) (registers : List ℕ) (flags : Flags) (ms : List Move) (t : Turn) → fold moved (with_processor c registers flags t) ms ≡ with_processor c registers flags (fold moved t ms)
moves-with_cpu c registers flags [] t = refl
moves-with_cpu c registers flags (x ∷ xs) t = ap (λ (u : Turn). fold moved u xs) (move-with_cpu c registers flags t x) ∙ moves-with_cpu c registers flags xs (moved t x)

-- of two writes of a processor the later stays
set_twice : (s : State) (i : ℕ) (x y : Task) → with_task i y (with_task i x s) ≡ with_task i y s
unfolding with_task
set_twice s i x y = ap (λ (xs : List Task). record s { tasks = xs }) (set-set s.tasks i x y)

pub twice : (c : ℕ) (r r' : List ℕ) (f f' : Flags) (t : Turn) → c < length t.state.tasks → with_processor c r' f' (with_processor c r f t) ≡ with_processor c r' f' t
unfolding with_processor
twice c r r' f f' t inside =
    let s = t.state in
    let x : Task = record (task_at s c) { registers = r; flags = f } in
    let at : task_at (with_task c x s) c ≡ x = task_at-with_task s c x inside in
    let y : Task → Task = λ z. record z { registers = r'; flags = f' } in
    ap (λ (z : Task). record t { state = with_task c (y z) (with_task c x s) }) at
    ∙ ap (λ (u : State). record t { state = u }) (set_twice s c x (y x))

moves_rest : (ms : List Move) (t : Turn) → (fold moved t ms).state.current ≡ t.state.current
moves_rest ms t = ap (λ (s : State). s.current) (moves_state ms t)

moves_count : (ms : List Move) (t : Turn) → length (fold moved t ms).state.tasks ≡ length t.state.tasks
moves_count ms t = ap (λ (s : State). length s.tasks) (moves_state ms t)

memory_ready : (s : State) (m : Memory) (ds : List DeviceData) (i : ℕ) → is_ready s i ≡ true → is_ready (record s { memory = m; devices = ds }) i ≡ true
unfolding is_ready task_at call_of listen_of
memory_ready s m ds i h = h

moves_ready : (ms : List Move) (t : Turn) (i : ℕ) → is_ready t.state i ≡ true → is_ready (fold moved t ms).state i ≡ true
moves_ready ms t i h =
    let u : State = (fold moved t ms).state in
    subst (λ (s : State). is_ready s i ≡ true) (sym (moves_state ms t)) (memory_ready t.state u.memory u.devices i h)

-- the processor goes on in place, and the stores are the kernel's
pub goes_on : {X : Type 0} {H : X → Type 0} (shown : Shows X H) (g : Setup) (r r' : AddressSpace X H) (cpu cpu' : Cpu) (t : Turn) (ms : List Move) → IsLoaded shown g r cpu t → t.state.current < length t.state.tasks → ((u : Turn) → SpaceHolds shown g r u → SpaceHolds shown g r' (fold moved u ms)) → IsLoaded shown g r' cpu' (with_processor t.state.current cpu'.regs.words cpu'.flags (fold moved t ms))
goes_on shown g space reach' cpu cpu' t ms h inside f =
    let s = h.saved in
    let c = s.state.current in
    let rest = rest_of s t cpu h.is in
    let there : c < length s.state.tasks = rw (rest.current, rest.count) at inside in
    let r = cpu'.regs.words in
    let u : Turn = fold moved s ms in
    let count = moves_count ms s in
    let below : c < length u.state.tasks = rw count there in
    let here : with_processor t.state.current r cpu'.flags (fold moved t ms) ≡ with_processor c r cpu'.flags u =
    ap (λ (i : ℕ). with_processor i r cpu'.flags (fold moved t ms)) rest.current
    ∙ ap (λ (v : Turn). with_processor c r cpu'.flags (fold moved v ms)) h.is
    ∙ ap (λ (v : Turn). with_processor c r cpu'.flags v) (moves-with_cpu c cpu.regs.words cpu.flags ms s)
    ∙ twice c cpu.regs.words r cpu.flags cpu'.flags u below in
    record {
      saved = u;
      holds = f s h.holds;
      ready = subst (λ (i : ℕ). is_ready u.state i ≡ true) (sym (moves_rest ms s)) (moves_ready ms s c h.ready);
      is = here ∙ ap (λ (i : ℕ). with_processor i r cpu'.flags u) (sym (moves_rest ms s));
    }

-- ## as the machine's functions use it

pub stands_of : {X : Type 0} {H : X → Type 0} (shown : Shows X H) (g : Setup) (m : Machine X H) (t : Turn) → IsReady shown g m t → MachineStands shown g m t
stands_of shown g m t r = record { holds = loaded_by shown m.loaded g m.space m.glider.runner.processor t r.loaded r.holds; sane = r.sane }

pub below : {X : Type 0} {H : X → Type 0} (shown : Shows X H) (loaded : Bool) (g : Setup) (r : AddressSpace X H) (cpu : Cpu) (t : Turn) (i : ℕ) → HoldsBy shown loaded g r cpu t → i < length t.state.tasks → i < task_count r.kernel
below shown loaded g r cpu t i h inside =
    let w = rest_held shown loaded g r cpu t h in
    let b : task_count r.kernel ≡ length w.saved.state.tasks = w.holds.count in
    let n : length t.state.tasks ≡ length w.saved.state.tasks = w.rest.count in
    omega arith

pub written_back : {X : Type 0} {H : X → Type 0} (shown : Shows X H) (g : Setup) (r r' : AddressSpace X H) (cpu : Cpu) (saved t : Turn) (task : ℕ) (words : List ℕ) (flags : Flags) → task ≡ saved.state.current → words ≡ cpu.regs.words → flags ≡ cpu.flags → t ≡ with_cpu cpu saved → r'.devices ≡ r.devices → SpaceHolds shown g r saved → Holds g r'.kernel (with_processor task words flags saved) → SpaceHolds shown g r' t
written_back shown g r r' cpu saved t task words flags at w f is same before h =
    let P : ℕ → Type 0 = λ i. Holds g r'.kernel (with_processor i words flags saved) in
    let F : Flags → Type 0 = λ y. Holds g r'.kernel (with_processor saved.state.current words y saved) in
    let Q : List ℕ → Type 0 = λ x. Holds g r'.kernel (with_processor saved.state.current x cpu.flags saved) in
    let R : Turn → Type 0 = λ u. Holds g r'.kernel u in
    record { kernel = subst R (sym is) (subst Q w (subst F f (subst P at h))); devices = ap (data_of shown) same ∙ before.devices ∙ sym (rest_of saved t cpu is).devices }

pub loaded_register : {X : Type 0} {H : X → Type 0} (shown : Shows X H) (i : ℕ) (g : Setup) (r : AddressSpace X H) (cpu : Cpu) (t : Turn) → IsLoaded shown g r cpu t → t.state.current < length t.state.tasks → slice_index cpu.regs.words i ≡ register t.state t.state.current i
unfolding register
loaded_register shown i g r cpu t h inside = ap (λ (x : Cpu). slice_index x.regs.words i) (loaded_cpu shown g r cpu t h inside)

-- the effect by the bus and the loaded context is the effect by the turn
pub effect_loaded : {X : Type 0} {H : X → Type 0} (shown : Shows X H) (g : Setup) (r : AddressSpace X H) (cpu : Cpu) (t : Turn) (insn : Insn) → IsLoaded shown g r cpu t → t.state.current < length t.state.tasks →
    effect (refusals (setup_of r.kernel) (current_of r.kernel)) (shown_by shown r) cpu insn ≡ effect (refusals g t.state.current) (held t.state) (cpu_of (task_at t.state t.state.current)) insn
effect_loaded shown g r cpu t insn h inside =
    let rest = rest_of h.saved t cpu h.is in
    let kernel = h.holds.kernel in
    effect_here shown g t r cpu insn kernel.setup (kernel.current ∙ sym rest.current) (kernel.memory ∙ sym rest.memory) (h.holds.devices ∙ sym rest.devices) (loaded_cpu shown g r cpu t h inside)

pub next_loaded : {X : Type 0} {H : X → Type 0} (shown : Shows X H) (g : Setup) (r : AddressSpace X H) (t : Turn) (c : ℕ) (e : Effect) (d cpu : Cpu) (ms : List Move) → e ≡ Next d ms → cpu ≡ d → IsLoaded shown g r cpu (with_processor c cpu.regs.words cpu.flags (fold moved t ms)) → IsLoaded shown g r cpu (acted g c e t)
next_loaded shown g r t c e d cpu ms is same h =
    let P : Cpu → Type 0 = λ x. IsLoaded shown g r cpu (with_processor c x.regs.words x.flags (fold moved t ms)) in
    let S : Effect → Type 0 = λ x. IsLoaded shown g r cpu (acted g c x t) in
    subst S (sym is) (subst P same h)

pub acted_as : (g : Setup) (P : Turn → Type 0) (c : ℕ) (t : Turn) (e d : Effect) → e ≡ d → P (acted g c d t) → P (acted g c e t)
acted_as g P c t e d is h =
    let S : Effect → Type 0 = λ x. P (acted g c x t) in
    subst S (sym is) h

pub ready_same : {X : Type 0} {H : X → Type 0} (shown : Shows X H) (g : Setup) (m : Machine X H) (space : AddressSpace X H) (cpu : Cpu) (t : Turn) → space ≡ m.space → cpu ≡ m.glider.runner.processor → IsReady shown g m t → IsReady shown g record m { space = space; glider = record m.glider { runner = record m.glider.runner { processor = cpu } } } t
ready_same {X} {H} shown g m space cpu t e f r =
    let P : AddressSpace X H → Type 0 = λ x. IsLoaded shown g x m.glider.runner.processor t in
    let Q : Cpu → Type 0 = λ x. IsLoaded shown g space x t in
    record { loaded = r.loaded; holds = subst Q (sym f) (subst P (sym e) r.holds); sane = r.sane }

pub register_current : (t : Turn) (c : ℕ) → register (with_current c t).state c 15 ≡ register t.state c 15
unfolding register task_at
register_current t c = refl

-- ## something is noted

noted-with_cpu : (n : Note) (cpu : Cpu) (s : Turn) → noted n (with_cpu cpu s) ≡ with_cpu cpu (noted n s)
unfolding noted with_processor with_task
noted-with_cpu n cpu s = refl

noted_ready : (n : Note) (s : Turn) → is_ready s.state s.state.current ≡ true → is_ready (noted n s).state (noted n s).state.current ≡ true
unfolding noted
noted_ready n s h = h

noted_reach : {X : Type 0} {H : X → Type 0} (shown : Shows X H) (g : Setup) (r r' : AddressSpace X H) (n : Note) (t : Turn) → r'.devices ≡ r.devices → Holds g r'.kernel (noted n t) → SpaceHolds shown g r t → SpaceHolds shown g r' (noted n t)
unfolding noted
noted_reach shown g r r' n t same kernel h = record { kernel = kernel; devices = ap (data_of shown) same ∙ h.devices }

pub loaded_noted : {X : Type 0} {H : X → Type 0} (shown : Shows X H) (g : Setup) (r r' : AddressSpace X H) (cpu : Cpu) (n : Note) (t : Turn) → r'.devices ≡ r.devices → ((u : Turn) → Holds g r.kernel u → Holds g r'.kernel (noted n u)) → IsLoaded shown g r cpu t → IsLoaded shown g r' cpu (noted n t)
loaded_noted shown g r r' cpu n t same f h = record { saved = noted n h.saved; holds = noted_reach shown g r r' n h.saved same (f h.saved h.holds.kernel) h.holds; ready = noted_ready n h.saved h.ready; is = ap (noted n) h.is ∙ noted-with_cpu n cpu h.saved }

pub noted_by : {X : Type 0} {H : X → Type 0} (shown : Shows X H) (loaded : Bool) (g : Setup) (r r' : AddressSpace X H) (cpu : Cpu) (n : Note) (t : Turn) → r'.devices ≡ r.devices → ((u : Turn) → Holds g r.kernel u → Holds g r'.kernel (noted n u)) → HoldsBy shown loaded g r cpu t → HoldsBy shown loaded g r' cpu (noted n t)
noted_by shown true g r r' cpu n t same f h = loaded_noted shown g r r' cpu n t same f h
noted_by shown false g r r' cpu n t same f h = noted_reach shown g r r' n t same (f t h.kernel) h

pub opened_as : {X : Type 0} {H : X → Type 0} (shown : Shows X H) (g : Setup) (k : Kernel) (m : Machine X H) (s : State) → m.space.kernel ≡ k → m.loaded ≡ false → data_of shown m.space.devices ≡ s.devices → Holds g k record { state = s; notes = notes_of k; writes = []; reads = [] } → HoldsBy shown m.loaded g m.space m.glider.runner.processor record { state = s; notes = notes_of m.space.kernel; writes = []; reads = [] }
opened_as shown g k m s e loaded none h =
    let P : Kernel → Type 0 = λ x. Holds g x record { state = s; notes = notes_of x; writes = []; reads = [] } in
    unloaded_by shown m.loaded g m.space m.glider.runner.processor _ loaded record { kernel = subst P (sym e) h; devices = none }

-- a kernel into which the context was saved stands for what its machine does
pub unloaded_stands : {X : Type 0} {H : X → Type 0} (shown : Shows X H) (g : Setup) (m : Machine X H) (t : Turn) → m.loaded ≡ false → Stands g m.space.kernel t → data_of shown m.space.devices ≡ t.state.devices → MachineStands shown g m t
unloaded_stands shown g m t loaded h none = record { holds = unloaded_by shown m.loaded g m.space m.glider.runner.processor t loaded record { kernel = h.holds; devices = none }; sane = h.sane }
