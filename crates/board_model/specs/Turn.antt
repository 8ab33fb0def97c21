-- One turn of the board: what happens from outside, then one instruction of the chosen task, or an idle turn.
use Rattle.words_core.specs.Regs.{program_counter}
use Rattle.kernel_abi.specs.Devices.{device_start, device_end, device_number}
use Rattle.std.specs.Prelude.{ℕ, ◌+◌, ◌%◌, Bool, ◌&&◌, nat_le, nat_lt, Option, Some, None, Result, Ok, Err, fold, take, drop, if◌then◌else◌}
use Rattle.kernel_abi.specs.declared.Fault.{Fault}
use Rattle.kernel_abi.specs.declared.Note.{Note}
use Rattle.kernel_abi.specs.declared.Note.TheVariants as note
use Rattle.region_check.specs.declared.Right.{Right}
use Rattle.region_check.specs.Rights.{may_use, first_lacking}
use Rattle.thumb_insn.specs.declared.Insn.{Insn}
use Rattle.thumb_exec.specs.declared.cpu.Cpu.{Cpu}
use Rattle.thumb_exec.specs.declared.fetch.Fetched.{Fetched}
use Rattle.thumb_exec.specs.Bytes.{bytes_of}
use Rattle.thumb_exec.specs.Effect.{Effect, Next, Syscall, Trap, Store, Move, Puts, Takes, Refusals, Contents, effect}
use Rattle.thumb_exec.specs.Fetch.{fetched}
use Rattle.mem_banks.specs.Memory.{number_at, is_ram}
use Rattle.task_table.specs.model.State.{Setup, Task, State, Own, Turn}
use Rattle.task_table.specs.model.Reading.{task_at, setup_at, register, chosen}
use Rattle.task_table.specs.model.Effects.{◌⨾◌, changed, noted, with_processor, stored, faulted, device_stored, device_taken}
use Rattle.task_table.specs.model.Events.{ticked, interrupted, fed, driven}
use Rattle.task_table.specs.model.Rows.{syscall_noted}
use Rattle.task_table.specs.model.Syscalls.{syscall_made}
use Rattle.task_table.specs.model.Start.{begun}
use Rattle.run_script.specs.declared.events.Event.{Event}
use Rattle.run_script.specs.declared.events.Event.TheVariants.{Tick, Irq, Feed}
use Rattle.run_script.specs.Scripts.{events_of}
use Rattle.board_model.specs.declared.outcomes.Level.{Level}
use Rattle.board_model.specs.declared.outcomes.Level.TheVariants.{Calls, All}
use Rattle.board_model.specs.declared.outcomes.Turned.{Turned}
use Rattle.board_model.specs.declared.outcomes.Turned.TheVariants.{Idle, Ran}
use Rattle.board_model.specs.Script.{Scenario}

-- ## what an instruction of a task sees

abbrev pub may : Setup → ℕ → Right → ℕ → Bool
may g c right a = may_use (setup_at g c).regions right a

-- the first of n bytes for which the task lacks the right
abbrev pub refusals : Setup → ℕ → Refusals
refusals g c = first_lacking (may g c)

-- whether an address is a device address
abbrev pub is_device : ℕ → Bool
is_device a = nat_le device_start a && nat_lt a device_end

-- the value of n bytes at a device address: what the device behind them shows; 0 if there is none
abbrev pub or_zero : Option ℕ → ℕ
or_zero None = 0
or_zero (Some value) = value

-- the value of n bytes from an address on
abbrev pub held : State → Contents
held s a n = if is_device a then or_zero (device_number s.devices a n) else number_at s.memory a n

abbrev pub cpu_of : Task → Cpu
cpu_of x = record { regs = record { words = x.registers }; flags = x.flags }

-- ## what it does

-- A store in the RAM. At a device address it goes to the device behind the address, if there is one. All
-- other stores change nothing.
abbrev pub put : Turn → Store → Turn
put t x =
    if is_ram t.state.memory x.addr x.bytes then (t ⨾ stored Own x.addr (bytes_of x.value x.bytes))
    else (if is_device x.addr then (t ⨾ device_stored x.addr x.value) else t)

-- a load takes what a device showed
abbrev pub took : Turn → ℕ → Turn
took t a = if is_device a then (t ⨾ device_taken a) else t

abbrev pub moved : Turn → Move → Turn
moved t (Puts x) = put t x
moved t (Takes addr bytes) = took t addr

abbrev pub acted : Setup → ℕ → Effect → Turn → Turn
acted g c (Next cpu moves) t = fold moved t moves ⨾ with_processor c cpu.regs.words cpu.flags
acted g c Syscall t = t ⨾ syscall_noted c ⨾ syscall_made g c
acted g c (Trap f) t = t ⨾ faulted g c f

-- the effect of an instruction for task c in the present state
abbrev pub effect_of : Setup → ℕ → Insn → Turn → Effect
effect_of g c insn t = effect (refusals g c) (held t.state) (cpu_of (task_at t.state c)) insn

abbrev pub executed : Setup → ℕ → Insn → Turn → Turn
executed g c insn t = t ⨾ acted g c (effect_of g c insn t)

-- what is noted only if all instructions are
abbrev pub noted_at : Level → Note → Turn → Turn
noted_at Calls note t = t
noted_at All note t = t ⨾ noted note

-- An instruction that was fetched is noted and executed. If the fetch faults, the task does.
abbrev pub stepped_by : Level → Setup → ℕ → ℕ → Result Fetched Fault → Turn → Turn
stepped_by level g c at (Ok f) t = t ⨾ noted_at level (note.Insn c at f.code) ⨾ executed g c f.insn
stepped_by level g c at (Err fault) t = t ⨾ faulted g c fault

-- an instruction is fetched, decoded and executed
unfoldable pub stepped : Level → Setup → ℕ → Turn → Turn
stepped level g c t =
    let at = register t.state c program_counter in
    t ⨾ stepped_by level g c at (fetched (refusals g c) (held t.state) at)

-- ## the turn

-- what happens from outside, in the order of the script
abbrev pub happened : Setup → Turn → Event → Turn
happened g t Tick = ticked t
happened g t (Irq line) = interrupted g line t
happened g t (Feed device byte) = t ⨾ fed device (byte % 256) ⨾ driven g  -- the byte: the low eight bits of the number

-- the next event, if there is one
abbrev pub happened_next : Setup → Option Event → Turn → Turn
happened_next g None t = t
happened_next g (Some event) t = happened g t event

-- a turn after its events
unfoldable pub after_events : Scenario → State → Turn
after_events x s = fold (happened x.setup) (begun s) (events_of x.script s.turn)

-- the turn with this task as the current one
abbrev pub with_current : ℕ → Turn → Turn
with_current c t = t ⨾ changed (λ s. record s { current = c })

abbrev pub low_note : Task → Note
low_note x = note.Low (take 8 x.registers)

abbrev pub high_note : Task → Note
high_note x = note.High (drop 8 x.registers) x.flags.n x.flags.z x.flags.c x.flags.v

-- the registers and flags of the task that ran are noted
unfoldable pub with_registers_noted : Level → ℕ → Turn → Turn
with_registers_noted level c t =
    t ⨾ noted_at level (low_note (task_at t.state c)) ⨾ noted_at level (high_note (task_at t.state c))

-- the chosen task runs; if there is none, the turn is idle
abbrev pub turn_of : Level → Setup → Option ℕ → Turn → Turn
turn_of level g None t = t ⨾ noted_at level note.Idle
turn_of level g (Some c) t = t ⨾ with_current c ⨾ stepped level g c ⨾ with_registers_noted level c

unfoldable pub ended : Turn → Turn
ended t = t ⨾ changed (λ s. record s { turn = s.turn + 1 })

-- the whole turn; the task is chosen after the events
unfoldable pub turn : Level → Scenario → State → Turn
turn level x s =
    let t = after_events x s in
    t ⨾ turn_of level x.setup (chosen x.setup t.state) ⨾ ended

-- what a turn did: the chosen task, and its PC before
abbrev pub turned_of : State → Option ℕ → Turned
turned_of s None = Idle
turned_of s (Some c) = Ran c (register s c program_counter)

unfoldable pub turned : Scenario → State → Turned
turned x s = let u = (after_events x s).state in turned_of u (chosen x.setup u)
