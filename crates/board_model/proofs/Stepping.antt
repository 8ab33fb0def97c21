-- One instruction of a task: its moves and its faults.
use Rattle.std.proofs.Common.{◌≡◌, ◌≤◌, ℕ, Bool, true, false, cond, List, [], ◌∷◌, Option, Some, None, refl, sym, ◌∙◌, ap, subst, arith}
use Rattle.std.specs.Prelude.{fold}
use Rattle.kernel_abi.specs.declared.Fault.{Fault}
use Rattle.kernel_abi.specs.declared.Given.{Given}
use Rattle.kernel_abi.specs.Devices.{device_out}
use Rattle.thumb_insn.specs.declared.Insn.{Insn}
use Rattle.thumb_insn.specs.Range.{IsCoded}
use Rattle.thumb_exec.specs.Effect.{Trap, Store, Move, Puts, Takes, effect}
use Rattle.thumb_exec.specs.Keeps.{IsRaised}
use Rattle.thumb_exec.proofs.Keeping.{keeps as keeps_coded}
use Rattle.mem_banks.specs.Memory.{is_ram}
use Rattle.task_table.specs.model.State.{Setup, State, Own, Turn}
use Rattle.task_table.specs.model.Reading.{task_at}
use Rattle.task_table.specs.model.Effects.{noted, stored, with_devices, given_out, device_stored, device_taken}
use Rattle.task_table.specs.model.Sane.{Sane}
use Rattle.thumb_exec.specs.Bytes.{bytes_of}
use Rattle.board_model.specs.Turn.{refusals, is_device, held, cpu_of, put, took, moved}
use Rattle.board_model.proofs.TurnChains.{whole_cpu}

-- ## its moves

-- they change nothing of a state but its memory and its devices
abbrev IsButMoved : State → State → Type 0
IsButMoved s u = u ≡ record s { memory = u.memory; devices = u.devices }

out_state : (o : Option Given) (t : Turn) → (given_out o t).state ≡ t.state
unfolding noted
out_state None t = refl
out_state (Some x) t = refl

put_state : (t : Turn) (x : Store) → IsButMoved t.state (put t x).state
unfolding stored device_stored with_devices
put_state t x = by_ram (is_ram t.state.memory x.addr x.bytes)
  where
    given : (o : Option Given) (u : Turn) → IsButMoved t.state u.state → IsButMoved t.state (given_out o u).state
    given o u e = subst (λ (y : State). IsButMoved t.state y) (sym (out_state o u)) e

    by_device : (b : Bool) → IsButMoved t.state (cond b (device_stored x.addr x.value t) t).state
    by_device true = given (device_out t.state.devices x.addr x.value) _ refl
    by_device false = refl

    by_ram : (b : Bool) → IsButMoved t.state (cond b (stored Own x.addr (bytes_of x.value x.bytes) t) (cond (is_device x.addr) (device_stored x.addr x.value t) t)).state
    by_ram true = refl
    by_ram false = by_device (is_device x.addr)

took_state : (t : Turn) (a : ℕ) → IsButMoved t.state (took t a).state
unfolding device_taken with_devices
took_state t a = by_device (is_device a)
  where
    by_device : (b : Bool) → IsButMoved t.state (cond b (device_taken a t) t).state
    by_device true = refl
    by_device false = refl

move_state : (t : Turn) (x : Move) → IsButMoved t.state (moved t x).state
move_state t (Puts x) = put_state t x
move_state t (Takes addr bytes) = took_state t addr

pub moves_state : (ms : List Move) (t : Turn) → (fold moved t ms).state ≡ record t.state { memory = (fold moved t ms).state.memory; devices = (fold moved t ms).state.devices }
moves_state [] t = refl
moves_state (x ∷ xs) t =
    let v = fold moved (moved t x) xs in
    moves_state xs (moved t x) ∙ ap (λ (s : State). record s { memory = v.state.memory; devices = v.state.devices }) (move_state t x)

-- ## its faults

-- a fault of an instruction has a number of 1 to 10
pub trap_known : (g : Setup) (t : Turn) (insn : Insn) (f : Fault) → Sane g t.state → IsCoded insn →
    effect (refusals g t.state.current) (held t.state) (cpu_of (task_at t.state t.state.current)) insn ≡ Trap f → (1 ≤ f.number) × (f.number ≤ 10)
trap_known g t insn f sane coded is =
    let whole = whole_cpu t.state.current t sane sane.steady.current in
    let keeps = keeps_coded (refusals g t.state.current) (held t.state) (cpu_of (task_at t.state t.state.current)) insn coded whole in
    let raised : IsRaised f = rw is at keeps in
    (omega (arith, raised.0), omega (arith, raised.1))
