-- What a board holds once a part of it is as it was told.
use Rattle.std.proofs.Common.{◌≡◌, ◌≤◌, ◌∙◌, ℕ, false, List, refl, sym, ap, subst}
use Rattle.kernel_abi.specs.Devices.{DeviceData}
use Rattle.mem_banks.specs.Memory.{Memory, with_bytes}
use Rattle.mem_banks.proofs.Copies.{with_bytes_ram}
use Rattle.task_table.specs.model.State.{Setup, State, Turn, Call, Listen}
use Rattle.task_table.specs.model.Reading.{task_at, call_of, listen_of, is_ready, chosen}
use Rattle.task_table.specs.model.Effects.{with_task, without_call, without_listen, with_listen}
use Rattle.task_table.specs.kept.Setting.{with_slot, with_wait, with_open_call, call_told, listen_told}
use Rattle.task_table.specs.declared.Line.{Line}
use Rattle.task_table.specs.declared.kernel.Kernel.{Kernel}
use Rattle.task_table.specs.declared.slot.Slot.{Slot}
use Rattle.task_table.specs.declared.slot.Wait.{Wait}
use Rattle.task_table.specs.declared.slot.Wait.TheVariants as wait
use Rattle.task_table.specs.kept.Holds.{Holds as KernelHolds, memory_of}
use Rattle.board_model.specs.Script.{Scenario}
use Rattle.board_core.specs.declared.board.Board.{Board}
use Rattle.board_core.specs.declared.choice.Choice.{Choice}
use Rattle.board_core.specs.Kept.{IsChoice}
use Rattle.board_core.specs.Machine.{SpaceHolds}
use Rattle.board_core.specs.Setting.{with_flash}
use Rattle.std.specs.Prelude.{map, vec_items}
use Rattle.board_core.specs.fast.IoRegions.{AllIoRegions}
use Rattle.board_core.specs.Stands.{Holds}
use Rattle.board_core.proofs.Loading.{unloaded_by}
use Rattle.board_core.proofs.Turning.{rested, rested_as}
use Rattle.board_core.specs.Data.{Shows}

-- its kernel holds the state, and has all contexts; the devices, the turn and what is known of the events are as they were
pub holds_told : {X : Type 0} {H : X → Type 0} (shown : Shows X H) (x y : Scenario) (s u : State) (b b' : Board X H) → Holds shown x b s → y.script ≡ x.script → u.turn ≡ s.turn → SpaceHolds shown y.setup b'.machine.space (rested b.machine u) → b'.machine.loaded ≡ false → IsChoice y.setup u b'.choice → b'.turns ≡ b.turns → b'.script ≡ b.script → b'.due ≡ b.due → AllIoRegions y.setup (map vec_items b'.io_regions.items) → Holds shown y b' u
holds_told shown x y s u b b' h same turn space unloaded choice turns script due io_regions = record {
  machine = rested_as shown y.setup b.machine b'.machine u (unloaded_by shown b'.machine.loaded y.setup b'.machine.space b'.machine.glider.runner.processor (rested b.machine u) unloaded space);
  turns = turns ∙ h.turns ∙ sym turn;
  choice = choice;
  script = rw (script, same) h.script;
  due = rw (due, same, turn) h.due;
  io_regions = io_regions;
}

-- who is chosen does not go by the memory, the time, the lines, the turn or the number of the next call
pub choice_stays : (g : Setup) (s : State) (c : Choice) (flash : List ℕ) (memory : Memory) (turn time next_call : ℕ) (lines : List Line) → IsChoice g s c → IsChoice record g { flash = flash } record s { memory = memory; turn = turn; now = time; next_call = next_call; lines = lines } c
unfolding chosen is_ready task_at call_of listen_of
choice_stays g s c flash memory turn time next_call lines h = record {
  next = h.next;
  order = h.order;
  ready = record { ordered = h.ready.ordered; each = h.ready.each };
  down = h.down;
}

-- nor by the devices
pub choice_of_devices : (g : Setup) (s : State) (c : Choice) (ds : List DeviceData) → IsChoice g s c → IsChoice g record s { devices = ds } c
unfolding chosen is_ready task_at call_of listen_of
choice_of_devices g s c ds h = record { next = h.next; order = h.order; ready = record { ordered = h.ready.ordered; each = h.ready.each }; down = h.down }

-- the turn's number and the devices are as they were
record IsSameRound (s u : State) : Type 0 where
  turn : u.turn ≡ s.turn
  devices : u.devices ≡ s.devices

open_round : (c : Call) (s : State) → IsSameRound s (with_open_call c s)
unfolding with_open_call
open_round c s = record { turn = refl; devices = refl }

listen_round : (l : Listen) (s : State) → IsSameRound s (with_listen l s)
unfolding with_listen
listen_round l s = record { turn = refl; devices = refl }

-- a task that is told leaves them
round-with_slot : (i : ℕ) (slot : Slot) (s : State) → IsSameRound s (with_slot i slot s)
unfolding with_slot with_task without_call without_listen
round-with_slot i slot s = let h = by_wait slot.wait _ in record { turn = h.turn; devices = h.devices }
  where
    by_wait : (w : Wait) (u : State) → IsSameRound u (with_wait i w u)
    by_wait (wait.Call c) u = open_round (call_told c) u
    by_wait (wait.Listen l) u = listen_round (listen_told i l) u
    by_wait wait.Nothing u = record { turn = refl; devices = refl }

pub turn-with_slot : (i : ℕ) (slot : Slot) (s : State) → (with_slot i slot s).turn ≡ s.turn
turn-with_slot i slot s = (round-with_slot i slot s).turn

pub devices-with_slot : (i : ℕ) (slot : Slot) (s : State) → (with_slot i slot s).devices ≡ s.devices
devices-with_slot i slot s = (round-with_slot i slot s).devices

-- the flash with a byte set, and of a byte of the RAM it is the image's
pub flash_set : (g : Setup) (k k' : Kernel) (t : Turn) (a : ℕ) (bytes : List ℕ) → KernelHolds g k t → memory_of k' ≡ with_bytes (memory_of k) a bytes → (memory_of k').flash ≡ (with_bytes t.state.memory a bytes).flash
flash_set g k k' t a bytes h e = ap (λ (m : Memory). m.flash) e ∙ ap (λ (m : Memory). (with_bytes m a bytes).flash) h.memory

pub flash_stays : (g : Setup) (k : Kernel) (t : Turn) (a : ℕ) (bytes : List ℕ) → KernelHolds g k t → 0x20000000 ≤ a → (with_bytes t.state.memory a bytes).flash ≡ g.flash
flash_stays g k t a bytes h ram =
    ap (λ (m : Memory). m.flash) (with_bytes_ram t.state.memory a bytes ram)
    ∙ ap (λ (m : Memory). m.flash) (sym h.memory)
    ∙ ap (λ (x : Setup). x.flash) h.setup

pub same_flash : {X : Type 0} {H : X → Type 0} (shown : Shows X H) (x : Scenario) (b : Board X H) (u : State) (flash : List ℕ) → flash ≡ x.setup.flash → Holds shown (with_flash flash x) b u → Holds shown x b u
same_flash shown x b u flash e h = subst (λ (bytes : List ℕ). Holds shown (with_flash bytes x) b u) e h
