-- A board has at most 512 tasks.
use Rattle.std.proofs.Common.{◌≤◌, Bool, true, false, length, arith}
use Rattle.thumb_exec.specs.declared.cpu.Cpu.{Cpu}
use Rattle.task_table.specs.declared.kernel.Kernel.{Kernel}
use Rattle.task_table.specs.model.State.{Setup, State, Turn}
use Rattle.task_table.specs.kept.Holds.{Holds}
use Rattle.board_model.specs.Script.{Scenario}
use Rattle.board_core.specs.declared.board.Board.{Board}
use Rattle.board_core.specs.declared.space.AddressSpace.{AddressSpace}
use Rattle.board_core.specs.Data.{Shows}
use Rattle.board_core.specs.Machine.{HoldsBy}
use Rattle.board_core.specs.Stands.{Stands}

few_held : (g : Setup) (k : Kernel) (t : Turn) → Holds g k t → length g.tasks ≤ 512
few_held g k t h = omega (arith, h.many, h.count, k.few)

few_by : {X : Type 0} {H : X → Type 0} (shown : Shows X H) (loaded : Bool) (g : Setup) (r : AddressSpace X H) (cpu : Cpu) (t : Turn) → HoldsBy shown loaded g r cpu t → length g.tasks ≤ 512
few_by shown false g r cpu t h = few_held g r.kernel t h.kernel
few_by shown true g r cpu t h = few_held g r.kernel h.saved h.holds.kernel

pub few_tasks : {X : Type 0} {H : X → Type 0} (shown : Shows X H) (x : Scenario) (b : Board X H) (s : State) → Stands shown x b s → length x.setup.tasks ≤ 512
few_tasks shown x b s st = few_by shown b.machine.loaded x.setup b.machine.space b.machine.glider.runner.processor _ st.holds.machine
