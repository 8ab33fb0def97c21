use Rattle.std.proofs.Common.{sym, subst}
use Rattle.task_table.specs.model.State.{Turn}
use Rattle.board_model.specs.declared.outcomes.Level.{Level}
use Rattle.board_core.specs.Machine.{MachineHolds}
use Rattle.board_model.specs.Turn.{with_registers_noted}
use Rattle.board_core.proofs.Noting.{no_registers_noted}
use Rattle.board_core.specs.Data.{boxed}
use Rattle.board_core.proofs.machine.Machine.note_task.Goals as goal

pub returns-in-Calls-clause-holds : goal.returns-in-Calls-clause-holds
returns-in-Calls-clause-holds boxes c =
    let shown = boxed (λ p. (goal.Device-dyn boxes p).shown p.1) in
    λ g t h.
    let P : Level → Type 0 = λ level. MachineHolds shown g c.args.self.now (with_registers_noted level c.args.task t) in
    let Q : Turn → Type 0 = λ u. MachineHolds shown g c.args.self.now u in
    subst P (sym c.in-Calls.is) (subst Q (no_registers_noted c.args.task t) h)
