use Rattle.std.proofs.Common.{◌+◌, sym, subst}
use Rattle.thumb_insn.specs.declared.Insn.{Insn}
use Rattle.thumb_exec.specs.Effect.{effect}
use Rattle.task_table.specs.kept.Limits.{syscall_notes}
use Rattle.board_model.specs.Turn.{executed}
use Rattle.board_core.specs.Machine.{HasActed}
use Rattle.board_core.specs.Data.{boxed}
use Rattle.board_core.proofs.machine.Machine.execute.Goals as goal

pub returns-in-Svc : goal.returns-in-Svc
unfolding effect
returns-in-Svc boxes c =
    let shown = boxed (λ p. (goal.Device-dyn boxes p).shown p.1) in
    let P : Insn → Type 0 = λ insn. HasActed shown (λ g i. executed g i insn) (syscall_notes + 1) c.args.self.now c.syscall.new.self in
    subst P (sym c.in-Svc.is) c.syscall.ensures
