use Rattle.std.proofs.Common.{refl, sym, subst}
use Rattle.kernel_abi.specs.declared.Note.TheVariants as note
use Rattle.board_core.specs.declared.machine.Machine.{Machine}
use Rattle.board_model.specs.declared.outcomes.Level.{Level}
use Rattle.board_core.specs.Machine.{MachineHolds}
use Rattle.board_model.specs.Turn.{noted_at}
use Rattle.board_core.proofs.Loading.{noted_by}
use Rattle.board_core.specs.Data.{boxed}
use Rattle.board_core.proofs.machine.Machine.note_idle.Goals as goal

pub returns-in-All-clause-holds : goal.returns-in-All-clause-holds
returns-in-All-clause-holds boxes c =
    let shown = boxed (λ p. (goal.Device-dyn boxes p).shown p.1) in
    λ g t h.
    let m : Machine _ _ = record c.args.self.now { space = record c.args.self.now.space { kernel = c.note.new.self } } in
    let P : Level → Type 0 = λ level. MachineHolds shown g m (noted_at level note.Idle t) in
    subst P (sym c.in-All.is) (noted_by _ _ g c.args.self.now.space m.space _ note.Idle t refl (λ u hu. c.note.ensures.holds g u hu) h)
