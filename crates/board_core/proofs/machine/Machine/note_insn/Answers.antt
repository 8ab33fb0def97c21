use Rattle.std.proofs.Common.{ℕ, sym, ◌∙◌, subst, arith}
use Rattle.kernel_abi.specs.declared.Note.TheVariants as note
use Rattle.task_table.specs.model.Effects.{noted}
use Rattle.board_core.specs.declared.machine.Machine.{Machine}
use Rattle.board_model.specs.declared.outcomes.Level.{Level}
use Rattle.board_core.specs.Machine.{IsReady}
use Rattle.board_model.specs.Turn.{noted_at}
use Rattle.board_core.proofs.Loading.{rest_of}
use Rattle.board_core.proofs.Noting.{ready_noted}
use Rattle.board_core.specs.Data.{boxed}
use Rattle.board_core.proofs.machine.Machine.note_insn.Goals as goal

pub overflow_cast-task : goal.overflow_cast-task
overflow_cast-task boxes c = let few = c.args.self.now.space.kernel.few in omega (arith, few)

pub returns-in-All-clause-ready : goal.returns-in-All-clause-ready
returns-in-All-clause-ready boxes c =
    let shown = boxed (λ p. (goal.Device-dyn boxes p).shown p.1) in
    λ g t r.
    let m : Machine _ _ = record c.args.self.now { space = record c.args.self.now.space { kernel = c.note.new.self } } in
    let h = r.holds in
    let rest = rest_of h.saved t _ h.is in
    let task = c.current-task.ensures.holds g h.saved h.holds.kernel ∙ sym rest.current in
    let P : Level → Type 0 = λ level. IsReady shown g m (noted_at level (note.Insn t.state.current c.args.at c.args.code) t) in
    let Q : ℕ → Type 0 = λ i. IsReady shown g m (noted (note.Insn i c.args.at c.args.code) t) in
    subst P (sym c.in-All.is) (subst Q task (ready_noted _ g c.args.self.now c.note.new.self (note.Insn c.current-task.result c.args.at c.args.code) t (λ u hu. c.note.ensures.holds g u hu) r))
