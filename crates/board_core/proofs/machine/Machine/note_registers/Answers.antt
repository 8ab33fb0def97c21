use Rattle.std.proofs.Common.{List, ℕ, ◌∙◌, ap, subst, take, drop}
use Rattle.kernel_abi.specs.declared.Note.{Note}
use Rattle.kernel_abi.specs.declared.Note.TheVariants as note
use Rattle.words_core.specs.declared.Flags.{Flags}
use Rattle.task_table.specs.model.State.{Task, Turn}
use Rattle.task_table.specs.model.Reading.{task_at}
use Rattle.task_table.specs.model.Effects.{noted}
use Rattle.board_core.specs.declared.space.AddressSpace.{AddressSpace}
use Rattle.board_core.specs.Machine.{SpaceHolds}
use Rattle.board_model.specs.Turn.{high_note}
use Rattle.board_core.proofs.Loading.{unloaded_by}
use Rattle.board_core.proofs.Noting.{registers_noted}
use Rattle.board_core.proofs.Reaching.{both_noted}
use Rattle.board_core.specs.Data.{boxed}
use Rattle.board_core.proofs.machine.Machine.note_registers.Goals as goal

pub returns-clause-holds : goal.returns-clause-holds
returns-clause-holds boxes c =
    let shown = boxed (λ p. (goal.Device-dyn boxes p).shown p.1) in
    λ g t h0.
    let h = c.save_context.ensures.holds g t h0 in
    let x : Task = task_at t.state c.args.task in
    let words = c.registers-registers.ensures g t h.kernel in
    let flags = c.flags-flags.ensures g t h.kernel in
    let low = c.low_note.ensures ∙ ap (λ (r : List ℕ). note.Low (take 8 r)) words in
    let high = c.high_note.ensures ∙ ap (λ (r : List ℕ). note.High (drop 8 r) c.flags-flags.result.n c.flags-flags.result.z c.flags-flags.result.c c.flags-flags.result.v) words ∙ ap (λ (f : Flags). note.High (drop 8 x.registers) f.n f.z f.c f.v) flags in
    let after : AddressSpace _ _ = record c.save_context.new.self.space { kernel = c.note-2.new.self } in
    let A : Note → Type 0 = λ n. SpaceHolds shown g after (noted n (noted c.low_note.result t)) in
    let B : Note → Type 0 = λ n. SpaceHolds shown g after (noted (high_note x) (noted n t)) in
    let C : Turn → Type 0 = λ u. SpaceHolds shown g after u in
    unloaded_by _ _ g _ _ _ c.save_context.ensures.unloaded (subst C (registers_noted c.args.task t) (subst B low (subst A high record { kernel = c.note-2.ensures.holds g _ (c.note.ensures.holds g t h.kernel); devices = h.devices ∙ both_noted _ _ t })))
