use Rattle.std.proofs.Common.{◌∙◌, ℕ, sym, subst, arith}
use Rattle.kernel_abi.specs.declared.Note.TheVariants as note
use Rattle.task_table.specs.model.State.{Turn}
use Rattle.board_core.specs.Machine.{MachineHolds, HasNumber}
use Rattle.board_model.specs.Turn.{noted_at, executed}
use Rattle.board_model.proofs.TurnChains.{noted_state}
use Rattle.board_core.proofs.fast.Fetching.{even_pc, fetched_stepped}
use Rattle.board_core.proofs.Loading.{loaded_register}
use Rattle.board_core.proofs.Noting.{noted_current}
use Rattle.board_core.specs.Data.{boxed}
use Rattle.board_core.proofs.machine.Machine.step.Goals as goal

pub fetch-requires : goal.fetch-requires
fetch-requires boxes c =
    let g = c.requires.ready.0 in
    let t = c.requires.ready.1 in
    let r = c.requires.ready.2 in
    even_pc _ g c.args.self.now t r c.get-at.result (c.get-at.ensures ∙ loaded_register _ 15 g _ _ t r.holds r.sane.steady.current)

pub execute-requires-clause-may_act : goal.execute-requires-clause-may_act
execute-requires-clause-may_act boxes c =
    let g = c.requires.ready.0 in
    let t = c.requires.ready.1 in
    let n = note.Insn t.state.current c.get-at.result c.in-Ok.fetched.code in
    record {
      ready = (g, noted_at c.args.level n t, c.note_insn.ensures.ready g t c.requires.ready.2, subst HasNumber (sym (noted_state c.args.level n t)) c.requires.ready.3);
      room = omega (arith, c.requires.room, c.note_insn.ensures.count);
    }

pub returns-in-Ok : goal.returns-in-Ok
returns-in-Ok boxes c =
    let shown = boxed (λ p. (goal.Device-dyn boxes p).shown p.1) in
    record {
      holds = λ g t r.
          let at = c.get-at.ensures ∙ loaded_register _ 15 g _ _ t r.holds r.sane.steady.current in
          let n = note.Insn t.state.current c.get-at.result c.in-Ok.fetched.code in
          let u = noted_at c.args.level n t in
          let P : ℕ → Type 0 = λ i. MachineHolds shown g c.execute.new.self (executed g i c.in-Ok.fetched.insn u) in
          let H : Turn → Type 0 = λ v. MachineHolds shown g c.execute.new.self v in
          subst H (fetched_stepped _ g c.args.self.now t r c.args.level c.get-at.result c.fetch.result _ at c.fetch.ensures.is c.in-Ok.is) (subst P (noted_current c.args.level n t) (c.execute.ensures.holds g u (c.note_insn.ensures.ready g t r)));
      count = omega (arith, c.execute.ensures.count, c.note_insn.ensures.count);
    }

pub returns-in-Err : goal.returns-in-Err
returns-in-Err boxes c =
    let shown = boxed (λ p. (goal.Device-dyn boxes p).shown p.1) in
    record {
      holds = λ g t r.
          let at = c.get-at.ensures ∙ loaded_register _ 15 g _ _ t r.holds r.sane.steady.current in
          let H : Turn → Type 0 = λ v. MachineHolds shown g c.fault.new.self v in
          subst H (fetched_stepped _ g c.args.self.now t r c.args.level c.get-at.result c.fetch.result _ at c.fetch.ensures.is c.in-Err.is) (c.fault.ensures.holds g t r);
      count = omega (arith, c.fault.ensures.count);
    }
