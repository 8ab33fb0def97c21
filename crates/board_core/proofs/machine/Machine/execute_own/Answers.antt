use Rattle.std.proofs.Common.{sym, ◌∙◌, ap, arith}
use Rattle.task_table.specs.kept.Holds.{note_count}
use Rattle.board_core.specs.declared.space.AddressSpace.{AddressSpace}
use Rattle.board_core.specs.Machine.{MachineHolds}
use Rattle.board_core.proofs.Running.{moves_hold, moves_notes, was_next, was_syscall, was_trap, moves_few}
use Rattle.board_model.proofs.Stepping.{trap_known}
use Rattle.board_core.proofs.Loading.{effect_loaded, loaded_by, goes_on, next_loaded, acted_as, ready_same}
use Rattle.board_core.specs.Data.{boxed}
use Rattle.board_core.proofs.machine.Machine.execute_own.Goals as goal

pub fault-requires-clause-from_one : goal.fault-requires-clause-from_one
fault-requires-clause-from_one boxes c =
    let g = c.requires.may_act.ready.0 in
    let t = c.requires.may_act.ready.1 in
    let r = c.requires.may_act.ready.2 in
    let w = was_trap _ _ _ _ _ _ _ _ c.exec.ensures c.in-Trap.is in
    let here = effect_loaded _ g _ _ t c.args.insn.now r.holds r.sane.steady.current in
    (trap_known g t c.args.insn.now c.in-Trap.fault r.sane c.requires.coded (sym here ∙ w.0)).0

pub fault-requires-clause-to_ten : goal.fault-requires-clause-to_ten
fault-requires-clause-to_ten boxes c =
    let g = c.requires.may_act.ready.0 in
    let t = c.requires.may_act.ready.1 in
    let r = c.requires.may_act.ready.2 in
    let w = was_trap _ _ _ _ _ _ _ _ c.exec.ensures c.in-Trap.is in
    let here = effect_loaded _ g _ _ t c.args.insn.now r.holds r.sane.steady.current in
    (trap_known g t c.args.insn.now c.in-Trap.fault r.sane c.requires.coded (sym here ∙ w.0)).1

pub syscall-requires : goal.syscall-requires
syscall-requires boxes c =
    let may = c.requires.may_act in
    let w = was_syscall _ _ _ _ _ _ _ c.exec.ensures c.in-Call.is in
    record {
      ready = (may.ready.0, may.ready.1, ready_same _ _ _ _ _ _ w.1 w.2 may.ready.2, may.ready.3);
      room = let same = ap (λ (r : AddressSpace _ _). note_count r.kernel) w.1 in let room = may.room in omega (arith, room, same);
    }

pub returns-in-Next : goal.returns-in-Next
returns-in-Next boxes c =
    let may = c.requires.may_act in
    let g0 = may.ready.0 in
    let r0 = may.ready.2 in
    let w = was_next _ _ _ _ _ _ _ c.exec.ensures c.in-Next.is in
    let few = moves_few g0 may.ready.1 c.args.insn.now w.processor w.moves r0.sane c.requires.coded (sym (effect_loaded _ g0 _ _ may.ready.1 c.args.insn.now r0.holds r0.sane.steady.current) ∙ w.is) in
    let more = moves_notes _ w.moves _ _ w.bus in
    record {
      holds = λ g t r.
          let here = effect_loaded _ g _ _ t c.args.insn.now r.holds r.sane.steady.current in
          loaded_by _ _ g _ _ _ r.loaded
          (next_loaded _ g _ t t.state.current _ w.processor c.exec.new.cpu w.moves (sym here ∙ w.is) w.after
          (goes_on _ g _ _ _ c.exec.new.cpu t w.moves r.holds r.sane.steady.current (λ u h. moves_hold _ w.moves _ _ w.bus (omega (arith, may.room, few)) g u h)));
      count = omega (arith, few, more);
    }

pub returns-in-Call : goal.returns-in-Call
returns-in-Call boxes c =
    let shown = boxed (λ p. (goal.Device-dyn boxes p).shown p.1) in
    let w = was_syscall _ _ _ _ _ _ _ c.exec.ensures c.in-Call.is in
    let few = c.syscall.ensures.count in
    let same = ap (λ (r : AddressSpace _ _). note_count r.kernel) w.1 in
    record {
      holds = λ g t r.
          let here = effect_loaded _ g _ _ t c.args.insn.now r.holds r.sane.steady.current in
          acted_as g (MachineHolds shown g c.syscall.new.self) t.state.current t _ _ (sym here ∙ w.0) (c.syscall.ensures.holds g t (ready_same _ _ _ _ _ _ w.1 w.2 r));
      count = omega (arith, few, same);
    }

pub returns-in-Trap : goal.returns-in-Trap
returns-in-Trap boxes c =
    let shown = boxed (λ p. (goal.Device-dyn boxes p).shown p.1) in
    let w = was_trap _ _ _ _ _ _ _ _ c.exec.ensures c.in-Trap.is in
    let few = c.fault.ensures.count in
    let same = ap (λ (r : AddressSpace _ _). note_count r.kernel) w.1 in
    record {
      holds = λ g t r.
          let here = effect_loaded _ g _ _ t c.args.insn.now r.holds r.sane.steady.current in
          acted_as g (MachineHolds shown g c.fault.new.self) t.state.current t _ _ (sym here ∙ w.0) (c.fault.ensures.holds g t (ready_same _ _ _ _ _ _ w.1 w.2 r));
      count = omega (arith, few, same);
    }
