use Rattle.std.proofs.Common.{ℕ, sym, subst, arith}
use Rattle.task_table.specs.model.Rows.{syscall_noted}
use Rattle.task_table.specs.model.Syscalls.{syscall_made}
use Rattle.board_core.specs.Machine.{SpaceHolds}
use Rattle.board_core.specs.declared.space.AddressSpace.{AddressSpace}
use Rattle.board_core.proofs.Loading.{stands_of, unloaded_by}
use Rattle.board_core.proofs.Noting.{calling, called, number-syscall_noted}
use Rattle.board_core.specs.Data.{boxed}
use Rattle.board_core.proofs.machine.Machine.syscall.Goals as goal

pub syscall-requires-clause-may_call : goal.syscall-requires-clause-may_call
syscall-requires-clause-may_call boxes c =
    let g = c.requires.ready.0 in
    let t = c.requires.ready.1 in
    let r = c.requires.ready.2 in
    let h = c.save_context.ensures.holds g t (stands_of _ _ _ _ r).holds in
    let by = calling _ g c.save_context.new.self.space c.note_syscall.new.self c.args.self.now c.current-task.result t r (c.current-task.ensures.holds g t h.kernel) h (c.note_syscall.ensures.holds g t) in
    record {
      there = let there = c.current-task.ensures.there in let same = c.note_syscall.ensures.frame.tasks in omega (arith, there, same);
      ready = (g, syscall_noted c.current-task.result t, by.stands, by.ready);
      room = omega (arith, c.requires.room, c.save_context.ensures.frame.notes, c.note_syscall.ensures.frame.notes);
    }

pub syscall-requires-clause-number : goal.syscall-requires-clause-number
syscall-requires-clause-number boxes c =
    let g = c.requires.ready.0 in
    let t = c.requires.ready.1 in
    let r = c.requires.ready.2 in
    let number = c.requires.ready.3 in
    let h = c.save_context.ensures.holds g t (stands_of _ _ _ _ r).holds in
    let by = calling _ g c.save_context.new.self.space c.note_syscall.new.self c.args.self.now c.current-task.result t r (c.current-task.ensures.holds g t h.kernel) h (c.note_syscall.ensures.holds g t) in
    let kept = by.stands.holds.next_call in
    let same = number-syscall_noted c.current-task.result t in
    omega (arith, kept, same, number)

pub returns : goal.returns
returns boxes c =
    let shown = boxed (λ p. (goal.Device-dyn boxes p).shown p.1) in
    record {
      holds = λ g t r.
          let h = c.save_context.ensures.holds g t (stands_of _ _ _ _ r).holds in
          let task = c.current-task.ensures.holds g t h.kernel in
          let by = calling _ g c.save_context.new.self.space c.note_syscall.new.self c.args.self.now c.current-task.result t r task h (c.note_syscall.ensures.holds g t) in
          let after : AddressSpace _ _ = record c.save_context.new.self.space { kernel = c.syscall.new.k } in
          let P : ℕ → Type 0 = λ i. SpaceHolds shown g after (syscall_made g i (syscall_noted i t)) in
          unloaded_by _ _ g _ _ _ c.save_context.ensures.unloaded (subst P task (called _ g after c.note_syscall.new.self c.current-task.result t by (c.syscall.ensures.stands g _ by.stands (sym by.devices) by.ready).holds));
      count = omega (arith, c.syscall.ensures.frame.notes, c.save_context.ensures.frame.notes, c.note_syscall.ensures.frame.notes);
    }
