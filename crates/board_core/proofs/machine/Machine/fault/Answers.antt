use Rattle.std.proofs.Common.{ℕ, sym, ◌∙◌, subst, arith}
use Rattle.kernel_abi.specs.declared.Ending.TheVariants.{Client}
use Rattle.task_table.specs.model.Effects.{faulted}
use Rattle.task_table.proofs.model.Devices.{stay-faulted}
use Rattle.board_core.specs.Machine.{SpaceHolds}
use Rattle.board_core.specs.declared.space.AddressSpace.{AddressSpace}
use Rattle.board_core.proofs.Loading.{stands_of, unloaded_by}
use Rattle.board_core.specs.Data.{boxed}
use Rattle.board_core.proofs.machine.Machine.fault.Goals as goal

pub returns : goal.returns
returns boxes c =
    let shown = boxed (λ p. (goal.Device-dyn boxes p).shown p.1) in
    record {
      holds = λ g t r.
          let h = c.save_context.ensures.holds g t (stands_of _ _ _ _ r).holds in
          let task = c.current-task.ensures.holds g t h.kernel in
          let after : AddressSpace _ _ = record c.save_context.new.self.space { kernel = c.fault.new.self } in
          let P : ℕ → Type 0 = λ i. SpaceHolds shown g after (faulted g i c.args.fault t) in
          let done : P c.current-task.result = record { kernel = c.fault.ensures.holds g t h.kernel; devices = h.devices ∙ sym (stay-faulted g c.current-task.result c.args.fault Client t) } in
          unloaded_by _ _ g _ _ _ c.save_context.ensures.unloaded (subst P task done);
      count = omega (arith, c.fault.ensures.frame.notes, c.save_context.ensures.frame.notes);
    }
