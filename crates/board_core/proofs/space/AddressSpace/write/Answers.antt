use Rattle.std.proofs.Common.{◌≡◌, arith, sym, refl, ◌∙◌, true, false}
use Rattle.mem_banks.specs.Memory.{is_ram}
use Rattle.task_table.specs.kept.Holds.{memory_of}
use Rattle.board_core.proofs.Reaching.{stored_ram, stored_device, stored_nowhere}
use Rattle.board_core.proofs.space.AddressSpace.write.Goals as goal

pub returns-then-is_ram : goal.returns-then-is_ram
returns-then-is_ram boxes c =
    let ram : is_ram (memory_of c.args.self.now.kernel) c.args.addr c.args.n ≡ true = sym c.is_ram.ensures ∙ c.if-is_ram.true in
    record {
      holds = λ g t room h. stored_ram _ c.args.self.now _ g t c.args.addr c.args.n c.args.value ram refl h (rw (← c.to_le_bytes-bytes.ensures) (c.store.ensures.holds g t h.kernel));
      setup = c.store.ensures.frame.setup;
      current = c.store.ensures.current;
      tasks = c.store.ensures.frame.tasks;
      notes = omega (arith, c.store.ensures.frame.notes);
    }

pub returns-then-is_device : goal.returns-then-is_device
returns-then-is_device boxes c =
    let ram : is_ram (memory_of c.args.self.now.kernel) c.args.addr c.args.n ≡ false = sym c.is_ram.ensures ∙ c.if-is_ram.false in
    stored_device _ c.args.self.now _ c.args.addr c.args.n c.args.value ram (sym c.is_device.ensures ∙ c.if-is_device.true) c.give.ensures

pub returns-else-is_device : goal.returns-else-is_device
returns-else-is_device boxes c =
    let ram : is_ram (memory_of c.args.self.now.kernel) c.args.addr c.args.n ≡ false = sym c.is_ram.ensures ∙ c.if-is_ram.false in
    record {
      holds = λ g t room h. stored_nowhere _ c.args.self.now g t c.args.addr c.args.n c.args.value ram (sym c.is_device.ensures ∙ c.if-is_device.false) h;
      setup = refl;
      current = refl;
      tasks = refl;
      notes = omega arith;
    }
