use Rattle.std.proofs.Common.{◌≡◌, ◌∙◌, sym, ap, length, map, refl}
use Rattle.mem_banks.specs.Memory.{Memory, Opened}
use Rattle.task_table.specs.kept.Holds.{kept_of}
use Rattle.task_table.specs.kept.Parts.{task_setup}
use Rattle.task_table.proofs.kept.Openings.{lendable_same}
use Rattle.task_table.proofs.kept.Setting.{fresh_ram, holds_set_ram}
use Rattle.task_table.proofs.kernel.Kernel.set_ram.Goals as goal

pub returns-clause-holds : goal.returns-clause-holds
returns-clause-holds c = λ g t h.
    let a = c.args in
    let k = c.touched.new.self in
    let long : length a.bytes.now ≡ length k.memory.bytes.ram = c.requires ∙ sym (ap (λ (m : Memory). length m.ram) c.touched.ensures.memory) in
    let now = ap (λ (m : Opened). m.bytes) c.set_ram.ensures in
    holds_set_ram g (kept_of k) t a.bytes.now _ (c.touched.ensures.holds g t h) now (ap (λ (m : Memory). m.flash) now) (ap (λ (m : Memory). length m.ram) now ∙ long)

pub invariant_of-self-clause-fresh : goal.invariant_of-self-clause-fresh
invariant_of-self-clause-fresh c =
    let a = c.args in
    let k = c.touched.new.self in
    let long : length a.bytes.now ≡ length k.memory.bytes.ram = c.requires ∙ sym (ap (λ (m : Memory). length m.ram) c.touched.ensures.memory) in
    rw c.set_ram.ensures (fresh_ram k.memory.bytes k.watch.low k.watch.span k.entries.items a.bytes.now _ k.fresh c.touched.ensures.apart refl long)

pub invariant_of-self-clause-openable : goal.invariant_of-self-clause-openable
invariant_of-self-clause-openable c =
    let k = c.touched.new.self in
    lendable_same k.memory.regions c.set_ram.new.self.regions (map task_setup k.tasks.items) (ap (λ (m : Opened). m.regions) c.set_ram.ensures) k.openable
