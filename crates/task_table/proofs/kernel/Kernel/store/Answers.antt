use Rattle.std.proofs.Common.{◌≤◌, length, map, arith, inl, ap, ◌∙◌}
use Rattle.mem_banks.specs.Memory.{Opened, IsWithinRam}
use Rattle.task_table.specs.kept.Holds.{kept_of, setup_of}
use Rattle.task_table.specs.kept.Parts.{task_setup}
use Rattle.task_table.proofs.kept.Openings.{lendable_same}
use Rattle.task_table.proofs.kept.KeptEntries.{fresh_stored}
use Rattle.task_table.proofs.kept.Steps as steps
use Rattle.task_table.proofs.kernel.Kernel.store.Goals as goal

pub store-requires : goal.store-requires
store-requires c = rw c.touched.ensures.memory (inl c.requires)

pub returns-clause-holds : goal.returns-clause-holds
returns-clause-holds c = λ g t h.
    let a = c.args in
    let k = c.touched.new.self in
    let within : IsWithinRam k.memory.bytes a.addr (length a.bytes.now) = rw c.touched.ensures.memory c.requires in
    let stored = ap (λ (m : Opened). m.bytes) c.store.ensures in
    let same = steps.setup_stored (λ flash ram. record (setup_of k) { flash = flash; ram = ram }) k.memory.bytes c.store.new.self.bytes a.addr a.bytes.now within stored in
    steps.holds_stored g (kept_of k) t _ a.addr a.bytes.now _ _ (c.touched.ensures.holds g t h) same stored

pub returns-clause-frame : goal.returns-clause-frame
returns-clause-frame c =
    let a = c.args in
    let k = c.touched.new.self in
    let within : IsWithinRam k.memory.bytes a.addr (length a.bytes.now) = rw c.touched.ensures.memory c.requires in
    let stored = ap (λ (m : Opened). m.bytes) c.store.ensures in
    record {
      notes = c.touched.ensures.frame.notes;
      tasks = c.touched.ensures.frame.tasks;
      setup = steps.setup_stored (λ flash ram. record (setup_of k) { flash = flash; ram = ram }) k.memory.bytes c.store.new.self.bytes a.addr a.bytes.now within stored ∙ c.touched.ensures.frame.setup;
    }

pub invariant_of-self-clause-fresh : goal.invariant_of-self-clause-fresh
invariant_of-self-clause-fresh c =
    let a = c.args in
    let k = c.touched.new.self in
    let within : IsWithinRam k.memory.bytes a.addr (length a.bytes.now) = rw c.touched.ensures.memory c.requires in
    let few : length a.bytes.now ≤ length a.bytes.now = omega arith in
    rw c.store.ensures (fresh_stored k.memory.bytes k.watch.low k.watch.span k.entries.items a.addr (length a.bytes.now) a.bytes.now k.fresh c.touched.ensures.apart within few)

pub invariant_of-self-clause-openable : goal.invariant_of-self-clause-openable
invariant_of-self-clause-openable c =
    let k = c.touched.new.self in
    lendable_same k.memory.regions c.store.new.self.regions (map task_setup k.tasks.items) (ap (λ (m : Opened). m.regions) c.store.ensures) k.openable
