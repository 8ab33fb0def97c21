use Rattle.std.proofs.Common.{length, map, inl, ap, ◌∙◌}
use Rattle.mem_banks.specs.Memory.{Opened, bytes_at, copied, IsWithinRam}
use Rattle.task_table.specs.kept.Holds.{kept_of, setup_of}
use Rattle.task_table.proofs.model.Handing.{few_bytes}
use Rattle.task_table.proofs.model.Ranges.{within_ram-front}
use Rattle.task_table.proofs.kept.Messages.{holds_copied, setup_copied}
use Rattle.task_table.specs.kept.Parts.{task_setup}
use Rattle.task_table.proofs.kept.Openings.{lendable_same}
use Rattle.task_table.proofs.kept.KeptEntries.{fresh_stored}
use Rattle.task_table.proofs.kernel.Kernel.copy.Goals as goal

pub copy-requires-clause-source : goal.copy-requires-clause-source
copy-requires-clause-source c = rw c.touched.ensures.memory c.requires.source

pub copy-requires-clause-target : goal.copy-requires-clause-target
copy-requires-clause-target c = rw c.touched.ensures.memory (inl c.requires.target)

pub returns-clause-holds : goal.returns-clause-holds
returns-clause-holds c = λ g t on h.
    let a = c.args in
    let k = c.touched.new.self in
    let within : IsWithinRam k.memory.bytes a.to a.count = rw c.touched.ensures.memory c.requires.target in
    let stored = ap (λ (m : Opened). m.bytes) c.copy.ensures in
    let same = setup_copied (λ flash ram. record (setup_of k) { flash = flash; ram = ram }) k.memory.bytes c.copy.new.self.bytes a.from a.to a.count within stored in
    holds_copied g (kept_of k) t on a.from a.to a.count _ _ (c.touched.ensures.holds g t h) same stored

pub returns-clause-frame : goal.returns-clause-frame
returns-clause-frame c =
    let a = c.args in
    let k = c.touched.new.self in
    let within : IsWithinRam k.memory.bytes a.to a.count = rw c.touched.ensures.memory c.requires.target in
    let stored = ap (λ (m : Opened). m.bytes) c.copy.ensures in
    record {
      notes = c.touched.ensures.frame.notes;
      tasks = c.touched.ensures.frame.tasks;
      setup = setup_copied (λ flash ram. record (setup_of k) { flash = flash; ram = ram }) k.memory.bytes c.copy.new.self.bytes a.from a.to a.count within stored ∙ c.touched.ensures.frame.setup;
    }

pub invariant_of-self-clause-fresh : goal.invariant_of-self-clause-fresh
unfolding copied
invariant_of-self-clause-fresh c =
    let a = c.args in
    let k = c.touched.new.self in
    let within : IsWithinRam k.memory.bytes a.to a.count = rw c.touched.ensures.memory c.requires.target in
    let ys = bytes_at k.memory.bytes a.from a.count in
    let few = few_bytes k.memory.bytes a.from a.count in
    rw c.copy.ensures (fresh_stored k.memory.bytes k.watch.low k.watch.span k.entries.items a.to a.count ys k.fresh c.touched.ensures.apart (within_ram-front k.memory.bytes a.to a.count (length ys) within few) few)

pub invariant_of-self-clause-openable : goal.invariant_of-self-clause-openable
invariant_of-self-clause-openable c =
    let k = c.touched.new.self in
    lendable_same k.memory.regions c.copy.new.self.regions (map task_setup k.tasks.items) (ap (λ (m : Opened). m.regions) c.copy.ensures) k.openable
