use Rattle.std.proofs.Common.{◌≡◌, ◌∷◌, [], ◌∙◌, ap, length, map, true}
use Rattle.mem_banks.specs.Memory.{Opened, is_held, with_bytes}
use Rattle.task_table.specs.kept.Holds.{kept_of}
use Rattle.task_table.specs.kept.Parts.{task_setup}
use Rattle.task_table.proofs.kept.Openings.{lendable_same}
use Rattle.task_table.proofs.kept.Setting.{held_within, fresh_byte, ram_byte, holds_set_byte}
use Rattle.task_table.proofs.kernel.Kernel.set_byte.Goals as goal

pub store-requires : goal.store-requires
store-requires c = rw c.touched.ensures.memory (held_within _ _ c.requires)

pub returns-clause-holds : goal.returns-clause-holds
returns-clause-holds c = λ g t h.
    let a = c.args in
    let k = c.touched.new.self in
    let held : is_held k.memory.bytes a.addr ≡ true = rw c.touched.ensures.memory c.requires in
    let stored = ap (λ (m : Opened). m.bytes) c.store.ensures in
    holds_set_byte g (kept_of k) t a.addr (a.byte ∷ []) _ (c.touched.ensures.holds g t h) stored (ap (λ m. length m.ram) stored ∙ ram_byte k.memory.bytes a.addr a.byte held)

pub returns-clause-memory : goal.returns-clause-memory
returns-clause-memory c =
    ap (λ (m : Opened). m.bytes) c.store.ensures ∙ ap (λ m. with_bytes m c.args.addr (c.args.byte ∷ [])) c.touched.ensures.memory

pub invariant_of-self-clause-fresh : goal.invariant_of-self-clause-fresh
invariant_of-self-clause-fresh c =
    let a = c.args in
    let k = c.touched.new.self in
    let held : is_held k.memory.bytes a.addr ≡ true = rw c.touched.ensures.memory c.requires in
    rw c.store.ensures (fresh_byte k.memory.bytes k.watch.low k.watch.span k.entries.items a.addr a.byte k.fresh c.touched.ensures.apart held)

pub invariant_of-self-clause-openable : goal.invariant_of-self-clause-openable
invariant_of-self-clause-openable c =
    let k = c.touched.new.self in
    lendable_same k.memory.regions c.store.new.self.regions (map task_setup k.tasks.items) (ap (λ (m : Opened). m.regions) c.store.ensures) k.openable
