use Rattle.std.proofs.Common.{◌≡◌, ◌<◌, ◌≤◌, None, Some, refl, map, length, sym, subst, arith, get_or}
use Rattle.std.proofs.lemmas.Grind.{get_or-set_at}
use Rattle.std.proofs.lemmas.List.{get_or_default}
use Rattle.region_check.specs.declared.Right.TheVariants.{Read}
use Rattle.task_table.specs.kept.Parts.{task_setup}
use Rattle.task_table.specs.model.State.{Setup}
use Rattle.task_table.specs.model.Reading.{bad_byte}
use Rattle.task_table.specs.kept.Holds.{setup_of}
use Rattle.task_table.specs.kept.Entries.{entry_at, IsEntryOf}
use Rattle.task_table.proofs.kept.Members.{no_slot}
use Rattle.task_table.proofs.kept.KeptEntries.{fresh_set, of_set, of_taken}
use Rattle.task_table.proofs.kernel.Kernel.keep_entry.Goals as goal

pub returns-clause-kept : goal.returns-clause-kept
returns-clause-kept c =
    let k = c.args.self.now in
    let there : c.args.task < length k.entries.items = omega (arith, c.requires.there, k.of_calls.count) in
    (c.args.kept, get_or-set_at k.entries.items c.args.task c.args.task (Some c.args.kept) None refl there, refl, refl)

pub invariant_of-self-clause-fresh : goal.invariant_of-self-clause-fresh
invariant_of-self-clause-fresh c =
    let k = c.args.self.now in
    let x = c.args.kept in
    let read = c.requires.read.2 in
    let watch = c.with-self.result in
    let there : c.args.task < length k.entries.items = omega (arith, c.requires.there, k.of_calls.count) in
    let is : entry_at k.memory.bytes x.base ≡ x.entry = rw read.lent.stands.holds.memory read.is in
    fresh_set k.memory.bytes k.watch.low k.watch.span watch.low watch.span k.entries.items c.args.task x there k.fresh is c.with-self.ensures.new c.with-self.ensures.old

pub invariant_of-self-clause-of_calls : goal.invariant_of-self-clause-of_calls
unfolding bad_byte
invariant_of-self-clause-of_calls c =
    let k = c.args.self.now in
    let i = c.args.task in
    let x = c.args.kept in
    let read = c.requires.read.2 in
    let lent = read.lent in
    let h = lent.stands.holds in
    let slot = get_or k.slots.items i no_slot in
    let at : slot ≡ get_or k.slots.items i slot = get_or_default k.slots.items i no_slot slot c.requires.there in
    let small : length lent.turn.state.tasks ≤ 1024 = omega (arith, h.count, k.few) in
    let is : IsEntryOf x slot.wait = of_taken lent.setup lent.turn.state i c.requires.read.0 slot c.requires.read.1 x lent.stands.sane small (h.tasks i c.requires.there no_slot) lent.taken read.listed read.base in
    let good : bad_byte (setup_of k) i Read record { base = x.base; len = 12 } ≡ None = subst (λ (s : Setup). bad_byte s i Read record { base = x.base; len = 12 } ≡ None) (sym h.setup) read.readable in
    of_set (map task_setup k.tasks.items) k.slots.items k.entries.items i x slot c.requires.there at k.of_calls is good

pub invariant_of-self-clause-few : goal.invariant_of-self-clause-few
invariant_of-self-clause-few c = c.args.self.now.few

pub invariant_of-self-clause-all_lines : goal.invariant_of-self-clause-all_lines
invariant_of-self-clause-all_lines c = c.args.self.now.all_lines

pub invariant_of-self-clause-few_owners : goal.invariant_of-self-clause-few_owners
invariant_of-self-clause-few_owners c = c.args.self.now.few_owners

pub invariant_of-self-clause-many : goal.invariant_of-self-clause-many
invariant_of-self-clause-many c = c.args.self.now.many

pub invariant_of-self-clause-there : goal.invariant_of-self-clause-there
invariant_of-self-clause-there c = c.args.self.now.there

pub invariant_of-self-clause-order_is : goal.invariant_of-self-clause-order_is
invariant_of-self-clause-order_is c = c.args.self.now.order_is

pub invariant_of-self-clause-room : goal.invariant_of-self-clause-room
invariant_of-self-clause-room c = c.args.self.now.room

pub invariant_of-self-clause-ready_now : goal.invariant_of-self-clause-ready_now
invariant_of-self-clause-ready_now c = c.args.self.now.ready_now

pub invariant_of-self-clause-offered_now : goal.invariant_of-self-clause-offered_now
invariant_of-self-clause-offered_now c = c.args.self.now.offered_now

pub invariant_of-self-clause-timed_now : goal.invariant_of-self-clause-timed_now
invariant_of-self-clause-timed_now c = c.args.self.now.timed_now

pub invariant_of-self-clause-openable : goal.invariant_of-self-clause-openable
invariant_of-self-clause-openable c = c.args.self.now.openable
