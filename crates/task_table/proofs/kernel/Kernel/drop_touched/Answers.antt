use Rattle.std.proofs.Common.{◌≡◌, ℕ, false, List, Option, Some, length, map, sym, subst, arith, refl}
use Rattle.task_table.specs.kept.Parts.{task_setup}
use Rattle.task_table.specs.kept.Entries.{AreFresh, AreEntriesOf, kept_at, meets}
use Rattle.task_table.specs.declared.entry.KeptEntry.{KeptEntry}
use Rattle.task_table.proofs.kept.Written.{front}
use Rattle.task_table.proofs.kept.KeptEntries.{fresh_left, of_left}
use Rattle.task_table.proofs.kernel.Kernel.drop_touched.Goals as goal

pub invariant_of-self-clause-fresh : goal.invariant_of-self-clause-fresh
invariant_of-self-clause-fresh c =
    let k = c.args.self.now in
    let watch = c.drop_met-self.result in
    let new = c.drop_met-self.new.entries in
    let was : AreFresh k.memory.bytes k.watch.low k.watch.span c.deref_mut.result.now = rw c.deref_mut.ensures.value k.fresh in
    let next : AreFresh k.memory.bytes watch.low watch.span new = fresh_left k.memory.bytes k.watch.low k.watch.span watch.low watch.span c.deref_mut.result.now new c.args.base c.args.len was c.drop_met-self.ensures in
    let count : length new ≡ k.entries.len = omega (arith, c.drop_met-self.ensures.count, c.deref_mut.ensures.len) in
    subst (λ (xs : List (Option KeptEntry)). AreFresh k.memory.bytes watch.low watch.span xs) (sym (front k.entries.len new _ count)) next

pub invariant_of-self-clause-of_calls : goal.invariant_of-self-clause-of_calls
invariant_of-self-clause-of_calls c =
    let k = c.args.self.now in
    let watch = c.drop_met-self.result in
    let new = c.drop_met-self.new.entries in
    let tasks = map task_setup k.tasks.items in
    let was : AreEntriesOf tasks k.slots.items c.deref_mut.result.now = rw c.deref_mut.ensures.value k.of_calls in
    let next : AreEntriesOf tasks k.slots.items new = of_left tasks k.slots.items watch.low watch.span c.deref_mut.result.now new c.args.base c.args.len was c.drop_met-self.ensures in
    let count : length new ≡ k.entries.len = omega (arith, c.drop_met-self.ensures.count, c.deref_mut.ensures.len) in
    subst (λ (xs : List (Option KeptEntry)). AreEntriesOf tasks k.slots.items xs) (sym (front k.entries.len new _ count)) next

pub invariant_of-self-clause-few : goal.invariant_of-self-clause-few
invariant_of-self-clause-few c = c.args.self.now.few

pub invariant_of-self-clause-all_lines : goal.invariant_of-self-clause-all_lines
invariant_of-self-clause-all_lines c = c.args.self.now.all_lines

pub invariant_of-self-clause-few_owners : goal.invariant_of-self-clause-few_owners
invariant_of-self-clause-few_owners c = c.args.self.now.few_owners

pub invariant_of-self-clause-many : goal.invariant_of-self-clause-many
invariant_of-self-clause-many c = c.args.self.now.many

pub invariant_of-self-clause-there : goal.invariant_of-self-clause-there
invariant_of-self-clause-there c = c.args.self.now.there

pub invariant_of-self-clause-order_is : goal.invariant_of-self-clause-order_is
invariant_of-self-clause-order_is c = c.args.self.now.order_is

pub invariant_of-self-clause-room : goal.invariant_of-self-clause-room
invariant_of-self-clause-room c = c.args.self.now.room

pub invariant_of-self-clause-ready_now : goal.invariant_of-self-clause-ready_now
invariant_of-self-clause-ready_now c = c.args.self.now.ready_now

pub invariant_of-self-clause-offered_now : goal.invariant_of-self-clause-offered_now
invariant_of-self-clause-offered_now c = c.args.self.now.offered_now

pub invariant_of-self-clause-timed_now : goal.invariant_of-self-clause-timed_now
invariant_of-self-clause-timed_now c = c.args.self.now.timed_now

pub invariant_of-self-clause-openable : goal.invariant_of-self-clause-openable
invariant_of-self-clause-openable c = c.args.self.now.openable

pub returns-clause-holds : goal.returns-clause-holds
returns-clause-holds c = λ g t h. h

pub returns-clause-memory : goal.returns-clause-memory
returns-clause-memory c = refl

pub returns-clause-current : goal.returns-clause-current
returns-clause-current c = refl

pub returns-clause-frame : goal.returns-clause-frame
returns-clause-frame c = record { notes = omega arith; tasks = refl; setup = refl }

pub returns-clause-apart : goal.returns-clause-apart
returns-clause-apart c =
    let k = c.args.self.now in
    let new = c.drop_met-self.new.entries in
    let count : length new ≡ k.entries.len = omega (arith, c.drop_met-self.ensures.count, c.deref_mut.ensures.len) in
    subst (λ (xs : List (Option KeptEntry)). (i : ℕ) (x : KeptEntry) → kept_at xs i ≡ Some x → meets x c.args.base c.args.len ≡ false) (sym (front k.entries.len new _ count)) c.drop_met-self.ensures.apart

pub returns-clause-stay : goal.returns-clause-stay
returns-clause-stay c =
    let k = c.args.self.now in
    let new = c.drop_met-self.new.entries in
    let count : length new ≡ k.entries.len = omega (arith, c.drop_met-self.ensures.count, c.deref_mut.ensures.len) in
    let stay = subst (λ (xs : List (Option KeptEntry)). (i : ℕ) (x : KeptEntry) → kept_at xs i ≡ Some x → meets x c.args.base c.args.len ≡ false → kept_at new i ≡ Some x) c.deref_mut.ensures.value c.drop_met-self.ensures.stay in
    subst (λ (xs : List (Option KeptEntry)). (i : ℕ) (x : KeptEntry) → kept_at k.entries.items i ≡ Some x → meets x c.args.base c.args.len ≡ false → kept_at xs i ≡ Some x) (sym (front k.entries.len new _ count)) stay

pub returns-clause-same : goal.returns-clause-same
returns-clause-same c = refl

pub returns-clause-there : goal.returns-clause-there
returns-clause-there c =
    let k = c.args.self.now in
    let new = c.drop_met-self.new.entries in
    let count : length new ≡ k.entries.len = omega (arith, c.drop_met-self.ensures.count, c.deref_mut.ensures.len) in
    let there = subst (λ (xs : List (Option KeptEntry)). (i : ℕ) (x : KeptEntry) → kept_at new i ≡ Some x → kept_at xs i ≡ Some x) c.deref_mut.ensures.value c.drop_met-self.ensures.there in
    subst (λ (xs : List (Option KeptEntry)). (i : ℕ) (x : KeptEntry) → kept_at xs i ≡ Some x → kept_at k.entries.items i ≡ Some x) (sym (front k.entries.len new _ count)) there
