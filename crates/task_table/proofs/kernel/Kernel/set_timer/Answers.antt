use Rattle.std.proofs.Common.{◌≡◌, ◌<◌, ap, sym, ◌∙◌, subst, arith, length, map, set, length-set, refl, ◌≤◌, ℕ}
use Rattle.task_table.specs.kept.Limits.{most_tasks}
use Rattle.task_table.specs.model.State.{Task}
use Rattle.task_table.specs.model.Reading.{task_at}
use Rattle.task_table.specs.declared.slot.Slot.{Slot}
use Rattle.task_table.specs.kept.Holds.{IsKept, kept_of}
use Rattle.task_table.proofs.kept.Steps as steps
use Rattle.task_table.proofs.model.Changes.{same_but-with_task}
use Rattle.task_table.specs.kept.Readiness.{is_at, is_free}
use Rattle.task_table.specs.kept.Deadlines.{is_timed_at, AreTimed}
use Rattle.task_table.proofs.kept.Written.{front, those_same, offers_same}
use Rattle.task_table.specs.kept.Parts.{task_setup}
use Rattle.task_table.proofs.kept.KeptEntries.{of_same}
use Rattle.task_table.proofs.kept.Deadlines.{timed_set}
use Rattle.task_table.specs.model.Effects.{with_timer}
use Rattle.task_table.proofs.kernel.Kernel.set_timer.Goals as goal

pub returns-clause-holds : goal.returns-clause-holds
unfolding with_timer
returns-clause-holds c = λ g t h.
    let i = c.args.task in
    let old = c.index_mut.result.now in
    let was = subst (λ (o : Slot). IsKept t.state i o) (sym c.index_mut.ensures.value) (h.tasks i c.requires old) in
    let x : Task = record (task_at t.state i) { timer = c.args.timer } in
    let there : i < length t.state.tasks = omega (arith, h.count) in
    let is = ap (λ (o : Slot). record o { timer = c.args.timer }) was.is in
    steps.holds_slot g (kept_of c.args.self.now) t _ i record old { timer = c.args.timer } _ h c.requires refl (steps.kept_task t.state i x old _ there was is) (same_but-with_task t.state i x)

pub move_member-requires-clause-small : goal.move_member-requires-clause-small
move_member-requires-clause-small c = omega (arith, c.requires, c.args.self.now.few)

pub move_member-requires-clause-before : goal.move_member-requires-clause-before
move_member-requires-clause-before c = λ k d under.
    let a = c.args in
    let was : AreTimed a.self.now.slots.items c.deref_mut.result.now = rw c.deref_mut.ensures.value a.self.now.timed_now in
    was.each k under d a.task c.requires c.index.result.now ∙ sym (ap (is_timed_at k) c.index.ensures) ∙ ap (is_at k) (sym c.wheel_set.ensures)

pub invariant_of-self-clause-timed_now : goal.invariant_of-self-clause-timed_now
invariant_of-self-clause-timed_now c =
    let a = c.args in
    let slot : Slot = record c.index_mut.result.now { timer = a.timer } in
    let was : AreTimed a.self.now.slots.items c.deref_mut.result.now = rw c.deref_mut.ensures.value a.self.now.timed_now in
    let sets = c.move_member.new.sets in
    let next : AreTimed (set a.self.now.slots.items a.task slot) sets =
    timed_set a.self.now.slots.items a.task slot c.deref_mut.result.now sets was c.requires c.move_member.ensures.count
    (λ k p e under. rw c.wheel_set-2.ensures at (c.move_member.ensures.each k p e under)) in
    let count : length sets ≡ a.self.now.wheel.len = omega (arith, c.move_member.ensures.count, c.deref_mut.ensures.len) in
    subst (λ xs. AreTimed (set a.self.now.slots.items a.task slot) xs) (sym (front a.self.now.wheel.len sets _ count)) next

pub invariant_of-self-clause-many : goal.invariant_of-self-clause-many
invariant_of-self-clause-many c =
    let a = c.args in
    let old = c.index_mut.result.now in
    a.self.now.many ∙ sym (length-set a.self.now.slots.items a.task record old { timer = a.timer })

pub invariant_of-self-clause-there : goal.invariant_of-self-clause-there
invariant_of-self-clause-there c =
    let a = c.args in
    let old = c.index_mut.result.now in
    omega (arith, a.self.now.there, length-set a.self.now.slots.items a.task record old { timer = a.timer })

pub invariant_of-self-clause-ready_now : goal.invariant_of-self-clause-ready_now
invariant_of-self-clause-ready_now c =
    let a = c.args in
    let old = c.index_mut.result.now in
    those_same is_free a.self.now.slots.items a.self.now.order.places.items a.task old record old { timer = a.timer } a.self.now.ready.words a.self.now.ready_now c.requires c.index_mut.ensures.value refl

pub invariant_of-self-clause-offered_now : goal.invariant_of-self-clause-offered_now
invariant_of-self-clause-offered_now c =
    let a = c.args in
    let old = c.index_mut.result.now in
    offers_same a.self.now.slots.items a.self.now.order.places.items a.task old record old { timer = a.timer } a.self.now.offers.items a.self.now.offered_now c.requires c.index_mut.ensures.value (λ k. refl)

pub invariant_of-self-clause-of_calls : goal.invariant_of-self-clause-of_calls
invariant_of-self-clause-of_calls c =
    let a = c.args in
    let k = a.self.now in
    let old = c.index_mut.result.now in
    of_same (map task_setup k.tasks.items) k.slots.items k.entries.items a.task old record old { timer = a.timer } c.requires c.index_mut.ensures.value refl k.of_calls

pub invariant_of-self-clause-all_lines : goal.invariant_of-self-clause-all_lines
invariant_of-self-clause-all_lines c = c.args.self.now.all_lines

pub invariant_of-self-clause-few_owners : goal.invariant_of-self-clause-few_owners
invariant_of-self-clause-few_owners c = c.args.self.now.few_owners

pub invariant_of-self-clause-order_is : goal.invariant_of-self-clause-order_is
invariant_of-self-clause-order_is c = c.args.self.now.order_is

pub invariant_of-self-clause-room : goal.invariant_of-self-clause-room
invariant_of-self-clause-room c = c.args.self.now.room

pub invariant_of-self-clause-openable : goal.invariant_of-self-clause-openable
invariant_of-self-clause-openable c = c.args.self.now.openable

pub invariant_of-self-clause-fresh : goal.invariant_of-self-clause-fresh
invariant_of-self-clause-fresh c = c.args.self.now.fresh

pub invariant_of-self-clause-few : goal.invariant_of-self-clause-few
invariant_of-self-clause-few c =
    let a = c.args in
    let old = c.index_mut.result.now in
    subst (λ (n : ℕ). n ≤ most_tasks) (sym (length-set a.self.now.slots.items a.task record old { timer = a.timer })) a.self.now.few

pub returns-clause-frame : goal.returns-clause-frame
returns-clause-frame c =
    let a = c.args in
    let old = c.index_mut.result.now in
    record { notes = omega arith; tasks = length-set a.self.now.slots.items a.task record old { timer = a.timer }; setup = refl }
