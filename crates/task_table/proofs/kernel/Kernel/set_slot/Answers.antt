use Rattle.std.proofs.Common.{◌≡◌, ◌<◌, refl, ap, sym, subst, ◌∙◌, arith, length, map, get_or, set, length-set, ◌≤◌, ℕ}
use Rattle.task_table.specs.kept.Limits.{most_tasks}
use Rattle.task_table.specs.declared.slot.Slot.{Slot}
use Rattle.task_table.specs.kept.Holds.{kept_of}
use Rattle.task_table.proofs.kept.Steps as steps
use Rattle.task_table.specs.kept.TaskSets.{has}
use Rattle.task_table.specs.kept.Readiness.{is_client_of, is_free, is_at, AreOffers}
use Rattle.task_table.proofs.kept.Members.{kernel_places}
use Rattle.task_table.proofs.kept.Written.{front, those_set, offers_set}
use Rattle.task_table.specs.kept.Parts.{task_setup}
use Rattle.task_table.proofs.kept.KeptEntries.{fresh_cleared, of_cleared}
use Rattle.task_table.proofs.kept.Deadlines.{timed_same}
use Rattle.task_table.proofs.kernel.Kernel.set_slot.Goals as goal

pub place-place-requires : goal.place-place-requires
place-place-requires c = omega (arith, c.requires, (kernel_places c.args.self.now).count)

pub follow_readiness-requires-clause-small : goal.follow_readiness-requires-clause-small
follow_readiness-requires-clause-small c =
    let k = c.args.self.now in
    omega (arith, c.place-place.ensures, (kernel_places k).below c.args.task c.requires, k.few)

pub follow_readiness-requires-clause-before : goal.follow_readiness-requires-clause-before
follow_readiness-requires-clause-before c =
    let k = c.args.self.now in
    let slot = c.index-before.result.now in
    ap (has k.ready.words) c.place-place.ensures ∙ k.ready_now.each c.args.task c.requires slot ∙ sym (ap is_free c.index-before.ensures) ∙ sym c.is_ready-ready_before.ensures

pub move_member-requires-clause-small : goal.move_member-requires-clause-small
move_member-requires-clause-small c =
    let k = c.args.self.now in
    omega (arith, c.place-place.ensures, (kernel_places k).below c.args.task c.requires, k.few)

pub move_member-requires-clause-before : goal.move_member-requires-clause-before
move_member-requires-clause-before c = λ server d under.
    let k = c.args.self.now in
    let slot = c.index-before.result.now in
    let was : AreOffers k.slots.items k.order.places.items c.deref_mut.result.now = rw c.deref_mut.ensures.value k.offered_now in
    ap (has (get_or c.deref_mut.result.now server d).words) c.place-place.ensures
    ∙ (was.each server under d).each c.args.task c.requires slot
    ∙ sym (ap (is_client_of server) c.index-before.ensures)
    ∙ ap (is_at server) (sym c.server-server_before.ensures)

pub returns-clause-holds : goal.returns-clause-holds
returns-clause-holds c = λ g t u h kept same timers.
    steps.holds_timer_kept g (kept_of c.args.self.now) t u c.args.task c.index_mut-kept.result.now c.args.slot _ h c.requires c.index_mut-kept.ensures.value refl kept same timers

pub invariant_of-self-clause-timed_now : goal.invariant_of-self-clause-timed_now
invariant_of-self-clause-timed_now c =
    let a = c.args in
    let old = c.index_mut-kept.result.now in
    timed_same a.self.now.slots.items a.task old record a.slot { timer = old.timer } a.self.now.wheel.items a.self.now.timed_now c.requires c.index_mut-kept.ensures.value refl

pub invariant_of-self-clause-many : goal.invariant_of-self-clause-many
invariant_of-self-clause-many c =
    let a = c.args in
    let old = c.index_mut-kept.result.now in
    a.self.now.many ∙ sym (length-set a.self.now.slots.items a.task record a.slot { timer = old.timer })

pub invariant_of-self-clause-there : goal.invariant_of-self-clause-there
invariant_of-self-clause-there c =
    let a = c.args in
    let old = c.index_mut-kept.result.now in
    omega (arith, a.self.now.there, length-set a.self.now.slots.items a.task record a.slot { timer = old.timer })

pub invariant_of-self-clause-ready_now : goal.invariant_of-self-clause-ready_now
invariant_of-self-clause-ready_now c =
    let a = c.args in
    let old = c.index_mut-kept.result.now in
    those_set is_free a.self.now.slots.items a.self.now.order.places.items a.task record a.slot { timer = old.timer } a.self.now.ready.words _ a.self.now.ready_now (kernel_places a.self.now) c.requires
    (λ p. rw (c.is_ready-ready_after.ensures, c.place-place.ensures) at (c.follow_readiness.ensures p))

pub invariant_of-self-clause-offered_now : goal.invariant_of-self-clause-offered_now
invariant_of-self-clause-offered_now c =
    let a = c.args in
    let old = c.index_mut-kept.result.now in
    let slot : Slot = record a.slot { timer = old.timer } in
    let places = a.self.now.order.places.items in
    let was : AreOffers a.self.now.slots.items places c.deref_mut.result.now = rw c.deref_mut.ensures.value a.self.now.offered_now in
    let sets = c.move_member.new.sets in
    let next : AreOffers (set a.self.now.slots.items a.task slot) places sets =
    offers_set a.self.now.slots.items places a.task slot c.deref_mut.result.now sets was (kernel_places a.self.now) c.requires c.move_member.ensures.count
    (λ k p d under. rw (c.server-server_after.ensures, c.place-place.ensures) at (c.move_member.ensures.each k p d under)) in
    let count : length sets ≡ a.self.now.offers.len = omega (arith, c.move_member.ensures.count, c.deref_mut.ensures.len) in
    subst (λ xs. AreOffers (set a.self.now.slots.items a.task slot) places xs) (sym (front a.self.now.offers.len sets _ count)) next

pub invariant_of-self-clause-fresh : goal.invariant_of-self-clause-fresh
invariant_of-self-clause-fresh c =
    let k = c.args.self.now in
    let there : c.args.task < length k.entries.items = omega (arith, c.requires, k.of_calls.count) in
    fresh_cleared k.memory.bytes k.watch.low k.watch.span k.entries.items c.args.task there k.fresh

pub invariant_of-self-clause-of_calls : goal.invariant_of-self-clause-of_calls
invariant_of-self-clause-of_calls c =
    let a = c.args in
    let k = a.self.now in
    let old = c.index_mut-kept.result.now in
    of_cleared (map task_setup k.tasks.items) k.slots.items k.entries.items a.task record a.slot { timer = old.timer } c.requires k.of_calls

pub invariant_of-self-clause-all_lines : goal.invariant_of-self-clause-all_lines
invariant_of-self-clause-all_lines c = c.args.self.now.all_lines

pub invariant_of-self-clause-few_owners : goal.invariant_of-self-clause-few_owners
invariant_of-self-clause-few_owners c = c.args.self.now.few_owners

pub invariant_of-self-clause-order_is : goal.invariant_of-self-clause-order_is
invariant_of-self-clause-order_is c = c.args.self.now.order_is

pub invariant_of-self-clause-room : goal.invariant_of-self-clause-room
invariant_of-self-clause-room c = c.args.self.now.room

pub invariant_of-self-clause-openable : goal.invariant_of-self-clause-openable
invariant_of-self-clause-openable c = c.args.self.now.openable

pub invariant_of-self-clause-few : goal.invariant_of-self-clause-few
invariant_of-self-clause-few c =
    let a = c.args in
    let old = c.index_mut-kept.result.now in
    subst (λ (n : ℕ). n ≤ most_tasks) (sym (length-set a.self.now.slots.items a.task record a.slot { timer = old.timer })) a.self.now.few

pub returns-clause-frame : goal.returns-clause-frame
returns-clause-frame c =
    let a = c.args in
    let old = c.index_mut-kept.result.now in
    record { notes = omega arith; tasks = length-set a.self.now.slots.items a.task record a.slot { timer = old.timer }; setup = refl }
