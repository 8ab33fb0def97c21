use Rattle.std.proofs.Common.{refl, sym, ◌∙◌, arith, map, length-set, ◌≤◌, ℕ, subst}
use Rattle.task_table.specs.kept.Limits.{most_tasks}
use Rattle.task_table.specs.kept.Holds.{kept_of}
use Rattle.task_table.proofs.kept.Steps as steps
use Rattle.task_table.specs.kept.Readiness.{is_free}
use Rattle.task_table.proofs.kept.Written.{those_same, offers_same}
use Rattle.task_table.specs.kept.Parts.{task_setup}
use Rattle.task_table.proofs.kept.KeptEntries.{of_same}
use Rattle.task_table.proofs.kept.Deadlines.{timed_same}
use Rattle.task_table.proofs.kernel.Kernel.set_rest.Goals as goal

pub returns-clause-holds : goal.returns-clause-holds
returns-clause-holds c = λ g t u h kept rest.
    steps.holds_rest g (kept_of c.args.self.now) t u c.args.task c.index_mut-slot.result.now c.args.rest.now _ h c.requires c.index_mut-slot.ensures.value refl kept rest.0 rest.1 rest.2

pub invariant_of-self-clause-timed_now : goal.invariant_of-self-clause-timed_now
invariant_of-self-clause-timed_now c =
    let a = c.args in
    let old = c.index_mut-slot.result.now in
    timed_same a.self.now.slots.items a.task old record a.rest.now { health = old.health; wait = old.wait; timer = old.timer } a.self.now.wheel.items a.self.now.timed_now c.requires c.index_mut-slot.ensures.value refl

pub invariant_of-self-clause-many : goal.invariant_of-self-clause-many
invariant_of-self-clause-many c =
    let a = c.args in
    let old = c.index_mut-slot.result.now in
    a.self.now.many ∙ sym (length-set a.self.now.slots.items a.task record a.rest.now { health = old.health; wait = old.wait; timer = old.timer })

pub invariant_of-self-clause-there : goal.invariant_of-self-clause-there
invariant_of-self-clause-there c =
    let a = c.args in
    let old = c.index_mut-slot.result.now in
    omega (arith, a.self.now.there, length-set a.self.now.slots.items a.task record a.rest.now { health = old.health; wait = old.wait; timer = old.timer })

pub invariant_of-self-clause-ready_now : goal.invariant_of-self-clause-ready_now
invariant_of-self-clause-ready_now c =
    let a = c.args in
    let old = c.index_mut-slot.result.now in
    those_same is_free a.self.now.slots.items a.self.now.order.places.items a.task old record a.rest.now { health = old.health; wait = old.wait; timer = old.timer } a.self.now.ready.words a.self.now.ready_now c.requires c.index_mut-slot.ensures.value refl

pub invariant_of-self-clause-offered_now : goal.invariant_of-self-clause-offered_now
invariant_of-self-clause-offered_now c =
    let a = c.args in
    let old = c.index_mut-slot.result.now in
    offers_same a.self.now.slots.items a.self.now.order.places.items a.task old record a.rest.now { health = old.health; wait = old.wait; timer = old.timer } a.self.now.offers.items a.self.now.offered_now c.requires c.index_mut-slot.ensures.value (λ k. refl)

pub invariant_of-self-clause-of_calls : goal.invariant_of-self-clause-of_calls
invariant_of-self-clause-of_calls c =
    let a = c.args in
    let k = a.self.now in
    let old = c.index_mut-slot.result.now in
    of_same (map task_setup k.tasks.items) k.slots.items k.entries.items a.task old record a.rest.now { health = old.health; wait = old.wait; timer = old.timer } c.requires c.index_mut-slot.ensures.value refl k.of_calls

pub invariant_of-self-clause-all_lines : goal.invariant_of-self-clause-all_lines
invariant_of-self-clause-all_lines c = c.args.self.now.all_lines

pub invariant_of-self-clause-few_owners : goal.invariant_of-self-clause-few_owners
invariant_of-self-clause-few_owners c = c.args.self.now.few_owners

pub invariant_of-self-clause-order_is : goal.invariant_of-self-clause-order_is
invariant_of-self-clause-order_is c = c.args.self.now.order_is

pub invariant_of-self-clause-room : goal.invariant_of-self-clause-room
invariant_of-self-clause-room c = c.args.self.now.room

pub invariant_of-self-clause-openable : goal.invariant_of-self-clause-openable
invariant_of-self-clause-openable c = c.args.self.now.openable

pub invariant_of-self-clause-fresh : goal.invariant_of-self-clause-fresh
invariant_of-self-clause-fresh c = c.args.self.now.fresh

pub invariant_of-self-clause-few : goal.invariant_of-self-clause-few
invariant_of-self-clause-few c =
    let a = c.args in
    let old = c.index_mut-slot.result.now in
    subst (λ (n : ℕ). n ≤ most_tasks) (sym (length-set a.self.now.slots.items a.task record a.rest.now { health = old.health; wait = old.wait; timer = old.timer })) a.self.now.few

pub returns-clause-frame : goal.returns-clause-frame
returns-clause-frame c =
    let a = c.args in
    let old = c.index_mut-slot.result.now in
    record { notes = omega arith; tasks = length-set a.self.now.slots.items a.task record a.rest.now { health = old.health; wait = old.wait; timer = old.timer }; setup = refl }
