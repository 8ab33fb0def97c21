use Rattle.std.proofs.Common.{rules, ◌≡◌, ◌<◌, ◌≤◌, ◌∙◌, ℕ, refl, ap, sym, subst, map, length, List}
use Rattle.std.proofs.lemmas.List.{length-map}
use Rattle.std.proofs.lemmas.Result.{IfOk-from_err}
use Rattle.task_table.specs.model.State.{Setup, TaskSetup, LineSetup}
use Rattle.task_table.specs.kept.Parts.{setup_of_parts, task_setup, line_setup}
use Rattle.task_table.specs.model.Start.{born}
use Rattle.task_table.specs.kept.Holds.{packed_task}
use Rattle.task_table.specs.declared.slot.Wait.TheVariants.{Nothing}
use Rattle.task_table.specs.kept.Order.{AreOrdered, priorities_of}
use Rattle.task_table.specs.kept.Limits.{most_tasks, board_lines}
use Rattle.task_table.specs.kept.Readiness.{is_free, AreThose}
use Rattle.task_table.specs.declared.slot.Slot.{Slot}
use Rattle.task_table.specs.declared.start.TaskStart.{TaskStart}
use Rattle.task_table.proofs.kept.Members.{no_offers}
use Rattle.task_table.proofs.kept.Ordered.{as_many_priorities, own_places}
use Rattle.task_table.proofs.kept.Deadlines.{none_timed}
use Rattle.task_table.proofs.kept.Starts.{shows_start, sane-begun}
use Rattle.task_table.proofs.kernel.Kernel.start.Goals as goal

-- there are as many slots as tasks
as_many : (slots : List Slot) (tasks : List TaskStart) → slots ≡ map (λ x. packed_task (born (task_setup x)) Nothing) tasks → length slots ≡ length tasks
as_many slots tasks is = ap length is ∙ length-map tasks (λ x. packed_task (born (task_setup x)) Nothing)

pub returns-clause-holds : goal.returns-clause-holds
returns-clause-holds c =
    let m = c.args.memory.bytes in
    let g = setup_of_parts m c.args.fault_bits c.args.tasks.now c.args.lines.now in
    let with : List TaskSetup → List LineSetup → Setup = λ ts ls. record g { tasks = ts; lines = ls } in
    let tasks : map task_setup c.in_ok-copies.copies.items ≡ map task_setup c.args.tasks.now = c.in_ok-copies.ensures.setup in
    let lines : map line_setup c.in_ok-owners.owners.items ≡ map line_setup c.args.lines.now = ap (map line_setup) c.in_ok-owners.ensures.items in
    let setup : with (map task_setup c.in_ok-copies.copies.items) (map line_setup c.in_ok-owners.owners.items) ≡ g = rw (tasks, lines) refl in
    shows_start m c.args.fault_bits c.args.tasks.now c.args.lines.now _ c.requires.zeros setup c.in_ok-slots.ensures c.in_ok-notes.ensures.items refl refl refl refl refl

pub returns-clause-stands : goal.returns-clause-stands
returns-clause-stands c = λ sound.
    let m = c.args.memory.bytes in
    let g = setup_of_parts m c.args.fault_bits c.args.tasks.now c.args.lines.now in
    let with : List TaskSetup → List LineSetup → Setup = λ ts ls. record g { tasks = ts; lines = ls } in
    let tasks : map task_setup c.in_ok-copies.copies.items ≡ map task_setup c.args.tasks.now = c.in_ok-copies.ensures.setup in
    let lines : map line_setup c.in_ok-owners.owners.items ≡ map line_setup c.args.lines.now = ap (map line_setup) c.in_ok-owners.ensures.items in
    let setup : with (map task_setup c.in_ok-copies.copies.items) (map line_setup c.in_ok-owners.owners.items) ≡ g = rw (tasks, lines) refl in
    record { holds = shows_start m c.args.fault_bits c.args.tasks.now c.args.lines.now _ c.requires.zeros setup c.in_ok-slots.ensures c.in_ok-notes.ensures.items refl refl refl refl refl; sane = sane-begun g sound }

pub invariant_of-result-clause-offered_now : goal.invariant_of-result-clause-offered_now
invariant_of-result-clause-offered_now c =
    let count : length c.in_ok-offers.offers.items ≡ length c.in_ok-slots.slots.items = search rules in
    no_offers (λ x. packed_task (born (task_setup x)) Nothing) c.args.tasks.now c.in_ok-slots.slots.items c.in_ok-order.order.places.items c.in_ok-offers.offers.items c.in_ok-slots.ensures (λ x. refl) count c.in_ok-offers.ensures.empty

pub invariant_of-result-clause-timed_now : goal.invariant_of-result-clause-timed_now
invariant_of-result-clause-timed_now c =
    none_timed (λ x. packed_task (born (task_setup x)) Nothing) c.args.tasks.now c.in_ok-slots.slots.items c.in_ok-wheel.wheel.items c.in_ok-slots.ensures (λ x. refl) c.in_ok-wheel.ensures.count c.in_ok-wheel.ensures.empty

pub invariant_of-result-clause-openable : goal.invariant_of-result-clause-openable
invariant_of-result-clause-openable c = ∣ rw c.in_ok-copies.ensures.setup c.requires.given ∣₁

pub invariant_of-result-clause-few : goal.invariant_of-result-clause-few
invariant_of-result-clause-few c = subst (λ (n : ℕ). n ≤ most_tasks) (sym (as_many c.in_ok-slots.slots.items c.args.tasks.now c.in_ok-slots.ensures)) c.requires.few

pub invariant_of-result-clause-all_lines : goal.invariant_of-result-clause-all_lines
invariant_of-result-clause-all_lines c = refl

pub invariant_of-result-clause-few_owners : goal.invariant_of-result-clause-few_owners
invariant_of-result-clause-few_owners c = subst (λ (n : ℕ). n ≤ board_lines) (sym (ap length c.in_ok-owners.ensures.items)) c.requires.few_owners

pub invariant_of-result-clause-many : goal.invariant_of-result-clause-many
invariant_of-result-clause-many c = c.in_ok-copies.ensures.length ∙ sym (as_many c.in_ok-slots.slots.items c.args.tasks.now c.in_ok-slots.ensures)

pub invariant_of-result-clause-there : goal.invariant_of-result-clause-there
invariant_of-result-clause-there c = subst (λ (n : ℕ). 0 < n) (sym (as_many c.in_ok-slots.slots.items c.args.tasks.now c.in_ok-slots.ensures)) c.requires.some

pub invariant_of-result-clause-order_is : goal.invariant_of-result-clause-order_is
invariant_of-result-clause-order_is c =
    let order = c.in_ok-order.order in
    subst (λ (ts : List TaskStart). AreOrdered (priorities_of (map task_setup ts)) order.keys.items order.places.items) c.deref.ensures.value c.in_ok-order.ensures

pub invariant_of-result-clause-room : goal.invariant_of-result-clause-room
invariant_of-result-clause-room c = c.in_ok-notes.ensures.capacity

pub ready_tasks-ready-requires-clause-places : goal.ready_tasks-ready-requires-clause-places
ready_tasks-ready-requires-clause-places c =
    let order = c.in_ok-order.order in
    let starts = c.deref.result.now in
    let slots = c.deref-2.result.now in
    let many : length starts ≡ length c.args.tasks.now = ap length c.deref.ensures.value ∙ c.in_ok-copies.ensures.length in
    let count : length (priorities_of (map task_setup starts)) ≡ length slots = as_many_priorities starts ∙ many ∙ sym (ap length c.deref-2.ensures.value ∙ as_many c.in_ok-slots.slots.items c.args.tasks.now c.in_ok-slots.ensures) in
    own_places _ order.keys.items order.places.items (length slots) c.in_ok-order.ensures count

pub invariant_of-result-clause-ready_now : goal.invariant_of-result-clause-ready_now
invariant_of-result-clause-ready_now c = subst (λ (ss : List Slot). AreThose is_free ss c.in_ok-order.order.places.items c.ready_tasks-ready.result.words) c.deref-2.ensures.value c.ready_tasks-ready.ensures

pub returns-clause-count : goal.returns-clause-count
returns-clause-count c = as_many c.in_ok-slots.slots.items c.args.tasks.now c.in_ok-slots.ensures

pub returns-clause-notes : goal.returns-clause-notes
returns-clause-notes c = ap length c.in_ok-notes.ensures.items

pub returns-in_err-copies-clause-holds : goal.returns-in_err-copies-clause-holds
returns-in_err-copies-clause-holds c = IfOk-from_err c.from_residual.result _ c.from_residual.ensures.0

pub returns-in_err-copies-clause-stands : goal.returns-in_err-copies-clause-stands
returns-in_err-copies-clause-stands c = λ sound. IfOk-from_err c.from_residual.result _ c.from_residual.ensures.0

pub returns-in_err-copies-clause-count : goal.returns-in_err-copies-clause-count
returns-in_err-copies-clause-count c = IfOk-from_err c.from_residual.result _ c.from_residual.ensures.0

pub returns-in_err-copies-clause-notes : goal.returns-in_err-copies-clause-notes
returns-in_err-copies-clause-notes c = IfOk-from_err c.from_residual.result _ c.from_residual.ensures.0

pub returns-in_err-order-clause-holds : goal.returns-in_err-order-clause-holds
returns-in_err-order-clause-holds c = IfOk-from_err c.from_residual-in_err-order.result _ c.from_residual-in_err-order.ensures.0

pub returns-in_err-order-clause-stands : goal.returns-in_err-order-clause-stands
returns-in_err-order-clause-stands c = λ sound. IfOk-from_err c.from_residual-in_err-order.result _ c.from_residual-in_err-order.ensures.0

pub returns-in_err-order-clause-count : goal.returns-in_err-order-clause-count
returns-in_err-order-clause-count c = IfOk-from_err c.from_residual-in_err-order.result _ c.from_residual-in_err-order.ensures.0

pub returns-in_err-order-clause-notes : goal.returns-in_err-order-clause-notes
returns-in_err-order-clause-notes c = IfOk-from_err c.from_residual-in_err-order.result _ c.from_residual-in_err-order.ensures.0

pub returns-in_err-owners-clause-holds : goal.returns-in_err-owners-clause-holds
returns-in_err-owners-clause-holds c = IfOk-from_err c.from_residual-in_err-owners.result _ c.from_residual-in_err-owners.ensures.0

pub returns-in_err-owners-clause-stands : goal.returns-in_err-owners-clause-stands
returns-in_err-owners-clause-stands c = λ sound. IfOk-from_err c.from_residual-in_err-owners.result _ c.from_residual-in_err-owners.ensures.0

pub returns-in_err-owners-clause-count : goal.returns-in_err-owners-clause-count
returns-in_err-owners-clause-count c = IfOk-from_err c.from_residual-in_err-owners.result _ c.from_residual-in_err-owners.ensures.0

pub returns-in_err-owners-clause-notes : goal.returns-in_err-owners-clause-notes
returns-in_err-owners-clause-notes c = IfOk-from_err c.from_residual-in_err-owners.result _ c.from_residual-in_err-owners.ensures.0

pub returns-in_err-slots-clause-holds : goal.returns-in_err-slots-clause-holds
returns-in_err-slots-clause-holds c = IfOk-from_err c.from_residual-in_err-slots.result _ c.from_residual-in_err-slots.ensures.0

pub returns-in_err-slots-clause-stands : goal.returns-in_err-slots-clause-stands
returns-in_err-slots-clause-stands c = λ sound. IfOk-from_err c.from_residual-in_err-slots.result _ c.from_residual-in_err-slots.ensures.0

pub returns-in_err-slots-clause-count : goal.returns-in_err-slots-clause-count
returns-in_err-slots-clause-count c = IfOk-from_err c.from_residual-in_err-slots.result _ c.from_residual-in_err-slots.ensures.0

pub returns-in_err-slots-clause-notes : goal.returns-in_err-slots-clause-notes
returns-in_err-slots-clause-notes c = IfOk-from_err c.from_residual-in_err-slots.result _ c.from_residual-in_err-slots.ensures.0

pub returns-in_err-offers-clause-holds : goal.returns-in_err-offers-clause-holds
returns-in_err-offers-clause-holds c = IfOk-from_err c.from_residual-in_err-offers.result _ c.from_residual-in_err-offers.ensures.0

pub returns-in_err-offers-clause-stands : goal.returns-in_err-offers-clause-stands
returns-in_err-offers-clause-stands c = λ sound. IfOk-from_err c.from_residual-in_err-offers.result _ c.from_residual-in_err-offers.ensures.0

pub returns-in_err-offers-clause-count : goal.returns-in_err-offers-clause-count
returns-in_err-offers-clause-count c = IfOk-from_err c.from_residual-in_err-offers.result _ c.from_residual-in_err-offers.ensures.0

pub returns-in_err-offers-clause-notes : goal.returns-in_err-offers-clause-notes
returns-in_err-offers-clause-notes c = IfOk-from_err c.from_residual-in_err-offers.result _ c.from_residual-in_err-offers.ensures.0

pub returns-in_err-entries-clause-holds : goal.returns-in_err-entries-clause-holds
returns-in_err-entries-clause-holds c = IfOk-from_err c.from_residual-in_err-entries.result _ c.from_residual-in_err-entries.ensures.0

pub returns-in_err-entries-clause-stands : goal.returns-in_err-entries-clause-stands
returns-in_err-entries-clause-stands c = λ sound. IfOk-from_err c.from_residual-in_err-entries.result _ c.from_residual-in_err-entries.ensures.0

pub returns-in_err-entries-clause-count : goal.returns-in_err-entries-clause-count
returns-in_err-entries-clause-count c = IfOk-from_err c.from_residual-in_err-entries.result _ c.from_residual-in_err-entries.ensures.0

pub returns-in_err-entries-clause-notes : goal.returns-in_err-entries-clause-notes
returns-in_err-entries-clause-notes c = IfOk-from_err c.from_residual-in_err-entries.result _ c.from_residual-in_err-entries.ensures.0

pub returns-in_err-wheel-clause-holds : goal.returns-in_err-wheel-clause-holds
returns-in_err-wheel-clause-holds c = IfOk-from_err c.from_residual-in_err-wheel.result _ c.from_residual-in_err-wheel.ensures.0

pub returns-in_err-wheel-clause-stands : goal.returns-in_err-wheel-clause-stands
returns-in_err-wheel-clause-stands c = λ sound. IfOk-from_err c.from_residual-in_err-wheel.result _ c.from_residual-in_err-wheel.ensures.0

pub returns-in_err-wheel-clause-count : goal.returns-in_err-wheel-clause-count
returns-in_err-wheel-clause-count c = IfOk-from_err c.from_residual-in_err-wheel.result _ c.from_residual-in_err-wheel.ensures.0

pub returns-in_err-wheel-clause-notes : goal.returns-in_err-wheel-clause-notes
returns-in_err-wheel-clause-notes c = IfOk-from_err c.from_residual-in_err-wheel.result _ c.from_residual-in_err-wheel.ensures.0

pub returns-in_err-notes-clause-holds : goal.returns-in_err-notes-clause-holds
returns-in_err-notes-clause-holds c = IfOk-from_err c.from_residual-in_err-notes.result _ c.from_residual-in_err-notes.ensures.0

pub returns-in_err-notes-clause-stands : goal.returns-in_err-notes-clause-stands
returns-in_err-notes-clause-stands c = λ sound. IfOk-from_err c.from_residual-in_err-notes.result _ c.from_residual-in_err-notes.ensures.0

pub returns-in_err-notes-clause-count : goal.returns-in_err-notes-clause-count
returns-in_err-notes-clause-count c = IfOk-from_err c.from_residual-in_err-notes.result _ c.from_residual-in_err-notes.ensures.0

pub returns-in_err-notes-clause-notes : goal.returns-in_err-notes-clause-notes
returns-in_err-notes-clause-notes c = IfOk-from_err c.from_residual-in_err-notes.result _ c.from_residual-in_err-notes.ensures.0
