use Rattle.std.proofs.Common.{arith, ◌≡◌, ◌≤◌, ◌/◌, ◌%◌, ◌*◌, ◌+◌}
use Rattle.task_table.specs.kept.Order.{IsKeyFrom, IsPlaceOf, key_in}
use Rattle.std.proofs.lemmas.List.{get_or_read}
use Rattle.task_table.proofs.kept.Choices.{first_at_once, first_in_order, none_in_order}
use Rattle.task_table.proofs.order.first_around.Goals as goal

pub overflow_add-priority : goal.overflow_add-priority
overflow_add-priority c = omega (arith, c.requires.few)

pub returns-in-None : goal.returns-in-None
returns-in-None c = λ ps h short. none_in_order ps c.args.order.now.keys.items c.args.order.now.places.items c.args.among.now.words c.args.from h c.in-None.ensures short

pub returns-else-task-from : goal.returns-else-task-from
returns-else-task-from c = λ ps h short.
    let keys = c.args.order.now.keys.items in
    let places = c.args.order.now.places.items in
    let words = c.args.among.now.words in
    let start = c.place_at-place.result in
    let key = c.key_from-key.result in
    let first = c.in-Some.first in
    let priority = key_in keys first / 1024 in
    let lowest : c.index-lowest.result.now ≡ key_in keys first = get_or_read keys first c.index-lowest.result.now (c.requires.inside first c.in-Some.ensures.1) c.index-lowest.ensures 0 in
    let at : IsPlaceOf keys (priority * 1024 + c.args.from) start = rw lowest at (c.place_at-place.ensures ps h) in
    let from : IsKeyFrom keys words start priority (key_in keys first) key = rw (c.deref.ensures.value, lowest) at c.key_from-key.ensures in
    first_in_order ps keys places words first c.args.from start key h c.in-Some.ensures c.requires.inside short at from

pub returns-then-task-from : goal.returns-then-task-from
returns-then-task-from c = λ ps h short.
    let keys = c.args.order.now.keys.items in
    let first = c.in-Some.first in
    let lowest : c.index-lowest.result.now ≡ key_in keys first = get_or_read keys first c.index-lowest.result.now (c.requires.inside first c.in-Some.ensures.1) c.index-lowest.ensures 0 in
    let above : c.args.from ≤ key_in keys first % 1024 = rw lowest at c.if-task-from.true in
    rw lowest (first_at_once ps keys c.args.order.now.places.items c.args.among.now.words first c.args.from h c.in-Some.ensures c.requires.inside above)
