use Rattle.std.proofs.Common.{◌≡◌, ◌≤◌, ◌∙◌, length, ap, arith}
use Rattle.std.proofs.lemmas.List.{length-map}
use Rattle.task_table.specs.kept.Order.{has_task, priorities_of}
use Rattle.task_table.specs.declared.order.Order.{Order}
use Rattle.dispatch.proofs.Choices.{chosen_is}
use Rattle.dispatch.proofs.choose.Goals as goal

pub first_around-requires-clause-few : goal.first_around-requires-clause-few
first_around-requires-clause-few c = omega (arith, c.current.ensures.there, c.order.ensures.few, c.order.ensures.there)

pub first_around-requires-clause-inside : goal.first_around-requires-clause-inside
first_around-requires-clause-inside c = λ p is. omega (arith, c.ready.ensures.there p is, c.order.ensures.there)

pub returns : goal.returns
returns c = λ g t h.
    let ps = priorities_of g.tasks in
    let words = c.ready.result.now.words in
    let many : length ps ≡ length g.tasks = length-map g.tasks (λ x. x.priority) in
    let inside : c.current.result ≤ length ps = omega (arith, c.current.ensures.there, h.count, h.many, many) in
    c.first_around.ensures ps (c.order.ensures.holds g t h) inside
    ∙ chosen_is g t.state (has_task c.order.result.now.places.items words) (length ps) c.current.result (many ∙ h.many) (c.current.ensures.holds g t h) inside
    (λ j below. ap (λ (o : Order). has_task o.places.items words j) c.order.ensures.value ∙ (c.ready.ensures.holds g t h).each j (omega (arith, below, many)))
