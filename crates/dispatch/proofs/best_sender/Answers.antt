use Rattle.std.proofs.Common.{◌≡◌, ◌+◌, ◌<◌, ◌≤◌, ◌∙◌, ℕ, Option, IfSome, length, ap, sym, subst, arith}
use Rattle.std.proofs.lemmas.List.{length-map}
use Rattle.task_table.specs.kept.Holds.{task_count}
use Rattle.task_table.specs.kept.Order.{first_around, has_task, priorities_of}
use Rattle.task_table.specs.declared.order.Order.{Order}
use Rattle.dispatch.proofs.Choices.{best_is, first_below}
use Rattle.dispatch.proofs.best_sender.Goals as goal

pub first_around-requires-clause-few : goal.first_around-requires-clause-few
first_around-requires-clause-few c = omega (arith, c.requires.there, c.order.ensures.few, c.order.ensures.there)

pub first_around-requires-clause-inside : goal.first_around-requires-clause-inside
first_around-requires-clause-inside c = λ p is. omega (arith, c.clients.ensures.there p is, c.order.ensures.there)

pub returns-clause-best : goal.returns-clause-best
returns-clause-best c = λ g t h.
    let ps = priorities_of g.tasks in
    let words = c.clients.result.now.words in
    let many : length ps ≡ length g.tasks = length-map g.tasks (λ x. x.priority) in
    let there : c.args.receiver < length ps = omega (arith, c.requires.there, h.holds.count, h.holds.many, many) in
    c.first_around.ensures ps (c.order.ensures.holds g t h.holds) (omega (arith, there))
    ∙ best_is g t.state c.args.receiver (has_task c.order.result.now.places.items words) (length ps) (many ∙ h.holds.many) there
    (λ j below. ap (λ (o : Order). has_task o.places.items words j) c.order.ensures.value ∙ (c.clients.ensures.stands g t h).each j (omega (arith, below, many)))

pub returns-clause-inside : goal.returns-clause-inside
returns-clause-inside c =
    let g = c.requires.stood.0 in
    let t = c.requires.stood.1 in
    let h = c.requires.stood.2.holds in
    let k = c.args.k.now in
    let ps = priorities_of g.tasks in
    let among = has_task c.order.result.now.places.items c.clients.result.now.words in
    let many : length ps ≡ task_count k = length-map g.tasks (λ x. x.priority) ∙ h.many ∙ sym h.count in
    let fits : c.args.receiver + 1 ≤ length ps = omega (arith, c.requires.there, many) in
    let is : c.first_around.result ≡ first_around ps among (length ps) (c.args.receiver + 1) = c.first_around.ensures ps (c.order.ensures.holds g t h) fits in
    let below = subst (λ (m : ℕ). IfSome (first_around ps among (length ps) (c.args.receiver + 1)) (λ i. i < m)) many (first_below ps among (length ps) (c.args.receiver + 1) fits) in
    subst (λ (o : Option ℕ). IfSome o (λ i. i < task_count k)) (sym is) below
