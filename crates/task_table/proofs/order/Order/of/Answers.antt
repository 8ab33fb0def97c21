use Rattle.std.proofs.Common.{arith}
use Rattle.task_table.proofs.kept.Ordered.{keys_fit, once_in, ordered}
use Rattle.task_table.proofs.order.Order.of.Goals as goal

pub places_of-requires-clause-few : goal.places_of-requires-clause-few
places_of-requires-clause-few c =
    let fit = keys_fit c.args.priorities.now c.in_ok-keys.keys.items c.requires c.in_ok-keys.ensures.permutation in
    rw c.deref.ensures.value (omega (arith, fit.0, c.requires))

pub places_of-requires-clause-below : goal.places_of-requires-clause-below
places_of-requires-clause-below c =
    let fit = keys_fit c.args.priorities.now c.in_ok-keys.keys.items c.requires c.in_ok-keys.ensures.permutation in
    rw c.deref.ensures.value (λ p d lt. omega (arith, (fit.1 p d lt).0, fit.0))

pub places_of-requires-clause-once : goal.places_of-requires-clause-once
places_of-requires-clause-once c = rw c.deref.ensures.value (once_in c.args.priorities.now c.in_ok-keys.keys.items c.requires c.in_ok-keys.ensures.permutation)

pub returns : goal.returns
returns c = ordered c.args.priorities.now c.in_ok-keys.keys.items c.in_ok-places.places.items c.requires c.in_ok-keys.ensures.permutation c.in_ok-keys.ensures.sorted (rw c.deref.ensures.value at c.in_ok-places.ensures.count) (rw c.deref.ensures.value at c.in_ok-places.ensures.at)
