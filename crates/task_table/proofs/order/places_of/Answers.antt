use Rattle.std.proofs.Common.{◌<◌, ◌%◌, ◌∙◌, length, arith, length-set}
use Rattle.task_table.specs.kept.Order.{key_in}
use Rattle.task_table.proofs.kept.Ordered.{placed_more}
use Rattle.task_table.proofs.order.places_of.Goals as goal

pub loop-place-preserved : goal.loop-place-preserved
loop-place-preserved c =
    let keys = c.args.keys.now in
    let n = c.loop-place.place in
    let places = c.loop-place.places.items in
    let inside : key_in keys n % 1024 < length places = omega (arith, c.requires.below n 0 c.loop-place-test.true, c.loop-place.invariant.count) in
    record {
      count = length-set places (key_in keys n % 1024) n ∙ c.loop-place.invariant.count;
      at = placed_more keys places n c.loop-place-test.true c.requires.once inside c.loop-place.invariant.at;
    }
