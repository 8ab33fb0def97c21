use Rattle.std.proofs.Common.{arith}
use Rattle.std.proofs.lemmas.Grind.{common_steps}
use Rattle.std.proofs.lemmas.List.Sums.{sum_by_more, sum_by_more_le}
use Rattle.mem_plan.specs.Order.{size_of}
use Rattle.mem_plan.proofs.Ordered.{packed_more}
use Rattle.mem_plan.proofs.placing.packed.Goals as goal

pub overflow_add-base : goal.overflow_add-base
overflow_add-base c = omega (
  arith,
  c.requires.fits,
  c.requires.room,
  c.loop-k.invariant.used,
  c.requires.positive c.loop-k.k (record { 0 = 0 }, 0) c.loop-k-test.true,
  sum_by_more_le size_of c.args.order.now c.loop-k.k (record { 0 = 0 }, 0) c.loop-k-test.true,
)

pub overflow_add-used : goal.overflow_add-used
overflow_add-used c = omega (
  arith,
  c.ranges.room.fits,
  c.requires.room,
  c.loop-k.invariant.used,
  sum_by_more_le size_of c.args.order.now c.loop-k.k (record { 0 = 0 }, 0) c.loop-k-test.true,
)

pub loop-k-preserved : goal.loop-k-preserved
loop-k-preserved c = record {
  len = grind (arith, common_steps);
  used = omega (arith, c.loop-k.invariant.used, sum_by_more size_of c.args.order.now c.loop-k.k (record { 0 = 0 }, 0) c.loop-k-test.true);
  at = packed_more c.args.order.now c.args.base _ c.loop-k.k (record { 0 = 0 }, 0) _ c.loop-k-test.true c.requires.once
      (omega (arith, c.loop-k.invariant.len, c.requires.below c.loop-k.k (record { 0 = 0 }, 0) c.loop-k-test.true)) c.loop-k.invariant.at
      (omega (arith, c.loop-k.invariant.used));
}
