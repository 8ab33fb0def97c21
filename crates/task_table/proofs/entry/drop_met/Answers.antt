use Rattle.std.proofs.Common.{arith}
use Rattle.task_table.proofs.kept.KeptEntries.{kept_there}
use Rattle.task_table.proofs.entry.drop_met.Goals as goal

pub returns : goal.returns
returns c =
    let so_far = c.loop-task.invariant in
    let many = c.loop-task.auto.entries in
    record {
      count = many;
      there = λ i x k. so_far.there i x k;
      apart = λ i x k. so_far.apart i x (omega (arith, kept_there c.loop-task.entries i x k, many, c.loop-task-test.false)) k;
      stay = λ i x k. so_far.stay i x k;
      watched = λ i x k. so_far.watched i x (omega (arith, kept_there c.loop-task.entries i x k, many, c.loop-task-test.false)) k;
    }
