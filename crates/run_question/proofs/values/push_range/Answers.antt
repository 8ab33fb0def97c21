use Rattle.std.proofs.Common.{arith}
use Rattle.run_question.proofs.Pieces.{one_byte_more}
use Rattle.run_question.proofs.values.push_range.Goals as goal

pub loop-value-preserved : goal.loop-value-preserved
loop-value-preserved c = record {
  from = omega (arith, c.loop-value.invariant.from);
  same = one_byte_more c.args.bytes.now.items c.loop-value.bytes.items c.push.new.self.items c.args.first c.loop-value.value c.loop-value.invariant.from c.loop-value.invariant.same c.in_ok-push.ensures.items;
}
