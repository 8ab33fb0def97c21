use Rattle.std.proofs.Common.{◌≡◌, ◌≤◌, ◌-◌, ◌++◌}
use Rattle.std.specs.List.{range_with_len}
use Rattle.run_question.proofs.values.push_range.Given as goal

abbrev pub invariant-loop-value : goal.invariant-loop-value
invariant-loop-value l = record {
  from : l.first ≤ l.value;
  same : l.bytes.items ≡ l.fn.bytes.items ++ range_with_len l.first (l.value - l.first);
}
