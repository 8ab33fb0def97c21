use Rattle.std.proofs.Common.{◌≡◌, take}
use Rattle.task_table.specs.kept.Order.{keyed}
use Rattle.task_table.proofs.order.keys_of.Given as goal

abbrev pub invariant-loop-i : goal.invariant-loop-i
invariant-loop-i l = l.keys.items ≡ keyed 0 (take l.i l.priorities)
