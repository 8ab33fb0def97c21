use Rattle.std.proofs.Common.{◌≡◌, ◌≤◌, ◌+◌, ◌*◌, drop}
use Rattle.image_format.specs.Steps.{tasks_fault, tasks_from}
use Rattle.image_format.proofs.checks.check_tasks.Given as goal

abbrev pub invariant-loop-i : goal.invariant-loop-i
invariant-loop-i l = record {
  place : l.place ≤ 28 + 12 * l.i;
  left : tasks_from l.form l.i l.place (drop l.i l.tasks) ≡ tasks_fault l.h l.tasks;
}
