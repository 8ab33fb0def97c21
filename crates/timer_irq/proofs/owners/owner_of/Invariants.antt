use Rattle.std.proofs.Common.{◌≡◌, eqb, take, None}
use Rattle.std.specs.Prelude.{find}
use Rattle.task_table.specs.declared.start.LineStart.{LineStart}
use Rattle.timer_irq.proofs.owners.owner_of.Given as goal

-- no owner so far is that of this line
abbrev pub invariant-loop-owner : goal.invariant-loop-owner
invariant-loop-owner l = find (λ (o : LineStart). eqb o.line l.line) (take l.owner-index l.owner-items) ≡ None
