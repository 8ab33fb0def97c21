use Rattle.std.proofs.Common.{sym, ◌∙◌, subst}
use Rattle.trace_audit.specs.Midway.{IsFineSoFar}
use Rattle.trace_audit.proofs.Taking.{fine_none, fine_more, first_cause, no_cause}
use Rattle.trace_audit.proofs.causes.first_cause.Goals as goal

pub loop-line-init : goal.loop-line-init
loop-line-init c = subst (λ r. IsFineSoFar c.args.text.now r 0) (sym c.of-lines.ensures) (fine_none c.args.text.now)

pub loop-line-preserved : goal.loop-line-preserved
loop-line-preserved c = fine_more c.args.text.now c.loop-line.lines.rest.now c.next.new.self.rest.now c.in-Some.line.now c.loop-line.number c.in-Some.ensures.line c.in-Some.ensures.shorter (sym c.cause_of.ensures ∙ c.in-None.is) c.loop-line.invariant

pub returns-in-Some-cause_of-clause-some : goal.returns-in-Some-cause_of-clause-some
returns-in-Some-cause_of-clause-some c = first_cause c.args.text.now c.loop-line.lines.rest.now c.next.new.self.rest.now c.in-Some.line.now c.loop-line.number c.in-Some.ensures.line c.in-Some-cause_of.cause (sym c.cause_of.ensures ∙ c.in-Some-cause_of.is) c.loop-line.invariant

pub returns-clause-none : goal.returns-clause-none
returns-clause-none c = no_cause c.args.text.now c.loop-line.lines.rest.now c.loop-line.number c.in_default.ensures.end c.loop-line.invariant
