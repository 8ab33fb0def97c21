use Rattle.trace_audit.specs.Texts.{lines_of}
use Rattle.trace_audit.proofs.Deciding.{yes_exactly, no_exactly, refused_exactly, judged, unjudged, first_refused, no_first}
use Rattle.trace_audit.proofs.auditing.audit.Goals as goal

pub returns-in-Some-clause-exact : goal.returns-in-Some-clause-exact
returns-in-Some-clause-exact c = refused_exactly (lines_of c.args.text.now) c.in-Some.cause c.in-Some.line c.in-Some.ensures.some

pub returns-in-Ok-clause-yes : goal.returns-in-Ok-clause-yes
returns-in-Ok-clause-yes c = yes_exactly c.args.text.now c.in-Ok.judgement c.in-Ok.ensures

pub returns-in-Ok-clause-no : goal.returns-in-Ok-clause-no
returns-in-Ok-clause-no c = no_exactly c.args.text.now c.in-Ok.judgement c.in-Ok.ensures

pub returns-in-Ok-clause-exact : goal.returns-in-Ok-clause-exact
returns-in-Ok-clause-exact c = judged c.in-Ok.judgement (lines_of c.args.text.now) c.in_default.ensures.none

pub returns-in-Err-clause-exact : goal.returns-in-Err-clause-exact
returns-in-Err-clause-exact c = unjudged (lines_of c.args.text.now) c.in_default.ensures.none

pub returns-in-Some-clause-first : goal.returns-in-Some-clause-first
returns-in-Some-clause-first c = first_refused _ (lines_of c.args.text.now) (refused_exactly (lines_of c.args.text.now) c.in-Some.cause c.in-Some.line c.in-Some.ensures.some)

pub returns-in-Ok-clause-first : goal.returns-in-Ok-clause-first
returns-in-Ok-clause-first c = first_refused _ (lines_of c.args.text.now) (judged c.in-Ok.judgement (lines_of c.args.text.now) c.in_default.ensures.none)

pub returns-in-Err-clause-first : goal.returns-in-Err-clause-first
returns-in-Err-clause-first c = first_refused _ (lines_of c.args.text.now) (unjudged (lines_of c.args.text.now) c.in_default.ensures.none)

pub returns-in-Ok-clause-none : goal.returns-in-Ok-clause-none
returns-in-Ok-clause-none c = no_first (lines_of c.args.text.now) c.in_default.ensures.none
