use Rattle.std.proofs.Common.{◌≡◌, length}
use Rattle.trace_audit.specs.Fields.{form_named}
use Rattle.trace_audit.specs.Views.{forms_in}
use Rattle.trace_audit.proofs.forms.form_named.Given as goal

abbrev pub invariant-loop-forms : goal.invariant-loop-forms
invariant-loop-forms l = form_named l.name (forms_in l.forms) ≡ form_named l.name (forms_in l.initial.forms)

abbrev pub decreases-loop-forms : goal.decreases-loop-forms
decreases-loop-forms l = length l.forms
