use Rattle.run_script.specs.Events.{script_data}
use Rattle.explore_core.specs.Refusals.{turns_listed}
use Rattle.explore_core.proofs.Turns.{IsCounted}
use Rattle.explore_core.proofs.refusing.most_listed.Given as goal

abbrev pub invariant-loop-place : goal.invariant-loop-place
invariant-loop-place l = IsCounted (turns_listed (script_data l.script).events) l.place l.most l.last l.same
