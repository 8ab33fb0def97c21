use Rattle.run_script.proofs.Quoting.{HasNone}
use Rattle.run_script.proofs.quotes.text_start.Given as goal

abbrev pub invariant-loop-i : goal.invariant-loop-i
invariant-loop-i l = HasNone l.line l.i l.begins
