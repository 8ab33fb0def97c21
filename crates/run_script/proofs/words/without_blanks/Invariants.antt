use Rattle.std.proofs.Common.{◌≡◌, drop}
use Rattle.run_script.specs.Words.{words}
use Rattle.run_script.proofs.words.without_blanks.Given as goal

abbrev pub invariant-loop-i : goal.invariant-loop-i
invariant-loop-i l = words l.text ≡ words (drop l.i l.text)
