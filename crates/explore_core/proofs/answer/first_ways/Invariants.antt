use Rattle.std.proofs.Common.{◌≡◌, drop}
use Rattle.explore_core.specs.Telling.{first_ways}
use Rattle.explore_core.proofs.answer.first_ways.Given as goal

abbrev pub invariant-loop-answer : goal.invariant-loop-answer
invariant-loop-answer l = first_ways l.answers ≡ first_ways (drop l.answer-index l.answers)
