use Rattle.std.proofs.Common.{◌≡◌, ◌++◌, length}
use Rattle.run_script.specs.Words.{words}
use Rattle.run_question.specs.Reading.{joined, spaced}
use Rattle.run_question.proofs.draft.joined.Given as goal

abbrev pub invariant-words : goal.invariant-words
invariant-words l = joined (words l.text) ≡ l.words.items ++ spaced (words l.rest)

abbrev pub decreases-words : goal.decreases-words
decreases-words l = length (words l.rest)
