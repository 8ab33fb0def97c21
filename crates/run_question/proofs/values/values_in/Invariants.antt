use Rattle.std.proofs.Common.{◌≡◌, length}
use Rattle.run_question.specs.Values.{pieces, values_in, with_ranges}
use Rattle.run_question.proofs.values.values_in.Given as goal

abbrev pub invariant-pieces : goal.invariant-pieces
invariant-pieces l = values_in l.word ≡ with_ranges l.bytes.items (pieces 44 l.text)

abbrev pub decreases-pieces : goal.decreases-pieces
decreases-pieces l = length l.text
