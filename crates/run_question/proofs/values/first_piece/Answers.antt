use Rattle.std.proofs.Common.{arith}
use Rattle.run_question.proofs.Pieces.{cut, uncut}
use Rattle.run_question.proofs.values.first_piece.Goals as goal

pub returns-then-end-text-clause-more : goal.returns-then-end-text-clause-more
returns-then-end-text-clause-more c =
    let k = c.mark_in-end.result in
    cut c.args.mark c.args.text.now k (omega arith) c.mark_in-end.ensures.before (c.mark_in-end.ensures.found (omega arith))

pub returns-else-end-text-clause-last : goal.returns-else-end-text-clause-last
returns-else-end-text-clause-last c = uncut c.args.mark c.args.text.now (λ j lt. c.mark_in-end.ensures.before j (omega arith))
