use Rattle.std.proofs.Common.{◌∙◌, sym}
use Rattle.run_question.specs.Values.{pieces, range_of}
use Rattle.run_question.proofs.Pieces.{range_more}
use Rattle.run_question.proofs.values.push_piece.Goals as goal

pub returns-in_ok-push_range-in-Some-clause-some : goal.returns-in_ok-push_range-in-Some-clause-some
returns-in_ok-push_range-in-Some-clause-some c = λ t.
    range_more c.args.bytes.now.items c.deref.result.now c.push_range.new.bytes.items (range_of (pieces 45 c.args.piece.now)) c.in-Some.first c.in-Some.last c.in-Some.ensures.value c.deref.ensures.value (sym c.are_below.ensures ∙ c.if-are_below.true) c.in_ok-push_range-in-Some.ensures
