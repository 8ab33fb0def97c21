use Rattle.std.proofs.Common.{◌≡◌, ◌∷◌, IfSome, List, Option, ℕ, Bor, subst}
use Rattle.run_question.specs.Values.{pieces}
use Rattle.run_question.proofs.Pieces.{no_range_of}
use Rattle.run_question.proofs.values.range_in.Goals as goal

pub returns-in-Some-more-clause-value : goal.returns-in-Some-more-clause-value
returns-in-Some-more-clause-value c =
    let first = c.first_piece.result.0.now in
    let last = c.first_piece-in-Some.result.0.now in
    let one = subst (λ (o : Option (Bor (List ℕ))). IfSome o (λ rest. pieces 45 c.args.piece.now ≡ first ∷ pieces 45 rest.now)) c.in-Some.is c.first_piece.ensures.more in
    let two = subst (λ (o : Option (Bor (List ℕ))). IfSome o (λ rest. pieces 45 c.in-Some.behind.now ≡ last ∷ pieces 45 rest.now)) c.in-Some-more.is c.first_piece-in-Some.ensures.more in
    no_range_of first last c.args.piece.now c.in-Some.behind.now c.in-Some-more.field-0.now one two
