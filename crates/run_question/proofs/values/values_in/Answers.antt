use Rattle.std.proofs.Common.{◌≡◌, ◌∷◌, ◌∙◌, [], IfSome, IfNone, List, Option, ℕ, Bor, subst}
use Rattle.run_question.specs.Values.{pieces}
use Rattle.run_question.proofs.Pieces.{goes_on, no_range, stops_by}
use Rattle.run_question.proofs.values.values_in.Goals as goal

pub pieces-preserved : goal.pieces-preserved
pieces-preserved c =
    let piece = c.first_piece.result.0.now in
    let more = subst (λ (o : Option (Bor (List ℕ))). IfSome o (λ rest. pieces 44 c.pieces.text.now ≡ piece ∷ pieces 44 rest.now)) c.in-Some.is c.first_piece.ensures.more in
    c.pieces.invariant ∙ goes_on c.pieces.bytes.items c.push_piece.new.bytes.items piece (pieces 44 c.in-Some.rest.now) (pieces 44 c.pieces.text.now) more (c.in_ok-push_piece.ensures.some c.if-not-branch.false)

pub returns-then-not-branch-clause-none : goal.returns-then-not-branch-clause-none
returns-then-not-branch-clause-none c =
    c.pieces.invariant ∙ stops_by c.first_piece.result.1 c.pieces.bytes.items c.first_piece.result.0.now c.pieces.text.now c.first_piece.ensures.more c.first_piece.ensures.last (c.in_ok-push_piece.ensures.none c.if-not-branch.true)

pub returns-in-None-clause-some : goal.returns-in-None-clause-some
returns-in-None-clause-some c =
    let piece = c.first_piece.result.0.now in
    let last = subst (λ (o : Option (Bor (List ℕ))). IfNone o (pieces 44 c.pieces.text.now ≡ piece ∷ [])) c.in-None.is c.first_piece.ensures.last in
    c.pieces.invariant ∙ goes_on c.pieces.bytes.items c.push_piece.new.bytes.items piece [] (pieces 44 c.pieces.text.now) last (c.in_ok-push_piece.ensures.some c.if-not-branch.false)
    ∙ no_range c.push_piece.new.bytes.items
