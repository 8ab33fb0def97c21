use Rattle.std.proofs.Common.{sym, ap, ◌∙◌, Option, option_map, is_some, Bor, List, ℕ}
use Rattle.thumb_asm.specs.Operands.{ranges}
use Rattle.thumb_asm.specs.Kinds.{cuts_left}
use Rattle.thumb_asm.proofs.Texts.{some_left, none_left, no_ranges}
use Rattle.thumb_asm.proofs.lists.are_ranges.Goals as goal

pub returns-in-None : goal.returns-in-None
returns-in-None c = sym (c.pieces.invariant
    ∙ ap (λ (o : Option (Bor (List ℕ))). is_some (ranges (cuts_left 44 (option_map (λ r. r.now) o)))) c.in-Some.is
    ∙ ap (λ ps. is_some (ranges ps)) c.split_by.ensures.cuts
    ∙ none_left c.split_by.result.0.now _ c.in-None.ensures.value)

pub pieces-preserved : goal.pieces-preserved
pieces-preserved c = c.pieces.invariant
    ∙ ap (λ (o : Option (Bor (List ℕ))). is_some (ranges (cuts_left 44 (option_map (λ r. r.now) o)))) c.in-Some.is
    ∙ ap (λ ps. is_some (ranges ps)) c.split_by.ensures.cuts
    ∙ some_left c.split_by.result.0.now _ _ c.in-Some-ends.ensures.value

pub returns : goal.returns
returns c = sym (c.pieces.invariant ∙ ap (λ (o : Option (Bor (List ℕ))). is_some (ranges (cuts_left 44 (option_map (λ r. r.now) o)))) c.in_default.is ∙ no_ranges)
