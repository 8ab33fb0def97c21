use Rattle.std.proofs.Common.{◌∷◌, sym, ap, ◌∙◌, Option, option_map, Bor, List, ℕ}
use Rattle.thumb_asm.specs.Kinds.{cuts_left}
use Rattle.thumb_asm.proofs.Commas.{ends_long}
use Rattle.thumb_asm.proofs.lists.ends.Goals as goal

pub returns-in-Some-more-clause-value : goal.returns-in-Some-more-clause-value
returns-in-Some-more-clause-value c = sym (ends_long c.args.piece.now c.in-Some.rest.now c.in-Some-more.field-0.now c.split_by.result.0.now c.split_by-in-Some.result.0.now
    (c.split_by.ensures.cuts ∙ ap (λ (o : Option (Bor (List ℕ))). c.split_by.result.0.now ∷ cuts_left 45 (option_map (λ r. r.now) o)) c.in-Some.is)
    (c.split_by-in-Some.ensures.cuts ∙ ap (λ (o : Option (Bor (List ℕ))). c.split_by-in-Some.result.0.now ∷ cuts_left 45 (option_map (λ r. r.now) o)) c.in-Some-more.is))
