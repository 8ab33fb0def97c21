use Rattle.std.proofs.Common.{◌∷◌, sym, ap, ◌∙◌, Option, option_map, Bor, List, ℕ}
use Rattle.thumb_asm.specs.Kinds.{cuts_left}
use Rattle.thumb_asm.proofs.Commas.{memory_long}
use Rattle.thumb_asm.proofs.operand.memory.Goals as goal

pub returns-in-Some-more : goal.returns-in-Some-more
returns-in-Some-more c = sym (memory_long c.args.inner.now c.in-Some-rest.rest.now c.in-Some-more.field-0.now c.split_by.result.0.now c.split_by-in-Some-rest.result.0.now
    (c.split_by.ensures.cuts ∙ ap (λ (o : Option (Bor (List ℕ))). c.split_by.result.0.now ∷ cuts_left 44 (option_map (λ r. r.now) o)) c.in-Some-rest.is)
    (c.split_by-in-Some-rest.ensures.cuts ∙ ap (λ (o : Option (Bor (List ℕ))). c.split_by-in-Some-rest.result.0.now ∷ cuts_left 44 (option_map (λ r. r.now) o)) c.in-Some-more.is))
