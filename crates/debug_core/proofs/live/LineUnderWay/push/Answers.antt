use Rattle.std.proofs.Common.{◌∙◌, ◌<◌, length, sym, arith}
use Rattle.std.proofs.lemmas.Bool.{eqb-false, eqb-true}
use Rattle.debug_core.proofs.Cutting.{kept_full, kept_more}
use Rattle.debug_core.proofs.live.LineUnderWay.push.Goals as goal

pub returns-then-not-is_full : goal.returns-then-not-is_full
returns-then-not-is_full c = λ bytes h.
    let front = c.args.self.now.front.items in
    let other = eqb-false (length front) 1026 (sym c.is_full.ensures.value ∙ c.if-not-is_full.true) in
    let below : length front < 1026 = omega (arith, other, c.is_full.ensures.fits) in
    c.push.ensures.items ∙ kept_more 1026 front bytes c.args.byte h below

pub returns-else-not-is_full : goal.returns-else-not-is_full
returns-else-not-is_full c = λ bytes h.
    let front = c.args.self.now.front.items in
    kept_full 1026 front bytes c.args.byte h (eqb-true (length front) 1026 (sym c.is_full.ensures.value ∙ c.if-not-is_full.false))
