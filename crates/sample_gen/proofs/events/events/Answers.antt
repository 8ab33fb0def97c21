use Rattle.std.proofs.Common.{◌∙◌, sym, arith, rules}
use Rattle.sample_gen.proofs.Drawn.{no_events, one_event_more}
use Rattle.sample_gen.proofs.events.events.Goals as goal

pub loop-k-init : goal.loop-k-init
loop-k-init c = λ seed h. (h, c.in_ok-events.ensures.items ∙ sym (no_events seed))

pub loop-k-preserved : goal.loop-k-preserved
loop-k-preserved c = λ seed h.
    one_event_more seed c.loop-k.k c.loop-k.numbers.last c.draw.new.self.last c.draw-line.new.self.last _ _ c.loop-k.events.items _ (omega arith) (c.loop-k.invariant seed h).0 c.draw.ensures.next c.draw-line.ensures.next (search (rules, c.draw.ensures.drawn)) c.draw-line.ensures.drawn (c.loop-k.invariant seed h).1 c.in_ok-push.ensures.items
