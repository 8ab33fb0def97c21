use Rattle.std.proofs.Common.{◌∙◌, sym, arith}
use Rattle.board_core.proofs.Queues.{queue_more, queue_ended}
use Rattle.board_core.proofs.device_view.queue.Goals as goal

pub loop-j-preserved : goal.loop-j-preserved
loop-j-preserved boxes c = record {
  items = c.push.ensures.items ∙ queue_more _ c.loop-j.queue.items c.loop-j.j c.in-Some.byte c.loop-j.invariant.items (sym c.queued.ensures ∙ c.in-Some.is);
  len = omega (arith, c.push.ensures.len, c.loop-j.invariant.len);
}

pub returns-in-None : goal.returns-in-None
returns-in-None boxes c = queue_ended _ c.loop-j.queue.items c.loop-j.j c.loop-j.invariant.items (sym c.queued.ensures ∙ c.in-None.is) (omega arith)
