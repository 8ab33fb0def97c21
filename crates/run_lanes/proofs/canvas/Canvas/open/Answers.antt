use Rattle.run_lanes.specs.Told.{all_arrows, calls_at_end}
use Rattle.run_lanes.proofs.canvas.Canvas.open.Goals as goal

pub returns : goal.returns
unfolding all_arrows calls_at_end
returns c = record {
  many = c.in_ok-columns.ensures.tasks;
  columns = c.in_ok-columns.ensures.none;
  calls = c.in_ok-exchange.ensures.calls;
  arrows = c.in_ok-exchange.ensures.arrows;
  events = c.in_ok-events.ensures;
}
