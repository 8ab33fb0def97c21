use Rattle.std.proofs.Common.{◌≡◌, ◌+◌, ◌∙◌, ◌++◌, ℕ, length, length-append, subst, sym, arith}
use Rattle.lane_picture.specs.Drawing.{most_arrows}
use Rattle.run_lanes.specs.Columned.{Columned}
use Rattle.run_lanes.specs.Pictured.{most_events}
use Rattle.run_lanes.specs.Told.{no_calls_of}
use Rattle.run_lanes.specs.Activities.{idle_turns}
use Rattle.run_lanes.proofs.Exchanged.{arrows_idle, calls_idle, events_idle, first_moved}
use Rattle.run_lanes.proofs.Sights.{many_idle}
use Rattle.run_lanes.proofs.canvas.CanvasWatcherUnit.see_idle.Goals as goal

pub returns : goal.returns
returns c = λ tasks front le p.
    let turn = c.args._turn in
    let n = c.args.turns in
    let ws = c.args.activities.now in
    let them = idle_turns turn n ws in
    let many = many_idle turn n ws in
    let none = no_calls_of tasks in
    let longer : length front + n ≡ length (front ++ them) = omega (arith, length-append front them, many) in
    let P : ℕ → Type 0 = λ m. Columned c.add_idle.new.self m (front ++ them) in
    record {
      many = c.add_idle.ensures.tasks ∙ p.many;
      columns = subst P longer (c.add_idle.ensures.added turn front (omega (arith, le, many)) p.columns);
      calls = p.calls ∙ sym (calls_idle none front turn n ws);
      arrows = first_moved most_arrows _ _ _ _ _ (sym (arrows_idle none front turn n ws)) p.arrows;
      events = first_moved most_events _ _ _ _ _ (sym (events_idle front turn n ws)) p.events;
    }
