use Rattle.std.proofs.Common.{◌≡◌, ◌+◌, ◌∙◌, ◌++◌, ◌∷◌, [], ℕ, List, ap, length, length-append, subst, sym, arith}
use Rattle.lane_picture.specs.declared.parts.TaskCalls.{TaskCalls}
use Rattle.lane_picture.specs.Drawing.{most_arrows}
use Rattle.run_lanes.specs.Columned.{Columned}
use Rattle.run_lanes.specs.Pictured.{most_events}
use Rattle.run_lanes.specs.Told.{all_arrows, all_events, arrows_of_notes, calls_at_end_of, no_calls_of}
use Rattle.run_lanes.specs.Activities.{TurnSight}
use Rattle.run_lanes.proofs.Exchanged.{arrows_turn, calls_turn, events_turn, first_moved}
use Rattle.run_lanes.proofs.canvas.CanvasWatcherUnit.see.Goals as goal

pub returns : goal.returns
returns c = λ tasks front le p.
    let t : TurnSight = record { turn = c.args.turn; activities = c.args.activities.now; notes = c.args.notes.now } in
    let none = no_calls_of tasks in
    let longer : length front + 1 ≡ length (front ++ (t ∷ [])) = sym (length-append front (t ∷ [])) in
    let P : ℕ → Type 0 = λ n. Columned c.add.new.self n (front ++ (t ∷ [])) in
    record {
      many = c.add.ensures.tasks ∙ p.many;
      columns = subst P longer (c.add.ensures.added c.args.turn front (omega arith) p.columns);
      calls = c.add-2.ensures.calls ∙ ap (λ (l : List TaskCalls). calls_at_end_of c.args.turn l c.args.notes.now) p.calls ∙ sym (calls_turn none front t);
      arrows = first_moved most_arrows _ _ _ _ _ (ap (λ (l : List TaskCalls). all_arrows none front ++ arrows_of_notes c.args.turn c.args.notes.now l c.args.notes.now) p.calls ∙ sym (arrows_turn none front t))
          (c.add-2.ensures.arrows most_arrows (all_arrows none front) p.arrows);
      events = first_moved most_events _ _ _ _ _ (sym (events_turn front t)) (c.add_events.ensures most_events (all_events front) p.events);
    }
