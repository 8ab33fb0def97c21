use Rattle.std.proofs.Common.{◌≡◌, ◌∙◌, ℕ, List, ap, length, map, subst, sym}
use Rattle.std.specs.Prelude.{string_bytes}
use Rattle.std.proofs.lemmas.List.{length-map}
use Rattle.std.proofs.lemmas.Result.{IfOk-weaker}
use Rattle.board_run.specs.Text.{end_name}
use Rattle.lane_picture.specs.Drawing.{drawing_text}
use Rattle.run_lanes.specs.Painted.{Painted}
use Rattle.run_lanes.specs.Told.{TurnNote, all_events, event_text}
use Rattle.run_lanes.proofs.Painting.{few_events, painted_is}
use Rattle.run_lanes.proofs.picture.paint.Goals as goal

pub draw-requires-clause-events : goal.draw-requires-clause-events
draw-requires-clause-events c =
    let p = c.requires.painted in
    few_events string_bytes _ c.in_ok-events.events.items c.deref-4.result.now c.deref.result.now (all_events p.0) c.in_ok-events.ensures c.deref-4.ensures.value (c.deref.ensures.value ∙ p.1.events.first)

pub returns : goal.returns
returns c = λ r seen p is_turns is_ticks is_end.
    let names = c.args.names.now in
    let texts : List (List ℕ) = map string_bytes names in
    let many : length names ≡ length texts = sym (length-map names string_bytes) in
    let P : ℕ → Type 0 = λ n. Painted n c.args.canvas.now seen in
    let q = subst P many p in
    IfOk-weaker c.draw.result _ _
    (λ v is. is ∙ ap drawing_text
    (painted_is c.args.title.now c.end_name.result.now texts r seen c.args.canvas.now c.args.turns c.args.ticks c.all_outside.result.now c.all_cells.result.now c.deref-2.result.now c.deref-3.result.now
    (map string_bytes c.deref-4.result.now) q is_turns is_ticks (c.end_name.ensures.name ∙ ap end_name is_end) (c.all_outside.ensures.used seen q.columns) (c.all_cells.ensures seen q.columns)
    c.deref-2.ensures.value c.deref-3.ensures.value
    (ap (λ (l : List _). map string_bytes l) c.deref-4.ensures.value ∙ c.in_ok-events.ensures ∙ ap (λ (l : List TurnNote). map (event_text texts) l) c.deref.ensures.value)))
    c.draw.ensures
