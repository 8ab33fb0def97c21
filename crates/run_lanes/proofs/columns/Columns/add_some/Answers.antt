use Rattle.std.proofs.Common.{◌≡◌, ◌≤◌, ◌+◌, ◌*◌, ◌∙◌, ◌++◌, ℕ, length, length-append, ap, sym, arith}
use Rattle.run_lanes.specs.Activities.{idle_turns}
use Rattle.run_lanes.proofs.Kept.{cells_idle, cells_moved, outside_idle, outside_moved, same_widths}
use Rattle.run_lanes.proofs.Sights.{many_idle}
use Rattle.run_lanes.proofs.Tiled.{rows_below}
use Rattle.run_lanes.proofs.columns.Columns.add_some.Goals as goal

placed : {c c' w w' i i' : ℕ} → c' ≡ c → w' ≡ w → i' ≡ i → c' * w' + i' ≡ c * w + i
placed p q r = cc (p, q, r)

pub returns-clause-added : goal.returns-clause-added
returns-clause-added c = λ turn front few h.
    let b = c.make_room.new.self in
    let a = c.count_cells.new.self in
    let e = c.advance.new.self in
    let n = c.min-some.result in
    let ws = c.args.activities.now in
    let them = idle_turns turn n ws in
    let r = c.make_room.ensures.room front (omega (arith, few, c.requires, c.min-some.ensures, b.more)) h in
    let fits : b.inside + n ≤ b.width = omega (arith, b.more, c.min-some.ensures) in
    let wide : e.width ≡ b.width = c.advance.ensures.width ∙ c.count_cells.ensures.width in
    let many : e.tasks ≡ b.tasks = c.advance.ensures.tasks ∙ c.count_cells.ensures.tasks in
    let same : a.column * a.width + a.inside ≡ b.column * b.width + b.inside = placed c.count_cells.ensures.column c.count_cells.ensures.width c.count_cells.ensures.inside in
    let free : b.column * b.width + b.width ≤ 1200 * b.width = rows_below b.column 1200 b.width c.make_room.ensures.free in
    let longer : length (front ++ them) ≡ length front + n = omega (arith, length-append front them, many_idle turn n ws) in
    record {
      wide = wide ∙ same_widths b.width (length front) n r.wide (omega (arith, c.requires, c.min-some.ensures, b.more)) (omega (arith, r.at, fits, free));
      at = longer ∙ sym (c.advance.ensures.at ∙ ap (λ (m : ℕ). m + n) (same ∙ sym r.at));
      room = omega (arith, longer, r.at, free, fits, wide);
      cells = cells_moved b.width e.width b.tasks e.tasks (front ++ them) a.cells.items e.cells.items wide many c.advance.ensures.cells
          (cells_idle b.width b.column b.inside b.tasks front turn n ws b.cells.items a.cells.items r.at fits few r.cells c.count_cells.ensures.cells);
      outside = outside_moved b.width e.width (front ++ them) b.outside.items e.outside.items wide (c.advance.ensures.outside ∙ c.count_cells.ensures.outside)
          (outside_idle b.width b.column b.inside front turn n ws b.outside.items r.at fits r.outside);
    }
