use Rattle.std.proofs.Common.{◌≡◌, ◌≤◌, ◌+◌, ◌*◌, ◌∙◌, ◌++◌, ◌∷◌, [], ℕ, Bool, List, length, get_or, set, if◌then◌else◌, length-append, ap, sym, arith}
use Rattle.std.specs.List.{list_any}
use Rattle.run_lanes.specs.Columns.{is_outside}
use Rattle.run_lanes.specs.Counted.{both}
use Rattle.run_lanes.specs.Activities.{TurnSight}
use Rattle.run_lanes.proofs.Kept.{cells_more, cells_moved, outside_more, outside_moved}
use Rattle.run_lanes.proofs.Tiled.{rows_below}
use Rattle.run_lanes.proofs.columns.Columns.add.Goals as goal

placed : {c c' w w' i i' : ℕ} → c' ≡ c → w' ≡ w → i' ≡ i → c' * w' + i' ≡ c * w + i
placed p q r = cc (p, q, r)

raised_same : {xs ys : List ℕ} {c k : ℕ} (b : Bool) → ys ≡ xs → k ≡ c → (if b then set ys k (both (get_or ys k 0) 1) else ys) ≡ (if b then set xs c (both (get_or xs c 0) 1) else xs)
raised_same {xs} {ys} {c} {k} b p q = ap (λ (l : List ℕ). if b then set l k (both (get_or l k 0) 1) else l) p ∙ ap (λ (j : ℕ). if b then set xs j (both (get_or xs j 0) 1) else xs) q

pub returns-clause-added : goal.returns-clause-added
returns-clause-added c = λ turn turns few h.
    let b = c.make_room.new.self in
    let a = c.add_cells.new.self in
    let o = c.add_outside.new.self in
    let e = c.advance.new.self in
    let r = c.make_room.ensures.room turns few h in
    let t : TurnSight = record { turn = turn; activities = c.args.activities.now; notes = c.args.notes.now } in
    let wide : e.width ≡ b.width = c.advance.ensures.width ∙ c.add_outside.ensures.width ∙ c.add_cells.ensures.width in
    let many : e.tasks ≡ b.tasks = c.advance.ensures.tasks ∙ c.add_outside.ensures.tasks ∙ c.add_cells.ensures.tasks in
    let same : o.column * o.width + o.inside ≡ b.column * b.width + b.inside =
    placed (c.add_outside.ensures.column ∙ c.add_cells.ensures.column) (c.add_outside.ensures.width ∙ c.add_cells.ensures.width) (c.add_outside.ensures.inside ∙ c.add_cells.ensures.inside) in
    let longer : length (turns ++ (t ∷ [])) ≡ length turns + 1 = length-append turns (t ∷ []) in
    let free : b.column * b.width + b.width ≤ 1200 * b.width = rows_below b.column 1200 b.width c.make_room.ensures.free in
    record {
      wide = wide ∙ r.wide;
      at = longer ∙ sym (c.advance.ensures.at ∙ ap (λ (m : ℕ). m + 1) (same ∙ sym r.at));
      room = omega (arith, longer, r.at, free, b.more, wide);
      cells = cells_moved b.width e.width b.tasks e.tasks (turns ++ (t ∷ [])) a.cells.items e.cells.items wide many (c.advance.ensures.cells ∙ c.add_outside.ensures.cells)
          (cells_more b.width b.column b.inside b.tasks turns t b.cells.items a.cells.items r.at b.more few r.cells c.add_cells.ensures.cells);
      outside = outside_moved b.width e.width (turns ++ (t ∷ [])) o.outside.items e.outside.items wide c.advance.ensures.outside
          (outside_more b.width b.column b.inside turns t b.outside.items o.outside.items r.at b.more few (omega (arith, b.outside.ok.0, b.outside_each)) r.outside
          (c.add_outside.ensures.outside ∙ raised_same (list_any is_outside c.args.notes.now) c.add_cells.ensures.outside c.add_cells.ensures.column));
    }
