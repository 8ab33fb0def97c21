use Rattle.std.proofs.Common.{◌≡◌, ℕ, ap, subst, arith}
use Rattle.run_lanes.specs.declared.activity.Activity.{Activity}
use Rattle.run_lanes.specs.Counted.{Changed, counted}
use Rattle.run_lanes.specs.Timeline.{activity_at}
use Rattle.run_lanes.proofs.Changes.{changed_here, changed_none}
use Rattle.run_lanes.proofs.cells.count_activities.Goals as goal

pub loop-i-init : goal.loop-i-init
loop-i-init c = changed_none c.args.cells.now c.args.at _

pub loop-i-preserved : goal.loop-i-preserved
loop-i-preserved c =
    let h = c.loop-i.invariant in
    let at = c.args.at in
    let i = c.loop-i.i in
    let old = c.args.cells.now in
    changed_here (λ x. counted x c.activity_at.result c.args.turns) (λ i x. counted x (activity_at c.args.activities.now i) c.args.turns) old c.loop-i.cells at i c.count.new.cell (omega arith) h c.count.ensures
    (λ x. ap (λ (w : Activity). counted x w c.args.turns) c.activity_at.ensures)

pub returns : goal.returns
returns c =
    let all : c.loop-i.i ≡ c.args.tasks = omega arith in
    let P : ℕ → Type 0 = λ n. Changed c.args.cells.now c.loop-i.cells c.args.at n (λ i x. counted x (activity_at c.args.activities.now i) c.args.turns) in
    subst P all c.loop-i.invariant
