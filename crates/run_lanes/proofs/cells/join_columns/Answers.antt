use Rattle.std.proofs.Common.{◌≡◌, ◌+◌, ℕ, subst, get_or, arith}
use Rattle.lane_picture.specs.Sizes.{no_cell}
use Rattle.run_lanes.specs.Counted.{Changed, joined}
use Rattle.run_lanes.proofs.Changes.{changed_none, joins_more}
use Rattle.run_lanes.proofs.cells.join_columns.Goals as goal

pub loop-i-init : goal.loop-i-init
loop-i-init c = changed_none c.args.cells.now c.args.at _

pub loop-i-preserved : goal.loop-i-preserved
loop-i-preserved c =
    joins_more c.args.cells.now c.loop-i.cells c.args.at c.args.from c.args.tasks c.loop-i.i c.joined.result (omega arith) c.requires.order (omega arith) c.loop-i.invariant c.joined.ensures

pub returns : goal.returns
returns c =
    let old = c.args.cells.now in
    let all : c.loop-i.i ≡ c.args.tasks = omega arith in
    let P : ℕ → Type 0 = λ n. Changed old c.loop-i.cells c.args.at n (λ i _. joined (get_or old (c.args.from + i) no_cell) (get_or old (c.args.from + c.args.tasks + i) no_cell)) in
    subst P all c.loop-i.invariant
