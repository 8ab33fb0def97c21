use Rattle.std.proofs.Common.{◌<◌, ◌+◌, ◌*◌, ◌∙◌, arith}
use Rattle.std.proofs.lemmas.Nat.{mul-add-lt}
use Rattle.run_lanes.proofs.cells.halve.Goals as goal

pub returns-clause-made : goal.returns-clause-made
returns-clause-made c = λ k i d lt less.
    let below : k * c.args.tasks + i < 600 * c.args.tasks = omega (arith, mul-add-lt k c.args.tasks i 600 lt less) in
    c.clear.ensures.before (k * c.args.tasks + i) d below ∙ c.join_all.ensures.made k i d lt less
