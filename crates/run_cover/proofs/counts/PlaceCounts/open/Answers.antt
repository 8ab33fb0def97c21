use Rattle.std.proofs.Common.{◌≡◌, ◌∙◌, ap, replicate}
use Rattle.run_cover.specs.Counted.{no_count}
use Rattle.run_cover.proofs.Counting.{newly_counted}
use Rattle.run_cover.proofs.counts.PlaceCounts.open.Goals as goal

pub returns : goal.returns
returns c =
    let made = c.in_ok-counts.ensures in
    let all : c.in_ok-counts.counts.items ≡ replicate 655360 no_count = made.items_if_clones_equal (λ y e. e) ∙ ap (replicate 655360) c.none.ensures in
    newly_counted c.in_ok-counts.counts all
