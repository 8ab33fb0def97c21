use Rattle.std.proofs.Common.{◌≡◌, ◌∙◌, ◌+◌, ◌-◌, ℕ, drop, take, arith, ap, sym}
use Rattle.image_format.specs.Steps.{counted}
use Rattle.image_format.proofs.Chunks.{blank}
use Rattle.image_format.proofs.Lookups.{own_sliced}
use Rattle.std.proofs.Math.ListN.{get_or}
use Rattle.image_format.proofs.line_devices.own_regions.Goals as goal

pub returns : goal.returns
returns c =
    let tasks = c.args.tasks.now in
    let regions = c.args.regions.now in
    let i = c.args.i in
    let start : c.counted-start.result ≡ counted (take i tasks) = c.counted-start.ensures in
    let n : c.from.result ≡ (get_or tasks i blank).regions = c.from.ensures in
    let few : (c.counted-start.result + c.from.result) - c.counted-start.result ≡ (get_or tasks i blank).regions = omega (arith, n) in
    ap (λ (k : ℕ). take k (drop c.counted-start.result regions)) few
    ∙ ap (λ (k : ℕ). take (get_or tasks i blank).regions (drop k regions)) start
    ∙ sym (own_sliced tasks regions i c.requires.within)
