use Rattle.std.proofs.Common.{◌≡◌, ◌∙◌, ◌+◌, ◌*◌, ℕ, ap, arith, sym, take, drop}
use Rattle.image_format.specs.Regions.{regions_from}
use Rattle.image_format.proofs.Chunks.{counted_step, none_found, regions_step}
use Rattle.image_format.proofs.regions.check_regions.Goals as goal

pub loop-i-preserved : goal.loop-i-preserved
loop-i-preserved c =
    let n = c.from.result in
    let same : c.from-in-loop-i.result ≡ n = c.from-in-loop-i.ensures ∙ sym c.from.ensures in
    let count = counted_step c.args.tasks.now c.loop-i.i c.loop-i-test.true in
    let none = none_found c.check_own-found.result (sym c.is_some.ensures ∙ c.if-is_some.false) in
    record {
      place = omega (arith, same);
      left_over = omega (arith, count);
      left =
          ap (λ (k : ℕ). regions_from c.args.h.now (take (c.loop-i.start + n) c.args.regions.now) (c.loop-i.place + 12 * k) (drop (c.loop-i.i + 1) c.args.tasks.now) (drop (c.loop-i.start + n) c.args.regions.now)) same
          ∙ regions_step c.args.h.now c.args.tasks.now c.args.regions.now c.loop-i.place c.loop-i.start c.loop-i.i n c.check_own-found.result c.loop-i-test.true c.from.ensures c.check_own-found.ensures none
          ∙ c.loop-i.invariant.left;
    }
