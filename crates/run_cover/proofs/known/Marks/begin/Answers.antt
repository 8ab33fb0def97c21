use Rattle.std.proofs.Common.{◌≡◌, ◌<◌, refl, subst}
use Rattle.run_cover.specs.declared.counts.Count.{Count}
use Rattle.run_cover.specs.Counted.{count_of}
use Rattle.run_cover.proofs.Marking.{grows_one}
use Rattle.run_cover.proofs.known.Marks.begin.Goals as goal

pub returns-then-not-has : goal.returns-then-not-has
returns-then-not-has c =
    let n = count_of c.args.counts.now in
    let more : 0 < (n c.args.addr).executed = subst (λ (x : Count). 0 < x.executed) c.at.ensures c.if-at-gt0.true in
    record {
      marks = c.mark.ensures.marks;
      grows = grows_one (λ b. (b ≡ c.args.addr) × (0 < (n c.args.addr).executed)) _ _ c.args.addr c.mark.ensures (refl, more);
      done = λ e. c.mark.ensures.known;
    }
