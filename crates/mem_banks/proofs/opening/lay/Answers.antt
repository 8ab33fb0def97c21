use Rattle.std.proofs.Common.{ℕ, ◌≡◌, ◌+◌, ◌<◌, arith, length, get_or}
use Rattle.std.proofs.lemmas.List.{get_or_default}
use Rattle.std.proofs.lemmas.List.Elements.{Contains-get_or}
use Rattle.std.proofs.lemmas.Result.{IfOk-weaker}
use Rattle.mem_banks.specs.Kept.{IsFilled}
use Rattle.mem_banks.proofs.Laying.{AreLaidTo, laid_start, laid_region, laid_last, passed_more}
use Rattle.mem_banks.proofs.opening.lay.Goals as goal
use Rattle.mem_banks.proofs.opening.lay.Goals.{then-at-start+then-start-end+in_ok-fill+in_ok-add, else-at-start, else-at-start-via-then-at-start+else-start-end, else-at-start-via-else-at-start}

pub loop-start-init : goal.loop-start-init
loop-start-init c = record {
  laid = laid_start c.args.regions.now c.args.banks.now.items c.args.base c.args.end c.requires.place c.requires.order;
  passed = λ j d lt small. absurd (omega arith);
}

pub overflow_add-at : goal.overflow_add-at
overflow_add-at c =
    let k = c.loop-start.start-index in
    let r : ℕ × ℕ = get_or c.args.regions.now k (0, 0) in
    let fit = c.requires.inside r (Contains-get_or c.args.regions.now k (0, 0) c.loop-start-test.true) (omega (arith, c.loop-start.invariant.laid.low, c.if-at-start.true)) c.if-start-end.true in
    omega (arith, fit.1, c.ranges.end.fits)

pub loop-start-preserved : goal.loop-start-preserved
loop-start-preserved c =
    let regions = c.args.regions.now in
    let k = c.loop-start.start-index in
    let there : k < length regions = c.loop-start-test.true in
    let r : ℕ × ℕ = get_or regions k (0, 0) in
    let here : get_or regions k r ≡ r = get_or_default regions k r (0, 0) there in
    let laid = c.loop-start.invariant.laid in
    let passed = c.loop-start.invariant.passed in
    elim c.if-at-start.branch [
      | then-at-start+then-start-end+in_ok-fill+in_ok-add w ↦
          let some = c.requires.sizes r (Contains-get_or regions k (0, 0) there) in
          rw (w.banks-is, w.at-is) record {
            laid = laid_region regions c.args.banks.now.items c.args.base c.args.end c.requires.place c.loop-start.banks.items w.fill.new.banks.items w.add.new.banks.items c.loop-start.at k r c.requires.sorted c.requires.inside c.requires.outside c.requires.apart c.requires.sizes laid passed there here w.if-at-start.true w.if-start-end.true w.in_ok-fill.ensures w.in_ok-add.ensures;
            passed = passed_more regions k c.loop-start.at (r.0 + r.1) c.args.end r passed there here (omega (arith, w.if-at-start.true)) (λ small. omega (arith, some));
          }
      | else-at-start w ↦
          let late : r.0 < c.args.end → r.0 < c.loop-start.at = λ small. elim w.else-at-start.branch [
            | else-at-start-via-then-at-start+else-start-end v ↦ absurd (omega (arith, v.if-start-end.false))
            | else-at-start-via-else-at-start v ↦ omega (arith, v.if-at-start.false)
          ] in
          rw (w.banks-is, w.at-is) record { laid = laid; passed = passed_more regions k c.loop-start.at c.loop-start.at c.args.end r passed there here (omega arith) late }
    ]

ended : (c : goal.After-fill-2) → IsFilled c.loop-start.banks.items c.loop-start.at c.args.end c.fill-2.new.banks.items → AreLaidTo c.args.regions.now c.args.banks.now.items c.fill-2.new.banks.items c.args.base c.args.end c.args.end
ended c filled = laid_last c.args.regions.now c.args.banks.now.items c.args.base c.args.end c.requires.place c.loop-start.banks.items c.fill-2.new.banks.items c.loop-start.at c.loop-start.start-index c.requires.outside c.loop-start.invariant.laid c.loop-start.invariant.passed c.loop-start-test.false filled

pub returns-clause-laid : goal.returns-clause-laid
returns-clause-laid c = IfOk-weaker c.fill-2.result _ _ (λ x filled. (ended c filled).out) c.fill-2.ensures

pub returns-clause-parts : goal.returns-clause-parts
returns-clause-parts c = IfOk-weaker c.fill-2.result _ _ (λ x filled. (ended c filled).parts) c.fill-2.ensures
