use Rattle.std.proofs.Common.{◌≡◌, ◌≢◌, ◌<◌, ℕ, ◌∙◌, length, get_or, set, ap, below_more, arith}
use Rattle.std.proofs.lemmas.List.{get_or-set_other, get_or-set_same}
use Rattle.std.proofs.lemmas.List.FromFn.{fill_by_all}
use Rattle.run_lanes.specs.Counted.{both}
use Rattle.run_lanes.proofs.cells.add_counts.Goals as goal

pub loop-w-preserved : goal.loop-w-preserved
loop-w-preserved c =
    let i = c.loop-w.w in
    let xs = c.loop-w.counts in
    let v = c.saturating_add.result in
    let h = c.loop-w.invariant in
    let inside : i < length xs = omega (arith, c.loop-w.auto.counts) in
    record {
      made = λ k d lt.
          let P : ℕ → Type 0 = λ m. get_or (set xs i v) m d ≡ both (get_or c.args.counts.now m 0) (get_or c.args.more.now m 0) in
          let below : (m : ℕ) → m < i → P m = λ m less. let ne : m ≢ i = omega arith in get_or-set_other xs i m v d ne ∙ h.made m d less in
          let here : P i = get_or-set_same xs i v d inside ∙ c.saturating_add.ensures ∙ ap (λ (n : ℕ). both n (get_or c.args.more.now i 0)) (h.behind i 0 (omega arith)) in
          below_more P i below here k lt;
      behind = λ k d le. let ne : k ≢ i = omega arith in get_or-set_other xs i k v d ne ∙ h.behind k d (omega arith);
    }

pub returns : goal.returns
returns c =
    fill_by_all (λ w. both (get_or c.args.counts.now w 0) (get_or c.args.more.now w 0)) c.loop-w.counts (length c.args.counts.now) 0 (omega (arith, c.loop-w.auto.counts))
    (λ k lt. c.loop-w.invariant.made k 0 (omega arith))
