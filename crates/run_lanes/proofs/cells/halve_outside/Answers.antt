use Rattle.std.proofs.Common.{◌≡◌, ◌≢◌, ◌<◌, ◌≤◌, ℕ, ◌+◌, ◌*◌, ◌∙◌, length, get_or, set, ap, below_more, arith}
use Rattle.std.proofs.lemmas.List.{get_or-set_other, get_or-set_same}
use Rattle.run_lanes.specs.Counted.{both}
use Rattle.run_lanes.proofs.cells.halve_outside.Goals as goal

pub loop-k-preserved : goal.loop-k-preserved
loop-k-preserved c =
    let k = c.loop-k.k in
    let xs = c.loop-k.outside in
    let old = c.args.outside.now in
    let v = c.saturating_add.result in
    let h = c.loop-k.invariant in
    let inside : k < length xs = omega (arith, c.requires.room, c.loop-k.auto.outside) in
    record {
      made = λ j d lt.
          let P : ℕ → Type 0 = λ m. get_or (set xs k v) m d ≡ both (get_or old (2 * m) 0) (get_or old (2 * m + 1) 0) in
          let below : (m : ℕ) → m < k → P m = λ m less. let ne : m ≢ k = omega arith in get_or-set_other xs k m v d ne ∙ h.made m d less in
          let here : P k = get_or-set_same xs k v d inside ∙ c.saturating_add.ensures ∙ ap (λ (n : ℕ). both n (get_or xs (2 * k + 1) 0)) (h.behind (2 * k) 0 (omega arith)) ∙ ap (λ (n : ℕ). both (get_or old (2 * k) 0) n) (h.behind (2 * k + 1) 0 (omega arith)) in
          below_more P k below here j lt;
      behind = λ j d le. let ne : j ≢ k = omega arith in get_or-set_other xs k j v d ne ∙ h.behind j d (omega arith);
    }

pub loop-k-2-preserved : goal.loop-k-2-preserved
loop-k-2-preserved c =
    let k = c.loop-k-2.k in
    let xs = c.loop-k-2.outside in
    let h = c.loop-k-2.invariant in
    let inside : k < length xs = omega (arith, c.requires.room, c.loop-k-2.auto.outside) in
    record {
      made = λ j d lt. let ne : j ≢ k = omega (arith, c.loop-k-2.auto.k) in get_or-set_other xs k j 0 d ne ∙ h.made j d lt;
      rest = λ j d le lt.
          let P : ℕ → Type 0 = λ m. 600 ≤ m → get_or (set xs k 0) m d ≡ 0 in
          let below : (m : ℕ) → m < k → P m = λ m less from. let ne : m ≢ k = omega arith in get_or-set_other xs k m 0 d ne ∙ h.rest m d from less in
          let here : P k = λ from. get_or-set_same xs k 0 d inside in
          below_more P k below here j lt le;
    }
