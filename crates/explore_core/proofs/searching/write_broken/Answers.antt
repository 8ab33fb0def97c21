use Rattle.std.proofs.Common.{◌≡◌, ◌∙◌, ℕ, ◌<◌, Some, None, cond, length, length-set, map, get_or, get_or-set_other, get_or-set_same, inl, inr, refl, set, sym, subst, arith}
use Rattle.std.specs.Option.{option_or}
use Rattle.std.proofs.lemmas.Bool.{cases_lt}
use Rattle.explore_core.specs.Watching.{Judged, is_open, judged}
use Rattle.explore_core.proofs.Overs.{written_at}
use Rattle.explore_core.proofs.searching.write_broken.Goals as goal

pub loop-place-init : goal.loop-place-init
loop-place-init c = record { long = c.told-found; before = λ k w lt. absurd (omega (arith, lt)); behind = λ k le. refl }

pub loop-place-preserved : goal.loop-place-preserved
loop-place-preserved c =
    let i = c.loop-place in
    let new = c.found_by.result in
    let lt : i.place < length i.found = omega (arith, c.loop-place-test.true, c.requires.few, i.invariant.long) in
    let items = c.args.watched.now in
    let wanted = λ (k : ℕ) (v : Judged). option_or (get_or c.args.found.now k None) (cond (is_open v.1) None (Some c.args.ways.now)) in
    let here : (w : Judged) → get_or (set i.found i.place new) i.place None ≡ wanted i.place (get_or (map judged items) i.place w) = λ w.
    get_or-set_same i.found i.place new None lt
    ∙ written_at items i.place _ w _ (get_or c.args.found.now i.place None) new c.args.ways.now c.loop-place-test.true c.found_by.ensures (i.invariant.behind i.place (omega arith)) in
    let last : (k : ℕ) (w : Judged) → k ≡ i.place → get_or (set i.found i.place new) k None ≡ wanted k (get_or (map judged items) k w) = λ k w at.
    subst (λ (j : ℕ). get_or (set i.found i.place new) j None ≡ wanted j (get_or (map judged items) j w)) (sym at) (here w) in
    record {
      long = length-set i.found i.place new ∙ i.invariant.long;
      before = λ k w h. elim (cases_lt k i.place) [
        | inl less ↦ get_or-set_other i.found i.place k new None (λ e. omega (arith, e, less)) ∙ i.invariant.before k w less
        | inr le ↦ last k w (omega (arith, le, h))
      ];
      behind = λ k le. get_or-set_other i.found i.place k new None (λ e. omega (arith, e, le)) ∙ i.invariant.behind k (omega (arith, le));
    }

pub returns : goal.returns
returns c = λ place w lt. c.loop-place.invariant.before place w (omega (arith, lt, c.loop-place-test.false))
