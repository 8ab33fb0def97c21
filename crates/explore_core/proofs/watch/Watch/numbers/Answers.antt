use Rattle.std.proofs.Common.{◌∙◌, ◌<◌, List, length, length-set, get_or-set_other, get_or-set_same, inl, inr, refl, ap, below_more, arith}
use Rattle.std.proofs.lemmas.Bool.{cases_lt}
use Rattle.explore_core.specs.declared.watch.Watched.{Watched}
use Rattle.explore_core.proofs.Watched.{all_zero, none_there, number_in_same}
use Rattle.explore_core.proofs.watch.Watch.numbers.Goals as goal

pub loop-place-init : goal.loop-place-init
loop-place-init c = record { long = refl; before = λ k lt. absurd (omega (arith, lt)); behind = λ k le. all_zero 16 k }

pub loop-place-preserved : goal.loop-place-preserved
loop-place-preserved c =
    let i = c.loop-place in
    let few = c.args.self.now.few in
    let value = c.deref-one-items.ensures.value in
    let lt : i.place < length c.args.self.now.properties.items = omega (arith, c.loop-place-test.true, ap (λ (l : List Watched). length l) value) in
    let in' : i.place < length i.numbers = omega (arith, lt, few, i.invariant.long) in
    record {
      long = omega (arith, length-set i.numbers i.place c.number.result, i.invariant.long);
      before = below_more _ _
          (λ k h. get_or-set_other i.numbers i.place k c.number.result 0 (λ e. omega (arith, e, h)) ∙ i.invariant.before k h)
          (get_or-set_same i.numbers i.place c.number.result 0 in' ∙ number_in_same c.args.self.now.properties.items c.deref-one-items.result.now i.place _ c.number.result lt value c.number.ensures);
      behind = λ k le. get_or-set_other i.numbers i.place k c.number.result 0 (λ e. omega (arith, e, le)) ∙ i.invariant.behind k (omega (arith, le));
    }

pub returns : goal.returns
returns c = λ k.
    let i = c.loop-place in
    let value = c.deref-one-items.ensures.value in
    elim (cases_lt k i.place) [
      | inl lt ↦ i.invariant.before k lt
      | inr le ↦ i.invariant.behind k le ∙ none_there c.args.self.now.properties.items k (omega (arith, le, c.loop-place-test.false, ap (λ (l : List Watched). length l) value))
    ]
