use Rattle.std.proofs.Common.{◌∙◌, ◌≡◌, ◌<◌, length, length-set, Option, Some, None, inl, inr, refl, sym, ap, below_more, arith}
use Rattle.std.specs.Prelude.{option_map, slice_get, slice_index}
use Rattle.std.proofs.lemmas.Bool.{cases_lt}
use Rattle.explore_core.specs.declared.watch.Watched.{Watched}
use Rattle.explore_core.specs.Watching.{Judged, judged, numbered, watched_of}
use Rattle.explore_core.proofs.Watched.{at_here, nothing_past, set_here, set_other}
use Rattle.explore_core.proofs.watch.Watch.go_back.Goals as goal

pub loop-place-init : goal.loop-place-init
loop-place-init c = record { long = refl; before = λ k lt. absurd (omega (arith, lt)); behind = λ k le. refl }

pub index_mut-one-requires : goal.index_mut-one-requires
index_mut-one-requires c = omega (arith, c.loop-place-test.true, c.len-place-end.ensures, c.loop-place.invariant.long, c.loop-place.self.properties.ok.0, c.args.self.now.properties.ok.0)

pub loop-place-preserved : goal.loop-place-preserved
loop-place-preserved c =
    let i = c.loop-place in
    let items = i.self.properties.items in
    let one = c.index_mut-one.result.now in
    let new : Watched = record { property = one.property; verdict = c.with_number-one.result; before = one.before } in
    let lt : i.place < length items = omega (arith, c.loop-place-test.true, c.len-place-end.ensures, i.invariant.long, i.self.properties.ok.0, c.args.self.now.properties.ok.0) in
    let was : slice_get (watched_of c.args.self.now) i.place ≡ Some (judged one) = sym (i.invariant.behind i.place (omega arith)) ∙ at_here items i.place _ one lt c.index_mut-one.ensures.value in
    record {
      long = length-set items i.place new ∙ i.invariant.long;
      before = below_more _ _
          (λ k h. set_other items i.place k new (λ e. omega (arith, e, h)) ∙ i.invariant.before k h)
          (set_here items i.place new lt ∙ ap (λ v. Some (one.property, v)) c.with_number-one.ensures ∙ sym (ap (λ (o : Option Judged). option_map (numbered (slice_index c.args.numbers.now i.place)) o) was));
      behind = λ k le. set_other items i.place k new (λ e. omega (arith, e, le)) ∙ i.invariant.behind k (omega (arith, le));
    }

pub returns : goal.returns
returns c = λ k.
    let i = c.loop-place in
    let items = c.args.self.now.properties.items in
    elim (cases_lt k i.place) [
      | inl lt ↦ i.invariant.before k lt
      | inr le ↦
          let none : slice_get (watched_of c.args.self.now) k ≡ None = nothing_past items k (omega (arith, le, c.loop-place-test.false, c.len-place-end.ensures, c.args.self.now.properties.ok.0)) in
          i.invariant.behind k le ∙ none ∙ sym (ap (λ (o : Option Judged). option_map (numbered (slice_index c.args.numbers.now k)) o) none)
    ]
