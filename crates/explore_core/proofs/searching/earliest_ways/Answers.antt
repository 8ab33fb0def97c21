use Rattle.std.proofs.Common.{◌∙◌, ◌≡◌, ℕ, ◌<◌, List, length, length-set, map, get_or-set_other, get_or-set_same, Option, Some, None, refl, sym, ap, below_more, arith, cond, Bool}
use Rattle.std.specs.Prelude.{max, option_map, slice_get}
use Rattle.std.proofs.lemmas.List.{length-map}
use Rattle.run_question.specs.declared.question.Arrival as code
use Rattle.run_question.specs.Questions.{arrival_data}
use Rattle.explore_core.specs.Searching.{earliest}
use Rattle.explore_core.specs.Ways.{way_at}
use Rattle.explore_core.specs.declared.ways.Way.{Way}
use Rattle.explore_core.proofs.Overs.{arrival_there}
use Rattle.explore_core.proofs.searching.earliest_ways.Goals.{then-pending-place, else-pending-place}
use Rattle.explore_core.proofs.searching.earliest_ways.Goals as goal

pub loop-place-init : goal.loop-place-init
loop-place-init c = record { long = c.told-ways; before = λ k lt. absurd (omega (arith, lt)); behind = λ k le. refl }

pub loop-place-preserved : goal.loop-place-preserved
loop-place-preserved c =
    let i = c.loop-place in
    let arrivals = map arrival_data c.args.arrivals.now in
    let either = λ (b : Bool). cond b (option_map (earliest c.args.from) (slice_get arrivals i.place)) (way_at c.args.ways.now i.place) in
    elim c.if-pending-place.branch [
      | then-pending-place w ↦
          let x = w.index-arrivals-place.result in
          let way : Option Way = Some (record { turn = w.max.result; choice = 0 }) in
          let lt : i.place < length i.earliest = omega (arith, c.loop-place-test.true, c.requires.few, i.invariant.long) in
          let there : slice_get arrivals i.place ≡ Some (arrival_data x) = arrival_there c.args.arrivals.now i.place x c.loop-place-test.true w.index-arrivals-place.is in
          let is : way ≡ option_map (earliest c.args.from) (slice_get arrivals i.place) =
          ap (λ (t : ℕ). Some (record { turn = t; choice = 0 })) (w.max.ensures ∙ ap (λ (a : code.Arrival). max a.first c.args.from) (sym w.index-arrivals-place.is)) ∙ sym (ap (option_map (earliest c.args.from)) there) in
          record {
            long = ap (λ (l : List (Option Way)). length l) w.earliest-is ∙ length-set i.earliest i.place way ∙ i.invariant.long;
            before = below_more _ _
                (λ k h. ap (λ (l : List (Option Way)). way_at l k) w.earliest-is ∙ get_or-set_other i.earliest i.place k way None (λ e. omega (arith, e, h)) ∙ i.invariant.before k h)
                (ap (λ (l : List (Option Way)). way_at l i.place) w.earliest-is ∙ get_or-set_same i.earliest i.place way None lt ∙ is ∙ sym (ap either w.if-pending-place.true));
            behind = λ k le. ap (λ (l : List (Option Way)). way_at l k) w.earliest-is ∙ get_or-set_other i.earliest i.place k way None (λ e. omega (arith, e, le)) ∙ i.invariant.behind k (omega (arith, le));
          }
      | else-pending-place w ↦ record {
        long = ap (λ (l : List (Option Way)). length l) w.earliest-is ∙ i.invariant.long;
        before = below_more _ _
            (λ k h. ap (λ (l : List (Option Way)). way_at l k) w.earliest-is ∙ i.invariant.before k h)
            (ap (λ (l : List (Option Way)). way_at l i.place) w.earliest-is ∙ i.invariant.behind i.place (omega arith) ∙ sym (ap either w.if-pending-place.false));
        behind = λ k le. ap (λ (l : List (Option Way)). way_at l k) w.earliest-is ∙ i.invariant.behind k (omega (arith, le));
      }
    ]

pub returns : goal.returns
returns c = λ place lt. c.loop-place.invariant.before place (omega (arith, lt, length-map c.args.arrivals.now arrival_data, c.loop-place-test.false))
