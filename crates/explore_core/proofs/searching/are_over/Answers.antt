use Rattle.std.proofs.Common.{◌∙◌, ◌≤◌, length, map, inl, inr, sym, below_more, arith}
use Rattle.std.proofs.lemmas.Bool.{cases_lt}
use Rattle.std.proofs.lemmas.List.{length-map}
use Rattle.std.proofs.lemmas.Option.{none-some, slice_get_past}
use Rattle.run_question.specs.Questions.{arrival_data}
use Rattle.explore_core.proofs.Overs.{over_here}
use Rattle.explore_core.proofs.searching.are_over.Goals as goal

pub loop-place-init : goal.loop-place-init
loop-place-init c = λ k lt. absurd (omega (arith, lt))

pub loop-place-preserved : goal.loop-place-preserved
loop-place-preserved c =
    let i = c.loop-place in
    let x = c.index-arrivals-place.result in
    below_more _ _ i.invariant
    (λ a way is none came. over_here c.args.arrivals.now i.place x a way c.args.turn c.loop-place-test.true c.index-arrivals-place.is is (c.is_past.ensures c.if-not-is_past.false none way came))

pub returns : goal.returns
returns c = λ is place a way there none came.
    let i = c.loop-place in
    elim (cases_lt place i.place) [
      | inl lt ↦ i.invariant place lt a way there none came
      | inr le ↦
          let long : length (map arrival_data c.args.arrivals.now) ≤ place = omega (arith, le, c.loop-place-test.false, length-map c.args.arrivals.now arrival_data) in
          absurd (none-some a (sym (slice_get_past (map arrival_data c.args.arrivals.now) place long) ∙ there))
    ]
