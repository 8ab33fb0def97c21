use Rattle.std.proofs.Common.{◌≡◌, ◌∙◌, ◌<◌, ◌≤◌, false, map, sym, ap, subst, below_more, arith}
use Rattle.std.specs.Prelude.{slice_index_or}
use Rattle.std.proofs.lemmas.Bool.{false≢true}
use Rattle.run_question.specs.declared.question.Arrival as code
use Rattle.run_question.specs.Questions.{arrival_data}
use Rattle.explore_core.specs.Schedules.{Arrival}
use Rattle.explore_core.specs.Walked.{Placed, may_come_in}
use Rattle.explore_core.proofs.Passed.{all_in_party, inside, is_there, not_yet}
use Rattle.explore_core.proofs.position.Position.next_turn.Goals as goal
use Rattle.explore_core.proofs.position.Position.next_turn.Goals.{then-self-place, else-self-place}

pub loop-place-init : goal.loop-place-init
loop-place-init c = record { later = c.requires.far; within = omega arith; none = λ k lt a there is. absurd (omega (arith, lt)) }

pub loop-place-preserved : goal.loop-place-preserved
loop-place-preserved c =
    let arrivals = c.args.arrivals.now in
    let place = c.loop-place.place in
    let turn = c.args.turn in
    let old = c.loop-place.invariant in
    elim c.if-self-place.branch [
      | then-self-place w ↦
          let x = w.index-arrivals-place.result in
          let max = w.max.ensures in
          let min = w.min-next.ensures in
          let is = w.next-is in
          let late = old.later in
          let far = old.within in
          let less : c.if-self-place.next ≤ c.loop-place.next = omega (arith, max, min, is) in
          record {
            later = omega (arith, max, min, is, late);
            within = omega (arith, less, far);
            none = below_more _ _ (λ k lt a there yes t low high. old.none k lt a there yes t low (omega (arith, high, less)))
                (λ a there yes t low high.
                let same : x.first ≡ (slice_index_or arrivals place x).first = ap (λ (y : code.Arrival). y.first) w.index-arrivals-place.is in
                let first : t < x.first = omega (arith, same, max, min, is, low, high) in
                subst (λ (b : Arrival). t < b.first) (is_there arrivals place x a c.loop-place-test.true w.index-arrivals-place.is there) first);
          }
      | else-self-place w ↦
          let is = w.next-is in
          let late = old.later in
          let far = old.within in
          record {
            later = omega (arith, is, late);
            within = omega (arith, is, far);
            none = below_more _ _ (λ k lt a there yes t low high. old.none k lt a there yes t low (omega (arith, high, is)))
                (λ a there yes t low high. absurd (false≢true (sym w.if-self-place.false ∙ yes)));
          }
    ]

pub returns-clause-later : goal.returns-clause-later
returns-clause-later c = c.loop-place.invariant.later

pub returns-clause-within : goal.returns-clause-within
returns-clause-within c = c.loop-place.invariant.within

pub returns-clause-none : goal.returns-clause-none
returns-clause-none c = λ t low high.
    all_in_party (λ (p : Placed). may_come_in p.1 t ≡ false) c.args.self.now.pending (map arrival_data c.args.arrivals.now)
    (λ k a there is. let lt = inside c.args.arrivals.now k a there in not_yet a t (c.loop-place.invariant.none k (omega (arith, lt, c.loop-place-test.false)) a there is t low high))
