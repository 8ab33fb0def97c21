use Rattle.std.proofs.Common.{ℕ, ◌≡◌, ◌∙◌, ◌+◌, ◌<◌, ◌≤◌, true, false, map, Some, sym, subst, below_more, arith}
use Rattle.std.specs.Prelude.{slice_get, slice_index_or}
use Rattle.std.proofs.lemmas.Bool.{false≢true}
use Rattle.run_question.specs.declared.question.Arrival as code
use Rattle.run_question.specs.Questions.{arrival_data}
use Rattle.explore_core.specs.Schedules.{Arrival}
use Rattle.explore_core.specs.Walked.{Placed}
use Rattle.explore_core.proofs.Passed.{all_in_party, in_party, inside, is_there, there_is}
use Rattle.explore_core.proofs.position.Position.is_too_late.Goals as goal
use Rattle.explore_core.proofs.position.Position.is_too_late.Goals.{else-self-place-via-then-self-place+else-arrivals-place, else-self-place-via-else-self-place}

pub loop-place-init : goal.loop-place-init
loop-place-init c = λ k lt a there is. absurd (omega (arith, lt))

pub returns-then-arrivals-place-clause-late : goal.returns-then-arrivals-place-clause-late
returns-then-arrivals-place-clause-late c = λ e.
    let arrivals = c.args.arrivals.now in
    let place = c.loop-place.place in
    let x = c.index-arrivals-place.result in
    record {
      one = (place, arrival_data x);
      among = in_party (map arrival_data arrivals) c.args.self.now.pending place (arrival_data x) (there_is arrivals place x c.loop-place-test.true c.index-arrivals-place.is) c.if-self-place.true;
      late = subst (λ (y : code.Arrival). y.below ≤ c.args.turn + 1) (sym c.index-arrivals-place.is) c.if-arrivals-place.true;
    }

pub loop-place-preserved : goal.loop-place-preserved
loop-place-preserved c =
    let arrivals = c.args.arrivals.now in
    let place = c.loop-place.place in
    let P : ℕ → Type 0 = λ k. (a : Arrival) → slice_get (map arrival_data arrivals) k ≡ Some a → slice_index_or c.args.self.now.pending k false ≡ true → c.args.turn + 1 < a.below in
    let here : P place = elim c.else-self-place.branch [
      | else-self-place-via-then-self-place+else-arrivals-place w ↦ λ a there is.
          let x = w.index-arrivals-place.result in
          let late = subst (λ (y : code.Arrival). c.args.turn + 1 < y.below) (sym w.index-arrivals-place.is) w.if-arrivals-place.false in
          subst (λ (b : Arrival). c.args.turn + 1 < b.below) (is_there arrivals place x a c.loop-place-test.true w.index-arrivals-place.is there) late
      | else-self-place-via-else-self-place w ↦ λ a there is. absurd (false≢true (sym w.if-self-place.false ∙ is))
    ] in
    below_more _ _ c.loop-place.invariant here

pub returns-clause-early : goal.returns-clause-early
returns-clause-early c = λ e.
    all_in_party (λ (p : Placed). c.args.turn + 1 < p.1.below) c.args.self.now.pending (map arrival_data c.args.arrivals.now)
    (λ k a there is. let lt = inside c.args.arrivals.now k a there in c.loop-place.invariant k (omega (arith, lt, c.loop-place-test.false)) a there is)
