use Rattle.std.proofs.Common.{◌≤◌, List, length, map, subst, arith}
use Rattle.std.proofs.lemmas.List.{length-map}
use Rattle.board_core.specs.Data.{boxed}
use Rattle.run_question.specs.declared.question.Arrival as code
use Rattle.run_question.specs.Questions.{arrival_data}
use Rattle.explore_core.specs.Searching.{IsTooLate, party_in}
use Rattle.explore_core.proofs.Going.{ends_as, ends_late, goes_as, was_false, was_true}
use Rattle.explore_core.proofs.search.Search.go_on.Goals as goal

pub returns-then-is_too_late-clause-ended : goal.returns-then-is_too_late-clause-ended
returns-then-is_too_late-clause-ended g c = λ e.
    let shown = boxed (λ p. (goal.Device-dyn g p).shown p.1) in
    let given = c.args.given.now in
    let at = c.args.at.now in
    let past : length (map arrival_data given.question.arrivals.items) ≤ at.next = let long = length-map given.question.arrivals.items arrival_data in omega (arith, long, c.requires.passed) in
    let late = subst (λ (l : List code.Arrival). IsTooLate c.turns.result (party_in (map arrival_data l) at.pending)) c.deref.ensures.value (c.is_too_late.ensures.late c.if-is_too_late.true) in
    ends_late shown given at c.args.self.now c.turns.result c.turns.ensures late past

pub is_seen-requires : goal.is_seen-requires
is_seen-requires g c =
    let r = c.requires.somewhere in
    let led = c.play_on.ensures.led r.0 r.1 r.2 r.3 r.4 in
    record { somewhere = (r.0, r.1, led.state, r.3, led.stands) }

pub returns-clause-on : goal.returns-clause-on
returns-clause-on g c = λ e.
    let shown = boxed (λ p. (goal.Device-dyn g p).shown p.1) in
    goes_as shown c.args.given.now c.args.at.now c.play_on.new.at c.args.self.now c.play_on.new.self c.is_seen.new.self c.play_on.ensures.first c.play_on.ensures.same c.play_on.ensures.led c.is_seen.ensures.same c.play_on.ensures.later
    (c.is_seen.ensures.kept (was_false c.is_seen.result e))

pub returns-clause-ended : goal.returns-clause-ended
returns-clause-ended g c = λ e.
    let shown = boxed (λ p. (goal.Device-dyn g p).shown p.1) in
    ends_as shown c.args.given.now c.args.at.now c.play_on.new.at c.args.self.now c.play_on.new.self c.is_seen.new.self c.play_on.ensures.first c.play_on.ensures.same c.play_on.ensures.led c.is_seen.ensures.same c.play_on.ensures.later
    (c.is_seen.ensures.seen (was_true c.is_seen.result e))
