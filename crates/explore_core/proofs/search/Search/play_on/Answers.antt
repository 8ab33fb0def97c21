use Rattle.std.proofs.Common.{◌≤◌, ◌<◌, length, map, sym, subst, arith}
use Rattle.std.proofs.lemmas.List.{length-map}
use Rattle.board_core.specs.Data.{boxed}
use Rattle.board_core.specs.Stands.{turns_of}
use Rattle.run_question.specs.Questions.{arrival_data}
use Rattle.explore_core.specs.Searching.{HasLed, at_first}
use Rattle.explore_core.proofs.Going.{later_on, led_on}
use Rattle.explore_core.proofs.search.Search.play_on.Goals as goal

pub returns-clause-led : goal.returns-clause-led
returns-clause-led g c = λ a came s asked h.
    let shown = boxed (λ p. (goal.Device-dyn g p).shown p.1) in
    let given = c.args.given.now in
    let at = c.args.at.now in
    let old = c.args.self.now in
    let past : length (map arrival_data given.question.arrivals.items) ≤ at.next = let long = length-map given.question.arrivals.items arrival_data in omega (arith, long, c.requires.passed) in
    subst (λ w. HasLed shown a at (at_first at) came s old w) (sym c.write_down.ensures.same)
    (led_on shown given at old c.turns-from.result c.turns-from.ensures past c.requires.early c.play_to.new.self c.write_down.new.self.found c.write_down.ensures.written c.play_to.new.board c.next_stop-stop.result c.requires.looked c.requires.goes
    c.next_stop-stop.ensures.later c.next_stop-stop.ensures.within c.next_stop-stop.ensures.none c.play_to.ensures.played a came s asked h)

pub returns-clause-later : goal.returns-clause-later
returns-clause-later g c =
    let shown = boxed (λ p. (goal.Device-dyn g p).shown p.1) in
    let given = c.args.given.now in
    let at = c.args.at.now in
    let old = c.args.self.now in
    let past : length (map arrival_data given.question.arrivals.items) ≤ at.next = let long = length-map given.question.arrivals.items arrival_data in omega (arith, long, c.requires.passed) in
    let r = c.requires.somewhere in
    subst (λ w. turns_of old.board < turns_of w.board) (sym c.write_down.ensures.same)
    (later_on shown given at old c.turns-from.result c.turns-from.ensures past c.requires.early c.play_to.new.self c.write_down.new.self.found c.write_down.ensures.written c.play_to.new.board c.next_stop-stop.result c.requires.looked c.requires.goes
    c.next_stop-stop.ensures.later c.next_stop-stop.ensures.within c.next_stop-stop.ensures.none c.play_to.ensures.played r.0 r.1 r.2 r.3 r.4)
