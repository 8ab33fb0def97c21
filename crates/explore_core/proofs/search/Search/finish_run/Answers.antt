use Rattle.std.proofs.Common.{◌≤◌, length, map, sym, subst, arith}
use Rattle.std.proofs.lemmas.List.{length-map}
use Rattle.board_core.specs.Data.{boxed}
use Rattle.run_question.specs.Questions.{arrival_data}
use Rattle.explore_core.specs.Searching.{Ends}
use Rattle.explore_core.proofs.Going.{ends_run}
use Rattle.explore_core.proofs.search.Search.finish_run.Goals as goal

pub returns : goal.returns
returns g c =
    let shown = boxed (λ p. (goal.Device-dyn g p).shown p.1) in
    let given = c.args.given.now in
    let at = c.args.at.now in
    let old = c.args.self.now in
    let past : length (map arrival_data given.question.arrivals.items) ≤ at.next = let long = length-map given.question.arrivals.items arrival_data in omega (arith, long, c.requires.passed) in
    subst (λ w. Ends shown given at old w) (sym c.write_down.ensures.same)
    (ends_run shown given at old c.turns-from.result c.turns-from.ensures past c.requires.early c.finish.new.self c.write_down.new.self.found c.write_down.ensures.written c.args.end c.requires.end c.finish.ensures)
