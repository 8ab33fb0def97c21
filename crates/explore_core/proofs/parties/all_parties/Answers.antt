use Rattle.std.proofs.Common.{◌≡◌, ◌≤◌, ◌+◌, ◌∙◌, length, map, ap, arith}
use Rattle.std.proofs.lemmas.List.{length-map}
use Rattle.run_question.specs.Questions.{arrival_data}
use Rattle.explore_core.proofs.Party.{at_most, parties_below, parties_more}
use Rattle.explore_core.proofs.parties.all_parties.Goals as goal

pub loop-some-preserved : goal.loop-some-preserved
loop-some-preserved c =
    parties_more (map arrival_data c.args.arrivals.now) c.loop-some.some c.loop-some.list.items c.push_parties.new.list.items c.loop-some.invariant c.in_ok-push_parties.ensures

pub returns-clause-few : goal.returns-clause-few
returns-clause-few c =
    let arrivals = map arrival_data c.args.arrivals.now in
    let long = length-map c.args.arrivals.now arrival_data in
    let few : length arrivals ≤ 8 = omega (arith, long, c.requires) in
    let last : c.loop-some.some ≡ length arrivals + 1 = omega (arith, long, c.loop-some-test.false, c.loop-some.auto.some-end) in
    at_most arrivals c.loop-some.list.items few (c.loop-some.invariant ∙ ap (parties_below arrivals) last)
