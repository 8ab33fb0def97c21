use Rattle.std.proofs.Common.{◌∙◌, ◌+◌, ◌<◌, map, sym, subst, arith}
use Rattle.run_question.specs.Questions.{arrival_data}
use Rattle.explore_core.specs.declared.position.Position.{Position}
use Rattle.explore_core.proofs.Passed.{IsPassedOn, pass_absent, pass_present, passed_itself, passed_then, someone, there_is}
use Rattle.explore_core.proofs.position.Position.find_next.Goals as goal
use Rattle.explore_core.proofs.position.Position.find_next.Goals.{then-self, else-self}

pub places-init : goal.places-init
places-init c = passed_itself (map arrival_data c.args.arrivals.now) c.args.turn c.args.self.now

pub returns-then-is_way-clause-pending : goal.returns-then-is_way-clause-pending
returns-then-is_way-clause-pending c = c.places.invariant.pending

pub returns-then-is_way-clause-left : goal.returns-then-is_way-clause-left
returns-then-is_way-clause-left c = c.places.invariant.left

pub returns-then-is_way-clause-falls : goal.returns-then-is_way-clause-falls
returns-then-is_way-clause-falls c = c.places.invariant.falls

pub places-preserved : goal.places-preserved
places-preserved c =
    let arrivals = map arrival_data c.args.arrivals.now in
    let at = c.places.self in
    let one = someone c.args.arrivals.now at.next c.places-test.true in
    let lt : at.next < 8 = omega (arith, c.places-test.true, c.requires.few) in
    let way = sym c.is_way.ensures ∙ c.if-is_way.false in
    let on = λ (self : Position). IsPassedOn arrivals c.args.turn c.args.self.now (record { pending = self.pending; next = self.next + 1; choice = self.choice }) in
    elim c.if-self.branch [
      | then-self w ↦ subst on (sym w.self-is) (passed_then arrivals c.args.turn c.args.self.now at _ c.places.invariant (pass_present arrivals c.args.turn at (arrival_data one.0) lt (there_is c.args.arrivals.now at.next one.0 c.places-test.true one.1) w.if-self.true way))
      | else-self w ↦ subst on (sym w.self-is) (passed_then arrivals c.args.turn c.args.self.now at _ c.places.invariant (pass_absent arrivals c.args.turn at lt w.if-self.false))
    ]

pub returns-clause-pending : goal.returns-clause-pending
returns-clause-pending c = c.places.invariant.pending

pub returns-clause-left : goal.returns-clause-left
returns-clause-left c = c.places.invariant.left

pub returns-clause-falls : goal.returns-clause-falls
returns-clause-falls c = c.places.invariant.falls
