use Rattle.std.proofs.Common.{◌∙◌, ap, subst, arith}
use Rattle.board_core.specs.Data.{boxed}
use Rattle.debug_core.specs.Answers.{at_turn}
use Rattle.debug_core.specs.Runs.{state_at}
use Rattle.debug_core.specs.Times.{IsAt}
use Rattle.debug_core.proofs.debugger.Debugger.step.Goals as goal

pub go_to-requires-clause-from : goal.go_to-requires-clause-from
go_to-requires-clause-from boxes c =
    let r = c.requires in
    let at = r.2.at in
    let most = at.most in
    (r.0, r.1.cursor, at, omega (arith, c.limit-to.ensures.limit r.0 r.1 r.2))

pub here-requires : goal.here-requires
here-requires boxes c =
    let r = c.requires in
    let most = r.2.at.most in
    let to = c.limit-to.result in
    (r.0, (state_at r.0 to).turn, c.go_to.ensures r.0 r.1.cursor r.2.at (omega (arith, c.limit-to.ensures.limit r.0 r.1 r.2)))

pub returns-clause-answer : goal.returns-clause-answer
returns-clause-answer boxes c = λ x s h.
    let to = c.limit-to.result in
    let most = h.at.most in
    let is = c.limit-to.ensures.limit x s h in
    c.here.ensures x (state_at x to).turn (c.go_to.ensures x s.cursor h.at (omega arith)) ∙ ap (λ n. at_turn x (state_at x n).turn) is

pub returns-clause-session : goal.returns-clause-session
returns-clause-session boxes c = λ x s h.
    let shown = boxed (λ p. (goal.Device-dyn boxes p).shown p.1) in
    let most = h.at.most in
    let is = c.limit-to.ensures.limit x s h in
    record {
      at = subst (λ n. IsAt shown x c.go_to.new.self (state_at x n).turn) is (c.go_to.ensures x s.cursor h.at (omega arith));
      breakpoints = h.breakpoints;
      over = h.over;
    }
