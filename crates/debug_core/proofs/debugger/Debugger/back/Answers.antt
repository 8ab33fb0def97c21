use Rattle.std.proofs.Common.{◌≡◌, ◌∙◌, ◌-◌, ap, subst, arith}
use Rattle.board_core.specs.Data.{boxed}
use Rattle.debug_core.specs.Answers.{at_turn}
use Rattle.debug_core.specs.Times.{IsAt}
use Rattle.debug_core.proofs.Standing.{turns_at}
use Rattle.debug_core.proofs.debugger.Debugger.back.Goals as goal

pub back_to-requires : goal.back_to-requires
back_to-requires boxes c =
    let r = c.requires in
    let here = turns_at _ r.0 c.args.self.now.replay r.1.cursor r.2.at in
    (r.0, r.1.cursor, r.2.at, omega (arith, here, c.turns.ensures, c.earlier-to.ensures))

pub here-requires : goal.here-requires
here-requires boxes c =
    let r = c.requires in
    let here = turns_at _ r.0 c.args.self.now.replay r.1.cursor r.2.at in
    (r.0, c.earlier-to.result, c.back_to.ensures r.0 r.1.cursor r.2.at (omega (arith, here, c.turns.ensures, c.earlier-to.ensures)))

pub returns-clause-answer : goal.returns-clause-answer
returns-clause-answer boxes c = λ x s h.
    let to = c.earlier-to.result in
    let here = turns_at _ x c.args.self.now.replay s.cursor h.at in
    let is : to ≡ s.cursor - c.args.turns = omega (arith, here, c.turns.ensures, c.earlier-to.ensures) in
    c.here.ensures x to (c.back_to.ensures x s.cursor h.at (omega arith)) ∙ ap (at_turn x) is

pub returns-clause-session : goal.returns-clause-session
returns-clause-session boxes c = λ x s h.
    let shown = boxed (λ p. (goal.Device-dyn boxes p).shown p.1) in
    let to = c.earlier-to.result in
    let here = turns_at _ x c.args.self.now.replay s.cursor h.at in
    let is : to ≡ s.cursor - c.args.turns = omega (arith, here, c.turns.ensures, c.earlier-to.ensures) in
    record {
      at = subst (λ n. IsAt shown x c.back_to.new.self n) is (c.back_to.ensures x s.cursor h.at (omega arith));
      breakpoints = h.breakpoints;
      over = h.over;
    }
