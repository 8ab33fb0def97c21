use Rattle.debug_core.specs.Runs.{forward}
use Rattle.debug_core.proofs.debugger.Debugger.at.Goals as goal

pub to_turn-requires-clause-from : goal.to_turn-requires-clause-from
to_turn-requires-clause-from boxes c = let r = c.requires.session in (r.0, r.1.cursor, r.2.at)

pub here-requires : goal.here-requires
here-requires boxes c = let r = c.requires.session in (r.0, forward r.0 0 c.args.turn, c.to_turn.ensures r.0 r.1.cursor r.2.at)

pub returns-clause-answer : goal.returns-clause-answer
returns-clause-answer boxes c = λ x s h. c.here.ensures x (forward x 0 c.args.turn) (c.to_turn.ensures x s.cursor h.at)

pub returns-clause-session : goal.returns-clause-session
returns-clause-session boxes c = λ x s h. record { at = c.to_turn.ensures x s.cursor h.at; breakpoints = h.breakpoints; over = h.over }
