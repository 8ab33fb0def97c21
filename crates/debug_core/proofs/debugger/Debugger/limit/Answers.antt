use Rattle.std.proofs.Common.{arith}
use Rattle.debug_core.proofs.Standing.{turns_at}
use Rattle.debug_core.proofs.debugger.Debugger.limit.Goals as goal

pub returns-clause-limit : goal.returns-clause-limit
returns-clause-limit boxes c = λ x s h.
    let here = turns_at _ x c.args.self.now.replay s.cursor h.at in
    omega (arith, here, c.turns.ensures, c.saturating_add.ensures, c.min.ensures)
