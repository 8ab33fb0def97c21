use Rattle.std.proofs.Common.{◌≤◌, length, subst, arith}
use Rattle.board_core.specs.Views.{IsTask}
use Rattle.debug_core.specs.Runs.{state_at}
use Rattle.debug_core.proofs.Seen.{its_registers, no_registers}
use Rattle.debug_core.proofs.debugger.registers.Goals as goal

pub returns-in-None : goal.returns-in-None
returns-in-None boxes c = λ x turn h.
    let past : length h.state.0.tasks ≤ c.args.task = omega (arith, c.in-None.ensures.view x h.state.0 h.state.1, c.from.ensures) in
    no_registers h.state.0 (state_at x turn) c.args.task h.state.2 past

pub returns-in-Some : goal.returns-in-Some
returns-in-Some boxes c = λ x turn h.
    let task = subst (λ i. IsTask h.state.0 i c.in-Some.view) c.from.ensures (c.in-Some.ensures.view x h.state.0 h.state.1) in
    its_registers h.state.0 (state_at x turn) c.args.task c.in-Some.view h.state.2 task
