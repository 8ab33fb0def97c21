use Rattle.std.proofs.Common.{◌≤◌}
use Rattle.board_model.specs.Script.{Scenario}
use Rattle.board_core.specs.Data.{boxed}
use Rattle.debug_core.specs.Session.{Session}
use Rattle.debug_core.specs.Sessions.{IsSession}
use Rattle.debug_core.proofs.Carried.{Carried}
use Rattle.debug_core.proofs.debugger.Debugger.carry_out_all.Given as goal

abbrev pub invariant-loop-command : goal.invariant-loop-command
invariant-loop-command g l =
    let shown = boxed (λ p. (goal.Device-dyn g p).shown p.1) in
    record {
      carried : (x : Scenario) (s : Session) → IsSession shown x l.fn.self s → Carried shown x s l.command-items l.command-index (g.S.Sink.seen l.fn.out).written (g.S.Sink.seen l.out).written l.self;
      later : (g.S.Sink.seen l.fn.out).faults ≤ (g.S.Sink.seen l.out).faults;
    }
