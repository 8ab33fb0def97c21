use Rattle.std.proofs.Common.{◌+◌, ◌≤◌}
use Rattle.board_core.specs.Data.{boxed}
use Rattle.board_core.specs.Stands.{StandsForSome, turns_of}
use Rattle.kernel_tests.proofs.eight_devices.given_out.Given as goal

abbrev pub invariant-loop : goal.invariant-loop
invariant-loop g l =
    record {
      stood : StandsForSome (boxed (λ p. (goal.Device-dyn g p).shown p.1)) l.board;
      few : turns_of l.board + l.turns ≤ 1000 + l.counter;
    }
