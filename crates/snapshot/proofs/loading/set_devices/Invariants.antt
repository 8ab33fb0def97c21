use Rattle.std.proofs.Common.{◌≡◌}
use Rattle.task_table.specs.model.State.{State}
use Rattle.board_model.specs.Script.{Scenario}
use Rattle.board_core.specs.Data.{boxed}
use Rattle.board_core.specs.Stands.{Holds, count_of}
use Rattle.snapshot.specs.Loaded.{with_devices}
use Rattle.snapshot.proofs.loading.set_devices.Given as goal

-- the devices so far
abbrev pub invariant-loop-k : goal.invariant-loop-k
invariant-loop-k g l =
    let shown = boxed (λ p. (goal.Device-dyn g p).shown p.1) in
    record {
      holds : (x : Scenario) (s : State) → Holds shown x l.fn.board s → Holds shown x l.board record s { devices = with_devices l.bytes l.tasks l.k s.devices };
      count : count_of l.board ≡ count_of l.fn.board;
    }
