use Rattle.std.proofs.Common.{◌≡◌, take}
use Rattle.std.specs.Prelude.{fold}
use Rattle.task_table.specs.model.State.{State}
use Rattle.board_model.specs.Script.{Scenario}
use Rattle.board_core.specs.Data.{boxed}
use Rattle.board_core.specs.Stands.{Stands}
use Rattle.sweep_core.specs.Outcomes.{digest, digest_start}
use Rattle.sweep_core.proofs.outcome.digest_of_ram.Given as goal

abbrev pub invariant-loop-k : goal.invariant-loop-k
invariant-loop-k g l =
    let shown = boxed (λ p. (goal.Device-dyn g p).shown p.1) in
    (x : Scenario) (s : State) → Stands shown x l.board s → l.d ≡ fold digest digest_start (take l.k s.memory.ram)
