use Rattle.std.proofs.Common.{◌≡◌, drop}
use Rattle.std.specs.Prelude.{find}
use Rattle.std.specs.List.{flat_map}
use Rattle.task_table.specs.model.State.{State}
use Rattle.board_model.specs.Script.{Scenario}
use Rattle.board_core.specs.Data.{boxed}
use Rattle.board_core.specs.Stands.{Stands}
use Rattle.board_run.specs.MemoryText.{regions_of}
use Rattle.board_run.proofs.regions.first_region.Given as goal

-- it is to be found among the regions of the tasks that are left
abbrev pub invariant-loop-i : goal.invariant-loop-i
invariant-loop-i g l =
    let shown = boxed (λ p. (goal.Device-dyn g p).shown p.1) in
    (x : Scenario) (s : State) → Stands shown x l.board s → find (g.T.RegionTest.holds l.test) (flat_map (λ t. t.regions) (drop l.i x.setup.tasks)) ≡ find (g.T.RegionTest.holds l.test) (regions_of x.setup)
