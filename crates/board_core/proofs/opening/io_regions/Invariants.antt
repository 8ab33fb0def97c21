use Rattle.std.specs.Prelude.{map, vec_items}
use Rattle.task_table.specs.kept.Holds.{setup_of}
use Rattle.board_core.specs.fast.IoRegions.{AreIoRegions}
use Rattle.board_core.proofs.opening.io_regions.Given as goal

-- those of the tasks so far
abbrev pub invariant-loop-task : goal.invariant-loop-task
invariant-loop-task l = AreIoRegions (setup_of l.kernel) l.task (map vec_items l.io_regions.items)
