use Rattle.std.proofs.Common.{◌≡◌, map}
use Rattle.std.specs.Prelude.{slice_index_or, []}
use Rattle.std.specs.List.{range_with_len}
use Rattle.app_toml.specs.Held.{app_of}
use Rattle.image_build.specs.Layout.{task_at}
use Rattle.run_cover.specs.Tracefile.{section_of}
use Rattle.command_files.specs.Building.{kept_lines}
use Rattle.trace_cli.proofs.commands.lcov.sources_of.Given as goal

-- the sections of the tasks so far
abbrev pub invariant-loop-i : goal.invariant-loop-i
invariant-loop-i l = map section_of l.sources.items ≡ map (λ i. record { name = (task_at (app_of l.app) i).source; lines = slice_index_or (kept_lines l.lines) i [] }) (range_with_len 0 l.i)
