-- How often each line of an application's sources was executed (docs/FORMATS.md, Tracefile).
use Rattle.std.specs.Prelude.{ℕ, List, length, map, slice_index_or, []}
use Rattle.std.specs.List.{range_with_len}
use Rattle.app_toml.specs.Apps.{AppData}
use Rattle.image_build.specs.Layout.{task_at}
use Rattle.thumb_asm.specs.declared.listing.InsnLine.{InsnLine}
use Rattle.run_cover.specs.Tracefile.{Section}
use Rattle.command_files.specs.Building.{lines_from}

-- the section of each task, if these are the lines of their sources
abbrev pub sections_by : AppData → List (List InsnLine) → List Section
sections_by app lists = map (λ i. record { name = (task_at app i).source; lines = slice_index_or lists i [] }) (range_with_len 0 (length app.tasks))

-- the same, if these are the sources themselves
abbrev pub sections : AppData → List (List ℕ) → List Section
sections app sources = sections_by app (lines_from app 0 sources)
