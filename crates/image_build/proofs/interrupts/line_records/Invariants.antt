use Rattle.std.proofs.Common.{◌≡◌, ◌++◌, ◌-◌, map}
use Rattle.std.specs.List.{flat_map, range_with_len}
use Rattle.app_toml.specs.Held.{app_of}
use Rattle.image_format.specs.ImageData.{line_record}
use Rattle.image_build.specs.Built.{lines_at, lines_built}
use Rattle.image_build.proofs.interrupts.line_records.Given as goal

abbrev pub invariant-loop-line : goal.invariant-loop-line
invariant-loop-line l =
    l.out.items ++ map line_record (flat_map (lines_at (app_of l.app)) (range_with_len l.line (64 - l.line)))
    ≡ map line_record (lines_built (app_of l.app))
