use Rattle.std.proofs.Common.{◌≡◌, map, take}
use Rattle.image_format.specs.Images.{image_data}
use Rattle.task_table.specs.kept.Parts.{line_setup}
use Rattle.board_core.specs.Opened.{setup_of_line}
use Rattle.board_core.proofs.opening.line_starts.Given as goal

-- the lines so far
abbrev pub invariant-loop-k : goal.invariant-loop-k
invariant-loop-k l = let p = image_data l.image in map line_setup l.lines.items ≡ map (setup_of_line p) (take l.k p.lines)
