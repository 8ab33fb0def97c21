use Rattle.std.proofs.Common.{◌≡◌, map}
use Rattle.std.specs.Prelude.{string_bytes}
use Rattle.std.specs.List.{range_with_len}
use Rattle.run_lanes.specs.Timeline.{name_text}
use Rattle.run_lanes.proofs.thread_names.name_lines.Given as goal

-- the names so far
abbrev pub invariant-loop-i : goal.invariant-loop-i
invariant-loop-i l = map string_bytes l.lines.items ≡ map (name_text (map string_bytes l.names)) (range_with_len 0 l.i)
