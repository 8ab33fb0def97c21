use Rattle.std.proofs.Common.{◌≡◌, ◌++◌, take, string_bytes}
use Rattle.std.specs.List.{flat_map}
use Rattle.run_cover.specs.Counted.{count_of}
use Rattle.run_cover.specs.Tracefile.{data_line}
use Rattle.run_cover.proofs.tracefile.push_data_lines.Given as goal

abbrev pub invariant-loop-line : goal.invariant-loop-line
invariant-loop-line l = string_bytes l.out ≡ string_bytes l.fn.out ++ flat_map (data_line (count_of l.counts)) (take l.line-index l.lines)
