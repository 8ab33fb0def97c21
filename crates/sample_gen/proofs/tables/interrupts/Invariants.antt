use Rattle.std.proofs.Common.{◌≡◌, map}
use Rattle.std.specs.List.{range_with_len}
use Rattle.app_toml.specs.Sites.{interrupt_of}
use Rattle.sample_gen.specs.Sample.{line_of}
use Rattle.sample_gen.proofs.tables.interrupts.Given as goal

abbrev pub invariant-loop-line : goal.invariant-loop-line
invariant-loop-line l = map interrupt_of l.interrupts.items ≡ map line_of (range_with_len 0 l.line)
