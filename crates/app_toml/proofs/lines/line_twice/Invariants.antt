use Rattle.std.proofs.Common.{◌≡◌, [], drop, map, take}
use Rattle.app_toml.specs.Crossed.{line_twice}
use Rattle.app_toml.specs.Places.{first_clash}
use Rattle.app_toml.specs.Sites.{interrupt_of}
use Rattle.app_toml.proofs.lines.line_twice.Given as goal

abbrev pub invariant-loop-i : goal.invariant-loop-i
invariant-loop-i l =
    first_clash line_twice (map interrupt_of (take l.i l.interrupts)) l.i (map interrupt_of (drop l.i l.interrupts))
    ≡ first_clash line_twice [] 0 (map interrupt_of l.interrupts)
