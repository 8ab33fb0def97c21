use Rattle.std.proofs.Common.{◌≡◌, List, drop, map}
use Rattle.app_toml.specs.Apps.{TaskData}
use Rattle.app_toml.specs.Crossed.{unknown_bit}
use Rattle.app_toml.specs.Known.{Keeps}
use Rattle.app_toml.specs.Places.{first_fault}
use Rattle.app_toml.specs.Sites.{interrupt_of}
use Rattle.app_toml.proofs.unknowns.unknown_bit.Given as goal

abbrev pub invariant-loop-i : goal.invariant-loop-i
invariant-loop-i l =
    (tasks : List TaskData) → Keeps l.kept tasks
    → first_fault (unknown_bit tasks) l.i (map interrupt_of (drop l.i l.interrupts)) ≡ first_fault (unknown_bit tasks) 0 (map interrupt_of l.interrupts)
