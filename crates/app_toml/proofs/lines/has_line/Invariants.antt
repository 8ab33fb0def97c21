use Rattle.std.proofs.Common.{◌≡◌, ◌==◌, drop, map}
use Rattle.std.specs.List.{list_any}
use Rattle.app_toml.specs.Sites.{interrupt_of}
use Rattle.app_toml.proofs.lines.has_line.Given as goal

abbrev pub invariant-loop-interrupt : goal.invariant-loop-interrupt
invariant-loop-interrupt l =
    list_any (λ e. e.line == l.line) (map interrupt_of (drop l.interrupt-index l.interrupts))
    ≡ list_any (λ e. e.line == l.line) (map interrupt_of l.interrupts)
