use Rattle.std.proofs.Common.{◌≡◌, ◌++◌, ◌==◌, drop, filter, map}
use Rattle.app_toml.specs.Held.{app_of}
use Rattle.app_toml.specs.Sites.{interrupt_of}
use Rattle.image_format.specs.ImageData.{line_record}
use Rattle.image_build.specs.Built.{line_built}
use Rattle.image_build.proofs.interrupts.push_line.Given as goal

abbrev pub invariant-loop-interrupt : goal.invariant-loop-interrupt
invariant-loop-interrupt l =
    l.out.items ++ map line_record (map (line_built (app_of l.app)) (filter (λ i. i.line == l.line) (map interrupt_of (drop l.interrupt-index l.interrupts))))
    ≡ l.fn.out.items ++ map line_record (map (line_built (app_of l.app)) (filter (λ i. i.line == l.line) (map interrupt_of l.interrupts)))
