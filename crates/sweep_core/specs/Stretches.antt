-- The line of a stretch that ends right before an arrival time.
use Rattle.std.specs.Prelude.{ℕ, ◌-◌, List, [], bytes_eq, if◌then◌else◌}
use Rattle.sweep_core.specs.Swept.{stretch_line}

-- no line if the stretch goes on at that time, with the same outcome
abbrev pub ended : List ℕ → ℕ → List ℕ → ℕ → List ℕ → List ℕ
ended base first o time next = if bytes_eq next o then [] else stretch_line base first (time - 1) o
