-- Where the fast path ends although the task could go on: at breakpoints, and where the task would touch a
-- region that has the watched byte.
use Rattle.std.specs.Prelude.{ℕ, List, Option}

pub record Stops : Type 0 where
  pub breakpoints : List ℕ
  pub watched : Option ℕ  -- the address of a byte

abbrev pub stops_at : List ℕ → Option ℕ → Stops
stops_at breakpoints watched = record { breakpoints = breakpoints; watched = watched }
