-- The region of a plan in which a byte lies.
use Rattle.std.specs.Prelude.{ℕ, List, ◌+◌, ◌≤◌, ◌<◌, length, get_or}
use Rattle.mem_plan.specs.Placing.{placed}

-- the address is that of a byte in the region of the i-th size
pub record LiesIn (base : ℕ) (sizes : List ℕ) (i address : ℕ) : Type 0 where
  pub index : i < length sizes
  pub low : placed base sizes i ≤ address
  pub high : address < placed base sizes i + get_or sizes i 0
