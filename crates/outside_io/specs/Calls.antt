-- One call of files or a sink in memory.
use Rattle.std.specs.Prelude.{◌≡◌, ℕ, ◌-◌, List, ◌++◌, length, take, drop, min, Bool, nat_eq}
use Rattle.std.specs.List.{list_any}
use Rattle.outside_io.specs.Outside.{raised}

-- the next call, by its number from 1, is in the list of those that are to fail
abbrev pub is_next_listed : List ℕ → ℕ → Bool
is_next_listed fails calls = list_any (λ k. nat_eq k (raised calls 1)) fails

-- a read fills the front of the buffer with the contents from a position on, up to the end of one of the two,
-- and leaves the rest of the buffer as it was
pub record IsWholePart (all : List ℕ) (at n : ℕ) (before after : List ℕ) : Type 0 where
  pub as_long : n ≡ min (length before) (length all - at)
  pub filled : after ≡ take n (drop at all) ++ drop n before
