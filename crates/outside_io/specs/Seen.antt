-- What files and a sink show of themselves, before a call or after it.
use Rattle.std.specs.Prelude.{ℕ, List, Option, ◌≡◌, ◌≤◌}

pub record FilesSeen : Type 0 where
  pub contents : List ℕ → Option (List ℕ)  -- the contents under each name, where they show them
  pub read_faults : ℕ  -- how many reads failed
  pub put_faults : ℕ  -- how many puts failed
  pub given : ℕ  -- how many bytes the reads gave
  pub last_failing : Option (ℕ × List ℕ)  -- the length and the first 255 bytes of the name of the last call that failed, where they show them

pub record SinkSeen : Type 0 where
  pub written : Option (List ℕ)  -- what was written, where it shows it
  pub faults : ℕ  -- how many pushes failed

-- files are only read: the counts of failed reads and of bytes may rise, their contents and the count of failed puts stay
pub record OnlyReads (before after : FilesSeen) : Type 0 where
  pub later : before.read_faults ≤ after.read_faults
  pub grown : before.given ≤ after.given
  pub contents : after.contents ≡ before.contents
  pub puts : after.put_faults ≡ before.put_faults
