-- Where the regions of an image lie.
use Rattle.std.specs.Prelude.{ℕ, ◌≡◌, ◌≤◌, ◌<◌, ◌%◌, true, false, length, Contains}
use Rattle.region_check.specs.declared.Region.{Region}
use Rattle.mem_banks.specs.Memory.{Memory, IsWithin, IsWithinRam}
use Rattle.task_table.specs.model.State.{Setup, LineSetup}
use Rattle.task_table.specs.model.Reading.{setup_at}

-- each region that is not a device lies in flash or in RAM, and in RAM if it may be written
pub record ArePlaced (g : Setup) (m : Memory) : Type 0 where
  pub within : (i : ℕ) (r : Region) → Contains (setup_at g i).regions r → r.rights.device ≡ false → IsWithin m r.base r.size
  pub writable : (i : ℕ) (r : Region) → Contains (setup_at g i).regions r → r.rights.device ≡ false → r.rights.write ≡ true → IsWithinRam m r.base r.size
  pub flash : length m.flash ≤ 1048576
  pub devices : (i : ℕ) (r : Region) → Contains (setup_at g i).regions r → r.rights.device ≡ true → 0x40000000 ≤ r.base
  pub below : length m.ram ≤ 0x20000000
  pub owners : (o : LineSetup) → Contains g.lines o → o.owner < length g.tasks
  pub stack : (i : ℕ) → (setup_at g i).stack % 4 ≡ 0
