-- The regions of an image that are no devices, by base and size.
use Rattle.std.specs.Prelude.{ℕ, ◌≡◌, ◌<◌, false, List, Contains}
use Rattle.region_check.specs.declared.Region.{Region}
use Rattle.image_format.specs.ImageData.{ImageData, regions_in}

-- this is the base and the size of such a region
pub record IsPlace (p : ImageData) (x : ℕ × ℕ) : Type 0 where
  pub task : ℕ
  pub region : Region
  pub has : Contains (regions_in p task) region
  pub no_device : region.rights.device ≡ false
  pub base : x.0 ≡ region.base
  pub size : x.1 ≡ region.size

abbrev pub ArePlaces : ImageData → List (ℕ × ℕ) → Type 0
ArePlaces p xs = (x : ℕ × ℕ) → Contains xs x → IsPlace p x

-- the list has base and size of each region of the first n tasks that is no device
abbrev pub HavePlaces : ImageData → ℕ → List (ℕ × ℕ) → Type 0
HavePlaces p n xs = (i : ℕ) (r : Region) → i < n → Contains (regions_in p i) r → r.rights.device ≡ false → Contains xs (r.base, r.size)
