-- Devices that are kept by their bases.
use Rattle.std.specs.Prelude.{◌≡◌, ◌+◌, ◌==◌, ◌&&◌, ◌≤◌, ◌<◌, ℕ, All, List, Some, true}
use Rattle.std.specs.BTreeMap.{BTreeMap, get}
use Rattle.std.specs.List.{list_any}
use Rattle.std.specs.Ordering.{nat_cmp}
use Rattle.app_toml.specs.Apps.{DeviceData}

-- a map has just the bases of the devices, each with its size
abbrev pub IsByBase : BTreeMap ℕ ℕ → List DeviceData → Type 0
IsByBase bases devices =
    All (λ d. get nat_cmp bases d.base ≡ Some d.size) devices
    × ((base size : ℕ) → get nat_cmp bases base ≡ Some size
    → list_any (λ d. d.base == base && d.size == size) devices ≡ true)

-- each range of a map ends where the next one begins, or before
abbrev pub IsSpread : BTreeMap ℕ ℕ → Type 0
IsSpread bases =
    (b s c t : ℕ) → get nat_cmp bases b ≡ Some s → get nat_cmp bases c ≡ Some t → b < c → b + s ≤ c
