-- What the boxes of devices show.
use Rattle.std.specs.Prelude.{ℕ, ◌≡◌, ◌-◌, ◌<◌, true, List, map, length, Some}
use Rattle.std.proofs.Common.{Global}
use Rattle.std.specs.declared.dyn_box.DynBox.{DynBox}
use Rattle.kernel_abi.specs.Devices.{DeviceData, is_behind, behind, offset_in}
use Rattle.board_core.specs.declared.list.Devices.{Devices}

-- how a box of a device shows it: `shown` of the trait
abbrev pub Shows : (X : Type 0) → (X → Type 0) → Type 0
Shows X H = DynBox X Global H → DeviceData

-- the same from `shown` at a value behind its vtable: the form that a clause has where no box is in the
-- signature
abbrev pub boxed : {X : Type 0} {H : X → Type 0} → (((x : X) × H x) → DeviceData) → Shows X H
boxed shown = λ b. shown (b.vtable, b.value)

-- what the devices of a list show
abbrev pub data_of : {X : Type 0} {H : X → Type 0} → Shows X H → Devices X H → List DeviceData
data_of shown d = map shown d.list.items

-- an address belongs to a device, at this offset from the device's first address
pub record IsOffset (d : DeviceData) (addr off : ℕ) : Type 0 where
  pub is : is_behind addr d ≡ true
  pub at : off ≡ addr - d.base

-- the k-th device is behind the address, which is at this offset from the device's first address
pub record IsPlace (ds : List DeviceData) (addr k off : ℕ) : Type 0 where
  pub is : behind addr ds ≡ Some k
  pub inside : k < length ds
  pub near : off < 256
  pub at : off ≡ offset_in ds k addr
