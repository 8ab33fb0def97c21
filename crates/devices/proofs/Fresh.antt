-- New devices, to which nothing has come yet.
use Rattle.std.proofs.Common.{◌≡◌, ◌≢◌, ℕ, zero, suc, ◌<◌, List, [], ◌∷◌, length, sym, subst, arith}
use Rattle.std.specs.Prelude.{Contains}
use Rattle.kernel_abi.specs.Devices.{DeviceData, IsFresh, AreFresh, device_at}

no_device : AreFresh []
no_device = record { few = omega arith; fresh = λ d h. absurd (omega (arith, h.1)); apart = λ j k lt within. absurd (omega arith) }

-- none
pub none_fresh : (ds : List DeviceData) → ds ≡ [] → AreFresh ds
none_fresh ds none = subst AreFresh (sym none) no_device

-- two at different places
module _ (a b : DeviceData) (a_fresh : IsFresh a) (b_fresh : IsFresh b) (other : a.base ≢ b.base) where
  each_fresh : (d : DeviceData) → Contains (a ∷ b ∷ []) d → IsFresh d
  each_fresh d (zero, lt, is) = subst IsFresh is a_fresh
  each_fresh d (suc zero, lt, is) = subst IsFresh is b_fresh
  each_fresh d (suc (suc i), lt, is) = absurd (omega arith)

  apart : (j k : ℕ) → j < k → k < length (a ∷ b ∷ []) → (device_at (a ∷ b ∷ []) j).base ≢ (device_at (a ∷ b ∷ []) k).base
  apart zero (suc zero) lt within = other
  apart j zero lt within = absurd (omega arith)
  apart (suc j) (suc zero) lt within = absurd (omega arith)
  apart j (suc (suc k)) lt within = absurd (omega arith)

  two_devices : AreFresh (a ∷ b ∷ [])
  two_devices = record { few = omega arith; fresh = each_fresh; apart = apart }
