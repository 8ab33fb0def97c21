-- Devices stay sane after each load, store and byte from outside.
use Rattle.std.proofs.Common.{◌≡◌, ℕ, zero, suc, ◌+◌, ◌%◌, ◌^◌, ◌<◌, ◌≤◌, ◌⊎◌, inl, inr, Bool, true, false, cond, List, [], ◌∷◌, ◌++◌, length, drop, Option, Some, None, refl, sym, ◌∙◌, subst, ap, arith, set, length-set}
use Rattle.std.specs.Prelude.{Contains, nat_eq, nat_lt, option_map}
use Rattle.std.proofs.lemmas.Bool.{ltb-true}
use Rattle.std.proofs.lemmas.List.{length-append, length-drop}
use Rattle.std.proofs.lemmas.List.Quantifiers.{position-Some}
use Rattle.std.proofs.lemmas.Option.{same_Some}
use Rattle.kernel_abi.specs.declared.Given.{Given}
use Rattle.kernel_abi.specs.declared.Kind.{Kind}
use Rattle.kernel_abi.specs.declared.Kind.TheVariants as kind
use Rattle.kernel_abi.specs.Devices.{DeviceData, device_at, with_device, IsSettable, AreBytes, IsSaneDevice, AreSaneDevices, AreFresh, after_load, after_store, after_input, queue_after_load, count_after_store, queue_after_input, behind, is_behind, offset_in, given_out, out_at, device_out, loaded_at, devices_loaded, stored_at, devices_stored, devices_fed}

-- ## one device

loaded_fits : (k : Kind) (count : ℕ) (queue : List ℕ) (off : ℕ) → IsSettable k count queue → IsSettable k count (queue_after_load k queue off)
loaded_fits kind.Console count queue off h = h
loaded_fits kind.Port count queue off h = (h.0, go (nat_eq off 0))
  where
    go : (b : Bool) → length (cond b (drop 1 queue) queue) ≤ 64
    go true = omega (arith, h.1, length-drop 1 queue)
    go false = h.1

stored_fits : (k : Kind) (count : ℕ) (queue : List ℕ) (off : ℕ) → IsSettable k count queue → IsSettable k (count_after_store k count off) queue
stored_fits kind.Console count queue off h = h
stored_fits kind.Port count queue off h = h

fed_fits : (k : Kind) (count : ℕ) (queue : List ℕ) (byte : ℕ) → IsSettable k count queue → IsSettable k count (queue_after_input k queue byte)
fed_fits kind.Console count queue byte h = h
fed_fits kind.Port count queue byte h = (h.0, go (nat_lt (length queue) 64) refl)
  where
    go : (b : Bool) → nat_lt (length queue) 64 ≡ b → length (cond b (queue ++ byte ∷ []) queue) ≤ 64
    go true e = let small = ltb-true _ _ e in omega (arith, small, length-append queue (byte ∷ []))
    go false e = h.1

-- a count stays a word
count_fits : (k : Kind) (count off : ℕ) → count < 2 ^ 32 → count_after_store k count off < 2 ^ 32
count_fits kind.Console count off h = go (nat_eq off 0)
  where
    go : (b : Bool) → cond b ((count + 1) % 2 ^ 32) count < 2 ^ 32
    go true = omega arith
    go false = h
count_fits kind.Port count off h = h

-- what waits stays bytes
dropped_bytes : (queue : List ℕ) → AreBytes queue → AreBytes (drop 1 queue)
dropped_bytes [] h = h
dropped_bytes (x ∷ xs) h = λ byte here. h byte (suc here.0, omega (arith, here.1), here.2)

appended_bytes : (queue : List ℕ) (byte : ℕ) → byte < 256 → AreBytes queue → AreBytes (queue ++ byte ∷ [])
appended_bytes [] byte small h x (zero, lt, same) = let e : byte ≡ x = same in rw (← e) small
appended_bytes [] byte small h x (suc i, lt, same) = absurd (omega arith)
appended_bytes (y ∷ ys) byte small h x (zero, lt, same) = h x (zero, omega arith, same)
appended_bytes (y ∷ ys) byte small h x (suc i, lt, same) = appended_bytes ys byte small (λ z here. h z (suc here.0, omega (arith, here.1), here.2)) x (i, omega arith, same)

loaded_bytes : (k : Kind) (queue : List ℕ) (off : ℕ) → AreBytes queue → AreBytes (queue_after_load k queue off)
loaded_bytes kind.Console queue off h = h
loaded_bytes kind.Port queue off h = go (nat_eq off 0)
  where
    go : (b : Bool) → AreBytes (cond b (drop 1 queue) queue)
    go true = dropped_bytes queue h
    go false = h

fed_bytes : (k : Kind) (queue : List ℕ) (byte : ℕ) → byte < 256 → AreBytes queue → AreBytes (queue_after_input k queue byte)
fed_bytes kind.Console queue byte small h = h
fed_bytes kind.Port queue byte small h = go (nat_lt (length queue) 64)
  where
    go : (b : Bool) → AreBytes (cond b (queue ++ byte ∷ []) queue)
    go true = appended_bytes queue byte small h
    go false = h

sane_loaded : (d : DeviceData) (off : ℕ) → IsSaneDevice d → IsSaneDevice (after_load d off)
sane_loaded d off h = record { place = h.place; settable = loaded_fits d.kind d.count d.queue off h.settable; counted = h.counted; bytes = loaded_bytes d.kind d.queue off h.bytes }

sane_stored : (d : DeviceData) (off : ℕ) → IsSaneDevice d → IsSaneDevice (after_store d off)
sane_stored d off h = record { place = h.place; settable = stored_fits d.kind d.count d.queue off h.settable; counted = count_fits d.kind d.count off h.counted; bytes = h.bytes }

sane_fed : (d : DeviceData) (byte : ℕ) → byte < 256 → IsSaneDevice d → IsSaneDevice (after_input d byte)
sane_fed d byte small h = record { place = h.place; settable = fed_fits d.kind d.count d.queue byte h.settable; counted = h.counted; bytes = fed_bytes d.kind d.queue byte small h.bytes }

-- ## all of them

-- one is changed at its place
in_set : (ds : List DeviceData) (k : ℕ) (d x : DeviceData) → Contains (set ds k d) x → (d ≡ x) ⊎ Contains ds x
in_set [] k d x h = absurd (omega (arith, h.1))
in_set (y ∷ ys) zero d x (zero, lt, same) = let e : d ≡ x = same in inl e
in_set (y ∷ ys) zero d x (suc i, lt, same) = inr (suc i, omega arith, same)
in_set (y ∷ ys) (suc k) d x (zero, lt, same) = let e : y ≡ x = same in inr (zero, omega arith, e)
in_set (y ∷ ys) (suc k) d x (suc i, lt, same) = elim (in_set ys k d x (i, omega arith, same)) [
  | inl e ↦ inl e
  | inr (j, below, at) ↦ inr (suc j, omega (arith, below), at)
]

bases_kept : (ds : List DeviceData) (k : ℕ) (d : DeviceData) → d.base ≡ (device_at ds k).base → (j : ℕ) → (device_at (set ds k d) j).base ≡ (device_at ds j).base
bases_kept [] k d e j = refl
bases_kept (y ∷ ys) zero d e zero = e
bases_kept (y ∷ ys) zero d e (suc j) = refl
bases_kept (y ∷ ys) (suc k) d e zero = refl
bases_kept (y ∷ ys) (suc k) d e (suc j) = bases_kept ys k d e j

there : (ds : List DeviceData) (k : ℕ) → k < length ds → Contains ds (device_at ds k)
there [] k h = absurd (omega (arith, h))
there (y ∷ ys) zero h = (zero, omega arith, refl)
there (y ∷ ys) (suc k) h = let r = there ys k (omega (arith, h)) in (suc r.0, omega (arith, r.1), r.2)

pub sane_with : (ds : List DeviceData) (k : ℕ) (d : DeviceData) → AreSaneDevices ds → d.base ≡ (device_at ds k).base → IsSaneDevice d → AreSaneDevices (with_device ds k d)
sane_with ds k d h e s = record {
  few = rw (length-set ds k d) h.few;
  sane = λ x here. elim (in_set ds k d x here) [ inl same ↦ subst IsSaneDevice same s | inr old ↦ h.sane x old ];
  apart = λ i j less inside same. h.apart i j less (rw (sym (length-set ds k d)) inside) (sym (bases_kept ds k d e i) ∙ same ∙ bases_kept ds k d e j);
}

behind_inside : (ds : List DeviceData) (addr k : ℕ) → behind addr ds ≡ Some k → k < length ds
behind_inside ds addr k e = (position-Some (is_behind addr) ds k (device_at ds k) e).0

-- what a store gives out is given out by one of them
pub given_inside : (ds : List DeviceData) (addr value : ℕ) (x : Given) → device_out ds addr value ≡ Some x → x.device < length ds
given_inside ds addr value x e = go (behind addr ds) refl e
  where
    by_byte : (k : ℕ) (o : Option ℕ) → k < length ds → option_map (λ byte. record { device = k; byte = byte }) o ≡ Some x → x.device < length ds
    by_byte k None inside e = absurd cc
    by_byte k (Some byte) inside e = let same : k ≡ x.device = ap (λ (y : Given). y.device) (same_Some _ x e) in rw (← same) inside

    go : (o : Option ℕ) → behind addr ds ≡ o → out_at ds o addr value ≡ Some x → x.device < length ds
    go None is e = absurd cc
    go (Some k) is e = by_byte k (given_out (device_at ds k).kind (offset_in ds k addr) value) (behind_inside ds addr k is) e

pub sane_devices_loaded : (ds : List DeviceData) (addr : ℕ) → AreSaneDevices ds → AreSaneDevices (devices_loaded ds addr)
sane_devices_loaded ds addr h = go (behind addr ds) refl
  where
    go : (o : Option ℕ) → behind addr ds ≡ o → AreSaneDevices (loaded_at ds o addr)
    go None e = h
    go (Some k) e = sane_with ds k _ h refl (sane_loaded (device_at ds k) (offset_in ds k addr) (h.sane _ (there ds k (behind_inside ds addr k e))))

pub sane_devices_stored : (ds : List DeviceData) (addr : ℕ) → AreSaneDevices ds → AreSaneDevices (devices_stored ds addr)
sane_devices_stored ds addr h = go (behind addr ds) refl
  where
    go : (o : Option ℕ) → behind addr ds ≡ o → AreSaneDevices (stored_at ds o addr)
    go None e = h
    go (Some k) e = sane_with ds k _ h refl (sane_stored (device_at ds k) (offset_in ds k addr) (h.sane _ (there ds k (behind_inside ds addr k e))))

pub sane_devices_fed : (ds : List DeviceData) (k byte : ℕ) → byte < 256 → AreSaneDevices ds → AreSaneDevices (devices_fed ds k byte)
sane_devices_fed ds k byte small h = go (nat_lt k (length ds)) refl
  where
    go : (b : Bool) → nat_lt k (length ds) ≡ b → AreSaneDevices (cond b (with_device ds k (after_input (device_at ds k) byte)) ds)
    go true e = sane_with ds k _ h refl (sane_fed (device_at ds k) byte small (h.sane _ (there ds k (ltb-true _ _ e))))
    go false e = h

pub none_sane : AreSaneDevices []
none_sane = record { few = omega arith; sane = λ d here. absurd (omega (arith, here.1)); apart = λ j k less inside. absurd (omega (arith, inside)) }

-- devices to which nothing has come are sane
fresh_fits : (k : Kind) (count : ℕ) (queue : List ℕ) → count ≡ 0 → queue ≡ [] → IsSettable k count queue
fresh_fits kind.Console count queue c q = q
fresh_fits kind.Port count queue c q = (c, rw q (omega arith))

pub fresh_sane : (ds : List DeviceData) → AreFresh ds → AreSaneDevices ds
fresh_sane ds h = record { few = h.few; sane = λ d here. let f = h.fresh d here in record { place = f.place; settable = fresh_fits d.kind d.count d.queue f.none f.empty; counted = rw f.none (omega arith); bytes = rw f.empty (λ byte inside. absurd (omega (arith, inside.1))) }; apart = h.apart }
