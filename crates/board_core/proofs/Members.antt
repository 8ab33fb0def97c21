-- Lists of boxes, and what all of them show.
use Rattle.std.proofs.Common.{ℕ, ◌≡◌, ◌<◌, ◌≤◌, ◌∙◌, sym, ap, subst, arith, List, length, map, slice_set, slice_index_or, Some, None, Bool, true, false, cond, refl}
use Rattle.std.specs.Prelude.{ltb}
use Rattle.std.proofs.lemmas.List.{get_or-map, map-set, length-map}
use Rattle.std.proofs.Common.{inl, inr, ◌+◌, ◌-◌}
use Rattle.std.proofs.lemmas.Bool.{lt-ltb, le-ltb, cases_lt, and_parts, leb-true, ltb-true}
use Rattle.board_core.specs.Data.{IsPlace, IsOffset}
use Rattle.std.proofs.lemmas.List.Quantifiers.{position-Some}
use Rattle.std.proofs.lemmas.List.Sums.{position_or_len_is}
use Rattle.std.specs.List.{position_or_len}
use Rattle.kernel_abi.specs.Devices.{DeviceData, device_at, with_device, is_behind, behind}

-- what the k-th box shows
pub member_shows : {A : Type 0} (f : A → DeviceData) (xs : List A) (k : ℕ) (x : A) → k < length (map f xs) → x ≡ slice_index_or xs k x → device_at (map f xs) k ≡ f x
member_shows f xs k x inside is =
    get_or-map f xs k x _ (subst (λ n. k < n) (length-map xs f) inside) ∙ ap f (sym is)

-- the k-th box is changed: what all show
pub changed_shows : {A : Type 0} (f : A → DeviceData) (xs : List A) (k : ℕ) (x y : A) (h : DeviceData → DeviceData) → k < length (map f xs) → x ≡ slice_index_or xs k x → f y ≡ h (f x) → map f (slice_set xs k y) ≡ with_device (map f xs) k (h (device_at (map f xs) k))
changed_shows f xs k x y h inside is e =
    map-set f xs k y ∙ ap (slice_set (map f xs) k) (e ∙ ap h (sym (member_shows f xs k x inside is)))

-- the first that an address is behind
pub first_behind : (addr : ℕ) (ds : List DeviceData) (k : ℕ) → k < length ds → ((j : ℕ) → j < k → is_behind addr (device_at ds j) ≡ false) → is_behind addr (device_at ds k) ≡ true → Some k ≡ behind addr ds
first_behind addr ds k inside before there =
    let at : position_or_len (is_behind addr) ds ≡ k = position_or_len_is (is_behind addr) ds k _ (omega arith) before (λ _. there) in
    sym (ap (λ n. cond (ltb n (length ds)) (Some n) None) at ∙ ap (λ b. cond b (Some k) None) (lt-ltb k (length ds) inside))

-- none
pub none_behind : (addr : ℕ) (ds : List DeviceData) (k : ℕ) → length ds ≤ k → ((j : ℕ) → j < k → is_behind addr (device_at ds j) ≡ false) → None ≡ behind addr ds
none_behind addr ds k past before =
    let at : position_or_len (is_behind addr) ds ≡ length ds = position_or_len_is (is_behind addr) ds (length ds) _ (omega arith) (λ j h. before j (omega arith)) (λ h. absurd (omega arith)) in
    sym (ap (λ n. cond (ltb n (length ds)) (Some n) None) at ∙ ap (λ b. cond b (Some (length ds)) None) (le-ltb (length ds) (length ds) (omega arith)))

-- one more of them was looked at
pub one_more : (P : ℕ → Bool) (k : ℕ) → ((j : ℕ) → j < k → P j ≡ false) → P k ≡ false → (j : ℕ) → j < k + 1 → P j ≡ false
one_more P k before at j h = elim (cases_lt j k) [
  | inl lt ↦ before j lt
  | inr le ↦ let same : j ≡ k = omega (arith, h, le) in rw same at
]

-- an address lies among those of the device that is behind it
pub is_near : (addr : ℕ) (ds : List DeviceData) (k : ℕ) → behind addr ds ≡ Some k → (k < length ds) × ((device_at ds k).base ≤ addr) × (addr < (device_at ds k).base + 256)
is_near addr ds k e =
    let x = position-Some (is_behind addr) ds k _ e in
    let both = and_parts _ _ x.1 in
    (x.0, leb-true _ _ both.0, ltb-true _ _ both.1)

-- where it lies in it
pub place : (addr : ℕ) (ds : List DeviceData) (k base : ℕ) → behind addr ds ≡ Some k → base ≡ (device_at ds k).base → IsPlace ds addr k (addr - base)
place addr ds k base e is =
    let near = is_near addr ds k e in
    record { is = e; inside = near.0; near = omega (arith, near.1, near.2, is); at = ap (λ n. addr - n) is }

-- the first of which an address is one
pub placed : (addr : ℕ) (ds : List DeviceData) (k off : ℕ) → k < length ds → ((j : ℕ) → j < k → is_behind addr (device_at ds j) ≡ false) → IsOffset (device_at ds k) addr off → IsPlace ds addr k off
placed addr ds k off inside before there =
    subst (λ n. IsPlace ds addr k n) (sym there.at) (place addr ds k (device_at ds k).base (sym (first_behind addr ds k inside before there.is)) refl)
