-- The bytes that wait in a device, taken one after the other.
use Rattle.std.proofs.Common.{◌≡◌, ◌+◌, ◌<◌, ◌≤◌, ◌++◌, ℕ, zero, suc, List, [], ◌∷◌, Some, None, length, take, slice_get, Contains, refl, sym, ◌∙◌, ap, subst, arith}
use Rattle.std.proofs.lemmas.List.{take_more, take_all}
use Rattle.std.proofs.lemmas.Option.{none-some, slice_get_within, slice_get_past, slice_get-get_or, get_or_from_slice_get}
use Rattle.kernel_abi.specs.declared.Kind.{Kind}
use Rattle.kernel_abi.specs.declared.Kind.TheVariants as kind
use Rattle.kernel_abi.specs.Devices.{DeviceData, device_at, IsSettable, AreSaneDevices}

-- one byte more
pub queue_more : (q xs : List ℕ) (j byte : ℕ) → xs ≡ take j q → slice_get q j ≡ Some byte → xs ++ byte ∷ [] ≡ take (j + 1) q
queue_more q xs j byte before at =
    let within = slice_get_within q j byte at in
    ap (λ (ys : List ℕ). ys ++ byte ∷ []) before
    ∙ ap (λ (b : ℕ). take j q ++ b ∷ []) (sym (get_or_from_slice_get q j byte 0 at))
    ∙ sym (take_more q j 0 within)

-- there is none more
pub queue_over : (q : List ℕ) (j : ℕ) → slice_get q j ≡ None → length q ≤ j
queue_over [] j e = omega arith
queue_over (x ∷ xs) zero e = absurd (none-some x (sym e))
queue_over (x ∷ xs) (suc j) e = let rest = queue_over xs j e in omega (arith, rest)

pub queue_ended : (q xs : List ℕ) (j : ℕ) → xs ≡ take j q → slice_get q j ≡ None → j ≤ 64 → xs ≡ take 64 q
queue_ended q xs j all over few =
    let short = queue_over q j over in
    all ∙ take_all j q short ∙ sym (take_all 64 q (omega (arith, short, few)))

-- what is shown of a device that has few bytes is all of it
pub device_whole : (ds : List DeviceData) (k : ℕ) (d : DeviceData) → k < length ds → d ≡ record (device_at ds k) { queue = take 64 (device_at ds k).queue } → length (device_at ds k).queue ≤ 64 → Some d ≡ slice_get ds k
device_whole ds k d inside is few =
    ap Some (is ∙ ap (λ (q : List ℕ). record (device_at ds k) { queue = q }) (take_all 64 (device_at ds k).queue few)) ∙ sym (slice_get-get_or ds k _ inside)

-- few bytes wait in a sane device
pub few_wait : (k : Kind) (count : ℕ) (queue : List ℕ) → IsSettable k count queue → length queue ≤ 64
few_wait kind.Console count queue h = rw h (omega arith)
few_wait kind.Port count queue h = h.1

here : (ds : List DeviceData) (k : ℕ) → k < length ds → Contains ds (device_at ds k)
here [] k h = absurd (omega (arith, h))
here (y ∷ ys) zero h = (zero, omega arith, refl)
here (y ∷ ys) (suc k) h = let r = here ys k (omega (arith, h)) in (suc r.0, omega (arith, r.1), r.2)

pub device_seen : (ds es : List DeviceData) (k : ℕ) (d : DeviceData) → ds ≡ es → AreSaneDevices es → k < length ds → d ≡ record (device_at ds k) { queue = take 64 (device_at ds k).queue } → Some d ≡ slice_get es k
device_seen ds es k d same sane inside is =
    let P : List DeviceData → Type 0 = λ xs. k < length xs in
    let Q : List DeviceData → Type 0 = λ xs. d ≡ record (device_at xs k) { queue = take 64 (device_at xs k).queue } in
    let there : k < length es = subst P same inside in
    let x = device_at es k in
    device_whole es k d there (subst Q same is) (few_wait x.kind x.count x.queue (sane.sane x (here es k there)).settable)

pub no_device : (ds es : List DeviceData) (k : ℕ) → ds ≡ es → length ds ≤ k → None ≡ slice_get es k
no_device ds es k same beyond = let P : List DeviceData → Type 0 = λ xs. length xs ≤ k in sym (slice_get_past es k (subst P same beyond))
