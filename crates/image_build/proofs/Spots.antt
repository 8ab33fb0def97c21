-- Where regions lie: in a task's flash, in a part of RAM, at a device. No two of these places meet.
use Rattle.std.proofs.Common.{◌≡◌, ◌∙◌, ℕ, true, false, not, ◌+◌, ◌%◌, ◌≤◌, ◌<◌, ◌||◌, ◌&&◌, ◌==◌, ◌⊎◌, List, length, get_or, map, nat_lt, refl, sym, ap, arith, inl, inr}
use Rattle.std.proofs.lemmas.Bool.{and_left, and_right, cases_eq, cases_lt, eq-eqb, le-leb, le-ltb, or_left, or_right}
use Rattle.std.proofs.lemmas.List.{get_or-map, length-map}
use Rattle.app_toml.specs.Accepted.{IsAccepted}
use Rattle.app_toml.specs.Apps.{AppData, DeviceData}
use Rattle.app_toml.specs.Relations.{HasDevices, IsBeside}
use Rattle.region_check.specs.Sizes.{is_size}
use Rattle.image_format.specs.Regions.{cuts, has_shape, lies_in, meets}
use Rattle.image_format.specs.declared.records.Header.{Header}
use Rattle.image_format.specs.declared.records.RegionRecord.{RegionRecord}
use Rattle.mem_plan.specs.Sizes.{rounded}
use Rattle.image_build.specs.Building.{IsLaid}
use Rattle.image_build.specs.Layout.{flash_base, flash_needed, flash_sizes, flash_wanted, no_device, ram_base, ram_needed, ram_sizes, ram_wanted}
use Rattle.image_build.specs.declared.layout.Layout.{Layout}
use Rattle.image_build.proofs.Planning.{flash_most}
use Rattle.image_build.proofs.Rounding.{is_sized}
use Rattle.image_build.proofs.Walking.{IsFine}

pub data Spot : Type 0 where
  in_flash in_ram at_device : ℕ → Spot

abbrev pub base_at : AppData → Spot → ℕ
base_at app (in_flash i) = flash_base app i
base_at app (in_ram k) = ram_base app k
base_at app (at_device d) = (get_or app.devices d no_device).base

abbrev pub size_at : AppData → Spot → ℕ
size_at app (in_flash i) = get_or (flash_sizes app) i 0
size_at app (in_ram k) = get_or (ram_sizes app) k 0
size_at app (at_device d) = (get_or app.devices d no_device).size

abbrev pub IsSpot : AppData → Spot → Type 0
IsSpot app (in_flash i) = i < length (flash_sizes app)
IsSpot app (in_ram k) = k < length (ram_sizes app)
IsSpot app (at_device d) = d < length app.devices

abbrev pub HasRights : Spot → ℕ → Type 0
HasRights (in_flash i) n = n ≡ 5
HasRights (in_ram k) n = (n ≡ 1) ⊎ (n ≡ 3)
HasRights (at_device d) n = (n ≡ 9) ⊎ (n ≡ 11)

-- the region is the one there
pub record Lies (app : AppData) (s : Spot) (r : RegionRecord) : Type 0 where
  pub spot : IsSpot app s
  pub base : r.base ≡ base_at app s
  pub size : r.size ≡ size_at app s
  pub rights : HasRights s r.rights

-- ---- they do not meet

abbrev pub Misses : ℕ → ℕ → ℕ → ℕ → Type 0
Misses a s b t = (nat_lt a (b + t) && nat_lt b (a + s)) ≡ false

misses : (a s b t : ℕ) → (a < b + t → b < a + s → ⊥) → Misses a s b t
misses a s b t apart = elim (cases_lt a (b + t)) [
  | inl low ↦ elim (cases_lt b (a + s)) [
    | inl high ↦ absurd (apart low high)
    | inr past ↦ and_right (nat_lt a (b + t)) (nat_lt b (a + s)) (le-ltb b (a + s) past)
  ]
  | inr past ↦ and_left (nat_lt a (b + t)) (nat_lt b (a + s)) (le-ltb a (b + t) past)
]

beside : (d e : DeviceData) → IsBeside d e → Misses d.base d.size e.base e.size
beside d e (inl past) = misses d.base d.size e.base e.size (λ low high. omega (arith, past, high))
beside d e (inr past) = misses d.base d.size e.base e.size (λ low high. omega (arith, past, low))

turned : (d e : DeviceData) → IsBeside d e → Misses e.base e.size d.base d.size
turned d e (inl past) = misses e.base e.size d.base d.size (λ low high. omega (arith, past, low))
turned d e (inr past) = misses e.base e.size d.base d.size (λ low high. omega (arith, past, high))

below_or_above : (m n : ℕ) → (m ≡ n → ⊥) → (m < n) ⊎ (n < m)
below_or_above m n other = elim (cases_lt m n) [
  | inl lt ↦ inl lt
  | inr le ↦ inr (above m n other le)
]
  where
    above : (m n : ℕ) → (m ≡ n → ⊥) → n ≤ m → n < m
    above m n other le = elim (cases_eq m n) [
      | inl e ↦ absurd (other e)
      | inr ne ↦ elim (cases_lt n m) [
        | inl lt ↦ lt
        | inr ge ↦ let e : m ≡ n = omega (arith, le, ge) in absurd (other e)
      ]
    ]

devices_miss : (devices : List DeviceData) → ((i j : ℕ) (d : DeviceData) → i < j → j < length devices → IsBeside (get_or devices i d) (get_or devices j d))
    → (i j : ℕ) → i < length devices → j < length devices → (i ≡ j → ⊥)
    → Misses (get_or devices i no_device).base (get_or devices i no_device).size (get_or devices j no_device).base (get_or devices j no_device).size
devices_miss devices apart i j li lj other = elim (below_or_above i j other) [
  | inl lt ↦ beside (get_or devices i no_device) (get_or devices j no_device) (apart i j no_device lt lj)
  | inr gt ↦ turned (get_or devices j no_device) (get_or devices i no_device) (apart j i no_device gt li)
]

-- three areas, one above the other
areas_miss : (a s b t middle : ℕ) → a + s ≤ middle → middle ≤ b → Misses a s b t
areas_miss a s b t middle low high = misses a s b t (λ x y. omega (arith, low, high, y))

areas_turned : (a s b t middle : ℕ) → a + s ≤ middle → middle ≤ b → Misses b t a s
areas_turned a s b t middle low high = misses b t a s (λ x y. omega (arith, low, high, x))

flash_below : (app : AppData) (layout : Layout) → IsLaid app layout → IsAccepted app → (i : ℕ) → i < length (flash_sizes app)
    → flash_base app i + get_or (flash_sizes app) i 0 ≤ 0x20000000
flash_below app layout l a i lt = omega (arith, l.flash.high i lt, flash_most app layout l a)

pub ram_most : (app : AppData) (layout : Layout) → IsLaid app layout → IsAccepted app → ram_needed app ≤ 262144
ram_most app layout l a = omega (arith, l.room.ram, a.ram.1)

ram_below : (app : AppData) (layout : Layout) → IsLaid app layout → IsAccepted app → (k : ℕ) → k < length (ram_sizes app)
    → ram_base app k + get_or (ram_sizes app) k 0 ≤ 0x40000000
ram_below app layout l a k lt = omega (arith, l.ram.high k lt, ram_most app layout l a)

above_ram : (app : AppData) → HasDevices app → (d : ℕ) → d < length app.devices → 0x40000000 ≤ (get_or app.devices d no_device).base
above_ram app h d lt = (h.placed d no_device lt).first

pub spots_miss : (app : AppData) (layout : Layout) → IsLaid app layout → IsAccepted app → HasDevices app → (p q : Spot) → IsSpot app p → IsSpot app q → (p ≡ q → ⊥)
    → Misses (base_at app p) (size_at app p) (base_at app q) (size_at app q)
spots_miss app layout l a h (in_flash i) (in_flash j) li lj other =
    misses _ _ _ _ (λ low high. l.flash.apart i j li lj (λ e. other (ap in_flash e)) low high)
spots_miss app layout l a h (in_flash i) (in_ram k) li lk other =
    areas_miss (flash_base app i) (get_or (flash_sizes app) i 0) (ram_base app k) (get_or (ram_sizes app) k 0) 0x20000000 (flash_below app layout l a i li) (l.ram.low k lk)
spots_miss app layout l a h (in_flash i) (at_device d) li ld other =
    let low : flash_base app i + get_or (flash_sizes app) i 0 ≤ 0x40000000 = omega (arith, flash_below app layout l a i li) in
    areas_miss (flash_base app i) (get_or (flash_sizes app) i 0) (get_or app.devices d no_device).base (get_or app.devices d no_device).size 0x40000000 low (above_ram app h d ld)
spots_miss app layout l a h (in_ram k) (in_flash i) lk li other =
    areas_turned (flash_base app i) (get_or (flash_sizes app) i 0) (ram_base app k) (get_or (ram_sizes app) k 0) 0x20000000 (flash_below app layout l a i li) (l.ram.low k lk)
spots_miss app layout l a h (in_ram k) (in_ram j) lk lj other =
    misses _ _ _ _ (λ low high. l.ram.apart k j lk lj (λ e. other (ap in_ram e)) low high)
spots_miss app layout l a h (in_ram k) (at_device d) lk ld other =
    areas_miss (ram_base app k) (get_or (ram_sizes app) k 0) (get_or app.devices d no_device).base (get_or app.devices d no_device).size 0x40000000 (ram_below app layout l a k lk) (above_ram app h d ld)
spots_miss app layout l a h (at_device d) (in_flash i) ld li other =
    let low : flash_base app i + get_or (flash_sizes app) i 0 ≤ 0x40000000 = omega (arith, flash_below app layout l a i li) in
    areas_turned (flash_base app i) (get_or (flash_sizes app) i 0) (get_or app.devices d no_device).base (get_or app.devices d no_device).size 0x40000000 low (above_ram app h d ld)
spots_miss app layout l a h (at_device d) (in_ram k) ld lk other =
    areas_turned (ram_base app k) (get_or (ram_sizes app) k 0) (get_or app.devices d no_device).base (get_or app.devices d no_device).size 0x40000000 (ram_below app layout l a k lk) (above_ram app h d ld)
spots_miss app layout l a h (at_device d) (at_device e) ld le other =
    devices_miss app.devices h.apart d e ld le (λ same. other (ap at_device same))

abbrev number : Spot → ℕ
number (in_flash i) = i
number (in_ram k) = k
number (at_device d) = d

same_spot : (p q : Spot) → (p ≡ q) ⊎ (p ≡ q → ⊥)
same_spot (in_flash i) (in_flash j) = elim (cases_eq i j) [
  | inl e ↦ inl (ap in_flash e)
  | inr ne ↦ inr (λ e. ne (ap number e))
]
same_spot (in_flash i) (in_ram j) = inr (λ e. cc)
same_spot (in_flash i) (at_device j) = inr (λ e. cc)
same_spot (in_ram i) (in_flash j) = inr (λ e. cc)
same_spot (in_ram i) (in_ram j) = elim (cases_eq i j) [
  | inl e ↦ inl (ap in_ram e)
  | inr ne ↦ inr (λ e. ne (ap number e))
]
same_spot (in_ram i) (at_device j) = inr (λ e. cc)
same_spot (at_device i) (in_flash j) = inr (λ e. cc)
same_spot (at_device i) (in_ram j) = inr (λ e. cc)
same_spot (at_device i) (at_device j) = elim (cases_eq i j) [
  | inl e ↦ inl (ap at_device e)
  | inr ne ↦ inr (λ e. ne (ap number e))
]

-- ---- of regions that lie there

misses_as : (r e : RegionRecord) (a s b t : ℕ) → r.base ≡ a → r.size ≡ s → e.base ≡ b → e.size ≡ t → Misses a s b t → meets r e ≡ false
misses_as r e a s b t ra rs eb et m = rw (ra, rs, eb, et) m

pub apart_meet : (app : AppData) (layout : Layout) → IsLaid app layout → IsAccepted app → HasDevices app → (p q : Spot) (r e : RegionRecord) → Lies app p r → Lies app q e
    → (p ≡ q → ⊥) → meets r e ≡ false
apart_meet app layout l a h p q r e x y other =
    misses_as r e (base_at app p) (size_at app p) (base_at app q) (size_at app q) x.base x.size y.base y.size (spots_miss app layout l a h p q x.spot y.spot other)

same_cut : (r e : RegionRecord) → r.base ≡ e.base → r.size ≡ e.size → cuts r e ≡ false
same_cut r e base size =
    let b = eq-eqb r.base e.base base in
    let s = eq-eqb r.size e.size size in
    and_right (meets r e) (not (r.base == e.base) || not (r.size == e.size)) (rw (b, s) refl)

pub no_cut : (app : AppData) (layout : Layout) → IsLaid app layout → IsAccepted app → HasDevices app → (p q : Spot) (r e : RegionRecord) → Lies app p r → Lies app q e → cuts r e ≡ false
no_cut app layout l a h p q r e x y = elim (same_spot p q) [
  | inl same ↦ same_cut r e (x.base ∙ ap (base_at app) same ∙ sym y.base) (x.size ∙ ap (size_at app) same ∙ sym y.size)
  | inr other ↦ and_left (meets r e) (not (r.base == e.base) || not (r.size == e.size)) (apart_meet app layout l a h p q r e x y other)
]

-- ---- each is one that no step refuses

in_area : (r : RegionRecord) (base end : ℕ) → base ≤ r.base → r.base + r.size ≤ end → lies_in r base end ≡ true
in_area r base end low high =
    let b = le-leb base r.base low in
    let s = le-leb (r.base + r.size) end high in
    rw (b, s) refl

shaped : (r : RegionRecord) → is_size r.size ≡ true → r.base % r.size ≡ 0 → has_shape r ≡ true
shaped r size whole =
    let z = eq-eqb (r.base % r.size) 0 whole in
    rw (size, z) refl

fine_flash : (h : Header) (r : RegionRecord) → r.rights ≡ 5 → has_shape r ≡ true → lies_in r 0x08000000 (0x08000000 + h.flash) ≡ true → IsFine h r
fine_flash h r is shape area = record {
  rights = rw is refl;
  shape = shape;
  area = rw is (or_left (lies_in r 0x08000000 (0x08000000 + h.flash)) (lies_in r 0x20000000 (0x20000000 + h.ram)) area);
}

fine_ram : (h : Header) (r : RegionRecord) → (r.rights ≡ 1) ⊎ (r.rights ≡ 3) → has_shape r ≡ true → lies_in r 0x20000000 (0x20000000 + h.ram) ≡ true → IsFine h r
fine_ram h r (inl is) shape area = record {
  rights = rw is refl;
  shape = shape;
  area = rw is (or_right (lies_in r 0x08000000 (0x08000000 + h.flash)) (lies_in r 0x20000000 (0x20000000 + h.ram)) area);
}
fine_ram h r (inr is) shape area = record { rights = rw is refl; shape = shape; area = rw is area }

fine_device : (h : Header) (r : RegionRecord) → (r.rights ≡ 9) ⊎ (r.rights ≡ 11) → has_shape r ≡ true → lies_in r 0x40000000 0x60000000 ≡ true → IsFine h r
fine_device h r (inl is) shape area = record { rights = rw is refl; shape = shape; area = rw is area }
fine_device h r (inr is) shape area = record { rights = rw is refl; shape = shape; area = rw is area }

sized : (xs : List ℕ) (i : ℕ) → i < length (map rounded xs) → is_size (get_or (map rounded xs) i 0) ≡ true
sized xs i lt =
    let below : i < length xs = omega (arith, lt, length-map xs rounded) in
    ap is_size (get_or-map rounded xs i 0 0 below) ∙ is_sized (get_or xs i 0)

shape_as : (r : RegionRecord) (b s : ℕ) → r.base ≡ b → r.size ≡ s → is_size s ≡ true → b % s ≡ 0 → has_shape r ≡ true
shape_as r b s base size is whole = shaped r (ap is_size size ∙ is) (ap (λ (n : ℕ). n % r.size) base ∙ ap (λ (n : ℕ). b % n) size ∙ whole)

area_as : (r : RegionRecord) (b s low high : ℕ) → r.base ≡ b → r.size ≡ s → low ≤ b → b + s ≤ high → lies_in r low high ≡ true
area_as r b s low high base size from to = in_area r low high (omega (arith, base, from)) (omega (arith, base, size, to))

pub fine : (app : AppData) (layout : Layout) → IsLaid app layout → HasDevices app → (h : Header) → h.flash ≡ flash_needed app → h.ram ≡ ram_needed app
    → (s : Spot) (r : RegionRecord) → Lies app s r → IsFine h r
fine app layout l devices h flash ram (in_flash i) r x =
    let b = flash_base app i in
    let s = get_or (flash_sizes app) i 0 in
    let end : b + s ≤ 0x08000000 + h.flash = omega (arith, l.flash.high i x.spot, flash) in
    fine_flash h r x.rights (shape_as r b s x.base x.size (sized (flash_wanted app) i x.spot) (l.flash.whole i x.spot))
    (area_as r b s 0x08000000 (0x08000000 + h.flash) x.base x.size (l.flash.low i x.spot) end)
fine app layout l devices h flash ram (in_ram k) r x =
    let b = ram_base app k in
    let s = get_or (ram_sizes app) k 0 in
    let end : b + s ≤ 0x20000000 + h.ram = omega (arith, l.ram.high k x.spot, ram) in
    fine_ram h r x.rights (shape_as r b s x.base x.size (sized (ram_wanted app) k x.spot) (l.ram.whole k x.spot))
    (area_as r b s 0x20000000 (0x20000000 + h.ram) x.base x.size (l.ram.low k x.spot) end)
fine app layout l devices h flash ram (at_device d) r x =
    let device = get_or app.devices d no_device in
    let placed = devices.placed d no_device x.spot in
    fine_device h r x.rights (shape_as r device.base device.size x.base x.size placed.size placed.base)
    (area_as r device.base device.size 0x40000000 0x60000000 x.base x.size placed.first placed.last)
