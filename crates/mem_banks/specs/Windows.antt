-- The bytes of four regions, lent to a user for the time of one call. A region is given by its base and its
-- size.
use Rattle.std.specs.Prelude.{ℕ, ◌+◌, ◌<◌, ◌≤◌, ◌⊎◌, ◌≡◌, ◌≢◌, List, [], length, slice_index_or, Contains, Option, Some, None}
use Rattle.mem_banks.specs.declared.bank.Bank.{Bank}
use Rattle.mem_banks.specs.Memory.{Memory, bytes_at, with_bytes}
use Rattle.mem_banks.specs.Banks.{IsPut}

-- a region lies in the RAM; a region lies in the flash, which ends below the RAM; a region lies in one of the
-- two
abbrev pub IsInRam : Memory → ℕ × ℕ → Type 0
IsInRam m r = (0x20000000 ≤ r.0) × (r.0 + r.1 ≤ 0x20000000 + length m.ram)

abbrev pub IsInFlash : Memory → ℕ × ℕ → Type 0
IsInFlash m r = (0x08000000 ≤ r.0) × (r.0 + r.1 ≤ 0x08000000 + length m.flash) × (r.0 + r.1 < 0x20000000)

abbrev pub IsInMemory : Memory → ℕ × ℕ → Type 0
IsInMemory m r = IsInRam m r ⊎ IsInFlash m r

-- two regions have no byte in common
abbrev pub AreApart : ℕ × ℕ → ℕ × ℕ → Type 0
AreApart r s = (r.0 + r.1 ≤ s.0) ⊎ (s.0 + s.1 ≤ r.0)

-- the bytes of a region
abbrev pub bytes_of : Memory → ℕ × ℕ → List ℕ
bytes_of m r = bytes_at m r.0 r.1

-- What a user does with the bytes of the flash, of the RAM and of two more areas. It does not change those of
-- the flash. The last three lists are the bytes that it leaves in the RAM and in the areas.
abbrev pub Doing : Type 0 → Type 1
Doing B = B → List ℕ → List ℕ → List ℕ → List ℕ → B → List ℕ → List ℕ → List ℕ → Type 0

-- A user b did its work with the bytes of four regions of a memory, and is b' after that. The memory has the
-- bytes that it left in all regions but the first.
pub record IsOpened {B : Type 0} (did : Doing B) (m : Memory) (flash ram area second : ℕ × ℕ) (b b' : B) (m' : Memory) : Type 0 where
  pub flash_there : IsInMemory m flash
  pub ram_there : IsInRam m ram
  pub area_there : IsInRam m area
  pub second_there : IsInRam m second
  pub apart : AreApart flash ram
  pub area_apart : AreApart flash area × AreApart ram area
  pub second_apart : AreApart flash second × AreApart ram second × AreApart area second
  pub after : List ℕ
  pub area_after : List ℕ
  pub second_after : List ℕ
  pub work : did b (bytes_of m flash) (bytes_of m ram) (bytes_of m area) (bytes_of m second) b' after area_after second_after
  pub size : length after ≡ ram.1
  pub area_size : length area_after ≡ area.1
  pub second_size : length second_after ≡ second.1
  pub left : m' ≡ with_bytes (with_bytes (with_bytes m ram.0 after) area.0 area_after) second.0 second_after

-- this is no region: it has no bytes, and begins where the RAM begins
abbrev pub IsNoRegion : ℕ × ℕ → Type 0
IsNoRegion r = (r.0 ≡ 0x20000000) × (r.1 ≡ 0)

-- one of these regions, in the RAM, or no region
abbrev pub IsGivenOrNone : List (ℕ × ℕ) → ℕ × ℕ → Type 0
IsGivenOrNone regions r = IsNoRegion r ⊎ (Contains regions r × (0 < r.1) × (0x20000000 ≤ r.0))

-- four of these regions: one in the flash, and three in the RAM, each of which may be no region
pub record AreGiven (regions : List (ℕ × ℕ)) (flash ram area second : ℕ × ℕ) : Type 0 where
  pub flash_given : Contains regions flash
  pub flash_some : 0 < flash.1
  pub below : flash.0 < 0x20000000
  pub ram_given : IsGivenOrNone regions ram
  pub area_given : IsGivenOrNone regions area
  pub second_given : IsGivenOrNone regions second
  pub other : IsNoRegion area ⊎ (ram ≢ area)
  pub second_other : IsNoRegion second ⊎ ((ram ≢ second) × (area ≢ second))

-- a bank has the bytes of a region and no others
abbrev pub IsBankOf : List Bank → ℕ → ℕ × ℕ → Type 0
IsBankOf banks k r = (k < length banks) × ((d : Bank) → ((slice_index_or banks k d).base ≡ r.0) × (length (slice_index_or banks k d).bytes.items ≡ r.1))

-- the region has no bytes, or no bank has its bytes and no others
abbrev pub HasNoBank : List Bank → ℕ × ℕ → Type 0
HasNoBank banks r = (k : ℕ) → 0 < r.1 → IsBankOf banks k r → ⊥

-- ## banks of the RAM, or no bank

-- a region of the RAM has this bank, or it is no region and has no bank
abbrev pub IsPlaceOf : List Bank → Option ℕ → ℕ × ℕ → Type 0
IsPlaceOf banks None r = IsNoRegion r
IsPlaceOf banks (Some k) r = IsBankOf banks k r × (0x20000000 ≤ r.0) × (IsNoRegion r → ⊥)

abbrev pub HasNoPlace : List Bank → ℕ × ℕ → Type 0
HasNoPlace banks r = (IsNoRegion r → ⊥) × (0x20000000 ≤ r.0 → HasNoBank banks r)

-- two different banks, or fewer than two
abbrev pub AreTwo : Option ℕ → Option ℕ → Type 0
AreTwo (Some i) (Some j) = i ≢ j
AreTwo (Some i) None = Unit {0}
AreTwo None j = Unit {0}

abbrev pub IsOne : List Bank → Option ℕ → Type 0
IsOne banks (Some k) = k < length banks
IsOne banks None = Unit {0}

-- bank i of a region of code, and after it bank j of a region of the RAM; there are no areas
abbrev pub AreUsual : List Bank → ℕ → ℕ → ℕ × ℕ → ℕ × ℕ → ℕ × ℕ → ℕ × ℕ → Type 0
AreUsual banks i j flash ram area second = (i < j) × IsBankOf banks i flash × IsPlaceOf banks (Some j) ram × IsNoRegion area × IsNoRegion second

-- a bank after another one, or none
abbrev pub IsBehind : ℕ → Option ℕ → Type 0
IsBehind i None = Unit {0}
IsBehind i (Some j) = i < j

-- banks in this order: that of a region of code, and those of three regions of the RAM, of which the last one may be none
abbrev pub AreRising : List Bank → ℕ → ℕ → ℕ → Option ℕ → ℕ × ℕ → ℕ × ℕ → ℕ × ℕ → ℕ × ℕ → Type 0
AreRising banks i j k l flash ram area second = (i < j) × (j < k) × IsBehind k l × IsBankOf banks i flash × IsPlaceOf banks (Some j) ram × IsPlaceOf banks (Some k) area × IsPlaceOf banks l second

-- the bytes of a bank, or none; the banks after all bytes of a bank are written
abbrev pub bytes_in : List Bank → Option ℕ → Bank → List ℕ
bytes_in banks (Some k) d = (slice_index_or banks k d).bytes.items
bytes_in banks None d = []

abbrev pub IsPutIn : List Bank → Option ℕ → List ℕ → List Bank → Type 0
IsPutIn old (Some k) new banks = IsPut old k 0 new banks
IsPutIn old None new banks = banks ≡ old

-- a user did its work with the bytes of two banks and those of two areas, and did not change those of the
-- first bank
pub record AreOpened {B : Type 0} (did : Doing B) (old : List Bank) (i : ℕ) (j : Option ℕ) (area second : List ℕ) (b b' : B) (banks : List Bank) (left second_left : List ℕ) : Type 0 where
  pub after : List ℕ
  pub work : (d : Bank) → did b (slice_index_or old i d).bytes.items (bytes_in old j d) area second b' after left second_left
  pub size : (d : Bank) → length after ≡ length (bytes_in old j d)
  pub area_size : length left ≡ length area
  pub second_size : length second_left ≡ length second
  pub between : List Bank
  pub first_put : IsPut old i 0 [] between
  pub second_put : IsPutIn between j after banks

-- the same if the bytes of the first area are those of a bank too
pub record AreOpenedBeside {B : Type 0} (did : Doing B) (old : List Bank) (i : ℕ) (j k : Option ℕ) (second : List ℕ) (b b' : B) (banks : List Bank) (left : List ℕ) : Type 0 where
  pub after : List ℕ
  pub area_after : List ℕ
  pub work : (d : Bank) → did b (slice_index_or old i d).bytes.items (bytes_in old j d) (bytes_in old k d) second b' after area_after left
  pub size : (d : Bank) → length after ≡ length (bytes_in old j d)
  pub area_size : (d : Bank) → length area_after ≡ length (bytes_in old k d)
  pub second_size : length left ≡ length second
  pub one : List Bank
  pub two : List Bank
  pub first_put : IsPut old i 0 [] one
  pub second_put : IsPutIn one j after two
  pub third_put : IsPutIn two k area_after banks

-- the same if the bytes of both areas are those of banks
pub record AreAllOpened {B : Type 0} (did : Doing B) (old : List Bank) (i : ℕ) (j k l : Option ℕ) (b b' : B) (banks : List Bank) : Type 0 where
  pub after : List ℕ
  pub area_after : List ℕ
  pub second_after : List ℕ
  pub work : (d : Bank) → did b (slice_index_or old i d).bytes.items (bytes_in old j d) (bytes_in old k d) (bytes_in old l d) b' after area_after second_after
  pub size : (d : Bank) → length after ≡ length (bytes_in old j d)
  pub area_size : (d : Bank) → length area_after ≡ length (bytes_in old k d)
  pub second_size : (d : Bank) → length second_after ≡ length (bytes_in old l d)
  pub one : List Bank
  pub two : List Bank
  pub three : List Bank
  pub first_put : IsPut old i 0 [] one
  pub second_put : IsPutIn one j after two
  pub third_put : IsPutIn two k area_after three
  pub fourth_put : IsPutIn three l second_after banks
