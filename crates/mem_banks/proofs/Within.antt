-- The bytes of a bank are those that the memory has there.
use Rattle.std.proofs.Common.{Option, Some, None, ◌∙◌, ◌≡◌, ◌+◌, ◌-◌, ◌*◌, ◌≤◌, ◌<◌, inl, inr, ℕ, suc, true, false, leb, List, [], ◌∷◌, ◌&&◌, length, take, drop, get_or, set, length-take, length-drop, ◌%◌, ltb, refl, ap, sym, arith}
use Rattle.std.proofs.lemmas.Bool.{le-leb, lt-leb, lt-ltb, le-ltb, cases_lt, false≢true}
use Rattle.std.proofs.lemmas.List.{length-append, nil_from_length}
use Rattle.mem_banks.specs.declared.bank.Bank.{Bank}
use Rattle.mem_banks.specs.declared.bank.Place.{Place}
use Rattle.mem_banks.specs.Banks.{flash_of, ram_of, AreLaid, IsAt, IsNowhere}
use Rattle.mem_banks.specs.Memory.{Memory, is_held, bytes_at, with_bytes, number_of, pasted}
use Rattle.mem_banks.specs.Kept.{AreKept, seen}
use Rattle.std.specs.Option.{IfSome, IfNone, is_some}
use Rattle.mem_banks.proofs.Copies.{with_bytes_ram, with_bytes_flash, bytes_ram, bytes_flash, bytes_none, number_of_one, number_of_two, number_of_four}
use Rattle.mem_banks.proofs.Lists.{part_within, pasted_within}
use Rattle.mem_banks.proofs.Splits.{ram_split, flash_split}

-- n bytes of a bank
pub bytes_in : (banks : List Bank) (k o a n : ℕ) (d : Bank) → AreLaid 0x08000000 0x20000000 banks → length (flash_of banks) ≤ 1048576 → k < length banks → (get_or banks k d).base + o ≡ a → o + n ≤ length (get_or banks k d).bytes.items → bytes_at (seen banks) a n ≡ take n (drop o (get_or banks k d).bytes.items)
bytes_in banks k o a n d laid small there same fits = elim (cases_lt (get_or banks k d).base 0x20000000) [
  | inl lt ↦
      let s = flash_split 0x08000000 0x20000000 banks k d laid there lt in
      let at = s.at in
      let len : length (flash_of banks) ≡ length s.front + (length (get_or banks k d).bytes.items + length s.back) = rw (s.is, length-append, length-append) refl in
      let above : 0x08000000 ≤ a = omega arith in
      let below : a < 0x20000000 = omega arith in
      rw (bytes_flash (seen banks) a n below above, s.is) (part_within s.front (get_or banks k d).bytes.items s.back (a - 0x08000000) o n (omega arith) fits)
  | inr le ↦
      let s = ram_split 0x08000000 0x20000000 banks k d laid there le in
      let at = s.at in
      let above : 0x20000000 ≤ a = omega arith in
      rw (bytes_ram (seen banks) a n above, s.is) (part_within s.front (get_or banks k d).bytes.items s.back (a - 0x20000000) o n (omega arith) fits)
]

-- bytes written over those of a bank
pub put_in_map : (banks : List Bank) (k o a : ℕ) (new : List ℕ) (d x : Bank) → AreLaid 0x08000000 0x20000000 banks → length (flash_of banks) ≤ 1048576 → k < length banks → (get_or banks k d).base + o ≡ a → o + length new ≤ length (get_or banks k d).bytes.items → x.base ≡ (get_or banks k d).base → x.bytes.items ≡ pasted (get_or banks k d).bytes.items o new → seen (set banks k x) ≡ with_bytes (seen banks) a new
put_in_map banks k o a new d x laid small there same fits base bytes = elim (cases_lt (get_or banks k d).base 0x20000000) [
  | inl lt ↦
      let s = flash_split 0x08000000 0x20000000 banks k d laid there lt in
      let at = s.at in
      let len : length (flash_of banks) ≡ length s.front + (length (get_or banks k d).bytes.items + length s.back) = rw (s.is, length-append, length-append) refl in
      let below : a < 0x20000000 = omega arith in
      rw (with_bytes_flash (seen banks) a new below, s.other x base, s.kept x base, bytes, s.is) (ap (λ q. record { flash = q; ram = ram_of banks }) (sym (pasted_within s.front (get_or banks k d).bytes.items s.back new (a - 0x08000000) o (omega arith) fits)))
  | inr le ↦
      let s = ram_split 0x08000000 0x20000000 banks k d laid there le in
      let at = s.at in
      let above : 0x20000000 ≤ a = omega arith in
      rw (with_bytes_ram (seen banks) a new above, s.other x base, s.kept x base, bytes, s.is) (ap (λ q. record { flash = flash_of banks; ram = q }) (sym (pasted_within s.front (get_or banks k d).bytes.items s.back new (a - 0x20000000) o (omega arith) fits)))
]

-- where a bank ends
pub bank_ends : (banks : List Bank) (k : ℕ) (d : Bank) → AreLaid 0x08000000 0x20000000 banks → length (flash_of banks) ≤ 1048576 → length (ram_of banks) ≤ 262144 → k < length banks → (get_or banks k d).base + length (get_or banks k d).bytes.items ≤ 0x20040000
bank_ends banks k d laid small ram there = elim (cases_lt (get_or banks k d).base 0x20000000) [
  | inl lt ↦
      let s = flash_split 0x08000000 0x20000000 banks k d laid there lt in
      let at = s.at in
      let len : length (flash_of banks) ≡ length s.front + (length (get_or banks k d).bytes.items + length s.back) = rw (s.is, length-append, length-append) refl in
      omega arith
  | inr le ↦
      let s = ram_split 0x08000000 0x20000000 banks k d laid there le in
      let at = s.at in
      let len : length (ram_of banks) ≡ length s.front + (length (get_or banks k d).bytes.items + length s.back) = rw (s.is, length-append, length-append) refl in
      omega arith
]

pub number_in : (table : List ℕ) (banks : List Bank) (k o a n : ℕ) (d : Bank) → AreKept table banks → k < length banks → (get_or banks k d).base + o ≡ a → o + n ≤ length (get_or banks k d).bytes.items → number_of (bytes_at (seen banks) a n) ≡ number_of (take n (drop o (get_or banks k d).bytes.items))
number_in table banks k o a n d kept there same fits = ap number_of (bytes_in banks k o a n d kept.laid kept.flash there same fits)

-- a read by a bank that was looked up, at the place that the code computes
pub number_read : (table : List ℕ) (banks : List Bank) (k o a n : ℕ) (b : Bank) → AreKept table banks → k < length banks → b ≡ get_or banks k b → a < 4294967296 → o ≡ (a + (4294967296 - b.base)) % 4294967296 → 0 < n → o + n ≤ length b.bytes.items → number_of (bytes_at (seen banks) a n) ≡ number_of (take n (drop o b.bytes.items))
number_read table banks k o a n b kept there e small place some fits =
    let ends : b.base + length b.bytes.items ≤ 0x20040000 = rw (← e) at (bank_ends banks k b kept.laid kept.flash kept.ram there) in
    let same : b.base + o ≡ a = omega arith in
    let same' : (get_or banks k b).base + o ≡ a = rw (← e) same in
    let fits' : o + n ≤ length (get_or banks k b).bytes.items = rw (← e) fits in
    let read = number_in table banks k o a n b kept there same' fits' in
    rw (← e) at read

-- each address of the map is in some bank
at_next : (b : Bank) (bs : List Bank) (k o a : ℕ) → IsAt bs k o a → IsAt (b ∷ bs) (suc k) o a
at_next b bs k o a at = (omega (arith, at.0), λ d. at.1 d)

pub somewhere_ram : (f r : ℕ) (banks : List Bank) (a : ℕ) → AreLaid f r banks → r ≤ a → a < r + length (ram_of banks) → (k : ℕ) × (o : ℕ) × IsAt banks k o a
somewhere_ram f r [] a laid low high = absurd (omega arith)
somewhere_ram f r (b ∷ bs) a laid low high = elim (cases_lt b.base 0x20000000) [
  | inl lt ↦
      let t : leb 0x20000000 b.base ≡ false = lt-leb _ _ lt in
      let m = rw t at laid in
      let h = rw t at high in
      let x = somewhere_ram (f + length b.bytes.items) r bs a m.1 low h in
      (suc x.0, x.1, at_next b bs x.0 x.1 a x.2)
  | inr le ↦
      let t : leb 0x20000000 b.base ≡ true = le-leb _ _ le in
      let m = rw t at laid in
      let h = rw (t, length-append) at high in
      elim (cases_lt a (r + length b.bytes.items)) [
        | inl here ↦ (0, a - r, (omega arith, λ d. (omega (arith, m.0), omega arith)))
        | inr on ↦
            let x = somewhere_ram f (r + length b.bytes.items) bs a m.1 on (omega (arith, h)) in
            (suc x.0, x.1, at_next b bs x.0 x.1 a x.2)
      ]
]

pub somewhere_flash : (f r : ℕ) (banks : List Bank) (a : ℕ) → AreLaid f r banks → f ≤ a → a < f + length (flash_of banks) → (k : ℕ) × (o : ℕ) × IsAt banks k o a
somewhere_flash f r [] a laid low high = absurd (omega arith)
somewhere_flash f r (b ∷ bs) a laid low high = elim (cases_lt b.base 0x20000000) [
  | inr le ↦
      let t : leb 0x20000000 b.base ≡ true = le-leb _ _ le in
      let m = rw t at laid in
      let h = rw t at high in
      let x = somewhere_flash f (r + length b.bytes.items) bs a m.1 low h in
      (suc x.0, x.1, at_next b bs x.0 x.1 a x.2)
  | inl lt ↦
      let t : leb 0x20000000 b.base ≡ false = lt-leb _ _ lt in
      let m = rw t at laid in
      let h = rw (t, length-append) at high in
      elim (cases_lt a (f + length b.bytes.items)) [
        | inl here ↦ (0, a - f, (omega arith, λ d. (omega (arith, m.0), omega arith)))
        | inr on ↦
            let x = somewhere_flash (f + length b.bytes.items) r bs a m.1 on (omega (arith, h)) in
            (suc x.0, x.1, at_next b bs x.0 x.1 a x.2)
      ]
]

-- what is in no bank is outside of the map
pub nowhere_ram : (banks : List Bank) (a : ℕ) → AreLaid 0x08000000 0x20000000 banks → IsNowhere banks a → 0x20000000 ≤ a → 0x20000000 + length (ram_of banks) ≤ a
nowhere_ram banks a laid none low = elim (cases_lt a (0x20000000 + length (ram_of banks))) [
  | inl lt ↦ let x = somewhere_ram 0x08000000 0x20000000 banks a laid low lt in absurd (none x.0 x.1 x.2)
  | inr le ↦ le
]

pub nowhere_flash : (banks : List Bank) (a : ℕ) → AreLaid 0x08000000 0x20000000 banks → IsNowhere banks a → 0x08000000 ≤ a → 0x08000000 + length (flash_of banks) ≤ a
nowhere_flash banks a laid none low = elim (cases_lt a (0x08000000 + length (flash_of banks))) [
  | inl lt ↦ let x = somewhere_flash 0x08000000 0x20000000 banks a laid low lt in absurd (none x.0 x.1 x.2)
  | inr le ↦ le
]

-- an address that is held, and one that is not
pub data Held (m : Memory) (a : ℕ) : Type 0 where
  in_ram : 0x20000000 ≤ a → a < 0x20000000 + length m.ram → Held m a
  in_flash : 0x08000000 ≤ a → a < 0x08000000 + length m.flash → a < 0x20000000 → Held m a

pub record Unheld (m : Memory) (a : ℕ) : Type 0 where
  pub ram : 0x20000000 ≤ a → 0x20000000 + length m.ram ≤ a
  pub flash : 0x08000000 ≤ a → 0x08000000 + length m.flash ≤ a

past_end : (xs : List ℕ) (i n : ℕ) → length xs ≤ i → take n (drop i xs) ≡ []
past_end xs i n h = nil_from_length _ (simp (length-take, length-drop) (omega arith))

pub unheld_none : (m : Memory) (a n : ℕ) → Unheld m a → bytes_at m a n ≡ []
unheld_none m a n u = elim (cases_lt a 0x20000000) [
  | inr le ↦ rw (bytes_ram m a n le) (past_end m.ram (a - 0x20000000) n (omega (arith, u.ram le)))
  | inl lt ↦ elim (cases_lt a 0x08000000) [
    | inl below ↦ bytes_none m a n below
    | inr above ↦ rw (bytes_flash m a n lt above) (past_end m.flash (a - 0x08000000) n (omega (arith, u.flash above)))
  ]
]

pub unheld_at : (table : List ℕ) (banks : List Bank) (a : ℕ) → AreKept table banks → IsNowhere banks a → Unheld (seen banks) a
unheld_at table banks a kept none = record { ram = λ le. nowhere_ram banks a kept.laid none le; flash = λ le. nowhere_flash banks a kept.laid none le }

pub first_of : (banks : List Bank) (k : ℕ) → k < length banks → Bank
first_of [] k h = absurd (omega arith)
first_of (b ∷ bs) k h = b

pub held_at : (table : List ℕ) (banks : List Bank) (k o a : ℕ) → AreKept table banks → IsAt banks k o a → Held (seen banks) a
held_at table banks k o a kept at = let d : Bank = first_of banks k at.0 in let here = at.1 d in elim (cases_lt (get_or banks k d).base 0x20000000) [
  | inl lt ↦
      let s = flash_split 0x08000000 0x20000000 banks k d kept.laid at.0 lt in
      let begins = s.at in
      let small = kept.flash in
      let len : length (flash_of banks) ≡ length s.front + (length (get_or banks k d).bytes.items + length s.back) = rw (s.is, length-append, length-append) refl in
      in_flash (omega arith) (omega arith) (omega arith)
  | inr le ↦
      let s = ram_split 0x08000000 0x20000000 banks k d kept.laid at.0 le in
      let begins = s.at in
      let len : length (ram_of banks) ≡ length s.front + (length (get_or banks k d).bytes.items + length s.back) = rw (s.is, length-append, length-append) refl in
      in_ram (omega arith) (omega arith)
]

pub held_true : (m : Memory) (a : ℕ) → Held m a → is_held m a ≡ true
held_true m a (in_ram low high) =
    let t : leb 0x20000000 a ≡ true = le-leb _ _ low in
    let u : ltb (a - 0x20000000) (length m.ram) ≡ true = lt-ltb _ _ (omega arith) in
    rw (t, u)
held_true m a (in_flash low high below) =
    let t : leb 0x20000000 a ≡ false = lt-leb _ _ below in
    let u : leb 0x08000000 a ≡ true = le-leb _ _ low in
    let v : ltb (a - 0x08000000) (length m.flash) ≡ true = lt-ltb _ _ (omega arith) in
    rw (t, u, v)

pub held_false : (m : Memory) (a : ℕ) → Unheld m a → is_held m a ≡ false
held_false m a u = elim (cases_lt a 0x20000000) [
  | inr le ↦
      let t : leb 0x20000000 a ≡ true = le-leb _ _ le in
      let v : ltb (a - 0x20000000) (length m.ram) ≡ false = le-ltb _ _ (omega (arith, u.ram le)) in
      rw (t, v)
  | inl lt ↦
      let t : leb 0x20000000 a ≡ false = lt-leb _ _ lt in
      elim (cases_lt a 0x08000000) [
        | inl below ↦ let w : leb 0x08000000 a ≡ false = lt-leb _ _ below in rw (t, w)
        | inr above ↦
            let w : leb 0x08000000 a ≡ true = le-leb _ _ above in
            let v : ltb (a - 0x08000000) (length m.flash) ≡ false = le-ltb _ _ (omega (arith, u.flash above)) in
            rw (t, w, v)
      ]
]

pub held_is : (table : List ℕ) (banks : List Bank) (a : ℕ) (r : Option Place) → AreKept table banks → IfSome r (λ p. IsAt banks p.bank p.at a) → IfNone r (IsNowhere banks a) → is_some r ≡ is_held (seen banks) a
held_is table banks a None kept f n = sym (held_false (seen banks) a (unheld_at table banks a kept n))
held_is table banks a (Some p) kept f n = sym (held_true (seen banks) a (held_at table banks p.bank p.at a kept f))

-- and back
pub held_found : (table : List ℕ) (banks : List Bank) (a : ℕ) (r : Option Place) → AreKept table banks → is_some r ≡ true → IfSome r (λ p. IsAt banks p.bank p.at a) → Held (seen banks) a
held_found table banks a None kept e f = absurd (false≢true e)
held_found table banks a (Some p) kept e f = held_at table banks p.bank p.at a kept f

pub unheld_found : (table : List ℕ) (banks : List Bank) (a : ℕ) (r : Option Place) → AreKept table banks → is_some r ≡ false → IfNone r (IsNowhere banks a) → Unheld (seen banks) a
unheld_found table banks a None kept e n = unheld_at table banks a kept n
unheld_found table banks a (Some p) kept e n = absurd (false≢true (sym e))

-- no sum of a held address and of less than four wraps
pub held_low : (m : Memory) (a : ℕ) → length m.flash ≤ 1048576 → length m.ram ≤ 262144 → Held m a → a + 3 < 4294967296
held_low m a small ram (in_ram low high) = omega arith
held_low m a small ram (in_flash low high below) = omega arith

-- a number by the bytes at its addresses
one_ram : (m : Memory) (a : ℕ) → 0x20000000 ≤ a → number_of (bytes_at m a 1) ≡ get_or m.ram (a - 0x20000000) 0
one_ram m a h = rw (bytes_ram m a 1 h) (number_of_one m.ram (a - 0x20000000))

one_flash : (m : Memory) (a : ℕ) → a < 0x20000000 → 0x08000000 ≤ a → number_of (bytes_at m a 1) ≡ get_or m.flash (a - 0x08000000) 0
one_flash m a h above = rw (bytes_flash m a 1 h above) (number_of_one m.flash (a - 0x08000000))

pub two_bytes : (m : Memory) (a : ℕ) → length m.flash ≤ 1048576 → Held m a → number_of (bytes_at m a 2) ≡ number_of (bytes_at m a 1) + 256 * number_of (bytes_at m (a + 1) 1)
two_bytes m a small (in_ram low high) =
    let e : a + 1 - 0x20000000 ≡ a - 0x20000000 + 1 = omega arith in
    rw (one_ram m a low, one_ram m (a + 1) (omega arith), bytes_ram m a 2 low, e) (number_of_two m.ram (a - 0x20000000))
two_bytes m a small (in_flash low high below) =
    let e : a + 1 - 0x08000000 ≡ a - 0x08000000 + 1 = omega arith in
    rw (one_flash m a below low, one_flash m (a + 1) (omega arith) (omega arith), bytes_flash m a 2 below low, e) (number_of_two m.flash (a - 0x08000000))

pub four_bytes : (m : Memory) (a : ℕ) → length m.flash ≤ 1048576 → Held m a → number_of (bytes_at m a 4) ≡ number_of (bytes_at m a 1) + 256 * number_of (bytes_at m (a + 1) 1) + 65536 * (number_of (bytes_at m (a + 2) 1) + 256 * number_of (bytes_at m (a + 3) 1))
four_bytes m a small (in_ram low high) =
    let e : a + 1 - 0x20000000 ≡ a - 0x20000000 + 1 = omega arith in
    let f : a + 2 - 0x20000000 ≡ a - 0x20000000 + 2 = omega arith in
    let g : a + 3 - 0x20000000 ≡ a - 0x20000000 + 3 = omega arith in
    rw (one_ram m a low, one_ram m (a + 1) (omega arith), one_ram m (a + 2) (omega arith), one_ram m (a + 3) (omega arith), bytes_ram m a 4 low, e, f, g) (number_of_four m.ram (a - 0x20000000))
four_bytes m a small (in_flash low high below) =
    let e : a + 1 - 0x08000000 ≡ a - 0x08000000 + 1 = omega arith in
    let f : a + 2 - 0x08000000 ≡ a - 0x08000000 + 2 = omega arith in
    let g : a + 3 - 0x08000000 ≡ a - 0x08000000 + 3 = omega arith in
    rw (one_flash m a below low, one_flash m (a + 1) (omega arith) (omega arith), one_flash m (a + 2) (omega arith) (omega arith), one_flash m (a + 3) (omega arith) (omega arith), bytes_flash m a 4 below low, e, f, g) (number_of_four m.flash (a - 0x08000000))

pub number_held : (table : List ℕ) (banks : List Bank) (k o a : ℕ) (b : Bank) → AreKept table banks → IsAt banks k o a → b ≡ get_or banks k b → number_of (bytes_at (seen banks) a 1) ≡ get_or b.bytes.items o 0
number_held table banks k o a b kept at e =
    let here = at.1 b in
    let read = number_in table banks k o a 1 b kept at.0 here.0 (omega arith) in
    (rw (← e) at read) ∙ number_of_one b.bytes.items o

-- a range by its place in the RAM
pub ram_range : (a n len : ℕ) → 0x20000000 ≤ a → leb (a - 0x20000000 + n) len ≡ (leb 0x20000000 a && leb (a + n) (0x20000000 + len))
ram_range a n len low =
    let t : leb 0x20000000 a ≡ true = le-leb _ _ low in
    elim (cases_lt len (a - 0x20000000 + n)) [
      | inl lt ↦
          let u : leb (a - 0x20000000 + n) len ≡ false = lt-leb _ _ lt in
          let v : leb (a + n) (0x20000000 + len) ≡ false = lt-leb _ _ (omega arith) in
          rw (t, u, v)
      | inr le ↦
          let u : leb (a - 0x20000000 + n) len ≡ true = le-leb _ _ le in
          let v : leb (a + n) (0x20000000 + len) ≡ true = le-leb _ _ (omega arith) in
          rw (t, u, v)
    ]
