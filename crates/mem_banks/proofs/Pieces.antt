-- Pieces of memory written one after another.
use Rattle.std.proofs.Common.{◌≡◌, ◌+◌, ◌-◌, ◌%◌, ◌≤◌, ◌<◌, ◌⊎◌, inl, inr, ℕ, zero, suc, List, [], ◌∷◌, ◌++◌, length, take, drop, get_or, set, refl, ap, sym, ◌∙◌, arith}
use Rattle.std.proofs.lemmas.Bool.{cases_lt}
use Rattle.std.proofs.lemmas.List.{length-append, length-set}
use Rattle.mem_banks.specs.declared.bank.Bank.{Bank}
use Rattle.mem_banks.specs.Banks.{flash_of, ram_of, AreLaid, IsAt, IsNowhere, IsPut, IsMoved}
use Rattle.mem_banks.specs.Memory.{Memory, bytes_at, with_bytes, copied, pasted, IsWithin}
use Rattle.mem_banks.specs.Kept.{AreKept, IsDone, seen, spans_of}
use Rattle.mem_banks.proofs.Copies.{with_bytes_none, with_bytes_ram, with_bytes_flash, bytes_ram, bytes_flash, length-pasted, length_part}
use Rattle.mem_banks.proofs.Lists.{parts_joined, pasted_after, pasted_before, part_below, part_above}
use Rattle.mem_banks.proofs.Splits.{ram_split, flash_split}
use Rattle.mem_banks.proofs.Within.{first_of, bytes_in, put_in_map, bank_ends, nowhere_ram, nowhere_flash}

-- where n bytes lie
pub data Side (m : Memory) (a n : ℕ) : Type 0 where
  ram_side : 0x20000000 ≤ a → a + n ≤ 0x20000000 + length m.ram → Side m a n
  flash_side : 0x08000000 ≤ a → a + n ≤ 0x08000000 + length m.flash → a < 0x20000000 → Side m a n

pub side_of : (m : Memory) (a n : ℕ) → length m.flash ≤ 1048576 → IsWithin m a n → 0 < n → Side m a n
side_of m a n small w some = elim w [ inl r ↦ elim r [ inl none ↦ absurd (omega arith) | inr x ↦ ram_side x.0 x.1 ] | inr x ↦ flash_side x.0 x.1 (omega arith) ]

-- a part of a range
pub side_part : (m : Memory) (a n b k : ℕ) → length m.flash ≤ 1048576 → Side m a n → a ≤ b → b + k ≤ a + n → Side m b k
side_part m a n b k small (ram_side x y) low high = ram_side (omega arith) (omega arith)
side_part m a n b k small (flash_side x y z) low high = flash_side (omega arith) (omega arith) (omega arith)

-- the same range of a memory of the same lengths
pub side_same : (m o : Memory) (a n : ℕ) → length m.flash ≡ length o.flash → length m.ram ≡ length o.ram → Side m a n → Side o a n
side_same m o a n e f (ram_side x y) = ram_side x (omega arith)
side_same m o a n e f (flash_side x y z) = flash_side x (omega arith) z

pub same_ram : (m : Memory) (a : ℕ) (ys : List ℕ) → Side m a (length ys) → length (with_bytes m a ys).ram ≡ length m.ram
same_ram m a ys (ram_side x y) = rw (with_bytes_ram m a ys x) (length-pasted m.ram (a - 0x20000000) ys (omega arith))
same_ram m a ys (flash_side x y z) = rw (with_bytes_flash m a ys z) refl

pub same_flash : (m : Memory) (a : ℕ) (ys : List ℕ) → Side m a (length ys) → length (with_bytes m a ys).flash ≡ length m.flash
same_flash m a ys (ram_side x y) = rw (with_bytes_ram m a ys x) refl
same_flash m a ys (flash_side x y z) = rw (with_bytes_flash m a ys z) (length-pasted m.flash (a - 0x08000000) ys (omega arith))

-- one piece after another, and before another
pub put_after : (m : Memory) (a b : ℕ) (ys zs : List ℕ) → b ≡ a + length ys → Side m a (length ys + length zs) → b < 0x20000000 ⊎ (0x20000000 ≤ a) → with_bytes (with_bytes m a ys) b zs ≡ with_bytes m a (ys ++ zs)
put_after m a b ys zs e (ram_side x y) w =
    rw (with_bytes_ram m a ys x, with_bytes_ram m a (ys ++ zs) x, with_bytes_ram record { flash = m.flash; ram = pasted m.ram (a - 0x20000000) ys } b zs (omega arith))
    (ap (λ q. record { flash = m.flash; ram = q }) (pasted_after m.ram ys zs (a - 0x20000000) (b - 0x20000000) (omega arith) (omega arith)))
put_after m a b ys zs e (flash_side x y z) (inl w) =
    rw (with_bytes_flash m a ys z, with_bytes_flash m a (ys ++ zs) z, with_bytes_flash record { flash = pasted m.flash (a - 0x08000000) ys; ram = m.ram } b zs w)
    (ap (λ q. record { flash = q; ram = m.ram }) (pasted_after m.flash ys zs (a - 0x08000000) (b - 0x08000000) (omega arith) (omega arith)))
put_after m a b ys zs e (flash_side x y z) (inr w) = absurd (omega arith)

pub put_before : (m : Memory) (a b : ℕ) (ys zs : List ℕ) → b ≡ a + length zs → Side m a (length zs + length ys) → b < 0x20000000 ⊎ (0x20000000 ≤ a) → with_bytes (with_bytes m b ys) a zs ≡ with_bytes m a (zs ++ ys)
put_before m a b ys zs e (ram_side x y) w =
    rw (with_bytes_ram m b ys (omega arith), with_bytes_ram m a (zs ++ ys) x, with_bytes_ram record { flash = m.flash; ram = pasted m.ram (b - 0x20000000) ys } a zs x)
    (ap (λ q. record { flash = m.flash; ram = q }) (pasted_before m.ram ys zs (a - 0x20000000) (b - 0x20000000) (omega arith) (omega arith)))
put_before m a b ys zs e (flash_side x y z) (inl w) =
    rw (with_bytes_flash m b ys w, with_bytes_flash m a (zs ++ ys) z, with_bytes_flash record { flash = pasted m.flash (b - 0x08000000) ys; ram = m.ram } a zs z)
    (ap (λ q. record { flash = q; ram = m.ram }) (pasted_before m.flash ys zs (a - 0x08000000) (b - 0x08000000) (omega arith) (omega arith)))
put_before m a b ys zs e (flash_side x y z) (inr w) = absurd (omega arith)

-- what is read beside the bytes written
pub read_apart : (m : Memory) (t b n : ℕ) (ys : List ℕ) → Side m t (length ys) → Side m b n → (b + n ≤ t) ⊎ (t + length ys ≤ b) → bytes_at (with_bytes m t ys) b n ≡ bytes_at m b n
read_apart m t b n ys (ram_side x y) (ram_side u v) h =
    rw (with_bytes_ram m t ys x, bytes_ram m b n u, bytes_ram record { flash = m.flash; ram = pasted m.ram (t - 0x20000000) ys } b n u)
    (elim h [
      | inl below ↦ part_below m.ram ys (t - 0x20000000) (b - 0x20000000) n (omega arith) (omega arith)
      | inr above ↦ part_above m.ram ys (t - 0x20000000) (b - 0x20000000) n (omega arith) (omega arith) (omega arith)
    ])
read_apart m t b n ys (ram_side x y) (flash_side u v z) h =
    rw (with_bytes_ram m t ys x, bytes_flash m b n z u, bytes_flash record { flash = m.flash; ram = pasted m.ram (t - 0x20000000) ys } b n z u) refl
read_apart m t b n ys (flash_side x y z) (ram_side u v) h =
    rw (with_bytes_flash m t ys z, bytes_ram m b n u, bytes_ram record { flash = pasted m.flash (t - 0x08000000) ys; ram = m.ram } b n u) refl
read_apart m t b n ys (flash_side x y z) (flash_side u v w) h =
    rw (with_bytes_flash m t ys z, bytes_flash m b n w u, bytes_flash record { flash = pasted m.flash (t - 0x08000000) ys; ram = m.ram } b n w u)
    (elim h [
      | inl below ↦ part_below m.flash ys (t - 0x08000000) (b - 0x08000000) n (omega arith) (omega arith)
      | inr above ↦ part_above m.flash ys (t - 0x08000000) (b - 0x08000000) n (omega arith) (omega arith) (omega arith)
    ])

pub length_at : (m : Memory) (a n : ℕ) → Side m a n → length (bytes_at m a n) ≡ n
length_at m a n (ram_side x y) = rw (bytes_ram m a n x) (length_part m.ram (a - 0x20000000) n (omega arith))
length_at m a n (flash_side x y z) = rw (bytes_flash m a n z x) (length_part m.flash (a - 0x08000000) n (omega arith))

pub bytes_joined : (m : Memory) (a b n k : ℕ) → b ≡ a + n → Side m a (n + k) → b < 0x20000000 ⊎ (0x20000000 ≤ a) → bytes_at m a n ++ bytes_at m b k ≡ bytes_at m a (n + k)
bytes_joined m a b n k e (ram_side x y) w =
    rw (bytes_ram m a n x, bytes_ram m b k (omega arith), bytes_ram m a (n + k) x) (parts_joined m.ram (a - 0x20000000) (b - 0x20000000) n k (omega arith) (omega arith))
bytes_joined m a b n k e (flash_side x y z) (inl w) =
    rw (bytes_flash m a n z x, bytes_flash m b k w (omega arith), bytes_flash m a (n + k) z x) (parts_joined m.flash (a - 0x08000000) (b - 0x08000000) n k (omega arith) (omega arith))
bytes_joined m a b n k e (flash_side x y z) (inr w) = absurd (omega arith)

-- the places of a range are all below the RAM or all in it
pub one_side : (m : Memory) (a n b : ℕ) → length m.flash ≤ 1048576 → Side m a n → b ≤ a + n → b < 0x20000000 ⊎ (0x20000000 ≤ a)
one_side m a n b small (ram_side x y) h = inr x
one_side m a n b small (flash_side x y z) h = inl (omega arith)

-- ## banks
pub set_spans : (banks : List Bank) (k : ℕ) (x d : Bank) → k < length banks → x.base ≡ (get_or banks k d).base → length x.bytes.items ≡ length (get_or banks k d).bytes.items → spans_of (set banks k x) ≡ spans_of banks
set_spans [] k x d h e n = absurd (omega arith)
set_spans (b ∷ bs) zero x d h e n = rw (e, n)
set_spans (b ∷ bs) (suc k) x d h e n = ap (λ q. (b.base, length b.bytes.items) ∷ q) (set_spans bs k x d (omega arith) e n)

pub set_laid : (banks : List Bank) (k : ℕ) (x d : Bank) → AreLaid 0x08000000 0x20000000 banks → k < length banks → x.base ≡ (get_or banks k d).base → length x.bytes.items ≡ length (get_or banks k d).bytes.items → AreLaid 0x08000000 0x20000000 (set banks k x)
set_laid banks k x d laid there e n = elim (cases_lt (get_or banks k d).base 0x20000000) [
  | inl lt ↦ (flash_split 0x08000000 0x20000000 banks k d laid there lt).laid x e n
  | inr le ↦ (ram_split 0x08000000 0x20000000 banks k d laid there le).laid x e n
]

-- the side of the bytes of a bank
pub side_in : (table : List ℕ) (banks : List Bank) (k o a n : ℕ) (d : Bank) → AreKept table banks → k < length banks → (get_or banks k d).base + o ≡ a → o + n ≤ length (get_or banks k d).bytes.items → Side (seen banks) a n
side_in table banks k o a n d kept there same fits = elim (cases_lt (get_or banks k d).base 0x20000000) [
  | inl lt ↦
      let s = flash_split 0x08000000 0x20000000 banks k d kept.laid there lt in
      let begins = s.at in
      let small = kept.flash in
      let len : length (flash_of banks) ≡ length s.front + (length (get_or banks k d).bytes.items + length s.back) = rw (s.is, length-append, length-append) refl in
      flash_side (omega arith) (omega arith) (omega arith)
  | inr le ↦
      let s = ram_split 0x08000000 0x20000000 banks k d kept.laid there le in
      let begins = s.at in
      let len : length (ram_of banks) ≡ length s.front + (length (get_or banks k d).bytes.items + length s.back) = rw (s.is, length-append, length-append) refl in
      ram_side (omega arith) (omega arith)
]

pub put_done : (table : List ℕ) (banks after : List Bank) (k o a : ℕ) (new : List ℕ) (d : Bank) → AreKept table banks → k < length banks → (get_or banks k d).base + o ≡ a → o + length new ≤ length (get_or banks k d).bytes.items → IsPut banks k o new after → IsDone table banks after a new
put_done table banks after k o a new d kept there same fits put =
    let x = put.0 in
    let e = (put.2 d).0 in
    let f = (put.2 d).1 in
    let side = side_in table banks k o a (length new) d kept there same fits in
    let n : length x.bytes.items ≡ length (get_or banks k d).bytes.items = rw f (length-pasted (get_or banks k d).bytes.items o new fits) in
    let v : seen (set banks k x) ≡ with_bytes (seen banks) a new = put_in_map banks k o a new d x kept.laid kept.flash there same fits e f in
    rw put.1 record {
      kept = record {
        laid = set_laid banks k x d kept.laid there e n;
        flash = omega (arith, ap (λ (m : Memory). length m.flash) v, same_flash (seen banks) a new side, kept.flash);
        ram = omega (arith, ap (λ (m : Memory). length m.ram) v, same_ram (seen banks) a new side, kept.ram);
        pages = kept.pages;
        hints = rw (length-set {A = Bank}) kept.hints;
      };
      spans = set_spans banks k x d there e n;
      value = v;
    }

-- bytes written in the bank that was looked up, at the place that the code computes
pub put_found : (table : List ℕ) (banks after : List Bank) (k o a : ℕ) (new : List ℕ) (d : Bank) → AreKept table banks → k < length banks → a < 4294967296 → o ≡ (a + (4294967296 - (get_or banks k d).base)) % 4294967296 → o + length new ≤ length (get_or banks k d).bytes.items → IsPut banks k o new after → IsDone table banks after a new
put_found table banks after k o a new d kept there small place fits put =
    let ends = bank_ends banks k d kept.laid kept.flash kept.ram there in
    put_done table banks after k o a new d kept there (omega (arith, ends)) fits put

-- an address of the map is in some bank
pub not_nowhere : (table : List ℕ) (banks : List Bank) (a : ℕ) → AreKept table banks → IsNowhere banks a → Side (seen banks) a 1 → ⊥
not_nowhere table banks a kept none (ram_side x y) = let h = nowhere_ram banks a kept.laid none x in omega arith
not_nowhere table banks a kept none (flash_side x y z) = let h = nowhere_flash banks a kept.laid none x in omega arith

-- ## the steps of the loops
pub nothing_done : (table : List ℕ) (banks : List Bank) (a : ℕ) (new : List ℕ) → AreKept table banks → new ≡ [] → IsDone table banks banks a new
nothing_done table banks a new kept e = record { kept = kept; spans = refl; value = with_bytes_none (seen banks) a new e }

pub more_done : (table : List ℕ) (old banks after : List Bank) (a b : ℕ) (ys zs : List ℕ) → AreKept table old → IsDone table old banks a ys → IsDone table banks after b zs → b ≡ a + length ys → Side (seen old) a (length ys + length zs) → IsDone table old after a (ys ++ zs)
more_done table old banks after a b ys zs kept d e same side = record {
  kept = e.kept;
  spans = e.spans ∙ d.spans;
  value = e.value ∙ (rw d.value (put_after (seen old) a b ys zs same side (one_side (seen old) a (length ys + length zs) b kept.flash side (omega arith))));
}

pub more_done_before : (table : List ℕ) (old banks after : List Bank) (a b : ℕ) (ys zs : List ℕ) → AreKept table old → IsDone table old banks b ys → IsDone table banks after a zs → b ≡ a + length zs → Side (seen old) a (length zs + length ys) → IsDone table old after a (zs ++ ys)
more_done_before table old banks after a b ys zs kept d e same side = record {
  kept = e.kept;
  spans = e.spans ∙ d.spans;
  value = e.value ∙ (rw d.value (put_before (seen old) a b ys zs same side (one_side (seen old) a (length zs + length ys) b kept.flash side (omega arith))));
}

-- the sides after a piece are those before
pub side_done : (table : List ℕ) (old banks : List Bank) (a b n : ℕ) (ys : List ℕ) → IsDone table old banks a ys → Side (seen old) a (length ys) → Side (seen old) b n → Side (seen banks) b n
side_done table old banks a b n ys d own side = side_same (seen old) (seen banks) b n
    (sym (ap (λ (m : Memory). length m.flash) d.value ∙ same_flash (seen old) a ys own))
    (sym (ap (λ (m : Memory). length m.ram) d.value ∙ same_ram (seen old) a ys own))
    side

-- a range that is at hand after a piece
pub at_hand : (table : List ℕ) (old banks : List Bank) (a t u b k : ℕ) (ys : List ℕ) → AreKept table old → IsDone table old banks a ys → Side (seen old) t u → t ≤ a → a + length ys ≤ t + u → Side (seen old) b k → Side (seen banks) b k
at_hand table old banks a t u b k ys kept d side low high here = side_done table old banks a b k ys d (side_part (seen old) t u a (length ys) kept.flash side low high) here

-- one more piece of a copy, behind what is copied
pub copy_step : (table : List ℕ) (old banks after : List Bank) (from to n done len j i k o : ℕ) → AreKept table old → IsDone table old banks to (bytes_at (seen old) from done) → Side (seen old) from len → Side (seen old) to len → to ≤ from → done + n ≤ len → IsAt banks j i (from + done) → IsAt banks k o (to + done) → ((d : Bank) → i + n ≤ length (get_or banks j d).bytes.items) → ((d : Bank) → o + n ≤ length (get_or banks k d).bytes.items) → IsMoved banks j i k o n after → IsDone table old after to (bytes_at (seen old) from (done + n))
copy_step table old banks after from to n done len j i k o kept d source target order upto at_j at_k fits_j fits_k moved =
    let x : Bank = first_of banks k at_k.0 in
    let small = kept.flash in
    let s_ys = side_part (seen old) from len from done small source (omega arith) (omega arith) in
    let s_zs = side_part (seen old) from len (from + done) n small source (omega arith) (omega arith) in
    let s_all = side_part (seen old) from len from (done + n) small source (omega arith) (omega arith) in
    let l_ys = length_at (seen old) from done s_ys in
    let l_zs = length_at (seen old) (from + done) n s_zs in
    let own = side_part (seen old) to len to (length (bytes_at (seen old) from done)) small target (omega arith) (omega (arith, l_ys)) in
    let read = bytes_in banks j i (from + done) n x d.kept.laid d.kept.flash at_j.0 (at_j.1 x).0 (fits_j x) in
    let same = ap (λ m. bytes_at m (from + done) n) d.value ∙ read_apart (seen old) to (from + done) n (bytes_at (seen old) from done) own s_zs (inr (omega (arith, l_ys))) in
    let bytes : take n (drop i (get_or banks j x).bytes.items) ≡ bytes_at (seen old) (from + done) n = sym read ∙ same in
    let put : IsPut banks k o (bytes_at (seen old) (from + done) n) after = rw bytes at (moved x) in
    let piece = put_done table banks after k o (to + done) (bytes_at (seen old) (from + done) n) x d.kept at_k.0 (at_k.1 x).0 (omega (arith, fits_k x, l_zs)) put in
    let both = side_part (seen old) to len to (length (bytes_at (seen old) from done) + length (bytes_at (seen old) (from + done) n)) small target (omega arith) (omega (arith, l_ys, l_zs)) in
    let all = more_done table old banks after to (to + done) (bytes_at (seen old) from done) (bytes_at (seen old) (from + done) n) kept d piece (omega (arith, l_ys)) both in
    rw (bytes_joined (seen old) from (from + done) done n refl s_all (one_side (seen old) from (done + n) (from + done) small s_all (omega arith))) at all

-- one more piece of a copy, before what is copied
pub copy_step_end : (table : List ℕ) (old banks after : List Bank) (from to n left rest len b j i k o : ℕ) → AreKept table old → IsDone table old banks (to + left) (bytes_at (seen old) (from + left) rest) → Side (seen old) from len → Side (seen old) to len → from ≤ to → left + rest ≡ len → b + n ≡ left → IsAt banks j i (from + b) → IsAt banks k o (to + b) → ((d : Bank) → i + n ≤ length (get_or banks j d).bytes.items) → ((d : Bank) → o + n ≤ length (get_or banks k d).bytes.items) → IsMoved banks j i k o n after → IsDone table old after (to + b) (bytes_at (seen old) (from + b) (n + rest))
copy_step_end table old banks after from to n left rest len b j i k o kept d source target order whole part at_j at_k fits_j fits_k moved =
    let x : Bank = first_of banks k at_k.0 in
    let small = kept.flash in
    let s_ys = side_part (seen old) from len (from + left) rest small source (omega arith) (omega arith) in
    let s_zs = side_part (seen old) from len (from + b) n small source (omega arith) (omega arith) in
    let s_all = side_part (seen old) from len (from + b) (n + rest) small source (omega arith) (omega arith) in
    let l_ys = length_at (seen old) (from + left) rest s_ys in
    let l_zs = length_at (seen old) (from + b) n s_zs in
    let own = side_part (seen old) to len (to + left) (length (bytes_at (seen old) (from + left) rest)) small target (omega arith) (omega (arith, l_ys)) in
    let read = bytes_in banks j i (from + b) n x d.kept.laid d.kept.flash at_j.0 (at_j.1 x).0 (fits_j x) in
    let same = ap (λ m. bytes_at m (from + b) n) d.value ∙ read_apart (seen old) (to + left) (from + b) n (bytes_at (seen old) (from + left) rest) own s_zs (inl (omega arith)) in
    let bytes : take n (drop i (get_or banks j x).bytes.items) ≡ bytes_at (seen old) (from + b) n = sym read ∙ same in
    let put : IsPut banks k o (bytes_at (seen old) (from + b) n) after = rw bytes at (moved x) in
    let piece = put_done table banks after k o (to + b) (bytes_at (seen old) (from + b) n) x d.kept at_k.0 (at_k.1 x).0 (omega (arith, fits_k x, l_zs)) put in
    let both = side_part (seen old) to len (to + b) (length (bytes_at (seen old) (from + b) n) + length (bytes_at (seen old) (from + left) rest)) small target (omega arith) (omega (arith, l_ys, l_zs)) in
    let all = more_done_before table old banks after (to + b) (to + left) (bytes_at (seen old) (from + left) rest) (bytes_at (seen old) (from + b) n) kept d piece (omega (arith, l_zs)) both in
    rw (bytes_joined (seen old) (from + b) (from + left) n rest (omega arith) s_all (one_side (seen old) (from + b) (n + rest) (from + left) small s_all (omega arith))) at all

pub at_before : (banks : List Bank) (j i a b n : ℕ) → IsAt banks j i a → 0 < n → n ≤ i + 1 → b + n ≡ a + 1 → IsAt banks j (i + 1 - n) b
at_before banks j i a b n at some fits e = (at.0, λ d. let x = at.1 d in (omega arith, omega arith))

-- what a copy leaves
pub copied_done : (m after : Memory) (from to n : ℕ) → after ≡ with_bytes m to (bytes_at m from n) → after ≡ copied m from to n
unfolding copied
copied_done m after from to n e = e
