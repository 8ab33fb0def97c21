-- What reads of memory give, and what stores leave.
use Rattle.std.proofs.Common.{◌≡◌, ◌+◌, ◌-◌, ◌*◌, ◌<◌, ◌≤◌, ℕ, zero, suc, Bool, true, false, cond, leb, ltb, Some, None, List, [], ◌∷◌, length, take, drop, get_or, slice_get, refl, sym, ◌∙◌, ap, add-zero, arith, length-take, length-drop}
use Rattle.std.proofs.lemmas.Bool.{le-leb, lt-leb, ltb-true, ltb-false, false≢true}
use Rattle.std.proofs.lemmas.List.{take-append-drop, append-nil, length-append}
use lib.Seq.{paste}
use Rattle.mem_banks.specs.Memory.{Memory, bytes_at, with_bytes, number_of, pasted, is_held, byte_at, number_at, AreAllBytes}

-- no bytes change nothing
pasted_none : (xs : List ℕ) (a : ℕ) → xs ≡ pasted xs a []
pasted_none xs a = sym (simp (add-zero, append-nil, take-append-drop))

with_bytes_nil : (b : Bool) (m : Memory) (a c : ℕ) → m ≡ cond b (record m { ram = pasted m.ram a [] }) (record m { flash = pasted m.flash c [] })
with_bytes_nil true m a c = ap (λ x. record m { ram = x }) (pasted_none m.ram a)
with_bytes_nil false m a c = ap (λ x. record m { flash = x }) (pasted_none m.flash c)

pub with_bytes_none : (m : Memory) (a : ℕ) (bytes : List ℕ) → bytes ≡ [] → m ≡ with_bytes m a bytes
unfolding with_bytes
with_bytes_none m a bytes e = rw e (with_bytes_nil (leb 0x20000000 a) m (a - 0x20000000) (a - 0x08000000))

pub with_bytes_ram : (m : Memory) (a : ℕ) (bytes : List ℕ) → 0x20000000 ≤ a → with_bytes m a bytes ≡ record m { ram = pasted m.ram (a - 0x20000000) bytes }
unfolding with_bytes
with_bytes_ram m a bytes h = let t : leb 0x20000000 a ≡ true = le-leb _ _ h in rw t

pub with_bytes_flash : (m : Memory) (a : ℕ) (bytes : List ℕ) → a < 0x20000000 → with_bytes m a bytes ≡ record m { flash = pasted m.flash (a - 0x08000000) bytes }
unfolding with_bytes
with_bytes_flash m a bytes h = let t : leb 0x20000000 a ≡ false = lt-leb _ _ h in rw t

pub bytes_ram : (m : Memory) (a n : ℕ) → 0x20000000 ≤ a → bytes_at m a n ≡ take n (drop (a - 0x20000000) m.ram)
unfolding bytes_at
bytes_ram m a n h = let t : leb 0x20000000 a ≡ true = le-leb _ _ h in rw t

pub bytes_flash : (m : Memory) (a n : ℕ) → a < 0x20000000 → 0x08000000 ≤ a → bytes_at m a n ≡ take n (drop (a - 0x08000000) m.flash)
unfolding bytes_at
bytes_flash m a n h above =
    let t : leb 0x20000000 a ≡ false = lt-leb _ _ h in
    let u : leb 0x08000000 a ≡ true = le-leb _ _ above in
    rw (t, u)

pub bytes_none : (m : Memory) (a n : ℕ) → a < 0x08000000 → bytes_at m a n ≡ []
unfolding bytes_at
bytes_none m a n below =
    let t : leb 0x20000000 a ≡ false = lt-leb _ _ (omega arith) in
    let u : leb 0x08000000 a ≡ false = lt-leb _ _ below in
    rw (t, u)

-- nothing is left of no bytes
pub nothing_dropped : (i : ℕ) → drop {A = ℕ} i [] ≡ []
nothing_dropped zero = refl
nothing_dropped (suc i) = refl

nothing_taken : (n : ℕ) → take {A = ℕ} n [] ≡ []
nothing_taken zero = refl
nothing_taken (suc n) = refl

-- a number by its first byte, which is 0 past the end
number_first : (xs : List ℕ) (i n : ℕ) → number_of (take (suc n) (drop i xs)) ≡ get_or xs i 0 + 256 * number_of (take n (drop (i + 1) xs))
number_first [] i n = rw (nothing_dropped i, nothing_dropped (i + 1), nothing_taken n) refl
number_first (x ∷ xs) zero n = refl
number_first (x ∷ xs) (suc i) n =
    let next : suc i + 1 ≡ suc (i + 1) = omega arith in
    rw next (number_first xs i n)

pub number_of_two : (xs : List ℕ) (i : ℕ) → number_of (take 2 (drop i xs)) ≡ get_or xs i 0 + 256 * get_or xs (i + 1) 0
number_of_two xs i =
    let a = number_first xs i 1 in
    let b = number_first xs (i + 1) 0 in
    omega (arith, a, b)

pub number_of_four : (xs : List ℕ) (i : ℕ) → number_of (take 4 (drop i xs)) ≡ get_or xs i 0 + 256 * get_or xs (i + 1) 0 + 65536 * (get_or xs (i + 2) 0 + 256 * get_or xs (i + 3) 0)
number_of_four xs i =
    let two : i + 1 + 1 ≡ i + 2 = omega arith in
    let three : i + 2 + 1 ≡ i + 3 = omega arith in
    let a = number_first xs i 3 in
    let b = rw two at (number_first xs (i + 1) 2) in
    let c = rw three at (number_first xs (i + 2) 1) in
    let d = number_first xs (i + 3) 0 in
    omega (arith, a, b, c, d)

pub number_of_one : (xs : List ℕ) (i : ℕ) → number_of (take 1 (drop i xs)) ≡ get_or xs i 0
number_of_one xs i = let a = number_first xs i 0 in omega (arith, a)

-- what stands below 256 at each place are bytes
pub all_bytes : (xs : List ℕ) → ((k : ℕ) → get_or xs k 0 < 256) → AreAllBytes xs
all_bytes [] small b h = absurd (omega (arith, h.1))
all_bytes (x ∷ xs) small b (zero, lt, same) = let e : x ≡ b = same in let h : x < 256 = small 0 in omega arith
all_bytes (x ∷ xs) small b (suc i, lt, same) = all_bytes xs (λ k. small (suc k)) b (i, omega arith, same)

-- the byte at an address is a number where there is one
some_get : (xs : List ℕ) (i : ℕ) → i < length xs → Some (get_or xs i 0) ≡ slice_get xs i
some_get [] i h = absurd (omega (arith, h))
some_get (x ∷ xs) zero h = refl
some_get (x ∷ xs) (suc i) h = some_get xs i (omega arith)

none_get : (xs : List ℕ) (i : ℕ) → length xs ≤ i → None ≡ slice_get xs i
none_get [] zero h = refl
none_get [] (suc i) h = refl
none_get (x ∷ xs) zero h = absurd (omega (arith, h))
none_get (x ∷ xs) (suc i) h = none_get xs i (omega arith)

some_here : (xs : List ℕ) (i : ℕ) → ltb i (length xs) ≡ true → Some (number_of (take 1 (drop i xs))) ≡ slice_get xs i
some_here xs i h = ap Some (number_of_one xs i) ∙ some_get xs i (ltb-true _ _ h)

none_here : (xs : List ℕ) (i : ℕ) → ltb i (length xs) ≡ false → None ≡ slice_get xs i
none_here xs i h = none_get xs i (ltb-false _ _ h)

pub byte_held : (m : Memory) (a : ℕ) → is_held m a ≡ true → Some (number_at m a 1) ≡ byte_at m a
unfolding bytes_at
byte_held m a h = go (leb 0x20000000 a) (leb 0x08000000 a) h
  where
    go : (b d : Bool) → cond b (ltb (a - 0x20000000) (length m.ram)) (cond d (ltb (a - 0x08000000) (length m.flash)) false) ≡ true
        → Some (number_of (cond b (take 1 (drop (a - 0x20000000) m.ram)) (cond d (take 1 (drop (a - 0x08000000) m.flash)) []))) ≡ cond b (slice_get m.ram (a - 0x20000000)) (cond d (slice_get m.flash (a - 0x08000000)) None)
    go true d h = some_here m.ram (a - 0x20000000) h
    go false true h = some_here m.flash (a - 0x08000000) h
    go false false h = absurd (false≢true h)

pub byte_missing : (m : Memory) (a : ℕ) → is_held m a ≡ false → None ≡ byte_at m a
byte_missing m a h = go (leb 0x20000000 a) (leb 0x08000000 a) h
  where
    go : (b d : Bool) → cond b (ltb (a - 0x20000000) (length m.ram)) (cond d (ltb (a - 0x08000000) (length m.flash)) false) ≡ false
        → None ≡ cond b (slice_get m.ram (a - 0x20000000)) (cond d (slice_get m.flash (a - 0x08000000)) None)
    go true d h = none_here m.ram (a - 0x20000000) h
    go false true h = none_here m.flash (a - 0x08000000) h
    go false false h = refl

-- bytes within a list leave its length
pub length-pasted : (xs : List ℕ) (at : ℕ) (bytes : List ℕ) → at + length bytes ≤ length xs → length (pasted xs at bytes) ≡ length xs
length-pasted xs at bytes h = simp (length-append, length-take, length-drop) (omega arith)

pub length_part : (xs : List ℕ) (i n : ℕ) → i + n ≤ length xs → length (take n (drop i xs)) ≡ n
length_part xs i n h = simp (length-take, length-drop) (omega arith)

-- of no bytes nothing
pub take_none : (xs : List ℕ) → take 0 xs ≡ []
take_none [] = refl
take_none (x ∷ xs) = refl

cond_nil : (a b : Bool) (xs ys : List ℕ) → xs ≡ [] → ys ≡ [] → cond a xs (cond b ys []) ≡ []
cond_nil true b xs ys e f = e
cond_nil false true xs ys e f = f
cond_nil false false xs ys e f = refl

pub bytes_zero : (m : Memory) (a n : ℕ) → n ≡ 0 → bytes_at m a n ≡ []
unfolding bytes_at
bytes_zero m a n e = rw e (cond_nil (leb 0x20000000 a) (leb 0x08000000 a) (take 0 (drop (a - 0x20000000) m.ram)) (take 0 (drop (a - 0x08000000) m.flash)) (take_none (drop (a - 0x20000000) m.ram)) (take_none (drop (a - 0x08000000) m.flash)))

-- within one list
pub paste_pasted : (xs : List ℕ) (i at n k : ℕ) → k ≡ n → i + n ≤ length xs → paste xs at (drop i xs) k ≡ pasted xs at (take n (drop i xs))
paste_pasted xs i at n k same fits =
    let l : length (take n (drop i xs)) ≡ n = length_part xs i n fits in
    rw (same, l)
