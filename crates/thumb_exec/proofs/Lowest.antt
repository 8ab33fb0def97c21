-- How many registers a mask has, and what is left of it without its lowest one.
use Rattle.std.proofs.Common.{◌≡◌, ◌≢◌, ℕ, zero, suc, ◌+◌, ◌-◌, ◌*◌, ◌/◌, ◌%◌, ◌^◌, ◌<◌, ◌≤◌, [], ◌∷◌, List, arith, refl, ap, sym, ◌∙◌}
use Rattle.std.specs.Prelude.{count_ones, bit_and}
use Rattle.std.specs.Int.Bits.{and_self}
use Rattle.std.proofs.lemmas.Nat.{ones_le_self, zero_from_ones, ones_cat, mod-pow-add, mod_below, pow_pos, pow_below, shr_split, and_block, and_mask}
use Rattle.std.proofs.Math.Nat.{mod_self}
use Rattle.std.proofs.lemmas.Nat.Bits.{bit_at-zero, bit_at_cat_low, bit_at_cat_high}
use Rattle.thumb_exec.specs.Effect.{words, ones, count, transfers}
use Rattle.thumb_exec.proofs.Transfers.{ones_none, ones_more, ones_all, words_all, words_clear, words_set, words_done}

bit_counted : (b : ℕ) → b < 2 → count_ones b ≡ b
bit_counted zero h = let low = ones_le_self 0 in omega (arith, low)
bit_counted (suc zero) h =
    let low = ones_le_self 1 in
    let some : count_ones 1 ≢ 0 = λ e. let f = zero_from_ones 1 e in let g : ⊥ = omega (arith, f) in g in
    omega (arith, low, some)
bit_counted (suc (suc b)) h = absurd (let g : ⊥ = omega (arith, h) in g)

-- one bit more
bit_more : (mask k : ℕ) → mask % 2 ^ (k + 1) ≡ mask / 2 ^ k % 2 * 2 ^ k + mask % 2 ^ k
bit_more mask k = let turned : k + 1 ≡ 1 + k = omega arith in ap (λ (j : ℕ). mask % 2 ^ j) turned ∙ mod-pow-add mask 1 k

-- counting bit by bit
ones_low : (mask k : ℕ) → ones mask k ≡ count_ones (mask % 2 ^ k)
ones_low mask zero =
    let none : mask % 2 ^ 0 ≡ 0 = omega arith in
    ones_none mask ∙ sym (ap count_ones none ∙ bit_counted 0 (omega arith))
ones_low mask (suc k) =
    let next : k + 1 ≡ suc k = omega arith in
    let parts : count_ones (mask % 2 ^ (k + 1)) ≡ count_ones (mask / 2 ^ k % 2) + count_ones (mask % 2 ^ k) = ap count_ones (bit_more mask k) ∙ ones_cat k (mask / 2 ^ k % 2) (mask % 2 ^ k) (mod_below mask (2 ^ k) (pow_pos k)) in
    let one = bit_counted (mask / 2 ^ k % 2) (omega arith) in
    let more = ones_more mask k in
    let fewer = ones_low mask k in
    rw (sym next) (omega (arith, parts, one, more, fewer))

pub ones_counted : (mask : ℕ) → mask < 65536 → count_ones mask ≡ count mask
ones_counted mask h =
    let whole : mask % 2 ^ 16 ≡ mask = omega (arith, h) in
    ap count_ones (sym whole) ∙ sym (ones_low mask 16) ∙ ones_all mask 16 refl

-- a mask whose k lowest bits are not set
low_none : (mask k : ℕ) → ((i : ℕ) → i < k → mask / 2 ^ i % 2 ≡ 0) → mask % 2 ^ k ≡ 0
low_none mask zero none = omega arith
low_none mask (suc k) none =
    let next : k + 1 ≡ suc k = omega arith in
    let fewer = low_none mask k (λ i h. none i (omega (arith, h))) in
    rw (sym next) (bit_more mask k ∙ rw (none k (omega arith), fewer) (omega arith))

-- a mask in two parts; the lower one is its lowest bit
lowest_part : (mask k : ℕ) → mask / 2 ^ k % 2 ≡ 1 → mask % 2 ^ k ≡ 0 → mask ≡ mask / 2 ^ (k + 1) * 2 ^ (k + 1) + 2 ^ k
lowest_part mask k one none =
    let split = shr_split mask (k + 1) in
    let low : mask % 2 ^ (k + 1) ≡ 2 ^ k = bit_more mask k ∙ rw (one, none) (omega arith) in
    omega (arith, split, low)

-- `mask & (mask - 1)` is the upper part
without_part : (a k : ℕ) → bit_and (a * 2 ^ (k + 1) + 2 ^ k) (a * 2 ^ (k + 1) + 2 ^ k - 1) ≡ a * 2 ^ (k + 1) + 0
without_part a k =
    let some = pow_pos k in
    let below : 2 ^ k < 2 ^ (k + 1) = pow_below k (k + 1) (omega arith) in
    let less : a * 2 ^ (k + 1) + 2 ^ k - 1 ≡ a * 2 ^ (k + 1) + (2 ^ k - 1) = omega (arith, some) in
    let nothing : bit_and (2 ^ k) (2 ^ k - 1) ≡ 0 = and_mask (2 ^ k) k ∙ mod_self (2 ^ k) in
    rw less (and_block (k + 1) a a (2 ^ k) (2 ^ k - 1) below (omega (arith, below)) ∙ rw (and_self a, nothing) refl)

without_lowest : (mask k : ℕ) → mask / 2 ^ k % 2 ≡ 1 → mask % 2 ^ k ≡ 0 → bit_and mask (mask - 1) ≡ mask / 2 ^ (k + 1) * 2 ^ (k + 1) + 0
without_lowest mask k one none = ap (λ (n : ℕ). bit_and n (n - 1)) (lowest_part mask k one none) ∙ without_part (mask / 2 ^ (k + 1)) k

-- bits that are not set do not count
words_skip : (mask at k : ℕ) → k ≤ 16 → ((i : ℕ) → i < k → mask / 2 ^ i % 2 ≡ 0) → transfers mask at ≡ words mask k (16 - k) at
words_skip mask at zero h none = sym (words_all mask at)
words_skip mask at (suc k) h none =
    let next : k + 1 ≡ suc k = omega arith in
    let clear : mask / 2 ^ k % 2 ≢ 1 = λ e. let zero_here = none k (omega arith) in let f : ⊥ = omega (arith, e, zero_here) in f in
    words_skip mask at k (omega (arith, h)) (λ i l. none i (omega (arith, l)))
    ∙ words_clear mask k at (omega (arith, h)) clear
    ∙ ap (λ (j : ℕ). words mask j (16 - j) at) next

-- only the bits from k on count
words_same : (a b n k at : ℕ) → ((i : ℕ) → k ≤ i → a / 2 ^ i % 2 ≡ b / 2 ^ i % 2) → words a k n at ≡ words b k n at
unfolding words
words_same a b zero k at h = refl
words_same a b (suc n) k at h =
    let later : (i : ℕ) → k + 1 ≤ i → a / 2 ^ i % 2 ≡ b / 2 ^ i % 2 = λ i l. h i (omega (arith, l)) in
    rw (h k (omega arith), words_same a b n (k + 1) ((at + 4) % 4294967296) later, words_same a b n (k + 1) at later) refl

words_without : (mask rest at k : ℕ) → k < 16 → mask / 2 ^ k % 2 ≡ 1 → ((i : ℕ) → i < k → mask / 2 ^ i % 2 ≡ 0) → ((i : ℕ) → i < k + 1 → rest / 2 ^ i % 2 ≡ 0) → ((i : ℕ) → k + 1 ≤ i → mask / 2 ^ i % 2 ≡ rest / 2 ^ i % 2) → transfers mask at ≡ (k, at) ∷ transfers rest ((at + 4) % 4294967296)
words_without mask rest at k h one none cleared same =
    words_skip mask at k (omega (arith, h)) none
    ∙ words_set mask k at h one
    ∙ ap (λ (ws : List (ℕ × ℕ)). (k, at) ∷ ws) (words_same mask rest (16 - (k + 1)) (k + 1) ((at + 4) % 4294967296) same ∙ sym (words_skip rest ((at + 4) % 4294967296) (k + 1) (omega (arith, h)) cleared))

-- the lowest register comes first, and then the others
pub lowest_first : (mask k at : ℕ) → k < 16 → mask / 2 ^ k % 2 ≡ 1 → ((i : ℕ) → i < k → mask / 2 ^ i % 2 ≡ 0) → transfers mask at ≡ (k, at) ∷ transfers (bit_and mask (mask - 1)) ((at + 4) % 4294967296)
lowest_first mask k at h one none =
    let clear = low_none mask k none in
    let a = mask / 2 ^ (k + 1) in
    let rest = without_lowest mask k one clear in
    let below : 2 ^ k < 2 ^ (k + 1) = pow_below k (k + 1) (omega arith) in
    words_without mask (bit_and mask (mask - 1)) at k h one none
    (λ i l. rw rest (bit_at_cat_low a (k + 1) 0 i l ∙ bit_at-zero i))
    (λ i l. ap (λ (n : ℕ). n / 2 ^ i % 2) (lowest_part mask k one clear) ∙ bit_at_cat_high a (k + 1) (2 ^ k) i below l ∙ sym (rw rest (bit_at_cat_high a (k + 1) 0 i (pow_pos (k + 1)) l)))

pub transfers_none : (mask at : ℕ) → mask ≡ 0 → transfers mask at ≡ []
transfers_none mask at e = words_skip mask at 16 (omega arith) (λ i h. ap (λ (n : ℕ). n / 2 ^ i % 2) e ∙ bit_at-zero i) ∙ words_done mask 16 at (omega arith)
