-- Codes of two halfwords, in both directions.
use Rattle.std.proofs.Common.{bit_and, ◌≡◌, ℕ, suc, ◌+◌, ◌-◌, ◌*◌, ◌/◌, ◌%◌, ◌<◌, true, false, not, ◌||◌, nat_eq, Some, None, ℤ, pos, negsuc, arith, refl, ap, ◌∙◌, sym, subst}
use Rattle.std.proofs.lemmas.Bool.{eq-eqb}
use Rattle.std.proofs.lemmas.Bool.Decides.{nat_tests}
use Rattle.std.proofs.lemmas.Nat.{and_block, and_mask, shr_split}
use Rattle.std.proofs.lemmas.Nat.Bits.{and_high, and_pow}
use Rattle.thumb_insn.specs.Table.{Row, wide_rows, wide_of, long_offset, branch_bit, all_apart}
use Rattle.thumb_insn.specs.Fields.{field, double, signed_field, any_reg, only_if}
use Rattle.thumb_insn.specs.Range.{insn_of}
use Rattle.thumb_insn.specs.declared.Reg.{Reg}
use Rattle.thumb_insn.specs.declared.Barrier.TheVariants as barrier
use Rattle.thumb_insn.specs.declared.Insn.{Insn}
use Rattle.thumb_insn.specs.declared.Insn.TheVariants.{Bl, Fence, Mrs, Msr}
use Rattle.thumb_insn.specs.declared.Code.TheVariants.{Two}
use Rattle.thumb_insn.proofs.Apart.{nth, found}
use Rattle.thumb_insn.proofs.InRange.{AllWide, any_wide, inner, only}
use Rattle.thumb_encode.specs.Codes.{fit_of, code_of, half_offset, outside, is_odd, long_first, long_second}
use Rattle.thumb_encode.proofs.Back.{same_reg, same, legal_if}

wide_apart : all_apart wide_rows ≡ true
unfolding wide_rows
wide_apart = refl

-- row k decides for each code that has its pattern
by_wide : (k : ℕ) (r : Row) (c : ℕ) → nth wide_rows k ≡ Some r → bit_and c r.mask ≡ r.value → wide_of c ≡ r.fields c
unfolding wide_of
by_wide k r c e m = found wide_rows k r c wide_apart e (eq-eqb _ _ m)

-- What the masks keep.

mask_d000 : (s : ℕ) → bit_and s 53248 ≡ (s / 16384 % 4) * 16384 + (s % 16384 / 4096 % 2) * 4096
mask_d000 s = ap (λ (x : ℕ). bit_and x 53248) (sym (shr_split s 14)) ∙ and_block 14 (s / 16384) 3 (s % 16384) 4096 (omega arith) (omega arith) ∙ ap (λ (x : ℕ). x * 16384 + bit_and (s % 16384) 4096) (and_mask (s / 16384) 2) ∙ ap (λ (x : ℕ). (s / 16384 % 4) * 16384 + x) (and_pow (s % 16384) 12)

mask_bl : (f s : ℕ) → s < 65536 → bit_and (f * 65536 + s) 4160802816 ≡ ((f / 2048 % 32) * 2048) * 65536 + ((s / 16384 % 4) * 16384 + (s % 16384 / 4096 % 2) * 4096)
mask_bl f s h = and_block 16 f 63488 s 53248 h (omega arith) ∙ ap (λ (x : ℕ). x * 65536 + bit_and s 53248) (and_high f 5 11) ∙ ap (λ (x : ℕ). ((f / 2048 % 32) * 2048) * 65536 + x) (mask_d000 s)

mask_f0ff : (s : ℕ) → bit_and s 61695 ≡ (s / 4096 % 16) * 4096 + s % 4096 % 256
mask_f0ff s = ap (λ (x : ℕ). bit_and x 61695) (sym (shr_split s 12)) ∙ and_block 12 (s / 4096) 15 (s % 4096) 255 (omega arith) (omega arith) ∙ ap (λ (x : ℕ). x * 4096 + bit_and (s % 4096) 255) (and_mask (s / 4096) 4) ∙ ap (λ (x : ℕ). (s / 4096 % 16) * 4096 + x) (and_mask (s % 4096) 8)

mask_mrs : (f s : ℕ) → s < 65536 → bit_and (f * 65536 + s) 4294963455 ≡ (f % 65536) * 65536 + ((s / 4096 % 16) * 4096 + s % 4096 % 256)
mask_mrs f s h = and_block 16 f 65535 s 61695 h (omega arith) ∙ ap (λ (x : ℕ). x * 65536 + bit_and s 61695) (and_mask f 16) ∙ ap (λ (x : ℕ). (f % 65536) * 65536 + x) (mask_f0ff s)

mask_msr : (f s : ℕ) → s < 65536 → bit_and (f * 65536 + s) 4293984255 ≡ ((f / 16 % 4096) * 16) * 65536 + s % 65536
mask_msr f s h = and_block 16 f 65520 s 65535 h (omega arith) ∙ ap (λ (x : ℕ). x * 65536 + bit_and s 65535) (and_high f 12 4) ∙ ap (λ (x : ℕ). ((f / 16 % 4096) * 16) * 65536 + x) (and_mask s 16)

mask_fence : (c : ℕ) → bit_and c 4294967280 ≡ (c / 16 % 268435456) * 16
mask_fence c = and_high c 28 4

-- a code, from its halves
halves : (c m : ℕ) → bit_and c m ≡ bit_and (c / 65536 * 65536 + c % 65536) m
halves c m = ap (λ (x : ℕ). bit_and x m) (sym (shr_split c 16))

second_small : (c : ℕ) → c % 65536 < 65536
second_small c = omega arith

-- The long branch.

row_bl : (f s : ℕ) → f < 65536 → s < 65536 → f / 2048 ≡ 30 → s / 16384 ≡ 3 → s / 4096 % 2 ≡ 1 → wide_of (f * 65536 + s) ≡ Some (Bl (long_offset (f * 65536 + s)))
unfolding wide_rows
row_bl f s hf hs e g k = let m = mask_bl f s hs in by_wide 0 _ (f * 65536 + s) refl (omega arith)

bit_back : (i s : ℕ) → i < 2 → s < 2 → branch_bit (branch_bit i s) s ≡ i
bit_back i s h k = grind (arith, nat_tests)

bit_small : (i s : ℕ) → branch_bit i s < 2
bit_small i s = grind (arith, nat_tests)

parts : (x s j k : ℕ) → x < 16777216 → s ≡ x / 8388608 → j < 2 → k < 2 →
    (field ((61440 + s * 1024 + x / 2048 % 1024) * 65536 + (53248 + j * 8192 + k * 2048 + x % 2048)) 26 1 ≡ s) ×
    (field ((61440 + s * 1024 + x / 2048 % 1024) * 65536 + (53248 + j * 8192 + k * 2048 + x % 2048)) 13 1 ≡ j) ×
    (field ((61440 + s * 1024 + x / 2048 % 1024) * 65536 + (53248 + j * 8192 + k * 2048 + x % 2048)) 11 1 ≡ k) ×
    (field ((61440 + s * 1024 + x / 2048 % 1024) * 65536 + (53248 + j * 8192 + k * 2048 + x % 2048)) 16 10 ≡ x / 2048 % 1024) ×
    (field ((61440 + s * 1024 + x / 2048 % 1024) * 65536 + (53248 + j * 8192 + k * 2048 + x % 2048)) 0 11 ≡ x % 2048)
parts x s j k h e p q = (omega arith, omega arith, omega arith, omega arith, omega arith)

whole : (x : ℕ) → x < 16777216 → x / 8388608 * 8388608 + x / 4194304 % 2 * 4194304 + x / 2097152 % 2 * 2097152 + x / 2048 % 1024 * 2048 + x % 2048 ≡ x
whole x h = omega arith

offset_back : (x : ℕ) → x < 16777216 → long_offset (long_first x * 65536 + long_second x) ≡ double (signed_field 24 x)
offset_back x h =
    let s : x / 8388608 < 2 = omega arith in
    let p = parts x (x / 8388608) (branch_bit (x / 4194304 % 2) (x / 8388608)) (branch_bit (x / 2097152 % 2) (x / 8388608)) h refl (bit_small _ _) (bit_small _ _) in
    rw (p.0, p.1, p.2, p.3, p.4, bit_back (x / 4194304 % 2) (x / 8388608) (omega arith) s, bit_back (x / 2097152 % 2) (x / 8388608) (omega arith) s, whole x h) refl

pos_half24 : (n : ℕ) → n < 16777215 → n % 2 ≡ 0 → double (signed_field 24 (n / 2 % 16777216)) ≡ pos n
pos_half24 n h e = grind (arith, nat_tests)

neg_half24 : (n : ℕ) → n < 16777216 → n % 2 ≡ 1 → double (signed_field 24 ((4294967296 - suc n) / 2 % 16777216)) ≡ negsuc n
neg_half24 n h e = grind (arith, nat_tests)

half24_back : (z : ℤ) → (outside z 16777216 16777214 ≡ false) × (is_odd z ≡ false) → double (signed_field 24 (half_offset z 24)) ≡ z
half24_back (pos n) w = pos_half24 n (let t = w.0 in grind (arith, nat_tests)) (let t = w.1 in grind (arith, nat_tests))
half24_back (negsuc n) w = neg_half24 n (let t = w.0 in grind (arith, nat_tests)) (let t = w.1 in grind (arith, nat_tests))

pub back_bl : (z : ℤ) → (outside z 16777216 16777214 ≡ false) × (is_odd z ≡ false) → insn_of (code_of (Bl z)) ≡ Some (Bl z)
back_bl z w =
    let x : half_offset z 24 < 16777216 = omega arith in
    let a = bit_small (half_offset z 24 / 4194304 % 2) (half_offset z 24 / 8388608) in
    let b = bit_small (half_offset z 24 / 2097152 % 2) (half_offset z 24 / 8388608) in
    row_bl (long_first (half_offset z 24)) (long_second (half_offset z 24)) (omega arith) (omega arith) (omega arith) (omega arith) (omega arith) ∙ ap (λ (k : ℤ). Some (Bl k)) (offset_back (half_offset z 24) x ∙ half24_back z w)

-- The other instructions of two halfwords: the instruction of their code.

row_dsb : (c : ℕ) → c / 16 ≡ 255588596 → wide_of c ≡ Some (Fence barrier.Dsb (field c 0 4))
unfolding wide_rows
row_dsb c e = let m = mask_fence c in by_wide 1 _ c refl (omega arith)

row_dmb : (c : ℕ) → c / 16 ≡ 255588597 → wide_of c ≡ Some (Fence barrier.Dmb (field c 0 4))
unfolding wide_rows
row_dmb c e = let m = mask_fence c in by_wide 2 _ c refl (omega arith)

row_isb : (c : ℕ) → c / 16 ≡ 255588598 → wide_of c ≡ Some (Fence barrier.Isb (field c 0 4))
unfolding wide_rows
row_isb c e = let m = mask_fence c in by_wide 3 _ c refl (omega arith)

row_mrs : (s : ℕ) → s < 65536 → s / 4096 ≡ 8 → s % 256 ≡ 0 → wide_of (62447 * 65536 + s) ≡ only_if (not (nat_eq (field (62447 * 65536 + s) 8 4) 13 || nat_eq (field (62447 * 65536 + s) 8 4) 15)) (Mrs (any_reg (62447 * 65536 + s) 8))
unfolding wide_rows
row_mrs s h e z = let m = mask_mrs 62447 s h in by_wide 4 _ (62447 * 65536 + s) refl (m ∙ omega arith)

row_msr : (f : ℕ) → f / 16 ≡ 3896 → wide_of (f * 65536 + 34816) ≡ only_if (not (nat_eq (field (f * 65536 + 34816) 16 4) 13 || nat_eq (field (f * 65536 + 34816) 16 4) 15)) (Msr (any_reg (f * 65536 + 34816) 16))
unfolding wide_rows
row_msr f e = let m = mask_msr f 34816 (omega arith) in by_wide 5 _ (f * 65536 + 34816) refl (omega arith)

pub back_dsb : (i : ℕ) → fit_of (Fence barrier.Dsb i) ≡ None → insn_of (code_of (Fence barrier.Dsb i)) ≡ Some (Fence barrier.Dsb i)
back_dsb i e = let b : i < 16 = grind (arith, nat_tests) in row_dsb (62399 * 65536 + (36672 + i)) (omega arith) ∙ ap (λ (x : ℕ). Some (Fence barrier.Dsb x)) (same i (field (62399 * 65536 + (36672 + i)) 0 4) (omega arith))

pub back_dmb : (i : ℕ) → fit_of (Fence barrier.Dmb i) ≡ None → insn_of (code_of (Fence barrier.Dmb i)) ≡ Some (Fence barrier.Dmb i)
back_dmb i e = let b : i < 16 = grind (arith, nat_tests) in row_dmb (62399 * 65536 + (36688 + i)) (omega arith) ∙ ap (λ (x : ℕ). Some (Fence barrier.Dmb x)) (same i (field (62399 * 65536 + (36688 + i)) 0 4) (omega arith))

pub back_isb : (i : ℕ) → fit_of (Fence barrier.Isb i) ≡ None → insn_of (code_of (Fence barrier.Isb i)) ≡ Some (Fence barrier.Isb i)
back_isb i e = let b : i < 16 = grind (arith, nat_tests) in row_isb (62399 * 65536 + (36704 + i)) (omega arith) ∙ ap (λ (x : ℕ). Some (Fence barrier.Isb x)) (same i (field (62399 * 65536 + (36704 + i)) 0 4) (omega arith))

pub back_mrs : (d : Reg) → fit_of (Mrs d) ≡ None → insn_of (code_of (Mrs d)) ≡ Some (Mrs d)
back_mrs d e =
    let b : d.number < 16 = grind (arith, nat_tests) in
    let t : field (62447 * 65536 + (32768 + d.number * 256)) 8 4 ≡ d.number = omega arith in
    row_mrs (32768 + d.number * 256) (omega arith) (omega arith) (omega arith) ∙ legal_if (grind (arith, nat_tests)) (ap Mrs (same_reg d (field (62447 * 65536 + (32768 + d.number * 256)) 8 4) t))

pub back_msr : (n : Reg) → fit_of (Msr n) ≡ None → insn_of (code_of (Msr n)) ≡ Some (Msr n)
back_msr n e =
    let b : n.number < 16 = grind (arith, nat_tests) in
    let t : field ((62336 + n.number) * 65536 + 34816) 16 4 ≡ n.number = omega arith in
    row_msr (62336 + n.number) (omega arith) ∙ legal_if (grind (arith, nat_tests)) (ap Msr (same_reg n (field ((62336 + n.number) * 65536 + 34816) 16 4) t))

-- The code of the instruction that two halfwords code.

abbrev pub CodesTwo : ℕ → Insn → Type 0
CodesTwo c i = c < 4294967296 → (fit_of i ≡ None) × (code_of i ≡ Two (c / 65536) (c % 65536)) × (c / 65536 / 2048 ≡ 30)

two : (a b x y : ℕ) → a ≡ x → b ≡ y → Two a b ≡ Two x y
two a b x y e f = ap (λ (k : ℕ). Two k b) e ∙ ap (λ (k : ℕ). Two x k) f

plain_two : {c : ℕ} {i j : Insn} → Some i ≡ Some j → CodesTwo c i → CodesTwo c j
plain_two {c} e k = let f = inner e in let P : Insn → Type 0 = CodesTwo c in subst P f k

half_again : (x : ℕ) → x < 16777216 → half_offset (double (signed_field 24 x)) 24 ≡ x
half_again x h = grind (arith, nat_tests)

fit24 : (x : ℕ) → x < 16777216 → fit_of (Bl (double (signed_field 24 x))) ≡ None
fit24 x h = grind (arith, nat_tests)

-- the parts of a half offset
sum_parts : (x s i j p q : ℕ) → x ≡ s * 8388608 + i * 4194304 + j * 2097152 + p * 2048 + q → s < 2 → i < 2 → j < 2 → p < 1024 → q < 2048 →
    (x / 8388608 ≡ s) × (x / 4194304 % 2 ≡ i) × (x / 2097152 % 2 ≡ j) × (x / 2048 % 1024 ≡ p) × (x % 2048 ≡ q)
sum_parts x s i j p q e hs hi hj hp hq = (omega arith, omega arith, omega arith, omega arith, omega arith)

second_of : (x s i j q : ℕ) → x / 8388608 ≡ s → x / 4194304 % 2 ≡ i → x / 2097152 % 2 ≡ j → x % 2048 ≡ q → long_second x ≡ 53248 + branch_bit i s * 8192 + branch_bit j s * 2048 + q
second_of x s i j q a b d e = rw (a, b, d, e) refl

-- both halfwords, by the bits S, J1, J2 and the fields
long_again : (x s j k p q f t : ℕ) → s < 2 → j < 2 → k < 2 → p < 1024 → q < 2048 →
    x ≡ s * 8388608 + branch_bit j s * 4194304 + branch_bit k s * 2097152 + p * 2048 + q → f ≡ 61440 + s * 1024 + p → t ≡ 53248 + j * 8192 + k * 2048 + q →
    (x < 16777216) × (long_first x ≡ f) × (long_second x ≡ t)
long_again x s j k p q f t hs hj hk hp hq e g h =
    let a = bit_small j s in
    let b = bit_small k s in
    let w = sum_parts x s (branch_bit j s) (branch_bit k s) p q e hs a b hp hq in
    (omega arith, rw (w.0, w.3) (sym g), second_of x s (branch_bit j s) (branch_bit k s) q w.0 w.1 w.2 w.4 ∙ rw (bit_back j s hj hs, bit_back k s hk hs) (sym h))

law_bl : (c : ℕ) → bit_and c 4160802816 ≡ 4026585088 → CodesTwo c (Bl (long_offset c))
law_bl c m f =
    let q = halves c 4160802816 ∙ mask_bl (c / 65536) (c % 65536) (second_small c) in
    let a : c / 65536 / 2048 ≡ 30 = omega arith in
    let w = long_again _ (field c 26 1) (field c 13 1) (field c 11 1) (field c 16 10) (field c 0 11) (c / 65536) (c % 65536) (omega arith) (omega arith) (omega arith) (omega arith) (omega arith) refl (omega arith) (omega arith) in
    let h = half_again _ w.0 in
    (fit24 _ w.0, two _ _ _ _ (ap long_first h ∙ w.1) (ap long_second h ∙ w.2), a)

law_dsb : (c : ℕ) → bit_and c 4294967280 ≡ 4089417536 → CodesTwo c (Fence barrier.Dsb (field c 0 4))
law_dsb c m f = let q = mask_fence c in (grind (arith, nat_tests), two _ _ _ _ (omega arith) (omega arith), omega arith)

law_dmb : (c : ℕ) → bit_and c 4294967280 ≡ 4089417552 → CodesTwo c (Fence barrier.Dmb (field c 0 4))
law_dmb c m f = let q = mask_fence c in (grind (arith, nat_tests), two _ _ _ _ (omega arith) (omega arith), omega arith)

law_isb : (c : ℕ) → bit_and c 4294967280 ≡ 4089417568 → CodesTwo c (Fence barrier.Isb (field c 0 4))
law_isb c m f = let q = mask_fence c in (grind (arith, nat_tests), two _ _ _ _ (omega arith) (omega arith), omega arith)

law_mrs : (c : ℕ) → bit_and c 4294963455 ≡ 4092559360 → not (nat_eq (field c 8 4) 13 || nat_eq (field c 8 4) 15) ≡ true → CodesTwo c (Mrs (any_reg c 8))
law_mrs c m t f =
    let q = halves c 4294963455 ∙ mask_mrs (c / 65536) (c % 65536) (second_small c) in
    (grind (arith, nat_tests), two _ _ _ _ (omega arith) (omega arith), omega arith)

law_msr : (c : ℕ) → bit_and c 4293984255 ≡ 4085286912 → not (nat_eq (field c 16 4) 13 || nat_eq (field c 16 4) 15) ≡ true → CodesTwo c (Msr (any_reg c 16))
law_msr c m t f =
    let q = halves c 4293984255 ∙ mask_msr (c / 65536) (c % 65536) (second_small c) in
    (grind (arith, nat_tests), two _ _ _ _ (omega arith) (omega arith), omega arith)

all_wide : AllWide CodesTwo wide_rows
unfolding wide_rows
all_wide = ((λ c m i e. plain_two e (law_bl c m)), ((λ c m i e. plain_two e (law_dsb c m)), ((λ c m i e. plain_two e (law_dmb c m)), ((λ c m i e. plain_two e (law_isb c m)), ((λ c m i e. let o = only e in plain_two (ap Some o.1) (law_mrs c m o.0)), ((λ c m i e. let o = only e in plain_two (ap Some o.1) (law_msr c m o.0)), tt))))))

pub two_again : (first second : ℕ) (i : Insn) → first < 65536 → second < 65536 → wide_of (first * 65536 + second) ≡ Some i → (fit_of i ≡ None) × (code_of i ≡ Two first second) × (first / 2048 ≡ 30)
unfolding wide_of
two_again first second i f s e =
    let w = any_wide CodesTwo wide_rows all_wide (first * 65536 + second) i e (omega arith) in
    let g : (first * 65536 + second) / 65536 ≡ first = omega arith in
    let h : (first * 65536 + second) % 65536 ≡ second = omega arith in
    (w.0, w.1 ∙ two _ _ _ _ g h, sym (ap (λ (k : ℕ). k / 2048) g) ∙ w.2)
