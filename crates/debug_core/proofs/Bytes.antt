-- Bytes of a memory, one after the other.
use Rattle.std.proofs.Common.{◌≡◌, ◌∙◌, ℕ, zero, suc, ◌+◌, ◌-◌, ◌≤◌, ◌<◌, ◌&&◌, add-one, Bool, true, false, cond, leb, ltb, List, [], ◌∷◌, ◌++◌, length, map, Option, Some, None, refl, sym, ap, arith}
use Rattle.std.specs.Prelude.{slice_get, unwrap_or}
use Rattle.std.specs.List.{range_with_len, list_all}
use Rattle.std.proofs.lemmas.Bool.{le-leb, lt-ltb, ltb-true}
use Rattle.std.proofs.lemmas.List.FromFn.{map-range_with_len_more}
use Rattle.std.proofs.lemmas.Option.{slice_get_past, slice_get_within, slice_get-get_or}
use Rattle.mem_banks.specs.Memory.{Memory, byte_at, is_held}
use Rattle.board_run.specs.MemoryText.{byte_of}
use Rattle.debug_core.specs.declared.answer.Answer.{Answer}
use Rattle.debug_core.specs.declared.answer.Answer.TheVariants.{Absent, Bytes}
use Rattle.debug_core.specs.Answers.{bytes_from}

-- ---- at one address

inside : (xs : List ℕ) (i b : ℕ) → Some b ≡ slice_get xs i → ltb i (length xs) ≡ true
inside xs i b e = lt-ltb i (length xs) (slice_get_within xs i b (sym e))

pub no_byte : (b : ℕ) → ◌≡◌ {A = Option ℕ} None (Some b) → ⊥
no_byte b e = cc

outside : (xs : List ℕ) (i : ℕ) → None ≡ slice_get xs i → ltb i (length xs) ≡ false
outside xs i e = by (ltb i (length xs)) refl
  where
    by : (b : Bool) → ltb i (length xs) ≡ b → ltb i (length xs) ≡ false
    by false is = is
    by true is = let lt : i < length xs = ltb-true i (length xs) is in absurd (no_byte _ (e ∙ slice_get-get_or xs i 0 lt))

pub there : (m : Memory) (a b : ℕ) → Some b ≡ byte_at m a → is_held m a ≡ true
there m a b e = by (leb 0x20000000 a) (leb 0x08000000 a) e
  where
    by : (ram flash : Bool) → Some b ≡ cond ram (slice_get m.ram (a - 0x20000000)) (cond flash (slice_get m.flash (a - 0x08000000)) None) →
        cond ram (ltb (a - 0x20000000) (length m.ram)) (cond flash (ltb (a - 0x08000000) (length m.flash)) false) ≡ true
    by true flash e = inside m.ram (a - 0x20000000) b e
    by false true e = inside m.flash (a - 0x08000000) b e
    by false false e = absurd (no_byte b (sym e))

pub missing : (m : Memory) (a : ℕ) → None ≡ byte_at m a → is_held m a ≡ false
missing m a e = by (leb 0x20000000 a) (leb 0x08000000 a) e
  where
    by : (ram flash : Bool) → None ≡ cond ram (slice_get m.ram (a - 0x20000000)) (cond flash (slice_get m.flash (a - 0x08000000)) None) →
        cond ram (ltb (a - 0x20000000) (length m.ram)) (cond flash (ltb (a - 0x08000000) (length m.flash)) false) ≡ false
    by true flash e = outside m.ram (a - 0x20000000) e
    by false true e = outside m.flash (a - 0x08000000) e
    by false false e = refl

-- none lies past the address space
pub beyond : (m : Memory) (a : ℕ) → length m.ram ≤ 0x20000000 → 4294967296 ≤ a → None ≡ byte_at m a
beyond m a below past =
    sym (ap (λ (b : Bool). cond b (slice_get m.ram (a - 0x20000000)) (cond (leb 0x08000000 a) (slice_get m.flash (a - 0x08000000)) None)) (le-leb 0x20000000 a (omega arith))
    ∙ slice_get_past m.ram (a - 0x20000000) (omega arith))

-- ---- at some addresses on end

all_more : (p : ℕ → Bool) (n a : ℕ) → list_all p (range_with_len a n) ≡ true → p (a + n) ≡ true → list_all p (range_with_len a (suc n)) ≡ true
all_more p zero a all here = let same : a + 0 ≡ a = omega arith in ap (λ k. p k && true) (sym same) ∙ ap (λ (b : Bool). b && true) here
all_more p (suc n) a all here =
    let first = both (p a) (list_all p (range_with_len (a + 1) n)) all in
    let same : a + suc n ≡ a + 1 + n = omega arith in
    ap (λ (b : Bool). b && list_all p (range_with_len (a + 1) (suc n))) first.0 ∙ all_more p n (a + 1) first.1 (ap p (sym same) ∙ here)
  where
    both : (a b : Bool) → (a && b) ≡ true → (a ≡ true) × (b ≡ true)
    both true b e = (refl, e)
    both false b e = absurd (cc)

pub not_all : (p : ℕ → Bool) (n a k : ℕ) → k < n → p (a + k) ≡ false → list_all p (range_with_len a n) ≡ false
not_all p zero a k lt here = absurd (omega arith)
not_all p (suc n) a zero lt here =
    let same : a + 0 ≡ a = omega arith in
    ap (λ (b : Bool). b && list_all p (range_with_len (a + 1) n)) (ap p (sym same) ∙ here)
not_all p (suc n) a (suc k) lt here =
    let same : a + suc k ≡ a + 1 + k = omega arith in
    ap (λ (b : Bool). p a && b) (not_all p n (a + 1) k (omega arith) (ap p (sym same) ∙ here)) ∙ neither (p a)
  where
    neither : (b : Bool) → (b && false) ≡ false
    neither true = refl
    neither false = refl

-- the bytes from an address on, as far as they were read, are there
pub record AreRead (m : Memory) (at n : ℕ) (bytes : List ℕ) : Type 0 where
  pub all : list_all (is_held m) (range_with_len at n) ≡ true
  pub is : bytes ≡ map (byte_of m) (range_with_len at n)

pub one_read : (m : Memory) (at n byte : ℕ) (bytes : List ℕ) → AreRead m at n bytes → Some byte ≡ byte_at m (at + n) → AreRead m at (n + 1) (bytes ++ byte ∷ [])
one_read m at n byte bytes h e =
    rw add-one record {
      all = all_more (is_held m) n at h.all (there m (at + n) byte e);
      is = ap (λ (xs : List ℕ). xs ++ byte ∷ []) h.is ∙ ap (λ b. map (byte_of m) (range_with_len at n) ++ b ∷ []) (ap (λ o. unwrap_or o 0) e) ∙ sym (rw add-one at (map-range_with_len_more (byte_of m) at n (at + n) refl));
    }

pub all_read : (m : Memory) (at n : ℕ) (bytes : List ℕ) → AreRead m at n bytes → ◌≡◌ {A = Answer} (Bytes at (record { items = bytes })) (bytes_from m at n)
all_read m at n bytes h =
    ap (λ (xs : List ℕ). Bytes at (record { items = xs })) h.is
    ∙ sym (ap (λ (b : Bool). cond b (Bytes at (record { items = map (byte_of m) (range_with_len at n) })) Absent) h.all)

pub none_read : (m : Memory) (at n k : ℕ) → k < n → None ≡ byte_at m (at + k) → ◌≡◌ {A = Answer} Absent (bytes_from m at n)
none_read m at n k lt e =
    sym (ap (λ (b : Bool). cond b (Bytes at (record { items = map (byte_of m) (range_with_len at n) })) Absent) (not_all (is_held m) n at k lt (missing m (at + k) e)))
