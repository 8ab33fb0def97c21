-- A bank in the middle of the others in the flash, or in the RAM.
use Rattle.std.proofs.Common.{◌≡◌, ◌+◌, ◌≤◌, ◌<◌, inl, inr, ℕ, zero, suc, true, false, leb, List, [], ◌∷◌, ◌++◌, length, get_or, set, refl, ap, arith, append_assoc}
use Rattle.std.proofs.lemmas.Bool.{le-leb, lt-leb, cases_lt}
use Rattle.std.proofs.lemmas.List.{length-append, append-nil}
use Rattle.mem_banks.specs.declared.bank.Bank.{Bank}
use Rattle.mem_banks.specs.Banks.{flash_of, ram_of, AreLaid}

pub record RamSplit (f r : ℕ) (banks : List Bank) (k : ℕ) (b : Bank) : Type 0 where
  pub front : List ℕ
  pub back : List ℕ
  pub is : ram_of banks ≡ front ++ (b.bytes.items ++ back)
  pub at : r + length front ≡ b.base
  pub other : (x : Bank) → x.base ≡ b.base → ram_of (set banks k x) ≡ front ++ (x.bytes.items ++ back)
  pub kept : (x : Bank) → x.base ≡ b.base → flash_of (set banks k x) ≡ flash_of banks
  pub laid : (x : Bank) → x.base ≡ b.base → length x.bytes.items ≡ length b.bytes.items → AreLaid f r (set banks k x)

pub record FlashSplit (f r : ℕ) (banks : List Bank) (k : ℕ) (b : Bank) : Type 0 where
  pub front : List ℕ
  pub back : List ℕ
  pub is : flash_of banks ≡ front ++ (b.bytes.items ++ back)
  pub at : f + length front ≡ b.base
  pub other : (x : Bank) → x.base ≡ b.base → flash_of (set banks k x) ≡ front ++ (x.bytes.items ++ back)
  pub kept : (x : Bank) → x.base ≡ b.base → ram_of (set banks k x) ≡ ram_of banks
  pub laid : (x : Bank) → x.base ≡ b.base → length x.bytes.items ≡ length b.bytes.items → AreLaid f r (set banks k x)

pub ram_split : (f r : ℕ) (banks : List Bank) (k : ℕ) (d : Bank) → AreLaid f r banks → k < length banks → 0x20000000 ≤ (get_or banks k d).base → RamSplit f r banks k (get_or banks k d)
ram_split f r [] k d l h big = absurd (omega arith)
ram_split f r (b ∷ bs) zero d l h big =
    let t : leb 0x20000000 b.base ≡ true = le-leb _ _ big in
    let m = rw t at l in
    record {
      front = [];
      back = ram_of bs;
      is = rw t;
      at = omega (arith, m.0);
      other = λ x e. rw (e, t);
      kept = λ x e. rw (e, t);
      laid = λ x e n. rw (e, t, n) (m.0, m.1);
    }
ram_split f r (b ∷ bs) (suc k) d l h big = elim (cases_lt b.base 0x20000000) [
  | inl lt ↦
      let t : leb 0x20000000 b.base ≡ false = lt-leb _ _ lt in
      let m = rw t at l in
      let s = ram_split (f + length b.bytes.items) r bs k d m.1 (omega arith) big in
      record {
        front = s.front;
        back = s.back;
        is = rw t s.is;
        at = s.at;
        other = λ x e. rw t (s.other x e);
        kept = λ x e. rw t (ap (λ q. b.bytes.items ++ q) (s.kept x e));
        laid = λ x e n. rw t (m.0, s.laid x e n);
      }
  | inr le ↦
      let t : leb 0x20000000 b.base ≡ true = le-leb _ _ le in
      let m = rw t at l in
      let s = ram_split f (r + length b.bytes.items) bs k d m.1 (omega arith) big in
      record {
        front = b.bytes.items ++ s.front;
        back = s.back;
        is = rw (t, s.is) (simp append_assoc);
        at = omega (arith, length-append b.bytes.items s.front, s.at);
        other = λ x e. rw (t, s.other x e) (simp append_assoc);
        kept = λ x e. rw t (s.kept x e);
        laid = λ x e n. rw t (m.0, s.laid x e n);
      }
]

pub flash_split : (f r : ℕ) (banks : List Bank) (k : ℕ) (d : Bank) → AreLaid f r banks → k < length banks → (get_or banks k d).base < 0x20000000 → FlashSplit f r banks k (get_or banks k d)
flash_split f r [] k d l h big = absurd (omega arith)
flash_split f r (b ∷ bs) zero d l h big =
    let t : leb 0x20000000 b.base ≡ false = lt-leb _ _ big in
    let m = rw t at l in
    record {
      front = [];
      back = flash_of bs;
      is = rw t;
      at = omega (arith, m.0);
      other = λ x e. rw (e, t);
      kept = λ x e. rw (e, t);
      laid = λ x e n. rw (e, t, n) (m.0, m.1);
    }
flash_split f r (b ∷ bs) (suc k) d l h big = elim (cases_lt b.base 0x20000000) [
  | inr le ↦
      let t : leb 0x20000000 b.base ≡ true = le-leb _ _ le in
      let m = rw t at l in
      let s = flash_split f (r + length b.bytes.items) bs k d m.1 (omega arith) big in
      record {
        front = s.front;
        back = s.back;
        is = rw t s.is;
        at = s.at;
        other = λ x e. rw t (s.other x e);
        kept = λ x e. rw t (ap (λ q. b.bytes.items ++ q) (s.kept x e));
        laid = λ x e n. rw t (m.0, s.laid x e n);
      }
  | inl lt ↦
      let t : leb 0x20000000 b.base ≡ false = lt-leb _ _ lt in
      let m = rw t at l in
      let s = flash_split (f + length b.bytes.items) r bs k d m.1 (omega arith) big in
      record {
        front = b.bytes.items ++ s.front;
        back = s.back;
        is = rw (t, s.is) (simp append_assoc);
        at = omega (arith, length-append b.bytes.items s.front, s.at);
        other = λ x e. rw (t, s.other x e) (simp append_assoc);
        kept = λ x e. rw t (s.kept x e);
        laid = λ x e n. rw t (m.0, s.laid x e n);
      }
]

-- one more bank at the end
pub push_flash : (f r : ℕ) (banks : List Bank) (b : Bank) → AreLaid f r banks → b.base < 0x20000000 → b.base ≡ f + length (flash_of banks) → (flash_of (banks ++ b ∷ []) ≡ flash_of banks ++ b.bytes.items) × (ram_of (banks ++ b ∷ []) ≡ ram_of banks) × AreLaid f r (banks ++ b ∷ [])
push_flash f r [] b laid lt e =
    let t : leb 0x20000000 b.base ≡ false = lt-leb _ _ lt in
    (rw t (append-nil b.bytes.items), rw t refl, rw t (omega arith, tt))
push_flash f r (x ∷ xs) b laid lt e = elim (cases_lt x.base 0x20000000) [
  | inl low ↦
      let u : leb 0x20000000 x.base ≡ false = lt-leb _ _ low in
      let m = rw u at laid in
      let g = rw (u, length-append) at e in
      let s = push_flash (f + length x.bytes.items) r xs b m.1 lt (omega (arith, g)) in
      (rw (u, s.0) (simp append_assoc), rw u s.1, rw u (m.0, s.2))
  | inr high ↦
      let u : leb 0x20000000 x.base ≡ true = le-leb _ _ high in
      let m = rw u at laid in
      let g = rw u at e in
      let s = push_flash f (r + length x.bytes.items) xs b m.1 lt g in
      (rw u s.0, rw (u, s.1) refl, rw u (m.0, s.2))
]

pub push_ram : (f r : ℕ) (banks : List Bank) (b : Bank) → AreLaid f r banks → 0x20000000 ≤ b.base → b.base ≡ r + length (ram_of banks) → (ram_of (banks ++ b ∷ []) ≡ ram_of banks ++ b.bytes.items) × (flash_of (banks ++ b ∷ []) ≡ flash_of banks) × AreLaid f r (banks ++ b ∷ [])
push_ram f r [] b laid le e =
    let t : leb 0x20000000 b.base ≡ true = le-leb _ _ le in
    (rw t (append-nil b.bytes.items), rw t refl, rw t (omega arith, tt))
push_ram f r (x ∷ xs) b laid le e = elim (cases_lt x.base 0x20000000) [
  | inl low ↦
      let u : leb 0x20000000 x.base ≡ false = lt-leb _ _ low in
      let m = rw u at laid in
      let g = rw u at e in
      let s = push_ram (f + length x.bytes.items) r xs b m.1 le g in
      (rw u s.0, rw (u, s.1) refl, rw u (m.0, s.2))
  | inr high ↦
      let u : leb 0x20000000 x.base ≡ true = le-leb _ _ high in
      let m = rw u at laid in
      let g = rw (u, length-append) at e in
      let s = push_ram f (r + length x.bytes.items) xs b m.1 le (omega (arith, g)) in
      (rw (u, s.0) (simp append_assoc), rw u s.1, rw u (m.0, s.2))
]
