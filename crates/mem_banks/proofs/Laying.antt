-- Banks laid from a base to an end, over regions in the order of their bases.
use Rattle.std.proofs.Common.{◌≡◌, ◌+◌, ◌-◌, ◌≤◌, ◌<◌, ◌⊎◌, inl, inr, ℕ, List, [], ◌∷◌, ◌++◌, length, get_or, Contains, refl, ◌∙◌, arith}
use Rattle.std.proofs.lemmas.Bool.{cases_lt}
use Rattle.std.proofs.lemmas.List.{length-replicate, get_or_default}
use Rattle.std.proofs.lemmas.List.Sorted.{Contains-permutation, IsPermutation-sym}
use Rattle.std.specs.List.Sorted.{IsPermutation, IsNonDecreasingBy}
use Rattle.mem_banks.specs.declared.bank.Bank.{Bank}
use Rattle.mem_banks.specs.Kept.{IsNext, IsAdded, IsFilled, IsLaidOut, spans_of}
use Rattle.mem_banks.specs.Memory.{AreRegions}
use Rattle.mem_banks.specs.Parts.{AreParts, AreSoFar, IsPart, flash_size, ram_size}
use Rattle.mem_banks.proofs.Opens.{laid_more, laid_none}
use Rattle.mem_banks.proofs.Parting.{so_far_none, region_laid, stretch_laid, spans_push}

-- the banks from the base to an address are there
pub record AreLaidTo (regions : List (ℕ × ℕ)) (old banks : List Bank) (base at end : ℕ) : Type 0 where
  pub low : base ≤ at
  pub high : at ≤ end
  pub out : IsLaidOut old banks base at
  pub parts : AreSoFar regions (spans_of old) (spans_of banks) base at end

-- those of the first k regions that begin before the end begin before an address
abbrev pub ArePassed : List (ℕ × ℕ) → ℕ → ℕ → ℕ → Type 0
ArePassed regions k at end = (j : ℕ) (d : ℕ × ℕ) → j < k → (get_or regions j d).0 < end → (get_or regions j d).0 < at

pub passed_more : (regions : List (ℕ × ℕ)) (k at to end : ℕ) (r : ℕ × ℕ) → ArePassed regions k at end → k < length regions → get_or regions k r ≡ r → at ≤ to → (r.0 < end → r.0 < to) → ArePassed regions (k + 1) to end
passed_more regions k at to end r passed there here rises this j d low small = elim (cases_lt j k) [
  | inl lt ↦ omega (arith, passed j d lt small)
  | inr le ↦
      let e : j ≡ k = omega arith in
      let same : get_or regions j d ≡ r = rw e (get_or_default regions k d r there ∙ here) in
      rw same (this (rw same at small))
]

module _ (regions : List (ℕ × ℕ)) (old : List Bank) (base end : ℕ) (next : IsNext old base end) where
  bank_laid : (banks after : List Bank) (at len : ℕ) → AreLaidTo regions old banks base at end → at < end → at + len ≤ end → IsAdded banks at len after → AreSoFar regions (spans_of old) (spans_of banks ++ (at, len) ∷ []) base (at + len) end → AreLaidTo regions old after base (at + len) end
  bank_laid banks after at len laid small fits added more =
      let size : length added.0.bytes.items ≡ len = rw added.3 (length-replicate {A = ℕ} len 0) in
      record {
        low = omega (arith, laid.low);
        high = fits;
        out = rw added.1 (laid_more old banks added.0 base end at len next laid.out laid.low small fits added.2 added.3);
        parts = rw (added.1, spans_push banks added.0, added.2, size) more;
      }

  -- nothing is laid
  pub laid_start : base ≤ end → AreLaidTo regions old old base base end
  laid_start order = record { low = omega arith; high = order; out = laid_none old base end next; parts = so_far_none regions _ base end }

  -- what lies between two addresses, where no region begins
  pub laid_between : (banks after : List Bank) (at to : ℕ) → AreLaidTo regions old banks base at end → at ≤ to → to ≤ end → ((g : ℕ × ℕ) → Contains regions g → at ≤ g.0 → to ≤ g.0) → (to ≡ end) ⊎ ((g : ℕ × ℕ) × Contains regions g × (g.0 ≡ to)) → ((g : ℕ × ℕ) → Contains regions g → g.0 < base → g.0 + g.1 ≤ base) → IsFilled banks at to after → AreLaidTo regions old after base to end
  laid_between banks after at to laid rises fits least reach outside (inl none) =
      let e : to ≡ at = omega (arith, none.0) in
      rw (e, none.1) laid
  laid_between banks after at to laid rises fits least reach outside (inr some) =
      let sum : at + (to - at) ≡ to = omega arith in
      let more = stretch_laid regions (spans_of old) (spans_of banks) base at to end laid.parts laid.low some.0 fits least reach outside in
      rw sum at (bank_laid banks after at (to - at) laid (omega (arith, some.0)) (omega arith) some.1 more)

  -- what lies before the next region, and its own bytes
  pub laid_region : (banks mid after : List Bank) (at k : ℕ) (r : ℕ × ℕ) → IsNonDecreasingBy (λ (g : ℕ × ℕ). g.0) regions → ((g : ℕ × ℕ) → Contains regions g → base ≤ g.0 → g.0 < end → (0 < g.1) × (g.0 + g.1 ≤ end)) → ((g : ℕ × ℕ) → Contains regions g → g.0 < base → g.0 + g.1 ≤ base) → ((g h : ℕ × ℕ) → Contains regions g → Contains regions h → (g ≡ h) ⊎ ((g.0 + g.1 ≤ h.0) ⊎ (h.0 + h.1 ≤ g.0))) → ((g : ℕ × ℕ) → Contains regions g → 0 < g.1) → AreLaidTo regions old banks base at end → ArePassed regions k at end → k < length regions → get_or regions k r ≡ r → at ≤ r.0 → r.0 < end → IsFilled banks at r.0 mid → IsAdded mid r.0 r.1 after → AreLaidTo regions old after base (r.0 + r.1) end
  laid_region banks mid after at k r sorted inside outside apart sizes laid passed there here low small filled added =
      let given : Contains regions r = (k, there, here) in
      let fit = inside r given (omega (arith, laid.low)) small in
      let least : (g : ℕ × ℕ) → Contains regions g → at ≤ g.0 → r.0 ≤ g.0 = λ g c le. elim (cases_lt c.0 k) [
        | inl lt ↦ elim (cases_lt g.0 end) [
          | inl inner ↦ absurd (omega (arith, rw c.2 at (passed c.0 g lt (rw c.2 inner))))
          | inr outer ↦ omega arith
        ]
        | inr after ↦ rw (get_or_default regions k g r there ∙ here, c.2) at (sorted k c.0 g after c.1)
      ] in
      let before = laid_between banks mid at r.0 laid low (omega arith) least (inr (r, given, refl)) outside filled in
      bank_laid mid after r.0 r.1 before small fit.1 added (region_laid regions (spans_of old) (spans_of mid) base r.0 r.1 end before.parts given fit.0 apart sizes)

  -- what lies behind the last region
  pub laid_last : (banks after : List Bank) (at k : ℕ) → ((g : ℕ × ℕ) → Contains regions g → g.0 < base → g.0 + g.1 ≤ base) → AreLaidTo regions old banks base at end → ArePassed regions k at end → length regions ≤ k → IsFilled banks at end after → AreLaidTo regions old after base end end
  laid_last banks after at k outside laid passed all filled =
      let least : (g : ℕ × ℕ) → Contains regions g → at ≤ g.0 → end ≤ g.0 = λ g c le. elim (cases_lt g.0 end) [
        | inl inner ↦ absurd (omega (arith, rw c.2 at (passed c.0 g (omega (arith, c.1)) (rw c.2 inner))))
        | inr outer ↦ outer
      ] in
      laid_between banks after at end laid laid.high (omega arith) least (inl refl) outside filled

-- ## the regions in another order
module _ (regions sorted : List (ℕ × ℕ)) (same : IsPermutation regions sorted) where
  there : (g : ℕ × ℕ) → Contains regions g → Contains sorted g
  there g c = Contains-permutation regions sorted g same c

  back : (g : ℕ × ℕ) → Contains sorted g → Contains regions g
  back g c = Contains-permutation sorted regions g (IsPermutation-sym regions sorted same) c

  pub regions_ordered : (f r : ℕ) → AreRegions f r regions → AreRegions f r sorted
  regions_ordered f r a = record {
    some = λ g c. a.some g (back g c);
    inside = λ g c. a.inside g (back g c);
    apart = λ g h c e. a.apart g h (back g c) (back h e);
  }

  end_back : (a : ℕ) → (g : ℕ × ℕ) × Contains sorted g × (g.0 + g.1 ≡ a) → (g : ℕ × ℕ) × Contains regions g × (g.0 + g.1 ≡ a)
  end_back a g = (g.0, back g.0 g.1, g.2)

  start_back : (a : ℕ) → (g : ℕ × ℕ) × Contains sorted g × (g.0 ≡ a) → (g : ℕ × ℕ) × Contains regions g × (g.0 ≡ a)
  start_back a g = (g.0, back g.0 g.1, g.2)

  part_back : (base end : ℕ) (s : ℕ × ℕ) → IsPart sorted base end s → IsPart regions base end s
  part_back base end s p = (
    p.0,
    elim p.1 [
      | inl c ↦ inl (back s c)
      | inr x ↦ inr record {
        free = λ g c. x.free g (there g c);
        from = elim x.from [ inl e ↦ inl e | inr g ↦ inr (end_back s.0 g) ];
        to = elim x.to [ inl e ↦ inl e | inr g ↦ inr (start_back (s.0 + s.1) g) ];
      }
    ],
  )

  pub parts_ordered : (spans : List (ℕ × ℕ)) → AreParts sorted spans → AreParts regions spans
  parts_ordered spans p = record {
    given = λ g c. p.given g (there g c);
    each = λ s c some. elim (p.each s c some) [
      | inl x ↦ inl (part_back 0x08000000 (0x08000000 + flash_size spans) s x)
      | inr x ↦ inr (part_back 0x20000000 (0x20000000 + ram_size spans) s x)
    ];
  }
