-- One more bank, for a region or for a stretch.
use Rattle.std.proofs.Common.{◌≡◌, ◌+◌, ◌-◌, ◌≤◌, ◌<◌, ◌⊎◌, inl, inr, ℕ, List, [], ◌∷◌, ◌++◌, length, leb, true, false, Contains, refl, ap, sym, ◌∙◌, arith}
use Rattle.std.proofs.lemmas.Bool.{cases_lt, le-leb, lt-leb}
use Rattle.std.proofs.lemmas.List.{length-replicate, length-append, get_or_append_left, get_or_at}
use Rattle.mem_banks.specs.declared.bank.Bank.{Bank}
use Rattle.mem_banks.specs.Kept.{AreZeros, spans_of}
use Rattle.mem_banks.specs.Parts.{AreParts, AreSoFar, flash_size, ram_size}
use Rattle.mem_banks.specs.Banks.{flash_of, ram_of}
use Rattle.mem_banks.specs.Memory.{AreRegions}

pub spans_push : (banks : List Bank) (b : Bank) → spans_of (banks ++ b ∷ []) ≡ spans_of banks ++ (b.base, length b.bytes.items) ∷ []
spans_push [] b = refl
spans_push (x ∷ xs) b = ap (λ q. (x.base, length x.bytes.items) ∷ q) (spans_push xs b)

contains_push : (xs : List (ℕ × ℕ)) (y z : ℕ × ℕ) → Contains xs z → Contains (xs ++ y ∷ []) z
contains_push xs y z c = (c.0, rw length-append (omega (arith, c.1)), get_or_append_left xs (y ∷ []) z c.0 c.1 ∙ c.2)

contains_last : (xs : List (ℕ × ℕ)) (y : ℕ × ℕ) → Contains (xs ++ y ∷ []) y
contains_last xs y = (length xs, rw length-append (omega arith), get_or_at xs y [] y (length xs) refl)

contains_split : (xs : List (ℕ × ℕ)) (y z : ℕ × ℕ) → Contains (xs ++ y ∷ []) z → Contains xs z ⊎ (y ≡ z)
contains_split xs y z c = elim (cases_lt c.0 (length xs)) [
  | inl lt ↦ inl (c.0, lt, sym (get_or_append_left xs (y ∷ []) z c.0 lt) ∙ c.2)
  | inr le ↦
      let high = rw length-append at c.1 in
      let e : length xs ≡ c.0 = omega (arith, high, le) in
      inr (sym (get_or_at xs y [] z c.0 e) ∙ c.2)
]

pub so_far_none : (regions old : List (ℕ × ℕ)) (base end : ℕ) → AreSoFar regions old old base base end
so_far_none regions old base end = record {
  given = λ g c low high. absurd (omega arith);
  ended = λ g c low high. absurd (omega arith);
  kept = λ s c. c;
  each = λ s c. inl c;
  edge = inl refl;
}

-- a region's bank
pub region_laid : (regions old spans : List (ℕ × ℕ)) (base at len end : ℕ) → AreSoFar regions old spans base at end → Contains regions (at, len) → 0 < len → ((g h : ℕ × ℕ) → Contains regions g → Contains regions h → (g ≡ h) ⊎ ((g.0 + g.1 ≤ h.0) ⊎ (h.0 + h.1 ≤ g.0))) → ((g : ℕ × ℕ) → Contains regions g → 0 < g.1) → AreSoFar regions old (spans ++ (at, len) ∷ []) base (at + len) end
region_laid regions old spans base at len end s here some apart sizes =
    let same : (g : ℕ × ℕ) → Contains regions g → at ≤ g.0 → g.0 < at + len → (at, len) ≡ g = λ g c low high. elim (apart (at, len) g here c) [
      | inl e ↦ e
      | inr r ↦ elim r [ inl x ↦ absurd (omega arith) | inr x ↦ absurd (omega (arith, sizes g c)) ]
    ] in
    record {
      given = λ g c low high. elim (cases_lt g.0 at) [
        | inl lt ↦ contains_push spans (at, len) g (s.given g c low lt)
        | inr le ↦ rw (← same g c le high) (contains_last spans (at, len))
      ];
      ended = λ g c low high. elim (cases_lt g.0 at) [
        | inl lt ↦ omega (arith, s.ended g c low lt)
        | inr le ↦ let e = same g c le high in rw (← e) (omega arith)
      ];
      kept = λ x c. contains_push spans (at, len) x (s.kept x c);
      each = λ x c. elim (contains_split spans (at, len) x c) [
        | inl o ↦ s.each x o
        | inr e ↦ inr (rw (← e) (some, inl here))
      ];
      edge = inr (inl ((at, len), here, refl));
    }

-- a stretch's bank
pub stretch_laid : (regions old spans : List (ℕ × ℕ)) (base at next end : ℕ) → AreSoFar regions old spans base at end → base ≤ at → at < next → next ≤ end → ((g : ℕ × ℕ) → Contains regions g → at ≤ g.0 → next ≤ g.0) → (next ≡ end) ⊎ ((g : ℕ × ℕ) × Contains regions g × (g.0 ≡ next)) → ((g : ℕ × ℕ) → Contains regions g → g.0 < base → g.0 + g.1 ≤ base) → AreSoFar regions old (spans ++ (at, next - at) ∷ []) base (at + (next - at)) end
stretch_laid regions old spans base at next end s low high fits least reach outside =
    let sum : at + (next - at) ≡ next = omega arith in
    let free : (g : ℕ × ℕ) → Contains regions g → (g.0 + g.1 ≤ at) ⊎ (at + (next - at) ≤ g.0) = λ g c. elim (cases_lt g.0 at) [
      | inl lt ↦ elim (cases_lt g.0 base) [
        | inl out ↦ inl (omega (arith, outside g c out))
        | inr within ↦ inl (s.ended g c within lt)
      ]
      | inr le ↦ inr (omega (arith, least g c le))
    ] in
    record {
      given = λ g c from to. elim (cases_lt g.0 at) [
        | inl lt ↦ contains_push spans (at, next - at) g (s.given g c from lt)
        | inr le ↦ absurd (omega (arith, least g c le))
      ];
      ended = λ g c from to. elim (cases_lt g.0 at) [
        | inl lt ↦ omega (arith, s.ended g c from lt)
        | inr le ↦ absurd (omega (arith, least g c le))
      ];
      kept = λ x c. contains_push spans (at, next - at) x (s.kept x c);
      each = λ x c. elim (contains_split spans (at, next - at) x c) [
        | inl o ↦ s.each x o
        | inr e ↦ inr (rw (← e) (
          omega arith,
          inr record {
            free = free;
            from = elim s.edge [
              | inl b ↦ inl b
              | inr r ↦ elim r [
                | inl g ↦ inr g
                | inr q ↦ elim q [ inl x ↦ absurd (omega arith) | inr g ↦ absurd (omega (arith, least g.0 g.1 (omega (arith, g.2)), g.2)) ]
              ]
            ];
            to = elim reach [ inl x ↦ inl (sum ∙ x) | inr g ↦ inr (g.0, g.1, g.2 ∙ sym sum) ];
          },
        ))
      ];
      edge = inr (inr (elim reach [ inl x ↦ inl (sum ∙ x) | inr g ↦ inr (g.0, g.1, g.2 ∙ sym sum) ]));
    }

-- ## all spans
pub flash_length : (banks : List Bank) → flash_size (spans_of banks) ≡ length (flash_of banks)
flash_length [] = refl
flash_length (b ∷ bs) = elim (cases_lt b.base 0x20000000) [
  | inl lt ↦ let t : leb 0x20000000 b.base ≡ false = lt-leb _ _ lt in rw (t, length-append, flash_length bs) refl
  | inr le ↦ let t : leb 0x20000000 b.base ≡ true = le-leb _ _ le in rw t (flash_length bs)
]

pub ram_length : (banks : List Bank) → ram_size (spans_of banks) ≡ length (ram_of banks)
ram_length [] = refl
ram_length (b ∷ bs) = elim (cases_lt b.base 0x20000000) [
  | inl lt ↦ let t : leb 0x20000000 b.base ≡ false = lt-leb _ _ lt in rw t (ram_length bs)
  | inr le ↦ let t : leb 0x20000000 b.base ≡ true = le-leb _ _ le in rw (t, length-append, ram_length bs) refl
]

contains_none : (x : ℕ × ℕ) → Contains [] x → ⊥
contains_none x c = omega (arith, c.1)

pub all_parts : (regions one two : List (ℕ × ℕ)) (f r : ℕ) → AreRegions f r regions → AreSoFar regions [] one 0x08000000 (0x08000000 + f) (0x08000000 + f) → AreSoFar regions one two 0x20000000 (0x20000000 + r) (0x20000000 + r) → f ≡ flash_size two → r ≡ ram_size two → f ≤ 1048576 → AreParts regions two
all_parts regions one two f r a x y e g small = record {
  given = λ q c. elim (a.inside q c) [
    | inl ram ↦ y.given q c ram.0 (omega (arith, a.some q c, ram.1))
    | inr flash ↦ y.kept q (x.given q c flash.0 (omega (arith, a.some q c, flash.1)))
  ];
  each = λ s c some. elim (y.each s c) [
    | inl o ↦ elim (x.each s o) [ inl none ↦ absurd (contains_none s none) | inr p ↦ inl (rw (← e) p) ]
    | inr p ↦ inr (rw (← g) p)
  ];
}

-- one empty span beside none
pub empty_parts : (regions : List (ℕ × ℕ)) (banks : List Bank) (b : Bank) → AreParts regions (spans_of banks) → length banks ≡ 0 → length b.bytes.items ≡ 0 → AreParts regions (spans_of (banks ++ b ∷ []))
empty_parts regions [] b p none size = record {
  given = λ g c. absurd (contains_none g (p.given g c));
  each = λ s c some. elim (contains_split [] (b.base, length b.bytes.items) s c) [
    | inl o ↦ absurd (contains_none s o)
    | inr e ↦ absurd (omega (arith, ap (λ (q : ℕ × ℕ). q.1) e))
  ];
}
empty_parts regions (x ∷ xs) b p none size = absurd (omega arith)

-- how much RAM zero banks are
pub zeros_size : (banks : List Bank) (f r : ℕ) → AreZeros banks f r → r ≡ ram_size (spans_of banks)
zeros_size banks f r z = sym (ram_length banks ∙ (ap length z.ram ∙ length-replicate {A = ℕ} r 0))
