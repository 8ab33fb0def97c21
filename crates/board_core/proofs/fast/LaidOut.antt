-- Regions of which the first has the instruction at PC, and the second one the stack.
use Rattle.std.proofs.Common.{◌≡◌, ◌⊎◌, ◌-◌, ◌<◌, ◌≤◌, ℕ, zero, suc, Bool, true, false, not, cond, eqb, ◌&&◌, List, [], ◌∷◌, Some, None, length, take, drop, get_or, inl, inr, refl, sym, ◌∙◌, ap, arith}
use Rattle.std.specs.Prelude.{Contains, find}
use Rattle.std.proofs.Math.Seq.{take-length}
use Rattle.std.proofs.lemmas.Bool.{cases_Bool, leb-true, ltb-true, eq-eqb, false≢true, and_parts}
use Rattle.region_check.specs.declared.Region.{Region}
use Rattle.mem_banks.specs.Windows.{IsNoRegion}
use Rattle.task_table.specs.kept.Openable.{span_of}
use Rattle.board_core.specs.fast.Reached.{is_flash_at, is_ram_at, is_area, is_second, IsAreaRegion, IsSecondRegion, AreReached}

-- a region of the flash is no area, and neither is that of the stack
no_area : (stack r : Region) → r.base < 0x20000000 → is_area stack r ≡ false
no_area stack r below = elim (cases_Bool (is_area stack r)) [
  | inl passed ↦
      let above : 0x20000000 ≤ r.base = leb-true _ _ (and_parts _ _ (and_parts _ _ (and_parts _ _ (and_parts _ _ passed).0).0).0).0 in
      absurd (omega (arith, below, above))
  | inr none ↦ none
]

flash_below : (pc : ℕ) (r : Region) → is_flash_at pc r ≡ true → r.base < 0x20000000
flash_below pc r h = ltb-true _ _ (and_parts _ _ h).1

not_itself : (stack : Region) → is_area stack stack ≡ false
not_itself stack = elim (cases_Bool (is_area stack stack)) [
  | inl passed ↦
      let same : (eqb stack.base stack.base && eqb stack.size stack.size) ≡ true = rw (eq-eqb stack.base stack.base refl, eq-eqb stack.size stack.size refl) refl in
      absurd (false≢true (ap (λ (b : Bool). not b) (sym same) ∙ (and_parts _ _ passed).1))
  | inr none ↦ none
]

-- the first of some regions that passes a test, or none where none does
abbrev IsFirst : (Region → Bool) → List Region → Region → Type 0
IsFirst p regions r = (find p regions ≡ Some r) ⊎ (IsNoRegion (span_of r) × (find p regions ≡ None))

found_later : (p : Region → Bool) (x y : Region) (xs : List Region) → p x ≡ false → p y ≡ false → find p (x ∷ y ∷ xs) ≡ find p xs
found_later p x y xs h k = rw (h, k) refl

-- so the first one behind them is the first of all
behind : (p : Region → Bool) (x y : Region) (xs : List Region) (r : Region) → p x ≡ false → p y ≡ false → IsFirst p (take (length (x ∷ y ∷ xs) - 2) xs) r → IsFirst p (x ∷ y ∷ xs) r
behind p x y xs r code stack first =
    let count : length (x ∷ y ∷ xs) - 2 ≡ length xs = omega arith in
    let further : IsFirst p xs r = rw (count, take-length xs) at first in
    let same : find p (x ∷ y ∷ xs) ≡ find p xs = found_later p x y xs code stack in
    elim further [
      | inl found ↦ inl (same ∙ found)
      | inr none ↦ inr (none.0, same ∙ none.1)
    ]

no_second : (stack area r : Region) → is_area stack r ≡ false → is_second stack area r ≡ false
no_second stack area r e = rw e refl

pub laid_out : (regions : List Region) (pc sp : ℕ) (d area second : Region) → 1 < length regions → is_flash_at pc (get_or regions 0 d) ≡ true → is_ram_at sp (get_or regions 1 d) ≡ true
    → IsAreaRegion (take (length regions - 2) (drop 2 regions)) (get_or regions 1 d) area → IsSecondRegion (take (length regions - 2) (drop 2 regions)) (get_or regions 1 d) area second
    → AreReached regions pc sp record { flash = get_or regions 0 d; ram = get_or regions 1 d; area = area; second = second }
laid_out [] pc sp d area second some h k first next = absurd (omega (arith, some))
laid_out (x ∷ []) pc sp d area second some h k first next = absurd (omega (arith, some))
laid_out (x ∷ y ∷ xs) pc sp d area second some h k first next =
    let code : is_area y x ≡ false = no_area y x (flash_below pc x h) in
    record {
      here = (zero, omega arith, refl);
      flash = h;
      ram = inl ((suc zero, omega arith, refl), k);
      area = behind (is_area y) x y xs area code (not_itself y) first;
      second = behind (is_second y area) x y xs second (no_second y area x code) (no_second y area y (not_itself y)) next;
    }

some_same : (y z : Region) → Some y ≡ Some z → y ≡ z
some_same y z e = cc

-- the first one that passes a test is one of them, and passes it
pub found_first : (p : Region → Bool) (xs : List Region) (r : Region) → find p xs ≡ Some r → Contains xs r × (p r ≡ true)
found_first p [] r e = absurd cc
found_first p (x ∷ xs) r e = by (p x) refl (λ more. found_first p xs r more) e
  where
    by : (b : Bool) → p x ≡ b → (find p xs ≡ Some r → Contains xs r × (p r ≡ true)) → cond b (Some x) (find p xs) ≡ Some r → Contains (x ∷ xs) r × (p r ≡ true)
    by true h further same = let is : x ≡ r = some_same x r same in ((zero, omega arith, is), ap p (sym is) ∙ h)
    by false h further same = let rest = further same in ((suc rest.0.0, omega (arith, rest.0.1), rest.0.2), rest.1)

-- where there is no first area there is no second one
none_further : (stack area : Region) (xs : List Region) → find (is_area stack) xs ≡ None → find (is_second stack area) xs ≡ None
none_further stack area [] e = refl
none_further stack area (x ∷ xs) e = by (is_area stack x) refl (none_further stack area xs) e
  where
    by : (b : Bool) → is_area stack x ≡ b → (find (is_area stack) xs ≡ None → find (is_second stack area) xs ≡ None) → cond b (Some x) (find (is_area stack) xs) ≡ None → find (is_second stack area) (x ∷ xs) ≡ None
    by true h further same = absurd cc
    by false h further same = rw h (further same)

area_some : (stack r : Region) → is_area stack r ≡ true → 0 < r.size
area_some stack r h = ltb-true _ _ (and_parts _ _ (and_parts _ _ (and_parts _ _ (and_parts _ _ h).0).0).0).1

pub no_more : (regions : List Region) (stack area r : Region) → IsAreaRegion regions stack area → area.size ≡ 0 → IsNoRegion (span_of r) → IsSecondRegion regions stack area r
no_more regions stack area r (inl found) empty none =
    let some = area_some stack area (found_first (is_area stack) regions area found).1 in
    absurd (omega (arith, some, empty))
no_more regions stack area r (inr x) empty none = inr (none, none_further stack area regions x.1)
