-- What the memory is after a window of four banks.
use Rattle.std.proofs.Common.{ℕ, zero, suc, ◌≡◌, ◌≢◌, ◌<◌, ◌≤◌, ◌+◌, ◌⊎◌, inl, inr, Bool, true, false, ◌&&◌, eqb, rules, leb, List, [], ◌∷◌, Option, Some, None, length, take, drop, get_or, Contains, refl, ap, sym, ◌∙◌, subst, arith, length-take, length-drop}
use Rattle.std.proofs.lemmas.Bool.{le-leb, lt-leb, cases_lt}
use Rattle.std.proofs.lemmas.List.{length-append, same_lists, places, nil_from_length}
use Rattle.mem_banks.specs.declared.bank.Bank.{Bank}
use Rattle.mem_banks.specs.Banks.{flash_of, AreLaid, IsAt, IsPut}
use Rattle.mem_banks.specs.Kept.{AreKept, IsDone, seen, spans_of}
use Rattle.mem_banks.specs.Parts.{AreParts}
use Rattle.mem_banks.specs.Windows.{Doing, AreAllOpened, AreTwo, AreApart, bytes_of, bytes_in, IsBankOf, HasNoBank, IsPlaceOf, HasNoPlace, IsPutIn, IsInMemory, IsInRam, IsOpened, IsNoRegion, IsGivenOrNone, AreGiven, IsBehind, AreRising}
use Rattle.mem_banks.specs.Memory.{Memory, with_bytes}
use Rattle.mem_banks.proofs.Copies.{with_bytes_none}
use Rattle.mem_banks.proofs.Pieces.{Side, ram_side, flash_side, side_in, put_done, nothing_done}
use Rattle.mem_banks.proofs.Splits.{ram_split, flash_split}
use Rattle.mem_banks.proofs.Windows.{region_length}
use Rattle.mem_banks.proofs.Within.{first_of, bytes_in as bytes_within}

-- ## no two banks have a byte in common
abbrev span : Bank → ℕ × ℕ
span b = (b.base, length b.bytes.items)

-- where a bank of the flash ends
flash_end : (f r : ℕ) (banks : List Bank) (k : ℕ) (d : Bank) → AreLaid f r banks → k < length banks → (get_or banks k d).base < 0x20000000 → (f ≤ (get_or banks k d).base) × ((get_or banks k d).base + length (get_or banks k d).bytes.items ≤ f + length (flash_of banks))
flash_end f r banks k d laid there lt =
    let s = flash_split f r banks k d laid there lt in
    let at = s.at in
    let len : length (flash_of banks) ≡ length s.front + (length (get_or banks k d).bytes.items + length s.back) = rw (s.is, length-append, length-append) refl in
    (omega (arith, at), omega (arith, at, len))

-- the first bank and another one
first_apart : (f r : ℕ) (b : Bank) (bs : List Bank) (k : ℕ) (d : Bank) → AreLaid f r (b ∷ bs) → f + length (flash_of (b ∷ bs)) ≤ 0x20000000 → k < length bs → AreApart (span b) (span (get_or bs k d))
first_apart f r b bs k d laid small there = elim (cases_lt b.base 0x20000000) [
  | inl lt ↦
      let t : leb 0x20000000 b.base ≡ false = lt-leb _ _ lt in
      let m = rw t at laid in
      let h = rw (t, length-append) at small in
      elim (cases_lt (get_or bs k d).base 0x20000000) [
        | inl low ↦ inl (omega (arith, m.0, (flash_end (f + length b.bytes.items) r bs k d m.1 there low).0))
        | inr high ↦ inl (omega (arith, m.0, h))
      ]
  | inr le ↦
      let t : leb 0x20000000 b.base ≡ true = le-leb _ _ le in
      let m = rw t at laid in
      let h = rw t at small in
      elim (cases_lt (get_or bs k d).base 0x20000000) [
        | inl low ↦ inr (omega (arith, h, (flash_end f (r + length b.bytes.items) bs k d m.1 there low).1))
        | inr high ↦ inl (omega (arith, m.0, (ram_split f (r + length b.bytes.items) bs k d m.1 there high).at))
      ]
]

turned : (r s : ℕ × ℕ) → AreApart r s → AreApart s r
turned r s (inl x) = inr x
turned r s (inr x) = inl x

banks_apart : (f r : ℕ) (banks : List Bank) (i j : ℕ) (d : Bank) → AreLaid f r banks → f + length (flash_of banks) ≤ 0x20000000 → i < length banks → j < length banks → i ≢ j → AreApart (span (get_or banks i d)) (span (get_or banks j d))
banks_apart f r [] i j d laid small there_i there_j other = absurd (omega arith)
banks_apart f r (b ∷ bs) zero zero d laid small there_i there_j other = absurd (other refl)
banks_apart f r (b ∷ bs) zero (suc j) d laid small there_i there_j other = first_apart f r b bs j d laid small (omega arith)
banks_apart f r (b ∷ bs) (suc i) zero d laid small there_i there_j other = turned (span b) (span (get_or bs i d)) (first_apart f r b bs i d laid small (omega arith))
banks_apart f r (b ∷ bs) (suc i) (suc j) d laid small there_i there_j other = elim (cases_lt b.base 0x20000000) [
  | inl lt ↦
      let t : leb 0x20000000 b.base ≡ false = lt-leb _ _ lt in
      let m = rw t at laid in
      let h = rw (t, length-append) at small in
      banks_apart (f + length b.bytes.items) r bs i j d m.1 (omega (arith, h)) (omega arith) (omega arith) (λ e. other (ap suc e))
  | inr le ↦
      let t : leb 0x20000000 b.base ≡ true = le-leb _ _ le in
      let m = rw t at laid in
      let h = rw t at small in
      banks_apart f (r + length b.bytes.items) bs i j d m.1 h (omega arith) (omega arith) (λ e. other (ap suc e))
]

-- ## the window
region_there : (m : Memory) (base len : ℕ) → length m.flash ≤ 1048576 → Side m base len → IsInMemory m (base, len)
region_there m base len small (ram_side x y) = inl (x, y)
region_there m base len small (flash_side x y z) = inr (x, y, omega (arith, small, y))

region_high : (m : Memory) (base len : ℕ) → 0x20000000 ≤ base → Side m base len → IsInRam m (base, len)
region_high m base len high (ram_side x y) = (x, y)
region_high m base len high (flash_side x y z) = absurd (omega arith)

take_all : (xs : List ℕ) (n : ℕ) → length xs ≡ n → take n (drop 0 xs) ≡ xs
take_all xs n e = same_lists _ _ (simp (length-take, length-drop) (omega arith)) (λ i d u. grind (arith, places))

-- the bytes of a bank are those of its region
bank_bytes : (table : List ℕ) (banks : List Bank) (k : ℕ) (r : ℕ × ℕ) (d : Bank) → AreKept table banks → IsBankOf banks k r → bytes_of (seen banks) r ≡ (get_or banks k d).bytes.items
bank_bytes table banks k r d kept there =
    let len = (there.1 d).1 in
    let all = bytes_within banks k 0 r.0 r.1 d kept.laid kept.flash there.0 (omega (arith, (there.1 d).0)) (omega (arith, len)) in
    all ∙ take_all (get_or banks k d).bytes.items r.1 len

span_length : (banks : List Bank) → length (spans_of banks) ≡ length banks
span_length [] = refl
span_length (b ∷ bs) = ap suc (span_length bs)

span_at : (banks : List Bank) (k : ℕ) (d : Bank) (z : ℕ × ℕ) → k < length banks → get_or (spans_of banks) k z ≡ span (get_or banks k d)
span_at [] k d z h = absurd (omega arith)
span_at (b ∷ bs) zero d z h = refl
span_at (b ∷ bs) (suc k) d z h = span_at bs k d z (omega arith)

below_or_in : (m : Memory) (flash ram : ℕ × ℕ) → IsInMemory m flash → ram.0 ≡ 0x20000000 → ram.1 ≡ 0 → AreApart flash ram
below_or_in m flash ram (inl x) e n = inr (omega (arith, x.0))
below_or_in m flash ram (inr x) e n = inl (omega (arith, x.2))

-- a bank keeps its place while the spans stay
bank_still : (banks after : List Bank) (k : ℕ) (r : ℕ × ℕ) → spans_of after ≡ spans_of banks → IsBankOf banks k r → IsBankOf after k r
bank_still banks after k r same of_k =
    let count : length after ≡ length banks = sym (span_length after) ∙ (ap length same ∙ span_length banks) in
    let there : k < length after = omega (arith, count, of_k.0) in (
      there,
      λ d.
          let e = sym (span_at after k d r there) ∙ (ap (λ (xs : List (ℕ × ℕ)). get_or xs k r) same ∙ span_at banks k d r of_k.0) in
          (ap (λ (q : ℕ × ℕ). q.0) e ∙ (of_k.1 d).0, ap (λ (q : ℕ × ℕ). q.1) e ∙ (of_k.1 d).1),
    )

place_still : (banks after : List Bank) (o : Option ℕ) (r : ℕ × ℕ) → spans_of after ≡ spans_of banks → IsPlaceOf banks o r → IsPlaceOf after o r
place_still banks after None r same none = none
place_still banks after (Some k) r same p = (bank_still banks after k r same p.0, p.1, p.2)

module _ (table : List ℕ) (banks : List Bank) (kept : AreKept table banks) where
  bank_there : (k : ℕ) (r : ℕ × ℕ) → IsBankOf banks k r → Side (seen banks) r.0 r.1
  bank_there k r of_k =
      let d : Bank = first_of banks k of_k.0 in
      side_in table banks k 0 r.0 r.1 d kept of_k.0 (omega (arith, (of_k.1 d).0)) (omega (arith, (of_k.1 d).1))

  in_memory : (k : ℕ) (r : ℕ × ℕ) → IsBankOf banks k r → IsInMemory (seen banks) r
  in_memory k r of_k = region_there (seen banks) r.0 r.1 kept.flash (bank_there k r of_k)

  place_there : (o : Option ℕ) (r : ℕ × ℕ) → IsPlaceOf banks o r → IsInRam (seen banks) r
  place_there None r none = (omega (arith, none.0), omega (arith, none.0, none.1))
  place_there (Some k) r p = region_high (seen banks) r.0 r.1 p.1 (bank_there k r p.0)

  place_bytes : (o : Option ℕ) (r : ℕ × ℕ) (d : Bank) → IsPlaceOf banks o r → bytes_of (seen banks) r ≡ bytes_in banks o d
  place_bytes None r d none = nil_from_length _ (region_length (seen banks) r.0 r.1 (inl (place_there None r none)) ∙ none.1)
  place_bytes (Some k) r d p = bank_bytes table banks k r d kept p.0

  place_size : (o : Option ℕ) (r : ℕ × ℕ) (d : Bank) → IsPlaceOf banks o r → length (bytes_in banks o d) ≡ r.1
  place_size None r d none = sym none.1
  place_size (Some k) r d p = (p.0.1 d).1

  two_apart : (i j : ℕ) (r s : ℕ × ℕ) → IsBankOf banks i r → IsBankOf banks j s → i ≢ j → AreApart r s
  two_apart i j r s of_i of_j other =
      let d : Bank = first_of banks i of_i.0 in
      let apart = banks_apart 0x08000000 0x20000000 banks i j d kept.laid (omega (arith, kept.flash)) of_i.0 of_j.0 other in
      rw ((of_i.1 d).0, (of_i.1 d).1, (of_j.1 d).0, (of_j.1 d).1) at apart

  bank_apart : (i : ℕ) (o : Option ℕ) (r s : ℕ × ℕ) → IsBankOf banks i r → IsPlaceOf banks o s → AreTwo (Some i) o → AreApart r s
  bank_apart i None r s of_i none other = below_or_in (seen banks) r s (in_memory i r of_i) none.0 none.1
  bank_apart i (Some j) r s of_i p other = two_apart i j r s of_i p.0 other

  places_apart : (o q : Option ℕ) (r s : ℕ × ℕ) → IsPlaceOf banks o r → IsPlaceOf banks q s → AreTwo o q → AreApart r s
  places_apart (Some i) q r s p there other = bank_apart i q r s p.0 there other
  places_apart None None r s none there other = inl (omega (arith, none.0, none.1, there.0))
  places_apart None (Some j) r s none p other = turned s r (below_or_in (seen banks) s r (in_memory j s p.0) none.0 none.1)

  bank_done : (after : List Bank) (k : ℕ) (r : ℕ × ℕ) (new : List ℕ) → IsBankOf banks k r → length new ≤ r.1 → IsPut banks k 0 new after → IsDone table banks after r.0 new
  bank_done after k r new of_k fits put =
      let d : Bank = first_of banks k of_k.0 in
      put_done table banks after k 0 r.0 new d kept of_k.0 (omega (arith, (of_k.1 d).0)) (omega (arith, fits, (of_k.1 d).1)) put

  place_done : (after : List Bank) (o : Option ℕ) (r : ℕ × ℕ) (new : List ℕ) → IsPlaceOf banks o r → length new ≡ r.1 → IsPutIn banks o new after → IsDone table banks after r.0 new
  place_done after None r new none size same = let D : List Bank → Type 0 = λ xs. IsDone table banks xs r.0 new in subst D (sym same) (nothing_done table banks r.0 new kept (nil_from_length _ (size ∙ none.1)))
  place_done after (Some k) r new p size put = bank_done after k r new p.0 (omega (arith, size)) put

module _ {B : Type 0} (did : Doing B) (table : List ℕ) (banks after : List Bank) (i : ℕ) (j k l : Option ℕ) (flash ram area second : ℕ × ℕ) (s s' : B) (kept : AreKept table banks) (of_i : IsBankOf banks i flash) (of_j : IsPlaceOf banks j ram) (of_k : IsPlaceOf banks k area) (of_l : IsPlaceOf banks l second) (opened : AreAllOpened did banks i j k l s s' after) where
  size : length opened.after ≡ ram.1
  size = let d : Bank = first_of banks i of_i.0 in opened.size d ∙ place_size table banks kept j ram d of_j

  area_size : length opened.area_after ≡ area.1
  area_size = let d : Bank = first_of banks i of_i.0 in opened.area_size d ∙ place_size table banks kept k area d of_k

  second_size : length opened.second_after ≡ second.1
  second_size = let d : Bank = first_of banks i of_i.0 in opened.second_size d ∙ place_size table banks kept l second d of_l

  one_done : IsDone table banks opened.one flash.0 []
  one_done = bank_done table banks kept opened.one i flash [] of_i (omega arith) opened.first_put

  two_done : IsDone table opened.one opened.two ram.0 opened.after
  two_done = place_done table opened.one one_done.kept opened.two j ram opened.after (place_still banks opened.one j ram one_done.spans of_j) size opened.second_put

  three_done : IsDone table opened.two opened.three area.0 opened.area_after
  three_done = place_done table opened.two two_done.kept opened.three k area opened.area_after (place_still banks opened.two k area (two_done.spans ∙ one_done.spans) of_k) area_size opened.third_put

  all_done : IsDone table opened.three after second.0 opened.second_after
  all_done = place_done table opened.three three_done.kept after l second opened.second_after (place_still banks opened.three l second (three_done.spans ∙ (two_done.spans ∙ one_done.spans)) of_l) second_size opened.fourth_put

  -- the banks after it
  pub all_kept : AreKept table after
  all_kept = all_done.kept

  pub all_spans : spans_of after ≡ spans_of banks
  all_spans = all_done.spans ∙ (three_done.spans ∙ (two_done.spans ∙ one_done.spans))

  pub all_window : AreTwo (Some i) j → AreTwo (Some i) k → AreTwo j k → AreTwo (Some i) l → AreTwo j l → AreTwo k l → IsOpened did (seen banks) flash ram area second s s' (seen after)
  all_window apart beside two second_beside second_two areas =
      let d : Bank = first_of banks i of_i.0 in
      let same : seen opened.one ≡ seen banks = one_done.value ∙ sym (with_bytes_none (seen banks) flash.0 [] refl) in
      let ram_done : seen opened.two ≡ with_bytes (seen banks) ram.0 opened.after = two_done.value ∙ ap (λ m. with_bytes m ram.0 opened.after) same in
      record {
        flash_there = in_memory table banks kept i flash of_i;
        ram_there = place_there table banks kept j ram of_j;
        area_there = place_there table banks kept k area of_k;
        second_there = place_there table banks kept l second of_l;
        apart = bank_apart table banks kept i j flash ram of_i of_j apart;
        area_apart = (bank_apart table banks kept i k flash area of_i of_k beside, places_apart table banks kept j k ram area of_j of_k two);
        second_apart = (
          bank_apart table banks kept i l flash second of_i of_l second_beside,
          places_apart table banks kept j l ram second of_j of_l second_two,
          places_apart table banks kept k l area second of_k of_l areas,
        );
        after = opened.after;
        area_after = opened.area_after;
        second_after = opened.second_after;
        work = rw (bank_bytes table banks i flash d kept of_i, place_bytes table banks kept j ram d of_j, place_bytes table banks kept k area d of_k, place_bytes table banks kept l second d of_l) (opened.work d);
        size = size;
        area_size = area_size;
        second_size = second_size;
        left = all_done.value ∙ ap (λ m. with_bytes m second.0 opened.second_after) (three_done.value ∙ ap (λ m. with_bytes m area.0 opened.area_after) ram_done);
      }

-- banks in order are different ones
two_behind : (i j : ℕ) (l : Option ℕ) → i ≤ j → IsBehind j l → AreTwo (Some i) l
two_behind i j None low behind = tt
two_behind i j (Some k) low behind = λ e. omega (arith, e, low, behind)

pub rising_window : {B : Type 0} (did : Doing B) (table : List ℕ) (banks after : List Bank) (i j k : ℕ) (l : Option ℕ) (flash ram area second : ℕ × ℕ) (s s' : B) → AreKept table banks → AreRising banks i j k l flash ram area second → AreAllOpened did banks i (Some j) (Some k) l s s' after → IsOpened did (seen banks) flash ram area second s s' (seen after)
rising_window did table banks after i j k l flash ram area second s s' kept there opened =
    all_window did table banks after i (Some j) (Some k) l flash ram area second s s' kept there.3 there.4 there.5 there.6 opened (λ e. omega (arith, e, there.0)) (λ e. omega (arith, e, there.0, there.1)) (λ e. omega (arith, e, there.1)) (two_behind i k l (omega (arith, there.0, there.1)) there.2) (two_behind j k l (omega (arith, there.1)) there.2) (two_behind k k l (omega arith) there.2)

-- ## the banks of regions that were given
-- the bank that has the first byte of a region's bank is that one
same_bank : (table : List ℕ) (banks : List Bank) (j o k : ℕ) (r : ℕ × ℕ) → AreKept table banks → IsAt banks j o r.0 → 0 < r.1 → IsBankOf banks k r → j ≢ k → ⊥
same_bank table banks j o k r kept at some of_k other =
    let d : Bank = first_of banks k of_k.0 in
    let here = at.1 d in
    let there = of_k.1 d in
    elim (banks_apart 0x08000000 0x20000000 banks j k d kept.laid (omega (arith, kept.flash)) at.0 of_k.0 other) [
      | inl x ↦ omega arith
      | inr x ↦ omega arith
    ]

pub no_bank_nowhere : (banks : List Bank) (r : ℕ × ℕ) → ((k o : ℕ) → IsAt banks k o r.0 → ⊥) → HasNoBank banks r
no_bank_nowhere banks r nowhere k some of_k = nowhere k 0 (of_k.0, λ d. let there = of_k.1 d in (omega arith, omega arith))

-- another bank has its first byte, or has others too
pub no_bank_other : (table : List ℕ) (banks : List Bank) (j o : ℕ) (r : ℕ × ℕ) → AreKept table banks → IsAt banks j o r.0 → (IsBankOf banks j r → ⊥) → HasNoBank banks r
no_bank_other table banks j o r kept at not_j k some of_k = same_bank table banks j o k r kept at some of_k (λ e. not_j (rw e of_k))

pub given_bank : (regions : List (ℕ × ℕ)) (banks : List Bank) (r : ℕ × ℕ) → AreParts regions (spans_of banks) → Contains regions r → (k : ℕ) × IsBankOf banks k r
given_bank regions banks r parts given =
    let c = parts.given r given in
    let there : c.0 < length banks = omega (arith, c.1, span_length banks) in (
      c.0,
      (
        there,
        λ d.
            let e = sym (span_at banks c.0 d r there) ∙ c.2 in
            (ap (λ (q : ℕ × ℕ). q.0) e, ap (λ (q : ℕ × ℕ). q.1) e),
      ),
    )

given_found : (regions : List (ℕ × ℕ)) (banks : List Bank) (r : ℕ × ℕ) → AreParts regions (spans_of banks) → Contains regions r → 0 < r.1 → HasNoBank banks r → ⊥
given_found regions banks r parts given some none = let b = given_bank regions banks r parts given in none b.0 some b.1

pub text_found : (regions : List (ℕ × ℕ)) (banks : List Bank) (flash ram area second : ℕ × ℕ) → AreParts regions (spans_of banks) → AreGiven regions flash ram area second → HasNoBank banks flash → ⊥
text_found regions banks flash ram area second parts given none = given_found regions banks flash parts given.flash_given given.flash_some none

pub place_found : (regions : List (ℕ × ℕ)) (banks : List Bank) (r : ℕ × ℕ) → AreParts regions (spans_of banks) → IsGivenOrNone regions r → HasNoPlace banks r → ⊥
place_found regions banks r parts (inl none) nowhere = nowhere.0 none
place_found regions banks r parts (inr given) nowhere = given_found regions banks r parts given.0 given.1 (nowhere.1 given.2)

-- those that were given have banks of their own
pub code_apart : (banks : List Bank) (i : ℕ) (o : Option ℕ) (flash r : ℕ × ℕ) → flash.0 < 0x20000000 → IsBankOf banks i flash → IsPlaceOf banks o r → AreTwo (Some i) o
code_apart banks i None flash r below of_i p = tt
code_apart banks i (Some j) flash r below of_i p = λ same.
    let d : Bank = first_of banks i of_i.0 in
    let here = (of_i.1 d).0 in
    let there = rw (← same) at ((p.0.1 d).0) in
    omega (arith, here, there, below, p.1)

pub data_apart : (banks : List Bank) (o q : Option ℕ) (r s : ℕ × ℕ) → IsNoRegion s ⊎ (r ≢ s) → IsPlaceOf banks o r → IsPlaceOf banks q s → AreTwo o q
data_apart banks None q r s other p p' = tt
data_apart banks (Some i) None r s other p p' = tt
data_apart banks (Some i) (Some j) r s (inl none) p p' = absurd (p'.2 none)
data_apart banks (Some i) (Some j) r s (inr other) p p' = λ same.
    let d : Bank = first_of banks i p.0.0 in
    let here = p.0.1 d in
    let there = rw (← same) at (p'.0.1 d) in
    other (pair (sym here.0 ∙ there.0) (sym here.1 ∙ there.1))
  where
    pair : r.0 ≡ s.0 → r.1 ≡ s.1 → r ≡ s
    pair e f = rw (e, f) refl

-- a region is another than each of two
pub first_other : (r s t : ℕ × ℕ) → IsNoRegion t ⊎ ((r ≢ t) × (s ≢ t)) → IsNoRegion t ⊎ (r ≢ t)
first_other r s t (inl none) = inl none
first_other r s t (inr others) = inr others.0

pub last_other : (r s t : ℕ × ℕ) → IsNoRegion t ⊎ ((r ≢ t) × (s ≢ t)) → IsNoRegion t ⊎ (s ≢ t)
last_other r s t (inl none) = inl none
last_other r s t (inr others) = inr others.1

-- what the code's test of a region says
pub no_region : (ram : ℕ × ℕ) (r : Bool) → r ≡ (eqb ram.0 0x20000000 && eqb ram.1 0) → r ≡ true → IsNoRegion ram
no_region ram r e is = search rules

pub some_region : (ram : ℕ × ℕ) (r : Bool) → r ≡ (eqb ram.0 0x20000000 && eqb ram.1 0) → r ≡ false → IsNoRegion ram → ⊥
some_region ram r e isnt none = search rules
