-- The regions of a plan leave no gap.
use Rattle.std.proofs.Common.{◌≡◌, ◌∙◌, ℕ, suc, ◌+◌, ◌-◌, ◌≤◌, ◌<◌, List, [], ◌∷◌, length, take, get_or, sym, ap, arith, inl, inr}
use Rattle.std.specs.List.{sum_by, Contains}
use Rattle.std.specs.List.Sorted.{IsPermutation, IsSorted}
use Rattle.std.proofs.lemmas.Bool.{cases_lt}
use Rattle.std.proofs.lemmas.List.{get_or_default}
use Rattle.std.proofs.lemmas.List.Sums.{sum_by-cons}
use Rattle.std.proofs.lemmas.List.Sorted.{Contains-permutation, IsPermutation-sym}
use Rattle.mem_plan.specs.Order.{Ranked, goes_before, numbered, size_of}
use Rattle.mem_plan.specs.Placing.{placed}
use Rattle.mem_plan.specs.Sizes.{total}
use Rattle.mem_plan.proofs.Facts.{get_numbered, length_numbered, same_total}
use Rattle.mem_plan.proofs.Ordered.{before_place, by_index, earlier}
use Rattle.build_laws.specs.Filling.{LiesIn}
use Rattle.build_laws.proofs.Arranging.{arranged, arranged_all, arranged_sorted}

none : Ranked
none = (record { 0 = 0 }, 0)

-- the place in the order in whose size byte j of them all lies
record Place (order : List Ranked) (j : ℕ) : Type 0 where
  pub place : ℕ
  pub below : place < length order
  pub low : sum_by size_of (take place order) ≤ j
  pub high : j < sum_by size_of (take place order) + size_of (get_or order place none)

place_of : (order : List Ranked) (j : ℕ) → j < sum_by size_of order → Place order j
place_of [] j lt = absurd (omega (arith, lt))
place_of (a ∷ more) j lt = elim (cases_lt j (size_of a)) [
  | inl here ↦ record { place = 0; below = omega arith; low = omega arith; high = omega (arith, here) }
  | inr later ↦
      let p = place_of more (j - size_of a) (omega (arith, lt, later, sum_by-cons size_of a more)) in
      let cons = sum_by-cons size_of a (take p.place more) in
      record { place = suc p.place; below = omega (arith, p.below); low = omega (arith, cons, p.low, later); high = omega (arith, cons, p.high, later) }
]

-- what the sizes before a place sum to is where its size is placed
begins : (base : ℕ) (sizes : List ℕ) (order : List Ranked) → IsPermutation (numbered 0 sizes) order → IsSorted goes_before order
    → (q i : ℕ) → q < length order → get_or order q none ≡ (record { 0 = get_or sizes i 0 }, i) → placed base sizes i ≡ base + sum_by size_of (take q order)
begins base sizes order perm up q i below is =
    let before = before_place sizes order perm up q none below in
    let at : sum_by (earlier (get_or order q none).0.0 (get_or order q none).1) (numbered 0 sizes) ≡ sum_by (earlier (get_or sizes i 0) i) (numbered 0 sizes) =
    ap (λ (o : Ranked). sum_by (earlier o.0.0 o.1) (numbered 0 sizes)) is in
    let from_zero : sum_by (earlier (get_or sizes i 0) i) (numbered 0 sizes) ≡ sum_by (earlier (get_or sizes i 0) (0 + i)) (numbered 0 sizes) =
    let e : i ≡ 0 + i = omega arith in ap (λ (j : ℕ). sum_by (earlier (get_or sizes i 0) j) (numbered 0 sizes)) e in
    sym (ap (λ n. base + n) (before ∙ at ∙ from_zero ∙ by_index (get_or sizes i 0) i 0 sizes))

-- whose size it is
record Owner (sizes : List ℕ) (x : Ranked) : Type 0 where
  pub index : ℕ
  pub below : index < length sizes
  pub is : x ≡ (record { 0 = get_or sizes index 0 }, index)
  pub size : size_of x ≡ get_or sizes index 0

owner : (sizes : List ℕ) (x : Ranked) → Contains (numbered 0 sizes) x → Owner sizes x
owner sizes x (i, lt, is) =
    let below : i < length sizes = omega (arith, lt, length_numbered 0 sizes) in
    let from_zero : 0 + i ≡ i = omega arith in
    let itself : x ≡ (record { 0 = get_or sizes i 0 }, i) = sym is ∙ get_numbered 0 sizes i x below ∙ ap (λ (j : ℕ). (record { 0 = get_or sizes i 0 }, j)) from_zero in
    record { index = i; below = below; is = itself; size = ap size_of itself }

filled_by : (base : ℕ) (sizes : List ℕ) (order : List Ranked) → IsPermutation (numbered 0 sizes) order → IsSorted goes_before order
    → (address : ℕ) → base ≤ address → address < base + total sizes → (i : ℕ) × LiesIn base sizes i address
filled_by base sizes order perm up address low high =
    let p = place_of order (address - base) (omega (arith, low, high, same_total sizes order perm)) in
    let one : Contains order (get_or order p.place none) = (p.place, p.below, get_or_default order p.place (get_or order p.place none) none p.below) in
    let o = owner sizes (get_or order p.place none) (Contains-permutation order (numbered 0 sizes) _ (IsPermutation-sym _ _ perm) one) in
    let begin = begins base sizes order perm up p.place o.index p.below o.is in (
      o.index,
      record {
        index = o.below;
        low = omega (arith, low, begin, p.low);
        high = omega (arith, low, begin, o.size, p.high);
      },
    )

pub filled : (base : ℕ) (sizes : List ℕ) (address : ℕ) → base ≤ address → address < base + total sizes → (i : ℕ) × LiesIn base sizes i address
filled base sizes = filled_by base sizes (arranged (numbered 0 sizes)) (arranged_all (numbered 0 sizes)) (arranged_sorted (numbered 0 sizes))
