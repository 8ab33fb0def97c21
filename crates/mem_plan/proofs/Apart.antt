-- A packed order keeps the spans apart.
use Rattle.std.proofs.Common.{◌≡◌, ◌∙◌, ℕ, zero, suc, ◌+◌, ◌-◌, ◌≤◌, ◌<◌, List, sym, ap, arith, length, take, get_or, inl, inr}
use Rattle.std.specs.List.{sum_by, Contains}
use Rattle.std.specs.List.Sorted.{IsPermutation}
use Rattle.std.proofs.lemmas.Bool.{cases_lt, cases_eq}
use Rattle.std.proofs.lemmas.List.{get_or_default}
use Rattle.std.proofs.lemmas.List.Sums.{sum_by_more, sum_by_more_le}
use Rattle.std.proofs.lemmas.List.Sorted.{Contains-permutation}
use Rattle.mem_plan.specs.Order.{IsPacked, Ranked, numbered, size_of}
use Rattle.mem_plan.specs.Placing.{KeepsApart}
use Rattle.mem_plan.specs.Sizes.{total}
use Rattle.mem_plan.proofs.Facts.{get_numbered, length_numbered, same_total}

ranked : List ℕ → ℕ → Ranked
ranked rs i = (record { 0 = get_or rs i 0 }, i)

-- where the order has the i-th
pub record Found (rs : List ℕ) (order : List Ranked) (base : ℕ) (bases : List ℕ) (i : ℕ) : Type 0 where
  pub place : ℕ
  pub below : place < length order
  pub index : (get_or order place (record { 0 = 0 }, 0)).1 ≡ i
  pub size : size_of (get_or order place (record { 0 = 0 }, 0)) ≡ get_or rs i 0
  pub begins : get_or bases i 0 ≡ base + sum_by size_of (take place order)

found : (rs : List ℕ) (order : List Ranked) (base : ℕ) (bases : List ℕ) → IsPermutation (numbered 0 rs) order → IsPacked order base (length order) bases
    → (i : ℕ) → i < length rs → Found rs order base bases i
found rs order base bases perm packed i lt =
    let d : Ranked = (record { 0 = 0 }, 0) in
    let x : Ranked = (record { 0 = get_or rs i 0 }, i) in
    let from_zero : 0 + i ≡ i = omega arith in
    let one : Contains (numbered 0 rs) x = (i, omega (arith, lt, length_numbered 0 rs), get_numbered 0 rs i x lt ∙ ap (λ (j : ℕ). (record { 0 = get_or rs i 0 }, j)) from_zero) in
    let at = Contains-permutation (numbered 0 rs) order x perm one in
    let is : get_or order at.0 d ≡ x = get_or_default order at.0 d x at.1 ∙ at.2 in
    record {
      place = at.0;
      below = at.1;
      index = ap (λ (o : Ranked). o.1) is;
      size = ap size_of is;
      begins = ap (λ (o : Ranked). get_or bases o.1 0) (sym is) ∙ packed at.0 d at.1;
    }

grows : (order : List Ranked) (n g : ℕ) → n + g ≤ length order → sum_by size_of (take n order) ≤ sum_by size_of (take (n + g) order)
grows order n zero le = let e : n + 0 ≡ n = omega arith in rw e (omega arith)
grows order n (suc g) le =
    let e : n + suc g ≡ (n + g) + 1 = omega arith in
    let more = sum_by_more size_of order (n + g) (record { 0 = 0 }, 0) (omega (arith, le)) in
    rw e (omega (arith, more, grows order n g (omega (arith, le))))

later : (order : List Ranked) (p q : ℕ) (d : Ranked) → p < q → q < length order → sum_by size_of (take p order) + size_of (get_or order p d) ≤ sum_by size_of (take q order)
later order p q d lt below =
    let gap : (p + 1) + (q - (p + 1)) ≡ q = omega (arith, lt) in
    let up : sum_by size_of (take (p + 1) order) ≤ sum_by size_of (take ((p + 1) + (q - (p + 1))) order) = grows order (p + 1) (q - (p + 1)) (omega (arith, below, lt)) in
    let same : sum_by size_of (take ((p + 1) + (q - (p + 1))) order) ≡ sum_by size_of (take q order) = ap (λ (n : ℕ). sum_by size_of (take n order)) gap in
    omega (arith, up, same, sum_by_more size_of order p d (omega (arith, lt, below)))

pub keeps_apart : (rs : List ℕ) (order : List Ranked) (base room : ℕ) (bases : List ℕ) → IsPermutation (numbered 0 rs) order → IsPacked order base (length order) bases
    → total rs ≤ room → KeepsApart base room rs bases
keeps_apart rs order base room bases perm packed fits = record {
  inside = λ i lt. let f = found rs order base bases perm packed i lt in
      (omega (arith, f.begins), omega (arith, f.begins, f.size, fits, same_total rs order perm, sum_by_more_le size_of order f.place (record { 0 = 0 }, 0) f.below));
  apart = λ i j li lj other.
      let f = found rs order base bases perm packed i li in
      let g = found rs order base bases perm packed j lj in
      elim (cases_lt f.place g.place) [
        | inl first ↦ inl (omega (arith, f.begins, f.size, g.begins, later order f.place g.place (record { 0 = 0 }, 0) first g.below))
        | inr after ↦ elim (cases_eq f.place g.place) [
          | inl same ↦ absurd (other (sym f.index ∙ ap (λ (n : ℕ). (get_or order n (record { 0 = 0 }, 0)).1) same ∙ g.index))
          | inr differ ↦ inr (omega (arith, f.begins, g.size, g.begins, later order g.place f.place (record { 0 = 0 }, 0) (omega (arith, after, differ)) f.below))
        ]
      ];
}
