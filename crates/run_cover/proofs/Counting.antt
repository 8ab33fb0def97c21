-- A table of counts: the count of an address, and counting one more there.
use Rattle.std.proofs.Common.{◌≡◌, inl, inr, ◌<◌, ◌≤◌, ℕ, eqb, List, length, get_or, set, replicate, Some, None, Vec, Global, refl, sym, ap, ◌∙◌, arith}
use Rattle.std.proofs.lemmas.List.{get_or-set_same, get_or-set_other, length-set, get_or-replicate, get_or_past, length-replicate}
use Rattle.std.proofs.lemmas.Bool.{eq-eqb, ne_eqb, cond-true, cond-false, cases_eq, cases_lt}
use Rattle.run_cover.specs.declared.counts.Count.{Count}
use Rattle.run_cover.specs.declared.counts.PlaceCounts.{PlaceCounts}
use Rattle.run_cover.specs.declared.counts.What.{What}
use Rattle.run_cover.specs.Counted.{no_count, item_at, count_at, count_of, raised_in, IsCounted, IsNewlyCounted}
use Rattle.run_cover.specs.Places.{place_of, address_of}
use Rattle.run_cover.proofs.Numbered.{numbered, placed}

pub count_of_place : (t : PlaceCounts) (a k : ℕ) → place_of a ≡ Some k → count_of t a ≡ item_at t k
unfolding count_of
count_of_place t a k e = ap (count_at t) e

pub count_of_none : (t : PlaceCounts) (a : ℕ) → place_of a ≡ None → count_of t a ≡ no_count
unfolding count_of
count_of_none t a e = ap (count_at t) e

pub count_of_past : (t : PlaceCounts) (a k : ℕ) → place_of a ≡ Some k → length t.counts.items ≤ k → count_of t a ≡ no_count
count_of_past t a k e past = count_of_place t a k e ∙ get_or_past t.counts.items k no_count past

pub no_counts : (t : PlaceCounts) (n : ℕ) → t.counts.items ≡ replicate n no_count → (k : ℕ) → item_at t k ≡ no_count
no_counts t n e k = elim (cases_lt k n) [
  | inl lt ↦ ap (λ (cs : List Count). get_or cs k no_count) e ∙ get_or-replicate n k no_count no_count lt
  | inr le ↦ ap (λ (cs : List Count). get_or cs k no_count) e ∙ get_or_past (replicate n no_count) k no_count (omega (arith, le, length-replicate n no_count))
]

pub some_number : (j k : ℕ) → Some j ≡ Some k → j ≡ k
some_number j k e = cc

pub no_number_here : (j : ℕ) → Some j ≡ None → ⊥
no_number_here j e = cc

-- the place with a number alone has that address
only_there : (at k j : ℕ) → place_of at ≡ Some k → j < 655360 → at ≡ address_of j → j ≡ k
only_there at k j e few is = some_number j k (sym (placed j few) ∙ ap place_of (sym is) ∙ e)

pub counted_there : (t u : PlaceCounts) (at k : ℕ) (what : What) → place_of at ≡ Some k → k < length t.counts.items → u.begun ≡ t.begun → u.counts.items ≡ set t.counts.items k (raised_in what (item_at t k)) → IsCounted t at what u
counted_there t u at k what e inside begun items = record {
  begun = begun;
  as_many = ap length items ∙ length-set t.counts.items k (raised_in what (item_at t k));
  counts = λ j lt few.
      let now = ap (λ (cs : List Count). get_or cs j no_count) items in
      elim (cases_eq j k) [
        | inl same ↦
            let here : at ≡ address_of j = sym (ap address_of same ∙ (numbered at k e).back) in
            now ∙ ap (λ (n : ℕ). get_or (set t.counts.items k (raised_in what (item_at t k))) n no_count) same
            ∙ get_or-set_same t.counts.items k (raised_in what (item_at t k)) no_count inside
            ∙ ap (λ (n : ℕ). raised_in what (item_at t n)) (sym same)
            ∙ sym (cond-true (eqb at (address_of j)) (raised_in what (item_at t j)) (item_at t j) (eq-eqb at (address_of j) here))
        | inr other ↦
            now ∙ get_or-set_other t.counts.items k j (raised_in what (item_at t k)) no_count other
            ∙ sym (cond-false (eqb at (address_of j)) (raised_in what (item_at t j)) (item_at t j) (ne_eqb at (address_of j) (λ is. other (only_there at k j e few is))))
      ];
}

pub counted_nowhere : (t : PlaceCounts) (at : ℕ) (what : What) → ((j : ℕ) → j < length t.counts.items → j < 655360 → place_of at ≡ Some j → ⊥) → IsCounted t at what t
counted_nowhere t at what none = record {
  begun = refl;
  as_many = refl;
  counts = λ j lt few. sym (cond-false (eqb at (address_of j)) (raised_in what (item_at t j)) (item_at t j) (ne_eqb at (address_of j) (λ is. none j lt few (ap place_of is ∙ placed j few))));
}

pub newly_counted : (cs : Vec Count Global) → cs.items ≡ replicate 655360 no_count → IsNewlyCounted record { counts = cs; begun = None }
newly_counted cs all = record {
  as_many = ap length all ∙ length-replicate 655360 no_count;
  none = no_counts record { counts = cs; begun = None } 655360 all;
  begun = refl;
}
