-- Where a key stands among the keys of the order.
use Rattle.std.proofs.Common.{◌≡◌, ◌<◌, ◌≤◌, ℕ, List, length, get_or, refl, subst, arith}
use Rattle.std.specs.Ordering.{nat_cmp, ordering_index, MatchOrdering}
use Rattle.std.specs.declared.cmp.Ordering.TheVariants.{Less, Equal, Greater}
use Rattle.std.specs.List.Sorted.{IsPartitionPoint, IsNonDecreasingBy}
use Rattle.std.proofs.lemmas.Bool.Decides.{nat_tests}
use Rattle.std.proofs.lemmas.Cmp.{ranked}
use Rattle.std.proofs.lemmas.List.{get_or_default}
use Rattle.task_table.specs.kept.Order.{AreOrdered, IsPlaceOf, key_in}
use Rattle.task_table.proofs.kept.Choices.{not_below}

is_less : (x y : ℕ) → nat_cmp x y ≡ Less → x < y
is_less x y h = subst (λ r. MatchOrdering r (x < y) (x ≡ y) (y < x)) h (ranked x y (nat_cmp x y) refl)

is_equal : (x y : ℕ) → nat_cmp x y ≡ Equal → x ≡ y
is_equal x y h = subst (λ r. MatchOrdering r (x < y) (x ≡ y) (y < x)) h (ranked x y (nat_cmp x y) refl)

is_greater : (x y : ℕ) → nat_cmp x y ≡ Greater → y < x
is_greater x y h = subst (λ r. MatchOrdering r (x < y) (x ≡ y) (y < x)) h (ranked x y (nat_cmp x y) refl)

not_falling : (x y z : ℕ) → x ≤ y → ordering_index (nat_cmp x z) ≤ ordering_index (nat_cmp y z)
not_falling x y z le = grind (arith, nat_tests)

pub place_found : (ps keys places : List ℕ) (key place : ℕ) → AreOrdered ps keys places → place < length keys → nat_cmp (key_in keys place) key ≡ Equal → IsPlaceOf keys key place
place_found ps keys places key place h inside e =
    let same = is_equal (key_in keys place) key e in
    record {
      below = λ p lt. let up = h.rising p place lt (omega (arith, inside, h.key_count)) in omega (arith, up, same);
      above = λ p le within. let up = not_below ps keys places place p h le (omega (arith, within, h.key_count)) in omega (arith, up, same);
    }

pub place_between : (ps keys places : List ℕ) (key place : ℕ) → AreOrdered ps keys places → place ≤ length keys → (IsNonDecreasingBy (λ y. ordering_index (nat_cmp y key)) keys → IsPartitionPoint (λ y. nat_cmp y key ≡ Less) (λ y. nat_cmp y key ≡ Greater) keys place) → IsPlaceOf keys key place
place_between ps keys places key place h inside f =
    let parts : IsPartitionPoint (λ y. nat_cmp y key ≡ Less) (λ y. nat_cmp y key ≡ Greater) keys place = f (λ i j d le within. not_falling (get_or keys i d) (get_or keys j d) key (same_place i j d le within)) in
    record {
      below = λ p lt. is_less (key_in keys p) key (parts.0 p 0 (omega arith) lt);
      above = λ p le within. let gt : key < key_in keys p = is_greater (key_in keys p) key (parts.1 p 0 le within) in omega (arith, gt);
    }
  where
    same_place : (i j d : ℕ) → i ≤ j → j < length keys → get_or keys i d ≤ get_or keys j d
    same_place i j d le within =
        let low = not_below ps keys places i j h le (omega (arith, within, h.key_count)) in
        let a : get_or keys i d ≡ key_in keys i = get_or_default keys i d 0 (omega (arith, le, within)) in
        let b : get_or keys j d ≡ key_in keys j = get_or_default keys j d 0 within in
        omega (arith, low, a, b)
