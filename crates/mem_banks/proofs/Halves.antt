-- A list of banks in two parts, of each of which one bank is changed.
use Rattle.std.proofs.Common.{ℕ, ◌≡◌, ◌≢◌, ◌<◌, ◌-◌, ◌++◌, List, [], Option, Some, None, length, get_or, set, refl, ap, sym, subst, ◌∙◌, arith, length-take, length-drop}
use Rattle.std.proofs.lemmas.List.{get_or_default, get_or-set_same, get_or-set_other, set-set, set_comm, get_or_append_left, get_or-append_right, set-get_or, set-append_left, set-append_right, length-append, length-set, same_lists, places, nil_from_length}
use Rattle.mem_banks.specs.declared.bank.Bank.{Bank}
use Rattle.mem_banks.specs.Banks.{IsPut}
use Rattle.mem_banks.specs.Windows.{Doing, AreOpened, AreOpenedBeside, AreAllOpened, AreTwo, bytes_in, IsPutIn}
use Rattle.mem_banks.specs.Memory.{pasted}

-- a bank put in place of one
pub put_at : (old after : List Bank) (k o : ℕ) (new : List ℕ) (x b : Bank) → k < length old → b ≡ get_or old k b → after ≡ set old k x → x.base ≡ b.base → x.bytes.items ≡ pasted b.bytes.items o new → IsPut old k o new after
put_at old after k o new x b there e is base bytes = (
  x,
  is,
  λ d.
      let same : get_or old k d ≡ b = get_or_default old k d b there ∙ sym e in
      (rw same base, rw same bytes),
)

-- what stands in the two parts of a list
pub set_back : (old front back : List Bank) (k : ℕ) (x : Bank) → old ≡ front ++ back → length front ≡ k → front ++ set back 0 x ≡ set old k x
set_back old front back k x e n =
    let z : k - k ≡ 0 = omega arith in
    rw (e, set-append_right front back k k x n (omega arith), z)

pub set_front : (old front back : List Bank) (k : ℕ) (x : Bank) → old ≡ front ++ back → k < length front → set front k x ++ back ≡ set old k x
set_front old front back k x e there = rw (e, set-append_left front back k x there)

pub get_back : (old front back : List Bank) (k : ℕ) (d : Bank) → old ≡ front ++ back → length front ≡ k → get_or old k d ≡ get_or back 0 d
get_back old front back k d e n =
    let z : k - k ≡ 0 = omega arith in
    rw (e, get_or-append_right front back k k d n (omega arith), z)

pub get_front : (old front back : List Bank) (k : ℕ) (d : Bank) → old ≡ front ++ back → k < length front → get_or old k d ≡ get_or front k d
get_front old front back k d e there = rw e (get_or_append_left front back d k there)

-- ## one bank of each part at hand
whole_none : (xs : List ℕ) → xs ≡ pasted xs 0 []
whole_none xs = same_lists _ _ (simp (length-append, length-drop) (omega arith)) (λ i d u. grind (arith, places))

whole_new : (xs ys : List ℕ) → length ys ≡ length xs → ys ≡ pasted xs 0 ys
whole_new xs ys n = same_lists _ _ (simp (length-append, length-take, length-drop) (omega arith)) (λ i d u. grind (arith, places))

-- x stands for the first one, p, and y for the second one, q
pub two_by : {B : Type 0} (did : Doing B) (old between after : List Bank) (i j : ℕ) (s s' : B) (x y p q : Bank) (area left second second_left : List ℕ) → i < length old → j < length old → p ≡ get_or old i p → q ≡ get_or old j q → q ≡ get_or between j q → between ≡ set old i x → after ≡ set between j y → x.base ≡ p.base → y.base ≡ q.base → x.bytes.items ≡ p.bytes.items → length y.bytes.items ≡ length q.bytes.items → length left ≡ length area → length second_left ≡ length second →
    did s p.bytes.items q.bytes.items area second s' y.bytes.items left second_left → AreOpened did old i (Some j) area second s s' after left second_left
two_by did old between after i j s s' x y p q area left second second_left there_i there_j is_p is_q stays is_between is_after base_x base_y same size area_size second_size work =
    let at_p : (d : Bank) → get_or old i d ≡ p = λ d. get_or_default old i d p there_i ∙ sym is_p in
    let at_q : (d : Bank) → get_or old j d ≡ q = λ d. get_or_default old j d q there_j ∙ sym is_q in
    let count : length between ≡ length old = rw is_between (length-set old i x) in
    record {
      after = y.bytes.items;
      work = λ d. let done : did s (get_or old i d).bytes.items (get_or old j d).bytes.items area second s' y.bytes.items left second_left = rw (at_p d, at_q d) work in done;
      size = λ d. size ∙ ap (λ (b : Bank). length b.bytes.items) (sym (at_q d));
      area_size = area_size;
      second_size = second_size;
      between = between;
      first_put = put_at old between i 0 [] x p there_i is_p is_between base_x (same ∙ whole_none p.bytes.items);
      second_put = put_at between after j 0 y.bytes.items y q (omega (arith, count, there_j)) stays is_after base_y (whole_new q.bytes.items y.bytes.items size);
    }

-- ## one bank beside no bytes
pub one_by : {B : Type 0} (did : Doing B) (old after : List Bank) (i : ℕ) (s s' : B) (x p : Bank) (none some area left second second_left : List ℕ) → i < length old → p ≡ get_or old i p → after ≡ set old i x → x.base ≡ p.base → x.bytes.items ≡ p.bytes.items → none ≡ [] → length some ≡ length none → length left ≡ length area → length second_left ≡ length second → did s p.bytes.items none area second s' some left second_left → AreOpened did old i None area second s s' after left second_left
one_by did old after i s s' x p none some area left second second_left there is_p is_after base same empty size area_size second_size work =
    let at_p : (d : Bank) → get_or old i d ≡ p = λ d. get_or_default old i d p there ∙ sym is_p in
    let nothing : some ≡ [] = nil_from_length _ (size ∙ ap length empty) in
    record {
      after = [];
      work = λ d. rw (at_p d) (rw (empty, nothing) at work);
      size = λ d. refl;
      area_size = area_size;
      second_size = second_size;
      between = after;
      first_put = put_at old after i 0 [] x p there is_p is_after base (same ∙ whole_none p.bytes.items);
      second_put = refl;
    }

-- ## a further bank, from which the bytes are taken meanwhile

-- what is put in another bank is put beside it
record IsBeside (k : ℕ) (e : Bank) (xs ys zs : List Bank) : Type 0 where
  same : zs ≡ set ys k e
  there : length ys ≡ length xs
  stays : (d : Bank) → get_or ys k d ≡ get_or xs k d

put_beside : (old after : List Bank) (k i o : ℕ) (new : List ℕ) (e : Bank) → i ≢ k → IsPut (set old k e) i o new after → (one : List Bank) × IsPut old i o new one × IsBeside k e old one after
put_beside old after k i o new e other (b, is, puts) = (
  set old i b,
  (b, refl, λ d. let here : get_or (set old k e) i d ≡ get_or old i d = get_or-set_other old k i e d other in rw here at (puts d)),
  record {
    same = is ∙ set_comm old k i e b (λ x. other (sym x));
    there = length-set old i b;
    stays = λ d. get_or-set_other old i k b d (λ x. other (sym x));
  },
)

put_in_beside : (old after : List Bank) (k : ℕ) (j : Option ℕ) (new : List ℕ) (e : Bank) → AreTwo j (Some k) → IsPutIn (set old k e) j new after → (two : List Bank) × IsPutIn old j new two × IsBeside k e old two after
put_in_beside old after k (Some j) new e other put = put_beside old after k j 0 new e other put
put_in_beside old after k None new e other same = (old, refl, record { same = same; there = refl; stays = λ d. refl })

bytes_beside : (old : List Bank) (k : ℕ) (e : Bank) (j : Option ℕ) (d : Bank) → AreTwo j (Some k) → bytes_in (set old k e) j d ≡ bytes_in old j d
bytes_beside old k e (Some j) d other = ap (λ (b : Bank). b.bytes.items) (get_or-set_other old k j e d other)
bytes_beside old k e None d other = refl

-- one put after the other
then_beside : (k : ℕ) (e : Bank) (xs ys zs vs ws : List Bank) → IsBeside k e xs ys zs → IsBeside k e ys vs ws → IsBeside k e xs vs ws
then_beside k e xs ys zs vs ws one two = record { same = two.same; there = two.there ∙ one.there; stays = λ d. two.stays d ∙ one.stays d }

-- what is put where some banks stand beside it is put where others that are the same do
put_from : (old new after : List Bank) (j : Option ℕ) (bytes : List ℕ) → old ≡ new → IsPutIn old j bytes after → IsPutIn new j bytes after
put_from old new after j bytes same = subst (λ (xs : List Bank). IsPutIn xs j bytes after) same

-- the bytes of a bank, whoever asks
bytes_there : (old : List Bank) (k : ℕ) (p d : Bank) → k < length old → p ≡ get_or old k p → p.bytes.items ≡ (get_or old k d).bytes.items
bytes_there old k p d there is_p = ap (λ (b : Bank). b.bytes.items) (is_p ∙ sym (get_or_default old k d p there))

-- e stands for the bank, p, without its bytes, and z with those that were left
put_back : (old there after final : List Bank) (k : ℕ) (e p q z : Bank) (left : List ℕ) → k < length old → p ≡ get_or old k p → e.base ≡ p.base → length left ≡ length p.bytes.items → IsBeside k e old there after → q ≡ get_or after k q → z.base ≡ q.base → z.bytes.items ≡ left → final ≡ set after k z → IsPut there k 0 left final
put_back old there after final k e p q z left within is_p base size beside is_q base_z bytes_z is_final =
    let kept : (d : Bank) → get_or there k d ≡ p = λ d. beside.stays d ∙ (get_or_default old k d p within ∙ sym is_p) in
    let count = beside.there in
    let is_e : q ≡ e = is_q ∙ ap (λ (xs : List Bank). get_or xs k q) beside.same ∙ get_or-set_same there k e q (omega (arith, count)) in (
      z,
      is_final ∙ ap (λ (xs : List Bank). set xs k z) beside.same ∙ set-set there k e z,
      λ d. rw (kept d) (base_z ∙ ap (λ (b : Bank). b.base) is_e ∙ base, bytes_z ∙ whole_new p.bytes.items left size),
    )

-- ## the bank of the first area, and that of the second one
pub area_by : {B : Type 0} (did : Doing B) (old after final : List Bank) (i : ℕ) (j : Option ℕ) (k : ℕ) (s s' : B) (e p q z : Bank) (left second second_left : List ℕ) → k < length old → p ≡ get_or old k p → e.base ≡ p.base → AreTwo (Some i) (Some k) → AreTwo j (Some k) → AreOpened did (set old k e) i j p.bytes.items second s s' after left second_left →
    q ≡ get_or after k q → z.base ≡ q.base → z.bytes.items ≡ left → final ≡ set after k z → AreOpenedBeside did old i j (Some k) second s s' final second_left
area_by did old after final i j k s s' e p q z left second second_left there is_p base other_i other_j opened is_q base_z bytes_z is_final =
    let one = put_beside old opened.between k i 0 [] e other_i opened.first_put in
    let two = put_in_beside one.0 after k j opened.after e other_j (put_from opened.between (set one.0 k e) after j opened.after one.2.same opened.second_put) in
    record {
      after = opened.after;
      area_after = left;
      work = λ d.
          let here : get_or (set old k e) i d ≡ get_or old i d = get_or-set_other old k i e d other_i in
          let done : did s (get_or old i d).bytes.items (bytes_in old j d) p.bytes.items second s' opened.after left second_left = rw (here, bytes_beside old k e j d other_j) at (opened.work d) in
          subst (λ (xs : List ℕ). did s (get_or old i d).bytes.items (bytes_in old j d) xs second s' opened.after left second_left) (bytes_there old k p d there is_p) done;
      size = λ d. opened.size d ∙ ap (λ (xs : List ℕ). length xs) (bytes_beside old k e j d other_j);
      area_size = λ d. opened.area_size ∙ ap (λ (xs : List ℕ). length xs) (bytes_there old k p d there is_p);
      second_size = opened.second_size;
      one = one.0;
      two = two.0;
      first_put = one.1;
      second_put = two.1;
      third_put = put_back old two.0 after final k e p q z left there is_p base opened.area_size (then_beside k e old one.0 opened.between two.0 after one.2 two.2) is_q base_z bytes_z is_final;
    }

pub second_by : {B : Type 0} (did : Doing B) (old after final : List Bank) (i : ℕ) (j l : Option ℕ) (k : ℕ) (s s' : B) (e p q z : Bank) (left : List ℕ) → k < length old → p ≡ get_or old k p → e.base ≡ p.base → AreTwo (Some i) (Some k) → AreTwo j (Some k) → AreTwo l (Some k) → AreOpenedBeside did (set old k e) i j l p.bytes.items s s' after left →
    q ≡ get_or after k q → z.base ≡ q.base → z.bytes.items ≡ left → final ≡ set after k z → AreAllOpened did old i j l (Some k) s s' final
second_by did old after final i j l k s s' e p q z left there is_p base other_i other_j other_l opened is_q base_z bytes_z is_final =
    let one = put_beside old opened.one k i 0 [] e other_i opened.first_put in
    let two = put_in_beside one.0 opened.two k j opened.after e other_j (put_from opened.one (set one.0 k e) opened.two j opened.after one.2.same opened.second_put) in
    let three = put_in_beside two.0 after k l opened.area_after e other_l (put_from opened.two (set two.0 k e) after l opened.area_after two.2.same opened.third_put) in
    record {
      after = opened.after;
      area_after = opened.area_after;
      second_after = left;
      work = λ d.
          let here : get_or (set old k e) i d ≡ get_or old i d = get_or-set_other old k i e d other_i in
          let done : did s (get_or old i d).bytes.items (bytes_in old j d) (bytes_in old l d) p.bytes.items s' opened.after opened.area_after left = rw (here, bytes_beside old k e j d other_j, bytes_beside old k e l d other_l) at (opened.work d) in
          subst (λ (xs : List ℕ). did s (get_or old i d).bytes.items (bytes_in old j d) (bytes_in old l d) xs s' opened.after opened.area_after left) (bytes_there old k p d there is_p) done;
      size = λ d. opened.size d ∙ ap (λ (xs : List ℕ). length xs) (bytes_beside old k e j d other_j);
      area_size = λ d. opened.area_size d ∙ ap (λ (xs : List ℕ). length xs) (bytes_beside old k e l d other_l);
      second_size = λ d. opened.second_size ∙ ap (λ (xs : List ℕ). length xs) (bytes_there old k p d there is_p);
      one = one.0;
      two = two.0;
      three = three.0;
      first_put = one.1;
      second_put = two.1;
      third_put = three.1;
      fourth_put = put_back old three.0 after final k e p q z left there is_p base opened.second_size (then_beside k e old two.0 opened.two three.0 after (then_beside k e old one.0 opened.one two.0 opened.two one.2 two.2) three.2) is_q base_z bytes_z is_final;
    }

-- ## banks before those of the areas
put_wider : (front back after : List Bank) (k o : ℕ) (new : List ℕ) → k < length front → IsPut front k o new after → IsPut (front ++ back) k o new (after ++ back)
put_wider front back after k o new there (b, is, puts) = (
  b,
  ap (λ (xs : List Bank). xs ++ back) is ∙ sym (set-append_left front back k b there),
  λ d. rw (get_or_append_left front back d k there) (puts d),
)

put_length : (old after : List Bank) (k o : ℕ) (new : List ℕ) → IsPut old k o new after → length after ≡ length old
put_length old after k o new (b, is, puts) = ap (λ (xs : List Bank). length xs) is ∙ length-set old k b

bytes_wider : (front back : List Bank) (k : ℕ) (d : Bank) → k < length front → bytes_in (front ++ back) (Some k) d ≡ bytes_in front (Some k) d
bytes_wider front back k d there = ap (λ (b : Bank). b.bytes.items) (get_or_append_left front back d k there)

opened_wider : {B : Type 0} (did : Doing B) (front back after : List Bank) (i j : ℕ) (area second left second_left : List ℕ) (s s' : B) → i < length front → j < length front → AreOpened did front i (Some j) area second s s' after left second_left → AreOpened did (front ++ back) i (Some j) area second s s' (after ++ back) left second_left
opened_wider did front back after i j area second left second_left s s' there_i there_j opened =
    let count = put_length front opened.between i 0 [] opened.first_put in
    record {
      after = opened.after;
      work = λ d. rw (get_or_append_left front back d i there_i, bytes_wider front back j d there_j) (opened.work d);
      size = λ d. opened.size d ∙ ap (λ (xs : List ℕ). length xs) (sym (bytes_wider front back j d there_j));
      area_size = opened.area_size;
      second_size = opened.second_size;
      between = opened.between ++ back;
      first_put = put_wider front back opened.between i 0 [] there_i opened.first_put;
      second_put = put_wider opened.between back after j 0 opened.after (omega (arith, count, there_j)) opened.second_put;
    }

beside_wider : {B : Type 0} (did : Doing B) (front back after : List Bank) (i j k : ℕ) (second left : List ℕ) (s s' : B) → i < length front → j < length front → k < length front → AreOpenedBeside did front i (Some j) (Some k) second s s' after left → AreOpenedBeside did (front ++ back) i (Some j) (Some k) second s s' (after ++ back) left
beside_wider did front back after i j k second left s s' there_i there_j there_k opened =
    let count = put_length front opened.one i 0 [] opened.first_put in
    let count_two = put_length opened.one opened.two j 0 opened.after opened.second_put in
    record {
      after = opened.after;
      area_after = opened.area_after;
      work = λ d. rw (get_or_append_left front back d i there_i, bytes_wider front back j d there_j, bytes_wider front back k d there_k) (opened.work d);
      size = λ d. opened.size d ∙ ap (λ (xs : List ℕ). length xs) (sym (bytes_wider front back j d there_j));
      area_size = λ d. opened.area_size d ∙ ap (λ (xs : List ℕ). length xs) (sym (bytes_wider front back k d there_k));
      second_size = opened.second_size;
      one = opened.one ++ back;
      two = opened.two ++ back;
      first_put = put_wider front back opened.one i 0 [] there_i opened.first_put;
      second_put = put_wider opened.one back opened.two j 0 opened.after (omega (arith, count, there_j)) opened.second_put;
      third_put = put_wider opened.two back after k 0 opened.area_after (omega (arith, count, count_two, there_k)) opened.third_put;
    }

-- the bank p behind them, and z with the bytes that were left of it
pub three_by : {B : Type 0} (did : Doing B) (old front back after final : List Bank) (i j k : ℕ) (s s' : B) (p z : Bank) (left second second_left : List ℕ) → old ≡ front ++ back → length front ≡ k → k < length old → i < j → j < k → p ≡ get_or back 0 p → z.base ≡ p.base → z.bytes.items ≡ left → length after ≡ k → final ≡ after ++ set back 0 z →
    AreOpened did front i (Some j) p.bytes.items second s s' after left second_left → AreOpenedBeside did old i (Some j) (Some k) second s s' final second_left
three_by did old front back after final i j k s s' p z left second second_left split len there order behind is_p base bytes count is_final opened =
    let at_p : p ≡ get_or old k p = is_p ∙ sym (get_back old front back k p split len) in
    let same : set old k p ≡ front ++ back = ap (λ (b : Bank). set old k b) at_p ∙ set-get_or old k p ∙ split in
    let wide = opened_wider did front back after i j p.bytes.items second left second_left s s' (omega (arith, len, order, behind)) (omega (arith, len, behind)) opened in
    let all = subst (λ (xs : List Bank). AreOpened did xs i (Some j) p.bytes.items second s s' (after ++ back) left second_left) (sym same) wide in
    let left_p : p ≡ get_or (after ++ back) k p = is_p ∙ sym (get_back (after ++ back) after back k p refl count) in
    area_by did old (after ++ back) final i (Some j) k s s' p p p z left second second_left there at_p refl (λ e. omega (arith, e, order, behind)) (λ e. omega (arith, e, behind)) all left_p base bytes (is_final ∙ set_back (after ++ back) after back k z refl count)

pub four_by : {B : Type 0} (did : Doing B) (old front back after final : List Bank) (i j k l : ℕ) (s s' : B) (p z : Bank) (left : List ℕ) → old ≡ front ++ back → length front ≡ l → l < length old → i < j → j < k → k < l → p ≡ get_or back 0 p → z.base ≡ p.base → z.bytes.items ≡ left → length after ≡ l → final ≡ after ++ set back 0 z →
    AreOpenedBeside did front i (Some j) (Some k) p.bytes.items s s' after left → AreAllOpened did old i (Some j) (Some k) (Some l) s s' final
four_by did old front back after final i j k l s s' p z left split len there order behind last is_p base bytes count is_final opened =
    let at_p : p ≡ get_or old l p = is_p ∙ sym (get_back old front back l p split len) in
    let same : set old l p ≡ front ++ back = ap (λ (b : Bank). set old l b) at_p ∙ set-get_or old l p ∙ split in
    let wide = beside_wider did front back after i j k p.bytes.items left s s' (omega (arith, len, order, behind, last)) (omega (arith, len, behind, last)) (omega (arith, len, last)) opened in
    let all = subst (λ (xs : List Bank). AreOpenedBeside did xs i (Some j) (Some k) p.bytes.items s s' (after ++ back) left) (sym same) wide in
    let left_p : p ≡ get_or (after ++ back) l p = is_p ∙ sym (get_back (after ++ back) after back l p refl count) in
    second_by did old (after ++ back) final i (Some j) (Some k) l s s' p p p z left there at_p refl (λ e. omega (arith, e, order, behind, last)) (λ e. omega (arith, e, behind, last)) (λ e. omega (arith, e, last)) all left_p base bytes (is_final ∙ set_back (after ++ back) after back l z refl count)

pub without_second : {B : Type 0} (did : Doing B) (old after : List Bank) (i : ℕ) (j k : Option ℕ) (s s' : B) (second left : List ℕ) → second ≡ [] → AreOpenedBeside did old i j k second s s' after left → AreAllOpened did old i j k None s s' after
without_second did old after i j k s s' second left none opened =
    let nothing : left ≡ [] = nil_from_length left (opened.second_size ∙ ap (λ (xs : List ℕ). length xs) none) in
    record {
      after = opened.after;
      area_after = opened.area_after;
      second_after = [];
      work = λ d. rw (none, nothing) at (opened.work d);
      size = opened.size;
      area_size = opened.area_size;
      second_size = λ d. refl;
      one = opened.one;
      two = opened.two;
      three = after;
      first_put = opened.first_put;
      second_put = opened.second_put;
      third_put = opened.third_put;
      fourth_put = refl;
    }

-- ## no areas
pub without_areas : {B : Type 0} (did : Doing B) (old after : List Bank) (i : ℕ) (j : Option ℕ) (s s' : B) (area left second second_left : List ℕ) → area ≡ [] → second ≡ [] → AreOpened did old i j area second s s' after left second_left → AreAllOpened did old i j None None s s' after
without_areas did old after i j s s' area left second second_left none none_second opened =
    let nothing : left ≡ [] = nil_from_length left (opened.area_size ∙ ap (λ (xs : List ℕ). length xs) none) in
    let no_second : second_left ≡ [] = nil_from_length second_left (opened.second_size ∙ ap (λ (xs : List ℕ). length xs) none_second) in
    record {
      after = opened.after;
      area_after = [];
      second_after = [];
      work = λ d. rw (none, none_second, nothing, no_second) at (opened.work d);
      size = opened.size;
      area_size = λ d. refl;
      second_size = λ d. refl;
      one = opened.between;
      two = after;
      three = after;
      first_put = opened.first_put;
      second_put = opened.second_put;
      third_put = refl;
      fourth_put = refl;
    }
