-- How many offers are left after one more saying.
use Rattle.std.proofs.Common.{◌≡◌, ℕ, suc, zero, ◌+◌, ◌≤◌, inl, inr, Bool, true, false, cond, eqb, not, ◌&&◌, ◌||◌, List, [], ◌∷◌, ◌++◌, refl, sym, ap, ◌∙◌, arith}
use Rattle.std.specs.Prelude.{count_by, sum_by}
use Rattle.std.specs.List.{list_any}
use Rattle.std.proofs.lemmas.Bool.{false≢true}
use Rattle.std.proofs.lemmas.Bool.Decides.{eqb_tells}
use Rattle.std.proofs.lemmas.List.Folds.{list_any-append}
use Rattle.std.proofs.lemmas.List.Sums.{sum_by_push, sum_by-cons}
use Rattle.trace_audit.specs.declared.reading.Saying.{Saying}
use Rattle.trace_audit.specs.declared.reading.Saying.TheVariants as saying
use Rattle.trace_audit.specs.Rules.{closes, is_left, IsClosed}
use Rattle.trace_audit.specs.Books.{is_numbered}

abbrev bit : Bool → ℕ
bit b = cond b 1 0

count_agree : (p q : Saying → Bool) → ((x : Saying) → p x ≡ q x) → (xs : List Saying) → count_by p xs ≡ count_by q xs
count_agree p q same [] = refl
count_agree p q same (x ∷ xs) = sum_by-cons (λ y. bit (p y)) x xs ∙ ap (λ b. bit b + count_by p xs) (same x) ∙ ap (λ n. bit (q x) + n) (count_agree p q same xs) ∙ sym (sum_by-cons (λ y. bit (q y)) x xs)

or_none : (b : Bool) → (b || false) ≡ b
or_none true = refl
or_none false = refl

-- one more saying
any_push : (p : Saying → Bool) (xs : List Saying) (y : Saying) → list_any p (xs ++ y ∷ []) ≡ (list_any p xs || p y)
any_push p xs y = list_any-append p xs (y ∷ []) ∙ ap (λ b. list_any p xs || b) (or_none (p y))

left_same : (before : List Saying) (s : Saying) → ((k : ℕ) → closes k s ≡ false) → (x : Saying) → is_left (before ++ s ∷ []) x ≡ is_left before x
left_same before s open' (saying.Offers k i) = ap not (any_push (closes k) before s ∙ ap (λ b. list_any (closes k) before || b) (open' k) ∙ or_none (list_any (closes k) before))
left_same before s open' (saying.Takes k) = refl
left_same before s open' (saying.Closes k answer) = refl
left_same before s open' (saying.Borrows k) = refl
left_same before s open' saying.Nothing = refl

count_push : (p : Saying → Bool) (xs : List Saying) (y : Saying) → count_by p (xs ++ y ∷ []) ≡ count_by p xs + bit (p y)
count_push p xs y = sum_by_push (λ x. bit (p x)) xs y

-- a saying that closes and offers nothing
pub count_aside : (before : List Saying) (s : Saying) (n : ℕ) → ((k : ℕ) → closes k s ≡ false) → is_left (before ++ s ∷ []) s ≡ false → n ≡ count_by (is_left before) before → n ≡ count_by (is_left (before ++ s ∷ [])) (before ++ s ∷ [])
count_aside before s n open' not_left h =
    h ∙ sym (count_push (is_left (before ++ s ∷ [])) before s ∙ ap (λ b. count_by (is_left (before ++ s ∷ [])) before + bit b) not_left ∙ (let q : count_by (is_left (before ++ s ∷ [])) before + 0 ≡ count_by (is_left (before ++ s ∷ [])) before = omega arith in q) ∙ count_agree _ (is_left before) (left_same before s open') before)

-- a close in the list
closed_later : (k : ℕ) (x : Saying) (xs : List Saying) → IsClosed xs k → IsClosed (x ∷ xs) k
closed_later k x xs (answer, h) = (answer, (suc h.0, omega (arith, h.1), h.2))

closed_here : (k j : ℕ) (answer : Bool) (xs : List Saying) (b : Bool) → eqb j k ≡ b → (list_any (closes k) xs ≡ true → IsClosed xs k) → (b || list_any (closes k) xs) ≡ true → IsClosed (saying.Closes j answer ∷ xs) k
closed_here k j answer xs true e later h =
    let same : j ≡ k = elim (eqb_tells j k) [ inl z ↦ z.1 | inr z ↦ absurd (false≢true (sym z.0 ∙ e)) ] in
    (answer, (zero, omega arith, ap (λ n. saying.Closes n answer) same))
closed_here k j answer xs false e later h = closed_later k _ xs (later h)

any_closed : (k : ℕ) (xs : List Saying) → list_any (closes k) xs ≡ true → IsClosed xs k
any_closed k [] h = absurd (false≢true h)
any_closed k (saying.Offers j i ∷ xs) h = closed_later k _ xs (any_closed k xs h)
any_closed k (saying.Takes j ∷ xs) h = closed_later k _ xs (any_closed k xs h)
any_closed k (saying.Borrows j ∷ xs) h = closed_later k _ xs (any_closed k xs h)
any_closed k (saying.Nothing ∷ xs) h = closed_later k _ xs (any_closed k xs h)
any_closed k (saying.Closes j answer ∷ xs) h = closed_here k j answer xs (eqb j k) refl (any_closed k xs) h

pub not_any : (k : ℕ) (xs : List Saying) → ¬ IsClosed xs k → list_any (closes k) xs ≡ false
not_any k xs never = go (list_any (closes k) xs) refl
  where
    go : (b : Bool) → list_any (closes k) xs ≡ b → b ≡ false
    go true e = absurd (never (any_closed k xs e))
    go false e = refl

-- an offer of a call that no line closes
pub count_offer : (before : List Saying) (k i n : ℕ) → ¬ IsClosed before k → n ≡ count_by (is_left before) before → n + 1 ≡ count_by (is_left (before ++ saying.Offers k i ∷ [])) (before ++ saying.Offers k i ∷ [])
count_offer before k i n still h =
    let s = saying.Offers k i in
    let new : is_left (before ++ s ∷ []) s ≡ true = ap not (any_push (closes k) before s ∙ or_none (list_any (closes k) before) ∙ not_any k before still) in
    sym (count_push (is_left (before ++ s ∷ [])) before s ∙ ap (λ b. count_by (is_left (before ++ s ∷ [])) before + bit b) new ∙ ap (λ m. m + 1) (count_agree _ (is_left before) (left_same before s (λ j. refl)) before ∙ sym h))

-- a close of a call that was left
split_bit : (a b : Bool) → bit (not a) ≡ bit (not (a || b)) + bit (not a && b)
split_bit true b = refl
split_bit false true = refl
split_bit false false = refl

left_split : (before : List Saying) (k : ℕ) (answer : Bool) (x : Saying) → bit (is_left before x) ≡ bit (is_left (before ++ saying.Closes k answer ∷ []) x) + bit (is_left before x && is_numbered k x)
left_split before k answer (saying.Offers j i) =
    split_bit (list_any (closes j) before) (eqb k j) ∙ ap (λ b. bit (not b) + bit (not (list_any (closes j) before) && eqb k j)) (sym (any_push (closes j) before (saying.Closes k answer))) ∙ ap (λ b. bit (is_left (before ++ saying.Closes k answer ∷ []) (saying.Offers j i)) + bit (not (list_any (closes j) before) && b)) (eqb_turn k j)
  where
    eqb_turn : (a b : ℕ) → eqb a b ≡ eqb b a
    eqb_turn a b = elim (eqb_tells a b) [
      | inl e ↦ e.0 ∙ sym (elim (eqb_tells b a) [ inl f ↦ f.0 | inr f ↦ absurd (f.1 (sym e.1)) ])
      | inr e ↦ e.0 ∙ sym (elim (eqb_tells b a) [ inl f ↦ absurd (e.1 (sym f.1)) | inr f ↦ f.0 ])
    ]
left_split before k answer (saying.Takes j) = refl
left_split before k answer (saying.Closes j a) = refl
left_split before k answer (saying.Borrows j) = refl
left_split before k answer saying.Nothing = refl

sum_split : (f g h : Saying → ℕ) → ((x : Saying) → f x ≡ g x + h x) → (xs : List Saying) → sum_by f xs ≡ sum_by g xs + sum_by h xs
sum_split f g h same [] = refl
sum_split f g h same (x ∷ xs) =
    let a = sum_by-cons f x xs in
    let b = sum_by-cons g x xs in
    let c = sum_by-cons h x xs in
    let d = same x in
    let e = sum_split f g h same xs in
    omega (arith, a, b, c, d, e)

only_numbered : (before : List Saying) (k : ℕ) → list_any (closes k) before ≡ false → (x : Saying) → (is_left before x && is_numbered k x) ≡ is_numbered k x
only_numbered before k still (saying.Offers j i) = elim (eqb_tells j k) [
  | inl e ↦ ap (λ b. not b && eqb j k) (ap (λ n. list_any (closes n) before) e.1 ∙ still)
  | inr e ↦ rw e.0 (and_false (not (list_any (closes j) before)))
]
  where
    and_false : (b : Bool) → (b && false) ≡ false
    and_false true = refl
    and_false false = refl
only_numbered before k still (saying.Takes j) = refl
only_numbered before k still (saying.Closes j a) = refl
only_numbered before k still (saying.Borrows j) = refl
only_numbered before k still saying.Nothing = refl

pub count_close : (before : List Saying) (k n m : ℕ) (answer : Bool) → ¬ IsClosed before k → count_by (is_numbered k) before ≡ 1 → n ≡ count_by (is_left before) before → m + 1 ≡ n → m ≡ count_by (is_left (before ++ saying.Closes k answer ∷ [])) (before ++ saying.Closes k answer ∷ [])
count_close before k n m answer still one h less =
    let s = saying.Closes k answer in
    let all : count_by (is_left before) before ≡ count_by (is_left (before ++ s ∷ [])) before + count_by (λ x. is_left before x && is_numbered k x) before = sum_split (λ x. bit (is_left before x)) (λ x. bit (is_left (before ++ s ∷ []) x)) (λ x. bit (is_left before x && is_numbered k x)) (left_split before k answer) before in
    let it : count_by (λ x. is_left before x && is_numbered k x) before ≡ count_by (is_numbered k) before = count_agree _ (is_numbered k) (only_numbered before k (not_any k before still)) before in
    let push : count_by (is_left (before ++ s ∷ [])) (before ++ s ∷ []) ≡ count_by (is_left (before ++ s ∷ [])) before + 0 = count_push (is_left (before ++ s ∷ [])) before s in
    omega (arith, all, it, push, one, h, less)

-- a call that no line closes is left
pub some_left : (before : List Saying) (k n : ℕ) → ¬ IsClosed before k → count_by (is_numbered k) before ≡ 1 → n ≡ count_by (is_left before) before → 1 ≤ n
some_left before k n still one h =
    let s = saying.Closes k true in
    let all : count_by (is_left before) before ≡ count_by (is_left (before ++ s ∷ [])) before + count_by (λ x. is_left before x && is_numbered k x) before = sum_split (λ x. bit (is_left before x)) (λ x. bit (is_left (before ++ s ∷ []) x)) (λ x. bit (is_left before x && is_numbered k x)) (left_split before k true) before in
    let it : count_by (λ x. is_left before x && is_numbered k x) before ≡ count_by (is_numbered k) before = count_agree _ (is_numbered k) (only_numbered before k (not_any k before still)) before in
    omega (arith, all, it, one, h)
