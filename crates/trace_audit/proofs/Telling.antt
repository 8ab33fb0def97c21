-- A book goes on saying the truth about calls as good lines are added, and each line can be tested by it.
use Rattle.std.proofs.Common.{◌≡◌, ◌≢◌, ℕ, ◌+◌, ◌-◌, ◌<◌, ◌≤◌, ◌⊎◌, inl, inr, Bool, true, false, cond, eqb, List, [], ◌∷◌, ◌++◌, length, get_or, is_some, Option, Some, None, refl, sym, subst, ap, ◌∙◌, arith}
use Rattle.std.specs.Prelude.{Contains, count_by}
use Rattle.std.proofs.lemmas.List.{length-append}
use Rattle.std.proofs.lemmas.List.Elements.{Contains-push, Contains-push_cases, Contains-append_left}
use Rattle.std.proofs.lemmas.List.Sums.{sum_by_push}
use Rattle.std.proofs.lemmas.Bool.Decides.{eqb_tells}
use Rattle.std.proofs.Math.ListN.{get_or-append}
use Rattle.std.proofs.Math.Seq.{get_or-append_seam}
use Rattle.trace_audit.specs.declared.book.Open.{Open}
use Rattle.trace_audit.specs.declared.reading.Saying.{Saying}
use Rattle.trace_audit.specs.declared.reading.Saying.TheVariants as saying
use Rattle.trace_audit.specs.Rules.{is_offer, is_left, IsOffered, IsTaken, IsClosed, MayOffer, MayTake, MayClose, MayBorrow}
use Rattle.trace_audit.specs.Books.{CallBook, is_numbered, as_open, open_by, IsOpenAs, IsTold}

-- ## what one more saying adds

offered_cases : (before : List Saying) (s : Saying) (k i : ℕ) → IsOffered (before ++ s ∷ []) k i → IsOffered before k i ⊎ (s ≡ saying.Offers k i)
offered_cases before s k i h = Contains-push_cases before s (saying.Offers k i) h

taken_cases : (before : List Saying) (s : Saying) (k : ℕ) → IsTaken (before ++ s ∷ []) k → IsTaken before k ⊎ (s ≡ saying.Takes k)
taken_cases before s k h = Contains-push_cases before s (saying.Takes k) h

closed_cases : (before : List Saying) (s : Saying) (k : ℕ) → IsClosed (before ++ s ∷ []) k → IsClosed before k ⊎ ((answer : Bool) × (s ≡ saying.Closes k answer))
closed_cases before s k (answer, h) = elim (Contains-push_cases before s (saying.Closes k answer) h) [ inl old ↦ inl (answer, old) | inr e ↦ inr (answer, e) ]

offered_more : (before : List Saying) (s : Saying) (k i : ℕ) → IsOffered before k i → IsOffered (before ++ s ∷ []) k i
offered_more before s k i h = Contains-append_left before (s ∷ []) (saying.Offers k i) h

taken_more : (before : List Saying) (s : Saying) (k : ℕ) → IsTaken before k → IsTaken (before ++ s ∷ []) k
taken_more before s k h = Contains-append_left before (s ∷ []) (saying.Takes k) h

closed_more : (before : List Saying) (s : Saying) (k : ℕ) → IsClosed before k → IsClosed (before ++ s ∷ []) k
closed_more before s k (answer, h) = (answer, Contains-append_left before (s ∷ []) (saying.Closes k answer) h)

-- different sayings
offers_takes : {A : Type 0} (k i j : ℕ) → saying.Offers k i ≡ saying.Takes j → A
offers_takes k i j e = cc

offers_closes : {A : Type 0} (k i j : ℕ) (answer : Bool) → saying.Offers k i ≡ saying.Closes j answer → A
offers_closes k i j answer e = cc

takes_offers : {A : Type 0} (k i j : ℕ) → saying.Takes j ≡ saying.Offers k i → A
takes_offers k i j e = cc

takes_closes : {A : Type 0} (k j : ℕ) (answer : Bool) → saying.Takes j ≡ saying.Closes k answer → A
takes_closes k j answer e = cc

closes_offers : {A : Type 0} (k i j : ℕ) (answer : Bool) → saying.Closes j answer ≡ saying.Offers k i → A
closes_offers k i j answer e = cc

closes_takes : {A : Type 0} (k j : ℕ) (answer : Bool) → saying.Closes j answer ≡ saying.Takes k → A
closes_takes k j answer e = cc

offers_number : (k i j l : ℕ) → saying.Offers k i ≡ saying.Offers j l → j ≡ k
offers_number k i j l e = cc

offers_client : (k i j l : ℕ) → saying.Offers k i ≡ saying.Offers j l → l ≡ i
offers_client k i j l e = cc

takes_number : (k j : ℕ) → saying.Takes k ≡ saying.Takes j → j ≡ k
takes_number k j e = cc

closes_number : (k j : ℕ) (a b : Bool) → saying.Closes k a ≡ saying.Closes j b → j ≡ k
closes_number k j a b e = cc

-- ## an open call, by its number

-- the record of one task changed
abbrev pub IsSameBut : ℕ → (ℕ → Option Open) → (ℕ → Option Open) → Type 0
IsSameBut i held held' = (q : ℕ) → q ≢ i → held' q ≡ held q

pub none_some : {A P : Type 0} {a : A} → None ≡ Some a → P
none_some e = cc

pub some_same : {A : Type 0} {a b : A} → Some a ≡ Some b → a ≡ b
some_same e = cc

pub true_false : {A : Type 0} → true ≡ false → A
true_false e = cc

module _ (before : List Saying) (x : CallBook) (h : IsTold before x) where
  -- the call of a client is the only open one that it offered
  pub only : (k i : ℕ) (o : Open) → x.held i ≡ Some o → IsOffered before k i → ¬ IsClosed before k → o.call ≡ k
  only k i o e offered still = let l = h.left k i offered still in ap (λ (z : Open). z.call) (some_same (sym e ∙ l.1)) ∙ l.2

  -- an offered number has one client
  pub one_client : (k i j : ℕ) → IsOffered before k i → IsOffered before k j → i ≡ j
  one_client k i j a b = sym (h.by k i a) ∙ h.by k j b

  -- ## offers

  pub may_offer : (k i : ℕ) → k ≡ length x.clients + 1 → x.held i ≡ None → MayOffer before k i
  may_offer k i number free = record {
    number = number ∙ ap (λ n. n + 1) h.number;
    free = λ j offered still. let l = h.left j i offered still in none_some (sym free ∙ l.1);
  }

  pub not_free : (k i : ℕ) (o : Open) → x.held i ≡ Some o → ¬ MayOffer before k i
  not_free k i o e may = let a = h.kept i o e in may.free o.call a.offered a.still

  -- ## what is open at a number

  pub found : (k i : ℕ) (o : Open) → x.held i ≡ Some o → o.call ≡ k → IsOpenAs before k i o.taken
  found k i o e same = subst (λ n. IsOpenAs before n i o.taken) same (h.kept i o e)

  pub may_take : (k i : ℕ) → IsOpenAs before k i false → MayTake before k
  may_take k i a = record { offered = (i, a.offered); first = a.no refl; still = a.still }

  pub taken_before : (k i : ℕ) → IsOpenAs before k i true → ¬ MayTake before k
  taken_before k i a may = may.first (a.yes refl)

  pub not_take : (k : ℕ) → ((i : ℕ) → IsOffered before k i → ¬ IsClosed before k → ⊥) → ¬ MayTake before k
  not_take k never may = never may.offered.0 may.offered.1 may.still

  pub may_close : (k i : ℕ) (taken answer : Bool) → IsOpenAs before k i taken → (answer ≡ true → taken ≡ true) → MayClose before k answer
  may_close k i taken answer a was = record { offered = (i, a.offered); first = a.still; answered = λ e. a.yes (was e) }

  pub not_close : (k : ℕ) (answer : Bool) → ((i : ℕ) → IsOffered before k i → ¬ IsClosed before k → ⊥) → ¬ MayClose before k answer
  not_close k answer never may = never may.offered.0 may.offered.1 may.first

  -- a call that is taken was offered
  pub may_borrow : (k i : ℕ) → IsOpenAs before k i true → MayBorrow before k
  may_borrow k i a = record { taken = a.yes refl; still = a.still }

  pub not_borrow_yet : (k i : ℕ) → IsOpenAs before k i false → ¬ MayBorrow before k
  not_borrow_yet k i a may = a.no refl may.taken

  pub not_borrow : (k : ℕ) → ((i : ℕ) → IsOffered before k i → ¬ IsClosed before k → ⊥) → ¬ MayBorrow before k
  not_borrow k never may =
      let most = h.taken k may.taken in
      let one = h.taken_least k may.taken in
      let offered : IsOffered before k (get_or x.clients (k - 1) 0) = subst (λ n. IsOffered before n (get_or x.clients (k - 1) 0)) (omega arith) (h.client (k - 1) (omega arith)) in
      never _ offered may.still

-- ## the steps

open_same : {before : List Saying} {s : Saying} {k i : ℕ} {taken : Bool} → IsOpenAs before k i taken → (s ≡ saying.Takes k → ⊥) → ((answer : Bool) → s ≡ saying.Closes k answer → ⊥) → IsOpenAs (before ++ s ∷ []) k i taken
open_same {before = before} {s = s} {k = k} {i = i} a take close = record {
  offered = offered_more before s k i a.offered;
  still = λ c. elim (closed_cases before s k c) [ inl old ↦ a.still old | inr new ↦ close new.0 new.1 ];
  yes = λ e. taken_more before s k (a.yes e);
  no = λ e t. elim (taken_cases before s k t) [ inl old ↦ a.no e old | inr new ↦ take new ];
}

count_push : (p : Saying → Bool) (xs : List Saying) (y : Saying) (n : ℕ) → cond (p y) 1 0 ≡ n → count_by p (xs ++ y ∷ []) ≡ count_by p xs + n
count_push p xs y n e = sum_by_push (λ x. cond (p x) 1 0) xs y ∙ ap (λ m. count_by p xs + m) e

numbered_plain : (k : ℕ) (s : Saying) → is_offer s ≡ false → is_numbered k s ≡ false
numbered_plain k (saying.Offers j i) e = true_false e
numbered_plain k (saying.Takes j) e = refl
numbered_plain k (saying.Closes j answer) e = refl
numbered_plain k (saying.Borrows j) e = refl
numbered_plain k saying.Nothing e = refl

-- an offer
pub told_offer : (before : List Saying) (x y : CallBook) (k i : ℕ) → IsTold before x → k ≡ length x.clients + 1 → x.held i ≡ None → y.clients ≡ x.clients ++ i ∷ [] → IsSameBut i x.held y.held → y.held i ≡ Some (record { call = k; taken = false }) → y.left ≡ count_by (is_left (before ++ saying.Offers k i ∷ [])) (before ++ saying.Offers k i ∷ []) → IsTold (before ++ saying.Offers k i ∷ []) y
told_offer before x y k i h number free clients same here count = record {
  number = ap length clients ∙ length-append x.clients (i ∷ []) ∙ ap (λ n. n + 1) h.number ∙ sym (count_push is_offer before s 1 refl);
  client = λ j lt. client j lt;
  least = λ j l o. elim (offered_cases before s j l o) [ inl old ↦ h.least j l old | inr new ↦ let e = offers_number k i j l new in omega arith ];
  most = λ j l o. elim (offered_cases before s j l o) [ inl old ↦ let m = h.most j l old in omega (arith, long) | inr new ↦ let e = offers_number k i j l new in omega (arith, long) ];
  by = λ j l o. by j l o;
  taken = λ j t. elim (taken_cases before s j t) [ inl old ↦ let m = h.taken j old in omega (arith, long) | inr new ↦ offers_takes k i j new ];
  taken_least = λ j t. elim (taken_cases before s j t) [ inl old ↦ h.taken_least j old | inr new ↦ offers_takes k i j new ];
  closed = λ j c. elim (closed_cases before s j c) [ inl old ↦ let m = h.closed j old in omega (arith, long) | inr new ↦ offers_closes k i j new.0 new.1 ];
  once = λ j l o. once j l (offered_cases before s j l o);
  no_more = λ j lt. apart j (let q : length x.clients + 1 < j = subst (λ n. n < j) long lt in omega arith) ∙ h.no_more j (let q : length x.clients + 1 < j = subst (λ n. n < j) long lt in omega arith);
  kept = λ j o e. kept j o e (eqb_tells j i);
  left = λ j l o c. left j l c (offered_cases before s j l o);
  count = count;
}
  where
    s : Saying
    s = saying.Offers k i

    long : length y.clients ≡ length x.clients + 1
    long = ap length clients ∙ length-append x.clients (i ∷ [])

    apart : (j : ℕ) → j ≢ k → count_by (is_numbered j) (before ++ s ∷ []) ≡ count_by (is_numbered j) before
    apart j ne =
        let other : eqb k j ≡ false = elim (eqb_tells k j) [ inl e ↦ absurd (ne (sym e.1)) | inr o ↦ o.0 ] in
        count_push (is_numbered j) before s 0 (ap (λ b. cond b 1 0) other) ∙ (let q : count_by (is_numbered j) before + 0 ≡ count_by (is_numbered j) before = omega arith in q)

    once : (j l : ℕ) → IsOffered before j l ⊎ (s ≡ saying.Offers j l) → count_by (is_numbered j) (before ++ s ∷ []) ≡ 1
    once j l (inl old) = apart j (λ e. let m = h.most j l old in absurd (omega arith)) ∙ h.once j l old
    once j l (inr new) =
        let e = offers_number k i j l new in
        let it : eqb k j ≡ true = elim (eqb_tells k j) [ inl z ↦ z.0 | inr o ↦ absurd (o.1 (sym e)) ] in
        count_push (is_numbered j) before s 1 (ap (λ b. cond b 1 0) it) ∙ ap (λ n. n + 1) (h.no_more j (omega arith))

    last : get_or y.clients (length x.clients) 0 ≡ i
    last = ap (λ xs. get_or xs (length x.clients) 0) clients ∙ get_or-append_seam x.clients i [] 0

    older : (j : ℕ) → j < length x.clients → get_or y.clients j 0 ≡ get_or x.clients j 0
    older j lt = ap (λ xs. get_or xs j 0) clients ∙ get_or-append x.clients (i ∷ []) 0 j lt

    client_at : (j : ℕ) → (j < length x.clients) ⊎ (j ≡ length x.clients) → IsOffered (before ++ s ∷ []) (j + 1) (get_or y.clients j 0)
    client_at j (inl lt) = offered_more before s (j + 1) _ (subst (λ c. IsOffered before (j + 1) c) (sym (older j lt)) (h.client j lt))
    client_at j (inr e) = subst (λ c. IsOffered (before ++ s ∷ []) (j + 1) c) (sym (ap (λ n. get_or y.clients n 0) e ∙ last)) (subst (λ n. IsOffered (before ++ s ∷ []) n i) (number ∙ ap (λ n. n + 1) (sym e)) (Contains-push before s))

    client : (j : ℕ) → j < length y.clients → IsOffered (before ++ s ∷ []) (j + 1) (get_or y.clients j 0)
    client j lt = client_at j (elim (eqb_tells j (length x.clients)) [ inl e ↦ inr e.1 | inr ne ↦ let apart = ne.1 in inl (omega (arith, long)) ])

    by : (j l : ℕ) → IsOffered (before ++ s ∷ []) j l → get_or y.clients (j - 1) 0 ≡ l
    by j l o = elim (offered_cases before s j l o) [
      | inl old ↦ let one = h.least j l old in let most = h.most j l old in older (j - 1) (omega arith) ∙ h.by j l old
      | inr new ↦ let e = offers_number k i j l new in ap (λ n. get_or y.clients n 0) (let q : j - 1 ≡ length x.clients = omega arith in q) ∙ last ∙ sym (offers_client k i j l new)
    ]

    kept : (j : ℕ) (o : Open) → y.held j ≡ Some o → ((eqb j i ≡ true) × (j ≡ i)) ⊎ ((eqb j i ≡ false) × (j ≢ i)) → IsOpenAs (before ++ s ∷ []) o.call j o.taken
    kept j o e (inl at) =
        let is : record { call = k; taken = false } ≡ o = some_same (sym here ∙ ap y.held (sym at.1) ∙ e) in
        subst (λ (z : Open). IsOpenAs (before ++ s ∷ []) z.call j z.taken) is record {
          offered = subst (λ c. IsOffered (before ++ s ∷ []) k c) (sym at.1) (Contains-push before s);
          still = λ c. elim (closed_cases before s k c) [ inl old ↦ let m = h.closed k old in absurd (omega arith) | inr new ↦ offers_closes k i k new.0 new.1 ];
          yes = λ e. true_false (sym e);
          no = λ e t. elim (taken_cases before s k t) [ inl old ↦ let m = h.taken k old in absurd (omega arith) | inr new ↦ offers_takes k i k new ];
        }
    kept j o e (inr other) = open_same (h.kept j o (sym (same j other.1) ∙ e)) (λ n. offers_takes k i o.call n) (λ a n. offers_closes k i o.call a n)

    left : (j l : ℕ) → ¬ IsClosed (before ++ s ∷ []) j → IsOffered before j l ⊎ (s ≡ saying.Offers j l) → (o : Open) × (y.held l ≡ Some o) × (o.call ≡ j)
    left j l still (inl old) =
        let z = h.left j l old (λ c. still (closed_more before s j c)) in
        (z.0, same l (λ e. none_some (sym free ∙ ap x.held (sym e) ∙ z.1)) ∙ z.1, z.2)
    left j l still (inr new) = (record { call = k; taken = false }, ap y.held (offers_client k i j l new) ∙ here, sym (offers_number k i j l new))

-- a take of call k, which client i has open
pub told_take : (before : List Saying) (x y : CallBook) (k i : ℕ) → IsTold before x → x.held i ≡ Some (record { call = k; taken = false }) → y.clients ≡ x.clients → IsSameBut i x.held y.held → y.held i ≡ Some (record { call = k; taken = true }) → y.left ≡ count_by (is_left (before ++ saying.Takes k ∷ [])) (before ++ saying.Takes k ∷ []) → IsTold (before ++ saying.Takes k ∷ []) y
told_take before x y k i h was clients same here count = record {
  number = ap length clients ∙ h.number ∙ sym (count_push is_offer before s 0 refl ∙ (let q : count_by is_offer before + 0 ≡ count_by is_offer before = omega arith in q));
  client = λ j lt. offered_more before s (j + 1) _ (subst (λ xs. IsOffered before (j + 1) (get_or xs j 0)) (sym clients) (h.client j (subst (λ xs. j < length xs) clients lt)));
  least = λ j l o. elim (offered_cases before s j l o) [ inl old ↦ h.least j l old | inr new ↦ takes_offers j l k new ];
  most = λ j l o. elim (offered_cases before s j l o) [ inl old ↦ subst (λ xs. j ≤ length xs) (sym clients) (h.most j l old) | inr new ↦ takes_offers j l k new ];
  by = λ j l o. elim (offered_cases before s j l o) [ inl old ↦ ap (λ xs. get_or xs (j - 1) 0) clients ∙ h.by j l old | inr new ↦ takes_offers j l k new ];
  taken = λ j t. elim (taken_cases before s j t) [ inl old ↦ subst (λ xs. j ≤ length xs) (sym clients) (h.taken j old) | inr new ↦ subst (λ xs. j ≤ length xs) (sym clients) (subst (λ n. n ≤ length x.clients) (sym (takes_number k j new)) (h.most k i at.offered)) ];
  taken_least = λ j t. elim (taken_cases before s j t) [ inl old ↦ h.taken_least j old | inr new ↦ subst (λ n. 1 ≤ n) (sym (takes_number k j new)) (h.least k i at.offered) ];
  closed = λ j c. elim (closed_cases before s j c) [ inl old ↦ subst (λ xs. j ≤ length xs) (sym clients) (h.closed j old) | inr new ↦ takes_closes j k new.0 new.1 ];
  once = λ j l o. count_push (is_numbered j) before s 0 refl ∙ (let q : count_by (is_numbered j) before + 0 ≡ count_by (is_numbered j) before = omega arith in q) ∙ elim (offered_cases before s j l o) [ inl old ↦ h.once j l old | inr new ↦ takes_offers j l k new ];
  no_more = λ j lt. count_push (is_numbered j) before s 0 refl ∙ (let q : count_by (is_numbered j) before + 0 ≡ count_by (is_numbered j) before = omega arith in q) ∙ h.no_more j (subst (λ xs. length xs < j) clients lt);
  kept = λ j o e. kept j o e (eqb_tells j i);
  left = λ j l o c. left j l c (offered_cases before s j l o) (eqb_tells l i);
  count = count;
}
  where
    s : Saying
    s = saying.Takes k

    at : IsOpenAs before k i false
    at = h.kept i record { call = k; taken = false } was

    kept : (j : ℕ) (o : Open) → y.held j ≡ Some o → ((eqb j i ≡ true) × (j ≡ i)) ⊎ ((eqb j i ≡ false) × (j ≢ i)) → IsOpenAs (before ++ s ∷ []) o.call j o.taken
    kept j o e (inl here') =
        let is : record { call = k; taken = true } ≡ o = some_same (sym here ∙ ap y.held (sym here'.1) ∙ e) in
        subst (λ (z : Open). IsOpenAs (before ++ s ∷ []) z.call j z.taken) is record {
          offered = offered_more before s k j (subst (λ c. IsOffered before k c) (sym here'.1) at.offered);
          still = λ c. elim (closed_cases before s k c) [ inl old ↦ at.still old | inr new ↦ takes_closes k k new.0 new.1 ];
          yes = λ e. Contains-push before s;
          no = λ e. true_false e;
        }
    kept j o e (inr other) =
        let was_j = sym (same j other.1) ∙ e in
        let a = h.kept j o was_j in
        open_same a (λ n. other.1 (one_client before x h k j i (subst (λ m. IsOffered before m j) (takes_number k o.call n) a.offered) at.offered)) (λ b n. takes_closes o.call k b n)

    left : (j l : ℕ) → ¬ IsClosed (before ++ s ∷ []) j → IsOffered before j l ⊎ (s ≡ saying.Offers j l) → ((eqb l i ≡ true) × (l ≡ i)) ⊎ ((eqb l i ≡ false) × (l ≢ i)) → (o : Open) × (y.held l ≡ Some o) × (o.call ≡ j)
    left j l still (inr new) w = takes_offers j l k new
    left j l still (inl old) (inl e) =
        let z = h.left j l old (λ c. still (closed_more before s j c)) in
        (record { call = k; taken = true }, ap y.held e.1 ∙ here, ap (λ (o : Open). o.call) (some_same (sym was ∙ ap x.held (sym e.1) ∙ z.1)) ∙ z.2)
    left j l still (inl old) (inr ne) =
        let z = h.left j l old (λ c. still (closed_more before s j c)) in
        (z.0, same l ne.1 ∙ z.1, z.2)

-- a close of call k, which client i has open
pub told_close : (before : List Saying) (x y : CallBook) (k i : ℕ) (taken answer : Bool) → IsTold before x → x.held i ≡ Some (record { call = k; taken = taken }) → y.clients ≡ x.clients → IsSameBut i x.held y.held → y.held i ≡ None → y.left ≡ count_by (is_left (before ++ saying.Closes k answer ∷ [])) (before ++ saying.Closes k answer ∷ []) → IsTold (before ++ saying.Closes k answer ∷ []) y
told_close before x y k i taken answer h was clients same here count = record {
  number = ap length clients ∙ h.number ∙ sym (count_push is_offer before s 0 refl ∙ (let q : count_by is_offer before + 0 ≡ count_by is_offer before = omega arith in q));
  client = λ j lt. offered_more before s (j + 1) _ (subst (λ xs. IsOffered before (j + 1) (get_or xs j 0)) (sym clients) (h.client j (subst (λ xs. j < length xs) clients lt)));
  least = λ j l o. elim (offered_cases before s j l o) [ inl old ↦ h.least j l old | inr new ↦ closes_offers j l k answer new ];
  most = λ j l o. elim (offered_cases before s j l o) [ inl old ↦ subst (λ xs. j ≤ length xs) (sym clients) (h.most j l old) | inr new ↦ closes_offers j l k answer new ];
  by = λ j l o. elim (offered_cases before s j l o) [ inl old ↦ ap (λ xs. get_or xs (j - 1) 0) clients ∙ h.by j l old | inr new ↦ closes_offers j l k answer new ];
  taken = λ j t. elim (taken_cases before s j t) [ inl old ↦ subst (λ xs. j ≤ length xs) (sym clients) (h.taken j old) | inr new ↦ closes_takes j k answer new ];
  taken_least = λ j t. elim (taken_cases before s j t) [ inl old ↦ h.taken_least j old | inr new ↦ closes_takes j k answer new ];
  closed = λ j c. elim (closed_cases before s j c) [ inl old ↦ subst (λ xs. j ≤ length xs) (sym clients) (h.closed j old) | inr new ↦ subst (λ xs. j ≤ length xs) (sym clients) (subst (λ n. n ≤ length x.clients) (sym (closes_number k j answer new.0 new.1)) (h.most k i at.offered)) ];
  once = λ j l o. count_push (is_numbered j) before s 0 refl ∙ (let q : count_by (is_numbered j) before + 0 ≡ count_by (is_numbered j) before = omega arith in q) ∙ elim (offered_cases before s j l o) [ inl old ↦ h.once j l old | inr new ↦ closes_offers j l k answer new ];
  no_more = λ j lt. count_push (is_numbered j) before s 0 refl ∙ (let q : count_by (is_numbered j) before + 0 ≡ count_by (is_numbered j) before = omega arith in q) ∙ h.no_more j (subst (λ xs. length xs < j) clients lt);
  kept = λ j o e. kept j o e (eqb_tells j i);
  left = λ j l o c. left j l c (offered_cases before s j l o) (eqb_tells l i);
  count = count;
}
  where
    s : Saying
    s = saying.Closes k answer

    at : IsOpenAs before k i taken
    at = h.kept i record { call = k; taken = taken } was

    kept : (j : ℕ) (o : Open) → y.held j ≡ Some o → ((eqb j i ≡ true) × (j ≡ i)) ⊎ ((eqb j i ≡ false) × (j ≢ i)) → IsOpenAs (before ++ s ∷ []) o.call j o.taken
    kept j o e (inl here') = none_some (sym here ∙ ap y.held (sym here'.1) ∙ e)
    kept j o e (inr other) =
        let was_j = sym (same j other.1) ∙ e in
        let a = h.kept j o was_j in
        open_same a (λ n. closes_takes o.call k answer n) (λ b n. other.1 (one_client before x h k j i (subst (λ m. IsOffered before m j) (closes_number k o.call answer b n) a.offered) at.offered))

    left : (j l : ℕ) → ¬ IsClosed (before ++ s ∷ []) j → IsOffered before j l ⊎ (s ≡ saying.Offers j l) → ((eqb l i ≡ true) × (l ≡ i)) ⊎ ((eqb l i ≡ false) × (l ≢ i)) → (o : Open) × (y.held l ≡ Some o) × (o.call ≡ j)
    left j l still (inr new) w = closes_offers j l k answer new
    left j l still (inl old) (inl e) =
        let z = h.left j l old (λ c. still (closed_more before s j c)) in
        let same_call : k ≡ j = ap (λ (o : Open). o.call) (some_same (sym was ∙ ap x.held (sym e.1) ∙ z.1)) ∙ z.2 in
        absurd (still (answer, subst (λ n. Contains (before ++ s ∷ []) (saying.Closes n answer)) same_call (Contains-push before s)))
    left j l still (inl old) (inr ne) =
        let z = h.left j l old (λ c. still (closed_more before s j c)) in
        (z.0, same l ne.1 ∙ z.1, z.2)

-- a saying that offers, takes and closes nothing
pub told_aside : (before : List Saying) (x : CallBook) (s : Saying) → IsTold before x → ((k i : ℕ) → s ≡ saying.Offers k i → ⊥) → ((k : ℕ) → s ≡ saying.Takes k → ⊥) → ((k : ℕ) (answer : Bool) → s ≡ saying.Closes k answer → ⊥) → is_offer s ≡ false → x.left ≡ count_by (is_left (before ++ s ∷ [])) (before ++ s ∷ []) → IsTold (before ++ s ∷ []) x
told_aside before x s h no_offer no_take no_close plain count = record {
  number = h.number ∙ sym (count_push is_offer before s 0 (ap (λ b. cond b 1 0) plain) ∙ (let q : count_by is_offer before + 0 ≡ count_by is_offer before = omega arith in q));
  client = λ j lt. offered_more before s (j + 1) _ (h.client j lt);
  least = λ j l o. elim (offered_cases before s j l o) [ inl old ↦ h.least j l old | inr new ↦ absurd (no_offer j l new) ];
  most = λ j l o. elim (offered_cases before s j l o) [ inl old ↦ h.most j l old | inr new ↦ absurd (no_offer j l new) ];
  by = λ j l o. elim (offered_cases before s j l o) [ inl old ↦ h.by j l old | inr new ↦ absurd (no_offer j l new) ];
  taken = λ j t. elim (taken_cases before s j t) [ inl old ↦ h.taken j old | inr new ↦ absurd (no_take j new) ];
  taken_least = λ j t. elim (taken_cases before s j t) [ inl old ↦ h.taken_least j old | inr new ↦ absurd (no_take j new) ];
  closed = λ j c. elim (closed_cases before s j c) [ inl old ↦ h.closed j old | inr new ↦ absurd (no_close j new.0 new.1) ];
  once = λ j l o. count_push (is_numbered j) before s 0 (ap (λ b. cond b 1 0) (numbered_plain j s plain)) ∙ (let q : count_by (is_numbered j) before + 0 ≡ count_by (is_numbered j) before = omega arith in q) ∙ elim (offered_cases before s j l o) [ inl old ↦ h.once j l old | inr new ↦ absurd (no_offer j l new) ];
  no_more = λ j lt. count_push (is_numbered j) before s 0 (ap (λ b. cond b 1 0) (numbered_plain j s plain)) ∙ (let q : count_by (is_numbered j) before + 0 ≡ count_by (is_numbered j) before = omega arith in q) ∙ h.no_more j lt;
  kept = λ j o e. open_same (h.kept j o e) (no_take o.call) (no_close o.call);
  left = λ j l o c. elim (offered_cases before s j l o) [ inl old ↦ h.left j l old (λ x. c (closed_more before s j x)) | inr new ↦ absurd (no_offer j l new) ];
  count = count;
}

-- ## what is found at a number

module _ (before : List Saying) (x : CallBook) (h : IsTold before x) where
  pub held_none : (k j : ℕ) (o : Option Open) → x.held j ≡ o → as_open k j o ≡ None → (z : Open) → x.held j ≡ Some z → z.call ≡ k → ⊥
  held_none k j None is e z at same = none_some (sym is ∙ at)
  held_none k j (Some o) is e z at same = elim (eqb_tells o.call k) [
    | inl t ↦ none_some (sym (sym (ap (λ b. cond b (Some (j, o.taken)) None) t.0) ∙ e))
    | inr f ↦ f.1 (ap (λ (w : Open). w.call) (some_same (sym is ∙ at)) ∙ same)
  ]

  held_some : (k j i : ℕ) (taken : Bool) (o : Option Open) → as_open k j o ≡ Some (i, taken) → (o ≡ Some (record { call = k; taken = taken })) × (j ≡ i)
  held_some k j i taken None e = none_some e
  held_some k j i taken (Some o) e = elim (eqb_tells o.call k) [
    | inl t ↦ let same : Some (j, o.taken) ≡ Some (i, taken) = sym (ap (λ b. cond b (Some (j, o.taken)) None) t.0) ∙ e in (ap Some (both o k taken t.1 (ap (λ (p : ℕ × Bool). p.1) (some_same same))), ap (λ (p : ℕ × Bool). p.0) (some_same same))
    | inr f ↦ none_some (sym (ap (λ b. cond b (Some (j, o.taken)) None) f.0) ∙ e)
  ]
    where
      both : (o : Open) (k : ℕ) (taken : Bool) → o.call ≡ k → o.taken ≡ taken → o ≡ record { call = k; taken = taken }
      both o k taken a b = ap (λ n. record { call = n; taken = o.taken }) a ∙ ap (λ t. record { call = k; taken = t }) b

  pub open_some : (k i : ℕ) (taken : Bool) (c : Option ℕ) → open_by x.held k c ≡ Some (i, taken) → x.held i ≡ Some (record { call = k; taken = taken })
  open_some k i taken None e = none_some e
  open_some k i taken (Some j) e = let p = held_some k j i taken (x.held j) e in ap x.held (sym p.1) ∙ p.0

  pub open_as : (k i : ℕ) (taken : Bool) → x.held i ≡ Some (record { call = k; taken = taken }) → IsOpenAs before k i taken
  open_as k i taken e = h.kept i record { call = k; taken = taken } e

pub borrows_offers : {A : Type 0} (k i j : ℕ) → saying.Borrows j ≡ saying.Offers k i → A
borrows_offers k i j e = cc

pub borrows_takes : {A : Type 0} (k j : ℕ) → saying.Borrows j ≡ saying.Takes k → A
borrows_takes k j e = cc

pub borrows_closes : {A : Type 0} (k : ℕ) (answer : Bool) (j : ℕ) → saying.Borrows j ≡ saying.Closes k answer → A
borrows_closes k answer j e = cc

pub free_none : (o : Option Open) → is_some o ≡ false → o ≡ None
free_none None e = refl
free_none (Some o) e = true_false e

some_there : (o : Option Open) → is_some o ≡ true → (p : Open) × (o ≡ Some p)
some_there None e = true_false (sym e)
some_there (Some o) e = (o, refl)

pub not_free_some : (before : List Saying) (x : CallBook) (h : IsTold before x) (k i : ℕ) → is_some (x.held i) ≡ true → ¬ MayOffer before k i
not_free_some before x h k i e = let p = some_there (x.held i) e in not_free before x h k i p.0 p.1

pub nothing_offers : {A : Type 0} (k i : ℕ) → saying.Nothing ≡ saying.Offers k i → A
nothing_offers k i e = cc

pub nothing_takes : {A : Type 0} (k : ℕ) → saying.Nothing ≡ saying.Takes k → A
nothing_takes k e = cc

pub nothing_closes : {A : Type 0} (k : ℕ) (answer : Bool) → saying.Nothing ≡ saying.Closes k answer → A
nothing_closes k answer e = cc
