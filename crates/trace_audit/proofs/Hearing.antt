-- The changes that the code makes to its maps give the book of one more saying.
use Rattle.std.proofs.Common.{◌≡◌, ◌≢◌, ℕ, ◌+◌, ◌⊎◌, inl, inr, Bool, true, false, cond, eqb, List, [], ◌∷◌, ◌++◌, length, Option, Some, None, refl, sym, subst, ap, ◌∙◌, arith, is_some}
use Rattle.std.specs.BTreeMap.{is_at}
use Rattle.std.specs.Ordering.{nat_cmp}
use Rattle.std.proofs.lemmas.Bool.Decides.{eqb_tells, nat_tests}
use Rattle.std.proofs.lemmas.List.{length-append}
use Rattle.trace_audit.specs.declared.book.Open.{Open}
use Rattle.trace_audit.specs.declared.reading.Saying.{Saying}
use Rattle.trace_audit.specs.declared.reading.Saying.TheVariants as saying
use Rattle.trace_audit.specs.Rules.{IsOffered, IsClosed, MayOffer, MayTake, MayClose}
use Rattle.trace_audit.specs.Books.{CallBook, Kept, calls_with, open_by, IsTold, HasHeard, Hears, Notes}
use Rattle.trace_audit.proofs.Telling.{IsSameBut, one_client, held_none, none_some, some_same, may_offer, may_take, may_close, open_as, told_offer, told_take, told_close, told_aside, nothing_offers, nothing_takes, nothing_closes}
use Rattle.trace_audit.proofs.Counting.{count_aside, count_offer, count_close}

away : (m q : ℕ) → q ≢ m → is_at (nat_cmp m) q ≡ false
away m q other = grind (arith, nat_tests)

-- at other keys the map is as it was
abbrev pub IsElsewhere : {V : Type 0} → ℕ → (ℕ → Option V) → (ℕ → Option V) → Type 0
IsElsewhere i held held' = (q : ℕ) → is_at (nat_cmp i) q ≡ false → held' q ≡ held q

same_but : (i : ℕ) (held held' : ℕ → Option Open) → IsElsewhere i held held' → IsSameBut i held held'
same_but i held held' h q ne = h q (away i q ne)

-- what an insert adds to the count
abbrev pub added : Option Open → ℕ
added o = cond (is_some o) 0 1

module _ (said : List Saying) (x y : CallBook) (h : IsTold said x) where
  pub hears_offer : (k i : ℕ) → k ≡ length x.clients + 1 → x.held i ≡ None → y.clients ≡ x.clients ++ i ∷ [] → IsElsewhere i x.held y.held → y.held i ≡ Some (record { call = k; taken = false }) → (o : Option Open) → o ≡ x.held i → y.left ≡ x.left + added o → MayOffer said k i × IsTold (said ++ saying.Offers k i ∷ []) y
  hears_offer k i number free clients others here o was left = (
    may_offer said x h k i number free,
    told_offer said x y k i h number free clients (same_but i x.held y.held others) here
        (left ∙ ap (λ w. x.left + added w) (was ∙ free) ∙ count_offer said k i x.left (λ c. let m = h.closed k c in absurd (omega arith)) h.count),
  )

  pub hears_take : (k i : ℕ) → x.held i ≡ Some (record { call = k; taken = false }) → y.clients ≡ x.clients → IsElsewhere i x.held y.held → y.held i ≡ Some (record { call = k; taken = true }) → (o : Option Open) → o ≡ x.held i → y.left ≡ x.left + added o → MayTake said k × IsTold (said ++ saying.Takes k ∷ []) y
  hears_take k i at clients others here o was left =
      let same : y.left ≡ x.left = left ∙ ap (λ w. x.left + added w) (was ∙ at) ∙ (let q : x.left + 0 ≡ x.left = omega arith in q) in (
        may_take said x h k i (open_as said x h k i false at),
        told_take said x y k i h at clients (same_but i x.held y.held others) here (same ∙ count_aside said (saying.Takes k) x.left (λ j. refl) refl h.count),
      )

  pub hears_close : (k i : ℕ) (taken answer : Bool) → (answer ≡ true → taken ≡ true) → x.held i ≡ Some (record { call = k; taken = taken }) → y.clients ≡ x.clients → IsElsewhere i x.held y.held → y.held i ≡ None → (o : Option Open) → o ≡ x.held i → y.left + cond (is_some o) 1 0 ≡ x.left → MayClose said k answer × IsTold (said ++ saying.Closes k answer ∷ []) y
  hears_close k i taken answer may at clients others here o was left =
      let a = open_as said x h k i taken at in
      let less : y.left + 1 ≡ x.left = ap (λ w. y.left + cond (is_some w) 1 0) (sym (was ∙ at)) ∙ left in (
        may_close said x h k i taken answer a may,
        told_close said x y k i taken answer h at clients (same_but i x.held y.held others) here (count_close said k x.left y.left answer a.still (h.once k i a.offered) h.count less),
      )

pub hears_nothing : (said : List Saying) (x : CallBook) → IsTold said x → (s : Saying) → s ≡ saying.Nothing → Hears said s x true
hears_nothing said x h s e = subst (λ t. Hears said t x true) (sym e) (tt, told_aside said x saying.Nothing h nothing_offers nothing_takes nothing_closes refl (count_aside said saying.Nothing x.left (λ j. refl) refl h.count))

-- ## the same for what a book keeps

-- by the client that a call has in the book
module _ (said : List Saying) (b : Kept) (h : HasHeard said b) where
  pub none_open : (k : ℕ) (c : Option ℕ) → b.client k ≡ c → open_by b.held k c ≡ None → (i : ℕ) → IsOffered said k i → ¬ IsClosed said k → ⊥
  none_open k None is e i offered still =
      let l = h.told.left k i offered still in
      none_some (sym is ∙ ap b.client (sym l.2) ∙ h.found i l.0 l.1)
  none_open k (Some j) is e i offered still =
      let l = h.told.left k i offered still in
      let same : i ≡ j = some_same (sym (h.found i l.0 l.1) ∙ ap b.client l.2 ∙ is) in
      held_none said (calls_with h.clients b) h.told k j (b.held j) refl e l.0 (ap b.held (sym same) ∙ l.1) l.2

  pub books_offer : (c : Kept) (k i : ℕ) → k ≡ b.offered + 1 → b.held i ≡ None → c.offered ≡ k → IsElsewhere k b.client c.client → c.client k ≡ Some i → IsElsewhere i b.held c.held → c.held i ≡ Some (record { call = k; taken = false }) → (o : Option Open) → o ≡ b.held i → c.left ≡ b.left + added o → Notes said (saying.Offers k i) c true
  books_offer c k i number free count others_are it others here o was left =
      let next : k ≡ length h.clients + 1 = number ∙ ap (λ n. n + 1) h.offered in
      let t = hears_offer said (calls_with h.clients b) (calls_with (h.clients ++ i ∷ []) c) h.told k i next free refl others here o was left in (
        t.0,
        record {
          clients = h.clients ++ i ∷ [];
          told = t.1;
          offered = count ∙ next ∙ sym (length-append h.clients (i ∷ []));
          found = λ j p e. found next j p e (eqb_tells j i);
        },
      )
    where
      found : k ≡ length h.clients + 1 → (j : ℕ) (p : Open) → c.held j ≡ Some p → ((eqb j i ≡ true) × (j ≡ i)) ⊎ ((eqb j i ≡ false) × (j ≢ i)) → c.client p.call ≡ Some j
      found next j p e (inl at) =
          let is : record { call = k; taken = false } ≡ p = some_same (sym here ∙ ap c.held (sym at.1) ∙ e) in
          ap (λ (z : Open). c.client z.call) (sym is) ∙ it ∙ ap Some (sym at.1)
      found next j p e (inr other) =
          let was_j : b.held j ≡ Some p = sym (others j (away i j other.1)) ∙ e in
          let a = h.told.kept j p was_j in
          let most = h.told.most p.call j a.offered in
          others_are p.call (away k p.call (λ n. absurd (omega (arith, n, next, most)))) ∙ h.found j p was_j

  pub books_take : (c : Kept) (k i : ℕ) → b.held i ≡ Some (record { call = k; taken = false }) → c.offered ≡ b.offered → ((q : ℕ) → c.client q ≡ b.client q) → IsElsewhere i b.held c.held → c.held i ≡ Some (record { call = k; taken = true }) → (o : Option Open) → o ≡ b.held i → c.left ≡ b.left + added o → Notes said (saying.Takes k) c true
  books_take c k i at count same others here o was left =
      let t = hears_take said (calls_with h.clients b) (calls_with h.clients c) h.told k i at refl others here o was left in
      (t.0, record { clients = h.clients; told = t.1; offered = count ∙ h.offered; found = λ j p e. found j p e (eqb_tells j i) })
    where
      found : (j : ℕ) (p : Open) → c.held j ≡ Some p → ((eqb j i ≡ true) × (j ≡ i)) ⊎ ((eqb j i ≡ false) × (j ≢ i)) → c.client p.call ≡ Some j
      found j p e (inl is) =
          let now : record { call = k; taken = true } ≡ p = some_same (sym here ∙ ap c.held (sym is.1) ∙ e) in
          ap (λ (z : Open). c.client z.call) (sym now) ∙ same k ∙ h.found i record { call = k; taken = false } at ∙ ap Some (sym is.1)
      found j p e (inr other) = same p.call ∙ h.found j p (sym (others j (away i j other.1)) ∙ e)

  pub books_close : (c : Kept) (k i : ℕ) (taken answer : Bool) → (answer ≡ true → taken ≡ true) → b.held i ≡ Some (record { call = k; taken = taken }) → c.offered ≡ b.offered → IsElsewhere k b.client c.client → IsElsewhere i b.held c.held → c.held i ≡ None → (o : Option Open) → o ≡ b.held i → c.left + cond (is_some o) 1 0 ≡ b.left → Notes said (saying.Closes k answer) c true
  books_close c k i taken answer may at count others_are others here o was left =
      let t = hears_close said (calls_with h.clients b) (calls_with h.clients c) h.told k i taken answer may at refl others here o was left in
      (t.0, record { clients = h.clients; told = t.1; offered = count ∙ h.offered; found = λ j p e. found j p e (eqb_tells j i) })
    where
      found : (j : ℕ) (p : Open) → c.held j ≡ Some p → ((eqb j i ≡ true) × (j ≡ i)) ⊎ ((eqb j i ≡ false) × (j ≢ i)) → c.client p.call ≡ Some j
      found j p e (inl is) = none_some (sym here ∙ ap c.held (sym is.1) ∙ e)
      found j p e (inr other) =
          let was_j : b.held j ≡ Some p = sym (others j (away i j other.1)) ∙ e in
          let a = h.told.kept j p was_j in
          let mine = h.told.kept i record { call = k; taken = taken } at in
          let apart : p.call ≢ k = λ n. other.1 (one_client said (calls_with h.clients b) h.told k j i (subst (λ m. IsOffered said m j) n a.offered) mine.offered) in
          others_are p.call (away k p.call apart) ∙ h.found j p was_j

pub books_nothing : (said : List Saying) (b : Kept) → HasHeard said b → (s : Saying) → s ≡ saying.Nothing → Notes said s b true
books_nothing said b h s e = let t = hears_nothing said (calls_with h.clients b) h.told s e in (t.0, record { clients = h.clients; told = t.1; offered = h.offered; found = h.found })
