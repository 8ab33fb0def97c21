-- Which offers a receiver finds. It has no best sender only if no call is offered to it.
use Rattle.std.proofs.Common.{◌≡◌, ◌≢◌, ◌+◌, ◌-◌, ◌<◌, ◌≤◌, ◌⊎◌, inl, inr, ℕ, zero, suc, Bool, true, false, not, ◌&&◌, ◌||◌, List, [], ◌∷◌, length, Option, Some, None, refl, arith, eqb, leb, is_some}
use Rattle.std.specs.Prelude.{Contains, find}
use Rattle.std.specs.List.{range_with_len, list_all}
use Rattle.std.proofs.lemmas.Bool.{eq-eqb, eqb-true, leb-true, leb-false, not-false, false≢true, and_parts, or_parts, cases_Bool}
use Rattle.std.proofs.lemmas.Bool.Decides.{eqb_tells}
use Rattle.std.proofs.lemmas.List.Elements.{Contains-append_left, Contains-append_right}
use Rattle.task_table.specs.model.State.{Setup, Call, State, Phase, Offered, Taken}
use Rattle.task_table.specs.model.Reading.{is_offered, offer_by, offers, is_best, best_sender, around, priority}
use Rattle.task_table.specs.model.Rows.{offer_of}
use Rattle.task_table.specs.model.Sane.{Sane}
use Rattle.task_table.proofs.model.Keeps.{found_in, not_found}

-- ## the offered call of a client to a server

offers_to : ℕ → ℕ → Call → Bool
offers_to i c k = (eqb k.client.index i && eqb k.server.index c) && is_offered k.phase

offered_phase : (p : Phase) → is_offered p ≡ true → p ≡ Offered
offered_phase Offered h = refl
offered_phase Taken h = absurd (false≢true h)

-- what is found is an open call of the client to the server that is offered
pub record IsOffer (s : State) (client server : ℕ) (k : Call) : Type 0 where
  pub here : Contains s.calls k
  pub client_is : k.client.index ≡ client
  pub server_is : k.server.index ≡ server
  pub offered : k.phase ≡ Offered

pub offer_is : (s : State) (i c : ℕ) (k : Call) → offer_by s i c ≡ Some k → IsOffer s i c k
unfolding offer_by offers_to
offer_is s i c k e =
    let r = found_in (offers_to i c) s.calls k e in
    let both = and_parts (eqb k.client.index i && eqb k.server.index c) (is_offered k.phase) r.1 in
    let ends = and_parts (eqb k.client.index i) (eqb k.server.index c) both.0 in
    record { here = r.0; client_is = eqb-true _ _ ends.0; server_is = eqb-true _ _ ends.1; offered = offered_phase k.phase both.1 }

-- if a client offers no call, an offered call is that of another client
pub no_offer : (s : State) (i c : ℕ) (k : Call) → offer_by s i c ≡ None → Contains s.calls k → k.phase ≡ Offered → k.server.index ≡ c → k.client.index ≢ i
unfolding offer_by offers_to
no_offer s i c k none here offered server = λ client. not_found (offers_to i c) s.calls k none here (rw (eq-eqb _ _ client, eq-eqb _ _ server, offered) refl)

-- ## the best sender

range_has : (a n k : ℕ) → a ≤ k → k < a + n → Contains (range_with_len a n) k
range_has a zero k from below = absurd (omega arith)
range_has a (suc n) k from below = elim (eqb_tells a k) [
  | inl same ↦ (zero, omega arith, same.1)
  | inr other ↦ let ne : a ≢ k = other.1 in let r = range_has (a + 1) n k (omega arith) (omega arith) in (suc r.0, omega (arith, r.1), r.2)
]

pub range_below : (a n k : ℕ) → Contains (range_with_len a n) k → k < a + n
range_below a zero k h = absurd (omega (arith, h.1))
range_below a (suc n) k (zero, lt, same) = let e : a ≡ k = same in omega arith
range_below a (suc n) k (suc i, lt, same) = let r = range_below (a + 1) n k (i, omega arith, same) in omega arith

all_or_not : (f : ℕ → Bool) (xs : List ℕ) → (list_all f xs ≡ true) ⊎ ((x : ℕ) × Contains xs x × (f x ≡ false))
all_or_not f [] = inl refl
all_or_not f (x ∷ xs) = elim (cases_Bool (f x)) [
  | inl a ↦ elim (all_or_not f xs) [ inl b ↦ inl (rw (a, b) refl) | inr r ↦ inr (r.0, (suc r.1.0, omega (arith, r.1.1), r.1.2), r.2) ]
  | inr b ↦ inr (x, (zero, omega arith, refl), b)
]

-- if some items pass a test, one with the least key does
least : (p : ℕ → Bool) (key : ℕ → ℕ) (xs : List ℕ) (m i : ℕ) → Contains xs i → p i ≡ true → key i < m → (j : ℕ) × Contains xs j × (p j ≡ true) × (list_all (λ k. not (p k) || leb (key j) (key k)) xs ≡ true)
least p key xs zero i here pass lt = absurd (omega arith)
least p key xs (suc m) i here pass lt = elim (all_or_not (λ k. not (p k) || leb (key i) (key k)) xs) [
  | inl all ↦ (i, here, pass, all)
  | inr r ↦
      let two = or_parts (not (p r.0)) (leb (key i) (key r.0)) r.2 in
      let lower = leb-false (key i) (key r.0) two.1 in
      least p key xs m r.0 r.1 (not-false (p r.0) two.0) (omega arith)
]

is_around : (n i k : ℕ) → k < n → Contains (around n i) k
is_around n i k below = elim (cases_Bool (leb i k)) [
  | inl after ↦ let le = leb-true i k after in Contains-append_left (range_with_len i (n - i)) (range_with_len 0 i) k (range_has i (n - i) k le (omega arith))
  | inr before ↦ let lt = leb-false i k before in Contains-append_right (range_with_len i (n - i)) (range_with_len 0 i) k (range_has 0 i k (omega arith) (omega arith))
]

some_left : {A : Type 0} (o : Option A) → (o ≡ None → ⊥) → is_some o ≡ true
some_left None h = absurd (h refl)
some_left (Some x) h = refl

some_none : {A : Type 0} (o : Option A) → is_some o ≡ true → o ≡ None → ⊥
some_none None h e = absurd (false≢true h)
some_none (Some x) h e = absurd (none_some e)
  where
    none_some : {B : Type 0} {b : B} → Some b ≡ None → ⊥
    none_some e = cc

-- what RECV from any task requires of the best sender: if it offers no call, no call is offered
abbrev pub IsBestOf : State → ℕ → Option ℕ → Type 0
IsBestOf s c best = (k : Call) → offer_of s c best ≡ None → Contains s.calls k → k.phase ≡ Offered → k.server.index ≡ c → ⊥

pub best_is_best : {g : Setup} (s : State) (c : ℕ) → Sane g s → IsBestOf s c (best_sender g s c)
unfolding best_sender
best_is_best {g} s c h k none here offered server = by_best (find (is_best g s c) (around (length s.tasks) (c + 1))) refl none
  where
    it_offers : is_some (offer_by s k.client.index c) ≡ true
    it_offers = some_left (offer_by s k.client.index c) (λ e. no_offer s k.client.index c k e here offered server refl)

    inside : k.client.index < length s.tasks
    inside = rw h.steady.as_many (h.steady.calls.fit k here).client

    by_best : (best : Option ℕ) → find (is_best g s c) (around (length s.tasks) (c + 1)) ≡ best → offer_of s c best ≡ None → ⊥
    by_best (Some j) e nothing = some_none (offer_by s j c) (and_parts (offers s c j) _ (found_in (is_best g s c) (around (length s.tasks) (c + 1)) j e).1).0 nothing
    by_best None e nothing =
        let l = least (offers s c) (priority g) (range_with_len 0 (length s.tasks)) (priority g k.client.index + 1) k.client.index (range_has 0 (length s.tasks) k.client.index (omega arith) (omega (arith, inside))) it_offers (omega arith) in
        not_found (is_best g s c) (around (length s.tasks) (c + 1)) l.0 e (is_around (length s.tasks) (c + 1) l.0 (let below = range_below 0 (length s.tasks) l.0 l.1 in omega (arith, below))) (rw (l.2, l.3) refl)
