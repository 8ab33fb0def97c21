-- The open call of a client as calls come and go.
use Rattle.std.proofs.Common.{◌≡◌, ◌≢◌, ℕ, inl, inr, Bool, true, false, cond, eqb, not, List, [], ◌∷◌, ◌++◌, map, Option, Some, None, refl, sym, ap, ◌∙◌}
use Rattle.std.specs.Prelude.{Contains, find, filter, option_map}
use Rattle.std.proofs.lemmas.Bool.{false≢true, eq-eqb, eqb-true}
use Rattle.std.proofs.lemmas.Bool.Decides.{eqb_tells}
use Rattle.task_table.specs.model.State.{Call}
use Rattle.task_table.specs.declared.slot.Phase.TheVariants.{Offered, Taken}
use Rattle.task_table.specs.model.Effects.{taken_from}
use Rattle.task_table.proofs.model.Keeps.{found_in, not_found}
use Rattle.audit_runs.specs.Spoken.{is_taken, open_of, held_of}
use Rattle.task_table.proofs.model.Clients.{no_some}

push_none : (p : Call → Bool) (xs : List Call) (y : Call) → find p xs ≡ None → find p (xs ++ y ∷ []) ≡ cond (p y) (Some y) None
push_none p [] y e = refl
push_none p (x ∷ xs) y e = go (p x) e (push_none p xs y)
  where
    go : (b : Bool) → cond b (Some x) (find p xs) ≡ None → (find p xs ≡ None → find p (xs ++ y ∷ []) ≡ cond (p y) (Some y) None) → cond b (Some x) (find p (xs ++ y ∷ [])) ≡ cond (p y) (Some y) None
    go true e later = no_some (sym e)
    go false e later = later e

push_other : (p : Call → Bool) (xs : List Call) (y : Call) → p y ≡ false → find p (xs ++ y ∷ []) ≡ find p xs
push_other p [] y e = rw e refl
push_other p (x ∷ xs) y e = ap (λ o. cond (p x) (Some x) o) (push_other p xs y e)

find_map : (p : Call → Bool) (f : Call → Call) → ((x : Call) → p (f x) ≡ p x) → (xs : List Call) → find p (map f xs) ≡ option_map f (find p xs)
find_map p f same [] = refl
find_map p f same (x ∷ xs) = ap (λ b. cond b (Some (f x)) (find p (map f xs))) (same x) ∙ ap (λ o. cond (p x) (Some (f x)) o) (find_map p f same xs) ∙ go (p x)
  where
    go : (b : Bool) → cond b (Some (f x)) (option_map f (find p xs)) ≡ option_map f (cond b (Some x) (find p xs))
    go true = refl
    go false = refl

find_kept : (p q : Call → Bool) → ((x : Call) → p x ≡ true → q x ≡ true) → (xs : List Call) → find p (filter q xs) ≡ find p xs
find_kept p q so [] = refl
find_kept p q so (x ∷ xs) = go (p x) (q x) refl refl (find_kept p q so xs)
  where
    go : (a b : Bool) → p x ≡ a → q x ≡ b → find p (filter q xs) ≡ find p xs → find p (cond b (x ∷ filter q xs) (filter q xs)) ≡ cond a (Some x) (find p xs)
    go true true a b later = ap (λ c. cond c (Some x) (find p (filter q xs))) a
    go false true a b later = ap (λ c. cond c (Some x) (find p (filter q xs))) a ∙ later
    go true false a b later = absurd (false≢true (sym b ∙ so x a))
    go false false a b later = later

find_gone : (p : Call → Bool) (xs : List Call) → find p (filter (λ x. not (p x)) xs) ≡ None
find_gone p [] = refl
find_gone p (x ∷ xs) = go (p x) refl (find_gone p xs)
  where
    go : (b : Bool) → p x ≡ b → find p (filter (λ y. not (p y)) xs) ≡ None → find p (cond (not b) (x ∷ filter (λ y. not (p y)) xs) (filter (λ y. not (p y)) xs)) ≡ None
    go true e later = later
    go false e later = ap (λ c. cond c (Some x) (find p (filter (λ y. not (p y)) xs))) e ∙ later

abbrev pub of_client : ℕ → Call → Bool
of_client i c = eqb c.client.index i

other_client : (i j : ℕ) → i ≢ j → eqb i j ≡ false
other_client i j ne = elim (eqb_tells i j) [ inl e ↦ absurd (ne e.1) | inr e ↦ e.0 ]

-- ## one more call

pub held_offer : (calls : List Call) (k : Call) → k.phase ≡ Offered → find (of_client k.client.index) calls ≡ None → held_of (calls ++ k ∷ []) k.client.index ≡ Some (record { call = k.number; taken = false })
held_offer calls k phase free =
    ap open_of (push_none (of_client k.client.index) calls k free ∙ ap (λ b. cond b (Some k) None) (eq-eqb k.client.index k.client.index refl))
    ∙ ap (λ p. Some (record { call = k.number; taken = is_taken p })) phase

pub held_offer_other : (calls : List Call) (k : Call) (j : ℕ) → j ≢ k.client.index → held_of (calls ++ k ∷ []) j ≡ held_of calls j
held_offer_other calls k j ne = ap open_of (push_other (of_client j) calls k (other_client k.client.index j (λ e. ne (sym e))))

-- ## a call is taken

pub held_take : (calls : List Call) (k : Call) → find (of_client k.client.index) calls ≡ Some k → held_of (map (taken_from k.client.index) calls) k.client.index ≡ Some (record { call = k.number; taken = true })
held_take calls k found =
    ap open_of (find_map (of_client k.client.index) (taken_from k.client.index) (λ x. refl) calls ∙ ap (option_map (taken_from k.client.index)) found)
    ∙ ap (λ b. Some (record { call = k.number; taken = is_taken (cond b Taken k.phase) })) (eq-eqb k.client.index k.client.index refl)

pub held_take_other : (calls : List Call) (i j : ℕ) → j ≢ i → held_of (map (taken_from i) calls) j ≡ held_of calls j
held_take_other calls i j ne = ap open_of (find_map (of_client j) (taken_from i) (λ x. refl) calls) ∙ go (find (of_client j) calls) refl
  where
    go : (o : Option Call) → find (of_client j) calls ≡ o → open_of (option_map (taken_from i) o) ≡ open_of o
    go None e = refl
    go (Some d) e =
        let at : d.client.index ≡ j = eqb-true d.client.index j (found_in (of_client j) calls d e).1 in
        ap (λ b. Some (record { call = d.number; taken = is_taken (cond b Taken d.phase) })) (other_client d.client.index i (λ same. ne (sym at ∙ same)))

-- ## a call is closed

pub held_close : (calls : List Call) (i : ℕ) → held_of (filter (λ c. not (eqb c.client.index i)) calls) i ≡ None
held_close calls i = ap open_of (find_gone (of_client i) calls)

pub held_close_other : (calls : List Call) (i j : ℕ) → j ≢ i → held_of (filter (λ c. not (eqb c.client.index i)) calls) j ≡ held_of calls j
held_close_other calls i j ne = ap open_of (find_kept (of_client j) (λ c. not (eqb c.client.index i)) (λ x e. ap not (other_client x.client.index i (λ same. ne (sym (eqb-true x.client.index j e) ∙ same)))) calls)

-- ## what is there is found

pub found_here : (calls : List Call) (k : Call) → ((c d : Call) → Contains calls c → Contains calls d → c.client.index ≡ d.client.index → c ≡ d) → Contains calls k → find (of_client k.client.index) calls ≡ Some k
found_here calls k unique here = go (find (of_client k.client.index) calls) refl
  where
    go : (o : Option Call) → find (of_client k.client.index) calls ≡ o → find (of_client k.client.index) calls ≡ Some k
    go None e = absurd (not_found (of_client k.client.index) calls k e here (eq-eqb k.client.index k.client.index refl))
    go (Some d) e = let r = found_in (of_client k.client.index) calls d e in e ∙ ap Some (unique d k r.0 here (eqb-true d.client.index k.client.index r.1))
