-- The functions of a state after a listen is added, or a call is taken.
use Rattle.std.proofs.Common.{◌≡◌, ◌≢◌, ℕ, Bool, true, false, cond, List, [], ◌∷◌, ◌++◌, Some, None, inl, inr, refl, sym, ◌∙◌, ap, eqb}
use Rattle.std.specs.Prelude.{find, map}
use Rattle.std.specs.Option.{option_map}
use Rattle.std.proofs.lemmas.Bool.{ne_eqb, eq-eqb}
use Rattle.std.proofs.lemmas.Bool.Decides.{eqb_tells}
use Rattle.task_table.specs.model.State.{Call, Listen, State}
use Rattle.task_table.specs.model.Reading.{task_at, call_of, listen_of, IsSameBut}
use Rattle.task_table.specs.model.Effects.{with_listen, with_taken, taken_from}

pub no_some : {A P : Type 0} {a : A} → Some a ≡ None → P
no_some e = cc

-- ## a listen added

pub find_added : {X : Type 0} (p : X → Bool) (xs : List X) (y : X) → find p xs ≡ None → p y ≡ true → find p (xs ++ y ∷ []) ≡ Some y
find_added p [] y h t = rw t refl
find_added p (x ∷ xs) y h t = go (p x) (λ e. find_added p xs y e t) h
  where
    go : (b : Bool) → (find p xs ≡ None → find p (xs ++ y ∷ []) ≡ Some y) → cond b (Some x) (find p xs) ≡ None → cond b (Some x) (find p (xs ++ y ∷ [])) ≡ Some y
    go true rest e = no_some e
    go false rest e = rest e

pub find_added_other : {X : Type 0} (p : X → Bool) (xs : List X) (y : X) → p y ≡ false → find p (xs ++ y ∷ []) ≡ find p xs
find_added_other p [] y h = rw h refl
find_added_other p (x ∷ xs) y h = ap (cond (p x) (Some x)) (find_added_other p xs y h)

pub listen_of-with_listen : (s : State) (l : Listen) → listen_of s l.task ≡ None → listen_of (with_listen l s) l.task ≡ Some l
unfolding listen_of with_listen
listen_of-with_listen s l none = find_added (λ x. eqb x.task l.task) s.listens l none (eq-eqb l.task l.task refl)

pub listen_of-with_listen_other : (s : State) (l : Listen) (j : ℕ) → j ≢ l.task → listen_of (with_listen l s) j ≡ listen_of s j
unfolding listen_of with_listen
listen_of-with_listen_other s l j ne = find_added_other (λ x. eqb x.task j) s.listens l (ne_eqb _ _ (λ e. ne (sym e)))

pub task_at-with_listen : (s : State) (l : Listen) (j : ℕ) → task_at (with_listen l s) j ≡ task_at s j
unfolding task_at with_listen
task_at-with_listen s l j = refl

pub call_of-with_listen : (s : State) (l : Listen) (j : ℕ) → call_of (with_listen l s) j ≡ call_of s j
unfolding call_of with_listen
call_of-with_listen s l j = refl

pub same_but-with_listen : (s : State) (l : Listen) → IsSameBut l.task s (with_listen l s)
unfolding with_listen
same_but-with_listen s l = record {
  count = refl;
  task = λ j ne. task_at-with_listen s l j;
  call = λ j ne. call_of-with_listen s l j;
  listen = λ j ne. listen_of-with_listen_other s l j ne;
  memory = refl;
  now = refl;
  current = refl;
  next_call = refl;
  lines = refl;
  turn = refl;
  devices = refl;
}

-- ## a call taken

find_taken : (i j : ℕ) (cs : List Call) → find (λ c. eqb c.client.index j) (map (taken_from i) cs) ≡ option_map (taken_from i) (find (λ c. eqb c.client.index j) cs)
find_taken i j [] = refl
find_taken i j (c ∷ cs) =
    elim (eqb_tells c.client.index j) [
      | inl t ↦ simp t.0
      | inr f ↦ simp f.0 (find_taken i j cs)
    ]

pub call_of-with_taken : (s : State) (i j : ℕ) → call_of (with_taken i s) j ≡ option_map (taken_from i) (call_of s j)
unfolding call_of with_taken
call_of-with_taken s i j = find_taken i j s.calls

not_mine : (i j : ℕ) (cs : List Call) → j ≢ i → option_map (taken_from i) (find (λ c. eqb c.client.index j) cs) ≡ find (λ c. eqb c.client.index j) cs
not_mine i j [] ne = refl
not_mine i j (c ∷ cs) ne =
    elim (eqb_tells c.client.index j) [
      | inl t ↦ let other : eqb c.client.index i ≡ false = ne_eqb _ _ (λ e. ne (sym t.1 ∙ e)) in simp (t.0, other)
      | inr f ↦ simp f.0 (not_mine i j cs ne)
    ]

taken_other : (s : State) (i j : ℕ) → j ≢ i → option_map (taken_from i) (call_of s j) ≡ call_of s j
unfolding call_of
taken_other s i j ne = not_mine i j s.calls ne

pub call_of-with_taken_other : (s : State) (i j : ℕ) → j ≢ i → call_of (with_taken i s) j ≡ call_of s j
call_of-with_taken_other s i j ne = call_of-with_taken s i j ∙ taken_other s i j ne

pub task_at-with_taken : (s : State) (i j : ℕ) → task_at (with_taken i s) j ≡ task_at s j
unfolding task_at with_taken
task_at-with_taken s i j = refl

pub listen_of-with_taken : (s : State) (i j : ℕ) → listen_of (with_taken i s) j ≡ listen_of s j
unfolding listen_of with_taken
listen_of-with_taken s i j = refl

pub same_but-with_taken : (s : State) (i : ℕ) → IsSameBut i s (with_taken i s)
unfolding with_taken
same_but-with_taken s i = record {
  count = refl;
  task = λ j ne. task_at-with_taken s i j;
  call = λ j ne. call_of-with_taken_other s i j ne;
  listen = λ j ne. listen_of-with_taken s i j;
  memory = refl;
  now = refl;
  current = refl;
  next_call = refl;
  lines = refl;
  turn = refl;
  devices = refl;
}
