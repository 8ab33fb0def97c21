-- The one call of a client, and whether it is offered or taken.
use Rattle.std.proofs.Common.{◌≡◌, ◌≢◌, ◌⊎◌, inl, inr, ℕ, zero, suc, Bool, true, false, cond, ◌&&◌, List, [], ◌∷◌, Option, Some, None, refl, sym, ◌∙◌, ap, arith, eqb}
use Rattle.std.specs.Prelude.{find, Contains}
use Rattle.std.proofs.lemmas.Bool.{eqb-true, false≢true, cases_Bool, and_parts, false_from_ne_true}
use Rattle.mem_banks.specs.Memory.{IsWithin, IsWithinRam}
use Rattle.task_table.specs.model.State.{Setup, Call, State, Birth, Phase}
use Rattle.task_table.specs.model.Reading.{task_at, call_of, present, is_offered, offer_by, is_taken, taken_by}
use Rattle.task_table.specs.model.Sane.{Sane}
use Rattle.task_table.proofs.model.Keeps.{found_in, not_found}
use Rattle.task_table.proofs.model.Ranges.{within-good, within_ram-good}

pub no_some : {A P : Type 0} {a : A} → None ≡ Some a → P
no_some e = cc

pub same_some : {A : Type 0} {a b : A} → Some a ≡ Some b → a ≡ b
same_some e = cc

pub option_cases : {A : Type 0} (o : Option A) → (o ≡ None) ⊎ ((x : A) × (o ≡ Some x))
option_cases None = inl refl
option_cases (Some x) = inr (x, refl)

-- ## what is found in a list

contains_more : {X : Type 0} (x y : X) (xs : List X) → Contains xs y → Contains (x ∷ xs) y
contains_more x y xs h = (suc h.0, omega (arith, h.1), h.2)

-- nothing is found where nothing passes
find_none : {X : Type 0} (f : X → Bool) (xs : List X) → ((x : X) → Contains xs x → f x ≡ false) → find f xs ≡ None
find_none f [] never = refl
find_none f (x ∷ xs) never =
    let here : f x ≡ false = never x (zero, omega arith, refl) in
    rw here (find_none f xs (λ y h. never y (contains_more x y xs h)))

-- a test that implies another one, which only one element passes
find_finer_none : {X : Type 0} (p f : X → Bool) (xs : List X) → ((x : X) → f x ≡ true → p x ≡ true) → find p xs ≡ None → find f xs ≡ None
find_finer_none p f xs finer h = find_none f xs (λ x inside. false_from_ne_true (f x) (λ t. not_found p xs x h inside (finer x t)))

find_finer : {X : Type 0} (p f : X → Bool) (xs : List X) (c : X) → ((x : X) → f x ≡ true → p x ≡ true) → ((x y : X) → Contains xs x → Contains xs y → p x ≡ true → p y ≡ true → x ≡ y) → find p xs ≡ Some c → find f xs ≡ cond (f c) (Some c) None
find_finer p f xs c finer single h =
    let here = found_in p xs c h in
    elim (cases_Bool (f c)) [
      | inl e ↦ rw e (at_one e here)
      | inr e ↦ rw e (find_none f xs (λ x inside. false_from_ne_true (f x) (λ t. let same : x ≡ c = single x c inside here.0 (finer x t) here.1 in absurd (false≢true (sym e ∙ rw same at t)))))
    ]
  where
    at_one : f c ≡ true → Contains xs c × (p c ≡ true) → find f xs ≡ Some c
    at_one e here =
        elim (option_cases (find f xs)) [
          | inl none ↦ absurd (not_found f xs c none here.0 e)
          | inr some ↦ let y = found_in f xs some.0 some.1 in some.1 ∙ ap Some (single some.0 c y.0 here.0 (finer some.0 y.1) here.1)
        ]

-- ## the call of a client

-- it is one of the open ones
pub found_call : (s : State) (i : ℕ) (c : Call) → call_of s i ≡ Some c → Contains s.calls c
unfolding call_of
found_call s i c h = (found_in (λ x. eqb x.client.index i) s.calls c h).0

pub client_is : (s : State) (i : ℕ) (c : Call) → call_of s i ≡ Some c → c.client.index ≡ i
unfolding call_of
client_is s i c h = eqb-true _ _ (found_in (λ x. eqb x.client.index i) s.calls c h).1

-- ## the call of a client to a server, offered or taken

is_call : (Phase → Bool) → ℕ → ℕ → Call → Bool
is_call p i j c = (eqb c.client.index i && eqb c.server.index j) && p c.phase

call_client : (p : Phase → Bool) (i j : ℕ) (c : Call) → is_call p i j c ≡ true → eqb c.client.index i ≡ true
unfolding is_call
call_client p i j c h = (and_parts (eqb c.client.index i) (eqb c.server.index j) (and_parts (eqb c.client.index i && eqb c.server.index j) (p c.phase) h).0).0

one_of : (g : Setup) (s : State) (i : ℕ) → Sane g s → (c d : Call) → Contains s.calls c → Contains s.calls d → eqb c.client.index i ≡ true → eqb d.client.index i ≡ true → c ≡ d
one_of g s i sane c d a b e f = sane.steady.calls.client c d a b (eqb-true _ _ e ∙ sym (eqb-true _ _ f))

call_by_none : (p : Phase → Bool) (s : State) (i j : ℕ) → call_of s i ≡ None → find (is_call p i j) s.calls ≡ None
unfolding call_of
call_by_none p s i j h = find_finer_none (λ c. eqb c.client.index i) (is_call p i j) s.calls (call_client p i j) h

call_by_call : (p : Phase → Bool) (g : Setup) (s : State) (i j : ℕ) (c : Call) → Sane g s → call_of s i ≡ Some c → find (is_call p i j) s.calls ≡ cond (eqb c.server.index j && p c.phase) (Some c) None
unfolding call_of is_call
call_by_call p g s i j c sane h =
    let here = found_in (λ x. eqb x.client.index i) s.calls c h in
    find_finer (λ x. eqb x.client.index i) (is_call p i j) s.calls c (call_client p i j) (one_of g s i sane) h
    ∙ ap (λ b. cond ((b && eqb c.server.index j) && p c.phase) (Some c) None) here.1

pub offer_by_none : (s : State) (i j : ℕ) → call_of s i ≡ None → offer_by s i j ≡ None
unfolding offer_by is_call
offer_by_none s i j h = call_by_none is_offered s i j h

pub offer_by_call : (g : Setup) (s : State) (i j : ℕ) (c : Call) → Sane g s → call_of s i ≡ Some c → offer_by s i j ≡ cond (eqb c.server.index j && is_offered c.phase) (Some c) None
unfolding offer_by is_call
offer_by_call g s i j c sane h = call_by_call is_offered g s i j c sane h

pub taken_by_none : (s : State) (i j : ℕ) → call_of s i ≡ None → taken_by s i j ≡ None
unfolding taken_by is_call
taken_by_none s i j h = call_by_none is_taken s i j h

pub taken_by_call : (g : Setup) (s : State) (i j : ℕ) (c : Call) → Sane g s → call_of s i ≡ Some c → taken_by s i j ≡ cond (eqb c.server.index j && is_taken c.phase) (Some c) None
unfolding taken_by is_call
taken_by_call g s i j c sane h = call_by_call is_taken g s i j c sane h

-- what is known of a call that is found like this
pub record IsCallOf (g : Setup) (s : State) (i j : ℕ) (c : Call) : Type 0 where
  pub call : call_of s i ≡ Some c
  pub client : c.client ≡ present s i
  pub server : c.server.index ≡ j
  pub apart : i ≢ j
  pub readable : IsWithin s.memory c.message.base c.message.len
  pub writable : IsWithinRam s.memory c.reply.base c.reply.len

same_birth_is : (b : Birth) (i n : ℕ) → b.index ≡ i → b.birth ≡ n → b ≡ record { index = i; birth = n }
same_birth_is b i n e f = rw (← e, ← f) refl

cond_some : (b : Bool) (x y : Call) → cond b (Some x) None ≡ Some y → (b ≡ true) × (x ≡ y)
cond_some true x y h = (refl, same_some h)
cond_some false x y h = no_some h

call_by : (p : Phase → Bool) (g : Setup) (s : State) (i j : ℕ) (c : Call) → Sane g s → find (is_call p i j) s.calls ≡ Some c → IsCallOf g s i j c
call_by p g s i j c sane h =
    elim (option_cases (call_of s i)) [
      | inl none ↦ no_some (sym (call_by_none p s i j none) ∙ h)
      | inr some ↦
          let d = some.0 in
          let tests = cond_some (eqb d.server.index j && p d.phase) d c (sym (call_by_call p g s i j d sane some.1) ∙ h) in
          let here : call_of s i ≡ Some c = some.1 ∙ ap Some tests.1 in
          let inside = found_call s i c here in
          let fit = sane.steady.calls.fit c inside in
          let client = client_is s i c here in
          let server : c.server.index ≡ j = sym (ap (λ (x : Call). x.server.index) tests.1) ∙ eqb-true _ _ (and_parts (eqb d.server.index j) (p d.phase) tests.0).0 in
          record {
            call = here;
            client = same_birth_is c.client i (task_at s i).births client (sym (sane.present.client c inside) ∙ ap (λ x. (task_at s x).births) client);
            server = server;
            apart = λ e. fit.apart (client ∙ e ∙ sym server);
            readable = within-good g s.memory c.client.index _ c.message sane.steady.placed fit.readable;
            writable = within_ram-good g s.memory c.client.index c.reply sane.steady.placed fit.writable;
          }
    ]

pub offered_call : (g : Setup) (s : State) (i j : ℕ) (c : Call) → Sane g s → offer_by s i j ≡ Some c → IsCallOf g s i j c
unfolding offer_by is_call
offered_call g s i j c sane h = call_by is_offered g s i j c sane h

pub taken_call : (g : Setup) (s : State) (i j : ℕ) (c : Call) → Sane g s → taken_by s i j ≡ Some c → IsCallOf g s i j c
unfolding taken_by is_call
taken_call g s i j c sane h = call_by is_taken g s i j c sane h
