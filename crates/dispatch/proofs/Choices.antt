-- The first task with the lowest priority number, in a state.
use Rattle.std.proofs.Common.{◌≡◌, ◌+◌, ◌-◌, ◌<◌, ◌≤◌, inl, inr, ℕ, zero, suc, Bool, false, cond, not, ◌&&◌, ◌||◌, List, [], ◌∷◌, length, get_or, Option, Some, None, IfSome, refl, sym, ◌∙◌, ap, arith, leb}
use Rattle.std.proofs.lemmas.Bool.{cases_Bool}
use Rattle.std.specs.Prelude.{find}
use Rattle.std.specs.List.{range_with_len, list_all}
use Rattle.task_table.specs.model.State.{Setup, State, TaskSetup}
use Rattle.task_table.specs.model.Reading.{around, best_sender, chosen, is_ready, offers, priority}
use Rattle.task_table.specs.kept.Order.{first_around, is_lowest, priorities_of, priority_at}
use Rattle.task_table.proofs.kept.Choices.{find_append}

-- ## a search in the order

abbrev or_else : {X : Type 0} → Option X → Option X → Option X
or_else None b = b
or_else (Some x) b = Some x

-- two tests that agree on a range find the same item in it
find_same : (p q : ℕ → Bool) (from n : ℕ) → ((i : ℕ) → from ≤ i → i < from + n → p i ≡ q i) → find p (range_with_len from n) ≡ find q (range_with_len from n)
find_same p q from zero h = refl
find_same p q from (suc n) h =
    let here : p from ≡ q from = h from (omega arith) (omega arith) in
    rw here (ap (cond (q from) (Some from)) (find_same p q (from + 1) n (λ i a b. h i (omega arith) (omega arith))))

-- two tests that agree below n find the same item in cyclic order
around_same : (p q : ℕ → Bool) (n from : ℕ) → from ≤ n → ((i : ℕ) → i < n → p i ≡ q i) → find p (around n from) ≡ find q (around n from)
around_same p q n from inside h =
    find_append p (range_with_len from (n - from)) (range_with_len 0 from)
    ∙ ap (λ o. or_else o (find p (range_with_len 0 from))) (find_same p q from (n - from) (λ i a b. h i (omega (arith, a, b, inside))))
    ∙ ap (or_else (find q (range_with_len from (n - from)))) (find_same p q 0 from (λ i a b. h i (omega (arith, b, inside))))
    ∙ sym (find_append q (range_with_len from (n - from)) (range_with_len 0 from))

-- an item that is found in a range is in it
found_below : (p : ℕ → Bool) (from n m : ℕ) → from + n ≤ m → IfSome (find p (range_with_len from n)) (λ i. i < m)
found_below p from zero m fits = tt
found_below p from (suc n) m fits = elim (cases_Bool (p from)) [
  | inl t ↦ rw t (omega (arith, fits))
  | inr f ↦ rw f (found_below p (from + 1) n m (omega (arith, fits)))
]

either_below : (a b : Option ℕ) (m : ℕ) → IfSome a (λ i. i < m) → IfSome b (λ i. i < m) → IfSome (or_else a b) (λ i. i < m)
either_below None b m x y = y
either_below (Some i) b m x y = x

around_below : (p : ℕ → Bool) (n from : ℕ) → from ≤ n → IfSome (find p (around n from)) (λ i. i < n)
around_below p n from inside =
    rw (find_append p (range_with_len from (n - from)) (range_with_len 0 from))
    (either_below (find p (range_with_len from (n - from))) (find p (range_with_len 0 from)) n (found_below p from (n - from) n (omega (arith, inside))) (found_below p 0 from n (omega (arith, inside))))

all_same : (p q : ℕ → Bool) (from n : ℕ) → ((i : ℕ) → from ≤ i → i < from + n → p i ≡ q i) → list_all p (range_with_len from n) ≡ list_all q (range_with_len from n)
all_same p q from zero h = refl
all_same p q from (suc n) h =
    let here : p from ≡ q from = h from (omega arith) (omega arith) in
    rw here (ap (λ (b : Bool). q from && b) (all_same p q (from + 1) n (λ i a b. h i (omega arith) (omega arith))))

-- ## the tasks with the lowest priority number

-- a task that does not exist
abbrev no_setup : TaskSetup
no_setup = record { priority = 0; entry = 0; stack = 0; regions = []; start = false }

priority_is : (tasks : List TaskSetup) (i : ℕ) → priority_at (priorities_of tasks) i ≡ (get_or tasks i no_setup).priority
priority_is [] i = refl
priority_is (x ∷ xs) zero = refl
priority_is (x ∷ xs) (suc i) = priority_is xs i

-- whether a task is one of those with the lowest priority number, of n tasks, by the setup
abbrev is_first : Setup → (ℕ → Bool) → ℕ → ℕ → Bool
is_first g test n i = test i && list_all (λ j. not (test j) || leb (priority g i) (priority g j)) (range_with_len 0 n)

same_lowest : (g : Setup) (among test : ℕ → Bool) (n i : ℕ) → ((j : ℕ) → j < n → among j ≡ test j) → i < n → is_lowest (priorities_of g.tasks) among n i ≡ is_first g test n i
same_lowest g among test n i h inside =
    let here : among i ≡ test i = h i inside in
    rw here (ap (λ (b : Bool). test i && b) (all_same _ _ 0 n (λ j a b.
    let there : among j ≡ test j = h j (omega (arith, b)) in
    rw (there, priority_is g.tasks i, priority_is g.tasks j) refl)))

first_is : (g : Setup) (among test : ℕ → Bool) (n from : ℕ) → from ≤ n → ((j : ℕ) → j < n → among j ≡ test j) → first_around (priorities_of g.tasks) among n from ≡ find (is_first g test n) (around n from)
unfolding first_around
first_is g among test n from inside h = around_same _ _ n from inside (λ i below. same_lowest g among test n i h below)

-- ## the choices

pub chosen_is : (g : Setup) (s : State) (among : ℕ → Bool) (n from : ℕ) → n ≡ length s.tasks → from ≡ s.current → from ≤ n → ((j : ℕ) → j < n → among j ≡ is_ready s j) → first_around (priorities_of g.tasks) among n from ≡ chosen g s
unfolding chosen
chosen_is g s among n from many at inside h = first_is g among (is_ready s) n from inside h ∙ ap (λ (m : ℕ). find (is_first g (is_ready s) m) (around m from)) many ∙ ap (λ (c : ℕ). find (is_first g (is_ready s) (length s.tasks)) (around (length s.tasks) c)) at

pub best_is : (g : Setup) (s : State) (server : ℕ) (among : ℕ → Bool) (n : ℕ) → n ≡ length s.tasks → server < n → ((j : ℕ) → j < n → among j ≡ offers s server j) → first_around (priorities_of g.tasks) among n (server + 1) ≡ best_sender g s server
unfolding best_sender
best_is g s server among n many inside h = first_is g among (offers s server) n (server + 1) (omega (arith, inside)) h ∙ ap (λ (m : ℕ). find (is_first g (offers s server) m) (around m (server + 1))) many

pub first_below : (priorities : List ℕ) (among : ℕ → Bool) (n from : ℕ) → from ≤ n → IfSome (first_around priorities among n from) (λ i. i < n)
unfolding first_around
first_below priorities among n from inside = around_below (is_lowest priorities among n) n from inside
