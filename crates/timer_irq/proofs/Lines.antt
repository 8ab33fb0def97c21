-- Lists of lines, and folds over them.
use Rattle.std.proofs.Common.{◌≡◌, ◌+◌, ◌<◌, ◌≤◌, inl, inr, ℕ, zero, suc, Bool, true, false, cond, List, [], ◌∷◌, length, map, take, Some, None, refl, sym, ◌∙◌, ap, arith, get_or}
use Rattle.std.proofs.lemmas.Bool.{cases_Bool}
use Rattle.std.proofs.lemmas.Option.{slice_get_within, get_or_from_slice_get}
use Rattle.std.specs.Prelude.{Contains, filter, find, fold, slice_get}
use Rattle.std.specs.List.{range_with_len, list_any}
use Rattle.std.specs.Option.{option_map}
use Rattle.timer_irq.specs.Midway.{with_any, with_next}
use Rattle.task_table.proofs.model.Clients.{no_some}

-- one more index at the end of a range
fold_range_suc : {B : Type 0} (f : B → ℕ → B) (b : B) (a n : ℕ) → fold f b (range_with_len a (suc n)) ≡ f (fold f b (range_with_len a n)) (a + n)
fold_range_suc f b a zero = let e : a ≡ a + 0 = omega arith in ap (f b) e
fold_range_suc f b a (suc n) = let e : a + 1 + n ≡ a + suc n = omega arith in fold_range_suc f (f b a) (a + 1) n ∙ ap (f (fold f (f b a) (range_with_len (a + 1) n))) e

pub fold_range_more : {B : Type 0} (f : B → ℕ → B) (b : B) (n : ℕ) → fold f b (range_with_len 0 (n + 1)) ≡ f (fold f b (range_with_len 0 n)) n
fold_range_more f b n = let e : n + 1 ≡ suc n = omega arith in let z : 0 + n ≡ n = omega arith in rw e (fold_range_suc f b 0 n ∙ ap (f (fold f b (range_with_len 0 n))) z)

pub get_none : {A : Type 0} (xs : List A) (i : ℕ) (d : A) → slice_get xs i ≡ None → get_or xs i d ≡ d
get_none [] i d h = refl
get_none (y ∷ ys) zero d h = no_some (sym h)
get_none (y ∷ ys) (suc i) d h = get_none ys i d h

-- the first item that passes, in a list of what is kept of the items
pub find_mapped : {A B : Type 0} (f : A → B) (p : B → Bool) (xs : List A) → find p (map f xs) ≡ option_map f (find (λ x. p (f x)) xs)
find_mapped f p [] = refl
find_mapped f p (x ∷ xs) = go (p (f x)) (find_mapped f p xs)
  where
    go : (b : Bool) → find p (map f xs) ≡ option_map f (find (λ y. p (f y)) xs) → cond b (Some (f x)) (find p (map f xs)) ≡ option_map f (cond b (Some x) (find (λ y. p (f y)) xs))
    go true e = refl
    go false e = e

pub any_mapped : {A B : Type 0} (f : A → B) (p : B → Bool) (xs : List A) → list_any p (map f xs) ≡ list_any (λ x. p (f x)) xs
any_mapped f p [] = refl
any_mapped f p (x ∷ xs) = rw (any_mapped f p xs) refl

-- one more item of a fold over the items that pass
next_folded : {A B : Type 0} (f : B → A → B) (p : A → Bool) (b : B) (xs : List A) (i : ℕ) → fold f b (filter p (take (suc i) xs)) ≡ with_next f p (slice_get xs i) (fold f b (filter p (take i xs)))
next_folded f p b [] zero = refl
next_folded f p b [] (suc i) = refl
next_folded f p b (y ∷ ys) zero = go (p y)
  where
    go : (c : Bool) → fold f b (cond c (y ∷ filter p (take 0 ys)) (filter p (take 0 ys))) ≡ cond c (f b y) b
    go true = refl
    go false = refl
next_folded f p b (y ∷ ys) (suc i) = go (p y) (next_folded f p (f b y) ys i) (next_folded f p b ys i)
  where
    go : (c : Bool) → fold f (f b y) (filter p (take (suc i) ys)) ≡ with_next f p (slice_get ys i) (fold f (f b y) (filter p (take i ys)))
        → fold f b (filter p (take (suc i) ys)) ≡ with_next f p (slice_get ys i) (fold f b (filter p (take i ys)))
        → fold f b (cond c (y ∷ filter p (take (suc i) ys)) (filter p (take (suc i) ys))) ≡ with_next f p (slice_get ys i) (fold f b (cond c (y ∷ filter p (take i ys)) (filter p (take i ys))))
    go true there without = there
    go false there without = without

pub fold_next : {A B : Type 0} (f : B → A → B) (p : A → Bool) (b : B) (xs : List A) (i : ℕ) → with_next f p (slice_get xs i) (fold f b (filter p (take i xs))) ≡ fold f b (filter p (take (i + 1) xs))
fold_next f p b xs i = let e : suc i ≡ i + 1 = omega arith in sym (next_folded f p b xs i) ∙ ap (λ n. fold f b (filter p (take n xs))) e

-- one more item of a fold over all items
next_of_all : {A B : Type 0} (f : B → A → B) (b : B) (xs : List A) (i : ℕ) → fold f b (take (suc i) xs) ≡ with_any f (slice_get xs i) (fold f b (take i xs))
next_of_all f b [] zero = refl
next_of_all f b [] (suc i) = refl
next_of_all f b (y ∷ ys) zero = refl
next_of_all f b (y ∷ ys) (suc i) = next_of_all f (f b y) ys i

pub fold_any : {A B : Type 0} (f : B → A → B) (b : B) (xs : List A) (i : ℕ) → with_any f (slice_get xs i) (fold f b (take i xs)) ≡ fold f b (take (i + 1) xs)
fold_any f b xs i = let e : suc i ≡ i + 1 = omega arith in sym (next_of_all f b xs i) ∙ ap (λ n. fold f b (take n xs)) e

-- what is done with an item and with what a list says of it, is done with the item and its own value
asked_in : {A B : Type 0} (f : Bool → B → A → B) (q : A → Bool) (xs : List A) (i : ℕ) (b : B) → with_any (f (get_or (map q xs) i false)) (slice_get xs i) b ≡ with_any (λ u x. f (q x) u x) (slice_get xs i) b
asked_in f q [] i b = refl
asked_in f q (x ∷ xs) zero b = refl
asked_in f q (x ∷ xs) (suc i) b = asked_in f q xs i b

pub asked_any : {A B : Type 0} (f : Bool → B → A → B) (q : A → Bool) (xs : List A) (asked : List Bool) (i : ℕ) (b : B) → asked ≡ map q xs → with_any (f (get_or asked i false)) (slice_get xs i) b ≡ with_any (λ u x. f (q x) u x) (slice_get xs i) b
asked_any f q xs asked i b e = ap (λ bs. with_any (f (get_or bs i false)) (slice_get xs i) b) e ∙ asked_in f q xs i b

pub asked_at : {A : Type 0} (q : A → Bool) (xs : List A) (i : ℕ) (d : A) → i < length xs → get_or (map q xs) i false ≡ q (get_or xs i d)
asked_at q [] i d below = absurd (omega arith)
asked_at q (x ∷ xs) zero d below = refl
asked_at q (x ∷ xs) (suc i) d below = asked_at q xs i d (omega arith)

pub get_in : {A : Type 0} (xs : List A) (i : ℕ) (x : A) → slice_get xs i ≡ Some x → Contains xs x
get_in xs i x e = (i, slice_get_within xs i x e, get_or_from_slice_get xs i x x e)

pub get_mapped : {A B : Type 0} (f : A → B) (xs : List A) (i : ℕ) → option_map f (slice_get xs i) ≡ slice_get (map f xs) i
get_mapped f [] i = refl
get_mapped f (y ∷ ys) zero = refl
get_mapped f (y ∷ ys) (suc i) = get_mapped f ys i

-- an item that passes is the first one if none before it passes; if no item passes, there is none
pub find_at : {A : Type 0} (p : A → Bool) (xs : List A) (i : ℕ) (d : A) → i < length xs → find p (take i xs) ≡ None → p (get_or xs i d) ≡ true → find p xs ≡ Some (get_or xs i d)
find_at p [] i d below none here = absurd (omega arith)
find_at p (x ∷ xs) zero d below none here = rw here refl
find_at p (x ∷ xs) (suc i) d below none here = elim (cases_Bool (p x)) [
  | inl e ↦ no_some (sym (rw e at none))
  | inr e ↦ rw e (find_at p xs i d (omega arith) (rw e at none) here)
]

pub take_whole : {A : Type 0} (xs : List A) (n : ℕ) → length xs ≤ n → take n xs ≡ xs
take_whole [] zero h = refl
take_whole [] (suc n) h = refl
take_whole (x ∷ xs) zero h = absurd (omega arith)
take_whole (x ∷ xs) (suc n) h = ap (λ ys. x ∷ ys) (take_whole xs n (omega arith))

pub find_whole : {A : Type 0} (p : A → Bool) (xs : List A) (i : ℕ) → length xs ≤ i → find p (take i xs) ≡ None → find p xs ≡ None
find_whole p xs i h none = ap (find p) (sym (take_whole xs i h)) ∙ none

more_found : {A : Type 0} (p : A → Bool) (xs : List A) (i : ℕ) (d : A) → find p (take i xs) ≡ None → p (get_or xs i d) ≡ false → find p (take (suc i) xs) ≡ None
more_found p [] i d none here = refl
more_found p (x ∷ xs) zero d none here = rw here refl
more_found p (x ∷ xs) (suc i) d none here = elim (cases_Bool (p x)) [
  | inl e ↦ no_some (sym (rw e at none))
  | inr e ↦ rw e (more_found p xs i d (rw e at none) here)
]

pub find_more : {A : Type 0} (p : A → Bool) (xs : List A) (i : ℕ) (d : A) → find p (take i xs) ≡ None → p (get_or xs i d) ≡ false → find p (take (i + 1) xs) ≡ None
find_more p xs i d none here = let e : i + 1 ≡ suc i = omega arith in rw e (more_found p xs i d none here)
