-- A table of marks: which places are known, and which known places still have ways to follow.
use Rattle.std.specs.Prelude.{◌≡◌, ◌⊎◌, ℕ, ◌+◌, ◌*◌, ◌≤◌, not, Bool, true, false, [], ◌∷◌, ◌++◌, length, slice_index_or, count_by, Contains, Option, Some, None, vec_capacity}
use Rattle.run_cover.specs.declared.known.Marks.{Marks}
use Rattle.run_cover.specs.Places.{place_of}

abbrev pub mark_at : Marks → Option ℕ → Bool
mark_at t None = false
mark_at t (Some k) = slice_index_or t.known.items k false

-- whether the place at an address is known
unfoldable pub known_of : Marks → ℕ → Bool
known_of t a = mark_at t (place_of a)

-- how many places are not known
abbrev pub unknown : Marks → ℕ
unknown t = count_by not t.known.items

-- there is room for each place that is not known, and every place that has ways to follow is known
pub record AreMarks (t : Marks) : Type 0 where
  pub as_many : length t.known.items ≡ 655360
  pub room : length t.todo.items + unknown t ≤ vec_capacity t.todo
  pub known : (a : ℕ) → Contains t.todo.items a → known_of t a ≡ true

-- the work that is left; it falls with each place whose ways are followed
abbrev pub work : Marks → ℕ
work t = length t.todo.items + 2 * unknown t

-- nothing is known
pub record IsUnmarked (t : Marks) : Type 0 where
  pub marks : AreMarks t
  pub none : (a : ℕ) → known_of t a ≡ false
  pub todo : t.todo.items ≡ []

-- one more place is known, and its ways have to be followed
pub record IsMarked (before : Marks) (a : ℕ) (now : Marks) : Type 0 where
  pub marks : AreMarks now
  pub less : work now + 1 ≡ work before
  pub known : known_of now a ≡ true
  pub others : (b : ℕ) → known_of now b ≡ true → (known_of before b ≡ true) ⊎ (b ≡ a)
  pub grows : (b : ℕ) → known_of before b ≡ true → known_of now b ≡ true
  pub todo : now.todo.items ≡ before.todo.items ++ a ∷ []

-- more places are known, each for a reason, and their ways have to be followed
pub record Grows (before : Marks) (reason : ℕ → Type 0) (now : Marks) : Type 0 where
  pub keeps : (b : ℕ) → known_of before b ≡ true → known_of now b ≡ true
  pub listed : (b : ℕ) → Contains before.todo.items b → Contains now.todo.items b
  pub fresh : (b : ℕ) → known_of now b ≡ true → (known_of before b ≡ true) ⊎ (reason b × Contains now.todo.items b)

-- no ways are left to follow
pub record IsDone (before now : Marks) : Type 0 where
  pub todo : before.todo.items ≡ []
  pub known : now.known.items ≡ before.known.items

-- the ways of a known place are followed next
pub record IsTaken (before : Marks) (a : ℕ) (now : Marks) : Type 0 where
  pub marks : AreMarks now
  pub less : work now + 1 ≡ work before
  pub place : known_of before a ≡ true
  pub known : now.known.items ≡ before.known.items
  pub others : (b : ℕ) → Contains before.todo.items b → Contains now.todo.items b ⊎ (b ≡ a)

abbrev pub IsNext : Marks → Option ℕ → Marks → Type 0
IsNext before None now = IsDone before now
IsNext before (Some a) now = IsTaken before a now
