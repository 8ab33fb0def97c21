-- The order in which tasks are chosen: by priority number, and equal ones by index. Sets of tasks are sets of places in it.
use Rattle.std.specs.Prelude.{ℕ, ◌≡◌, ◌+◌, ◌*◌, ◌/◌, ◌%◌, ◌<◌, ◌≤◌, Bool, ◌&&◌, ◌||◌, not, List, [], ◌∷◌, length, map, Option, Some, None, find, nat_le, slice_index_or, ◌==◌, if◌then◌else◌}
use Rattle.std.specs.List.{range_with_len, list_all, sum_by}
use Rattle.task_table.specs.model.State.{TaskSetup}
use Rattle.task_table.specs.declared.order.Order.{Order}
use Rattle.task_table.specs.model.Reading.{around}
use Rattle.task_table.specs.kept.TaskSets.{has, IsFirstFrom}

-- the priority numbers of tasks, by index
abbrev pub priorities_of : List TaskSetup → List ℕ
priorities_of tasks = map (λ x. x.priority) tasks

-- the priority number of a task, the place of one, and the key at a place: 1024 times the priority number, and the index
abbrev pub priority_at : List ℕ → ℕ → ℕ
priority_at priorities i = slice_index_or priorities i 0

abbrev pub place_in : List ℕ → ℕ → ℕ
place_in places i = slice_index_or places i 0

abbrev pub key_in : List ℕ → ℕ → ℕ
key_in keys p = slice_index_or keys p 0

-- the keys of tasks of these priority numbers, and the place of each
pub record AreOrdered (priorities keys places : List ℕ) : Type 0 where
  pub few : length priorities ≤ 1024
  pub key_count : length keys ≡ length priorities
  pub place_count : length places ≡ length priorities
  pub inside : (i : ℕ) → i < length priorities → place_in places i < length priorities
  pub key : (i : ℕ) → i < length priorities → key_in keys (place_in places i) ≡ 1024 * priority_at priorities i + i
  pub there : (p : ℕ) → p < length priorities → key_in keys p % 1024 < length priorities
  pub place : (p : ℕ) → p < length priorities → place_in places (key_in keys p % 1024) ≡ p
  pub rising : (p q : ℕ) → p < q → q < length priorities → key_in keys p < key_in keys q

-- each of n tasks has a place below n, and no two have the same place
pub record ArePlaces (n : ℕ) (places : List ℕ) : Type 0 where
  pub count : length places ≡ n
  pub below : (i : ℕ) → i < n → place_in places i < n
  pub apart : (i j : ℕ) → i < n → j < n → place_in places i ≡ place_in places j → i ≡ j

-- a task is in a set of places
abbrev pub has_task : List ℕ → List ℕ → ℕ → Bool
has_task places words i = has words (place_in places i)

-- a set of places in the order of these tasks has exactly those tasks for which a test is true
pub record AreAtPlaces (tasks : List TaskSetup) (order : Order) (words : List ℕ) (test : ℕ → Bool) : Type 0 where
  pub ordered : AreOrdered (priorities_of tasks) order.keys.items order.places.items
  pub each : (i : ℕ) → i < length tasks → has_task order.places.items words i ≡ test i

-- a task passes a test, and no task that passes it has a lower priority number
abbrev pub is_lowest : List ℕ → (ℕ → Bool) → ℕ → ℕ → Bool
is_lowest priorities among n i = among i && list_all (λ j. not (among j) || nat_le (priority_at priorities i) (priority_at priorities j)) (range_with_len 0 n)

-- the first of those tasks, cyclically from a task on, of n tasks
unfoldable pub first_around : List ℕ → (ℕ → Bool) → ℕ → ℕ → Option ℕ
first_around priorities among n from = find (is_lowest priorities among n) (around n from)

-- the least place from which on no key is below this key
pub record IsPlaceOf (keys : List ℕ) (key place : ℕ) : Type 0 where
  pub below : (p : ℕ) → p < place → key_in keys p < key
  pub above : (p : ℕ) → place ≤ p → p < length keys → key ≤ key_in keys p

-- the key at the first place of a set from a place on, if it has this priority number, or else another key
abbrev pub IsKeyOf : List ℕ → ℕ → ℕ → ℕ → Option ℕ → Type 0
IsKeyOf keys priority other key None = key ≡ other
IsKeyOf keys priority other key (Some found) = key ≡ (if key_in keys found / 1024 == priority then key_in keys found else other)

pub record IsKeyFrom (keys words : List ℕ) (place priority other key : ℕ) : Type 0 where
  pub found : Option ℕ
  pub first : IsFirstFrom words place found
  pub is : IsKeyOf keys priority other key found

-- the keys of tasks of these priority numbers, by index from k on
abbrev pub keyed : ℕ → List ℕ → List ℕ
keyed k [] = []
keyed k (p ∷ ps) = (1024 * p + k) ∷ keyed (k + 1) ps

-- 1 if a key is that of a task, else 0
abbrev pub is_of : ℕ → ℕ → ℕ
is_of task key = if key % 1024 == task then 1 else 0

-- no task has two keys
abbrev pub AreOnce : List ℕ → Type 0
AreOnce keys = (task : ℕ) → sum_by (is_of task) keys ≤ 1

-- the tasks of the first n keys have the places of these keys
abbrev pub HavePlaces : List ℕ → ℕ → List ℕ → Type 0
HavePlaces keys n places = (p : ℕ) → p < n → place_in places (key_in keys p % 1024) ≡ p
