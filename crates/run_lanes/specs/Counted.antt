-- The cells of a column, as turns are counted in them and as two neighbours become one.
use Rattle.std.specs.Prelude.{◌≡◌, ◌≤◌, ◌<◌, ℕ, ◌+◌, ◌-◌, ◌*◌, ◌^◌, ◌||◌, Bool, List, length, map, take, drop, min, count_by, slice_index_or, slice_set}
use Rattle.std.specs.List.{list_any, range_with_len}
use Rattle.kernel_abi.specs.declared.Note.{Note}
use Rattle.lane_picture.specs.declared.parts.Cell.{Cell}
use Rattle.run_lanes.specs.declared.activity.Activity.{Activity}
use Rattle.run_lanes.specs.Columns.{cell_of, is_birth_of, is_fault_of, is_outside, most_columns}
use Rattle.run_lanes.specs.Timeline.{activity_at}
use Rattle.run_lanes.specs.Activities.{TurnSight, activity_number}

-- the turns of the k-th column, if each column has this many
abbrev pub column_by : ℕ → List TurnSight → ℕ → List TurnSight
column_by width turns k = take width (drop (k * width) turns)

-- the sum of two counts, at most 2^32 - 1
abbrev pub both : ℕ → ℕ → ℕ
both a b = min (a + b) (2 ^ 32 - 1)

-- the cell of two columns, one after the other
abbrev pub joined : Cell → Cell → Cell
joined a b = record {
  turns = map (λ w. both (slice_index_or a.turns w 0) (slice_index_or b.turns w 0)) (range_with_len 0 7);
  faulted = a.faulted || b.faulted;
  born = a.born || b.born;
}

-- the cell with n more turns, in which the task does this
abbrev pub counted : Cell → Activity → ℕ → Cell
counted c w n = record { turns = slice_set c.turns (activity_number w) (both (slice_index_or c.turns (activity_number w) 0) n); faulted = c.faulted; born = c.born }

-- the cell with these notes
abbrev pub marked : List Note → ℕ → Cell → Cell
marked notes i c = record { turns = c.turns; faulted = c.faulted || list_any (is_fault_of i) notes; born = c.born || list_any (is_birth_of i) notes }

-- the cell of the i-th task with one more turn
abbrev pub turned : List Activity → List Note → ℕ → Cell → Cell
turned activities notes i c = marked notes i (counted c (activity_at activities i) 1)

-- `many` cells, from `at` on, are made from what they were, and the others stay
pub record Changed (old new : List Cell) (at many : ℕ) (f : ℕ → Cell → Cell) : Type 0 where
  pub as_many : length new ≡ length old
  pub made : (i : ℕ) (d : Cell) → i < many → slice_index_or new (at + i) d ≡ f i (slice_index_or old (at + i) d)
  pub before : (j : ℕ) (d : Cell) → j < at → slice_index_or new j d ≡ slice_index_or old j d
  pub behind : (j : ℕ) (d : Cell) → at + many ≤ j → slice_index_or new j d ≡ slice_index_or old j d

-- something comes from outside in a turn
abbrev pub comes_from_outside : TurnSight → Bool
comes_from_outside t = list_any is_outside t.notes

-- these are the cells of columns that have this many turns each
abbrev pub CellsOf : ℕ → ℕ → List TurnSight → List Cell → Type 0
CellsOf width tasks turns cells = (k i : ℕ) (d : Cell) → k < most_columns → i < tasks → slice_index_or cells (k * tasks + i) d ≡ cell_of (column_by width turns k) i

abbrev pub OutsideOf : ℕ → List TurnSight → List ℕ → Type 0
OutsideOf width turns outside = (k d : ℕ) → k < most_columns → slice_index_or outside k d ≡ count_by comes_from_outside (column_by width turns k)
