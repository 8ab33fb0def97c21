-- The columns of a picture (docs/FORMATS.md, Picture; this project's own). The number of turns in a column is
-- the least power of two with which 1,200 columns are enough for all turns of the run.
use Rattle.std.specs.Prelude.{ℕ, zero, suc, ◌+◌, ◌-◌, ◌*◌, ◌/◌, ◌==◌, Bool, true, false, nat_le, if◌then◌else◌, List, [], ◌∷◌, length, map, take, drop, count_by}
use Rattle.std.specs.List.{flat_map, list_any, range_with_len}
use Rattle.kernel_abi.specs.declared.Note.{Note}
use Rattle.kernel_abi.specs.declared.Note.TheVariants as note
use Rattle.lane_picture.specs.declared.parts.Cell.{Cell}
use Rattle.run_lanes.specs.declared.activity.Activity.{Activity}
use Rattle.run_lanes.specs.declared.activity.Activity.TheVariants as activity
use Rattle.run_lanes.specs.Timeline.{activity_at}
use Rattle.run_lanes.specs.Activities.{TurnSight, is_same}

-- the most columns
abbrev pub most_columns : ℕ
most_columns = 1200

-- the first of p, 2 p, 4 p .. with which the most columns are enough for this many turns
unfoldable pub doubled_until : ℕ → ℕ → ℕ → ℕ
doubled_until zero p turns = p
doubled_until (suc more) p turns = if nat_le turns (most_columns * p) then p else doubled_until more (2 * p) turns

-- how many turns a column has, if there are this many in all
abbrev pub column_turns : ℕ → ℕ
column_turns turns = doubled_until 20 1 turns

-- how many columns there are then; the last one may have fewer turns
abbrev pub columns : ℕ → ℕ
columns turns = (turns + column_turns turns - 1) / column_turns turns

-- the turns of the k-th column
abbrev pub column : List TurnSight → ℕ → List TurnSight
column turns k = take (column_turns (length turns)) (drop (k * column_turns (length turns)) turns)

-- the activities in their order
abbrev pub activities : List Activity
activities = activity.Runs ∷ activity.Ready ∷ activity.Offers ∷ activity.Awaits ∷ activity.Listens ∷ activity.Faulted ∷ activity.Stopped ∷ []

-- in how many of these turns a task has this activity
abbrev pub turns_with : ℕ → List TurnSight → Activity → ℕ
turns_with i turns w = count_by (λ t. is_same (activity_at t.activities i) w) turns

-- one of these turns has a note like this
abbrev pub is_noted : (Note → Bool) → List TurnSight → Bool
is_noted is turns = list_any (λ t. list_any is t.notes) turns

abbrev pub is_fault_of : ℕ → Note → Bool
is_fault_of i (note.Fault task fault) = task == i
is_fault_of i _ = false

abbrev pub is_birth_of : ℕ → Note → Bool
is_birth_of i (note.Restart task generation) = task == i
is_birth_of i _ = false

-- the cell of a task for these turns: what it does in them, and what happens to it
abbrev pub cell_of : List TurnSight → ℕ → Cell
cell_of turns i = record { turns = map (turns_with i turns) activities; faulted = is_noted (is_fault_of i) turns; born = is_noted (is_birth_of i) turns }

-- the cells of this many tasks, column after column
abbrev pub cells : ℕ → List TurnSight → List Cell
cells tasks turns = flat_map (λ k. map (cell_of (column turns k)) (range_with_len 0 tasks)) (range_with_len 0 (columns (length turns)))

abbrev pub is_outside : Note → Bool
is_outside (note.Tick now) = true
is_outside (note.Irq line handled) = true
is_outside (note.In device byte fed) = true
is_outside (note.Out device byte) = true
is_outside _ = false

-- in how many turns of each column something came from outside
abbrev pub outside : List TurnSight → List ℕ
outside turns = map (λ k. count_by (λ t. list_any is_outside t.notes) (column turns k)) (range_with_len 0 (columns (length turns)))
