-- The stretches of a list of activities, one for each turn. A stretch lasts as long as the activity stays the
-- same (this project's own).
use Rattle.std.specs.Prelude.{◌≡◌, ℕ, ◌+◌, ◌-◌, ◌==◌, false, if◌then◌else◌, List, [], ◌∷◌, ◌++◌, map, replicate}
use Rattle.std.specs.List.{flat_map}
use Rattle.run_lanes.specs.declared.activity.Activity.{Activity}
use Rattle.run_lanes.specs.declared.lanes.LaneStretch.{LaneStretch}
use Rattle.run_lanes.specs.Timeline.{activity_at, renewed}
use Rattle.run_lanes.specs.Activities.{TurnSight, is_same}

-- what task i does, turn by turn
abbrev pub activities_of : ℕ → List TurnSight → List Activity
activities_of i turns = map (λ t. activity_at t.activities i) turns

-- one more turn before these stretches
abbrev pub joined : Activity → List (Activity × ℕ) → List (Activity × ℕ)
joined w [] = (w, 1) ∷ []
joined w (s ∷ stretches) = if is_same w s.0 then (s.0, s.1 + 1) ∷ stretches else (w, 1) ∷ s ∷ stretches

-- the stretches, each with its activity and the number of its turns
unfoldable pub stretches : List Activity → List (Activity × ℕ)
stretches [] = []
stretches (w ∷ activities) = joined w (stretches activities)

-- no two neighbours have the same activity
abbrev pub Alternate : List (Activity × ℕ) → Type 0
Alternate [] = Unit {0}
Alternate (s ∷ []) = Unit {0}
Alternate (s ∷ t ∷ stretches) = (is_same s.0 t.0 ≡ false) × Alternate (t ∷ stretches)

-- the activities of all stretches, turn by turn
abbrev pub laid_out : List (Activity × ℕ) → List Activity
laid_out ss = flat_map (λ s. replicate s.1 s.0) ss

-- how many turns they have in all
unfoldable pub turns_in : List (Activity × ℕ) → ℕ
turns_in [] = 0
turns_in (s ∷ stretches) = s.1 + turns_in stretches

-- ## the stretches that a timeline has of a task

-- the stretch that ends before a turn; none if it would have no turn (Timeline's `ended_text`)
abbrev pub ended : ℕ → LaneStretch → List (Activity × ℕ)
ended turn s = if s.since == turn then [] else (s.activity, turn - s.since) ∷ []

-- The stretches of a task that is in a stretch at a turn and has these activities from then on (Timeline's
-- `over_text`, `renewed` and, at the end, `ended_text`).
unfoldable pub told : ℕ → LaneStretch → List Activity → List (Activity × ℕ)
told turn s [] = ended turn s
told turn s (w ∷ activities) = (if is_same s.activity w then [] else ended turn s) ++ told (turn + 1) (renewed turn s w) activities
