-- The activities in a turn, from those between turns.
use Rattle.std.proofs.Common.{◌≡◌, ◌<◌, ℕ, List, length, map, get_or, if◌then◌else◌, ap, ◌∙◌, arith}
use Rattle.std.specs.List.{range_with_len}
use Rattle.std.proofs.lemmas.List.FromFn.{fill_by_all, get_or-map-range_with_len}
use Rattle.task_table.specs.model.State.{State}
use Rattle.board_model.specs.Script.{Scenario}
use Rattle.board_model.specs.Turn.{turned}
use Rattle.run_lanes.specs.declared.activity.Activity.{Activity}
use Rattle.run_lanes.specs.declared.activity.Activity.TheVariants as activity
use Rattle.run_lanes.specs.Activities.{activities_in, activity_in, is_of, waiting}

pub activities_are : (x : Scenario) (s : State) (ws vs : List Activity) → ws ≡ map (waiting s) (range_with_len 0 (length s.tasks)) → length ws ≡ length s.tasks → length vs ≡ length ws →
    ((k : ℕ) (d : Activity) → k < length ws → get_or vs k d ≡ (if is_of (turned x s) k then activity.Runs else get_or ws k d)) → vs ≡ activities_in x s
unfolding activities_in
activities_are x s ws vs is count same marked =
    fill_by_all (activity_in x s) vs (length s.tasks) activity.Ready (same ∙ count)
    (λ k lt.
    let inside : k < length ws = omega (arith, lt, count) in
    let read : get_or ws k activity.Ready ≡ waiting s k = ap (λ (l : List Activity). get_or l k activity.Ready) is ∙ get_or-map-range_with_len (waiting s) 0 (length s.tasks) k k activity.Ready lt (omega arith) in
    marked k activity.Ready inside ∙ ap (λ (w : Activity). if is_of (turned x s) k then activity.Runs else w) read)
