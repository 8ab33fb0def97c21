-- The turns of a run by the first one, what is seen of one, and idle turns on end.
use Rattle.std.proofs.Common.{◌≡◌, ℕ, zero, suc, ◌+◌, List, [], ◌∷◌, ◌++◌, length, Option, Some, None, refl, ap, ◌∙◌, arith}
use Rattle.std.proofs.lemmas.List.FromFn.{length-map-range_with_len}
use Rattle.kernel_abi.specs.declared.Note.{Note}
use Rattle.task_table.specs.model.State.{State}
use Rattle.board_model.specs.declared.outcomes.End.{End}
use Rattle.board_model.specs.declared.outcomes.Level.TheVariants.{Calls}
use Rattle.board_model.specs.Script.{Scenario}
use Rattle.board_model.specs.Turn.{turn}
use Rattle.board_model.specs.Run.{ending}
use Rattle.run_lanes.specs.declared.activity.Activity.{Activity}
use Rattle.run_lanes.specs.Activities.{TurnSight, activities_in, idle_turns, sight, sights, unless}

pub sights_go : (x : Scenario) (left : ℕ) (s : State) → ending x (suc left) s ≡ None → sights x (suc left) s ≡ sight x s ∷ sights x left (turn Calls x s).state
unfolding sights
sights_go x left s is = ap (λ (o : Option End). unless o (sight x s) (sights x left (turn Calls x s).state)) is

pub sights_end : (x : Scenario) (left : ℕ) (s : State) (e : End) → ending x left s ≡ Some e → sights x left s ≡ []
unfolding sights
sights_end x zero s e is = refl
sights_end x (suc left) s e is = ap (λ (o : Option End). unless o (sight x s) (sights x left (turn Calls x s).state)) is

abbrev pub seen_turn : ℕ → List Activity → List Note → TurnSight
seen_turn t ws ns = record { turn = t; activities = ws; notes = ns }

pub same_sight : (x : Scenario) (s : State) (t : ℕ) (ws : List Activity) (ns : List Note) → t ≡ s.turn → ws ≡ activities_in x s → ns ≡ (turn Calls x s).notes → seen_turn t ws ns ≡ sight x s
same_sight x s t ws ns t_is ws_is ns_is =
    ap (λ (k : ℕ). seen_turn k ws ns) t_is ∙ ap (λ (l : List Activity). seen_turn s.turn l ns) ws_is ∙ ap (λ (l : List Note). seen_turn s.turn (activities_in x s) l) ns_is

pub many_idle : (turn n : ℕ) (ws : List Activity) → length (idle_turns turn n ws) ≡ n
many_idle turn n ws = length-map-range_with_len (λ k. seen_turn k ws []) turn n

-- the last of them, and those before the last ones
pub idle_parts : (turn k n : ℕ) (ws : List Activity) → idle_turns turn (k + n) ws ≡ idle_turns turn k ws ++ idle_turns (turn + k) n ws
idle_parts turn zero n ws =
    let none : 0 + n ≡ n = omega arith in
    let e : turn ≡ turn + 0 = omega arith in
    ap (λ (m : ℕ). idle_turns turn m ws) none ∙ ap (λ (m : ℕ). idle_turns m n ws) e
idle_parts turn (suc k) n ws =
    let next : suc k + n ≡ suc (k + n) = omega arith in
    let e : turn + 1 + k ≡ turn + suc k = omega arith in
    ap (λ (m : ℕ). idle_turns turn m ws) next
    ∙ ap (λ (l : List TurnSight). seen_turn turn ws [] ∷ l) (idle_parts (turn + 1) k n ws ∙ ap (λ (m : ℕ). idle_turns (turn + 1) k ws ++ idle_turns m n ws) e)
