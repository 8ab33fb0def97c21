-- What is seen of a state between turns rests on its births modulo 64: why a run ends there, and what its turn runs.
use Rattle.std.proofs.Common.{◌≡◌, ◌∙◌, ℕ, ◌%◌, not, ◌&&◌, Option, Some, None, refl, ap}
use Rattle.std.specs.Prelude.{is_none}
use Rattle.words_core.specs.Regs.{program_counter}
use Rattle.task_table.specs.model.State.{State, Task}
use Rattle.task_table.specs.model.Reading.{is_faulted}
use Rattle.task_table.specs.model.Start.{begun}
use Rattle.run_script.specs.Scripts.{lasts}
use Rattle.board_model.specs.declared.outcomes.Turned.TheVariants.{Ran}
use Rattle.board_model.specs.Script.{Scenario}
use Rattle.board_model.specs.Turn.{after_events, turned_of, turned}
use Rattle.board_model.specs.Run.{ending, end_by, is_down, is_still}
use Rattle.board_model.specs.Alike.{reduced}
use Rattle.board_model.proofs.Alike.{shown, task_alike, register_alike, chosen_alike, turn_alike}
use Rattle.board_model.proofs.AlikeTurns.{alike-events}
use Rattle.board_model.proofs.Views.{archivist, attentive_archivist, alike-reduced}

pub shown_reduced : (s : State) → shown (λ b. b % 64) (reduced s) ≡ shown (λ b. b % 64) s
unfolding archivist begun
shown_reduced s = (alike-reduced s).state

turned_same : (v : ℕ → ℕ) (s u : State) → shown v s ≡ shown v u → (o p : Option ℕ) → o ≡ p → turned_of s o ≡ turned_of u p
turned_same v s u h o p e = go o ∙ ap (turned_of u) e
  where
    go : (o : Option ℕ) → turned_of s o ≡ turned_of u o
    go None = refl
    go (Some c) = ap (Ran c) (register_alike v s u c program_counter h)

pub turned_reduced : (x : Scenario) (s : State) → turned x (reduced s) ≡ turned x s
unfolding turned
turned_reduced x s =
    let h = alike-events archivist attentive_archivist x (reduced s) s (alike-reduced s) in
    turned_same archivist.birth (after_events x (reduced s)).state (after_events x s).state h.state _ _ (chosen_alike archivist.birth x.setup _ _ h.state)

pub ending_reduced : (x : Scenario) (left : ℕ) (s : State) → ending x left (reduced s) ≡ ending x left s
unfolding ending
ending_reduced x left s =
    let births : ℕ → ℕ = λ b. b % 64 in
    let h = shown_reduced s in
    let down : is_down (reduced s) ≡ is_down s = ap (λ (t : Task). is_faulted t.health) (task_alike births (reduced s) s 0 h) in
    let c = chosen_alike births x.setup (reduced s) s h in
    let n = turn_alike births (reduced s) s h in
    let still : is_still x (reduced s) ≡ is_still x s = λ k. is_none (c k) && not (lasts x.script (n k)) in
    λ k. end_by (down k) left (still k)
