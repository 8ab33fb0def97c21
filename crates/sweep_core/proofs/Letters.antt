-- The letter of a task from a board's view is the letter from the state.
use Rattle.std.proofs.Common.{◌≡◌, ◌∙◌, ◌+◌, ℕ, List, [], ◌∷◌, ◌++◌, length, map, Option, Some, None, refl, sym, ap, append_assoc, ◌%◌, arith}
use Rattle.std.specs.Prelude.{option_map}
use Rattle.std.specs.List.{range_with_len}
use Rattle.std.proofs.lemmas.List.FromFn.{map-range_with_len_more}
use Rattle.kernel_abi.specs.declared.Health.{Health}
use Rattle.kernel_abi.specs.declared.Health.TheVariants.{Well, Stopped, Faulted}
use Rattle.task_table.specs.model.State as kernel
use Rattle.task_table.specs.model.State.{State, Listen, Task}
use Rattle.task_table.specs.kept.Holds.{wait_of}
use Rattle.task_table.specs.model.Reading.{task_at, call_of, listen_of}
use Rattle.board_model.specs.Alike.{but_memory, reduced, seen_call}
use Rattle.board_model.proofs.Alike.{call_alike, count_alike, shown, task_alike}
use Rattle.board_core.specs.declared.views.TaskView.{TaskView}
use Rattle.board_core.specs.Views.{IsTask}
use Rattle.sweep_core.specs.Outcomes.{capital, letter, letters, task_letter, wait_letter}
use Rattle.sweep_core.specs.Views.{health_letter, view_letter, wait_of_view_letter}

waits : (c : Option kernel.Call) (l : Option Listen) → wait_of_view_letter (wait_of c l) ≡ wait_letter c
waits (Some c) l = refl
waits None (Some l) = refl
waits None None = refl

healths : (h : Health) (c : Option kernel.Call) (l : Option Listen) → health_letter h (wait_of c l) ≡ letter h c
healths Well c l = waits c l
healths Stopped c l = refl
healths (Faulted fault) c l = refl

pub letter_is : (s : State) (i : ℕ) (v : TaskView) → IsTask s i v → view_letter v ≡ task_letter s i
letter_is s i v t = rw (t.generation, t.health, t.wait) (ap (capital ((task_at s i).births % 64)) (healths (task_at s i).health (call_of s i) (listen_of s i)))

-- one letter more behind those of the first i tasks
pub one_more : (s : State) (i : ℕ) (v : TaskView) (before out next : List ℕ) (code : ℕ) → IsTask s i v → code ≡ view_letter v → out ≡ before ++ map (task_letter s) (range_with_len 0 i) → next ≡ out ++ code ∷ [] →
    next ≡ before ++ map (task_letter s) (range_with_len 0 (i + 1))
one_more s i v before out next code t is so_far pushed =
    let told = map (task_letter s) (range_with_len 0 i) in
    let same : code ≡ task_letter s i = is ∙ letter_is s i v t in
    pushed
    ∙ ap (λ (o : List ℕ). o ++ code ∷ []) so_far
    ∙ ap (λ (k : ℕ). (before ++ told) ++ k ∷ []) same
    ∙ append_assoc before told (task_letter s i ∷ [])
    ∙ ap (λ (l : List ℕ). before ++ l) (sym (map-range_with_len_more (task_letter s) 0 i i (omega arith)))

-- ## states that are equal with births modulo 64

abbrev births : ℕ → ℕ
births b = b % 64

letter_kept : (h : Health) (c : Option kernel.Call) → letter h (option_map (seen_call births) c) ≡ letter h c
letter_kept Well None = refl
letter_kept Well (Some c) = refl
letter_kept Stopped c = refl
letter_kept (Faulted fault) c = refl

pub letters_alike : (s u : State) → reduced s ≡ reduced u → letters s ≡ letters u
letters_alike s u e = λ j. map (λ i. of_task i j) (range_with_len 0 (count j))
  where
    same : shown births s ≡ shown births u
    same = ap but_memory e

    count : length s.tasks ≡ length u.tasks
    count = count_alike births s u same

    of_task : (i : ℕ) → task_letter s i ≡ task_letter u i
    of_task i =
        let t = task_alike births s u i same in
        let generation : (task_at s i).births % 64 ≡ (task_at u i).births % 64 = ap (λ (k : Task). k.births) t in
        let health : (task_at s i).health ≡ (task_at u i).health = ap (λ (k : Task). k.health) t in
        ap (capital ((task_at s i).births % 64)) (sym (letter_kept (task_at s i).health (call_of s i)) ∙ (λ j. letter (health j) (call_alike births s u i same j)) ∙ letter_kept (task_at u i).health (call_of u i))
        ∙ ap (λ n. capital n (letter (task_at u i).health (call_of u i))) generation
