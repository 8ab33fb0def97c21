-- What is told of a state at the end of a run rests on its births modulo 64.
use Rattle.std.proofs.Common.{◌≡◌, ◌∙◌, ℕ, ◌%◌, List, ◌++◌, Option, Some, None, refl, sym, ap}
use Rattle.std.specs.Prelude.{option_map}
use Rattle.std.specs.List.{flat_map, range_with_len}
use Rattle.task_table.specs.model.State as kernel
use Rattle.task_table.specs.model.State.{Setup, State, Task, Listen}
use Rattle.task_table.specs.model.Reading.{task_at, call_of, listen_of}
use Rattle.board_model.specs.declared.outcomes.End.{End}
use Rattle.board_model.specs.Run.{Run}
use Rattle.board_model.specs.Alike.{seen, seen_task, seen_call, seen_listen, reduced}
use Rattle.board_model.proofs.Alike.{shown, task_alike, call_alike, listen_alike, count_alike, turn_alike, now_alike}
use Rattle.board_model.proofs.GenerationsSeen.{shown_reduced}
use Rattle.board_run.specs.Text.{low_text, high_text, task_lines, wait_text, task_text, end_line, end_text, trace_text}
use Rattle.trace_text.specs.Lines.{task_line, notes_text}
use Rattle.board_run.specs.MemoryText.{memory_text}

abbrev births : ℕ → ℕ
births b = b % 64

-- ## a task

-- of what it waits for no birth is told
wait_shown : (c : Option kernel.Call) (l : Option Listen) → wait_text (option_map (seen_call births) c) (option_map (seen_listen births) l) ≡ wait_text c l
wait_shown (Some c) l = refl
wait_shown None (Some l) = refl
wait_shown None None = refl

wait_same : (c d : Option kernel.Call) (l m : Option Listen) → option_map (seen_call births) c ≡ option_map (seen_call births) d → option_map (seen_listen births) l ≡ option_map (seen_listen births) m → wait_text c l ≡ wait_text d m
wait_same c d l m p q = sym (wait_shown c l) ∙ (λ j. wait_text (p j) (q j)) ∙ wait_shown d m

-- the lines of a task whose births are its generation
abbrev told : ℕ → Task → List ℕ → List ℕ
told i t wait = task_line i t.births t.health wait t.posted t.timer ++ low_text t.registers ++ high_text t.registers t.flags

lines_shown : (i : ℕ) (t : Task) (wait : List ℕ) → told i (seen_task births t) wait ≡ task_lines i t wait
unfolding task_lines
lines_shown i t wait = refl

task_same : (s u : State) → shown births s ≡ shown births u → (i : ℕ) → task_text s i ≡ task_text u i
unfolding task_text
task_same s u h i =
    let task = task_alike births s u i h in
    let wait = wait_same (call_of s i) (call_of u i) (listen_of s i) (listen_of u i) (call_alike births s u i h) (listen_alike births s u i h) in
    sym (lines_shown i (task_at s i) (wait_text (call_of s i) (listen_of s i)))
    ∙ (λ j. told i (task j) (wait j))
    ∙ lines_shown i (task_at u i) (wait_text (call_of u i) (listen_of u i))

-- ## a state

end_same : (end : End) (s u : State) → shown births s ≡ shown births u → end_text end s ≡ end_text end u
unfolding end_text
end_same end s u h =
    let turns = turn_alike births s u h in
    let time = now_alike births s u h in
    let tasks = count_alike births s u h in
    λ j. end_line end (turns j) (time j) ++ flat_map (λ i. task_same s u h i j) (range_with_len 0 (tasks j))

pub end_reduced : (end : End) (s : State) → end_text end (reduced s) ≡ end_text end s
end_reduced end s = end_same end (reduced s) s (shown_reduced s)

pub memory_reduced : (g : Setup) (s : State) → memory_text g (reduced s) ≡ memory_text g s
unfolding memory_text seen
memory_reduced g s = refl

-- ## a run

-- what is told of two runs is the same where the notes and the end are, and where their last states are but for births
module _ (r q : Run) (end : r.end ≡ q.end) (last : reduced r.last ≡ reduced q.last) where
  pub text_alike : r.notes ≡ q.notes → trace_text r ≡ trace_text q
  text_alike notes =
      let same : end_text r.end r.last ≡ end_text q.end q.last = sym (end_reduced r.end r.last) ∙ (λ j. end_text (end j) (last j)) ∙ end_reduced q.end q.last in
      λ j. notes_text (notes j) ++ same j

  pub memory_alike : (g : Setup) → memory_text g r.last ≡ memory_text g q.last
  memory_alike g = sym (memory_reduced g r.last) ∙ ap (memory_text g) last ∙ memory_reduced g q.last
