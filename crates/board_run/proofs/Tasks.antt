-- The text of the tasks, one more at a time.
use Rattle.std.proofs.Common.{◌≡◌, ℕ, ◌+◌, ◌<◌, ◌≤◌, inl, inr, List, ◌++◌, Option, Some, None, refl, sym, ap, subst, ◌∙◌, length, ◌%◌, arith, eq-or-lt_of_le}
use Rattle.std.specs.Prelude.{Result, Err}
use Rattle.std.specs.Option.{option_map}
use Rattle.std.specs.Io.KnownBytes.{Appends}
use Rattle.outside_io.specs.Outside.{Pushes, AppendsFront}
use Rattle.kernel_abi.specs.declared.Health.{Health}
use Rattle.kernel_abi.specs.declared.Timer.{Timer}
use Rattle.words_core.specs.declared.Flags.{Flags}
use Rattle.task_table.specs.model.State as kernel
use Rattle.task_table.specs.model.State.{State, Listen}
use Rattle.task_table.specs.kept.Holds.{wait_of}
use Rattle.task_table.specs.model.Reading.{task_at, call_of, listen_of}
use Rattle.board_core.specs.declared.views.TaskView.{TaskView}
use Rattle.board_core.specs.Views.{IsTask}
use Rattle.board_run.specs.Text.{low_text, high_text, task_lines, task_text, tasks_text, wait_text}
use Rattle.trace_text.specs.Lines.{task_line}
use Rattle.trace_text.specs.Fit.{IsFitTimer}
use Rattle.board_run.specs.Timers.{AreFitTimers}
use Rattle.board_run.specs.ViewText.{view_text, wait_words, timer_of}
use Rattle.outside_io.proofs.Pushing.{appends_more}
use Rattle.board_run.proofs.Appending.{range_more, range_fails}

-- what a task waits for reads the same as told by the board and by the state
words_are : (c : Option kernel.Call) (l : Option Listen) → wait_words (wait_of c l) ≡ wait_text c l
words_are (Some c) l = refl
words_are None (Some l) = refl
words_are None None = refl

-- and so does its timer
timer_is : (timer : Option Timer) → timer_of (option_map (λ x. (x.deadline, x.bits)) timer) ≡ timer
timer_is None = refl
timer_is (Some x) = refl

-- what is told of a task gives the text of the state's
pub view_is : (s : State) (i : ℕ) (v : TaskView) → IsTask s i v → view_text i v ≡ task_text s i
unfolding view_text task_text task_lines
view_is s i v t =
    let head : ℕ → Health → List ℕ → ℕ → Option Timer → List ℕ → Flags → List ℕ = λ g h w p d rs f. task_line i g h w p d ++ low_text rs ++ high_text rs f in
    let waits : wait_words v.wait ≡ wait_text (call_of s i) (listen_of s i) = ap wait_words t.wait ∙ words_are (call_of s i) (listen_of s i) in
    let timer : timer_of v.timer ≡ (task_at s i).timer = ap timer_of t.timer ∙ timer_is (task_at s i).timer in
    rw (t.generation, t.regs, t.flags, t.health, t.posted, timer) (ap (λ (w : List ℕ). head ((task_at s i).births % 64) (task_at s i).health w (task_at s i).posted (task_at s i).timer (task_at s i).registers (task_at s i).flags) waits)

pub tasks_more : (a b c : Option (List ℕ)) (s : State) (i : ℕ) (v : TaskView) → IsTask s i v → Appends a b (tasks_text s i) → Appends b c (view_text i v) → Appends a c (tasks_text s (i + 1))
tasks_more a b c s i v t p q =
    let P : List ℕ → Type 0 = λ w. Appends a c w in
    let Q : List ℕ → Type 0 = λ w. Appends b c w in
    subst P (sym (range_more (task_text s) i)) (appends_more a b c (tasks_text s i) (task_text s i) p (subst Q (view_is s i v t) q))

-- a failure within the lines of a task
pub tasks_fail : {T E : Type 0} (a b c : Option (List ℕ)) (s : State) (i : ℕ) (v : TaskView) (r : Result T E) (e : E) → r ≡ Err e → IsTask s i v →
    Appends a b (tasks_text s i) → AppendsFront b c (view_text i v) → Pushes a c (tasks_text s (length s.tasks)) r
tasks_fail {T} {E} a b c s i v r e failed t p q =
    let Q : List ℕ → Type 0 = λ w. AppendsFront b c w in
    range_fails a b c (task_text s) i (length s.tasks) r e failed t.inside p (subst Q (view_is s i v t) q)

-- the timers of one task more are in range
pub timers_more : (s : State) (i : ℕ) (v : TaskView) → IsTask s i v → IsFitTimer (timer_of v.timer) → AreFitTimers s i → AreFitTimers s (i + 1)
timers_more s i v t fit before k lt = elim (eq-or-lt_of_le (below k i lt)) [ inl same ↦ subst (λ j. IsFitTimer (task_at s j).timer) (sym same) here | inr less ↦ before k less ]
  where
    here : IsFitTimer (task_at s i).timer
    here = subst IsFitTimer (ap timer_of t.timer ∙ timer_is (task_at s i).timer) fit

    below : (a b : ℕ) → a < b + 1 → a ≤ b
    below a b h = omega arith
