-- The numbers of the last lines are in range.
use Rattle.std.proofs.Common.{◌≡◌, ℕ, suc, zero, ◌+◌, ◌^◌, ◌<◌, ◌≤◌, List, [], ◌∷◌, length, take, drop, Some, arith}
use Rattle.std.specs.List.{range_with_len}
use Rattle.std.proofs.lemmas.List.{length-take-le, length-drop}
use Rattle.kernel_abi.specs.declared.Health.{Health}
use Rattle.kernel_abi.specs.declared.Health.TheVariants.{Well, Stopped, Faulted}
use Rattle.task_table.specs.model.State.{Setup, State, Call}
use Rattle.task_table.specs.model.Reading.{task_at, call_of}
use Rattle.task_table.specs.model.Sane.{IsFaultKnown, Sane}
use Rattle.task_table.proofs.model.Keeps.{found_in}
use Rattle.trace_text.specs.Fit.{IsFitTimer}
use Rattle.audit_laws.specs.Ends.{IsFitHealth}
use Rattle.audit_runs.specs.Last.{IsFitLast}

-- the numbers of a task's lines are in range, and there are as many registers as they have
pub record IsFitTask (s : State) (i : ℕ) : Type 0 where
  pub index : i < 2 ^ 32
  pub health : IsFitHealth (task_at s i).health
  pub timer : IsFitTimer (task_at s i).timer
  pub low : length (take 8 (task_at s i).registers) ≡ 8
  pub high : length (drop 8 (task_at s i).registers) ≡ 8
  pub call : (c : Call) → call_of s i ≡ Some c → c.number < 2 ^ 32

abbrev pub AreFitTasks : State → List ℕ → Type 0
AreFitTasks s [] = Unit {0}
AreFitTasks s (i ∷ is) = IsFitTask s i × AreFitTasks s is

known_fit : (h : Health) → IsFaultKnown h → IsFitHealth h
known_fit Well k = tt
known_fit Stopped k = tt
known_fit (Faulted f) k = let few = k.1 in omega arith

eight_low : (xs : List ℕ) → length xs ≡ 16 → length (take 8 xs) ≡ 8
eight_low xs e = length-take-le 8 xs (omega arith)

eight_high : (xs : List ℕ) → length xs ≡ 16 → length (drop 8 xs) ≡ 8
eight_high xs e = let d = length-drop 8 xs in omega arith

module _ (g : Setup) (s : State) (h : Sane g s) (f : IsFitLast s) where
  call_fit : (i : ℕ) (c : Call) → call_of s i ≡ Some c → c.number < 2 ^ 32
  unfolding call_of
  call_fit i c e =
      let below = h.steady.calls.below c (found_in _ s.calls c e).0 in
      let next = f.counted.calls in
      let turns = f.turns in
      omega arith

  task_fit : (i : ℕ) → i < length s.tasks → IsFitTask s i
  task_fit i lt =
      let t = h.steady.tasks i lt in
      let tasks = f.tasks in
      record {
        index = omega arith;
        health = known_fit (task_at s i).health t.fault;
        timer = f.timers i lt;
        low = eight_low (task_at s i).registers t.sixteen;
        high = eight_high (task_at s i).registers t.sixteen;
        call = call_fit i;
      }

  pub tasks_fit : (i n : ℕ) → i + n ≤ length s.tasks → AreFitTasks s (range_with_len i n)
  tasks_fit i zero le = tt
  tasks_fit i (suc n) le = (task_fit i (omega arith), tasks_fit (i + 1) n (omega arith))

  pub turns_fit : s.turn < 2 ^ 32
  turns_fit = let turns = f.turns in omega arith

  pub now_fits : s.now < 2 ^ 64
  now_fits = let turns = f.turns in let now = f.counted.now in omega arith
