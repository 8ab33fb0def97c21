-- What is true in the middle of an event or a system call: timers after the time has advanced, a fold over the
-- items of a list that pass a test, part of the way; and the state of several lines together.
use Rattle.std.specs.Prelude.{ℕ, ◌+◌, ◌<◌, ◌≤◌, ◌==◌, ◌≡◌, ◌||◌, ◌&&◌, not, Bool, List, length, map, Option, None, Some, IfSome, if◌then◌else◌}
use Rattle.std.specs.List.{list_any}
use Rattle.task_table.specs.model.State.{LineSetup, Setup, State, Turn}
use Rattle.task_table.specs.model.Asking.{is_asked}
use Rattle.task_table.specs.model.Reading.{task_at, line_at}
use Rattle.task_table.specs.model.Events.{interrupted_by}
use Rattle.task_table.specs.declared.Line.{Line}

-- no deadline of a set timer has passed before now
abbrev pub AreNotPast : State → Type 0
AreNotPast s = (i : ℕ) → i < length s.tasks → IfSome (task_at s i).timer (λ x. s.now ≤ x.deadline)

-- one more item of a fold, if there is one
abbrev pub with_any : {A B : Type 0} → (B → A → B) → Option A → B → B
with_any f None b = b
with_any f (Some x) b = f b x

-- the same, if it passes
abbrev pub with_next : {A B : Type 0} → (B → A → B) → (A → Bool) → Option A → B → B
with_next f p = with_any (λ b x. if p x then f b x else b)

-- whether the device of each line asks, in the image's order
abbrev pub AreAsked : Setup → Turn → List Bool → Type 0
AreAsked g t asked = asked ≡ map (is_asked t.state) g.lines

-- an interrupt on a line that is enabled, where its device asks
abbrev pub driven_if : Bool → Turn → LineSetup → Turn
driven_if asks t o = if (line_at t.state o.line).enabled && asks then interrupted_by o.line (Some o) t else t

-- a line, pending too if its device asks
abbrev pub with_asked : Bool → Line → Line
with_asked asks line = record { enabled = line.enabled; pending = line.pending || asks }

-- several lines as one: enabled if one of them is, pending if one of them is or its device asks
abbrev pub lines_together : State → List LineSetup → Line
lines_together s own = record {
  enabled = list_any (λ o. (line_at s o.line).enabled) own;
  pending = list_any (λ o. (line_at s o.line).pending || is_asked s o) own;
}

-- the sum of 1 if the line is enabled, 2 if it is pending, and 4 if bits are posted
abbrev pub status_sum : Line → ℕ → ℕ
status_sum lines posted = (if lines.enabled then 1 else 0) + (if lines.pending then 2 else 0) + (if not (posted == 0) then 4 else 0)

-- two lines as one
abbrev pub joined : Line → Line → Line
joined a b = record { enabled = a.enabled || b.enabled; pending = a.pending || b.pending }
