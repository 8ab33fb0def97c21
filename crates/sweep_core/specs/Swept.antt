-- A sweep: the outcome of each arrival time, and its text (docs/FORMATS.md, Sweep).
use Rattle.std.specs.Prelude.{◌≡◌, ◌≤◌, ◌<◌, ℕ, zero, suc, ◌+◌, ◌-◌, Bool, true, false, not, ◌&&◌, ◌||◌, List, [], ◌++◌, codes, decimal, bytes_eq, nat_lt, nat_le, if◌then◌else◌}
use Rattle.std.specs.List.{list_any, range_with_len}
use Rattle.run_script.specs.Scripts.{Listed}
use Rattle.board_model.specs.declared.outcomes.End.{End}
use Rattle.board_model.specs.declared.outcomes.End.TheVariants.{Supervisor, Bound, Still}
use Rattle.board_model.specs.declared.outcomes.Level.TheVariants.{Calls}
use Rattle.board_model.specs.Script.{Scenario, start_of}
use Rattle.board_model.specs.Run.{Run, run}
use Rattle.board_model.specs.Laid.{may_be_laid, arriving}
use Rattle.sweep_core.specs.Outcomes.{outcome, heard, nothing_heard}

-- What a sweep is asked: the events that arrive, the first arrival time, the first one that is left out, the
-- most turns of a run, and whether an outcome has a digest of memory.
pub record Asking : Type 0 where
  pub arrival : List Listed
  pub from : ℕ
  pub to : ℕ
  pub limit : ℕ
  pub mem : Bool

-- the run without the arrival, and the run of an arrival time
abbrev pub base_run : Scenario → Asking → Run
base_run x a = run Calls x a.limit (start_of x)

abbrev pub arrival_run : Scenario → Asking → ℕ → Run
arrival_run x a time = run Calls (arriving x a.arrival time) a.limit (start_of x)

-- an event of the arrival would come in turn `limit` or later, which a run of `limit` turns does not reach
abbrev pub is_late : List Listed → ℕ → ℕ → Bool
is_late arrival time limit = list_any (λ listed. nat_le limit (time + listed.0)) arrival

abbrev pub is_late_at : Asking → ℕ → Bool
is_late_at a time = is_late a.arrival time a.limit

-- no run is made for an arrival time that is late, or for which there is no script
abbrev pub outcome_at : Scenario → Asking → ℕ → List ℕ
outcome_at x a time =
    if is_late_at a time then codes "late"
    else if may_be_laid x.script a.arrival time then outcome a.mem (arrival_run x a time)
    else codes "full"

-- ## the text

abbrev pub same_or : List ℕ → List ℕ → List ℕ
same_or base o = if bytes_eq o base then codes "same" else o

-- `<first> <last> <outcome>`
unfoldable pub stretch_line : List ℕ → ℕ → ℕ → List ℕ → List ℕ
stretch_line base first last o = decimal first ++ codes " " ++ decimal last ++ codes " " ++ same_or base o ++ codes "\n"

-- the lines for the next `left` arrival times, from `time` on, if those from `first` to there had the outcome
-- o
unfoldable pub lines_from : (ℕ → List ℕ) → List ℕ → ℕ → List ℕ → ℕ → ℕ → List ℕ
lines_from outcomes base first o time zero = stretch_line base first (time - 1) o
lines_from outcomes base first o time (suc left) =
    if bytes_eq (outcomes time) o then lines_from outcomes base first o (time + 1) left
    else stretch_line base first (time - 1) o ++ lines_from outcomes base time (outcomes time) (time + 1) left

abbrev pub lines : (ℕ → List ℕ) → List ℕ → ℕ → ℕ → List ℕ
lines outcomes base from zero = []
lines outcomes base from (suc left) = lines_from outcomes base from (outcomes from) (from + 1) left

unfoldable pub base_line : List ℕ → List ℕ
base_line base = codes "without " ++ base ++ codes "\n"

-- the lines of the arrival times
abbrev pub times_text : Scenario → Asking → List ℕ
times_text x a = lines (outcome_at x a) (outcome a.mem (base_run x a)) a.from (a.to - a.from)

unfoldable pub sweep_text : Scenario → Asking → List ℕ
sweep_text x a = base_line (outcome a.mem (base_run x a)) ++ times_text x a

-- ## whether an arrival time makes a difference

abbrev pub is_supervisors : End → Bool
is_supervisors Supervisor = true
is_supervisors Bound = false
is_supervisors Still = false

-- the run has more faults than `base`, or ends by a fault of the supervisor and `base` does not
abbrev pub is_worse : Run → Run → Bool
is_worse base r = nat_lt (heard nothing_heard base.notes).faults (heard nothing_heard r.notes).faults || (is_supervisors r.end && not (is_supervisors base.end))

abbrev pub times : Asking → List ℕ
times a = range_with_len a.from (a.to - a.from)

abbrev pub is_made : Scenario → Asking → ℕ → Bool
is_made x a time = not (is_late_at a time) && may_be_laid x.script a.arrival time

abbrev pub differ : Scenario → Asking → ℕ → ℕ → Bool
differ x a one other = is_made x a one && is_made x a other && not (bytes_eq (outcome_at x a one) (outcome_at x a other))

unfoldable pub makes_difference : Scenario → Asking → Bool
makes_difference x a =
    list_any (λ time. (is_made x a time && is_worse (base_run x a) (arrival_run x a time)) || list_any (differ x a time) (times a)) (times a)

-- ## what holds for each arrival time if none makes a difference

-- an arrival time that is asked for and for which a run is made
pub record IsAsked (x : Scenario) (a : Asking) (time : ℕ) : Type 0 where
  pub from : a.from ≤ time
  pub to : time < a.to
  pub made : is_made x a time ≡ true

-- the run has no more faults than `base`, and ends by a fault of the supervisor only if `base` does
pub record IsNoWorse (base r : Run) : Type 0 where
  pub faults : (heard nothing_heard r.notes).faults ≤ (heard nothing_heard base.notes).faults
  pub end : r.end ≡ Supervisor → base.end ≡ Supervisor
