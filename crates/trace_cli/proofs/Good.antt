-- An audit accepts the text of a run of which the numbers are in range.
use Rattle.std.proofs.Common.{ℕ, Bool, true, false, [], sym, subst, arith}
use Rattle.task_table.specs.model.State.{Setup, State}
use Rattle.task_table.specs.model.Sane.{Sane}
use Rattle.board_model.specs.declared.outcomes.Level.{Level}
use Rattle.board_model.specs.Script.{Scenario, start_of}
use Rattle.board_run.specs.MemoryText.{memory_text}
use Rattle.audit_runs.specs.Last.{IsGoodRun, IsGoodText, IsShown}
use Rattle.command_line.specs.declared.job.Detail.{Detail}
use Rattle.command_files.specs.Verdict.{Verdict}
use Rattle.board_commands.specs.Answer.{TellsFit}
use Rattle.board_commands.specs.Fit.{IsFitRun, IsOfRun}
use Rattle.board_commands.specs.Verdict.{level_of, memory_if, ran, run_of}

module _ (laws : (level : Level) (x : Scenario) (n : ℕ) → Sane x.setup (start_of x) → IsGoodRun level x n) (none : IsShown []) (memories : (g : Setup) (s : State) → Sane g s → IsShown (memory_text g s)) where
  shown_if : (mem : Bool) (g : Setup) (s : State) → Sane g s → IsShown (memory_if mem g s)
  shown_if true g s sane = memories g s sane
  shown_if false g s sane = none

  good_run : (n : ℕ) (detail : Detail) (x : Scenario) → IsFitRun x (run_of (level_of detail) n x) → IsGoodText (ran n detail x).text
  good_run n detail x fit =
      let last = (run_of (level_of detail) n x).last in
      let few = fit.tasks in
      laws (level_of detail) x n fit.start (memory_if detail.memory x.setup last) (record { counted = fit.counted; turns = fit.turns; tasks = omega (arith, few); timers = fit.timers }) fit.notes
      (shown_if detail.memory x.setup last fit.last)

  pub good_text : (n : ℕ) (detail : Detail) (v : Verdict) (r : ℕ) → TellsFit n detail v r → IsOfRun r → IsGoodText v.text
  good_text n detail v r fits told = let f = fits told in subst (λ (u : Verdict). IsGoodText u.text) (sym f.1) (good_run n detail f.0 f.2)
