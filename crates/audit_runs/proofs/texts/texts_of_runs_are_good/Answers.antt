use Rattle.std.proofs.Common.{ℕ, List, ◌++◌, subst, arith}
use Rattle.task_table.specs.model.State.{Setup}
use Rattle.task_table.specs.model.Sane.{Sane}
use Rattle.trace_text.specs.Fit.{AreFit}
use Rattle.trace_audit.specs.Rules.{IsGood}
use Rattle.trace_audit.specs.Texts.{lines_of}
use Rattle.trace_audit.specs.Judgements.{HasNoCause, read_lines}
use Rattle.board_model.specs.Run.{Run, run}
use Rattle.board_model.specs.Script.{start_of}
use Rattle.board_model.specs.Lifetimes.{notes_in}
use Rattle.board_run.specs.Text.{trace_text}
use Rattle.audit_laws.specs.Whole.{AreInOrder, AreRight}
use Rattle.audit_runs.specs.Spoken.{IsSpoken}
use Rattle.audit_runs.specs.Last.{IsFitLast, IsShown, IsGoodText}
use Rattle.audit_runs.proofs.Right.{run_right}
use Rattle.board_model.proofs.RunKeeps.{sane_run}
use Rattle.audit_runs.proofs.Running.{run_spoken, run_in_order}
use Rattle.audit_runs.proofs.Telling.{run_good, run_fine}
use Rattle.audit_runs.proofs.texts.texts_of_runs_are_good.Goals as goal

text_of : (g : Setup) (r : Run) (more : List ℕ) → Sane g r.last → IsFitLast r.last → IsShown more → AreInOrder 0 r.notes → AreFit r.notes → AreRight r.notes → IsSpoken (notes_in r.notes) r.last → IsGoodText (trace_text r ++ more)
text_of g r more sane last shown order fit right spoken = record {
  good = subst (λ m. IsGood (read_lines (trace_text r ++ m))) shown.whole (run_good g r shown.texts sane last shown.each order fit right spoken);
  fine = subst (λ m. HasNoCause (lines_of (trace_text r ++ m))) shown.whole (run_fine g r shown.texts sane last shown.each order fit right);
}

pub returns-clause-any : goal.returns-clause-any
returns-clause-any c = text_of

pub returns-clause-runs : goal.returns-clause-runs
returns-clause-runs c = λ level x n sane more last fit shown. text_of x.setup (run level x n (start_of x)) more (sane_run level x n (start_of x) sane) last shown (run_in_order level x n 0 (start_of x) sane (omega arith)) fit (run_right level x n (start_of x) sane) (run_spoken level x n sane)
