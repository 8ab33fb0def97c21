use Rattle.board_model.proofs.SaneReduced.{sane-reduced}
use Rattle.board_model.proofs.Views.{reduced-turn}
use Rattle.board_model.proofs.AlikeRuns.{reduced-run}
use Rattle.board_model.proofs.two_runs.generations_decide.Goals as goal

pub returns : goal.returns
returns c = record {
  sane = sane-reduced;
  notes = λ level x s sane. (reduced-turn level x s sane).notes;
  state = λ level x s sane. (reduced-turn level x s sane).state;
  run_notes = λ level x n s sane. (reduced-run level x n s sane).notes;
  last = λ level x n s sane. (reduced-run level x n s sane).last;
  end = λ level x n s sane. (reduced-run level x n s sane).end;
}
