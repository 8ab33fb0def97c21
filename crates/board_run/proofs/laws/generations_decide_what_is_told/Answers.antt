use Rattle.board_model.specs.Alike.{reduced}
use Rattle.board_model.specs.Run.{run}
use Rattle.board_model.proofs.AlikeRuns.{reduced-run}
use Rattle.board_run.proofs.GenerationsTold.{end_reduced, memory_reduced, text_alike, memory_alike}
use Rattle.board_run.proofs.laws.generations_decide_what_is_told.Goals as goal

pub returns : goal.returns
returns c = record {
  end = end_reduced;
  memory = memory_reduced;
  text = λ level x n s sane. let same = reduced-run level x n s sane in text_alike (run level x n (reduced s)) (run level x n s) same.end same.last same.notes;
  last = λ level x n s sane. let same = reduced-run level x n s sane in memory_alike (run level x n (reduced s)) (run level x n s) same.end same.last x.setup;
}
