use Rattle.std.proofs.Common.{◌∙◌, ap}
use Rattle.board_model.specs.Run.{Run}
use Rattle.board_model.specs.Alike.{reduced}
use Rattle.board_model.proofs.AlikeRuns.{reduced-run}
use Rattle.board_model.specs.Cut.{cut_at, left_of}
use Rattle.board_model.proofs.RunCuts.{cut, sane-cut, reached, rest_of_run}
use Rattle.board_model.proofs.cuts.runs_go_on_from_a_cut.Goals as goal

pub returns : goal.returns
returns c = record {
  whole = cut;
  rest = rest_of_run;
  reached = reached;
  sane = sane-cut;
  notes = λ level before x n m s h le. let u = cut_at before x n s in (reduced-run level x (left_of m s u) u (sane-cut before x n s h)).notes ∙ ap (λ (r : Run). r.notes) (rest_of_run level before x n m s h le);
  end = λ level before x n m s h le. let u = cut_at before x n s in (reduced-run level x (left_of m s u) u (sane-cut before x n s h)).end ∙ ap (λ (r : Run). r.end) (rest_of_run level before x n m s h le);
  last = λ level before x n m s h le. let u = cut_at before x n s in (reduced-run level x (left_of m s u) u (sane-cut before x n s h)).last ∙ ap (λ (r : Run). reduced r.last) (rest_of_run level before x n m s h le);
}
