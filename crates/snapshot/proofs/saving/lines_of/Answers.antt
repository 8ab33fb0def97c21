use Rattle.std.proofs.Common.{◌≢◌, ◌∙◌, ◌<◌, length, ap, arith, below_more, get_or-set_other, get_or-set_same}
use Rattle.std.proofs.Math.ListN.{length-set}
use Rattle.std.proofs.lemmas.List.FromFn.{fill_by_all}
use Rattle.task_table.specs.model.Reading.{line_at}
use Rattle.board_model.specs.Alike.{reduced}
use Rattle.snapshot.specs.Saved.{line_number}
use Rattle.snapshot.specs.Shown.{line_shown}
use Rattle.snapshot.proofs.Viewed.{line_viewed}
use Rattle.snapshot.proofs.saving.lines_of.Goals as goal

pub loop-k-preserved : goal.loop-k-preserved
loop-k-preserved g c =
    let k = c.loop-k.k in
    let lt : k < length c.loop-k.lines = omega arith in
    record {
      long = simp length-set c.loop-k.invariant.long;
      filled = λ x s st. below_more _ _
          (λ j h. let ne : j ≢ k = omega arith in rw get_or-set_other (c.loop-k.invariant.filled x s st j h))
          (rw get_or-set_same (c.line_number.ensures ∙ ap line_shown (c.irq_line.ensures x s st) ∙ line_viewed s k));
    }

pub returns : goal.returns
returns g c = λ x s st. fill_by_all (λ k. line_number (line_at (reduced s) k)) c.loop-k.lines 64 0 c.loop-k.invariant.long (λ k lt. c.loop-k.invariant.filled x s st k (omega (arith, c.loop-k-test.false)))
