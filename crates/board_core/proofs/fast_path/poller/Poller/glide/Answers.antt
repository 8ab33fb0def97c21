use Rattle.std.proofs.Common.{sym, ◌∙◌, arith}
use Rattle.thumb_step.specs.Windows.{view_of}
use Rattle.board_core.proofs.fast.Polled.{none_told}
use Rattle.board_core.proofs.fast_path.poller.Poller.glide.Goals as goal
use Rattle.board_core.proofs.fast_path.poller.Poller.glide.Goals.{then-made-most, else-made-most}

pub returns-clause-tells : goal.returns-clause-tells
returns-clause-tells boxes c =
    elim c.if-made-most.branch [
      | then-made-most w ↦ record {
        short = λ e. w.if-made-most.true;
        calling = λ e. w.is_at_syscall-self.ensures.fetched (sym w.self-is ∙ e);
        told = λ apart lt. w.self-is ∙ w.is_at_syscall-self.ensures.is;
      }
      | else-made-most w ↦ none_told c.args.self.now.most c.run-made.result (view_of c.args.self.now.seen.window) (view_of c.run-made.new.self.seen.window) c.run-made.new.self.processor c.if-made-most.self w.self-is (λ lt. omega (arith, lt, w.if-made-most.false))
    ]
