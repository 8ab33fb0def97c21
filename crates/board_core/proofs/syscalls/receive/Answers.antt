use Rattle.board_core.proofs.syscalls.receive.Goals as goal

pub returns : goal.returns
returns c =
    record {
      stands = λ g t st ready.
          let best = c.best_sender-best.ensures.best g t st in
          rw best at (c.recv.ensures.stands g t st ready best);
      frame = c.recv.ensures.frame;
    }
