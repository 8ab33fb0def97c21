use Rattle.std.proofs.Common.{refl}
use Rattle.board_core.proofs.Loading.{is_loaded, written_back}
use Rattle.board_core.proofs.machine.Machine.save_context.Goals as goal

pub returns-then-self-clause-holds : goal.returns-then-self-clause-holds
returns-then-self-clause-holds boxes c = λ g t h0.
    let h = is_loaded _ _ g _ _ t c.if-self.true h0 in
    let task = c.current-task.ensures.holds g h.saved h.holds.kernel in
    written_back _ g c.args.self.now.space record c.args.self.now.space { kernel = c.set_processor.new.self } c.args.self.now.glider.runner.processor h.saved t _ _ _ task c.words.ensures c.told.ensures h.is refl h.holds (c.set_processor.ensures.holds g h.saved h.holds.kernel)
