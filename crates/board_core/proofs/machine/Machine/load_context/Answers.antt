use Rattle.std.proofs.Common.{sym, ◌∙◌}
use Rattle.board_model.specs.Turn.{with_current}
use Rattle.board_model.proofs.TurnChains.{as_current}
use Rattle.board_core.proofs.Loading.{is_loaded, rest_of, loaded_again, loaded_own}
use Rattle.board_core.proofs.machine.Machine.load_context.Goals as goal

pub returns-then-is_loaded_for-clause-holds : goal.returns-then-is_loaded_for-clause-holds
returns-then-is_loaded_for-clause-holds boxes c = λ g t h0 ready.
    let h = is_loaded _ _ g _ _ t (c.is_loaded_for.ensures.loaded c.if-is_loaded_for.true) h0 in
    let rest = rest_of h.saved t _ h.is in
    loaded_again _ g _ _ t c.args.task (sym (c.is_loaded_for.ensures.current c.if-is_loaded_for.true) ∙ h.holds.kernel.current ∙ sym rest.current) h

pub returns-clause-holds : goal.returns-clause-holds
returns-clause-holds boxes c = λ g t h0 ready.
    let saved = c.save_context.ensures.holds g t h0 in
    let h = c.set_current.ensures.holds g t saved.kernel in
    loaded_own _ g record c.save_context.new.self.space { kernel = c.set_current.new.self } _ (with_current c.args.task t) record { kernel = h; devices = saved.devices } (as_current c.args.task c.args.task t.state ready) (c.load.ensures g (with_current c.args.task t) h)
