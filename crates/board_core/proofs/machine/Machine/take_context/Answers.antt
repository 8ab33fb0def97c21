use Rattle.board_core.proofs.Loading.{is_loaded, context_own, context_loaded, unloaded_by}
use Rattle.board_core.proofs.machine.Machine.take_context.Goals as goal

pub returns-then-not-is_loaded_for-clause-holds : goal.returns-then-not-is_loaded_for-clause-holds
returns-then-not-is_loaded_for-clause-holds boxes c = λ g t h. unloaded_by _ _ g _ _ t c.save_context.ensures.unloaded (c.save_context.ensures.holds g t h)

pub returns-then-not-is_loaded_for-clause-taken : goal.returns-then-not-is_loaded_for-clause-taken
returns-then-not-is_loaded_for-clause-taken boxes c = λ g t h inside ready.
    let saved = c.save_context.ensures.holds g t h in
    context_own _ g _ c.args.task t saved ready (c.load.ensures g t saved.kernel)

pub returns-else-not-is_loaded_for-clause-taken : goal.returns-else-not-is_loaded_for-clause-taken
returns-else-not-is_loaded_for-clause-taken boxes c = λ g t h inside ready.
    context_loaded _ g _ c.args.task t (is_loaded _ _ g _ _ t (c.is_loaded_for.ensures.loaded c.if-not-is_loaded_for.false) h) (c.is_loaded_for.ensures.current c.if-not-is_loaded_for.false)
