use Rattle.std.proofs.Common.{◌∙◌, List, ℕ, ap, subst}
use Rattle.outside_io.specs.Outside.{Pushes}
use Rattle.board_core.specs.Data.{boxed}
use Rattle.debug_core.specs.Live.{after_line, line_told}
use Rattle.debug_core.specs.Sessions.{IsSession}
use Rattle.debug_core.proofs.Telling.{after_one, told_one}
use Rattle.debug_core.proofs.debugger.Debugger.take_line.Goals as goal

pub returns-clause-told : goal.returns-clause-told
returns-clause-told g c = λ x s bytes h.
    subst (λ (t : List ℕ). Pushes (g.S.Sink.seen c.args.out.now).written (g.S.Sink.seen c.answer_line.new.out).written t c.answer_line.result)
    (ap (line_told x s) (c.said-said.ensures.said bytes h.begun h.one) ∙ told_one x s bytes h.one) (c.answer_line.ensures.told x s h.at)

pub returns-clause-session : goal.returns-clause-session
returns-clause-session g c = λ x s bytes h.
    let shown = boxed (λ p. (goal.Device-dyn g p).shown p.1) in
    subst (IsSession shown x c.answer_line.new.self) (ap (after_line x s) (c.said-said.ensures.said bytes h.begun h.one) ∙ after_one x s bytes h.one) (c.answer_line.ensures.session x s h.at)
