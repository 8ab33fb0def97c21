use Rattle.std.proofs.Common.{◌∙◌, ℕ, List, ap, sym, subst}
use Rattle.outside_io.specs.Outside.{Pushes}
use Rattle.board_core.specs.Data.{boxed}
use Rattle.debug_core.specs.declared.command.Command.{Command}
use Rattle.debug_core.specs.Answers.{text_of, told}
use Rattle.debug_core.specs.Session.{after}
use Rattle.debug_core.specs.Sessions.{IsSession}
use Rattle.debug_core.proofs.Carried.{told_answer}
use Rattle.debug_core.proofs.debugger.Debugger.push_told.Goals as goal

pub returns-in-Notes-clause-told : goal.returns-in-Notes-clause-told
returns-in-Notes-clause-told boxes c = λ x s h.
    subst (λ (k : Command). Pushes (boxes.S.Sink.seen c.args.out.now).written (boxes.S.Sink.seen c.push_notes.new.out).written (told x s k) c.push_notes.result) (sym c.in-Notes.is) (c.push_notes.ensures.told x s h)

pub returns-in-Notes-clause-session : goal.returns-in-Notes-clause-session
returns-in-Notes-clause-session boxes c = λ x s h.
    let shown = boxed (λ p. (goal.Device-dyn boxes p).shown p.1) in
    subst (λ (k : Command). IsSession shown x c.push_notes.new.self (after x s k)) (sym c.in-Notes.is) (c.push_notes.ensures.session x s h)

pub returns-clause-told : goal.returns-clause-told
returns-clause-told boxes c = λ x s h.
    let told_is = c.carry_out-answer.ensures.answer x s h in
    subst (λ (text : List ℕ). Pushes (boxes.S.Sink.seen c.args.out.now).written (boxes.S.Sink.seen c.push_answer.new.out).written text c.push_answer.result)
    (ap text_of told_is ∙ sym (told_answer x s c.args.command.now c.in_default.not-Notes)) c.push_answer.ensures.bytes

pub returns-clause-session : goal.returns-clause-session
returns-clause-session boxes c = λ x s h. c.carry_out-answer.ensures.session x s h

pub returns-clause-cause : goal.returns-clause-cause
returns-clause-cause boxes c = c.push_answer.ensures.cause
