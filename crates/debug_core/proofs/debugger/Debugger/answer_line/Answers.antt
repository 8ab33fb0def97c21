use Rattle.std.proofs.Common.{◌≡◌, ◌∙◌, List, ℕ, Option, Ok, Some, ap, sym, subst}
use Rattle.outside_io.specs.Outside.{Pushes}
use Rattle.outside_io.proofs.Pushing.{appends_none}
use Rattle.std.specs.Io.KnownBytes.{Appends}
use Rattle.board_core.specs.Data.{boxed}
use Rattle.debug_core.specs.declared.command.Command.{Command}
use Rattle.debug_core.specs.Lines.{Said}
use Rattle.debug_core.specs.Live.{after_line, line_told}
use Rattle.debug_core.specs.Sessions.{IsSession}
use Rattle.debug_core.specs.Session.{Session}
use Rattle.debug_core.proofs.Over.{going_after, going_refused, going_told, over_after, over_told}
use Rattle.debug_core.proofs.debugger.Debugger.answer_line.Goals as goal

pub returns-then-self-clause-told : goal.returns-then-self-clause-told
returns-then-self-clause-told g c = λ x s h.
    let w = (g.S.Sink.seen c.args.out.now).written in
    subst (λ (t : List ℕ). Appends w w t) (sym (over_told x s c.args.said (sym h.over ∙ c.if-self.true))) (appends_none w)

pub returns-then-self-clause-session : goal.returns-then-self-clause-session
returns-then-self-clause-session g c = λ x s h.
    let shown = boxed (λ p. (goal.Device-dyn g p).shown p.1) in
    subst (λ (next : Session). IsSession shown x c.args.self.now next) (sym (over_after x s c.args.said (sym h.over ∙ c.if-self.true))) h

pub returns-in-Err-clause-told : goal.returns-in-Err-clause-told
returns-in-Err-clause-told g c = λ x s h.
    let going = sym h.over ∙ c.if-self.false in
    subst (λ (t : List ℕ). Pushes (g.S.Sink.seen c.args.out.now).written (g.S.Sink.seen c.refuse.new.out).written t c.refuse.result)
    (going_refused x s c.in-Err.cause going ∙ ap {A = Said} (line_told x s) (sym c.in-Err.is)) c.refuse.ensures.told

pub returns-in-Ok-Some-clause-told : goal.returns-in-Ok-Some-clause-told
returns-in-Ok-Some-clause-told g c = λ x s h.
    let going = sym h.over ∙ c.if-self.false in
    let is : ◌≡◌ {A = Said} c.args.said (Ok (Some c.in-Ok-Some.command)) =
    c.in-Ok-Some.is ∙ ap {B = Said} (λ (o : Option Command). Ok o) (rw c.in-Ok-Some.is at c.in-Ok-Some.field-0-is) in
    subst (λ (t : List ℕ). Pushes (g.S.Sink.seen c.args.out.now).written (g.S.Sink.seen c.command.new.out).written t c.command.result)
    (going_told x s c.in-Ok-Some.command going ∙ ap {A = Said} (line_told x s) (sym is)) (c.command.ensures.told x s h)

pub returns-in-Ok-Some-clause-session : goal.returns-in-Ok-Some-clause-session
returns-in-Ok-Some-clause-session g c = λ x s h.
    let shown = boxed (λ p. (goal.Device-dyn g p).shown p.1) in
    let going = sym h.over ∙ c.if-self.false in
    let is : ◌≡◌ {A = Said} c.args.said (Ok (Some c.in-Ok-Some.command)) =
    c.in-Ok-Some.is ∙ ap {B = Said} (λ (o : Option Command). Ok o) (rw c.in-Ok-Some.is at c.in-Ok-Some.field-0-is) in
    subst (λ (next : Session). IsSession shown x c.command.new.self next)
    (going_after x s c.in-Ok-Some.command going ∙ ap {A = Said} (after_line x s) (sym is)) (c.command.ensures.session x s h)
