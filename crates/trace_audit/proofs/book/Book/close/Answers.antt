use Rattle.std.proofs.Common.{sym, ◌∙◌, refl}
use Rattle.trace_audit.specs.Books.{kept_in, calls_with}
use Rattle.trace_audit.proofs.Telling.{open_some, not_close, true_false}
use Rattle.trace_audit.proofs.Hearing.{none_open, books_close}
use Rattle.trace_audit.proofs.book.Book.close.Goals as goal
use Rattle.trace_audit.proofs.book.Book.close.Goals.{else-answer-via-then-answer+else-not-taken, else-answer-via-else-answer}

pub returns-in-None-clause-told : goal.returns-in-None-clause-told
returns-in-None-clause-told c = λ said h. not_close said (calls_with h.clients (kept_in c.args.self.now)) h.told c.args.call c.args.answer (none_open said _ h c.args.call _ refl (sym c.open_call.ensures ∙ c.in-None.is))

pub returns-else-answer-clause-told : goal.returns-else-answer-clause-told
returns-else-answer-clause-told c = λ said h.
    let u = c.remove-in-Some.ensures.updates in
    books_close said _ h _ c.args.call c.in-Some.client c.in-Some.taken c.args.answer (elim c.else-answer.branch [ else-answer-via-then-answer+else-not-taken w ↦ λ e. w.if-not-taken.false | else-answer-via-else-answer w ↦ λ e. true_false (sym e ∙ w.if-answer.false) ]) (open_some said (calls_with h.clients (kept_in c.args.self.now)) h.told c.args.call c.in-Some.client c.in-Some.taken _ (sym c.open_call.ensures ∙ c.in-Some.is)) refl c.remove.ensures.updates.2 u.2 u.1 c.remove-in-Some.result c.remove-in-Some.ensures.value c.remove-in-Some.ensures.len
