use Rattle.std.proofs.Common.{sym, ◌∙◌, ap, Some, refl, false, true}
use Rattle.trace_audit.specs.Books.{kept_in, calls_with}
use Rattle.trace_audit.proofs.Telling.{open_some, open_as, not_take, taken_before}
use Rattle.trace_audit.proofs.Hearing.{none_open, books_take}
use Rattle.trace_audit.proofs.book.Book.take.Goals as goal

pub returns-in-None-clause-told : goal.returns-in-None-clause-told
returns-in-None-clause-told c = λ said h. not_take said (calls_with h.clients (kept_in c.args.self.now)) h.told c.args.call (none_open said _ h c.args.call _ refl (sym c.open_call.ensures ∙ c.in-None.is))

pub returns-then-taken-clause-told : goal.returns-then-taken-clause-told
returns-then-taken-clause-told c = λ said h.
    let x = calls_with h.clients (kept_in c.args.self.now) in
    taken_before said x h.told c.args.call c.in-Some.client (open_as said x h.told c.args.call c.in-Some.client true (open_some said x h.told c.args.call c.in-Some.client true _ (sym c.open_call.ensures ∙ c.in-Some.is ∙ ap (λ t. Some (c.in-Some.client, t)) c.if-taken.true)))

pub returns-in_ok-insert-in-Some-clause-told : goal.returns-in_ok-insert-in-Some-clause-told
returns-in_ok-insert-in-Some-clause-told c = λ said h.
    let r = c.in_ok-insert-in-Some in
    let u = r.ensures.updates in
    books_take said _ h _ c.args.call c.in-Some.client (open_some said (calls_with h.clients (kept_in c.args.self.now)) h.told c.args.call c.in-Some.client false _ (sym c.open_call.ensures ∙ c.in-Some.is ∙ ap (λ t. Some (c.in-Some.client, t)) c.if-taken.false)) refl (λ q. refl) u.2 u.1 r.field-0 r.ensures.old r.ensures.len
