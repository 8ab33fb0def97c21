use Rattle.std.proofs.Common.{sym, ◌∙◌, arith, refl}
use Rattle.trace_audit.specs.Books.{kept_in, calls_with}
use Rattle.trace_audit.proofs.Telling.{not_free_some, free_none}
use Rattle.trace_audit.proofs.Hearing.{books_offer}
use Rattle.trace_audit.proofs.book.Book.offer.Goals as goal

pub returns-then-contains_key-clause-told : goal.returns-then-contains_key-clause-told
returns-then-contains_key-clause-told c = λ said h.
    not_free_some said (calls_with h.clients (kept_in c.args.self.now)) h.told c.args.call c.args.client (sym c.contains_key.ensures ∙ c.if-contains_key.true)

pub returns-clause-told : goal.returns-clause-told
returns-clause-told c = λ said h.
    let client = c.in_ok-insert.ensures.updates in
    let call = c.in_ok-insert-2.ensures.updates in
    books_offer said _ h _ c.args.call c.args.client (omega (arith, c.if-call-eq0.false, c.if-call-self.false)) (free_none _ (sym c.contains_key.ensures ∙ c.if-contains_key.false)) refl client.2 client.1 call.2 call.1 c.in_ok-insert-2.field-0 c.in_ok-insert-2.ensures.old c.in_ok-insert-2.ensures.len
