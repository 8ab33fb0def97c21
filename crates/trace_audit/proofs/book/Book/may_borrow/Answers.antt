use Rattle.std.proofs.Common.{sym, ◌∙◌, ◌≡◌, Bool, true, false, Option, Some, refl, ℕ, List}
use Rattle.trace_audit.specs.declared.reading.Saying.{Saying}
use Rattle.trace_audit.specs.declared.reading.Saying.TheVariants as saying
use Rattle.trace_audit.specs.Books.{Kept, kept_in, calls_with, open_by, HasHeard, Notes}
use Rattle.trace_audit.proofs.Counting.{count_aside}
use Rattle.trace_audit.proofs.Telling.{told_aside, open_some, open_as, may_borrow, not_borrow_yet, not_borrow, borrows_offers, borrows_takes, borrows_closes}
use Rattle.trace_audit.proofs.Hearing.{none_open}
use Rattle.trace_audit.proofs.book.Book.may_borrow.Goals as goal

pub returns-in-None : goal.returns-in-None
returns-in-None c = λ said h. not_borrow said (calls_with h.clients (kept_in c.args.self.now)) h.told c.args.call (none_open said _ h c.args.call _ refl (sym c.open_call.ensures ∙ c.in-None.is))

by_taken : (said : List Saying) (b : Kept) (k i : ℕ) (taken : Bool) (client : Option ℕ) → HasHeard said b → open_by b.held k client ≡ Some (i, taken) → Notes said (saying.Borrows k) b taken
by_taken said b k i true client h e =
    let x = calls_with h.clients b in (
      may_borrow said x h.told k i (open_as said x h.told k i true (open_some said x h.told k i true client e)),
      record {
        clients = h.clients;
        told = told_aside said x (saying.Borrows k) h.told (λ a b. borrows_offers a b k) (λ a. borrows_takes a k) (λ a b. borrows_closes a b k) refl (count_aside said (saying.Borrows k) x.left (λ j. refl) refl h.told.count);
        offered = h.offered;
        found = h.found;
      },
    )
by_taken said b k i false client h e = let x = calls_with h.clients b in not_borrow_yet said x h.told k i (open_as said x h.told k i false (open_some said x h.told k i false client e))

pub returns-in-Some : goal.returns-in-Some
returns-in-Some c = λ said h. by_taken said _ c.args.call c.in-Some.field-0-0 c.in-Some.taken _ h (sym c.open_call.ensures ∙ c.in-Some.is)
