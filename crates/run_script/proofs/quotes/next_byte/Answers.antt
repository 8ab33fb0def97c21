use Rattle.std.proofs.Common.{◌≡◌, arith, false, Some}
use Rattle.run_script.specs.Quotes.{bytes_to_quote, with_byte}
use Rattle.run_script.proofs.Quoting.{behind_backslash, if_none, if_some, none_behind_backslash, nothing_is_closed, other_at, quote_at}
use Rattle.run_script.proofs.quotes.next_byte.Goals as goal

pub returns-then-is_empty-clause-none : goal.returns-then-is_empty-clause-none
returns-then-is_empty-clause-none c = nothing_is_closed c.args.text.now (grind arith)

pub returns-then-text-eq34-clause-none : goal.returns-then-text-eq34-clause-none
returns-then-text-eq34-clause-none c = quote_at c.args.text.now (grind arith) c.if-text-eq34.true

pub returns-then-text-eq92-clause-byte : goal.returns-then-text-eq92-clause-byte
returns-then-text-eq92-clause-byte c =
    if_some c.escaped_byte.result _ (λ r. bytes_to_quote false c.args.text.now ≡ with_byte (Some r.0) (bytes_to_quote false r.1.now))
    (λ r h. behind_backslash c.args.text.now r.0 (bytes_to_quote false r.1.now) (grind arith) c.if-text-eq92.true h) c.escaped_byte.ensures.byte

pub returns-then-text-eq92-clause-none : goal.returns-then-text-eq92-clause-none
returns-then-text-eq92-clause-none c = if_none c.escaped_byte.result (λ h. none_behind_backslash c.args.text.now (grind arith) c.if-text-eq92.true h) c.escaped_byte.ensures.none

pub returns-else-text-eq92-clause-byte : goal.returns-else-text-eq92-clause-byte
returns-else-text-eq92-clause-byte c = other_at c.args.text.now (grind arith) c.if-text-eq34.false c.if-text-eq92.false
