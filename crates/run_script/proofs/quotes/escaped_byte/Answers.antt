use Rattle.std.proofs.Common.{arith, ◌∙◌, sym, true}
use Rattle.run_script.proofs.Quoting.{escaped_at, escaped_none, none_of_nothing}
use Rattle.run_script.proofs.quotes.escaped_byte.Goals as goal

pub returns-then-is_empty-clause-none : goal.returns-then-is_empty-clause-none
returns-then-is_empty-clause-none c = none_of_nothing true c.args.text.now (grind arith)

pub returns-in-None-clause-none : goal.returns-in-None-clause-none
returns-in-None-clause-none c = escaped_none c.args.text.now (grind arith) (sym c.unescaped.ensures ∙ c.in-None.is)

pub returns-in-Some-clause-byte : goal.returns-in-Some-clause-byte
returns-in-Some-clause-byte c = escaped_at c.args.text.now c.in-Some.byte (grind arith) (sym c.unescaped.ensures ∙ c.in-Some.is)
