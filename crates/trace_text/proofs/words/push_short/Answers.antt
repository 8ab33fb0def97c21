use Rattle.std.proofs.lemmas.Fmt.{decimal_digit}
use Rattle.itoa.proofs.Decimal.{decimal_two}
use Rattle.trace_text.proofs.words.push_short.Goals as goal

pub returns-then-n-lt10-clause-bytes : goal.returns-then-n-lt10-clause-bytes
returns-then-n-lt10-clause-bytes c = rw (decimal_digit c.args.n c.if-n-lt10.true) c.push_ascii.ensures.bytes

pub returns-else-n-lt10-clause-bytes : goal.returns-else-n-lt10-clause-bytes
returns-else-n-lt10-clause-bytes c = rw (decimal_two c.args.n c.if-n-lt10.false c.requires.short) c.push_two.ensures.bytes
