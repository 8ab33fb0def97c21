use Rattle.std.proofs.Common.{arith}
use Rattle.std.proofs.lemmas.Fmt.{decimal_digit}
use Rattle.thumb_insn.proofs.text.push_one.Goals as goal

pub returns-clause-bytes : goal.returns-clause-bytes
returns-clause-bytes c = rw (decimal_digit c.args.n c.requires.one) (c.push.ensures.ascii (omega (arith, c.requires.one)))
