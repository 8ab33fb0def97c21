use Rattle.std.proofs.Common.{arith, sym, ap, ◌∙◌}
use Rattle.thumb_insn.specs.Table.{wide_of}
use Rattle.thumb_decode.proofs.Coded.{wide_coded}
use Rattle.thumb_decode.proofs.decode_wide.Goals as goal

pub returns-in-Some-clause-coded : goal.returns-in-Some-clause-coded
returns-in-Some-clause-coded c = wide_coded c.args.first c.args.second c.in-Some.insn (ap wide_of (sym c.joined.ensures) ∙ sym c.in-Some.ensures) (omega arith) (omega arith)
