use Rattle.std.proofs.Common.{arith, refl}
use Rattle.thumb_insn.specs.Table.{narrow_of}
use Rattle.thumb_decode.proofs.Coded.{narrow_gives_coded}
use Rattle.thumb_decode.proofs.decode_narrow.Goals as goal

pub returns-clause-coded : goal.returns-clause-coded
returns-clause-coded c = rw (c.narrow_to.ensures.narrow (omega arith)) (narrow_gives_coded c.args.first (narrow_of c.args.first) refl (omega arith))
