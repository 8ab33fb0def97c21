use Rattle.std.proofs.Common.{◌∙◌, ◌+◌, ◌*◌, sym}
use Rattle.snapshot.proofs.Single.{num_in}
use Rattle.snapshot.proofs.reading.second_word.Goals as goal

pub returns : goal.returns
returns c = c.u32_at.ensures ∙ sym (num_in (100 + 132 * c.args.i) c.args.bytes.now 104)
