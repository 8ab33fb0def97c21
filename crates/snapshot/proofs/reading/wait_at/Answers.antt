use Rattle.std.proofs.Common.{◌+◌, ◌*◌, sym}
use Rattle.snapshot.proofs.Single.{byte_in}
use Rattle.snapshot.proofs.reading.wait_at.Goals as goal

pub returns : goal.returns
returns c = sym (byte_in (100 + 132 * c.args.i) c.args.bytes.now 3)
