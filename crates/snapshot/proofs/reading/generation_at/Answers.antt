use Rattle.std.proofs.Common.{◌≡◌, ◌∙◌, ◌+◌, ◌*◌, get_or, arith, ap, sym}
use Rattle.snapshot.proofs.Single.{byte_in}
use Rattle.snapshot.proofs.reading.generation_at.Goals as goal

pub returns : goal.returns
returns c =
    let place : 100 + 132 * c.args.i ≡ 100 + 132 * c.args.i + 0 = omega arith in
    ap (λ k. get_or c.args.bytes.now k 0) place ∙ sym (byte_in (100 + 132 * c.args.i) c.args.bytes.now 0)
