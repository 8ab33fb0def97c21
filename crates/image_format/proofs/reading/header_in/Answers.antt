use Rattle.std.proofs.Common.{arith, subst, sym}
use Rattle.image_format.proofs.Again.{IsPlain}
use Rattle.image_format.proofs.Limits.{plain_header, short_total}
use Rattle.image_format.proofs.reading.header_in.Goals as goal

pub sized-requires : goal.sized-requires
sized-requires c =
    let h = c.header_at-header.result in
    let plain : IsPlain h = subst IsPlain (sym c.header_at-header.ensures) (plain_header c.args.form c.args.bytes.now) in
    omega (arith, short_total h (sym c.in-None.ensures) (λ f. (plain f).1))
