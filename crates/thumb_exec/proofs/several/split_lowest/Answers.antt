use Rattle.std.specs.Int.{w16, trailing_zeros}
use Rattle.std.proofs.lemmas.Nat.Bits.{bit_at-trailing_zeros}
use Rattle.thumb_exec.proofs.Lowest.{lowest_first}
use Rattle.thumb_exec.proofs.several.split_lowest.Goals as goal

pub returns-clause-first : goal.returns-clause-first
returns-clause-first c at =
    let mask = c.args.mask in
    let lowest = bit_at-trailing_zeros w16 mask c.requires c.ranges.mask.fits in
    lowest_first mask (trailing_zeros w16 mask) at lowest.0 lowest.1 lowest.2
