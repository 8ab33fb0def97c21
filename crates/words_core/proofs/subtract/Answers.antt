use mir.Syntax.{w32}
use mir.Val.{SFits}
use Rattle.std.proofs.Common.{rules}
use Rattle.std.proofs.lemmas.Int.{to_z-of_z}
use Rattle.words_core.proofs.Differences.{difference_is}
use Rattle.words_core.proofs.subtract.Goals as goal

pub returns : goal.returns
returns c =
    let fx : SFits w32 c.cast_signed.result = search rules in
    let fy : SFits w32 c.cast_signed-2.result = search rules in
    rw (to_z-of_z w32 c.cast_signed.result fx, to_z-of_z w32 c.cast_signed-2.result fy, c.cast_signed.ensures, c.cast_signed-2.ensures) (difference_is c.args.x c.args.y c.ranges.x.fits c.ranges.y.fits)
