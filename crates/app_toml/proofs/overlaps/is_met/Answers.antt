use Rattle.std.proofs.Common.{refl, sym}
use Rattle.std.specs.BTreeMap.{get}
use Rattle.std.specs.Ordering.{nat_cmp}
use Rattle.app_toml.specs.Sites.{device_of}
use Rattle.app_toml.proofs.Spreading.{last_decides, none_below}
use Rattle.app_toml.proofs.overlaps.is_met.Goals as goal

pub returns-in-Some : goal.returns-in-Some
returns-in-Some c = λ kept has spread.
    rw (c.from.ensures, c.from-in-Some.ensures, c.from-in-Some-2.ensures)
    (last_decides (get nat_cmp c.args.bases.now) (device_of c.args.device.now) kept c.in-Some.base c.in-Some.size has spread
    c.in-Some.ensures.there.1 c.in-Some.ensures.there.0 c.in-Some.ensures.last)

pub returns-in-None : goal.returns-in-None
returns-in-None c = λ kept has spread.
    sym (none_below (get nat_cmp c.args.bases.now) (device_of c.args.device.now) kept has (c.in-None.ensures.none refl))
