use Rattle.std.proofs.Common.{◌≡◌, option_map, ◌||◌, nat_eq}
use Rattle.std.specs.List.{list_any}
use Rattle.thumb_asm.specs.Cuts.{left_length}
use Rattle.thumb_asm.specs.Sizes.{is_in}
use Rattle.thumb_asm.specs.Kinds.{ranges_in, ranges_left}
use Rattle.thumb_asm.proofs.lists.is_named.Given as goal

abbrev pub invariant-each : goal.invariant-each
invariant-each l = list_any (λ range. is_in range l.r || nat_eq l.r range.0 || nat_eq l.r range.1) (ranges_in l.text) ≡ list_any (λ range. is_in range l.r || nat_eq l.r range.0 || nat_eq l.r range.1) (ranges_left (option_map (λ r. r.now) l.ranges.rest))

abbrev pub decreases-each : goal.decreases-each
decreases-each l = left_length (option_map (λ r. r.now) l.ranges.rest)
